-- A delta that is taken in by what it touches.
use Rattle.std.specs.Prelude.{◌≡◌, ◌+◌, ◌≤◌, ◌<◌, ◌↔◌, Bool, true, false, IsTrue, List, [], map, length, Option, refl}
use Rattle.std.proofs.Common.{sym, ap, ◌∙◌, subst}
use Rattle.std.specs.List.Sorted.{IsStrictlySortedBy}
use mathlib.Core.Logic.{inr}
use mathlib.Core.Bool.{true≢false}
use Rattle.sup_specs.specs.Values.{Bytes, text_cmp}
use Rattle.sup_specs.specs.declared.limits.TheConstants.{MAX}
use Rattle.sup_tables.specs.States.{State}
use Rattle.sup_tables.specs.Readers.{eligible}
use Rattle.sup_tables.specs.Joined.{join_states}
use Rattle.sup_tables.specs.Planned.{IsPlanFor, AreTouched, MembersDiffer}
use Rattle.sup_tables.specs.declared.planning.PlannedTables.{PlannedTables}
use Rattle.sup_placement.specs.Place.{Weigher}
use Rattle.sup_local_sup.specs.declared.effect.Effect.{Effect}
use Rattle.sup_local_sup.specs.declared.change.Change.{Change}
use Rattle.sup_local_sup.specs.declared.leaving.Leaving.{Leaving}
use Rattle.sup_local_sup.specs.declared.leaving.Leaving.TheVariants.{Nobody, Finished, GaveUp}
use Rattle.sup_local_sup.specs.Keeping.{KeptChild, newly}
use Rattle.sup_local_sup.specs.Changing.{Planned, IsReplaced, news, left_of, leaving_of, carried}
use Rattle.sup_local_sup.specs.Planning.{kept_of_leaving, leaving_after, leaving_effects}
use Rattle.sup_local_sup.proofs.ReplacedLaws.{newly_replaced}
use Rattle.sup_replica.specs.declared.refusal.Refusal.TheVariants.{CountSpent}
use Rattle.sup_replica.specs.Nodes.{Node}
use Rattle.sup_node.specs.declared.change.Intake.TheVariants.{Touched}
use Rattle.sup_node.specs.Changes.{IsIntake, IsNoIntake, wanted_with}
use Rattle.sup_node.specs.Placed.{keeps_placed, change_of, ListsLeaving, ended_of}
use Rattle.sup_node.proofs.TouchLaws.{is_replaced, reached, leaving_back, eligible_stable}

-- who leaves is kept no longer
left_then : (kept : List KeptChild) (ids : List Bytes) (leaving : Leaving) → ListsLeaving ids leaving → kept_of_leaving kept leaving ≡ left_of kept (ended_of leaving)
left_then kept ids Nobody h = refl
left_then kept ids (Finished id) h = refl
left_then kept ids (GaveUp id) h = absurd h

module _ (g : Weigher) (n : Node State) (leaving : Leaving) (delta : State) (ids : List Bytes) (reaches : ListsLeaving ids leaving) (ended : Option Bytes) (ee : ended ≡ ended_of leaving) where
  abbrev joined : State
  joined = join_states n.known delta

  replaced : (hosts : List Bytes) (changes : List Change) → IsStrictlySortedBy text_cmp ids → AreTouched ids n.known joined → ¬ MembersDiffer n.known joined → hosts ≡ eligible n.known.rows
      → changes ≡ map (change_of g n.name hosts joined.rows) ids → keeps_placed g n ≡ true → IsReplaced (left_of n.supervisor.kept ended) changes (wanted_with g n delta)
  replaced hosts changes rise exact same he ce keeps =
      let alike : eligible joined.rows ≡ eligible n.known.rows = eligible_stable joined.rows n.known.rows same in
      let is : changes ≡ map (change_of g n.name (eligible joined.rows) joined.rows) ids = ce ∙ ap (λ (hs : List Bytes). map (change_of g n.name hs joined.rows) ids) (he ∙ sym alike) in
      subst (λ (o : Option Bytes). IsReplaced (left_of n.supervisor.kept o) changes (wanted_with g n delta)) (sym ee)
      (subst (λ (cs : List Change). IsReplaced (left_of n.supervisor.kept (ended_of leaving)) cs (wanted_with g n delta)) (sym is)
      (is_replaced g n.name n.known joined ids rise exact alike n.supervisor.kept keeps (ended_of leaving) (reached ids leaving reaches)))

  -- the same by a plan, where the changes are told of the node as it is seen
  pub replaced_seen : (m : Node State) → n ≡ m → (plan : PlannedTables) → IsPlanFor plan n.known joined → IsStrictlySortedBy text_cmp ids → AreTouched ids n.known joined
      → (differ : Bool) → (IsTrue differ ↔ MembersDiffer n.known joined) → differ ≡ false → (hosts lent : List Bytes) → hosts ≡ eligible n.known.rows → lent ≡ ids
      → (changes : List Change) → ((new : State) → IsPlanFor plan m.known new → changes ≡ map (change_of g m.name hosts new.rows) lent) → keeps_placed g m ≡ true
      → IsReplaced (left_of n.supervisor.kept ended) changes (wanted_with g n delta)
  replaced_seen m e plan p rise exact differ members none hosts lent he le changes says keeps =
      let told : (new : State) → IsPlanFor plan n.known new → changes ≡ map (change_of g n.name hosts new.rows) lent =
      subst (λ (k : Node State). (new : State) → IsPlanFor plan k.known new → changes ≡ map (change_of g k.name hosts new.rows) lent) (sym e) says in
      replaced hosts changes rise exact (λ d. true≢false (sym (members.1 d) ∙ none)) he (told joined p ∙ ap (map (change_of g n.name hosts joined.rows)) le)
      (subst (λ (k : Node State). keeps_placed g k ≡ true) (sym e) keeps)

  back : leaving_of ended ≡ leaving
  back = ap leaving_of ee ∙ leaving_back ids leaving reaches

  pub touched_is : (plan : PlannedTables) (whole kept : Planned) (effects : List Effect) → IsPlanFor plan n.known joined
      → carried n.supervisor whole ≡ leaving_after n.supervisor (leaving_of ended) (wanted_with g n delta) → whole.effects ≡ leaving_effects n.supervisor (leaving_of ended) (wanted_with g n delta)
      → kept ≡ record whole { effects = [] } → effects ≡ whole.effects → n.supervisor.given + length whole.fresh ≤ MAX → IsIntake g n leaving delta (Touched plan kept) effects
  touched_is plan whole kept effects p becomes told ke fe within = record {
    makes = p;
    kept = ap (carried n.supervisor) ke ∙ becomes ∙ ap (λ (l : Leaving). leaving_after n.supervisor l (wanted_with g n delta)) back;
    told = fe ∙ told ∙ ap (λ (l : Leaving). leaving_effects n.supervisor l (wanted_with g n delta)) back;
    within = subst (λ (q : Planned). n.supervisor.given + length q.fresh ≤ MAX) (sym ke) within;
  }

  pub touched_spent : (changes : List Change) → IsReplaced (left_of n.supervisor.kept ended) changes (wanted_with g n delta) → MAX < n.supervisor.given + length (newly (left_of n.supervisor.kept ended) (news changes)) → IsNoIntake g n leaving delta CountSpent
  touched_spent changes is h =
      let lefts : left_of n.supervisor.kept ended ≡ kept_of_leaving n.supervisor.kept leaving = ap (left_of n.supervisor.kept) ee ∙ sym (left_then n.supervisor.kept ids leaving reaches) in
      inr (
        refl,
        subst (λ (ks : List KeptChild). MAX < n.supervisor.given + length (newly ks (wanted_with g n delta))) lefts
            (subst (λ (ws : List _). MAX < n.supervisor.given + length ws) (sym (newly_replaced (left_of n.supervisor.kept ended) changes (wanted_with g n delta) is)) h),
      )
