-- What the checks of a step say, and what a step makes ready.
use Rattle.std.specs.Str.{bytes_eq}
use Rattle.std.specs.Map.{lookup}
use Rattle.std.specs.Prelude.{◌≡◌, ℕ, ◌+◌, ◌<◌, ◌≤◌, Bool, true, false, ◌||◌, ◌&&◌, nat_lt, is_ok, is_some, length, List, [], Option, Some, Result, Ok, Err, refl}
use Rattle.std.proofs.Common.{None, sym, ap, ◌∙◌, arith, subst}
use Rattle.std.proofs.Math.Bool.{or-true}
use Rattle.std.proofs.lemmas.Bool.{and_from}
use mathlib.Core.Logic.{inl, inr}
use Rattle.sup_specs.specs.Values.{Bytes}
use Rattle.sup_specs.specs.declared.limits.TheConstants.{MAX}
use Rattle.sup_causal.specs.declared.dot.Dot.{Dot}
use Rattle.sup_placement.specs.Place.{Weigher}
use Rattle.sup_tables.specs.declared.row.Row.{Row}
use Rattle.sup_tables.specs.Rows.{members}
use Rattle.sup_tables.specs.Readers.{winner, is_present, live_dots}
use Rattle.sup_tables.specs.Makers.{drain_over, drain_member}
use Rattle.sup_tables.specs.Operations.{Operation}
use Rattle.sup_tables.specs.States.{State}
use Rattle.sup_tables.specs.Joined.{join_states}
use Rattle.sup_tables.specs.OneOperation.{state_of_one, next_at}
use Rattle.sup_local_sup.specs.declared.effect.Effect.{Effect}
use Rattle.sup_local_sup.specs.declared.leaving.Leaving.{Leaving}
use Rattle.sup_local_sup.specs.declared.leaving.Leaving.TheVariants.{Nobody}
use Rattle.sup_local_sup.specs.Supervising.{Supervisor}
use Rattle.sup_local_sup.specs.declared.leaving.Ruling.TheVariants.{Restart}
use Rattle.sup_local_sup.specs.declared.wanted.Wanted.{Wanted}
use Rattle.sup_local_sup.specs.Keeping.{newly}
use Rattle.sup_local_sup.specs.Planning.{Plan, plan_of, carried_out, left, kept_of_leaving, leaving_after, leaving_effects, restarted, restart_effects}
use Rattle.sup_local_sup.proofs.AgainLaws.{again_wanted, again_kept}
use Rattle.sup_local_sup.proofs.KeptLaws.{none_more, none_less}
use Rattle.sup_replica.specs.declared.refusal.Refusal.{Refusal}
use Rattle.sup_replica.specs.declared.refusal.Refusal.TheVariants.{CountSpent}
use Rattle.sup_replica.specs.declared.done.Reply.{Reply}
use Rattle.sup_replica.specs.declared.done.Reply.TheVariants.{Added, Removed, Replaced, Restarted, Known}
use Rattle.sup_replica.specs.Checks.{refused_if}
use Rattle.sup_replica.specs.Nodes.{Node, ActOutcome, wanted_at}
use Rattle.sup_replica.specs.Steps.{passes_greatest, only, issues, command, exit_step, wanted}
use Rattle.sup_replica.specs.Acts.{absorbs}
use Rattle.sup_replica.specs.ByTables.{by_tables}
use Rattle.sup_node.specs.declared.change.Change.TheVariants.{Nothing, Begins, Learns}
use Rattle.sup_node.specs.declared.change.Ready.{Ready}
use Rattle.sup_node.specs.declared.change.Intake.{Intake}
use Rattle.sup_node.specs.declared.change.Intake.TheVariants.{Whole}
use Rattle.sup_node.specs.Changes.{ReadiesOutcome, IsIntake, IsNoIntake, kept_by, wanted_with, checked, newer, learns}
use Rattle.sup_node.specs.Placed.{keeps, keeps_placed}
use Rattle.sup_node.proofs.PlanLaws.{not-above}

lt-true : (n m : ℕ) → n + 1 ≤ m → nat_lt n m ≡ true
lt-true n m h = grind arith

-- no number passes the greatest
pub within_greatest : (n : Node State) → n.count ≤ MAX → n.supervisor.given ≤ MAX → n.supervisor.boot ≤ MAX → passes_greatest n ≡ false
within_greatest n a b c = λ i. not-above MAX n.count a i || (not-above MAX n.supervisor.given b i || not-above MAX n.supervisor.boot c i)

pub given_passes : (n : Node State) → MAX + 1 ≤ n.supervisor.given → passes_greatest n ≡ true
given_passes n a = (λ i. nat_lt MAX n.count || (lt-true MAX n.supervisor.given a i || nat_lt MAX n.supervisor.boot)) ∙ or-true (nat_lt MAX n.count)

-- an outcome whose numbers are in their limits is told, and another isn't
pub is_told : (o : ActOutcome State) → passes_greatest o.node ≡ false → checked (Ok o) ≡ Ok o
is_told o e = ap (λ b. refused_if b CountSpent (Ok o)) e

pub is_untold : (o : ActOutcome State) → passes_greatest o.node ≡ true → checked (Ok o) ≡ Err CountSpent
is_untold o e = ap (λ b. refused_if b CountSpent (Ok o)) e

-- the same step makes the same ready
pub ready_same : (g : Weigher) (step other : Result (ActOutcome State) Refusal) (n : Node State) (r : Result Ready Refusal) → step ≡ other → ReadiesOutcome g other n r → ReadiesOutcome g step n r
ready_same g step other n (Ok p) e h = (ap checked e ∙ h.0, h.1)
ready_same g step other n (Err refusal) e (inl f) = inl (ap checked e ∙ f)
ready_same g step other n (Err refusal) e (inr f) = inr (f.0, ap is_ok e ∙ f.1)

-- a delta that is taken in by a merge of the tables and a plan of all that is kept
module _ (g : Weigher) (n : Node State) (leaving : Leaving) (delta tables : State) (ws : List Wanted) (te : tables ≡ join_states n.known delta) (we : ws ≡ wanted_at g n.name tables.rows) where
  wanted_is : ws ≡ wanted_with g n delta
  wanted_is = we ∙ ap (λ (t : State). wanted_at g n.name t.rows) te

  pub whole_is : (whole plan : Plan) (effects : List Effect) → whole ≡ plan_of n.supervisor leaving ws → plan ≡ record whole { effects = [] } → effects ≡ whole.effects → whole.given ≤ MAX → IsIntake g n leaving delta (Whole tables plan) effects
  whole_is whole plan effects he pe ee within = record {
    makes = te;
    kept =
        ap (λ (p : Plan). carried_out n.supervisor p) pe
        ∙ ap (λ (p : Plan). carried_out n.supervisor p) he
        ∙ ap (leaving_after n.supervisor leaving) wanted_is;
    told = ee ∙ ap (λ (p : Plan). p.effects) he ∙ ap (leaving_effects n.supervisor leaving) wanted_is;
    within = subst (λ (p : Plan). p.given ≤ MAX) (sym pe) within;
  }

  pub whole_spent : MAX < n.supervisor.given + length (newly (kept_of_leaving n.supervisor.kept leaving) ws) → IsNoIntake g n leaving delta CountSpent
  whole_spent h = inr (refl, subst (λ (vs : List Wanted). MAX < n.supervisor.given + length (newly (kept_of_leaving n.supervisor.kept leaving) vs)) wanted_is h)

-- a delta that is taken in
module _ (g : Weigher) (n : Node State) (own : Option State) (reply : Reply) (leaving : Leaving) (delta : State) where
  abbrev made : Supervisor → List Effect → ActOutcome State
  made s effects = record {
    done = record { reply = reply; effects = effects };
    letter = None;
    node = record n { known = join_states n.known delta; count = n.count + 1; supervisor = s; newest = newer own n.newest };
    saves = true;
  }

  module _ (intake : Intake) (effects : List Effect) (is : IsIntake g n leaving delta intake effects) where
    is_made : learns g n own reply leaving delta ≡ made (kept_by n.supervisor intake) effects
    is_made = λ i. made (sym is.kept i) (sym is.told i)

    -- the node keeps what is placed on it then
    keeps_then : keeps (kept_by n.supervisor intake).kept (wanted_with g n delta) ≡ true
    keeps_then =
        let v = left n.supervisor leaving in
        let ws = wanted_with g n delta in
        ap (λ s. keeps s.kept ws) is.kept ∙ and_from _ _ (none_more v.boot v.given v.kept ws) (none_less v.boot v.given v.kept ws)

    pub learned_ready : n.count + 1 ≤ MAX → n.supervisor.boot ≤ MAX
        → ReadiesOutcome g (Ok (learns g n own reply leaving delta)) n (Ok (record { reply = reply; effects = effects; change = Learns (record { intake = intake; delta = delta; own = own }) }))
    learned_ready a c = (
      ap (λ o. checked (Ok o)) is_made
          ∙ is_told (made (kept_by n.supervisor intake) effects) (within_greatest (made (kept_by n.supervisor intake) effects).node a is.within c),
      (is.makes, keeps_then),
    )

  pub untaken : (r : Refusal) → IsNoIntake g n leaving delta r → ReadiesOutcome g (Ok (learns g n own reply leaving delta)) n (Err r)
  untaken r (inl e) = inr (e, refl)
  untaken r (inr e) = inl (is_untold (learns g n own reply leaving delta) (given_passes (learns g n own reply leaving delta).node (omega (arith, e.1))) ∙ ap Err (sym e.0))

-- a restart keeps what is kept
pub keeps_again : (g : Weigher) (n : Node State) (id : Bytes) (now : ℕ) → keeps_placed g n ≡ true → keeps_placed g (record n { supervisor = restarted n.supervisor id now }) ≡ true
keeps_again g n id now h = (λ i. again_wanted n.supervisor id (wanted by_tables g n) i && again_kept n.supervisor id (wanted by_tables g n) i) ∙ h

pub begun_ready : (g : Weigher) (n : Node State) (id again : Bytes) (now : ℕ) (effects : List Effect) → again ≡ id → effects ≡ restart_effects n.supervisor id (lookup (bytes_eq id) n.supervisor.kept)
    → passes_greatest (record n { supervisor = restarted n.supervisor id now }) ≡ false → keeps_placed g n ≡ true
    → ReadiesOutcome g (exit_step by_tables g n id now Restart) n (Ok (record { reply = Restarted; effects = effects; change = Begins again now }))
begun_ready g n id again now effects same told passes keeps =
    let o : List Effect → ActOutcome State = λ es. record { done = record { reply = Restarted; effects = es }; node = record n { supervisor = restarted n.supervisor id now }; letter = None; saves = false } in
    subst (λ x. ReadiesOutcome g (exit_step by_tables g n id now Restart) n (Ok (record { reply = Restarted; effects = effects; change = Begins x now }))) (sym same)
    (ap (λ es. checked (Ok (o es))) (sym told) ∙ is_told (o effects) passes, (tt, keeps_again g n id now keeps))

-- who goes on from an image keeps what is placed on it
pub restarted_keeps : (g : Weigher) (n : Node State) (s : Supervisor) (plan : Plan) (ws wanted : List Wanted) → n.supervisor ≡ carried_out s plan → plan ≡ plan_of s Nobody ws → ws ≡ wanted → wanted ≡ wanted_at g n.name n.known.rows → keeps_placed g n ≡ true
restarted_keeps g n s plan ws wanted se pe we ke =
    ap (λ (v : Supervisor). keeps v.kept (wanted_at g n.name n.known.rows)) (se ∙ ap (carried_out s) pe)
    ∙ ap (λ (vs : List Wanted). keeps (plan_of s Nobody ws).kept vs) (sym (we ∙ ke))
    ∙ and_from _ _ (none_more s.boot s.given s.kept ws) (none_less s.boot s.given s.kept ws)

-- a delta that brings nothing new
pub known_ready : (w : Weigher) (n : Node State) (delta : State) (covered : Bool) (effects : List Effect) → covered ≡ true → join_states n.known delta ≡ n.known → effects ≡ [] → passes_greatest n ≡ false → keeps_placed w n ≡ true
    → ReadiesOutcome w (Ok (absorbs by_tables w n delta None covered)) n (Ok (record { reply = Known; effects = effects; change = Nothing }))
known_ready w n delta covered effects ce je ee pe keeps = (
  ap (λ b. checked (Ok (absorbs by_tables w n delta None b))) ce
      ∙ (λ i. checked (Ok (only (record n { known = je i }) Known (sym ee i) None)))
      ∙ is_told (only n Known effects None) pe,
  (tt, keeps),
)

-- where there is such a member, what a drain names are its dots
drained : (dot : Dot) (m : Bytes) (dots : List Dot) (won : Option Row) → is_some won ≡ true → (drain_over dot m dots won).removes ≡ dots
drained dot m dots None e = absurd cc
drained dot m dots (Some won) e = refl

pub drained_dots : (rows : List Row) (dot : Dot) (m : Bytes) → is_present rows members m ≡ true → (drain_member rows dot m).removes ≡ live_dots rows members m
drained_dots rows dot m there = drained dot m (live_dots rows members m) (winner rows members m) there

-- a check that is passed
pub passed : {A : Type 0} (b : Bool) (refusal : Refusal) (rest result : Result A Refusal) → b ≡ false → rest ≡ result → refused_if b refusal rest ≡ result
passed b refusal rest result e f = ap (λ x. refused_if x refusal rest) e ∙ f

-- commands that pass their checks
module _ (w : Weigher) (n : Node State) where
  pub adds : (checks : Result Operation Refusal) (op : Operation) (dot : Dot) (delta : State) → checks ≡ Ok op → dot ≡ next_at n.known n.name → delta ≡ state_of_one op
      → command by_tables w n checks (λ op. Added (next_at n.known n.name)) ≡ Ok (issues by_tables w n (Added dot) Nobody delta)
  adds checks op dot delta e de se = ap (λ r. command by_tables w n r (λ op. Added (next_at n.known n.name))) e ∙ (λ i. Ok (issues by_tables w n (Added (sym de i)) Nobody (sym se i)))

  pub drops : (checks : Result Operation Refusal) (op : Operation) (dots : List Dot) (delta : State) → checks ≡ Ok op → dots ≡ op.removes → delta ≡ state_of_one op
      → command by_tables w n checks (λ op. Removed op.removes) ≡ Ok (issues by_tables w n (Removed dots) Nobody delta)
  drops checks op dots delta e de se = ap (λ r. command by_tables w n r (λ op. Removed op.removes)) e ∙ (λ i. Ok (issues by_tables w n (Removed (sym de i)) Nobody (sym se i)))

  pub replaces : (checks : Result Operation Refusal) (op : Operation) (dot : Dot) (dots : List Dot) (delta : State) → checks ≡ Ok op → dot ≡ next_at n.known n.name → dots ≡ op.removes → delta ≡ state_of_one op
      → command by_tables w n checks (λ op. Replaced (next_at n.known n.name) op.removes) ≡ Ok (issues by_tables w n (Replaced dot dots) Nobody delta)
  replaces checks op dot dots delta e ne de se = ap (λ r. command by_tables w n r (λ op. Replaced (next_at n.known n.name) op.removes)) e ∙ (λ i. Ok (issues by_tables w n (Replaced (sym ne i) (sym de i)) Nobody (sym se i)))
