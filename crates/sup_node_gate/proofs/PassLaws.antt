-- A split and a join keep the rule.
use Rattle.std.proofs.Common.{◌≡◌, ℕ, zero, suc, ◌≢◌, ◌⊎◌, List, [], ◌∷◌, ◌++◌, length, get_or, set, sym, refl, ap, ◌∙◌, subst, inl, inr, ⊎_elim, zero-le}
use Rattle.std.specs.Prelude.{is_some, false}
use mathlib.Core.Logic.{dite}
use mathlib.Core.Option.{some, some-injective, some-ne-none}
use native.Mathlib.Decide.{ℕ_discrete}
use lib.ListN.{get_elem?}
use Rattle.atomic_table.specs.Table.{Splits, Joins}
use Rattle.atomic_table.proofs.Lists.{at_set, at_snoc, at_longer, set_else}
use Rattle.sup_placement.specs.Place.{Weigher}
use Rattle.sup_node_gate.specs.declared.view.Holding.{Holding}
use Rattle.sup_node_gate.specs.declared.view.Parts.{Parts}
use Rattle.sup_node_gate.specs.declared.view.View.{View}
use Rattle.sup_node_gate.specs.Views.{IsAmongPlaces, merged, first, second, spent, joining}
use Rattle.sup_node_gate.specs.Rule.{FitsView, HasTurn, IsHeldBy, AllApart, AllOwned, OwnsByShare, RuleHolds}
use Rattle.sup_node_gate.proofs.GateRuleLaws.{with_views}
use Rattle.sup_node_gate.proofs.HistoryListLaws.{set_at, views_stay, apart_stays, held_stays, owned_stays, owned_more}
use Rattle.sup_node_gate.proofs.ShareLaws.{shared_halved, none_left, none_right}
use Rattle.sup_node_gate.proofs.ViewShareLaws.{free_has, whole_split, whole_joined}
use Rattle.sup_node_gate.proofs.PlaceListLaws.{stands_merged, rises_merged, merged_left, merged_right}

pub index_at : {A : Type 0} (l : List A) (i : ℕ) (a d : A) → get_elem? l i ≡ some a → get_or l i d ≡ a
index_at [] i a d e = absurd (some-ne-none a (sym e))
index_at (x ∷ xs) zero a d e = some-injective x a e
index_at (x ∷ xs) (suc i) a d e = index_at xs i a d e

module _ (vs : List View) (id other : ℕ) (v u : View) (at : get_elem? vs id ≡ some v) (there : get_elem? vs other ≡ some u) (apart : AllApart vs) (not : other ≢ id) where
  abbrev after : List View
  after = set (set vs id (joining v u)) other spent

  from : (j p : ℕ) (d : View) → get_elem? after j ≡ some d → IsAmongPlaces p d.own → ((j ≡ id) × (IsAmongPlaces p v.own ⊎ IsAmongPlaces p u.own)) ⊎ ((j ≢ id) × (j ≢ other) × (get_elem? vs j ≡ some d))
  from j p d e s = ⊎_elim (λ (t : (j ≡ other) × (spent ≡ d)). absurd (subst (λ (x : View). IsAmongPlaces p x.own) (sym t.1) s))
      (λ (t : (j ≢ other) × (get_elem? (set vs id (joining v u)) j ≡ some d)). ⊎_elim
      (λ (k : (j ≡ id) × (joining v u ≡ d)). inl (k.0, stands_merged u.own v.own p (subst (λ (x : View). IsAmongPlaces p x.own) (sym k.1) s)))
      (λ (k : (j ≢ id) × (get_elem? vs j ≡ some d)). inr (k.0, t.0, k.1)) (at_set vs id j (joining v u) d t.1))
      (at_set (set vs id (joining v u)) other j spent d e)

  mine : (j p : ℕ) (d : View) → IsAmongPlaces p v.own ⊎ IsAmongPlaces p u.own → j ≢ id → j ≢ other → get_elem? vs j ≡ some d → IsAmongPlaces p d.own → ⊥
  mine j p d s a b e t = ⊎_elim (λ (x : IsAmongPlaces p v.own). a (sym (apart id j p v d at e x t))) (λ (x : IsAmongPlaces p u.own). b (sym (apart other j p u d there e x t))) s

  pub joined_apart : AllApart after
  joined_apart i j p a b at_i at_j in_a in_b = ⊎_elim
      (λ (x : (i ≡ id) × (IsAmongPlaces p v.own ⊎ IsAmongPlaces p u.own)). ⊎_elim (λ (y : (j ≡ id) × (IsAmongPlaces p v.own ⊎ IsAmongPlaces p u.own)). x.0 ∙ sym y.0)
      (λ (y : (j ≢ id) × (j ≢ other) × (get_elem? vs j ≡ some b)). absurd (mine j p b x.1 y.0 y.1 y.2 in_b)) (from j p b at_j in_b))
      (λ (x : (i ≢ id) × (i ≢ other) × (get_elem? vs i ≡ some a)). ⊎_elim (λ (y : (j ≡ id) × (IsAmongPlaces p v.own ⊎ IsAmongPlaces p u.own)). absurd (mine i p a y.1 x.0 x.1 x.2 in_a))
      (λ (y : (j ≢ id) × (j ≢ other) × (get_elem? vs j ≡ some b)). apart i j p a b x.2 y.2 in_a in_b) (from j p b at_j in_b))
      (from i p a at_i in_a)

joined_owned : (vs : List View) (id other n : ℕ) (v u : View) → get_elem? vs id ≡ some v → get_elem? vs other ≡ some u → AllOwned vs n → other ≢ id → AllOwned (set (set vs id (joining v u)) other spent) n
joined_owned vs id other n v u at there owned not p lt =
    let o = owned p lt in
    let both : get_elem? (set (set vs id (joining v u)) other spent) id ≡ some (joining v u) = set_else (set vs id (joining v u)) other id spent (λ e. not (sym e)) ∙ set_at vs id v (joining v u) at in
    dite (ℕ_discrete o.0 id)
    (λ (e : o.0 ≡ id). let is : v ≡ o.1 = some-injective v o.1 (sym at ∙ subst (λ (z : ℕ). get_elem? vs z ≡ some o.1) e o.2) in (id, joining v u, both, merged_left u.own v.own p (subst (λ (w : View). IsAmongPlaces p w.own) (sym is) o.3)))
    (λ here. dite (ℕ_discrete o.0 other)
    (λ (e : o.0 ≡ other). let is : u ≡ o.1 = some-injective u o.1 (sym there ∙ subst (λ (z : ℕ). get_elem? vs z ≡ some o.1) e o.2) in (id, joining v u, both, merged_right u.own v.own p (subst (λ (w : View). IsAmongPlaces p w.own) (sym is) o.3)))
    (λ ne. (o.0, o.1, set_else (set vs id (joining v u)) other o.0 spent ne ∙ (set_else vs id o.0 (joining v u) here ∙ o.2), o.3)))

joined_none : (v u : View) → OwnsByShare v → OwnsByShare u → OwnsByShare (joining v u)
joined_none v u a b bare = let left = a (none_left v.shares u.shares bare) in let right = b (none_right v.shares u.shares bare) in ((λ i. merged (left.0 i) (right.0 i)), left.1)

held_without : (vs : List View) (other : ℕ) (u w : View) (holder : ℕ) → get_elem? vs other ≡ some u → is_some u.turn ≡ false → IsHeldBy vs holder → IsHeldBy (set vs other w) holder
held_without vs other u w holder there idle b = dite (ℕ_discrete holder other)
    (λ (e : holder ≡ other). let is : u ≡ b.0 = some-injective u b.0 (sym there ∙ subst (λ (z : ℕ). get_elem? vs z ≡ some b.0) e b.2) in absurd (free_has u b.1 idle (ap (λ x. x.turn) is ∙ b.3)))
    (λ ne. (b.0, b.1, set_else vs other holder w ne ∙ b.2, b.3))

module _ {H : Type 0} (sight : H → Holding) (g : Weigher) (start : Parts) (bound : ℕ) where
  pub splits : (id : ℕ) (v : View) → Splits (RuleHolds sight g start bound) id v (first v) (second v)
  splits id v s r at = let f = r.each_view id v at in let left : FitsView start bound r.held.history (first v) = (f.0, f.1, f.2, f.3, (λ bare. f.4 (sym (shared_halved v.shares) ∙ bare)), f.5) in let vs = set s.views id (first v) in
      let views : (j : ℕ) (d : View) → get_elem? vs j ≡ some d → FitsView start bound r.held.history d = views_stay (λ _ d. FitsView start bound r.held.history d) s.views id (first v) left (λ j d _. r.each_view j d) in
      let turns : (j : ℕ) (d : View) → get_elem? vs j ≡ some d → HasTurn r.held (get_or s.words 1 0) r.holder j d.turn =
      views_stay (λ j d. HasTurn r.held (get_or s.words 1 0) r.holder j d.turn) s.views id (first v) (r.each_turn id v at) (λ j d _. r.each_turn j d) in
      let apart = apart_stays s.views id v (first v) at refl r.apart in with_views sight g start bound s r (vs ++ second v ∷ [])
      (λ n. let b = held_stays s.views id v (first v) r.holder at refl (r.taken n) in (b.0, b.1, at_longer vs (second v ∷ []) r.holder b.0 b.2, b.3))
      (λ j d there. ⊎_elim (views j d) (λ (t : second v ≡ d). subst (λ (x : View). FitsView start bound r.held.history x) t (f.0, f.1, (r.held.history, refl), zero-le, (λ _. (refl, refl)), (tt, tt))) (at_snoc vs (second v) d j there))
      (λ j d there. ⊎_elim (turns j d) (λ (t : second v ≡ d). subst (λ (x : View). HasTurn r.held (get_or s.words 1 0) r.holder j x.turn) t tt) (at_snoc vs (second v) d j there))
      (λ i j p a b at_i at_j in_a in_b. ⊎_elim
      (λ (x : get_elem? vs i ≡ some a). ⊎_elim (λ (y : get_elem? vs j ≡ some b). apart i j p a b x y in_a in_b) (λ (y : second v ≡ b). absurd (subst (λ (z : View). IsAmongPlaces p z.own) (sym y) in_b)) (at_snoc vs (second v) b j at_j))
      (λ (x : second v ≡ a). absurd (subst (λ (z : View). IsAmongPlaces p z.own) (sym x) in_a)) (at_snoc vs (second v) a i at_i))
      (owned_more vs (second v) (length r.held.history) (owned_stays s.views id (length r.held.history) v (first v) at (λ p t. t) r.owned))
      (whole_split s.views id v (first v) (second v) at refl refl r.whole)

  pub joins : (id : ℕ) (v : View) (other : ℕ) (u : View) → is_some u.turn ≡ false → Joins (RuleHolds sight g start bound) id v other u (joining v u) spent
  joins id v other u idle s r at not there' = let both = joining v u in let there : get_elem? s.views other ≡ some u = sym (set_else s.views id other both not) ∙ there' in
      let f = r.each_view id v at in let k = r.each_view other u there in
      let rises = rises_merged u.own v.own 0 (length r.held.history) f.3 k.3 (λ q a b. not (sym (r.apart id other q v u at there a b))) in with_views sight g start bound s r (set (set s.views id both) other spent)
      (λ n. held_without (set s.views id both) other u spent r.holder there' idle (held_stays s.views id v both r.holder at refl (r.taken n)))
      (views_stay (λ _ d. FitsView start bound r.held.history d) (set s.views id both) other spent (tt, (r.held.history, refl), (r.held.history, refl), zero-le, (λ _. (refl, refl)), (tt, tt))
      (λ j d _. views_stay (λ _ d. FitsView start bound r.held.history d) s.views id both (f.0, f.1, k.1, rises, joined_none v u f.4 k.4, f.5) (λ j d _. r.each_view j d) j d))
      (views_stay (λ j d. HasTurn r.held (get_or s.words 1 0) r.holder j d.turn) (set s.views id both) other spent tt
      (λ j d _. views_stay (λ j d. HasTurn r.held (get_or s.words 1 0) r.holder j d.turn) s.views id both (r.each_turn id v at) (λ j d _. r.each_turn j d) j d))
      (joined_apart s.views id other v u at there r.apart not)
      (joined_owned s.views id other (length r.held.history) v u at there r.owned not)
      (whole_joined s.views id other v u both spent at there there' refl refl r.whole)
