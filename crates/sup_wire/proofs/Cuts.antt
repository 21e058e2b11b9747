-- A state and the parts that it is cut into: they are canonical, and no other state has them.
use Rattle.std.proofs.Common.{◌≡◌, ℕ, Bool, true, ◌&&◌, leb, List, sym, ◌∙◌, subst, arith, inl, inr}
use Rattle.std.specs.Prelude.{All}
use Rattle.std.proofs.lemmas.Bool.{or_left, or_right, or_cases, and_parts, and_from, cases_order, le-leb, leb-true}
use Rattle.sup_specs.specs.Values.{Bytes}
use Rattle.sup_specs.specs.Rising.{among}
use Rattle.sup_causal.specs.declared.dot.Dot.{Dot}
use Rattle.sup_causal.specs.Dots.{has, dot_cmp, IsCounted}
use Rattle.sup_causal.specs.Cut.{entry, IsVector, IsCloud, in_parts}
use Rattle.sup_causal.proofs.CutLemmas.{run_is_one}
use Rattle.sup_causal.proofs.CutLaws.{cut_canonical}
use Rattle.sup_tables.specs.declared.row.Row.{Row}
use Rattle.sup_tables.specs.Rows.{AreInOrder}
use Rattle.sup_tables.specs.States.{State}
use Rattle.sup_tables.proofs.OperationLaws.{both_ways}
use Rattle.sup_tables.proofs.OneForm.{same_parts, same_state}
use Rattle.sup_wire.specs.Drafts.{TableParts, IsCut, IsWhole, AreCanonical}

module _ (holds : Dot → Bool) (counted : (d : Dot) → holds d ≡ true → IsCounted d) (vector : List (Bytes × ℕ)) (cloud : List Dot) (is_vector : IsVector holds vector) (is_cloud : IsCloud holds cloud) where
  in_cut : (d : Dot) → holds d ≡ true → in_parts vector cloud d ≡ true
  in_cut d there = elim (cases_order (entry vector d.node) d.counter) [
    | inl tied ↦ or_left _ _ (and_from _ _ (le-leb _ _ (counted d there).0) (le-leb _ _ (omega (arith, tied))))
    | inr other ↦ elim other [
      | inl above ↦ or_right _ _ ((is_cloud.beyond d).1 (there, λ n run. let is : entry vector d.node ≡ n = run_is_one holds d.node _ n (is_vector.runs d.node) run in omega (arith, is, above)))
      | inr below ↦ or_left _ _ (and_from _ _ (le-leb _ _ (counted d there).0) (le-leb _ _ (omega (arith, below))))
    ]
  ]

  from_cut : (d : Dot) → in_parts vector cloud d ≡ true → holds d ≡ true
  from_cut d inside = elim (or_cases (leb 1 d.counter && leb d.counter (entry vector d.node)) (among dot_cmp cloud d) inside) [
    | inl run ↦ let p = and_parts _ _ run in (is_vector.runs d.node).all_there d.counter (leb-true _ _ p.0) (leb-true _ _ p.1)
    | inr beyond ↦ ((is_cloud.beyond d).0 beyond).0
  ]

  -- a set has just what its cut has
  pub has_cut : (d : Dot) → holds d ≡ in_parts vector cloud d
  has_cut d = both_ways _ _ (in_cut d) (from_cut d)

-- the parts of a whole state are canonical
pub cut_sound : (s : State) (p : TableParts) → IsWhole s → IsCut s p → AreCanonical p
cut_sound s p whole cut = record {
  context = cut_canonical (has s.context) whole.counted p.vector p.cloud cut.vector cut.cloud;
  in_order = subst AreInOrder (sym cut.rows) whole.in_order;
  covered = subst (λ (rows : List Row). All (λ r. in_parts p.vector p.cloud r.dot ≡ true) rows) (sym cut.rows)
      (λ k d lt. sym (has_cut (has s.context) whole.counted p.vector p.cloud cut.vector cut.cloud _) ∙ whole.covered k d lt);
}

-- a state is told by its parts
pub one_state : (s t : State) (p : TableParts) → IsWhole s → IsCut s p → IsWhole t → IsCut t p → s ≡ t
one_state s t p ws cs wt ct =
    same_state s t ws.tables wt.tables (same_parts s t
    (λ d. has_cut (has s.context) ws.counted p.vector p.cloud cs.vector cs.cloud d ∙ sym (has_cut (has t.context) wt.counted p.vector p.cloud ct.vector ct.cloud d))
    (sym cs.rows ∙ ct.rows))
