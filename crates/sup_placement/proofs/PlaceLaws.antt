-- `place` is the place: of greatest weight, then of least name.
use Rattle.std.proofs.Common.{◌≡◌, Bool, true, false, not, List, ◌∷◌, Some, refl, sym, ap, ◌∙◌}
use Rattle.std.specs.Prelude.{Contains, All, slice_index_or}
use Rattle.std.specs.declared.cmp.Ordering.{Ordering}
use Rattle.std.specs.declared.cmp.Ordering.TheVariants.{Less, Equal, Greater}
use Rattle.std.specs.Ordering.{ordering_then, ordering_reverse, is_lt, is_gt}
use Rattle.std.specs.Cmp.{tied_itself}
use Rattle.std.specs.List.{list_any}
use Rattle.std.proofs.lemmas.List.Elements.{All-contains, All-from_get_or, Contains-get_or}
use Rattle.std.proofs.lemmas.List.Folds.{list_any_none}
use Rattle.std.proofs.lemmas.List.MinMax.{IsFirstBest-from_best_of, ranks_by}
use Rattle.sup_specs.specs.Values.{Bytes, text_cmp}
use Rattle.sup_specs.specs.OrderLaws.{text_total, text_tie}
use Rattle.sup_placement.specs.Place.{Weigher, IsPlace, rank_cmp, place}
use Rattle.sup_placement.proofs.FindLaws.{find_passes, find_reaches, none_passes}
use Rattle.sup_placement.proofs.RankLaws.{rank_total, rank_apart}

-- a member that no member ranks before
abbrev pub IsFirst : Weigher → List Bytes → Bytes → Bytes → Type 0
IsFirst weight members id m = Contains members m × All (λ other. is_lt (rank_cmp weight id other m) ≡ false) members

first_by_parts : (r s : Ordering) → is_gt (ordering_reverse r) ≡ false → (r ≡ Equal → is_lt s ≡ false) → is_lt (ordering_then r s) ≡ false
first_by_parts Less s h k = h
first_by_parts Equal s h k = k refl
first_by_parts Greater s h k = refl

not_greater : (r s : Ordering) → is_lt (ordering_then r s) ≡ false → is_gt (ordering_reverse r) ≡ false
not_greater Less s h = h
not_greater Equal s h = refl
not_greater Greater s h = refl

not_lesser : (r s : Ordering) → r ≡ Equal → is_lt (ordering_then r s) ≡ false → is_lt s ≡ false
not_lesser Less s e h = cc
not_lesser Equal s e h = h
not_lesser Greater s e h = cc

module _ (weight : Weigher) (members : List Bytes) (id : Bytes) where
  pub first_from_place : (m : Bytes) → IsPlace weight members id m → IsFirst weight members id m
  first_from_place m p = (
    p.member,
    λ k d l.
        let other : Bytes = slice_index_or members k d in
        let turned = text_total.antisymm (weight other id) (weight m id) in
        first_by_parts (text_cmp (weight m id) (weight other id)) (text_cmp other m)
        (sym (ap is_gt turned) ∙ p.no_greater_weight k d l)
        (λ e. p.no_lesser_name k d l (sym (text_tie (weight m id) (weight other id) e))),
  )

  pub place_from_first : (m : Bytes) → IsFirst weight members id m → IsPlace weight members id m
  place_from_first m f = record {
    member = f.0;
    no_greater_weight = λ k d l.
        let other : Bytes = slice_index_or members k d in
        ap is_gt (text_total.antisymm (weight other id) (weight m id)) ∙ not_greater (text_cmp (weight m id) (weight other id)) (text_cmp other m) (f.1 k d l);
    no_lesser_name = λ k d l e.
        let other : Bytes = slice_index_or members k d in
        let level : text_cmp (weight m id) (weight other id) ≡ Equal = ap (text_cmp (weight m id)) e ∙ tied_itself text_total (weight m id) in
        not_lesser (text_cmp (weight m id) (weight other id)) (text_cmp other m) level (f.1 k d l);
  }

  pub first_is_one : (a b : Bytes) → IsFirst weight members id a → IsFirst weight members id b → a ≡ b
  first_is_one a b f g =
      rank_apart weight id a b
      (All-contains (λ other. is_lt (rank_cmp weight id other b) ≡ false) members a g.1 f.0)
      (All-contains (λ other. is_lt (rank_cmp weight id other a) ≡ false) members b f.1 g.0)

  none_before : Bytes → Bool
  none_before m = not (list_any (λ other. is_lt (rank_cmp weight id other m)) members)

  pub first_from_value : (m : Bytes) → place weight members id ≡ Some m → IsFirst weight members id m
  unfolding none_before
  first_from_value m e =
      let found = find_passes none_before members m e in
      (found.0, none_passes (λ other. is_lt (rank_cmp weight id other m)) members found.1)

  pub value_from_first : (m : Bytes) → IsFirst weight members id m → place weight members id ≡ Some m
  unfolding none_before
  value_from_first m f =
      let none : none_before m ≡ true = ap not (list_any_none (λ other. is_lt (rank_cmp weight id other m)) members f.1) in
      let found = find_reaches none_before members m f.0 none in
      found.1 ∙ ap Some (first_is_one found.0 m (first_from_value found.0 found.1) f)

-- among members there is one that ranks first
pub some_first : (weight : Weigher) (x : Bytes) (xs : List Bytes) (id : Bytes) → (m : Bytes) × IsFirst weight (x ∷ xs) id m
some_first weight x xs id =
    let best = IsFirstBest-from_best_of (ranks_by (rank_total weight id) (λ m. m)) x xs in
    let first : Bytes = slice_index_or (x ∷ xs) best.0 x in
    (first, (Contains-get_or (x ∷ xs) best.0 x best.1.0, All-from_get_or (λ other. is_lt (rank_cmp weight id other first) ≡ false) (x ∷ xs) x (λ k l. best.1.1 k x l)))
