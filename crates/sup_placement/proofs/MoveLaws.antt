-- Which children move when members come and go: a place stays the place among any of the members that it is one of.
use Rattle.std.proofs.Common.{◌≡◌, ◌≢◌, Bool, true, false, not, List, [], ◌∷◌, Some, None, Option, refl, sym, ap, ◌∙◌, subst, inl, inr}
use Rattle.std.specs.Prelude.{Contains, bytes_eq}
use Rattle.std.specs.Ordering.{is_lt}
use Rattle.std.proofs.lemmas.List.Elements.{All-contains, All-contains_itself, All-weaker}
use Rattle.std.proofs.lemmas.Slice.Eq.{bytes_eq-Decides}
use Rattle.sup_specs.specs.Values.{Bytes}
use Rattle.sup_placement.specs.Place.{Weigher, rank_cmp, place}
use Rattle.sup_placement.specs.Moves.{AnswersThePlace, NowhereWithoutMembers, OnePlace, OrderAndRepeatsAreFree, without, OnlyItsOwnMove, MovesOnlyToIt}
use Rattle.sup_placement.proofs.FindLaws.{Contains-later, Contains-cons_cases, Contains-filter, Contains-filter_back}
use Rattle.sup_placement.proofs.PlaceLaws.{IsFirst, first_from_place, place_from_first, first_is_one, first_from_value, value_from_first, some_first}

pub answers_the_place : AnswersThePlace
answers_the_place weight members id m = (λ e. place_from_first weight members id m (first_from_value weight members id m e), λ p. value_from_first weight members id m (first_from_place weight members id m p))

pub one_place : OnePlace
one_place weight members id a b p q = first_is_one weight members id a b (first_from_place weight members id a p) (first_from_place weight members id b q)

Some≢None : {X : Type 0} {x : X} → Some x ≡ None → ⊥
Some≢None e = cc

pub nowhere_without_members : NowhereWithoutMembers
nowhere_without_members weight [] id = (λ e. refl, λ e. refl)
nowhere_without_members weight (x ∷ xs) id =
    let first = some_first weight x xs id in
    let found = value_from_first weight (x ∷ xs) id first.0 first.1 in
    (λ none. absurd (Some≢None (sym found ∙ none)), λ e. cc)

-- each of the first list is in the second
abbrev AreAmong : List Bytes → List Bytes → Type 0
AreAmong fewer members = (m : Bytes) → Contains fewer m → Contains members m

first_stays : (weight : Weigher) (members fewer : List Bytes) (id m : Bytes) → AreAmong fewer members → Contains fewer m → IsFirst weight members id m → IsFirst weight fewer id m
first_stays weight members fewer id m among still f =
    (still, All-weaker (Contains fewer) (λ other. is_lt (rank_cmp weight id other m) ≡ false) (λ other h. All-contains (λ other. is_lt (rank_cmp weight id other m) ≡ false) members other f.1 (among other h)) fewer (All-contains_itself fewer))

pub place_stays : (weight : Weigher) (members fewer : List Bytes) (id m : Bytes) → AreAmong fewer members → Contains fewer m → place weight members id ≡ Some m → place weight fewer id ≡ Some m
place_stays weight members fewer id m among still e =
    value_from_first weight fewer id m (first_stays weight members fewer id m among still (first_from_value weight members id m e))

pub order_and_repeats_are_free : OrderAndRepeatsAreFree
order_and_repeats_are_free weight members others id same = at (place weight members id) (place weight others id) refl refl
  where
    at : (p q : Option Bytes) → place weight members id ≡ p → place weight others id ≡ q → p ≡ q
    at (Some m) q e f = sym (place_stays weight members others id m (λ x. (same x).1) ((same m).0 (first_from_value weight members id m e).0) e) ∙ f
    at None (Some m) e f = sym e ∙ place_stays weight others members id m (λ x. (same x).0) ((same m).1 (first_from_value weight others id m f).0) f
    at None None e f = refl

other_name : (a b : Bytes) → a ≢ b → not (bytes_eq a b) ≡ true
other_name a b apart = at (bytes_eq a b) refl
  where
    at : (t : Bool) → bytes_eq a b ≡ t → not t ≡ true
    at true e = absurd (apart ((bytes_eq-Decides a b).0 e))
    at false e = refl

pub only_its_own_move : OnlyItsOwnMove
only_its_own_move weight members gone id not_its = at (place weight members id) refl
  where
    at : (p : Option Bytes) → place weight members id ≡ p → place weight (without gone members) id ≡ place weight members id
    at (Some to) e =
        let apart : to ≢ gone = λ same. not_its (e ∙ ap Some same) in
        let still = Contains-filter (λ m. not (bytes_eq m gone)) members to (first_from_value weight members id to e).0 (other_name to gone apart) in
        place_stays weight members (without gone members) id to (Contains-filter_back (λ m. not (bytes_eq m gone)) members) still e ∙ sym e
    at None e =
        let none : members ≡ [] = (nowhere_without_members weight members id).0 e in
        subst (λ ms. place weight (without gone ms) id ≡ place weight ms id) (sym none) refl

pub moves_only_to_it : MovesOnlyToIt
moves_only_to_it weight members new id not_its = at (place weight (new ∷ members) id) refl
  where
    at : (p : Option Bytes) → place weight (new ∷ members) id ≡ p → place weight (new ∷ members) id ≡ place weight members id
    at (Some to) e =
        let still : Contains members to = elim (Contains-cons_cases new members to (first_from_value weight (new ∷ members) id to e).0) as (λ _. Contains members to) [
          | inl same ↦ absurd (not_its (e ∙ ap Some (sym same)))
          | inr later ↦ later
        ] in
        e ∙ sym (place_stays weight (new ∷ members) members id to (Contains-later new members) still e)
    at None e =
        let nobody : new ∷ members ≡ [] = (nowhere_without_members weight (new ∷ members) id).0 e in
        cc
