-- The node that a search by name finds, among those that are seen.
use Rattle.std.specs.Prelude.{◌≡◌, ℕ, ◌+◌, ◌≤◌, Bool, true, false, cond, not, List, [], ◌∷◌, map, find, Option, Some, None, refl}
use Rattle.std.specs.List.{position_or_len}
use Rattle.std.specs.Option.{option_map}
use Rattle.std.specs.Str.{bytes_eq}
use Rattle.std.proofs.Common.{ltb, sym, ap, ◌∙◌, arith}
use Rattle.std.proofs.lemmas.Bool.{ltb-false}
use Rattle.std.proofs.lemmas.Map.Text.{is_eq-slice_cmp}
use Rattle.std.proofs.lemmas.Option.{none-some, same_Some}
use Rattle.sup_specs.specs.Values.{Bytes}
use Rattle.sup_replica.specs.Nodes.{is_named}
use Rattle.sup_world.specs.SeenNodes.{SeenNode}
use Rattle.sup_world.specs.CarriedSteps.{seen_at}
use Rattle.sup_world.proofs.SitePlaceLaws.{place}

module _ {A : Type 0} (f : A → SeenNode) (name : Bytes) where
  abbrev pub has_name : A → Bool
  has_name x = bytes_eq name (f x).name

  same_test : (x : A) → has_name x ≡ is_named name (f x).name
  same_test x = sym (is_eq-slice_cmp name (f x).name)

  pub found_seen : (xs : List A) → option_map f (find has_name xs) ≡ seen_at (map f xs) name
  found_seen [] = refl
  found_seen (x ∷ xs) =
      ap (λ b. option_map f (cond b (Some x) (find has_name xs))) (same_test x)
      ∙ (elim (is_named name (f x).name) as (λ b. option_map f (cond b (Some x) (find has_name xs)) ≡ cond b (Some (f x)) (seen_at (map f xs) name)) [ true ↦ refl | false ↦ found_seen xs ])

  pub position_seen : (xs : List A) → position_or_len has_name xs ≡ place (map f xs) name
  position_seen [] = refl
  position_seen (x ∷ xs) =
      ap (λ b. cond (not b) (1 + position_or_len has_name xs) 0) (same_test x)
      ∙ ap (λ n. cond (not (is_named name (f x).name)) (1 + n) 0) (position_seen xs)

  -- what a search found is what is seen there
  pub seen_found : (xs : List A) (o : Option A) → o ≡ find has_name xs → seen_at (map f xs) name ≡ option_map f o
  seen_found xs o e = sym (found_seen xs) ∙ ap (option_map f) (sym e)

-- what a search for a place tells
pub found_place : (p n i : ℕ) → cond (ltb p n) (Some p) None ≡ Some i → i ≡ p
found_place p n i e = elim (ltb p n) as (λ b. cond b (Some p) None ≡ Some i → i ≡ p) [ true ↦ λ f. sym (same_Some p i f) | false ↦ λ f. absurd (none-some i f) ] e

pub found_none : (p n : ℕ) → p ≤ n → cond (ltb p n) (Some p) None ≡ None → p ≡ n
found_none p n le e =
    elim (ltb p n) as (λ b. ltb p n ≡ b → cond b (Some p) None ≡ None → p ≡ n) [
      | true ↦ λ t f. absurd (none-some p (sym f))
      | false ↦ λ t f. let h = ltb-false p n t in omega (arith, h, le)
    ] refl e
