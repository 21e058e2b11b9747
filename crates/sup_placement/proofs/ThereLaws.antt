-- Which ids are there, by look-ups.
use Rattle.std.proofs.Common.{◌≡◌, ℕ, ◌+◌, ◌<◌, ◌++◌, length, take, get_or, Bool, true, false, ◌||◌, ◌&&◌, not, cond, List, [], ◌∷◌, refl, sym, ap, ◌∙◌, subst, Option, Some, None}
use Rattle.std.specs.Prelude.{bytes_eq}
use Rattle.std.specs.Prelude.{if◌then◌else◌}
use Rattle.std.proofs.lemmas.Cmp.{nat_list_cmp_total, eq_by_cmp_equiv}
use Rattle.std.proofs.lemmas.List.{take_more}
use Rattle.std.proofs.lemmas.List.Folds.{list_any-append}
use Rattle.std.proofs.Math.Bool.{or-false}
use Rattle.std.specs.Option.{is_some}
use Rattle.std.specs.Ordering.{is_eq}
use Rattle.std.specs.List.{list_any}
use Rattle.std.specs.Map.{keys_of, lookup}
use Rattle.std.specs.Cmp.Lexicographic.{texts_ties}
use Rattle.std.specs.Cmp.{Equal-is}
use Rattle.std.proofs.lemmas.Map.Lookups.{exact_bytes}
use Rattle.sup_specs.specs.Values.{Bytes, text_cmp}
use Rattle.sup_placement.specs.Place.{Weigher, place}
use Rattle.sup_placement.specs.Assigned.{IsPlaced}

pub exact : (a b : Bytes) → bytes_eq a b ≡ true → a ≡ b
exact a b h = exact_bytes a b ((Equal-is _).0 (sym (texts_ties a b) ∙ h))

module _ {X : Type 0} where
  pub by_bytes : (q : Bytes) (es : List (Bytes × X)) → lookup (λ k. is_eq (text_cmp q k)) es ≡ lookup (bytes_eq q) es
  by_bytes q es = sym (λ j. lookup (λ k. texts_ties q k j) es)

  pub there : (test : Bytes → Bool) (es : List (Bytes × X)) → list_any test (keys_of es) ≡ is_some (lookup test es)
  there test [] = refl
  there test (e ∷ es) =
      elim (test e.0) as (λ b. (b || list_any test (keys_of es)) ≡ is_some (cond b (Some e.1) (lookup test es))) [
        | true ↦ refl
        | false ↦ there test es
      ]

  -- one more that is there
  pub put_there : (id q : Bytes) (x : X) (old new : List (Bytes × X)) → lookup (λ k. is_eq (text_cmp q k)) new ≡ cond (is_eq (text_cmp id q)) (Some x) (lookup (λ k. is_eq (text_cmp q k)) old)
      → list_any (bytes_eq q) (keys_of new) ≡ (bytes_eq id q || list_any (bytes_eq q) (keys_of old))
  put_there id q x old new h =
      there (bytes_eq q) new
      ∙ ap is_some (sym (by_bytes q new) ∙ h ∙ (λ j. cond (sym (texts_ties id q) j) (Some x) (by_bytes q old j)))
      ∙ at (bytes_eq id q)
      ∙ ap (λ b. bytes_eq id q || b) (sym (there (bytes_eq q) old))
    where
      at : (b : Bool) → is_some (cond b (Some x) (lookup (bytes_eq q) old)) ≡ (b || is_some (lookup (bytes_eq q) old))
      at true = refl
      at false = refl

  -- one that is there no more
  pub take_there : (id q : Bytes) (old new : List (Bytes × X)) → lookup (λ k. is_eq (text_cmp q k)) new ≡ cond (is_eq (text_cmp id q)) None (lookup (λ k. is_eq (text_cmp q k)) old)
      → list_any (bytes_eq q) (keys_of new) ≡ (not (bytes_eq id q) && list_any (bytes_eq q) (keys_of old))
  take_there id q old new h =
      there (bytes_eq q) new
      ∙ ap is_some (sym (by_bytes q new) ∙ h ∙ (λ j. cond (sym (texts_ties id q) j) None (by_bytes q old j)))
      ∙ at (bytes_eq id q)
      ∙ ap (λ b. not (bytes_eq id q) && b) (sym (there (bytes_eq q) old))
    where
      at : (b : Bool) → is_some (cond b None (lookup (bytes_eq q) old)) ≡ (not b && is_some (lookup (bytes_eq q) old))
      at true = refl
      at false = refl

module _ (weight : Weigher) (members : List Bytes) where
  pub put_placed : (id q : Bytes) (runner : Option Bytes) (old new : List (Bytes × Option Bytes)) → runner ≡ place weight members id → lookup (λ k. is_eq (text_cmp q k)) new ≡ cond (is_eq (text_cmp id q)) (Some runner) (lookup (λ k. is_eq (text_cmp q k)) old)
      → IsPlaced weight members q (lookup (bytes_eq q) old) → IsPlaced weight members q (lookup (bytes_eq q) new)
  put_placed id q runner old new is h was =
      subst (IsPlaced weight members q) (sym (sym (by_bytes q new) ∙ h ∙ (λ j. cond (sym (texts_ties id q) j) (Some runner) (by_bytes q old j)))) (at (bytes_eq id q) refl)
    where
      at : (b : Bool) → bytes_eq id q ≡ b → IsPlaced weight members q (cond b (Some runner) (lookup (bytes_eq q) old))
      at true e = is ∙ ap (place weight members) (exact id q e)
      at false e = was

  pub take_placed : (id q : Bytes) (old new : List (Bytes × Option Bytes)) → lookup (λ k. is_eq (text_cmp q k)) new ≡ cond (is_eq (text_cmp id q)) None (lookup (λ k. is_eq (text_cmp q k)) old)
      → IsPlaced weight members q (lookup (bytes_eq q) old) → IsPlaced weight members q (lookup (bytes_eq q) new)
  take_placed id q old new h was =
      subst (IsPlaced weight members q) (sym (sym (by_bytes q new) ∙ h ∙ (λ j. cond (sym (texts_ties id q) j) None (by_bytes q old j)))) (at (bytes_eq id q))
    where
      at : (b : Bool) → IsPlaced weight members q (cond b None (lookup (bytes_eq q) old))
      at true = tt
      at false = was

pub eq_turned : (a b : Bytes) → bytes_eq a b ≡ bytes_eq b a
eq_turned a b = texts_ties a b ∙ (eq_by_cmp_equiv nat_list_cmp_total).symm a b ∙ sym (texts_ties b a)

or_turned : (a b : Bool) → (a || b) ≡ (b || a)
or_turned true true = refl
or_turned true false = refl
or_turned false true = refl
or_turned false false = refl

pub any_step : {X : Type 0} (p : X → Bool) (xs : List X) (i : ℕ) (x : X) → i < length xs → x ≡ get_or xs i x → (p x || list_any p (take i xs)) ≡ list_any p (take (i + 1) xs)
any_step p xs i x lt is =
    or_turned (p x) (list_any p (take i xs))
    ∙ ap (λ b. list_any p (take i xs) || b) (sym (or-false (p x)))
    ∙ sym (list_any-append p (take i xs) (x ∷ []))
    ∙ ap (list_any p) (ap (λ y. take i xs ++ y ∷ []) is ∙ sym (take_more xs i x lt))

pub or_as_if : (b x : Bool) → (b || x) ≡ (if b then true else x)
or_as_if true x = refl
or_as_if false x = refl
