-- Items of lists.
use Rattle.std.specs.Prelude.{◌≡◌, ℕ, ◌<◌, ◌+◌, zero, suc, Bool, true, false, cond, List, [], ◌∷◌, ◌++◌, length, map, flat_map, Some, slice_get, slice_index_or, All, Contains, refl}
use Rattle.std.specs.List.{filter}
use Rattle.std.proofs.Common.{sym, ap, ◌∙◌, subst, arith, append-nil, length-append, append_assoc, take}
use Rattle.std.proofs.lemmas.List.{map-append}
use Rattle.std.proofs.lemmas.Option.{slice_get_within, get_or_from_slice_get, slice_get-get_or, none-some, same_Some}
use Rattle.std.proofs.lemmas.List.Elements.{All-cons, All-tail, Contains-append_left, Contains-append_right, All-append, filter-append}
use Rattle.sup_posts.proofs.ItemLaws.{all_none}

module _ {X : Type 0} where
  pub all_at : (P : X → Type 0) (xs : List X) → ((i : ℕ) (x : X) → slice_get xs i ≡ Some x → P x) → All P xs
  all_at P xs f k d lt = f k (slice_index_or xs k d) (slice_get-get_or xs k d lt)

  pub contained : (P : X → Type 0) (xs : List X) (x : X) → All P xs → Contains xs x → P x
  contained P xs x h c = subst P c.2 (h c.0 x c.1)

  pub place_of : (xs : List X) (x : X) → Contains xs x → (i : ℕ) × (slice_get xs i ≡ Some x)
  place_of xs x c = (c.0, slice_get-get_or xs c.0 x c.1 ∙ ap Some c.2)

  pub stands_in : (xs : List X) (i : ℕ) (x : X) → slice_get xs i ≡ Some x → Contains xs x
  stands_in xs i x e = (i, slice_get_within xs i x e, get_or_from_slice_get xs i x x e)

  pub get_left : (xs ys : List X) (i : ℕ) (x : X) → slice_get xs i ≡ Some x → slice_get (xs ++ ys) i ≡ Some x
  get_left [] ys i x e = absurd (none-some x e)
  get_left (z ∷ xs) ys zero x e = e
  get_left (z ∷ xs) ys (suc i) x e = get_left xs ys i x e

  pub get_right : (xs ys : List X) (i : ℕ) → slice_get (xs ++ ys) (length xs + i) ≡ slice_get ys i
  get_right [] ys i = let same : 0 + i ≡ i = omega arith in ap (slice_get ys) same
  get_right (z ∷ xs) ys i = let next : suc (length xs) + i ≡ suc (length xs + i) = omega arith in ap (slice_get (z ∷ (xs ++ ys))) next ∙ get_right xs ys i

  -- a list with an item at a place, cut there
  pub split_place : (xs : List X) (j : ℕ) (x : X) → slice_get xs j ≡ Some x → (before after : List X) × (xs ≡ before ++ x ∷ after) × (length before ≡ j)
  split_place [] j x e = absurd (none-some x e)
  split_place (z ∷ xs) zero x e = ([], xs, ap (λ y. y ∷ xs) (same_Some z x e), refl)
  split_place (z ∷ xs) (suc j) x e = let r = split_place xs j x e in (z ∷ r.0, r.1, ap (λ l. z ∷ l) r.2, ap suc r.3)

  pub get_next : (xs ys : List X) (x : X) → slice_get (xs ++ x ∷ ys) (length xs) ≡ Some x
  get_next [] ys x = refl
  get_next (z ∷ xs) ys x = get_next xs ys x

  -- the next of what is taken one after another
  pub next_of : (gone rest all : List X) (x : X) (more : List X) (n : ℕ) → gone ++ rest ≡ all → rest ≡ x ∷ more → length gone ≡ n → slice_get all n ≡ Some x
  next_of gone rest all x more n e is long = subst (λ (p : List X × ℕ). slice_get p.0 p.1 ≡ Some x) (λ i. ((ap (λ l. gone ++ l) (sym is) ∙ e) i, long i)) (get_next gone more x)

  pub long_both : (gone rest all : List X) → gone ++ rest ≡ all → length gone + length rest ≡ length all
  long_both gone rest all e = sym (length-append gone rest) ∙ ap length e

  pub same_place : (xs : List X) (i j : ℕ) (x y : X) → slice_get xs i ≡ Some x → slice_get xs j ≡ Some y → i ≡ j → x ≡ y
  same_place xs i j x y e f same = same_Some x y (sym e ∙ ap (slice_get xs) same ∙ f)

  -- and all that do stood there
  pub filter_contains : (p : X → Bool) (xs : List X) (x : X) → Contains (filter p xs) x → Contains xs x × (p x ≡ true)
  filter_contains p [] x c = absurd (nothing c.0 c.1)
    where
      nothing : (k : ℕ) → k < 0 → ⊥
      nothing k lt = omega (arith, lt)
  filter_contains p (y ∷ ys) x c = split (filter_contains p ys x) (p y) refl c
    where
      later : Contains ys x × (p x ≡ true) → Contains (y ∷ ys) x × (p x ≡ true)
      later r = ((suc r.0.0, omega (arith, r.0.1), r.0.2), r.1)

      here : (Contains (filter p ys) x → Contains ys x × (p x ≡ true)) → p y ≡ true → Contains (y ∷ filter p ys) x → Contains (y ∷ ys) x × (p x ≡ true)
      here rec t (zero, lt, e) = ((0, omega arith, e), ap p (sym e) ∙ t)
      here rec t (suc k, lt, e) = later (rec (k, omega (arith, lt), e))

      split : (Contains (filter p ys) x → Contains ys x × (p x ≡ true)) → (b : Bool) → p y ≡ b → Contains (cond b (y ∷ filter p ys) (filter p ys)) x → Contains (y ∷ ys) x × (p x ≡ true)
      split rec true t d = here rec t d
      split rec false t d = later (rec d)

-- what stands in a part stands in the whole
pub flat_contains : {X Y : Type 0} (f : X → List Y) (xs : List X) (i : ℕ) (x : X) (y : Y) → slice_get xs i ≡ Some x → Contains (f x) y → Contains (flat_map f xs) y
flat_contains f [] i x y e c = absurd (none-some x e)
flat_contains f (z ∷ zs) zero x y e c = Contains-append_left (f z) (flat_map f zs) y (subst (λ w. Contains (f w) y) (sym (same_Some z x e)) c)
flat_contains f (z ∷ zs) (suc i) x y e c = Contains-append_right (f z) (flat_map f zs) y (flat_contains f zs i x y e c)

pub all_flat : {X Y : Type 0} (P : Y → Type 0) (f : X → List Y) (xs : List X) → ((i : ℕ) (x : X) → slice_get xs i ≡ Some x → All P (f x)) → All P (flat_map f xs)
all_flat P f [] h = all_none P
all_flat P f (x ∷ xs) h = All-append P (f x) (flat_map f xs) (h 0 x refl) (all_flat P f xs (λ i y e. h (suc i) y e))

-- what a test lets in behind the others, and what it doesn't
pub filter_in : {X : Type 0} (p : X → Bool) (xs : List X) (x : X) (ys zs : List X) → p x ≡ true → ys ≡ filter p xs → zs ≡ ys ++ x ∷ [] → zs ≡ filter p (xs ++ x ∷ [])
filter_in p xs x ys zs t e f = f ∙ ap (λ l. l ++ x ∷ []) e ∙ ap (λ b. filter p xs ++ cond b (x ∷ []) []) (sym t) ∙ sym (filter-append p xs (x ∷ []))

pub filter_out : {X : Type 0} (p : X → Bool) (xs : List X) (x : X) (ys : List X) → p x ≡ false → ys ≡ filter p xs → ys ≡ filter p (xs ++ x ∷ [])
filter_out p xs x ys t e = e ∙ sym (append-nil (filter p xs)) ∙ ap (λ b. filter p xs ++ cond b (x ∷ []) []) (sym t) ∙ sym (filter-append p xs (x ∷ []))

-- what stands among images is the image of something
pub map_contains : {X Y : Type 0} (f : X → Y) (xs : List X) (y : Y) → Contains (map f xs) y → (x : X) × Contains xs x × (f x ≡ y)
map_contains f [] y c = let lt = c.1 in absurd (omega (arith, lt))
map_contains f (x ∷ xs) y (zero, lt, e) = (x, (0, omega arith, refl), e)
map_contains f (x ∷ xs) y (suc k, lt, e) = let r = map_contains f xs y (k, omega (arith, lt), e) in let low = r.1.1 in (r.0, (suc r.1.0, omega (arith, low), r.1.2), r.2)

pub all_unmap : {X Y : Type 0} (P : Y → Type 0) (f : X → Y) (xs : List X) → All P (map f xs) → All (λ x. P (f x)) xs
all_unmap P f [] h = all_none (λ x. P (f x))
all_unmap P f (x ∷ xs) h = All-cons (λ z. P (f z)) x xs (h 0 (f x) (omega arith)) (all_unmap P f xs (All-tail P (f x) (map f xs) h))

pub get_map : {X Y : Type 0} (f : X → Y) (xs : List X) (i : ℕ) (x : X) → slice_get xs i ≡ Some x → slice_get (map f xs) i ≡ Some (f x)
get_map f [] i x e = absurd (none-some x e)
get_map f (z ∷ zs) zero x e = ap (λ y. Some (f y)) (same_Some z x e)
get_map f (z ∷ zs) (suc i) x e = get_map f zs i x e

-- one item more was made of what was taken
pub taken_more : {X Y : Type 0} (f : X → Y) (made made' : List X) (x : X) (rest more all : List Y) (y : Y) → made' ≡ made ++ x ∷ [] → f x ≡ y → rest ≡ y ∷ more → map f made ++ rest ≡ all → map f made' ++ more ≡ all
taken_more f made made' x rest more all y put is next e =
    ap (λ l. map f l ++ more) put ∙ ap (λ l. l ++ more) (map-append f made (x ∷ [])) ∙ append_assoc (map f made) (f x ∷ []) more ∙ ap (λ z. map f made ++ z ∷ more) is ∙ ap (λ l. map f made ++ l) (sym next) ∙ e

pub take_all : {X : Type 0} (xs : List X) → take (length xs) xs ≡ xs
take_all [] = refl
take_all (x ∷ xs) = ap (λ l. x ∷ l) (take_all xs)
