-- The image of a list that is one message longer.
use Rattle.std.proofs.Common.{◌≡◌, ◌≢◌, ℕ, zero, suc, ◌+◌, ◌-◌, ◌<◌, ◌≤◌, Bool, true, false, List, [], ◌∷◌, ◌++◌, length, Some, refl, ap, ◌∙◌, sym, arith, append-nil}
use Rattle.std.specs.Prelude.{◌==◌, flat_map, slice_get, option_to_list, if◌then◌else◌}
use Rattle.std.proofs.lemmas.Grind.{flat_map-append}
use Rattle.std.proofs.lemmas.List.{length-append}
use Rattle.std.proofs.lemmas.Bool.{eqb-true}
use Rattle.sup_links.specs.declared.script.Verdict.{Verdict}
use Rattle.sup_links.specs.declared.script.Verdict.TheVariants.{Pass, Lose, Twice, Hold}
use Rattle.sup_links.specs.Image.{numbers, verdict, message, copies, released, behind, image}

-- functions that agree on 1 to n
pub flat_map_numbers : {X : Type 0} (f g : ℕ → List X) (n : ℕ) → ((i : ℕ) → 0 < i → i ≤ n → f i ≡ g i) → flat_map f (numbers n) ≡ flat_map g (numbers n)
flat_map_numbers f g zero h = refl
flat_map_numbers f g (suc n) h = flat_map-append f (numbers n) ((n + 1) ∷ [])
    ∙ (ap (λ l. l ++ (f (n + 1) ++ [])) (flat_map_numbers f g n (λ i a b. h i a (omega arith))) ∙ ap (λ l. flat_map g (numbers n) ++ (l ++ [])) (h (n + 1) (omega arith) (omega arith)))
    ∙ sym (flat_map-append g (numbers n) ((n + 1) ∷ []))

slice_get_front : {X : Type 0} (xs ys : List X) (i : ℕ) → i < length xs → slice_get (xs ++ ys) i ≡ slice_get xs i
slice_get_front [] ys i h = absurd (omega arith)
slice_get_front (x ∷ xs) ys zero h = refl
slice_get_front (x ∷ xs) ys (suc i) h = slice_get_front xs ys i (omega arith)

slice_get_end : {X : Type 0} (xs : List X) (y : X) → slice_get (xs ++ y ∷ []) (length xs) ≡ Some y
slice_get_end [] y = refl
slice_get_end (x ∷ xs) y = slice_get_end xs y

pub message_front : {X : Type 0} (sent : List X) (m : X) (i : ℕ) → 0 < i → i ≤ length sent → message (sent ++ m ∷ []) i ≡ message sent i
message_front sent m i a b = ap option_to_list (slice_get_front sent (m ∷ []) (i - 1) (omega arith))

pub message_end : {X : Type 0} (sent : List X) (m : X) → message (sent ++ m ∷ []) (length sent + 1) ≡ m ∷ []
message_end sent m = let e : length sent + 1 - 1 ≡ length sent = omega arith in ap (λ k. option_to_list (slice_get (sent ++ m ∷ []) k)) e ∙ ap option_to_list (slice_get_end sent m)

not_yet : {X : Type 0} (b : Bool) (l : List X) → b ≢ true → (if b then l else []) ≡ []
not_yet true l h = absurd (h refl)
not_yet false l h = refl

-- a later message isn't released behind an earlier one
later : {X : Type 0} (v : Verdict) (i j : ℕ) (l : List X) → j < i → released v i j l ≡ []
later Pass i j l h = refl
later Lose i j l h = refl
later Twice i j l h = refl
later (Hold n) i j l h = not_yet (i + n == j) l (λ e. let x : i + n ≡ j = eqb-true (i + n) j e in absurd (omega arith))

numbers_one : (n : ℕ) → numbers (n + 1) ≡ numbers n ++ (n + 1) ∷ []
numbers_one n = let e : n + 1 ≡ suc n = omega arith in ap numbers e

pub flat_last : {X : Type 0} (f : ℕ → List X) (n : ℕ) → flat_map f (numbers (n + 1)) ≡ flat_map f (numbers n) ++ f (n + 1)
flat_last f n = ap (flat_map f) (numbers_one n) ∙ (flat_map-append f (numbers n) ((n + 1) ∷ []) ∙ ap (λ l. flat_map f (numbers n) ++ l) (append-nil (f (n + 1))))

pub behind_front : {X : Type 0} (script : List Verdict) (sent : List X) (m : X) (j : ℕ) → j ≤ length sent → behind script (sent ++ m ∷ []) (length sent + 1) j ≡ behind script sent (length sent) j
behind_front {X} script sent m j h = let n : ℕ = length sent in
    let f : ℕ → List X = λ i. released (verdict script i) i j (message (sent ++ m ∷ []) i) in
    let g : ℕ → List X = λ i. released (verdict script i) i j (message sent i) in
    flat_last f n
    ∙ (ap (λ l. flat_map f (numbers n) ++ l) (later (verdict script (n + 1)) (n + 1) j (message (sent ++ m ∷ []) (n + 1)) (omega arith))
    ∙ (append-nil (flat_map f (numbers n)) ∙ flat_map_numbers f g n (λ i a b. ap (λ l. released (verdict script i) i j l) (message_front sent m i a b))))

-- what message m brings out: its copies, and what is released behind it
pub image_one : {X : Type 0} (script : List Verdict) (sent : List X) (m : X)
    → image script (sent ++ m ∷ []) ≡ image script sent ++ (copies (verdict script (length sent + 1)) (m ∷ []) ++ behind script (sent ++ m ∷ []) (length sent + 1) (length sent + 1))
image_one {X} script sent m = let n : ℕ = length sent in let all : List X = sent ++ m ∷ [] in
    let at : ℕ → ℕ → List X = λ k j. copies (verdict script j) (message all j) ++ behind script all k j in
    let was : ℕ → List X = λ j. copies (verdict script j) (message sent j) ++ behind script sent n j in
    ap (λ k. flat_map (at k) (numbers k)) (length-append sent (m ∷ []))
    ∙ (flat_last (at (n + 1)) n
    ∙ (ap (λ l. l ++ at (n + 1) (n + 1)) (flat_map_numbers (at (n + 1)) was n
    (λ j a b. ap (λ l. copies (verdict script j) l ++ behind script all (n + 1) j) (message_front sent m j a b) ∙ ap (λ l. copies (verdict script j) (message sent j) ++ l) (behind_front script sent m j b)))
    ∙ ap (λ l. flat_map was (numbers n) ++ (copies (verdict script (n + 1)) l ++ behind script all (n + 1) (n + 1))) (message_end sent m)))
