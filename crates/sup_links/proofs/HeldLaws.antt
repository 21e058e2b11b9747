-- What one message more does to those that wait, and so to the image.
use Rattle.std.proofs.Common.{◌≡◌, ℕ, ◌+◌, ◌-◌, Bool, true, false, List, [], ◌∷◌, ◌++◌, length, refl, ap, ◌∙◌, sym, arith, append-nil, not, ◌&&◌}
use Rattle.std.specs.Prelude.{◌==◌, nat_lt, map, flat_map, if◌then◌else◌}
use Rattle.std.proofs.lemmas.Grind.{flat_map-append}
use Rattle.std.proofs.lemmas.Bool.Decides.{nat_tests}
use Rattle.std.proofs.lemmas.List.{length_push, map-append}
use Rattle.sup_links.specs.declared.script.Verdict.{Verdict}
use Rattle.sup_links.specs.declared.script.Verdict.TheVariants.{Pass, Lose, Twice, Hold}
use Rattle.sup_links.specs.Image.{numbers, verdict, message, copies, released, behind, image, waits, held_of}
use Rattle.sup_links.specs.Waiting.{counted, due, kept, held_back}
use Rattle.sup_links.proofs.ImageLaws.{flat_map_numbers, flat_last, message_front, message_end, image_one}

now_due : (j n : ℕ) → (nat_lt n j && (j - n - 1 == 0)) ≡ (j == n + 1)
now_due j n = grind (arith, nat_tests)

not_due : (j n : ℕ) → (nat_lt n j && not (j - n - 1 == 0)) ≡ nat_lt (n + 1) j
not_due j n = grind (arith, nat_tests)

one_less : (j n : ℕ) → j - n - 1 ≡ j - (n + 1)
one_less j n = omega arith

own_due : (k n : ℕ) → (k + 1 - 1 == 0) ≡ (n + k == n)
own_due k n = grind (arith, nat_tests)

own_kept : (k n : ℕ) → not (k + 1 - 1 == 0) ≡ nat_lt n (n + k)
own_kept k n = grind (arith, nat_tests)

own_left : (k n : ℕ) → k + 1 - 1 ≡ n + k - n
own_left k n = omega arith

if_nil : {Y : Type 0} (b : Bool) (l : List Y) → l ≡ [] → l ≡ (if b then l else [])
if_nil true l e = refl
if_nil false l e = e

if_cons : {Y : Type 0} (b : Bool) (y : Y) (l : List Y) → (if b then y ∷ [] else []) ++ (if b then l else []) ≡ (if b then y ∷ l else [])
if_cons true y l = refl
if_cons false y l = refl

unless_nil : {Y : Type 0} (b : Bool) (l : List Y) → l ≡ [] → l ≡ (if b then [] else l)
unless_nil true l e = e
unless_nil false l e = refl

unless_cons : {Y : Type 0} (b : Bool) (y : Y) (l : List Y) → (if b then [] else y ∷ []) ++ (if b then [] else l) ≡ (if b then [] else y ∷ l)
unless_cons true y l = refl
unless_cons false y l = refl

if_not : {Y : Type 0} (b : Bool) (l : List Y) → (if b then [] else l) ≡ (if not b then l else [])
if_not true l = refl
if_not false l = refl

module _ {X : Type 0} where
  due_more : (a b : List (ℕ × X)) → due (counted (a ++ b)) ≡ due (counted a) ++ due (counted b)
  due_more a b = ap due (map-append (λ (w : ℕ × X). (w.0 - 1, w.1)) a b) ∙ flat_map-append (λ (w : ℕ × X). if w.0 == 0 then w.1 ∷ [] else []) (counted a) (counted b)

  kept_more : (a b : List (ℕ × X)) → kept (counted (a ++ b)) ≡ kept (counted a) ++ kept (counted b)
  kept_more a b = ap kept (map-append (λ (w : ℕ × X). (w.0 - 1, w.1)) a b) ∙ flat_map-append (λ (w : ℕ × X). if w.0 == 0 then [] else w ∷ []) (counted a) (counted b)

  due_flat : (f : ℕ → List (ℕ × X)) (ns : List ℕ) → due (counted (flat_map f ns)) ≡ flat_map (λ i. due (counted (f i))) ns
  due_flat f [] = refl
  due_flat f (n ∷ ns) = due_more (f n) (flat_map f ns) ∙ ap (λ l. due (counted (f n)) ++ l) (due_flat f ns)

  kept_flat : (f : ℕ → List (ℕ × X)) (ns : List ℕ) → kept (counted (flat_map f ns)) ≡ flat_map (λ i. kept (counted (f i))) ns
  kept_flat f [] = refl
  kept_flat f (n ∷ ns) = kept_more (f n) (flat_map f ns) ∙ ap (λ l. kept (counted (f n)) ++ l) (kept_flat f ns)

  due_all : (left : ℕ) (m : List X) → due (counted (map (λ x. (left, x)) m)) ≡ (if left - 1 == 0 then m else [])
  due_all left [] = if_nil (left - 1 == 0) [] refl
  due_all left (x ∷ m) = ap (λ l. (if left - 1 == 0 then x ∷ [] else []) ++ l) (due_all left m) ∙ if_cons (left - 1 == 0) x m

  kept_all : (left : ℕ) (m : List X) → kept (counted (map (λ x. (left, x)) m)) ≡ (if left - 1 == 0 then [] else map (λ x. (left - 1, x)) m)
  kept_all left [] = unless_nil (left - 1 == 0) [] refl
  kept_all left (x ∷ m) = ap (λ l. (if left - 1 == 0 then [] else (left - 1, x) ∷ []) ++ l) (kept_all left m) ∙ unless_cons (left - 1 == 0) (left - 1, x) (map (λ y. (left - 1, y)) m)

  due_if : (b : Bool) (left : ℕ) (m : List X) → due (counted (if b then map (λ x. (left, x)) m else [])) ≡ (if b && (left - 1 == 0) then m else [])
  due_if true left m = due_all left m
  due_if false left m = refl

  kept_if : (b : Bool) (left : ℕ) (m : List X) → kept (counted (if b then map (λ x. (left, x)) m else [])) ≡ (if b && not (left - 1 == 0) then map (λ x. (left - 1, x)) m else [])
  kept_if true left m = kept_all left m ∙ if_not (left - 1 == 0) (map (λ x. (left - 1, x)) m)
  kept_if false left m = refl

  due_waits : (v : Verdict) (i n : ℕ) (m : List X) → due (counted (waits v i n m)) ≡ released v i (n + 1) m
  due_waits Pass i n m = refl
  due_waits Lose i n m = refl
  due_waits Twice i n m = refl
  due_waits (Hold k) i n m = due_if (nat_lt n (i + k)) (i + k - n) m ∙ ap (λ b. if b then m else []) (now_due (i + k) n)

  kept_waits : (v : Verdict) (i n : ℕ) (m : List X) → kept (counted (waits v i n m)) ≡ waits v i (n + 1) m
  kept_waits Pass i n m = refl
  kept_waits Lose i n m = refl
  kept_waits Twice i n m = refl
  kept_waits (Hold k) i n m = kept_if (nat_lt n (i + k)) (i + k - n) m
      ∙ (ap (λ b. if b then map (λ x. (i + k - n - 1, x)) m else []) (not_due (i + k) n) ∙ ap (λ left. if nat_lt (n + 1) (i + k) then map (λ x. (left, x)) m else []) (one_less (i + k) n))

  due_back : (v : Verdict) (n : ℕ) (m : X) → due (counted (held_back v m)) ≡ released v n n (m ∷ [])
  due_back Pass n m = refl
  due_back Lose n m = refl
  due_back Twice n m = refl
  due_back (Hold k) n m = append-nil (if k + 1 - 1 == 0 then m ∷ [] else []) ∙ ap (λ b. if b then m ∷ [] else []) (own_due k n)

  kept_back : (v : Verdict) (n : ℕ) (m : X) → kept (counted (held_back v m)) ≡ waits v n n (m ∷ [])
  kept_back Pass n m = refl
  kept_back Lose n m = refl
  kept_back Twice n m = refl
  kept_back (Hold k) n m = append-nil (if k + 1 - 1 == 0 then [] else (k + 1 - 1, m) ∷ [])
      ∙ (if_not (k + 1 - 1 == 0) ((k + 1 - 1, m) ∷ [])
      ∙ (ap (λ b. if b then (k + 1 - 1, m) ∷ [] else []) (own_kept k n) ∙ ap (λ left. if nat_lt n (n + k) then (left, m) ∷ [] else []) (own_left k n)))

  module _ (script : List Verdict) (sent : List X) (m : X) where
    abbrev count : ℕ
    count = length sent

    abbrev all : List X
    all = sent ++ m ∷ []

    abbrev last : Verdict
    last = verdict script (count + 1)

    pub due_step : due (counted (held_of script sent ++ held_back last m)) ≡ behind script all (count + 1) (count + 1)
    due_step = let was : ℕ → List (ℕ × X) = λ i. waits (verdict script i) i count (message sent i) in
        let out : ℕ → List X = λ i. released (verdict script i) i (count + 1) (message all i) in
        due_more (held_of script sent) (held_back last m)
        ∙ (ap (λ l. l ++ due (counted (held_back last m))) (due_flat was (numbers count)
        ∙ flat_map_numbers (λ i. due (counted (was i))) out count (λ i a b. due_waits (verdict script i) i count (message sent i) ∙ ap (λ l. released (verdict script i) i (count + 1) l) (sym (message_front sent m i a b))))
        ∙ (ap (λ l. flat_map out (numbers count) ++ l) (due_back last (count + 1) m ∙ ap (λ l. released last (count + 1) (count + 1) l) (sym (message_end sent m)))
        ∙ sym (flat_last out count)))

    pub kept_step : kept (counted (held_of script sent ++ held_back last m)) ≡ held_of script all
    kept_step = let was : ℕ → List (ℕ × X) = λ i. waits (verdict script i) i count (message sent i) in
        let now : ℕ → List (ℕ × X) = λ i. waits (verdict script i) i (count + 1) (message all i) in
        let whole : ℕ → List (ℕ × X) = λ n. flat_map (λ i. waits (verdict script i) i n (message all i)) (numbers n) in
        kept_more (held_of script sent) (held_back last m)
        ∙ (ap (λ l. l ++ kept (counted (held_back last m))) (kept_flat was (numbers count)
        ∙ flat_map_numbers (λ i. kept (counted (was i))) now count (λ i a b. kept_waits (verdict script i) i count (message sent i) ∙ ap (λ l. waits (verdict script i) i (count + 1) l) (sym (message_front sent m i a b))))
        ∙ (ap (λ l. flat_map now (numbers count) ++ l) (kept_back last (count + 1) m ∙ ap (λ l. waits last (count + 1) (count + 1) l) (sym (message_end sent m)))
        ∙ (sym (flat_last now count) ∙ ap whole (sym (length_push sent m)))))

    -- the image grows by the copies of the message, and then by those that wait no more
    pub image_step : image script all ≡ image script sent ++ (copies last (m ∷ []) ++ due (counted (held_of script sent ++ held_back last m)))
    image_step = image_one script sent m ∙ ap (λ l. image script sent ++ (copies last (m ∷ []) ++ l)) (sym due_step)
