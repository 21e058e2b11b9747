-- One edit of a text, and none.
use Rattle.std.proofs.Common.{◌≡◌, ◌<◌, ◌≤◌, ℕ, zero, suc, ◌-◌, List, ◌∷◌, [], ◌++◌, length, take, drop, refl, sym, ◌∙◌, ap, arith, append_assoc}
use Rattle.std.proofs.lemmas.Bool.Decides.{nat_tests}
use Rattle.sup_specs.specs.Values.{Bytes}
use Rattle.sup_journal.specs.Edits.{Edit, edited, edits_among, first_edit, behind_first, retained_by, deleted_by, inserted_by}

among_suc : (m : ℕ) (bytes : Bytes) → 24 ≤ length bytes → edits_among (suc m) bytes ≡ first_edit bytes ∷ edits_among m (behind_first bytes)
unfolding edits_among
among_suc m bytes long = grind (arith, nat_tests)

pub among_more : (n : ℕ) (bytes : Bytes) → 0 < n → 24 ≤ length bytes → edits_among n bytes ≡ first_edit bytes ∷ edits_among (n - 1) (behind_first bytes)
among_more zero bytes some long = absurd (omega arith)
among_more (suc m) bytes some long =
    let less : suc m - 1 ≡ m = omega arith in
    among_suc m bytes long ∙ ap (λ (k : ℕ). first_edit bytes ∷ edits_among k (behind_first bytes)) (sym less)

pub among_short : (n : ℕ) (bytes : Bytes) → length bytes < 24 → edits_among n bytes ≡ []
unfolding edits_among
among_short zero bytes short = refl
among_short (suc m) bytes short = grind (arith, nat_tests)

among_spent : (n : ℕ) (bytes : Bytes) → n ≡ 0 → edits_among n bytes ≡ []
unfolding edits_among
among_spent zero bytes none = refl
among_spent (suc m) bytes none = absurd (omega arith)

pub edited_nil : (text : Bytes) → edited [] text ≡ text
unfolding edited
edited_nil text = refl

pub edited_cons : (e : Edit) (edits : List Edit) (text : Bytes) → edited (e ∷ edits) text ≡ take e.retained text ++ (e.inserted ++ edited edits (drop e.deleted (drop e.retained text)))
unfolding edited
edited_cons e edits text = refl

-- all stays where no edit is left
pub edit_none : (n : ℕ) (bytes text : Bytes) → length bytes < 24 → edited (edits_among n bytes) text ≡ text
edit_none n bytes text short = ap (λ (edits : List Edit). edited edits text) (among_short n bytes short) ∙ edited_nil text

pub edit_spent : (n : ℕ) (bytes text : Bytes) → n ≡ 0 → edited (edits_among n bytes) text ≡ text
edit_spent n bytes text none = ap (λ (edits : List Edit). edited edits text) (among_spent n bytes none) ∙ edited_nil text

-- an edit was made, and the rest is left
made_on : (whole made rest from : Bytes) (turns : ℕ) → whole ≡ made ++ edited (edits_among turns rest) from → 0 < turns → 24 ≤ length rest
    → whole ≡ ((made ++ take (retained_by rest) from) ++ take (inserted_by rest) (drop 24 rest)) ++ edited (edits_among (turns - 1) (behind_first rest)) (drop (deleted_by rest) (drop (retained_by rest) from))
made_on whole made rest from turns so_far some long =
    let kept : Bytes = take (retained_by rest) from in
    let new : Bytes = take (inserted_by rest) (drop 24 rest) in
    let left : Bytes = edited (edits_among (turns - 1) (behind_first rest)) (drop (deleted_by rest) (drop (retained_by rest) from)) in
    so_far
    ∙ ap (λ (edits : List Edit). made ++ edited edits from) (among_more turns rest some long)
    ∙ ap (λ (t : Bytes). made ++ t) (edited_cons (first_edit rest) (edits_among (turns - 1) (behind_first rest)) from)
    ∙ sym (append_assoc made kept (new ++ left))
    ∙ sym (append_assoc (made ++ kept) new left)

pub made_then : (whole made rest from m1 m2 f1 f2 texts rest_then from_then back : Bytes) (turns retained deleted inserted : ℕ)
    → whole ≡ made ++ edited (edits_among turns rest) from → 0 < turns → 24 ≤ length rest
    → retained ≡ retained_by rest → deleted ≡ deleted_by rest → inserted ≡ inserted_by rest → texts ≡ drop 24 rest
    → f1 ≡ take retained from → m1 ≡ made ++ f1 → f2 ≡ take inserted texts → m2 ≡ m1 ++ f2
    → rest_then ≡ drop inserted texts → back ≡ drop retained from → from_then ≡ drop deleted back
    → whole ≡ m2 ++ edited (edits_among (turns - 1) rest_then) from_then
made_then whole made rest from m1 m2 f1 f2 texts rest_then from_then back turns retained deleted inserted so_far some long s g c t a b d e f h i =
    let all = made_on whole made rest from turns so_far some long in cc
