-- An edit, written and read.
use Rattle.std.proofs.Common.{◌≡◌, ◌<◌, ℕ, ◌+◌, ◌-◌, ◌^◌, Bool, true, List, [], ◌∷◌, ◌++◌, length, take, drop, sym, ◌∙◌, ap, ap₂, arith, length-append, append_assoc, nat_le, ◌&&◌}
use Rattle.std.specs.Prelude.{◌==◌}
use Rattle.std.specs.List.{list_any}
use Rattle.std.proofs.lemmas.Bool.{or_from}
use Rattle.std.proofs.lemmas.Bool.Decides.{nat_tests}
use Rattle.std.proofs.lemmas.List.{take_at, drop_at, drop-drop, take_all, drop_all}
use Rattle.std.proofs.lemmas.List.Folds.{list_any-append}
use Rattle.sup_specs.specs.Values.{Bytes}
use Rattle.sup_journal.specs.Checksums.{checksum}
use Rattle.sup_journal.specs.Edits.{Edit, number_of, digits_of, written, edits_in, edits_among, first_edit, behind_first, retained_by, deleted_by, inserted_by}
use Rattle.sup_journal.specs.Records.{is_record, is_sum_of, line_of}
use Rattle.sup_journal.specs.Files.{is_feed, IsOneLine}
use Rattle.sup_journal.proofs.DigitLaws.{length-digits, number-digits, digits-are, digits-one_line}
use Rattle.sup_journal.proofs.EditLaws.{among_more, among_short}

pub one_line-append : (xs ys : Bytes) → IsOneLine xs → IsOneLine ys → IsOneLine (xs ++ ys)
one_line-append xs ys x y = list_any-append is_feed xs ys ∙ or_from (list_any is_feed xs) (list_any is_feed ys) x y

pub written-one_line : (e : Edit) → IsOneLine e.inserted → IsOneLine (written e)
unfolding written
written-one_line e one =
    one_line-append (digits_of 8 e.retained) (digits_of 8 e.deleted ++ (digits_of 8 (length e.inserted) ++ e.inserted)) (digits-one_line 8 e.retained)
    (one_line-append (digits_of 8 e.deleted) (digits_of 8 (length e.inserted) ++ e.inserted) (digits-one_line 8 e.deleted)
    (one_line-append (digits_of 8 (length e.inserted)) e.inserted (digits-one_line 8 (length e.inserted)) one))

four : (a b c d e : Bytes) → (((a ++ b) ++ c) ++ d) ++ e ≡ a ++ (b ++ (c ++ (d ++ e)))
four a b c d e = simp append_assoc

-- one number behind another, and what comes
pub put-written : (before first second third all : Bytes) (e : Edit) → first ≡ before ++ digits_of 8 e.retained → second ≡ first ++ digits_of 8 e.deleted
    → third ≡ second ++ digits_of 8 (length e.inserted) → all ≡ third ++ e.inserted → all ≡ before ++ written e
unfolding written
put-written before first second third all e f s t a =
    a ∙ ap (λ (b : Bytes). b ++ e.inserted) (t ∙ ap (λ (b : Bytes). b ++ digits_of 8 (length e.inserted)) (s ∙ ap (λ (b : Bytes). b ++ digits_of 8 e.deleted) f))
    ∙ four before (digits_of 8 e.retained) (digits_of 8 e.deleted) (digits_of 8 (length e.inserted)) e.inserted

pub length-written : (e : Edit) → length (written e) ≡ 24 + length e.inserted
unfolding written
length-written e = omega (
  arith,
  length-append (digits_of 8 e.retained) (digits_of 8 e.deleted ++ (digits_of 8 (length e.inserted) ++ e.inserted)),
  length-append (digits_of 8 e.deleted) (digits_of 8 (length e.inserted) ++ e.inserted),
  length-append (digits_of 8 (length e.inserted)) e.inserted,
  length-digits 8 e.retained,
  length-digits 8 e.deleted,
  length-digits 8 (length e.inserted),
)

-- three numbers and what is behind them
record Heads (bytes : Bytes) (e : Edit) : Type 0 where
  retained : take 8 bytes ≡ digits_of 8 e.retained
  deleted : take 8 (drop 8 bytes) ≡ digits_of 8 e.deleted
  inserted : take 8 (drop 16 bytes) ≡ digits_of 8 (length e.inserted)
  rest : drop 24 bytes ≡ e.inserted

heads : (e : Edit) → Heads (written e) e
unfolding written
heads e =
    let c : Bytes = digits_of 8 (length e.inserted) ++ e.inserted in
    let b : Bytes = digits_of 8 e.deleted ++ c in
    let a : Bytes = digits_of 8 e.retained ++ b in
    let at_8 : drop 8 a ≡ b = drop_at (digits_of 8 e.retained) b 8 (length-digits 8 e.retained) in
    let at_16 : drop 16 a ≡ c = sym (drop-drop 8 8 a) ∙ ap (drop 8) at_8 ∙ drop_at (digits_of 8 e.deleted) c 8 (length-digits 8 e.deleted) in
    record {
      retained = take_at (digits_of 8 e.retained) b 8 (length-digits 8 e.retained);
      deleted = ap (take 8) at_8 ∙ take_at (digits_of 8 e.deleted) c 8 (length-digits 8 e.deleted);
      inserted = ap (take 8) at_16 ∙ take_at (digits_of 8 (length e.inserted)) e.inserted 8 (length-digits 8 (length e.inserted));
      rest = sym (drop-drop 8 16 a) ∙ ap (drop 8) at_16 ∙ drop_at (digits_of 8 (length e.inserted)) e.inserted 8 (length-digits 8 (length e.inserted));
    }

fits : (n : ℕ) → n < 10 ^ 8 → number_of (digits_of 8 n) ≡ n
fits n small = number-digits 8 n (omega arith) (omega arith)

pub edits-written : (e : Edit) → e.retained < 10 ^ 8 → e.deleted < 10 ^ 8 → length e.inserted < 10 ^ 8 → edits_in (written e) ≡ e ∷ []
edits-written e r d i =
    let h = heads e in
    let long = length-written e in
    let retained : retained_by (written e) ≡ e.retained = ap number_of h.retained ∙ fits e.retained r in
    let deleted : deleted_by (written e) ≡ e.deleted = ap number_of h.deleted ∙ fits e.deleted d in
    let count : inserted_by (written e) ≡ length e.inserted = ap number_of h.inserted ∙ fits (length e.inserted) i in
    let inserted : take (inserted_by (written e)) (drop 24 (written e)) ≡ e.inserted = ap₂ (λ (k : ℕ) (t : Bytes). take k t) count h.rest ∙ take_all (length e.inserted) e.inserted (omega arith) in
    let behind : behind_first (written e) ≡ [] = ap₂ (λ (k : ℕ) (t : Bytes). drop k t) count h.rest ∙ drop_all (length e.inserted) e.inserted (omega arith) in
    let first : first_edit (written e) ≡ e = (λ k. record { retained = retained k; deleted = deleted k; inserted = inserted k }) in
    among_more (length (written e)) (written e) (omega (arith, long)) (omega (arith, long))
    ∙ ap₂ (λ (f : Edit) (es : List Edit). f ∷ es) first (ap (edits_among (length (written e) - 1)) behind ∙ among_short (length (written e) - 1) [] (omega arith))

-- edits behind their checksum
record Summed (edits : Bytes) : Type 0 where
  front : take 20 (line_of edits) ≡ digits_of 20 (checksum edits)
  back : drop 20 (line_of edits) ≡ edits

pub length-line : (edits : Bytes) → length (line_of edits) ≡ 20 + length edits
unfolding line_of
length-line edits = omega (arith, length-append (digits_of 20 (checksum edits)) edits, length-digits 20 (checksum edits))

summed : (edits : Bytes) → Summed edits
unfolding line_of
summed edits = record {
  front = take_at (digits_of 20 (checksum edits)) edits 20 (length-digits 20 (checksum edits));
  back = drop_at (digits_of 20 (checksum edits)) edits 20 (length-digits 20 (checksum edits));
}

pub edits-line : (edits : Bytes) → drop 20 (line_of edits) ≡ edits
edits-line edits = (summed edits).back

pub line-one_line : (edits : Bytes) → IsOneLine edits → IsOneLine (line_of edits)
unfolding line_of
line-one_line edits one = one_line-append (digits_of 20 (checksum edits)) edits (digits-one_line 20 (checksum edits)) one

sum-digits : (edits : Bytes) → checksum edits < 2 ^ 64 → is_sum_of (digits_of 20 (checksum edits)) edits ≡ true
unfolding is_sum_of
sum-digits edits small =
    let number : number_of (digits_of 20 (checksum edits)) ≡ checksum edits = number-digits 20 (checksum edits) (omega arith) small in
    ap₂ (λ (s : Bool) (n : ℕ). s && (n == checksum edits)) (digits-are 20 (checksum edits)) number ∙ grind (arith, nat_tests)

pub line-record : (edits : Bytes) → checksum edits < 2 ^ 64 → is_record (line_of edits) ≡ true
unfolding is_record
line-record edits small =
    let s = summed edits in
    let long : nat_le 20 (length (line_of edits)) ≡ true = let count = length-line edits in grind (arith, nat_tests) in
    ap₂ (λ (t u : Bool). t && u) long (ap₂ (λ (f b : Bytes). is_sum_of f b) s.front s.back ∙ sum-digits edits small)
