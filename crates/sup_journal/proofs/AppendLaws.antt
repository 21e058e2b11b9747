-- What is put behind a file.
use Rattle.std.proofs.Common.{◌≡◌, ◌<◌, ◌≤◌, ℕ, zero, suc, ◌+◌, Bool, true, false, List, [], ◌∷◌, ◌++◌, length, take, drop, refl, sym, ◌∙◌, ap, ap₂, subst, arith, append-nil, length-append, nat_le, ◌&&◌}
use Rattle.std.specs.Prelude.{◌==◌, Some, if◌then◌else◌}
use Rattle.std.specs.List.{list_all}
use Rattle.std.specs.Result.{result_ok}
use Rattle.std.proofs.lemmas.Bool.{or_right, and_parts}
use Rattle.std.proofs.lemmas.Bool.Decides.{nat_tests}
use Rattle.std.proofs.lemmas.List.{take-append-le}
use Rattle.std.proofs.lemmas.List.Folds.{list_all-append}
use Rattle.sup_specs.specs.Values.{Bytes}
use Rattle.sup_journal.specs.Records.{is_record, is_sum_of, is_sound, applied, after}
use Rattle.sup_journal.specs.Files.{IsOneLine, lines_of, ended_lines, replayed, image_in}
use Rattle.sup_journal.specs.Appends.{IsAppendable, IsFramed, MakesImage, LeavesImage}
use Rattle.sup_journal.proofs.LineLaws.{one_line_front, some_lines, lines-one_line, lines-append_feed, ended-append_feed, ended-one_line}
use Rattle.sup_journal.proofs.FileLaws.{replay-nil, replay-sound, reading_as, reading_one}

-- lines of which the first is this, and the others these
record Parts (lines : List Bytes) : Type 0 where
  first : Bytes
  others : List Bytes
  is : lines ≡ first ∷ others

parts_of : (lines : List Bytes) → 0 < length lines → Parts lines
parts_of [] some = absurd (omega (arith, some))
parts_of (first ∷ others) some = record { first = first; others = others; is = refl }

-- behind a line feed nothing more is ended
ended-feed : (file : Bytes) → ended_lines (file ++ 10 ∷ []) ≡ lines_of file
ended-feed file = ended-append_feed file [] ∙ ap (λ (ls : List Bytes). lines_of file ++ ls) (ended-one_line [] refl) ∙ append-nil (lines_of file)

replay-append : (number : ℕ) (image next : Bytes) (lines more : List Bytes) → list_all is_sound lines ≡ true → result_ok (replayed number image lines) ≡ Some next
    → replayed number image (lines ++ more) ≡ replayed (number + length lines) next more
replay-append number image next [] more sound is =
    let same : Some image ≡ Some next = ap result_ok (sym (replay-nil number image)) ∙ is in
    let made : image ≡ next = cc in
    ap₂ (λ (k : ℕ) (i : Bytes). replayed k i more) (omega arith) made
replay-append number image next (line ∷ lines) more sound is =
    let tests = and_parts (is_sound line) (list_all is_sound lines) sound in
    let rest : result_ok (replayed (number + 1) (after line image) lines) ≡ Some next = ap result_ok (sym (replay-sound number image line lines tests.0)) ∙ is in
    let count : number + 1 + length lines ≡ number + suc (length lines) = omega arith in
    replay-sound number image line (lines ++ more) tests.0
    ∙ replay-append (number + 1) (after line image) next lines more tests.1 rest
    ∙ ap (λ (k : ℕ). replayed k next more) count

pub plain : (image : Bytes) → IsOneLine image → IsAppendable image image
plain image one = record {
  has = ap result_ok (reading_one image one);
  ended = ap result_ok (reading_as (image ++ 10 ∷ []) image [] (ended-feed image ∙ lines-one_line image one) ∙ replay-nil 2 image);
  sound = ap (λ (ls : List Bytes). list_all is_sound (drop 1 ls)) (lines-one_line image one);
}

pub unended : (line : Bytes) → IsOneLine line → LeavesImage (10 ∷ line)
unended line one file image a =
    let p = parts_of (lines_of file) (some_lines file) in
    let here : ended_lines (file ++ 10 ∷ line) ≡ p.first ∷ p.others =
    ended-append_feed file line ∙ ap (λ (ls : List Bytes). lines_of file ++ ls) (ended-one_line line one) ∙ append-nil (lines_of file) ∙ p.is in
    ap result_ok (reading_as (file ++ 10 ∷ line) p.first p.others here ∙ sym (reading_as (file ++ 10 ∷ []) p.first p.others (ended-feed file ∙ p.is))) ∙ a.ended

-- a record is longer than nothing, so it makes what it makes
long_line : (n : ℕ) (t : Bool) → (nat_le 20 n && t) ≡ true → (n == 0) ≡ false
long_line zero t good = absurd (cc)
long_line (suc n) t good = grind (arith, nat_tests)

after_record : (line image : Bytes) → is_record line ≡ true → after line image ≡ applied line image
unfolding is_record
after_record line image sum = ap (λ t. if t then image else applied line image) (long_line (length line) (is_sum_of (take 20 line) (drop 20 line)) sum)

-- a file behind whose lines these stand
grown_lines : (file old line new : Bytes) → (a : IsAppendable file old) → is_record line ≡ true → applied line old ≡ new → (p : Parts (lines_of file)) (more : List Bytes)
    → (n : ℕ) × (replayed 2 p.first (p.others ++ line ∷ more) ≡ replayed n new more)
grown_lines file old line new a sum makes p more =
    let sound : list_all is_sound p.others ≡ true = ap (λ (ls : List Bytes). list_all is_sound (drop 1 ls)) (sym p.is) ∙ a.sound in
    let so_far : result_ok (replayed 2 p.first p.others) ≡ Some old = ap result_ok (sym (reading_as (file ++ 10 ∷ []) p.first p.others (ended-feed file ∙ p.is))) ∙ a.ended in
    let n : ℕ = 2 + length p.others in (
      n + 1,
      replay-append 2 p.first old p.others (line ∷ more) sound so_far
          ∙ replay-sound n old line more (or_right (length line == 0) (is_record line) sum)
          ∙ ap (λ (i : Bytes). replayed (n + 1) i more) (after_record line old sum ∙ makes),
    )

grown_as : (file old line new : Bytes) → IsAppendable file old → IsOneLine line → is_record line ≡ true → applied line old ≡ new → IsAppendable (file ++ 10 ∷ (line ++ 10 ∷ [])) new
grown_as file old line new a one sum makes =
    let p = parts_of (lines_of file) (some_lines file) in
    let whole : Bytes = file ++ 10 ∷ (line ++ 10 ∷ []) in
    let ends : ended_lines whole ≡ p.first ∷ (p.others ++ line ∷ []) =
    ended-append_feed file (line ++ 10 ∷ []) ∙ ap (λ (ls : List Bytes). lines_of file ++ ls) (ended-feed line ∙ lines-one_line line one) ∙ ap (λ (ls : List Bytes). ls ++ line ∷ []) p.is in
    let all : lines_of whole ≡ p.first ∷ (p.others ++ line ∷ ([] ∷ [])) =
    lines-append_feed file (line ++ 10 ∷ []) ∙ ap (λ (ls : List Bytes). lines_of file ++ ls) (lines-append_feed line [] ∙ ap (λ (ls : List Bytes). ls ++ [] ∷ []) (lines-one_line line one))
    ∙ ap (λ (ls : List Bytes). ls ++ line ∷ ([] ∷ [])) p.is in
    let first = grown_lines file old line new a sum makes p [] in
    let later = grown_lines file old line new a sum makes p ([] ∷ []) in
    let others : list_all is_sound p.others ≡ true = ap (λ (ls : List Bytes). list_all is_sound (drop 1 ls)) (sym p.is) ∙ a.sound in
    let last : list_all is_sound (line ∷ ([] ∷ [])) ≡ true = ap (λ t. t && list_all is_sound ([] ∷ [])) (or_right (length line == 0) (is_record line) sum) in
    record {
      has = ap result_ok (reading_as whole p.first (p.others ++ line ∷ []) ends ∙ first.1 ∙ replay-nil first.0 new);
      ended = ap result_ok (reading_as (whole ++ 10 ∷ []) p.first (p.others ++ line ∷ ([] ∷ [])) (ended-feed whole ∙ all) ∙ later.1 ∙ replay-sound later.0 new [] [] refl ∙ replay-nil (later.0 + 1) new);
      sound = ap (λ (ls : List Bytes). list_all is_sound (drop 1 ls)) all ∙ list_all-append is_sound p.others (line ∷ ([] ∷ [])) ∙ ap₂ (λ s t. s && t) others last;
    }

pub grown : (file old bytes new : Bytes) → IsAppendable file old → MakesImage bytes old new → IsAppendable (file ++ bytes) new
grown file old bytes new a m = subst (λ (b : Bytes). IsAppendable (file ++ b) new) (sym m.framed.is) (grown_as file old m.line new a m.framed.one m.sum m.makes)

cut_front : (n : ℕ) (line : Bytes) → IsOneLine line → n < suc (length (line ++ 10 ∷ [])) → LeavesImage (take n (10 ∷ (line ++ 10 ∷ [])))
cut_front zero line one less file image a = ap image_in (append-nil file) ∙ a.has
cut_front (suc m) line one less file image a =
    let short : m ≤ length line = omega (arith, length-append line (10 ∷ []), less) in
    ap (λ (t : Bytes). image_in (file ++ 10 ∷ t)) (take-append-le m line (10 ∷ []) short)
    ∙ unended (take m line) (one_line_front m line one) file image a

pub cut : (bytes line : Bytes) → IsFramed bytes line → (n : ℕ) → n < length bytes → LeavesImage (take n bytes)
cut bytes line framed n less =
    let shorter : n < suc (length (line ++ 10 ∷ [])) = subst (λ (b : Bytes). n < length b) framed.is less in
    subst (λ (b : Bytes). LeavesImage (take n b)) (sym framed.is) (cut_front n line framed.one shorter)
