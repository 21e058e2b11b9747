-- The one edit that leaves what two images begin and end with, and the record of it.
use Rattle.std.proofs.Common.{true, lit<, ◌≡◌, ◌<◌, ◌≤◌, ℕ, ◌+◌, ◌-◌, ◌^◌, List, [], ◌∷◌, ◌++◌, length, take, drop, min, sym, ◌∙◌, ap, ap₂, subst, arith, append_assoc, length-append, length-drop}
use Rattle.std.specs.Prelude.{fold}
use Rattle.std.proofs.lemmas.List.{take-take, take-append-le, take-append-drop, drop-drop, drop_at, length-take-le}
use Rattle.sup_specs.specs.Values.{Bytes}
use Rattle.sup_journal.specs.Checksums.{checksum, with_octet}
use Rattle.sup_journal.specs.Edits.{Edit, edited, edits_in, written}
use Rattle.sup_journal.specs.Records.{is_record, applied, line_of}
use Rattle.sup_journal.specs.Files.{IsOneLine}
use Rattle.sup_journal.specs.Changes.{IsCommonFront, IsCommonTail, IsReplaced, IsLeastEdit, AreShort, IsSmallChange}
use Rattle.sup_journal.proofs.EditLaws.{edited_nil, edited_cons}
use Rattle.sup_journal.proofs.LineLaws.{one_line_front, one_line_back}
use Rattle.sup_journal.proofs.WrittenLaws.{written-one_line, length-written, edits-written, length-line, edits-line, line-one_line, line-record}

-- what stands before a common tail
abbrev pub before : ℕ → Bytes → Bytes
before tail text = take (length text - tail) text

abbrev pub least_edit : ℕ → ℕ → Bytes → Bytes → Edit
least_edit tail front old new = record { retained = front; deleted = length (before tail old) - front; inserted = drop front (before tail new) }

length-before : (tail : ℕ) (text : Bytes) → length (before tail text) ≡ length text - tail
length-before tail text = length-take-le (length text - tail) text (omega arith)

makes_new : (tail front : ℕ) (old new : Bytes) → IsCommonTail tail old new → IsCommonFront front (before tail old) (before tail new) → edited (least_edit tail front old new ∷ []) old ≡ new
makes_new tail front old new t f =
    let e : Edit = least_edit tail front old new in
    let long = length-before tail old in
    let within = f.in_left in
    let rest : drop e.deleted (drop front old) ≡ drop (length new - tail) new =
    drop-drop e.deleted front old ∙ ap (λ k. drop k old) (omega (arith, long, within)) ∙ t.alike in
    let kept : take front old ≡ take front (before tail new) =
    sym (take-take front (length old - tail) old (omega (arith, long, within))) ∙ f.alike in
    edited_cons e [] old
    ∙ ap₂ (λ (k : Bytes) (r : Bytes). k ++ (e.inserted ++ r)) kept (edited_nil (drop e.deleted (drop front old)) ∙ rest)
    ∙ sym (append_assoc (take front (before tail new)) (drop front (before tail new)) (drop (length new - tail) new))
    ∙ ap (λ (k : Bytes). k ++ drop (length new - tail) new) (take-append-drop front (before tail new))
    ∙ take-append-drop (length new - tail) new

-- as much of a text's front, where what stands before its tail is longer
front_of : (n tail : ℕ) (text front back : Bytes) → text ≡ front ++ back → n ≤ length front → n ≤ length text - tail → take n (before tail text) ≡ take n front
front_of n tail text front back is short shorter =
    take-take n (length text - tail) text shorter ∙ ap (take n) is ∙ take-append-le n front back short

-- no other edit has less come
least_comes : (tail front : ℕ) (old new kept gone come back : Bytes) → IsCommonTail tail old new → IsCommonFront front (before tail old) (before tail new) → IsReplaced old new kept gone come back
    → length (drop front (before tail new)) ≤ length come
least_comes tail front old new kept gone come back t f r =
    let was : old ≡ (kept ++ gone) ++ back = r.was ∙ sym (append_assoc kept gone back) in
    let is : new ≡ (kept ++ come) ++ back = r.is ∙ sym (append_assoc kept come back) in
    let old_long : length old ≡ length kept + length gone + length back = ap length was ∙ omega (arith, length-append (kept ++ gone) back, length-append kept gone) in
    let new_long : length new ≡ length kept + length come + length back = ap length is ∙ omega (arith, length-append (kept ++ come) back, length-append kept come) in
    let old_tail : drop (length old - length back) old ≡ back = ap (drop (length old - length back)) was ∙ drop_at (kept ++ gone) back (length old - length back) (omega (arith, old_long, length-append kept gone)) in
    let new_tail : drop (length new - length back) new ≡ back = ap (drop (length new - length back)) is ∙ drop_at (kept ++ come) back (length new - length back) (omega (arith, new_long, length-append kept come)) in
    let tail_long : length back ≤ tail = t.most (length back) (omega (arith, old_long)) (omega (arith, new_long)) (old_tail ∙ sym new_tail) in
    let old_before = length-before tail old in
    let new_before = length-before tail new in
    let n : ℕ = min (length kept) (min (length old - tail) (length new - tail)) in
    let same : take n (before tail old) ≡ take n (before tail new) =
    front_of n tail old kept (gone ++ back) r.was (omega arith) (omega arith) ∙ sym (front_of n tail new kept (come ++ back) r.is (omega arith) (omega arith)) in
    let front_long : n ≤ front = f.most n (omega (arith, old_before)) (omega (arith, new_before)) same in
    omega (arith, length-drop front (before tail new), new_before, tail_long, front_long, old_long, new_long, t.in_left, t.in_right)

pub least : (tail front : ℕ) (old new bytes : Bytes) → IsCommonTail tail old new → IsCommonFront front (before tail old) (before tail new) → bytes ≡ written (least_edit tail front old new) → IsLeastEdit bytes old new
least tail front old new bytes t f is =
    let old_before = length-before tail old in
    let new_before = length-before tail new in
    let within = f.in_left in
    record {
      edit = least_edit tail front old new;
      is = is;
      makes = makes_new tail front old new t f;
      retained = omega (arith, old_before, within);
      deleted = omega (arith, old_before);
      inserted = omega (arith, length-drop front (before tail new), new_before);
      one = λ one. one_line_back front (before tail new) (one_line_front (length new - tail) new one);
      least = λ kept gone come back r. least_comes tail front old new kept gone come back t f r;
    }

pub short_of : (bytes old new : Bytes) → IsLeastEdit bytes old new → IsSmallChange old new → AreShort bytes old new
short_of bytes old new l s =
    let less = l.least s.front s.gone s.come s.back s.replaced in
    let small = s.short in
    record {
      one = subst IsOneLine (sym l.is) (written-one_line l.edit (l.one s.one));
      makes = ap (λ (b : Bytes). edited (edits_in b) old) l.is
          ∙ ap (λ (es : List Edit). edited es old) (edits-written l.edit (omega (arith, l.retained, s.old_fits)) (omega (arith, l.deleted, s.old_fits)) (omega (arith, l.inserted, s.new_fits)))
          ∙ l.makes;
      short = omega (arith, ap length l.is, length-written l.edit, less, small);
    }

sum_small : (octets : Bytes) (hash : ℕ) → hash < 2 ^ 64 → fold with_octet hash octets < 2 ^ 64
sum_small [] hash small = small
sum_small (o ∷ octets) hash small = sum_small octets (with_octet hash o) (omega arith)

checksum-small : (octets : Bytes) → checksum octets < 2 ^ 64
unfolding checksum
checksum-small octets = sum_small octets 14695981039346656037 (lit< tt)

-- edits that are one line make a line that is a record
pub line_good : (edits : Bytes) → IsOneLine edits → IsOneLine (line_of edits) × (is_record (line_of edits) ≡ true)
line_good edits one = (line-one_line edits one, line-record edits (checksum-small edits))

pub line_makes : (edits old : Bytes) → applied (line_of edits) old ≡ edited (edits_in edits) old
unfolding applied
line_makes edits old = ap (λ (b : Bytes). edited (edits_in b) old) (edits-line edits)

pub framed_length : (bytes line edits : Bytes) → bytes ≡ 10 ∷ (line ++ 10 ∷ []) → line ≡ line_of edits → length bytes ≡ 22 + length edits
framed_length bytes line edits is same = ap length is ∙ omega (arith, length-append line (10 ∷ []), ap length same, length-line edits)
