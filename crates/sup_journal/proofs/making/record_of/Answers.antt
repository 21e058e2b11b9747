use Rattle.std.proofs.Common.{◌≡◌, ◌∷◌, [], ◌++◌, ◌∙◌, sym, ap, subst, true, arith}
use Rattle.sup_specs.specs.Values.{Bytes}
use Rattle.sup_journal.specs.Records.{is_record, applied, line_of}
use Rattle.sup_journal.specs.Files.{IsOneLine}
use Rattle.sup_journal.proofs.ChangeLaws.{line_good, line_makes, framed_length}
use Rattle.sup_journal.proofs.making.record_of.Goals as goal

pub returns-then-not-is_good-clause-found : goal.returns-then-not-is_good-clause-found
returns-then-not-is_good-clause-found c = λ short.
    let same : line_of c.args.edits.now ≡ c.deref.result.now = sym (c.deref.ensures.value ∙ c.in_ok-line.ensures) in
    sym c.if-not-is_good.true ∙ c.is_good.ensures.1 (subst (λ (line : Bytes). IsOneLine line × (is_record line ≡ true)) same (line_good c.args.edits.now short.one))

pub returns-then-len-new-clause-found : goal.returns-then-len-new-clause-found
returns-then-len-new-clause-found c = λ short.
    let long = framed_length c.in_ok-bytes.bytes.items c.deref-2.result.now c.args.edits.now c.in_ok-bytes.ensures (c.deref-2.ensures.value ∙ c.in_ok-line.ensures) in
    let most = short.short in
    absurd (omega (arith, long, most, c.if-len-new.true, c.len.ensures, c.in_ok-bytes.bytes.ok.0))

pub returns-then-not-are_same-clause-found : goal.returns-then-not-are_same-clause-found
returns-then-not-are_same-clause-found c = λ short.
    let made : c.deref-4.result.now ≡ c.args.new.now =
    c.deref-4.ensures.value ∙ c.in_ok-image.ensures ∙ ap (λ (line : Bytes). applied line c.args.old.now) (c.deref-3.ensures.value ∙ c.in_ok-line.ensures) ∙ line_makes c.args.edits.now c.args.old.now ∙ short.makes in
    sym c.if-not-are_same.true ∙ c.are_same.ensures.1 made

pub returns-clause-record : goal.returns-clause-record
returns-clause-record c =
    let good : IsOneLine c.in_ok-line.line.items × (is_record c.in_ok-line.line.items ≡ true) =
    subst (λ (line : Bytes). IsOneLine line × (is_record line ≡ true)) c.deref.ensures.value (c.is_good.ensures.0 c.if-not-is_good.false) in
    let image : c.in_ok-image.image.items ≡ c.args.new.now = sym c.deref-4.ensures.value ∙ c.are_same.ensures.0 c.if-not-are_same.false in
    record {
      makes = record {
        line = c.in_ok-line.line.items;
        framed = record { is = c.in_ok-bytes.ensures ∙ ap (λ (line : Bytes). 10 ∷ (line ++ 10 ∷ [])) c.deref-2.ensures.value; one = good.0 };
        sum = good.1;
        makes = ap (λ (line : Bytes). applied line c.args.old.now) (sym c.deref-3.ensures.value) ∙ sym c.in_ok-image.ensures ∙ image;
      };
      image = image;
      short = omega (arith, c.if-len-new.false, c.len.ensures, c.in_ok-bytes.bytes.ok.0);
    }
