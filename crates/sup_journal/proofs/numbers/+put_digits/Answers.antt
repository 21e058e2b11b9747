use Rattle.std.proofs.Common.{◌<◌, ◌+◌, ◌-◌, ◌/◌, ◌%◌, ◌∷◌, [], ◌++◌, ◌∙◌, sym, ap, arith, append-nil, append_assoc}
use Rattle.sup_specs.specs.Values.{Bytes}
use Rattle.sup_journal.specs.Edits.{digits_of}
use Rattle.sup_journal.proofs.DigitLaws.{digits-zero, digits-more}
use Rattle.sup_journal.proofs.numbers.+put_digits.Goals as goal

pub returns-then-count-eq0 : goal.returns-then-count-eq0
returns-then-count-eq0 t c = sym (ap (λ (d : Bytes). c.args.text.now.items ++ d) (digits-zero c.args.count c.args.number c.if-count-eq0.true) ∙ append-nil c.args.text.now.items)

pub returns : goal.returns
returns t c =
    let some : 0 < c.args.count = omega (arith, c.if-count-eq0.false) in
    c.in_ok-push.ensures.items ∙ ap (λ (b : Bytes). b ++ (48 + c.args.number % 10) ∷ []) c.in_ok-put_digits.ensures
    ∙ append_assoc c.args.text.now.items (digits_of (c.args.count - 1) (c.args.number / 10)) ((48 + c.args.number % 10) ∷ [])
    ∙ ap (λ (d : Bytes). c.args.text.now.items ++ d) (sym (digits-more c.args.count c.args.number some))
