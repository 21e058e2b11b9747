use Rattle.std.proofs.Common.{ℕ, ◌++◌, ◌∙◌, ap}
use Rattle.sup_specs.specs.Values.{Bytes}
use Rattle.sup_journal.specs.Edits.{digits_of}
use Rattle.sup_journal.specs.Records.{line_of}
use Rattle.sup_journal.proofs.making.line_of.Goals as goal

pub returns : goal.returns
unfolding line_of
returns c = c.in_ok-extend_from_slice.ensures.items
    ∙ ap (λ (b : Bytes). b ++ c.args.edits.now) (c.in_ok-put_digits.ensures ∙ ap (λ (b : Bytes). b ++ digits_of 20 c.checksum.result) c.in_ok-line.ensures.items)
    ∙ ap (λ (sum : ℕ). digits_of 20 sum ++ c.args.edits.now) c.checksum.ensures
