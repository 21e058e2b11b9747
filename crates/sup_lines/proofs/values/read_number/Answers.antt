use Rattle.std.proofs.Common.{arith, rules, sym}
use Rattle.sup_lines.proofs.WordValues.{unparsed}
use Rattle.sup_lines.proofs.values.read_number.Goals as goal

pub returns-in_default-2-clause-value : goal.returns-in_default-2-clause-value
returns-in_default-2-clause-value c =
    sym (unparsed c.args.greatest c.args.word.now c.in_default.field-0 (omega arith) (search rules) c.in_default.ensures.value.0)
