use Rattle.std.proofs.Common.{◌∙◌}
use Rattle.sup_command_line.proofs.Numbers.{parsed}
use Rattle.sup_command_line.proofs.number.number_of.Goals as goal

pub returns : goal.returns
returns c = c.ok.ensures.value ∙ parsed c.args.text.now c.parse.result c.parse.ensures.value.0
