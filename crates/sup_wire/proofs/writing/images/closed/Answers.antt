use Rattle.std.proofs.Common.{ap, ◌∙◌}
use Rattle.sup_array_text.specs.Arrays.{shown, whole}
use Rattle.sup_wire.proofs.FrontLaws.{back_is}
use Rattle.sup_wire.proofs.writing.images.closed.Goals as goal

pub returns : goal.returns
returns c = c.in_ok-text.ensures ∙ ap (λ back. shown (whole c.args.made.front c.args.made.items back) c.args.made.items) back_is
