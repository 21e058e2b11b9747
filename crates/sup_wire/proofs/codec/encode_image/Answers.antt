use Rattle.std.proofs.Common.{subst, sym}
use Rattle.sup_specs.specs.Values.{Bytes}
use Rattle.sup_wire.specs.Drafts.{IsDraftOfImage}
use Rattle.sup_wire.specs.Faults.{IsTextOf, IsImageInRange}
use Rattle.sup_wire.proofs.Adding.{says_text}
use Rattle.sup_wire.proofs.OneCut.{one_image_draft, one_text}
use Rattle.sup_wire.proofs.codec.encode_image.Goals as goal

pub returns-clause-text : goal.returns-clause-text
returns-clause-text c = subst (λ (t : Bytes). IsTextOf IsDraftOfImage IsImageInRange t c.args.image.now) (sym c.into_text.ensures) c.in_ok-text.ensures.text.text

pub returns-clause-says : goal.returns-clause-says
returns-clause-says c = says_text IsDraftOfImage IsImageInRange c.args.image.now c.into_text.result.items (returns-clause-text c)

pub returns-clause-once : goal.returns-clause-once
returns-clause-once c = λ other is. one_text IsDraftOfImage IsImageInRange one_image_draft c.args.image.now other c.into_text.result.items is (returns-clause-text c)
