use Rattle.std.proofs.Common.{subst, sym}
use Rattle.sup_specs.specs.Values.{Bytes}
use Rattle.sup_wire.specs.Drafts.{IsDraftOfImage}
use Rattle.sup_wire.specs.Faults.{IsTextAfter, IsImageInRange}
use Rattle.sup_wire.proofs.codec.encode_image_after.Goals as goal

pub returns-clause-text : goal.returns-clause-text
returns-clause-text c = subst (λ (t : Bytes). IsTextAfter IsDraftOfImage IsImageInRange c.args.front.items t c.args.image.now) (sym c.into_text.ensures) c.in_ok-text.ensures.text
