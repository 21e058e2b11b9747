use Rattle.sup_wire.specs.Drafts.{IsDraftOfImage, SaysImage}
use Rattle.sup_wire.specs.Faults.{IsImageInRange}
use Rattle.sup_cut_texts.proofs.CutTexts.{cut_refused}
use Rattle.sup_cut_texts.proofs.an_image_cut_short_is_refused.Goals as goal

pub returns : goal.returns
returns c =
    cut_refused IsDraftOfImage IsImageInRange c.args.text.now c.args.image.now c.args.kept c.requires.text c.requires.short SaysImage c.decode_image.result c.decode_image.ensures.ok c.decode_image.ensures.fault
