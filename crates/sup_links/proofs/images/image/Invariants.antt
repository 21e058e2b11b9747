use Rattle.std.proofs.Common.{◌≡◌, take}
use Rattle.sup_links.specs.Image.{image, held_of}
use Rattle.sup_links.specs.Texts.{texts}
use Rattle.sup_links.specs.Waiting.{waiting}
use Rattle.sup_links.proofs.images.image.Given as goal

abbrev pub invariant-loop-place : goal.invariant-loop-place
invariant-loop-place l = record {
  out : texts l.out.items ≡ image l.script.0.items (texts (take l.place l.sent));
  waits : waiting l.held.items ≡ held_of l.script.0.items (texts (take l.place l.sent));
}
