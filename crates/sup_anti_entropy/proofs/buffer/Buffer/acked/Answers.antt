use Rattle.std.proofs.Common.{ap, ◌∙◌, max, if◌then◌else◌}
use mathlib.Core.Path.{fun_ext}
use Rattle.std.specs.Ordering.{eq_by_cmp}
use Rattle.std.specs.Option.{unwrap_or}
use Rattle.std.specs.BTreeMap.{get}
use Rattle.sup_specs.specs.Values.{text_cmp}
use Rattle.sup_anti_entropy.specs.Contents.{buffer_of}
use Rattle.sup_anti_entropy.proofs.BufferLaws.{acked_at}
use Rattle.sup_anti_entropy.proofs.buffer.Buffer.acked.Goals as goal

pub returns-clause-ok : goal.returns-clause-ok
returns-clause-ok c =
    let old = c.args.self.now in
    ap (λ f. record (buffer_of old) { acked = f })
    (fun_ext (λ peer.
    acked_at old.acknowledged c.insert.new.self c.args.from c.max-greater.result c.in_ok-insert.ensures.updates peer
    ∙ ap (λ v. if eq_by_cmp text_cmp peer c.args.from then v else unwrap_or (get text_cmp old.acknowledged peer) 0)
    (c.max-greater.ensures ∙ ap (max c.args.n) c.acknowledged.ensures.value)))
