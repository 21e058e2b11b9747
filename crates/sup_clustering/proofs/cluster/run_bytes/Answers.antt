use Rattle.std.proofs.Common.{string_bytes, inr}
use Rattle.sup_clustering.proofs.EndedClusterLaws.{cut, no_device, printed, unprinted}
use Rattle.sup_clustering.proofs.cluster.run_bytes.Goals as goal

pub returns-in-Err-certified_text-clause-ends : goal.returns-in-Err-certified_text-clause-ends
returns-in-Err-certified_text-clause-ends g c =
    unprinted (Unit {0}) g.G.Weigh.weight_of c.args.config c.args.input.now (g.W.Write.contents c.args.writer.now) c.in-Ok.plan c.in-Err-certified_text.fault c.in-Ok.ensures.says c.in-Err-certified_text.ensures.refused

pub returns-in-Err-certified_text-clause-device : goal.returns-in-Err-certified_text-clause-device
returns-in-Err-certified_text-clause-device g c = λ is. no_device g.G.Weigh.weight_of c.in-Ok.plan c.in-Err-certified_text.fault c.in-Err-certified_text.ensures.refused cc

pub returns-in-Ok-put_all-clause-ends : goal.returns-in-Ok-put_all-clause-ends
returns-in-Ok-put_all-clause-ends g c =
    printed c.in-Ok-put_all.field-0 g.G.Weigh.weight_of c.args.config c.args.input.now (g.W.Write.contents c.args.writer.now) (g.W.Write.contents c.put_all.new.writer) c.in-Ok.plan (string_bytes c.in-Ok-certified_text.text) c.as_bytes.result.now
    c.in-Ok.ensures.says c.in-Ok-certified_text.ensures.prints c.as_bytes.ensures.value c.in-Ok-put_all.ensures

pub returns-clause-ends : goal.returns-clause-ends
returns-clause-ends g c =
    inr (cut g.G.Weigh.weight_of c.args.config c.args.input.now (g.W.Write.contents c.args.writer.now) (g.W.Write.contents c.put_all.new.writer) c.in-Ok.plan (string_bytes c.in-Ok-certified_text.text) c.as_bytes.result.now
    c.in-Ok.ensures.says c.in-Ok-certified_text.ensures.prints c.as_bytes.ensures.value c.in-Err-put_all.ensures)

pub returns-clause-device : goal.returns-clause-device
returns-clause-device g c = λ _.
    cut g.G.Weigh.weight_of c.args.config c.args.input.now (g.W.Write.contents c.args.writer.now) (g.W.Write.contents c.put_all.new.writer) c.in-Ok.plan (string_bytes c.in-Ok-certified_text.text) c.as_bytes.result.now
    c.in-Ok.ensures.says c.in-Ok-certified_text.ensures.prints c.as_bytes.ensures.value c.in-Err-put_all.ensures
