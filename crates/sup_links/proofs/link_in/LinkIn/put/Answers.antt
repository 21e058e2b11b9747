use Rattle.std.proofs.Common.{◌≡◌, length, arith, ◌∙◌, true≢false}
use Rattle.sup_links.specs.Texts.{put_said}
use Rattle.sup_links.proofs.PutLaws.{put_step, spends, keeps, goes, begins_ok, begins_err}
use Rattle.sup_links.proofs.link_in.LinkIn.put.Goals as goal

pub invariant_of-self-in-Ok : goal.invariant_of-self-in-Ok
invariant_of-self-in-Ok g c =
    let self = c.args.self.now in
    let step = put_step self.script.0.items self.log c.and-log.result c.args.text self.spent c.verdict_at-verdict.result
    c.and-log.ensures self.counted c.verdict_at-verdict.ensures c.in_ok-copies.ensures.go c.in_ok-copies.ensures.waits (self.waits c.if-self.false) in
    let len : c.len.result ≡ length self.script.0.items = omega (arith, c.len.ensures, self.script.0.ok.0) in
    record {
      counted = spends step self.spent c.spend-self.result c.len.result self.counted len c.spend-self.ensures;
      waits = λ _. c.in-Ok.ensures.others ∙ keeps step;
      went = λ _. goes step (put_said self.entry.pass) (put_said c.send_all.new.entry.pass) (self.went c.if-self.false) c.in-Ok.ensures.put;
      begins = begins_ok step (put_said self.entry.pass) (put_said c.send_all.new.entry.pass) (self.went c.if-self.false) c.in-Ok.ensures.put;
    }

pub invariant_of-self-in-Err : goal.invariant_of-self-in-Err
invariant_of-self-in-Err g c =
    let self = c.args.self.now in
    let step = put_step self.script.0.items self.log c.and-log.result c.args.text self.spent c.verdict_at-verdict.result
    c.and-log.ensures self.counted c.verdict_at-verdict.ensures c.in_ok-copies.ensures.go c.in_ok-copies.ensures.waits (self.waits c.if-self.false) in
    let len : c.len.result ≡ length self.script.0.items = omega (arith, c.len.ensures, self.script.0.ok.0) in
    record {
      counted = spends step self.spent c.spend-self.result c.len.result self.counted len c.spend-self.ensures;
      waits = λ e. absurd (true≢false e);
      went = λ e. absurd (true≢false e);
      begins = begins_err step (put_said self.entry.pass) (put_said c.send_all.new.entry.pass) (self.went c.if-self.false) c.in-Err.ensures.put;
    }
