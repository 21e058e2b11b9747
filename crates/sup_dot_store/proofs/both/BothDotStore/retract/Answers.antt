use Rattle.sup_specs.specs.Rising.{among}
use Rattle.sup_causal.specs.Dots.{dot_cmp}
use Rattle.sup_dot_store.proofs.Eithers.{taken_either}
use Rattle.sup_dot_store.proofs.both.BothDotStore.retract.Goals as goal

pub returns : goal.returns
returns g c d =
    let a = g.A.DotStore in
    let b = g.B.DotStore in
    let s = c.args.self.now in
    taken_either (among dot_cmp c.args.dots.now d) (a.held s.first d) (a.held c.retract.new.self d) (b.held s.second d) (b.held c.retract-2.new.self d) (c.retract.ensures d) (c.retract-2.ensures d)
