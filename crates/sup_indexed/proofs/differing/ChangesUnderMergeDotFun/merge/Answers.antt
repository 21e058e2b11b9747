use Rattle.std.proofs.Common.{ap, ◌∙◌}
use Rattle.std.specs.Option.{option_copied}
use Rattle.sup_causal.specs.Join.{lesser}
use Rattle.sup_causal.specs.Dots.{has}
use Rattle.sup_dot_store.specs.ByDot.{at_dot}
use Rattle.sup_dot_store.specs.Contents.{values_of}
use Rattle.sup_dot_store.specs.Points.{standing, higher, value_at}
use Rattle.sup_indexed.specs.Changed.{value_in}
use Rattle.sup_indexed.proofs.differing.ChangesUnderMergeDotFun.merge.Goals as goal

pub returns : goal.returns
returns g c d =
    let s = c.args.self.now in
    let there = standing (has s.theirs.now d) (at_dot (values_of c.function_or-there.result.now) d) in
    let here = standing (has s.mine.now d) (value_in (option_copied c.args.left) d) in
    c.in_ok-joined.ensures d tt
    ∙ ap (λ o. value_at (higher (lesser g.V.Ord.cmp) (standing (has s.mine.now d) o) there)) (c.function_or-here.ensures d)
    ∙ ap (λ o. value_at (higher (lesser g.V.Ord.cmp) here (standing (has s.theirs.now d) o))) (c.function_or-there.ensures d)
