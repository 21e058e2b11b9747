use Rattle.std.proofs.Common.{ap, ◌∙◌}
use Rattle.sup_links.proofs.Relays.{meets, parts}
use Rattle.sup_links.proofs.pipe.Exit.meet.Goals as goal

pub absorb-requires-clause-rule : goal.absorb-requires-clause-rule
absorb-requires-clause-rule c = meets _ _ _ _ (ap (λ v. v.takes) c.args.self.now.takes) (ap (λ v. v.puts) c.args.other.puts)

pub another-theirs-requires-clause-rule : goal.another-theirs-requires-clause-rule
another-theirs-requires-clause-rule c =
    let e = c.learn_as.ensures.channel.2 ∙ c.absorb.ensures.rule in parts _ _ (ap (λ v. v.puts) e) (ap (λ v. v.takes) e)
