use Rattle.std.proofs.Common.{sym, subst}
use Rattle.std.specs.List.{AllZip}
use Rattle.sup_run_ends.specs.Steps.{AreFinished, ReturnsDriven}
use Rattle.sup_cluster.proofs.run_histories.RunHistories.of.Goals as goal

pub finish-requires : goal.finish-requires
finish-requires g c = subst (AllZip (ReturnsDriven c.args.posts.items) c.args.posts.items) (sym c.take_apart-results.ensures.results) c.requires

pub returns-clause-histories : goal.returns-clause-histories
returns-clause-histories g c = subst (λ results. AreFinished g.W.Weigh.weight_of c.args.posts.items results c.in_ok-histories.histories) c.take_apart-results.ensures.results c.in_ok-histories.ensures.histories
