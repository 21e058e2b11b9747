use Rattle.sup_clustering.proofs.verdict.settle.Goals as goal

pub returns-in-Ok-clause-settles : goal.returns-in-Ok-clause-settles
returns-in-Ok-clause-settles g c = (c.in-Ok.settled, c.in-Ok.ensures.steps, λ model stands. c.in-Ok.ensures.follows model stands)
