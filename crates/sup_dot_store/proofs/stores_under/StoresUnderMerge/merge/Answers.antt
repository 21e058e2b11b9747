use Rattle.sup_dot_store.proofs.Keys.{covers_lent}
use Rattle.sup_dot_store.proofs.stores_under.StoresUnderMerge.merge.Goals as goal

pub joined_under-requires-clause-mine : goal.joined_under-requires-clause-mine
joined_under-requires-clause-mine g c = covers_lent g.S.DotStore.held c.args.self.now.mine.now c.args.left c.in-Some-Some.left c.in-Some-Some.is-0 c.requires.0

pub joined_under-requires-clause-theirs : goal.joined_under-requires-clause-theirs
joined_under-requires-clause-theirs g c = covers_lent g.S.DotStore.held c.args.self.now.theirs.now c.args.right c.in-Some-Some.right c.in-Some-Some.is-1 c.requires.1

pub joined_under-requires-in-Some-None-clause-mine : goal.joined_under-requires-in-Some-None-clause-mine
joined_under-requires-in-Some-None-clause-mine g c = covers_lent g.S.DotStore.held c.args.self.now.mine.now c.args.left c.in-Some-None.left c.in-Some-None.is-0 c.requires.0

pub joined_under-requires-in-None-Some-clause-theirs : goal.joined_under-requires-in-None-Some-clause-theirs
joined_under-requires-in-None-Some-clause-theirs g c = covers_lent g.S.DotStore.held c.args.self.now.theirs.now c.args.right c.in-None-Some.right c.in-None-Some.is-1 c.requires.1
