use Rattle.std.proofs.Common.{ap, refl}
use Rattle.std.proofs.lemmas.Option.{get_or_from_slice_get}
use Rattle.sup_posts.specs.declared.shared_node.SharedNode.{SharedNode}
use Rattle.sup_driving.proofs.teams.split_lane.Goals as goal

pub returns-clause-wire : goal.returns-clause-wire
returns-clause-wire g c = record {
  post = c.requires.seat.0;
  stands = c.requires.seat.1;
  to = ap (λ (p : SharedNode g.row.W.Denot g.W.Weigh). p.name) (get_or_from_slice_get c.args.posts.now c.args.lane.to c.requires.seat.0 c.index-posts-to.result c.requires.seat.1);
  entry = refl;
}

pub returns-clause-unused : goal.returns-clause-unused
returns-clause-unused g c = c.requires.none_put

pub returns-clause-receive : goal.returns-clause-receive
returns-clause-receive g c = record { to = refl; seat = refl; exit = refl }

pub returns-clause-ready : goal.returns-clause-ready
returns-clause-ready g c = record { seat = c.requires.seat; none = c.requires.none_taken }
