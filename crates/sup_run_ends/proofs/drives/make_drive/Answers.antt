use Rattle.std.proofs.Common.{◌≡◌, get_or, ap, subst}
use Rattle.std.proofs.lemmas.Option.{get_or_from_slice_get}
use Rattle.sup_plan.specs.Parts.{commands_of}
use Rattle.sup_posts.specs.declared.shared_node.SharedNode.{SharedNode}
use Rattle.sup_run_ends.proofs.DealtPassLaws.{reach_all}
use Rattle.sup_run_ends.proofs.drives.make_drive.Goals as goal

pub returns-clause-drive : goal.returns-clause-drive
returns-clause-drive g c = λ post e.
    let name : (get_or c.args.posts.now c.args.at c.index-posts-at.result).name ≡ post.name
    = ap (λ (p : SharedNode g.row.W.Denot g.W.Weigh). p.name) (get_or_from_slice_get c.args.posts.now c.args.at post c.index-posts-at.result e) in
    let row = c.requires.lanes in
    record {
      place = e;
      takes = record { seat = c.requires.seat; lanes = row.lanes_are };
      commands = subst (λ n. c.in_ok-commands.commands.items ≡ commands_of n c.args.plan.now.commands.items) name c.in_ok-commands.ensures;
      reach = reach_all c.args.plan.now.scripts.items post.name c.args.posts.now c.args.lanes.items c.args.at row.only (row.lead post e);
      only = row.only;
      lead = row.lead post e;
      fresh = c.requires.fresh;
      all_fresh = row.fresh;
    }
