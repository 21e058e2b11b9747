use Rattle.std.proofs.Common.{◌++◌, ap, ◌∙◌}
use Rattle.sup_node_gate.specs.Gates.{view_of}
use Rattle.sup_node_gate.specs.Shares.{halved}
use Rattle.sup_uses.proofs.SharedCallLaws.{shared_by}
use Rattle.sup_uses.proofs.sharing.share.Goals as goal

pub returns-clause-shared : goal.returns-clause-shared
returns-clause-shared g c =
    shared_by c.args.left.now c.args.right.now (view_of c.in_ok-pass.pass) c.in_ok-closed.closed.history.items
    c.in_ok-pass.ensures.calls (c.in_ok-pass.ensures.shares ∙ ap (λ v. halved v.shares ++ halved v.shares) c.in-Ok.ensures.view) c.in_ok-closed.ensures.closes.sole
