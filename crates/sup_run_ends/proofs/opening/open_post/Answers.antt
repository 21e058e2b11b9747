use Rattle.std.proofs.Common.{◌≡◌, ◌∙◌, ap, sym, subst}
use Rattle.sup_node_gate.specs.Shares.{IsWhole}
use Rattle.sup_node_gate.proofs.ShareLaws.{first_whole}
use Rattle.sup_run_ends.proofs.opening.open_post.Goals as goal

pub returns-clause-first : goal.returns-clause-first
returns-clause-first g c = record {
  fresh = ap (λ v. v.own) c.in-Ok-new.ensures.view;
  whole = subst IsWhole (sym (ap (λ v. v.shares) c.in-Ok-new.ensures.view)) first_whole;
}
