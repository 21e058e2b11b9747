use Rattle.std.proofs.Common.{sym, ap, subst, ◌∙◌, ◌<◌, length}
use Rattle.std.specs.Str.{bytes_eq}
use Rattle.sup_local_sup.specs.Supervising.{others}
use Rattle.sup_local_sup.proofs.PlaceLaws.{taken_out, none_out, shorter}
use Rattle.sup_local_sup.proofs.late.remove_late.Goals as goal

pub take_out-requires : goal.take_out-requires
take_out-requires c = (taken_out (bytes_eq c.args.id.now) c.in-Some.at c.loop-at.late (sym c.place_of.ensures ∙ c.in-Some.is)).0

pub loop-at-smaller : goal.loop-at-smaller
loop-at-smaller c =
    let within = (taken_out (bytes_eq c.args.id.now) c.in-Some.at c.loop-at.late (sym c.place_of.ensures ∙ c.in-Some.is)).0 in
    subst (λ l. length l < length c.loop-at.late) (sym c.take_out.ensures) (shorter c.in-Some.at c.loop-at.late within)

pub loop-at-preserved : goal.loop-at-preserved
loop-at-preserved c =
    ap (λ l. others l c.args.id.now) c.take_out.ensures
    ∙ (taken_out (bytes_eq c.args.id.now) c.in-Some.at c.loop-at.late (sym c.place_of.ensures ∙ c.in-Some.is)).1
    ∙ c.loop-at.invariant

pub returns : goal.returns
returns c = sym (none_out (bytes_eq c.args.id.now) 0 c.loop-at.late (sym c.place_of.ensures ∙ c.in_default.is)) ∙ c.loop-at.invariant
