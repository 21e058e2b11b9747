use Rattle.std.proofs.Common.{◌≡◌, ◌++◌, List, All}
use Rattle.std.specs.Prelude.{IsOk}
use Rattle.std.specs.List.{AllZip}
use Rattle.sup_links.specs.declared.link_in.Sent.{Sent}
use Rattle.sup_driving.specs.GatheredResults.{CanMeet, AllMet}
use Rattle.sup_driving.proofs.gathering.meet_all.Given as goal

abbrev pub invariant-loop-end : goal.invariant-loop-end
invariant-loop-end g l =
    (l.yielded ++ l.end-iterator.rest.items ≡ l.initial.end-iterator.rest.items)
    × AllZip CanMeet l.sent.rest.items l.end-iterator.rest.items
    × All IsOk l.end-iterator.rest.items
    × ((gone : List Sent) × (gone ++ l.sent.rest.items ≡ l.initial.sent.rest.items) × AllMet gone l.yielded l.arrived.items)
