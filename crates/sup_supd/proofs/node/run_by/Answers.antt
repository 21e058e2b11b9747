use Rattle.std.proofs.Common.{refl, inl, inr}
use Rattle.sup_station.specs.KeptStations.{keeper_of, kept_station_of}
use Rattle.sup_answering.specs.AnsweringNodes.{known}
use Rattle.sup_supd.proofs.node.run_by.Goals as goal

pub returns-in-Ok : goal.returns-in-Ok
returns-in-Ok g c =
    let begun = c.in-Ok.begun.filter in let last = c.serve-end.new.filter in
    inr (
      c.serve-end.result,
      record {
        first = c.in-Ok.begun.first.items;
        begun = known begun.name (kept_station_of g.K.Keeper.kept begun.station) begun.peers.items (g.K.Keeper.failures (keeper_of begun.station)) (g.K.ImageKeeper.lost (keeper_of begun.station));
        last = known last.name (kept_station_of g.K.Keeper.kept last.station) last.peers.items (g.K.Keeper.failures (keeper_of last.station)) (g.K.ImageKeeper.lost (keeper_of last.station));
        named = c.in-Ok.ensures.name;
        alone = c.in-Ok.ensures.peers;
        begins = c.in-Ok.ensures.begins;
        uncounted = c.in-Ok.ensures.uncounted;
        serves = rw c.as_slice.ensures.value at c.serve-end.ensures;
        stays = refl;
        leaves = record { keeps = refl; failed = refl; is_lost = refl };
      },
      c.end_with-ended.ensures,
    )

pub returns-in-Err : goal.returns-in-Err
returns-in-Err g c = inl (
  c.in-Err.unbegun.fault,
  record { why = c.in-Err.ensures.fault; leaves = c.in-Err.ensures.leaves; keeps = refl; counted = c.in-Err.ensures.counted; order = c.in-Err.ensures.order },
  refl,
  c.refuse-ended.ensures,
)
