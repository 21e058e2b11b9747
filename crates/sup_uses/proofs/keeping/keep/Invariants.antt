use Rattle.std.proofs.Common.{take}
use Rattle.sup_station.specs.KeptStations.{kept_station_of}
use Rattle.sup_uses.specs.Acts.{HasMade, last_of}
use Rattle.sup_uses.proofs.keeping.keep.Given as goal

abbrev pub invariant-loop-act : goal.invariant-loop-act
invariant-loop-act g l = HasMade g.W.Weigh.weight_of l.fn.name (take l.act-index l.acts) (kept_station_of last_of l.station)
