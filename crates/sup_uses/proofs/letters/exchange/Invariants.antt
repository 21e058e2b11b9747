use Rattle.sup_station.specs.KeptStations.{keeper_of, kept_station_of}
use Rattle.sup_uses.specs.Letters.{CountsNone, MakesRounds}
use Rattle.sup_uses.proofs.letters.exchange.Given as goal

abbrev pub invariant-loop : goal.invariant-loop
invariant-loop g l =
    let kept = kept_station_of g.K.Keeper.kept in
    MakesRounds g.W.Weigh.weight_of l.left_name l.right_name l.counter (kept l.fn.left) (kept l.fn.right) (kept l.left) (kept l.right)
    × CountsNone g.K.Keeper.failures (keeper_of l.fn.left) (keeper_of l.fn.right) (keeper_of l.left) (keeper_of l.right)
