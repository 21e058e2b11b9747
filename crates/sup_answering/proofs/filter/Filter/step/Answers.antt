use Rattle.std.proofs.Common.{subst}
use Rattle.sup_station.specs.KeptStations.{KeptStation, kept_station_of}
use Rattle.sup_station.specs.PreparedActs.{CommitsPrepared}
use Rattle.sup_station.proofs.CommitLaws.{committed_goes}
use Rattle.sup_answering.proofs.filter.Filter.step.Goals as goal

pub returns-clause-goes : goal.returns-clause-goes
returns-clause-goes g c = let s = kept_station_of g.K.Keeper.kept c.args.self.now.station in let t = kept_station_of g.K.Keeper.kept c.commit.new.self in
    committed_goes g.W.Weigh.weight_of s c.args.act.now c.args.now c.in_ok-prepared.prepared c.in_ok-prepared.ensures.answer c.commit.result t
    (subst (λ (m : KeptStation). CommitsPrepared m c.in_ok-prepared.prepared c.commit.result t) c.in_ok-prepared.ensures.same c.commit.ensures.answer)
