use Rattle.std.proofs.Common.{take}
use Rattle.sup_node_gate.specs.Gates.{IsOf, view_of}
use Rattle.sup_node_gate.specs.InMemory.{failures_by, sound_by}
use Rattle.sup_station.specs.OpenedStations.{kept_by}
use Rattle.sup_uses.specs.SharedGates.{CallsActs}
use Rattle.sup_uses.proofs.sharing.make_acts.Given as goal

abbrev pub invariant-loop-act : goal.invariant-loop-act
invariant-loop-act g l = record {
  of : IsOf kept_by failures_by sound_by l.gate l.pass;
  calls : CallsActs (take l.act-index l.acts) (view_of l.fn.pass) (view_of l.pass);
}
