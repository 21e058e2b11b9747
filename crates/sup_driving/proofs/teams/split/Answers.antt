use Rattle.sup_driving.proofs.teams.split.Goals as goal

pub returns-clause-ready : goal.returns-clause-ready
returns-clause-ready g c = (record { seat = c.requires.seat; unused = c.in_ok-wires.ensures.unused }, c.in_ok-wires.ensures.ready)
