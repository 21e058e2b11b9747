use Rattle.sup_supd.proofs.node.run_node.Goals as goal

pub returns-in-Sha256-clause-runs : goal.returns-in-Sha256-clause-runs
returns-in-Sha256-clause-runs g c = rw c.in-Sha256.is c.run_by-station.ensures

pub returns-in-Flat-clause-runs : goal.returns-in-Flat-clause-runs
returns-in-Flat-clause-runs g c = rw c.in-Flat.is c.run_by-station-in-Flat.ensures
