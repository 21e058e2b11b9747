use Rattle.sup_node.specs.Changes.{station_after}
use Rattle.sup_node.specs.Contents.{station_of}
use Rattle.sup_station.proofs.station.becoming.grow.Goals as goal

pub returns-in-Ok-save_text-clause-becomes : goal.returns-in-Ok-save_text-clause-becomes
returns-in-Ok-save_text-clause-becomes g c = let n = station_of c.args.node in c.carried_out-node.ensures.node n (station_after n c.args.planned.change) c.in-Ok.ensures.open

pub returns-in-Err-save_text-clause-refused : goal.returns-in-Err-save_text-clause-refused
returns-in-Err-save_text-clause-refused g c = let n = station_of c.args.node in c.given_up.ensures n (station_after n c.args.planned.change) c.in-Ok.ensures.open
