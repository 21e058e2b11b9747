-- One station, over tables and over operations.
use Rattle.sup_model.proofs.StationLaws.{plain_acts_stand, ships_stand, mail_stands}
use Rattle.sup_model.proofs.laws.a_station_answers_as_its_node.Goals as goal

pub returns : goal.returns
returns c = record { acts = plain_acts_stand; ships = ships_stand; mail = mail_stands }
