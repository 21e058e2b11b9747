-- Bytes at a station.
use Rattle.sup_model.proofs.ArrivalLaws.{bytes_arrive, other_bytes}
use Rattle.sup_model.proofs.laws.bytes_come_as_they_are_read.Goals as goal

pub returns : goal.returns
returns c = record { read = bytes_arrive; other = other_bytes }
