-- A record that was made (this project).
use Rattle.std.specs.Prelude.{◌≡◌, ◌≤◌, ◌*◌, length}
use Rattle.sup_specs.specs.Values.{Bytes}
use Rattle.sup_journal.specs.declared.making.Record.{Record}
use Rattle.sup_journal.specs.Appends.{MakesImage}

-- it makes the new image of the old one, has that image beside it, and is at most half as long
pub record IsRecordFor (made : Record) (old new : Bytes) : Type 0 where
  pub makes : MakesImage made.bytes.items old new
  pub image : made.image.items ≡ new
  pub short : 2 * length made.bytes.items ≤ length new
