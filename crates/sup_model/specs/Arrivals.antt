-- Bytes at a station, beside the letters of a world (this project).
use Rattle.std.specs.Prelude.{ℕ, ◌≡◌, Bool, not, Some, None, Err}
use Rattle.sup_specs.specs.Values.{Bytes}
use Rattle.sup_tables.specs.States.{State}
use Rattle.sup_placement.specs.Place.{Weigher}
use Rattle.sup_replica.specs.declared.event.Event.TheVariants.{Deliver}
use Rattle.sup_replica.specs.declared.event.Act.TheVariants.{Event as Of}
use Rattle.sup_replica.specs.declared.refusal.Refusal.TheVariants.{Down, BadMessage}
use Rattle.sup_replica.specs.Checks.{refused_if}
use Rattle.sup_replica.specs.ByTables.{by_tables}
use Rattle.sup_replica.specs.Stations.{Station, Mail, MailCodec, station_step}
use Rattle.sup_model.specs.Posts.{arrives}

-- what is read as a letter comes as that letter does, uncut
abbrev pub BytesArrive : Type 0
BytesArrive =
    (codec : MailCodec State) (weigher : Weigher) (s : Station State) (bytes : Bytes) (mail : Mail State) (now : ℕ) (saves : Bool) → codec.read bytes ≡ Some mail
    → station_step by_tables codec weigher s (Of (Deliver bytes)) now saves ≡ arrives by_tables weigher s mail 0 saves

-- and what isn't is refused
abbrev pub OtherBytesAreRefused : Type 0
OtherBytesAreRefused =
    (codec : MailCodec State) (weigher : Weigher) (s : Station State) (bytes : Bytes) (now : ℕ) (saves : Bool) → codec.read bytes ≡ None
    → station_step by_tables codec weigher s (Of (Deliver bytes)) now saves ≡ refused_if (not s.node.up) Down (Err BadMessage)
