-- What is read in the version that a value says is what the value says.
use Rattle.std.proofs.Common.{◌≡◌, inr, ℕ, Option, Some, Result, Ok, Err}
use Rattle.sup_wire.specs.declared.fault.WireFault.{WireFault}
use Rattle.sup_wire.specs.declared.fault.WireFault.TheVariants.{NotJson, NotMessage, BadVersion, NotCanonical, OutOfMemory}
use Rattle.sup_wire.specs.declared.version.Version.{Version}
use Rattle.sup_wire.specs.Drafts.{Draft}
use Rattle.sup_wire.specs.Forms.{version_number}
use Rattle.sup_wire.specs.DraftReads.{SealsDraft, DecodesTo}

pub sealed : {M : Type 0} (IsDraft : M → Draft → Type 0) (Whole : M → Type 0) (read : Version → Option Draft) (said : Option ℕ) (v : Version) → said ≡ Some (version_number v) → (r : Result M WireFault) → SealsDraft IsDraft Whole r (read v) → DecodesTo IsDraft Whole r said read
sealed IsDraft Whole read said v is (Ok m) seals = (v, is, seals)
sealed IsDraft Whole read said v is (Err NotJson) seals = absurd seals
sealed IsDraft Whole read said v is (Err NotMessage) seals = inr (v, is, seals)
sealed IsDraft Whole read said v is (Err BadVersion) seals = absurd seals
sealed IsDraft Whole read said v is (Err NotCanonical) seals = (v, is, seals)
sealed IsDraft Whole read said v is (Err OutOfMemory) seals = tt
