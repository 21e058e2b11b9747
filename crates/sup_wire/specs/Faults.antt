-- What a text says, and which fault it has (this project).
use Rattle.std.specs.Prelude.{◌≡◌, ◌≢◌, ◌⊎◌, ◌++◌, ℕ, ◌≤◌, Option, Some, None, option_and_then, Result, Ok, Err, codes}
use Rattle.std.specs.Str.{IsUtf8}
use Rattle.sup_specs.specs.Values.{Bytes}
use Rattle.sup_specs.specs.declared.limits.TheConstants.{MAX}
use Rattle.serde_json.specs.Data.{Data}
use Rattle.serde_json.specs.Find.{get, as_number, as_u64}
use Rattle.serde_json.specs.Read.{read}
use Rattle.serde_json.specs.Written.{compact_text}
use Rattle.sup_wire.specs.declared.fault.WireFault.{WireFault}
use Rattle.sup_wire.specs.declared.fault.WireFault.TheVariants.{NotJson, NotMessage, BadVersion, NotCanonical, OutOfMemory}
use Rattle.sup_wire.specs.declared.message.Message.{Message}
use Rattle.sup_wire.specs.declared.message.Message.TheVariants.{Ack, Push, Delta}
use Rattle.sup_wire.specs.declared.image.Image.{Image}
use Rattle.sup_wire.specs.declared.version.Version.{Version}
use Rattle.sup_wire.specs.declared.version.Version.TheVariants.{Two}
use Rattle.sup_wire.specs.Drafts.{Draft, IsSound}
use Rattle.sup_wire.specs.Forms.{version_number, value_in, value_of, IsFormed, IsCount}

-- the text is the JSON value
pub record IsJson (text : Bytes) (d : Data) : Type 0 where
  pub utf8 : IsUtf8 text
  pub value : read text ≡ Some d

-- the text is the value of x in a version, whose draft this is, and each field is what it may be there
pub record TextSays {M : Type 0} (IsDraft : M → Draft → Type 0) (text : Bytes) (x : M) : Type 0 where
  pub version : Version
  pub draft : Draft
  pub same : IsDraft x draft
  pub formed : IsFormed version draft
  pub json : IsJson text (value_in version draft)

-- a text says one at most of those that are whole
abbrev pub IsOneSaid : {M : Type 0} → (M → Draft → Type 0) → (M → Type 0) → Type 0
IsOneSaid {M} IsDraft IsWhole = (text : Bytes) (m n : M) → IsWhole m → IsWhole n → TextSays IsDraft text m → TextSays IsDraft text n → n ≡ m

-- the text is the compact one of the value of x in the version that is written, and is read as that value; where x is in its range, each field
-- is what it may be
pub record IsTextOf {M : Type 0} (IsDraft : M → Draft → Type 0) (InRange : M → Type 0) (text : Bytes) (x : M) : Type 0 where
  pub draft : Draft
  pub same : IsDraft x draft
  pub compact : text ≡ compact_text (value_of draft)
  pub json : IsJson text (value_of draft)
  pub formed : InRange x → IsFormed Two draft

-- the same behind a front
pub record IsTextAfter {M : Type 0} (IsDraft : M → Draft → Type 0) (InRange : M → Type 0) (front all : Bytes) (x : M) : Type 0 where
  pub text : Bytes
  pub parts : all ≡ front ++ text
  pub is : IsTextOf IsDraft InRange text x

-- the number that a value has as its version
abbrev pub version_at : Data → Option ℕ
version_at d = option_and_then (λ v. option_and_then as_u64 (as_number v)) (get (codes "v") d)

-- the value says no version, or one that is read and is of no message (or image) with all fields in that version's forms
abbrev pub IsMisformed : (Draft → Type 0) → Data → Type 0
IsMisformed Kind d = (version_at d ≡ None) ⊎ ((v : Version) × (version_at d ≡ Some (version_number v)) × ((draft : Draft) → Kind draft → IsFormed v draft → d ≢ value_in v draft))

-- why a text is no message (or no image), first fault first; `OutOfMemory` may stand in place of any answer
abbrev pub IsFault : (Draft → Type 0) → Bytes → WireFault → Type 0
IsFault Kind text NotJson = (d : Data) → ¬ IsJson text d
IsFault Kind text NotMessage = (d : Data) × IsJson text d × IsMisformed Kind d
IsFault Kind text BadVersion = (d : Data) × IsJson text d × ((n : ℕ) × (version_at d ≡ Some n) × (n ≢ 1) × (n ≢ 2))
IsFault Kind text NotCanonical = (v : Version) × (draft : Draft) × IsJson text (value_in v draft) × Kind draft × IsFormed v draft × ¬ IsSound draft
IsFault Kind text OutOfMemory = Unit {0}

-- the answer is this, or that memory was refused
abbrev pub IsOrMemory : {T : Type 0} → T → Result T WireFault → Type 0
IsOrMemory x (Ok y) = y ≡ x
IsOrMemory x (Err e) = e ≡ OutOfMemory

-- sender and receiver differ, and the number is in its range; all else holds of each message
abbrev pub IsInRange : Message → Type 0
IsInRange (Ack from to n) = (from ≢ to) × IsCount n
IsInRange (Push from to state) = from ≢ to
IsInRange (Delta from to n state) = (from ≢ to) × IsCount n

-- the numbers of an image are in their ranges
abbrev pub IsImageInRange : Image → Type 0
IsImageInRange i = IsCount i.boot × (i.count ≤ MAX)
