-- What contexts, messages and images are read as (this project). For private clauses, and for tests of bytes.
use Rattle.std.specs.Prelude.{ℕ, ◌≡◌, ◌≢◌, ◌⊎◌, List, [], ◌∷◌, Option, Some, None, option_map, Result, Ok, Err, codes, bytes_eq, if◌then◌else◌}
use Rattle.sup_specs.specs.Values.{Bytes}
use Rattle.sup_specs.specs.Texts.{text_fault}
use Rattle.sup_specs.specs.declared.limits.TheConstants.{MAX}
use Rattle.sup_specs.specs.declared.texts.Alphabet.TheVariants.{NodeBytes}
use Rattle.sup_causal.specs.declared.dot.Dot.{Dot}
use Rattle.sup_tables.specs.declared.row.Row.{Row}
use Rattle.sup_tables.specs.States.{State}
use Rattle.serde_json.specs.Data.{Data, Members, no_members, member}
use Rattle.serde_json.specs.Find.{get, as_array, as_object}
use Rattle.sup_wire.specs.declared.fault.WireFault.{WireFault}
use Rattle.sup_wire.specs.declared.fault.WireFault.TheVariants.{NotJson, NotMessage, BadVersion, NotCanonical, OutOfMemory}
use Rattle.sup_wire.specs.declared.version.Version.{Version}
use Rattle.sup_wire.specs.declared.reading.parts.Parts.{Parts as ReadParts}
use Rattle.sup_wire.specs.Faults.{IsJson}
use Rattle.sup_wire.specs.Forms.{version_number}
use Rattle.sup_wire.specs.FieldReads.{◌>>=◌, has_just, name_in, within_in, count_at, unfaulted, ends_at, kind_at}
use Rattle.sup_wire.specs.RowReads.{each_in, dot_at, rows_at}
use Rattle.sup_wire.specs.Drafts.{TableParts, Draft, ack, push, delta, image, IsCut, IsWhole, IsSound, AreCanonical}

unfoldable pub dots_at : Data → Option (List Dot)
dots_at d = as_array d >>= each_in dot_at

abbrev pub name_from : Bytes → Option Bytes
name_from text = unfaulted (text_fault NodeBytes 1 64 text) text

unfoldable pub note_from : Bytes → Data → Option (Bytes × ℕ)
note_from name d = do
  node ← name_from name
  counter ← count_at d
  Some (node, counter)

abbrev pub notes_in : Members → Option (List (Bytes × ℕ))
notes_in no_members = Some []
notes_in (member k d ms) = note_from k d >>= λ note. option_map (λ notes. note ∷ notes) (notes_in ms)

unfoldable pub vector_at : Data → Option (List (Bytes × ℕ))
vector_at d = as_object d >>= notes_in

unfoldable pub context_fields : List Bytes
context_fields = codes "cloud" ∷ codes "vector" ∷ []

unfoldable pub cloud_in : Data → Option (List Dot)
cloud_in d = get (codes "cloud") d >>= dots_at

unfoldable pub vector_in : Data → Option (List (Bytes × ℕ))
vector_in d = get (codes "vector") d >>= vector_at

unfoldable pub context_at : Data → Option (List (Bytes × ℕ) × List Dot)
context_at d = if has_just context_fields d then (do
  cloud ← cloud_in d
  vector ← vector_in d
  Some (vector, cloud)) else None

unfoldable pub context_in : Data → Option (List (Bytes × ℕ) × List Dot)
context_in d = get (codes "ctx") d >>= context_at

unfoldable pub rows_in : Version → Data → Option (List Row)
rows_in v d = get (codes "rows") d >>= rows_at v

unfoldable pub parts_at : Version → Data → Option TableParts
parts_at v d = do
  context ← context_in d
  rows ← rows_in v d
  Some (record { vector = context.0; cloud = context.1; rows = rows })

-- the parts that a reader holds
abbrev pub parts_read : ReadParts → TableParts
parts_read p = record { vector = p.vector.items; cloud = p.cloud.items; rows = p.rows.items }

unfoldable pub ack_fields : List Bytes
ack_fields = codes "from" ∷ codes "kind" ∷ codes "n" ∷ codes "to" ∷ codes "v" ∷ []

unfoldable pub ack_at : Data → Option Draft
ack_at d = if has_just ack_fields d then (do
  ends ← ends_at d
  n ← within_in (codes "n") 1 MAX d
  Some (ack ends.0 ends.1 n)) else None

unfoldable pub push_fields : List Bytes
push_fields = codes "ctx" ∷ codes "from" ∷ codes "kind" ∷ codes "rows" ∷ codes "to" ∷ codes "v" ∷ []

unfoldable pub push_at : Version → Data → Option Draft
push_at v d = if has_just push_fields d then (do
  ends ← ends_at d
  parts ← parts_at v d
  Some (push ends.0 ends.1 parts)) else None

unfoldable pub delta_fields : List Bytes
delta_fields = codes "ctx" ∷ codes "from" ∷ codes "kind" ∷ codes "n" ∷ codes "rows" ∷ codes "to" ∷ codes "v" ∷ []

unfoldable pub delta_at : Version → Data → Option Draft
delta_at v d = if has_just delta_fields d then (do
  ends ← ends_at d
  n ← within_in (codes "n") 1 MAX d
  parts ← parts_at v d
  Some (delta ends.0 ends.1 n parts)) else None

unfoldable pub image_fields : List Bytes
image_fields = codes "boot" ∷ codes "count" ∷ codes "ctx" ∷ codes "kind" ∷ codes "node" ∷ codes "rows" ∷ codes "v" ∷ []

unfoldable pub opening_at : Data → Option (Bytes × ℕ × ℕ)
opening_at d = do
  node ← name_in (codes "node") d
  boot ← within_in (codes "boot") 1 MAX d
  count ← within_in (codes "count") 0 MAX d
  Some (node, boot, count)

unfoldable pub image_at : Version → Data → Option Draft
image_at v d = if has_just image_fields d then (do
  opening ← opening_at d
  parts ← parts_at v d
  Some (image opening.0 opening.1 opening.2 parts)) else None

-- the draft of a kind, where each field has its form
unfoldable pub message_from : Version → Bytes → Data → Option Draft
message_from v kind d =
    if bytes_eq kind (codes "ack") then ack_at d else
    if bytes_eq kind (codes "push") then push_at v d else
    if bytes_eq kind (codes "delta") then delta_at v d else None

unfoldable pub message_at : Version → Data → Option Draft
message_at v d = kind_at d >>= λ kind. message_from v kind d

unfoldable pub image_from : Version → Bytes → Data → Option Draft
image_from v kind d = if bytes_eq kind (codes "image") then image_at v d else None

unfoldable pub stored_at : Version → Data → Option Draft
stored_at v d = kind_at d >>= λ kind. image_from v kind d

-- ---- answers

-- Why a text is no JSON.
abbrev pub NoJson : Bytes → WireFault → Type 0
NoJson text NotJson = (d : Data) → ¬ IsJson text d
NoJson text NotMessage = ⊥
NoJson text BadVersion = ⊥
NoJson text NotCanonical = ⊥
NoJson text OutOfMemory = Unit {0}

-- Tables of these parts, or why there are none: `OutOfMemory` may stand in place of any answer.
abbrev pub RefusesParts : WireFault → TableParts → Type 0
RefusesParts NotJson p = ⊥
RefusesParts NotMessage p = ⊥
RefusesParts BadVersion p = ⊥
RefusesParts NotCanonical p = ¬ AreCanonical p
RefusesParts OutOfMemory p = Unit {0}

abbrev pub SealsParts : Result State WireFault → TableParts → Type 0
SealsParts (Ok t) p = IsCut t p × IsWhole t
SealsParts (Err e) p = RefusesParts e p

-- A message or an image of a draft that was read, or why there is none.
abbrev pub RefusesDraft : WireFault → Option Draft → Type 0
RefusesDraft NotJson read = ⊥
RefusesDraft NotMessage read = read ≡ None
RefusesDraft BadVersion read = ⊥
RefusesDraft NotCanonical read = (d : Draft) × (read ≡ Some d) × ¬ IsSound d
RefusesDraft OutOfMemory read = Unit {0}

abbrev pub SealsDraft : {M : Type 0} → (M → Draft → Type 0) → (M → Type 0) → Result M WireFault → Option Draft → Type 0
SealsDraft IsDraft Whole (Ok m) read = (d : Draft) × (read ≡ Some d) × IsDraft m d × Whole m
SealsDraft IsDraft Whole (Err e) read = RefusesDraft e read

-- The same of a value, whose version is judged first, and which is read as that version has it.
abbrev pub RefusesVersion : WireFault → Option ℕ → (Version → Option Draft) → Type 0
RefusesVersion NotJson version read = ⊥
RefusesVersion NotMessage version read = (version ≡ None) ⊎ ((v : Version) × (version ≡ Some (version_number v)) × (read v ≡ None))
RefusesVersion BadVersion version read = (n : ℕ) × (version ≡ Some n) × (n ≢ 1) × (n ≢ 2)
RefusesVersion NotCanonical version read = (v : Version) × (version ≡ Some (version_number v)) × ((d : Draft) × (read v ≡ Some d) × ¬ IsSound d)
RefusesVersion OutOfMemory version read = Unit {0}

abbrev pub DecodesTo : {M : Type 0} → (M → Draft → Type 0) → (M → Type 0) → Result M WireFault → Option ℕ → (Version → Option Draft) → Type 0
DecodesTo IsDraft Whole (Ok m) version read = (v : Version) × (version ≡ Some (version_number v)) × ((d : Draft) × (read v ≡ Some d) × IsDraft m d × Whole m)
DecodesTo IsDraft Whole (Err e) version read = RefusesVersion e version read
