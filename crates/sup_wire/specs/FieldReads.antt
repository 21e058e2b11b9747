-- What the fields of a JSON value are read as (this project). For private clauses.
use Rattle.std.specs.Prelude.{ℕ, Bool, true, false, ◌&&◌, List, [], ◌∷◌, Option, Some, None, option_and_then, Result, Ok, Err, codes, bytes_eq, nat_le, if◌then◌else◌, ◌≡◌}
use Rattle.sup_specs.specs.Values.{Bytes}
use Rattle.sup_specs.specs.Texts.{text_fault}
use Rattle.sup_specs.specs.declared.limits.TheConstants.{MAX}
use Rattle.sup_specs.specs.declared.texts.Alphabet.TheVariants.{NodeBytes, Visible}
use Rattle.sup_specs.specs.declared.texts.TextFault.{TextFault}
use Rattle.serde_json.specs.Data.{Data, null, boolean, number, string, array, object, Members, no_members, member}
use Rattle.serde_json.specs.Find.{get, as_number, as_u64, as_str}
use Rattle.sup_wire.specs.declared.fault.WireFault.{WireFault}
use Rattle.sup_wire.specs.declared.fault.WireFault.TheVariants.{NotJson, NotMessage, BadVersion, NotCanonical, OutOfMemory}

infixl 10 ◌>>=◌
abbrev pub ◌>>=◌ : {A B : Type 0} → Option A → (A → Option B) → Option B
o >>= f = option_and_then f o

-- What a reader answered, beside what is read there: `OutOfMemory` may stand in place of any answer.
abbrev pub ReadFails : {Y : Type 0} → WireFault → Option Y → Type 0
ReadFails NotJson read = ⊥
ReadFails NotMessage read = read ≡ None
ReadFails BadVersion read = ⊥
ReadFails NotCanonical read = ⊥
ReadFails OutOfMemory read = Unit {0}

abbrev pub ReadGives : {Y : Type 0} → Result Y WireFault → Option Y → Type 0
ReadGives (Ok y) read = read ≡ Some y
ReadGives (Err e) read = ReadFails e read

-- the same, where view shows what was answered
abbrev pub ReadGivesBy : {X Y : Type 0} → (X → Y) → Result X WireFault → Option Y → Type 0
ReadGivesBy view (Ok x) read = read ≡ Some (view x)
ReadGivesBy view (Err e) read = ReadFails e read

-- whether the members' keys are these
abbrev pub are_keys : List Bytes → Members → Bool
are_keys [] no_members = true
are_keys [] (member k d ms) = false
are_keys (name ∷ names) no_members = false
are_keys (name ∷ names) (member k d ms) = bytes_eq name k && are_keys names ms

-- whether a value is an object with just these fields
unfoldable pub has_just : List Bytes → Data → Bool
has_just names null = false
has_just names (boolean b) = false
has_just names (number n) = false
has_just names (string s) = false
has_just names (array ds) = false
has_just names (object ms) = are_keys names ms

abbrev pub unfaulted : Option TextFault → Bytes → Option Bytes
unfaulted None text = Some text
unfaulted (Some fault) text = None

-- a node's name
unfoldable pub name_at : Data → Option Bytes
name_at d = as_str d >>= λ text. unfaulted (text_fault NodeBytes 1 64 text) text

-- a text of visible bytes
unfoldable pub text_at : ℕ → ℕ → Data → Option Bytes
text_at least most d = as_str d >>= λ text. unfaulted (text_fault Visible least most text) text

-- a number, as integers are read
abbrev pub number_at : Data → Option ℕ
number_at d = as_number d >>= as_u64

-- a number from least to most
unfoldable pub within_at : ℕ → ℕ → Data → Option ℕ
within_at least most d = number_at d >>= λ n. if nat_le least n && nat_le n most then Some n else None

-- a count
abbrev pub count_at : Data → Option ℕ
count_at d = within_at 1 MAX d

-- the fields of an object, by their names
unfoldable pub name_in : Bytes → Data → Option Bytes
name_in field d = get field d >>= name_at

unfoldable pub within_in : Bytes → ℕ → ℕ → Data → Option ℕ
within_in field least most d = get field d >>= within_at least most

unfoldable pub text_in : Bytes → ℕ → ℕ → Data → Option Bytes
text_in field least most d = get field d >>= text_at least most

-- sender and receiver
unfoldable pub ends_at : Data → Option (Bytes × Bytes)
ends_at d = do
  from ← name_in (codes "from") d
  to ← name_in (codes "to") d
  if bytes_eq from to then None else Some (from, to)

abbrev pub kind_at : Data → Option Bytes
kind_at d = get (codes "kind") d >>= as_str
