-- Which bytes are a message, as a test of the bytes (this project): the text of a JSON value of version 1 or 2, whose fields have that version's
-- forms and whose tables are canonical.
use Rattle.std.specs.Prelude.{ℕ, ◌+◌, ◌==◌, Bool, true, false, ◌&&◌, List, [], ◌∷◌, Option, Some, None, nat_le, if◌then◌else◌}
use Rattle.std.specs.List.{list_all}
use Rattle.std.specs.Map.{keys_of}
use Rattle.std.specs.Ordering.{is_lt}
use Rattle.std.specs.Str.{is_utf8}
use Rattle.std.specs.declared.cmp.Ordering.{Ordering}
use Rattle.serde_json.specs.Data.{Data}
use Rattle.serde_json.specs.Read.{read}
use Rattle.sup_specs.specs.Values.{Bytes, text_cmp}
use Rattle.sup_specs.specs.declared.limits.TheConstants.{MAX}
use Rattle.sup_causal.specs.declared.dot.Dot.{Dot}
use Rattle.sup_causal.specs.Dots.{dot_cmp}
use Rattle.sup_causal.specs.Cut.{entry, in_parts}
use Rattle.sup_tables.specs.Rows.{place_cmp}
use Rattle.sup_wire.specs.declared.message.Message.{Message}
use Rattle.sup_wire.specs.declared.version.Version.{Version}
use Rattle.sup_wire.specs.declared.version.Version.TheVariants.{One, Two}
use Rattle.sup_wire.specs.Drafts.{TableParts, Draft, ack, push, delta, image, IsDraftOf, IsWholeMessage}
use Rattle.sup_wire.specs.DraftReads.{message_at}
use Rattle.sup_wire.specs.Faults.{TextSays, version_at}

-- whether each element is below all later ones
abbrev pub rises : {X : Type 0} → (X → X → Ordering) → List X → Bool
rises cmp [] = true
rises cmp (x ∷ xs) = list_all (λ y. is_lt (cmp x y)) xs && rises cmp xs

abbrev pub is_within : ℕ → ℕ → ℕ → Bool
is_within least most n = nat_le least n && nat_le n most

-- whether parts are canonical, part by part
abbrev pub is_canonical_vector : List (Bytes × ℕ) → Bool
is_canonical_vector vector = rises text_cmp (keys_of vector) && list_all (λ e. is_within 1 MAX e.1) vector

abbrev pub is_canonical_cloud : List (Bytes × ℕ) → List Dot → Bool
is_canonical_cloud vector cloud = rises dot_cmp cloud && list_all (λ d. is_within (entry vector d.node + 2) MAX d.counter) cloud

abbrev pub has_canonical_rows : TableParts → Bool
has_canonical_rows p = rises place_cmp p.rows && list_all (λ r. in_parts p.vector p.cloud r.dot) p.rows

abbrev pub are_canonical : TableParts → Bool
are_canonical p = is_canonical_vector p.vector && (is_canonical_cloud p.vector p.cloud && has_canonical_rows p)

abbrev pub is_sound : Draft → Bool
is_sound (ack from to n) = true
is_sound (push from to p) = are_canonical p
is_sound (delta from to n p) = are_canonical p
is_sound (image node boot count p) = are_canonical p

abbrev pub is_sound_if : Option Draft → Bool
is_sound_if None = false
is_sound_if (Some draft) = is_sound draft

-- the version of this number, if it is one that is read
abbrev pub version_of : Option ℕ → Option Version
version_of None = None
version_of (Some n) = if n == 1 then Some One else if n == 2 then Some Two else None

-- what a value of this version says
abbrev pub draft_in : Option Version → Data → Option Draft
draft_in None value = None
draft_in (Some v) value = message_at v value

-- a value of a version that is read, and a sound message there
abbrev pub is_message_value : Option Data → Bool
is_message_value None = false
is_message_value (Some value) = is_sound_if (draft_in (version_of (version_at value)) value)

abbrev pub is_message_text : Bytes → Bool
is_message_text bytes = is_utf8 bytes && is_message_value (read bytes)

-- the bytes say some message
pub record IsMessage (bytes : Bytes) : Type 0 where
  pub message : Message
  pub whole : IsWholeMessage message
  pub says : TextSays IsDraftOf bytes message
