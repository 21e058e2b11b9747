-- The test of bytes tells whether they say a message.
use Rattle.std.proofs.Common.{◌≡◌, ℕ, ◌==◌, true, cond, Option, Some, None, refl, sym, ap, subst, ◌∙◌, inl, inr}
use mathlib.Core.Bool.{true≢false}
use Rattle.std.proofs.lemmas.Option.{same_Some, none-some}
use Rattle.std.specs.Str.{is_utf8}
use Rattle.std.proofs.lemmas.Bool.{and_parts, and_from}
use Rattle.std.proofs.lemmas.Bool.Decides.{Decides-eqb}
use Rattle.std.proofs.lemmas.Str.{IsUtf8-from_is_utf8, is_utf8-from_IsUtf8}
use Rattle.serde_json.specs.Data.{Data}
use Rattle.serde_json.specs.Read.{read}
use Rattle.sup_specs.specs.Values.{Bytes}
use Rattle.sup_wire.specs.declared.version.Version.{Version}
use Rattle.sup_wire.specs.declared.version.Version.TheVariants.{One, Two}
use Rattle.sup_wire.specs.Drafts.{Draft}
use Rattle.sup_wire.specs.DraftReads.{message_at}
use Rattle.sup_wire.specs.Faults.{IsJson, version_at}
use Rattle.sup_wire.specs.Forms.{version_number, value_in}
use Rattle.sup_wire.proofs.DraftLaws.{message_takes, message_again, version_again}
use Rattle.sup_wire.proofs.DraftsOf.{message_kind, message_sound}
use Rattle.sup_wire.proofs.FieldLaws.{chosen, when}
use Rattle.sup_message_texts.specs.Messages.{is_sound_if, version_of, draft_in, is_message_value, is_message_text, IsMessage}
use Rattle.sup_message_texts.proofs.Tests.{sound_if, if_sound}
use Rattle.sup_message_texts.proofs.WholeStates.{message_of}

version_if : (said : Option ℕ) (v : Version) → version_of said ≡ Some v → said ≡ Some (version_number v)
version_if None v e = absurd (none-some v e)
version_if (Some n) v e = elim (chosen (n == 1) (Some One) (cond (n == 2) (Some Two) None) (Some v) e) [
  | inl p ↦ ap Some ((Decides-eqb n 1).0 p.0) ∙ ap (λ w. Some (version_number w)) (same_Some One v p.1)
  | inr p ↦ let q = when (n == 2) (Some Two) v p.1 in ap Some ((Decides-eqb n 2).0 q.0) ∙ ap (λ w. Some (version_number w)) (same_Some Two v q.1)
]

if_version : (v : Version) → version_of (Some (version_number v)) ≡ Some v
if_version One = refl
if_version Two = refl

draft_if : (o : Option Draft) → is_sound_if o ≡ true → (d : Draft) × (o ≡ Some d) × (is_sound_if (Some d) ≡ true)
draft_if None e = absurd (true≢false (sym e))
draft_if (Some d) e = (d, refl, e)

-- a draft that is read is read in a version
draft_of : (o : Option Version) (value : Data) (d : Draft) → draft_in o value ≡ Some d → (v : Version) × (o ≡ Some v) × (message_at v value ≡ Some d)
draft_of None value d e = absurd (none-some d e)
draft_of (Some v) value d e = (v, refl, e)

-- bytes of a value that is a message say one
said : (bytes : Bytes) (value : Data) → IsJson bytes value → is_message_value (Some value) ≡ true → IsMessage bytes
said bytes value json e =
    let d = draft_if (draft_in (version_of (version_at value)) value) e in
    let r = draft_of (version_of (version_at value)) value d.0 d.1 in
    let takes = message_takes r.0 value d.0 (version_if (version_at value) r.0 r.1) r.2 in
    let m = message_of d.0 takes.2 (sound_if d.0 d.2) in
    record { message = m.0; whole = m.1; says = record { version = r.0; draft = d.0; same = m.2; formed = takes.1; json = subst (IsJson bytes) takes.0 json } }

value_if : (bytes : Bytes) (o : Option Data) → read bytes ≡ o → is_utf8 bytes ≡ true → is_message_value o ≡ true → IsMessage bytes
value_if bytes None is utf8 e = absurd (true≢false (sym e))
value_if bytes (Some value) is utf8 e = said bytes value (record { utf8 = IsUtf8-from_is_utf8 bytes utf8; value = is }) e

pub message_if : (bytes : Bytes) → is_message_text bytes ≡ true → IsMessage bytes
message_if bytes e = let parts = and_parts (is_utf8 bytes) (is_message_value (read bytes)) e in value_if bytes (read bytes) refl parts.0 parts.1

pub if_message : (bytes : Bytes) → IsMessage bytes → is_message_text bytes ≡ true
if_message bytes is =
    let v = is.says.version in
    let draft = is.says.draft in
    let kind = message_kind is.message draft is.says.same in
    let sound = message_sound is.message draft is.says.same is.whole in
    let value : is_message_value (Some (value_in v draft)) ≡ true =
    ap (λ n. is_sound_if (draft_in (version_of n) (value_in v draft))) (version_again v draft) ∙ ap (λ o. is_sound_if (draft_in o (value_in v draft))) (if_version v)
    ∙ ap is_sound_if (message_again v draft kind is.says.formed) ∙ if_sound draft sound in
    and_from _ _ (is_utf8-from_IsUtf8 bytes is.says.json.utf8) (ap is_message_value is.says.json.value ∙ value)
