-- The text of a message, or of an image, that is cut short.
use Rattle.std.proofs.Common.{◌≡◌, ◌⊎◌, inl, inr, ℕ, ◌<◌, length, take, Some, None, Result, Ok, Err, refl, sym, subst, ◌∙◌}
use Rattle.std.specs.Prelude.{IfOk, IfErr}
use Rattle.std.proofs.lemmas.Option.{none-some}
use Rattle.sup_specs.specs.Values.{Bytes}
use Rattle.serde_json.specs.Data.{Data, object, Members}
use Rattle.serde_json.specs.Read.{read}
use Rattle.serde_json.specs.Written.{compact_text}
use Rattle.sup_wire.specs.declared.fault.WireFault.{WireFault}
use Rattle.sup_wire.specs.declared.fault.WireFault.TheVariants.{NotJson, NotMessage, BadVersion, NotCanonical, OutOfMemory}
use Rattle.sup_wire.specs.Drafts.{Draft, ack, push, delta, image}
use Rattle.sup_wire.specs.Faults.{TextSays, IsTextOf, IsFault}
use Rattle.sup_wire.specs.Forms.{value_in, value_of}
use Rattle.sup_cut_texts.proofs.CutShort.{object_cut_unread}

an_object : (x : Draft) → (ms : Members) × (value_of x ≡ object ms)
an_object (ack from to n) = (_, refl)
an_object (push from to p) = (_, refl)
an_object (delta from to n p) = (_, refl)
an_object (image node boot count p) = (_, refl)

value_cut_unread : (d : Data) (ms : Members) → d ≡ object ms → (k : ℕ) → read (compact_text d) ≡ Some d → k < length (compact_text d) → read (take k (compact_text d)) ≡ None
value_cut_unread d ms is k = subst (λ v. read (compact_text v) ≡ Some v → k < length (compact_text v) → read (take k (compact_text v)) ≡ None) (sym is) (object_cut_unread ms (object ms) k)

module _ {M : Type 0} (IsDraft : M → Draft → Type 0) (InRange : M → Type 0) (text : Bytes) (x : M) (k : ℕ) (is : IsTextOf IsDraft InRange text x) (short : k < length text) where
  pub cut_unread : read (take k text) ≡ None
  cut_unread =
      let d = value_of is.draft in
      let one = an_object is.draft in
      subst (λ t. read t ≡ Some d → k < length t → read (take k t) ≡ None) (sym is.compact) (value_cut_unread d one.0 one.1 k) is.json.value short

  pub cut_says_none : (y : M) → ¬ TextSays IsDraft (take k text) y
  cut_says_none y says = none-some (value_in says.version says.draft) (sym cut_unread ∙ says.json.value)

  -- so it is no JSON to a reader, whatever kind is asked for
  pub cut_refused : (Kind : Draft → Type 0) (r : Result M WireFault) → IfOk r (λ y. TextSays IsDraft (take k text) y) → IfErr r (IsFault Kind (take k text)) → (r ≡ Err NotJson) ⊎ (r ≡ Err OutOfMemory)
  cut_refused Kind (Ok y) says fault = absurd (cut_says_none y says)
  cut_refused Kind (Err NotJson) says fault = inl refl
  cut_refused Kind (Err NotMessage) says fault = absurd (none-some fault.0 (sym cut_unread ∙ fault.1.value))
  cut_refused Kind (Err BadVersion) says fault = absurd (none-some fault.0 (sym cut_unread ∙ fault.1.value))
  cut_refused Kind (Err NotCanonical) says fault = absurd (none-some (value_in fault.0 fault.1) (sym cut_unread ∙ fault.2.value))
  cut_refused Kind (Err OutOfMemory) says fault = inr refl
