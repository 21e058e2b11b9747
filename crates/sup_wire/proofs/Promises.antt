-- What the codec promises, of what a value is read as.
use Rattle.std.proofs.Common.{◌≡◌, ◌≢◌, ℕ, ◌⊎◌, inl, inr, Option, Some, None, Result, Ok, Err, refl, sym, ap, ap₂, subst, ◌∙◌, arith}
use Rattle.std.specs.Prelude.{IfOk, IfErr}
use Rattle.std.proofs.lemmas.Option.{same_Some, none-some}
use Rattle.sup_specs.specs.Values.{Bytes}
use Rattle.serde_json.specs.Data.{Data}
use Rattle.sup_wire.specs.declared.fault.WireFault.{WireFault}
use Rattle.sup_wire.specs.declared.fault.WireFault.TheVariants.{NotJson, NotMessage, BadVersion, NotCanonical, OutOfMemory}
use Rattle.sup_wire.specs.declared.version.Version.{Version}
use Rattle.sup_wire.specs.declared.version.Version.TheVariants.{One, Two}
use Rattle.sup_wire.specs.Drafts.{Draft, IsSound}
use Rattle.sup_wire.specs.Forms.{version_number, value_in, IsFormed}
use Rattle.sup_wire.specs.Faults.{version_at, IsJson, TextSays, IsMisformed, IsFault, IsOrMemory}
use Rattle.sup_wire.specs.DraftReads.{DecodesTo}

one_value : (text : Bytes) (d e : Data) → IsJson text d → IsJson text e → d ≡ e
one_value text d e p q = same_Some d e (sym p.value ∙ q.value)

-- two versions of one number are one
version_tie : (v w : Version) → version_number v ≡ version_number w → v ≡ w
version_tie One One e = refl
version_tie One Two e = let bad : 1 ≡ 2 = e in absurd (omega (arith, bad))
version_tie Two One e = let bad : 2 ≡ 1 = e in absurd (omega (arith, bad))
version_tie Two Two e = refl

-- a version's number is one of these
no_other : (w : Version) (n : ℕ) → n ≡ version_number w → n ≢ 1 → n ≢ 2 → ⊥
no_other One n e a b = a e
no_other Two n e a b = b e

-- what is read in a version that the value says is read in each that it says
read_so : (at : Version → Data → Option Draft) (w v : Version) (d : Data) (o : Option Draft) → version_at d ≡ Some (version_number w) → version_at d ≡ Some (version_number v) → at v d ≡ o → at w d ≡ o
read_so at w v d o says says_too read = subst (λ u. at u d ≡ o) (version_tie v w (same_Some _ _ (sym says_too ∙ says))) read

module _ {M : Type 0} (IsDraft : M → Draft → Type 0) (Whole : M → Type 0) (Kind : Draft → Type 0) (at : Version → Data → Option Draft)
    (takes : (v : Version) (d : Data) (x : Draft) → version_at d ≡ Some (version_number v) → at v d ≡ Some x → (d ≡ value_in v x) × IsFormed v x × Kind x) where
  pub decode_ok : (text : Bytes) (d : Data) (r : Result M WireFault) → IsJson text d → DecodesTo IsDraft Whole r (version_at d) (λ v. at v d) → IfOk r (λ m. TextSays IsDraft text m)
  decode_ok text d (Ok m) is decodes =
      let t = takes decodes.0 d decodes.2.0 decodes.1 decodes.2.1 in
      record { version = decodes.0; draft = decodes.2.0; same = decodes.2.2; formed = t.1; json = subst (IsJson text) t.0 is }
  decode_ok text d (Err e) is decodes = tt

  module _ (again : (v : Version) (x : Draft) → Kind x → IsFormed v x → at v (value_in v x) ≡ Some x) where
    misformed : (d : Data) → (version_at d ≡ None) ⊎ ((v : Version) × (version_at d ≡ Some (version_number v)) × (at v d ≡ None)) → IsMisformed Kind d
    misformed d (inl none) = inl none
    misformed d (inr p) = inr (p.0, p.1, λ x kind formed e. none-some x (sym p.2 ∙ ap (at p.0) e ∙ again p.0 x kind formed))

    pub decode_fault : (text : Bytes) (d : Data) (r : Result M WireFault) → IsJson text d → DecodesTo IsDraft Whole r (version_at d) (λ v. at v d) → IfErr r (IsFault Kind text)
    decode_fault text d (Ok m) is decodes = tt
    decode_fault text d (Err NotJson) is decodes = absurd decodes
    decode_fault text d (Err NotMessage) is decodes = (d, is, misformed d decodes)
    decode_fault text d (Err BadVersion) is decodes = (d, is, decodes)
    decode_fault text d (Err NotCanonical) is decodes =
        let t = takes decodes.0 d decodes.2.0 decodes.1 decodes.2.1 in
        (decodes.0, decodes.2.0, subst (IsJson text) t.0 is, t.2, t.1, decodes.2.2)
    decode_fault text d (Err OutOfMemory) is decodes = tt

    module _ (kind : (m : M) (x : Draft) → IsDraft m x → Kind x) (sound : (m : M) (x : Draft) → IsDraft m x → Whole m → IsSound x) (one : (m n : M) (x : Draft) → IsDraft m x → Whole m → IsDraft n x → Whole n → n ≡ m)
        (versioned : (v : Version) (x : Draft) → version_at (value_in v x) ≡ Some (version_number v)) where
      only_this : (w : Version) (d : Data) (x : Draft) → version_at d ≡ Some (version_number w) → at w d ≡ Some x → (r : Result M WireFault) → DecodesTo IsDraft Whole r (version_at d) (λ v. at v d) → (m : M) → Whole m → IsDraft m x → IsOrMemory m r
      only_this w d x version is (Ok n) decodes m whole same =
          let read = read_so at w decodes.0 d (Some decodes.2.0) version decodes.1 decodes.2.1 in
          one m n x same whole (subst (IsDraft n) (same_Some decodes.2.0 x (sym read ∙ is)) decodes.2.2) decodes.2.3
      only_this w d x version is (Err NotJson) decodes m whole same = absurd decodes
      only_this w d x version is (Err NotMessage) decodes m whole same = absurd (neither decodes)
        where
          neither : (version_at d ≡ None) ⊎ ((v : Version) × (version_at d ≡ Some (version_number v)) × (at v d ≡ None)) → ⊥
          neither (inl none) = none-some (version_number w) (sym none ∙ version)
          neither (inr p) = none-some x (sym (read_so at w p.0 d None version p.1 p.2) ∙ is)
      only_this w d x version is (Err BadVersion) decodes m whole same = absurd (no_other w decodes.0 (same_Some _ _ (sym decodes.1 ∙ version)) decodes.2 decodes.3)
      only_this w d x version is (Err NotCanonical) decodes m whole same =
          let read = read_so at w decodes.0 d (Some decodes.2.0) version decodes.1 decodes.2.1 in
          absurd (decodes.2.2 (subst IsSound (same_Some x decodes.2.0 (sym is ∙ read)) (sound m x same whole)))
      only_this w d x version is (Err OutOfMemory) decodes m whole same = refl

      pub decode_only : (text : Bytes) (d : Data) (r : Result M WireFault) → IsJson text d → DecodesTo IsDraft Whole r (version_at d) (λ v. at v d) → (m : M) → Whole m → TextSays IsDraft text m → IsOrMemory m r
      decode_only text d r is decodes m whole says =
          let v = says.version in
          let value : d ≡ value_in v says.draft = one_value text d (value_in v says.draft) is says.json in
          let k = kind m says.draft says.same in
          only_this v d says.draft (ap version_at value ∙ versioned v says.draft) (ap (at v) value ∙ again v says.draft k says.formed) r decodes m whole says.same

-- a text is of one version, and says one of what it is read as there
pub says_one : {M : Type 0} (IsDraft : M → Draft → Type 0) (Whole : M → Type 0) (Kind : Draft → Type 0) (at : Version → Data → Option Draft) → ((v : Version) (x : Draft) → Kind x → IsFormed v x → at v (value_in v x) ≡ Some x)
    → ((v : Version) (x : Draft) → version_at (value_in v x) ≡ Some (version_number v)) → ((m : M) (x : Draft) → IsDraft m x → Kind x)
    → ((m n : M) (x : Draft) → IsDraft m x → Whole m → IsDraft n x → Whole n → n ≡ m) → (text : Bytes) (m n : M) → Whole m → Whole n → TextSays IsDraft text m → TextSays IsDraft text n → n ≡ m
says_one IsDraft Whole Kind at again versioned kind one text m n wm wn sm sn =
    let value : value_in sm.version sm.draft ≡ value_in sn.version sn.draft = one_value text _ _ sm.json sn.json in
    let number = same_Some _ _ (sym (versioned sm.version sm.draft) ∙ ap version_at value ∙ versioned sn.version sn.draft) in
    let version : sm.version ≡ sn.version = version_tie sm.version sn.version number in
    let same : sm.draft ≡ sn.draft =
    same_Some sm.draft sn.draft (sym (again sm.version sm.draft (kind m sm.draft sm.same) sm.formed) ∙ ap₂ at version value ∙ again sn.version sn.draft (kind n sn.draft sn.same) sn.formed) in
    one m n sm.draft sm.same wm (subst (IsDraft n) (sym same) sn.same) wn
