-- What children and members are: what is read was written so, and what is written so is read.
use Rattle.std.proofs.Common.{◌≡◌, inl, inr, true, cond, [], ◌∷◌, Option, Some, None, codes, refl, sym, ap, subst, ◌∙◌, arith}
use Rattle.std.specs.Prelude.{option_and_then, bytes_eq}
use Rattle.std.proofs.lemmas.Option.{option_and_then_some, same_Some, cond_some}
use Rattle.sup_specs.specs.Values.{Bytes}
use Rattle.serde_json.specs.Data.{Data, string, object, no_members, member}
use Rattle.serde_json.specs.Find.{get, as_str}
use Rattle.sup_specs.specs.Texts.{IsText}
use Rattle.sup_specs.specs.declared.texts.Alphabet.TheVariants.{Visible}
use Rattle.sup_specs.specs.declared.child.Restart.{Restart}
use Rattle.sup_specs.specs.declared.child.Restart.TheVariants.{Permanent, Transient, Temporary}
use Rattle.sup_specs.specs.declared.child.Shutdown.{Shutdown}
use Rattle.sup_specs.specs.declared.child.Shutdown.TheVariants.{Brutal, Millis, Infinity}
use Rattle.sup_specs.specs.declared.child.Status.{Status}
use Rattle.sup_specs.specs.declared.child.Status.TheVariants.{Open, Draining}
use Rattle.sup_specs.specs.declared.child.ChildSpec.{ChildSpec}
use Rattle.sup_specs.specs.declared.child.MemberInfo.{MemberInfo}
use Rattle.sup_wire.specs.declared.version.Version.{Version}
use Rattle.sup_wire.specs.declared.version.Version.TheVariants.{One, Two}
use Rattle.sup_wire.specs.Forms.{restart_value, shutdown_value, IsShutdown, spec_value, IsSpec, status_value, info_value, IsTold}
use Rattle.sup_wire.specs.FieldReads.{has_just, within_at, text_in}
use Rattle.sup_wire.specs.RowReads.{restart_at, shutdown_word, shutdown_millis, shutdown_from, shutdown_at, spec_fields, restart_in, shutdown_in, spec_in, spec_at, status_at, status_in, info_in, info_at}
use Rattle.sup_wire.proofs.FieldLaws.{as_str-string, within_takes, within_again, just, text_in_takes, text_in_again, chosen, when, same}

pub restart_takes : (d : Data) (r : Restart) → restart_at d ≡ Some r → d ≡ restart_value r
unfolding restart_at
restart_takes d r e =
    option_and_then_some _ (as_str d) r e (λ text is rest. as_str-string d text is ∙ word text r rest)
  where
    third : (text : Bytes) (r : Restart) → cond (bytes_eq text (codes "temporary")) (Some Temporary) None ≡ Some r → string text ≡ restart_value r
    third text r h = let p = cond_some (bytes_eq text (codes "temporary")) Temporary r h in ap string (same text (codes "temporary") p.0) ∙ ap restart_value p.1

    second : (text : Bytes) (r : Restart) → cond (bytes_eq text (codes "transient")) (Some Transient) (cond (bytes_eq text (codes "temporary")) (Some Temporary) None) ≡ Some r → string text ≡ restart_value r
    second text r h = elim (chosen (bytes_eq text (codes "transient")) (Some Transient) _ (Some r) h) [
      | inl p ↦ ap string (same text (codes "transient") p.0) ∙ ap restart_value (same_Some Transient r p.1)
      | inr p ↦ third text r p.1
    ]

    word : (text : Bytes) (r : Restart) → cond (bytes_eq text (codes "permanent")) (Some Permanent) (cond (bytes_eq text (codes "transient")) (Some Transient) (cond (bytes_eq text (codes "temporary")) (Some Temporary) None)) ≡ Some r → string text ≡ restart_value r
    word text r h = elim (chosen (bytes_eq text (codes "permanent")) (Some Permanent) _ (Some r) h) [
      | inl p ↦ ap string (same text (codes "permanent") p.0) ∙ ap restart_value (same_Some Permanent r p.1)
      | inr p ↦ second text r p.1
    ]

pub restart_again : (r : Restart) → restart_at (restart_value r) ≡ Some r
unfolding restart_at
restart_again Permanent = refl
restart_again Transient = refl
restart_again Temporary = refl

pub shutdown_takes : (d : Data) (s : Shutdown) → shutdown_at d ≡ Some s → (d ≡ shutdown_value s) × IsShutdown s
unfolding shutdown_at
shutdown_takes d s e = at (as_str d) refl e
  where
    infinite : (text : Bytes) (s : Shutdown) → cond (bytes_eq text (codes "infinity")) (Some Infinity) None ≡ Some s → (string text ≡ shutdown_value s) × IsShutdown s
    infinite text s h = let p = cond_some (bytes_eq text (codes "infinity")) Infinity s h in
        subst (λ (z : Shutdown). (string text ≡ shutdown_value z) × IsShutdown z) p.1 (ap string (same text (codes "infinity") p.0), tt)

    word : (text : Bytes) (s : Shutdown) → shutdown_word text ≡ Some s → (string text ≡ shutdown_value s) × IsShutdown s
    word text s h = elim (chosen (bytes_eq text (codes "brutal_kill")) (Some Brutal) _ (Some s) h) [
      | inl p ↦ subst (λ (z : Shutdown). (string text ≡ shutdown_value z) × IsShutdown z) (same_Some Brutal s p.1) (ap string (same text (codes "brutal_kill") p.0), tt)
      | inr p ↦ infinite text s p.1
    ]

    millis : (d : Data) (s : Shutdown) → shutdown_millis d ≡ Some s → (d ≡ shutdown_value s) × IsShutdown s
    millis d s h = option_and_then_some _ (within_at 0 4294967295 d) s h (λ n is rest.
        let w = within_takes 0 4294967295 d n is in
        subst (λ (z : Shutdown). (d ≡ shutdown_value z) × IsShutdown z) (same_Some (Millis n) s rest) (w.0, w.2))

    at : (o : Option (Bytes)) → as_str d ≡ o → shutdown_from o d ≡ Some s → (d ≡ shutdown_value s) × IsShutdown s
    at None is h = millis d s h
    at (Some text) is h = let w = word text s h in (as_str-string d text is ∙ w.0, w.1)

pub shutdown_again : (s : Shutdown) → IsShutdown s → shutdown_at (shutdown_value s) ≡ Some s
unfolding shutdown_at
shutdown_again Brutal is = refl
shutdown_again (Millis n) is = ap (λ o. option_and_then (λ k. Some (Millis k)) o) (within_again 0 4294967295 n (omega arith) is)
shutdown_again Infinity is = refl

spec_fields_take : (a k r s : Data) (x : ChildSpec)
    → (let d = object (member (codes "arg") a (member (codes "kind") k (member (codes "restart") r (member (codes "shutdown") s no_members)))) in
    spec_in d ≡ Some x → (d ≡ spec_value x) × IsSpec x)
unfolding spec_in restart_in shutdown_in
spec_fields_take a k r s x e =
    let d = object (member (codes "arg") a (member (codes "kind") k (member (codes "restart") r (member (codes "shutdown") s no_members)))) in
    option_and_then_some _ (text_in (codes "arg") 0 1024 d) x e (λ arg arg_is rest.
    option_and_then_some _ (text_in (codes "kind") 1 128 d) x rest (λ kind kind_is rest2.
    option_and_then_some _ (restart_at r) x rest2 (λ restart restart_is rest3.
    option_and_then_some _ (shutdown_at s) x rest3 (λ shutdown shutdown_is last.
    let p = text_in_takes (codes "arg") 0 1024 d a arg refl arg_is in
    let q = text_in_takes (codes "kind") 1 128 d k kind refl kind_is in
    let u = restart_takes r restart restart_is in
    let v = shutdown_takes s shutdown shutdown_is in
    let y : ChildSpec = record { kind = kind; arg = arg; restart = restart; shutdown = shutdown } in
    let written : d ≡ spec_value y = rw (p.0, q.0, u, v.0) in
    let made : y ≡ x = same_Some y x last in
    (written ∙ ap spec_value made, subst IsSpec made (record { kind = q.1; arg = p.1; shutdown = v.1 }))))))

spec_just : (d : Data) (x : ChildSpec) → spec_at d ≡ Some x → (has_just (codes "arg" ∷ codes "kind" ∷ codes "restart" ∷ codes "shutdown" ∷ []) d ≡ true) × (spec_in d ≡ Some x)
unfolding spec_at spec_fields
spec_just d x e = when (has_just (codes "arg" ∷ codes "kind" ∷ codes "restart" ∷ codes "shutdown" ∷ []) d) (spec_in d) x e

pub spec_takes : (d : Data) (x : ChildSpec) → spec_at d ≡ Some x → (d ≡ spec_value x) × IsSpec x
spec_takes d x e =
    let j = spec_just d x e in
    let f = just (codes "arg" ∷ codes "kind" ∷ codes "restart" ∷ codes "shutdown" ∷ []) d j.0 in
    let is = f.1.1.1.1 in
    let r = spec_fields_take f.0 f.1.0 f.1.1.0 f.1.1.1.0 x (subst (λ z. spec_in z ≡ Some x) is j.1) in
    (is ∙ r.0, r.1)

pub spec_again : (x : ChildSpec) → IsSpec x → spec_at (spec_value x) ≡ Some x
unfolding spec_at spec_fields has_just spec_in restart_in shutdown_in
spec_again x is =
    let d = spec_value x in
    rw (text_in_again (codes "arg") 0 1024 d x.arg refl is.arg, text_in_again (codes "kind") 1 128 d x.kind refl is.kind, restart_again x.restart, shutdown_again x.shutdown is.shutdown)

pub status_takes : (d : Data) (t : Status) → status_at d ≡ Some t → d ≡ status_value t
unfolding status_at
status_takes d t e =
    option_and_then_some _ (as_str d) t e (λ text is rest. as_str-string d text is ∙ word text t rest)
  where
    second : (text : Bytes) (t : Status) → cond (bytes_eq text (codes "draining")) (Some Draining) None ≡ Some t → string text ≡ status_value t
    second text t h = let p = cond_some (bytes_eq text (codes "draining")) Draining t h in ap string (same text (codes "draining") p.0) ∙ ap status_value p.1

    word : (text : Bytes) (t : Status) → cond (bytes_eq text (codes "open")) (Some Open) (cond (bytes_eq text (codes "draining")) (Some Draining) None) ≡ Some t → string text ≡ status_value t
    word text t h = elim (chosen (bytes_eq text (codes "open")) (Some Open) _ (Some t) h) [
      | inl p ↦ ap string (same text (codes "open") p.0) ∙ ap status_value (same_Some Open t p.1)
      | inr p ↦ second text t p.1
    ]

pub status_again : (t : Status) → status_at (status_value t) ≡ Some t
unfolding status_at
status_again Open = refl
status_again Draining = refl

-- what is said of a member in a version stands for this
abbrev pub SaysInfo : Version → Data → MemberInfo → Type 0
SaysInfo v d x = (d ≡ info_value v x) × IsText Visible 0 1024 x.label × IsTold v x.status

info_fields_take : (l t : Data) (x : MemberInfo) → (let d = object (member (codes "label") l (member (codes "status") t no_members)) in info_in d ≡ Some x → SaysInfo Two d x)
unfolding info_in status_in
info_fields_take l t x e =
    let d = object (member (codes "label") l (member (codes "status") t no_members)) in
    option_and_then_some _ (text_in (codes "label") 0 1024 d) x e (λ label label_is rest.
    option_and_then_some _ (status_at t) x rest (λ status status_is last.
    let p = text_in_takes (codes "label") 0 1024 d l label refl label_is in
    let q = status_takes t status status_is in
    let y : MemberInfo = record { label = label; status = status } in
    let written : d ≡ info_value Two y = rw (p.0, q) in
    let made : y ≡ x = same_Some y x last in
    (written ∙ ap (info_value Two) made, subst (λ (z : MemberInfo). IsText Visible 0 1024 z.label) made p.1, tt)))

info_just : (d : Data) (x : MemberInfo) → info_at Two d ≡ Some x → (has_just (codes "label" ∷ codes "status" ∷ []) d ≡ true) × (info_in d ≡ Some x)
unfolding info_at
info_just d x e = when (has_just (codes "label" ∷ codes "status" ∷ []) d) (info_in d) x e

pub info_takes : (v : Version) (d : Data) (x : MemberInfo) → info_at v d ≡ Some x → SaysInfo v d x
unfolding info_at
info_takes One d x e =
    let j = when (has_just (codes "label" ∷ []) d) _ x e in
    let f = just (codes "label" ∷ []) d j.0 in
    option_and_then_some _ (text_in (codes "label") 0 1024 d) x j.1 (λ label is last.
    let there : get (codes "label") d ≡ Some f.0 = ap (λ z. get (codes "label") z) f.1 in
    let p = text_in_takes (codes "label") 0 1024 d f.0 label there is in
    let y : MemberInfo = record { label = label; status = Open } in
    let made : y ≡ x = same_Some y x last in
    (f.1 ∙ ap (λ z. object (member (codes "label") z no_members)) p.0 ∙ ap (info_value One) made, subst (λ (z : MemberInfo). IsText Visible 0 1024 z.label) made p.1, ap (λ (z : MemberInfo). z.status) (sym made)))
info_takes Two d x e =
    let j = info_just d x e in
    let f = just (codes "label" ∷ codes "status" ∷ []) d j.0 in
    let is = f.1.1 in
    let r = info_fields_take f.0 f.1.0 x (subst (λ z. info_in z ≡ Some x) is j.1) in
    (is ∙ r.0, r.1, r.2)

pub info_again : (v : Version) (x : MemberInfo) → IsText Visible 0 1024 x.label → IsTold v x.status → info_at v (info_value v x) ≡ Some x
unfolding info_at has_just info_in status_in
info_again One x is told =
    let at : Status → MemberInfo = λ s. record { label = x.label; status = s } in
    rw (text_in_again (codes "label") 0 1024 (info_value One x) x.label refl is) (ap (λ s. Some (at s)) (sym told))
info_again Two x is told = rw (text_in_again (codes "label") 0 1024 (info_value Two x) x.label refl is, status_again x.status)
