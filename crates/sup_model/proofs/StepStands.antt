-- One step of both worlds.
use Rattle.sup_model.specs.Posts.{reads, post_step}
use Rattle.std.specs.Prelude.{ℕ, ◌≡◌, ◌-◌, ◌==◌, Bool, true, false, not, refl, Option, Some, None, Result, Ok, Err, slice_get, is_some, unwrap_or, if◌then◌else◌}
use Rattle.std.proofs.Common.{sym, ap, ◌∙◌, subst}
use mathlib.Core.Logic.{◌⊎◌, inl, inr}
use Rattle.sup_specs.specs.Values.{Bytes}
use Rattle.sup_tables.specs.Operations.{OperationsCover}
use Rattle.sup_tables.proofs.PointLaws.{same_text}
use Rattle.sup_replica.specs.declared.event.Event.TheVariants.{Join, Leave, Drain, Start, Replace, Delete, Register, Unregister, Exit, Ship, Push, Deliver}
use Rattle.sup_replica.specs.declared.event.Act.TheVariants.{Event as Of, Stop, Restart}
use Rattle.sup_replica.specs.declared.event.Act.{Act as Deed}
use Rattle.sup_replica.specs.declared.refusal.Refusal.{Refusal}
use Rattle.sup_replica.specs.declared.refusal.Refusal.TheVariants.{Down, UnknownNode, BadMessage, NoSuchMessage}
use Rattle.sup_replica.specs.Checks.{refused_if, then_do}
use Rattle.sup_model.specs.Worlds.{Ops, ModelSite, WorldStepped, site_of, message_of, or_refused, acted, target_is_here, step}
use Rattle.sup_replica.specs.Nodes.{Knowledge, Message, ActOutcome, by_operations}
use Rattle.sup_replica.specs.Acts.{act_step, deliver, kept_by}
use Rattle.sup_model.specs.declared.step.Step.{Step}
use Rattle.sup_model.specs.declared.step.Step.TheVariants.{Node as AtNode, Deliver as Delivery, Raw}
use Rattle.sup_model.specs.Runs.{MayBeUpToDate}
use Rattle.sup_model.proofs.Afters.{After}
use Rattle.sup_anti_entropy.specs.Peers.{OccursIn}
use Rattle.sup_model.specs.Laws.{StateView, StateLaws}
use Rattle.sup_model.specs.Clean.{HasCleanRows}
use Rattle.sup_replica.specs.Stations.{Mail, a_delta, a_push, an_ack, StationMove, receiver_of, station_step}
use Rattle.sup_model.specs.Posts.{StationPost, RealStepped, post_of, mail_of, real_acted, target_here, arrives, real_step}
use Rattle.sup_model.specs.Stands.{DoneTogether, BothOrNone}
use Rattle.sup_model.specs.Joint.{NodeTrio, JointWorld, real_of, model_of, MailStands, TrioStands, JointHolds, AnswerStands}
use Rattle.sup_model.proofs.CleanWorld.{get-in, step_clean}
use Rattle.sup_model.proofs.JointLaws.{with_trio, Goes, goes_holds, real_put, model_put, Found, Missing, looked_up}
use Rattle.sup_model.proofs.ActLaws.{Act, act_goes, trio_with, numbers_same, mail_at}
use Rattle.sup_model.proofs.MailLaws.{Answers, answers_of, act_together, bytes_together, stop_together, restart_together}
use Rattle.sup_model.proofs.ShipLaws.{ship_together}
use Rattle.sup_model.proofs.DeliverLaws.{Comes, arrives_together}

module _ {K : Type 0} (k : Knowledge K) (view : StateView K) (laws : StateLaws k view) where
  -- a step of both worlds, but for what was added there
  pub record Stepping0 (j : JointWorld K) (x : RealStepped K) (y : WorldStepped) : Type 0 where
    pub old : NodeTrio K
    pub there : OccursIn j.trios old
    pub new : NodeTrio K
    pub goes : Goes k view laws j old new
    pub real : x.world ≡ real_of (with_trio j new)
    pub model : y.world ≡ model_of (with_trio j new)
    pub answer : AnswerStands view x.answer y.answer

  acted_steps : (j : JointWorld K) (t : NodeTrio K) → JointHolds view j → OccursIn j.trios t → (m : StationMove K) (o : ActOutcome Ops) → Act k view laws j t m o → Stepping0 j (real_acted (real_of j) t.post m) (acted (model_of j) t.site o)
  acted_steps j t h here m o a =
      let s = h.each t here in
      let r = trio_with k view laws t m.station o.node a.past m.letter o.letter in
      record {
        old = t;
        there = here;
        new = r;
        goes = act_goes k view laws j t m o s a;
        real = real_put j r a.node.name (λ u is_in. (h.each u is_in).node.name);
        model = model_put j r;
        answer = record {
          at = s.node.name;
          reply = a.reply;
          effects = a.effects;
          number = numbers_same k view laws t.post.station.node.name t.post.station.node.count t.past m.station.node.name m.station.node.count a.past t.post.sent t.site.sent s.mail m.letter o.letter a.letter;
        };
      }

  done : (C : Type 0) (j : JointWorld K) (t : NodeTrio K) → JointHolds view j → OccursIn j.trios t → (x : Result (StationMove K) Refusal) (y : Result (ActOutcome Ops) Refusal) → Answers C (Act k view laws j t) x y
      → Answers C (Stepping0 j) (then_do x (λ m. let r : Result (RealStepped K) Refusal = Ok (real_acted (real_of j) t.post m) in r)) (then_do y (λ o. let r : Result WorldStepped Refusal = Ok (acted (model_of j) t.site o) in r))
  done C j t h here (Ok m) (Ok o) a = acted_steps j t h here m o a
  done C j t h here (Err r) (Err q) a = a
  done C j t h here (Ok m) (Err q) a = absurd a
  done C j t h here (Err r) (Ok o) a = a

  answers-refused_if : {A B : Type 0} (C : Type 0) (R : A → B → Type 0) (b c : Bool) (refusal : Refusal) (x : Result A Refusal) (y : Result B Refusal) → b ≡ c → Answers C R x y → Answers C R (refused_if b refusal x) (refused_if c refusal y)
  answers-refused_if C R b c refusal x y e h = subst (λ d. Answers C R (refused_if b refusal x) (refused_if d refusal y)) e (go b) where
    go : (d : Bool) → Answers C R (refused_if d refusal x) (refused_if d refusal y)
    go true = refl
    go false = h

  -- looked up in both
  answers-found : {A B X Y : Type 0} (C : Type 0) (R : X → Y → Type 0) (o : Option A) (p : Option B) (a : A) (b : B) (refusal : Refusal) (f : A → Result X Refusal) (g : B → Result Y Refusal) → o ≡ Some a → p ≡ Some b → Answers C R (f a) (g b)
      → Answers C R (or_refused o refusal f) (or_refused p refusal g)
  answers-found C R o p a b refusal f g e d h = subst (λ z. Answers C R (or_refused z refusal f) (or_refused p refusal g)) (sym e) (subst (λ z. Answers C R (f a) (or_refused z refusal g)) (sym d) h)

  answers-missing : {A B X Y : Type 0} (C : Type 0) (R : X → Y → Type 0) (o : Option A) (p : Option B) (refusal : Refusal) (f : A → Result X Refusal) (g : B → Result Y Refusal) → o ≡ None → p ≡ None → Answers C R (or_refused o refusal f) (or_refused p refusal g)
  answers-missing C R o p refusal f g e d = subst (λ z. Answers C R (or_refused z refusal f) (or_refused p refusal g)) (sym e) (subst (λ z. Answers C R (let r : Result _ Refusal = Err refusal in r) (or_refused z refusal g)) (sym d) refl)

  find_name : (j : JointWorld K) → JointHolds view j → (name : Bytes) → Found j name ⊎ Missing j name
  find_name j h name = looked_up j.weigher j.codec name j.trios (λ u is_in. (h.each u is_in).node.name)

  -- the node's part of a step
  node_part : (C : Type 0) (j : JointWorld K) (t : NodeTrio K) → JointHolds view j → OccursIn j.trios t → (b c : Bool) → b ≡ c → (x : Result (StationMove K) Refusal) (y : Result (ActOutcome Ops) Refusal) → Answers C (Act k view laws j t) x y
      → Answers C (Stepping0 j) (refused_if (not b) UnknownNode (then_do x (λ m. let r : Result (RealStepped K) Refusal = Ok (real_acted (real_of j) t.post m) in r)))
      (refused_if (not c) UnknownNode (then_do y (λ o. let r : Result WorldStepped Refusal = Ok (acted (model_of j) t.site o) in r)))
  node_part C j t h here b c e x y a = answers-refused_if C (Stepping0 j) (not b) (not c) UnknownNode _ _ (ap not e) (done C j t h here x y a)

  here_same : (j : JointWorld K) → JointHolds view j → (to : Bytes) → is_some (post_of (real_of j) to) ≡ is_some (site_of (model_of j) to)
  here_same j h to = elim (find_name j h to) [
    | inl f ↦ ap is_some f.post ∙ sym (ap is_some f.site)
    | inr m ↦ ap is_some m.post ∙ sym (ap is_some m.site)
  ]

  abbrev StepsTo : JointWorld K → Step → Result (RealStepped K) Refusal → Result WorldStepped Refusal → Type 0
  StepsTo j st x y = Answers (MayBeUpToDate (model_of j) st) (Stepping0 j) x y

  -- what a node does once it's found
  abbrev RealAt : JointWorld K → Deed → ℕ → Bool → StationPost K → Result (RealStepped K) Refusal
  RealAt j act now saves post = refused_if (not (target_here (real_of j) act)) UnknownNode (then_do (post_step k (real_of j) post.station act now saves) (λ m. Ok (real_acted (real_of j) post m)))

  abbrev ModelAt : JointWorld K → Deed → ℕ → Bool → ModelSite → Result WorldStepped Refusal
  ModelAt j act now saves site = refused_if (not (target_is_here (model_of j) act)) UnknownNode (then_do (kept_by saves (act_step by_operations j.weigher site.node act now)) (λ o. Ok (acted (model_of j) site o)))

  ship_at : (j : JointWorld K) (at : Bytes) (f : Found j at) → JointHolds view j → (to : Bytes) (now : ℕ) (saves : Bool) → Found j to ⊎ Missing j to
      → StepsTo j (AtNode at (Of (Ship to)) now saves) (RealAt j (Of (Ship to)) now saves f.trio.post) (ModelAt j (Of (Ship to)) now saves f.trio.site)
  ship_at j at f h to now saves (inr m) =
      let C = MayBeUpToDate (model_of j) (AtNode at (Of (Ship to)) now saves) in
      let x = λ (b : Bool). refused_if (not b) UnknownNode (then_do (station_step k j.codec j.weigher f.trio.post.station (Of (Ship to)) now saves) (λ m. let r : Result (RealStepped K) Refusal = Ok (real_acted (real_of j) f.trio.post m) in r)) in
      let y = λ (b : Bool). refused_if (not b) UnknownNode (then_do (kept_by saves (act_step by_operations j.weigher f.trio.site.node (Of (Ship to)) now)) (λ o. let r : Result WorldStepped Refusal = Ok (acted (model_of j) f.trio.site o) in r)) in
      subst (λ b. Answers C (Stepping0 j) (x b) (y (is_some (site_of (model_of j) to)))) (sym (ap is_some m.post)) (subst (λ b. Answers C (Stepping0 j) (x false) (y b)) (sym (ap is_some m.site)) refl)
  ship_at j at f h to now saves (inl g) =
      let C = MayBeUpToDate (model_of j) (AtNode at (Of (Ship to)) now saves) in
      let covered : OperationsCover g.trio.site.node.known f.trio.site.node.known → C = λ c. record { sender = f.trio.site; target = g.trio.site; is_sender = f.site; is_target = g.site; covered = c } in
      let named = same_text to g.trio.site.node.name g.named ∙ sym (h.each g.trio g.there).node.name in
      let both = ship_together k view laws j f.trio g.trio h f.there g.there to named now saves in
      node_part C j f.trio h f.there (is_some (post_of (real_of j) to)) (is_some (site_of (model_of j) to)) (here_same j h to) (station_step k j.codec j.weigher f.trio.post.station (Of (Ship to)) now saves)
      (kept_by saves (act_step by_operations j.weigher f.trio.site.node (Of (Ship to)) now))
      (weaker (OperationsCover g.trio.site.node.known f.trio.site.node.known) C (Act k view laws j f.trio) covered _ _ both) where
        weaker : {A B : Type 0} (C D : Type 0) (R : A → B → Type 0) → (C → D) → (x : Result A Refusal) (y : Result B Refusal) → Answers C R x y → Answers D R x y
        weaker C D R f (Ok a) (Ok b) h = h
        weaker C D R f (Err r) (Err q) h = h
        weaker C D R f (Ok a) (Err q) h = h
        weaker C D R f (Err r) (Ok b) h = (h.0, f h.1)

  other_at : (j : JointWorld K) (at : Bytes) (f : Found j at) → JointHolds view j → (act : Deed) (now : ℕ) (saves : Bool) → target_here (real_of j) act ≡ target_is_here (model_of j) act
      → DoneTogether (Act k view laws j f.trio) (post_step k (real_of j) f.trio.post.station act now saves) (kept_by saves (act_step by_operations j.weigher f.trio.site.node act now))
      → StepsTo j (AtNode at act now saves) (RealAt j act now saves f.trio.post) (ModelAt j act now saves f.trio.site)
  other_at j at f h act now saves e both =
      let C = MayBeUpToDate (model_of j) (AtNode at act now saves) in
      let x = post_step k (real_of j) f.trio.post.station act now saves in
      let y = kept_by saves (act_step by_operations j.weigher f.trio.site.node act now) in
      node_part C j f.trio h f.there (target_here (real_of j) act) (target_is_here (model_of j) act) e x y (answers_of C (Act k view laws j f.trio) x y both)

  at_found : (j : JointWorld K) (at : Bytes) (f : Found j at) → JointHolds view j → (act : Deed) (now : ℕ) (saves : Bool) → StepsTo j (AtNode at act now saves) (RealAt j act now saves f.trio.post) (ModelAt j act now saves f.trio.site)
  at_found j at f h (Of (Ship to)) now saves = ship_at j at f h to now saves (find_name j h to)
  at_found j at f h (Of (Push to)) now saves = other_at j at f h (Of (Push to)) now saves (here_same j h to) (act_together k view laws j f.trio h f.there (Push to) now saves tt)
  at_found j at f h (Of (Deliver bytes)) now saves = other_at j at f h (Of (Deliver bytes)) now saves refl (bytes_together k view laws j f.trio h f.there bytes now saves)
  at_found j at f h (Of (Join label)) now saves = other_at j at f h (Of (Join label)) now saves refl (act_together k view laws j f.trio h f.there (Join label) now saves tt)
  at_found j at f h (Of (Leave m)) now saves = other_at j at f h (Of (Leave m)) now saves refl (act_together k view laws j f.trio h f.there (Leave m) now saves tt)
  at_found j at f h (Of (Drain m)) now saves = other_at j at f h (Of (Drain m)) now saves refl (act_together k view laws j f.trio h f.there (Drain m) now saves tt)
  at_found j at f h (Of (Start id spec)) now saves = other_at j at f h (Of (Start id spec)) now saves refl (act_together k view laws j f.trio h f.there (Start id spec) now saves tt)
  at_found j at f h (Of (Replace id spec)) now saves = other_at j at f h (Of (Replace id spec)) now saves refl (act_together k view laws j f.trio h f.there (Replace id spec) now saves tt)
  at_found j at f h (Of (Delete id)) now saves = other_at j at f h (Of (Delete id)) now saves refl (act_together k view laws j f.trio h f.there (Delete id) now saves tt)
  at_found j at f h (Of (Register name id)) now saves = other_at j at f h (Of (Register name id)) now saves refl (act_together k view laws j f.trio h f.there (Register name id) now saves tt)
  at_found j at f h (Of (Unregister name)) now saves = other_at j at f h (Of (Unregister name)) now saves refl (act_together k view laws j f.trio h f.there (Unregister name) now saves tt)
  at_found j at f h (Of (Exit id inc reason)) now saves = other_at j at f h (Of (Exit id inc reason)) now saves refl (act_together k view laws j f.trio h f.there (Exit id inc reason) now saves tt)
  at_found j at f h Stop now saves = other_at j at f h Stop now saves refl (stop_together k view laws j f.trio h f.there now saves)
  at_found j at f h Restart now saves = other_at j at f h Restart now saves refl (restart_together k view laws j f.trio h f.there now saves)

  -- a letter of both worlds
  pub record BothSent (s : NodeTrio K) (o : Option (Mail K)) (p : Option (Message Ops)) : Type 0 where
    pub mail : Mail K
    pub message : Message Ops
    pub mailed : o ≡ Some mail
    pub also : p ≡ Some message
    pub sent : OccursIn s.post.sent mail
    pub sent_also : OccursIn s.site.sent message
    pub stands : MailStands view s.post.station.node.name s.post.station.node.count s.past mail message

  option_cases : {X : Type 0} (o : Option X) → (o ≡ None) ⊎ ((x : X) × (o ≡ Some x))
  option_cases None = inl refl
  option_cases (Some x) = inr (x, refl)

  sent_slices : (s : NodeTrio K) → TrioStands view s → (n : ℕ) → BothSent s (slice_get s.post.sent n) (slice_get s.site.sent n) ⊎ ((slice_get s.post.sent n ≡ None) × (slice_get s.site.sent n ≡ None))
  sent_slices s st n =
      let b = mail_at k view laws s.post.station.node.name s.post.station.node.count s.past s.post.sent s.site.sent st.mail n in
      let Q = MailStands view s.post.station.node.name s.post.station.node.count s.past in
      elim (option_cases (slice_get s.post.sent n)) [
        | inl e ↦ elim (option_cases (slice_get s.site.sent n)) [
          | inl f ↦ inr (e, f)
          | inr f ↦ absurd (subst (λ p. BothOrNone Q None p) f.1 (subst (λ o. BothOrNone Q o (slice_get s.site.sent n)) e b))
        ]
        | inr e ↦ elim (option_cases (slice_get s.site.sent n)) [
          | inl f ↦ absurd (subst (λ p. BothOrNone Q (Some e.0) p) f (subst (λ o. BothOrNone Q o (slice_get s.site.sent n)) e.1 b))
          | inr f ↦ inl (record {
            mail = e.0;
            message = f.0;
            mailed = e.1;
            also = f.1;
            sent = get-in s.post.sent n e.0 e.1;
            sent_also = get-in s.site.sent n f.0 f.1;
            stands = subst (λ p. BothOrNone Q (Some e.0) p) f.1 (subst (λ o. BothOrNone Q o (slice_get s.site.sent n)) e.1 b);
          })
        ]
      ]

  sent_both : (s : NodeTrio K) → TrioStands view s → (n : ℕ) → BothSent s (mail_of s.post n) (message_of s.site n) ⊎ ((mail_of s.post n ≡ None) × (message_of s.site n ≡ None))
  sent_both s st n =
      elim (n == 0) as (λ b. BothSent s (if b then None else slice_get s.post.sent (n - 1)) (if b then None else slice_get s.site.sent (n - 1)) ⊎ (((if b then None else slice_get s.post.sent (n - 1)) ≡ None) × ((if b then None else slice_get s.site.sent (n - 1)) ≡ None))) [
        | true ↦ inr (refl, refl)
        | false ↦ sent_slices s st (n - 1)
      ]

  receiver_same : (name : Bytes) (count : ℕ) (past : ℕ → K) (mail : Mail K) (m : Message Ops) → MailStands view name count past mail m → receiver_of mail ≡ m.to
  receiver_same name count past (a_delta from to n whole content) m h = h.1
  receiver_same name count past (a_push from to content) m h = h.1
  receiver_same name count past (an_ack from to n) m h = h.1

  -- a delivery, from what was looked up
  module _ (j : JointWorld K) (h : JointHolds view j) (from : Bytes) (n : ℕ) (at : Option Bytes) (drop now : ℕ) (saves : Bool) where
    abbrev C : Type 0
    C = MayBeUpToDate (model_of j) (Delivery from n at drop now saves)

    abbrev RealArrives : Mail K → StationPost K → Result (RealStepped K) Refusal
    RealArrives mail receiver = then_do (arrives k j.weigher receiver.station mail drop saves) (λ m. Ok (real_acted (real_of j) receiver m))

    abbrev ModelArrives : Message Ops → ModelSite → Result WorldStepped Refusal
    ModelArrives m receiver = then_do (kept_by saves (deliver by_operations j.weigher receiver.node from m (drop == 0))) (λ o. Ok (acted (model_of j) receiver o))

    abbrev RealMail : Mail K → Result (RealStepped K) Refusal
    RealMail mail = or_refused (post_of (real_of j) (unwrap_or at (receiver_of mail))) UnknownNode (RealArrives mail)

    abbrev ModelMail : Message Ops → Result WorldStepped Refusal
    ModelMail m = or_refused (site_of (model_of j) (unwrap_or at m.to)) UnknownNode (ModelArrives m)

    arrived : (f : Found j from) (b : BothSent f.trio (mail_of f.trio.post n) (message_of f.trio.site n)) (name : Bytes) → Found j name ⊎ Missing j name
        → Answers C (Stepping0 j) (or_refused (post_of (real_of j) name) UnknownNode (RealArrives b.mail)) (or_refused (site_of (model_of j) name) UnknownNode (ModelArrives b.message))
    arrived f b name (inr m) = answers-missing C (Stepping0 j) (post_of (real_of j) name) (site_of (model_of j) name) UnknownNode (RealArrives b.mail) (ModelArrives b.message) m.post m.site
    arrived f b name (inl t) =
        let comes : Comes k view laws j f.trio t.trio from b.mail b.message = record {
          sender = f.there;
          receiver = t.there;
          named = same_text from f.trio.site.node.name f.named;
          sent = b.sent;
          also = b.sent_also;
          stands = b.stands;
        } in
        let x = arrives k j.weigher t.trio.post.station b.mail drop saves in
        let y = kept_by saves (deliver by_operations j.weigher t.trio.site.node from b.message (drop == 0)) in
        answers-found C (Stepping0 j) (post_of (real_of j) name) (site_of (model_of j) name) t.trio.post t.trio.site UnknownNode (RealArrives b.mail) (ModelArrives b.message) t.post t.site
        (done C j t.trio h t.there x y (answers_of C (Act k view laws j t.trio) x y (arrives_together k view laws j f.trio t.trio from b.mail b.message h comes drop saves)))

    mailed_out : (f : Found j from) → BothSent f.trio (mail_of f.trio.post n) (message_of f.trio.site n) ⊎ ((mail_of f.trio.post n ≡ None) × (message_of f.trio.site n ≡ None))
        → Answers C (Stepping0 j) (or_refused (mail_of f.trio.post n) NoSuchMessage RealMail) (or_refused (message_of f.trio.site n) NoSuchMessage ModelMail)
    mailed_out f (inr e) = answers-missing C (Stepping0 j) (mail_of f.trio.post n) (message_of f.trio.site n) NoSuchMessage RealMail ModelMail e.0 e.1
    mailed_out f (inl b) =
        let same : unwrap_or at (receiver_of b.mail) ≡ unwrap_or at b.message.to = ap (unwrap_or at) (receiver_same f.trio.post.station.node.name f.trio.post.station.node.count f.trio.past b.mail b.message b.stands) in
        let name = unwrap_or at b.message.to in
        answers-found C (Stepping0 j) (mail_of f.trio.post n) (message_of f.trio.site n) b.mail b.message NoSuchMessage RealMail ModelMail b.mailed b.also
        (subst (λ x. Answers C (Stepping0 j) (or_refused (post_of (real_of j) x) UnknownNode (RealArrives b.mail)) (ModelMail b.message)) (sym same) (arrived f b name (find_name j h name)))

    delivered : Found j from ⊎ Missing j from → StepsTo j (Delivery from n at drop now saves) (real_step k (real_of j) (Delivery from n at drop now saves)) (step (model_of j) (Delivery from n at drop now saves))
    delivered (inr m) =
        answers-missing C (Stepping0 j) (post_of (real_of j) from) (site_of (model_of j) from) UnknownNode (λ (s : StationPost K). or_refused (mail_of s n) NoSuchMessage RealMail) (λ (s : ModelSite). or_refused (message_of s n) NoSuchMessage ModelMail) m.post m.site
    delivered (inl f) =
        answers-found C (Stepping0 j) (post_of (real_of j) from) (site_of (model_of j) from) f.trio.post f.trio.site UnknownNode (λ (s : StationPost K). or_refused (mail_of s n) NoSuchMessage RealMail) (λ (s : ModelSite). or_refused (message_of s n) NoSuchMessage ModelMail) f.post f.site
        (mailed_out f (sent_both f.trio (h.each f.trio f.there) n))

  raw_step : (j : JointWorld K) → JointHolds view j → (at bytes : Bytes) → Found j at ⊎ Missing j at → StepsTo j (Raw at bytes) (real_step k (real_of j) (Raw at bytes)) (step (model_of j) (Raw at bytes))
  raw_step j h at bytes (inr m) =
      answers-missing (MayBeUpToDate (model_of j) (Raw at bytes)) (Stepping0 j) (post_of (real_of j) at) (site_of (model_of j) at) UnknownNode
      (λ (post : StationPost K). refused_if (not post.station.node.up) Down (refused_if (not (reads j.codec bytes)) BadMessage (let r : Result (RealStepped K) Refusal = Err NoSuchMessage in r)))
      (λ (site : ModelSite). refused_if (not site.node.up) Down (refused_if (not (reads j.codec bytes)) BadMessage (let r : Result WorldStepped Refusal = Err NoSuchMessage in r))) m.post m.site
  raw_step j h at bytes (inl f) =
      let C = MayBeUpToDate (model_of j) (Raw at bytes) in
      let x : Result (RealStepped K) Refusal = refused_if (not (reads j.codec bytes)) BadMessage (let r : Result (RealStepped K) Refusal = Err NoSuchMessage in r) in
      let y : Result WorldStepped Refusal = refused_if (not (reads j.codec bytes)) BadMessage (let r : Result WorldStepped Refusal = Err NoSuchMessage in r) in
      answers-found C (Stepping0 j) (post_of (real_of j) at) (site_of (model_of j) at) f.trio.post f.trio.site UnknownNode
      (λ (post : StationPost K). refused_if (not post.station.node.up) Down x) (λ (site : ModelSite). refused_if (not site.node.up) Down y) f.post f.site
      (answers-refused_if C (Stepping0 j) (not f.trio.post.station.node.up) (not f.trio.site.node.up) Down x y (ap not (h.each f.trio f.there).node.up)
      (answers-refused_if C (Stepping0 j) (not (reads j.codec bytes)) (not (reads j.codec bytes)) BadMessage (let r : Result (RealStepped K) Refusal = Err NoSuchMessage in r) (let r : Result WorldStepped Refusal = Err NoSuchMessage in r) refl refl))

  node_step : (j : JointWorld K) → JointHolds view j → (at : Bytes) (act : Deed) (now : ℕ) (saves : Bool) → Found j at ⊎ Missing j at → StepsTo j (AtNode at act now saves) (real_step k (real_of j) (AtNode at act now saves)) (step (model_of j) (AtNode at act now saves))
  node_step j h at act now saves (inr m) =
      answers-missing (MayBeUpToDate (model_of j) (AtNode at act now saves)) (Stepping0 j) (post_of (real_of j) at) (site_of (model_of j) at) UnknownNode (RealAt j act now saves) (ModelAt j act now saves) m.post m.site
  node_step j h at act now saves (inl f) =
      answers-found (MayBeUpToDate (model_of j) (AtNode at act now saves)) (Stepping0 j) (post_of (real_of j) at) (site_of (model_of j) at) f.trio.post f.trio.site UnknownNode (RealAt j act now saves) (ModelAt j act now saves) f.post f.site
      (at_found j at f h act now saves)

  step_stands0 : (j : JointWorld K) → JointHolds view j → (st : Step) → StepsTo j st (real_step k (real_of j) st) (step (model_of j) st)
  step_stands0 j h (AtNode at act now saves) = node_step j h at act now saves (find_name j h at)
  step_stands0 j h (Delivery from n at drop now saves) = delivered j h from n at drop now saves (find_name j h from)
  step_stands0 j h (Raw at bytes) = raw_step j h at bytes (find_name j h at)

  -- a step of both worlds
  pub record Stepping (x : RealStepped K) (y : WorldStepped) : Type 0 where
    pub joint : JointWorld K
    pub real : x.world ≡ real_of joint
    pub model : y.world ≡ model_of joint
    pub holds : JointHolds view joint
    pub answer : AnswerStands view x.answer y.answer

  stepping : (j : JointWorld K) → JointHolds view j → (C : Type 0) (x : Result (RealStepped K) Refusal) (y : Result WorldStepped Refusal) → Answers C (Stepping0 j) x y → After (λ (s : WorldStepped). HasCleanRows s.world) y → Answers C Stepping x y
  stepping j h C (Ok x) (Ok y) a clean = record {
    joint = with_trio j a.new;
    real = a.real;
    model = a.model;
    answer = a.answer;
    holds = goes_holds k view laws j a.old a.new h a.there a.goes (subst HasCleanRows a.model clean);
  }
  stepping j h C (Err r) (Err q) a clean = a
  stepping j h C (Ok x) (Err q) a clean = absurd a
  stepping j h C (Err r) (Ok y) a clean = a

  pub step_stands : (j : JointWorld K) → JointHolds view j → (st : Step) → Answers (MayBeUpToDate (model_of j) st) Stepping (real_step k (real_of j) st) (step (model_of j) st)
  step_stands j h st = stepping j h (MayBeUpToDate (model_of j) st) (real_step k (real_of j) st) (step (model_of j) st) (step_stands0 j h st) (step_clean (model_of j) st h.clean)
