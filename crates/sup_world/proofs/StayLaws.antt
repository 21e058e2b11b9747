-- A step is one node's, and what it is depends on that node alone, and on the messages that were sent.
use Rattle.std.specs.Prelude.{◌≡◌, ◌==◌, ℕ, Bool, true, false, not, [], ◌∷◌, Option, Some, None, Result, Ok, Err, refl, unwrap_or}
use Rattle.std.specs.Option.{option_map, option_and_then}
use Rattle.std.proofs.Common.{sym, ap, ap₂, ◌∙◌, subst}
use Rattle.std.proofs.lemmas.Option.{same_Some}
use mathlib.Core.Logic.{◌⊎◌, inl, inr}
use Rattle.sup_specs.specs.Values.{Bytes}
use Rattle.sup_tables.specs.States.{State}
use Rattle.sup_replica.specs.declared.event.Event.TheVariants.{Deliver}
use Rattle.sup_replica.specs.declared.event.Act.{Act}
use Rattle.sup_replica.specs.declared.event.Act.TheVariants.{Event as Of}
use Rattle.sup_replica.specs.declared.refusal.Refusal.{Refusal}
use Rattle.sup_replica.specs.declared.refusal.Refusal.TheVariants.{Down, UnknownNode, NoSuchMessage, BadMessage}
use Rattle.sup_replica.specs.Checks.{refused_if, then_do}
use Rattle.sup_replica.specs.ByTables.{by_tables}
use Rattle.sup_replica.specs.Nodes.{is_named}
use Rattle.sup_replica.specs.Stations.{Mail, StationMove, Station, receiver_of, mail_step}
use Rattle.sup_model.specs.declared.step.Step.{Step}
use Rattle.sup_model.specs.declared.step.Step.TheVariants.{Node as AtNode, Deliver as Delivery, Raw}
use Rattle.sup_model.specs.Worlds.{or_refused}
use Rattle.sup_model.specs.Posts.{StationPost, RealWorld, RealStepped, reads, post_of, mail_of, target_here, arrives, post_step, real_step, real_after, real_run}
use Rattle.sup_model.specs.Refines.{real_answer_of}
use Rattle.sup_node.proofs.PlanLaws.{named_same}
use Rattle.sup_model.proofs.Afters.{After, after-refused_if}
use Rattle.sup_world.specs.Alone.{has_target, names_in, mail_sent, world_by}
use Rattle.sup_world.specs.StayingNodes.{real_comes_to, after_step, NodesStay, MessagesStay, OthersGoFurther, IsFurther, TextsArrive, WasSent, EntriesStay}
use Rattle.sup_world.proofs.AloneLaws.{acts, refused_then, or_found, or_both, targets_same, mail_as_read, after_alone}
use Rattle.sup_world.proofs.NameLaws.{StaysNamed, arrives_named, post_named}
use Rattle.sup_world.proofs.LocalityLaws.{names_by, weigher_by, codec_by, own_by, other_by, name_is, mail_there, mail_stays}

-- ---- a step at the node that it comes to
abbrev came : RealWorld State → Option (Mail State) → ℕ → Bool → Station State → Result (StationMove State) Refusal
came w None drop saves s = Err NoSuchMessage
came w (Some mail) drop saves s = arrives by_tables w.weigher s mail drop saves

-- what is done there, from the node's station
abbrev done_there : RealWorld State → Step → Station State → Result (StationMove State) Refusal
done_there w (AtNode at act now saves) s = refused_if (not (target_here w act)) UnknownNode (post_step by_tables w s act now saves)
done_there w (Delivery from k at drop now saves) s = came w (mail_sent w from k) drop saves s
done_there w (Raw at bytes) s = refused_if (not s.node.up) Down (refused_if (not (reads w.codec bytes)) BadMessage (Err NoSuchMessage))

receives : (w : RealWorld State) (from : Bytes) (k : ℕ) (at : Option Bytes) (drop now : ℕ) (saves : Bool) (mail : Mail State) → mail_sent w from k ≡ Some mail → real_comes_to w (Delivery from k at drop now saves) ≡ unwrap_or at (receiver_of mail)
receives w from k at drop now saves mail e = ap (λ o. unwrap_or at (unwrap_or (option_map receiver_of o) [])) e

told_anyway : (b : Bool) (q r : Refusal) (next : StationMove State → Result (RealStepped State) Refusal) → refused_if b q (Err r) ≡ then_do (refused_if b q (Err r)) next
told_anyway true q r next = refl
told_anyway false q r next = refl

there_is : (w : RealWorld State) (step : Step) (post : StationPost State) → WasSent w step → post_of w (real_comes_to w step) ≡ Some post → real_step by_tables w step ≡ then_do (done_there w step post.station) (acts w post)
there_is w (AtNode at act now saves) post sent there =
    or_found (post_of w at) post UnknownNode (λ p. refused_if (not (target_here w act)) UnknownNode (then_do (post_step by_tables w p.station act now saves) (acts w p))) there
    ∙ refused_then (not (target_here w act)) UnknownNode (post_step by_tables w post.station act now saves) (acts w post)
there_is w (Delivery from k at drop now saves) post sent there =
    let at_receiver = λ (m : Mail State). or_refused (post_of w (unwrap_or at (receiver_of m))) UnknownNode (λ r. then_do (arrives by_tables w.weigher r.station m drop saves) (acts w r)) in
    or_both (post_of w from) (λ (p : StationPost State). mail_of p k) sent.0 UnknownNode NoSuchMessage at_receiver sent.1
    ∙ or_found (post_of w (unwrap_or at (receiver_of sent.0))) post UnknownNode (λ r. then_do (arrives by_tables w.weigher r.station sent.0 drop saves) (acts w r))
    (ap (post_of w) (sym (receives w from k at drop now saves sent.0 sent.1)) ∙ there)
    ∙ ap (λ o. then_do (came w o drop saves post.station) (acts w post)) (sym sent.1)
there_is w (Raw at bytes) post sent there =
    or_found (post_of w at) post UnknownNode (λ p. refused_if (not p.station.node.up) Down (refused_if (not (reads w.codec bytes)) BadMessage (Err NoSuchMessage))) there
    ∙ ap (refused_if (not post.station.node.up) Down) (told_anyway (not (reads w.codec bytes)) BadMessage NoSuchMessage (acts w post))
    ∙ refused_then (not post.station.node.up) Down (refused_if (not (reads w.codec bytes)) BadMessage (Err NoSuchMessage)) (acts w post)

-- nobody is there
nobody : (w : RealWorld State) (step : Step) → WasSent w step → post_of w (real_comes_to w step) ≡ None → real_step by_tables w step ≡ Err UnknownNode
nobody w (AtNode at act now saves) sent there = ap (λ o. or_refused o UnknownNode (λ p. refused_if (not (target_here w act)) UnknownNode (then_do (post_step by_tables w p.station act now saves) (acts w p)))) there
nobody w (Delivery from k at drop now saves) sent there =
    let at_receiver = λ (m : Mail State). or_refused (post_of w (unwrap_or at (receiver_of m))) UnknownNode (λ r. then_do (arrives by_tables w.weigher r.station m drop saves) (acts w r)) in
    or_both (post_of w from) (λ (p : StationPost State). mail_of p k) sent.0 UnknownNode NoSuchMessage at_receiver sent.1
    ∙ ap (λ o. or_refused o UnknownNode (λ r. then_do (arrives by_tables w.weigher r.station sent.0 drop saves) (acts w r))) (ap (post_of w) (sym (receives w from k at drop now saves sent.0 sent.1)) ∙ there)
nobody w (Raw at bytes) sent there = ap (λ o. or_refused o UnknownNode (λ (p : StationPost State). refused_if (not p.station.node.up) Down (refused_if (not (reads w.codec bytes)) BadMessage (Err NoSuchMessage)))) there

-- or the message wasn't sent
not_sent : (o : Option (StationPost State)) (k : ℕ) (next : Mail State → Result (RealStepped State) Refusal) → option_and_then (λ (p : StationPost State). mail_of p k) o ≡ None
    → (r : Refusal) × (or_refused o UnknownNode (λ sender. or_refused (mail_of sender k) NoSuchMessage next) ≡ Err r)
not_sent None k next e = (UnknownNode, refl)
not_sent (Some p) k next e = (NoSuchMessage, ap (λ m. or_refused m NoSuchMessage next) e)

abbrev IsThere : RealWorld State → Step → Type 0
IsThere w step = (post : StationPost State) × (post_of w (real_comes_to w step) ≡ Some post) × (real_step by_tables w step ≡ then_do (done_there w step post.station) (acts w post))

abbrev IsNowhere : RealWorld State → Step → Type 0
IsNowhere w step = (r : Refusal) × (real_step by_tables w step ≡ Err r)

at_post : (w : RealWorld State) (step : Step) → WasSent w step → (o : Option (StationPost State)) → post_of w (real_comes_to w step) ≡ o → IsThere w step ⊎ IsNowhere w step
at_post w step sent None e = inr (UnknownNode, nobody w step sent e)
at_post w step sent (Some post) e = inl (post, e, there_is w step post sent e)

there_or_nowhere : (w : RealWorld State) (step : Step) → IsThere w step ⊎ IsNowhere w step
there_or_nowhere w (AtNode at act now saves) = at_post w (AtNode at act now saves) tt (post_of w at) refl
there_or_nowhere w (Raw at bytes) = at_post w (Raw at bytes) tt (post_of w at) refl
there_or_nowhere w (Delivery from k at drop now saves) = by (mail_sent w from k) refl
  where
    by : (o : Option (Mail State)) → mail_sent w from k ≡ o → IsThere w (Delivery from k at drop now saves) ⊎ IsNowhere w (Delivery from k at drop now saves)
    by None e = inr (not_sent (post_of w from) k (λ m. or_refused (post_of w (unwrap_or at (receiver_of m))) UnknownNode (λ r. then_do (arrives by_tables w.weigher r.station m drop saves) (acts w r))) e)
    by (Some mail) e = at_post w (Delivery from k at drop now saves) (mail, e) (post_of w (real_comes_to w (Delivery from k at drop now saves))) refl

came_named : (w : RealWorld State) (o : Option (Mail State)) (drop : ℕ) (saves : Bool) (s : Station State) → After (StaysNamed s) (came w o drop saves s)
came_named w None drop saves s = tt
came_named w (Some mail) drop saves s = arrives_named by_tables w.weigher s mail drop saves

done_named : (w : RealWorld State) (step : Step) (s : Station State) → After (StaysNamed s) (done_there w step s)
done_named w (AtNode at act now saves) s = after-refused_if (StaysNamed s) (not (target_here w act)) UnknownNode (post_step by_tables w s act now saves) (post_named by_tables w s act now saves)
done_named w (Delivery from k at drop now saves) s = came_named w (mail_sent w from k) drop saves s
done_named w (Raw at bytes) s =
    let none : Result (StationMove State) Refusal = Err NoSuchMessage in
    after-refused_if (StaysNamed s) (not s.node.up) Down (refused_if (not (reads w.codec bytes)) BadMessage none) (after-refused_if (StaysNamed s) (not (reads w.codec bytes)) BadMessage none tt)

after_there : (w : RealWorld State) (step : Step) (post : StationPost State) → real_step by_tables w step ≡ then_do (done_there w step post.station) (acts w post) → after_step w step ≡ world_by w post (done_there w step post.station)
after_there w step post e = ap (real_after by_tables w) e ∙ after_alone by_tables w post (done_there w step post.station)

after_nowhere : (w : RealWorld State) (step : Step) (r : Refusal) → real_step by_tables w step ≡ Err r → after_step w step ≡ w
after_nowhere w step r e = ap (real_after by_tables w) e

-- ---- the other nodes
pub nodes_stay : NodesStay
nodes_stay w step name other =
    elim (there_or_nowhere w step) [
      | inl t ↦
          let x = done_there w step t.0.station in
          ap (λ (v : RealWorld State). post_of v name) (after_there w step t.0 t.2)
          ∙ other_by w t.0 x name (done_named w step t.0.station) (subst (λ (n : Bytes). is_named name n ≡ false) (name_is w (real_comes_to w step) t.0 t.1) other)
      | inr n ↦ ap (λ (v : RealWorld State). post_of v name) (after_nowhere w step n.0 n.1)
    ]

-- ---- the messages
pub messages_stay : MessagesStay
messages_stay w step from k mail e =
    elim (there_or_nowhere w step) [
      | inr n ↦ ap (λ (v : RealWorld State). mail_sent v from k) (after_nowhere w step n.0 n.1) ∙ e
      | inl t ↦
          let x = done_there w step t.0.station in
          let sender = mail_there (post_of w from) k mail e in
          let stays = done_named w step t.0.station in
          let here : real_comes_to w step ≡ t.0.station.node.name = name_is w (real_comes_to w step) t.0 t.1 in
          elim (is_named from t.0.station.node.name) as (λ b. is_named from t.0.station.node.name ≡ b → mail_sent (after_step w step) from k ≡ Some mail) [
            | true ↦ λ n.
                let same : from ≡ t.0.station.node.name = named_same from t.0.station.node.name n in
                let own : sender.0 ≡ t.0 = same_Some sender.0 t.0 (sym sender.1 ∙ ap (post_of w) (same ∙ sym here) ∙ t.1) in
                ap (λ (v : RealWorld State). mail_sent v from k) (after_there w step t.0 t.2)
                ∙ ap (option_and_then (λ (q : StationPost State). mail_of q k)) (own_by w t.0 x from stays same (sender.1 ∙ ap Some own))
                ∙ mail_stays t.0 x k mail (subst (λ (q : StationPost State). mail_of q k ≡ Some mail) own sender.2)
            | false ↦ λ n.
                ap (λ (v : RealWorld State). mail_sent v from k) (after_there w step t.0 t.2) ∙ ap (option_and_then (λ (q : StationPost State). mail_of q k)) (other_by w t.0 x from stays n) ∙ e
          ] refl
    ]

-- ---- steps of others
others_further : (name : Bytes) (w : RealWorld State) (step : Step) → is_named name (real_comes_to w step) ≡ false → IsFurther name w (after_step w step)
others_further name w step other = record {
  weigher = elim (there_or_nowhere w step) [
    | inl t ↦ ap (λ (v : RealWorld State). v.weigher) (after_there w step t.0 t.2) ∙ weigher_by w t.0 (done_there w step t.0.station)
    | inr n ↦ ap (λ (v : RealWorld State). v.weigher) (after_nowhere w step n.0 n.1)
  ];
  codec = elim (there_or_nowhere w step) [
    | inl t ↦ ap (λ (v : RealWorld State). v.codec) (after_there w step t.0 t.2) ∙ codec_by w t.0 (done_there w step t.0.station)
    | inr n ↦ ap (λ (v : RealWorld State). v.codec) (after_nowhere w step n.0 n.1)
  ];
  names = elim (there_or_nowhere w step) [
    | inl t ↦ ap names_in (after_there w step t.0 t.2) ∙ names_by w t.0 (done_there w step t.0.station)
    | inr n ↦ ap names_in (after_nowhere w step n.0 n.1)
  ];
  own = nodes_stay w step name other;
  sent = messages_stay w step;
}

further_still : (name : Bytes) (w v u : RealWorld State) → IsFurther name w v → IsFurther name v u → IsFurther name w u
further_still name w v u f h = record {
  weigher = h.weigher ∙ f.weigher;
  codec = h.codec ∙ f.codec;
  names = h.names ∙ f.names;
  own = h.own ∙ f.own;
  sent = λ from k mail e. h.sent from k mail (f.sent from k mail e);
}

pub others_go_further : OthersGoFurther
others_go_further name w [] h = record { weigher = refl; codec = refl; names = refl; own = refl; sent = λ from k mail e. e }
others_go_further name w (step ∷ steps) h =
    further_still name w (after_step w step) (real_run by_tables (after_step w step) steps) (others_further name w step h.0) (others_go_further name (after_step w step) steps h.1)

pub texts_arrive : TextsArrive
texts_arrive g s a b drop saves e =
    let step : mail_step by_tables g s a saves ≡ mail_step by_tables g s b saves = mail_as_read by_tables g s a saves ∙ ap (λ m. mail_step by_tables g s m saves) e ∙ sym (mail_as_read by_tables g s b saves) in
    ap (λ x. refused_if (not s.node.up) Down (refused_if (not (drop == 0)) BadMessage x)) step

-- ---- an entry that waits
abbrev empty : RealWorld State → RealWorld State
empty w = record w { posts = [] }

post_step_bare : (w : RealWorld State) (s : Station State) (act : Act) (now : ℕ) (saves : Bool) → post_step by_tables w s act now saves ≡ post_step by_tables (empty w) s act now saves
post_step_bare w s (Of (Deliver bytes)) now saves = refl
post_step_bare w s act now saves = refl

same_bare : (w v : RealWorld State) → v.weigher ≡ w.weigher → v.codec ≡ w.codec → empty v ≡ empty w
same_bare w v e f = λ i. record { weigher = e i; codec = f i; posts = [] }

module _ (w v : RealWorld State) (name : Bytes) (f : IsFurther name w v) where
  targets_further : (act : Act) → target_here v act ≡ target_here w act
  targets_further act = targets_same v act ∙ ap (λ ns. has_target ns act) f.names ∙ sym (targets_same w act)

  post_step_further : (s : Station State) (act : Act) (now : ℕ) (saves : Bool) → post_step by_tables v s act now saves ≡ post_step by_tables w s act now saves
  post_step_further s act now saves = post_step_bare v s act now saves ∙ ap (λ u. post_step by_tables u s act now saves) (same_bare w v f.weigher f.codec) ∙ sym (post_step_bare w s act now saves)

  sent_further : (step : Step) → WasSent w step → WasSent v step
  sent_further (AtNode at act now saves) h = tt
  sent_further (Delivery from k at drop now saves) h = (h.0, f.sent from k h.0 h.1)
  sent_further (Raw at bytes) h = tt

  comes_further : (step : Step) → WasSent w step → real_comes_to v step ≡ real_comes_to w step
  comes_further (AtNode at act now saves) h = refl
  comes_further (Delivery from k at drop now saves) h = receives v from k at drop now saves h.0 (f.sent from k h.0 h.1) ∙ sym (receives w from k at drop now saves h.0 h.1)
  comes_further (Raw at bytes) h = refl

  done_further : (step : Step) (s : Station State) → WasSent w step → done_there v step s ≡ done_there w step s
  done_further (AtNode at act now saves) s h =
      ap₂ (λ b x. refused_if (not b) UnknownNode x) (targets_further act) (post_step_further s act now saves)
  done_further (Delivery from k at drop now saves) s h =
      ap (λ o. came v o drop saves s) (f.sent from k h.0 h.1) ∙ ap (λ g. arrives by_tables g s h.0 drop saves) f.weigher ∙ sym (ap (λ o. came w o drop saves s) h.1)
  done_further (Raw at bytes) s h =
      ap (λ c. refused_if (not s.node.up) Down (refused_if (not (reads c bytes)) BadMessage (Err NoSuchMessage))) f.codec

  answer_of_both : (post : StationPost State) (x : Result (StationMove State) Refusal) → real_answer_of (then_do x (acts v post)) ≡ real_answer_of (then_do x (acts w post))
  answer_of_both post (Ok m) = refl
  answer_of_both post (Err r) = refl

pub entries_stay : EntriesStay
entries_stay w v step sent f = at (post_of w (real_comes_to w step)) refl
  where
    also : WasSent v step
    also = sent_further w v (real_comes_to w step) f step sent

    same : real_comes_to v step ≡ real_comes_to w step
    same = comes_further w v (real_comes_to w step) f step sent

    at : (o : Option (StationPost State)) → post_of w (real_comes_to w step) ≡ o
        → (real_answer_of (real_step by_tables v step) ≡ real_answer_of (real_step by_tables w step)) × (post_of (after_step v step) (real_comes_to w step) ≡ post_of (after_step w step) (real_comes_to w step))
    at None e =
        let here : real_step by_tables w step ≡ Err UnknownNode = nobody w step sent e in
        let there : real_step by_tables v step ≡ Err UnknownNode = nobody v step also (ap (post_of v) same ∙ f.own ∙ e) in (
          ap real_answer_of (there ∙ sym here),
          ap (λ (u : RealWorld State). post_of u (real_comes_to w step)) (after_nowhere v step UnknownNode there) ∙ f.own ∙ sym (ap (λ (u : RealWorld State). post_of u (real_comes_to w step)) (after_nowhere w step UnknownNode here)),
        )
    at (Some post) e =
        let x = done_there w step post.station in
        let own : post_of v (real_comes_to w step) ≡ Some post = f.own ∙ e in
        let here : real_step by_tables w step ≡ then_do x (acts w post) = there_is w step post sent e in
        let there : real_step by_tables v step ≡ then_do x (acts v post) =
        there_is v step post also (ap (post_of v) same ∙ own) ∙ ap (λ y. then_do y (acts v post)) (done_further w v (real_comes_to w step) f step post.station sent) in
        let stays = done_named w step post.station in
        let is = name_is w (real_comes_to w step) post e in (
          ap real_answer_of there ∙ answer_of_both w v (real_comes_to w step) f post x ∙ sym (ap real_answer_of here),
          ap (λ (u : RealWorld State). post_of u (real_comes_to w step)) (ap (real_after by_tables v) there ∙ after_alone by_tables v post x) ∙ own_by v post x (real_comes_to w step) stays is own
              ∙ sym (ap (λ (u : RealWorld State). post_of u (real_comes_to w step)) (ap (real_after by_tables w) here ∙ after_alone by_tables w post x) ∙ own_by w post x (real_comes_to w step) stays is e),
        )
