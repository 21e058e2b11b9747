-- A run of entries in the world of the definitions: what each node does in it by itself, and what it and its messages are after it.
use Rattle.std.specs.Prelude.{◌≡◌, ◌≢◌, ◌≤◌, ◌<◌, ◌+◌, ℕ, true, false, List, [], ◌∷◌, ◌++◌, length, is_some, Option, Some, None, Result, Ok, Err, refl}
use Rattle.std.specs.List.{list_any, AllByRecursion}
use Rattle.std.specs.Option.{option_and_then}
use Rattle.std.proofs.Common.{sym, ap, ap₂, ◌∙◌, subst, arith}
use Rattle.std.proofs.lemmas.List.{append-nil, append_assoc, length-append}
use Rattle.std.proofs.lemmas.Option.{same_Some}
use mathlib.Core.Bool.{true≢false}
use mathlib.Core.Logic.{◌⊎◌, inl, inr}
use Rattle.sup_specs.specs.Values.{Bytes}
use Rattle.sup_tables.specs.States.{State}
use Rattle.sup_placement.specs.Place.{Weigher}
use Rattle.sup_replica.specs.declared.event.Event.TheVariants.{Deliver as Brings}
use Rattle.sup_replica.specs.declared.event.Act.{Act}
use Rattle.sup_replica.specs.declared.event.Act.TheVariants.{Event as Of}
use Rattle.sup_replica.specs.declared.refusal.Refusal.{Refusal}
use Rattle.sup_replica.specs.declared.refusal.Refusal.TheVariants.{OutOfMemory as NoMemory}
use Rattle.sup_replica.specs.Checks.{then_do}
use Rattle.sup_replica.specs.ByTables.{by_tables}
use Rattle.sup_replica.specs.Nodes.{is_named}
use Rattle.sup_replica.specs.Stations.{Mail, a_delta, a_push, an_ack, StationMove}
use Rattle.sup_keeper.specs.Keeping.{most}
use Rattle.sup_node.specs.Texts.{IsReadAs, IsMessageText, message_of, mail_of as mail_read}
use Rattle.sup_node.proofs.PlanLaws.{named_itself, named_same}
use Rattle.sup_node_gate.specs.declared.entry.Entry.{Entry}
use Rattle.sup_node_gate.specs.Histories.{StationAnswer}
use Rattle.sup_model.specs.declared.step.Step.{Step}
use Rattle.sup_model.specs.declared.step.Step.TheVariants.{Node as AtNode, Deliver as Delivery, Raw}
use Rattle.sup_model.specs.Posts.{StationPost, RealWorld, RealAnswer, RealStepped, reads, post_of, mail_of, real_step, real_after}
use Rattle.sup_model.specs.Refines.{real_answer_of}
use Rattle.sup_model.specs.Follows.{StepMakes}
use Rattle.sup_model.proofs.Afters.{After}
use Rattle.sup_world.specs.declared.answer.Answer.{Answer as Told}
use Rattle.sup_world.specs.CarriedSteps.{brings_bytes, failures_at}
use Rattle.sup_world.specs.FollowedSteps.{MakesRealStep}
use Rattle.sup_world.specs.Moves.{ReadsIn}
use Rattle.sup_world.specs.Runs.{StepGoes}
use Rattle.sup_world.specs.SeenNodes.{SeenNode}
use Rattle.sup_world.specs.ToldAnswers.{ShowsReal, TellsOf}
use Rattle.sup_world.specs.Alone.{names_in, mail_sent, as_read, alone, post_by, world_by}
use Rattle.sup_world.proofs.NodeActLaws.{reads_none}
use Rattle.sup_world.proofs.AloneLaws.{acts, act_alone, mail_alone, raw_alone, after_alone, there_by_name}
use Rattle.sup_world.proofs.NameLaws.{StaysNamed}
use Rattle.sup_world.proofs.LocalityLaws.{names_by, weigher_by, codec_by, own_by, other_by, name_is, mail_there, alone_named}
use Rattle.sup_certify.specs.Orders.{PlacedEntry, of_node}
use Rattle.sup_certify.specs.Certified.{IsStepOf, IsRunBy, answer_of}
use Rattle.sup_certify.proofs.OrderExchangeLaws.{Begins, of_node_both, of_one, of_none}
use Rattle.sup_certify.proofs.FailureLaws.{named_in, FailedBy, failed_more, stand_named, carried_here}
use Rattle.sup_certify.proofs.ReplayLaws.{IsSaidBy, by_itself, Replayed, replayed_both, replayed_split, replayed_one, replayed_mail}
use Rattle.sup_certify.proofs.TextLaws.{mail_is_sent, known_step}

some_there : {X : Type 0} (o : Option X) → is_some o ≡ true → (x : X) × (o ≡ Some x)
some_there None e = absurd (true≢false (sym e))
some_there (Some x) e = (x, refl)

-- this text was sent
abbrev pub IsSentIn : RealWorld State → Bytes → Type 0
IsSentIn w text = (from : Bytes) × (k : ℕ) × (mail : Mail State) × (mail_sent w from k ≡ Some mail) × IsMessageText text (message_of mail)

as_read_mail : (mail : Mail State) → as_read mail ≡ mail_read (message_of mail)
as_read_mail (a_delta from to n whole content) = refl
as_read_mail (a_push from to content) = refl
as_read_mail (an_ack from to n) = refl

text_in : Act → Bytes
text_in (Of (Brings bytes)) = bytes
text_in act = []

same_text : (a b : Bytes) → Of (Brings a) ≡ Of (Brings b) → a ≡ b
unfolding text_in
same_text a b e = ap text_in e

-- what the world tells is what its node's station says
told_said : (w : RealWorld State) (post : StationPost State) (x : Result (StationMove State) Refusal) (told : Result Told Refusal) → TellsOf (real_answer_of (then_do x (acts w post))) told → IsSaidBy x (answer_of told)
told_said w post (Ok m) (Ok a) t = record { reply = t.reply; effects = t.effects; letter = t.letter }
told_said w post (Ok m) (Err r) t = absurd t
told_said w post (Err q) (Ok a) t = absurd t
told_said w post (Err q) (Err r) t = t

no_memory : (told : Result Told Refusal) → TellsOf (Err NoMemory) told → told ≢ Err NoMemory → ⊥
no_memory (Ok a) t ne = t
no_memory (Err r) t ne = ne (ap Err t)

module _ (g : Weigher) (names : List Bytes) where
  -- a world of these nodes
  pub record Framed (w : RealWorld State) : Type 0 where
    pub weigher : w.weigher ≡ g
    pub names_are : names_in w ≡ names
    pub deaf : (bytes : Bytes) → reads w.codec bytes ≡ false

  -- the entry's node has answered so, by itself; bytes that came were sent before, or are no message
  pub record Acted (w : RealWorld State) (p : PlacedEntry) (answer : StationAnswer) (w' : RealWorld State) : Type 0 where
    pub post : StationPost State
    pub there : post_of w p.node ≡ Some post
    pub read : Option (Mail State)
    pub is_read : ReadsIn p.entry.act read
    pub came : (text : Bytes) → p.entry.act ≡ Of (Brings text) → IsReadAs text None ⊎ IsSentIn w text
    pub said : IsSaidBy (by_itself g names post.station p.entry read) answer
    pub after : w' ≡ world_by w post (by_itself g names post.station p.entry read)

  pub record ActedTo (w : RealWorld State) (p : PlacedEntry) (answer : StationAnswer) (sites : List SeenNode) : Type 0 where
    pub world : RealWorld State
    pub acted : Acted w p answer world
    pub shows : ShowsReal g sites world

  pub node_there : (w : RealWorld State) (name : Bytes) → Framed w → list_any (is_named name) names ≡ true → (post : StationPost State) × (post_of w name ≡ Some post)
  node_there w name f e = some_there (post_of w name) (there_by_name w name ∙ ap (list_any (is_named name)) f.names_are ∙ e)

  module _ (w : RealWorld State) (f : Framed w) (p : PlacedEntry) (post : StationPost State) (there : post_of w p.node ≡ Some post) where
    abbrev in_world : Act → Option (Mail State) → Result (StationMove State) Refusal
    in_world act read = alone by_tables w.weigher (names_in w) post.station act p.entry.now p.entry.saved read

    acted_as : (told : Result Told Refusal) (sites : List SeenNode) (step : Step) (read : Option (Mail State)) → ReadsIn p.entry.act read → ((text : Bytes) → p.entry.act ≡ Of (Brings text) → IsReadAs text None ⊎ IsSentIn w text)
        → real_step by_tables w step ≡ then_do (in_world p.entry.act read) (acts w post) → TellsOf (real_answer_of (real_step by_tables w step)) told → ShowsReal g sites (real_after by_tables w (real_step by_tables w step))
        → ActedTo w p (answer_of told) sites
    acted_as told sites step read is came e tells shows =
        let x = by_itself g names post.station p.entry read in
        let own : in_world p.entry.act read ≡ x = ap₂ (λ h ns. alone by_tables h ns post.station p.entry.act p.entry.now p.entry.saved read) f.weigher f.names_are in
        let all : real_step by_tables w step ≡ then_do x (acts w post) = e ∙ ap (λ (y : Result (StationMove State) Refusal). then_do y (acts w post)) own in
        record {
          world = real_after by_tables w (real_step by_tables w step);
          acted = record {
            post = post;
            there = there;
            read = read;
            is_read = is;
            came = came;
            said = told_said w post x told (subst (λ (r : Result (RealStepped State) Refusal). TellsOf (real_answer_of r) told) all tells);
            after = ap (real_after by_tables w) all ∙ after_alone by_tables w post x;
          };
          shows = shows;
        }

    entry_acted : (before : List SeenNode) → ShowsReal g before w → (told : Result Told Refusal) (sites : List SeenNode) (step : Step) → IsStepOf before p step → TellsOf (real_answer_of (real_step by_tables w step)) told
        → ShowsReal g sites (real_after by_tables w (real_step by_tables w step)) → ActedTo w p (answer_of told) sites
    entry_acted before seen told sites (AtNode at act now saves) s tells shows =
        let dry : brings_bytes p.entry.act ≡ false = subst (λ (a : Act). brings_bytes a ≡ false) s.is_act s.dry in
        let step : AtNode at act now saves ≡ AtNode p.node p.entry.act p.entry.now p.entry.saved = λ i. AtNode (s.at_node i) (s.is_act i) (s.at_moment i) (s.is_saved i) in
        acted_as told sites (AtNode at act now saves) None (reads_none p.entry.act dry) (λ text e. absurd (true≢false (sym (ap brings_bytes e) ∙ dry)))
        (ap (real_step by_tables w) step ∙ act_alone by_tables w post p.node p.entry.act p.entry.now p.entry.saved None there dry) tells shows
    entry_acted before seen told sites (Delivery from k at drop now saves) s tells shows =
        let m = mail_is_sent g before w seen from k s.bytes s.sent in
        let step : Delivery from k at drop now saves ≡ Delivery from k (Some p.node) 0 p.entry.now p.entry.saved = λ i. Delivery from k (s.at_node i) (s.whole i) (s.at_moment i) (s.is_saved i) in
        acted_as told sites (Delivery from k at drop now saves) (Some (as_read m.0))
        (subst (λ (a : Act). ReadsIn a (Some (as_read m.0))) (sym s.brings) (message_of m.0, m.2.whole, m.2.says, as_read_mail m.0))
        (λ text e. inr (from, k, m.0, m.1, subst (λ (t : Bytes). IsMessageText t (message_of m.0)) (same_text s.bytes text (sym s.brings ∙ e)) m.2))
        (ap (real_step by_tables w) step ∙ mail_alone by_tables w post from k m.0 p.node s.bytes p.entry.now p.entry.saved m.1 there
        ∙ ap (λ (a : Act). then_do (in_world a (Some (as_read m.0))) (acts w post)) (sym s.brings)) tells shows
    entry_acted before seen told sites (Raw at bytes) s tells shows =
        let step : Raw at bytes ≡ Raw p.node bytes = λ i. Raw (s.at_node i) bytes in
        acted_as told sites (Raw at bytes) None (subst (λ (a : Act). ReadsIn a None) (sym s.brings) s.no_message)
        (λ text e. inl (subst (λ (t : Bytes). IsReadAs t None) (same_text bytes text (sym s.brings ∙ e)) s.no_message))
        (ap (real_step by_tables w) step ∙ raw_alone by_tables w post p.node bytes p.entry.now p.entry.saved there (f.deaf bytes) ∙ ap (λ (a : Act). then_do (in_world a None) (acts w post)) (sym s.brings)) tells shows

  -- a step of the code's world, want of memory aside
  pub step_acted : (w : RealWorld State) → Framed w → (before sites : List SeenNode) → ShowsReal g before w → (p : PlacedEntry) (step : Step) (told : Result Told Refusal) → IsStepOf before p step → StepGoes g before step told sites → told ≢ Err NoMemory → failures_at before p.node < most
      → list_any (is_named p.node) names ≡ true → ActedTo w p (answer_of told) sites
  step_acted w f before sites seen p step told s goes room can among = by made.makes
    where
      post : (post : StationPost State) × (post_of w p.node ≡ Some post)
      post = node_there w p.node f among

      made : MakesRealStep g w step told sites
      made = subst (λ (x : Step). MakesRealStep g w x told sites) (carried_here before p step s can) (goes.steps w seen (known_step w f.deaf before p step s))

      by : StepMakes w step made.told made.after → ActedTo w p (answer_of told) sites
      by (inl m) =
          entry_acted w f p post.0 post.1 before seen told sites step s (subst (λ (t : Result (RealAnswer State) Refusal). TellsOf t told) m.0 made.tells) (subst (λ (r : RealWorld State). ShowsReal g sites r) m.1 made.shows)
      by (inr m) = absurd (no_memory told (subst (λ (t : Result (RealAnswer State) Refusal). TellsOf t told) m.0 made.tells) room)

  pub framed_after : (w w' : RealWorld State) (p : PlacedEntry) (answer : StationAnswer) → Framed w → Acted w p answer w' → Framed w'
  framed_after w w' p answer f a =
      let x = by_itself g names a.post.station p.entry a.read in
      record {
        weigher = ap (λ (v : RealWorld State). v.weigher) a.after ∙ weigher_by w a.post x ∙ f.weigher;
        names_are = ap names_in a.after ∙ names_by w a.post x ∙ f.names_are;
        deaf = λ bytes. ap (λ (v : RealWorld State). reads v.codec bytes) a.after ∙ ap (λ c. reads c bytes) (codec_by w a.post x) ∙ f.deaf bytes;
      }

  -- ---- a run
  abbrev pub RunsTo : RealWorld State → List PlacedEntry → RealWorld State → Type 0
  RunsTo w [] w' = w' ≡ w
  RunsTo w (p ∷ order) w' = (mid : RealWorld State) × Acted w p p.entry.answer mid × RunsTo mid order w'

  pub runs_framed : (w : RealWorld State) (order : List PlacedEntry) (w' : RealWorld State) → Framed w → RunsTo w order w' → Framed w'
  runs_framed w [] w' f h = subst Framed (sym h) f
  runs_framed w (p ∷ order) w' f h = runs_framed h.0 order w' (framed_after w h.0 p p.entry.answer f h.1) h.2

  pub runs_split : (w : RealWorld State) (order more : List PlacedEntry) (w' : RealWorld State) → RunsTo w (order ++ more) w' → (mid : RealWorld State) × RunsTo w order mid × RunsTo mid more w'
  runs_split w [] more w' h = (w, refl, h)
  runs_split w (p ∷ order) more w' h = let rest = runs_split h.0 order more w' h.2 in (rest.0, (h.0, h.1, rest.1), rest.2)

  -- a run of the code's world is one
  pub record RunDone (w : RealWorld State) (done order : List PlacedEntry) (sites : List SeenNode) : Type 0 where
    pub world : RealWorld State
    pub runs : RunsTo w order world
    pub shows : ShowsReal g sites world
    pub failed : FailedBy (done ++ order) sites

  abbrev Fits : List PlacedEntry → Type 0
  Fits order = (name : Bytes) → length (of_node name order) ≤ most

  fits_here : (done order : List PlacedEntry) (p : PlacedEntry) (sites : List SeenNode) → Fits (done ++ p ∷ order) → FailedBy done sites → failures_at sites p.node < most
  fits_here done order p sites fits failed =
      let parts : length (of_node p.node (done ++ p ∷ order)) ≡ length (of_node p.node done) + length (p.entry ∷ of_node p.node order) =
      ap length (of_node_both p.node done (p ∷ order) ∙ ap (λ es. of_node p.node done ++ es) (of_node_both p.node (p ∷ []) order ∙ ap (λ es. es ++ of_node p.node order) (of_one p.node p (named_itself p.node))))
      ∙ length-append (of_node p.node done) (p.entry ∷ of_node p.node order) in
      let le = fits p.node in
      let few = failed p.node in
      omega (arith, parts, le, few)

  pub run_acted : (done : List PlacedEntry) (w : RealWorld State) → Framed w → (before : List SeenNode) → ShowsReal g before w → FailedBy done before → (order : List PlacedEntry) (steps : List Step) (sites : List SeenNode) → Fits (done ++ order)
      → AllByRecursion (λ (p : PlacedEntry). list_any (is_named p.node) names ≡ true) order → IsRunBy g before order steps sites → RunDone w done order sites
  run_acted done w f before seen failed [] [] sites fits among h =
      record {
        world = w;
        runs = refl;
        shows = subst (λ (s : List SeenNode). ShowsReal g s w) (sym h) seen;
        failed = subst (λ (o : List PlacedEntry). FailedBy o sites) (sym (append-nil done)) (subst (FailedBy done) (sym h) failed);
      }
  run_acted done w f before seen failed [] (step ∷ steps) sites fits among h = absurd h
  run_acted done w f before seen failed (p ∷ order) [] sites fits among h = absurd h
  run_acted done w f before seen failed (p ∷ order) (step ∷ steps) sites fits among h =
      let m = h.1 in
      let one : ActedTo w p (answer_of m.answer) h.0 = step_acted w f before h.0 seen p step m.answer m.is_step m.goes m.had_room (fits_here done order p before fits failed) among.0 in
      let acted : Acted w p p.entry.answer one.world = subst (λ (a : StationAnswer). Acted w p a one.world) m.says one.acted in
      let framed : Framed one.world = framed_after w one.world p p.entry.answer f acted in
      let named : named_in h.0 ≡ named_in before = stand_named h.0 one.world.posts one.shows.sites_stand ∙ framed.names_are ∙ sym (stand_named before w.posts seen.sites_stand ∙ f.names_are) in
      let parts : (done ++ p ∷ []) ++ order ≡ done ++ p ∷ order = append_assoc done (p ∷ []) order in
      let rest : RunDone one.world (done ++ p ∷ []) order sites =
      run_acted (done ++ p ∷ []) one.world framed h.0 one.shows (failed_more done p before h.0 step m.is_step failed m.goes.counted named m.goes.others) order steps sites (subst Fits (sym parts) fits) among.1 h.2 in
      record {
        world = rest.world;
        runs = (one.world, acted, rest.runs);
        shows = rest.shows;
        failed = subst (λ (o : List PlacedEntry). FailedBy o sites) parts rest.failed;
      }

  -- ---- what a node is after it
  stays_named : (w w' : RealWorld State) (p : PlacedEntry) (answer : StationAnswer) (a : Acted w p answer w') → After (StaysNamed a.post.station) (by_itself g names a.post.station p.entry a.read)
  stays_named w w' p answer a = alone_named by_tables g names a.post.station p.entry.act p.entry.now p.entry.saved a.read

  abbrev Becomes : RealWorld State → Bytes → StationPost State → List Entry → Type 0
  Becomes w name old es = (new : StationPost State) × (post_of w name ≡ Some new) × Replayed g names old es new

  one_becomes : (w w' : RealWorld State) (p : PlacedEntry) → Acted w p p.entry.answer w' → (name : Bytes) (old : StationPost State) → post_of w name ≡ Some old → Becomes w' name old (of_node name (p ∷ []))
  one_becomes w w' p a name old e =
      let x = by_itself g names a.post.station p.entry a.read in
      elim (is_named name p.node) as (λ b. is_named name p.node ≡ b → Becomes w' name old (of_node name (p ∷ []))) [
        | true ↦ λ t.
            let same : name ≡ p.node = named_same name p.node t in
            let here : a.post ≡ old = same_Some a.post old (sym a.there ∙ ap (post_of w) (sym same) ∙ e) in
            let there : post_of w' name ≡ Some (post_by a.post x) =
            ap (λ (v : RealWorld State). post_of v name) a.after ∙ own_by w a.post x name (stays_named w w' p p.entry.answer a) (same ∙ name_is w p.node a.post a.there) (e ∙ ap Some (sym here)) in
            let own : Replayed g names a.post (p.entry ∷ []) (post_by a.post x) = (a.read, a.is_read, a.said, refl) in
            (post_by a.post x, there, subst (λ (es : List Entry). Replayed g names old es (post_by a.post x)) (sym (of_one name p t)) (subst (λ (q : StationPost State). Replayed g names q (p.entry ∷ []) (post_by a.post x)) here own))
        | false ↦ λ t.
            let other : is_named name a.post.station.node.name ≡ false = subst (λ (n : Bytes). is_named name n ≡ false) (name_is w p.node a.post a.there) t in
            let there : post_of w' name ≡ Some old = ap (λ (v : RealWorld State). post_of v name) a.after ∙ other_by w a.post x name (stays_named w w' p p.entry.answer a) other ∙ e in
            (old, there, subst (λ (es : List Entry). Replayed g names old es old) (sym (of_none name p t)) refl)
      ] refl

  -- a node becomes what its own entries make of it
  pub becomes : (w : RealWorld State) (order : List PlacedEntry) (w' : RealWorld State) → RunsTo w order w' → (name : Bytes) (old : StationPost State) → post_of w name ≡ Some old → Becomes w' name old (of_node name order)
  becomes w [] w' h name old e = (old, ap (λ (v : RealWorld State). post_of v name) h ∙ e, refl)
  becomes w (p ∷ order) w' h name old e =
      let one = one_becomes w h.0 p h.1 name old e in
      let rest = becomes h.0 order w' h.2 name one.0 one.1 in
      (rest.0, rest.1, subst (λ (es : List Entry). Replayed g names old es rest.0) (sym (of_node_both name (p ∷ []) order)) (replayed_both g names old one.0 rest.0 (of_node name (p ∷ [])) (of_node name order) one.2 rest.2))

  -- ---- and its messages
  -- what was sent in a run was sent in each run that comes further at every node
  pub sent_further : (w : RealWorld State) → Framed w → (less more : List PlacedEntry) (v u : RealWorld State) → RunsTo w less v → RunsTo w more u → Begins less more → (from : Bytes) (k : ℕ) (mail : Mail State) → mail_sent v from k ≡ Some mail
      → mail_sent u from k ≡ Some mail
  sent_further w f less more v u hv hu begins from k mail e =
      let sender = mail_there (post_of v from) k mail e in
      let fv : Framed v = runs_framed w less v f hv in
      let is_there : list_any (is_named from) names ≡ true = sym (ap (list_any (is_named from)) fv.names_are) ∙ sym (there_by_name v from) ∙ ap is_some sender.1 in
      let first = node_there w from f is_there in
      let less_far = becomes w less v hv from first.0 first.1 in
      let further = becomes w more u hu from first.0 first.1 in
      let halves = replayed_split g names first.0 further.0 (of_node from less) (begins from).0 (subst (λ (es : List Entry). Replayed g names first.0 es further.0) (begins from).1 further.2) in
      let same : halves.0 ≡ sender.0 = replayed_one g names first.0 halves.0 less_far.0 (of_node from less) halves.1 less_far.2 ∙ same_Some less_far.0 sender.0 (sym less_far.1 ∙ sender.1) in
      let on : Replayed g names sender.0 (begins from).0 further.0 = subst (λ (q : StationPost State). Replayed g names q (begins from).0 further.0) same halves.2 in
      ap (option_and_then (λ (q : StationPost State). mail_of q k)) further.1 ∙ replayed_mail g names sender.0 further.0 (begins from).0 k mail on sender.2
