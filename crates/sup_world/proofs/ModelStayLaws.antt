-- A step of the model's world is one node's.
use Rattle.std.specs.Prelude.{◌≡◌, ◌==◌, ◌-◌, ℕ, Bool, true, false, cond, not, [], ◌∷◌, List, map, find, slice_get, Option, Some, None, Result, Ok, Err, refl, unwrap_or, if◌then◌else◌}
use Rattle.std.specs.Option.{option_map, option_and_then}
use Rattle.std.proofs.Common.{sym, ap, ◌∙◌, subst}
use Rattle.std.proofs.lemmas.Option.{none-some, same_Some}
use Rattle.sup_specs.specs.Values.{Bytes}
use Rattle.sup_replica.specs.declared.refusal.Refusal.{Refusal}
use Rattle.sup_replica.specs.declared.refusal.Refusal.TheVariants.{Down, UnknownNode, NoSuchMessage, BadMessage}
use Rattle.sup_replica.specs.Acts.{act_step, deliver, kept_by}
use Rattle.sup_replica.specs.Checks.{refused_if, then_do}
use Rattle.sup_replica.specs.Nodes.{Message, ActOutcome, by_operations, is_named}
use Rattle.sup_node.proofs.PlanLaws.{named_itself, named_same}
use Rattle.sup_model.specs.declared.step.Step.{Step}
use Rattle.sup_model.specs.declared.step.Step.TheVariants.{Node as AtNode, Deliver as Delivery, Raw}
use Rattle.sup_model.specs.Runs.{world_after}
use Rattle.sup_model.specs.Worlds.{Ops, ModelSite, WorldStepped, ModelWorld, acted, message_of, or_refused, posted, site_of, step, target_is_here}
use Rattle.sup_model.proofs.Afters.{After, after-or_refused, after-refused_if, after-then_do}
use Rattle.sup_model.proofs.CleanWorld.{find-in}
use Rattle.sup_world.specs.ModelStays.{message_sent, model_comes_to, ModelNodesStay, ModelMessagesStay}
use Rattle.sup_world.proofs.LocalityLaws.{still}
use Rattle.sup_world.proofs.NameLaws.{KeepsName, act_named, deliver_named, kept_after}

abbrev in_sites : List ModelSite → Bytes → Option ModelSite
in_sites sites name = find (λ (s : ModelSite). is_named name s.node.name) sites

abbrev put : List ModelSite → ModelSite → List ModelSite
put sites new = map (λ (s : ModelSite). if is_named new.node.name s.node.name then new else s) sites

found_put : (sites : List ModelSite) (old new : ModelSite) → in_sites sites new.node.name ≡ Some old → in_sites (put sites new) new.node.name ≡ Some new
found_put [] old new e = absurd (none-some old e)
found_put (s ∷ ss) old new e =
    elim (is_named new.node.name s.node.name) as (λ b. is_named new.node.name s.node.name ≡ b → cond b (Some s) (in_sites ss new.node.name) ≡ Some old
    → cond (is_named new.node.name (if b then new else s).node.name) (Some (if b then new else s)) (in_sites (put ss new) new.node.name) ≡ Some new) [
      | true ↦ λ h f. ap (λ c. cond c (Some new) (in_sites (put ss new) new.node.name)) (named_itself new.node.name)
      | false ↦ λ h f. ap (λ c. cond c (Some s) (in_sites (put ss new) new.node.name)) h ∙ found_put ss old new f
    ] refl e

other_put : (sites : List ModelSite) (new : ModelSite) (name : Bytes) → is_named name new.node.name ≡ false → in_sites (put sites new) name ≡ in_sites sites name
other_put [] new name n = refl
other_put (s ∷ ss) new name n =
    elim (is_named new.node.name s.node.name) as (λ b. is_named new.node.name s.node.name ≡ b
    → cond (is_named name (if b then new else s).node.name) (Some (if b then new else s)) (in_sites (put ss new) name) ≡ cond (is_named name s.node.name) (Some s) (in_sites ss name)) [
      | true ↦ λ h.
          let m : is_named name s.node.name ≡ false = subst (λ y. is_named name y ≡ false) (named_same new.node.name s.node.name h) n in
          ap (λ c. cond c (Some new) (in_sites (put ss new) name)) n ∙ other_put ss new name n ∙ sym (ap (λ c. cond c (Some s) (in_sites ss name)) m)
      | false ↦ λ h. ap (λ o. cond (is_named name s.node.name) (Some s) o) (other_put ss new name n)
    ] refl

-- what a step that isn't refused is: one node's
record Acts (w : ModelWorld) (s : Step) (x : WorldStepped) : Type 0 where
  pub site : ModelSite
  pub there : site_of w (model_comes_to w s) ≡ Some site
  pub out : ActOutcome Ops
  pub named : out.node.name ≡ site.node.name
  pub is : x ≡ acted w site out

found_message : (o : Option ModelSite) (k : ℕ) (sender : ModelSite) (m : Message Ops) → o ≡ Some sender → message_of sender k ≡ Some m → option_and_then (λ (s : ModelSite). message_of s k) o ≡ Some m
found_message o k sender m e f = ap (option_and_then (λ (s : ModelSite). message_of s k)) e ∙ f

receives : (w : ModelWorld) (from : Bytes) (k : ℕ) (at : Option Bytes) (drop now : ℕ) (saves : Bool) (m : Message Ops) → message_sent w from k ≡ Some m → unwrap_or at m.to ≡ model_comes_to w (Delivery from k at drop now saves)
receives w from k at drop now saves m e = ap (λ o. unwrap_or at (unwrap_or (option_map (λ (x : Message Ops). x.to) o) [])) (sym e)

step_acts : (w : ModelWorld) (s : Step) → After (Acts w s) (step w s)
step_acts w (AtNode at act now saves) =
    let s = AtNode at act now saves in
    let next = λ (site : ModelSite) (o : ActOutcome Ops). let x : Result WorldStepped Refusal = Ok (acted w site o) in x in
    let made = λ (site : ModelSite). kept_by saves (act_step by_operations w.weigher site.node act now) in
    let rest = λ (site : ModelSite). then_do (made site) (next site) in
    after-or_refused (Acts w s) (site_of w at) UnknownNode (λ site. refused_if (not (target_is_here w act)) UnknownNode (rest site)) (λ site e.
    after-refused_if (Acts w s) (not (target_is_here w act)) UnknownNode (rest site)
    (after-then_do (KeepsName site.node) (Acts w s) (made site) (next site) (kept_after (KeepsName site.node) saves (act_step by_operations w.weigher site.node act now) (act_named by_operations w.weigher site.node act now))
    (λ o n. record { site = site; there = e; out = o; named = n; is = refl })))
step_acts w (Delivery from k at drop now saves) =
    let s = Delivery from k at drop now saves in
    let next = λ (site : ModelSite) (o : ActOutcome Ops). let x : Result WorldStepped Refusal = Ok (acted w site o) in x in
    let made = λ (m : Message Ops) (site : ModelSite). kept_by saves (deliver by_operations w.weigher site.node from m (drop == 0)) in
    let at_receiver = λ (m : Message Ops) (site : ModelSite). then_do (made m site) (next site) in
    let with_message = λ (m : Message Ops). or_refused (site_of w (unwrap_or at m.to)) UnknownNode (at_receiver m) in
    let with_sender = λ (sender : ModelSite). or_refused (message_of sender k) NoSuchMessage with_message in
    after-or_refused (Acts w s) (site_of w from) UnknownNode with_sender (λ sender f.
    after-or_refused (Acts w s) (message_of sender k) NoSuchMessage with_message (λ m g.
    after-or_refused (Acts w s) (site_of w (unwrap_or at m.to)) UnknownNode (at_receiver m) (λ site e.
    after-then_do (KeepsName site.node) (Acts w s) (made m site) (next site)
    (kept_after (KeepsName site.node) saves (deliver by_operations w.weigher site.node from m (drop == 0)) (deliver_named by_operations w.weigher site.node from m (drop == 0))) (λ o n. record {
      site = site;
      there = subst (λ n. site_of w n ≡ Some site) (receives w from k at drop now saves m (found_message (site_of w from) k sender m f g)) e;
      out = o;
      named = n;
      is = refl;
    }))))
step_acts w (Raw at bytes) =
    let s = Raw at bytes in
    let none : Result WorldStepped Refusal = Err NoSuchMessage in
    let inner = refused_if (not (w.is_message bytes)) BadMessage none in
    after-or_refused (Acts w s) (site_of w at) UnknownNode (λ site. refused_if (not site.node.up) Down inner) (λ site _.
    after-refused_if (Acts w s) (not site.node.up) Down inner (after-refused_if (Acts w s) (not (w.is_message bytes)) BadMessage none tt))

name_is : (w : ModelWorld) (name : Bytes) (site : ModelSite) → site_of w name ≡ Some site → name ≡ site.node.name
name_is w name site e = named_same name site.node.name (find-in (λ (s : ModelSite). is_named name s.node.name) w.sites site e).1

abbrev new_site : ModelSite → ActOutcome Ops → ModelSite
new_site site o = record { node = o.node; sent = posted site.sent o.letter }

others_in : (w : ModelWorld) (s : Step) (r : Result WorldStepped Refusal) → After (Acts w s) r → (name : Bytes) → is_named name (model_comes_to w s) ≡ false → site_of (world_after w r) name ≡ site_of w name
others_in w s (Err refusal) a name other = refl
others_in w s (Ok x) a name other =
    ap (λ (y : WorldStepped). site_of y.world name) a.is
    ∙ other_put w.sites (new_site a.site a.out) name (subst (λ n. is_named name n ≡ false) (name_is w (model_comes_to w s) a.site a.there ∙ sym a.named) other)

pub model_nodes_stay : ModelNodesStay
model_nodes_stay w s name other = others_in w s (step w s) (step_acts w s) name other

posted_still : (sent : List (Message Ops)) (letter : Option (Message Ops)) (i : ℕ) (m : Message Ops) → slice_get sent i ≡ Some m → slice_get (posted sent letter) i ≡ Some m
posted_still sent None i m e = e
posted_still sent (Some l) i m e = still sent l i m e

message_still : (site : ModelSite) (o : ActOutcome Ops) (k : ℕ) (m : Message Ops) → message_of site k ≡ Some m → message_of (new_site site o) k ≡ Some m
message_still site o k m e =
    elim (k == 0) as (λ b. (if b then None else slice_get site.sent (k - 1)) ≡ Some m → (if b then None else slice_get (posted site.sent o.letter) (k - 1)) ≡ Some m) [ true ↦ λ f. f | false ↦ λ f. posted_still site.sent o.letter (k - 1) m f ] e

message_there : (o : Option ModelSite) (k : ℕ) (m : Message Ops) → option_and_then (λ (s : ModelSite). message_of s k) o ≡ Some m → (site : ModelSite) × (o ≡ Some site) × (message_of site k ≡ Some m)
message_there None k m e = absurd (none-some m e)
message_there (Some site) k m e = (site, refl, e)

messages_in : (w : ModelWorld) (s : Step) (r : Result WorldStepped Refusal) → After (Acts w s) r → (from : Bytes) (k : ℕ) (m : Message Ops) → message_sent w from k ≡ Some m → message_sent (world_after w r) from k ≡ Some m
messages_in w s (Err refusal) a from k m e = e
messages_in w s (Ok x) a from k m e =
    let new = new_site a.site a.out in
    let sender = message_there (site_of w from) k m e in
    let name = new.node.name in
    let is : model_comes_to w s ≡ name = name_is w (model_comes_to w s) a.site a.there ∙ sym a.named in
    elim (is_named from name) as (λ b. is_named from name ≡ b → message_sent x.world from k ≡ Some m) [
      | true ↦ λ n.
          let same : from ≡ name = named_same from name n in
          let own : sender.0 ≡ a.site = same_Some sender.0 a.site (sym sender.1 ∙ ap (site_of w) (same ∙ sym is) ∙ a.there) in
          let old : site_of w name ≡ Some a.site = ap (site_of w) (sym is) ∙ a.there in
          ap (λ (y : WorldStepped). message_sent y.world from k) a.is
          ∙ ap (option_and_then (λ (t : ModelSite). message_of t k)) (ap (in_sites (put w.sites new)) same ∙ found_put w.sites a.site new old)
          ∙ message_still a.site a.out k m (subst (λ (t : ModelSite). message_of t k ≡ Some m) own sender.2)
      | false ↦ λ n. ap (λ (y : WorldStepped). message_sent y.world from k) a.is ∙ ap (option_and_then (λ (t : ModelSite). message_of t k)) (other_put w.sites new from n) ∙ e
    ] refl

pub model_messages_stay : ModelMessagesStay
model_messages_stay w s from k m e = messages_in w s (step w s) (step_acts w s) from k m e
