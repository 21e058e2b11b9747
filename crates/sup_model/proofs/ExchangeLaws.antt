-- What one exchange of settling does: the receiver absorbs all that the sender absorbed, and nobody else absorbs anything.
use Rattle.std.specs.Prelude.{ℕ, ◌≡◌, ◌+◌, ◌-◌, ◌==◌, Bool, true, false, cond, not, List, [], ◌∷◌, ◌++◌, length, map, find, slice_get, Option, Some, None, Result, Ok, refl, if◌then◌else◌}
use Rattle.std.specs.Option.{option_map}
use Rattle.std.proofs.Common.{sym, ap, ◌∙◌, subst, arith}
use mathlib.Core.Logic.{inl, inr}
use Rattle.std.proofs.lemmas.Bool.{ne_eqb}
use Rattle.std.proofs.lemmas.Option.{none-some, same_Some}
use Rattle.sup_specs.specs.Values.{Bytes}
use Rattle.sup_tables.specs.Operations.{covers}
use Rattle.sup_tables.proofs.PointLaws.{text_itself, same_text}
use Rattle.sup_replica.specs.declared.event.Act.TheVariants.{Event as Of}
use Rattle.sup_replica.specs.declared.event.Event.TheVariants.{Ship}
use Rattle.sup_replica.specs.declared.done.Reply.TheVariants.{Sent as IsSent}
use Rattle.sup_replica.specs.declared.refusal.Refusal.{Refusal}
use Rattle.sup_replica.specs.declared.refusal.Refusal.TheVariants.{Down, UnknownNode, NoSuchMessage, BadMessage, WrongReceiver}
use Rattle.sup_replica.specs.Checks.{refused_if, then_do}
use Rattle.sup_replica.specs.Nodes.{Node, Message, ActOutcome, delta, ack, by_operations, is_named}
use Rattle.sup_replica.specs.Acts.{act_step, absorbs, takes, deliver, kept_by, answer_to}
use Rattle.sup_replica.specs.Steps.{only}
use Rattle.sup_model.specs.declared.step.Step.TheVariants.{Node as AtNode, Deliver as Delivery}
use Rattle.sup_model.specs.Worlds.{Ops, ModelWorld, ModelSite, WorldStepped, step, site_of, with_site, message_of, or_refused, acted, target_is_here, posted, number_of}
use Rattle.sup_model.proofs.Afters.{After, after-refused_if, after-then_do, after-or_refused}
use Rattle.sup_anti_entropy.specs.Settling.{TookIn}
use Rattle.sup_model.specs.Settles.{known_at, SentAndAnswered, Exchanged}
use Rattle.sup_model.proofs.CleanLaws.{kept_by_after}
use Rattle.sup_model.proofs.OperationJoins.{operation_joins}
use Rattle.sup_model.proofs.SettleStands.{took_delivery, took_nothing}

ok_is : {X : Type 0} (x y : X) → (let r : Result X Refusal = Ok x in r) ≡ Ok y → x ≡ y
ok_is x y e = cc

-- a site in the place of the one of its name
abbrev put : List ModelSite → ModelSite → List ModelSite
put sites t = map (λ s. if is_named t.node.name s.node.name then t else s) sites

abbrev find_site : List ModelSite → Bytes → Option ModelSite
find_site sites name = find (λ s. is_named name s.node.name) sites

found-put : (sites : List ModelSite) (s t : ModelSite) → find_site sites t.node.name ≡ Some s → find_site (put sites t) t.node.name ≡ Some t
found-put [] s t e = absurd (none-some s e)
found-put (x ∷ xs) s t e =
    elim (is_named t.node.name x.node.name) as (λ b. is_named t.node.name x.node.name ≡ b → cond b (Some x) (find_site xs t.node.name) ≡ Some s → cond (is_named t.node.name (if b then t else x).node.name) (Some (if b then t else x)) (find_site (put xs t) t.node.name) ≡ Some t) [
      | true ↦ λ h f. ap (λ c. cond c (Some t) (find_site (put xs t) t.node.name)) (text_itself t.node.name)
      | false ↦ λ h f. ap (λ c. cond c (Some x) (find_site (put xs t) t.node.name)) h ∙ found-put xs s t f
    ] refl e

other-put : (sites : List ModelSite) (t : ModelSite) (name : Bytes) → is_named name t.node.name ≡ false → find_site (put sites t) name ≡ find_site sites name
other-put [] t name n = refl
other-put (x ∷ xs) t name n =
    elim (is_named t.node.name x.node.name) as (λ b. is_named t.node.name x.node.name ≡ b → cond (is_named name (if b then t else x).node.name) (Some (if b then t else x)) (find_site (put xs t) name) ≡ cond (is_named name x.node.name) (Some x) (find_site xs name)) [
      | true ↦ λ h.
          let m : is_named name x.node.name ≡ false = subst (λ y. is_named name y ≡ false) (same_text t.node.name x.node.name h) n in
          ap (λ c. cond c (Some t) (find_site (put xs t) name)) n ∙ other-put xs t name n ∙ sym (ap (λ c. cond c (Some x) (find_site xs name)) m)
      | false ↦ λ h. ap (λ o. cond (is_named name x.node.name) (Some x) o) (other-put xs t name n)
    ] refl

-- what is found has the name
found_name : (sites : List ModelSite) (name : Bytes) (s : ModelSite) → find_site sites name ≡ Some s → name ≡ s.node.name
found_name [] name s e = absurd (none-some s e)
found_name (x ∷ xs) name s e =
    elim (is_named name x.node.name) as (λ b. is_named name x.node.name ≡ b → cond b (Some x) (find_site xs name) ≡ Some s → name ≡ s.node.name) [
      | true ↦ λ t f. same_text name x.node.name t ∙ ap (λ (y : ModelSite). y.node.name) (same_Some x s f)
      | false ↦ λ t f. found_name xs name s f
    ] refl e

-- what nodes know after one site is put in the place of s
module _ (w : ModelWorld) (s t : ModelSite) (name : Bytes) (found : site_of w name ≡ Some s) (same : t.node.name ≡ s.node.name) where
  is_name : name ≡ t.node.name
  is_name = found_name w.sites name s found ∙ sym same

  at_name : site_of w t.node.name ≡ Some s
  at_name = subst (λ n. site_of w n ≡ Some s) is_name found

  pub put_here : site_of (with_site w t) name ≡ Some t
  put_here = subst (λ n. site_of (with_site w t) n ≡ Some t) (sym is_name) (found-put w.sites s t at_name)

  pub put_there : (other : Bytes) → is_named other name ≡ false → known_at (with_site w t) other ≡ known_at w other
  put_there other n = ap (option_map (λ (x : ModelSite). x.node.known)) (other-put w.sites t other (subst (λ m. is_named other m ≡ false) is_name n))

  pub put_still : t.node.known ≡ s.node.known → (other : Bytes) → known_at (with_site w t) other ≡ known_at w other
  put_still still other =
      elim (is_named other name) as (λ b. is_named other name ≡ b → known_at (with_site w t) other ≡ known_at w other) [
        | true ↦ λ h.
            let e : other ≡ name = same_text other name h in
            subst (λ n. known_at (with_site w t) n ≡ known_at w n) (sym e)
            (ap (option_map (λ (x : ModelSite). x.node.known)) put_here ∙ ap (λ (k : Ops). Some k) still ∙ sym (ap (option_map (λ (x : ModelSite). x.node.known)) found))
        | false ↦ λ h. put_there other h
      ] refl

-- a ship
pub record Shipped (w : ModelWorld) (a b : Bytes) (x : WorldStepped) : Type 0 where
  pub site : ModelSite
  pub found : site_of w a ≡ Some site
  pub is : x ≡ acted w site (only site.node IsSent [] (Some (record { to = b; kind = delta; content = site.node.known })))

pub ship_after : (w : ModelWorld) (a b : Bytes) (now : ℕ) (saves : Bool) → After (Shipped w a b) (step w (AtNode a (Of (Ship b)) now saves))
ship_after w a b now saves =
    let act = λ (site : ModelSite). act_step by_operations w.weigher site.node (Of (Ship b)) now in
    let rest = λ (site : ModelSite). then_do (kept_by saves (act site)) (λ (o : ActOutcome Ops). let x : Result WorldStepped Refusal = Ok (acted w site o) in x) in
    after-or_refused (Shipped w a b) (site_of w a) UnknownNode (λ site. refused_if (not (target_is_here w (Of (Ship b)))) UnknownNode (rest site)) (λ site e.
    let o : ActOutcome Ops = only site.node IsSent [] (Some (record { to = b; kind = delta; content = site.node.known })) in
    let Q : ActOutcome Ops → Type 0 = λ p. p ≡ o in
    let ok : Result (ActOutcome Ops) Refusal = Ok o in
    after-refused_if (Shipped w a b) (not (target_is_here w (Of (Ship b)))) UnknownNode (rest site)
    (after-then_do Q (Shipped w a b) (kept_by saves (act site)) (λ (o : ActOutcome Ops). let x : Result WorldStepped Refusal = Ok (acted w site o) in x)
    (kept_by_after Q saves (act site) (after-refused_if Q (not site.node.up) Down (refused_if (is_named b site.node.name) UnknownNode ok) (after-refused_if Q (is_named b site.node.name) UnknownNode ok refl)))
    (λ p q. record { site = site; found = e; is = ap (acted w site) q })))

-- a delivery
pub record Delivered (w : ModelWorld) (from : Bytes) (k : ℕ) (x : WorldStepped) : Type 0 where
  pub sender : ModelSite
  pub sends : site_of w from ≡ Some sender
  pub message : Message Ops
  pub there : message_of sender k ≡ Some message
  pub receiver : ModelSite
  pub receives : site_of w message.to ≡ Some receiver
  pub is : x ≡ acted w receiver (takes by_operations w.weigher receiver.node from message.kind message.content)

pub deliver_after : (w : ModelWorld) (from : Bytes) (k now : ℕ) (saves : Bool) → After (Delivered w from k) (step w (Delivery from k None 0 now saves))
deliver_after w from k now saves =
    let got = λ (m : Message Ops) (r : ModelSite). deliver by_operations w.weigher r.node from m (0 == 0) in
    let rest = λ (m : Message Ops) (r : ModelSite). then_do (kept_by saves (got m r)) (λ (o : ActOutcome Ops). let x : Result WorldStepped Refusal = Ok (acted w r o) in x) in
    let with_message = λ (m : Message Ops). or_refused (site_of w m.to) UnknownNode (rest m) in
    let with_sender = λ (s : ModelSite). or_refused (message_of s k) NoSuchMessage with_message in
    after-or_refused (Delivered w from k) (site_of w from) UnknownNode with_sender (λ s f.
    after-or_refused (Delivered w from k) (message_of s k) NoSuchMessage with_message (λ m g.
    after-or_refused (Delivered w from k) (site_of w m.to) UnknownNode (rest m) (λ r e.
    let o : ActOutcome Ops = takes by_operations w.weigher r.node from m.kind m.content in
    let Q : ActOutcome Ops → Type 0 = λ p. p ≡ o in
    let ok : Result (ActOutcome Ops) Refusal = Ok o in
    let third = refused_if (not (is_named m.to r.node.name)) WrongReceiver ok in
    after-then_do Q (Delivered w from k) (kept_by saves (got m r)) (λ (o : ActOutcome Ops). let x : Result WorldStepped Refusal = Ok (acted w r o) in x)
    (kept_by_after Q saves (got m r)
    (after-refused_if Q (not r.node.up) Down (refused_if (not (0 == 0)) BadMessage third)
    (after-refused_if Q (not (0 == 0)) BadMessage third
    (after-refused_if Q (not (is_named m.to r.node.name)) WrongReceiver ok refl))))
    (λ p q. record { sender = s; sends = f; message = m; there = g; receiver = r; receives = e; is = ap (acted w r) q }))))

-- the last message of a node is found under its number
pub get_last : {X : Type 0} (xs : List X) (x : X) → slice_get (xs ++ x ∷ []) (length xs) ≡ Some x
get_last [] x = refl
get_last (y ∷ xs) x = get_last xs x

last_message : (s : ModelSite) (sent : List (Message Ops)) (m : Message Ops) (k : ℕ) → s.sent ≡ sent ++ m ∷ [] → Some (length sent + 1) ≡ Some k → message_of s k ≡ Some m
last_message s sent m k is e =
    let n : length sent + 1 ≡ k = same_Some (length sent + 1) k e in
    let z : (length sent + 1 == 0) ≡ false = ne_eqb (length sent + 1) 0 (λ h. omega (arith, h)) in
    let l : length sent + 1 - 1 ≡ length sent = omega arith in
    subst (λ j. message_of s j ≡ Some m) n
    (ap (λ b. if b then None else slice_get s.sent (length sent + 1 - 1)) z
    ∙ ap (slice_get s.sent) l ∙ ap (λ xs. slice_get xs (length sent)) is ∙ get_last sent m)

-- what a delta makes of a node
delta_known : (w : ModelWorld) (n : Node Ops) (from : Bytes) (more : Ops) → (takes by_operations w.weigher n from delta more).node.known ≡ n.known ++ more
delta_known w n from more =
    elim (covers n.known more) as (λ b. (absorbs by_operations w.weigher n more (answer_to by_operations from delta) b).node.known ≡ n.known ++ more) [ true ↦ refl | false ↦ refl ]

delta_name : (w : ModelWorld) (n : Node Ops) (from : Bytes) (more : Ops) → (takes by_operations w.weigher n from delta more).node.name ≡ n.name
delta_name w n from more =
    elim (covers n.known more) as (λ b. (absorbs by_operations w.weigher n more (answer_to by_operations from delta) b).node.name ≡ n.name) [ true ↦ refl | false ↦ refl ]

delta_letter : (w : ModelWorld) (n : Node Ops) (from : Bytes) (more : Ops) → (takes by_operations w.weigher n from delta more).letter ≡ answer_to by_operations from delta
delta_letter w n from more =
    elim (covers n.known more) as (λ b. (absorbs by_operations w.weigher n more (answer_to by_operations from delta) b).letter ≡ answer_to by_operations from delta) [ true ↦ refl | false ↦ refl ]

-- what an exchange does
pub record Took (w : ModelWorld) (a b : Bytes) (w' : ModelWorld) : Type 0 where
  pub before : Ops
  pub brought : Ops
  pub after : Ops
  pub had : known_at w b ≡ Some before
  pub came : known_at w a ≡ Some brought
  pub has : known_at w' b ≡ Some after
  pub took : TookIn operation_joins before brought after
  pub others : (name : Bytes) → is_named name b ≡ false → known_at w' name ≡ known_at w name

abbrev known_of : Option ModelSite → Option Ops
known_of o = option_map (λ (x : ModelSite). x.node.known) o

told_still : (w : ModelWorld) (b : Bytes) (n : ℕ) (x : WorldStepped) → (d : Delivered w b n x) → d.message.kind ≡ ack → (name : Bytes) → known_at x.world name ≡ known_at w name
told_still w b n x d e name =
    let is : x ≡ acted w d.receiver (takes by_operations w.weigher d.receiver.node b ack d.message.content) = d.is ∙ ap (λ k. acted w d.receiver (takes by_operations w.weigher d.receiver.node b k d.message.content)) e in
    ap (λ (y : WorldStepped). known_at y.world name) is
    ∙ put_still w d.receiver (record { node = d.receiver.node; sent = d.receiver.sent }) d.message.to d.receives refl refl name

sent_took : (w : ModelWorld) (a b : Bytes) (w' : ModelWorld) → SentAndAnswered w a b w' → is_named a b ≡ false → Took w a b w'
sent_took w a b w' x apart =
    let sh : Shipped w a b x.ship = subst (After (Shipped w a b)) x.ships (ship_after w a b 0 true) in
    let s = sh.site in
    let m : Message Ops = record { to = b; kind = delta; content = s.node.known } in
    let t : ModelSite = record { node = s.node; sent = s.sent ++ m ∷ [] } in
    let v = with_site w t in
    let world : x.ship.world ≡ v = ap (λ (y : WorldStepped). y.world) sh.is in
    let number : Some (length s.sent + 1) ≡ Some x.k = sym (ap (λ (y : WorldStepped). y.answer.number) sh.is) ∙ x.number in
    let d : Delivered v a x.k x.came = subst (λ u. Delivered u a x.k x.came) world (subst (After (Delivered x.ship.world a x.k)) x.comes (deliver_after x.ship.world a x.k 0 true)) in
    let sender : d.sender ≡ t = same_Some d.sender t (sym d.sends ∙ put_here w s t a sh.found refl) in
    let message : d.message ≡ m = same_Some d.message m (sym d.there ∙ ap (λ (y : ModelSite). message_of y x.k) sender ∙ last_message t s.sent m x.k refl number) in
    let r = d.receiver in
    let found : site_of v b ≡ Some r = subst (λ (y : Message Ops). site_of v y.to ≡ Some r) message d.receives in
    let o = takes by_operations v.weigher r.node a delta s.node.known in
    let came : x.came ≡ acted v r o = d.is ∙ ap (λ (y : Message Ops). acted v r (takes by_operations v.weigher r.node a y.kind y.content)) message in
    let after : ModelSite = record { node = o.node; sent = posted r.sent o.letter } in
    let u = with_site v after in
    let world2 : x.came.world ≡ u = ap (λ (y : WorldStepped). y.world) came in
    let at_b : site_of u b ≡ Some after = put_here v r after b found (delta_name v r.node a s.node.known) in
    let reply : Message Ops = record { to = a; kind = ack; content = [] } in
    let sent : after.sent ≡ r.sent ++ reply ∷ [] = ap (posted r.sent) (delta_letter v r.node a s.node.known) in
    let number2 : Some (length r.sent + 1) ≡ Some x.n =
    sym (ap (number_of r.sent) (delta_letter v r.node a s.node.known)) ∙ sym (ap (λ (y : WorldStepped). y.answer.number) came) ∙ x.answered in
    let e : Delivered u b x.n x.told = subst (λ z. Delivered z b x.n x.told) world2 (subst (After (Delivered x.came.world b x.n)) x.tells (deliver_after x.came.world b x.n 0 true)) in
    let sender2 : e.sender ≡ after = same_Some e.sender after (sym e.sends ∙ at_b) in
    let message2 : e.message ≡ reply = same_Some e.message reply (sym e.there ∙ ap (λ (y : ModelSite). message_of y x.n) sender2 ∙ last_message after r.sent reply x.n sent number2) in
    let last : (name : Bytes) → known_at w' name ≡ known_at u name = λ name. ap (λ z. known_at z name) x.ends ∙ told_still u b x.n x.told e (ap (λ (y : Message Ops). y.kind) message2) name in
    let first : (name : Bytes) → known_at v name ≡ known_at w name = put_still w s t a sh.found refl refl in
    record {
      before = r.node.known;
      brought = s.node.known;
      after = r.node.known ++ s.node.known;
      had = sym (first b) ∙ ap known_of found;
      came = ap known_of sh.found;
      has = last b ∙ ap known_of at_b ∙ ap (λ (k : Ops). Some k) (delta_known v r.node a s.node.known);
      took = took_delivery r.node.known s.node.known;
      others = λ name apart. last name ∙ put_there v r after b found (delta_name v r.node a s.node.known) name apart ∙ first name;
    }

pub exchange_took : (w : ModelWorld) (a b : Bytes) (w' : ModelWorld) → Exchanged w a b w' → is_named a b ≡ false → Took w a b w'
exchange_took w a b w' (inl x) apart = sent_took w a b w' x apart
exchange_took w a b w' (inr c) apart = record {
  before = c.0.target.node.known;
  brought = c.0.sender.node.known;
  after = c.0.target.node.known;
  had = ap known_of c.0.is_target;
  came = ap known_of c.0.is_sender;
  has = ap (λ z. known_at z b) c.1 ∙ ap known_of c.0.is_target;
  took = took_nothing c.0.target.node.known c.0.sender.node.known c.0.covered;
  others = λ name apart. ap (λ z. known_at z name) c.1;
}

-- a ship that is made has a number
pub ship_numbered : (w : ModelWorld) (a b : Bytes) (x : WorldStepped) → step w (AtNode a (Of (Ship b)) 0 true) ≡ Ok x → (k : ℕ) × (x.answer.number ≡ Some k)
ship_numbered w a b x ships =
    let sh : Shipped w a b x = subst (After (Shipped w a b)) ships (ship_after w a b 0 true) in
    (length sh.site.sent + 1, ap (λ (y : WorldStepped). y.answer.number) sh.is)

-- and so has the acknowledgement of its delivery
pub ship_answered : (w : ModelWorld) (a b : Bytes) (x y : WorldStepped) (k : ℕ) → step w (AtNode a (Of (Ship b)) 0 true) ≡ Ok x → x.answer.number ≡ Some k
    → step x.world (Delivery a k None 0 0 true) ≡ Ok y → (n : ℕ) × (y.answer.number ≡ Some n)
ship_answered w a b x y k ships is comes =
    let sh : Shipped w a b x = subst (After (Shipped w a b)) ships (ship_after w a b 0 true) in
    let s = sh.site in
    let m : Message Ops = record { to = b; kind = delta; content = s.node.known } in
    let t : ModelSite = record { node = s.node; sent = s.sent ++ m ∷ [] } in
    let v = with_site w t in
    let world : x.world ≡ v = ap (λ (y : WorldStepped). y.world) sh.is in
    let number : Some (length s.sent + 1) ≡ Some k = sym (ap (λ (y : WorldStepped). y.answer.number) sh.is) ∙ is in
    let d : Delivered v a k y = subst (λ u. Delivered u a k y) world (subst (After (Delivered x.world a k)) comes (deliver_after x.world a k 0 true)) in
    let sender : d.sender ≡ t = same_Some d.sender t (sym d.sends ∙ put_here w s t a sh.found refl) in
    let message : d.message ≡ m = same_Some d.message m (sym d.there ∙ ap (λ (y : ModelSite). message_of y k) sender ∙ last_message t s.sent m k refl number) in
    let r = d.receiver in
    let came : y ≡ acted v r (takes by_operations v.weigher r.node a delta s.node.known) = d.is ∙ ap (λ (z : Message Ops). acted v r (takes by_operations v.weigher r.node a z.kind z.content)) message in
    (length r.sent + 1, ap (λ (z : WorldStepped). z.answer.number) came ∙ ap (number_of r.sent) (delta_letter v r.node a s.node.known))
