-- The operations that a run adds: no two have the same dot, and the replies tell their dots.
use Rattle.std.specs.Prelude.{◌≡◌, ◌≢◌, ◌==◌, ◌+◌, ℕ, Bool, true, false, not, List, [], ◌∷◌, ◌++◌, length, drop, map, AllPairs, Option, Some, None, Result, Ok, Err, refl}
use Rattle.std.specs.List.{cons_option}
use Rattle.std.specs.Option.{option_map, unwrap_or}
use Rattle.std.proofs.Common.{sym, ap, ◌∙◌, subst}
use Rattle.std.proofs.Math.Seq.{drop-append_seam, drop-length}
use Rattle.std.proofs.lemmas.List.{map-append}
use Rattle.std.proofs.lemmas.List.Elements.{filter_map-append}
use mathlib.Core.Logic.{inl, inr}
use Rattle.sup_specs.specs.Values.{Bytes}
use Rattle.sup_causal.specs.declared.dot.Dot.{Dot}
use Rattle.sup_tables.specs.declared.row.Row.{Row}
use Rattle.sup_tables.specs.Rows.{members, children, names as name_rows}
use Rattle.sup_tables.specs.Operations.{Operation, added, live, covers}
use Rattle.sup_tables.specs.Readers.{is_present}
use Rattle.sup_tables.specs.Makers.{drop_member, drop_child, drop_name, finish_child}
use Rattle.sup_placement.specs.Place.{Weigher}
use Rattle.sup_local_sup.specs.declared.leaving.Ruling.{Ruling}
use Rattle.sup_local_sup.specs.declared.leaving.Ruling.TheVariants.{Stale, Restart as Again, Finish, GiveUp}
use Rattle.sup_local_sup.specs.Planning.{ruling}
use Rattle.sup_replica.specs.declared.event.Event.{Event}
use Rattle.sup_replica.specs.declared.event.Event.TheVariants.{Join, Leave, Drain, Start, Replace, Delete, Register, Unregister, Exit, Ship, Push, Deliver}
use Rattle.sup_replica.specs.declared.event.Act.{Act}
use Rattle.sup_replica.specs.declared.event.Act.TheVariants.{Event as Of, Stop, Restart}
use Rattle.sup_replica.specs.declared.done.Reply.{Reply}
use Rattle.sup_replica.specs.declared.done.Reply.TheVariants.{Removed, Sent, Stopped, Boot}
use Rattle.sup_replica.specs.declared.refusal.Refusal.{Refusal}
use Rattle.sup_replica.specs.declared.refusal.Refusal.TheVariants.{Down, AlreadyUp, UnknownNode, NotMember, NotFound, NameUnknown, NoSuchMessage, BadMessage, WrongReceiver}
use Rattle.sup_replica.specs.Checks.{refused_if, then_do}
use Rattle.sup_replica.specs.Nodes.{Node, Kind, delta, push, ack, Message, ActOutcome, by_operations, is_named}
use Rattle.sup_replica.specs.Commands as commands
use Rattle.sup_replica.specs.Steps.{only, push_step, reading, command, exit_step, up_step}
use Rattle.sup_replica.specs.Acts.{stopped, booted, keeps, act_step, absorbs, takes, deliver, kept_by, answer_to}
use Rattle.sup_model.specs.declared.step.Step.{Step}
use Rattle.sup_model.specs.declared.step.Step.TheVariants.{Node as AtNode, Deliver as Delivery, Raw}
use Rattle.sup_model.specs.Worlds.{WorldSetting, Ops, ModelWorld, ModelSite, ModelAnswer, WorldStepped, site_of, message_of, or_refused, acted, posted, target_is_here, step, new}
use Rattle.sup_model.specs.Runs.{world_after, answer_of, ModelAllows, ModelRun, ops_at, issued, all_issued, dot_of, new_dots}
use Rattle.sup_model.specs.Headline.{RepliesTellDots}
use Rattle.sup_model.specs.Clean.{HasCleanRows}
use Rattle.sup_model.proofs.Afters.{After, after-refused_if, after-then_do, after-or_refused}
use Rattle.sup_model.proofs.IssueLaws.{Adds, join_issued, drain_issued, start_issued, replace_issued, register_issued, reading_top}
use Rattle.sup_model.proofs.CleanLaws.{kept_by_after}
use Rattle.sup_model.proofs.CleanWorld.{step_is_at, step_clean, new_clean, Apart, no_pairs, step_apart}
use Rattle.sup_model.proofs.ExchangeLaws.{put_here}

-- the dots that operations add
abbrev dots_in : Ops → List Dot
dots_in ops = map (λ (r : Row). r.dot) (added ops)

abbrev dots_of_add : Option Row → List Dot
dots_of_add add = map (λ (r : Row). r.dot) (cons_option add [])

nil_behind : {X : Type 0} (xs : List X) → xs ≡ xs ++ []
nil_behind [] = refl
nil_behind (x ∷ xs) = ap (λ ys. x ∷ ys) (nil_behind xs)

-- an act of a node puts its own operations behind what it knows, and its reply tells their dots
record Grew (n : Node Ops) (o : ActOutcome Ops) : Type 0 where
  pub own : Ops
  pub known : o.node.known ≡ n.known ++ own
  pub name : o.node.name ≡ n.name
  pub dots : dots_in own ≡ dot_of o.done.reply

one_dot : (n : Node Ops) (op : Operation) → Adds (reading by_operations n) op → dots_in (op ∷ []) ≡ commands.next (reading by_operations n) ∷ []
one_dot n op a = ap dots_of_add a.is ∙ (λ i. a.issued.dot a.row a.is i ∷ [])

adds_grew : (s : Weigher) (n : Node Ops) (x : Result Operation Refusal) (reply : Operation → Reply) → ((op : Operation) → dot_of (reply op) ≡ commands.next (reading by_operations n) ∷ [])
    → After (Adds (reading by_operations n)) x → After (Grew n) (command by_operations s n x reply)
adds_grew s n (Ok op) reply replies a = record { own = op ∷ []; known = refl; name = refl; dots = one_dot n op a ∙ sym (replies op) }
adds_grew s n (Err r) reply replies a = tt

removes_grew : (s : Weigher) (n : Node Ops) (b : Bool) (refusal : Refusal) (op : Operation) → op.add ≡ None → After (Grew n) (command by_operations s n (refused_if b refusal (Ok op)) (λ op. Removed op.removes))
removes_grew s n true refusal op e = tt
removes_grew s n false refusal op e = record { own = op ∷ []; known = refl; name = refl; dots = ap dots_of_add e }

only_grew : (n : Node Ops) (o : ActOutcome Ops) → o.node.known ≡ n.known → o.node.name ≡ n.name → dot_of o.done.reply ≡ [] → Grew n o
only_grew n o known name none = record { own = []; known = known ∙ nil_behind n.known; name = name; dots = sym none }

exit_grew : (s : Weigher) (n : Node Ops) (id : Bytes) (now : ℕ) (r : Ruling) → After (Grew n) (exit_step by_operations s n id now r)
exit_grew s n id now Stale = tt
exit_grew s n id now Again = record { own = []; known = nil_behind n.known; name = refl; dots = refl }
exit_grew s n id now (Finish dot) = record { own = finish_child dot ∷ []; known = refl; name = refl; dots = refl }
exit_grew s n id now GiveUp = record { own = drop_member (live n.known) n.name ∷ []; known = refl; name = refl; dots = refl }

push_grew : (n : Node Ops) (to : Bytes) (own : Option Ops) → After (Grew n) (push_step n to own)
push_grew n to None = tt
push_grew n to (Some own) = only_grew n (only n Sent [] (Some (record { to = to; kind = push; content = own }))) refl refl refl

event_grew : (s : Weigher) (n : Node Ops) (e : Event) (now : ℕ) → After (Grew n) (up_step by_operations s n e now)
event_grew s n (Join label) now = adds_grew s n _ _ (λ op. refl) (join_issued (reading by_operations n) label)
event_grew s n (Leave m) now = removes_grew s n (not (is_present (live n.known) members m)) NotMember (drop_member (live n.known) m) refl
event_grew s n (Drain m) now = adds_grew s n _ _ (λ op. refl) (drain_issued (reading by_operations n) m (reading_top n))
event_grew s n (Start id spec) now = adds_grew s n _ _ (λ op. refl) (start_issued (reading by_operations n) id spec)
event_grew s n (Replace id spec) now = adds_grew s n _ _ (λ op. refl) (replace_issued (reading by_operations n) id spec (reading_top n))
event_grew s n (Delete id) now = removes_grew s n (not (is_present (live n.known) children id)) NotFound (drop_child (live n.known) id) refl
event_grew s n (Register name id) now = adds_grew s n _ _ (λ op. refl) (register_issued (reading by_operations n) name id)
event_grew s n (Unregister name) now = removes_grew s n (not (is_present (live n.known) name_rows name)) NameUnknown (drop_name (live n.known) name) refl
event_grew s n (Exit id inc reason) now = exit_grew s n id now (ruling n.supervisor id inc reason now)
event_grew s n (Ship to) now =
    let o = only n Sent [] (Some (record { to = to; kind = delta; content = n.known })) in
    let sent : Result (ActOutcome Ops) Refusal = Ok o in
    after-refused_if (Grew n) (is_named to n.name) UnknownNode sent (only_grew n o refl refl refl)
event_grew s n (Push to) now = after-refused_if (Grew n) (is_named to n.name) UnknownNode (push_step n to n.newest) (push_grew n to n.newest)
event_grew s n (Deliver bytes) now = tt

act_grew : (s : Weigher) (n : Node Ops) (a : Act) (now : ℕ) → After (Grew n) (act_step by_operations s n a now)
act_grew s n (Of e) now = after-refused_if (Grew n) (not n.up) Down (up_step by_operations s n e now) (event_grew s n e now)
act_grew s n Stop now =
    let o = only (stopped n) Stopped [] None in
    let ok : Result (ActOutcome Ops) Refusal = Ok o in
    after-refused_if (Grew n) (not n.up) Down ok (only_grew n o refl refl refl)
act_grew s n Restart now =
    let o : ActOutcome Ops = keeps by_operations s (booted n) (Boot (n.supervisor.boot + 1)) None in
    let ok : Result (ActOutcome Ops) Refusal = Ok o in
    after-refused_if (Grew n) n.up AlreadyUp ok (only_grew n o refl refl refl)

-- a delivery's reply tells no dot
abbrev Silent : ActOutcome Ops → Type 0
Silent o = dot_of o.done.reply ≡ []

absorbs_silent : (s : Weigher) (n : Node Ops) (more : Ops) (letter : Option (Message Ops)) (b : Bool) → Silent (absorbs by_operations s n more letter b)
absorbs_silent s n more letter true = refl
absorbs_silent s n more letter false = refl

takes_silent : (s : Weigher) (n : Node Ops) (from : Bytes) (kind : Kind) (more : Ops) → Silent (takes by_operations s n from kind more)
takes_silent s n from ack more = refl
takes_silent s n from delta more = absorbs_silent s n more (answer_to by_operations from delta) (covers n.known more)
takes_silent s n from push more = absorbs_silent s n more None (covers n.known more)

deliver_silent : (s : Weigher) (n : Node Ops) (from : Bytes) (m : Message Ops) (whole : Bool) → After Silent (deliver by_operations s n from m whole)
deliver_silent s n from m whole =
    let ok : Result (ActOutcome Ops) Refusal = Ok (takes by_operations s n from m.kind m.content) in
    let third = refused_if (not (is_named m.to n.name)) WrongReceiver ok in
    after-refused_if Silent (not n.up) Down (refused_if (not whole) BadMessage third)
    (after-refused_if Silent (not whole) BadMessage third
    (after-refused_if Silent (not (is_named m.to n.name)) WrongReceiver ok (takes_silent s n from m.kind m.content)))

-- the operations that a step adds are those by which its node's list has grown
tells : (w : ModelWorld) (at : Bytes) (site : ModelSite) → site_of w at ≡ Some site → (o : ActOutcome Ops) → Grew site.node o
    → dots_in (drop (length (ops_at w at)) (ops_at (acted w site o).world at)) ≡ dot_of o.done.reply
tells w at site found o g =
    let known = λ (s : Option ModelSite). unwrap_or (option_map (λ (x : ModelSite). x.node.known) s) [] in
    let before : ops_at w at ≡ site.node.known = ap known found in
    let after : ops_at (acted w site o).world at ≡ o.node.known = ap known (put_here w site (record { node = o.node; sent = posted site.sent o.letter }) at found g.name) in
    let own : drop (length (ops_at w at)) (ops_at (acted w site o).world at) ≡ g.own =
    (λ i. drop (length (before i)) (after i)) ∙ ap (drop (length site.node.known)) g.known ∙ drop-append_seam site.node.known g.own in
    ap dots_in own ∙ g.dots

abbrev Tells : ModelWorld → Step → WorldStepped → Type 0
Tells w s x = dots_in (issued w s x.world) ≡ dot_of x.answer.done.reply

step_tells : (w : ModelWorld) (s : Step) → After (Tells w s) (step w s)
step_tells w (AtNode at act now saves) =
    let T = Tells w (AtNode at act now saves) in
    let done = λ (site : ModelSite). kept_by saves (act_step by_operations w.weigher site.node act now) in
    let go = λ (site : ModelSite) (o : ActOutcome Ops). let x : Result WorldStepped Refusal = Ok (acted w site o) in x in
    after-or_refused T (site_of w at) UnknownNode (λ site. refused_if (not (target_is_here w act)) UnknownNode (then_do (done site) (go site))) (λ site e.
    after-refused_if T (not (target_is_here w act)) UnknownNode (then_do (done site) (go site))
    (after-then_do (Grew site.node) T (done site) (go site)
    (kept_by_after (Grew site.node) saves (act_step by_operations w.weigher site.node act now) (act_grew w.weigher site.node act now))
    (λ o g. tells w at site e o g)))
step_tells w (Delivery from k at drop now saves) =
    let T = Tells w (Delivery from k at drop now saves) in
    let done = λ (m : Message Ops) (receiver : ModelSite). kept_by saves (deliver by_operations w.weigher receiver.node from m (drop == 0)) in
    let go = λ (receiver : ModelSite) (o : ActOutcome Ops). let x : Result WorldStepped Refusal = Ok (acted w receiver o) in x in
    let at_receiver = λ (m : Message Ops) (receiver : ModelSite). then_do (done m receiver) (go receiver) in
    let with_message = λ (m : Message Ops). or_refused (site_of w (unwrap_or at m.to)) UnknownNode (at_receiver m) in
    let with_sender = λ (sender : ModelSite). or_refused (message_of sender k) NoSuchMessage with_message in
    after-or_refused T (site_of w from) UnknownNode with_sender (λ sender f.
    after-or_refused T (message_of sender k) NoSuchMessage with_message (λ m g.
    after-or_refused T (site_of w (unwrap_or at m.to)) UnknownNode (at_receiver m) (λ receiver e.
    after-then_do Silent T (done m receiver) (go receiver)
    (kept_by_after Silent saves (deliver by_operations w.weigher receiver.node from m (drop == 0)) (deliver_silent w.weigher receiver.node from m (drop == 0)))
    (λ o silent. sym silent))))
step_tells w (Raw at bytes) =
    let T = Tells w (Raw at bytes) in
    let none : Result WorldStepped Refusal = Err NoSuchMessage in
    let inner = refused_if (not (w.is_message bytes)) BadMessage none in
    after-or_refused T (site_of w at) UnknownNode (λ site. refused_if (not site.node.up) Down inner) (λ site _.
    after-refused_if T (not site.node.up) Down inner (after-refused_if T (not (w.is_message bytes)) BadMessage none tt))

-- where nothing changes nothing is added
issued_none : (w : ModelWorld) (s : Step) → issued w s w ≡ []
issued_none w (AtNode at act now saves) = drop-length (ops_at w at)
issued_none w (Delivery from k at drop now saves) = refl
issued_none w (Raw at bytes) = refl

module _ (w : ModelWorld) (s : Step) (rest : List (Result ModelAnswer Refusal)) where
  stepped_tells : (r : Result WorldStepped Refusal) → After (Tells w s) r → new_dots (answer_of r ∷ rest) ≡ dots_in (issued w s (world_after w r)) ++ new_dots rest
  stepped_tells (Ok x) t = ap (λ dots. dots ++ new_dots rest) (sym t)
  stepped_tells (Err r) t = ap (λ ops. dots_in ops ++ new_dots rest) (sym (issued_none w s))

  refused_tells : (refusal : Refusal) (answer : Result ModelAnswer Refusal) (mid : ModelWorld) → answer ≡ Err refusal → mid ≡ w → new_dots (answer ∷ rest) ≡ dots_in (issued w s mid) ++ new_dots rest
  refused_tells refusal answer mid e same =
      ap (λ a. new_dots (a ∷ rest)) e ∙ ap (λ ops. dots_in ops ++ new_dots rest) (sym (issued_none w s)) ∙ ap (λ v. dots_in (issued w s v) ++ new_dots rest) (sym same)

  allowed_tells : (answer : Result ModelAnswer Refusal) (mid : ModelWorld) → ModelAllows w s answer mid → new_dots (answer ∷ rest) ≡ dots_in (issued w s mid) ++ new_dots rest
  allowed_tells answer mid (inl h) =
      ap (λ a. new_dots (a ∷ rest)) h.0 ∙ stepped_tells (step w s) (step_tells w s) ∙ ap (λ v. dots_in (issued w s v) ++ new_dots rest) (sym h.1)
  allowed_tells answer mid (inr (inl h)) = refused_tells _ answer mid h.0 h.2
  allowed_tells answer mid (inr (inr h)) = refused_tells _ answer mid h.0 h.3

dots-append : (ops others : Ops) → dots_in (ops ++ others) ≡ dots_in ops ++ dots_in others
dots-append ops others = ap (map (λ (r : Row). r.dot)) (filter_map-append (λ (op : Operation). op.add) ops others) ∙ map-append (λ (r : Row). r.dot) (added ops) (added others)

told_dots : (w : ModelWorld) (steps : List Step) (answers : List (Result ModelAnswer Refusal)) (w' : ModelWorld) (run : ModelRun w steps answers w') → new_dots answers ≡ dots_in (all_issued w steps answers w' run)
told_dots w [] [] w' run = refl
told_dots w (s ∷ steps) (answer ∷ rest) w' run =
    allowed_tells w s rest answer run.0 run.1
    ∙ ap (λ dots. dots_in (issued w s run.0) ++ dots) (told_dots run.0 steps rest w' run.2)
    ∙ sym (dots-append (issued w s run.0) (all_issued run.0 steps rest w' run.2))
told_dots w [] (answer ∷ rest) w' run = absurd run
told_dots w (s ∷ steps) [] w' run = absurd run

-- a run keeps the world clean
allowed_clean : (w : ModelWorld) (s : Step) (answer : Result ModelAnswer Refusal) (mid : ModelWorld) → ModelAllows w s answer mid → HasCleanRows w → HasCleanRows mid
allowed_clean w s answer mid (inl h) clean = subst HasCleanRows (sym h.1) (go (step w s) (step_clean w s clean)) where
  go : (r : Result WorldStepped Refusal) → After (λ (x : WorldStepped). HasCleanRows x.world) r → HasCleanRows (world_after w r)
  go (Ok x) c = c
  go (Err r) c = clean
allowed_clean w s answer mid (inr (inl h)) clean = subst HasCleanRows (sym h.2) clean
allowed_clean w s answer mid (inr (inr h)) clean = subst HasCleanRows (sym h.3) clean

allowed_apart : (w : ModelWorld) → HasCleanRows w → (s : Step) (answer : Result ModelAnswer Refusal) (mid : ModelWorld) → ModelAllows w s answer mid → (rest : List (Result ModelAnswer Refusal)) → Apart mid (new_dots rest) → Apart w (new_dots (answer ∷ rest))
allowed_apart w clean s answer mid (inl h) rest apart =
    subst (λ a. Apart w (new_dots (a ∷ rest))) (sym h.0) (step_apart w clean (step w s) (step_is_at w s) rest (subst (λ v. Apart v (new_dots rest)) h.1 apart))
allowed_apart w clean s answer mid (inr (inl h)) rest apart = subst (λ a. Apart w (new_dots (a ∷ rest))) (sym h.0) (subst (λ v. Apart v (new_dots rest)) h.2 apart)
allowed_apart w clean s answer mid (inr (inr h)) rest apart = subst (λ a. Apart w (new_dots (a ∷ rest))) (sym h.0) (subst (λ v. Apart v (new_dots rest)) h.3 apart)

run_apart : (w : ModelWorld) (steps : List Step) (answers : List (Result ModelAnswer Refusal)) (w' : ModelWorld) → HasCleanRows w → ModelRun w steps answers w' → Apart w (new_dots answers)
run_apart w [] [] w' clean run = record { later = λ d h x home. absurd h; pairs = no_pairs }
run_apart w (s ∷ steps) (answer ∷ rest) w' clean run =
    allowed_apart w clean s answer run.0 run.1 rest (run_apart run.0 steps rest w' (allowed_clean w s answer run.0 run.1 clean) run.2)
run_apart w [] (answer ∷ rest) w' clean run = absurd run
run_apart w (s ∷ steps) [] w' clean run = absurd run

pub replies_tell_dots : RepliesTellDots
replies_tell_dots setting is_message names steps answers w run = told_dots (new setting is_message names) steps answers w run

-- no two operations of one run add the same dot
pub no_dot_twice : (setting : WorldSetting) (is_message : Bytes → Bool) (names : List Bytes) (steps : List Step) (answers : List (Result ModelAnswer Refusal)) (w : ModelWorld) (run : ModelRun (new setting is_message names) steps answers w)
    → AllPairs (λ (d e : Dot). d ≢ e) (map (λ r. r.dot) (added (all_issued (new setting is_message names) steps answers w run)))
no_dot_twice setting is_message names steps answers w run =
    let start = new setting is_message names in
    subst (AllPairs (λ (d e : Dot). d ≢ e)) (told_dots start steps answers w run) (run_apart start steps answers w (new_clean setting is_message names) run).pairs
