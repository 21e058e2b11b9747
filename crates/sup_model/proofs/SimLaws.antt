-- An act over states and the same act over operations answer the same, and stand for one another after it.
use Rattle.sup_local_sup.proofs.HeldLaws.{ruling_alike, renewed_kept, renewed_effects}
use Rattle.sup_local_sup.specs.declared.wanted.Wanted.{Wanted}
use Rattle.sup_local_sup.specs.Keeping.{newly, kept_after, effects_of}
use Rattle.sup_local_sup.specs.Planning.{ruling, left, last_stops}
use Rattle.sup_local_sup.specs.declared.leaving.Ruling.TheVariants.{Stale, Restart as Again, Finish, GiveUp}
use Rattle.sup_local_sup.specs.declared.leaving.Ruling.{Ruling}
use Rattle.sup_local_sup.specs.declared.leaving.Leaving.TheVariants.{Nobody, Finished as finished, GaveUp as gave_up}
use Rattle.sup_local_sup.specs.declared.leaving.Leaving.{Leaving}
use Rattle.std.specs.Prelude.{◌≡◌, ℕ, ◌+◌, ◌≤◌, Bool, true, false, not, ◌||◌, ◌&&◌, List, [], ◌∷◌, ◌++◌, refl, Option, Some, None, Result, Ok, Err, nat_lt, length}
use Rattle.std.proofs.Common.{sym, ap, ◌∙◌, subst, arith}
use Rattle.sup_specs.specs.Values.{Bytes}
use Rattle.sup_causal.specs.declared.dot.Dot.{Dot}
use Rattle.sup_tables.specs.declared.row.Row.{Row}
use Rattle.sup_tables.specs.Operations.{Operation, live, greatest, NoClash}
use Rattle.sup_tables.specs.Makers.{finish_child, drop_member}
use Rattle.sup_local_sup.specs.Supervising.{Supervisor, wanted_after, wanted_effects, others}
use Rattle.sup_replica.specs.declared.event.Event.{Event}
use Rattle.sup_replica.specs.declared.event.Event.TheVariants.{Join, Leave, Drain, Start, Replace, Delete, Register, Unregister, Exit, Ship, Push, Deliver}
use Rattle.sup_replica.specs.declared.event.Act.TheVariants.{Event as Of, Stop, Restart}
use Rattle.sup_replica.specs.declared.event.Act.{Act}
use Rattle.sup_replica.specs.declared.done.Reply.{Reply}
use Rattle.sup_replica.specs.declared.done.Reply.TheVariants.{Added, Replaced, Removed, Finished, GaveUp, Sent, Stopped, Boot}
use Rattle.sup_replica.specs.declared.refusal.Refusal.{Refusal}
use Rattle.sup_replica.specs.declared.refusal.Refusal.TheVariants.{Down, AlreadyUp, UnknownNode, CountSpent, KeepFailed}
use Rattle.sup_specs.specs.declared.limits.TheConstants.{MAX}
use Rattle.sup_replica.specs.Checks.{refused_if, then_do}
use Rattle.sup_placement.specs.Place.{Weigher}
use Rattle.sup_model.specs.Worlds.{Ops}
use Rattle.sup_replica.specs.Nodes.{Knowledge, Node, delta, ActOutcome, by_operations, is_named, wanted_at}
use Rattle.sup_replica.specs.Steps.{wanted, reading, issues, command, exit_step, up_step, passes_greatest, with_own}
use Rattle.sup_replica.specs.Commands.{CommandReading, next, join, leave, drain, start, replace, delete, register, unregister}
use Rattle.sup_replica.specs.Acts.{reconciled, stopped, booted, act_step, kept_by, changes, keeps}
use Rattle.sup_replica.specs.Steps.{only, push_step}
use Rattle.sup_model.proofs.Afters.{After}
use Rattle.sup_model.specs.Clean.{HasRow}
use Rattle.sup_model.specs.Laws.{StateView, StateLaws}
use Rattle.sup_model.specs.Stands.{DoneTogether, BothOrNone, NodeStands, OutcomeStands, SupervisorStands}
use Rattle.sup_model.proofs.IssueLaws.{Issued, Adds, some_same, join_issued, leave_issued, drain_issued, start_issued, replace_issued, delete_issued, register_issued, unregister_issued, removing_issued, added-greatest, reading_top}
use Rattle.sup_model.proofs.CleanLaws.{row-append, row-one}

-- the two results of one check
pub both-refused_if : {A B : Type 0} (R : A → B → Type 0) (b c : Bool) (refusal : Refusal) (x : Result A Refusal) (y : Result B Refusal) → b ≡ c → DoneTogether R x y → DoneTogether R (refused_if b refusal x) (refused_if c refusal y)
both-refused_if R b c refusal x y e h = subst (λ d. DoneTogether R (refused_if b refusal x) (refused_if d refusal y)) e (go b) where
  go : (d : Bool) → DoneTogether R (refused_if d refusal x) (refused_if d refusal y)
  go true = refl
  go false = h

pub both-then_do : {A B C D : Type 0} (R : A → B → Type 0) (Q : C → D → Type 0) (x : Result A Refusal) (y : Result B Refusal) (f : A → Result C Refusal) (g : B → Result D Refusal)
    → DoneTogether R x y → ((a : A) (b : B) → R a b → DoneTogether Q (f a) (g b)) → DoneTogether Q (then_do x f) (then_do y g)
both-then_do R Q (Ok a) (Ok b) f g h next = next a b h
both-then_do R Q (Err r) (Err q) f g h next = h
both-then_do R Q (Ok a) (Err q) f g h next = absurd h
both-then_do R Q (Err r) (Ok b) f g h next = absurd h

-- an own operation clashes with nothing that its node knows
own_clash : (m : Node Ops) (op : Operation) → NoClash m.known → Issued (reading by_operations m) op → NoClash (m.known ++ op ∷ [])
own_clash m op clear i x y hx hy same =
    let late = λ (x y : Row) (old : HasRow m.known x) (new : op.add ≡ Some y) (same : x.dot ≡ y.dot).
    let d = same ∙ i.dot y new in
    let at : x.dot.node ≡ m.name = ap (λ (z : Dot). z.node) d in
    let g : x.dot.counter ≤ greatest m.known m.name = subst (λ n. x.dot.counter ≤ greatest m.known n) at (added-greatest m.known x old) in
    let c : x.dot.counter ≡ greatest m.known m.name + 1 = ap (λ (z : Dot). z.counter) d in
    let none : ⊥ = omega (arith, g, c) in none in
    row-append m.known (op ∷ []) x (x ≡ y) hx
    (λ old. row-append m.known (op ∷ []) y (x ≡ y) hy (λ other. clear x y old other same) (λ new. absurd (late x y old (row-one op y new) same)))
    (λ new. row-append m.known (op ∷ []) y (x ≡ y) hy (λ other. absurd (late y x other (row-one op x new) (sym same))) (λ also. some_same y x (sym (row-one op y also) ∙ row-one op x new)))

module _ {K : Type 0} (k : Knowledge K) (view : StateView K) (laws : StateLaws k view) where
  more_stands : (a b : K) (ops others : Ops) → view.stands a ops → view.stands b others → NoClash (ops ++ others) → view.stands (k.with_more a b) (ops ++ others)
  more_stands a b ops others sa sb clear = laws.both a b ops others sa sb clear

  rows_same : (n : Node K) (m : Node Ops) → NodeStands view n m → k.rows n.known ≡ live m.known
  rows_same n m h = laws.rows n.known m.known h.state

  reading_same : (n : Node K) (m : Node Ops) → NodeStands view n m → reading k n ≡ reading by_operations m
  reading_same n m h =
      let r = rows_same n m h in
      let c : k.counter n.known n.name ≡ greatest m.known m.name = laws.counter n.known m.known h.state n.name ∙ ap (greatest m.known) h.name in
      λ i. record { me = h.name i; rows = r i; counter = c i }

  wanted_same : (s : Weigher) (n : Node K) (m : Node Ops) → n.name ≡ m.name → view.stands n.known m.known → wanted k s n ≡ wanted by_operations s m
  wanted_same s n m name state = let r = laws.rows n.known m.known state in λ i. wanted_at s (name i) (r i)

  -- wanted children are looked at alike
  after_stands : (u v : Supervisor) (ws vs : List Wanted) → SupervisorStands view u v → ws ≡ vs → SupervisorStands view (wanted_after u ws) (wanted_after v vs)
  after_stands u v ws vs h e = record {
    boot = h.boot;
    given = λ i. h.given i + length (newly (h.kept i) (e i));
    kept = λ i. kept_after (h.boot i) (h.given i) (h.kept i) (e i);
    window = h.window;
  }

  effects_alike : (u v : Supervisor) (ws vs : List Wanted) → SupervisorStands view u v → ws ≡ vs → wanted_effects u ws ≡ wanted_effects v vs
  effects_alike u v ws vs h e = λ i. effects_of (h.boot i) (h.given i) (h.kept i) (e i)

  left_stands : (u v : Supervisor) (leaving : Leaving) → SupervisorStands view u v → SupervisorStands view (left u leaving) (left v leaving)
  left_stands u v Nobody h = record { boot = h.boot; given = h.given; kept = h.kept; window = h.window }
  left_stands u v (finished id) h = record { boot = h.boot; given = h.given; kept = λ i. others (h.kept i) id; window = h.window }
  left_stands u v (gave_up id) h = record { boot = h.boot; given = h.given; kept = refl; window = laws.forgets u.window v.window h.window }

  pub reconciled_stands : (s : Weigher) (n : Node K) (m : Node Ops) → NodeStands view n m → NodeStands view (reconciled k s n) (reconciled by_operations s m)
  reconciled_stands s n m h = record {
    name = h.name;
    up = h.up;
    count = h.count;
    state = h.state;
    newest = h.newest;
    supervisor = after_stands n.supervisor m.supervisor (wanted k s n) (wanted by_operations s m) h.supervisor (wanted_same s n m h.name h.state);
  }

  pub changes_same : (s : Weigher) (n : Node K) (m : Node Ops) → NodeStands view n m → changes k s n ≡ changes by_operations s m
  changes_same s n m h = effects_alike n.supervisor m.supervisor (wanted k s n) (wanted by_operations s m) h.supervisor (wanted_same s n m h.name h.state)

  issues_stand : (s : Weigher) (n : Node K) (m : Node Ops) (reply : Reply) (leaving : Leaving) (op : Operation) → NodeStands view n m → NoClash m.known → Issued (reading by_operations m) op
      → OutcomeStands view (issues k s n reply leaving (k.of_one op)) (issues by_operations s m reply leaving (op ∷ []))
  issues_stand s n m reply leaving op h clear i =
      let one = laws.one op i.own in
      let state = more_stands n.known (k.of_one op) m.known (op ∷ []) h.state one (own_clash m op clear i) in
      let n' = with_own k n (k.of_one op) in
      let m' = with_own by_operations m (op ∷ []) in
      let ws = wanted_same s n' m' h.name state in
      let u = left_stands n.supervisor m.supervisor leaving h.supervisor in
      record {
        reply = refl;
        effects = λ j. last_stops (h.supervisor.kept j) leaving ++ effects_alike (left n.supervisor leaving) (left m.supervisor leaving) (wanted k s n') (wanted by_operations s m') u ws j;
        letter = tt;
        node = record {
          name = h.name;
          up = h.up;
          count = ap (λ c. c + 1) h.count;
          state = state;
          newest = one;
          supervisor = after_stands (left n.supervisor leaving) (left m.supervisor leaving) (wanted k s n') (wanted by_operations s m') u ws;
        };
        saves = refl;
      }

  command_stands : (s : Weigher) (n : Node K) (m : Node Ops) → NodeStands view n m → NoClash m.known → (issued : Result Operation Refusal) (reply : Operation → Reply) → After (Issued (reading by_operations m)) issued
      → DoneTogether (OutcomeStands view) (command k s n issued reply) (command by_operations s m issued reply)
  command_stands s n m h clear (Ok op) reply i = issues_stand s n m (reply op) Nobody op h clear i
  command_stands s n m h clear (Err r) reply i = refl

  -- a command reads the same in both
  read_stands : (s : Weigher) (n : Node K) (m : Node Ops) → NodeStands view n m → NoClash m.known → (issued : CommandReading → Result Operation Refusal) (reply : CommandReading → Operation → Reply)
      → After (Issued (reading by_operations m)) (issued (reading by_operations m))
      → DoneTogether (OutcomeStands view) (command k s n (issued (reading k n)) (reply (reading k n))) (command by_operations s m (issued (reading by_operations m)) (reply (reading by_operations m)))
  read_stands s n m h clear issued reply i =
      subst (λ r. DoneTogether (OutcomeStands view) (command k s n (issued r) (reply r)) (command by_operations s m (issued (reading by_operations m)) (reply (reading by_operations m)))) (sym (reading_same n m h))
      (command_stands s n m h clear (issued (reading by_operations m)) (reply (reading by_operations m)) i)

  exit_stands : (s : Weigher) (n : Node K) (m : Node Ops) → NodeStands view n m → NoClash m.known → (id : Bytes) (now : ℕ) (r : Ruling) → DoneTogether (OutcomeStands view) (exit_step k s n id now r) (exit_step by_operations s m id now r)
  exit_stands s n m h clear id now Stale = refl
  exit_stands s n m h clear id now Again =
      let u = h.supervisor in
      record {
        reply = refl;
        effects = renewed_effects n.supervisor m.supervisor id u.boot u.given u.kept;
        letter = tt;
        saves = refl;
        node = record {
          name = h.name;
          up = h.up;
          count = h.count;
          state = h.state;
          newest = h.newest;
          supervisor = record {
            boot = u.boot;
            given = ap (λ g. g + 1) u.given;
            kept = renewed_kept n.supervisor m.supervisor id u.boot u.given u.kept;
            window = laws.restarts n.supervisor.window m.supervisor.window now u.window;
          };
        };
      }
  exit_stands s n m h clear id now (Finish dot) = issues_stand s n m (Finished dot) (finished id) (finish_child dot) h clear (removing_issued (reading by_operations m) (dot ∷ []))
  exit_stands s n m h clear id now GiveUp =
      let op = drop_member (live m.known) m.name in
      let same : drop_member (k.rows n.known) n.name ≡ op = let r = rows_same n m h in λ i. drop_member (r i) (h.name i) in
      subst (λ (x : Operation). OutcomeStands view (issues k s n (GaveUp x.removes) (gave_up id) (k.of_one x)) (issues by_operations s m (GaveUp op.removes) (gave_up id) (op ∷ []))) (sym same)
      (issues_stand s n m (GaveUp op.removes) (gave_up id) op h clear (removing_issued (reading by_operations m) op.removes))

  push_stands : (n : Node K) (m : Node Ops) → NodeStands view n m → (to : Bytes) (own : Option K) (ops : Option Ops) → BothOrNone view.stands own ops → DoneTogether (OutcomeStands view) (push_step n to own) (push_step m to ops)
  push_stands n m h to None None b = refl
  push_stands n m h to (Some own) (Some ops) b = record { reply = refl; effects = refl; letter = record { to = refl; kind = refl; content = b }; node = h; saves = refl }
  push_stands n m h to None (Some ops) b = absurd b
  push_stands n m h to (Some own) None b = absurd b

  adds_issued : (r : CommandReading) (x : Result Operation Refusal) → After (Adds r) x → After (Issued r) x
  adds_issued r (Ok op) a = a.issued
  adds_issued r (Err e) a = tt

  event_stands : (s : Weigher) (n : Node K) (m : Node Ops) → NodeStands view n m → NoClash m.known → (e : Event) (now : ℕ) → DoneTogether (OutcomeStands view) (up_step k s n e now) (up_step by_operations s m e now)
  event_stands s n m h clear (Join info) now = read_stands s n m h clear (λ r. join r info) (λ r op. Added (next r)) (adds_issued _ _ (join_issued (reading by_operations m) info))
  event_stands s n m h clear (Leave x) now = read_stands s n m h clear (λ r. leave r x) (λ r op. Removed op.removes) (leave_issued (reading by_operations m) x)
  event_stands s n m h clear (Drain x) now = read_stands s n m h clear (λ r. drain r x) (λ r op. Replaced (next r) op.removes) (adds_issued _ _ (drain_issued (reading by_operations m) x (reading_top m)))
  event_stands s n m h clear (Start id spec) now = read_stands s n m h clear (λ r. start r id spec) (λ r op. Added (next r)) (adds_issued _ _ (start_issued (reading by_operations m) id spec))
  event_stands s n m h clear (Replace id spec) now =
      read_stands s n m h clear (λ r. replace r id spec) (λ r op. Replaced (next r) op.removes) (adds_issued _ _ (replace_issued (reading by_operations m) id spec (reading_top m)))
  event_stands s n m h clear (Delete id) now = read_stands s n m h clear (λ r. delete r id) (λ r op. Removed op.removes) (delete_issued (reading by_operations m) id)
  event_stands s n m h clear (Register name id) now = read_stands s n m h clear (λ r. register r name id) (λ r op. Added (next r)) (adds_issued _ _ (register_issued (reading by_operations m) name id))
  event_stands s n m h clear (Unregister name) now = read_stands s n m h clear (λ r. unregister r name) (λ r op. Removed op.removes) (unregister_issued (reading by_operations m) name)
  event_stands s n m h clear (Exit id inc reason) now =
      let r = ruling m.supervisor id inc reason now in
      let same : ruling n.supervisor id inc reason now ≡ r = ruling_alike n.supervisor m.supervisor id inc reason now h.supervisor.kept (laws.decides n.supervisor.window m.supervisor.window now h.supervisor.window) in
      subst (λ (x : Ruling). DoneTogether (OutcomeStands view) (exit_step k s n id now x) (exit_step by_operations s m id now r)) (sym same)
      (exit_stands s n m h clear id now r)
  event_stands s n m h clear (Ship to) now =
      let sent : Result (ActOutcome K) Refusal = Ok (only n Sent [] (Some (record { to = to; kind = delta; content = n.known }))) in
      let also : Result (ActOutcome Ops) Refusal = Ok (only m Sent [] (Some (record { to = to; kind = delta; content = m.known }))) in
      both-refused_if (OutcomeStands view) (is_named to n.name) (is_named to m.name) UnknownNode sent also (ap (is_named to) h.name)
      (record { reply = refl; effects = refl; letter = record { to = refl; kind = refl; content = h.state }; node = h; saves = refl })
  event_stands s n m h clear (Push to) now =
      both-refused_if (OutcomeStands view) (is_named to n.name) (is_named to m.name) UnknownNode (push_step n to n.newest) (push_step m to m.newest) (ap (is_named to) h.name)
      (push_stands n m h to n.newest m.newest h.newest)
  event_stands s n m h clear (Deliver bytes) now = refl

  pub act_stands : (s : Weigher) (n : Node K) (m : Node Ops) → NodeStands view n m → NoClash m.known → (a : Act) (now : ℕ) → DoneTogether (OutcomeStands view) (act_step k s n a now) (act_step by_operations s m a now)
  act_stands s n m h clear (Of e) now = both-refused_if (OutcomeStands view) (not n.up) (not m.up) Down (up_step k s n e now) (up_step by_operations s m e now) (ap not h.up) (event_stands s n m h clear e now)
  act_stands s n m h clear Stop now =
      let ok : Result (ActOutcome K) Refusal = Ok (only (stopped n) Stopped [] None) in
      let also : Result (ActOutcome Ops) Refusal = Ok (only (stopped m) Stopped [] None) in
      both-refused_if (OutcomeStands view) (not n.up) (not m.up) Down ok also (ap not h.up)
      (record {
        reply = refl;
        effects = refl;
        letter = tt;
        saves = refl;
        node = record {
          name = h.name;
          up = refl;
          count = h.count;
          state = h.state;
          newest = tt;
          supervisor = record { boot = h.supervisor.boot; given = h.supervisor.given; kept = refl; window = laws.forgets n.supervisor.window m.supervisor.window h.supervisor.window };
        };
      })
  act_stands s n m h clear Restart now =
      let n' = booted n in
      let m' = booted m in
      let after : NodeStands view n' m' = record {
        name = h.name;
        up = refl;
        count = h.count;
        state = h.state;
        newest = tt;
        supervisor = record { boot = ap (λ b. b + 1) h.supervisor.boot; given = refl; kept = refl; window = laws.forgets n.supervisor.window m.supervisor.window h.supervisor.window };
      } in
      let ok : Result (ActOutcome K) Refusal = Ok (keeps k s n' (Boot (n.supervisor.boot + 1)) None) in
      let also : Result (ActOutcome Ops) Refusal = Ok (keeps by_operations s m' (Boot (m.supervisor.boot + 1)) None) in
      both-refused_if (OutcomeStands view) n.up m.up AlreadyUp ok also h.up
      (record {
        reply = λ i. Boot (h.supervisor.boot i + 1);
        effects = changes_same s n' m' after;
        letter = tt;
        node = reconciled_stands s n' m' after;
        saves = refl;
      })

  passes_same : (n : Node K) (m : Node Ops) → NodeStands view n m → passes_greatest n ≡ passes_greatest m
  passes_same n m h = λ i. nat_lt MAX (h.count i) || (nat_lt MAX (h.supervisor.given i) || nat_lt MAX (h.supervisor.boot i))

  -- the last checks are the same
  pub kept_stands : (saves : Bool) (x : Result (ActOutcome K) Refusal) (y : Result (ActOutcome Ops) Refusal) → DoneTogether (OutcomeStands view) x y → DoneTogether (OutcomeStands view) (kept_by saves x) (kept_by saves y)
  kept_stands saves x y h =
      both-then_do (OutcomeStands view) (OutcomeStands view) x y _ _ h (λ o p r.
      let ok : Result (ActOutcome K) Refusal = Ok o in
      let also : Result (ActOutcome Ops) Refusal = Ok p in
      both-refused_if (OutcomeStands view) (passes_greatest o.node) (passes_greatest p.node) CountSpent (refused_if (o.saves && not saves) KeepFailed ok) (refused_if (p.saves && not saves) KeepFailed also)
      (passes_same o.node p.node r.node)
      (both-refused_if (OutcomeStands view) (o.saves && not saves) (p.saves && not saves) KeepFailed ok also (ap (λ b. b && not saves) r.saves) r))
