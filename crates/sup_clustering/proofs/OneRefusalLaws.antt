-- Histories that make no run either are stuck or differ, and at each node in one place at most.
use Rattle.std.specs.Prelude.{◌≡◌, ◌≤◌, ◌<◌, ◌+◌, ℕ, true, false, cond, ◌||◌, List, [], ◌∷◌, ◌++◌, length, take, slice_get, slice_index, Some, None, refl}
use Prim.Native.Nat.{zero, suc}
use Rattle.std.specs.List.{AllZip, AllByRecursion, list_any}
use Rattle.std.proofs.Common.{sym, ap, ◌∙◌, subst, arith}
use Rattle.std.proofs.lemmas.List.{length-take-le, append-nil, append_assoc, append_cancel_left}
use Rattle.std.proofs.lemmas.List.Elements.{recursion_from_All}
use Rattle.std.proofs.lemmas.Option.{none-some, same_Some}
use mathlib.Core.Bool.{true≢false}
use mathlib.Core.Logic.{◌⊎◌, inl, inr}
use Rattle.sup_specs.specs.Values.{Bytes}
use Rattle.sup_tables.specs.States.{State}
use Rattle.sup_placement.specs.Place.{Weigher}
use Rattle.sup_replica.specs.declared.event.Event.TheVariants.{Deliver as Brings}
use Rattle.sup_replica.specs.declared.event.Act.TheVariants.{Event as Of}
use Rattle.sup_replica.specs.Configs.{Config}
use Rattle.sup_replica.specs.Nodes.{is_named}
use Rattle.sup_keeper.specs.Keeping.{most}
use Rattle.sup_node.specs.Texts.{IsReadAs}
use Rattle.sup_node.proofs.PlanLaws.{named_itself, named_same}
use Rattle.sup_node_gate.specs.declared.entry.Entry.{Entry}
use Rattle.sup_plan.specs.declared.histories.History.{History}
use Rattle.sup_model.specs.declared.step.Step.{Step}
use Rattle.sup_model.specs.Posts.{StationPost, RealWorld}
use Rattle.sup_model.specs.Follows.{NamesAllDiffer}
use Rattle.sup_world.specs.CarriedSteps.{failures_at}
use Rattle.sup_world.specs.SeenNodes.{SeenNode}
use Rattle.sup_certify.specs.Certified.{IsNewWorld, answer_of}
use Rattle.sup_certify.specs.Faults.{CanJudge, IsAwaiting, IsDifference, IsHalt, MissesEntry, WaitsAt, WaitsAtEntry}
use Rattle.sup_certify.specs.Orders.{PlacedEntry, placed_at, of_node, is_among}
use Rattle.sup_certify.specs.Progress.{IsPlaced, IsWithin, ReachesSites, names_of}
use Rattle.sup_certify.proofs.ActedLaws.{ActedTo, RunDone, RunsTo, IsSentIn, runs_framed, runs_split, node_there, becomes, sent_further, step_acted}
use Rattle.sup_certify.proofs.OrderExchangeLaws.{Begins, Exchange, of_node_both, of_one, of_none}
use Rattle.sup_certify.proofs.ReplayLaws.{IsSaidBy, Replayed, by_itself, same_alone, said_one, replayed_split, replayed_one}
use Rattle.sup_certify.proofs.TextLaws.{text_is_sent}
use Rattle.sup_clustering.proofs.NodeEntryLaws.{HasFronts, IsOfThese, among_names, among_there, few_in, fronts_placed, own, own_there, placed_there}
use Rattle.sup_clustering.proofs.SameRunLaws.{framed_new, new_real, run_from}

-- ---- lists
module _ {X : Type 0} where
  split_at : (xs : List X) (n : ℕ) (x : X) → slice_get xs n ≡ Some x → (rest : List X) × (xs ≡ take n xs ++ x ∷ rest)
  split_at [] n x e = absurd (none-some x e)
  split_at (y ∷ ys) zero x e = (ys, ap (λ z. z ∷ ys) (same_Some y x e))
  split_at (y ∷ ys) (suc n) x e = let rest = split_at ys n x e in (rest.0, ap (λ zs. y ∷ zs) rest.1)

  inside : (xs : List X) (n : ℕ) (x : X) → slice_get xs n ≡ Some x → n ≤ length xs
  inside [] n x e = absurd (none-some x e)
  inside (y ∷ ys) zero x e = omega arith
  inside (y ∷ ys) (suc n) x e = let le = inside ys n x e in omega (arith, le)

  -- the element behind a front
  next_in : (xs : List X) (n : ℕ) (x : X) (rest : List X) → n ≤ length xs → xs ≡ take n xs ++ x ∷ rest → slice_get xs n ≡ Some x
  next_in [] zero x rest le e = cc
  next_in [] (suc n) x rest le e = absurd (omega (arith, le))
  next_in (y ∷ ys) zero x rest le e = let same : y ≡ x = cc in ap Some same
  next_in (y ∷ ys) (suc n) x rest le e = let same : ys ≡ take n ys ++ x ∷ rest = cc in next_in ys n x rest (omega (arith, le)) same

  -- two fronts of one list, each with what comes next
  meet : (front other : List X) (x y : X) (rest more : List X) → front ++ x ∷ rest ≡ other ++ y ∷ more → (front ≡ other) ⊎ (((far : List X) × (other ≡ front ++ x ∷ far)) ⊎ ((far : List X) × (front ≡ other ++ y ∷ far)))
  meet [] [] x y rest more e = inl refl
  meet [] (b ∷ other) x y rest more e = let same : b ≡ x = cc in inr (inl (other, ap (λ z. z ∷ other) same))
  meet (a ∷ front) [] x y rest more e = let same : a ≡ y = cc in inr (inr (front, ap (λ z. z ∷ front) same))
  meet (a ∷ front) (b ∷ other) x y rest more e =
      let same : b ≡ a = cc in
      let tails : front ++ x ∷ rest ≡ other ++ y ∷ more = cc in
      elim (meet front other x y rest more tails) [
        | inl h ↦ inl (λ i. sym same i ∷ h i)
        | inr s ↦ elim s [
          | inl h ↦ inr (inl (h.0, λ i. same i ∷ h.1 i))
          | inr h ↦ inr (inr (h.0, λ i. sym same i ∷ h.1 i))
        ]
      ]

-- where the next entry of each node waits, that of this one does
next_waits : (order : List PlacedEntry) (sites : List SeenNode) (hs : List History) (ns : List ℕ) → AllZip (IsPlaced order) hs ns → AllZip IsWithin hs ns → AllZip (WaitsAtEntry sites) hs ns → (name : Bytes) (e : Entry) (rest : List Entry) → is_among hs name ≡ true
    → own hs name ≡ of_node name order ++ e ∷ rest → IsAwaiting sites e
next_waits order sites [] ns z within waits name e rest is there = absurd (true≢false (sym is))
next_waits order sites (h ∷ hs) [] z within waits name e rest is there = absurd z
next_waits order sites (h ∷ hs) (n ∷ ns) z within waits name e rest is there =
    elim (is_named name h.node) as (λ t. is_named name h.node ≡ t → (t || is_among hs name) ≡ true → cond t h.entries.items (own hs name) ≡ of_node name order ++ e ∷ rest → IsAwaiting sites e) [
      | true ↦ λ t f all.
          let first : of_node name order ≡ take n h.entries.items = ap (λ m. of_node m order) (named_same name h.node t) ∙ z.0 in
          let parts : h.entries.items ≡ take n h.entries.items ++ e ∷ rest = all ∙ ap (λ es. es ++ e ∷ rest) first in
          subst (WaitsAt sites) (next_in h.entries.items n e rest within.0 parts) waits.0
      | false ↦ λ t f all. next_waits order sites hs ns z.1 within.1 waits.1 name e rest f all
    ] refl is there

-- ---- two orders of first entries
begins_more : (order before : List PlacedEntry) (p : PlacedEntry) (fs : List Entry) → Begins before order → of_node p.node order ≡ of_node p.node before ++ p.entry ∷ fs → Begins (before ++ p ∷ []) order
begins_more order before p fs begins is name =
    elim (is_named name p.node) as (λ b. is_named name p.node ≡ b → (rest : List Entry) × (of_node name order ≡ of_node name (before ++ p ∷ []) ++ rest)) [
      | true ↦ λ e.
          let here : of_node name (before ++ p ∷ []) ≡ of_node name before ++ p.entry ∷ [] = of_node_both name before (p ∷ []) ∙ ap (λ es. of_node name before ++ es) (of_one name p e) in
          let there : of_node name order ≡ of_node name before ++ p.entry ∷ fs = subst (λ (n : Bytes). of_node n order ≡ of_node n before ++ p.entry ∷ fs) (sym (named_same name p.node e)) is in
          (fs, there ∙ sym (append_assoc (of_node name before) (p.entry ∷ []) fs) ∙ ap (λ es. es ++ fs) (sym here))
      | false ↦ λ e.
          let none : of_node name (before ++ p ∷ []) ≡ of_node name before = of_node_both name before (p ∷ []) ∙ ap (λ es. of_node name before ++ es) (of_none name p e) ∙ append-nil (of_node name before) in
          ((begins name).0, (begins name).1 ∙ ap (λ es. es ++ (begins name).0) (sym none))
    ] refl

-- the entries of a node where one of them comes next
parts_at : (before behind : List PlacedEntry) (p : PlacedEntry) → of_node p.node (before ++ p ∷ behind) ≡ of_node p.node before ++ p.entry ∷ of_node p.node behind
parts_at before behind p =
    of_node_both p.node before (p ∷ behind)
    ∙ ap (λ es. of_node p.node before ++ es) (of_node_both p.node (p ∷ []) behind ∙ ap (λ es. es ++ of_node p.node behind) (of_one p.node p (named_itself p.node)))

module _ (all : Bytes → List Entry) (order whole : List PlacedEntry) (one : HasFronts all order) (two : HasFronts all whole) where
  -- what comes next in both is the same
  next_same : (before behind : List PlacedEntry) (p : PlacedEntry) (f : Entry) (fs : List Entry) → whole ≡ before ++ p ∷ behind → of_node p.node order ≡ of_node p.node before ++ f ∷ fs → f ≡ p.entry
  next_same before behind p f fs parts is =
      let b = of_node p.node before in
      let here : all p.node ≡ b ++ f ∷ (fs ++ (one p.node).0) = (one p.node).1 ∙ ap (λ es. es ++ (one p.node).0) is ∙ append_assoc b (f ∷ fs) (one p.node).0 in
      let there : all p.node ≡ b ++ p.entry ∷ (of_node p.node behind ++ (two p.node).0) =
      (two p.node).1 ∙ ap (λ es. es ++ (two p.node).0) (ap (of_node p.node) parts ∙ parts_at before behind p) ∙ append_assoc b (p.entry ∷ of_node p.node behind) (two p.node).0 in
      let tails : f ∷ (fs ++ (one p.node).0) ≡ p.entry ∷ (of_node p.node behind ++ (two p.node).0) = append_cancel_left b (f ∷ (fs ++ (one p.node).0)) (p.entry ∷ (of_node p.node behind ++ (two p.node).0)) (sym here ∙ there) in
      cc

  -- the other one has nothing more, or an entry where the first one stands
  walk : (before rest : List PlacedEntry) → whole ≡ before ++ rest → Begins before order → Exchange order whole ⊎ Begins whole order
  walk before [] parts begun = inr (subst (λ (o : List PlacedEntry). Begins o order) (sym (parts ∙ append-nil before)) begun)
  walk before (p ∷ rest) parts begun = at (begun p.node).0 (begun p.node).1 (walk (before ++ p ∷ []) rest (parts ∙ sym (append_assoc before (p ∷ []) rest)))
    where
      at : (fs : List Entry) → of_node p.node order ≡ of_node p.node before ++ fs → (Begins (before ++ p ∷ []) order → Exchange order whole ⊎ Begins whole order) → Exchange order whole ⊎ Begins whole order
      at [] is on = inl (record { before = before; next = p; behind = rest; parts = parts; begins = begun; here = is ∙ append-nil (of_node p.node before) })
      at (f ∷ fs) is on =
          let same : f ≡ p.entry = next_same before rest p f fs parts is in
          on (begins_more order before p fs begun (subst (λ (x : Entry). of_node p.node order ≡ of_node p.node before ++ x ∷ fs) same is))

-- ---- two replays
among_in : (hs : List History) (before behind : List PlacedEntry) (p : PlacedEntry) → AllByRecursion (IsOfThese hs) (before ++ p ∷ behind) → is_among hs p.node ≡ true
among_in hs [] behind p h = h.0
among_in hs (q ∷ before) behind p h = among_in hs before behind p h.1

module _ (g : Weigher) (config : Config) (names : List Bytes) (hs : List History) (can : CanJudge names hs) where
  abbrev begin : RealWorld State
  begin = new_real g config names

  named_of : (name : Bytes) → is_among hs name ≡ true → list_any (is_named name) names ≡ true
  named_of name e = ap (list_any (is_named name)) (sym can.are_of) ∙ among_names hs name ∙ e

  apart : NamesAllDiffer (names_of hs)
  apart = subst NamesAllDiffer (sym can.are_of) can.named.apart

  -- an order of first entries that is a run
  pub record Replay (placed : List ℕ) (sites : List SeenNode) : Type 0 where
    pub order : List PlacedEntry
    pub each : AllZip (IsPlaced order) hs placed
    pub only : AllByRecursion (IsOfThese hs) order
    pub fronts : HasFronts (own hs) order
    pub done : RunDone g names begin [] order sites

  replay_of : (start : List SeenNode) → IsNewWorld g config names start → (placed : List ℕ) (steps : List Step) (sites : List SeenNode) → ReachesSites g start hs placed steps sites → Replay placed sites
  replay_of start is_new placed steps sites r =
      let only = recursion_from_All (IsOfThese hs) r.order r.no_other in
      let fronts = fronts_placed r.order hs placed r.each only in
      record { order = r.order; each = r.each; only = only; fronts = fronts; done = run_from g config names hs can start is_new r.order steps sites fronts only r.is_run }

  -- ---- an entry that the world answers otherwise
  pub record DiffersAt (node : Bytes) (place : ℕ) : Type 0 where
    pub placed : List ℕ
    pub sites : List SeenNode
    pub replay : Replay placed sites
    pub entry : Entry
    pub rest : List Entry
    pub among : is_among hs node ≡ true
    pub here : own hs node ≡ of_node node replay.order ++ entry ∷ rest
    pub counted : place ≡ length (of_node node replay.order) + 1
    pub misses : MissesEntry g sites (placed_at node entry)

  differs_at : (start : List SeenNode) → IsNewWorld g config names start → (node : Bytes) (place : ℕ) → IsDifference g start hs node place → DiffersAt node place
  differs_at start is_new node place d =
      let n = slice_index d.placed d.at in
      let replay = replay_of start is_new d.placed d.steps d.sites d.reaches in
      let parts = split_at d.history.entries.items n d.entry d.is_entry in
      let front : of_node node replay.order ≡ take n d.history.entries.items =
      subst (λ (m : Bytes). of_node m replay.order ≡ take n d.history.entries.items) (sym d.named) (placed_there replay.order hs d.placed d.at d.history replay.each d.is_history) in
      let all : own hs node ≡ d.history.entries.items = ap (own hs) d.named ∙ own_there hs d.at d.history apart d.is_history in
      let count : length (of_node node replay.order) ≡ n = ap length front ∙ length-take-le n d.history.entries.items (inside d.history.entries.items n d.entry d.is_entry) in
      record {
        placed = d.placed;
        sites = d.sites;
        replay = replay;
        entry = d.entry;
        rest = parts.0;
        among = ap (is_among hs) d.named ∙ among_there hs d.at d.history d.is_history;
        here = all ∙ parts.1 ∙ ap (λ es. es ++ d.entry ∷ parts.0) (sym front);
        counted = d.next ∙ ap (λ m. m + 1) (sym count);
        misses = d.misses;
      }

  module _ (node : Bytes) (place : ℕ) (d : DiffersAt node place) where
    missed : ActedTo g names d.replay.done.world (placed_at node d.entry) (answer_of d.misses.answer) d.misses.after
    missed =
        let few = few_in hs d.replay.order d.replay.fronts node in
        let failed = d.replay.done.failed node in
        let can_fail : failures_at d.sites node < most = omega (arith, few, failed) in
        step_acted g names d.replay.done.world (runs_framed g names begin d.replay.order d.replay.done.world (framed_new g config names) d.replay.done.runs) d.sites d.misses.after d.replay.done.shows (placed_at node d.entry) d.misses.step d.misses.answer d.misses.is_step
        d.misses.goes d.misses.had_room can_fail (named_of node d.among)

    -- it stands in no run, answered as it says
    missed_nowhere : (placed : List ℕ) (sites : List SeenNode) (o : Replay placed sites) (rest : List Entry) → of_node node o.order ≡ of_node node d.replay.order ++ d.entry ∷ rest → ⊥
    missed_nowhere placed sites o rest entries =
        let begun = node_there g names begin node (framed_new g config names) (named_of node d.among) in
        let ended = becomes g names begin o.order o.done.world o.done.runs node begun.0 begun.1 in
        let halves = replayed_split g names begun.0 ended.0 (of_node node d.replay.order) (d.entry ∷ rest) (subst (λ (es : List Entry). Replayed g names begun.0 es ended.0) entries ended.2) in
        let here = becomes g names begin d.replay.order d.replay.done.world d.replay.done.runs node begun.0 begun.1 in
        let to = missed.acted in
        let same : halves.0 ≡ to.post = replayed_one g names begun.0 halves.0 here.0 (of_node node d.replay.order) halves.1 here.2 ∙ same_Some here.0 to.post (sym here.1 ∙ to.there) in
        let said = subst (λ (q : StationPost State). IsSaidBy (by_itself g names q.station d.entry halves.2.0) d.entry.answer) same halves.2.2 in
        let told = subst (λ x. IsSaidBy x (answer_of d.misses.answer)) (same_alone g names to.post.station d.entry to.read halves.2.0 to.is_read halves.2.1) to.said in
        d.misses.differs (said_one (by_itself g names to.post.station d.entry halves.2.0) (answer_of d.misses.answer) d.entry.answer told said)

  -- a node differs in one place
  differ_once : (node : Bytes) (place other : ℕ) → DiffersAt node place → DiffersAt node other → other ≡ place
  differ_once node place other d f =
      elim (meet (of_node node d.replay.order) (of_node node f.replay.order) d.entry f.entry d.rest f.rest (sym d.here ∙ f.here)) [
        | inl same ↦ f.counted ∙ ap (λ es. length es + 1) (sym same) ∙ sym d.counted
        | inr apart ↦ elim apart [
          | inl far ↦ absurd (missed_nowhere node place d f.placed f.sites f.replay far.0 far.1)
          | inr far ↦ absurd (missed_nowhere node other f d.placed d.sites d.replay far.0 far.1)
        ]
      ]

  -- ---- a replay that is stuck
  pub record IsStuck : Type 0 where
    pub placed : List ℕ
    pub sites : List SeenNode
    pub replay : Replay placed sites
    pub within : AllZip IsWithin hs placed
    pub each : AllZip (WaitsAtEntry sites) hs placed

  stuck_at : (start : List SeenNode) → IsNewWorld g config names start → IsHalt g start hs → IsStuck
  stuck_at start is_new h = record { placed = h.placed; sites = h.sites; replay = replay_of start is_new h.placed h.steps h.sites h.reaches; within = h.within; each = h.each }

  module _ (s : IsStuck) where
    -- no entry waits that brings what was sent before
    not_next : (name : Bytes) (e : Entry) (rest : List Entry) → is_among hs name ≡ true → own hs name ≡ of_node name s.replay.order ++ e ∷ rest → ((text : Bytes) → e.act ≡ Of (Brings text) → IsReadAs text None ⊎ IsSentIn s.replay.done.world text) → ⊥
    not_next name e rest among next came =
        let waits : IsAwaiting s.sites e = next_waits s.replay.order s.sites hs s.placed s.replay.each s.within s.each name e rest among next in
        elim (came waits.text waits.brings) [
          | inl none ↦ none waits.is_message.1.0 waits.is_message.1.1 waits.is_message.1.2
          | inr sent ↦ waits.unsent sent.0 sent.1 (text_is_sent g s.sites s.replay.done.world s.replay.done.shows sent.0 sent.1 waits.text sent.2 sent.3 sent.4)
        ]

    -- what was sent in a run of less was sent in it
    sent_too : (less : List PlacedEntry) (v : RealWorld State) → RunsTo g names begin less v → Begins less s.replay.order → (text : Bytes) → IsReadAs text None ⊎ IsSentIn v text → IsReadAs text None ⊎ IsSentIn s.replay.done.world text
    sent_too less v runs begins text (inl none) = inl none
    sent_too less v runs begins text (inr sent) =
        inr (sent.0, sent.1, sent.2, sent_further g names begin (framed_new g config names) less s.replay.order v s.replay.done.world runs s.replay.done.runs begins sent.0 sent.1 sent.2 sent.3, sent.4)

    module _ (placed : List ℕ) (sites : List SeenNode) (o : Replay placed sites) where
      not_behind : Exchange s.replay.order o.order → ⊥
      not_behind x =
          let p = x.next in
          let among : is_among hs p.node ≡ true = among_in hs x.before x.behind p (subst (AllByRecursion (IsOfThese hs)) x.parts o.only) in
          let rest = of_node p.node x.behind ++ (o.fronts p.node).0 in
          let next : own hs p.node ≡ of_node p.node s.replay.order ++ p.entry ∷ rest =
          (o.fronts p.node).1 ∙ ap (λ es. es ++ (o.fronts p.node).0) (ap (of_node p.node) x.parts ∙ parts_at x.before x.behind p)
          ∙ append_assoc (of_node p.node x.before) (p.entry ∷ of_node p.node x.behind) (o.fronts p.node).0 ∙ ap (λ es. es ++ p.entry ∷ rest) (sym x.here) in
          let halves = runs_split g names begin x.before (p ∷ x.behind) o.done.world (subst (λ (q : List PlacedEntry). RunsTo g names begin q o.done.world) x.parts o.done.runs) in
          not_next p.node p.entry rest among next (λ text e. sent_too x.before halves.0 halves.1 x.begins text (halves.2.1.came text e))

      -- it has all that another run has
      has_all : Begins o.order s.replay.order
      has_all =
          elim (walk (own hs) s.replay.order o.order s.replay.fronts o.fronts [] o.order refl (λ name. (of_node name s.replay.order, refl))) [
            | inl x ↦ absurd (not_behind x)
            | inr h ↦ h
          ]

    -- nothing differs then
    none_differs : (node : Bytes) (place : ℕ) → DiffersAt node place → ⊥
    none_differs node place d = at (begins node).0 (begins node).1
      where
        begins : Begins d.replay.order s.replay.order
        begins = has_all d.placed d.sites d.replay

        at : (more : List Entry) → of_node node s.replay.order ≡ of_node node d.replay.order ++ more → ⊥
        at [] is =
            let next : own hs node ≡ of_node node s.replay.order ++ d.entry ∷ d.rest = d.here ∙ ap (λ es. es ++ d.entry ∷ d.rest) (sym (is ∙ append-nil (of_node node d.replay.order))) in
            not_next node d.entry d.rest d.among next (λ text e. sent_too d.replay.order d.replay.done.world d.replay.done.runs begins text ((missed node place d).acted.came text e))
        at (f ∷ more) is =
            let b = of_node node d.replay.order in
            let fronts = s.replay.fronts node in
            let there : own hs node ≡ b ++ f ∷ (more ++ fronts.0) = fronts.1 ∙ ap (λ es. es ++ fronts.0) is ∙ append_assoc b (f ∷ more) fronts.0 in
            let tails : f ∷ (more ++ fronts.0) ≡ d.entry ∷ d.rest = append_cancel_left b (f ∷ (more ++ fronts.0)) (d.entry ∷ d.rest) (sym there ∙ d.here) in
            let same : f ≡ d.entry = cc in
            missed_nowhere node place d s.placed s.sites s.replay more (subst (λ (x : Entry). of_node node s.replay.order ≡ b ++ x ∷ more) same is)

  -- ---- the two refusals
  pub stuck_or_differs : (start other : List SeenNode) → IsNewWorld g config names start → IsNewWorld g config names other → (node : Bytes) (place : ℕ) → IsHalt g start hs → IsDifference g other hs node place → ⊥
  stuck_or_differs start other is_new also_new node place h d = none_differs (stuck_at start is_new h) node place (differs_at other also_new node place d)

  pub one_place : (start other : List SeenNode) → IsNewWorld g config names start → IsNewWorld g config names other → (node : Bytes) (place more : ℕ) → IsDifference g start hs node place → IsDifference g other hs node more → more ≡ place
  one_place start other is_new also_new node place more d f = differ_once node place more (differs_at start is_new node place d) (differs_at other also_new node more f)
