-- Exchanges as lists of steps, one after another.
use Rattle.std.specs.Prelude.{◌≡◌, ◌≢◌, ℕ, ◌+◌, ◌<◌, Bool, true, false, cond, is_some, IsSorted, IsPermutation, List, [], ◌∷◌, ◌++◌, length, filter, map, take, drop, Option, Some, None, Result, Ok, Err, IfOk, IfErr, OnOk, IsErrAnd, slice_index_or, refl}
use Rattle.std.proofs.Common.{sym, ap, ◌∙◌, subst, append_assoc, arith}
use Rattle.std.proofs.lemmas.List.{take_more, map-append, take-append-drop, length-append, append-nil}
use Rattle.std.proofs.lemmas.List.Elements.{filter-append}
use Rattle.std.proofs.lemmas.List.Concat.{flat_map-cons}
use Rattle.std.proofs.lemmas.Grind.{flat_map-append}
use Rattle.std.proofs.lemmas.Option.{none-some}
use mathlib.Core.Logic.{inl, inr}
use Rattle.sup_specs.specs.Values.{Bytes, text_cmp}
use Rattle.sup_placement.specs.Place.{Weigher}
use Rattle.sup_local_sup.specs.declared.effect.Effect.{Effect}
use Rattle.sup_replica.specs.declared.refusal.Refusal.{Refusal}
use Rattle.sup_replica.specs.declared.refusal.Refusal.TheVariants.{OutOfMemory, UpToDate}
use Rattle.sup_model.specs.declared.step.Step.{Step}
use Rattle.sup_world.specs.declared.answer.Answer.{Answer}
use Rattle.sup_world.specs.declared.settled.Settled.{Settled}
use Rattle.sup_world.specs.declared.tally.Tally.{Tally}
use Rattle.sup_world.specs.Pairs.{ship_of, arrival}
use Rattle.sup_world.specs.Exchanges.{ends, running}
use Rattle.sup_world.specs.declared.settling.Way.TheVariants.{In, Out}
use Rattle.sup_world.specs.Runs.{StepGoes, RanSteps}
use Rattle.sup_world.specs.SeenNodes.{SeenNode}
use Rattle.sup_world.specs.Settlements.{Answered, sends, messages_in, effects_with, effects_in, IsToldOn, IsBrought, IsExchange, AreExchanges, StepEnds, EndsIn, EndsAmong, NotesAll, IsNotedAs, IsShipNotedAs, MakesOne, ShipsOne, PairsCome, MakesPairs, IsToldBy, SettlesBy}
use Rattle.sup_world.specs.Tallies.{numbers_with, effects_by}
use Rattle.sup_world.proofs.ExchangeListLaws.{done, refused}
use Rattle.sup_world.proofs.ReachedWorldLaws.{leads_on}
use Rattle.sup_world.proofs.SettlementLaws.{IsBegun}

-- what was noted
messages_append : (xs ys : List Answered) → messages_in (xs ++ ys) ≡ messages_in xs + messages_in ys
messages_append xs ys = ap length (filter-append sends xs ys) ∙ length-append (filter sends xs) (filter sends ys)

pub notes_none : (t : Tally) → NotesAll [] t t
notes_none t = record { messages = omega arith; effects = sym (append-nil t.effects.items) }

-- a refusal leaves nothing to note
pub notes_passed : (old new : Tally) (q : Refusal) → new ≡ old → NotesAll (Err q ∷ []) old new
notes_passed old new q e =
    subst (λ (t : Tally). NotesAll (Err q ∷ []) old t) (sym e) (record { messages = omega arith; effects = sym (append-nil old.effects.items) ∙ ap (λ (es : List (Bytes × Effect)). old.effects.items ++ es) (sym (flat_map-cons effects_with (Err q) [])) })

counted : (a : Answer) (b : Bool) → is_some a.number ≡ b → messages_in (Ok a ∷ []) ≡ cond b 1 0
counted a true h = ap (λ b. length (cond b (let xs : List Answered = Ok a ∷ [] in xs) [])) h
counted a false h = ap (λ b. length (cond b (let xs : List Answered = Ok a ∷ [] in xs) [])) h

numbered_more : (sent : List ℕ) (number : Option ℕ) → length (numbers_with sent number) ≡ length sent + cond (is_some number) 1 0
numbered_more sent None = omega arith
numbered_more sent (Some k) = length-append sent (k ∷ [])

pub notes_one : (a : Answer) (old new : Tally) → new.sent.items ≡ numbers_with old.sent.items a.number → new.effects.items ≡ old.effects.items ++ effects_by a.at a.done.effects → NotesAll (Ok a ∷ []) old new
notes_one a old new sent effects = record {
  messages = ap length sent ∙ numbered_more old.sent.items a.number ∙ ap (λ n. length old.sent.items + n) (sym (counted a (is_some a.number) refl));
  effects = effects ∙ ap (λ (es : List (Bytes × Effect)). old.effects.items ++ es) (sym (flat_map-cons effects_with (Ok a) [] ∙ append-nil (effects_by a.at a.done.effects)));
}

pub notes_then : (xs ys : List Answered) (t u v : Tally) → NotesAll xs t u → NotesAll ys u v → NotesAll (xs ++ ys) t v
notes_then xs ys t u v h g = record {
  messages = omega (arith, h.messages, g.messages, messages_append xs ys);
  effects = g.effects ∙ ap (λ (es : List (Bytes × Effect)). es ++ effects_in ys) h.effects
      ∙ append_assoc t.effects.items (effects_in xs) (effects_in ys)
      ∙ ap (λ (es : List (Bytes × Effect)). t.effects.items ++ es) (sym (flat_map-append effects_with xs ys));
}

-- a step, noted
pub taken_as : (a : Answer) (old new : Tally) (result : Result (Option ℕ) Refusal) → IfOk result (λ number. number ≡ a.number) → OnOk result (new.sent.items ≡ numbers_with old.sent.items a.number)
    → OnOk result (new.effects.items ≡ old.effects.items ++ effects_by a.at a.done.effects) → IfErr result (λ r. r ≡ OutOfMemory) → IsNotedAs (Ok a) old result new
taken_as a old new (Ok number) n s f r = (n, notes_one a old new s f)
taken_as a old new (Err q) n s f r = r

pub refused_as : (q : Refusal) (t : Tally) (result : Result (Option ℕ) Refusal) → IsErrAnd result (λ p. p ≡ q) → IsNotedAs (Err q) t result t
refused_as q t (Ok number) f = absurd f
refused_as q t (Err r) f = (f, refl)

-- a ship, noted
pub ship_numbered_as : (answer : Answered) (old new : Tally) (number : Option ℕ) → IsNotedAs answer old (Ok number) new → IsShipNotedAs answer old (Ok number) new
ship_numbered_as (Ok a) old new number h = h
ship_numbered_as (Err q) old new number h = absurd h

memory_is_not : OutOfMemory ≡ UpToDate → ⊥
memory_is_not e = cc

pub ship_refused_as : (answer : Answered) (old new : Tally) (q : Refusal) (result : Result (Option ℕ) Refusal) → IfOk result (λ number. (number ≡ None) × (q ≡ UpToDate)) → IfErr result (λ r. (r ≡ q) × (r ≢ UpToDate))
    → IsNotedAs answer old (Err q) new → IsShipNotedAs answer old result new
ship_refused_as (Ok a) old new q (Ok number) p r h = absurd (memory_is_not (sym h ∙ p.1))
ship_refused_as (Ok a) old new q (Err x) p r h = r.0 ∙ h
ship_refused_as (Err y) old new q (Ok number) p r h = (sym h.0 ∙ p.1, p.0, h.1)
ship_refused_as (Err y) old new q (Err x) p r h = (r.0 ∙ h.0, r.1)

module _ (g : Weigher) where
  pub ran_then : (sites mid new : List SeenNode) (xs ys : List Step) (rs bs : List Answered) → RanSteps g sites xs rs mid → RanSteps g mid ys bs new → RanSteps g sites (xs ++ ys) (rs ++ bs) new
  ran_then sites mid new [] ys [] bs h k = subst (λ (m : List SeenNode). RanSteps g m ys bs new) h k
  ran_then sites mid new [] ys (a ∷ rs) bs h k = absurd h
  ran_then sites mid new (x ∷ xs) ys [] bs h k = absurd h
  ran_then sites mid new (x ∷ xs) ys (a ∷ rs) bs h k = (h.0, h.1, ran_then h.0 mid new xs ys rs bs h.2 k)

-- one pair alone
one_pair : (a b : Bytes) (steps : List Step) (answers : List Answered) → IsExchange a b steps answers → AreExchanges ((a, b) ∷ []) steps answers
one_pair a b steps answers h = (steps, [], answers, [], h, (refl, refl), sym (append-nil steps), sym (append-nil answers))

exchanges_then : (pairs more : List (Bytes × Bytes)) (xs ys : List Step) (rs bs : List Answered) → AreExchanges pairs xs rs → AreExchanges more ys bs → AreExchanges (pairs ++ more) (xs ++ ys) (rs ++ bs)
exchanges_then [] more xs ys rs bs h k =
    subst (λ (zs : List Step). AreExchanges more (zs ++ ys) (rs ++ bs)) (sym h.0) (subst (λ (cs : List Answered). AreExchanges more ys (cs ++ bs)) (sym h.1) k)
exchanges_then (pair ∷ pairs) more xs ys rs bs h k = (
  h.0,
  h.1 ++ ys,
  h.2,
  h.3 ++ bs,
  h.4,
  exchanges_then pairs more h.1 ys h.3 bs h.5 k,
  ap (λ (zs : List Step). zs ++ ys) h.6 ∙ append_assoc h.0 h.1 ys,
  ap (λ (cs : List Answered). cs ++ bs) h.7 ∙ append_assoc h.2 h.3 bs,
)

ends_then : (pairs more : List (Bytes × Bytes)) (xs ys : List Step) (rs bs : List Answered) (r : Refusal) → AreExchanges pairs xs rs → EndsAmong more ys bs r → EndsAmong (pairs ++ more) (xs ++ ys) (rs ++ bs) r
ends_then [] more xs ys rs bs r h k =
    subst (λ (zs : List Step). EndsAmong more (zs ++ ys) (rs ++ bs) r) (sym h.0) (subst (λ (cs : List Answered). EndsAmong more ys (cs ++ bs) r) (sym h.1) k)
ends_then (pair ∷ pairs) more xs ys rs bs r h k = inr (
  h.0,
  h.1 ++ ys,
  h.2,
  h.3 ++ bs,
  h.4,
  ends_then pairs more h.1 ys h.3 bs r h.5 k,
  ap (λ (zs : List Step). zs ++ ys) h.6 ∙ append_assoc h.0 h.1 ys,
  ap (λ (cs : List Answered). cs ++ bs) h.7 ∙ append_assoc h.2 h.3 bs,
)

ends_more : (pairs more : List (Bytes × Bytes)) (xs : List Step) (rs : List Answered) (r : Refusal) → EndsAmong pairs xs rs r → EndsAmong (pairs ++ more) xs rs r
ends_more [] more xs rs r h = absurd h
ends_more (pair ∷ pairs) more xs rs r (inl h) = inl h
ends_more (pair ∷ pairs) more xs rs r (inr h) = inr (h.0, h.1, h.2, h.3, h.4, ends_more pairs more h.1 h.3 r h.5, h.6, h.7)

come_then : {X : Type 0} (pairs more : List (Bytes × Bytes)) (xs ys : List Step) (rs bs : List Answered) (t u v : Tally) (result : Result X Refusal) → AreExchanges pairs xs rs → NotesAll rs t u
    → PairsCome more ys bs u result v → PairsCome (pairs ++ more) (xs ++ ys) (rs ++ bs) t result v
come_then pairs more xs ys rs bs t u v (Ok x) h n k = (exchanges_then pairs more xs ys rs bs h k.0, notes_then rs bs t u v n k.1)
come_then pairs more xs ys rs bs t u v (Err r) h n k = ends_then pairs more xs ys rs bs r h k

come_as : {X : Type 0} (pairs : List (Bytes × Bytes)) (xs : List Step) (rs : List Answered) (old new : Tally) (result : Result X Refusal) (r : Refusal) → IsErrAnd result (λ q. q ≡ r) → EndsAmong pairs xs rs r → PairsCome pairs xs rs old result new
come_as pairs xs rs old new (Ok x) r e h = absurd e
come_as pairs xs rs old new (Err q) r e h = subst (λ (p : Refusal). EndsAmong pairs xs rs p) (sym e) h

come_more : {X Y : Type 0} (pairs more : List (Bytes × Bytes)) (xs : List Step) (rs : List Answered) (t u : Tally) (first : Result X Refusal) (result : Result Y Refusal) (r : Refusal) → first ≡ Err r → IsErrAnd result (λ q. q ≡ r)
    → PairsCome pairs xs rs t first u → PairsCome (pairs ++ more) xs rs t result u
come_more pairs more xs rs t u (Ok x) result r e f h = absurd cc
come_more pairs more xs rs t u (Err q) result r e f h =
    let same : q ≡ r = cc in
    come_as (pairs ++ more) xs rs t u result r f (subst (λ (p : Refusal). EndsAmong (pairs ++ more) xs rs p) same (ends_more pairs more xs rs q h))

module _ (g : Weigher) where
  pub pairs_none : (t : Tally) (sites : List SeenNode) → MakesPairs g sites [] t done t sites
  pairs_none t sites = record { steps = []; answers = []; ran = refl; come = ((refl, refl), notes_none t) }

  pub pairs_on : {X : Type 0} (pairs more : List (Bytes × Bytes)) (t u v : Tally) (result : Result X Refusal) (sites mid new : List SeenNode) → MakesPairs g sites pairs t done u mid → MakesPairs g mid more u result v new
      → MakesPairs g sites (pairs ++ more) t result v new
  pairs_on pairs more t u v result sites mid new h k = record {
    steps = h.steps ++ k.steps;
    answers = h.answers ++ k.answers;
    ran = ran_then g sites mid new h.steps k.steps h.answers k.answers h.ran k.ran;
    come = come_then pairs more h.steps k.steps h.answers k.answers t u v result h.come.0 h.come.1 k.come;
  }

  -- a refusal of the first of some names' pairs is one of all
  pub pairs_off : {X Y : Type 0} (f : Bytes → Bytes × Bytes) (names : List Bytes) (n : ℕ) (t u : Tally) (sites new : List SeenNode) (first : Result X Refusal) (result : Result Y Refusal) (r : Refusal) → first ≡ Err r → IsErrAnd result (λ q. q ≡ r)
      → MakesPairs g sites (map f (take n names)) t first u new → MakesPairs g sites (map f names) t result u new
  pairs_off f names n t u sites new first result r e is h =
      let all : map f (take n names) ++ map f (drop n names) ≡ map f names = sym (map-append f (take n names) (drop n names)) ∙ ap (map f) (take-append-drop n names) in
      record {
        steps = h.steps;
        answers = h.answers;
        ran = h.ran;
        come = subst (λ pairs. PairsCome pairs h.steps h.answers t result u) all (come_more (map f (take n names)) (map f (drop n names)) h.steps h.answers t u first result r e is h.come);
      }

  -- the pairs of names, one name more
  module _ (f : Bytes → Bytes × Bytes) (names : List Bytes) (i : ℕ) (name : Bytes) (lt : i < length names) (is : name ≡ slice_index_or names i name) where
    taken : map f (take (i + 1) names) ≡ map f (take i names) ++ f name ∷ []
    taken = ap (map f) (take_more names i name lt ∙ ap (λ (n : Bytes). take i names ++ n ∷ []) (sym is)) ∙ map-append f (take i names) (name ∷ [])

    pub pairs_more : {X : Type 0} (t u v : Tally) (result : Result X Refusal) (sites mid new : List SeenNode) → MakesPairs g sites (map f (take i names)) t done u mid
        → MakesPairs g mid (f name ∷ []) u result v new → MakesPairs g sites (map f (take (i + 1) names)) t result v new
    pairs_more t u v result sites mid new h k =
        subst (λ pairs. MakesPairs g sites pairs t result v new) (sym taken) (pairs_on (map f (take i names)) (f name ∷ []) t u v result sites mid new h k)

    -- the same, where the pair is told otherwise: it ended early; or it exchanged, and here are the notes and the world then
    module _ {pair : Bytes × Bytes} (own : pair ≡ f name) {t u : Tally} {sites mid : List SeenNode} (before : MakesPairs g sites (map f (take i names)) t done u mid) where
      own_pair : (result : Result (Unit {0}) Refusal) (v : Tally) (new : List SeenNode) → MakesPairs g mid (pair ∷ []) u result v new → MakesPairs g sites (map f (take (i + 1) names)) t result v new
      own_pair result v new here = pairs_more t u v result sites mid new before (subst (λ p. MakesPairs g mid (p ∷ []) u result v new) own here)

      pub pairs_ended : {r : Refusal} {result : Result (Unit {0}) Refusal} {v : Tally} {new : List SeenNode} → IsErrAnd result (λ q. q ≡ r) → MakesPairs g mid (pair ∷ []) u (refused r) v new → MakesPairs g sites (map f names) t result v new
      pairs_ended {r} {result} {v} {new} e here = pairs_off f names (i + 1) t v sites new (refused r) result r refl e (own_pair (refused r) v new here)

      pub pairs_further : {v w : Tally} {new after : List SeenNode} → w ≡ v → after ≡ new → MakesPairs g mid (pair ∷ []) u done v new → MakesPairs g sites (map f (take (i + 1) names)) t done w after
      pairs_further {v} {w} {new} {after} e f' here =
          subst (λ y. MakesPairs g sites (map f (take (i + 1) names)) t done y after) (sym e)
          (subst (λ s. MakesPairs g sites (map f (take (i + 1) names)) t done v s) (sym f') (own_pair done v new here))

  -- one exchange, by where it ends
  module _ (a b : Bytes) (t : Tally) (sites : List SeenNode) where
    pair_of : {X : Type 0} (steps : List Step) (answers : List Answered) (x : X) (u : Tally) (new : List SeenNode) → RanSteps g sites steps answers new → IsExchange a b steps answers → NotesAll answers t u → MakesPairs g sites ((a, b) ∷ []) t (Ok x) u new
    pair_of steps answers x u new ran is notes = record { steps = steps; answers = answers; ran = ran; come = (one_pair a b steps answers is, notes) }

    ended : {X : Type 0} (steps : List Step) (answers : List Answered) (r : Refusal) (result : Result X Refusal) (u : Tally) (new : List SeenNode) → IsErrAnd result (λ q. q ≡ r) → RanSteps g sites steps answers new → EndsIn a b steps answers r
        → MakesPairs g sites ((a, b) ∷ []) t result u new
    ended steps answers r result u new e ran is = record { steps = steps; answers = answers; ran = ran; come = come_as ((a, b) ∷ []) steps answers t u result r e (inl is) }

    passed : (answer : Answered) (u : Tally) (new : List SeenNode) → StepGoes g sites (ship_of a b) answer new → IsShipNotedAs answer t (Ok None) u → MakesPairs g sites ((a, b) ∷ []) t done u new
    passed (Ok x) u new goes h =
        pair_of (ship_of a b ∷ []) (Ok x ∷ []) tt u new (new, goes, refl)
        (inr (x, [], [], refl, refl, subst (λ (o : Option ℕ). IsBrought a b o [] []) h.0 (refl, refl))) h.1
    passed (Err q) u new goes h =
        pair_of (ship_of a b ∷ []) (Err q ∷ []) tt u new (new, goes, refl)
        (inl (refl, ap (λ (p : Refusal). let rs : List Answered = Err p ∷ [] in rs) h.0)) (notes_passed t u q h.2)

    -- a ship that was numbered
    record Sent (k : ℕ) (u : Tally) (mid : List SeenNode) : Type 0 where
      pub shipped : Answer
      pub goes : StepGoes g sites (ship_of a b) (Ok shipped) mid
      pub number : shipped.number ≡ Some k
      pub notes : NotesAll (Ok shipped ∷ []) t u

    sent_as : (answer : Answered) (k : ℕ) (u : Tally) (mid : List SeenNode) → StepGoes g sites (ship_of a b) answer mid → IsShipNotedAs answer t (Ok (Some k)) u → Sent k u mid
    sent_as (Ok x) k u mid goes h = record { shipped = x; goes = goes; number = sym h.0; notes = h.1 }
    sent_as (Err q) k u mid goes h = absurd (none-some k (sym h.1))

    module _ (k : ℕ) (u : Tally) (mid : List SeenNode) (s : Sent k u mid) where
      brought : (x : Answer) (more : List Step) (rest : List Answered) → IsToldOn b x.number more rest → IsBrought a b s.shipped.number (arrival a k ∷ more) (Ok x ∷ rest)
      brought x more rest h = subst (λ (o : Option ℕ). IsBrought a b o (arrival a k ∷ more) (Ok x ∷ rest)) (sym s.number) (x, more, rest, refl, refl, h)

      -- a delivery that was answered
      record Came (o : Option ℕ) (v : Tally) (near : List SeenNode) : Type 0 where
        pub came : Answer
        pub goes : StepGoes g mid (arrival a k) (Ok came) near
        pub number : came.number ≡ o
        pub notes : NotesAll (Ok s.shipped ∷ Ok came ∷ []) t v

      came_as : (answer : Answered) (o : Option ℕ) (v : Tally) (near : List SeenNode) → StepGoes g mid (arrival a k) answer near → IsNotedAs answer u (Ok o) v → Came o v near
      came_as (Ok x) o v near goes h = record { came = x; goes = goes; number = sym h.0; notes = notes_then (Ok s.shipped ∷ []) (Ok x ∷ []) t u v s.notes h.1 }
      came_as (Err q) o v near goes h = absurd h

      told : (n : ℕ) (v : Tally) (near : List SeenNode) (c : Came (Some n) v near) (answer : Answered) (o : Option ℕ) (z : Tally) (new : List SeenNode) → StepGoes g near (arrival b n) answer new → IsNotedAs answer v (Ok o) z
          → MakesPairs g sites ((a, b) ∷ []) t done z new
      told n v near c (Ok y) o z new goes h =
          pair_of (ship_of a b ∷ arrival a k ∷ arrival b n ∷ []) (Ok s.shipped ∷ Ok c.came ∷ Ok y ∷ []) tt z new (mid, s.goes, (near, c.goes, (new, goes, refl)))
          (inr (s.shipped, arrival a k ∷ arrival b n ∷ [], Ok c.came ∷ Ok y ∷ [], refl, refl, brought c.came (arrival b n ∷ []) (Ok y ∷ []) (subst (λ (p : Option ℕ). IsToldOn b p (arrival b n ∷ []) (Ok y ∷ [])) (sym c.number) (y, refl, refl))))
          (notes_then (Ok s.shipped ∷ Ok c.came ∷ []) (Ok y ∷ []) t v z c.notes h.1)
      told n v near c (Err q) o z new goes h = absurd h

  ends_ship : (answer : Answered) (t u : Tally) (r : Refusal) → IsShipNotedAs answer t (Err r) u → StepEnds answer r × (r ≢ UpToDate)
  ends_ship (Ok x) t u r h = (h, λ e. memory_is_not (sym h ∙ e))
  ends_ship (Err q) t u r h = h

  ends_one : (answer : Answered) (u v : Tally) (r : Refusal) → IsNotedAs answer u (Err r) v → StepEnds answer r
  ends_one (Ok x) u v r h = h
  ends_one (Err q) u v r h = h.0

  -- the same, from what the steps of an exchange gave
  module _ {a b : Bytes} {t u : Tally} {sites mid : List SeenNode} where
    -- the ship ended it
    pub pair_unsent : {X : Type 0} {r : Refusal} {result : Result X Refusal} → IsErrAnd result (λ q. q ≡ r) → ShipsOne g sites a b t (Err r) u mid → MakesPairs g sites ((a, b) ∷ []) t result u mid
    pair_unsent {X} {r} {result} e s =
        let k = ends_ship s.answer t u r s.noted in
        ended a b t sites (ship_of a b ∷ []) (s.answer ∷ []) r result u mid e (mid, s.goes, refl) (inl (record { last = s.answer; steps_are = refl; answers_are = refl; ends = k.0; not_passed = k.1 }))

    -- it was up to date
    pub pair_passed : {o : Option ℕ} → o ≡ None → ShipsOne g sites a b t (Ok o) u mid → MakesPairs g sites ((a, b) ∷ []) t done u mid
    pair_passed is s =
        let p = subst (λ (q : Option ℕ). ShipsOne g sites a b t (Ok q) u mid) is s in
        passed a b t sites p.answer u mid p.goes p.noted

    module _ {o : Option ℕ} {k : ℕ} (is : o ≡ Some k) (s : ShipsOne g sites a b t (Ok o) u mid) where
      sending : Sent a b t sites k u mid
      sending =
          let p = subst (λ (q : Option ℕ). ShipsOne g sites a b t (Ok q) u mid) is s in
          sent_as a b t sites p.answer k u mid p.goes p.noted

      -- its delivery ended it
      pub pair_unbrought : {X : Type 0} {v : Tally} {r : Refusal} {result : Result X Refusal} {new : List SeenNode} → IsErrAnd result (λ q. q ≡ r) → MakesOne g mid (arrival a k) u (Err r) v new → MakesPairs g sites ((a, b) ∷ []) t result v new
      pair_unbrought {X} {v} {r} {result} {new} e m =
          ended a b t sites (ship_of a b ∷ arrival a k ∷ []) (Ok sending.shipped ∷ m.answer ∷ []) r result v new e (mid, sending.goes, (new, m.goes, refl))
          (inr (inl (record { shipped = sending.shipped; k = k; number = sending.number; last = m.answer; steps_are = refl; answers_are = refl; ends = ends_one m.answer u v r m.noted })))

      module _ {v : Tally} {near : List SeenNode} {p : Option ℕ} (m : MakesOne g mid (arrival a k) u (Ok p) v near) where
        arriving : (q : Option ℕ) → p ≡ q → Came a b t sites k u mid sending q v near
        arriving q e =
            let n = subst (λ (x : Option ℕ). MakesOne g mid (arrival a k) u (Ok x) v near) e m in
            came_as a b t sites k u mid sending n.answer q v near n.goes n.noted

        -- no message left with it
        pub pair_silent : p ≡ None → MakesPairs g sites ((a, b) ∷ []) t done v near
        pair_silent e =
            let c = arriving None e in
            pair_of a b t sites (ship_of a b ∷ arrival a k ∷ []) (Ok sending.shipped ∷ Ok c.came ∷ []) tt v near (mid, sending.goes, (near, c.goes, refl))
            (inr (sending.shipped, arrival a k ∷ [], Ok c.came ∷ [], refl, refl, brought a b t sites k u mid sending c.came [] [] (subst (λ (x : Option ℕ). IsToldOn b x [] []) (sym c.number) (refl, refl)))) c.notes

        module _ {n : ℕ} (e : p ≡ Some n) where
          -- the acknowledgement's delivery ended it
          pub pair_untold : {X : Type 0} {z : Tally} {r : Refusal} {result : Result X Refusal} {new : List SeenNode} → IsErrAnd result (λ q. q ≡ r) → MakesOne g near (arrival b n) v (Err r) z new → MakesPairs g sites ((a, b) ∷ []) t result z new
          pair_untold {X} {z} {r} {result} {new} f l =
              let c = arriving (Some n) e in
              ended a b t sites (ship_of a b ∷ arrival a k ∷ arrival b n ∷ []) (Ok sending.shipped ∷ Ok c.came ∷ l.answer ∷ []) r result z new f (mid, sending.goes, (near, c.goes, (new, l.goes, refl)))
              (inr (inr (record { shipped = sending.shipped; k = k; number = sending.number; came = c.came; n = n; acknowledges = c.number; last = l.answer; steps_are = refl; answers_are = refl; ends = ends_one l.answer v z r l.noted })))

          -- all three were made
          pub pair_done : {q : Option ℕ} {z : Tally} {new : List SeenNode} → MakesOne g near (arrival b n) v (Ok q) z new → MakesPairs g sites ((a, b) ∷ []) t done z new
          pair_done {q} {z} {new} l = told a b t sites k u mid sending n v near (arriving (Some n) e) l.answer q z new l.goes l.noted

  -- settling
  cut : (sites : List SeenNode) (steps : List Step) (answers : List Answered) (result : Result Settled Refusal) (r : Refusal) → IsErrAnd result (λ q. q ≡ r) → IsToldBy sites steps answers (Err r) → IsToldBy sites steps answers result
  cut sites steps answers (Ok s) r e h = absurd e
  cut sites steps answers (Err q) r e h = subst (λ (p : Refusal). IsToldBy sites steps answers (Err p)) (sym e) h

  settles : (sites new : List SeenNode) (steps : List Step) (answers : List Answered) (result : Result Settled Refusal) → RanSteps g sites steps answers new → IsToldBy sites steps answers result → SettlesBy g sites result new
  settles sites new steps answers result ran told = record { steps = steps; answers = answers; ran = ran; told = told; leads = leads_on g sites new steps answers ran }

  -- no memory for the names
  pub settles_unnamed : (sites : List SeenNode) (result : Result Settled Refusal) → IsErrAnd result (λ q. q ≡ OutOfMemory) → SettlesBy g sites result sites
  settles_unnamed sites result e = settles sites sites [] [] result refl (cut sites [] [] result OutOfMemory e (inl (refl, refl, refl)))

  -- no node runs
  pub settles_none : (sites : List SeenNode) (t : Tally) (settled : Settled) → IsSorted text_cmp [] → IsPermutation (running sites) [] → IsBegun t → settled.messages ≡ length t.sent.items → settled.effects ≡ t.effects.items
      → SettlesBy g sites (Ok settled) sites
  settles_none sites t settled sorted all b m e = settles sites sites [] [] (Ok settled) refl ([], record { sorted = sorted; all = all }, (refl, refl), m ∙ ap length b.0, e ∙ b.1)

  module _ (first : Bytes) (others : List Bytes) (t u v : Tally) (sites mid new : List SeenNode) (sorted : IsSorted text_cmp (first ∷ others)) (all : IsPermutation (running sites) (first ∷ others)) where
    pub settles_in : (r : Refusal) (result : Result Settled Refusal) → IsErrAnd result (λ q. q ≡ r) → MakesPairs g sites (map (ends In first) others) t (refused r) u new → SettlesBy g sites result new
    settles_in r result e h =
        settles sites new h.steps h.answers result h.ran
        (cut sites h.steps h.answers result r e (inr (first ∷ others, record { sorted = sorted; all = all }, ends_more (map (ends In first) others) (map (ends Out first) others) h.steps h.answers r h.come)))

    pub settles_out : (r : Refusal) (result : Result Settled Refusal) → IsErrAnd result (λ q. q ≡ r) → MakesPairs g sites (map (ends In first) others) t done u mid
        → MakesPairs g mid (map (ends Out first) others) u (refused r) v new → SettlesBy g sites result new
    settles_out r result e h k =
        let both = pairs_on (map (ends In first) others) (map (ends Out first) others) t u v (refused r) sites mid new h k in
        settles sites new both.steps both.answers result both.ran (cut sites both.steps both.answers result r e (inr (first ∷ others, record { sorted = sorted; all = all }, both.come)))

    pub settles_both : (settled : Settled) → IsBegun t → MakesPairs g sites (map (ends In first) others) t done u mid → MakesPairs g mid (map (ends Out first) others) u done v new
        → settled.messages ≡ length v.sent.items → settled.effects ≡ v.effects.items → SettlesBy g sites (Ok settled) new
    settles_both settled b h k m e =
        let both = pairs_on (map (ends In first) others) (map (ends Out first) others) t u v done sites mid new h k in
        let none : length t.sent.items ≡ 0 = ap length b.0 in
        let notes = both.come.1 in
        settles sites new both.steps both.answers (Ok settled) both.ran
        (first ∷ others, record { sorted = sorted; all = all }, both.come.0, omega (arith, m, notes.messages, none), e ∙ notes.effects ∙ ap (λ (xs : List (Bytes × Effect)). xs ++ effects_in both.answers) b.1)
