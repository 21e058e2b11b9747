-- Settling, by what its two passes did.
use Rattle.std.specs.Prelude.{◌≡◌, ◌++◌, List, [], ◌∷◌, length, map, Result, Ok, Err, IsErrAnd, IsSorted, IsPermutation, refl}
use Rattle.std.proofs.Common.{sym, ap, ◌∙◌, subst, arith}
use mathlib.Core.Logic.{inl, inr}
use Rattle.sup_specs.specs.Values.{Bytes, text_cmp}
use Rattle.sup_placement.specs.Place.{Weigher}
use Rattle.sup_local_sup.specs.declared.effect.Effect.{Effect}
use Rattle.sup_replica.specs.declared.refusal.Refusal.{Refusal}
use Rattle.sup_replica.specs.declared.refusal.Refusal.TheVariants.{OutOfMemory}
use Rattle.sup_model.specs.Worlds.{ModelWorld, ModelAnswer as Expected}
use Rattle.sup_model.specs.Follows.{NamesAllDiffer}
use Rattle.sup_model.specs.Settles.{GatheredAtFirst, SpreadToOthers, WorldSettles}
use Rattle.sup_model.proofs.FollowLaws.{settling_settles}
use Rattle.sup_world.specs.declared.settled.Settled.{Settled}
use Rattle.sup_world.specs.declared.settling.Way.TheVariants.{In, Out}
use Rattle.sup_world.specs.declared.tally.Tally.{Tally}
use Rattle.sup_world.specs.FollowedSteps.{StandsFor}
use Rattle.sup_world.specs.SeenNodes.{SeenNode}
use Rattle.sup_world.specs.SettledSites.{effects_of, AreUpNames, IsCutShort, IsToldOf, EndsSettling, SettlesTo}
use Rattle.sup_world.specs.Tallies.{NotesAnswers}
use Rattle.sup_world.specs.Pairs.{AllExchanged}
use Rattle.sup_world.specs.Exchanges.{ExchangesPairsTo, ExchangesPairs, ends, running}
use Rattle.sup_world.proofs.ExchangeListLaws.{done, refused, stops_more, goes_then, goes_on}
use Rattle.sup_world.proofs.TallyLaws.{notes_none}
use Rattle.sup_world.proofs.UpNameLaws.{running_up, names_differ, first_known}

gathered : (w : ModelWorld) (first : Bytes) (names : List Bytes) (answers : List (Result Expected Refusal)) (w' : ModelWorld) → AllExchanged w (map (ends In first) names) answers w' → GatheredAtFirst w first names w'
gathered w first [] answers w' h = h.1
gathered w first (n ∷ ns) answers w' h = (h.0, h.3.0, gathered h.0 first ns h.2 w' h.4)

spread : (w : ModelWorld) (first : Bytes) (names : List Bytes) (answers : List (Result Expected Refusal)) (w' : ModelWorld) → AllExchanged w (map (ends Out first) names) answers w' → SpreadToOthers w first names w'
spread w first [] answers w' h = h.1
spread w first (n ∷ ns) answers w' h = (h.0, h.3.0, spread h.0 first ns h.2 w' h.4)

-- a list without elements
pub empty_is : (names : List Bytes) → length names ≡ 0 → names ≡ []
empty_is [] e = refl
empty_is (n ∷ ns) e = absurd (omega (arith, e))

-- the tally began with nothing
abbrev pub IsBegun : Tally → Type 0
IsBegun t = (t.sent.items ≡ []) × (t.effects.items ≡ [])

tallied : (answers : List (Result Expected Refusal)) (t u : Tally) (settled : Settled) → IsBegun t → NotesAnswers answers t u → settled.messages ≡ length u.sent.items → settled.effects ≡ u.effects.items → IsToldOf answers settled
tallied answers t u settled b n m e =
    let none : length t.sent.items ≡ 0 = ap length b.0 in
    record { messages = omega (arith, m, n.messages, none); effects = e ∙ n.effects ∙ ap (λ (xs : List (Bytes × Effect)). xs ++ effects_of answers) b.1 }

cut_short : (w after : ModelWorld) (result : Result Settled Refusal) (r : Refusal) → IsErrAnd result (λ q. q ≡ r) → IsCutShort w r after → EndsSettling w result after
cut_short w after (Ok s) r e h = absurd e
cut_short w after (Err q) r e h = subst (λ (p : Refusal). IsCutShort w p after) (sym e) h

module _ (weigher : Weigher) (model : ModelWorld) where
  -- no memory for the names
  pub no_names : (sites : List SeenNode) (result : Result Settled Refusal) → IsErrAnd result (λ q. q ≡ OutOfMemory) → StandsFor weigher sites model → SettlesTo weigher model result sites
  no_names sites result e h = record { after = model; ends = cut_short model model result OutOfMemory e (inl (refl, refl)); stands = h }

  names_up : (names : List Bytes) (sites : List SeenNode) → StandsFor weigher sites model → IsSorted text_cmp names → IsPermutation (running sites) names → AreUpNames model names
  names_up names sites h sorted all = record { sorted = sorted; all = subst (λ (ns : List Bytes). IsPermutation ns names) (running_up weigher sites model h) all }

  -- no node runs
  pub none_settles : (sites : List SeenNode) (t : Tally) (settled : Settled) → StandsFor weigher sites model → IsSorted text_cmp [] → IsPermutation (running sites) [] → IsBegun t → settled.messages ≡ length t.sent.items → settled.effects ≡ t.effects.items
      → SettlesTo weigher model (Ok settled) sites
  none_settles sites t settled h sorted all b m e = record {
    after = model;
    ends = ([], record { names = []; up = names_up [] sites h sorted all; exchanged = (refl, refl); all_know = refl }, tallied [] t t settled b (notes_none t) m e);
    stands = h;
  }

  module _ (first : Bytes) (others : List Bytes) (t u v : Tally) (sites mid new : List SeenNode) (h : StandsFor weigher sites model) (sorted : IsSorted text_cmp (first ∷ others)) (all : IsPermutation (running sites) (first ∷ others)) where
    -- a step of the first pass is refused
    pub gather_refused : (r : Refusal) (result : Result Settled Refusal) → IsErrAnd result (λ q. q ≡ r) → ExchangesPairs weigher model (map (ends In first) others) t (refused r) u new → SettlesTo weigher model result new
    gather_refused r result e g = record {
      after = g.after;
      ends = cut_short model g.after result r e (inr (first ∷ others, names_up (first ∷ others) sites h sorted all, stops_more model g.after (map (ends In first) others) (map (ends Out first) others) r g.goes));
      stands = g.stands;
    }

    -- one of the second
    pub spread_refused : (r : Refusal) (result : Result Settled Refusal) → IsErrAnd result (λ q. q ≡ r) → ExchangesPairs weigher model (map (ends In first) others) t done u mid
        → ((w : ModelWorld) → StandsFor weigher mid w → ExchangesPairs weigher w (map (ends Out first) others) u (refused r) v new) → SettlesTo weigher model result new
    spread_refused r result e g s =
        let both = goes_on weigher model (map (ends In first) others) (map (ends Out first) others) t u v (refused r) mid new g s in
        record { after = both.after; ends = cut_short model both.after result r e (inr (first ∷ others, names_up (first ∷ others) sites h sorted all, both.goes)); stands = both.stands }

    -- both are made
    pub settled : (done_by : Settled) → IsBegun t → ExchangesPairs weigher model (map (ends In first) others) t done u mid → ((w : ModelWorld) → StandsFor weigher mid w → ExchangesPairs weigher w (map (ends Out first) others) u done v new)
        → done_by.messages ≡ length v.sent.items → done_by.effects ≡ v.effects.items → SettlesTo weigher model (Ok done_by) new
    settled done_by b g s m e =
        let next = s g.after g.stands in
        let both : ExchangesPairsTo model (map (ends In first) others ++ map (ends Out first) others) t done v next.after =
        goes_then model g.after next.after (map (ends In first) others) (map (ends Out first) others) g.goes.0 t u v done g.goes.1 g.goes.2 next.goes in
        let up = names_up (first ∷ others) sites h sorted all in
        let distinct : NamesAllDiffer (first ∷ others) = names_differ weigher sites model (first ∷ others) h all in
        let known = first_known model first others up.all in
        let settling : WorldSettles model first others next.after = (g.after, gathered model first others g.goes.0 g.after g.goes.1, spread g.after first others next.goes.0 next.after next.goes.1) in
        record {
          after = next.after;
          ends = (
            both.0,
            record { names = first ∷ others; up = up; exchanged = both.1; all_know = settling_settles model first others next.after known.0 distinct.0 distinct.1 known.1 settling },
            tallied both.0 t v done_by b both.2 m e,
          );
          stands = next.stands;
        }
