-- Exchanges one after another.
use Rattle.std.specs.Prelude.{◌≡◌, ℕ, ◌+◌, ◌<◌, List, [], ◌∷◌, ◌++◌, length, map, take, drop, Result, Ok, Err, IsErrAnd, slice_index_or, refl}
use Rattle.std.proofs.Common.{sym, ap, ◌∙◌, subst, append_assoc}
use Rattle.std.proofs.lemmas.List.{take_more, map-append, take-append-drop}
use Rattle.std.specs.List.{AllZip}
use mathlib.Core.Logic.{inl, inr}
use Rattle.sup_specs.specs.Values.{Bytes}
use Rattle.sup_placement.specs.Place.{Weigher}
use Rattle.sup_replica.specs.declared.refusal.Refusal.{Refusal}
use Rattle.sup_model.specs.Worlds.{ModelWorld, ModelAnswer as Expected}
use Rattle.sup_world.specs.declared.tally.Tally.{Tally}
use Rattle.sup_world.specs.FollowedSteps.{StandsFor}
use Rattle.sup_world.specs.SeenNodes.{SeenNode, FailedNoMore}
use Rattle.sup_world.specs.Pairs.{AllExchanged, StopsAmong}
use Rattle.sup_world.specs.Tallies.{NotesAnswers}
use Rattle.sup_world.specs.Exchanges.{ExchangesPairsTo, ExchangesPairs}
use Rattle.sup_world.proofs.TallyLaws.{notes_none, notes_then}

-- all went well
abbrev pub done : Result (Unit {0}) Refusal
done = Ok tt

abbrev pub refused : Refusal → Result (Unit {0}) Refusal
refused r = Err r

-- with the exchanges of more pairs behind
exchanged_then : (w mid after : ModelWorld) (pairs more : List (Bytes × Bytes)) (xs ys : List (Result Expected Refusal)) → AllExchanged w pairs xs mid → AllExchanged mid more ys after → AllExchanged w (pairs ++ more) (xs ++ ys) after
exchanged_then w mid after [] more xs ys h g =
    subst (λ (zs : List (Result Expected Refusal)). AllExchanged w more (zs ++ ys) after) (sym h.0) (subst (λ (v : ModelWorld). AllExchanged v more ys after) h.1 g)
exchanged_then w mid after (pair ∷ pairs) more xs ys h g =
    (h.0, h.1, h.2 ++ ys, h.3, exchanged_then h.0 mid after pairs more h.2 ys h.4 g, ap (λ (zs : List (Result Expected Refusal)). zs ++ ys) h.5 ∙ append_assoc h.1 h.2 ys)

-- what stops among later pairs, behind those that exchanged
pub stops_then : (w mid after : ModelWorld) (pairs more : List (Bytes × Bytes)) (xs : List (Result Expected Refusal)) (r : Refusal) → AllExchanged w pairs xs mid → StopsAmong mid more r after → StopsAmong w (pairs ++ more) r after
stops_then w mid after [] more xs r h g = subst (λ (v : ModelWorld). StopsAmong v more r after) h.1 g
stops_then w mid after (pair ∷ pairs) more xs r h g = inr (h.0, h.3.0, stops_then h.0 mid after pairs more h.2 r h.4 g)

-- what stops does so whichever pairs were left
pub stops_more : (w after : ModelWorld) (pairs more : List (Bytes × Bytes)) (r : Refusal) → StopsAmong w pairs r after → StopsAmong w (pairs ++ more) r after
stops_more w after [] more r h = absurd h
stops_more w after (pair ∷ pairs) more r (inl h) = inl h
stops_more w after (pair ∷ pairs) more r (inr h) = inr (h.0, h.1, stops_more h.0 after pairs more r h.2)

-- a result tells why it stopped
pub ended_as : {X : Type 0} (w after : ModelWorld) (pairs : List (Bytes × Bytes)) (old new : Tally) (result : Result X Refusal) (r : Refusal) → IsErrAnd result (λ q. q ≡ r) → StopsAmong w pairs r after → ExchangesPairsTo w pairs old result new after
ended_as w after pairs old new (Ok x) r e h = absurd e
ended_as w after pairs old new (Err q) r e h = subst (λ (p : Refusal). StopsAmong w pairs p after) (sym e) h

-- with what the next pairs do
pub goes_then : {X : Type 0} (w mid after : ModelWorld) (pairs more : List (Bytes × Bytes)) (xs : List (Result Expected Refusal)) (t u v : Tally) (result : Result X Refusal) → AllExchanged w pairs xs mid → NotesAnswers xs t u
    → ExchangesPairsTo mid more u result v after → ExchangesPairsTo w (pairs ++ more) t result v after
goes_then w mid after pairs more xs t u v (Ok x) h n g = (xs ++ g.0, exchanged_then w mid after pairs more xs g.0 h g.1, notes_then xs g.0 t u v n g.2)
goes_then w mid after pairs more xs t u v (Err r) h n g = stops_then w mid after pairs more xs r h g

module _ (weigher : Weigher) where
  pub goes_none : (model : ModelWorld) (t : Tally) (sites : List SeenNode) → StandsFor weigher sites model → ExchangesPairs weigher model [] t done t sites
  goes_none model t sites h = record { after = model; goes = ([], (refl, refl), notes_none t); stands = h }

  pub goes_on : {X : Type 0} (model : ModelWorld) (pairs more : List (Bytes × Bytes)) (t u v : Tally) (result : Result X Refusal) (sites new : List SeenNode) → ExchangesPairs weigher model pairs t done u sites
      → ((mid : ModelWorld) → StandsFor weigher sites mid → ExchangesPairs weigher mid more u result v new) → ExchangesPairs weigher model (pairs ++ more) t result v new
  goes_on model pairs more t u v result sites new h g =
      let next = g h.after h.stands in
      record { after = next.after; goes = goes_then model h.after next.after pairs more h.goes.0 t u v result h.goes.1 h.goes.2 next.goes; stands = next.stands }

  stopped_more : {X Y : Type 0} (w after : ModelWorld) (pairs more : List (Bytes × Bytes)) (t u : Tally) (first : Result X Refusal) (result : Result Y Refusal) (r : Refusal) → first ≡ Err r → IsErrAnd result (λ q. q ≡ r)
      → ExchangesPairsTo w pairs t first u after → ExchangesPairsTo w (pairs ++ more) t result u after
  stopped_more w after pairs more t u (Ok x) result r e f h = absurd cc
  stopped_more w after pairs more t u (Err q) result r e f h =
      let same : q ≡ r = cc in
      ended_as w after (pairs ++ more) t u result r f (subst (λ (p : Refusal). StopsAmong w (pairs ++ more) p after) same (stops_more w after pairs more q h))

  -- a refusal of the first of some names' pairs is one of all
  pub goes_off : {X Y : Type 0} (model : ModelWorld) (f : Bytes → Bytes × Bytes) (names : List Bytes) (n : ℕ) (t u : Tally) (sites : List SeenNode) (first : Result X Refusal) (result : Result Y Refusal) (r : Refusal) → first ≡ Err r → IsErrAnd result (λ q. q ≡ r)
      → ExchangesPairs weigher model (map f (take n names)) t first u sites → ExchangesPairs weigher model (map f names) t result u sites
  goes_off model f names n t u sites first result r e is h =
      let all : map f (take n names) ++ map f (drop n names) ≡ map f names = sym (map-append f (take n names) (drop n names)) ∙ ap (map f) (take-append-drop n names) in
      record {
        after = h.after;
        goes = subst (λ pairs. ExchangesPairsTo model pairs t result u h.after) all (stopped_more model h.after (map f (take n names)) (map f (drop n names)) t u first result r e is h.goes);
        stands = h.stands;
      }

  -- the pairs of names, one name more
  module _ (f : Bytes → Bytes × Bytes) (names : List Bytes) (i : ℕ) (name : Bytes) (lt : i < length names) (is : name ≡ slice_index_or names i name) where
    taken : map f (take (i + 1) names) ≡ map f (take i names) ++ f name ∷ []
    taken = ap (map f) (take_more names i name lt ∙ ap (λ (n : Bytes). take i names ++ n ∷ []) (sym is)) ∙ map-append f (take i names) (name ∷ [])

    pub goes_more : {X : Type 0} (model : ModelWorld) (t u v : Tally) (result : Result X Refusal) (sites new : List SeenNode) → ExchangesPairs weigher model (map f (take i names)) t done u sites
        → ((mid : ModelWorld) → StandsFor weigher sites mid → ExchangesPairs weigher mid (f name ∷ []) u result v new) → ExchangesPairs weigher model (map f (take (i + 1) names)) t result v new
    goes_more model t u v result sites new h g =
        subst (λ pairs. ExchangesPairs weigher model pairs t result v new) (sym taken) (goes_on model (map f (take i names)) (f name ∷ []) t u v result sites new h g)

    -- the same, where the pair is told otherwise: it ended early; or it exchanged, and here are the notes and the world then
    module _ {pair : Bytes × Bytes} (own : pair ≡ f name) {model : ModelWorld} {t u : Tally} {sites : List SeenNode} (before : ExchangesPairs weigher model (map f (take i names)) t done u sites) where
      own_goes : (result : Result (Unit {0}) Refusal) (v : Tally) (new : List SeenNode) → ((mid : ModelWorld) → StandsFor weigher sites mid → ExchangesPairs weigher mid (pair ∷ []) u result v new)
          → ExchangesPairs weigher model (map f (take (i + 1) names)) t result v new
      own_goes result v new here = goes_more model t u v result sites new before (λ mid s. subst (λ p. ExchangesPairs weigher mid (p ∷ []) u result v new) own (here mid s))

      pub goes_ended : {r : Refusal} {result : Result (Unit {0}) Refusal} {v : Tally} {new : List SeenNode} → IsErrAnd result (λ q. q ≡ r)
          → ((mid : ModelWorld) → StandsFor weigher sites mid → ExchangesPairs weigher mid (pair ∷ []) u (refused r) v new) → ExchangesPairs weigher model (map f names) t result v new
      goes_ended {r} {result} {v} {new} e here = goes_off model f names (i + 1) t v new (refused r) result r refl e (own_goes (refused r) v new here)

      pub goes_further : {v w : Tally} {new after : List SeenNode} → w ≡ v → after ≡ new → ((mid : ModelWorld) → StandsFor weigher sites mid → ExchangesPairs weigher mid (pair ∷ []) u done v new)
          → ExchangesPairs weigher model (map f (take (i + 1) names)) t done w after
      goes_further {v} {w} {new} {after} e f' here =
          subst (λ y. ExchangesPairs weigher model (map f (take (i + 1) names)) t done y after) (sym e)
          (subst (λ s. ExchangesPairs weigher model (map f (take (i + 1) names)) t done v s) (sym f') (own_goes done v new here))

-- no keeper failed in two calls
pub no_more_then : (old mid new : List SeenNode) → AllZip FailedNoMore old mid → AllZip FailedNoMore mid new → AllZip FailedNoMore old new
no_more_then [] [] [] h g = tt
no_more_then [] [] (n ∷ ns) h g = absurd g
no_more_then [] (m ∷ ms) new h g = absurd h
no_more_then (o ∷ os) [] new h g = absurd h
no_more_then (o ∷ os) (m ∷ ms) [] h g = absurd g
no_more_then (o ∷ os) (m ∷ ms) (n ∷ ns) h g = (g.0 ∙ h.0, no_more_then os ms ns h.1 g.1)
