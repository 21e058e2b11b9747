-- Settling is a run of the model, also where it is cut short.
use Rattle.std.specs.Prelude.{◌≡◌, ℕ, List, [], ◌∷◌, ◌++◌, Result, Ok, Err, refl}
use Rattle.std.proofs.Common.{sym, ap, ◌∙◌}
use mathlib.Core.Logic.{inl, inr}
use Rattle.sup_specs.specs.Values.{Bytes}
use Rattle.sup_replica.specs.declared.refusal.Refusal.{Refusal}
use Rattle.sup_model.specs.declared.step.Step.{Step}
use Rattle.sup_model.specs.Worlds.{ModelWorld, ModelAnswer, WorldStepped, step}
use Rattle.sup_model.specs.Runs.{ModelAllows, ModelRun, answer_of, world_after}
use Rattle.sup_model.specs.Settles.{Exchanged}
use Rattle.sup_model.proofs.RunLists.{runs_append}
use Rattle.sup_world.specs.Pairs.{ship_of, arrival, AllExchanged, SendsMessage, StepFails, StopsAtComing, ExchangeStops, StopsAmong}
use Rattle.sup_world.specs.SettledSites.{IsSettling, IsCutShort, pairs_of}

-- some run from the first world to the second
abbrev pub RunTo : ModelWorld → ModelWorld → Type 0
RunTo w after = (steps : List Step) × (answers : List (Result ModelAnswer Refusal)) × ModelRun w steps answers after

pub run_then : (w mid after : ModelWorld) → RunTo w mid → RunTo mid after → RunTo w after
run_then w mid after h g = (h.0 ++ g.0, h.1 ++ g.1, runs_append w mid after h.0 g.0 h.1 g.1 h.2 g.2)

one : (w : ModelWorld) (s : Step) (answer : Result ModelAnswer Refusal) (after : ModelWorld) → ModelAllows w s answer after → RunTo w after
one w s answer after h = (s ∷ [], answer ∷ [], (after, h, refl))

made : (w : ModelWorld) (s : Step) (x : WorldStepped) (after : ModelWorld) → step w s ≡ Ok x → after ≡ x.world → RunTo w after
made w s x after is ends = one w s (Ok x.answer) after (inl (sym (ap answer_of is), ends ∙ sym (ap (world_after w) is)))

sends_run : (w : ModelWorld) (s : Step) (k : ℕ) (after : ModelWorld) → SendsMessage w s k after → RunTo w after
sends_run w s k after h = made w s h.made after h.steps h.ends

fails_run : (w : ModelWorld) (s : Step) (r : Refusal) (after : ModelWorld) → StepFails w s r after → RunTo w after
fails_run w s r after (inl h) = one w s (Err r) after h
fails_run w s r after (inr h) = made w s h.made after h.steps h.ends

exchanged_run : (w : ModelWorld) (a b : Bytes) (after : ModelWorld) → Exchanged w a b after → RunTo w after
exchanged_run w a b after (inl h) =
    run_then w h.ship.world after (made w (ship_of a b) h.ship h.ship.world h.ships refl)
    (run_then h.ship.world h.came.world after (made h.ship.world (arrival a h.k) h.came h.came.world h.comes refl) (made h.came.world (arrival b h.n) h.told after h.tells h.ends))
exchanged_run w a b after (inr h) = ([], [], h.1)

all_run : (w : ModelWorld) (pairs : List (Bytes × Bytes)) (answers : List (Result ModelAnswer Refusal)) (after : ModelWorld) → AllExchanged w pairs answers after → RunTo w after
all_run w [] answers after h = ([], [], h.1)
all_run w (pair ∷ pairs) answers after h = run_then w h.0 after (exchanged_run w pair.0 pair.1 h.0 h.3.0) (all_run h.0 pairs h.2 after h.4)

coming_run : (w : ModelWorld) (a b : Bytes) (k : ℕ) (r : Refusal) (after : ModelWorld) → StopsAtComing w a b k r after → RunTo w after
coming_run w a b k r after (inl h) = fails_run w (arrival a k) r after h
coming_run w a b k r after (inr h) = run_then w h.1 after (sends_run w (arrival a k) h.0 h.1 h.2) (fails_run h.1 (arrival b h.0) r after h.3)

stops_run : (w : ModelWorld) (a b : Bytes) (r : Refusal) (after : ModelWorld) → ExchangeStops w a b r after → RunTo w after
stops_run w a b r after (not, inl h) = fails_run w (ship_of a b) r after h
stops_run w a b r after (not, inr h) = run_then w h.1 after (sends_run w (ship_of a b) h.0 h.1 h.2) (coming_run h.1 a b h.0 r after h.3)

among_run : (w : ModelWorld) (pairs : List (Bytes × Bytes)) (r : Refusal) (after : ModelWorld) → StopsAmong w pairs r after → RunTo w after
among_run w [] r after h = absurd h
among_run w (pair ∷ pairs) r after (inl h) = stops_run w pair.0 pair.1 r after h
among_run w (pair ∷ pairs) r after (inr h) = run_then w h.0 after (exchanged_run w pair.0 pair.1 h.0 h.1) (among_run h.0 pairs r after h.2)

pub settling_run : (w : ModelWorld) (answers : List (Result ModelAnswer Refusal)) (after : ModelWorld) → IsSettling w answers after → RunTo w after
settling_run w answers after h = all_run w (pairs_of h.names) answers after h.exchanged

pub cut_short_run : (w : ModelWorld) (r : Refusal) (after : ModelWorld) → IsCutShort w r after → RunTo w after
cut_short_run w r after (inl h) = ([], [], h.1)
cut_short_run w r after (inr h) = among_run w (pairs_of h.0) r after h.2
