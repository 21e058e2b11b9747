-- What is played is a run of the model.
use Rattle.std.specs.Prelude.{ℕ, List, [], ◌∷◌, Result, Ok, Err, refl}
use Rattle.std.proofs.Common.{ap}
use Rattle.sup_specs.specs.Values.{Bytes}
use Rattle.sup_placement.specs.Place.{Weigher}
use Rattle.sup_model.specs.Worlds.{ModelWorld, new}
use Rattle.sup_model.proofs.MainLaws.{main}
use Rattle.sup_replica.specs.declared.refusal.Refusal.{Refusal}
use Rattle.sup_world.specs.declared.settled.Settled.{Settled}
use Rattle.sup_world.specs.SettledSites.{EndsSettling}
use Rattle.sup_lines.specs.declared.line.Line.{Line}
use Rattle.sup_lines.specs.declared.line.Line.TheVariants as line
use Rattle.sup_program.specs.Prints.{Scene, PrintsLine}
use Rattle.sup_program.specs.Plays.{PlaysLines, PlayedWorldsKeep}
use Rattle.sup_program.proofs.SettleRunLaws.{RunTo, run_then, settling_run, cut_short_run}

settled_run : (w : ModelWorld) (result : Result Settled Refusal) (after : ModelWorld) → EndsSettling w result after → RunTo w after
settled_run w (Ok settled) after h = settling_run w h.0 after h.1
settled_run w (Err r) after h = cut_short_run w r after h

pub line_run : (weigher : Weigher) (peers : List Bytes) (s : Scene) (line : Line) (said : List ℕ) (after : Scene) → PrintsLine weigher peers s line said after → RunTo s.model after.model
line_run weigher peers s (line.Step step) said after h = (step ∷ [], h.does.expected ∷ [], (after.model, h.does.allows, refl))
line_run weigher peers s line.Settle said after h = settled_run s.model h.does.result after.model h.does.ends
line_run weigher peers s (line.Show name) said after h = ([], [], ap (λ (t : Scene). t.model) h.does.0)
line_run weigher peers s (line.Inspect name) said after h = ([], [], ap (λ (t : Scene). t.model) h.does.0)
line_run weigher peers s (line.Image name) said after h = ([], [], ap (λ (t : Scene). t.model) h.does.0)
line_run weigher peers s (line.Where name sought) said after h = ([], [], ap (λ (t : Scene). t.model) h.does.0)
line_run weigher peers s (line.Message name k) said after h = ([], [], ap (λ (t : Scene). t.model) h.does.0)

played_run : (weigher : Weigher) (peers : List Bytes) (s : Scene) (lines : List Line) (printed : List ℕ) (after : Scene) → PlaysLines weigher peers s lines printed after → RunTo s.model after.model
played_run weigher peers s [] printed after h = ([], [], ap (λ (t : Scene). t.model) h.1)
played_run weigher peers s (line ∷ lines) printed after h =
    run_then s.model h.1.model after.model (line_run weigher peers s line h.0 h.1 h.3) (played_run weigher peers h.1 lines h.2 after h.4)

pub played_worlds_keep : PlayedWorldsKeep
played_worlds_keep weigher peers setting is_message names sites lines printed after h =
    let run = played_run weigher peers (record { model = new setting is_message names; sites = sites }) lines printed after h in
    record { steps = run.0; answers = run.1; is_run = run.2; headline = main setting is_message names run.0 run.1 after.model run.2 }
