-- What the lines of a script leave in a log: the world makes their steps, and the log has what each was answered.
use Rattle.std.specs.Prelude.{◌≡◌, ℕ, false, List, [], ◌∷◌, length, map, slice_get, unwrap_or, Result, Ok, Err}
use Rattle.std.specs.List.{AllZip}
use Rattle.std.specs.Option.{option_map}
use Rattle.sup_placement.specs.Place.{Weigher}
use Rattle.sup_replica.specs.declared.refusal.Refusal.{Refusal}
use Rattle.sup_lines.specs.declared.line.Line.{Line}
use Rattle.sup_lines.specs.declared.line.Line.TheVariants as line
use Rattle.sup_lines.specs.declared.numbered.NumberedLine.{NumberedLine}
use Rattle.sup_model.specs.declared.step.Step.{Step}
use Rattle.sup_model.specs.Worlds.{ModelWorld as Model}
use Rattle.sup_world.specs.declared.state.World.{World}
use Rattle.sup_picture.specs.declared.log.Log.{Log}
use Rattle.sup_world.specs.declared.answer.Answer.{Answer}
use Rattle.sup_world.specs.declared.settled.Settled.{Settled}
use Rattle.sup_world.specs.CarriedSteps.{has_bytes}
use Rattle.sup_world.specs.FollowedSteps.{StandsFor}
use Rattle.sup_world.specs.Runs.{StepGoes}
use Rattle.sup_world.specs.SeenNodes.{SeenNode, FailedNoMore, sites_of}
use Rattle.sup_world.specs.SettledSites.{SettlesTo}
use Rattle.sup_world.specs.Settlements.{SettlesBy}
use Rattle.sup_noting.specs.Noted.{Noted, noted_of, answered, refused, settled, unsettled, looked}

-- the lines of a script behind that of its nodes, each with its number
abbrev pub Captions : Type 0
Captions = List (ℕ × List ℕ)

-- as a contract sees them
abbrev pub captions_of : List NumberedLine → Captions
captions_of lines = map (λ l. (l.number, l.bytes.now)) lines

-- the text of the line in a row
abbrev pub caption_of : Captions → ℕ → List ℕ
caption_of captions row = unwrap_or (option_map (λ l. l.1) (slice_get captions row)) []

-- the log with a step's answer
abbrev pub with_answer : Noted → List ℕ → Step → Result Answer Refusal → Noted
with_answer n caption step (Ok answer) = answered n caption step answer.at answer.done answer.number
with_answer n caption step (Err refusal) = refused n caption step refusal

-- the log with what settling told
abbrev pub with_settling : Noted → List ℕ → Result Settled Refusal → Noted
with_settling n caption (Ok told) = settled n caption told.messages told.effects
with_settling n caption (Err refusal) = unsettled n caption refusal

-- a line's step is no act that brings bytes: in a script these come by deliveries, and raw
abbrev pub IsDry : Line → Type 0
IsDry (line.Step step) = has_bytes step ≡ false
IsDry line.Settle = Unit {0}
IsDry (line.Show name) = Unit {0}
IsDry (line.Inspect name) = Unit {0}
IsDry (line.Image name) = Unit {0}
IsDry (line.Where name sought) = Unit {0}
IsDry (line.Message name k) = Unit {0}

-- a world and the log of what it told, as contracts see them
abbrev pub played : {W : Type 0} {h : _} → World W h → Log → List SeenNode × Noted
played world log = (sites_of world, noted_of log)

module _ (weigher : Weigher) where
  -- the world makes the step, and the log has its answer
  pub record StepNoted (caption : List ℕ) (sites : List SeenNode) (n : Noted) (step : Step) (new : List SeenNode) (n' : Noted) : Type 0 where
    pub answer : Result Answer Refusal
    pub goes : StepGoes weigher sites step answer new
    pub noted : n' ≡ with_answer n caption step answer

  -- the world settles, and the log has what that told
  pub record SettlingNoted (caption : List ℕ) (sites : List SeenNode) (n : Noted) (new : List SeenNode) (n' : Noted) : Type 0 where
    pub told : Result Settled Refusal
    pub steps : SettlesBy weigher sites told new
    pub follows : (model : Model) → StandsFor weigher sites model → SettlesTo weigher model told new
    pub counted : AllZip FailedNoMore sites new
    pub noted : n' ≡ with_settling n caption told

  -- the world stays, and the log has a row
  pub record LookNoted (caption : List ℕ) (sites : List SeenNode) (n : Noted) (new : List SeenNode) (n' : Noted) : Type 0 where
    pub stays : new ≡ sites
    pub noted : n' ≡ looked n caption

  -- From this world and log a line leads to that world and log. To look is no step.
  abbrev pub CaptionedGoes : List ℕ → List SeenNode → Noted → Line → List SeenNode → Noted → Type 0
  CaptionedGoes caption sites n (line.Step step) new n' = StepNoted caption sites n step new n'
  CaptionedGoes caption sites n line.Settle new n' = SettlingNoted caption sites n new n'
  CaptionedGoes caption sites n (line.Show name) new n' = LookNoted caption sites n new n'
  CaptionedGoes caption sites n (line.Inspect name) new n' = LookNoted caption sites n new n'
  CaptionedGoes caption sites n (line.Image name) new n' = LookNoted caption sites n new n'
  CaptionedGoes caption sites n (line.Where name sought) new n' = LookNoted caption sites n new n'
  CaptionedGoes caption sites n (line.Message name k) new n' = LookNoted caption sites n new n'

  -- a line with the text of its row
  abbrev pub LineGoes : Captions → List SeenNode → Noted → Line → List SeenNode → Noted → Type 0
  LineGoes captions sites n line new n' = CaptionedGoes (caption_of captions (length n.rows)) sites n line new n'

  -- the lines, one after another
  abbrev pub LinesGo : Captions → List SeenNode → Noted → List Line → List SeenNode → Noted → Type 0
  LinesGo captions sites n [] new n' = (new ≡ sites) × (n' ≡ n)
  LinesGo captions sites n (line ∷ lines) new n' = (mid : List SeenNode) × (m : Noted) × LineGoes captions sites n line mid m × LinesGo captions mid m lines new n'

  -- the same from one world and its log to another
  abbrev pub StepPlayed : List ℕ → List SeenNode × Noted → Step → List SeenNode × Noted → Type 0
  StepPlayed caption old step new = StepNoted caption old.0 old.1 step new.0 new.1

  abbrev pub LinePlayed : List NumberedLine → List SeenNode × Noted → Line → List SeenNode × Noted → Type 0
  LinePlayed captions old line new = LineGoes (captions_of captions) old.0 old.1 line new.0 new.1

  abbrev pub LinesPlayed : List NumberedLine → List SeenNode × Noted → List Line → List SeenNode × Noted → Type 0
  LinesPlayed captions old lines new = LinesGo (captions_of captions) old.0 old.1 lines new.0 new.1
