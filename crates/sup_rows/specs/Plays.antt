-- What comes of a case.
use Rattle.std.specs.Prelude.{◌≡◌, ◌≢◌, ◌⊎◌, ℕ, Bool, List, [], ◌++◌, Option, Some, codes, decimal, length, string_bytes}
use Rattle.std.specs.Str.Lines.{lines}
use Rattle.sup_jobs.specs.declared.fault.Ended.{Ended}
use Rattle.sup_supctl.specs.Runs.{RunsAll}
use Rattle.sup_rows.specs.Outcomes.{TellsOutcome}
use Rattle.sup_rows.specs.declared.case.Case.{Case}
use Rattle.sup_rows.specs.declared.outcome.Outcome.{Outcome}

-- It came of a run of the program with these words over this input. In place of what `clap` told of words, `usage` may stand, if it told anything.
pub record CameOfRun (words : List (List ℕ)) (input : List ℕ) (came : Outcome) : Type 0 where
  pub left : List ℕ
  pub told : List ℕ
  pub ended : Ended
  pub runs : RunsAll Some Some Some words input left [] came.output.items [] told ended
  pub shown : string_bytes came.status ≡ decimal ended.status ++ codes "\n"
  pub errors : (came.errors.items ≡ told) ⊎ ((ended.status ≡ 2) × (length left ≡ length input) × (told ≢ []) × (came.errors.items ≡ codes "usage\n"))

-- What came of the case, with its words, one a line, is what was wanted, or isn't, and so it is told.
pub record JudgesCase (name : List ℕ) (case : Case) (before after : Option (List ℕ)) (well : Bool) : Type 0 where
  pub came : Outcome
  pub of_run : CameOfRun (lines (string_bytes case.given.words)) case.given.input.items came
  pub tells : TellsOutcome name case.wanted came before after well
