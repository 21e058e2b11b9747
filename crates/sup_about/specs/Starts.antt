-- What a program does that was started with arguments of which the first is its name.
use Rattle.std.specs.Prelude.{◌≡◌, ◌⊎◌, List, drop, Option, None, Some, Result, Ok, Err}
use Rattle.std.specs.IoError.{error_kind}
use Rattle.std.specs.Vec.Iter.{into_iter_items}
use Rattle.std.specs.declared.io.Error.{Error}
use Rattle.std.specs.declared.io.ErrorKind.TheVariants.{OutOfMemory}
use Rattle.std.specs.declared.string.String.{String}
use Rattle.std.specs.declared.vec.IntoIter.{IntoIter}
use Rattle.sup_about.specs.Looks.{asked_by}
use Rattle.sup_about.specs.declared.asked.Asked.{Asked}
use Rattle.sup_about.specs.declared.asked.Program.{Program}

-- where memory for its words may be lacking, and what it does where they can't be had
module _ (MayLack : Type 0) (Fails : Error → Type 0) where
  -- It tells want of memory, and memory for its words may be lacking.
  abbrev pub LacksWords : Type 0
  LacksWords = MayLack × ((error : Error) × (error_kind error ≡ OutOfMemory) × Fails error)

  module _ {Y Z : Type 0} (Runs : List (String Y) → Type 0) where
    -- It runs with the words behind its name; or without them, where memory for them is lacking or its arguments can't be had.
    abbrev pub RunsStarted : Result (IntoIter (String Y) Z) Error → Type 0
    RunsStarted (Ok arguments) = Runs (drop 1 (into_iter_items arguments)) ⊎ LacksWords
    RunsStarted (Err error) = Fails error

    -- It runs with arguments that ask nothing about it, and else answers, unless memory for them is lacking.
    abbrev pub RunsAsked : (Asked → Type 0) → Option Asked → Result (IntoIter (String Y) Z) Error → Type 0
    RunsAsked Answers None arguments = RunsStarted arguments
    RunsAsked Answers (Some asked) arguments = Answers asked ⊎ LacksWords

    abbrev pub RunsAsking : (Asked → Type 0) → Program → Result (IntoIter (String Y) Z) Error → Type 0
    RunsAsking Answers program arguments = RunsAsked Answers (asked_by program arguments) arguments
