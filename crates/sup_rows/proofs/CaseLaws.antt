-- What came of a case.
use Rattle.std.specs.Str.Lines.{lines}
use Rattle.std.proofs.Common.{◌≡◌, ℕ, Bool, List, [], Option, Result, Ok, Err, IfOk, string_bytes, subst}
use Rattle.sup_rows.specs.Outcomes.{TellsOutcome}
use Rattle.sup_rows.specs.Plays.{CameOfRun, JudgesCase}
use Rattle.sup_rows.specs.declared.case.Case.{Case}
use Rattle.sup_rows.specs.declared.outcome.Outcome.{Outcome}

-- what is so of three texts is so of the input and of two empty texts, where they are these
pub over_input : (Runs : List ℕ → List ℕ → List ℕ → Type 0) (given input before errors : List ℕ)
    → given ≡ input → before ≡ [] → errors ≡ [] → Runs given before errors → Runs input [] []
over_input Runs given input before errors same none untold runs =
    subst (λ a. Runs a [] []) same (subst (λ b. Runs given b []) none (subst (λ c. Runs given before c) untold runs))

-- what is told of an outcome that came of the case's run judges the case
pub judges : {E : Type 0} (name : List ℕ) (case : Case) (came : Outcome) (before after : Option (List ℕ)) (told : Result Bool E)
    → CameOfRun (lines (string_bytes case.given.words)) case.given.input.items came → IfOk told (TellsOutcome name case.wanted came before after) → IfOk told (JudgesCase name case before after)
judges name case came before after (Ok well) ran tells = record { came = came; of_run = ran; tells = tells }
judges name case came before after (Err error) ran tells = tt
