-- What may end the line of a step: its moment, and that its save fails (this project's script format).
use Rattle.std.specs.Prelude.{ℕ, Bool, true, false, List, [], ◌∷◌, Option, Some, None, if◌then◌else◌, codes}
use Rattle.std.specs.Str.{bytes_eq}
use Rattle.sup_specs.specs.declared.limits.TheConstants.{MAX}
use Rattle.sup_model.specs.declared.step.Step.{Step}
use Rattle.sup_model.specs.declared.step.Step.TheVariants.{Node, Deliver}
use Rattle.sup_lines.specs.declared.deed.Deed.{Deed}
use Rattle.sup_lines.specs.declared.deed.Deed.TheVariants.{At, Delivery}
use Rattle.sup_lines.specs.Words.{Word, ◌>>=◌}
use Rattle.sup_lines.specs.Values.{number_of}
use Rattle.sup_lines.specs.Options.{option_at}

-- the step that does this at a moment, where a save would hold or fail
abbrev pub step_at : ℕ → Bool → Deed → Step
step_at now saves (At node act) = Node node act now saves
step_at now saves (Delivery from k at drop) = Deliver from k at drop now saves

-- [!fail], and no more words: whether a save would hold
unfoldable pub saves_of : List Word → Option Bool
saves_of [] = Some true
saves_of (word ∷ []) = if bytes_eq word (codes "!fail") then Some false else None
saves_of _ = None

-- [@MOMENT] [!fail] behind what a step does, and no more words
unfoldable pub ended : Deed × List Word → Option Step
ended (deed, words) = do
  let moment_word = option_at (codes "@") (codes "0") words
  now ← number_of MAX moment_word.0
  saves ← saves_of moment_word.1
  Some (step_at now saves deed)
