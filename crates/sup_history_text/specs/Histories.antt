-- Which lines make a history, and which is the first that doesn't (this project's format of histories).
use Rattle.std.specs.Prelude.{◌≡◌, ℕ, true, List, [], ◌∷◌, ◌++◌, Option, Some, None}
use Rattle.sup_history_text.specs.Kinds.{kind_of, may_follow}
use Rattle.sup_history_text.specs.Lines.{Line}
use Rattle.sup_history_text.specs.declared.kinds.LineKind.{LineKind}
use Rattle.sup_history_text.specs.declared.kinds.LineKind.TheVariants.{Begin}

-- each line may stand behind the one before it, and the first behind a line of this kind, or behind nothing
abbrev pub Follow : Option LineKind → List Line → Type 0
Follow before [] = Unit {0}
Follow before (line ∷ lines) = (may_follow before (kind_of line.1) ≡ true) × Follow (Some (kind_of line.1)) lines

-- the lines of a history, or of none yet
abbrev pub AreInOrder : List Line → Type 0
AreInOrder lines = Follow None lines

-- The first line that is out of order has this number: those before it are the lines of a history, or none, and with it they are
-- not, whatever stands behind.
pub record IsFirstOutOfOrder (lines : List Line) (n : ℕ) : Type 0 where
  pub before : List Line
  pub line : Line
  pub behind : List Line
  pub parts : lines ≡ before ++ line ∷ behind
  pub number : line.0 ≡ n
  pub in_order : AreInOrder before
  pub out : (more : List Line) → ¬ AreInOrder (before ++ line ∷ more)

-- the kind of the last of these lines, or of what stands before them, if there are none
abbrev pub last_kind : Option LineKind → List Line → Option LineKind
last_kind before [] = before
last_kind before (line ∷ lines) = last_kind (Some (kind_of line.1)) lines

-- behind a line of this kind, or behind nothing, the first of these lines may stand only if it is a begin
abbrev pub OnlyBeginFollows : Option LineKind → List Line → Type 0
OnlyBeginFollows before [] = Unit {0}
OnlyBeginFollows before (line ∷ lines) = (may_follow before (kind_of line.1) ≡ true) → kind_of line.1 ≡ Begin
