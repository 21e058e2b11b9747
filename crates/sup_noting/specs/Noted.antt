-- A log that grows by a line of a script (this project): what its answer tells of it.
use Rattle.std.specs.Prelude.{ℕ, List, [], ◌∷◌, ◌++◌, length, map, Option}
use Rattle.sup_specs.specs.Values.{Bytes}
use Rattle.sup_local_sup.specs.declared.effect.Effect.{Effect}
use Rattle.sup_model.specs.declared.step.Step.{Step}
use Rattle.sup_picture.specs.declared.log.Change.{Change}
use Rattle.sup_picture.specs.declared.log.Log.{Log}
use Rattle.sup_picture.specs.declared.log.Mark.{Mark}
use Rattle.sup_picture.specs.declared.log.Mark.TheVariants as mark
use Rattle.sup_picture.specs.declared.log.Post.{Post}
use Rattle.sup_picture.specs.declared.log.Row.{Row}
use Rattle.sup_replica.specs.declared.done.Done.{Done}
use Rattle.sup_replica.specs.declared.refusal.Refusal.{Refusal}
use Rattle.sup_text.specs.Answers.{answer_text, refusal_text, settled_text}
use Rattle.sup_noting.specs.Messages.{came_done, came_refused, left_by, place_of}
use Rattle.sup_noting.specs.Turns.{effect_at, turns_of}

-- what a contract sees of a log
pub record Noted : Type 0 where
  pub rows : List Row
  pub posts : List Post
  pub changes : List Change

abbrev pub noted_of : Log → Noted
noted_of log = record { rows = log.rows.items; posts = log.posts.items; changes = log.changes.items }

-- the next row
abbrev pub row_in : List Row → List ℕ → List ℕ → Mark → Row
row_in rows line said mark = record { row = length rows; line = line; said = said; mark = mark }

abbrev pub with_row : List Row → List ℕ → List ℕ → Mark → List Row
with_row rows line said mark = rows ++ row_in rows line said mark ∷ []

-- A node answered: its mark, with what is printed of the answer; the delivery's message, which came to it, and the letter that
-- left; and what became of it and of children.
abbrev pub answered : Noted → List ℕ → Step → Bytes → Done → Option ℕ → Noted
answered n line step at done number = record {
  rows = with_row n.rows line (answer_text at done number) (mark.Done at);
  posts = n.posts ++ came_done (length n.rows) step at done.reply ++ left_by (length n.rows) at done.out number;
  changes = n.changes ++ turns_of (length n.rows) step ++ map (effect_at (length n.rows) at) done.effects;
}

-- A step was refused: its mark, with the refusal, and the delivery's message, which came in vain, if it is known where. Nothing
-- became of nodes and children.
abbrev pub refused : Noted → List ℕ → Step → Refusal → Noted
refused n line step refusal = record {
  rows = with_row n.rows line (refusal_text refusal) (mark.Refused (place_of n.posts step));
  posts = n.posts ++ came_refused n.posts (length n.rows) step refusal;
  changes = n.changes;
}

-- the nodes settled
abbrev pub settled : Noted → List ℕ → ℕ → List (Bytes × Effect) → Noted
settled n line messages effects = record {
  rows = with_row n.rows line (settled_text messages effects) mark.Everywhere;
  posts = n.posts;
  changes = n.changes ++ map (λ e. effect_at (length n.rows) e.0 e.1) effects;
}

-- their settling was cut short
abbrev pub unsettled : Noted → List ℕ → Refusal → Noted
unsettled n line refusal = record { rows = with_row n.rows line (refusal_text refusal) mark.Everywhere; posts = n.posts; changes = n.changes }

-- no step was made
abbrev pub looked : Noted → List ℕ → Noted
looked n line = record { rows = with_row n.rows line [] mark.Nowhere; posts = n.posts; changes = n.changes }
