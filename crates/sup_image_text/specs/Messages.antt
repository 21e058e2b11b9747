-- A delta's text by its parts: what stands before its rows, and what stands behind them (this project).
use Rattle.std.specs.Prelude.{◌≡◌, ℕ, List, [], ◌∷◌, ◌++◌, codes, decimal}
use Rattle.json.specs.Print.{quoted}
use Rattle.serde_json.specs.Written.{compact_text}
use Rattle.sup_specs.specs.Values.{Bytes}
use Rattle.sup_causal.specs.Dots.{Context, has}
use Rattle.sup_causal.specs.Cut.{IsVector, IsCloud}
use Rattle.sup_tables.specs.States.{State}
use Rattle.sup_wire.specs.Drafts.{TableParts, delta, IsWhole}
use Rattle.sup_wire.specs.Forms.{IsFormed, context_value, value_of}
use Rattle.sup_wire.specs.RowTexts.{AreRows}
use Rattle.sup_wire.specs.ImageTexts.{field_text}
use Rattle.sup_wire.specs.declared.version.Version.TheVariants.{Two}

abbrev pub delta_front : Bytes → ℕ → TableParts → Bytes
delta_front from n p =
    123 ∷ (field_text (codes "ctx") (compact_text (context_value p)) ++ (field_text (codes "from") (quoted from) ++ (field_text (codes "kind") (quoted (codes "delta")) ++ (field_text (codes "n") (decimal n) ++ (quoted (codes "rows") ++ 58 ∷ [])))))

abbrev pub delta_back : Bytes → Bytes
delta_back to = 44 ∷ (quoted (codes "to") ++ 58 ∷ (quoted to ++ 44 ∷ (quoted (codes "v") ++ 58 ∷ (decimal 2 ++ 125 ∷ []))))

-- the text of a delta that knows the context's dots and has no rows
pub record IsBare (context : Context) (from to : Bytes) (n : ℕ) (text : Bytes) : Type 0 where
  pub parts : TableParts
  pub is_vector : IsVector (has context) parts.vector
  pub is_cloud : IsCloud (has context) parts.cloud
  pub no_rows : parts.rows ≡ []
  pub compact : text ≡ compact_text (value_of (delta from to n parts))
  pub formed : IsFormed Two (delta from to n parts)

-- the state is whole, has this context, and these are the texts of its rows
pub record IsStateOfTexts (texts : List Bytes) (context : Context) (s : State) : Type 0 where
  pub rows : AreRows s.rows texts
  pub known : s.context ≡ context
  pub is_whole : IsWhole s

-- it holds of the state with this context and the rows with these texts, where it is whole
abbrev pub ForState : List Bytes → Context → (State → Type 0) → Type 0
ForState texts context holds = (s : State) → AreRows s.rows texts → s.context ≡ context → IsWhole s → holds s
