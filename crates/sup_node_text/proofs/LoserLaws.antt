-- The lines of a key's losers, as they were read and as the rows that they are.
use Rattle.std.proofs.Common.{◌≡◌, ◌∙◌, ℕ, List, map, ap, sym}
use Rattle.std.specs.List.{flat_map}
use Rattle.std.proofs.lemmas.List.Folds.{flat_map-map}
use Rattle.sup_tables.specs.declared.row.Row.{Row}

pub lines_of_rows : {L : Type 0} (line : Row → List ℕ) (row : L → Row) (losers : List L) (rows : List Row) → map row losers ≡ rows → flat_map line rows ≡ flat_map (λ l. line (row l)) losers
lines_of_rows line row losers rows shown = ap (flat_map line) (sym shown) ∙ flat_map-map line row losers
