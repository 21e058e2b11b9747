-- The image that comes of another (this project).
use Rattle.std.specs.Prelude.{◌≡◌, ℕ, List, ◌∷◌, ◌++◌, map, drop}
use Rattle.sup_specs.specs.Values.{Bytes}
use Rattle.sup_edits.specs.declared.edit.Edit.{Edit}
use Rattle.sup_edits.specs.Edits.{edited, edit_of}
use Rattle.sup_tables.specs.declared.row.Row.{Row}
use Rattle.sup_tables.specs.declared.lent.LentRow.{LentRow}
use Rattle.sup_tables.specs.Lent.{row_lent, rows_lent}
use Rattle.sup_tables.specs.Rows.{place_cmp}
use Rattle.sup_array_text.specs.Arrays.{ArrayShown}
use Rattle.sup_wire.specs.declared.heading.Heading.{Heading}
use Rattle.sup_wire.specs.declared.image.Image.{Image}
use Rattle.sup_wire.specs.Drafts.{IsWholeImage}
use Rattle.sup_wire.specs.RowTexts.{texts_of, AreRows}
use Rattle.sup_wire.specs.ImageTexts.{IsHeaded, IsTextFor}
use Rattle.sup_image_text.specs.declared.next_image.NextImage.{NextImage}
use Rattle.sup_image_text.specs.declared.next_image.RowChange.{RowChange}
use Rattle.sup_image_text.specs.declared.next_image.RowChange.TheVariants.{Edits, All}

-- rows, without those that go and with those that come by these edits
abbrev pub edited_rows : List (Edit LentRow) → List Row → List Row
edited_rows edits rows = edited place_cmp (map (edit_of row_lent) edits) rows

-- rows are others, but for those that go and come by these edits
abbrev pub IsEdited : List Row → List Row → List (Edit LentRow) → Type 0
IsEdited old new edits = new ≡ edited_rows edits old

abbrev pub IsChanged : List Row → List Row → RowChange → Type 0
IsChanged old new (Edits edits) = IsEdited old new edits.items
IsChanged old new (All rows) = rows_lent rows.items ≡ new

-- the image that comes of one with these rows
pub record IsNext (old : List Row) (new : Image) (n : NextImage) : Type 0 where
  pub headed : IsHeaded new n.heading
  pub rows : IsChanged old new.state.rows n.rows
  pub is_whole : IsWholeImage new

-- the text of the image with this heading that comes of one whose rows have these texts, by these edits
abbrev pub IsEditedText : List Bytes → List (Edit LentRow) → Heading → ArrayShown → Type 0
IsEditedText texts edits h t = (old : List Row) (new : Image) → AreRows old texts → IsEdited old new.state.rows edits → IsHeaded new h → IsWholeImage new → IsTextFor new t

-- the items with one edit more: with what later edits make of the rows from `past` on, they are as those so far with what this edit and the later ones
-- make of the rows from `next` on
abbrev pub IsMadeWith : List Bytes → List Bytes → ℕ → Edit Row → List Bytes → ℕ → Type 0
IsMadeWith texts made next edit more past = (rows : List Row) (es : List (Edit Row)) → AreRows rows texts
    → more ++ texts_of (edited place_cmp es (drop past rows)) ≡ made ++ texts_of (edited place_cmp (edit ∷ es) (drop next rows))
