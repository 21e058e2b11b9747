-- Images that are lent (this project).
use Rattle.std.specs.Prelude.{◌≡◌}
use Rattle.sup_tables.specs.Lent.{rows_lent}
use Rattle.sup_tables.specs.States.{HasDotsOf}
use Rattle.sup_wire.specs.declared.image.Image.{Image}
use Rattle.sup_wire.specs.declared.lent_image.LentImage.{LentImage}

-- what is lent is this image's
pub record IsLentOf (l : LentImage) (i : Image) : Type 0 where
  pub node : l.node ≡ i.node
  pub boot : l.boot ≡ i.boot
  pub count : l.count ≡ i.count
  pub context : l.context.now ≡ i.state.context
  pub rows : rows_lent l.rows.items ≡ i.state.rows

-- it holds of each image that this is lent of, if its context has the dots of its rows
abbrev pub ForLent : LentImage → (Image → Type 0) → Type 0
ForLent l holds = (i : Image) → IsLentOf l i → HasDotsOf i.state.context i.state.rows → holds i
