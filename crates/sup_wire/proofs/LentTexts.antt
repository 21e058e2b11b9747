-- The text of an image by what is lent of it.
use Rattle.std.proofs.Common.{◌≡◌, ℕ, ◌<◌, ◌^◌, ◌++◌, true, List, map, refl, sym, ap, ap₂, subst, ◌∙◌}
use Rattle.std.specs.List.{AllByRecursion}
use Rattle.sup_specs.specs.Values.{Bytes}
use Rattle.sup_causal.specs.declared.dot.Dot.{Dot}
use Rattle.sup_causal.specs.Dots.{has, IsCounted}
use Rattle.sup_tables.specs.Lent.{rows_lent}
use Rattle.sup_tables.specs.declared.lent.LentRow.{LentRow}
use Rattle.sup_tables.specs.States.{State, HasDotsOf, with_rows}
use Rattle.sup_array_text.specs.Arrays.{ArrayShown, shown, whole}
use Rattle.sup_wire.specs.declared.heading.Heading.{Heading}
use Rattle.sup_wire.specs.declared.image.Image.{Image}
use Rattle.sup_wire.specs.declared.lent_image.LentImage.{LentImage}
use Rattle.sup_wire.specs.Drafts.{TableParts, IsCut, IsDraftOfImage, IsWholeImage}
use Rattle.sup_wire.specs.Faults.{IsTextOf, IsTextAfter, IsImageInRange}
use Rattle.sup_wire.specs.Forms.{IsName, IsWritten, AreWritten}
use Rattle.sup_wire.specs.Lent.{IsLentOf}
use Rattle.sup_wire.specs.RowTexts.{AreRows, row_text}
use Rattle.sup_wire.specs.ImageTexts.{IsHeaded, image_front, image_back}
use Rattle.sup_wire.proofs.Formed.{parts_formed}
use Rattle.sup_wire.proofs.ImageTextLaws.{text_is, fitting}

-- the image of parts that are lent
abbrev pub image_with : Bytes → ℕ → ℕ → State → Image
image_with node boot count s = record { node = node; boot = boot; count = count; state = s }

pub lent_is : (l : LentImage) (i : Image) → IsLentOf l i → image_with l.node l.boot l.count (with_rows l.context.now (rows_lent l.rows.items)) ≡ i
lent_is l i lent = ap₂ (λ n b. image_with n b l.count (with_rows l.context.now (rows_lent l.rows.items))) lent.node lent.boot ∙ ap₂ (image_with i.node i.boot) lent.count (ap₂ with_rows lent.context lent.rows)

pub headed_is : (h : Heading) (rows : List LentRow) (i : Image) → IsHeaded i h → rows_lent rows ≡ i.state.rows → image_with h.node h.boot h.count (with_rows h.context.now (rows_lent rows)) ≡ i
headed_is h rows i headed same = ap₂ (λ n b. image_with n b h.count (with_rows h.context.now (rows_lent rows))) (sym headed.node) (sym headed.boot) ∙ ap₂ (image_with i.node i.boot) (sym headed.count) (ap₂ with_rows (sym headed.context) same)

module _ (node : Bytes) (boot count : ℕ) (s : State) (p : TableParts) (counted : (d : Dot) → has s.context d ≡ true → IsCounted d) (cut : IsCut s p) (written : AreWritten p) (fb : boot < 2 ^ 64) (fc : count < 2 ^ 64) (name : IsName node) (front : Bytes) (t : ArrayShown)
    (shape : t ≡ shown (front ++ whole (image_front node boot count p) (map row_text p.rows) image_back) (map row_text p.rows)) where
  covered_here : (i : Image) → image_with node boot count s ≡ i → HasDotsOf i.state.context i.state.rows → HasDotsOf s.context s.rows
  covered_here i same covered = subst (λ (j : Image). HasDotsOf j.state.context j.state.rows) (sym same) covered

  pub text_lent : (i : Image) → image_with node boot count s ≡ i → HasDotsOf i.state.context i.state.rows → IsTextAfter IsDraftOfImage IsImageInRange front t.text i
  text_lent i same covered =
      let text = whole (image_front node boot count p) (map row_text p.rows) image_back in
      record {
        text = text;
        parts = ap (λ u. u.text) shape;
        is = subst (λ (j : Image). IsTextOf IsDraftOfImage IsImageInRange text j) same (text_is (image_with node boot count s) p text counted (covered_here i same covered) cut written name fb fc refl);
      }

  pub lent_rows_are : (i : Image) → image_with node boot count s ≡ i → IsWholeImage i → AreRows i.state.rows t.items
  lent_rows_are i same is_whole =
      let rows = cut.rows ∙ ap (λ (j : Image). j.state.rows) same in
      record {
        same = ap (λ u. u.items) shape ∙ ap (map row_text) rows;
        in_order = is_whole.in_order;
        written = subst (λ rs. AllByRecursion (λ r. IsWritten r × (r.dot.counter < 2 ^ 64)) rs) rows (fitting p.rows (parts_formed s p counted (covered_here i same is_whole.covered) cut written).rows);
      }
