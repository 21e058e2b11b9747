-- The text of the next image.
use Rattle.std.proofs.Common.{◌≡◌, ◌<◌, ◌^◌, List, [], ◌∷◌, map, refl, sym, ap, subst, ◌∙◌}
use Rattle.std.specs.List.{AllByRecursion}
use Rattle.sup_specs.specs.Values.{Bytes}
use Rattle.sup_edits.specs.declared.edit.Edit.{Edit}
use Rattle.sup_edits.specs.Edits.{edited, edit_of, IsComing}
use Rattle.sup_edits.proofs.EditLaws.{all_edited}
use Rattle.sup_causal.specs.Dots.{has}
use Rattle.sup_causal.specs.Cut.{IsVector, IsCloud}
use Rattle.sup_tables.specs.declared.row.Row.{Row}
use Rattle.sup_tables.specs.declared.lent.LentRow.{LentRow}
use Rattle.sup_tables.specs.Lent.{row_lent, rows_lent}
use Rattle.sup_tables.specs.Rows.{place_cmp}
use Rattle.sup_array_text.specs.Arrays.{ArrayShown, shown, whole}
use Rattle.sup_wire.specs.declared.heading.Heading.{Heading}
use Rattle.sup_wire.specs.declared.image.Image.{Image}
use Rattle.sup_wire.specs.Drafts.{TableParts, IsCut, IsWholeImage}
use Rattle.sup_wire.specs.Forms.{IsName, IsWritten, AreWritten}
use Rattle.sup_wire.specs.RowTexts.{AreRows, row_text}
use Rattle.sup_wire.specs.ImageTexts.{IsFront, IsHeaded, IsTextFor, image_front, image_back}
use Rattle.sup_wire.proofs.Formed.{parts_formed}
use Rattle.sup_wire.proofs.ImageTextLaws.{text_is, fitting}
use Rattle.sup_image_text.specs.Next.{IsEdited}

-- the parts that a text is put together of are those of an image with this heading and these rows
pub text_for : (i : Image) (t : ArrayShown) (h : Heading) (front : Bytes) → h.boot < 2 ^ 64 → h.count < 2 ^ 64 → IsWholeImage i → IsHeaded i h → IsFront h front
    → AllByRecursion IsWritten i.state.rows → t ≡ shown (whole front (map row_text i.state.rows) image_back) (map row_text i.state.rows) → IsTextFor i t
text_for i t h front fb fc is_whole headed fronted written shape =
    let p : TableParts = record { vector = fronted.parts.vector; cloud = fronted.parts.cloud; rows = i.state.rows } in
    let are : AreWritten p = record { vector = fronted.vector_names; cloud = fronted.cloud_names; rows = written } in
    let cut : IsCut i.state p = record {
      vector = subst (λ c. IsVector (has c) fronted.parts.vector) (sym headed.context) fronted.is_vector;
      cloud = subst (λ c. IsCloud (has c) fronted.parts.cloud) (sym headed.context) fronted.is_cloud;
      rows = refl;
    } in
    let text : t.text ≡ whole (image_front i.node i.boot i.count p) (map row_text i.state.rows) image_back =
    ap (λ s. s.text) shape ∙ ap (λ f. whole f (map row_text i.state.rows) image_back) (fronted.is ∙ sym (λ k. image_front (headed.node k) (headed.boot k) (headed.count k) p)) in
    record {
      text = text_is i p t.text is_whole.counted is_whole.covered cut are (subst IsName (sym headed.node) fronted.name) (subst (λ n. n < 2 ^ 64) (sym headed.boot) fb) (subst (λ n. n < 2 ^ 64) (sym headed.count) fc) text;
      rows = record { same = ap (λ s. s.items) shape; in_order = is_whole.in_order; written = fitting i.state.rows (parts_formed i.state p is_whole.counted is_whole.covered cut are).rows };
    }

-- what is known of all rows with their texts is known of each
pub each_written : (rows : List Row) → AllByRecursion (λ r. IsWritten r × (r.dot.counter < 2 ^ 64)) rows → AllByRecursion IsWritten rows
each_written [] all = tt
each_written (r ∷ rs) all = (all.0.0, each_written rs all.1)

pub next_is : (old : List Row) (new : Image) (texts t : ArrayShown) (edits : List (Edit LentRow)) (h : Heading) (front : Bytes) → h.boot < 2 ^ 64 → h.count < 2 ^ 64 → AreRows old texts.items → IsEdited old new.state.rows edits → IsHeaded new h → IsWholeImage new
    → IsFront h front → AllByRecursion (IsComing IsWritten) (map (edit_of row_lent) edits)
    → ((rows : List Row) → AreRows rows texts.items → t ≡ shown (whole front (map row_text (edited place_cmp (map (edit_of row_lent) edits) rows)) image_back) (map row_text (edited place_cmp (map (edit_of row_lent) edits) rows))) → IsTextFor new t
next_is old new texts t edits h front fb fc was rows headed is_whole fronted written made =
    let all : AllByRecursion IsWritten new.state.rows = subst (λ rows. AllByRecursion IsWritten rows) (sym rows)
    (all_edited place_cmp IsWritten (map (edit_of row_lent) edits) old (each_written old was.written) written) in
    text_for new t h front fb fc is_whole headed fronted all
    (made old was ∙ ap (λ rows. shown (whole front (map row_text rows) image_back) (map row_text rows)) (sym rows))

pub all_is : (new : Image) (rows : List LentRow) (t : ArrayShown) (h : Heading) (front : Bytes) → h.boot < 2 ^ 64 → h.count < 2 ^ 64 → IsHeaded new h → rows_lent rows ≡ new.state.rows → IsWholeImage new → IsFront h front → AllByRecursion IsWritten (rows_lent rows)
    → t ≡ shown (whole front (map row_text (rows_lent rows)) image_back) (map row_text (rows_lent rows)) → IsTextFor new t
all_is new rows t h front fb fc headed same is_whole fronted written made =
    text_for new t h front fb fc is_whole headed fronted (subst (λ rs. AllByRecursion IsWritten rs) same written) (made ∙ ap (λ rs. shown (whole front (map row_text rs) image_back) (map row_text rs)) same)
