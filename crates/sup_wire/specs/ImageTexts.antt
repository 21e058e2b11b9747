-- An image's text by its parts: what stands before its rows, the rows' texts as an array, and what stands behind them (this project).
use Rattle.std.specs.Prelude.{◌≡◌, ℕ, List, [], ◌∷◌, ◌++◌, codes, decimal}
use Rattle.std.specs.List.{AllByRecursion}
use Rattle.json.specs.Print.{quoted}
use Rattle.serde_json.specs.Written.{compact_text}
use Rattle.sup_specs.specs.Values.{Bytes}
use Rattle.sup_causal.specs.Dots.{has}
use Rattle.sup_causal.specs.Cut.{IsVector, IsCloud}
use Rattle.sup_tables.specs.declared.row.Row.{Row}
use Rattle.sup_array_text.specs.Arrays.{ArrayShown, shown, whole}
use Rattle.sup_wire.specs.declared.image.Image.{Image}
use Rattle.sup_wire.specs.declared.heading.Heading.{Heading}
use Rattle.sup_wire.specs.Drafts.{TableParts, IsDraftOfImage, IsWholeImage}
use Rattle.sup_wire.specs.Faults.{IsTextOf, IsImageInRange}
use Rattle.sup_wire.specs.Forms.{IsName, context_value}
use Rattle.sup_wire.specs.RowTexts.{texts_of, AreRows}

-- a key, its value's text and a comma
abbrev pub field_text : Bytes → Bytes → Bytes
field_text name text = quoted name ++ 58 ∷ (text ++ 44 ∷ [])

abbrev pub image_front : Bytes → ℕ → ℕ → TableParts → Bytes
image_front node boot count p =
    123 ∷ (field_text (codes "boot") (decimal boot) ++ (field_text (codes "count") (decimal count) ++ (field_text (codes "ctx") (compact_text (context_value p))
    ++ (field_text (codes "kind") (quoted (codes "image")) ++ (field_text (codes "node") (quoted node) ++ (quoted (codes "rows") ++ 58 ∷ []))))))

abbrev pub image_back : Bytes
image_back = 44 ∷ (quoted (codes "v") ++ 58 ∷ (decimal 2 ++ 125 ∷ []))

-- the text with these rows' texts, and what stands behind them
abbrev pub closed_shown : Bytes → List Bytes → ArrayShown
closed_shown front items = shown (whole front items image_back) items

-- the text of an image, behind a front
abbrev pub image_shown : Bytes → Bytes → ℕ → ℕ → TableParts → ArrayShown
image_shown front node boot count p = shown (front ++ whole (image_front node boot count p) (texts_of p.rows) image_back) (texts_of p.rows)

-- the text stands before the rows of an image with this heading
pub record IsFront (h : Heading) (text : Bytes) : Type 0 where
  pub parts : TableParts
  pub is_vector : IsVector (has h.context.now) parts.vector
  pub is_cloud : IsCloud (has h.context.now) parts.cloud
  pub name : IsName h.node
  pub vector_names : AllByRecursion (λ e. IsName e.0) parts.vector
  pub cloud_names : AllByRecursion (λ d. IsName d.node) parts.cloud
  pub is : text ≡ image_front h.node h.boot h.count parts

-- an image has this heading
pub record IsHeaded (i : Image) (h : Heading) : Type 0 where
  pub node : i.node ≡ h.node
  pub boot : i.boot ≡ h.boot
  pub count : i.count ≡ h.count
  pub context : i.state.context ≡ h.context.now

-- the text is the image's one text, and the items are its rows' texts
pub record IsTextFor (i : Image) (t : ArrayShown) : Type 0 where
  pub text : IsTextOf IsDraftOfImage IsImageInRange t.text i
  pub rows : AreRows i.state.rows t.items

-- the same of the image with this heading and these rows, where it is whole
abbrev pub IsTextWith : Heading → List Row → ArrayShown → Type 0
IsTextWith h rows t = (i : Image) → IsHeaded i h → rows ≡ i.state.rows → IsWholeImage i → IsTextFor i t
