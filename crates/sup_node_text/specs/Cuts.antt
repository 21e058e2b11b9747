-- The lines that are printed of a context, by its cut into a version vector and a dot cloud (this project's output format).
use Rattle.std.specs.Prelude.{◌≡◌, ℕ, List, [], ◌∷◌, codes, decimal}
use Rattle.std.specs.List.{flat_map}
use Rattle.sup_specs.specs.Values.{Bytes}
use Rattle.sup_causal.specs.declared.dot.Dot.{Dot}
use Rattle.sup_causal.specs.Dots.{Context, has}
use Rattle.sup_causal.specs.Cut.{IsVector, IsCloud}
use Rattle.sup_text.specs.Words.{text, dot_text}

-- vector NODE C
abbrev pub vector_line : Bytes × ℕ → List ℕ
vector_line e = text (codes "vector " ∷ e.0 ∷ codes " " ∷ decimal e.1 ∷ codes "\n" ∷ [])

-- cloud DOT
abbrev pub cloud_line : Dot → List ℕ
cloud_line dot = text (codes "cloud " ∷ dot_text dot ∷ codes "\n" ∷ [])

-- the lines of a vector, by name, and then those of a cloud, in dot order
abbrev pub parts_text : List (Bytes × ℕ) → List Dot → List ℕ
parts_text vector cloud = text (flat_map vector_line vector ∷ flat_map cloud_line cloud ∷ [])

-- the lines of a context: a set of dots has one cut
pub record IsCutText (context : Context) (said : List ℕ) : Type 0 where
  pub vector : List (Bytes × ℕ)
  pub cloud : List Dot
  pub is_vector : IsVector (has context) vector
  pub is_cloud : IsCloud (has context) cloud
  pub says : said ≡ parts_text vector cloud
