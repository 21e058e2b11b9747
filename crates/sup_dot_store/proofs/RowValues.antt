-- What a list of the rows of functions under keys has under a key and a dot.
use Rattle.std.specs.Prelude.{◌≡◌, Bool, true, false, ◌&&◌, cond, List, [], ◌∷◌, ◌++◌, Option, Some, None, refl}
use Rattle.std.proofs.Common.{sym, ap, ◌∙◌}
use Rattle.std.specs.declared.cmp.Ordering.{Ordering}
use Rattle.std.specs.Ordering.{eq_by_cmp}
use Rattle.std.specs.Cmp.{IsTotalOrder}
use Rattle.std.specs.List.{IsDistinct}
use Rattle.std.specs.Map.{keys_of, lookup}
use Rattle.std.specs.BTreeMap.{is_at}
use Rattle.std.proofs.lemmas.Cmp.{eq_by_cmp_equiv}
use Rattle.std.proofs.lemmas.Map.{lookup-none}
use Rattle.std.proofs.lemmas.Map.Entries.{none_past_head}
use Rattle.std.proofs.lemmas.Map.Keys.{IsDistinct-tail}
use Rattle.sup_causal.specs.declared.dot.Dot.{Dot}
use Rattle.sup_causal.specs.Dots.{dot_cmp, dot_eq}
use Rattle.sup_dot_store.specs.declared.dot_fun.DotFun.{DotFun}
use Rattle.sup_dot_store.specs.Places.{optional_held}
use Rattle.sup_dot_store.specs.RowLists.{rows_under, rows_of}
use Rattle.sup_dot_store.specs.Index.{value_of, row_value}

module _ {K V : Type 0} {cmp : K → K → Ordering} (total : IsTotalOrder cmp) (k : K) (d : Dot) where
  -- rows of another key tell nothing
  pass : (key : K) (fs : List (Dot × V)) (rows : List (K × Dot × V)) → eq_by_cmp cmp k key ≡ false → row_value cmp (rows_under key fs ++ rows) k d ≡ row_value cmp rows k d
  pass key [] rows e = refl
  pass key (f ∷ fs) rows e = ap (λ b. cond (b && dot_eq d f.0) (Some f.1) (row_value cmp (rows_under key fs ++ rows) k d)) e ∙ pass key fs rows e

  -- rows of the key tell the value of the dot
  stand : (key : K) (fs : List (Dot × V)) (rows : List (K × Dot × V)) → eq_by_cmp cmp k key ≡ true → row_value cmp rows k d ≡ None → row_value cmp (rows_under key fs ++ rows) k d ≡ lookup (is_at (dot_cmp d)) fs
  stand key [] rows e none = none
  stand key (f ∷ fs) rows e none = ap (λ b. cond (b && dot_eq d f.0) (Some f.1) (row_value cmp (rows_under key fs ++ rows) k d)) e ∙ ap (λ o. cond (dot_eq d f.0) (Some f.1) o) (stand key fs rows e none)

  abbrev Under : List (K × DotFun V) → Option V
  Under es = optional_held value_of (lookup (is_at (cmp k)) es) d tt

  first : (e : K × DotFun V) (es : List (K × DotFun V)) (b : Bool) → eq_by_cmp cmp k e.0 ≡ b → (b ≡ true → lookup (is_at (cmp k)) es ≡ None) → row_value cmp (rows_of es) k d ≡ Under es
      → row_value cmp (rows_of (e ∷ es)) k d ≡ Under (e ∷ es)
  first e es true here past rest =
      stand e.0 e.1.values.entries (rows_of es) here (rest ∙ ap (λ o. optional_held value_of o d tt) (past refl)) ∙ sym (ap (λ b. optional_held value_of (cond b (Some e.1) (lookup (is_at (cmp k)) es)) d tt) here)
  first e es false here past rest = pass e.0 e.1.values.entries (rows_of es) here ∙ rest ∙ sym (ap (λ b. optional_held value_of (cond b (Some e.1) (lookup (is_at (cmp k)) es)) d tt) here)

  pub row_value_is : (es : List (K × DotFun V)) → IsDistinct (eq_by_cmp cmp) (keys_of es) → row_value cmp (rows_of es) k d ≡ optional_held value_of (lookup (is_at (cmp k)) es) d tt
  row_value_is [] distinct = refl
  row_value_is (e ∷ es) distinct =
      first e es _ refl (λ here. lookup-none (is_at (cmp k)) es (none_past_head (eq_by_cmp_equiv total) k e es distinct here)) (row_value_is es (IsDistinct-tail (eq_by_cmp cmp) e.0 (keys_of es) distinct))
