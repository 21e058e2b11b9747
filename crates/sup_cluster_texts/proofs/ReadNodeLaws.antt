-- The nodes of a script that was read: 2 to 5, and each has a name of its own.
use Rattle.std.proofs.Common.{◌≡◌, ℕ, ◌≤◌, suc, true, ◌&&◌, not, nat_le, List, [], ◌∷◌, length, Some, sym, ap, ◌∙◌, subst, codes, arith}
use Rattle.std.specs.List.{list_any, IsDistinct}
use Rattle.std.specs.Str.{bytes_eq}
use Rattle.std.specs.Cmp.Lexicographic.{nat_list_eq_equiv}
use Rattle.std.proofs.lemmas.Bool.Decides.{nat_tests}
use Rattle.std.proofs.lemmas.Option.{none-some, same_Some, option_and_then_some}
use Rattle.std.proofs.lemmas.Map.Keys.{IsDistinct-cons}
use Rattle.std.proofs.lemmas.Bool.{and_parts, not-true}
use Rattle.sup_lines.specs.Words.{Word, Name}
use Rattle.sup_lines.specs.Values.{node_name_of}
use Rattle.sup_lines.specs.Opening.{are_distinct, distinct_names_of, if_distinct, names_of, nodes_within}
use Rattle.sup_lines.specs.Script.{is_plain, words_of, opening_within}
use Rattle.sup_cluster_lines.specs.Nodes.{opening_of}
use Rattle.sup_cluster_texts.proofs.ChoiceLaws.{chosen}
use Rattle.sup_plan.proofs.ApartItemLaws.{unfound}

differ : (names : List Name) → are_distinct names ≡ true → IsDistinct bytes_eq names
unfolding IsDistinct
differ [] h = tt
differ (name ∷ names) h =
    let parts = and_parts (not (list_any (λ other. bytes_eq other name) names)) (are_distinct names) h in
    IsDistinct-cons bytes_eq name names (unfound bytes_eq bytes_eq nat_list_eq_equiv.symm name names (not-true _ parts.0)) (differ names parts.1)

counted : (words : List Word) (names : List Name) → names_of words ≡ Some names → length names ≡ length words
counted [] names h = ap length (sym (same_Some [] names h))
counted (word ∷ words) names h = option_and_then_some _ (node_name_of word) names h (λ name is h'.
    option_and_then_some _ (names_of words) names h' (λ others are h''.
    sym (ap length (same_Some (name ∷ others) names h'')) ∙ ap suc (counted words others are)))

pub record AreFew (nodes : List Name) : Type 0 where
  pub few : (2 ≤ length nodes) × (length nodes ≤ 5)
  pub distinct : IsDistinct bytes_eq nodes

reached : (n k : ℕ) → nat_le n k ≡ true → n ≤ k
reached n k h = grind (arith, nat_tests)

named : (words : List Word) (nodes : List Name) → distinct_names_of words ≡ Some nodes → (length nodes ≡ length words) × IsDistinct bytes_eq nodes
named words nodes h = option_and_then_some if_distinct (names_of words) nodes h (λ names are h'.
    let taken = chosen (are_distinct names) (Some names) nodes h' in
    let same : names ≡ nodes = same_Some names nodes taken.1 in
    subst (λ l. (length l ≡ length words) × IsDistinct bytes_eq l) same (counted words names are, differ names taken.0))

few : (words : List Word) (nodes : List Name) → nodes_within 2 5 words ≡ Some nodes → AreFew nodes
few [] nodes h = absurd (none-some nodes h)
few (verb ∷ words) nodes h =
    let taken = chosen (bytes_eq verb (codes "nodes") && nat_le 2 (length words) && nat_le (length words) 5) (distinct_names_of words) nodes h in
    let front = and_parts (bytes_eq verb (codes "nodes") && nat_le 2 (length words)) (nat_le (length words) 5) taken.0 in
    let second = and_parts (bytes_eq verb (codes "nodes")) (nat_le 2 (length words)) front.0 in
    let are = named words nodes taken.1 in
    record {
      few = (subst (λ n. 2 ≤ n) (sym are.0) (reached 2 (length words) second.1), subst (λ n. n ≤ 5) (sym are.0) (reached (length words) 5 front.1));
      distinct = are.1;
    }

pub opened_few : (bytes : List ℕ) (nodes : List Name) → opening_of bytes ≡ Some nodes → AreFew nodes
unfolding opening_within
opened_few bytes nodes h = few (words_of bytes) nodes (chosen (is_plain bytes) (nodes_within 2 5 (words_of bytes)) nodes h).1
