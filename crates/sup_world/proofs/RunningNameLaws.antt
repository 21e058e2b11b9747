-- The names of the nodes that run, one node after another.
use Rattle.std.specs.Prelude.{◌≡◌, ℕ, ◌+◌, ◌<◌, Bool, true, false, cond, List, [], ◌∷◌, ◌++◌, length, map, filter, take, is_some, Option, Some, None, slice_index_or, refl}
use Rattle.std.specs.Borrow.{Bor}
use Rattle.std.specs.Option.{option_map, option_copied}
use Rattle.std.proofs.Common.{sym, ap, ◌∙◌}
use Rattle.std.proofs.lemmas.List.{take_more, map-append, append-nil}
use Rattle.std.proofs.lemmas.List.Elements.{filter-append}
use Rattle.sup_specs.specs.Values.{Bytes}
use Rattle.sup_world.specs.SeenNodes.{SeenNode}
use Rattle.sup_world.specs.Exchanges.{running}

pub node_there : {A B : Type 0} (f : A → B) (o : Option (Bor A)) → is_some (option_map f (option_copied o)) ≡ is_some o
node_there f None = refl
node_there f (Some x) = refl

running_append : (xs ys : List SeenNode) → running (xs ++ ys) ≡ running xs ++ running ys
running_append xs ys =
    ap (map (λ (s : SeenNode). s.name)) (filter-append (λ (s : SeenNode). is_some s.kept_station.node) xs ys)
    ∙ map-append (λ (s : SeenNode). s.name) (filter (λ (s : SeenNode). is_some s.kept_station.node) xs) (filter (λ (s : SeenNode). is_some s.kept_station.node) ys)

module _ {A : Type 0} (f : A → SeenNode) (sites : List A) (i : ℕ) (site : A) (lt : i < length sites) (is : site ≡ slice_index_or sites i site) where
  one_more : running (map f (take (i + 1) sites)) ≡ running (map f (take i sites)) ++ running (f site ∷ [])
  one_more =
      ap (λ (xs : List A). running (map f xs)) (take_more sites i site lt ∙ ap (λ (x : A). take i sites ++ x ∷ []) (sym is))
      ∙ ap running (map-append f (take i sites) (site ∷ [])) ∙ running_append (map f (take i sites)) (f site ∷ [])

  alone : (b : Bool) → is_some (f site).kept_station.node ≡ b → running (f site ∷ []) ≡ cond b ((f site).name ∷ []) []
  alone true e = ap (λ (c : Bool). map (λ (s : SeenNode). s.name) (cond c (f site ∷ []) [])) e
  alone false e = ap (λ (c : Bool). map (λ (s : SeenNode). s.name) (cond c (f site ∷ []) [])) e

  pub one_runs : (names : List Bytes) → is_some (f site).kept_station.node ≡ true → names ≡ running (map f (take i sites)) → names ++ (f site).name ∷ [] ≡ running (map f (take (i + 1) sites))
  one_runs names e h = ap (λ (ns : List Bytes). ns ++ (f site).name ∷ []) h ∙ ap (λ (ns : List Bytes). running (map f (take i sites)) ++ ns) (sym (alone true e)) ∙ sym one_more

  pub one_rests : (names : List Bytes) → is_some (f site).kept_station.node ≡ false → names ≡ running (map f (take i sites)) → names ≡ running (map f (take (i + 1) sites))
  one_rests names e h = h ∙ sym (append-nil (running (map f (take i sites)))) ∙ ap (λ (ns : List Bytes). running (map f (take i sites)) ++ ns) (sym (alone false e)) ∙ sym one_more
