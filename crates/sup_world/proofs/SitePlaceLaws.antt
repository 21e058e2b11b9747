-- The node that a name leads to, among those that are seen and those that they stand for.
use Rattle.std.specs.Prelude.{◌≡◌, ℕ, ◌+◌, ◌<◌, true, false, cond, not, List, [], ◌∷◌, length, map, find, slice_index_or, slice_set, suc, Option, Some, None, refl, if◌then◌else◌}
use Rattle.std.specs.List.{AllZip, position_or_len}
use Rattle.std.proofs.Common.{sym, ap, ◌∙◌, subst, arith}
use Rattle.std.proofs.lemmas.Option.{same_Some}
use Rattle.sup_specs.specs.Values.{Bytes}
use Rattle.sup_tables.specs.States.{State}
use Rattle.sup_replica.specs.Nodes.{is_named}
use Rattle.sup_model.specs.Posts.{StationPost}
use Rattle.sup_model.specs.Follows.{NameIsApart, NamesAllDiffer}
use Rattle.sup_world.specs.SeenNodes.{SeenNode}
use Rattle.sup_world.specs.ToldAnswers.{SiteStands}
use Rattle.sup_node.proofs.PlanLaws.{named_itself, named_same}

-- the place of the first of the name
abbrev pub place : List SeenNode → Bytes → ℕ
place sites name = position_or_len (λ s. is_named name s.name) sites

abbrev pub post_in : List (StationPost State) → Bytes → Option (StationPost State)
post_in posts name = find (λ p. is_named name p.station.node.name) posts

abbrev pub name_of : StationPost State → Bytes
name_of p = p.station.node.name

abbrev pub in_place : StationPost State → StationPost State → StationPost State
in_place post p = if is_named (name_of post) (name_of p) then post else p

one_more : (n : ℕ) → 1 + n ≡ suc n
one_more n = omega arith

none_below : 0 < 0 → ⊥
none_below h = omega (arith, h)

-- what stands at the place stands for the post that the name leads to
pub at_place : (sites : List SeenNode) (posts : List (StationPost State)) (name : Bytes) (d : SeenNode) → AllZip SiteStands sites posts → place sites name < length sites
    → (post : StationPost State) × (post_in posts name ≡ Some post) × SiteStands (slice_index_or sites (place sites name) d) post × (name ≡ name_of post)
at_place [] [] name d h lt = absurd (none_below lt)
at_place [] (p ∷ ps) name d h lt = absurd h
at_place (s ∷ ss) [] name d h lt = absurd h
at_place (s ∷ ss) (p ∷ ps) name d h lt =
    elim (is_named name s.name) as (λ b. is_named name (name_of p) ≡ b → cond (not b) (1 + place ss name) 0 < length (s ∷ ss)
    → (post : StationPost State) × (cond (is_named name (name_of p)) (Some p) (post_in ps name) ≡ Some post) × SiteStands (slice_index_or (s ∷ ss) (cond (not b) (1 + place ss name) 0) d) post × (name ≡ name_of post)) [
      | true ↦ λ e f. (p, ap (λ b. cond b (Some p) (post_in ps name)) e, h.0, named_same name (name_of p) e)
      | false ↦ λ e f.
          let r = at_place ss ps name d h.1 (omega (arith, f)) in
          (r.0, ap (λ b. cond b (Some p) (post_in ps name)) e ∙ r.1, subst (λ n. SiteStands (slice_index_or (s ∷ ss) n d) r.0) (sym (one_more (place ss name))) r.2, r.3)
    ] (ap (is_named name) (sym h.0.name)) lt

-- a name that leads past the end is no post's
pub no_place : (sites : List SeenNode) (posts : List (StationPost State)) (name : Bytes) → AllZip SiteStands sites posts → place sites name ≡ length sites → post_in posts name ≡ None
no_place [] [] name h e = refl
no_place [] (p ∷ ps) name h e = absurd h
no_place (s ∷ ss) [] name h e = absurd h
no_place (s ∷ ss) (p ∷ ps) name h e =
    elim (is_named name s.name) as (λ b. is_named name (name_of p) ≡ b → cond (not b) (1 + place ss name) 0 ≡ length (s ∷ ss) → cond (is_named name (name_of p)) (Some p) (post_in ps name) ≡ None) [
      | true ↦ λ t f. absurd (omega (arith, f))
      | false ↦ λ t f. ap (λ b. cond b (Some p) (post_in ps name)) t ∙ no_place ss ps name h.1 (omega (arith, f))
    ] (ap (is_named name) (sym h.0.name)) e

-- a post of another name stays where one is put in its place
keep_others : (post : StationPost State) (ss : List SeenNode) (ps : List (StationPost State)) → NameIsApart (name_of post) (map (λ s. s.name) ss) → AllZip SiteStands ss ps → AllZip SiteStands ss (map (in_place post) ps)
keep_others post [] [] a h = tt
keep_others post [] (p ∷ ps) a h = absurd h
keep_others post (s ∷ ss) [] a h = absurd h
keep_others post (s ∷ ss) (p ∷ ps) a h =
    let e : is_named (name_of post) (name_of p) ≡ false = ap (is_named (name_of post)) (sym h.0.name) ∙ a.0 in
    (subst (λ (x : StationPost State). SiteStands s x) (sym (ap (λ b. if b then post else p) e)) h.0, keep_others post ss ps a.2 h.1)

-- one is put in its place, on both sides
pub set_place : (sites : List SeenNode) (posts : List (StationPost State)) (name : Bytes) (post : StationPost State) (new : SeenNode) → name ≡ name_of post → NamesAllDiffer (map (λ s. s.name) sites) → AllZip SiteStands sites posts
    → place sites name < length sites → SiteStands new post → AllZip SiteStands (slice_set sites (place sites name) new) (map (in_place post) posts)
set_place [] [] name post new n d h lt s = absurd (none_below lt)
set_place [] (p ∷ ps) name post new n d h lt s = absurd h
set_place (x ∷ ss) [] name post new n d h lt s = absurd h
set_place (x ∷ ss) (p ∷ ps) name post new n d h lt s =
    elim (is_named name x.name) as (λ b. is_named name x.name ≡ b → cond (not b) (1 + place ss name) 0 < length (x ∷ ss) → AllZip SiteStands (slice_set (x ∷ ss) (cond (not b) (1 + place ss name) 0) new) (map (in_place post) (p ∷ ps))) [
      | true ↦ λ e f.
          let same : x.name ≡ name_of post = sym (named_same name x.name e) ∙ n in
          let here : is_named (name_of post) (name_of p) ≡ true = ap (λ y. is_named (name_of post) y) (sym h.0.name ∙ same) ∙ named_itself (name_of post) in
          (subst (λ (y : StationPost State). SiteStands new y) (sym (ap (λ b. if b then post else p) here)) s, keep_others post ss ps (subst (λ y. NameIsApart y (map (λ s. s.name) ss)) same d.0) h.1)
      | false ↦ λ e f.
          let other : is_named (name_of post) (name_of p) ≡ false = ap (λ y. is_named y (name_of p)) (sym n) ∙ ap (is_named name) (sym h.0.name) ∙ e in
          subst (λ i. AllZip SiteStands (slice_set (x ∷ ss) i new) (map (in_place post) (p ∷ ps))) (sym (one_more (place ss name)))
          (subst (λ (y : StationPost State). SiteStands x y) (sym (ap (λ b. if b then post else p) other)) h.0, set_place ss ps name post new n d.1 h.1 (omega (arith, f)) s)
    ] refl lt

-- or on one side
pub set_same : (sites : List SeenNode) (posts : List (StationPost State)) (name : Bytes) (post : StationPost State) (new : SeenNode) → AllZip SiteStands sites posts
    → place sites name < length sites → post_in posts name ≡ Some post → SiteStands new post → AllZip SiteStands (slice_set sites (place sites name) new) posts
set_same [] [] name post new h lt e s = absurd (none_below lt)
set_same [] (p ∷ ps) name post new h lt e s = absurd h
set_same (x ∷ ss) [] name post new h lt e s = absurd h
set_same (x ∷ ss) (p ∷ ps) name post new h lt e s =
    elim (is_named name x.name) as (λ b. is_named name (name_of p) ≡ b → cond (not b) (1 + place ss name) 0 < length (x ∷ ss) → AllZip SiteStands (slice_set (x ∷ ss) (cond (not b) (1 + place ss name) 0) new) (p ∷ ps)) [
      | true ↦ λ t f.
          let same : Some p ≡ Some post = sym (ap (λ b. cond b (Some p) (post_in ps name)) t) ∙ e in
          (subst (λ (y : StationPost State). SiteStands new y) (same_Some post p (sym same)) s, h.1)
      | false ↦ λ t f.
          subst (λ i. AllZip SiteStands (slice_set (x ∷ ss) i new) (p ∷ ps)) (sym (one_more (place ss name)))
          (h.0, set_same ss ps name post new h.1 (omega (arith, f)) (sym (ap (λ b. cond b (Some p) (post_in ps name)) t) ∙ e) s)
    ] (ap (is_named name) (sym h.0.name)) lt

-- the names are what they were
pub set_names : (sites : List SeenNode) (name : Bytes) (new : SeenNode) → name ≡ new.name → place sites name < length sites → map (λ (s : SeenNode). s.name) (slice_set sites (place sites name) new) ≡ map (λ (s : SeenNode). s.name) sites
set_names [] name new n lt = absurd (none_below lt)
set_names (x ∷ ss) name new n lt =
    elim (is_named name x.name) as (λ b. is_named name x.name ≡ b → cond (not b) (1 + place ss name) 0 < length (x ∷ ss) → map (λ (s : SeenNode). s.name) (slice_set (x ∷ ss) (cond (not b) (1 + place ss name) 0) new) ≡ x.name ∷ map (λ (s : SeenNode). s.name) ss) [
      | true ↦ λ e f. ap (λ y. y ∷ map (λ (s : SeenNode). s.name) ss) (sym n ∙ named_same name x.name e)
      | false ↦ λ e f. ap (λ i. map (λ (s : SeenNode). s.name) (slice_set (x ∷ ss) i new)) (one_more (place ss name)) ∙ ap (λ ns. x.name ∷ ns) (set_names ss name new n (omega (arith, f)))
    ] refl lt
