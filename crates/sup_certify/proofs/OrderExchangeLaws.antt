-- Two orders of the same histories: one that has of each node the first entries of what the other has either has all, or the other places an entry where the first
-- one stands, too.
use Rattle.std.specs.Prelude.{◌≡◌, true, false, cond, List, [], ◌∷◌, ◌++◌, map, filter, refl}
use Rattle.std.proofs.Common.{sym, ap, ◌∙◌, subst}
use Rattle.std.proofs.lemmas.List.{append-nil, append_assoc, append_cancel_left}
use mathlib.Core.Logic.{◌⊎◌, inl, inr}
use Rattle.sup_specs.specs.Values.{Bytes}
use Rattle.sup_replica.specs.Nodes.{is_named}
use Rattle.sup_node.proofs.PlanLaws.{named_itself, named_same}
use Rattle.sup_node_gate.specs.declared.entry.Entry.{Entry}
use Rattle.sup_certify.specs.Orders.{PlacedEntry, of_node}

-- ---- what an order has of a node, piece by piece
pub of_node_both : (name : Bytes) (order more : List PlacedEntry) → of_node name (order ++ more) ≡ of_node name order ++ of_node name more
of_node_both name [] more = refl
of_node_both name (q ∷ order) more =
    elim (is_named name q.node) as (λ b. map (λ (r : PlacedEntry). r.entry) (cond b (q ∷ filter (λ (r : PlacedEntry). is_named name r.node) (order ++ more)) (filter (λ (r : PlacedEntry). is_named name r.node) (order ++ more)))
    ≡ map (λ (r : PlacedEntry). r.entry) (cond b (q ∷ filter (λ (r : PlacedEntry). is_named name r.node) order) (filter (λ (r : PlacedEntry). is_named name r.node) order)) ++ of_node name more) [
      | true ↦ ap (λ es. q.entry ∷ es) (of_node_both name order more)
      | false ↦ of_node_both name order more
    ]

pub of_one : (name : Bytes) (p : PlacedEntry) → is_named name p.node ≡ true → of_node name (p ∷ []) ≡ p.entry ∷ []
of_one name p e = ap (λ b. map (λ (r : PlacedEntry). r.entry) (cond b (p ∷ []) [])) e

pub of_none : (name : Bytes) (p : PlacedEntry) → is_named name p.node ≡ false → of_node name (p ∷ []) ≡ []
of_none name p e = ap (λ b. map (λ (r : PlacedEntry). r.entry) (cond b (p ∷ []) [])) e

-- ---- of each node, the first entries of what the other has
abbrev pub Begins : List PlacedEntry → List PlacedEntry → Type 0
Begins order whole = (name : Bytes) → (rest : List Entry) × (of_node name whole ≡ of_node name order ++ rest)

-- an entry of the whole order, behind entries that the other has, too, where the other stands
pub record Exchange (order whole : List PlacedEntry) : Type 0 where
  pub before : List PlacedEntry
  pub next : PlacedEntry
  pub behind : List PlacedEntry
  pub parts : whole ≡ before ++ next ∷ behind
  pub begins : Begins before order
  pub here : of_node next.node order ≡ of_node next.node before

abbrev pub Agrees : List PlacedEntry → List PlacedEntry → Type 0
Agrees order whole = (name : Bytes) → of_node name order ≡ of_node name whole

abbrev same_head : Entry → List Entry → Entry
same_head d [] = d
same_head d (x ∷ xs) = x

begins_more : (order before : List PlacedEntry) (p : PlacedEntry) (fs : List Entry) → Begins before order → of_node p.node order ≡ of_node p.node before ++ p.entry ∷ fs → Begins (before ++ p ∷ []) order
begins_more order before p fs begins is name =
    elim (is_named name p.node) as (λ b. is_named name p.node ≡ b → (rest : List Entry) × (of_node name order ≡ of_node name (before ++ p ∷ []) ++ rest)) [
      | true ↦ λ e.
          let own : of_node name (before ++ p ∷ []) ≡ of_node name before ++ p.entry ∷ [] = of_node_both name before (p ∷ []) ∙ ap (λ es. of_node name before ++ es) (of_one name p e) in
          let there : of_node name order ≡ of_node name before ++ p.entry ∷ fs = subst (λ (n : Bytes). of_node n order ≡ of_node n before ++ p.entry ∷ fs) (sym (named_same name p.node e)) is in
          (fs, there ∙ sym (append_assoc (of_node name before) (p.entry ∷ []) fs) ∙ ap (λ es. es ++ fs) (sym own))
      | false ↦ λ e.
          let none : of_node name (before ++ p ∷ []) ≡ of_node name before = of_node_both name before (p ∷ []) ∙ ap (λ es. of_node name before ++ es) (of_none name p e) ∙ append-nil (of_node name before) in
          ((begins name).0, (begins name).1 ∙ ap (λ es. es ++ (begins name).0) (sym none))
    ] refl

-- what comes next in both is the same
next_same : (order whole before behind : List PlacedEntry) (p : PlacedEntry) (f : Entry) (fs : List Entry) → Begins order whole → whole ≡ before ++ p ∷ behind → of_node p.node order ≡ of_node p.node before ++ f ∷ fs → f ≡ p.entry
next_same order whole before behind p f fs begins parts is =
    let w : of_node p.node whole ≡ of_node p.node before ++ p.entry ∷ of_node p.node behind =
    ap (of_node p.node) parts ∙ of_node_both p.node before (p ∷ behind) ∙ ap (λ es. of_node p.node before ++ es) (of_node_both p.node (p ∷ []) behind ∙ ap (λ es. es ++ of_node p.node behind) (of_one p.node p (named_itself p.node))) in
    let o : of_node p.node whole ≡ of_node p.node before ++ f ∷ (fs ++ (begins p.node).0) =
    (begins p.node).1 ∙ ap (λ es. es ++ (begins p.node).0) is ∙ append_assoc (of_node p.node before) (f ∷ fs) (begins p.node).0 in
    ap (same_head f) (append_cancel_left (of_node p.node before) (f ∷ (fs ++ (begins p.node).0)) (p.entry ∷ of_node p.node behind) (sym o ∙ w))

from : (order whole before rest : List PlacedEntry) → whole ≡ before ++ rest → Begins order whole → Begins before order → Exchange order whole ⊎ Agrees order whole
from order whole before [] parts begins first =
    inr (λ name.
    let all : of_node name whole ≡ of_node name before = ap (of_node name) (parts ∙ append-nil before) in
    let out : of_node name before ++ [] ≡ of_node name before ++ ((first name).0 ++ (begins name).0) =
    append-nil (of_node name before) ∙ sym all ∙ (begins name).1 ∙ ap (λ es. es ++ (begins name).0) (first name).1 ∙ append_assoc (of_node name before) (first name).0 (begins name).0 in
    let none : [] ≡ (first name).0 ++ (begins name).0 = append_cancel_left (of_node name before) [] ((first name).0 ++ (begins name).0) out in
    (first name).1 ∙ ap (λ es. of_node name before ++ es) (front_nil (first name).0 (begins name).0 none) ∙ append-nil (of_node name before) ∙ sym all)
  where
    front_nil : (xs ys : List Entry) → [] ≡ xs ++ ys → xs ≡ []
    front_nil [] ys e = refl
    front_nil (x ∷ xs) ys e = cc
from order whole before (p ∷ rest) parts begins first =
    at (first p.node).0 (first p.node).1 (from order whole (before ++ p ∷ []) rest (parts ∙ sym (append_assoc before (p ∷ []) rest)) begins)
  where
    at : (fs : List Entry) → of_node p.node order ≡ of_node p.node before ++ fs → (Begins (before ++ p ∷ []) order → Exchange order whole ⊎ Agrees order whole) → Exchange order whole ⊎ Agrees order whole
    at [] is on = inl (record { before = before; next = p; behind = rest; parts = parts; begins = first; here = is ∙ append-nil (of_node p.node before) })
    at (f ∷ fs) is on =
        let same : f ≡ p.entry = next_same order whole before rest p f fs begins parts is in
        on (begins_more order before p fs first (subst (λ (x : Entry). of_node p.node order ≡ of_node p.node before ++ x ∷ fs) same is))

pub exchange : (order whole : List PlacedEntry) → Begins order whole → Exchange order whole ⊎ Agrees order whole
exchange order whole begins = from order whole [] whole refl begins (λ name. (of_node name order, refl))
