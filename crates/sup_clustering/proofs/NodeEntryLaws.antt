-- The entries of each node in its history, and in orders of some or all entries.
use Rattle.std.specs.Prelude.{◌≡◌, ◌<◌, ◌+◌, ℕ, Bool, true, false, cond, ◌||◌, List, [], ◌∷◌, ◌++◌, length, take, drop, slice_get, slice_index, Some, refl}
use Prim.Native.Nat.{zero, suc}
use Rattle.std.specs.List.{AllZip, AllByRecursion, list_any}
use Rattle.std.proofs.Common.{sym, ap, ◌∙◌, subst, arith}
use Rattle.std.proofs.lemmas.List.{take-append-drop, length-append, append-nil}
use Rattle.std.proofs.lemmas.Option.{none-some, same_Some}
use mathlib.Core.Bool.{true≢false}
use Rattle.sup_specs.specs.Values.{Bytes}
use Rattle.sup_replica.specs.Nodes.{is_named}
use Rattle.sup_keeper.specs.Keeping.{most}
use Rattle.sup_node.proofs.PlanLaws.{named_itself, named_same}
use Rattle.sup_node_gate.specs.declared.entry.Entry.{Entry}
use Rattle.sup_plan.specs.declared.histories.History.{History}
use Rattle.sup_model.specs.Follows.{NameIsApart, NamesAllDiffer}
use Rattle.sup_certify.specs.Orders.{PlacedEntry, of_node, is_among}
use Rattle.sup_certify.specs.Progress.{IsPlaced, names_of}
use Rattle.sup_certify.proofs.OrderExchangeLaws.{of_node_both, of_none}

-- ---- names
-- a name among others isn't one that stands apart from all of them
pub apart_among : (name other : Bytes) (others : List Bytes) → NameIsApart other others → list_any (is_named name) others ≡ true → is_named name other ≡ false
apart_among name other [] a e = absurd (true≢false (sym e))
apart_among name other (o ∷ os) a e =
    elim (is_named name o) as (λ b. is_named name o ≡ b → (b || list_any (is_named name) os) ≡ true → is_named name other ≡ false) [
      | true ↦ λ t f. ap (λ n. is_named n other) (named_same name o t) ∙ a.1
      | false ↦ λ t f. apart_among name other os a.2 f
    ] refl e

-- one of the histories is a node's where the node is one of theirs
pub among_names : (hs : List History) (name : Bytes) → list_any (is_named name) (names_of hs) ≡ is_among hs name
among_names [] name = refl
among_names (h ∷ hs) name = ap (λ t. is_named name h.node || t) (among_names hs name)

abbrev pub IsOfThese : List History → PlacedEntry → Type 0
IsOfThese hs p = is_among hs p.node ≡ true

pub all_among : (hs : List History) (names : List Bytes) → names_of hs ≡ names → (order : List PlacedEntry) → AllByRecursion (IsOfThese hs) order → AllByRecursion (λ (p : PlacedEntry). list_any (is_named p.node) names ≡ true) order
all_among hs names e [] h = tt
all_among hs names e (p ∷ order) h = (ap (list_any (is_named p.node)) (sym e) ∙ among_names hs p.node ∙ h.0, all_among hs names e order h.1)

-- ---- what a node's history has
abbrev pub own : List History → Bytes → List Entry
own [] name = []
own (h ∷ hs) name = cond (is_named name h.node) h.entries.items (own hs name)

apart_from : (x : Bytes) (hs : List History) (i : ℕ) (h : History) → NameIsApart x (names_of hs) → slice_get hs i ≡ Some h → is_named h.node x ≡ false
apart_from x [] i h a e = absurd (none-some h e)
apart_from x (k ∷ hs) zero h a e = subst (λ (y : History). is_named y.node x ≡ false) (same_Some k h e) a.1
apart_from x (k ∷ hs) (suc i) h a e = apart_from x hs i h a.2 e

pub own_there : (hs : List History) (i : ℕ) (h : History) → NamesAllDiffer (names_of hs) → slice_get hs i ≡ Some h → own hs h.node ≡ h.entries.items
own_there [] i h d e = absurd (none-some h e)
own_there (x ∷ hs) zero h d e =
    let same : x ≡ h = same_Some x h e in
    ap (λ (b : Bool). cond b x.entries.items (own hs h.node)) (ap (λ (y : History). is_named h.node y.node) same ∙ named_itself h.node) ∙ ap (λ (y : History). y.entries.items) same
own_there (x ∷ hs) (suc i) h d e = ap (λ (b : Bool). cond b x.entries.items (own hs h.node)) (apart_from x.node hs i h d.0 e) ∙ own_there hs i h d.1 e

pub among_there : (hs : List History) (i : ℕ) (h : History) → slice_get hs i ≡ Some h → is_among hs h.node ≡ true
among_there [] i h e = absurd (none-some h e)
among_there (x ∷ hs) zero h e = ap (λ (b : Bool). b || is_among hs h.node) (ap (λ (y : History). is_named h.node y.node) (same_Some x h e) ∙ named_itself h.node)
among_there (x ∷ hs) (suc i) h e =
    elim (is_named h.node x.node) as (λ b. (b || is_among hs h.node) ≡ true) [ true ↦ refl | false ↦ among_there hs i h e ]

none_own : (hs : List History) (name : Bytes) → is_among hs name ≡ false → own hs name ≡ []
none_own [] name e = refl
none_own (h ∷ hs) name e =
    elim (is_named name h.node) as (λ b. (b || is_among hs name) ≡ false → cond b h.entries.items (own hs name) ≡ []) [
      | true ↦ λ f. absurd (true≢false f)
      | false ↦ λ f. none_own hs name f
    ] e

-- it is shorter than what a keeper can count
own_few : (hs : List History) (name : Bytes) → length (own hs name) < most
own_few [] name = omega arith
own_few (h ∷ hs) name =
    elim (is_named name h.node) as (λ b. length (cond b h.entries.items (own hs name)) < most) [
      | true ↦ omega (arith, h.entries.ok.0, h.entries.ok.1, h.entries.small)
      | false ↦ own_few hs name
    ]

-- ---- orders
none_of : (name : Bytes) (hs : List History) → is_among hs name ≡ false → (order : List PlacedEntry) → AllByRecursion (IsOfThese hs) order → of_node name order ≡ []
none_of name hs none [] among = refl
none_of name hs none (p ∷ order) among =
    elim (is_named name p.node) as (λ b. is_named name p.node ≡ b → of_node name (p ∷ order) ≡ []) [
      | true ↦ λ t. absurd (true≢false (sym among.0 ∙ ap (is_among hs) (sym (named_same name p.node t)) ∙ none))
      | false ↦ λ t. of_node_both name (p ∷ []) order ∙ ap (λ es. es ++ of_node name order) (of_none name p t) ∙ none_of name hs none order among.1
    ] refl

-- an order has of each node a front of what its history has
abbrev pub HasFronts : (Bytes → List Entry) → List PlacedEntry → Type 0
HasFronts all order = (name : Bytes) → (rest : List Entry) × (all name ≡ of_node name order ++ rest)

pub few_in : (hs : List History) (order : List PlacedEntry) → HasFronts (own hs) order → (name : Bytes) → length (of_node name order) < most
few_in hs order fronts name =
    let all = own_few hs name in
    let parts : length (own hs name) ≡ length (of_node name order) + length (fronts name).0 = ap length (fronts name).1 ∙ length-append (of_node name order) (fronts name).0 in
    omega (arith, all, parts)

front_at : (order : List PlacedEntry) (hs : List History) (ns : List ℕ) → AllZip (IsPlaced order) hs ns → (name : Bytes) → is_among hs name ≡ true → (rest : List Entry) × (own hs name ≡ of_node name order ++ rest)
front_at order [] ns z name e = absurd (true≢false (sym e))
front_at order (h ∷ hs) [] z name e = absurd z
front_at order (h ∷ hs) (n ∷ ns) z name e =
    elim (is_named name h.node) as (λ t. is_named name h.node ≡ t → (t || is_among hs name) ≡ true → (rest : List Entry) × (cond t h.entries.items (own hs name) ≡ of_node name order ++ rest)) [
      | true ↦ λ t f.
          let first : of_node name order ≡ take n h.entries.items = ap (λ m. of_node m order) (named_same name h.node t) ∙ z.0 in
          (drop n h.entries.items, sym (take-append-drop n h.entries.items) ∙ ap (λ es. es ++ drop n h.entries.items) (sym first))
      | false ↦ λ t f. front_at order hs ns z.1 name f
    ] refl e

-- an order of the first entries of each history
pub fronts_placed : (order : List PlacedEntry) (hs : List History) (ns : List ℕ) → AllZip (IsPlaced order) hs ns → AllByRecursion (IsOfThese hs) order → HasFronts (own hs) order
fronts_placed order hs ns z only name =
    elim (is_among hs name) as (λ t. is_among hs name ≡ t → (rest : List Entry) × (own hs name ≡ of_node name order ++ rest)) [
      | true ↦ λ e. front_at order hs ns z name e
      | false ↦ λ e. ([], none_own hs name e ∙ sym (none_of name hs e order only) ∙ sym (append-nil (of_node name order)))
    ] refl

pub placed_there : (order : List PlacedEntry) (hs : List History) (ns : List ℕ) (i : ℕ) (h : History) → AllZip (IsPlaced order) hs ns → slice_get hs i ≡ Some h → of_node h.node order ≡ take (slice_index ns i) h.entries.items
placed_there order [] ns i h z e = absurd (none-some h e)
placed_there order (x ∷ hs) [] i h z e = absurd z
placed_there order (x ∷ hs) (n ∷ ns) zero h z e = subst (λ (y : History). of_node y.node order ≡ take n y.entries.items) (same_Some x h e) z.0
placed_there order (x ∷ hs) (n ∷ ns) (suc i) h z e = placed_there order hs ns i h z.1 e

-- an order of all entries
abbrev pub HasAll : List PlacedEntry → History → Type 0
HasAll order h = of_node h.node order ≡ h.entries.items

all_at : (order : List PlacedEntry) (hs : List History) → AllByRecursion (HasAll order) hs → (name : Bytes) → is_among hs name ≡ true → own hs name ≡ of_node name order
all_at order [] w name e = absurd (true≢false (sym e))
all_at order (h ∷ hs) w name e =
    elim (is_named name h.node) as (λ t. is_named name h.node ≡ t → (t || is_among hs name) ≡ true → cond t h.entries.items (own hs name) ≡ of_node name order) [
      | true ↦ λ t f. sym (ap (λ m. of_node m order) (named_same name h.node t) ∙ w.0)
      | false ↦ λ t f. all_at order hs w.1 name f
    ] refl e

pub all_own : (order : List PlacedEntry) (hs : List History) → AllByRecursion (HasAll order) hs → AllByRecursion (IsOfThese hs) order → (name : Bytes) → own hs name ≡ of_node name order
all_own order hs w only name =
    elim (is_among hs name) as (λ t. is_among hs name ≡ t → own hs name ≡ of_node name order) [
      | true ↦ λ e. all_at order hs w name e
      | false ↦ λ e. none_own hs name e ∙ sym (none_of name hs e order only)
    ] refl

pub fronts_all : (order : List PlacedEntry) (hs : List History) → AllByRecursion (HasAll order) hs → AllByRecursion (IsOfThese hs) order → HasFronts (own hs) order
fronts_all order hs w only name = ([], all_own order hs w only name ∙ sym (append-nil (of_node name order)))
