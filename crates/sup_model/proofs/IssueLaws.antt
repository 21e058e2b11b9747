-- What an issued operation adds, if anything, is under the next dot of its node, which it doesn't name.
use Rattle.std.specs.Prelude.{◌≡◌, ◌+◌, ◌≤◌, Bool, true, false, cond, not, ◌||◌, List, [], ◌∷◌, map, filter, refl, Option, Some, None, is_some, Result, Ok}
use Rattle.std.specs.Ordering.{eq_by_cmp}
use Rattle.std.proofs.Common.{sym, ap, ◌∙◌, subst, arith}
use Rattle.std.proofs.lemmas.Option.{none-some}
use mathlib.Core.Bool.{true≢false}
use Rattle.sup_specs.specs.declared.child.ChildSpec.{ChildSpec}
use Rattle.sup_specs.specs.declared.child.Status.TheVariants.{Open}
use Rattle.sup_specs.specs.Values.{Bytes}
use Rattle.sup_specs.specs.Rising.{among}
use Rattle.sup_causal.specs.declared.dot.Dot.{Dot}
use Rattle.sup_causal.specs.Dots.{dot_cmp, dot_eq}
use Rattle.sup_causal.proofs.DotLemmas.{dot_eq-true}
use Rattle.sup_tables.specs.declared.row.Row.{Row}
use Rattle.sup_tables.specs.Rows.{Table, members, children, names, row_cmp, is_at}
use Rattle.sup_tables.specs.Operations.{Operation, added, greatest}
use Rattle.sup_tables.specs.Readers.{is_present, winner, live_dots}
use Rattle.sup_tables.specs.Makers.{put_member, drop_member, drain_over, put_child, replace_child, drop_child, put_name, drop_name, removing}
use Rattle.sup_tables.proofs.AddLaws.{known_of_added, row_itself}
use Rattle.sup_tables.proofs.CoverLaws.{live-parts}
use Rattle.sup_replica.specs.declared.refusal.Refusal.{Refusal}
use Rattle.sup_replica.specs.declared.refusal.Refusal.TheVariants.{AlreadyPresent, NotFound, AlreadyMember, NotMember, NameTaken, NoSuchChild, NameUnknown, DotsSpent, TableFull, AlreadyDraining}
use Rattle.sup_replica.specs.Checks.{refused_if}
use Rattle.sup_replica.specs.Nodes.{Node, by_operations}
use Rattle.sup_replica.specs.Steps.{reading}
use Rattle.sup_replica.specs.Commands.{CommandReading, next, is_full, is_spent, drains, join, leave, drain, start, replace, delete, register, unregister}
use Rattle.sup_model.specs.Worlds.{Ops}
use Rattle.sup_model.proofs.Afters.{After, after-refused_if}
use Rattle.sup_model.specs.Laws.{IsOperation}
use Rattle.sup_model.proofs.TopLaws.{known-greatest}

pub record Issued (r : CommandReading) (op : Operation) : Type 0 where
  pub dot : (x : Row) → op.add ≡ Some x → x.dot ≡ next r
  pub own : IsOperation op

-- it adds a row
pub record Adds (r : CommandReading) (op : Operation) : Type 0 where
  pub issued : Issued r op
  pub row : Row
  pub is : op.add ≡ Some row

-- the live rows of the node have no dot past its greatest counter
abbrev pub IsTop : CommandReading → Type 0
IsTop r = (x : Row) → among row_cmp r.rows x ≡ true → x.dot.node ≡ r.me → x.dot.counter ≤ r.counter

-- the dot of an entry is that of a row
entry_of : (rows : List Row) (p : Row → Bool) (d : Dot) → among dot_cmp (map (λ r. r.dot) (filter p rows)) d ≡ true → (x : Row) × (among row_cmp rows x ≡ true) × (d ≡ x.dot)
entry_of [] p d e = absurd (true≢false (sym e))
entry_of (y ∷ ys) p d e =
    let later : among dot_cmp (map (λ r. r.dot) (filter p ys)) d ≡ true → (x : Row) × (among row_cmp (y ∷ ys) x ≡ true) × (d ≡ x.dot) =
    λ f. let c = entry_of ys p d f in
    (c.0, elim (eq_by_cmp row_cmp c.0 y) as (λ b. (b || among row_cmp ys c.0) ≡ true) [ true ↦ refl | false ↦ c.1 ], c.2) in
    elim (p y) as (λ b. among dot_cmp (map (λ r. r.dot) (cond b (y ∷ filter p ys) (filter p ys))) d ≡ true → (x : Row) × (among row_cmp (y ∷ ys) x ≡ true) × (d ≡ x.dot)) [
      | true ↦ λ f.
          elim (dot_eq d y.dot) as (λ b. dot_eq d y.dot ≡ b → (b || among dot_cmp (map (λ r. r.dot) (filter p ys)) d) ≡ true → (x : Row) × (among row_cmp (y ∷ ys) x ≡ true) × (d ≡ x.dot)) [
            | true ↦ λ s _. (y, ap (λ b. b || among row_cmp ys y) (row_itself y), dot_eq-true d y.dot s)
            | false ↦ λ _ g. later g
          ] refl f
      | false ↦ later
    ] e

next_is_new : (r : CommandReading) → IsTop r → (table : Table) (key : Bytes) → among dot_cmp (live_dots r.rows table key) (next r) ≡ false
next_is_new r top table key =
    elim (among dot_cmp (live_dots r.rows table key) (next r)) as (λ b. among dot_cmp (live_dots r.rows table key) (next r) ≡ b → b ≡ false) [
      | true ↦ λ e.
          let c = entry_of r.rows (is_at table key) (next r) e in
          let h : c.0.dot.counter ≤ r.counter = top c.0 c.1 (ap (λ (d : Dot). d.node) (sym c.2)) in
          let same : r.counter + 1 ≡ c.0.dot.counter = ap (λ (d : Dot). d.counter) c.2 in
          absurd (omega (arith, h, same))
      | false ↦ λ _. refl
    ] refl

pub some_same : {X : Type 0} (x y : X) → Some x ≡ Some y → y ≡ x
some_same x y e = cc

adds : (r : CommandReading) (op : Operation) (x : Row) → op.add ≡ Some x → x.dot ≡ next r → among dot_cmp op.removes (next r) ≡ false → Adds r op
adds r op x e d f = record {
  row = x;
  is = e;
  issued = record {
    dot = λ y g. ap (λ (z : Row). z.dot) (some_same x y (sym e ∙ g)) ∙ d;
    own = λ y g. subst (λ z. among dot_cmp op.removes z ≡ false) (sym (ap (λ (z : Row). z.dot) (some_same x y (sym e ∙ g)) ∙ d)) f;
  };
}

removes_only : (r : CommandReading) (op : Operation) → op.add ≡ None → Issued r op
removes_only r op e = record { dot = λ y g. absurd (none-some y (sym e ∙ g)); own = λ y g. absurd (none-some y (sym e ∙ g)) }

pub join_issued : (r : CommandReading) (label : Bytes) → After (Adds r) (join r label)
join_issued r label =
    let ok : Result Operation Refusal = Ok (put_member (next r) r.me (record { label = label; status = Open })) in
    let second = refused_if (is_spent r) DotsSpent ok in
    let first = refused_if (is_full r) TableFull second in
    after-refused_if (Adds r) (is_present r.rows members r.me) AlreadyMember first
    (after-refused_if (Adds r) (is_full r) TableFull second
    (after-refused_if (Adds r) (is_spent r) DotsSpent ok (adds r (put_member (next r) r.me (record { label = label; status = Open })) _ refl refl refl)))

pub leave_issued : (r : CommandReading) (m : Bytes) → After (Issued r) (leave r m)
leave_issued r m =
    let ok : Result Operation Refusal = Ok (drop_member r.rows m) in
    after-refused_if (Issued r) (not (is_present r.rows members m)) NotMember ok (removes_only r (drop_member r.rows m) refl)

-- by the winner, since where there is none nothing is added
pub drain_issued : (r : CommandReading) (m : Bytes) → IsTop r → After (Adds r) (drain r m)
drain_issued r m top = go (winner r.rows members m) where
  go : (o : Option Row) → After (Adds r) (refused_if (not (is_some o)) NotMember (refused_if (drains o) AlreadyDraining (refused_if (is_spent r) DotsSpent (Ok (drain_over (next r) m (live_dots r.rows members m) o)))))
  go None = tt
  go (Some won) =
      let op = drain_over (next r) m (live_dots r.rows members m) (Some won) in
      let ok : Result Operation Refusal = Ok op in
      let last = refused_if (is_spent r) DotsSpent ok in
      after-refused_if (Adds r) (drains (Some won)) AlreadyDraining last
      (after-refused_if (Adds r) (is_spent r) DotsSpent ok (adds r op _ refl refl (next_is_new r top members m)))

pub start_issued : (r : CommandReading) (id : Bytes) (spec : ChildSpec) → After (Adds r) (start r id spec)
start_issued r id spec =
    let ok : Result Operation Refusal = Ok (put_child (next r) id spec) in
    let second = refused_if (is_spent r) DotsSpent ok in
    let first = refused_if (is_full r) TableFull second in
    after-refused_if (Adds r) (is_present r.rows children id) AlreadyPresent first
    (after-refused_if (Adds r) (is_full r) TableFull second
    (after-refused_if (Adds r) (is_spent r) DotsSpent ok (adds r (put_child (next r) id spec) _ refl refl refl)))

pub replace_issued : (r : CommandReading) (id : Bytes) (spec : ChildSpec) → IsTop r → After (Adds r) (replace r id spec)
replace_issued r id spec top =
    let ok : Result Operation Refusal = Ok (replace_child r.rows (next r) id spec) in
    let first = refused_if (is_spent r) DotsSpent ok in
    after-refused_if (Adds r) (not (is_present r.rows children id)) NotFound first
    (after-refused_if (Adds r) (is_spent r) DotsSpent ok (adds r (replace_child r.rows (next r) id spec) _ refl refl (next_is_new r top children id)))

pub delete_issued : (r : CommandReading) (id : Bytes) → After (Issued r) (delete r id)
delete_issued r id =
    let ok : Result Operation Refusal = Ok (drop_child r.rows id) in
    after-refused_if (Issued r) (not (is_present r.rows children id)) NotFound ok (removes_only r (drop_child r.rows id) refl)

pub register_issued : (r : CommandReading) (name id : Bytes) → After (Adds r) (register r name id)
register_issued r name id =
    let ok : Result Operation Refusal = Ok (put_name (next r) name id) in
    let third = refused_if (is_spent r) DotsSpent ok in
    let second = refused_if (is_full r) TableFull third in
    let first = refused_if (is_present r.rows names name) NameTaken second in
    after-refused_if (Adds r) (not (is_present r.rows children id)) NoSuchChild first
    (after-refused_if (Adds r) (is_present r.rows names name) NameTaken second
    (after-refused_if (Adds r) (is_full r) TableFull third
    (after-refused_if (Adds r) (is_spent r) DotsSpent ok (adds r (put_name (next r) name id) _ refl refl refl))))

pub unregister_issued : (r : CommandReading) (name : Bytes) → After (Issued r) (unregister r name)
unregister_issued r name =
    let ok : Result Operation Refusal = Ok (drop_name r.rows name) in
    after-refused_if (Issued r) (not (is_present r.rows names name)) NameUnknown ok (removes_only r (drop_name r.rows name) refl)

pub removing_issued : (r : CommandReading) (dots : List Dot) → Issued r (removing dots)
removing_issued r dots = removes_only r (removing dots) refl

-- at a node of the model
pub added-greatest : (ops : Ops) (x : Row) → among row_cmp (added ops) x ≡ true → x.dot.counter ≤ greatest ops x.dot.node
added-greatest ops x e = known-greatest ops x.dot (known_of_added ops x e)

pub reading_top : (n : Node Ops) → IsTop (reading by_operations n)
reading_top n x e at = subst (λ node. x.dot.counter ≤ greatest n.known node) at (added-greatest n.known x (live-parts n.known x e).1)
