-- The value of each draft reads back.
use Rattle.std.proofs.Common.{◌≡◌, ℕ, ◌<◌, ◌≤◌, ◌^◌, max, List, [], ◌∷◌, map, Less, refl, lit≤, arith}
use Rattle.std.specs.List.{AllByRecursion}
use Rattle.std.specs.Map.{keys_of}
use Rattle.sup_specs.specs.Values.{Bytes, text_cmp}
use Rattle.std.specs.List.Sorted.{IsStrictlySortedBy}
use Rattle.sup_specs.specs.declared.child.Restart.{Restart}
use Rattle.sup_specs.specs.declared.child.Restart.TheVariants.{Permanent, Transient, Temporary}
use Rattle.sup_specs.specs.declared.child.Shutdown.{Shutdown}
use Rattle.sup_specs.specs.declared.child.Shutdown.TheVariants.{Brutal, Millis, Infinity}
use Rattle.sup_specs.specs.declared.child.Status.{Status}
use Rattle.sup_specs.specs.declared.child.Status.TheVariants.{Open, Draining}
use Rattle.sup_specs.specs.declared.child.ChildSpec.{ChildSpec}
use Rattle.sup_causal.specs.declared.dot.Dot.{Dot}
use Rattle.sup_tables.specs.declared.row.Entry.{Entry}
use Rattle.sup_tables.specs.declared.row.Entry.TheVariants.{Member, Child, Name}
use Rattle.sup_tables.specs.declared.row.Row.{Row}
use Rattle.serde_json.specs.Data.{Data, depth, items_depth, members_depth}
use Rattle.serde_json.specs.View.{items_of}
use Rattle.sup_wire.specs.declared.version.Version.TheVariants.{Two}
use Rattle.sup_wire.specs.Drafts.{TableParts}
use Rattle.sup_wire.specs.Forms.{dot_value, vector_members, context_value, restart_value, shutdown_value, spec_value, status_value, entry_value, row_value, rows_value}
use Rattle.sup_wire.proofs.ReadBack.{AllAbove, IsReadable, AreReadable, AreMembers}

-- numbers that fit 64 bits
abbrev pub Fits : ℕ → Type 0
Fits n = n < 2 ^ 64

abbrev pub ShutdownFits : Shutdown → Type 0
ShutdownFits Brutal = Unit {0}
ShutdownFits (Millis n) = Fits n
ShutdownFits Infinity = Unit {0}

abbrev pub EntryFits : Entry → Type 0
EntryFits (Member m info) = Unit {0}
EntryFits (Child id spec) = ShutdownFits spec.shutdown
EntryFits (Name name id) = Unit {0}

abbrev pub RowFits : Row → Type 0
RowFits r = Fits r.dot.counter × EntryFits r.entry

-- what parts need so that their value reads back
pub record PartsFit (p : TableParts) : Type 0 where
  pub by_name : IsStrictlySortedBy text_cmp (keys_of p.vector)
  pub vector : AllByRecursion (λ e. Fits e.1) p.vector
  pub cloud : AllByRecursion (λ d. Fits d.counter) p.cloud
  pub rows : AllByRecursion RowFits p.rows

low_max : (a b n : ℕ) → a ≤ n → b ≤ n → max a b ≤ n
low_max a b n p q = omega arith

module _ {X : Type 0} (f : X → Data) where
  each_readable : (xs : List X) → AllByRecursion (λ x. IsReadable (f x)) xs → AreReadable (items_of (map f xs))
  each_readable [] all = tt
  each_readable (x ∷ xs) all = (all.0, each_readable xs all.1)

  each_low : (n : ℕ) (xs : List X) → ((x : X) → depth (f x) ≤ n) → items_depth (items_of (map f xs)) ≤ n
  each_low n [] low = omega arith
  each_low n (x ∷ xs) low = low_max _ _ n (low x) (each_low n xs low)

all_above : (k : Bytes) (es : List (Bytes × ℕ)) → AllByRecursion (λ l. text_cmp k l ≡ Less) (keys_of es) → AllAbove k (vector_members es)
all_above k [] all = tt
all_above k (e ∷ es) all = (all.0, all_above k es all.1)

vector_readable : (es : List (Bytes × ℕ)) → IsStrictlySortedBy text_cmp (keys_of es) → AllByRecursion (λ e. Fits e.1) es → AreMembers (vector_members es)
unfolding IsStrictlySortedBy
vector_readable [] rises fits = tt
vector_readable (e ∷ es) rises fits = (fits.0, all_above e.0 es rises.0, vector_readable es rises.1 fits.1)

vector_low : (es : List (Bytes × ℕ)) → members_depth (vector_members es) ≤ 0
vector_low [] = lit≤ tt
vector_low (e ∷ es) = low_max 0 _ 0 (lit≤ tt) (vector_low es)

dots_readable : (ds : List Dot) → AllByRecursion (λ d. Fits d.counter) ds → AllByRecursion (λ d. IsReadable (dot_value d)) ds
dots_readable [] all = tt
dots_readable (d ∷ ds) all = ((tt, (all.0, tt)), dots_readable ds all.1)

restart_readable : (r : Restart) → IsReadable (restart_value r)
restart_readable Permanent = tt
restart_readable Transient = tt
restart_readable Temporary = tt

shutdown_readable : (s : Shutdown) → ShutdownFits s → IsReadable (shutdown_value s)
shutdown_readable Brutal fits = tt
shutdown_readable (Millis n) fits = fits
shutdown_readable Infinity fits = tt

restart_low : (r : Restart) → depth (restart_value r) ≤ 0
restart_low Permanent = lit≤ tt
restart_low Transient = lit≤ tt
restart_low Temporary = lit≤ tt

shutdown_low : (s : Shutdown) → depth (shutdown_value s) ≤ 0
shutdown_low Brutal = lit≤ tt
shutdown_low (Millis n) = lit≤ tt
shutdown_low Infinity = lit≤ tt

spec_readable : (s : ChildSpec) → ShutdownFits s.shutdown → IsReadable (spec_value s)
spec_readable s fits = (tt, (refl, (refl, (refl, tt))), (tt, (refl, (refl, tt)), (restart_readable s.restart, (refl, tt), (shutdown_readable s.shutdown fits, tt, tt))))

status_readable : (s : Status) → IsReadable (status_value s)
status_readable Open = tt
status_readable Draining = tt

status_low : (s : Status) → depth (status_value s) ≤ 0
status_low Open = lit≤ tt
status_low Draining = lit≤ tt

row_readable : (e : Entry) (d : Dot) → Fits d.counter → EntryFits e → IsReadable (entry_value Two e (dot_value d))
row_readable (Member m info) d fits also = (tt, (tt, ((tt, (fits, tt)), ((tt, (refl, tt), (status_readable info.status, tt, tt)), tt))))
row_readable (Child id spec) d fits also = (tt, (tt, ((tt, (fits, tt)), (spec_readable spec also, tt))))
row_readable (Name name id) d fits also = (tt, (tt, ((tt, (fits, tt)), (tt, tt))))

rows_readable : (rows : List Row) → AllByRecursion RowFits rows → AllByRecursion (λ r. IsReadable (row_value Two r)) rows
rows_readable [] all = tt
rows_readable (r ∷ rows) all = (row_readable r.entry r.dot all.0.0 all.0.1, rows_readable rows all.1)

row_low : (e : Entry) (d : Dot) → depth (entry_value Two e (dot_value d)) ≤ 2
row_low (Member m info) d = let s = status_low info.status in omega arith
row_low (Child id spec) d = let r = restart_low spec.restart in let s = shutdown_low spec.shutdown in omega arith
row_low (Name name id) d = lit≤ tt

pub context_readable : (p : TableParts) → PartsFit p → IsReadable (context_value p)
context_readable p fit = (each_readable dot_value p.cloud (dots_readable p.cloud fit.cloud), (refl, tt), (vector_readable p.vector fit.by_name fit.vector, tt, tt))

pub context_low : (p : TableParts) → depth (context_value p) ≤ 3
context_low p =
    let c = each_low dot_value 1 p.cloud (λ d. lit≤ tt) in
    let n = vector_low p.vector in
    omega (arith, c, n)

pub rows_low : (rows : List Row) → depth (rows_value Two rows) ≤ 3
rows_low rows = let r = each_low (row_value Two) 2 rows (λ r. row_low r.entry r.dot) in omega (arith, r)

pub rows_are_readable : (rows : List Row) → AllByRecursion RowFits rows → IsReadable (rows_value Two rows)
rows_are_readable rows all = each_readable (row_value Two) rows (rows_readable rows all)
