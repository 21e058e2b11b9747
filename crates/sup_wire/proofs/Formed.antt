-- What is written of a whole state has all fields in their forms, and its value reads back.
use Rattle.std.proofs.Common.{◌≡◌, ℕ, ◌+◌, ◌<◌, ◌≤◌, true, List, [], ◌∷◌, length, get_or, refl, sym, subst, lit<, lit≤, arith}
use Rattle.std.specs.List.{AllByRecursion}
use Rattle.std.proofs.lemmas.List.Elements.{recursion_from_All}
use Rattle.sup_specs.specs.Values.{Bytes}
use Rattle.sup_specs.specs.declared.limits.TheConstants.{MAX}
use Rattle.sup_specs.specs.declared.child.Shutdown.{Shutdown}
use Rattle.sup_specs.specs.declared.child.Shutdown.TheVariants.{Brutal, Millis, Infinity}
use Rattle.sup_causal.specs.declared.dot.Dot.{Dot}
use Rattle.sup_causal.specs.Dots.{has, IsCounted}
use Rattle.sup_causal.specs.Cut.{entry}
use Rattle.sup_causal.proofs.CutLaws.{cut_canonical}
use Rattle.sup_tables.specs.declared.row.Entry.{Entry}
use Rattle.sup_tables.specs.declared.row.Entry.TheVariants.{Member, Child, Name}
use Rattle.sup_tables.specs.declared.row.Row.{Row}
use Rattle.sup_tables.specs.States.{State, HasDotsOf}
use Rattle.sup_wire.specs.declared.version.Version.TheVariants.{Two}
use Rattle.sup_wire.specs.Drafts.{TableParts, ack, push, delta, image, IsCut}
use Rattle.sup_wire.specs.Forms.{IsName, IsCount, IsDot, IsNote, IsShutdown, IsEntry, IsRow, IsWritten, AreWritten, AreParts, value_of}
use Rattle.sup_wire.specs.Writing.{ReadsBack}
use Rattle.sup_wire.proofs.ReadBack.{readable_back}
use Rattle.sup_wire.proofs.Readable.{Fits, ShutdownFits, EntryFits, RowFits, PartsFit, context_readable, context_low, rows_are_readable, rows_low}

notes : (es : List (Bytes × ℕ)) → AllByRecursion (λ e. IsName e.0) es → AllByRecursion (λ e. (1 ≤ e.1) × (e.1 ≤ MAX)) es → AllByRecursion IsNote es
notes [] names counts = tt
notes (e ∷ es) names counts = ((names.0, record { least = counts.0.0; most = counts.0.1 }), notes es names.1 counts.1)

dots : (vector : List (Bytes × ℕ)) (ds : List Dot) → AllByRecursion (λ d. IsName d.node) ds → AllByRecursion (λ d. (entry vector d.node + 2 ≤ d.counter) × (d.counter ≤ MAX)) ds → AllByRecursion IsDot ds
dots vector [] names apart = tt
dots vector (d ∷ ds) names apart = let far = apart.0.0 in (record { node = names.0; counter = record { least = omega (arith, far); most = apart.0.1 } }, dots vector ds names.1 apart.1)

rows : (holds : Dot → Type 0) (rs : List Row) → ((d : Dot) → holds d → IsCounted d) → AllByRecursion IsWritten rs → AllByRecursion (λ r. holds r.dot) rs → AllByRecursion (IsRow Two) rs
rows holds [] counted written there = tt
rows holds (r ∷ rs) counted written there =
    let c = counted r.dot there.0 in
    ((written.0.0, record { node = written.0.1; counter = record { least = c.0; most = c.1 } }), rows holds rs counted written.1 there.1)

pub parts_formed : (s : State) (p : TableParts) → ((d : Dot) → has s.context d ≡ true → IsCounted d) → HasDotsOf s.context s.rows → IsCut s p → AreWritten p → AreParts Two p
parts_formed s p counted covered cut written =
    let canonical = cut_canonical (has s.context) counted p.vector p.cloud cut.vector cut.cloud in
    record {
      vector = notes p.vector written.vector canonical.entries;
      cloud = dots p.vector p.cloud written.cloud canonical.apart;
      rows = rows (λ d. has s.context d ≡ true) p.rows counted written.rows
          (recursion_from_All (λ (r : Row). has s.context r.dot ≡ true) p.rows (subst (λ (rs : List Row). (k : ℕ) (d : Row) → k < length rs → has s.context (get_or rs k d).dot ≡ true) (sym cut.rows) covered));
    }

-- ---- numbers that fit 64 bits
note_fits : (es : List (Bytes × ℕ)) → AllByRecursion IsNote es → AllByRecursion (λ e. Fits e.1) es
note_fits [] all = tt
note_fits (e ∷ es) all = (count_fits e.1 all.0.1, note_fits es all.1)
  where
    count_fits : (n : ℕ) → IsCount n → Fits n
    count_fits n is = let m = is.most in omega (arith, m)

dot_fits : (ds : List Dot) → AllByRecursion IsDot ds → AllByRecursion (λ d. Fits d.counter) ds
dot_fits [] all = tt
dot_fits (d ∷ ds) all = (let m = all.0.counter.most in omega (arith, m), dot_fits ds all.1)

shutdown_fits : (s : Shutdown) → IsShutdown s → ShutdownFits s
shutdown_fits Brutal is = tt
shutdown_fits (Millis n) is = omega (arith, is)
shutdown_fits Infinity is = tt

entry_fits : (e : Entry) → IsEntry Two e → EntryFits e
entry_fits (Member m info) is = tt
entry_fits (Child id spec) is = shutdown_fits spec.shutdown is.1.shutdown
entry_fits (Name name id) is = tt

row_fits : (rs : List Row) → AllByRecursion (IsRow Two) rs → AllByRecursion RowFits rs
row_fits [] all = tt
row_fits (r ∷ rs) all = ((let m = all.0.1.counter.most in omega (arith, m), entry_fits r.entry all.0.0), row_fits rs all.1)

pub parts_fit : (s : State) (p : TableParts) → IsCut s p → AreParts Two p → PartsFit p
parts_fit s p cut are = record { by_name = cut.vector.by_name; vector = note_fits p.vector are.vector; cloud = dot_fits p.cloud are.cloud; rows = row_fits p.rows are.rows }

-- ---- whole values
pub ack_back : (from to : Bytes) (n : ℕ) → Fits n → ReadsBack (value_of (ack from to n))
ack_back from to n fits = readable_back (value_of (ack from to n)) (tt, (refl, (refl, (refl, (refl, tt)))), (tt, (refl, (refl, (refl, tt))), (fits, (refl, (refl, tt)), (tt, (refl, tt), (lit< tt, tt, tt))))) (lit≤ tt)

pub push_back : (from to : Bytes) (p : TableParts) → PartsFit p → ReadsBack (value_of (push from to p))
push_back from to p fit =
    let c = context_low p in
    let r = rows_low p.rows in
    readable_back (value_of (push from to p)) (context_readable p fit, (refl, (refl, (refl, (refl, (refl, tt))))), (tt, (refl, (refl, (refl, (refl, tt)))), (tt, (refl, (refl, (refl, tt))), (rows_are_readable p.rows fit.rows, (refl, (refl, tt)), (tt, (refl, tt), (lit< tt, tt, tt)))))) (omega (arith, c, r))

pub delta_back : (from to : Bytes) (n : ℕ) (p : TableParts) → Fits n → PartsFit p → ReadsBack (value_of (delta from to n p))
delta_back from to n p fits fit =
    let c = context_low p in
    let r = rows_low p.rows in
    readable_back (value_of (delta from to n p)) (context_readable p fit, (refl, (refl, (refl, (refl, (refl, (refl, tt)))))), (tt, (refl, (refl, (refl, (refl, (refl, tt))))), (tt, (refl, (refl, (refl, (refl, tt)))), (fits, (refl, (refl, (refl, tt))), (rows_are_readable p.rows fit.rows, (refl, (refl, tt)), (tt, (refl, tt), (lit< tt, tt, tt))))))) (omega (arith, c, r))

pub image_back : (node : Bytes) (boot count : ℕ) (p : TableParts) → Fits boot → Fits count → PartsFit p → ReadsBack (value_of (image node boot count p))
image_back node boot count p fb fc fit =
    let c = context_low p in
    let r = rows_low p.rows in
    readable_back (value_of (image node boot count p)) (fb, (refl, (refl, (refl, (refl, (refl, (refl, tt)))))), (fc, (refl, (refl, (refl, (refl, (refl, tt))))), (context_readable p fit, (refl, (refl, (refl, (refl, tt)))), (tt, (refl, (refl, (refl, tt))), (tt, (refl, (refl, tt)), (rows_are_readable p.rows fit.rows, (refl, tt), (lit< tt, tt, tt))))))) (omega (arith, c, r))
