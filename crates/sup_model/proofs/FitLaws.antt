-- That a supervisor's effects fit what it keeps.
use Rattle.std.specs.Prelude.{◌≡◌, ℕ, Bool, true, false, cond, not, ◌&&◌, ◌||◌, List, [], ◌∷◌, ◌++◌, filter, map, reverse, Option, Some, None, refl}
use Rattle.std.specs.List.{IsDistinct, AllByRecursion, list_any}
use Rattle.std.specs.Map.{keys_of}
use Rattle.std.specs.Str.{bytes_eq}
use Rattle.std.proofs.Common.{ap, ◌∙◌, subst}
use Rattle.std.proofs.lemmas.Bool.{and_from, and_parts, or_right}
use Rattle.std.proofs.lemmas.List.{reverse-append}
use Rattle.std.proofs.lemmas.Map.Made.{IsDistinct-keys_filter}
use Rattle.std.proofs.lemmas.Map.Views.{any-filter_same}
use Rattle.sup_specs.specs.Values.{Bytes}
use Rattle.sup_local_sup.specs.declared.effect.Effect.{Effect}
use Rattle.sup_local_sup.specs.declared.effect.Effect.TheVariants.{Stop as Stops, Start as Starts}
use Rattle.sup_local_sup.specs.declared.effect.Incarnation.{Incarnation}
use Rattle.sup_local_sup.specs.declared.kept.Entry.{Entry}
use Rattle.sup_local_sup.specs.declared.wanted.Wanted.{Wanted}
use Rattle.sup_local_sup.specs.Keeping.{KeptChild, IdsRise, is_wanted, effects_of, newly, numbered, start, staying, stop, stops}
use Rattle.sup_local_sup.specs.Planning.{restart_effects}
use Rattle.sup_local_sup.specs.Supervising.{Supervisor, inc_eq, others}
use Rattle.sup_local_sup.proofs.CountedLaws.{all-filter}
use Rattle.sup_local_sup.proofs.KeepingLaws.{exact_from_eq}
use Rattle.sup_model.specs.Fitting.{fits, has_run}
use Rattle.sup_model.specs.Starts.{Run, is_run, run_of, runs_of, started_by, with_start, without}
use Rattle.sup_model.proofs.EffectLaws.{Apart, Others, fresh_apart, ids_of, is_itself, ne_flips, next_apart, others_before, start_last, stopped_left, stops_first}
use Rattle.sup_model.proofs.OnceLaws.{IsOnce}

pub fits_both : (runs : List Run) (first then : List Effect) → fits runs first ≡ true → fits (started_by runs first) then ≡ true → fits runs (first ++ then) ≡ true
fits_both runs [] then f g = g
fits_both runs (Stops id inc ∷ first) then f g =
    let p = and_parts (list_any (is_run id inc) runs) (fits (without id inc runs) first) f in
    and_from _ _ p.0 (fits_both (without id inc runs) first then p.1 g)
fits_both runs (Starts id inc spec ∷ first) then f g =
    let next = with_start (record { id = id; inc = inc; spec = spec }) runs in
    let p = and_parts (not (has_run id runs)) (fits next first) f in
    and_from _ _ p.0 (fits_both next first then p.1 g)

-- the run of a kept child is there
abbrev IsThere : List Run → KeptChild → Type 0
IsThere runs k = list_any (is_run k.0 k.1.inc) runs ≡ true

there_behind : (r : Run) (runs : List Run) (ks : List KeptChild) → AllByRecursion (IsThere runs) ks → AllByRecursion (IsThere (r ∷ runs)) ks
there_behind r runs [] a = tt
there_behind r runs (k ∷ ks) a = (or_right (is_run k.0 k.1.inc r) _ a.0, there_behind r runs ks a.1)

all_there : (ks : List KeptChild) → AllByRecursion (IsThere (runs_of ks)) ks
all_there [] = tt
all_there (k ∷ ks) = (ap (λ b. b || list_any (is_run k.0 k.1.inc) (runs_of ks)) (is_itself (run_of k)), there_behind (run_of k) (runs_of ks) ks (all_there ks))

-- a run is left where another child's is stopped
still_runs : (id : Bytes) (inc : Incarnation) (k : KeptChild) (r : Run) → bytes_eq id k.0 ≡ false → is_run id inc r ≡ true → not (is_run k.0 k.1.inc r) ≡ true
still_runs id inc k r apart is =
    let same : id ≡ r.id = exact_from_eq id r.id (and_parts (bytes_eq id r.id) (inc_eq r.inc inc) is).0 in
    ap (λ b. not (b && inc_eq r.inc k.1.inc)) (subst (λ i. bytes_eq k.0 i ≡ false) same (ne_flips id k.0 apart))

still_there : (runs : List Run) (id : Bytes) (inc : Incarnation) (ks : List KeptChild) → Others id (keys_of ks) → list_any (is_run id inc) runs ≡ true
    → list_any (is_run id inc) (started_by runs (reverse (map stop ks))) ≡ true
still_there runs id inc [] a h = h
still_there runs id inc (k ∷ ks) a h =
    ap (list_any (is_run id inc)) (stops_first runs k ks)
    ∙ any-filter_same (is_run id inc) (λ (r : Run). not (is_run k.0 k.1.inc r)) true (λ r is. still_runs id inc k r a.0 is) (started_by runs (reverse (map stop ks)))
    ∙ still_there runs id inc ks a.1 h

stops_fit : (runs : List Run) (ks : List KeptChild) → IsOnce ks → AllByRecursion (IsThere runs) ks → fits runs (reverse (map stop ks)) ≡ true
unfolding IsDistinct
stops_fit runs [] once there = refl
stops_fit runs (k ∷ ks) once there =
    ap (fits runs) (reverse-append (stop k ∷ []) (map stop ks))
    ∙ fits_both runs (reverse (map stop ks)) (stop k ∷ []) (stops_fit runs ks once.1 there.1) (ap (λ b. b && true) (still_there runs k.0 k.1.inc ks once.0 there.0))

pub all_stops_fit : (ks : List KeptChild) → IsOnce ks → fits (runs_of ks) (reverse (map stop ks)) ≡ true
all_stops_fit ks once = stops_fit (runs_of ks) ks once (all_there ks)

none_runs : (id : Bytes) (runs : List Run) → Apart id runs → has_run id runs ≡ false
none_runs id [] a = refl
none_runs id (r ∷ runs) a = ap (λ b. b || has_run id runs) a.0 ∙ none_runs id runs a.1

starts_fit : (runs : List Run) (ks : List KeptChild) → IsDistinct bytes_eq (ids_of runs ++ keys_of ks) → fits runs (map start ks) ≡ true
starts_fit runs [] d = refl
starts_fit runs (k ∷ ks) d =
    let apart : Apart k.0 runs = others_before runs k.0 (keys_of ks) d in
    and_from _ _ (ap not (none_runs k.0 runs apart))
    (ap (λ rs. fits rs (map start ks)) (start_last (run_of k) runs apart) ∙ starts_fit (runs ++ run_of k ∷ []) ks (next_apart runs k ks d))

-- after a look at what is wanted
pub wanted_fits : (boot given : ℕ) (kept : List KeptChild) (wanted : List Wanted) → IdsRise wanted → IsOnce kept → fits (runs_of kept) (effects_of boot given kept wanted) ≡ true
wanted_fits boot given kept wanted rise once =
    let goes = λ (k : KeptChild). not (is_wanted wanted k) in
    let stay = staying kept wanted in
    let fresh = numbered boot given (newly kept wanted) in
    fits_both (runs_of kept) (stops kept wanted) (map start fresh)
    (stops_fit (runs_of kept) (filter goes kept) (IsDistinct-keys_filter bytes_eq goes kept once) (all-filter (IsThere (runs_of kept)) goes kept (all_there kept)))
    (ap (λ rs. fits rs (map start fresh)) (stopped_left (is_wanted wanted) kept once) ∙ starts_fit (runs_of stay) fresh (fresh_apart boot given kept wanted rise once))

others_apart : (id : Bytes) (ks : List KeptChild) → Apart id (runs_of (others ks id))
others_apart id [] = tt
others_apart id (k ∷ ks) = by (bytes_eq id k.0) refl (others_apart id ks)
  where
    by : (b : Bool) → bytes_eq id k.0 ≡ b → Apart id (runs_of (others ks id)) → Apart id (runs_of (cond (not b) (k ∷ others ks id) (others ks id)))
    by true is rest = rest
    by false is rest = (is, rest)

-- a child's next run, where its last one has ended
pub restart_fits : (v : Supervisor) (id : Bytes) (o : Option Entry) → fits (runs_of (others v.kept id)) (restart_effects v id o) ≡ true
restart_fits v id None = refl
restart_fits v id (Some e) = ap (λ b. not b && true) (none_runs id (runs_of (others v.kept id)) (others_apart id v.kept))
