-- What effects leave running is what is kept, in its order: over one supervisor.
use Rattle.std.specs.Prelude.{◌≡◌, ℕ, ◌==◌, Bool, true, false, cond, not, ◌&&◌, List, [], ◌∷◌, ◌++◌, filter, map, reverse, Option, Some, None, is_some, refl}
use Rattle.std.specs.List.{IsDistinct, AllByRecursion}
use Rattle.std.specs.Map.{keys_of, lookup, set_value}
use Rattle.std.specs.Str.{bytes_eq}
use Rattle.std.proofs.Common.{sym, ap, ◌∙◌, subst, true≢false, append_assoc}
use Rattle.std.proofs.lemmas.Bool.Decides.{Decides-eqb}
use Rattle.std.proofs.lemmas.List.{append-nil, map-append, reverse-append}
use Rattle.sup_specs.specs.Values.{Bytes}
use Rattle.sup_local_sup.specs.declared.effect.Effect.{Effect}
use Rattle.sup_local_sup.specs.declared.effect.Effect.TheVariants.{Stop as Stops, Start as Starts}
use Rattle.sup_local_sup.specs.declared.effect.Incarnation.{Incarnation}
use Rattle.sup_local_sup.specs.declared.kept.Entry.{Entry}
use Rattle.sup_local_sup.specs.declared.wanted.Wanted.{Wanted}
use Rattle.sup_local_sup.specs.Keeping.{KeptChild, IdsRise, is_wanted, kept_after, effects_of, newly, numbered, start, staying, stop, stops}
use Rattle.sup_local_sup.specs.Planning.{restart_effects, restart_kept}
use Rattle.sup_local_sup.specs.Supervising.{Supervisor, entry_in, inc_eq, others, renewed}
use Rattle.sup_local_sup.proofs.KeepingLaws.{eq-itself, exact_from_eq}
use Rattle.sup_local_sup.proofs.OnceLaws.{kept_once}
use Rattle.sup_model.specs.Starts.{Run, is_run, run_of, runs_of, started_by, with_start, without}
use Rattle.sup_model.proofs.OnceLaws.{IsOnce}

abbrev pub Others : Bytes → List Bytes → Type 0
Others id ids = AllByRecursion (λ y. bytes_eq id y ≡ false) ids

-- none of these runs is of the child
abbrev pub Apart : Bytes → List Run → Type 0
Apart id runs = AllByRecursion (λ (r : Run). bytes_eq id r.id ≡ false) runs

abbrev pub ids_of : List Run → List Bytes
ids_of runs = map (λ (r : Run). r.id) runs

pub ne_flips : (a b : Bytes) → bytes_eq a b ≡ false → bytes_eq b a ≡ false
ne_flips a b h =
    elim (bytes_eq b a) as (λ v. bytes_eq b a ≡ v → v ≡ false) [
      | true ↦ λ e. absurd (true≢false (sym (sym h ∙ ap (bytes_eq a) (exact_from_eq b a e) ∙ eq-itself a)))
      | false ↦ λ e. refl
    ] refl

inc_itself : (i : Incarnation) → inc_eq i i ≡ true
inc_itself i = ap (λ b. b && (i.k == i.k)) ((Decides-eqb i.boot i.boot).1 refl) ∙ (Decides-eqb i.k i.k).1 refl

pub is_itself : (r : Run) → is_run r.id r.inc r ≡ true
is_itself r = ap (λ b. b && inc_eq r.inc r.inc) (eq-itself r.id) ∙ inc_itself r.inc

pub started_append : (runs : List Run) (first then : List Effect) → started_by runs (first ++ then) ≡ started_by (started_by runs first) then
started_append runs [] then = refl
started_append runs (Stops id inc ∷ first) then = started_append (without id inc runs) first then
started_append runs (Starts id inc spec ∷ first) then = started_append (with_start (record { id = id; inc = inc; spec = spec }) runs) first then

without_none : (id : Bytes) (inc : Incarnation) (runs : List Run) → Apart id runs → without id inc runs ≡ runs
without_none id inc [] a = refl
without_none id inc (r ∷ runs) a =
    ap (λ b. cond (not (b && inc_eq r.inc inc)) (r ∷ without id inc runs) (without id inc runs)) a.0 ∙ ap (λ rs. r ∷ rs) (without_none id inc runs a.1)

without_first : (r : Run) (runs : List Run) → Apart r.id runs → without r.id r.inc (r ∷ runs) ≡ runs
without_first r runs a = ap (λ b. cond (not b) (r ∷ without r.id r.inc runs) (without r.id r.inc runs)) (is_itself r) ∙ without_none r.id r.inc runs a

-- runs of what is kept, by their ids
runs_apart : (id : Bytes) (ks : List KeptChild) → Others id (keys_of ks) → Apart id (runs_of ks)
runs_apart id [] a = tt
runs_apart id (k ∷ ks) a = (a.0, runs_apart id ks a.1)

ids_kept : (ks : List KeptChild) → ids_of (runs_of ks) ≡ keys_of ks
ids_kept [] = refl
ids_kept (k ∷ ks) = ap (λ ids. k.0 ∷ ids) (ids_kept ks)

others_all : (id : Bytes) (ks : List KeptChild) → Others id (keys_of ks) → others ks id ≡ ks
others_all id [] a = refl
others_all id (k ∷ ks) a = ap (λ b. cond (not b) (k ∷ others ks id) (others ks id)) a.0 ∙ ap (λ l. k ∷ l) (others_all id ks a.1)

is_this : (inc : Incarnation) (e f : Entry) → entry_in inc (Some f) ≡ Some e → inc_eq f.inc inc ≡ true
is_this inc e f h =
    elim (inc_eq f.inc inc) as (λ b. cond b (Some f) None ≡ Some e → b ≡ true) [
      | true ↦ λ g. refl
      | false ↦ λ g. absurd (true≢false (sym (ap is_some g)))
    ] h

-- without a run of what is kept, the runs of the other children are left
pub runs_without : (id : Bytes) (inc : Incarnation) (ks : List KeptChild) (e : Entry) → entry_in inc (lookup (bytes_eq id) ks) ≡ Some e → IsOnce ks → without id inc (runs_of ks) ≡ runs_of (others ks id)
unfolding IsDistinct
runs_without id inc [] e h once = absurd (true≢false (sym (ap is_some h)))
runs_without id inc (k ∷ ks) e h once = by (bytes_eq id k.0) refl h (λ g. runs_without id inc ks e g once.1)
  where
    by : (b : Bool) → bytes_eq id k.0 ≡ b → entry_in inc (cond b (Some k.1) (lookup (bytes_eq id) ks)) ≡ Some e
        → (entry_in inc (lookup (bytes_eq id) ks) ≡ Some e → without id inc (runs_of ks) ≡ runs_of (others ks id))
        → cond (not (b && inc_eq k.1.inc inc)) (run_of k ∷ without id inc (runs_of ks)) (without id inc (runs_of ks)) ≡ runs_of (cond (not b) (k ∷ others ks id) (others ks id))
    by true is g later =
        let apart : Others id (keys_of ks) = subst (λ i. Others i (keys_of ks)) (sym (exact_from_eq id k.0 is)) once.0 in
        ap (λ b. cond (not b) (run_of k ∷ without id inc (runs_of ks)) (without id inc (runs_of ks))) (is_this inc e k.1 g)
        ∙ without_none id inc (runs_of ks) (runs_apart id ks apart)
        ∙ ap runs_of (sym (others_all id ks apart))
    by false is g later = ap (λ rs. run_of k ∷ rs) (later g)

-- stops, the newest first
pub stops_first : (runs : List Run) (k : KeptChild) (ks : List KeptChild) → started_by runs (reverse (map stop (k ∷ ks))) ≡ without k.0 k.1.inc (started_by runs (reverse (map stop ks)))
stops_first runs k ks = ap (started_by runs) (reverse-append (stop k ∷ []) (map stop ks)) ∙ started_append runs (reverse (map stop ks)) (stop k ∷ [])

stays_first : (r : Run) (runs : List Run) (ks : List KeptChild) → AllByRecursion (λ (k : KeptChild). bytes_eq k.0 r.id ≡ false) ks → started_by (r ∷ runs) (reverse (map stop ks)) ≡ r ∷ started_by runs (reverse (map stop ks))
stays_first r runs [] a = refl
stays_first r runs (k ∷ ks) a =
    let more = started_by runs (reverse (map stop ks)) in
    stops_first (r ∷ runs) k ks
    ∙ ap (without k.0 k.1.inc) (stays_first r runs ks a.1)
    ∙ ap (λ b. cond (not (b && inc_eq r.inc k.1.inc)) (r ∷ without k.0 k.1.inc more) (without k.0 k.1.inc more)) a.0
    ∙ ap (λ rs. r ∷ rs) (sym (stops_first runs k ks))

-- entries with other ids, all of them or some
flipped : (id : Bytes) (p : KeptChild → Bool) (ks : List KeptChild) → Others id (keys_of ks) → AllByRecursion (λ (k : KeptChild). bytes_eq k.0 id ≡ false) (filter p ks)
flipped id p [] a = tt
flipped id p (k ∷ ks) a =
    elim (p k) as (λ b. AllByRecursion (λ (j : KeptChild). bytes_eq j.0 id ≡ false) (cond b (k ∷ filter p ks) (filter p ks))) [
      | true ↦ (ne_flips id k.0 a.0, flipped id p ks a.1)
      | false ↦ flipped id p ks a.1
    ]

some_apart : (id : Bytes) (p : KeptChild → Bool) (ks : List KeptChild) → Others id (keys_of ks) → Apart id (runs_of (filter p ks))
some_apart id p [] a = tt
some_apart id p (k ∷ ks) a =
    elim (p k) as (λ b. Apart id (runs_of (cond b (k ∷ filter p ks) (filter p ks)))) [
      | true ↦ (a.0, some_apart id p ks a.1)
      | false ↦ some_apart id p ks a.1
    ]

-- those that don't stay are stopped
pub stopped_left : (p : KeptChild → Bool) (ks : List KeptChild) → IsOnce ks → started_by (runs_of ks) (reverse (map stop (filter (λ k. not (p k)) ks))) ≡ runs_of (filter p ks)
unfolding IsDistinct
stopped_left p [] once = refl
stopped_left p (k ∷ ks) once =
    let gone = filter (λ (j : KeptChild). not (p j)) ks in
    let first : started_by (run_of k ∷ runs_of ks) (reverse (map stop gone)) ≡ run_of k ∷ runs_of (filter p ks) =
    stays_first (run_of k) (runs_of ks) gone (flipped k.0 (λ j. not (p j)) ks once.0) ∙ ap (λ rs. run_of k ∷ rs) (stopped_left p ks once.1) in
    elim (p k) as (λ b. started_by (run_of k ∷ runs_of ks) (reverse (map stop (cond (not b) (k ∷ gone) gone))) ≡ runs_of (cond b (k ∷ filter p ks) (filter p ks))) [
      | true ↦ first
      | false ↦ stops_first (run_of k ∷ runs_of ks) k gone ∙ ap (without k.0 k.1.inc) first ∙ without_first (run_of k) (runs_of (filter p ks)) (some_apart k.0 p ks once.0)
    ]

pub all_stopped : (ks : List KeptChild) → IsOnce ks → started_by (runs_of ks) (reverse (map stop ks)) ≡ []
unfolding IsDistinct
all_stopped [] once = refl
all_stopped (k ∷ ks) once =
    stops_first (runs_of (k ∷ ks)) k ks
    ∙ ap (without k.0 k.1.inc) (stays_first (run_of k) (runs_of ks) ks (each_flipped k.0 ks once.0) ∙ ap (λ rs. run_of k ∷ rs) (all_stopped ks once.1))
    ∙ without_first (run_of k) [] tt
  where
    each_flipped : (id : Bytes) (js : List KeptChild) → Others id (keys_of js) → AllByRecursion (λ (j : KeptChild). bytes_eq j.0 id ≡ false) js
    each_flipped id [] a = tt
    each_flipped id (j ∷ js) a = (ne_flips id j.0 a.0, each_flipped id js a.1)

-- starts of other children
in_middle : (P : Bytes → Type 0) (ids : List Bytes) (id : Bytes) (rest : List Bytes) → AllByRecursion P (ids ++ id ∷ rest) → P id
in_middle P [] id rest a = a.0
in_middle P (i ∷ ids) id rest a = in_middle P ids id rest a.1

pub others_before : (runs : List Run) (id : Bytes) (rest : List Bytes) → IsDistinct bytes_eq (ids_of runs ++ id ∷ rest) → Apart id runs
unfolding IsDistinct
others_before [] id rest d = tt
others_before (r ∷ runs) id rest d = (ne_flips r.id id (in_middle (λ y. bytes_eq r.id y ≡ false) (ids_of runs) id rest d.0), others_before runs id rest d.1)

pub start_last : (next : Run) (runs : List Run) → Apart next.id runs → with_start next runs ≡ runs ++ next ∷ []
start_last next [] a = refl
start_last next (r ∷ runs) a = ap (λ b. cond b (next ∷ runs) (r ∷ with_start next runs)) a.0 ∙ ap (λ rs. r ∷ rs) (start_last next runs a.1)

-- what has different ids still has them once the first of what is to start stands behind what runs
pub next_apart : (runs : List Run) (k : KeptChild) (ks : List KeptChild) → IsDistinct bytes_eq (ids_of runs ++ keys_of (k ∷ ks)) → IsDistinct bytes_eq (ids_of (runs ++ run_of k ∷ []) ++ keys_of ks)
next_apart runs k ks d =
    let ids : ids_of runs ++ k.0 ∷ keys_of ks ≡ ids_of (runs ++ run_of k ∷ []) ++ keys_of ks =
    sym (append_assoc (ids_of runs) (k.0 ∷ []) (keys_of ks)) ∙ ap (λ l. l ++ keys_of ks) (sym (map-append (λ (r : Run). r.id) runs (run_of k ∷ []))) in
    subst (IsDistinct bytes_eq) ids d

starts_behind : (runs : List Run) (ks : List KeptChild) → IsDistinct bytes_eq (ids_of runs ++ keys_of ks) → started_by runs (map start ks) ≡ runs ++ runs_of ks
starts_behind runs [] d = sym (append-nil runs)
starts_behind runs (k ∷ ks) d =
    ap (λ rs. started_by rs (map start ks)) (start_last (run_of k) runs (others_before runs k.0 (keys_of ks) d))
    ∙ starts_behind (runs ++ run_of k ∷ []) ks (next_apart runs k ks d)
    ∙ append_assoc runs (run_of k ∷ []) (runs_of ks)

-- what is newly wanted is of other children than what stays
pub fresh_apart : (boot given : ℕ) (kept : List KeptChild) (wanted : List Wanted) → IdsRise wanted → IsOnce kept
    → IsDistinct bytes_eq (ids_of (runs_of (staying kept wanted)) ++ keys_of (numbered boot given (newly kept wanted)))
fresh_apart boot given kept wanted rise once =
    let stay = staying kept wanted in
    let fresh = numbered boot given (newly kept wanted) in
    let keys : keys_of (stay ++ fresh) ≡ keys_of stay ++ keys_of fresh = map-append (λ (k : KeptChild). k.0) stay fresh in
    let apart : IsDistinct bytes_eq (keys_of stay ++ keys_of fresh) = subst (IsDistinct bytes_eq) keys (kept_once boot given kept wanted rise once) in
    subst (λ l. IsDistinct bytes_eq (l ++ keys_of fresh)) (sym (ids_kept stay)) apart

-- after a look at what is wanted
pub wanted_starts : (boot given : ℕ) (kept : List KeptChild) (wanted : List Wanted) → IdsRise wanted → IsOnce kept → started_by (runs_of kept) (effects_of boot given kept wanted) ≡ runs_of (kept_after boot given kept wanted)
wanted_starts boot given kept wanted rise once =
    let stay = staying kept wanted in
    let fresh = numbered boot given (newly kept wanted) in
    started_append (runs_of kept) (stops kept wanted) (map start fresh)
    ∙ ap (λ runs. started_by runs (map start fresh)) (stopped_left (is_wanted wanted) kept once)
    ∙ starts_behind (runs_of stay) fresh (fresh_apart boot given kept wanted rise once)
    ∙ sym (map-append run_of stay fresh)

-- a child's next run has the place of its last one
next_in_place : (id : Bytes) (e next : Entry) (ks : List KeptChild) → lookup (bytes_eq id) ks ≡ Some e → with_start (run_of (id, next)) (runs_of ks) ≡ runs_of (set_value (bytes_eq id) ks next)
next_in_place id e next [] h = absurd (true≢false (sym (ap is_some h)))
next_in_place id e next (k ∷ ks) h =
    elim (bytes_eq id k.0) as (λ b. bytes_eq id k.0 ≡ b → cond b (Some k.1) (lookup (bytes_eq id) ks) ≡ Some e
    → cond b (run_of (id, next) ∷ runs_of ks) (run_of k ∷ with_start (run_of (id, next)) (runs_of ks)) ≡ runs_of (cond b ((k.0, next) ∷ ks) (k ∷ set_value (bytes_eq id) ks next))) [
      | true ↦ λ is g. ap (λ i. run_of (i, next) ∷ runs_of ks) (exact_from_eq id k.0 is)
      | false ↦ λ is g. ap (λ rs. run_of k ∷ rs) (next_in_place id e next ks g)
    ] refl h

pub restart_starts : (v : Supervisor) (id : Bytes) (o : Option Entry) → lookup (bytes_eq id) v.kept ≡ o → started_by (runs_of v.kept) (restart_effects v id o) ≡ runs_of (restart_kept v id o)
restart_starts v id None h = refl
restart_starts v id (Some e) h = next_in_place id e (renewed v e) v.kept h
