-- A station and its parts, and acts of the one as acts of the other.
use Rattle.std.proofs.Common.{◌≡◌, ◌≢◌, ◌<◌, ◌≤◌, ◌+◌, ℕ, Bool, true, false, List, [], ◌∷◌, ◌++◌, refl, ap, ◌∙◌, sym, subst, arith, Some, None, Ok, Err}
use Rattle.std.specs.Prelude.{Option, Result}
use Rattle.std.specs.Option.{option_map}
use Rattle.sup_specs.specs.Values.{Bytes}
use Rattle.sup_placement.specs.Place.{Weigher}
use Rattle.sup_replica.specs.declared.event.Act.{Act}
use Rattle.sup_replica.specs.declared.refusal.Refusal.{Refusal}
use Rattle.sup_replica.specs.declared.refusal.Refusal.TheVariants.{OutOfMemory, HistoryFull, KeepFailed}
use Rattle.sup_node.specs.declared.node.Node.{Node}
use Rattle.sup_node.specs.Contents.{station_of}
use Rattle.sup_node.specs.NodeStates.{station_in}
use Rattle.sup_station.specs.declared.station.Station.{Station}
use Rattle.sup_node_gate.specs.declared.view.Holding.{Holding}
use Rattle.sup_node_gate.specs.Histories.{StationAnswer, CountedStation, counted_of, is_saved, count_after, RespondsToAct, entered, standing_of, is_entered, may_enter, IsEntered, entry}
use Rattle.sup_node_gate.specs.Parts.{parts_of, counted_in, counted_at, IsLike}
use Rattle.sup_node_gate.specs.Holdings.{AddsEntry, AddsIfRoom, EntersIfMay, SavesAnswer}

states : {W : Type 0} {g : _} (o : Option (Node W g)) → option_map station_in (option_map (λ n. n.state) o) ≡ option_map station_of o
states None = refl
states (Some n) = refl

-- the parts of a station make what is seen of it
pub parts_counted : {K W : Type 0} {g : _} {h : _} (kept : K → Bytes) (failures : K → ℕ) (sound : K → Bool) (s : Station K W g h) → counted_in (parts_of kept failures sound s) ≡ counted_of kept failures s
parts_counted kept failures sound s = ap (λ o. record { kept_station = record { name = s.name; config = s.config; node = o; kept = kept s.keeper }; failures = failures s.keeper }) (states s.node)

-- a count that rises by one at most, and exactly where the refusal says that the keeper failed
pub refused_count : (r : Refusal) (n m : ℕ) → (r ≡ KeepFailed → n < m) → (n < m → r ≡ KeepFailed) → n ≤ m → m ≤ n + 1 → m ≡ count_after (is_saved (Err r)) n
refused_count KeepFailed n m rose told low high = let lt = rose refl in omega arith
refused_count r n m rose told low high = let no : ¬ (n < m) = λ lt. (let e = told lt in cc) in omega arith

same_refusal : {A : Type 0} (r q : Refusal) → (let x : Result A Refusal = Err r in x) ≡ Err q → r ≡ q
same_refusal r q e = cc

-- the same of an answer
pub failed_count : {A : Type 0} (r : Refusal) (n m : ℕ) → ((let x : Result A Refusal = Err r in x) ≡ Err KeepFailed → n < m) → (n < m → (let x : Result A Refusal = Err r in x) ≡ Err KeepFailed) → n ≤ m → m ≤ n + 1
    → m ≡ count_after (is_saved (Err r)) n
failed_count {A = A} r n m rose told low high = refused_count r n m (λ e. rose (ap (λ (q : Refusal). let x : Result A Refusal = Err q in x) e)) (λ lt. same_refusal {A = A} r KeepFailed (told lt)) low high

saved_otherwise : (r : Refusal) → ¬ (r ≡ KeepFailed) → is_saved (Err r) ≡ true
saved_otherwise KeepFailed other = absurd (other refl)
saved_otherwise r other = refl

-- a refusal over a keeper that is sound
pub refused_saves : {A : Type 0} (r : Refusal) (a b : Bool) → (a ≡ true → b ≡ true) → (a ≡ true → (let x : Result A Refusal = Err r in x) ≢ Err KeepFailed) → a ≡ true → (b ≡ true) × (is_saved (Err r) ≡ true)
refused_saves {A = A} r a b stays sound h = (stays h, saved_otherwise r (λ e. sound h (ap (λ (q : Refusal). let x : Result A Refusal = Err q in x) e)))

module _ (g : Weigher) (act : Act) (now : ℕ) where
  pub responds_as : (answer : StationAnswer) (s t x y : CountedStation) → x ≡ s → y ≡ t → RespondsToAct g s act now answer t → RespondsToAct g x act now answer y
  responds_as answer s t x y e f r = subst (λ (z : CountedStation × CountedStation). RespondsToAct g z.0 act now answer z.1) (λ i. (sym e i, sym f i)) r

  -- what is made of a holding is made of one like it
  pub adds_like : (answer : Option StationAnswer) (h k h' : Holding) → IsLike h k → AddsIfRoom g h act now answer h' → AddsIfRoom g k act now answer h'
  adds_like (Some answer) h k h' like x = (
    x.0,
    x.1 ∙ ap (λ (l : List _). l ++ entry act now answer ∷ []) like.0,
    subst (λ (s : CountedStation). RespondsToAct g s act now answer (counted_at h')) like.1 x.2,
    λ s. x.3 (like.2 s),
  )
  adds_like None h k h' like x = (x.0 ∙ like.0, x.1 ∙ like.1, λ s. x.2 (like.2 s))

pub enters : (r : Refusal) → is_entered r ≡ true → standing_of r ≡ entered
enters HistoryFull e = absurd cc
enters OutOfMemory e = absurd cc
enters r e = refl

pub is_told : (answer : StationAnswer) → may_enter answer ≡ true → IsEntered answer
is_told (Ok done) e = tt
is_told (Err r) e = enters r e

-- what isn't entered isn't a failure of the keeper
saved_unless : (r : Refusal) → is_entered r ≡ false → is_saved (Err r) ≡ true
saved_unless KeepFailed e = absurd cc
saved_unless r e = refl

module _ (g : Weigher) (act : Act) (now : ℕ) where
  -- a refused act leaves the station as it was
  unentered : (answer : StationAnswer) (s t : CountedStation) → RespondsToAct g s act now answer t → may_enter answer ≡ false → t ≡ s
  unentered (Ok done) s t r e = absurd cc
  unentered (Err why) s t r e = let still : t.kept_station ≡ s.kept_station = r.goes.0 in let count : t.failures ≡ s.failures = r.count ∙ ap (λ b. count_after b s.failures) (saved_unless why e) in
      (λ i. record { kept_station = still i; failures = count i })

  -- an act that was answered, once its answer was entered
  pub adds : (answer : StationAnswer) (result : Option StationAnswer) (h h' : Holding) → RespondsToAct g (counted_at h) act now answer (counted_at h') → SavesAnswer h.parts answer h'.parts → EntersIfMay h.history act now answer result h'.history → AddsIfRoom g h act now result h'
  adds answer (Some told) h h' r saves x =
      subst (λ (a : StationAnswer). AddsEntry g h act now a h') (sym x.0) (is_told answer x.1, x.2, r, saves)
  adds answer None h h' r saves x = (x.1, unentered answer (counted_at h) (counted_at h') r x.0, λ s. (saves s).0)
