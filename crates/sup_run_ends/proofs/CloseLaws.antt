-- Histories of gates that are closed one after another.
use Rattle.std.specs.Prelude.{◌≡◌, ◌==◌, ◌≤◌, ◌+◌, ◌⊎◌, ℕ, Bool, true, false, not, List, [], ◌∷◌, ◌++◌, length, map, All, Contains, Some, slice_get, refl}
use Rattle.std.specs.List.{AllZip, filter}
use Rattle.std.proofs.Common.{sym, ap, ◌∙◌, subst, arith, inl, inr, append_assoc, length-append}
use Rattle.std.proofs.lemmas.Option.{slice_get_within}
use Rattle.std.proofs.lemmas.Slice.Zip.{all_zipped_more}
use Rattle.std.proofs.lemmas.Bool.{not_from_false}
use Rattle.sup_placement.specs.declared.weigh.Weigh.{Ghosts as WeighGhosts}
use Rattle.sup_placement.proofs.FindLaws.{Contains-filter}
use Rattle.sup_plan.specs.declared.histories.History.{History}
use Rattle.sup_posts.specs.Jobs.{Seat, IsSeatOf}
use Rattle.sup_posts.specs.declared.shared_node.SharedNode.{SharedNode}
use Rattle.sup_posts.specs.declared.jobs.Arrived.{Arrived}
use Rattle.sup_posts.proofs.ItemLaws.{all_weaken}
use Rattle.sup_posts.specs.Drives.{passes_to}
use Rattle.sup_run_ends.specs.Passes.{of_arrived, IsMadeBy, AreMadeBy}
use Rattle.sup_run_ends.specs.Steps.{IsArrived, BeginsWithSeen, EndsHistory}
use Rattle.sup_run_ends.proofs.RunEndItemLaws.{all_at, contained, stands_in, get_left, get_next, same_place, filter_contains}
use Rattle.sup_run_ends.proofs.JoinedPassLaws.{made_more}
use Rattle.sup_run_ends.proofs.ReturnedPassLaws.{is_same, same_is}
use Rattle.sup_run_ends.proofs.ZipLaws.{zip_same_length}

true_not : (b : Bool) → not b ≡ true → b ≡ true → ⊥
true_not true e f = cc
true_not false e f = cc

above : (n m : ℕ) → n ≤ m → (m ≡ n → ⊥) → n + 1 ≤ m
above n m le ne = omega arith

pub longer : (hs : List History) (k : History) (n m : ℕ) → n ≡ length hs → n + 1 ≤ m → length (hs ++ k ∷ []) ≤ m
longer hs k n m at le = omega (arith, length-append hs (k ∷ []))

pub longer_than : (hs : List History) (k : History) (j : ℕ) → length (hs ++ k ∷ []) ≤ j → length hs + 1 ≤ j
longer_than hs k j le = omega (arith, le, length-append hs (k ∷ []))

module _ {W : Type 0} {h : WeighGhosts W} where
  -- a pass of the gate that is next is of this one
  pub of_next : (posts gone rest : List (SharedNode W h)) (post : SharedNode W h) (n : ℕ) (arrived : List (Arrived W h)) → gone ++ post ∷ rest ≡ posts → n ≡ length gone
      → All (IsArrived posts) arrived → All (λ (a : Arrived W h). a.to ≡ n → IsSeatOf post a.seat) arrived
  of_next posts gone rest post n arrived e at all = all_weaken (IsArrived posts) (λ (a : Arrived W h). a.to ≡ n → IsSeatOf post a.seat) (λ a s same.
      let here : slice_get posts n ≡ Some post = ap (slice_get posts) at ∙ ap (λ l. slice_get l (length gone)) (sym e) ∙ get_next gone rest post in
      subst (λ (p : SharedNode W h). IsSeatOf p a.seat) (same_place posts a.to n s.0 post s.1 here same) s.2) arrived all

  -- the others stood there
  pub others_are : (P : Arrived W h → Type 0) (n : ℕ) (arrived others : List (Arrived W h)) → others ≡ filter (λ (a : Arrived W h). not (a.to == n)) arrived → All P arrived → All P others
  others_are P n arrived others e all = subst (All P) (sym e) (all_at P (filter (λ (a : Arrived W h). not (a.to == n)) arrived) (λ i a f.
      contained P arrived a all (filter_contains (λ (a : Arrived W h). not (a.to == n)) arrived a (stands_in (filter (λ (a : Arrived W h). not (a.to == n)) arrived) i a f)).0))

  pub others_later : (n : ℕ) (arrived others : List (Arrived W h)) → others ≡ filter (λ (a : Arrived W h). not (a.to == n)) arrived
      → All (λ (a : Arrived W h). n ≤ a.to) arrived → All (λ (a : Arrived W h). n + 1 ≤ a.to) others
  others_later n arrived others e all = subst (All (λ (a : Arrived W h). n + 1 ≤ a.to)) (sym e) (all_at (λ (a : Arrived W h). n + 1 ≤ a.to) (filter (λ (a : Arrived W h). not (a.to == n)) arrived) (λ i a f.
      let c = filter_contains (λ (a : Arrived W h). not (a.to == n)) arrived a (stands_in (filter (λ (a : Arrived W h). not (a.to == n)) arrived) i a f) in
      above n a.to (contained (λ (a : Arrived W h). n ≤ a.to) arrived a all c.0) (λ same. true_not (a.to == n) c.1 (is_same a.to n same))))

  -- each pass is among the others, or its history is there
  pub ends_more : (histories : List History) (history : History) (n : ℕ) (arrived others all : List (Arrived W h)) → n ≡ length histories
      → others ≡ filter (λ (a : Arrived W h). not (a.to == n)) arrived → All (λ (a : Arrived W h). a.to ≡ n → BeginsWithSeen a.seat history) arrived
      → All (λ (a : Arrived W h). EndsHistory histories a ⊎ Contains arrived a) all → All (λ (a : Arrived W h). EndsHistory (histories ++ history ∷ []) a ⊎ Contains others a) all
  ends_more histories history n arrived others all at e here before =
      all_weaken (λ (a : Arrived W h). EndsHistory histories a ⊎ Contains arrived a) (λ (a : Arrived W h). EndsHistory (histories ++ history ∷ []) a ⊎ Contains others a) (λ a x. step a x) all before
    where
      old : (a : Arrived W h) → EndsHistory histories a → EndsHistory (histories ++ history ∷ []) a
      old a x = record { history = x.history; stands = get_left histories (history ∷ []) a.to x.history x.stands; begins = x.begins }

      new : (a : Arrived W h) → Contains arrived a → a.to ≡ n → EndsHistory (histories ++ history ∷ []) a
      new a c same = record {
        history = history;
        stands = ap (slice_get (histories ++ history ∷ [])) (same ∙ at) ∙ get_next histories [] history;
        begins = contained (λ (a : Arrived W h). a.to ≡ n → BeginsWithSeen a.seat history) arrived a here c same;
      }

      sort : (a : Arrived W h) → Contains arrived a → (b : Bool) → (a.to == n) ≡ b → EndsHistory (histories ++ history ∷ []) a ⊎ Contains others a
      sort a c true t = inl (new a c (same_is a.to n t))
      sort a c false t = inr (subst (λ l. Contains l a) (sym e) (Contains-filter (λ (a : Arrived W h). not (a.to == n)) arrived a c (not_from_false (a.to == n) t)))

      step : (a : Arrived W h) → EndsHistory histories a ⊎ Contains arrived a → EndsHistory (histories ++ history ∷ []) a ⊎ Contains others a
      step a x = elim x [ inl y ↦ inl (old a y) | inr c ↦ sort a c (a.to == n) refl ]

  -- at the end none is left
  pub ends_all : (posts : List (SharedNode W h)) (histories : List History) (arrived all : List (Arrived W h)) → length posts ≡ length histories
      → All (IsArrived posts) arrived → All (λ (a : Arrived W h). length histories ≤ a.to) arrived
      → All (λ (a : Arrived W h). EndsHistory histories a ⊎ Contains arrived a) all → All (EndsHistory histories) all
  ends_all posts histories arrived all long are later each =
      all_weaken (λ (a : Arrived W h). EndsHistory histories a ⊎ Contains arrived a) (EndsHistory histories) (λ a x. elim x [ inl y ↦ y | inr c ↦ absurd (gone a c) ]) all each
    where
      gone : (a : Arrived W h) → Contains arrived a → ⊥
      gone a c =
          let s = contained (IsArrived posts) arrived a are c in
          let low = slice_get_within posts a.to s.0 s.1 in
          let high = contained (λ (a : Arrived W h). length histories ≤ a.to) arrived a later c in
          omega (arith, low, high, long)

  pub own_more : (n : ℕ) (gone : List (Seat W h)) (seat : Seat W h) (rest rest' all : List (Seat W h)) (histories : List History) (history : History) → rest ≡ seat ∷ rest' → gone ++ rest ≡ all
      → AllZip BeginsWithSeen gone histories → BeginsWithSeen seat history
      → (arrived : List (Arrived W h)) → n ≡ length histories → IsMadeBy seat (passes_to n (map of_arrived arrived)) history → AreMadeBy gone arrived histories
      → (gone' : List (Seat W h)) × (gone' ++ rest' ≡ all) × AllZip BeginsWithSeen gone' (histories ++ history ∷ []) × AreMadeBy gone' arrived (histories ++ history ∷ [])
  own_more n gone seat rest rest' all histories history is e z b arrived at made before = (
    gone ++ seat ∷ [],
    append_assoc gone (seat ∷ []) rest' ∙ ap (λ l. gone ++ l) (sym is) ∙ e,
    all_zipped_more BeginsWithSeen gone histories seat history z b,
    made_more gone seat arrived histories history n (zip_same_length BeginsWithSeen gone histories z ∙ sym at) (sym at) made before,
  )

  pub each_left : (histories : List History) (all : List (Arrived W h)) → All (λ (a : Arrived W h). EndsHistory histories a ⊎ Contains all a) all
  each_left histories all = all_at (λ (a : Arrived W h). EndsHistory histories a ⊎ Contains all a) all (λ i a e. inr (stands_in all i a e))
