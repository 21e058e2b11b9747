-- Passes that come back, and what they have seen.
use Rattle.std.specs.Prelude.{◌≡◌, ◌≢◌, ◌==◌, ℕ, Bool, true, false, List, [], ◌∷◌, ◌++◌, map, flat_map, All, Contains, Result, Ok, refl}
use Rattle.std.specs.List.{AllZip, filter}
use Rattle.std.proofs.Common.{sym, ap, ◌∙◌, subst, arith, append-nil}
use Rattle.std.proofs.lemmas.List.{map-append}
use Rattle.std.proofs.lemmas.Grind.{flat_map-append}
use Rattle.std.proofs.lemmas.Bool.Decides.{nat_tests}
use Rattle.sup_placement.specs.declared.weigh.Weigh.{Ghosts as WeighGhosts}
use Rattle.sup_placement.proofs.FindLaws.{Contains-filter}
use Rattle.sup_node_gate.specs.Gates.{view_of}
use Rattle.sup_node_gate.proofs.HistoryListLaws.{prefix_trans}
use Rattle.sup_plan.specs.declared.histories.History.{History}
use Rattle.sup_posts.specs.Jobs.{Seat, IsSeatOf}
use Rattle.sup_posts.specs.declared.thread_fault.ThreadFault.{ThreadFault}
use Rattle.sup_posts.specs.declared.shared_node.SharedNode.{SharedNode}
use Rattle.sup_posts.specs.declared.jobs.Arrived.{Arrived}
use Rattle.sup_posts.specs.declared.jobs.Driven.{Driven}
use Rattle.sup_run_ends.specs.Steps.{IsArrived, BeginsWithSeen, HasSeen, AreTakenApart, ReturnsDriven}
use Rattle.sup_run_ends.proofs.ZipLaws.{zip_right, zip_map}
use Rattle.sup_posts.proofs.ItemLaws.{all_snoc, all_weaken}
use Rattle.sup_run_ends.proofs.RunEndItemLaws.{all_at, contained, stands_in, all_flat, filter_contains}

pub is_same : (a b : ℕ) → a ≡ b → (a == b) ≡ true
is_same a b e = grind (arith, nat_tests)

pub isnt_same : (a b : ℕ) → a ≢ b → (a == b) ≡ false
isnt_same a b e = grind (arith, nat_tests)

pub same_is : (a b : ℕ) → (a == b) ≡ true → a ≡ b
same_is a b e = grind (arith, nat_tests)

module _ {W : Type 0} {h : WeighGhosts W} where
  -- one pass more is joined
  pub seen_more : (ys : List (Arrived W h)) (a : Arrived W h) (s s' : Seat W h) → HasSeen s s' → HasSeen a.seat s'
      → All (λ (b : Arrived W h). HasSeen b.seat s) ys → All (λ (b : Arrived W h). HasSeen b.seat s') (ys ++ a ∷ [])
  seen_more ys a s s' p q all = all_snoc (λ (b : Arrived W h). HasSeen b.seat s') ys a
      (all_weaken (λ (b : Arrived W h). HasSeen b.seat s) (λ (b : Arrived W h). HasSeen b.seat s') (λ b r. prefix_trans (view_of b.seat).seen (view_of s).seen (view_of s').seen r p) ys all) q

  abbrev is_here : ℕ → Arrived W h → Bool
  is_here at a = a.to == at

  -- those of a place
  pub here_all : (Q : Arrived W h → Type 0) (at : ℕ) (arrived here : List (Arrived W h)) → here ≡ filter (λ (a : Arrived W h). a.to == at) arrived
      → All (λ (a : Arrived W h). a.to ≡ at → Q a) arrived → All Q here
  here_all Q at arrived here e all = subst (All Q) (sym e) (all_at Q (filter (is_here at) arrived) (λ i a f.
      let c = filter_contains (is_here at) arrived a (stands_in (filter (is_here at) arrived) i a f) in
      contained (λ (b : Arrived W h). b.to ≡ at → Q b) arrived a all c.0 (same_is a.to at c.1)))

  pub here_back : (Q : Arrived W h → Type 0) (at : ℕ) (arrived here : List (Arrived W h)) → here ≡ filter (λ (a : Arrived W h). a.to == at) arrived
      → All Q here → All (λ (a : Arrived W h). a.to ≡ at → Q a) arrived
  here_back Q at arrived here e all = all_at (λ (a : Arrived W h). a.to ≡ at → Q a) arrived (λ i a f same.
      contained Q here a all (subst (λ l. Contains l a) (sym e) (Contains-filter (is_here at) arrived a (stands_in arrived i a f) (is_same a.to at same))))

  pub begins_all : (joined : Seat W h) (history : History) (here : List (Arrived W h)) → BeginsWithSeen joined history → All (λ (a : Arrived W h). HasSeen a.seat joined) here → All (λ (a : Arrived W h). BeginsWithSeen a.seat history) here
  begins_all joined history here b all =
      all_weaken (λ (a : Arrived W h). HasSeen a.seat joined) (λ (a : Arrived W h). BeginsWithSeen a.seat history) (λ a r. prefix_trans (view_of a.seat).seen (view_of joined).seen history.entries.items r b) here all

  -- one driver more
  pub taken_more : (rs : List (Result (Driven W h) ThreadFault)) (seats seats' : List (Seat W h)) (arrived arrived' : List (Arrived W h)) (r : Result (Driven W h) ThreadFault) (d : Driven W h)
      → r ≡ Ok d → seats' ≡ seats ++ d.seat ∷ [] → arrived' ≡ arrived ++ d.arrived.items → AreTakenApart rs seats arrived → AreTakenApart (rs ++ r ∷ []) seats' arrived'
  taken_more rs seats seats' arrived arrived' r d is own others t = record {
    driven = t.driven ++ d ∷ [];
    all = ap (λ l. l ++ r ∷ []) t.all ∙ ap (λ x. map Ok t.driven ++ x ∷ []) is ∙ sym (map-append Ok t.driven (d ∷ []));
    own = own ∙ ap (λ l. l ++ d.seat ∷ []) t.own ∙ sym (map-append (λ (x : Driven W h). x.seat) t.driven (d ∷ []));
    others = others ∙ ap (λ l. l ++ d.arrived.items) t.others ∙ ap (λ l. flat_map (λ (x : Driven W h). x.arrived.items) t.driven ++ l) (sym (append-nil d.arrived.items)) ∙ sym (flat_map-append (λ (x : Driven W h). x.arrived.items) t.driven (d ∷ []));
  }

  pub none_taken : AreTakenApart {W = W} {h = h} [] [] []
  none_taken = record { driven = []; all = refl; own = refl; others = refl }

  abbrev Back : List (SharedNode W h) → SharedNode W h → Driven W h → Type 0
  Back posts post driven = IsSeatOf post driven.seat × All (IsArrived posts) driven.arrived.items

  back : (posts : List (SharedNode W h)) (results : List (Result (Driven W h) ThreadFault)) (driven : List (Driven W h)) → results ≡ map Ok driven → AllZip (ReturnsDriven posts) posts results → AllZip (Back posts) posts driven
  back posts results driven e z = zip_map (ReturnsDriven posts) Ok posts driven (subst (AllZip (ReturnsDriven posts) posts) e z)

  own_seats : (posts all : List (SharedNode W h)) (driven : List (Driven W h)) → AllZip (Back all) posts driven → AllZip IsSeatOf posts (map (λ (d : Driven W h). d.seat) driven)
  own_seats [] all [] z = tt
  own_seats [] all (d ∷ ds) z = absurd z
  own_seats (p ∷ ps) all [] z = absurd z
  own_seats (p ∷ ps) all (d ∷ ds) z = (z.0.0, own_seats ps all ds z.1)

  pub seats_taken : (posts : List (SharedNode W h)) (results : List (Result (Driven W h) ThreadFault)) (seats : List (Seat W h)) (arrived : List (Arrived W h))
      → AllZip (ReturnsDriven posts) posts results → AreTakenApart results seats arrived → AllZip IsSeatOf posts seats
  seats_taken posts results seats arrived z t = subst (AllZip IsSeatOf posts) (sym t.own) (own_seats posts posts t.driven (back posts results t.driven t.all z))

  pub arrived_taken : (posts : List (SharedNode W h)) (results : List (Result (Driven W h) ThreadFault)) (seats : List (Seat W h)) (arrived : List (Arrived W h))
      → AllZip (ReturnsDriven posts) posts results → AreTakenApart results seats arrived → All (IsArrived posts) arrived
  arrived_taken posts results seats arrived z t = subst (All (IsArrived posts)) (sym t.others)
      (all_flat (IsArrived posts) (λ (d : Driven W h). d.arrived.items) t.driven (λ i d e.
      (zip_right (Back posts) posts t.driven i d (back posts results t.driven t.all z) e).2.1))
