-- Passes that are joined one after another, and what they have and called together.
use Rattle.std.specs.Prelude.{◌≡◌, ◌≢◌, ◌+◌, ◌≤◌, ℕ, List, [], ◌∷◌, ◌++◌, length, map, flat_map, Some, slice_get, refl}
use Rattle.std.proofs.Common.{arith, sym, ap, ◌∙◌, subst, append_assoc, append-nil, ⊎_elim}
use Rattle.std.proofs.lemmas.Grind.{flat_map-append}
use Rattle.std.proofs.lemmas.List.{map-append}
use Rattle.std.proofs.lemmas.Option.{slice_get_within}
use mathlib.Core.Option as M
use Rattle.sup_placement.specs.declared.weigh.Weigh.{Ghosts as WeighGhosts}
use Rattle.sup_node_gate.specs.Gates.{view_of}
use Rattle.sup_node_gate.specs.Shuffles.{IsShuffle, IsShuffleOf}
use Rattle.sup_node_gate.specs.Views.{calls_of}
use Rattle.sup_plan.specs.declared.histories.History.{History}
use Rattle.sup_posts.specs.Jobs.{Seat}
use Rattle.sup_posts.specs.declared.jobs.Arrived.{Arrived}
use Rattle.sup_posts.specs.Drives.{passes_to, shares_of}
use Rattle.sup_run_ends.specs.Passes.{of_arrived, calls_by, IsMadeBy, AreMadeBy}
use Rattle.sup_posts.proofs.ItemLaws.{get_snoc}

-- a shuffle of one list more
pub shuffle_more : {A : Type 0} (first : List A) (others : List (List A)) (both ys all : List A) → IsShuffleOf first others both → IsShuffle both ys all → IsShuffleOf first (others ++ ys ∷ []) all
shuffle_more first [] both ys all is s = (all, subst (λ l. IsShuffle l ys all) (sym is) s, refl)
shuffle_more first (xs ∷ others) both ys all is s = (is.0, is.1, shuffle_more is.0 others both ys all is.2 s)

module _ {W : Type 0} {h : WeighGhosts W} where
  abbrev seats_in : List (Arrived W h) → List (Seat W h)
  seats_in = map (λ a. a.seat)

  pub shares_more : (first joined next : Seat W h) (gone : List (Arrived W h)) (a : Arrived W h) → (view_of next).shares ≡ (view_of joined).shares ++ (view_of a.seat).shares
      → (view_of joined).shares ≡ (view_of first).shares ++ shares_of (seats_in gone) → (view_of next).shares ≡ (view_of first).shares ++ shares_of (seats_in (gone ++ a ∷ []))
  shares_more first joined next gone a both old =
      both ∙ ap (λ l. l ++ (view_of a.seat).shares) old ∙ append_assoc (view_of first).shares (shares_of (seats_in gone)) (view_of a.seat).shares
      ∙ ap (λ l. (view_of first).shares ++ l) (ap (λ l. shares_of (seats_in gone) ++ l) (sym (append-nil (view_of a.seat).shares))
      ∙ sym (ap shares_of (map-append (λ (x : Arrived W h). x.seat) gone (a ∷ [])) ∙ flat_map-append (λ (s : Seat W h). (view_of s).shares) (seats_in gone) (a.seat ∷ [])))

  pub calls_more : (first joined next : Seat W h) (gone : List (Arrived W h)) (a : Arrived W h) → IsShuffle (calls_of (view_of joined)) (calls_of (view_of a.seat)) (calls_of (view_of next))
      → IsShuffleOf (calls_of (view_of first)) (calls_by (seats_in gone)) (calls_of (view_of joined)) → IsShuffleOf (calls_of (view_of first)) (calls_by (seats_in (gone ++ a ∷ []))) (calls_of (view_of next))
  calls_more first joined next gone a both old =
      subst (λ l. IsShuffleOf (calls_of (view_of first)) l (calls_of (view_of next)))
      (sym (ap calls_by (map-append (λ (x : Arrived W h). x.seat) gone (a ∷ [])) ∙ map-append (λ (s : Seat W h). calls_of (view_of s)) (seats_in gone) (a.seat ∷ [])))
      (shuffle_more (calls_of (view_of first)) (calls_by (seats_in gone)) (calls_of (view_of joined)) (calls_of (view_of a.seat)) (calls_of (view_of next)) old both)

  -- a history more was made
  pub made_more : (gone : List (Seat W h)) (seat : Seat W h) (arrived : List (Arrived W h)) (histories : List History) (history : History) (n : ℕ) → length gone ≡ n → length histories ≡ n
      → IsMadeBy seat (passes_to n (map of_arrived arrived)) history → AreMadeBy gone arrived histories → AreMadeBy (gone ++ seat ∷ []) arrived (histories ++ history ∷ [])
  made_more gone seat arrived histories history n long_g long_h made before j s k at_s at_k = ⊎_elim
      (λ (l : slice_get gone j ≡ Some s). let low = slice_get_within gone j s l in ⊎_elim (λ (m : slice_get histories j ≡ Some k). before j s k l m)
      (λ (m : (j ≡ length histories) × (history ≡ k)). let e = m.0 in absurd (omega (arith, low, e, long_g, long_h))) (get_snoc histories history k j at_k))
      (λ (r : (j ≡ length gone) × (seat ≡ s)). let at = r.0 in ⊎_elim (λ (m : slice_get histories j ≡ Some k). let low = slice_get_within histories j k m in absurd (omega (arith, low, at, long_g, long_h)))
      (λ (m : (j ≡ length histories) × (history ≡ k)). subst (λ (p : ℕ × Seat W h × History). IsMadeBy p.1 (passes_to p.0 (map of_arrived arrived)) p.2) (λ i. (sym (at ∙ long_g) i, r.1 i, m.1 i)) made)
      (get_snoc histories history k j at_k)) (get_snoc gone seat s j at_s)
