-- Passes picked by the place of their gate's node.
use Rattle.std.specs.Prelude.{◌≡◌, ◌≢◌, ◌==◌, not, ℕ, Bool, true, false, cond, List, [], ◌∷◌, ◌++◌, map, All, refl}
use Rattle.std.specs.List.{filter}
use Rattle.std.proofs.Common.{arith, sym, ap, ◌∙◌}
use Rattle.std.proofs.lemmas.List.{map-append}
use Rattle.std.proofs.lemmas.List.Elements.{All-tail, filter-append}
use Rattle.sup_placement.specs.declared.weigh.Weigh.{Ghosts as WeighGhosts}
use Rattle.sup_posts.specs.Jobs.{Seat}
use Rattle.sup_posts.specs.declared.jobs.Arrived.{Arrived}
use Rattle.sup_posts.specs.Drives.{passes_to}
use Rattle.sup_run_ends.specs.Passes.{of_arrived}
use Rattle.sup_run_ends.proofs.ReturnedPassLaws.{is_same, isnt_same, same_is}

module _ {W : Type 0} {h : WeighGhosts W} where
  pub passes_append : (j : ℕ) (xs ys : List (ℕ × Seat W h)) → passes_to j (xs ++ ys) ≡ passes_to j xs ++ passes_to j ys
  passes_append j xs ys = ap (map (λ (p : ℕ × Seat W h). p.1)) (filter-append (λ (p : ℕ × Seat W h). p.0 == j) xs ys)
      ∙ map-append (λ (p : ℕ × Seat W h). p.1) (filter (λ (p : ℕ × Seat W h). p.0 == j) xs) (filter (λ (p : ℕ × Seat W h). p.0 == j) ys)

  abbrev picked : ℕ → ℕ × Seat W h → List (ℕ × Seat W h) → Bool → List (Seat W h)
  picked j p ps b = map (λ (q : ℕ × Seat W h). q.1) (cond b (p ∷ filter (λ (q : ℕ × Seat W h). q.0 == j) ps) (filter (λ (q : ℕ × Seat W h). q.0 == j) ps))

  pub pass_here : (j : ℕ) (p : ℕ × Seat W h) (ps : List (ℕ × Seat W h)) → p.0 ≡ j → passes_to j (p ∷ ps) ≡ p.1 ∷ passes_to j ps
  pass_here j p ps e = ap (picked j p ps) (is_same p.0 j e)

  pub pass_apart : (j : ℕ) (p : ℕ × Seat W h) (ps : List (ℕ × Seat W h)) → p.0 ≢ j → passes_to j (p ∷ ps) ≡ passes_to j ps
  pass_apart j p ps e = ap (picked j p ps) (isnt_same p.0 j e)

  pub passes_here : (j : ℕ) (ps : List (ℕ × Seat W h)) → All (λ (p : ℕ × Seat W h). p.0 ≡ j) ps → passes_to j ps ≡ map (λ (p : ℕ × Seat W h). p.1) ps
  passes_here j [] all = refl
  passes_here j (p ∷ ps) all = pass_here j p ps (all 0 p (omega arith)) ∙ ap (λ l. p.1 ∷ l) (passes_here j ps (All-tail (λ (q : ℕ × Seat W h). q.0 ≡ j) p ps all))

  pub passes_apart : (j : ℕ) (ps : List (ℕ × Seat W h)) → All (λ (p : ℕ × Seat W h). p.0 ≢ j) ps → passes_to j ps ≡ []
  passes_apart j [] all = refl
  passes_apart j (p ∷ ps) all = pass_apart j p ps (all 0 p (omega arith)) ∙ passes_apart j ps (All-tail (λ (q : ℕ × Seat W h). q.0 ≢ j) p ps all)

  -- those that came back to a place
  pub passes_arrived : (j : ℕ) (arrived : List (Arrived W h)) → passes_to j (map of_arrived arrived) ≡ map (λ (a : Arrived W h). a.seat) (filter (λ (a : Arrived W h). a.to == j) arrived)
  passes_arrived j [] = refl
  passes_arrived j (a ∷ more) = by_test (passes_arrived j more) (a.to == j)
    where
      by_test : passes_to j (map of_arrived more) ≡ map (λ (x : Arrived W h). x.seat) (filter (λ (x : Arrived W h). x.to == j) more) → (b : Bool) → picked j (of_arrived a) (map of_arrived more) b ≡ map (λ (x : Arrived W h). x.seat) (cond b (a ∷ filter (λ (x : Arrived W h). x.to == j) more) (filter (λ (x : Arrived W h). x.to == j) more))
      by_test rest true = ap (λ l. a.seat ∷ l) rest
      by_test rest false = rest

  -- those to another place that are left where the passes to one are taken out
  pub passes_left : (j n : ℕ) (arrived : List (Arrived W h)) → j ≢ n → passes_to j (map of_arrived (filter (λ (a : Arrived W h). not (a.to == n)) arrived)) ≡ passes_to j (map of_arrived arrived)
  passes_left j n [] apart = refl
  passes_left j n (a ∷ more) apart = by_test (passes_left j n more apart) (a.to == n) refl
    where
      both : (passes_to j (map of_arrived (filter (λ (x : Arrived W h). not (x.to == n)) more)) ≡ passes_to j (map of_arrived more)) → (b : Bool) → picked j (of_arrived a) (map of_arrived (filter (λ (x : Arrived W h). not (x.to == n)) more)) b ≡ picked j (of_arrived a) (map of_arrived more) b
      both rest true = ap (λ l. a.seat ∷ l) rest
      both rest false = rest

      by_test : (passes_to j (map of_arrived (filter (λ (x : Arrived W h). not (x.to == n)) more)) ≡ passes_to j (map of_arrived more)) → (b : Bool) → (a.to == n) ≡ b → passes_to j (map of_arrived (cond (not b) (a ∷ filter (λ (x : Arrived W h). not (x.to == n)) more) (filter (λ (x : Arrived W h). not (x.to == n)) more))) ≡ passes_to j (map of_arrived (a ∷ more))
      by_test rest true e = rest ∙ sym (pass_apart j (of_arrived a) (map of_arrived more) (λ f. apart (sym f ∙ same_is a.to n e)))
      by_test rest false e = both rest (a.to == j)
