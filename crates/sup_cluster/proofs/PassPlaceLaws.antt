-- Which passes come back to a place: of each other driver one, and none of its own.
use Rattle.std.specs.Prelude.{◌≡◌, ◌≢◌, ◌==◌, ◌<◌, ◌≤◌, not, ℕ, zero, suc, Bool, true, false, cond, List, [], ◌∷◌, ◌++◌, map, flat_map, Contains, refl}
use Rattle.std.specs.List.{AllZip, filter}
use Rattle.std.proofs.Common.{arith, sym, ap, ◌∙◌, subst}
use Rattle.std.proofs.lemmas.Grind.{flat_map-append}
use Rattle.std.proofs.lemmas.List.{map-append}
use Rattle.std.proofs.lemmas.List.Elements.{filter-append}
use mathlib.Core.Logic.{dite}
use native.Mathlib.Decide.{ℕ_discrete}
use Rattle.sup_specs.specs.Values.{Bytes}
use Rattle.sup_local_sup.specs.declared.effect.Effect.{Effect}
use Rattle.sup_placement.specs.declared.weigh.Weigh.{Ghosts as WeighGhosts}
use Rattle.sup_node_gate.specs.declared.entry.Entry.{Entry}
use Rattle.sup_node_gate.specs.Gates.{view_of}
use Rattle.sup_plan.specs.declared.plan.Command.{Command}
use Rattle.sup_posts.specs.Jobs.{Seat, CarriedLetters, DrivesNode}
use Rattle.sup_posts.specs.declared.shared_node.SharedNode.{SharedNode}
use Rattle.sup_posts.specs.declared.jobs.Lane.{Lane}
use Rattle.sup_posts.specs.declared.jobs.Drive.{Drive}
use Rattle.sup_posts.specs.declared.jobs.Driven.{Driven}
use Rattle.sup_posts.specs.declared.jobs.Arrived.{Arrived}
use Rattle.sup_posts.specs.Drives.{of_lane, passes_to, shares_of, dealt_by, ends_of, others_of, places}
use Rattle.sup_run_ends.specs.Passes.{of_arrived}
use Rattle.sup_run_ends.proofs.PlacedPassLaws.{passes_append, pass_here, pass_apart}
use Rattle.sup_run_ends.proofs.ReturnedPassLaws.{is_same, isnt_same}

-- of places, those that are this one
abbrev those : ℕ → List ℕ → List ℕ
those j = filter (λ k. k == j)

those_here : (j x : ℕ) (xs : List ℕ) → x ≡ j → those j (x ∷ xs) ≡ x ∷ those j xs
those_here j x xs e = ap (λ b. cond b (x ∷ those j xs) (those j xs)) (is_same x j e)

those_apart : (j x : ℕ) (xs : List ℕ) → x ≢ j → those j (x ∷ xs) ≡ those j xs
those_apart j x xs e = ap (λ b. cond b (x ∷ those j xs) (those j xs)) (isnt_same x j e)

last_apart : (at j n : ℕ) → n ≢ j → those j (others_of at (n ∷ [])) ≡ []
last_apart at j n e = by_test (n == at)
  where
    by_test : (b : Bool) → those j (cond (not b) (n ∷ []) []) ≡ []
    by_test true = refl
    by_test false = those_apart j n [] e

last_here : (at n : ℕ) → n ≢ at → those n (others_of at (n ∷ [])) ≡ n ∷ []
last_here at n e = ap (λ b. those n (cond (not b) (n ∷ []) [])) (isnt_same n at e) ∙ those_here n n [] refl

one_more : (at j n : ℕ) → those j (others_of at (places (suc n))) ≡ those j (others_of at (places n)) ++ those j (others_of at (n ∷ []))
one_more at j n = ap (those j) (filter-append (λ k. not (k == at)) (places n) (n ∷ [])) ∙ filter-append (λ k. k == j) (others_of at (places n)) (others_of at (n ∷ []))

none_below : (at j n : ℕ) → n ≤ j → those j (others_of at (places n)) ≡ []
none_below at j zero le = refl
none_below at j (suc n) le = one_more at j n ∙ ap (λ l. l ++ those j (others_of at (n ∷ []))) (none_below at j n (omega (arith, le))) ∙ last_apart at j n (λ e. omega (arith, le, e))

-- another place is one of the others, once
pub one_other : (at j n : ℕ) → j < n → j ≢ at → those j (others_of at (places n)) ≡ j ∷ []
one_other at j zero lt apart = absurd (omega (arith, lt))
one_other at j (suc n) lt apart = one_more at j n ∙ dite (ℕ_discrete j n)
    (λ (e : j ≡ n). ap (λ l. l ++ those j (others_of at (n ∷ []))) (none_below at j n (omega (arith, e)))
    ∙ subst (λ k. those k (others_of at (n ∷ [])) ≡ k ∷ []) (sym e) (last_here at n (λ f. apart (e ∙ f))))
    (λ ne. ap (λ l. l ++ those j (others_of at (n ∷ []))) (one_other at j n (omega (arith, lt, ne)) apart) ∙ ap (λ l. j ∷ l) (last_apart at j n (λ f. ne (sym f))))

-- and the place itself is none of them
pub not_itself : (j : ℕ) (xs : List ℕ) → those j (others_of j xs) ≡ []
not_itself j [] = refl
not_itself j (x ∷ xs) = by_test (not_itself j xs) (x == j) refl
  where
    by_test : those j (others_of j xs) ≡ [] → (b : Bool) → (x == j) ≡ b → those j (cond (not b) (x ∷ others_of j xs) (others_of j xs)) ≡ []
    by_test rest true e = rest
    by_test rest false e = ap (λ b. cond b (x ∷ those j (others_of j xs)) (those j (others_of j xs))) e ∙ rest

module _ {W : Type 0} {h : WeighGhosts W} (did : Bytes → Effect → Bool → Type 0) (posts : List (SharedNode W h)) where
  module _ (es : List Entry) where
    pub none_comes : (j : ℕ) (lanes : List (Lane W h)) (arrived : List (Arrived W h)) → AllZip (CarriedLetters did posts es) lanes arrived → those j (ends_of lanes) ≡ [] → passes_to j (map of_arrived arrived) ≡ []
    none_comes j [] [] z e = refl
    none_comes j [] (a ∷ more) z e = absurd z
    none_comes j (l ∷ lanes) [] z e = absurd z
    none_comes j (l ∷ lanes) (a ∷ more) z e = dite (ℕ_discrete l.to j)
        (λ (same : l.to ≡ j). let bad = sym (those_here j l.to (ends_of lanes) same) ∙ e in absurd cc)
        (λ apart. pass_apart j (of_arrived a) (map of_arrived more) (λ f. apart (sym z.0.to ∙ f)) ∙ none_comes j lanes more z.1 (sym (those_apart j l.to (ends_of lanes) apart) ∙ e))

    -- the one pass that comes to a place, and the link behind which it stood
    pub record OneComes (j : ℕ) (lanes : List (Lane W h)) (arrived : List (Arrived W h)) : Type 0 where
      pub lane : Lane W h
      pub pass : Arrived W h
      pub to : lane.to ≡ j
      pub stands : Contains lanes lane
      pub carried : CarriedLetters did posts es lane pass
      pub only : passes_to j (map of_arrived arrived) ≡ pass.seat ∷ []

    pub one_comes : (j : ℕ) (lanes : List (Lane W h)) (arrived : List (Arrived W h)) → AllZip (CarriedLetters did posts es) lanes arrived → those j (ends_of lanes) ≡ j ∷ [] → OneComes j lanes arrived
    one_comes j [] [] z e = absurd cc
    one_comes j [] (a ∷ more) z e = absurd z
    one_comes j (l ∷ lanes) [] z e = absurd z
    one_comes j (l ∷ lanes) (a ∷ more) z e = dite (ℕ_discrete l.to j)
        (λ (same : l.to ≡ j). let whole = sym (those_here j l.to (ends_of lanes) same) ∙ e in let none : those j (ends_of lanes) ≡ [] = cc in record {
          lane = l;
          pass = a;
          to = same;
          stands = (0, omega arith, refl);
          carried = z.0;
          only = pass_here j (of_arrived a) (map of_arrived more) (z.0.to ∙ same) ∙ ap (λ k. a.seat ∷ k) (none_comes j lanes more z.1 none);
        })
        (λ apart. let r = one_comes j lanes more z.1 (sym (those_apart j l.to (ends_of lanes) apart) ∙ e) in let low = r.stands.1 in record {
          lane = r.lane;
          pass = r.pass;
          to = r.to;
          stands = (suc r.stands.0, omega (arith, low), r.stands.2);
          carried = r.carried;
          only = pass_apart j (of_arrived a) (map of_arrived more) (λ f. apart (sym z.0.to ∙ f)) ∙ r.only;
        })

    same_each : (j : ℕ) (lanes : List (Lane W h)) (arrived : List (Arrived W h)) → AllZip (CarriedLetters did posts es) lanes arrived → shares_of (passes_to j (map of_arrived arrived)) ≡ shares_of (passes_to j (map of_lane lanes))
    same_each j [] [] z = refl
    same_each j [] (a ∷ more) z = absurd z
    same_each j (l ∷ lanes) [] z = absurd z
    same_each j (l ∷ lanes) (a ∷ more) z = dite (ℕ_discrete l.to j)
        (λ (same : l.to ≡ j). ap shares_of (pass_here j (of_arrived a) (map of_arrived more) (z.0.to ∙ same))
        ∙ ap (λ k. (view_of a.seat).shares ++ k) (same_each j lanes more z.1) ∙ ap (λ k. k ++ shares_of (passes_to j (map of_lane lanes))) z.0.made.shares
        ∙ sym (ap shares_of (pass_here j (of_lane l) (map of_lane lanes) same)))
        (λ apart. ap shares_of (pass_apart j (of_arrived a) (map of_arrived more) (λ f. apart (sym z.0.to ∙ f))) ∙ same_each j lanes more z.1 ∙ sym (ap shares_of (pass_apart j (of_lane l) (map of_lane lanes) apart)))

  pub passes_both : (j : ℕ) (xs ys : List (Arrived W h)) → passes_to j (map of_arrived (xs ++ ys)) ≡ passes_to j (map of_arrived xs) ++ passes_to j (map of_arrived ys)
  passes_both j xs ys = ap (passes_to j) (map-append of_arrived xs ys) ∙ passes_append j (map of_arrived xs) (map of_arrived ys)

  shares_both : (xs ys : List (Seat W h)) → shares_of (xs ++ ys) ≡ shares_of xs ++ shares_of ys
  shares_both xs ys = flat_map-append (λ (s : Seat W h). (view_of s).shares) xs ys

  -- what comes back to a place has what was dealt to it
  pub same_shares : (stood : Bytes → Command → ℕ → List Effect → Type 0) (j : ℕ) (drives : List (Drive W h)) (driven : List (Driven W h)) → AllZip (DrivesNode did stood posts) drives driven
      → shares_of (passes_to j (map of_arrived (flat_map (λ (d : Driven W h). d.arrived.items) driven))) ≡ shares_of (passes_to j (dealt_by drives))
  same_shares stood j [] [] z = refl
  same_shares stood j [] (r ∷ more) z = absurd z
  same_shares stood j (d ∷ drives) [] z = absurd z
  same_shares stood j (d ∷ drives) (r ∷ more) z =
      ap shares_of (passes_both j r.arrived.items (flat_map (λ (x : Driven W h). x.arrived.items) more))
      ∙ shares_both (passes_to j (map of_arrived r.arrived.items)) (passes_to j (map of_arrived (flat_map (λ (x : Driven W h). x.arrived.items) more)))
      ∙ ap (λ k. k ++ shares_of (passes_to j (map of_arrived (flat_map (λ (x : Driven W h). x.arrived.items) more)))) (same_each (view_of r.seat).seen j d.lanes.items r.arrived.items z.0.carried)
      ∙ ap (λ k. shares_of (passes_to j (map of_lane d.lanes.items)) ++ k) (same_shares stood j drives more z.1)
      ∙ sym (ap shares_of (passes_append j (map of_lane d.lanes.items) (dealt_by drives)) ∙ shares_both (passes_to j (map of_lane d.lanes.items)) (passes_to j (dealt_by drives)))
