-- Results of which none is a fault.
use Rattle.std.specs.Prelude.{◌≡◌, List, [], ◌∷◌, map, All, Result, Ok, Err, IsOk, IfErr, refl}
use Rattle.std.specs.Result.{IsErrAnd}
use Rattle.std.proofs.Common.{sym, subst, inr}
use Rattle.std.proofs.lemmas.List.Elements.{All-cons}
use Rattle.sup_posts.specs.declared.thread_fault.ThreadFault.{ThreadFault}
use Rattle.sup_posts.specs.declared.thread_fault.ThreadFault.TheVariants.{OutOfMemory}
use Rattle.sup_posts.proofs.ItemLaws.{all_none}
use Rattle.sup_run_ends.specs.Steps.{IsFaultOf}

module _ {T : Type 0} where
  abbrev good : T → Result T ThreadFault
  good x = Ok x

  all_good : (xs : List T) → All IsOk (map good xs)
  all_good [] = all_none IsOk
  all_good (x ∷ xs) = All-cons IsOk (good x) (map good xs) refl (all_good xs)

  -- where no result is a fault, only want of memory is told
  pub want_of_none : {A : Type 0} (results : List (Result T ThreadFault)) (xs : List T) → results ≡ map Ok xs → (r : Result A ThreadFault) (G : ThreadFault → Type 0) → IsErrAnd r G
      → ((f : ThreadFault) → G f → f ≡ OutOfMemory) → IfErr r (IsFaultOf results)
  want_of_none results xs all (Ok x) G e k = tt
  want_of_none results xs all (Err f) G e k = inr (subst (All IsOk) (sym all) (all_good xs), k f e)
