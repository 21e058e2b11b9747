-- Ends of links that met.
use Rattle.std.specs.Prelude.{◌≡◌, List, [], ◌∷◌, ◌++◌, length, Result, Ok, Err, IfOk, IfErr, refl}
use Rattle.std.proofs.Common.{arith}
use Rattle.std.specs.List.{AllZip}
use Rattle.sup_placement.specs.declared.weigh.Weigh.{Ghosts as WeighGhosts}
use Rattle.sup_links.specs.declared.link_in.Sent.{Sent}
use Rattle.sup_posts.specs.declared.jobs.Arrived.{Arrived}
use Rattle.sup_posts.specs.declared.jobs.Driven.{Driven}
use Rattle.sup_posts.specs.declared.thread_fault.ThreadFault.{ThreadFault}
use Rattle.sup_crew.specs.declared.team.Team.{Team}
use Rattle.sup_driving.specs.GatheredResults.{Steering, Reception, MetEnds, AllMet, IsGathered, IsFaultOfTeam, GathersTeam}

pub none_paired : {A B : Type 0} (R : A → B → Type 0) (xs : List A) (ys : List B) → AllZip R xs ys → length ys ≡ 0 → length xs ≡ 0
none_paired R [] ys h e = refl
none_paired R (x ∷ xs) [] h e = absurd h
none_paired R (x ∷ xs) (y ∷ ys) h e = absurd (omega (arith, e))

module _ {W : Type 0} {h : WeighGhosts W} where
  pub met_more : (ss : List Sent) (rs : List (Reception W h)) (bs : List (Arrived W h)) (s : Sent) (r : Reception W h) (a : Arrived W h) → AllMet ss rs bs → MetEnds s r a → AllMet (ss ++ s ∷ []) (rs ++ r ∷ []) (bs ++ a ∷ [])
  met_more [] [] [] s r a m one = (one, tt)
  met_more [] [] (b ∷ bs) s r a m one = absurd m
  met_more [] (q ∷ qs) bs s r a m one = absurd m
  met_more (t ∷ ts) [] bs s r a m one = absurd m
  met_more (t ∷ ts) (q ∷ qs) [] s r a m one = absurd m
  met_more (t ∷ ts) (q ∷ qs) (b ∷ bs) s r a m one = (m.0, met_more ts qs bs s r a m.1 one)

  pub gathers_as : (done : Team (Steering W h) (Reception W h)) (r : Result (Driven W h) ThreadFault) → IfOk r (IsGathered done) → IfErr r (IsFaultOfTeam done) → GathersTeam done r
  gathers_as done (Ok driven) good bad = good
  gathers_as done (Err fault) good bad = bad
