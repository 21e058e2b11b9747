-- A child that is kept once stays so where others leave, and in its next run.
use Rattle.std.specs.Prelude.{[], List, not}
use Rattle.std.specs.List.{IsDistinct}
use Rattle.std.specs.Map.{keys_of, lookup}
use Rattle.std.specs.Str.{bytes_eq}
use Rattle.std.proofs.Common.{subst, sym}
use Rattle.std.proofs.lemmas.Map.Made.{IsDistinct-keys_filter}
use Rattle.sup_specs.specs.Values.{Bytes}
use Rattle.sup_local_sup.specs.declared.leaving.Leaving.{Leaving}
use Rattle.sup_local_sup.specs.declared.leaving.Leaving.TheVariants.{Nobody, Finished, GaveUp}
use Rattle.sup_local_sup.specs.Keeping.{KeptChild}
use Rattle.sup_local_sup.specs.Planning.{kept_of_leaving, restart_kept}
use Rattle.sup_local_sup.specs.Supervising.{Supervisor}
use Rattle.sup_local_sup.proofs.RenewLaws.{keys_renewed}

abbrev pub IsOnce : List KeptChild → Type 0
IsOnce kept = IsDistinct bytes_eq (keys_of kept)

pub once_none : IsOnce []
unfolding IsDistinct
once_none = tt

pub once_left : (kept : List KeptChild) (leaving : Leaving) → IsOnce kept → IsOnce (kept_of_leaving kept leaving)
once_left kept Nobody once = once
once_left kept (Finished id) once = IsDistinct-keys_filter bytes_eq (λ (k : KeptChild). not (bytes_eq id k.0)) kept once
once_left kept (GaveUp id) once = once_none

pub once_renewed : (v : Supervisor) (id : Bytes) → IsOnce v.kept → IsOnce (restart_kept v id (lookup (bytes_eq id) v.kept))
once_renewed v id once = subst (IsDistinct bytes_eq) (sym (keys_renewed id _ v.kept (lookup (bytes_eq id) v.kept))) once
