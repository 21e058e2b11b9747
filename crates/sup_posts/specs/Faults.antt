-- The faults of a run's threads, and which of several is told.
use Rattle.std.specs.Prelude.{◌≡◌, ◌≤◌, ℕ, List, All, Contains, Result, Err}
use Rattle.sup_links.specs.declared.link_in.PutFault.{PutFault}
use Rattle.sup_links.specs.declared.link_in.PutFault.TheVariants.{Closed, OutOfMemory as NoMemory}
use Rattle.sup_posts.specs.declared.fault.RunFault.{RunFault}
use Rattle.sup_posts.specs.declared.fault.RunFault.TheVariants.{HistoryFull as Full, LinkClosed as Shut, OutOfMemory as Wants}
use Rattle.sup_posts.specs.declared.thread_fault.ThreadFault.{ThreadFault}
use Rattle.sup_posts.specs.declared.thread_fault.ThreadFault.TheVariants.{HistoryFull, LinkClosed, OutOfMemory}

abbrev pub of_put : PutFault → ThreadFault
of_put Closed = LinkClosed
of_put NoMemory = OutOfMemory

abbrev pub of_thread : ThreadFault → RunFault
of_thread HistoryFull = Full
of_thread LinkClosed = Shut
of_thread OutOfMemory = Wants

-- of two faults that with the greater number is told
abbrev pub gravity : ThreadFault → ℕ
gravity OutOfMemory = 3
gravity HistoryFull = 2
gravity LinkClosed = 1

-- a result is no graver fault
abbrev pub IsBelow : {T : Type 0} → ThreadFault → Result T ThreadFault → Type 0
IsBelow fault r = (f : ThreadFault) → r ≡ Err f → gravity f ≤ gravity fault

-- a fault among results, of which none is graver
pub record IsGravest {T : Type 0} (results : List (Result T ThreadFault)) (fault : ThreadFault) : Type 0 where
  pub stands : Contains results (Err fault)
  pub gravest : All (IsBelow fault) results
