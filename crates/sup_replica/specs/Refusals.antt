-- The numbers of refusals, and which are found before an act takes memory (this project).
use Rattle.std.specs.Prelude.{ℕ, Bool, ◌||◌, nat_le}
use Rattle.sup_replica.specs.declared.refusal.Refusal.{Refusal}
use Rattle.sup_replica.specs.declared.refusal.Refusal.TheVariants.{Down, AlreadyUp, UnknownNode, AlreadyPresent, NotFound, AlreadyMember, NotMember, NameTaken, NoSuchChild, NameUnknown, DotsSpent, UpToDate, NoSuchMessage, StaleExit, TableFull, KeepFailed, BadMessage, WrongReceiver, OutOfMemory, HistoryFull, CountSpent, NothingToPush, AlreadyDraining}

abbrev pub number_of : Refusal → ℕ
number_of Down = 1
number_of AlreadyUp = 2
number_of UnknownNode = 3
number_of AlreadyPresent = 4
number_of NotFound = 5
number_of AlreadyMember = 6
number_of NotMember = 7
number_of NameTaken = 8
number_of NoSuchChild = 9
number_of NameUnknown = 10
number_of DotsSpent = 11
number_of UpToDate = 12
number_of NoSuchMessage = 13
number_of StaleExit = 14
number_of TableFull = 15
number_of KeepFailed = 16
number_of BadMessage = 17
number_of WrongReceiver = 18
number_of OutOfMemory = 19
number_of HistoryFull = 20
number_of CountSpent = 21
number_of NothingToPush = 22
number_of AlreadyDraining = 23

-- the checks that come before any memory is taken: 1 to 15, 22 and 23
abbrev pub is_found_first : Refusal → Bool
is_found_first r = nat_le (number_of r) 15 || nat_le 22 (number_of r)
