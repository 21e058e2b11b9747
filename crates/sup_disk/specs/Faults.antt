-- How a call of a disk in memory ends (this project).
use Rattle.std.specs.Prelude.{◌≡◌, Result, IsErrAnd, None}
use Rattle.std.specs.IoError.{error_kind}
use Rattle.std.specs.declared.io.Error.{Error}
use Rattle.std.specs.declared.io.ErrorKind.TheVariants.{Other, OutOfMemory}
use Rattle.sup_disk.specs.declared.mem_disk.MemDisk.{MemDisk}

-- it fails by the fault that was to come
abbrev pub MeetsFault : Result (Unit {0}) Error → Type 0
MeetsFault result = IsErrAnd result (λ e. error_kind e ≡ Other)

-- an error that tells that memory was refused
abbrev pub WantsMemory : Error → Type 0
WantsMemory e = error_kind e ≡ OutOfMemory

-- a rename that is done
abbrev pub renamed : MemDisk → MemDisk
renamed d = record d { shown = d.beside; beside = None }
