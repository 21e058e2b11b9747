-- A reader with nothing in its buffer has what the one behind it has.
use Rattle.std.proofs.Common.{◌≡◌, ℕ, List, [], Option, Some, None, refl}
use Rattle.std.specs.Io.KnownBytes.{prepend_known}

pub unbuffered : (known : Option (List ℕ)) → prepend_known [] known ≡ known
unbuffered None = refl
unbuffered (Some bytes) = refl
