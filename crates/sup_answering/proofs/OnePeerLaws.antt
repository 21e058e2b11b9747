-- A peer is noted once.
use Rattle.std.proofs.Common.{◌≡◌, true, false, List, [], ◌∷◌, ◌++◌, Some, refl}
use Rattle.std.specs.List.{list_any}
use Rattle.std.specs.Str.{bytes_eq}
use Rattle.sup_specs.specs.Values.{Bytes}
use Rattle.sup_answering.specs.Heard.{with_peer}

pub with_peer-known : (peer : Bytes) (peers : List Bytes) → list_any (λ other. bytes_eq other peer) peers ≡ true → peers ≡ with_peer (Some peer) peers
with_peer-known peer peers e = rw e refl

pub with_peer-new : (peer : Bytes) (peers : List Bytes) → list_any (λ other. bytes_eq other peer) peers ≡ false → peers ++ (peer ∷ []) ≡ with_peer (Some peer) peers
with_peer-new peer peers e = rw e refl
