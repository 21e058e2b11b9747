-- What is known of a result.
use Rattle.std.proofs.Common.{Result, Ok, Err, IfOk}

-- what follows from a fact of each value follows from it of the one that there may be
pub if_ok : {T E : Type 0} {P Q : T → Type 0} (r : Result T E) → ((x : T) → P x → Q x) → IfOk r P → IfOk r Q
if_ok (Ok x) each p = each x p
if_ok (Err e) each p = p
