-- Bytes that are text, since each of them is ASCII.
use Rattle.std.proofs.Common.{◌≡◌, ℕ, ◌<◌, true, List, [], ◌∷◌, get_or, zero, suc, arith}
use Rattle.std.specs.Str.{IsUtf8}
use Rattle.std.proofs.lemmas.Bool.Decides.{nat_tests}
use Rattle.std.proofs.lemmas.Str.{IsUtf8-from_ascii}
use Rattle.sup_lines.specs.Script.{is_plain}

pub plain_is_text : (line : List ℕ) → is_plain line ≡ true → IsUtf8 line
plain_is_text line h = IsUtf8-from_ascii line (below line h)
  where
    below : (line : List ℕ) → is_plain line ≡ true → (i : ℕ) → get_or line i 0 < 128
    below [] h i = omega arith
    below (x ∷ xs) h zero = grind (arith, nat_tests)
    below (x ∷ xs) h (suc i) = below xs (grind arith) i
