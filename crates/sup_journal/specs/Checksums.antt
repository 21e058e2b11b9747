-- FNV-1a of 64 bits, as Fowler, Noll and Vo publish it (http://www.isthe.com/chongo/tech/comp/fnv): from the offset basis on, for each
-- octet, hash = hash xor octet, and then hash = hash * FNV_prime.
use Rattle.std.specs.Prelude.{ℕ, ◌*◌, ◌%◌, ◌^◌, fold, bit_xor}
use Rattle.sup_specs.specs.Values.{Bytes}

-- modulo 2 ^ 64
abbrev pub with_octet : ℕ → ℕ → ℕ
with_octet hash octet = (bit_xor hash octet * 1099511628211) % 2 ^ 64

unfoldable pub checksum : Bytes → ℕ
checksum octets = fold with_octet 14695981039346656037 octets
