-- The weighers that come with placement: their weights are this project's choice.
use Rattle.std.specs.Prelude.{◌∷◌, ◌++◌, replicate}
use Rattle.sha2.specs.Sha256.{sha256}
use Rattle.sup_placement.specs.Place.{Weigher}

-- SHA-256 of the bytes of the member, one byte 0, and the bytes of the child's id
abbrev pub sha256_weight : Weigher
sha256_weight member id = sha256 (member ++ 0 ∷ id)

-- 32 bytes 0 for every pair, so that the least name is every child's place
abbrev pub flat_weight : Weigher
flat_weight member id = replicate 32 0
