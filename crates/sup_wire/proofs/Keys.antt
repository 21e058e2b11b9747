-- The keys of an object, compared one by one.
use Rattle.std.proofs.Common.{◌≡◌, ◌≤◌, ℕ, zero, suc, List, [], ◌∷◌, map, drop, length, nat_eq, refl, ◌∙◌, arith, rules, tests}
use Rattle.std.proofs.Math.Dec.{eqb-suc-suc}
use Rattle.serde_json.specs.Data.{no_members}
use Rattle.sup_wire.specs.FieldReads.{are_keys}

-- no key is left where all are used
pub are_keys-end : {A : Type 0} (f : A → List ℕ) (names : List A) (n : ℕ) → n ≤ length names → nat_eq n (length names) ≡ are_keys (map f (drop n names)) no_members
are_keys-end f [] zero h = refl
are_keys-end f [] (suc n) h = absurd (omega arith)
are_keys-end f (name ∷ names) zero h = search (rules, tests)
are_keys-end f (name ∷ names) (suc n) h = eqb-suc-suc n (length names) ∙ are_keys-end f names n (omega arith)
