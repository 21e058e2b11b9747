-- What was wanted of a run beside what came of it, as bytes.
use Rattle.std.specs.Prelude.{◌≡◌, ◌≢◌, ◌⊎◌, ℕ, Bool, true, false, List, [], ◌∷◌, ◌++◌, Option, codes, string_bytes}
use Rattle.std.specs.Io.KnownBytes.{Appends}
use Rattle.sup_rows.specs.declared.outcome.Difference.{Difference}
use Rattle.sup_rows.specs.declared.outcome.Outcome.{Outcome}

-- a part of an outcome by its name: what was wanted, and what came
pub record Part : Type 0 where
  pub name : List ℕ
  pub wanted : List ℕ
  pub came : List ℕ

abbrev pub part_of : Difference → Part
part_of d = record { name = d.part.now; wanted = d.wanted.now; came = d.came.now }

-- the parts, in the order in which they are looked at
abbrev pub parts_of : Outcome → Outcome → List Part
parts_of wanted came =
    record { name = codes "status"; wanted = string_bytes wanted.status; came = string_bytes came.status }
    ∷ record { name = codes "stdout"; wanted = wanted.output.items; came = came.output.items }
    ∷ record { name = codes "stderr"; wanted = wanted.errors.items; came = came.errors.items }
    ∷ []

-- In each part what was wanted came.
pub record IsSame (wanted came : Outcome) : Type 0 where
  pub status : string_bytes wanted.status ≡ string_bytes came.status
  pub output : wanted.output.items ≡ came.output.items
  pub errors : wanted.errors.items ≡ came.errors.items

-- This is the first of the parts in which something else came.
abbrev pub IsFirstDifference : List Part → Part → Type 0
IsFirstDifference [] told = ⊥
IsFirstDifference (part ∷ parts) told =
    ((part.wanted ≢ part.came) × (told ≡ part)) ⊎ ((part.wanted ≡ part.came) × IsFirstDifference parts told)

-- what is told of a case that went well, and of the part in which another one differs
abbrev pub well_text : List ℕ → List ℕ
well_text name = name ++ codes " ok\n"

abbrev pub difference_text : List ℕ → Part → List ℕ
difference_text name part = name ++ (codes " differs in " ++ (part.name ++ (codes ", wanted:\n" ++ (part.wanted ++ (codes "came:\n" ++ part.came)))))

-- It's told whether what was wanted came, and if not, the first part in which something else did.
abbrev pub TellsOutcome : List ℕ → Outcome → Outcome → Option (List ℕ) → Option (List ℕ) → Bool → Type 0
TellsOutcome name wanted came before after true = IsSame wanted came × Appends before after (well_text name)
TellsOutcome name wanted came before after false =
    (part : Part) × IsFirstDifference (parts_of wanted came) part × Appends before after (difference_text name part)
