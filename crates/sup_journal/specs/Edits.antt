-- Edits of a text, as retain, delete and insert of operational transformation, and how they are written (this project).
use Rattle.std.specs.Prelude.{ℕ, zero, suc, ◌+◌, ◌-◌, ◌*◌, ◌/◌, ◌%◌, ◌^◌, nat_le, List, [], ◌∷◌, ◌++◌, length, take, drop, if◌then◌else◌, fold}
use Rattle.sup_specs.specs.Values.{Bytes}

-- behind the edit before it, so many bytes of the text stay, so many go, and these come
pub record Edit : Type 0 where
  pub retained : ℕ
  pub deleted : ℕ
  pub inserted : Bytes

-- a text after edits; behind the last one all stays
unfoldable pub edited : List Edit → Bytes → Bytes
edited [] text = text
edited (e ∷ edits) text = take e.retained text ++ (e.inserted ++ edited edits (drop e.deleted (drop e.retained text)))

-- a number in decimal digits (48 is 0), modulo 2 ^ 64
abbrev pub with_digit : ℕ → ℕ → ℕ
with_digit number digit = ((number * 10) % 2 ^ 64 + (digit - 48)) % 2 ^ 64

unfoldable pub number_of : Bytes → ℕ
number_of digits = fold with_digit 0 digits

-- the edit that is written first: three numbers of eight digits, of bytes that stay, that go, and that come; and those that come
abbrev pub retained_by : Bytes → ℕ
retained_by bytes = number_of (take 8 bytes)

abbrev pub deleted_by : Bytes → ℕ
deleted_by bytes = number_of (take 8 (drop 8 bytes))

abbrev pub inserted_by : Bytes → ℕ
inserted_by bytes = number_of (take 8 (drop 16 bytes))

abbrev pub first_edit : Bytes → Edit
first_edit bytes = record { retained = retained_by bytes; deleted = deleted_by bytes; inserted = take (inserted_by bytes) (drop 24 bytes) }

-- what is written behind it
abbrev pub behind_first : Bytes → Bytes
behind_first bytes = drop (inserted_by bytes) (drop 24 bytes)

-- so many of the edits that are written, or all; fewer than 24 bytes are none
unfoldable pub edits_among : ℕ → Bytes → List Edit
edits_among zero bytes = []
edits_among (suc most) bytes = if nat_le 24 (length bytes) then first_edit bytes ∷ edits_among most (behind_first bytes) else []

-- all of them: there are no more than bytes
abbrev pub edits_in : Bytes → List Edit
edits_in bytes = edits_among (length bytes) bytes

-- so many digits of a number, its last ones
unfoldable pub digits_of : ℕ → ℕ → Bytes
digits_of zero number = []
digits_of (suc count) number = digits_of count (number / 10) ++ (48 + number % 10) ∷ []

-- an edit, as it is written
unfoldable pub written : Edit → Bytes
written e = digits_of 8 e.retained ++ (digits_of 8 e.deleted ++ (digits_of 8 (length e.inserted) ++ e.inserted))
