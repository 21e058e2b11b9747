-- Numbers in words: decimal digits, with or without a plus before them, as Rust parses an integer (this project).
use Rattle.std.specs.Prelude.{ℕ, Bool, ◌&&◌, ◌^◌, nat_lt, length, Option, Some, None, if◌then◌else◌}
use Rattle.std.specs.Char.{is_ascii_digit}
use Rattle.std.specs.Str.Parse.{digits_value, without_leading_plus}
use Rattle.std.specs.List.{list_all}
use Rattle.clap.specs.Words.{Text}

-- decimal digits, one at least
abbrev pub is_numeral : Text → Bool
is_numeral text = nat_lt 0 (length text) && list_all is_ascii_digit text

-- the number of 32 bits that digits write
abbrev pub value_of : Text → Option ℕ
value_of digits = if is_numeral digits && nat_lt (digits_value 10 digits) (2 ^ 32) then Some (digits_value 10 digits) else None

-- the number of 32 bits that a text writes
unfoldable pub number_of : Text → Option ℕ
number_of text = value_of (without_leading_plus text)
