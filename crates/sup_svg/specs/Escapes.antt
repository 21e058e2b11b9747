-- Texts inside XML (this project's picture format).
use Rattle.std.specs.Prelude.{ℕ, ◌==◌, ◌&&◌, ◌||◌, nat_le, List, [], ◌∷◌, take, codes, position, Option, Some, None, if◌then◌else◌}

-- from a space (32) to ~ (126), or a line feed (10)
abbrev pub plain_of : ℕ → List ℕ
plain_of byte = if byte == 10 || (nat_le 32 byte && nat_le byte 126) then byte ∷ [] else codes "?"

-- & (38), < (60), > (62), ' (39) and " (34) have names
abbrev pub escape_of : ℕ → List ℕ
escape_of byte =
    if byte == 38 then codes "&amp;"
    else if byte == 60 then codes "&lt;"
    else if byte == 62 then codes "&gt;"
    else if byte == 39 then codes "&apos;"
    else if byte == 34 then codes "&quot;"
    else plain_of byte

-- what stands before a place, or all
abbrev pub before : List ℕ → Option ℕ → List ℕ
before text None = text
before text (Some end) = take end text

-- what stands before the first line feed
abbrev pub first_line : List ℕ → List ℕ
first_line text = before text (position (λ byte. byte == 10) text)
