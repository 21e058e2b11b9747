-- How an image changed into another (this project).
use Rattle.std.specs.Prelude.{◌≡◌, ◌≤◌, ◌<◌, ℕ, ◌+◌, ◌-◌, ◌*◌, ◌^◌, [], ◌∷◌, ◌++◌, length, take, drop}
use Rattle.sup_specs.specs.Values.{Bytes}
use Rattle.sup_journal.specs.Edits.{Edit, edited, edits_in, written}
use Rattle.sup_journal.specs.Files.{IsOneLine}

-- both begin with so many bytes alike, and with no more
pub record IsCommonFront (count : ℕ) (left right : Bytes) : Type 0 where
  pub in_left : count ≤ length left
  pub in_right : count ≤ length right
  pub alike : take count left ≡ take count right
  pub most : (n : ℕ) → n ≤ length left → n ≤ length right → take n left ≡ take n right → n ≤ count

-- both end with so many bytes alike, and with no more
pub record IsCommonTail (count : ℕ) (left right : Bytes) : Type 0 where
  pub in_left : count ≤ length left
  pub in_right : count ≤ length right
  pub alike : drop (length left - count) left ≡ drop (length right - count) right
  pub most : (n : ℕ) → n ≤ length left → n ≤ length right → drop (length left - n) left ≡ drop (length right - n) right → n ≤ count

-- where these bytes come in place of those, between what stays, the new image is made of the old one
pub record IsReplaced (old new front gone come back : Bytes) : Type 0 where
  pub was : old ≡ front ++ (gone ++ back)
  pub is : new ≡ front ++ (come ++ back)

-- bytes are one edit that makes the new image of the old one, and by which no more come than by any other
pub record IsLeastEdit (bytes old new : Bytes) : Type 0 where
  pub edit : Edit
  pub is : bytes ≡ written edit
  pub makes : edited (edit ∷ []) old ≡ new
  pub retained : edit.retained ≤ length old
  pub deleted : edit.deleted ≤ length old
  pub inserted : length edit.inserted ≤ length new
  pub one : IsOneLine new → IsOneLine edit.inserted
  pub least : (front gone come back : Bytes) → IsReplaced old new front gone come back → length edit.inserted ≤ length come

-- edits are one line, make the new image of the old one, and are a record that is at most half as long, with its checksum and line feeds
pub record AreShort (edits old new : Bytes) : Type 0 where
  pub one : IsOneLine edits
  pub makes : edited (edits_in edits) old ≡ new
  pub short : 2 * (22 + length edits) ≤ length new

-- One edit makes the new image, of one line, of the old one, and what comes by it, with 46 bytes that a record of one edit has besides, is
-- at most half of the image. Neither has more than eight digits of bytes.
pub record IsSmallChange (old new : Bytes) : Type 0 where
  pub front : Bytes
  pub gone : Bytes
  pub come : Bytes
  pub back : Bytes
  pub replaced : IsReplaced old new front gone come back
  pub short : 2 * (46 + length come) ≤ length new
  pub one : IsOneLine new
  pub old_fits : length old < 10 ^ 8
  pub new_fits : length new < 10 ^ 8
