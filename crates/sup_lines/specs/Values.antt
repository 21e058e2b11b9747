-- The values that words are: names, numbers and the like (this project's script format).
use Rattle.std.specs.Prelude.{ℕ, Bool, not, ◌&&◌, ◌||◌, ◌==◌, nat_le, nat_lt, length, slice_index, Option, Some, None, if◌then◌else◌, codes}
use Rattle.std.specs.Str.{bytes_eq}
use Rattle.std.specs.Char.{is_ascii_digit}
use Rattle.std.specs.Str.Parse.{digits_value}
use Rattle.std.specs.List.{list_all, before_first, after_first}
use Rattle.sup_specs.specs.Texts.{text_fault}
use Rattle.sup_specs.specs.declared.texts.Alphabet.TheVariants.{NodeBytes, Visible}
use Rattle.sup_specs.specs.declared.texts.TextFault.{TextFault}
use Rattle.sup_specs.specs.declared.child.Restart.{Restart}
use Rattle.sup_specs.specs.declared.child.Restart.TheVariants.{Permanent, Transient, Temporary}
use Rattle.sup_specs.specs.declared.child.Shutdown.{Shutdown}
use Rattle.sup_specs.specs.declared.child.Shutdown.TheVariants.{Brutal, Millis, Infinity}
use Rattle.sup_specs.specs.declared.limits.TheConstants.{MAX}
use Rattle.sup_local_sup.specs.declared.effect.Incarnation.{Incarnation}
use Rattle.sup_lines.specs.Words.{Word, Name, ◌>>=◌}

-- a text that no fault keeps from being a value
abbrev pub unless_faulty : Option TextFault → Word → Option Word
unless_faulty None word = Some word
unless_faulty (Some fault) word = None

-- 1 to 64 bytes of a-z 0-9 _ -
unfoldable pub node_name_of : Word → Option Name
node_name_of word = unless_faulty (text_fault NodeBytes 1 64 word) word

-- 1 to 128 bytes from ! to ~
unfoldable pub child_id_of : Word → Option Word
child_id_of word = unless_faulty (text_fault Visible 1 128 word) word

unfoldable pub registered_name_of : Word → Option Word
registered_name_of word = unless_faulty (text_fault Visible 1 128 word) word

unfoldable pub kind_of : Word → Option Word
kind_of word = unless_faulty (text_fault Visible 1 128 word) word

-- 0 to 1024 bytes from ! to ~
unfoldable pub text_of : Word → Option Word
text_of word = unless_faulty (text_fault Visible 0 1024 word) word

-- decimal digits without needless zeros (a zero is 48)
abbrev pub is_numeral : Word → Bool
is_numeral word = nat_lt 0 (length word) && (nat_le (length word) 1 || not (slice_index word 0 == 48)) && list_all is_ascii_digit word

-- a numeral's number, 0 to greatest
unfoldable pub number_of : ℕ → Word → Option ℕ
number_of greatest word = if is_numeral word && nat_le (digits_value 10 word) greatest then Some (digits_value 10 word) else None

unfoldable pub restart_of : Word → Option Restart
restart_of word =
    if bytes_eq word (codes "permanent") then Some Permanent else
    (if bytes_eq word (codes "transient") then Some Transient else
    (if bytes_eq word (codes "temporary") then Some Temporary else None))

-- brutal_kill, infinity, or a number of milliseconds to 4,294,967,295
unfoldable pub shutdown_of : Word → Option Shutdown
shutdown_of word =
    if bytes_eq word (codes "brutal_kill") then Some Brutal else
    (if bytes_eq word (codes "infinity") then Some Infinity else
    (do
      millis ← number_of 4294967295 word
      Some (Millis millis)))

-- B.K, two numbers round the first point (a point is 46); so there is just one
unfoldable pub incarnation_of : Word → Option Incarnation
incarnation_of word = do
  boot ← number_of MAX (before_first (λ byte. byte == 46) word)
  k ← number_of MAX (after_first (λ byte. byte == 46) word)
  Some (record { boot = boot; k = k })
