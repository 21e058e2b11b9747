-- What the words after the program's name set (this project's command line).
use Rattle.std.specs.Prelude.{ℕ, Bool, true, false, ◌&&◌, ◌||◌, is_none, List, [], ◌∷◌, Option, Some, None, if◌then◌else◌, codes}
use Rattle.std.specs.Option.{option_map_or}
use Rattle.std.specs.Str.{bytes_eq}
use Rattle.sup_specs.specs.Values.{Bytes}
use Rattle.sup_replica.specs.Configs.{Config, config_of}
use Rattle.sup_lines.specs.Words.{Word, ◌>>=◌}
use Rattle.sup_lines.specs.Values.{node_name_of, number_of}
use Rattle.sup_command_line.specs.declared.request.Weighing.{Weighing}
use Rattle.sup_command_line.specs.declared.request.Weighing.TheVariants.{Sha256, Flat}
use Rattle.sup_supd.specs.declared.settings.Settings.{Settings}

-- what is set for a node
pub record Setting : Type 0 where
  pub name : Bytes
  pub image : Word  -- the file of its image
  pub weighing : Weighing
  pub config : Config

abbrev pub set_of : Settings → Setting
set_of s = record { name = s.name; image = s.image.now; weighing = s.weighing; config = s.config }

-- the options; each has a value
abbrev pub is_option : Word → Bool
is_option word =
    bytes_eq word (codes "--image") || bytes_eq word (codes "--weigh") || bytes_eq word (codes "--intensity")
    || bytes_eq word (codes "--period") || bytes_eq word (codes "--buffer")

-- the word behind the first option of this name
unfoldable pub value_for : Word → List Word → Option Word
value_for name (key ∷ value ∷ words) = if bytes_eq key name then Some value else value_for name words
value_for name words = None

-- options in any order, each with its value, and none twice
unfoldable pub are_options : List Word → Bool
are_options [] = true
are_options (key ∷ value ∷ words) = is_option key && is_none (value_for key words) && are_options words
are_options (key ∷ []) = false

unfoldable pub weighing_at : Word → Option Weighing
weighing_at word = if bytes_eq word (codes "sha256") then Some Sha256 else (if bytes_eq word (codes "flat") then Some Flat else None)

-- sha256 by default
abbrev pub weighing_in : List Word → Option Weighing
weighing_in words = option_map_or weighing_at (value_for (codes "--weigh") words) (Some Sha256)

-- an option's number, to a greatest one, or what it is by default
unfoldable pub number_in : Word → ℕ → ℕ → List Word → Option ℕ
number_in name greatest default words = option_map_or (number_of greatest) (value_for name words) (Some default)

unfoldable pub config_in : List Word → Option Config
config_in words = do
  intensity ← number_in (codes "--intensity") 1000 1 words
  period ← number_in (codes "--period") 1000000 5 words
  buffer ← number_in (codes "--buffer") 1024 64 words
  config_of intensity period buffer

unfoldable pub set_in : Word → List Word → Option Setting
set_in name words = do
  node ← node_name_of name
  image ← value_for (codes "--image") words
  weighing ← weighing_in words
  config ← config_in words
  Some (record { name = node; image = image; weighing = weighing; config = config })

-- NAME --image FILE [--weigh sha256|flat] [--intensity N] [--period N] [--buffer N], the options in any order
abbrev pub settings_of : List Word → Option Setting
settings_of [] = None
settings_of (name ∷ words) = if are_options words then set_in name words else None
