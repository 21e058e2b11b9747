-- The option that is told where words are refused: the first with a word that is no value of it (this project).
use Rattle.std.specs.Prelude.{ℕ, Bool, ◌&&◌, is_some, false, nat_le, List, ◌++◌, Option, Some, None, codes, if◌then◌else◌}
use Rattle.std.specs.Option.{option_map_or, option_or}
use Rattle.clap.specs.Words.{Row, Text, first_of}
use Rattle.sup_command_line.specs.Numbers.{number_of}
use Rattle.sup_command_line.specs.Requests.{◌>>=◌}
use Rattle.sup_command_line.specs.Weighings.{weighing_of}
use Rattle.sup_command_line.specs.declared.options.BadOption.{BadOption}

-- an option: its name, the values that it takes as they are told, and a test of a word
pub record Choice : Type 0 where
  pub name : Text
  pub values : Text
  pub takes : Text → Bool

-- a number from the one to the other
abbrev pub is_within : ℕ → ℕ → Text → Bool
is_within least most word = option_map_or (λ number. nat_le least number && nat_le number most) (number_of word) false

abbrev pub number_choice : Text → Text → ℕ → ℕ → Choice
number_choice name values least most = record { name = name; values = values; takes = is_within least most }

abbrev pub weigh : Choice
weigh = record { name = codes "weigh"; values = codes "sha256|flat"; takes = λ word. is_some (weighing_of word) }

abbrev pub intensity : Choice
intensity = number_choice (codes "intensity") (codes "0 to 1000") 0 1000

abbrev pub period : Choice
period = number_choice (codes "period") (codes "1 to 1000000") 1 1000000

abbrev pub buffer : Choice
buffer = number_choice (codes "buffer") (codes "1 to 1024") 1 1024

-- an option with a word that is no value of it
pub record BadWord : Type 0 where
  pub name : Text
  pub values : Text
  pub word : Text

abbrev pub bad_word : BadOption → BadWord
bad_word bad = record { name = bad.name.now; values = bad.values.now; word = bad.word.now }

-- this option's word, where it is no value of it
unfoldable pub bad_in : Choice → List Row → Option BadWord
bad_in choice options = do
  word ← first_of choice.name options
  if choice.takes word then None else Some (record { name = choice.name; values = choice.values; word = word })

-- the first, and where there is none the second
infixl 9 ◌<|>◌
abbrev pub ◌<|>◌ : {A : Type 0} → Option A → Option A → Option A
first <|> second = option_or first second

-- the first of them that has such a word
unfoldable pub bad_option_in : List Row → Option BadWord
bad_option_in options = bad_in weigh options <|> bad_in intensity options <|> bad_in period options <|> bad_in buffer options

-- among a command's options, where there is a command
abbrev pub bad_option_of : Option (Text × List Row) → Option BadWord
bad_option_of command = command >>= λ c. bad_option_in c.1

-- what is told of it
abbrev pub bad_word_text : BadWord → Text
bad_word_text bad = codes "invalid value '" ++ (bad.word ++ (codes "' for '--" ++ (bad.name ++ (codes " <" ++ (bad.values ++ codes ">'")))))

abbrev pub bad_value_text : Option BadWord → Text
bad_value_text (Some bad) = bad_word_text bad
bad_value_text None = codes "invalid value for an option"
