-- What words ask for: a subcommand's name and rows from both of them apart, and words with a fault.
use Rattle.std.proofs.Common.{◌≡◌, List, [], ◌∷◌, Option, Some, None, option_map, refl, Box}
use Rattle.std.specs.Prelude.{◌≢◌}
use Rattle.std.specs.Box.{box_value}
use Rattle.clap.specs.Kinds.{Kinds}
use Rattle.clap.specs.Words.{Text, Row, subcommand_rows}
use Rattle.clap.specs.declared.parser.matches.SubCommand.{SubCommand}
use Rattle.clap.specs.declared.parser.matches.ArgMatches.TheViews.{out-SubCommand}
use Rattle.sup_command_line.specs.Requests.{unless_faulty}
use Rattle.sup_command_line.specs.declared.request.Request.{Request}

module _ {Z A : Type 0} (name : A → Text) (rows : A → List Row) where
  pub paired : (met : Option A) (sub : Option (Box SubCommand Z)) → option_map name met ≡ option_map (λ b. (out-SubCommand (box_value b)).name.now) sub → option_map rows met ≡ option_map (λ p. p.1) (subcommand_rows sub) → option_map (λ a. (name a, rows a)) met ≡ subcommand_rows sub
  paired None None n r = refl
  paired None (Some b) n r = cc
  paired (Some a) None n r = cc
  paired (Some a) (Some b) n r = cc

pub with_fault : (kinds : Kinds) (request : Option Request) → kinds ≢ [] → unless_faulty kinds request ≡ None
with_fault [] request h = absurd (h refl)
with_fault (kind ∷ kinds) request h = refl

pub without_request : (kinds : Kinds) → unless_faulty kinds None ≡ None
without_request [] = refl
without_request (kind ∷ kinds) = refl
