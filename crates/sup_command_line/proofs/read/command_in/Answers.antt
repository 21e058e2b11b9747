use Rattle.clap.specs.Words.{found_of, rows_of}
use Rattle.sup_command_line.proofs.Requests.{paired}
use Rattle.sup_command_line.proofs.read.command_in.Goals as goal

pub returns : goal.returns
returns c = paired (λ p. p.0.now) (λ p. rows_of (found_of p.1.now)) _ _ c.subcommand.ensures.name c.subcommand.ensures.rows
