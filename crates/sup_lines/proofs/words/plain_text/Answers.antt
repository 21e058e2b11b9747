use Rattle.std.proofs.Common.{rules}
use Rattle.sup_lines.proofs.Texts.{plain_is_text}
use Rattle.sup_lines.proofs.words.plain_text.Goals as goal

pub returns-in-Err : goal.returns-in-Err
returns-in-Err c = absurd (c.in-Err.ensures.cases.0 (plain_is_text _ (search rules)))
