use Rattle.std.proofs.Common.{◌∙◌, sym, subst, take}
use Rattle.sup_specs.specs.Values.{Bytes}
use Rattle.sup_journal.specs.Files.{IsCut}
use Rattle.sup_journal.proofs.LineLaws.{cut_at, none_within}
use Rattle.sup_journal.proofs.lines.cut_line.Goals as goal

pub returns-in-Some : goal.returns-in-Some
returns-in-Some c = subst (λ (rest : Bytes). IsCut c.args.text.now (take c.in-Some.end c.args.text.now) rest) (sym c.behind.ensures)
    (cut_at c.args.text.now c.in-Some.end (sym c.find_feed.ensures.place ∙ c.in-Some.is))

pub returns-in-None : goal.returns-in-None
returns-in-None c = none_within c.args.text.now (sym c.find_feed.ensures.place ∙ c.in-None.is)
