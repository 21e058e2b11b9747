use Rattle.std.proofs.Common.{◌≡◌, ◌∙◌, arith}
use Rattle.std.proofs.lemmas.Grind.{common_steps}
use Rattle.std.specs.List.{list_any}
use Rattle.std.specs.Str.{bytes_eq}
use Rattle.sup_lines.specs.Words.{texts}
use Rattle.sup_lines.proofs.Loops.{any_texts}
use Rattle.sup_lines.proofs.opening.+are_distinct.Goals as goal

pub returns-then-not-contains : goal.returns-then-not-contains
returns-then-not-contains t c =
    let found : c.contains.result ≡ list_any (λ other. bytes_eq other c.in-Some.word.now.now) (texts c.in-Some.others.now) = c.contains.ensures.value ∙ any_texts c.in-Some.word.now.now c.in-Some.others.now in
    grind (arith, common_steps, found)

pub returns-else-not-contains : goal.returns-else-not-contains
returns-else-not-contains t c =
    let found : c.contains.result ≡ list_any (λ other. bytes_eq other c.in-Some.word.now.now) (texts c.in-Some.others.now) = c.contains.ensures.value ∙ any_texts c.in-Some.word.now.now c.in-Some.others.now in
    grind (arith, common_steps, found)
