use Rattle.std.proofs.Common.{◌-◌, ◌++◌, ◌∙◌, ap, take, drop, length}
use Rattle.std.proofs.lemmas.List.{take_rest}
use Rattle.sup_specs.specs.Values.{Bytes}
use Rattle.sup_journal.specs.Edits.{Edit, written}
use Rattle.sup_journal.proofs.ChangeLaws.{before, least}
use Rattle.sup_journal.proofs.one_edit.one_edit.Goals as goal

pub returns : goal.returns
returns c =
    let tail = c.common_tail-tail.result in
    let front = c.common_front-retained.result in
    let to : Bytes = before tail c.args.new.now in
    let edit : Bytes → Edit = λ inserted. record { retained = front; deleted = length (before tail c.args.old.now) - front; inserted = inserted } in
    least tail front c.args.old.now c.args.new.now c.put_edit.new.edits.items c.common_tail-tail.ensures c.common_front-retained.ensures
    (c.in_ok-put_edit.ensures
    ∙ ap (λ (b : Bytes). b ++ written (edit (take (length to - front) (drop front to)))) c.new-edits.ensures.items
    ∙ ap (λ (inserted : Bytes). written (edit inserted)) (take_rest to front))
