use Rattle.std.proofs.Common.{sym, ◌∙◌}
use Rattle.sup_answering.proofs.OnePeerLaws.{with_peer-known, with_peer-new}
use Rattle.sup_answering.proofs.filter.Filter.note.Goals as goal

pub returns-then-contains-clause-peers : goal.returns-then-contains-clause-peers
returns-then-contains-clause-peers g c =
    rw c.in-Some.is (with_peer-known c.in-Some.peer _ (rw c.deref.ensures.value at (sym c.contains.ensures.value ∙ c.if-contains.true)))

pub returns-clause-peers : goal.returns-clause-peers
returns-clause-peers g c =
    rw c.in-Some.is (c.in_ok-push.ensures.items ∙ with_peer-new c.in-Some.peer _ (rw c.deref.ensures.value at (sym c.contains.ensures.value ∙ c.if-contains.false)))
