use Rattle.std.proofs.Common.{◌≡◌, ◌↔◌, IsTrue, sym, subst}
use Rattle.sup_tables.specs.States.{IsKept}
use Rattle.sup_tables.specs.Stored.{StoredTables, stored_in, state_of}
use Rattle.sup_tables.specs.Planned.{IsPlanFor, AreTouched, MembersDiffer}
use Rattle.sup_tables.proofs.StoredLaws.{IsOrderedStored}
use Rattle.sup_tables.proofs.TouchedLaws.{children_touched, members_touched}
use Rattle.sup_tables.proofs.tables.Tables.touched_by.Goals as goal

pub returns-clause-children : goal.returns-clause-children
returns-clause-children c new is =
    let p = c.args.plan.now in
    let mine = c.args.self.now in
    let q = c.stores-store.result.now in
    let a : StoredTables = stored_in q in
    let o : IsOrderedStored a = record { member_values = q.first.ordered; child_values = q.second.first.ordered; name_values = q.second.second.ordered } in
    let same : mine ≡ state_of mine.context a = c.stores-store.ensures.state in
    subst (λ s. AreTouched c.in_ok-children.children.items s new) (sym same)
    (children_touched p mine.context a o (subst IsKept same c.context.ensures.kept) new (subst (λ s. IsPlanFor p s new) same is) c.in_ok-children.children.items c.in_ok-children.ensures.exact)

pub returns-clause-members : goal.returns-clause-members
returns-clause-members c new is =
    let p = c.args.plan.now in
    let mine = c.args.self.now in
    let q = c.stores-store.result.now in
    let a : StoredTables = stored_in q in
    let o : IsOrderedStored a = record { member_values = q.first.ordered; child_values = q.second.first.ordered; name_values = q.second.second.ordered } in
    let same : mine ≡ state_of mine.context a = c.stores-store.ensures.state in
    subst (λ s. IsTrue c.differs_in.result ↔ MembersDiffer s new) (sym same)
    (members_touched p mine.context a o (subst IsKept same c.context.ensures.kept) new (subst (λ s. IsPlanFor p s new) same is) c.differs_in.result c.differs_in.ensures)
