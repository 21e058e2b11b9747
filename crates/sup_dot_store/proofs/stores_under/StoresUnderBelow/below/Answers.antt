use mathlib.Core.Path.{fun_ext}
use Rattle.std.proofs.Common.{sym, ap, ◌∙◌}
use Rattle.std.specs.Option.{option_copied}
use Rattle.sup_causal.specs.Dots.{has}
use Rattle.sup_dot_store.specs.Places.{optional_held}
use Rattle.sup_dot_store.proofs.Keys.{covers_lent, below_is}
use Rattle.sup_dot_store.proofs.stores_under.StoresUnderBelow.below.Goals as goal

pub leq_under-requires-clause-mine : goal.leq_under-requires-clause-mine
leq_under-requires-clause-mine g c = covers_lent g.S.DotStore.held c.args.self.now.mine.now c.args.left c.in-Some-Some.left c.in-Some-Some.is-0 c.requires.0

pub leq_under-requires-clause-theirs : goal.leq_under-requires-clause-theirs
leq_under-requires-clause-theirs g c = covers_lent g.S.DotStore.held c.args.self.now.theirs.now c.args.right c.in-Some-Some.right c.in-Some-Some.is-1 c.requires.1

pub leq_under-requires-in-Some-None-clause-mine : goal.leq_under-requires-in-Some-None-clause-mine
leq_under-requires-in-Some-None-clause-mine g c = covers_lent g.S.DotStore.held c.args.self.now.mine.now c.args.left c.in-Some-None.left c.in-Some-None.is-0 c.requires.0

pub leq_under-requires-in-None-Some-clause-theirs : goal.leq_under-requires-in-None-Some-clause-theirs
leq_under-requires-in-None-Some-clause-theirs g c = covers_lent g.S.DotStore.held c.args.self.now.theirs.now c.args.right c.in-None-Some.right c.in-None-Some.is-1 c.requires.1

pub returns-in-Some-Some : goal.returns-in-Some-Some
returns-in-Some-Some g c =
    let s = g.S.DotStore in
    below_is s.held s.lesser (has c.args.self.now.mine.now) (has c.args.self.now.theirs.now) c.leq_under.result (s.held c.in-Some-Some.left.now) (optional_held s.held (option_copied c.args.left)) (s.held c.in-Some-Some.right.now) (optional_held s.held (option_copied c.args.right))
    (sym (ap (λ o. optional_held s.held (option_copied o)) c.in-Some-Some.is-0)) (sym (ap (λ o. optional_held s.held (option_copied o)) c.in-Some-Some.is-1)) c.leq_under.ensures

pub returns-in-None-Some : goal.returns-in-None-Some
returns-in-None-Some g c =
    let s = g.S.DotStore in
    below_is s.held s.lesser (has c.args.self.now.mine.now) (has c.args.self.now.theirs.now) c.leq_under-in-None-Some.result (s.held c.empty-nothing-in-None-Some.result) (optional_held s.held (option_copied c.args.left)) (s.held c.in-None-Some.right.now) (optional_held s.held (option_copied c.args.right))
    (fun_ext (λ d. fun_ext (λ p. c.empty-nothing-in-None-Some.ensures d p)) ∙ sym (ap (λ o. optional_held s.held (option_copied o)) c.in-None-Some.is-0)) (sym (ap (λ o. optional_held s.held (option_copied o)) c.in-None-Some.is-1)) c.leq_under-in-None-Some.ensures
