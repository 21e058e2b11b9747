use Rattle.sup_causal.proofs.Walk.{rises_past, steps}
use Rattle.sup_causal.proofs.merge.walk.KeyByKeyIterator.next.Goals as goal

pub invariant_of-self : goal.invariant_of-self
invariant_of-self g c =
    let s = c.args.self.now in
    record { left_rises = rises_past g.K.Ord.cmp _ s.left _ c.go_past.ensures s.left_rises; right_rises = rises_past g.K.Ord.cmp _ s.right _ c.go_past-2.ensures s.right_rises }

pub returns-clause-steps : goal.returns-clause-steps
returns-clause-steps g c =
    let s = c.args.self.now in
    steps g.K.Ord.cmp g.met.K.Ord.total c.in_ok-key.key.now _ _ c.peek.result c.peek-2.result s.left s.right _ _ c.peek.ensures c.peek-2.ensures s.left_rises s.right_rises c.in_ok-key.ensures c.go_past.ensures c.go_past-2.ensures
