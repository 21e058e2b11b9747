use Rattle.std.proofs.Common.{◌≡◌, ◌+◌, ◌++◌, [], ◌∷◌, take, get_or, subst, sym}
use Rattle.std.proofs.lemmas.List.{take_more}
use Rattle.sup_node_gate.specs.Gates.{view_of}
use Rattle.sup_uses.specs.SharedGates.{CallsActs, CallsAct}
use Rattle.sup_uses.proofs.SharedCallLaws.{calls_none, calls_more}
use Rattle.sup_uses.proofs.sharing.make_acts.Goals as goal

pub loop-act-init : goal.loop-act-init
loop-act-init g c = record { of = c.requires; calls = calls_none (view_of c.args.pass) }

pub loop-act-preserved : goal.loop-act-preserved
loop-act-preserved g c =
    let l = c.loop-act in
    let acts = c.args.acts.now in
    let act = get_or acts l.act-index c.act-item.result in
    let next : take (l.act-index + 1) acts ≡ take l.act-index acts ++ act ∷ [] = take_more acts l.act-index c.act-item.result c.loop-act-test.true in
    let called = subst (λ a. CallsAct a (view_of l.pass) (view_of c.make_act.new.pass)) c.act-item.is (c.make_act.ensures.calls c.if-not-make_act.false) in
    record {
      of = c.make_act.ensures.of;
      calls = subst (λ xs. CallsActs xs (view_of c.args.pass) (view_of c.make_act.new.pass)) (sym next)
          (calls_more (take l.act-index acts) act (view_of c.args.pass) (view_of l.pass) (view_of c.make_act.new.pass) l.invariant.calls called c.make_act.ensures.shares);
    }
