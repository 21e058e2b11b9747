use Rattle.std.proofs.Common.{arith, ◌≡◌, ◌+◌, ◌++◌, [], ◌∷◌, length, length-append, ap, sym, ◌∙◌, append_assoc, subst, refl}
use Rattle.sup_node_gate.specs.Gates.{view_of}
use Rattle.sup_posts.specs.Rounds.{MakesCommands}
use Rattle.sup_driving.specs.Called.{MakesCommand, stood_by}
use Rattle.sup_posts.proofs.ItemLaws.{none_left}
use Rattle.sup_driving.proofs.RoundLaws.{commands_none, commands_then, commands_still}
use Rattle.sup_driving.proofs.WirePutLaws.{all_same, all_later, none_shipped}
use Rattle.sup_driving.proofs.field.Field.drive.Goals as goal

pub loop-command-init : goal.loop-command-init
loop-command-init g c = (
  refl,
  c.requires.of,
  all_same c.args.wires.now,
  none_shipped (view_of c.args.seat.now).seen c.args.wires.now c.requires.unused,
  commands_none (g.N.Runner.did c.args.self.now.runner.now c.args.post.now.name) (stood_by g.C.Checkpoint.was_before g.C.Checkpoint.was_answered c.args.self.now.checkpoint.now c.args.post.now.name) (view_of c.args.seat.now),
  refl,
)

pub loop-command-preserved : goal.loop-command-preserved
loop-command-preserved g c =
    let stood = stood_by g.C.Checkpoint.was_before g.C.Checkpoint.was_answered c.args.self.now.checkpoint.now c.args.post.now.name in
    let n = length c.loop-command.yielded in
    let did = g.N.Runner.did c.args.self.now.runner.now c.args.post.now.name in
    let plus_one : n + 1 ≡ 1 + n = omega arith in
    let rest = c.next.new.self.rest.items in
    let long : n + length (c.in-Some.command ∷ rest) ≡ length c.args.commands.items
    = sym (length-append c.loop-command.yielded (c.in-Some.command ∷ rest))
    ∙ ap length (ap (λ l. c.loop-command.yielded ++ l) (sym c.in-Some.ensures.steps.0) ∙ (c.loop-command.invariant.0 ∙ c.into_iter-command-iterator.ensures.into_iter_gives.0)) in
    let here : c.saturating_add-place.result ≡ n + 1
    = omega (arith, c.saturating_add-place.ensures, c.loop-command.invariant.5, long, c.args.commands.ok.0, c.args.commands.ok.1, c.args.commands.small) in (
      append_assoc c.loop-command.yielded (c.in-Some.command ∷ []) c.next.new.self.rest.items ∙ (ap (λ l. c.loop-command.yielded ++ l) (sym c.in-Some.ensures.steps.0) ∙ c.loop-command.invariant.0),
      c.make.ensures.of,
      all_later c.args.wires.now c.loop-command.wires c.make.new.wires c.loop-command.invariant.2 c.in_ok-shipped.ensures.later,
      c.in_ok-shipped.ensures.shipped,
      commands_then did stood (view_of c.args.seat.now) (view_of c.loop-command.seat) (view_of c.make.new.seat) c.loop-command.yielded c.in-Some.command c.loop-command.invariant.4
          (subst (λ place. MakesCommand did stood (view_of c.loop-command.seat) c.in-Some.command place (view_of c.make.new.seat)) (here ∙ plus_one) c.in_ok-shipped.ensures.made),
      here ∙ sym (length-append c.loop-command.yielded (c.in-Some.command ∷ [])),
    )

pub returns-clause-later : goal.returns-clause-later
returns-clause-later g c = all_later c.args.wires.now c.loop-command.wires c.ship.new.wires c.loop-command.invariant.2 c.in_ok-ship.ensures.later

pub returns-clause-made : goal.returns-clause-made
returns-clause-made g c =
    let did = g.N.Runner.did c.args.self.now.runner.now c.args.post.now.name in
    let stood = stood_by g.C.Checkpoint.was_before g.C.Checkpoint.was_answered c.args.self.now.checkpoint.now c.args.post.now.name in
    let all = none_left c.loop-command.yielded c.loop-command.command-iterator.rest.items c.args.commands.items (sym c.loop-command.command-iterator.rest.ok.0 ∙ c.in-None.ensures.steps.0)
    (c.loop-command.invariant.0 ∙ c.into_iter-command-iterator.ensures.into_iter_gives.0) in
    commands_still did stood (view_of c.args.seat.now) (view_of c.loop-command.seat) (view_of c.ship.new.seat) c.args.commands.items
    (subst (λ l. MakesCommands did stood (view_of c.args.seat.now) l (view_of c.loop-command.seat)) all c.loop-command.invariant.4) c.ship.ensures.own c.ship.ensures.shares
