use Rattle.std.proofs.Common.{◌≡◌, Bool, subst}
use Rattle.sup_specs.specs.Values.{Bytes}
use Rattle.sup_jobs.proofs.Endings.{stopped}
use Rattle.sup_jobs.specs.declared.fault.Fault.TheVariants.{Device}
use Rattle.sup_model.specs.Worlds.{new}
use Rattle.sup_world.specs.Newness.{setting_in}
use Rattle.sup_world.specs.SeenNodes.{sites_of}
use Rattle.sup_program.specs.Plays.{AreInOrder, PrintsPart}
use Rattle.sup_program.specs.Prints.{TellsMessages}
use Rattle.sup_program.specs.SimulatedScripts.{simulation}
use Rattle.sup_program.proofs.DryLineLaws.{script_dry}
use Rattle.sup_program.proofs.WholeScriptLaws.{prints_all, prints_part, stops_part}
use Rattle.sup_program.proofs.simulate.run_bytes.Goals as goal

pub play-requires-clause-bytes : goal.play-requires-clause-bytes
play-requires-clause-bytes g c =
    let script = c.in-Ok.script in
    rw c.as_slice-4.ensures.value (script_dry c.args.input.now (script.nodes.items, script.lines.items) c.in-Ok.ensures)

pub returns-in-Ok-play-clause-ends : goal.returns-in-Ok-play-clause-ends
returns-in-Ok-play-clause-ends g c =
    let script = c.in-Ok.script in
    let weigher = g.G.Weigh.weight_of in
    let ordered : AreInOrder script.nodes.items c.in_ok-peers.peers.items = record { sorted = c.in_ok-peers.ensures.sorted; all = rw c.as_slice-2.ensures.value at c.in_ok-peers.ensures.all } in
    let in_order : AreInOrder c.as_slice.result.now c.as_slice-3.result.now = rw (c.as_slice.ensures.value, c.as_slice-3.ensures.value) ordered in
    let all = λ (is_message : Bytes → Bool) (tells : TellsMessages is_message). c.in-Ok-play.ensures.all (new (setting_in weigher c.args.config) is_message c.as_slice.result.now) (c.in-Ok-new.ensures.stands is_message) tells in
    let printed = prints_all weigher c.args.config c.as_slice.result.now c.as_slice-3.result.now (sites_of c.in-Ok-new.world) c.as_slice-4.result.now (g.W.Write.contents c.args.writer.now) (g.W.Write.contents c.play.new.writer) in_order c.in-Ok-new.ensures.shows all in
    (c.requires, ((script.nodes.items, script.lines.items), c.in-Ok.ensures, rw (c.as_slice.ensures.value, c.as_slice-4.ensures.value) at printed))

pub returns-clause-ends : goal.returns-clause-ends
returns-clause-ends g c =
    let script = c.in-Ok.script in
    let weigher = g.G.Weigh.weight_of in
    let ordered : AreInOrder script.nodes.items c.in_ok-peers.peers.items = record { sorted = c.in_ok-peers.ensures.sorted; all = rw c.as_slice-2.ensures.value at c.in_ok-peers.ensures.all } in
    let in_order : AreInOrder c.as_slice.result.now c.as_slice-3.result.now = rw (c.as_slice.ensures.value, c.as_slice-3.ensures.value) ordered in
    let until = λ (is_message : Bytes → Bool) (tells : TellsMessages is_message). c.in-Err-play.ensures.until (new (setting_in weigher c.args.config) is_message c.as_slice.result.now) (c.in-Ok-new.ensures.stands is_message) tells in
    let part = prints_part weigher c.args.config c.as_slice.result.now c.as_slice-3.result.now (sites_of c.in-Ok-new.world) c.as_slice-4.result.now c.in-Err-play.fault (g.W.Write.contents c.args.writer.now) (g.W.Write.contents c.play.new.writer) in_order c.in-Ok-new.ensures.shows until in
    stopped (Unit {0}) (simulation weigher c.args.config) (script.nodes.items, script.lines.items) c.in-Err-play.fault c.args.input.now _ _ c.requires c.in-Ok.ensures
    (stops_part weigher c.args.config script.nodes.items script.lines.items c.in-Err-play.fault _ _ c.in-Err-play.ensures.faults (rw (c.as_slice.ensures.value, c.as_slice-4.ensures.value) at part))

pub returns-clause-device : goal.returns-clause-device
returns-clause-device g c = λ is.
    let script = c.in-Ok.script in
    let weigher = g.G.Weigh.weight_of in
    let ordered : AreInOrder script.nodes.items c.in_ok-peers.peers.items = record { sorted = c.in_ok-peers.ensures.sorted; all = rw c.as_slice-2.ensures.value at c.in_ok-peers.ensures.all } in
    let in_order : AreInOrder c.as_slice.result.now c.as_slice-3.result.now = rw (c.as_slice.ensures.value, c.as_slice-3.ensures.value) ordered in
    let until = λ (is_message : Bytes → Bool) (tells : TellsMessages is_message). c.in-Err-play.ensures.until (new (setting_in weigher c.args.config) is_message c.as_slice.result.now) (c.in-Ok-new.ensures.stands is_message) tells in
    let part = prints_part weigher c.args.config c.as_slice.result.now c.as_slice-3.result.now (sites_of c.in-Ok-new.world) c.as_slice-4.result.now c.in-Err-play.fault (g.W.Write.contents c.args.writer.now) (g.W.Write.contents c.play.new.writer) in_order c.in-Ok-new.ensures.shows until in
    let same : c.in-Err-play.fault ≡ Device = cc in
    let read : PrintsPart weigher c.args.config script.nodes.items script.lines.items c.in-Err-play.fault (g.W.Write.contents c.args.writer.now) (g.W.Write.contents c.play.new.writer) = rw (c.as_slice.ensures.value, c.as_slice-4.ensures.value) at part in
    ((script.nodes.items, script.lines.items), c.in-Ok.ensures, subst (λ f. PrintsPart weigher c.args.config script.nodes.items script.lines.items f (g.W.Write.contents c.args.writer.now) (g.W.Write.contents c.play.new.writer)) same read)
