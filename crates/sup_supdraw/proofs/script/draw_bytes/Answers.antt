use Rattle.std.proofs.Common.{List, ℕ}
use Rattle.std.proofs.lemmas.List.Elements.{All-weaker}
use Rattle.std.specs.String.{string_bytes}
use Rattle.sup_drawing.specs.Lines.{IsDry}
use Rattle.sup_program.proofs.DryLineLaws.{script_dry}
use Rattle.sup_program.specs.PlayedLines.{BringsNoBytes}
use Rattle.sup_supdraw.proofs.DrawnScriptLaws.{asks_all, asks_short, dry, stops_short}
use Rattle.sup_supdraw.proofs.script.draw_bytes.Goals as goal

pub draw_lines-requires : goal.draw_lines-requires
draw_lines-requires g c =
    let script = c.in-Ok.script in
    rw c.as_slice-3.ensures.value (All-weaker BringsNoBytes IsDry dry script.lines.items (script_dry c.args.input.now (script.nodes.items, script.lines.items) c.in-Ok.ensures))

pub returns-in_err-put_all-clause-ends : goal.returns-in_err-put_all-clause-ends
returns-in_err-put_all-clause-ends g c =
    let script = c.in-Ok.script in
    let text : List ℕ = string_bytes c.in-Ok-draw_lines.text in
    let draws = rw (c.as_slice-2.ensures.value, c.as_slice-3.ensures.value, c.behind_first-captions.ensures, c.as_slice.ensures.value, c.in_ok-numbered.ensures) at c.in-Ok-draw_lines.ensures.draws in
    let short = rw c.as_bytes.ensures.value at c.in_err-put_all.ensures in
    stops_short g.G.Weigh.weight_of c.args.config c.args.input.now (g.W.Write.contents c.args.writer.now) (g.W.Write.contents c.put_all.new.writer) c.from_residual-in_err-put_all.result _ c.requires
    c.from_residual-in_err-put_all.ensures.1 (λ _ e. e)
    (asks_short g.G.Weigh.weight_of c.args.config c.args.input.now (g.W.Write.contents c.args.writer.now) (g.W.Write.contents c.put_all.new.writer) (script.nodes.items, script.lines.items) text
    c.in-Ok.ensures draws short)

pub returns-in_err-put_all-clause-device : goal.returns-in_err-put_all-clause-device
returns-in_err-put_all-clause-device g c = λ is.
    let script = c.in-Ok.script in
    let text : List ℕ = string_bytes c.in-Ok-draw_lines.text in
    let draws = rw (c.as_slice-2.ensures.value, c.as_slice-3.ensures.value, c.behind_first-captions.ensures, c.as_slice.ensures.value, c.in_ok-numbered.ensures) at c.in-Ok-draw_lines.ensures.draws in
    let short = rw c.as_bytes.ensures.value at c.in_err-put_all.ensures in
    asks_short g.G.Weigh.weight_of c.args.config c.args.input.now (g.W.Write.contents c.args.writer.now) (g.W.Write.contents c.put_all.new.writer) (script.nodes.items, script.lines.items) text
    c.in-Ok.ensures draws short

pub returns-clause-ends : goal.returns-clause-ends
returns-clause-ends g c =
    let script = c.in-Ok.script in
    let text : List ℕ = string_bytes c.in-Ok-draw_lines.text in
    let draws = rw (c.as_slice-2.ensures.value, c.as_slice-3.ensures.value, c.behind_first-captions.ensures, c.as_slice.ensures.value, c.in_ok-numbered.ensures) at c.in-Ok-draw_lines.ensures.draws in
    let writes = rw c.as_bytes.ensures.value at c.in_ok-put_all.ensures in (
      c.requires,
      asks_all g.G.Weigh.weight_of c.args.config c.args.input.now (g.W.Write.contents c.args.writer.now) (g.W.Write.contents c.put_all.new.writer) (script.nodes.items, script.lines.items) text
          c.in-Ok.ensures draws writes,
    )
