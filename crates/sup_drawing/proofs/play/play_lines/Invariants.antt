use Rattle.std.proofs.Common.{List, drop}
use Rattle.sup_noting.specs.Noted.{Noted, noted_of}
use Rattle.sup_world.specs.SeenNodes.{SeenNode, sites_of}
use Rattle.sup_drawing.specs.Lines.{LinesGo, captions_of}
use Rattle.sup_drawing.proofs.play.play_lines.Given as goal

abbrev pub invariant-loop-line : goal.invariant-loop-line
invariant-loop-line g l = (new : List SeenNode) (n : Noted) → LinesGo g.G.Weigh.weight_of (captions_of l.captions) (sites_of l.world) (noted_of l.log) (drop l.line-index l.lines) new n
    → LinesGo g.G.Weigh.weight_of (captions_of l.captions) (sites_of l.fn.world) (noted_of l.fn.log) l.lines new n
