use Rattle.std.proofs.Common.{◌∙◌}
use Rattle.sup_noting.specs.Noted.{noted_of}
use Rattle.sup_world.specs.SeenNodes.{sites_of}
use Rattle.sup_drawing.proofs.drawn.draw_lines.Goals as goal

pub returns-clause-draws : goal.returns-clause-draws
returns-clause-draws g c = record {
  sites = sites_of c.in_ok-world.world;
  opens = c.in_ok-world.ensures.shows;
  stands = c.in_ok-world.ensures.stands;
  unfailed = c.in_ok-world.ensures.unfailed;
  after = sites_of c.play_lines.new.world;
  noted = noted_of c.play_lines.new.log;
  goes = rw c.empty_log-log.ensures at c.in_ok-play_lines.ensures;
  picture = c.in_ok-picture.picture;
  pictures = record {
    nodes = c.in_ok-picture.ensures.nodes ∙ c.in_ok-nodes.ensures.items_if_clones_equal (λ x y same. same);
    rows = c.in_ok-picture.ensures.rows;
    arrows = c.in_ok-picture.ensures.arrows;
    bars = c.in_ok-picture.ensures.bars;
    children = c.in_ok-picture.ensures.children;
    gaps = c.in_ok-picture.ensures.gaps;
  };
  says = c.in_ok-text.ensures;
}
