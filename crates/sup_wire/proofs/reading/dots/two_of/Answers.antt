use Rattle.std.proofs.Common.{◌≡◌, ◌≢◌, length, Some, sym, ap, ◌∙◌, arith}
use Rattle.std.specs.Prelude.{option_map, option_and_then}
use Rattle.serde_json.specs.Find.{as_array}
use Rattle.serde_json.specs.View.{view, items_view}
use Rattle.sup_wire.specs.RowReads.{two_at, two_in}
use Rattle.sup_wire.proofs.Few.{two_none}
use Rattle.sup_wire.proofs.reading.dots.two_of.Goals as goal

pub returns-then-len-ne2 : goal.returns-then-len-ne2
unfolding two_at
returns-then-len-ne2 c =
    let vs = c.in_ok-list.list.now.items in
    let there : as_array (view c.args.value.now) ≡ Some (items_view vs) = sym c.as_array.ensures ∙ ap (option_map (λ v. items_view v.now.items)) c.in_ok-list.was in
    let other : length vs ≢ 2 = λ same. absurd (omega (arith, c.in_ok-list.list.now.ok.0)) in
    sym (ap (option_and_then two_in) there ∙ two_none vs other)
