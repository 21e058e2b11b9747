use Rattle.std.proofs.Common.{◌≡◌, ◌≢◌, length, Some, sym, ap, ◌∙◌, arith}
use Rattle.std.specs.Prelude.{option_map, option_and_then}
use Rattle.serde_json.specs.Find.{as_array}
use Rattle.serde_json.specs.View.{view, items_view}
use Rattle.sup_wire.specs.RowReads.{four_at, four_in}
use Rattle.sup_wire.proofs.Few.{four_none}
use Rattle.sup_wire.proofs.reading.dots.four_of.Goals as goal

pub returns-then-len-ne4 : goal.returns-then-len-ne4
unfolding four_at
returns-then-len-ne4 c =
    let vs = c.in_ok-list.list.now.items in
    let there : as_array (view c.args.value.now) ≡ Some (items_view vs) = sym c.as_array.ensures ∙ ap (option_map (λ v. items_view v.now.items)) c.in_ok-list.was in
    let other : length vs ≢ 4 = λ same. absurd (omega (arith, c.in_ok-list.list.now.ok.0)) in
    sym (ap (option_and_then four_in) there ∙ four_none vs other)
