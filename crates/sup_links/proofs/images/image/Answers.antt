use Rattle.std.proofs.Common.{◌+◌, ◌++◌, ◌∷◌, [], take, ap, sym, ◌∙◌, refl}
use Rattle.sup_links.specs.Image.{copies}
use Rattle.sup_links.specs.Texts.{texts}
use Rattle.sup_links.specs.Waiting.{waiting, held_back, counted, due}
use Rattle.sup_links.proofs.PutLaws.{Step, text_more, text_told, brings, keeps}
use Rattle.sup_links.proofs.images.image.Goals as goal

pub loop-place-preserved : goal.loop-place-preserved
loop-place-preserved c =
    let script = c.args.script.now.0.items in
    let sent = c.args.sent.now in
    let place = c.loop-place.place in
    let text = c.deref.result.now in
    let verdict = c.verdict_at.result in
    let before = waiting c.loop-place.held.items in
    let step : Step script (texts (take place sent)) (texts (take (place + 1) sent)) text verdict (copies verdict (text ∷ [])) (before ++ held_back verdict text) = record {
      more = text_more sent place c.index-sent-place.result text c.loop-place-test.true c.index-sent-place.is c.deref.ensures.value;
      told = text_told script sent place verdict c.loop-place-test.true c.verdict_at.ensures;
      leaves = refl;
      stays = ap (λ l. l ++ held_back verdict text) c.loop-place.invariant.waits;
    } in
    record {
      out = c.in_ok-push_message.ensures.out ∙ (ap (λ l. l ++ (copies verdict (text ∷ []) ++ due (counted (before ++ held_back verdict text)))) c.loop-place.invariant.out ∙ sym (brings step));
      waits = c.in_ok-push_message.ensures.held ∙ keeps step;
    }
