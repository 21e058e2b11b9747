use Rattle.std.proofs.Common.{◌≡◌, ◌+◌, ◌++◌, ◌∷◌, drop, get_or, ap, sym, ◌∙◌, append_assoc}
use Rattle.std.proofs.lemmas.List.{drop_more}
use Rattle.sup_node_gate.specs.Histories.{letter_in, letters_of}
use Rattle.sup_node_gate.proofs.letters.copy_letters.Goals as goal

pub loop-place-preserved : goal.loop-place-preserved
loop-place-preserved c =
    let all = c.args.entries.now in
    let place = c.loop-place.place in
    let entry = get_or all place c.index-entries-place.result in
    let next : drop place all ≡ entry ∷ drop (place + 1) all = drop_more all place c.index-entries-place.result c.loop-place-test.true in
    ap (λ l. l ++ letters_of (drop (place + 1) all)) c.in_ok-copy_letter.ensures
    ∙ (append_assoc c.loop-place.letters.items (letter_in entry.answer) (letters_of (drop (place + 1) all))
    ∙ (ap (λ l. c.loop-place.letters.items ++ letters_of l) (sym next) ∙ c.loop-place.invariant))
