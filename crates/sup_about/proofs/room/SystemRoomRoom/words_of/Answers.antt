use Rattle.std.proofs.Common.{◌≡◌, ◌∙◌, length, ap, Ok, vec_len}
use Rattle.std.proofs.lemmas.Iterator.Adapters.{fact_from_collect, YieldsList-from_skip, YieldsList-from_vec}
use Rattle.std.specs.Vec.Iter.{into_iter_items, into_iter_len}
use Rattle.sup_about.proofs.room.SystemRoomRoom.words_of.Goals as goal

pub returns-clause-words : goal.returns-clause-words
returns-clause-words c =
    let given = c.args.arguments in
    let all = YieldsList-from_vec (into_iter_items given) (ap into_iter_items c.skip.ensures.source) (ap into_iter_len c.skip.ensures.source ∙ given.rest.ok.0) in
    let behind = YieldsList-from_skip {s = c.skip.result} 1 all c.skip.ensures.count in
    (fact_from_collect {E = Unit {0}} (λ xs v. (v.items ≡ xs) × (vec_len v ≡ length xs)) (Ok c.in_ok-words.words) c.in_ok-words.ensures.ran behind).0
