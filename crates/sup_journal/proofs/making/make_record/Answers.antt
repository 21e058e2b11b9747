use Rattle.std.proofs.Common.{sym, subst}
use Rattle.std.specs.Prelude.{Result, Ok, Err, IfOk, IsSome}
use Rattle.sup_specs.specs.Values.{Bytes}
use Rattle.sup_journal.specs.Changes.{AreShort, IsSmallChange}
use Rattle.sup_journal.proofs.ChangeLaws.{short_of}
use Rattle.sup_journal.proofs.making.make_record.Goals as goal

-- what holds of a value holds of it by another word
if_ok : {T E : Type 0} (P Q : T → Type 0) → ((v : T) → P v → Q v) → (r : Result T E) → IfOk r P → IfOk r Q
if_ok P Q f (Ok v) holds = f v holds
if_ok P Q f (Err e) holds = holds

pub returns-clause-found : goal.returns-clause-found
returns-clause-found c =
    let short : IsSmallChange c.args.old.now c.args.new.now → AreShort c.deref-2.result.now c.args.old.now c.args.new.now = λ small.
    subst (λ (edits : Bytes). AreShort edits c.args.old.now c.args.new.now) (sym c.deref-2.ensures.value) (short_of c.in_ok-edits-2.edits.items c.args.old.now c.args.new.now c.in_ok-edits-2.ensures small) in
    if_ok (λ found. AreShort c.deref-2.result.now c.args.old.now c.args.new.now → IsSome found) (λ found. IsSmallChange c.args.old.now c.args.new.now → IsSome found)
    (λ found given small. given (short small)) c.record_of-2.result c.record_of-2.ensures.found
