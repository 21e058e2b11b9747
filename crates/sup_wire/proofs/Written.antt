-- What the writers of whole messages give.
use Rattle.std.proofs.Common.{◌≡◌, ◌≢◌, ℕ, ◌<◌, ◌^◌, true, List, Result, Ok, Err, refl, ap₂, subst, ◌∙◌}
use Rattle.std.specs.Prelude.{OnOk}
use Rattle.sup_specs.specs.Values.{Bytes}
use Rattle.json.specs.Written.{Written}
use Rattle.sup_causal.specs.declared.dot.Dot.{Dot}
use Rattle.sup_causal.specs.Dots.{Context, has, IsCounted}
use Rattle.sup_tables.specs.declared.row.Row.{Row}
use Rattle.sup_tables.specs.States.{State, HasDotsOf, with_rows}
use Rattle.sup_wire.specs.declared.message.Message.TheVariants.{Ack, Push, Delta}
use Rattle.sup_wire.specs.declared.version.Version.TheVariants.{Two}
use Rattle.sup_wire.specs.Drafts.{TableParts, ack, push, delta, IsCut, IsDraftOf}
use Rattle.sup_wire.specs.Faults.{IsInRange}
use Rattle.sup_wire.specs.Forms.{IsName, AreWritten, AreParts, AreEnds, value_of}
use Rattle.sup_wire.specs.Writing.{AddsTokens, WritesDraft, tokens_of}
use Rattle.sup_wire.proofs.Formed.{parts_formed, parts_fit, ack_back, push_back, delta_back}

ends : (from to : Bytes) → IsName from → IsName to → from ≢ to → AreEnds from to
ends from to a b other = record { sender = a; receiver = b; differ = other }

pub writes_ack : (old new : Written) (from to : Bytes) (n : ℕ) → n < 2 ^ 64 → IsName from → IsName to → AddsTokens old new (tokens_of (value_of (ack from to n)))
    → WritesDraft IsDraftOf IsInRange old new (Ack from to n)
writes_ack old new from to n fits a b adds = record {
  draft = ack from to n;
  same = refl;
  adds = adds;
  back = ack_back from to n fits;
  formed = λ range. (ends from to a b range.0, range.1);
}

module _ (old new : Written) (s : State) (p : TableParts) (counted : (d : Dot) → has s.context d ≡ true → IsCounted d) (covered : HasDotsOf s.context s.rows) (cut : IsCut s p) (written : AreWritten p) where
  are_formed : AreParts Two p
  are_formed = parts_formed s p counted covered cut written

  pub writes_push : (from to : Bytes) → IsName from → IsName to → AddsTokens old new (tokens_of (value_of (push from to p))) → WritesDraft IsDraftOf IsInRange old new (Push from to s)
  writes_push from to a b adds = record {
    draft = push from to p;
    same = (p, cut, refl);
    adds = adds;
    back = push_back from to p (parts_fit s p cut are_formed);
    formed = λ range. (ends from to a b range, are_formed);
  }

  pub writes_delta : (from to : Bytes) (n : ℕ) → n < 2 ^ 64 → IsName from → IsName to → AddsTokens old new (tokens_of (value_of (delta from to n p))) → WritesDraft IsDraftOf IsInRange old new (Delta from to n s)
  writes_delta from to n fits a b adds = record {
    draft = delta from to n p;
    same = (p, cut, refl);
    adds = adds;
    back = delta_back from to n p fits (parts_fit s p cut are_formed);
    formed = λ range. (ends from to a b range.0, range.1, are_formed);
  }

-- the parts of one state are those of another that is the same
pub cut_of : (s : State) (context : Context) (rows : List Row) (p : TableParts) → context ≡ s.context → rows ≡ s.rows → IsCut (with_rows context rows) p → IsCut s p
cut_of s context rows p a b = subst (λ (t : State). IsCut t p) (ap₂ with_rows a b)

pub on_ok_three : {T E : Type 0} (r : Result T E) {A B C X : Type 0} → (A → B → C → X) → OnOk r A → OnOk r B → OnOk r C → OnOk r X
on_ok_three (Ok y) f a b c = f a b c
on_ok_three (Err e) f a b c = tt

pub on_ok_four : {T E : Type 0} (r : Result T E) {A B C D X : Type 0} → (A → B → C → D → X) → OnOk r A → OnOk r B → OnOk r C → OnOk r D → OnOk r X
on_ok_four (Ok y) f a b c d = f a b c d
on_ok_four (Err e) f a b c d = tt
