-- What tables know is a whole state.
use Rattle.std.proofs.Common.{◌≡◌, true, subst}
use Rattle.sup_causal.specs.declared.dot.Dot.{Dot}
use Rattle.sup_causal.specs.Dots.{Context, has, IsCounted}
use Rattle.sup_tables.specs.Rows.{AreInOrder}
use Rattle.sup_tables.specs.States.{State, IsKept}
use Rattle.sup_tables.specs.Joined.{IsTables}
use Rattle.sup_tables.proofs.AfterLaws.{state_covered}
use Rattle.sup_wire.specs.Drafts.{IsWhole}

pub whole-state : (s : State) (context : Context) → IsTables s → IsKept s → AreInOrder s.rows → context ≡ s.context → ((d : Dot) → has context d ≡ true → IsCounted d) → IsWhole s
whole-state s context tables kept in_order knows counted = record {
  tables = tables;
  in_order = in_order;
  covered = state_covered s kept;
  counted = subst (λ (x : Context). (d : Dot) → has x d ≡ true → IsCounted d) knows counted;
}
