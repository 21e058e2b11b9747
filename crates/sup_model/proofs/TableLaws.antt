-- States of tables meet the laws that the world asks of them.
use Rattle.std.specs.Prelude.{◌≡◌, [], List, None}
use Rattle.std.proofs.Common.{sym, ap, ◌∙◌, subst}
use mathlib.Core.Path.{fun_ext}
use Rattle.sup_specs.specs.Values.{Bytes}
use Rattle.sup_causal.specs.Dots.{has, IsGreatest}
use Rattle.sup_causal.proofs.GreatestLaws.{one_greatest}
use Rattle.sup_dot_store.specs.Points.{standing}
use Rattle.sup_tables.specs.Operations.{Operation, known, greatest}
use Rattle.sup_tables.specs.States.{State, StandsFor, knowledge, together, together_laws}
use Rattle.sup_tables.specs.Joined.{no_state, join_states}
use Rattle.sup_tables.specs.OneOperation.{counter_in}
use Rattle.sup_tables.proofs.OneForm.{has_among, same_state, same_of_stands, nothing_stands, nothing_is_tables}
use Rattle.sup_tables.proofs.OneOperationLaws.{one_stands, one_is_tables, counter_greatest}
use Rattle.sup_tables.proofs.GreatestLaws.{greatest_is}
use Rattle.sup_tables.proofs.JoinLaws.{join_stands}
use Rattle.sup_tables.proofs.StateJoins.{knows_both, tables_both, below_of_test, test_of_below}
use Rattle.sup_local_sup.proofs.HeldLaws.{window_decides, window_restarts, window_forgets, window_itself}
use Rattle.sup_anti_entropy.specs.Joins.{joins_of}
use Rattle.sup_replica.specs.ByTables.{TablesStandFor, by_tables}
use Rattle.sup_model.specs.Laws.{StateLaws}
use Rattle.sup_model.specs.TableViews.{no_meaning, table_joins, table_view}

counter_is : (s : State) (ops : List Operation) → StandsFor s ops → (node : Bytes) → counter_in s node ≡ greatest ops node
counter_is s ops st node =
    let same : has s.context ≡ known ops = fun_ext st.context in
    one_greatest (known ops) node (counter_in s node) (greatest ops node) (subst (λ holds. IsGreatest holds node (counter_in s node)) same (counter_greatest s node)) (greatest_is ops node)

none_knows : knowledge no_state ≡ no_meaning
none_knows = λ i. (fun_ext (λ d. has_among [] d) i, λ d t k. standing (has_among [] d i) None)

pub table_laws : StateLaws by_tables table_view
unfolding table_joins joins_of
table_laws = record {
  more_valid = λ a b v w. tables_both a b;
  more_up = λ a b v w. ap (together (knowledge (join_states a b))) (sym (knows_both a b)) ∙ together_laws.repeats _ ∙ knows_both a b;
  more_down = λ a b v w. ap (λ m. together m (knowledge (join_states a b))) (sym (knows_both a b)) ∙ together_laws.repeats _;
  nothing_up = ap (λ m. together m no_meaning) none_knows ∙ together_laws.repeats no_meaning;
  below = λ a b v w e. below_of_test a b v e;
  covered = λ a b v w e. test_of_below a b v e;
  is_valid = λ a ops h. h.tables;
  rows = λ a ops h. h.stands.rows;
  counter = λ a ops h node. counter_is a ops h.stands node;
  same = λ a ops others h g. record { stands = record { context = λ d. h.stands.context d ∙ g.dots d; rows = h.stands.rows ∙ g.rows }; tables = h.tables };
  only = λ a ops others h g. record { dots = λ d. sym (h.stands.context d) ∙ g.stands.context d; rows = sym h.stands.rows ∙ g.stands.rows };
  equal = λ a b ops h g. ap (λ x. together (knowledge x) (knowledge b)) (same_of_stands a b ops h.stands h.tables g.stands g.tables) ∙ together_laws.repeats (knowledge b);
  moves = λ a b ops h v up down.
      let e : a ≡ b = same_state a b h.tables v (sym down ∙ together_laws.commutes (knowledge b) (knowledge a) ∙ up) in
      subst (λ x. TablesStandFor x ops) e h;
  both = λ a b ops others h g clear.
      record { stands = join_stands a b (join_states a b) ops others h.stands g.stands clear (tables_both a b).kept (knows_both a b); tables = tables_both a b };
  one = λ op own. record { stands = one_stands op; tables = one_is_tables op };
  none = record { stands = nothing_stands; tables = nothing_is_tables };
  decides = window_decides;
  restarts = window_restarts;
  forgets = window_forgets;
  no_restart = window_itself;
}
