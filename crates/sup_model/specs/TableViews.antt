-- What states of tables mean to anti-entropy, and what they stand for (this project).
use Rattle.std.specs.Prelude.{Bool, refl}
use Rattle.sup_dot_store.specs.Points.{unknown}
use Rattle.sup_tables.specs.States.{State, Knowledge as Meaning, knowledge, together, together_laws}
use Rattle.sup_tables.specs.Joined.{IsTables}
use Rattle.sup_local_sup.specs.Supervising.{HoldsOf}
use Rattle.sup_anti_entropy.specs.Joins.{JoinLattice, joins_of}
use Rattle.sup_replica.specs.ByTables.{TablesStandFor}
use Rattle.sup_model.specs.Laws.{StateView}

-- the meaning of what knows nothing
abbrev pub no_meaning : Meaning
no_meaning = (λ d. Bool.false, λ d t k. unknown)

-- what states mean is a lattice: dot by dot and point by point
unfoldable pub table_joins : JoinLattice Meaning
table_joins = joins_of together together_laws no_meaning (λ m. refl)

abbrev pub table_view : StateView State
table_view = record { S = Meaning; joins = table_joins; sem = knowledge; valid = IsTables; stands = TablesStandFor; window = HoldsOf }
