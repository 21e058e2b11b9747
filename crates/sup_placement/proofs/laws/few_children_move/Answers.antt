use Rattle.sup_placement.proofs.MoveLaws.{only_its_own_move, moves_only_to_it}
use Rattle.sup_placement.proofs.laws.few_children_move.Goals as goal

pub returns-clause-taken_away : goal.returns-clause-taken_away
returns-clause-taken_away c = only_its_own_move

pub returns-clause-added : goal.returns-clause-added
returns-clause-added c = moves_only_to_it
