use Rattle.sup_placement.proofs.MoveLaws.{answers_the_place, nowhere_without_members, one_place}
use Rattle.sup_placement.proofs.laws.a_child_has_one_place.Goals as goal

pub returns-clause-answers : goal.returns-clause-answers
returns-clause-answers c = answers_the_place

pub returns-clause-nowhere : goal.returns-clause-nowhere
returns-clause-nowhere c = nowhere_without_members

pub returns-clause-one : goal.returns-clause-one
returns-clause-one c = one_place
