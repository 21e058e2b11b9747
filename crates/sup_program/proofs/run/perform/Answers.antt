use Rattle.sup_program.proofs.run.perform.Goals as goal

pub returns-in-Simulate-clause-done : goal.returns-in-Simulate-clause-done
returns-in-Simulate-clause-done g c = rw c.in-Simulate.is c.simulate_by.ensures.performs

pub returns-in-Place-clause-done : goal.returns-in-Place-clause-done
returns-in-Place-clause-done g c = rw c.in-Place.is c.place_by.ensures.performs

pub returns-in-Inspect-clause-done : goal.returns-in-Inspect-clause-done
returns-in-Inspect-clause-done g c = rw c.in-Inspect.is c.inspect_by.ensures.performs
