use Rattle.hot_params.proofs.conversion.number_in.Goals as goal

pub returns-in-Words : goal.returns-in-Words
returns-in-Words c = rw c.in-Words.is c.number_said.ensures
