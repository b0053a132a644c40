use Rattle.hot_params.proofs.OneValue.{one_conversion}
use Rattle.hot_params.proofs.Typed.{says_the_same}
use Rattle.hot_params.proofs.binding.bind.Goals as goal

pub returns-clause-one : goal.returns-clause-one
returns-clause-one g c = λ s d v w a b. one_conversion s d v w a b

pub returns-clause-typed : goal.returns-clause-typed
returns-clause-typed g c = λ name d p is. says_the_same name d p is
