-- What holds of a state and its history after every step.
use Rattle.std.specs.Prelude.{List}
use Rattle.core_state.specs.State.{StateData}
use Rattle.core_state.specs.declared.entry.Entry.{Entry}
use Rattle.step_relation.specs.Opening.{Opening}
use Rattle.step_relation.specs.Agrees.{Agrees}
use Rattle.step_relation.specs.Linked.{Links}
use Rattle.step_relation.specs.MailFits.{Shape}
use Rattle.step_relation.specs.MarkFits.{MarksFit, PastsFit}
use Rattle.step_relation.specs.Policies.{PoliciesFit}
use Rattle.step_relation.specs.Stir.{Covered}
use Rattle.step_relation.specs.Tells.{ReleasedFits, Tells}

-- what holds of the state alone
pub record Standing (s : StateData) : Type 0 where
  pub links : Links s
  pub shape : Shape s
  pub marks : MarksFit s
  pub covered : Covered s
  pub pasts : PastsFit s

-- and with its history
pub record Sound (o : Opening) (h : List Entry) (s : StateData) : Type 0 where
  pub standing : Standing s
  pub agrees : Agrees o h s
  pub tells : Tells o h s
  pub released : ReleasedFits o h s
  pub policies : PoliciesFit o h s
