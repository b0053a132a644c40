-- A workable state over a cloud that is in a state which its history allows.
use Rattle.std.specs.Prelude.{List}
use Rattle.provider.specs.Cloud.{Cloud}
use Rattle.core_state.specs.State.{StateData}
use Rattle.core_state.specs.declared.entry.Entry.{Entry}
use Rattle.step_relation.specs.Could.{Allows}
use Rattle.step_relation.specs.Opening.{Opening, first_of}
use Rattle.workable_laws.specs.Workable.{Workable}

-- behind some opening, with some history
pub record IsWorkable (s : StateData) : Type 0 where
  pub opening : Opening
  pub history : List Entry
  pub workable : Workable opening history s

pub record IsWorkableOver (s : StateData) (h : List Entry) (c : Cloud) : Type 0 where
  pub opening : Opening
  pub workable : Workable opening h s
  pub shows : Allows (first_of opening) h c
