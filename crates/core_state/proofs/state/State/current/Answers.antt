use Rattle.core_state.proofs.state.State.current.Goals as goal

pub returns : goal.returns
returns c = rw (← c.self.view_is) c.current.ensures
