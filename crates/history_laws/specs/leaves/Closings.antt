-- A run closes its input once at most.
use Rattle.std.specs.Prelude.{List, [], ◌∷◌, ◌≡◌}
use Rattle.step_relation.specs.State.{StateData}
use Rattle.step_relation.specs.declared.Entry.{Entry}
use Rattle.step_relation.specs.Runs.{IsClosed, Judges, Run}
use Rattle.step_relation.specs.declared.What.TheVariants as what

-- behind an entry that closes the input none does
abbrev pub ClosedOnce : List Entry → Type 0
ClosedOnce [] = Unit {0}
ClosedOnce (e ∷ es) = (e.what ≡ what.Closed → ¬ IsClosed es) × ClosedOnce es

-- so it is in the history of every run
abbrev pub RunsCloseOnce : Type 0
RunsCloseOnce = (registries : List Judges) (first last : StateData) (h : List Entry) → Run registries first last h
    → ClosedOnce h
