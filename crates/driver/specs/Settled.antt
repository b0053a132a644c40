-- What a book has come to where nothing is left to do.
use Rattle.std.specs.Prelude.{List, Some, ◌≡◌, ℕ}
use Rattle.provider.specs.Cloud.{Cloud}
use Rattle.core_state.specs.State.{stack_at}
use Rattle.core_state.specs.declared.stack.Stack.{Stack}
use Rattle.step_relation.specs.Headline.{IsSettledAs}
use Rattle.book.specs.Kept.{Shown, opening_of}

-- each stack is complete, or failed for a cause that the history tells of its newest traversal
abbrev pub AreSettled : {K P : Type 0} → (P → Cloud) → Shown K P → Type 0
AreSettled cloud_of b = (name : List ℕ) (st : Stack) → stack_at b.state.stacks name ≡ Some st
    → IsSettledAs (opening_of cloud_of b) b.entries st
