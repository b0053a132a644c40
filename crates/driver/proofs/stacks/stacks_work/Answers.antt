-- A stack after the other.
use Rattle.std.proofs.Common.{List, arith, refl, subst, ℕ, ◌*◌, ◌+◌}
use Rattle.std.specs.Str.{bytes_eq}
use Rattle.std.proofs.lemmas.Slice.Eq.{bytes_eq-Decides}
use Rattle.core_state.specs.State.{stack_key}
use Rattle.driver.proofs.Listed.{found_here, keys_all, keys_here, new_here}
use Rattle.driver.proofs.Tables.{StacksSeen, stacks_all, stacks_more}
use Rattle.driver.proofs.stacks.stacks_work.Goals as goal

pub stack_work-sum-requires : goal.stack_work-sum-requires
stack_work-sum-requires c =
    found_here bytes_eq bytes_eq-Decides stack_key c.stacks-stack-items.result.now c.args.s.now.state.stacks
    c.loop-stack.stack-index c.stack-item.result c.stacks-stack-items.ensures c.loop-stack-test.true c.stack-item.is
    c.requires.stacks

pub loop-stack-preserved : goal.loop-stack-preserved
loop-stack-preserved c = (
  subst (λ (keys : List (List ℕ)). StacksSeen c.args.s.now.state keys (c.loop-stack.sum + c.stack_work-sum.result))
      (keys_here bytes_eq bytes_eq-Decides stack_key c.stacks-stack-items.result.now c.loop-stack.stack-index
      c.stack-item.result
      c.loop-stack-test.true c.stack-item.is)
      (stacks_more c.args.s.now.state _ _ _ _ _ c.loop-stack.invariant.0
      (new_here bytes_eq bytes_eq-Decides stack_key c.stacks-stack-items.result.now c.args.s.now.state.stacks
      c.loop-stack.stack-index
      c.stack-item.result c.stacks-stack-items.ensures c.loop-stack-test.true c.stack-item.is c.requires.stacks)
      c.stack_work-sum.ensures.exact refl),
  (let a = c.loop-stack.invariant.1 in let b = c.stack_work-sum.ensures.bound in omega (arith, a, b)),
)

pub returns-clause-exact : goal.returns-clause-exact
returns-clause-exact c = stacks_all c.args.s.now.state c.loop-stack.sum
    (subst (λ (keys : List (List ℕ)). StacksSeen c.args.s.now.state keys c.loop-stack.sum)
    (keys_all bytes_eq bytes_eq-Decides stack_key c.stacks-stack-items.result.now c.args.s.now.state.stacks
    c.loop-stack.stack-index
    c.stacks-stack-items.ensures c.loop-stack-test.false) c.loop-stack.invariant.0)
