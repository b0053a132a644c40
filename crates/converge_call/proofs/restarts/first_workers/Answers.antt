-- As many as were enlisted, which are few.
use Rattle.std.proofs.Common.{ap, arith, length, ◌∙◌}
use Rattle.core_state.specs.State.{StateData}
use Rattle.converge_call.proofs.Restarting.{opened_count}
use Rattle.converge_call.proofs.restarts.first_workers.Goals as goal

pub returns-clause-some : goal.returns-clause-some
returns-clause-some g c =
    let (n, is, some, few) = opened_count g.P.Provider.cloud c.args.book.now c.promises.ensures.image in
    let live = ap length (c.live.ensures ∙ ap (λ (s : StateData). s.live) c.opening.ensures) in
    let count = c.in-Ok.ensures.1 in
    omega (arith, is, some, live, count)

pub returns-clause-few : goal.returns-clause-few
returns-clause-few g c =
    let (n, is, some, few) = opened_count g.P.Provider.cloud c.args.book.now c.promises.ensures.image in
    let live = ap length (c.live.ensures ∙ ap (λ (s : StateData). s.live) c.opening.ensures) in
    let count = c.in-Ok.ensures.1 in
    omega (arith, is, few, live, count)

pub unreachable-requires : goal.unreachable-requires
unreachable-requires g c =
    let (n, is, some, few) = opened_count g.P.Provider.cloud c.args.book.now c.promises.ensures.image in
    let live = ap length (c.live.ensures ∙ ap (λ (s : StateData). s.live) c.opening.ensures) in
    c.in-Err.ensures (omega (arith, is, few, live))
