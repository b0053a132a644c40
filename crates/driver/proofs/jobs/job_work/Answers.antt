-- One job, by its stage and whether its engine is live.
use Rattle.std.proofs.Common.{subst, sym, ℕ, ◌*◌, ◌+◌}
use Rattle.std.proofs.lemmas.Bool.{both_ways}
use Rattle.driver.specs.Parts.{JobWork}
use Rattle.driver.proofs.Records.{left_work, live_work}
use Rattle.driver.proofs.jobs.job_work.Goals as goal

pub returns-then-is_live-clause-exact : goal.returns-then-is_live-clause-exact
returns-then-is_live-clause-exact c =
    subst (λ (n : ℕ). JobWork c.args.s.now.state c.args.job.now.engine
    (n + 69 * c.stale_one.result + 69 * c.roll_one-rolls.result))
    (sym c.stage_work.ensures.exact)
    (live_work c.args.s.now.state c.args.job.now c.requires (c.is_live.ensures.0 c.if-is_live.true) c.stale_one.result
    c.roll_one-rolls.result c.stale_one.ensures.exact c.roll_one-rolls.ensures.exact)

pub returns-else-is_live-clause-exact : goal.returns-else-is_live-clause-exact
returns-else-is_live-clause-exact c = left_work c.args.s.now.state c.args.job.now c.requires c.roll_one-rolls.result
    (λ live. both_ways c.is_live.result c.if-is_live.false (c.is_live.ensures.1 live)) c.roll_one-rolls.ensures.exact
