-- The engine's own job: what it stands for where it ends, goes on, or begins.
use Rattle.std.proofs.Common.{◌≡◌, ◌≢◌, ◌⊎◌, inl, inr, ◌<◌, ◌≤◌, ℕ, ◌+◌, ◌*◌, List, Some, None, sym, ap, subst, ◌∙◌}
use Rattle.std.proofs.Common.{arith}
use Rattle.std.specs.Prelude.{Contains}
use Rattle.heat_plan.specs.declared.token.Token.{Token}
use Rattle.row_table.specs.Rows.{row_at}
use Rattle.row_table.specs.declared.row.Row.{Row}
use Rattle.mail_table.specs.Mails.{job_at}
use Rattle.mail_table.specs.declared.mail.Job.{Job}
use Rattle.mail_table.specs.declared.mail.Letter.{Letter}
use Rattle.mail_table.specs.declared.mail.Stage.{Stage}
use Rattle.mail_table.specs.declared.mail.Stage.TheVariants.{Asking, Ending, Polling, Taken}
use Rattle.core_state.specs.State.{StateData}
use Rattle.core_state.specs.declared.stack.Stack.{Stack}
use Rattle.step_relation.specs.Given.{Given}
use Rattle.step_relation.specs.Rows.{token_of}
use Rattle.step_relation.specs.MailFits.{IsStale, IsUnderWay, polls}
use Rattle.step_relation.specs.Sound.{Standing}
use Rattle.history_laws.proofs.tables.Rows.{row-key, same_some}
use Rattle.bound_laws.specs.Bound.{IsWork}
use Rattle.bound_laws.specs.Rolls.{MayRoll}
use Rattle.bound_laws.specs.Work.{IsAt, IsPoll}
use Rattle.bound_laws.proofs.Falls.{PollsFall}
use Rattle.bound_laws.proofs.Jobs.{JobsWere, RowsWere, at_comes, at_falls, at_goes, late_falls, late_goes, left_falls}
use Rattle.bound_laws.proofs.Jobs.{poll_goes, polls_come, polls_fall, roll_falls, roll_goes, two_polls_go}
use Rattle.bound_laws.proofs.Still.{Eases, Still, stale_was}

-- what the jobs of live engines stand for, but for those that are late
abbrev pub job_sum : (left : Token → ℕ) (s : StateData) (n : ℕ) → IsWork left s n → ℕ
job_sum left s n w = 68 * w.taken + 67 * w.asking + w.polls + w.ending

-- at least so much of a job at its stage
abbrev pub stage_sum : Stage → ℕ
stage_sum Taken = 68
stage_sum Asking = 67
stage_sum Polling = 2
stage_sum Ending = 1

-- no other token is given polls
pub other_polls : (before after : Token → ℕ) (s : StateData) (e : ℕ) (given : Given) → Standing s
    → PollsFall before after s e given
    → (f : ℕ) (k : Job) (o : Row) → f ≢ e → job_at s.jobs f ≡ Some k → row_at s.rows k.row ≡ Some o
    → after (token_of o) ≤ before (token_of o)
other_polls before after s e given h falls f k o ne its found = falls.others (token_of o) (λ own.
    let same : own.row.no ≡ o.no = ap (λ (t : Token). t.row) own.token in
    let mine = row-key s.rows own.job.row own.row own.found in
    let theirs = row-key s.rows k.row o found in
    ne (h.links.locked.apart f e k own.job its own.its (sym theirs ∙ (sym same ∙ mine))))

-- an engine without a job calls for nobody
pub free_polls : (before after : Token → ℕ) (s : StateData) (e : ℕ) (given : Given) → job_at s.jobs e ≡ None
    → PollsFall before after s e given
    → (t : Token) → after t ≤ before t
free_polls before after s e given none falls t = falls.others t (λ own. let its = own.its in no_job own.job its) where
  no_job : (j : Job) → job_at s.jobs e ≡ Some j → ⊥
  no_job j its = cc

module _ (before after : Token → ℕ) (s t : StateData) (h : Standing s) (e : ℕ) (jobs : JobsWere s t e)
    (rows : RowsWere s t)
    (others : (f : ℕ) (k : Job) (o : Row) → f ≢ e → job_at s.jobs f ≡ Some k → row_at s.rows k.row ≡ Some o
    → after (token_of o) ≤ before (token_of o))
    (n m : ℕ) (a : IsWork before s n) (b : IsWork after t m) (j : Job) (its : job_at s.jobs e ≡ Some j) where
  is_j : (k : Job) → job_at s.jobs e ≡ Some k → k ≡ j
  is_j k at = same_some k j at its

  -- it was at this stage alone
  not_at : (stage other : Stage) → j.stage ≡ stage → stage ≢ other → ¬ IsAt other s e
  not_at stage other is ne x = ne (sym is ∙ (ap (λ (k : Job). k.stage) (sym (is_j x.job x.its)) ∙ x.stage_is))

  -- a job at Polling has its row, and so two polls at least
  has_poll : Contains s.live e → j.stage ≡ Polling → (i : ℕ) → i < 2 → IsPoll before s (e, i)
  has_poll live is i lt =
      let row = h.shape.jobs.under_way e j its (subst IsUnderWay (sym is) polls) in
      record {
        at = record { job = j; its = its; live = live; stage_is = is };
        row = row.row;
        found = row.found;
        below = omega (arith, lt);
      }

  no_poll : (stage : Stage) → j.stage ≡ stage → stage ≢ Polling → (i : ℕ) → ¬ IsPoll before s (e, i)
  no_poll stage is ne i p = not_at stage Polling is ne p.at

  module _ (live : Contains s.live e) (gone : (k : Job) → ¬ job_at t.jobs e ≡ Some k) where
    none_at : (stage : Stage) → ¬ IsAt stage t e
    none_at stage x = gone x.job x.its

    none_poll : (i : ℕ) → ¬ IsPoll after t (e, i)
    none_poll i p = gone p.at.job p.at.its

    here : (stage : Stage) → j.stage ≡ stage → IsAt stage s e
    here stage is = record { job = j; its = its; live = live; stage_is = is }

    -- where it ends
    pub ends_sum : (stage : Stage) → j.stage ≡ stage → job_sum after t m b + stage_sum stage ≤ job_sum before s n a
    ends_sum Taken is =
        let x = at_goes before after s t e jobs n m a b Taken _ _ a.taken_are b.taken_are (here Taken is)
        (none_at Taken) in
        let y = at_falls before after s t e jobs n m a b Asking _ _ a.asking_are b.asking_are
        (λ z. absurd (none_at Asking z)) in
        let z = at_falls before after s t e jobs n m a b Ending _ _ a.ending_are b.ending_are
        (λ z. absurd (none_at Ending z)) in
        let p = polls_fall before after s t e jobs n m a b h.links rows others (λ i q. absurd (none_poll i q)) in
        omega (arith, x, y, z, p)
    ends_sum Asking is =
        let x = at_falls before after s t e jobs n m a b Taken _ _ a.taken_are b.taken_are
        (λ z. absurd (none_at Taken z)) in
        let y = at_goes before after s t e jobs n m a b Asking _ _ a.asking_are b.asking_are (here Asking is)
        (none_at Asking) in
        let z = at_falls before after s t e jobs n m a b Ending _ _ a.ending_are b.ending_are
        (λ z. absurd (none_at Ending z)) in
        let p = polls_fall before after s t e jobs n m a b h.links rows others (λ i q. absurd (none_poll i q)) in
        omega (arith, x, y, z, p)
    ends_sum Polling is =
        let x = at_falls before after s t e jobs n m a b Taken _ _ a.taken_are b.taken_are
        (λ z. absurd (none_at Taken z)) in
        let y = at_falls before after s t e jobs n m a b Asking _ _ a.asking_are b.asking_are
        (λ z. absurd (none_at Asking z)) in
        let z = at_falls before after s t e jobs n m a b Ending _ _ a.ending_are b.ending_are
        (λ z. absurd (none_at Ending z)) in
        let p = two_polls_go before after s t e jobs n m a b h.links rows others none_poll
        (has_poll live is 0 (omega arith)) (has_poll live is 1 (omega arith)) in
        omega (arith, x, y, z, p)
    ends_sum Ending is =
        let x = at_falls before after s t e jobs n m a b Taken _ _ a.taken_are b.taken_are
        (λ z. absurd (none_at Taken z)) in
        let y = at_falls before after s t e jobs n m a b Asking _ _ a.asking_are b.asking_are
        (λ z. absurd (none_at Asking z)) in
        let z = at_goes before after s t e jobs n m a b Ending _ _ a.ending_are b.ending_are (here Ending is)
        (none_at Ending) in
        let p = polls_fall before after s t e jobs n m a b h.links rows others (λ i q. absurd (none_poll i q)) in
        omega (arith, x, y, z, p)

module _ (before after : Token → ℕ) (s t : StateData) (h : Standing s) (ease : Eases s t) (e : ℕ)
    (jobs : JobsWere s t e) (rows : RowsWere s t)
    (others : (f : ℕ) (k : Job) (o : Row) → f ≢ e → job_at s.jobs f ≡ Some k → row_at s.rows k.row ≡ Some o
    → after (token_of o) ≤ before (token_of o))
    (n m : ℕ) (a : IsWork before s n) (b : IsWork after t m) (j : Job) (its : job_at s.jobs e ≡ Some j) where
  module _ (live : Contains s.live e) (gone : (k : Job) → ¬ job_at t.jobs e ≡ Some k) where
    pub ends_left : b.stopped ≤ a.stopped
    ends_left = left_falls before after s t e jobs n m a b (λ x. absurd (gone x.job x.its))

    pub ends_late : b.late ≤ a.late
    ends_late = late_falls before after s t ease e jobs n m a b (λ x. absurd (gone x.job x.its))

    pub ends_stale : IsStale s.stacks j.letter → b.late + 1 ≤ a.late
    ends_stale old = late_goes before after s t ease e jobs n m a b
        (record { job = j; its = its; live = live; stale = old }) (λ x. gone x.job x.its)

  module _ (gone : (k : Job) → ¬ job_at t.jobs e ≡ Some k) where
    pub ends_roll : b.rolls_are.jobs ≤ a.rolls_are.jobs
    ends_roll = roll_falls before after s t ease e jobs n m a b (λ x. absurd (gone x.job x.its))

    pub ends_rolling : (st : Stack) → MayRoll s j.letter.stack st → b.rolls_are.jobs + 1 ≤ a.rolls_are.jobs
    ends_rolling st may = roll_goes before after s t ease e jobs n m a b
        (record { job = j; its = its; stack = st; may = may }) (λ x. gone x.job x.its)

  -- where it goes on, with its letter
  module _ (live : Contains s.live e) (k : Job) (is : (q : Job) → job_at t.jobs e ≡ Some q → q ≡ k)
      (same : k.letter ≡ j.letter) where
    now_at : (stage : Stage) → IsAt stage t e → k.stage ≡ stage
    now_at stage x = ap (λ (q : Job). q.stage) (sym (is x.job x.its)) ∙ x.stage_is

    only_at : (stage other : Stage) → k.stage ≡ stage → stage ≢ other → ¬ IsAt other t e
    only_at stage other at ne x = ne (sym at ∙ now_at other x)

    was_here : (stage : Stage) → j.stage ≡ stage → IsAt stage s e
    was_here stage at = record { job = j; its = its; live = live; stage_is = at }

    pub goes_left : b.stopped ≤ a.stopped
    goes_left = left_falls before after s t e jobs n m a b (λ x. absurd (x.stopped (jobs.alive e live)))

    pub goes_late : Still s t → b.late ≤ a.late
    goes_late still = late_falls before after s t ease e jobs n m a b (λ x. record {
      job = j;
      its = its;
      live = live;
      stale = stale_was s t still j.letter
          (subst (IsStale t.stacks) (ap (λ (q : Job). q.letter) (is x.job x.its) ∙ same) x.stale);
    })

    pub goes_roll : b.rolls_are.jobs ≤ a.rolls_are.jobs
    goes_roll = roll_falls before after s t ease e jobs n m a b (λ x. record {
      job = j;
      its = its;
      stack = x.stack;
      may = subst (λ (name : List ℕ). MayRoll s name x.stack)
          (ap (λ (q : Job). q.letter.stack) (is x.job x.its) ∙ ap (λ (l : Letter). l.stack) same)
          (ease.may x.job.letter.stack x.stack x.may);
    })

    pub taken_goes_on : j.stage ≡ Taken → (k.stage ≡ Asking) ⊎ (k.stage ≡ Ending)
        → job_sum after t m b + 1 ≤ job_sum before s n a
    taken_goes_on at (inl to) =
        let x = at_goes before after s t e jobs n m a b Taken _ _ a.taken_are b.taken_are (was_here Taken at)
        (only_at Asking Taken to (λ q. cc)) in
        let y = at_comes before after s t e jobs n m a b Asking _ _ a.asking_are b.asking_are in
        let z = at_falls before after s t e jobs n m a b Ending _ _ a.ending_are b.ending_are
        (λ q. absurd (only_at Asking Ending to (λ r. cc) q)) in
        let p = polls_fall before after s t e jobs n m a b h.links rows others
        (λ i q. absurd (only_at Asking Polling to (λ r. cc) q.at)) in
        omega (arith, x, y, z, p)
    taken_goes_on at (inr to) =
        let x = at_goes before after s t e jobs n m a b Taken _ _ a.taken_are b.taken_are (was_here Taken at)
        (only_at Ending Taken to (λ q. cc)) in
        let y = at_falls before after s t e jobs n m a b Asking _ _ a.asking_are b.asking_are
        (λ q. absurd (only_at Ending Asking to (λ r. cc) q)) in
        let z = at_comes before after s t e jobs n m a b Ending _ _ a.ending_are b.ending_are in
        let p = polls_fall before after s t e jobs n m a b h.links rows others
        (λ i q. absurd (only_at Ending Polling to (λ r. cc) q.at)) in
        omega (arith, x, y, z, p)

    pub asking_goes_on : j.stage ≡ Asking → k.stage ≡ Polling → ((tok : Token) → after tok ≤ 64)
        → job_sum after t m b + 1 ≤ job_sum before s n a
    asking_goes_on at to few =
        let x = at_falls before after s t e jobs n m a b Taken _ _ a.taken_are b.taken_are
        (λ q. absurd (only_at Polling Taken to (λ r. cc) q)) in
        let y = at_goes before after s t e jobs n m a b Asking _ _ a.asking_are b.asking_are (was_here Asking at)
        (only_at Polling Asking to (λ q. cc)) in
        let z = at_falls before after s t e jobs n m a b Ending _ _ a.ending_are b.ending_are
        (λ q. absurd (only_at Polling Ending to (λ r. cc) q)) in
        let p = polls_come before after s t e jobs n m a b h.links rows others few in
        omega (arith, x, y, z, p)

    pub polling_goes_on : j.stage ≡ Polling → k.stage ≡ Ending → job_sum after t m b + 1 ≤ job_sum before s n a
    polling_goes_on at to =
        let x = at_falls before after s t e jobs n m a b Taken _ _ a.taken_are b.taken_are
        (λ q. absurd (only_at Ending Taken to (λ r. cc) q)) in
        let y = at_falls before after s t e jobs n m a b Asking _ _ a.asking_are b.asking_are
        (λ q. absurd (only_at Ending Asking to (λ r. cc) q)) in
        let z = at_comes before after s t e jobs n m a b Ending _ _ a.ending_are b.ending_are in
        let p = two_polls_go before after s t e jobs n m a b h.links rows others
        (λ i q. only_at Ending Polling to (λ r. cc) q.at)
        (has_poll before after s t h e jobs rows others n m a b j its live at 0 (omega arith))
        (has_poll before after s t h e jobs rows others n m a b j its live at 1 (omega arith)) in
        omega (arith, x, y, z, p)

    -- where it polls again, and one fewer is left
    pub polling_waits : j.stage ≡ Polling → k ≡ j → (r : Row) → row_at s.rows j.row ≡ Some r
        → after (token_of r) < before (token_of r)
        → job_sum after t m b + 1 ≤ job_sum before s n a
    unfolding was_here
    polling_waits at stays r found less =
        let at_now : k.stage ≡ Polling = ap (λ (q : Job). q.stage) stays ∙ at in
        let x = at_falls before after s t e jobs n m a b Taken _ _ a.taken_are b.taken_are
        (λ q. absurd (only_at Polling Taken at_now (λ r. cc) q)) in
        let y = at_falls before after s t e jobs n m a b Asking _ _ a.asking_are b.asking_are
        (λ q. absurd (only_at Polling Asking at_now (λ r. cc) q)) in
        let z = at_falls before after s t e jobs n m a b Ending _ _ a.ending_are b.ending_are
        (λ q. absurd (only_at Polling Ending at_now (λ r. cc) q)) in
        let p = poll_goes before after s t e jobs n m a b h.links rows others (before (token_of r) + 1) mine
        (record { at = was_here Polling at; row = r; found = found; below = omega arith })
        (λ q. let lt = q.below in let tok = ap after (token_is q.row q.at q.found) in
        absurd_of (before (token_of r)) (after (token_of q.row)) (after (token_of r)) lt tok less) in
        omega (arith, x, y, z, p)
      where
        absurd_of : (u v w : ℕ) → u + 1 < v + 2 → v ≡ w → w < u → ⊥
        absurd_of u v w lt e less' = omega (arith, lt, e, less')

        token_is : (q : Row) (x : IsAt Polling t e) → row_at t.rows x.job.row ≡ Some q → token_of q ≡ token_of r
        token_is q x at_q =
            let job : x.job ≡ j = is x.job x.its ∙ stays in
            let there : row_at t.rows j.row ≡ Some q = subst (λ (i : Job). row_at t.rows i.row ≡ Some q) job at_q in
            let (o, was, token) = rows.were j.row q there (h.links.numbered.jobs e j its).its_row in
            token ∙ ap token_of (same_some o r was found)

        mine : (i : ℕ) → IsPoll after t (e, i) → IsPoll before s (e, i)
        mine i q = record {
          at = was_here Polling at;
          row = r;
          found = found;
          below = (let lt = q.below in let tok = ap after (token_is q.row q.at q.found) in
              omega (arith, lt, tok, less));
        }
