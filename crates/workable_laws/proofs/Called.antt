-- Calls: what the answer leaves of the row's token, and the moves behind it.
use Rattle.std.proofs.Common.{◌≡◌, ◌≢◌, inl, inr, ◌<◌, ℕ, ◌+◌, List, [], ◌∷◌, ◌++◌, length, Option, Some, None, refl}
use Rattle.std.proofs.Common.{sym, ap, subst, ◌∙◌, arith}
use Rattle.std.specs.Prelude.{Contains, IsSome}
use Rattle.heat_plan.specs.declared.calls.Answered.{Answered}
use Rattle.heat_plan.specs.declared.calls.Request.{Request}
use Rattle.heat_plan.specs.declared.facts.Facts.{Facts}
use Rattle.heat_plan.specs.declared.phase.Status.TheVariants.{InProgress}
use Rattle.heat_plan.specs.declared.token.Token.{Token}
use Rattle.provider.specs.Table.{TokenState, after}
use Rattle.row_table.specs.Rows.{cut_row, row_at}
use Rattle.row_table.specs.declared.row.Row.{Row}
use Rattle.mail_table.specs.declared.mail.Letter.{Letter}
use Rattle.mail_table.specs.declared.mail.Stage.{Stage}
use Rattle.mail_table.specs.declared.mail.Stage.TheVariants.{Asking, Ending, Polling}
use Rattle.core_state.specs.Changes.{applied}
use Rattle.core_state.specs.State.{StateData, stack_at}
use Rattle.core_state.specs.declared.entry.Actor.TheVariants.{Engine}
use Rattle.core_state.specs.declared.entry.Entry.{Entry}
use Rattle.core_state.specs.declared.stack.Stack.{Stack}
use Rattle.step_relation.specs.Asks.{Asks, Calls, Polls, failed_changes}
use Rattle.step_relation.specs.Begins.{begun_changes, onward_changes}
use Rattle.step_relation.specs.Cleanups.{purged_changes}
use Rattle.step_relation.specs.Rows.{failed_row, ready_row, token_of}
use Rattle.step_relation.specs.Writes.{call_entry, mark_failed, with_stage}
use Rattle.step_relation.specs.Could.{could_of}
use Rattle.step_relation.specs.Opening.{Opening}
use Rattle.step_relation.specs.Agrees.{IsGoing, absent}
use Rattle.step_relation.specs.MailFits.{IsUnderWay}
use Rattle.history_laws.proofs.tables.Rows.{job-key, row-key, same_some}
use Rattle.history_laws.proofs.tells.Silence.{AreUncalling}
use Rattle.history_laws.proofs.agrees.Called.{after_create_begun, after_delete_begun, after_gone, after_poll, after_update}
use Rattle.history_laws.proofs.agrees.Called.{after_update_begun, among_after, could_else, could_here}
use Rattle.history_laws.proofs.agrees.Ends.{failed_end}
use Rattle.next_laws.specs.Found.{IsAskedAt, asks, polls}
use Rattle.workable_laws.specs.Workable.{IsCalled, IsCalledAct, MayPoll, MustLive, Workable, ready, updating}
use Rattle.workable_laws.proofs.Drawing.{AllFit, draw_fits, past_drawn, sends_fit}
use Rattle.workable_laws.proofs.Ends.{letters_under, row_up}
use Rattle.workable_laws.proofs.Kept.{Kept, OwnJob, RowsKept}
use Rattle.workable_laws.proofs.Own.{dead_failed, done, own_is, own_none, still_job}
use Rattle.workable_laws.proofs.Tables.{jobs_ended, jobs_restaged, jobs_same, rows_cut_here, rows_put_here}
use Rattle.workable_laws.proofs.Tables.{rows_untouched}
use Rattle.step_relation.specs.Asks as call
use Rattle.step_relation.specs.MailFits as stages
use Rattle.heat_plan.specs.declared.calls.Answered.TheVariants as answer
use Rattle.heat_plan.specs.declared.calls.Request.TheVariants as request

module _ (o : Opening) (h : List Entry) (s : StateData) (w : Workable o h s) (e : ℕ) (stage : Stage)
    (k : Calls s e stage) (asked : Request)
    (is_asked : IsAskedAt k.row stage asked) (given : Answered) (rest : List Entry) (silent : AreUncalling rest) where
  abbrev es : List Entry
  es = call_entry e k.row asked given ∷ rest

  abbrev m : ℕ
  m = k.job.row

  number : k.row.no ≡ m
  number = row-key s.rows k.job.row k.row k.found

  below : k.row.no < s.next.row
  below = w.drawn.rows k.row.no k.row (subst (λ (n : ℕ). row_at s.rows n ≡ Some k.row) (sym number) k.found)

  holder : k.job.engine ≡ e
  holder = job-key s.jobs e k.job k.works.its

  job_fits : (m < s.next.row) × (k.job.engine < s.next.engine)
  job_fits = (
    w.drawn.jobs e k.job k.works.its,
    (let lt = w.drawn.holders e k.job k.works.its in let is = holder in omega (arith, lt, is)),
  )

  could : (x : Token) → x.row ≢ m → could_of o (h ++ es) x ≡ could_of o h x
  could x ne = could_else o h rest (Engine e) x (token_of k.row) asked given
      (λ same. ne (ap (λ (t : Token). t.row) (sym same) ∙ number)) silent

  -- what may be alive behind the answer was made of what might be before
  made_of : (x : TokenState) → Contains (could_of o (h ++ es) (token_of k.row)) x
      → (y : TokenState) × Contains (could_of o h (token_of k.row)) y × Contains (after asked given y) x
  made_of x among = among_after asked given (could_of o h (token_of k.row)) x
      (subst (λ (l : List TokenState). Contains l x)
      (could_here o h rest (Engine e) (token_of k.row) asked given silent) among)

  -- an update and a poll find what is alive, and leave it so
  update_lives : (props : _) (y x : TokenState) → Contains (after (request.Update props) given y) x → IsSome x
  update_lives props y x c = let (it, was, either) = after_update props given y x c in
      elim either [ inl is ↦ rw is refl | inr is ↦ rw is refl ]

  poll_lives : (y x : TokenState) → Contains (after request.Poll given y) x → IsSome x
  poll_lives y x c = let (it, was, either) = after_poll given y x c in
      elim either [ inl is ↦ rw is refl | inr told ↦ let (facts, _, is) = told in rw is refl ]

  -- the row, if it must live, does
  still_lives : MustLive k.row → k.row.status ≡ InProgress → (x : TokenState)
      → Contains (could_of o (h ++ es) (token_of k.row)) x → IsSome x
  still_lives (ready complete begun kept) under x among = cc
  still_lives (updating act status) under x among = let (y, before, c) = made_of x among in
      by stage asked is_asked y c where
        by : (st : Stage) (a : Request) → IsAskedAt k.row st a → (y : TokenState)
            → Contains (after a given y) x → IsSome x
        by _ _ (asks _ (call.creates is)) y c = cc
        by _ _ (asks _ (call.updates is)) y c = update_lives _ y x c
        by _ _ (asks _ (call.deletes is)) y c = cc
        by _ _ (polls _ (call.polls ne)) y c = poll_lives y x c
        by _ _ (polls _ (call.looks is)) y c = cc

  -- what a job that polls asks about
  polled_still : stage ≡ Polling → Contains s.live e → (x : TokenState)
      → Contains (could_of o (h ++ es) (token_of k.row)) x → MayPoll k.row.act x
  polled_still is alive x among = let (y, before, c) = made_of x among in by stage asked is_asked is y before c where
    by : (st : Stage) (a : Request) → IsAskedAt k.row st a → st ≡ Polling → (y : TokenState)
        → Contains (could_of o h (token_of k.row)) y
        → Contains (after a given y) x → MayPoll k.row.act x
    by _ _ (polls _ (call.polls ne)) _ y before c =
        record { there = λ other. poll_lives y x c; going = λ gone. absurd (ne gone) }
    by _ _ (polls _ (call.looks gone)) _ y before c = record {
      there = λ other. absurd (other gone);
      going = λ _. elim (after_gone given y x c) [
        | inl none ↦ subst IsGoing (sym none) absent
        | inr same ↦ subst IsGoing (sym same)
            ((w.cloud.polled e k.job k.row y alive k.works.its (k.works.stage_is ∙ is) k.found before).going gone)
      ];
    }
    by _ _ (asks _ x') e y before c = cc

  under_way : IsUnderWay stage → IsCalled s k.job
  under_way way = w.jobs.called e k.job k.works.live k.works.its (subst IsUnderWay (sym k.works.stage_is) way)

  is_under_way : IsUnderWay stage
  is_under_way = by stage asked is_asked where
    by : (st : Stage) (a : Request) → IsAskedAt k.row st a → IsUnderWay st
    by _ a (asks _ x) = stages.asks
    by _ a (polls _ x) = stages.polls

  progress : k.row.status ≡ InProgress
  progress = let c = under_way is_under_way in
      subst (λ (q : Row). q.status ≡ InProgress) (same_some c.row k.row c.found k.found) c.status

  act_called : IsCalledAct k.row.act
  act_called = let c = under_way is_under_way in
      subst (λ (q : Row). IsCalledAct q.act) (same_some c.row k.row c.found k.found) c.act

  rows_still : RowsKept o (h ++ es) s s.rows m
  rows_still = rows_untouched o h (h ++ es) s w.drawn w.jobs w.cloud m
      (λ q at must x among. let same = same_some k.row q k.found at in
      still_lives (subst MustLive (sym same) must) progress x
      (subst (λ (r : Row). Contains (could_of o (h ++ es) (token_of r)) x) (sym same) among))

  -- the call alone
  pub called_workable : Workable o (h ++ es) s
  called_workable = done o h s w [] es e m tt (record {
    live = λ f c. inl c;
    rows = rows_still;
    jobs = jobs_same s w.jobs e k.job k.works.its;
    own = λ q at. subst (OwnJob o (h ++ es) s s m) (same_some k.job q k.works.its at) own;
    could = could;
    released = λ x c. inl c;
    once = w.once;
  }) where
    own : OwnJob o (h ++ es) s s m k.job
    own = record {
      place = inl refl;
      called = λ way. w.jobs.called e k.job k.works.live k.works.its way;
      polled = λ is r x at among. let same = same_some k.row r k.found at in
          subst (λ (q : Row). MayPoll q.act x) same (polled_still (sym k.works.stage_is ∙ is) k.works.live x
          (subst (λ (q : Row). Contains (could_of o (h ++ es) (token_of q)) x) (sym same) among));
    }

  -- the row fails
  failed_fits : (ls : List Letter) → ((l : Letter) → Contains ls l → l.no < s.next.letter + length ls)
      → (f : Option Stack)
      → ((st : Stack) → f ≡ Some st → IsSome (stack_at s.stacks st.name))
      → AllFit s s.next (failed_changes s e k.row ls f)
  failed_fits ls under f in_table = draw_fits s s.next ls _ (
    (let up = row_up o h s w ls in let lt = below in omega (arith, up, lt)),
    (tt, sends_fit s (past_drawn s.next ls) ls (mark_failed f) (letters_under o h s w ls under) (by f in_table)),
  ) where
    by : (f : Option Stack) → ((st : Stack) → f ≡ Some st → IsSome (stack_at s.stacks st.name))
        → AllFit s (past_drawn s.next ls) (mark_failed f)
    by None some = tt
    by (Some st) some = (some st refl, tt)

  pub failed_workable : (ls : List Letter) → ((l : Letter) → Contains ls l → l.no < s.next.letter + length ls)
      → (f : Option Stack)
      → ((st : Stack) → f ≡ Some st → IsSome (stack_at s.stacks st.name))
      → Workable o (h ++ es) (applied (failed_changes s e k.row ls f) s)
  failed_workable ls under f in_table = done o h s w (failed_changes s e k.row ls f) es e m
      (failed_fits ls under f in_table)
      (subst (λ (t : StateData). Kept o h (h ++ es) s t e m) (sym (failed_end s e k.row ls f)) (record {
        live = λ g c. inl c;
        rows = rows_put_here o h (h ++ es) s w.drawn w.jobs w.cloud m k.row (failed_row k.row) k.found refl
            (record { act = (w.jobs.rows m k.row k.found).act; target = λ up under. cc })
            (λ must. absurd (dead_failed (failed_row k.row) refl must));
        jobs = jobs_ended s w.jobs e k.job k.works.its;
        own = λ q at. absurd (own_none s.jobs q e at);
        could = could;
        released = λ x c. inl c;
        once = w.once;
      }))

  -- the row is begun, and is polled next
  begun_polls : stage ≡ Asking → given ≡ answer.Begun → (x : TokenState)
      → Contains (could_of o (h ++ es) (token_of k.row)) x → MayPoll k.row.act x
  begun_polls at is x among = let (y, before, c) = made_of x among in
      by stage asked is_asked at y (subst (λ (a : Answered). Contains (after asked a y) x) is c) where
        by : (st : Stage) (a : Request) → IsAskedAt k.row st a → st ≡ Asking → (y : TokenState)
            → Contains (after a answer.Begun y) x → MayPoll k.row.act x
        by _ _ (asks _ (call.creates act)) e y c =
            record { there = λ _. after_create_begun _ _ y x c; going = λ gone. let f = sym act ∙ gone in cc }
        by _ _ (asks _ (call.updates act)) e y c =
            record {
              there = λ _. (let (it, was, is') = after_update_begun _ y x c in rw is' refl);
              going = λ gone. let f = sym act ∙ gone in cc;
            }
        by _ _ (asks _ (call.deletes act)) e y c =
            record { there = λ other. absurd (other act); going = λ _. after_delete_begun y x c }
        by _ _ (polls _ x') e y c = cc

  pub begun_workable : stage ≡ Asking → given ≡ answer.Begun
      → Workable o (h ++ es) (applied (onward_changes k.job Polling) s)
  begun_workable at is = done o h s w (onward_changes k.job Polling) es e m (job_fits, tt) (record {
    live = λ f c. inl c;
    rows = rows_still;
    jobs = jobs_restaged s w.jobs e k.job (with_stage Polling k.job) k.works.its holder;
    own = λ q found. subst (OwnJob o (h ++ es) s (applied (onward_changes k.job Polling) s) m)
        (own_is s.jobs (with_stage Polling k.job) q e holder found) own;
    could = could;
    released = λ x c. inl c;
    once = w.once;
  }) where
    own : OwnJob o (h ++ es) s (applied (onward_changes k.job Polling) s) m (with_stage Polling k.job)
    own = record {
      place = inl refl;
      called = λ way. record { row = k.row; found = k.found; status = progress; act = act_called };
      polled = λ _ r x found among. let same = same_some k.row r k.found found in
          subst (λ (q : Row). MayPoll q.act x) same (begun_polls at is x
          (subst (λ (q : Row). Contains (could_of o (h ++ es) (token_of q)) x) (sym same) among));
    }

  -- the row is ready, or gone, and its job ends next
  pub ready_workable : (facts : Facts) → asked ≡ request.Poll
      → Workable o (h ++ es) (applied (begun_changes k.job Ending (ready_row k.row facts)) s)
  ready_workable facts is = done o h s w (begun_changes k.job Ending (ready_row k.row facts)) es e m
      (below, (job_fits, tt)) (record {
        live = λ f c. inl c;
        rows = rows_put_here o h (h ++ es) s w.drawn w.jobs w.cloud m k.row (ready_row k.row facts) k.found refl
            (record { act = (w.jobs.rows m k.row k.found).act; target = λ up under. cc })
            (λ must x among. let (y, before, c) = made_of x among in
            poll_lives y x (subst (λ (a : Request). Contains (after a given y) x) is c));
        jobs = jobs_restaged s w.jobs e k.job (with_stage Ending k.job) k.works.its holder;
        own = λ q found. subst (OwnJob o (h ++ es) s (applied (begun_changes k.job Ending (ready_row k.row facts)) s) m)
            (own_is s.jobs (with_stage Ending k.job) q e holder found)
            (still_job o (h ++ es) s _ m (with_stage Ending k.job) refl (inr refl));
        could = could;
        released = λ x c. inl c;
        once = w.once;
      })

  pub gone_workable : Workable o (h ++ es) (applied (purged_changes k.job k.row) s)
  gone_workable = done o h s w (purged_changes k.job k.row) es e m (tt, (job_fits, tt)) (record {
    live = λ f c. inl c;
    rows = subst (λ (n : ℕ). RowsKept o (h ++ es) s (cut_row n s.rows) m) (sym number)
        (rows_cut_here o h (h ++ es) s w.drawn w.jobs w.cloud m);
    jobs = jobs_restaged s w.jobs e k.job (with_stage Ending k.job) k.works.its holder;
    own = λ q found. subst (OwnJob o (h ++ es) s (applied (purged_changes k.job k.row) s) m)
        (own_is s.jobs (with_stage Ending k.job) q e holder found)
        (still_job o (h ++ es) s _ m (with_stage Ending k.job) refl (inr refl));
    could = could;
    released = λ x c. inl c;
    once = w.once;
  })
