-- The job and the row of a call, what its failure is, and when it is worn out.
use Rattle.std.proofs.Common.{◌≡◌, ◌≢◌, ◌⊎◌, inl, inr, ◌∙◌, ℕ, List, None, Option, Some, refl, sym, subst}
use Rattle.std.specs.Prelude.{IsSome}
use Rattle.heat_plan.specs.declared.calls.Answered.{Answered}
use Rattle.heat_plan.specs.declared.calls.Answered.TheVariants as answer
use Rattle.heat_plan.specs.declared.calls.Request.{Request}
use Rattle.heat_plan.specs.declared.calls.Request.TheVariants as request
use Rattle.heat_plan.specs.declared.facts.Facts.{Facts}
use Rattle.heat_plan.specs.declared.phase.Act.{Act}
use Rattle.heat_plan.specs.declared.phase.Act.TheVariants.{Create, Delete, Update}
use Rattle.heat_plan.specs.declared.refusal.Refusal.{Refusal}
use Rattle.row_table.specs.Rows.{row_at}
use Rattle.row_table.specs.declared.row.Row.{Row}
use Rattle.mail_table.specs.Mails.{job_at}
use Rattle.mail_table.specs.declared.mail.Job.{Job}
use Rattle.mail_table.specs.declared.mail.Stage.{Stage}
use Rattle.mail_table.specs.declared.mail.Stage.TheVariants.{Asking, Polling}
use Rattle.core_state.specs.State.{StateData}
use Rattle.core_state.specs.declared.change.Change.{Change}
use Rattle.core_state.specs.declared.entry.Entry.{Entry}
use Rattle.core_state.specs.declared.entry.Why.{Why}
use Rattle.core_state.specs.declared.entry.Why.TheVariants as why
use Rattle.core_state.specs.declared.made.Made.{Made}
use Rattle.step_relation.specs.Asks.{Asks, Calls, Polls, Refuses, by_code, by_failure, by_quota, creates, deletes, looks, polls, updates}
use Rattle.step_relation.specs.Given.{Answer}
use Rattle.step_relation.specs.Moves.{ask_begun, poll_gone, poll_ready, poll_waits}
use Rattle.step_relation.specs.Nexts.{Works}
use Rattle.step_relation.specs.Turns.{IsWorn, plain, unfailed}
use Rattle.step_relation.specs.Writes.{call_entry}
use Rattle.command_steps.specs.Turns.{IsTurn, IsTurnRefusal}
use Rattle.command_steps.specs.Turns.IsTurnRefusal.{memory as turn_memory, worn as turn_worn}
use Rattle.next_laws.proofs.Worn.{call_not_worn}
use Rattle.history_laws.proofs.tables.Rows.{same_some}
use Rattle.step_ends.specs.Answers.{AnswersAsk, AnswersPoll, CallLasts, IsAsking, IsBegun, IsCall, IsCallRefusal, IsFailing, IsReason, IsTold, of_code, of_failure, of_quota, waits, readies, goes}
use Rattle.step_ends.specs.Answers as asking
use Rattle.step_ends.specs.Answers.IsCallRefusal.{memory as call_memory, worn as call_worn}
use Rattle.step_ends.specs.Falls.{IsFallen, OrWorn}
use Rattle.step_ends.specs.Falls.OrWorn.{memory as fall_memory, worn as fall_worn}
use Rattle.step_ends.specs.declared.falling.Failure.{Failure}
use Rattle.step_ends.proofs.Turns.{ask_turn, call_wears, poll_turn, told_otherwise}

-- what stands
pub is_some : {A : Type 0} (o : Option A) (x : A) → o ≡ Some x → IsSome o
is_some o x is = subst IsSome (sym is) refl

pub call_of : (s : StateData) (e : ℕ) (stage : Stage) (k : Calls s e stage) (j : Job) (r : Row)
    → job_at s.jobs e ≡ Some j → row_at s.rows j.row ≡ Some r
    → IsCall s e stage j r
call_of s e stage k j r its found =
    record { works = subst (λ (x : Job). Works s e x stage) (same_some k.job j k.works.its its) k.works; found = found }

pub row_there : (s : StateData) (e : ℕ) (stage : Stage) (k : Calls s e stage) (j : Job)
    → job_at s.jobs e ≡ Some j → IsSome (row_at s.rows j.row)
row_there s e stage k j its =
    is_some (row_at s.rows j.row) k.row (subst (λ (x : Job). row_at s.rows x.row ≡ Some k.row)
    (same_some k.job j k.works.its its) k.found)

pub said_of : (s : StateData) (e : ℕ) (stage : Stage) (Says : Act → Type 0) (j : Job) (r : Row)
    → ((k : Calls s e stage) → Says k.row.act) → IsCall s e stage j r
    → Says r.act
said_of s e stage Says j r says call = says (record { job = j; row = r; works = call.works; found = call.found })

-- why an ask and a poll are refused
create_asks : (r : Row) (asked : Request) (given : Answered) → r.act ≡ Create → Asks r asked
    → Refuses r.act asked answer.Quota why.Quota
create_asks r asked given act (creates is) = by_quota r.kind.name r.props
create_asks r asked given act (updates is) = let f : Create ≡ Update = sym act ∙ is in cc
create_asks r asked given act (deletes is) = let f : Create ≡ Delete = sym act ∙ is in cc

pub refuses_ask : (r : Row) (asked : Request) (given : Answered) (reason : Why) → AnswersAsk r.act given
    → Asks r asked → IsReason r.act given reason
    → Refuses r.act asked given reason
refuses_ask r asked given reason answers asks (of_failure is because) =
    subst (λ (a : Answered). Refuses r.act asked a reason) (sym is)
    (subst (λ (w : Why). Refuses r.act asked answer.Failed w) (sym because) (by_failure asked))
refuses_ask r asked given reason (asking.begun act is) asks
    (of_quota quota because) = let f : answer.Begun ≡ answer.Quota = sym is ∙ quota in cc
refuses_ask r asked given reason (asking.failed act is) asks
    (of_quota quota because) = let f : answer.Failed ≡ answer.Quota = sym is ∙ quota in cc
refuses_ask r asked given reason (asking.quota act is) asks (of_quota quota because) =
    subst (λ (a : Answered). Refuses r.act asked a reason) (sym is)
    (subst (λ (w : Why). Refuses r.act asked answer.Quota w) (sym because) (create_asks r asked given act asks))
refuses_ask r asked given reason (asking.begun act is) asks
    (of_code code broken because) = let f : answer.Begun ≡ answer.Broken code = sym is ∙ broken in cc
refuses_ask r asked given reason (asking.failed act is) asks
    (of_code code broken because) = let f : answer.Failed ≡ answer.Broken code = sym is ∙ broken in cc
refuses_ask r asked given reason (asking.quota act is) asks
    (of_code code broken because) = let f : answer.Quota ≡ answer.Broken code = sym is ∙ broken in cc

code_polls : (r : Row) (asked : Request) (code : List ℕ) → r.act ≢ Delete → Polls r asked
    → Refuses r.act asked (answer.Broken code) (why.Broken r.act code)
code_polls r asked code kept (polls other) = by_code code
code_polls r asked code kept (looks is) = absurd (kept is)

-- no answer that fails a poll is past a quota, and a broken one isn't of a delete
kept_broken : (r : Row) (given : Answered) (code : List ℕ) → AnswersPoll r.act given
    → given ≡ answer.Broken code → r.act ≢ Delete
kept_broken r given code (asking.not_yet is) broken = let f : answer.NotYet ≡ answer.Broken code = sym is ∙ broken in cc
kept_broken r given code (asking.poll_failed is) broken = let f : answer.Failed ≡ answer.Broken code = sym is
    ∙ broken in cc
kept_broken r given code (asking.ready facts kept is) broken = kept
kept_broken r given code (asking.broken other kept is) broken = kept
kept_broken r given code (asking.gone act is) broken = let f : answer.Gone ≡ answer.Broken code = sym is ∙ broken in cc

no_quota : (act : Act) (given : Answered) → AnswersPoll act given → given ≢ answer.Quota
no_quota act given (asking.not_yet is) quota = let f : answer.NotYet ≡ answer.Quota = sym is ∙ quota in cc
no_quota act given (asking.poll_failed is) quota = let f : answer.Failed ≡ answer.Quota = sym is ∙ quota in cc
no_quota act given (asking.ready facts kept is) quota = let f : answer.Ready facts ≡ answer.Quota = sym is ∙ quota in cc
no_quota act given (asking.broken code kept is) quota = let f : answer.Broken code ≡ answer.Quota = sym is ∙ quota in cc
no_quota act given (asking.gone a is) quota = let f : answer.Gone ≡ answer.Quota = sym is ∙ quota in cc

pub refuses_poll : (r : Row) (asked : Request) (given : Answered) (reason : Why) → AnswersPoll r.act given
    → Polls r asked → IsReason r.act given reason
    → Refuses r.act asked given reason
refuses_poll r asked given reason answers asks (of_failure is because) =
    subst (λ (a : Answered). Refuses r.act asked a reason) (sym is)
    (subst (λ (w : Why). Refuses r.act asked answer.Failed w) (sym because) (by_failure asked))
refuses_poll r asked given reason answers asks (of_quota is because) = absurd (no_quota r.act given answers is)
refuses_poll r asked given reason answers asks (of_code code is because) =
    subst (λ (a : Answered). Refuses r.act asked a reason) (sym is)
    (subst (λ (w : Why). Refuses r.act asked (answer.Broken code) w) (sym because)
    (code_polls r asked code (kept_broken r given code answers is) asks))

pub not_begun : (act : Act) (given : Answered) → AnswersPoll act given → given ≢ answer.Begun
not_begun act given (asking.not_yet is) begun = let f : answer.NotYet ≡ answer.Begun = sym is ∙ begun in cc
not_begun act given (asking.poll_failed is) begun = let f : answer.Failed ≡ answer.Begun = sym is ∙ begun in cc
not_begun act given (asking.ready facts kept is) begun = let f : answer.Ready facts ≡ answer.Begun = sym is
    ∙ begun in cc
not_begun act given (asking.broken code kept is) begun = let f : answer.Broken code ≡ answer.Begun = sym is
    ∙ begun in cc
not_begun act given (asking.gone a is) begun = let f : answer.Gone ≡ answer.Begun = sym is ∙ begun in cc

-- the failure under the plainest answer lasts where this one does
pub ask_lasts : (s : StateData) (e : ℕ) (j : Job) (r : Row) (asked : Request) (f : Failure) (cs : List Change)
    (es : List Entry) → IsCall s e Asking j r
    → Asks r asked → IsFallen s e j r f cs es → ¬ IsWorn cs → CallLasts s e
ask_lasts s e j r asked f cs es call asks k unworn a =
    let other : Failure = record { call = call_entry e r asked answer.Failed; reason = why.Failed r.act } in
    let (fs, q) = told_otherwise s e j r f other cs es k in
    call_not_worn s e cs fs (ask_turn s e j r asked answer.Failed (why.Failed r.act) cs fs call asks
    (by_failure asked) q) unworn a

pub poll_lasts : (s : StateData) (e : ℕ) (j : Job) (r : Row) (asked : Request) (f : Failure)
    (cs : List Change) (es : List Entry) → IsCall s e Polling j r
    → Polls r asked → IsFallen s e j r f cs es → ¬ IsWorn cs → CallLasts s e
poll_lasts s e j r asked f cs es call asks k unworn a =
    let other : Failure = record { call = call_entry e r asked answer.Failed; reason = why.Failed r.act } in
    let (fs, q) = told_otherwise s e j r f other cs es k in
    call_not_worn s e cs fs (poll_turn s e j r asked answer.Failed (why.Failed r.act) cs fs call asks
    (by_failure asked) q) unworn a

-- a failure that wears something out wears the call out under each answer
pub ask_worn : (s : StateData) (e : ℕ) (j : Job) (r : Row) (asked : Request) (given : Answered) (reason : Why)
    (refusal : Refusal) → IsCall s e Asking j r
    → Asks r asked → Refuses r.act asked given reason
    → OrWorn (IsFallen s e j r (record { call = call_entry e r asked given; reason = reason })) refusal
    → IsCallRefusal s e refusal
ask_worn s e j r asked given reason refusal call asks refuses (fall_memory is) = call_memory is
ask_worn s e j r asked given reason refusal call asks refuses (fall_worn is cs es k w) =
    call_worn is (λ b. call_wears s e given b cs es (ask_turn s e j r asked given reason cs es call asks refuses k) w)

pub poll_worn : (s : StateData) (e : ℕ) (j : Job) (r : Row) (asked : Request) (given : Answered)
    (reason : Why) (refusal : Refusal) → IsCall s e Polling j r
    → Polls r asked → Refuses r.act asked given reason
    → OrWorn (IsFallen s e j r (record { call = call_entry e r asked given; reason = reason })) refusal
    → IsCallRefusal s e refusal
poll_worn s e j r asked given reason refusal call asks refuses (fall_memory is) = call_memory is
poll_worn s e j r asked given reason refusal call asks refuses (fall_worn is cs es k w) =
    call_worn is (λ b. call_wears s e given b cs es (poll_turn s e j r asked given reason cs es call asks refuses k) w)

pub turn_refusal : (s : StateData) (e : ℕ) (given : Answered) (refusal : Refusal) → IsCallRefusal s e refusal
    → IsTurnRefusal s e (Answer given) refusal
turn_refusal s e given refusal (call_memory is) = turn_memory is
turn_refusal s e given refusal (call_worn is w) = turn_worn is (w given)

-- a ready row isn't at its delete, and one that is gone is
pub kept_ready : (r : Row) (given : Answered) (facts : Facts) → AnswersPoll r.act given
    → given ≡ answer.Ready facts → r.act ≢ Delete
kept_ready r given facts (asking.not_yet is) ready = let f : answer.NotYet ≡ answer.Ready facts = sym is ∙ ready in cc
kept_ready r given facts (asking.poll_failed is) ready = let f : answer.Failed ≡ answer.Ready facts = sym is
    ∙ ready in cc
kept_ready r given facts (asking.ready other kept is) ready = kept
kept_ready r given facts (asking.broken code kept is) ready = kept
kept_ready r given facts (asking.gone act is) ready = let f : answer.Gone ≡ answer.Ready facts = sym is ∙ ready in cc

pub gone_delete : (r : Row) (given : Answered) → AnswersPoll r.act given → given ≡ answer.Gone → r.act ≡ Delete
gone_delete r given (asking.not_yet is) gone = let f : answer.NotYet ≡ answer.Gone = sym is ∙ gone in cc
gone_delete r given (asking.poll_failed is) gone = let f : answer.Failed ≡ answer.Gone = sym is ∙ gone in cc
gone_delete r given (asking.ready facts kept is) gone = let f : answer.Ready facts ≡ answer.Gone = sym is ∙ gone in cc
gone_delete r given (asking.broken code kept is) gone = let f : answer.Broken code ≡ answer.Gone = sym is ∙ gone in cc
gone_delete r given (asking.gone act is) gone = act

-- the turns of answers that don't fail
pub begun_turn : (s : StateData) (e : ℕ) (j : Job) (r : Row) (given : Answered) (m : Made)
    → IsCall s e Asking j r → given ≡ answer.Begun → IsBegun e j r m
    → CallLasts s e → IsTurn s e (Answer given) m
begun_turn s e j r given m call is k lasts =
    let calls : Calls s e Asking = record { job = j; row = r; works = call.works; found = call.found } in
    subst (λ (a : Answered). IsTurn s e (Answer a) m) (sym is)
    (record {
      turn = plain None (ask_begun calls k.asked _ _ k.asks k.changes k.entries) unfailed;
      lasts =
          lasts answer.Begun;
    })

pub told_turn : (s : StateData) (e : ℕ) (j : Job) (r : Row) (given : Answered) (m : Made)
    → IsCall s e Polling j r → AnswersPoll r.act given
    → IsTold e j r given m → CallLasts s e → IsTurn s e (Answer given) m
told_turn s e j r given m call answers (waits asked asks is c d) lasts =
    let calls : Calls s e Polling = record { job = j; row = r; works = call.works; found = call.found } in
    subst (λ (a : Answered). IsTurn s e (Answer a) m) (sym is)
    (record { turn = plain None (poll_waits calls asked _ _ asks c d) unfailed; lasts = lasts answer.NotYet })
told_turn s e j r given m call answers (readies facts is c d) lasts =
    let calls : Calls s e Polling = record { job = j; row = r; works = call.works; found = call.found } in
    subst (λ (a : Answered). IsTurn s e (Answer a) m) (sym is)
    (record {
      turn = plain None (poll_ready calls facts _ _
          (kept_ready r given facts answers is) c d) unfailed;
      lasts = lasts (answer.Ready facts);
    })
told_turn s e j r given m call answers (goes is c d) lasts =
    let calls : Calls s e Polling = record { job = j; row = r; works = call.works; found = call.found } in
    subst (λ (a : Answered). IsTurn s e (Answer a) m) (sym is)
    (record {
      turn = plain None (poll_gone calls _ _
          (gone_delete r given answers is) c d) unfailed;
      lasts = lasts answer.Gone;
    })

-- what a poll asks, by whether the row is at its delete
pub kept_poll : (r : Row) (asked : Request) → Polls r asked → r.act ≢ Delete → asked ≡ request.Poll
kept_poll r asked (polls kept) is = refl
kept_poll r asked (looks act) kept = absurd (kept act)

pub gone_look : (r : Row) (asked : Request) → Polls r asked → r.act ≡ Delete → asked ≡ request.Gone
gone_look r asked (polls kept) act = absurd (kept act)
gone_look r asked (looks is) act = refl

-- an answer that fails nothing is one of the others
pub not_told : (act : Act) (given : Answered) → AnswersPoll act given → ¬ IsFailing given
    → (given ≡ answer.Begun) ⊎ ((given ≡ answer.Quota) ⊎ ((given ≡ answer.Failed) ⊎ ((code : List ℕ) ×
    (given ≡ answer.Broken code)))) → ⊥
not_told act given answers fine (inl is) = not_begun act given answers is
not_told act given answers fine (inr (inl is)) = no_quota act given answers is
not_told act given answers fine (inr (inr (inl is))) = fine (asking.by_failure is)
not_told act given answers fine (inr (inr (inr (code, is)))) = fine (asking.by_code code is)

-- of the answers of an arm, each fails or none does
pub arm_fails : (given : Answered)
    → (given ≡ answer.Failed) ⊎ ((code : List ℕ) × (given ≡ answer.Broken code)) → IsFailing given
arm_fails given (inl is) = asking.by_failure is
arm_fails given (inr (code, is)) = asking.by_code code is

apart : (given : Answered) → IsFailing given
    → (given ≡ answer.NotYet) ⊎ (((facts : Facts) × (given ≡ answer.Ready facts)) ⊎ (given ≡ answer.Gone)) → ⊥
apart given (asking.by_failure is) (inl e) = let f : answer.Failed ≡ answer.NotYet = sym is ∙ e in cc
apart given (asking.by_failure is) (inr (inl (
  facts,
  e,
))) = let f : answer.Failed ≡ answer.Ready facts = sym is ∙ e in cc
apart given (asking.by_failure is) (inr (inr e)) = let f : answer.Failed ≡ answer.Gone = sym is ∙ e in cc
apart given (asking.by_quota is) (inl e) = let f : answer.Quota ≡ answer.NotYet = sym is ∙ e in cc
apart given (asking.by_quota is) (inr (inl (facts, e))) = let f : answer.Quota ≡ answer.Ready facts = sym is ∙ e in cc
apart given (asking.by_quota is) (inr (inr e)) = let f : answer.Quota ≡ answer.Gone = sym is ∙ e in cc
apart given (asking.by_code code is) (inl e) = let f : answer.Broken code ≡ answer.NotYet = sym is ∙ e in cc
apart given (asking.by_code code is)
    (inr (inl (facts, e))) = let f : answer.Broken code ≡ answer.Ready facts = sym is ∙ e in cc
apart given (asking.by_code code is) (inr (inr e)) = let f : answer.Broken code ≡ answer.Gone = sym is ∙ e in cc

pub arm_tells : (given : Answered)
    → (given ≡ answer.NotYet) ⊎ (((facts : Facts) × (given ≡ answer.Ready facts)) ⊎ (given ≡ answer.Gone))
    → ¬ IsFailing given
arm_tells given arm fails = apart given fails arm

pub no_arm : (act : Act) (given : Answered) → AnswersPoll act given
    → (given ≡ answer.Begun) ⊎ (given ≡ answer.Quota) → ⊥
no_arm act given answers (inl is) = not_begun act given answers is
no_arm act given answers (inr is) = no_quota act given answers is
