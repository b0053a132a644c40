-- A call of the cloud and the step of its answer, as a turn.
use Rattle.std.proofs.Common.{List, [], ap, arith, refl, subst, sym, ℕ, ◌++◌, ◌∙◌, ◌∷◌, ◌≡◌}
use Rattle.std.specs.Prelude.{length, take, ◌≢◌, ◌≤◌}
use Rattle.heat_value.specs.Data.{Members}
use Rattle.heat_plan.specs.declared.calls.Answered.{Answered}
use Rattle.heat_plan.specs.declared.calls.Request.{Request}
use Rattle.heat_plan.specs.declared.phase.Act.{Act}
use Rattle.heat_plan.specs.declared.phase.Act.TheVariants.{Create, Delete, Update}
use Rattle.heat_plan.specs.declared.token.Token.{Token}
use Rattle.provider.specs.Calls.{MayGo}
use Rattle.provider.specs.Cloud.{Cloud, IsAlive}
use Rattle.row_table.specs.declared.row.Row.{Row}
use Rattle.mail_table.specs.declared.mail.Job.{Job}
use Rattle.mail_table.specs.declared.mail.Stage.{Stage}
use Rattle.mail_table.specs.declared.mail.Stage.TheVariants.{Asking, Polling}
use Rattle.core_state.specs.State.{StateData}
use Rattle.core_state.specs.declared.change.Change.{Change}
use Rattle.core_state.specs.declared.entry.Entry.{Entry}
use Rattle.core_state.specs.declared.made.Made.{Made}
use Rattle.step_relation.specs.Asks.{Asks, Calls, Polls}
use Rattle.step_relation.specs.Asks as call
use Rattle.step_relation.specs.Given.{Answer, Given, answers}
use Rattle.step_relation.specs.Nexts.{Works}
use Rattle.step_relation.specs.Rows.{token_of}
use Rattle.step_relation.specs.Turns.{IsWorn, Turn, WearsOut}
use Rattle.step_relation.specs.MailFits as under
use Rattle.step_relation.specs.Steps as step
use Rattle.workable_laws.proofs.Applied.{steps_apply}
use Rattle.workable_laws.proofs.Keepable.{steps_are_keepable}
use Rattle.workable_laws.specs.Workable.{IsCalledAct, JobsStand}
use Rattle.workable_laws.specs.Workable as row_at_work
use Rattle.history_laws.proofs.tables.Rows.{same_some}
use Rattle.next_laws.proofs.Parts.{AtJob, at_job, kind_one}
use Rattle.next_laws.specs.Found.{IsAskedAt}
use Rattle.next_laws.specs.Found as asked_at
use Rattle.takeover_steps.specs.Answers.{AnswersPoll, IsAsking}
use Rattle.takeover_steps.specs.Answers as asking
use Rattle.heat_plan.specs.declared.calls.Request.TheVariants as request
use Rattle.takeover_steps.specs.Lost.{IsOfUnknownSize}
use Rattle.takeover_steps.specs.Lost as lost
use Rattle.book.specs.Learning.{HasLearned, Learns, stored, tried_in}
use Rattle.book.specs.Learning.{told as told_alone}
use Rattle.book.specs.Outcomes.{IsAnswered, IsCalled}
use Rattle.book.specs.Quiet.{page}
use Rattle.book.specs.Scenes.{Told, scene}
use Rattle.book.specs.WorkableOver.{IsWorkable, IsWorkableOver}
use Rattle.record_keeper.specs.Shown.{ShownKeeper}
use Rattle.book.specs.Keeping.{IsStorable, KeptBy}
use Rattle.book.specs.Makings.{Answers, AnswersAs}
use Rattle.book.specs.Makings as made_as
use Rattle.book.specs.Behind.{Turns}
use Rattle.book.specs.Turned.{Requests}
use Rattle.book.specs.Turned as turned
use Rattle.book.specs.declared.turning.Turn.TheVariants.{DiskFault}
use Rattle.book.specs.declared.turning.Turn.{Turn as Turn_answer}
use Rattle.book.proofs.Conditions.{alive_at_poll, alive_at_update, going_at_gone}
use Rattle.book.proofs.Telling.{FirstCall, turn_calls}

module _ (s : StateData) (e : ℕ) where
  -- a job that asks doesn't poll
  apart : Calls s e Asking → Calls s e Polling → ⊥
  apart a b = let same = kind_one s e (AtJob Asking) (AtJob Polling) (at_job a.job Asking a.works)
      (at_job b.job Polling b.works) in cc

  module _ (row : Row) (called : IsCalled s e row) where
    asks_in : (stage : Stage) (k : Calls s e stage) (asked : Request) → Calls s e Asking → IsAskedAt k.row stage asked
        → Asks row asked
    asks_in _ k asked q (asked_at.asks _ is) = subst (λ (r : Row). Asks r asked) (called Asking k) is
    asks_in _ k asked q (asked_at.polls _ is) = absurd (apart q k)

    polls_in : (stage : Stage) (k : Calls s e stage) (asked : Request) → Calls s e Polling
        → IsAskedAt k.row stage asked → Polls row asked
    polls_in _ k asked q (asked_at.asks _ is) = absurd (apart k q)
    polls_in _ k asked q (asked_at.polls _ is) = subst (λ (r : Row). Polls r asked) (called Polling k) is

    -- what the engine's job asks for its row
    pub asks_now : Calls s e Asking → (k : Requests s e) → Asks row k.asked
    asks_now q k = asks_in k.stage k.calls k.asked q k.asks

    pub polls_now : Calls s e Polling → row.act ≢ Delete → (k : Requests s e) → k.asked ≡ request.Poll
    polls_now q stays k = by k.asked (polls_in k.stage k.calls k.asked q k.asks) where
      by : (asked : Request) → Polls row asked → asked ≡ request.Poll
      by _ (call.polls ne) = refl
      by _ (call.looks act) = absurd (stays act)

    pub looks_now : Calls s e Polling → row.act ≡ Delete → (k : Requests s e) → k.asked ≡ request.Gone
    looks_now q goes k = by k.asked (polls_in k.stage k.calls k.asked q k.asks) where
      by : (asked : Request) → Polls row asked → asked ≡ request.Gone
      by _ (call.polls ne) = absurd (ne goes)
      by _ (call.looks act) = refl

    -- the request of a job that polls
    abbrev pub poll_of : (k : Calls s e Polling) → row.act ≢ Delete → Requests s e
    poll_of k stays = record {
      stage = Polling;
      calls = k;
      asked = request.Poll;
      asks = asked_at.polls request.Poll (call.polls
          (λ d. stays (ap (λ (r : Row). r.act) (sym (called Polling k)) ∙ d)));
    }

    abbrev pub look_of : (k : Calls s e Polling) → row.act ≡ Delete → Requests s e
    look_of k goes = record {
      stage = Polling;
      calls = k;
      asked = request.Gone;
      asks = asked_at.polls request.Gone (call.looks (ap (λ (r : Row). r.act) (called Polling k) ∙ goes));
    }

    -- the answer's step was made, and the call is told; or the keeper failed, and the call is told alone
    pub answered : (t : StateData) (h i : List Entry) (c d : Cloud) (before after : ShownKeeper) (faults now : ℕ)
        (token : Token) (given : Answered) (made : Made) (result : Turn_answer) → token ≡ token_of row
        → IsAnswered s e given made → Answers made (page s h) (page t i) before after faults now result
        → ((k : Requests s e) → Told token k.asked given c d)
        → Turns e (scene s h c) (scene t i d) before after faults now result
    answered t h i c d before after faults now token given made result its turn it told =
        by it.does it.kept where
          k : FirstCall s e given made.entries
          k = turn_calls s e given made.changes made.entries turn.turn

          q : Requests s e
          q = record { stage = k.stage; calls = k.calls; asked = k.asked; asks = k.asks }

          same : token ≡ token_of k.calls.row
          same = its ∙ ap token_of (sym (called k.stage k.calls))

          its_told : Told (token_of k.calls.row) k.asked given c d
          its_told = subst (λ (x : Token). Told x k.asked given c d) same (told q)

          by : AnswersAs made (page s h) (page t i) result
              → KeptBy before after faults now s t made.changes (result ≡ DiskFault)
              → Turns e (scene s h c) (scene t i d) before after faults now result
          by (made_as.stepped writes is) kept = record {
            turned = turned.called q given made.changes made.entries k.rest is turn.turn turn.lasts k.entries
                (record { state = writes.state; entries = writes.entries }) its_told;
            kept = kept;
          }
          by (made_as.alone some writes is) kept = record {
            turned = turned.alone q given made.changes made.entries k.rest (turned.failed is) some turn.turn turn.lasts
                k.entries
                (record {
                  state = writes.state;
                  entries = writes.entries ∙ ap (λ (es : List Entry). h ++ take 1 es) k.entries;
                })
                its_told;
            kept = kept;
          }

  -- a job that asks has a row at CREATE, UPDATE or DELETE
  pub asking_of : JobsStand s → (k : Calls s e Asking) → IsAsking k.row.act
  asking_of x k = by it.row.act it.act (ap (λ (r : Row). r.act) (same_some it.row k.row it.found k.found)) where
    it : row_at_work.IsCalled s k.job
    it = x.called e k.job k.works.live k.works.its
        (subst (λ (st : Stage). under.IsUnderWay st) (sym k.works.stage_is) under.asks)

    by : (act : Act) → IsCalledAct act → act ≡ k.row.act → IsAsking k.row.act
    by _ row_at_work.creates is = asking.creates (sym is)
    by _ row_at_work.updates is = asking.updates (sym is)
    by _ row_at_work.deletes is = asking.deletes (sym is)

  -- and something is asked for it
  pub request_of : JobsStand s → (k : Calls s e Asking) → (asked : Request) × Asks k.row asked
  request_of x k = by (asking_of x k) where
    by : IsAsking k.row.act → (asked : Request) × Asks k.row asked
    by (asking.creates act) = (_, call.creates act)
    by (asking.updates act) = (_, call.updates act)
    by (asking.deletes act) = (_, call.deletes act)

-- the provider's conditions, of the row that is called
module _ (s : StateData) (h : List Entry) (c : Cloud) (x : IsWorkableOver s h c) (e : ℕ) (row : Row)
    (called : IsCalled s e row)
    (token : Token) (its : token ≡ token_of row) where
  pub alive_to_update : (k : Calls s e Asking) → row.act ≡ Update → IsAlive c token
  alive_to_update k act =
      let own : k.row.act ≡ Update = ap (λ (r : Row). r.act) (called Asking k) ∙ act in
      let is = alive_at_update x.opening h s x.workable c x.shows e
      (record { stage = Asking; calls = k; asked = _; asks = asked_at.asks _ (call.updates own) }) _ refl in
      subst (IsAlive c) (ap token_of (called Asking k) ∙ sym its) is

  pub alive_to_poll : (k : Calls s e Polling) → row.act ≢ Delete → IsAlive c token
  alive_to_poll k stays = subst (IsAlive c) (ap token_of (called Polling k) ∙ sym its)
      (alive_at_poll x.opening h s x.workable c x.shows e (poll_of s e row called k stays) refl)

  pub going_to_look : (k : Calls s e Polling) → row.act ≡ Delete → MayGo c token
  going_to_look k goes = subst (MayGo c) (ap token_of (called Polling k) ∙ sym its)
      (going_at_gone x.opening h s x.workable c x.shows e (look_of s e row called k goes) refl)

-- a job that works at this stage
pub calling : (s : StateData) → JobsStand s → (e : ℕ) (j : Job) (stage : Stage) → under.IsUnderWay stage
    → Works s e j j.stage → j.stage ≡ stage → Calls s e stage
calling s x e j stage way works is =
    let own : Works s e j stage = record { live = works.live; its = works.its; stage_is = is } in
    let it = x.called e j works.live works.its (subst (λ (st : Stage). under.IsUnderWay st) (sym is) way) in
    record { job = j; row = it.row; works = own; found = it.found }

-- only a create is refused by a quota
pub created_by : (r : Row) (asked : Request) (kind : List ℕ) (props : Members) → Asks r asked
    → asked ≡ request.Create kind props → r.act ≡ Create
created_by r _ kind props (call.creates act) is = act
created_by r _ kind props (call.updates act) is = cc
created_by r _ kind props (call.deletes act) is = cc

-- an answer of unknown size is one of a poll
pub sized : (act : Act) (given : Answered) → IsOfUnknownSize given → act ≢ Delete → AnswersPoll act given
sized act _ (lost.ready facts) stays = asking.ready facts stays refl
sized act _ (lost.broken code) stays = asking.broken code stays refl

-- what wears nothing out under any answer, doesn't under this one
pub unworn : (s : StateData) (e : ℕ) (given : Answered) (made : Made) → IsAnswered s e given made
    → ¬ IsWorn made.changes
unworn s e given made t worn = t.lasts (record {
  other = Answer given;
  like = answers given given;
  changes = made.changes;
  entries = made.entries;
  turn = t.turn;
  worn = worn;
})

module _ (s t : StateData) (h i : List Entry) (c d : Cloud) (before after : ShownKeeper) (faults now : ℕ) (e : ℕ)
    (row : Row) (called : IsCalled s e row) where
  -- what was learned from a poll, as a turn
  pub learned : (token : Token) (given : Answered) (result : Turn_answer) → token ≡ token_of row → Calls s e Polling
      → row.act ≢ Delete → Learns e given (page s h) (page t i) before after faults now result
      → Told token request.Poll given c d
      → Turns e (scene s h c) (scene t i d) before after faults now result
  learned token given result its q stays it told = by it.learned it.kept where
    by : (l : HasLearned e given (page s h) (page t i) result)
        → KeptBy before after faults now s t (tried_in l) (result ≡ DiskFault)
        → Turns e (scene s h c) (scene t i d) before after faults now result
    by (stored k is) kept =
        let f = turn_calls s e given k.made.changes k.made.entries k.turn.turn in
        let r : Requests s e = record { stage = f.stage; calls = f.calls; asked = f.asked; asks = f.asks } in
        let same : token ≡ token_of f.calls.row = its ∙ ap token_of (sym (called f.stage f.calls)) in record {
          turned = turned.called r given k.made.changes k.made.entries f.rest is k.turn.turn k.turn.lasts f.entries
              (record { state = k.writes.state; entries = k.writes.entries })
              (subst (λ (x : Token). Told x f.asked given c d) same
              (subst (λ (a : Request). Told token a given c d) (sym (polls_now s e row called q stays r)) told));
          kept = kept;
        }
    by (told_alone k cs es rest why some it_ lasts first writes) kept = record {
      turned = turned.alone (poll_of s e row called k stays) given cs es rest why some it_ lasts first
          (record { state = writes.state; entries = writes.entries })
          (subst (λ (x : Token). Told x request.Poll given c d) (its ∙ ap token_of (sym (called Polling k))) told);
      kept = kept;
    }

-- the changes of a turn may be kept and made
pub turn_storable : (s : StateData) → IsWorkable s → (e : ℕ) (given : Given) (cs : List Change) (es : List Entry)
    → Turn s e given cs es → ¬ WearsOut s e given → IsStorable s cs
turn_storable s x e given cs es t lasts =
    let it = step.turn e given t lasts in record {
      applies = steps_apply x.opening x.history s cs es x.workable it;
      keepable = steps_are_keepable x.opening x.history s cs es x.workable it;
    }

pub answer_storable : (s : StateData) → IsWorkable s → (e : ℕ) (given : Answered) (made : Made)
    → IsAnswered s e given made → IsStorable s made.changes
answer_storable s x e given made t = turn_storable s x e (Answer given) made.changes made.entries t.turn t.lasts

-- what is workable over a cloud is
pub workable_of : (s : StateData) (h : List Entry) (c : Cloud) → IsWorkableOver s h c → IsWorkable s
workable_of s h c x = record { opening = x.opening; history = h; workable = x.workable }

-- a turn that was answered tells something
pub tells_some : (s : StateData) (e : ℕ) (given : Answered) (made : Made) → IsAnswered s e given made
    → made.entries ≢ []
tells_some s e given made t none =
    let is = (turn_calls s e given made.changes made.entries t.turn).entries in let both = sym none ∙ is in cc

pub tells_one : (s : StateData) (e : ℕ) (given : Answered) (made : Made) → IsAnswered s e given made
    → 1 ≤ length made.entries
tells_one s e given made t = by made.entries (turn_calls s e given made.changes made.entries t.turn).entries where
  by : (es : List Entry) {x : Entry} {xs : List Entry} → es ≡ x ∷ xs → 1 ≤ length es
  by [] is = cc
  by (y ∷ ys) is = omega arith
