-- What a call of the provider says, as a call that is told.
use Rattle.std.proofs.Common.{refl, subst, sym, ◌∙◌}
use Rattle.std.specs.Prelude.{List, unwrap_or, ℕ, ◌≡◌, ◌≢◌}
use Rattle.heat_value.specs.Data.{Members}
use Rattle.heat_plan.specs.declared.calls.Answered.{Answered}
use Rattle.heat_plan.specs.declared.calls.Request.{Request}
use Rattle.heat_plan.specs.declared.facts.Facts.{Facts}
use Rattle.heat_plan.specs.declared.phase.Act.TheVariants.{Create, Delete, Init, Rollback, Update}
use Rattle.heat_plan.specs.declared.token.Token.{Token}
use Rattle.provider.proofs.States.{calls-move}
use Rattle.provider.specs.Calls.{HasBegun, HasFailed, IsBroken, IsGone, IsReady, IsRefused, Lingers, Waits}
use Rattle.provider.specs.Changes.{IsAsBefore, Notes}
use Rattle.provider.specs.Cloud.{Cloud, IsAlive}
use Rattle.provider.specs.Moves.{Answers}
use Rattle.provider.specs.declared.answers.Answer.{Answer}
use Rattle.provider.specs.declared.answers.Answer.TheVariants as asked_for
use Rattle.provider.specs.declared.answers.Gone.{Gone}
use Rattle.provider.specs.declared.answers.Gone.TheVariants as looked
use Rattle.provider.specs.declared.answers.Poll.{Poll}
use Rattle.provider.specs.declared.answers.Poll.TheVariants as polled
use Rattle.provider.specs.declared.traced.Traced.TheVariants.{Called}
use Rattle.row_table.specs.declared.row.Row.{Row}
use Rattle.step_relation.specs.Asks.{Asks, creates, deletes, updates}
use Rattle.heat_plan.specs.declared.calls.Answered.TheVariants as answer
use Rattle.heat_plan.specs.declared.calls.Request.TheVariants as request
use Rattle.book.specs.Requests.{HasAsked, HasLooked, HasPolled}
use Rattle.book.specs.Scenes.{Polls, Told}
use Rattle.book.proofs.Lefts.{failed_polls, gone_polls, lowers_polls, others_keep, spares, stays_polls, takes_polls}

-- a call that is told, and whose answer isn't Failed
by_notes : (token : Token) (asked : Request) (given : Answered) (old new : Cloud) → given ≢ answer.Failed
    → Answers token asked given old new → Polls token given old new → Notes (Called token asked given) old new
    → Told token asked given old new
by_notes token asked given old new fine moves polls noted = record {
  answers = moves;
  trace = noted.trace;
  faults = noted.faults;
  cause = λ failed. absurd (fine failed);
  polls = polls;
}

by_failure : (token : Token) (asked : Request) (old new : Cloud) → Answers token asked answer.Failed old new
    → HasFailed token asked old new → Told token asked answer.Failed old new
by_failure token asked old new moves h = record {
  answers = moves;
  trace = h.noted.trace;
  faults = h.noted.faults;
  cause = λ e. h.cause;
  polls = failed_polls token old new asked h;
}

-- a row is asked one thing by its act
asks_by : (r : Row) (asked : Request) → Asks r asked → (P : Request → Type 0)
    → (r.act ≡ Create → P (request.Create r.kind.name r.props))
    → (r.act ≡ Update → P (request.Update (unwrap_or r.target r.props)))
    → (r.act ≡ Delete → P request.Delete) → P asked
asks_by r _ (creates is) P a b c = a is
asks_by r _ (updates is) P a b c = b is
asks_by r _ (deletes is) P a b c = c is

-- and so it isn't at INIT or ROLLBACK
pub never_init : (r : Row) (asked : Request) → Asks r asked → r.act ≢ Init
never_init r asked asks is = asks_by r asked asks (λ a. ⊥) (λ i. let e = sym is ∙ i in cc)
    (λ i. let e = sym is ∙ i in cc) (λ i. let e = sym is ∙ i in cc)

pub never_rollback : (r : Row) (asked : Request) → Asks r asked → r.act ≢ Rollback
never_rollback r asked asks is = asks_by r asked asks (λ a. ⊥) (λ i. let e = sym is ∙ i in cc)
    (λ i. let e = sym is ∙ i in cc) (λ i. let e = sym is ∙ i in cc)

module _ (token : Token) (r : Row) (old new : Cloud) (result : Answer) where
  pub created_says : r.act ≡ Create
      → (result ≡ asked_for.Begun → HasBegun token (request.Create r.kind.name r.props) old new)
      → (result ≡ asked_for.Quota → IsRefused token r.kind.name r.props old new)
      → (result ≡ asked_for.Failed → HasFailed token (request.Create r.kind.name r.props) old new)
      → (result ≡ asked_for.Memory → IsAsBefore old new)
      → (asked : Request) → Asks r asked → HasAsked token asked old new result
  created_says act begun quota failed memory asked asks = asks_by r asked asks (λ a. HasAsked token a old new result)
      (λ is. record {
        begun = λ e. by_notes token _ answer.Begun old new (λ i. cc)
            ((calls-move old new token).create r.kind.name r.props (begun e))
            (takes_polls token old new (request.Create r.kind.name r.props) answer.Begun (λ i. cc) (begun e).effect)
            (begun e).noted;
        quota = λ e. (
          r.kind.name,
          r.props,
          refl,
          by_notes token _ answer.Quota old new (λ i. cc)
              ((calls-move old new token).quota r.kind.name r.props (quota e))
              (stays_polls token old new answer.Quota (λ i. cc) (quota e).stays) (quota e).noted,
        );
        failed = λ e. by_failure token _ old new
            ((calls-move old new token).create_failed r.kind.name r.props (failed e)) (failed e);
        memory = memory;
      })
      (λ is. let e = sym act ∙ is in cc) (λ is. let e = sym act ∙ is in cc)

  pub updated_says : r.act ≡ Update → (props : Members) → unwrap_or r.target r.props ≡ props → IsAlive old token
      → (result ≡ asked_for.Begun → HasBegun token (request.Update props) old new)
      → result ≢ asked_for.Quota
      → (result ≡ asked_for.Failed → HasFailed token (request.Update props) old new)
      → (result ≡ asked_for.Memory → IsAsBefore old new)
      → (asked : Request) → Asks r asked → HasAsked token asked old new result
  updated_says act props props_are alive begun quota failed memory asked asks = asks_by r asked asks
      (λ a. HasAsked token a old new result)
      (λ is. let e = sym act ∙ is in cc)
      (λ is. subst (λ (p : Members). HasAsked token (request.Update p) old new result) (sym props_are) (record {
        begun = λ e. by_notes token _ answer.Begun old new (λ i. cc)
            ((calls-move old new token).update props (begun e))
            (takes_polls token old new (request.Update props) answer.Begun (λ i. cc) (begun e).effect) (begun e).noted;
        quota = λ e. absurd (quota e);
        failed = λ e. by_failure token _ old new ((calls-move old new token).update_failed props alive (failed e))
            (failed e);
        memory = memory;
      }))
      (λ is. let e = sym act ∙ is in cc)

  pub deleted_says : r.act ≡ Delete
      → (result ≡ asked_for.Begun → HasBegun token request.Delete old new)
      → result ≢ asked_for.Quota
      → (result ≡ asked_for.Failed → HasFailed token request.Delete old new)
      → (result ≡ asked_for.Memory → IsAsBefore old new)
      → (asked : Request) → Asks r asked → HasAsked token asked old new result
  deleted_says act begun quota failed memory asked asks = asks_by r asked asks (λ a. HasAsked token a old new result)
      (λ is. let e = sym act ∙ is in cc) (λ is. let e = sym act ∙ is in cc)
      (λ is. record {
        begun = λ e. by_notes token _ answer.Begun old new (λ i. cc) ((calls-move old new token).delete (begun e))
            (takes_polls token old new request.Delete answer.Begun (λ i. cc) (begun e).effect) (begun e).noted;
        quota = λ e. absurd (quota e);
        failed = λ e. by_failure token _ old new ((calls-move old new token).delete_failed (failed e)) (failed e);
        memory = memory;
      })

module _ (token : Token) (old new : Cloud) where
  pub poll_says : (result : Poll) → IsAlive old token
      → (result ≡ polled.NotYet → Waits token old new)
      → ((facts : Facts) → result ≡ polled.Ready facts → IsReady token facts old new)
      → ((code : List ℕ) → result ≡ polled.Broken code → IsBroken token code old new)
      → (result ≡ polled.Failed → HasFailed token request.Poll old new)
      → (result ≡ polled.Memory → IsAsBefore old new) → HasPolled token old new result
  poll_says result alive waits ready broken failed memory = record {
    not_yet = λ e. by_notes token _ answer.NotYet old new (λ i. cc)
        ((calls-move old new token).not_yet alive (waits e)) (lowers_polls token old new (waits e).lowers)
        (waits e).noted;
    ready = λ facts e. by_notes token _ (answer.Ready facts) old new (λ i. cc)
        ((calls-move old new token).ready facts (ready facts e))
        (spares token old new (answer.Ready facts) (λ i. cc) (others_keep token old new (ready facts e).others))
        (ready facts e).noted;
    broken = λ code e. by_notes token _ (answer.Broken code) old new (λ i. cc)
        ((calls-move old new token).broken code alive (broken code e))
        (stays_polls token old new (answer.Broken code) (λ i. cc) (broken code e).stays) (broken code e).noted;
    failed = λ e. by_failure token _ old new ((calls-move old new token).poll_failed alive (failed e)) (failed e);
    memory = memory;
  }

  pub look_says : (result : Gone)
      → (result ≡ looked.Gone → IsGone token old new) → (result ≡ looked.NotYet → Lingers token old new)
      → (result ≡ looked.Failed → HasFailed token request.Gone old new)
      → (result ≡ looked.Memory → IsAsBefore old new) → HasLooked token old new result
  look_says result gone lingers failed memory = record {
    gone = λ e. by_notes token _ answer.Gone old new (λ i. cc) ((calls-move old new token).gone (gone e))
        (gone_polls token old new (gone e)) (gone e).noted;
    not_yet = λ e. by_notes token _ answer.NotYet old new (λ i. cc) ((calls-move old new token).lingers (lingers e))
        (lowers_polls token old new (lingers e).lowers) (lingers e).noted;
    failed = λ e. by_failure token _ old new ((calls-move old new token).gone_failed (failed e)) (failed e);
    memory = memory;
  }
