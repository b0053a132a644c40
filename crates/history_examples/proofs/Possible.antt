-- What a token may be behind the calls of the examples, by whether it is the first row's: never nothing.
use Rattle.std.proofs.Common.{Bool, List, None, [], false, true, ◌∷◌, ◌≢◌}
use Rattle.std.specs.Prelude.{codes, if◌then◌else◌}
use Rattle.provider.specs.Table.{TokenState, after_each}
use Rattle.history_examples.specs.Completed.{facts_two}
use Rattle.history_examples.specs.InPlace.{facts_now}
use Rattle.history_examples.specs.Setting.{facts, sized}
use Rattle.heat_plan.specs.declared.calls.Answered.TheVariants as reply
use Rattle.heat_plan.specs.declared.calls.Request.TheVariants as request

-- its create began
unfoldable pub begun_states : Bool → List TokenState
begun_states called =
    if called then after_each (request.Create (codes "Box") (sized 1)) reply.Begun (None ∷ []) else None ∷ []

pub some_begun : (called : Bool) → begun_states called ≢ []
unfolding begun_states
some_begun true is = cc
some_begun false is = cc

-- and it became ready
unfoldable pub ready_states : Bool → List TokenState
unfolding begun_states
ready_states called =
    if called then after_each request.Poll (reply.Ready facts) (begun_states called) else begun_states called

pub some_ready : (called : Bool) → ready_states called ≢ []
unfolding ready_states begun_states
some_ready true is = cc
some_ready false is = cc

-- and its facts were told again
unfoldable pub told_states : Bool → List TokenState
told_states called =
    if called then after_each request.Poll (reply.Ready facts) (ready_states called) else ready_states called

pub some_told : (called : Bool) → told_states called ≢ []
unfolding told_states ready_states begun_states
some_told true is = cc
some_told false is = cc

-- and an update to another size began, and it became ready again
unfoldable pub changed_states : Bool → List TokenState
unfolding ready_states begun_states
changed_states called =
    if called then after_each request.Poll (reply.Ready facts_now)
    (if called then after_each (request.Update (sized 2)) reply.Begun (ready_states called) else ready_states called)
    else (if called then after_each (request.Update (sized 2)) reply.Begun (ready_states called) else
    ready_states called)

pub some_changed : (called : Bool) → changed_states called ≢ []
unfolding changed_states ready_states begun_states
some_changed true is = cc
some_changed false is = cc

-- its create failed
unfoldable pub failed_states : Bool → List TokenState
failed_states called =
    if called then after_each (request.Create (codes "Box") (sized 1)) reply.Failed (None ∷ []) else None ∷ []

pub some_failed : (called : Bool) → failed_states called ≢ []
unfolding failed_states
some_failed true is = cc
some_failed false is = cc

-- and an update began
unfoldable pub updated_states : Bool → List TokenState
updated_states called =
    if called then after_each (request.Update (sized 1)) reply.Begun (failed_states called) else failed_states called

pub some_updated : (called : Bool) → updated_states called ≢ []
unfolding updated_states failed_states
some_updated true is = cc
some_updated false is = cc

-- the second row's create began, and it became ready
unfoldable pub made_states : Bool → Bool → List TokenState
made_states first second =
    if second then after_each request.Poll (reply.Ready facts_two)
    (if second then after_each (request.Create (codes "Box") (sized 2)) reply.Begun (ready_states first) else
    ready_states first)
    else (if second then after_each (request.Create (codes "Box") (sized 2)) reply.Begun (ready_states first) else
    ready_states first)

pub some_made : (first second : Bool) → made_states first second ≢ []
unfolding made_states ready_states begun_states
some_made true true is = cc
some_made true false is = cc
some_made false true is = cc
some_made false false is = cc

-- and the first one's delete began, and it is gone
unfoldable pub gone_states : Bool → Bool → List TokenState
gone_states first second =
    if first then after_each request.Gone reply.Gone
    (if first then after_each request.Delete reply.Begun (made_states first second) else made_states first second)
    else (if first then after_each request.Delete reply.Begun (made_states first second) else made_states first second)

pub some_gone : (first second : Bool) → gone_states first second ≢ []
unfolding gone_states made_states ready_states begun_states
some_gone true true is = cc
some_gone true false is = cc
some_gone false true is = cc
some_gone false false is = cc

-- the failed create's row was deleted, and it is gone
unfoldable pub undone_states : Bool → List TokenState
undone_states called =
    if called then after_each request.Gone reply.Gone
    (if called then after_each request.Delete reply.Begun (failed_states called) else failed_states called)
    else (if called then after_each request.Delete reply.Begun (failed_states called) else failed_states called)

pub some_undone : (called : Bool) → undone_states called ≢ []
unfolding undone_states failed_states
some_undone true is = cc
some_undone false is = cc

-- the second row's delete began, and it is gone
unfoldable pub cleared_states : Bool → Bool → List TokenState
cleared_states first second = if second then after_each request.Gone reply.Gone
    (if second then after_each request.Delete reply.Begun (made_states first second) else made_states first second) else
    (if second then after_each request.Delete reply.Begun (made_states first second) else made_states first second)

pub some_cleared : (first second : Bool) → cleared_states first second ≢ []
unfolding cleared_states made_states ready_states begun_states
some_cleared true true is = cc
some_cleared true false is = cc
some_cleared false true is = cc
some_cleared false false is = cc

-- and so is the first one
unfoldable pub deleted_states : Bool → Bool → List TokenState
deleted_states first second = if first then after_each request.Gone reply.Gone
    (if first then after_each request.Delete reply.Begun
    (cleared_states first second) else cleared_states first second) else
    (if first then after_each request.Delete reply.Begun (cleared_states first second) else cleared_states first second)

pub some_deleted : (first second : Bool) → deleted_states first second ≢ []
unfolding deleted_states cleared_states made_states ready_states begun_states
some_deleted true true is = cc
some_deleted true false is = cc
some_deleted false true is = cc
some_deleted false false is = cc
