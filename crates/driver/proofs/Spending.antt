-- Each turn of the book is paid for by the work that is left.
use Rattle.std.proofs.Common.{ap, arith, refl, subst}
use Rattle.std.specs.Prelude.{List, ℕ, ◌+◌, ◌<◌, ◌≡◌, ◌≤◌}
use Rattle.heat_plan.specs.declared.calls.Answered.{Answered}
use Rattle.core_state.specs.Changes.{applied}
use Rattle.core_state.specs.State.{StateData}
use Rattle.core_state.specs.declared.change.Change.{Change}
use Rattle.core_state.specs.declared.entry.Entry.{Entry}
use Rattle.provider.specs.Cloud.{Cloud}
use Rattle.step_relation.specs.Given.{Answer, Given}
use Rattle.step_relation.specs.Rows.{token_of}
use Rattle.step_relation.specs.Runs.{IsTied}
use Rattle.step_relation.specs.Runs as tied
use Rattle.step_relation.specs.Turns.{Turn}
use Rattle.step_relation.specs.Sound.{Standing}
use Rattle.book.specs.Kept.{unjudged}
use Rattle.book.specs.Scenes.{Makes, Scene, Told}
use Rattle.book.specs.Turned.{IsQuiet, Requests, Turned}
use Rattle.book.specs.Turned as turned
use Rattle.book.specs.Turned.{failed, lacking}
use Rattle.book.specs.declared.turning.Turn.{Turn as turn_type}
use Rattle.book.specs.declared.turning.Turn.TheVariants as turn
use Rattle.bound_laws.specs.Bound.{IsWork}
use Rattle.bound_laws.specs.Polls.{AreFew, Polled, asked, unasked}
use Rattle.bound_laws.specs.Full.{IsFullWork}
use Rattle.bound_laws.proofs.Full.{work_less}
use Rattle.bound_laws.proofs.Told.{work_exists, work_one}
use Rattle.bound_laws.proofs.Turning.{turns_lower}

-- the turns made and the work left are no more than the work at first
pub record Spent (first : StateData) (opened : Cloud) (made : ℕ) (s : StateData) (cloud : Cloud) : Type 0 where
  pub few : AreFew opened
  pub paid : (n m : ℕ) → IsWork opened.left first n → IsWork cloud.left s m → made + m ≤ n

pub none_spent : (s : StateData) (opened : Cloud) → AreFew opened → Spent s opened 0 s opened
none_spent s opened few =
    record { few = few; paid = λ n m a b. let is = work_one opened.left s n m a b in omega (arith, is) }

-- a turn that asked nobody, and one that did
quiet_polled : (s : StateData) (e : ℕ) (given : Given) (old new : Cloud) → IsQuiet given → new ≡ old
    → Polled s e given old new
quiet_polled s e given old new quiet same = unasked quiet (λ t. ap (λ (c : Cloud). c.left t) same)

called_polled : (s : StateData) (e : ℕ) (k : Requests s e) (given : Answered) (old new : Cloud)
    → Told (token_of k.calls.row) k.asked given old new → Polled s e (Answer given) old new
called_polled s e k given old new told = asked (token_of k.calls.row) given refl
    (record { job = k.calls.job; row = k.calls.row; its = k.calls.works.its; found = k.calls.found; token = refl })
    (record { waits = told.polls.waits; others = told.polls.others })

module _ (first : StateData) (opened : Cloud) where
  spend : (made : ℕ) (s t : StateData) (e : ℕ) (given : Given) (cs : List Change) (es : List Entry) (old new : Cloud)
      → Spent first opened made s old → Standing s → Turn s e given cs es → IsTied unjudged s e given
      → Polled s e given old new → AreFew new → t ≡ applied cs s → Spent first opened (made + 1) t new
  spend made s t e given cs es old new so stands moves tied polled few is = record {
    few = so.few;
    paid = λ n m a b.
        let at = work_exists old.left s in
        let paid = so.paid n at.0 a at.1 in
        let b1 = subst (λ (x : StateData). IsWork new.left x m) is b in
        let lt = turns_lower unjudged s e given cs es old new at.0 m stands
        (record { turn = moves; tied = tied; polled = polled }) few at.1 b1 in
        omega (arith, paid, lt);
  }

  -- a step that asked nobody
  spend_quiet : (made e : ℕ) (old new : Scene) (given : Given) (cs : List Change) (es : List Entry)
      → Spent first opened made old.state old.cloud → Standing old.state → AreFew new.cloud → IsQuiet given
      → Turn old.state e given cs es → IsTied unjudged old.state e given → Makes cs es old new → new.cloud ≡ old.cloud
      → Spent first opened (made + 1) new.state new.cloud
  spend_quiet made e old new given cs es so stands few quiet moves its makes same =
      spend made old.state new.state e given cs es old.cloud new.cloud so stands moves its
      (quiet_polled old.state e given old.cloud new.cloud quiet same) few makes.state

  -- the step of an answer
  spend_called : (made e : ℕ) (old new : Scene) (k : Requests old.state e) (given : Answered) (cs : List Change)
      (es : List Entry) → Spent first opened made old.state old.cloud → Standing old.state → AreFew new.cloud
      → Turn old.state e (Answer given) cs es → Makes cs es old new
      → Told (token_of k.calls.row) k.asked given old.cloud new.cloud
      → Spent first opened (made + 1) new.state new.cloud
  spend_called made e old new k given cs es so stands few moves makes told =
      spend made old.state new.state e (Answer given) cs es old.cloud new.cloud so stands moves (tied.answer given)
      (called_polled old.state e k given old.cloud new.cloud told) few makes.state

  -- a turn that is made
  pub spend_turned : (made e : ℕ) (old new : Scene) (result : turn_type) → Spent first opened made old.state old.cloud
      → Standing old.state → AreFew new.cloud → Turned e old new result → result ≡ turn.Stepped
      → Spent first opened (made + 1) new.state new.cloud
  spend_turned made e old new result so stands few it stepped = elim it [
    | turned.quiet given cs es is quiet moves lasts its makes same ↦
        spend_quiet made e old new given cs es so stands few quiet moves its makes same
    | turned.called k given cs es rest is moves lasts entries makes told ↦
        spend_called made e old new k given cs es so stands few moves makes told
    | turned.alone k given cs es rest (lacking is size) some moves lasts first_ makes told ↦
        absurd (memory_steps result is stepped)
    | turned.alone k given cs es rest (failed is) some moves lasts first_ makes told ↦
        absurd (fault_steps result is stepped)
    | turned.unkept given cs es is quiet some moves lasts its same ↦ absurd (fault_steps result is stepped)
    | turned.unmade is same ↦ absurd (memory_steps result is stepped)
    | turned.idle is none same ↦ absurd (idle_steps result is stepped)
    | turned.lost is none same ↦ absurd (lost_steps result is stepped)
    | turned.worn is by same ↦ absurd (worn_steps result is stepped)
  ] where
    memory_steps : (r : turn_type) → r ≡ turn.Memory → r ≡ turn.Stepped → ⊥
    memory_steps r a b = cc

    fault_steps : (r : turn_type) → r ≡ turn.DiskFault → r ≡ turn.Stepped → ⊥
    fault_steps r a b = cc

    idle_steps : (r : turn_type) → r ≡ turn.Idle → r ≡ turn.Stepped → ⊥
    idle_steps r a b = cc

    lost_steps : (r : turn_type) → r ≡ turn.Lost → r ≡ turn.Stepped → ⊥
    lost_steps r a b = cc

    worn_steps : (r : turn_type) → r ≡ turn.Worn → r ≡ turn.Stepped → ⊥
    worn_steps r a b = cc

  -- no more turns are made than there was work
  pub made_within : (made : ℕ) (s : StateData) (cloud : Cloud) (w : ℕ) → Spent first opened made s cloud
      → IsFullWork first w → made ≤ w
  made_within made s cloud w so full =
      let a = work_exists opened.left first in
      let b = work_exists cloud.left s in
      let paid = so.paid a.0 b.0 a.1 b.1 in
      let le = work_less opened.left first a.0 w so.few a.1 full in
      omega (arith, paid, le)

  -- and where that many are, no work is left
  pub none_left : (made : ℕ) (s : StateData) (cloud : Cloud) (w : ℕ) → Spent first opened made s cloud
      → IsFullWork first w → w ≤ made
      → IsWork cloud.left s 0
  none_left made s cloud w so full enough =
      let a = work_exists opened.left first in
      let b = work_exists cloud.left s in
      let paid = so.paid a.0 b.0 a.1 b.1 in
      let le = work_less opened.left first a.0 w so.few a.1 full in
      subst (IsWork cloud.left s) (omega (arith, paid, le, enough)) b.1
