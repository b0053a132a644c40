-- One turn of an engine, and the note of one that made no step.
use Rattle.std.proofs.Common.{◌≡◌, ◌≢◌, inl, inr, ℕ, true, false, List, [], ◌∷◌, refl, sym, ap, ◌∙◌, Result, Ok, Err}
use Rattle.std.specs.Prelude.{Bool}
use Rattle.heat_plan.specs.declared.calls.Answered.{Answered}
use Rattle.core_state.specs.declared.change.Change.{Change}
use Rattle.core_state.specs.declared.entry.Entry.{Entry}
use Rattle.core_state.specs.declared.entry.What.TheVariants as what
use Rattle.core_state.specs.State.{StateData}
use Rattle.step_relation.specs.Given.{Answer}
use Rattle.step_relation.specs.Rows.{token_of}
use Rattle.step_relation.specs.Runs.{answer}
use Rattle.step_relation.specs.Steps as steps
use Rattle.step_relation.specs.Turns.{Turn, WearsOut}
use Rattle.step_relation.specs.Writes.{call_entry}
use Rattle.driver.specs.declared.Turn.TheVariants as turn
use Rattle.driver.specs.declared.Turn.{Turn as Turn_answer}
use Rattle.driver.specs.Quiet.{Page, page}
use Rattle.driver.specs.Scenes.{Scene, IsUnmade, Makes}
use Rattle.driver.specs.Turned.{Requests, Turned, WhyAlone}
use Rattle.driver.specs.Turned as turned
use Rattle.driver.specs.Turns.{Lacks}
use Rattle.driver.specs.Turns as to
use Rattle.converge_call.specs.declared.exit.Exit.{Exit}
use Rattle.converge_call.specs.declared.exit.Exit.TheVariants as exit
use Rattle.converge_call.specs.Notes.{Notes, IsUndone, HasDone, did, broke}
use Rattle.converge_call.specs.Runs.{TurnDoes, TurnBreaks, stepped, rested, stopped, lacking, unkept, worn_out}
use Rattle.converge_call.proofs.Noting.{append-none, done_as, done_on}

-- what a scene shows of state and history
abbrev pub page_of : Scene → Page
page_of it = page it.state it.entries

-- nothing has changed, so that the page is the same
same_page : (old new : Scene) → IsUnmade old new → page_of new ≡ page_of old
same_page old new un = ap (λ (s : StateData). page s new.entries) un.state
    ∙ ap (λ (es : List Entry). page old.state es) un.entries

-- a call that is told alone isn't a step that was made
stepped_not : {given : Answered} → WhyAlone turn.Stepped given → ⊥
stepped_not (turned.lacking is size) = cc
stepped_not (turned.failed is) = cc

idle_not : {given : Answered} → WhyAlone turn.Idle given → ⊥
idle_not (turned.lacking is size) = cc
idle_not (turned.failed is) = cc

lost_not : {given : Answered} → WhyAlone turn.Lost given → ⊥
lost_not (turned.lacking is size) = cc
lost_not (turned.failed is) = cc

worn_not : {given : Answered} → WhyAlone turn.Worn given → ⊥
worn_not (turned.lacking is size) = cc
worn_not (turned.failed is) = cc

module _ (number e : ℕ) (old new : Scene) (result : Result (Unit {0}) Exit) where
  abbrev TurnDone : Type 0
  TurnDone = HasDone (TurnDoes number e) (TurnBreaks e) (page_of old) (page_of new) result

  pub turn_stepped : Turned e old new turn.Stepped → result ≡ Ok tt → TurnDone
  turn_stepped (turned.quiet given cs es is quiet step lasts tied makes same) went =
      did es (stepped cs (record { given = given; made = step; lasts = lasts; tied = tied }) makes.state)
      makes.entries went
  turn_stepped (turned.called k given cs es rest is step lasts first makes told) went =
      did es (stepped cs (record { given = Answer given; made = step; lasts = lasts; tied = answer given }) makes.state)
      makes.entries went
  turn_stepped (turned.alone k given cs es rest why some step lasts first makes told) went = absurd (stepped_not why)
  turn_stepped (turned.unkept given cs es is quiet some step lasts tied un) went = cc
  turn_stepped (turned.unmade is un) went = cc
  turn_stepped (turned.idle is rests un) went = cc
  turn_stepped (turned.lost is lost un) went = cc
  turn_stepped (turned.worn is by un) went = cc

  pub turn_worn : Turned e old new turn.Worn → result ≡ Err exit.Worn → TurnDone
  turn_worn (turned.quiet given cs es is quiet step lasts tied makes same) ends = cc
  turn_worn (turned.called k given cs es rest is step lasts first makes told) ends = cc
  turn_worn (turned.alone k given cs es rest why some step lasts first makes told) ends = absurd (worn_not why)
  turn_worn (turned.unkept given cs es is quiet some step lasts tied un) ends = cc
  turn_worn (turned.unmade is un) ends = cc
  turn_worn (turned.idle is rests un) ends = cc
  turn_worn (turned.lost is lost un) ends = cc
  turn_worn (turned.worn is by un) ends =
      broke [] exit.Worn (worn_out by un.state refl refl) (un.entries ∙ sym (append-none old.entries)) ends

  -- the call that is told alone is a step which changes nothing
  lacks_alone : (why : Turn_answer) (k : Requests old.state e) (given : Answered) (cs : List Change)
      (es rest : List Entry) → WhyAlone why given → cs ≢ [] → Turn old.state e (Answer given) cs es
      → ¬ WearsOut old.state e (Answer given) → es ≡ call_entry e k.calls.row k.asked given ∷ rest
      → Makes [] (call_entry e k.calls.row k.asked given ∷ []) old new
      → Lacks e old.state new.state (call_entry e k.calls.row k.asked given ∷ []) why
  lacks_alone why k given cs es rest alone some step lasts first makes =
      to.alone (token_of k.calls.row) k.asked given alone
      (steps.unstored e given cs es (call_entry e k.calls.row k.asked given) step some lasts
      (record { rest = rest; entries = first; is_call = (token_of k.calls.row, k.asked, given, refl) }) refl refl)
      makes.state refl

  pub turn_lacking : Turned e old new turn.Memory → result ≡ Err exit.Memory → TurnDone
  turn_lacking (turned.quiet given cs es is quiet step lasts tied makes same) ends = cc
  turn_lacking (turned.called k given cs es rest is step lasts first makes told) ends = cc
  turn_lacking (turned.alone k given cs es rest why some step lasts first makes told) ends =
      broke _ exit.Memory (lacking (lacks_alone turn.Memory k given cs es rest why some step lasts first makes) refl)
      makes.entries ends
  turn_lacking (turned.unkept given cs es is quiet some step lasts tied un) ends = cc
  turn_lacking (turned.unmade is un) ends =
      broke [] exit.Memory (lacking (to.unmade (inl refl) un.state refl) refl)
      (un.entries ∙ sym (append-none old.entries)) ends
  turn_lacking (turned.idle is rests un) ends = cc
  turn_lacking (turned.lost is lost un) ends = cc
  turn_lacking (turned.worn is by un) ends = cc

  pub turn_unkept : Turned e old new turn.DiskFault → result ≡ Err exit.DiskFault → TurnDone
  turn_unkept (turned.quiet given cs es is quiet step lasts tied makes same) ends = cc
  turn_unkept (turned.called k given cs es rest is step lasts first makes told) ends = cc
  turn_unkept (turned.alone k given cs es rest why some step lasts first makes told) ends =
      broke _ exit.DiskFault
      (unkept (lacks_alone turn.DiskFault k given cs es rest why some step lasts first makes) refl) makes.entries ends
  turn_unkept (turned.unkept given cs es is quiet some step lasts tied un) ends =
      broke [] exit.DiskFault (unkept (to.unmade (inr refl) un.state refl) refl)
      (un.entries ∙ sym (append-none old.entries)) ends
  turn_unkept (turned.unmade is un) ends = cc
  turn_unkept (turned.idle is rests un) ends = cc
  turn_unkept (turned.lost is lost un) ends = cc
  turn_unkept (turned.worn is by un) ends = cc

  -- a note or none, on the page that the turn hasn't changed
  noted : (mid : Scene) (lost : Bool) → IsUnmade old mid
      → ((es : List Entry) → Notes (what.Turned e lost) old.state new.state es
      → TurnDoes number e old.state new.state es)
      → HasDone (Notes (what.Turned e lost)) IsUndone (page_of mid) (page_of new) result → TurnDone
  noted mid lost un does note =
      done_as (Notes (what.Turned e lost)) (TurnDoes number e) IsUndone (TurnBreaks e) (page_of old)
      (page_of new) result does
      (λ es why undone. lacking (to.unmade (inl refl) undone.state undone.none) undone.memory)
      (done_on (Notes (what.Turned e lost)) (page_of old) (page_of mid) (page_of new) result
      (same_page old mid un) note)

  pub turn_idle : (mid : Scene) → Turned e old mid turn.Idle
      → HasDone (Notes (what.Turned e false)) IsUndone (page_of mid) (page_of new) result → TurnDone
  turn_idle mid (turned.quiet given cs es is quiet step lasts tied makes same) note = cc
  turn_idle mid (turned.called k given cs es rest is step lasts first makes told) note = cc
  turn_idle mid (turned.alone k given cs es rest why some step lasts first makes told) note = absurd (idle_not why)
  turn_idle mid (turned.unkept given cs es is quiet some step lasts tied un) note = cc
  turn_idle mid (turned.unmade is un) note = cc
  turn_idle mid (turned.idle is rests un) note = noted mid false un (λ es it. rested rests it) note
  turn_idle mid (turned.lost is lost un) note = cc
  turn_idle mid (turned.worn is by un) note = cc

  pub turn_lost : (mid : Scene) → Turned e old mid turn.Lost
      → HasDone (Notes (what.Turned e true)) IsUndone (page_of mid) (page_of new) result → TurnDone
  turn_lost mid (turned.quiet given cs es is quiet step lasts tied makes same) note = cc
  turn_lost mid (turned.called k given cs es rest is step lasts first makes told) note = cc
  turn_lost mid (turned.alone k given cs es rest why some step lasts first makes told) note = absurd (lost_not why)
  turn_lost mid (turned.unkept given cs es is quiet some step lasts tied un) note = cc
  turn_lost mid (turned.unmade is un) note = cc
  turn_lost mid (turned.idle is rests un) note = cc
  turn_lost mid (turned.lost is lost un) note = noted mid true un (λ es it. stopped lost it) note
  turn_lost mid (turned.worn is by un) note = cc
