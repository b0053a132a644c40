-- What a book keeps, and what a crash may leave, through a turn.
use Rattle.std.proofs.Common.{List, [], append-nil, refl, subst, sym, ℕ, ◌++◌, ◌∙◌, ◌∷◌, ◌≡◌}
use Rattle.std.specs.Prelude.{None, Option, ◌≢◌}
use Rattle.heat_plan.specs.declared.calls.Answered.{Answered}
use Rattle.provider.proofs.Lists.{here}
use Rattle.provider.proofs.States.{state-stays}
use Rattle.provider.specs.Changes.{IsAsBefore}
use Rattle.provider.specs.Cloud.{Cloud, state_of}
use Rattle.core_state.specs.Changes.{applied}
use Rattle.core_state.specs.State.{StateData}
use Rattle.core_state.specs.declared.change.Change.{Change}
use Rattle.core_state.specs.declared.entry.Actor.TheVariants.{Engine}
use Rattle.core_state.specs.declared.entry.Entry.{Entry}
use Rattle.step_relation.specs.Could.{Allows}
use Rattle.step_relation.specs.Given.{Answer}
use Rattle.step_relation.specs.Laws.{opening_at}
use Rattle.step_relation.specs.Rows.{token_of}
use Rattle.step_relation.specs.Runs as tied
use Rattle.step_relation.specs.Runs.{IsTied}
use Rattle.step_relation.specs.Steps as step
use Rattle.step_relation.specs.Steps.{Step}
use Rattle.step_relation.specs.Turns.{Turn, WearsOut}
use Rattle.step_relation.specs.Writes.{call_entry}
use Rattle.book.specs.Behind.{tried_by}
use Rattle.book.specs.Kept.{IsKept, unjudged}
use Rattle.book.specs.Recording.{StepsTo, none, one}
use Rattle.book.specs.Scenes.{Scene}
use Rattle.book.specs.Turned.{Requests, Turned, WhyAlone, failed, lacking}
use Rattle.book.specs.Turned as turned
use Rattle.book.specs.declared.halting.Halt.{Halt}
use Rattle.book.specs.declared.turning.Turn.TheVariants.{DiskFault}
use Rattle.book.specs.declared.turning.Turn.{Turn as Turn_answer}
use Rattle.book.proofs.Growing.{grows_by_call, grows_silently, stays, unasked}
use Rattle.book.proofs.Histories.{call_allows, silence_allows}
use Rattle.book.proofs.Silent.{AreSilent, calls_of-silent, silent_uncalling}
use Rattle.book.proofs.Telling.{turn_calls, turn_silent}

-- behind the call nothing else is called
rest_silent : (s : StateData) (e : ℕ) (given : Answered) (cs : List Change) (es rest : List Entry) (call : Entry)
    → Turn s e (Answer given) cs es → es ≡ call ∷ rest → AreSilent rest
rest_silent s e given cs es rest call t is =
    let first = turn_calls s e given cs es t in
    subst AreSilent (rests (call_entry e first.calls.row first.asked given) call first.rest rest
    (sym first.entries ∙ is)) first.silent
  where
    rests : (a b : Entry) (xs ys : List Entry) → a ∷ xs ≡ b ∷ ys → xs ≡ ys
    rests a b xs ys h = cc

-- a call that is told alone is a step
abbrev pub alone_step : (s : StateData) (e : ℕ) (k : Requests s e) (given : Answered) (cs : List Change) (es rest : List Entry)
    → cs ≢ [] → Turn s e (Answer given) cs es → ¬ WearsOut s e (Answer given)
    → es ≡ call_entry e k.calls.row k.asked given ∷ rest → Step s [] (call_entry e k.calls.row k.asked given ∷ [])
alone_step s e k given cs es rest some t lasts first =
    step.unstored e given cs es (call_entry e k.calls.row k.asked given) t some lasts
    (record { rest = rest; entries = first; is_call = (token_of k.calls.row, k.asked, given, refl) }) refl refl

module _ (first : StateData) (origin : Cloud) where
  pub kept_turned : (e : ℕ) (old new : Scene) (result : Turn_answer) (halt : Option Halt)
      → IsKept first origin old.state old.entries old.cloud None
      → Turned e old new result → IsKept first origin new.state new.entries new.cloud halt
  kept_turned e old new result halt kept (turned.quiet given cs es is quiet t lasts its makes same) =
      let silent = turn_silent old.state e given cs es quiet t in
      grows_silently first origin _ _ _ _ es cs _ _ halt kept (step.turn e given t lasts) its tt
      (silent_uncalling es silent) (calls_of-silent es silent)
      makes.state makes.entries (subst (λ (c : Cloud). IsAsBefore old.cloud c) (sym same) (unasked old.cloud))
  kept_turned e old new result halt kept (turned.called k given cs es rest is t lasts entries makes told) =
      let silent = rest_silent old.state e given cs es rest (call_entry e k.calls.row k.asked given) t entries in
      grows_by_call first origin _ _ _ _ es rest cs _ _ halt (Engine e) (token_of k.calls.row) k.asked given kept
      (step.turn e (Answer given) t lasts) (tied.answer given) tt entries
      (silent_uncalling rest silent) (calls_of-silent rest silent)
      makes.state makes.entries told.answers told.trace
  kept_turned e old new result halt kept (turned.alone k given cs es rest why some t lasts entries makes told) =
      grows_by_call first origin _ _ _ _ (call_entry e k.calls.row k.asked given ∷ []) [] [] _ _ halt (Engine e)
      (token_of k.calls.row) k.asked given kept
      (alone_step old.state e k given cs es rest some t lasts entries) tt tt
      refl tt refl makes.state makes.entries told.answers told.trace
  kept_turned e old new result halt kept (turned.unkept given cs es is quiet some t lasts its same) =
      stays first origin _ _ _ _ _ _ halt kept same.state same.entries same.cloud
  kept_turned e old new result halt kept (turned.unmade is same) =
      stays first origin _ _ _ _ _ _ halt kept same.state same.entries same.cloud
  kept_turned e old new result halt kept (turned.idle is none_ same) =
      stays first origin _ _ _ _ _ _ halt kept same.state same.entries same.cloud
  kept_turned e old new result halt kept (turned.lost is none_ same) =
      stays first origin _ _ _ _ _ _ halt kept same.state same.entries same.cloud
  kept_turned e old new result halt kept (turned.worn is by same) =
      stays first origin _ _ _ _ _ _ halt kept same.state same.entries same.cloud

-- all that was told, or would have been
abbrev pub alone_told : {result : Turn_answer} {given : Answered} → WhyAlone result given → Entry → List Entry → List Entry
alone_told (lacking is size) call es = call ∷ []
alone_told (failed is) call es = es

abbrev pub told_by : {e : ℕ} {old new : Scene} {result : Turn_answer} → Turned e old new result → List Entry
told_by (turned.quiet given cs es is quiet t lasts its makes same) = es
told_by (turned.called k given cs es rest is t lasts entries makes told) = es
told_by {e = e} (turned.alone k given cs es rest why some t lasts entries makes told) =
    alone_told why (call_entry e k.calls.row k.asked given) es
told_by (turned.unkept given cs es is quiet some t lasts its same) = es
told_by (turned.unmade is same) = []
told_by (turned.idle is none_ same) = []
told_by (turned.lost is none_ same) = []
told_by (turned.worn is by same) = []

-- a step under the registry that judges nothing
pub step_to : (h : List Entry) (s : StateData) (cs : List Change) (es : List Entry) (it : Step s cs es)
    → tied.IsTiedStep unjudged s cs es it → tied.ClosesOnce h s cs es it → StepsTo h s (applied cs s) es
step_to h s cs es it its once = one (record {
  changes = cs;
  step = it;
  judges = unjudged;
  among = here unjudged unjudged [] refl;
  tied = its;
  once = once;
  behind = refl;
})

pub turned_step : (e : ℕ) (old new : Scene) (result : Turn_answer) (it : Turned e old new result)
    → StepsTo old.entries old.state (applied (tried_by it) old.state) (told_by it)
turned_step e old new result (turned.quiet given cs es is quiet t lasts its makes same) =
    step_to old.entries old.state cs es (step.turn e given t lasts) its tt
turned_step e old new result (turned.called k given cs es rest is t lasts entries makes told) =
    step_to old.entries old.state cs es (step.turn e (Answer given) t lasts) (tied.answer given) tt
turned_step e old new result (turned.alone k given cs es rest (lacking is size) some t lasts entries makes told) =
    step_to old.entries old.state [] (call_entry e k.calls.row k.asked given ∷ [])
    (alone_step old.state e k given cs es rest some t lasts entries) tt tt
turned_step e old new result (turned.alone k given cs es rest (failed is) some t lasts entries makes told) =
    step_to old.entries old.state cs es (step.turn e (Answer given) t lasts) (tied.answer given) tt
turned_step e old new result (turned.unkept given cs es is quiet some t lasts its same) =
    step_to old.entries old.state cs es (step.turn e given t lasts) its tt
turned_step e old new result (turned.unmade is same) = none refl refl
turned_step e old new result (turned.idle is none_ same) = none refl refl
turned_step e old new result (turned.lost is none_ same) = none refl refl
turned_step e old new result (turned.worn is by same) = none refl refl

-- unless the keeper failed, it was made
pub turned_state : (e : ℕ) (old new : Scene) (result : Turn_answer) (it : Turned e old new result)
    → result ≢ DiskFault → new.state ≡ applied (tried_by it) old.state
turned_state e old new result (turned.quiet given cs es is quiet t lasts its makes same) fine = makes.state
turned_state e old new result (turned.called k given cs es rest is t lasts entries makes told) fine = makes.state
turned_state e old new result (turned.alone k given cs es rest (lacking is size) some t lasts entries makes told) fine =
    makes.state
turned_state e old new result (turned.alone k given cs es rest (failed is) some t lasts entries makes told) fine =
    absurd (fine is)
turned_state e old new result (turned.unkept given cs es is quiet some t lasts its same) fine = absurd (fine is)
turned_state e old new result (turned.unmade is same) fine = same.state
turned_state e old new result (turned.idle is none_ same) fine = same.state
turned_state e old new result (turned.lost is none_ same) fine = same.state
turned_state e old new result (turned.worn is by same) fine = same.state

pub turned_told : (e : ℕ) (old new : Scene) (result : Turn_answer) (it : Turned e old new result)
    → result ≢ DiskFault → new.entries ≡ old.entries ++ told_by it
turned_told e old new result (turned.quiet given cs es is quiet t lasts its makes same) fine = makes.entries
turned_told e old new result (turned.called k given cs es rest is t lasts entries makes told) fine = makes.entries
turned_told e old new result (turned.alone k given cs es rest (lacking is size) some t lasts entries makes told) fine =
    makes.entries
turned_told e old new result (turned.alone k given cs es rest (failed is) some t lasts entries makes told) fine =
    absurd (fine is)
turned_told e old new result (turned.unkept given cs es is quiet some t lasts its same) fine = absurd (fine is)
turned_told e old new result (turned.unmade is same) fine = same.entries ∙ sym (append-nil old.entries)
turned_told e old new result (turned.idle is none_ same) fine = same.entries ∙ sym (append-nil old.entries)
turned_told e old new result (turned.lost is none_ same) fine = same.entries ∙ sym (append-nil old.entries)
turned_told e old new result (turned.worn is by same) fine = same.entries ∙ sym (append-nil old.entries)

-- and the cloud is in a state that the history with the whole step allows
module _ (first : StateData) (origin : Cloud) (old : Scene)
    (allows : Allows (state_of origin) old.entries old.cloud) where
  unasked_allows : (new : Scene) (es : List Entry) → AreSilent es → IsAsBefore old.cloud new.cloud
      → Allows (state_of origin) (old.entries ++ es) new.cloud
  unasked_allows new es silent same = silence_allows (opening_at first origin) old.entries old.cloud new.cloud allows es
      (silent_uncalling es silent) (λ token. state-stays token old.cloud new.cloud same.stays)

  pub turned_allows : (e : ℕ) (new : Scene) (result : Turn_answer) (it : Turned e old new result)
      → Allows (state_of origin) (old.entries ++ told_by it) new.cloud
  turned_allows e new result (turned.quiet given cs es is quiet t lasts its makes same) =
      unasked_allows new es (turn_silent old.state e given cs es quiet t)
      (subst (λ (c : Cloud). IsAsBefore old.cloud c) (sym same) (unasked old.cloud))
  turned_allows e new result (turned.called k given cs es rest is t lasts entries makes told) =
      subst (λ (xs : List Entry). Allows (state_of origin) (old.entries ++ xs) new.cloud) (sym entries)
      (call_allows (opening_at first origin) old.entries old.cloud new.cloud allows rest (Engine e)
      (token_of k.calls.row) k.asked given
      (silent_uncalling rest (rest_silent old.state e given cs es rest _ t entries)) told.answers)
  turned_allows e new result (turned.alone k given cs es rest (lacking is size) some t lasts entries makes told) =
      call_allows (opening_at first origin) old.entries old.cloud new.cloud allows [] (Engine e)
      (token_of k.calls.row) k.asked given tt told.answers
  turned_allows e new result (turned.alone k given cs es rest (failed is) some t lasts entries makes told) =
      subst (λ (xs : List Entry). Allows (state_of origin) (old.entries ++ xs) new.cloud) (sym entries)
      (call_allows (opening_at first origin) old.entries old.cloud new.cloud allows rest (Engine e)
      (token_of k.calls.row) k.asked given
      (silent_uncalling rest (rest_silent old.state e given cs es rest _ t entries)) told.answers)
  turned_allows e new result (turned.unkept given cs es is quiet some t lasts its same) =
      unasked_allows new es (turn_silent old.state e given cs es quiet t) same.cloud
  turned_allows e new result (turned.unmade is same) = unasked_allows new [] tt same.cloud
  turned_allows e new result (turned.idle is none_ same) = unasked_allows new [] tt same.cloud
  turned_allows e new result (turned.lost is none_ same) = unasked_allows new [] tt same.cloud
  turned_allows e new result (turned.worn is by same) = unasked_allows new [] tt same.cloud
