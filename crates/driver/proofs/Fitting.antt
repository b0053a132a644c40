-- What a crash leaves of a step is sound with the clouds from before its request, or with those behind it.
use Rattle.std.proofs.Common.{◌≡◌, ◌≢◌, List, [], ◌∷◌, ◌++◌, append-nil, append_assoc, arith, inl, inr, refl, sym, ap, ◌∙◌, subst}
use Rattle.std.specs.Prelude.{Contains, Option, ℕ, ◌⊎◌}
use Rattle.heat_plan.specs.declared.calls.Answered.{Answered}
use Rattle.provider.specs.Cloud.{Cloud, state_of}
use Rattle.core_state.specs.Changes.{applied}
use Rattle.core_state.specs.State.{StateData}
use Rattle.core_state.specs.declared.change.Change.{Change}
use Rattle.core_state.specs.declared.entry.Actor.TheVariants.{Main}
use Rattle.core_state.specs.declared.entry.Entry.{Entry}
use Rattle.step_relation.specs.Could.{Allows, IsPossible, could_of}
use Rattle.step_relation.specs.Given.{Answer, Faulted, Nothing, Prepared}
use Rattle.step_relation.specs.Laws.{SoundAt}
use Rattle.step_relation.specs.Opening.{Opening, first_of}
use Rattle.step_relation.specs.Orders.{Command}
use Rattle.step_relation.specs.Orders as orders
use Rattle.step_relation.specs.Runs.{Judges, Run, goes_on}
use Rattle.step_relation.specs.Sound.{Sound}
use Rattle.step_relation.specs.Steps.{Step}
use Rattle.step_relation.specs.Steps as steps
use Rattle.step_relation.specs.Turns.{Turn, WearsOut}
use Rattle.step_relation.specs.Writes.{call_entry, entry_of}
use Rattle.record_keeper.specs.Calls.{IsLeftOf}
use Rattle.record_keeper.specs.Calls as calls
use Rattle.record_keeper.specs.Shown.{Left}
use Rattle.history_laws.proofs.headline.Openings.{states_are_openings}
use Rattle.history_laws.proofs.tells.Silence.{AreUncalling, could-silent}
use Rattle.graph_laws.proofs.whole.Whole.{runs_sound}
use Rattle.book.specs.Kept.{registries}
use Rattle.book.specs.Recording.{StepsTo}
use Rattle.book.specs.Recording as recording
use Rattle.book.proofs.Growing.{silent_note}
use Rattle.book.proofs.Silent.{AreSilent, laid_silent, silent_uncalling}
use Rattle.book.proofs.Telling.{turn_calls, turn_silent}
use Rattle.driver.specs.Leaving.{FitsCloud, FitsEach}

-- a list that has something isn't empty
filled : {A : Type 0} (xs : List A) (x : A) → Contains xs x → xs ≢ []
filled xs x among is = let c = subst (λ (ys : List _). Contains ys x) is among in absurd (omega (arith, c.1))

command_silent : (s : StateData) (cs : List Change) (es : List Entry) → Command s cs es → AreSilent es
command_silent s cs es (orders.create name plan rollback k proper absent few room c d) = subst AreSilent (sym d)
    (laid_silent s _ _ _ k)
command_silent s cs es (orders.update st plan rollback k proper found kept room c d) = subst AreSilent (sym d)
    (laid_silent s _ _ _ k)
command_silent s cs es (orders.delete st k found c d) = subst AreSilent (sym d) (laid_silent s _ _ _ k)
command_silent s cs es (orders.cancel st k found forward running room c d) = subst AreSilent (sym d)
    (laid_silent s _ _ _ k)

module _ (o : Opening) (sound : Sound o [] o.state) where
  possible_by : (h : List Entry) (c : Cloud) → Allows (first_of o) h c → IsPossible o h
  possible_by h c allows t = filled (could_of o h t) (state_of c t) (allows t)

  -- a state that a run reaches is sound with each cloud that its history allows
  reached : (h : List Entry) (s : StateData) → Run registries o.state s h → (c : Cloud) → Allows (first_of o) h c
      → SoundAt s c
  reached h s run c allows =
      states_are_openings o h s c (runs_sound registries o s h sound run (possible_by h c allows)) allows

  -- entries without a call allow no other clouds
  quieter : (h es : List Entry) (c : Cloud) → AreUncalling es → Allows (first_of o) (h ++ es) c
      → Allows (first_of o) h c
  quieter h es c silent allows t =
      subst (λ (states : List _). Contains states (state_of c t)) (could-silent o h es t silent) (allows t)

  module _ (h : List Entry) (s : StateData) (run : Run registries o.state s h) where
    -- the state before a step that asks nobody
    unasked : (es : List Entry) (c : Cloud) → AreUncalling es → Allows (first_of o) (h ++ es) c → SoundAt s c
    unasked es c silent allows = reached h s run c (quieter h es c silent allows)

    -- the state before a step that was answered, behind its call
    asked : (judges : Judges) → Contains registries judges → (e : ℕ) (given : Answered) (cs : List Change)
        (es : List Entry) → Turn s e (Answer given) cs es → ¬ WearsOut s e (Answer given) → cs ≢ [] → (c : Cloud)
        → Allows (first_of o) (h ++ es) c → SoundAt s c
    asked judges among e given cs es t lasts some c allows =
        let k = turn_calls s e given cs es t in
        let call = call_entry e k.calls.row k.asked given in
        let step = steps.unstored e given cs es call t some lasts
        (record { rest = k.rest; entries = k.entries; is_call = (_, _, given, refl) }) refl refl in
        let alone : Run registries o.state s (h ++ call ∷ []) =
        goes_on judges s s [] h (call ∷ []) (h ++ call ∷ []) run step among tt tt refl refl in
        let split : h ++ es ≡ (h ++ call ∷ []) ++ k.rest =
        ap (λ (xs : List Entry). h ++ xs) k.entries ∙ sym (append_assoc h (call ∷ []) k.rest) in
        reached (h ++ call ∷ []) s alone c (quieter (h ++ call ∷ []) k.rest c (silent_uncalling k.rest k.silent)
        (subst (λ (xs : List Entry). Allows (first_of o) xs c) split allows))

    -- the state before a step, with a cloud that is allowed behind it
    held : (t : StateData) (es : List Entry) (cs : List Change) (step : Step s cs es) (judges : Judges)
        → Contains registries judges → (c : Cloud) → t ≡ applied cs s → SoundAt t c
        → Allows (first_of o) (h ++ es) c → SoundAt s c
    held t es cs (steps.command it lasts) judges among c is behind allows =
        unasked es c (silent_uncalling es (command_silent s cs es it)) allows
    held t es cs (steps.turn e Nothing it lasts) judges among c is behind allows =
        unasked es c (silent_uncalling es (turn_silent s e Nothing cs es (λ a q. cc) it)) allows
    held t es cs (steps.turn e (Prepared props effect) it lasts) judges among c is behind allows =
        unasked es c (silent_uncalling es (turn_silent s e (Prepared props effect) cs es (λ a q. cc) it)) allows
    held t es cs (steps.turn e (Faulted code path) it lasts) judges among c is behind allows =
        unasked es c (silent_uncalling es (turn_silent s e (Faulted code path) cs es (λ a q. cc) it)) allows
    held t es [] (steps.turn e (Answer given) it lasts) judges among c is behind allows =
        subst (λ (x : StateData). SoundAt x c) is behind
    held t es (x ∷ xs) (steps.turn e (Answer given) it lasts) judges among c is behind allows =
        asked judges among e given (x ∷ xs) es it lasts (λ none. cc) c allows
    held t es cs (steps.unstored e given lost all call it some lasts first none one) judges among c is behind allows =
        subst (λ (x : StateData). SoundAt x c)
        (is ∙ ap (λ (xs : List Change). applied xs s) none) behind
    held t es cs (steps.stop e live made one) judges among c is behind allows =
        unasked es c (subst AreUncalling (sym one) (tt, tt)) allows
    held t es cs (steps.enlist few below made one) judges among c is behind allows =
        unasked es c (subst AreUncalling (sym one) (tt, tt)) allows
    held t es cs (steps.restart count some few below made one) judges among c is behind allows =
        unasked es c (subst AreUncalling (sym one) (tt, tt)) allows
    held t es cs (steps.note it noted made one) judges among c is behind allows =
        unasked es c (subst AreUncalling (sym one) (silent_uncalling (entry_of Main it ∷ [])
        (silent_note it noted, tt))) allows
    held t es cs (steps.close made one) judges among c is behind allows =
        unasked es c (subst AreUncalling (sym one) (tt, tt)) allows

    -- a run with one step more, or none
    on : (t : StateData) (es : List Entry) → StepsTo h s t es → Run registries o.state t (h ++ es)
    on t es (recording.none same none) =
        subst (λ (x : StateData). Run registries o.state x (h ++ es)) (sym same)
        (subst (λ (xs : List Entry). Run registries o.state s (h ++ xs)) (sym none)
        (subst (λ (xs : List Entry). Run registries o.state s xs) (sym (append-nil h)) run))
    on t es (recording.one it) =
        goes_on it.judges s t it.changes h es (h ++ es) run it.step it.among it.tied it.once it.behind refl

    before_it : (t : StateData) (es : List Entry) (step : StepsTo h s t es) (c : Cloud) → SoundAt t c
        → Allows (first_of o) (h ++ es) c → SoundAt s c
    before_it t es (recording.none same none) c behind allows = subst (λ (x : StateData). SoundAt x c) same behind
    before_it t es (recording.one it) c behind allows =
        held t es it.changes it.step it.judges it.among c it.behind behind allows

    pub fits_of : (t : StateData) (es : List Entry) → StepsTo h s t es → (l : Option Left) → IsLeftOf s t l
        → FitsEach o h l ⊎ FitsEach o (h ++ es) l
    fits_of t es step l (calls.before is) =
        inl (λ c allows. subst (FitsCloud c) (sym is) (reached h s run c allows, tt))
    fits_of t es step l (calls.pending is) =
        inr (λ c allows. let now = reached (h ++ es) t (on t es step) c allows in
        subst (FitsCloud c) (sym is) (before_it t es step c now allows, now))
    fits_of t es step l (calls.behind is) =
        inr (λ c allows. subst (FitsCloud c) (sym is) (reached (h ++ es) t (on t es step) c allows, tt))

pub fits_left : (o : Opening) (h : List Entry) (s t : StateData) (es : List Entry) → Run registries o.state s h
    → StepsTo h s t es → Sound o [] o.state → (l : Option Left) → IsLeftOf s t l
    → FitsEach o h l ⊎ FitsEach o (h ++ es) l
fits_left o h s t es run step sound l left = fits_of o sound h s run t es step l left
