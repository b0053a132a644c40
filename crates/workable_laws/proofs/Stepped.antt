-- Each step leaves a workable state workable.
use Rattle.std.proofs.Common.{◌≡◌, ◌≢◌, inl, inr, ◌≤◌, ℕ, zero, suc, ◌+◌, List, [], ◌∷◌, ◌++◌, append_assoc, map}
use Rattle.std.proofs.Common.{nat_eq, not, Option, refl, sym, ap, subst, arith}
use Rattle.std.proofs.lemmas.List.Elements.{Contains-append_cases}
use Rattle.heat_plan.specs.declared.calls.Answered.{Answered}
use Rattle.mail_table.specs.declared.mail.Stage.TheVariants.{Asking, Polling}
use Rattle.core_state.specs.Changes.{applied, apply}
use Rattle.core_state.specs.State.{StateData}
use Rattle.core_state.specs.declared.change.Change.{Change}
use Rattle.core_state.specs.declared.change.Change.TheVariants.{Enlist, Stop}
use Rattle.core_state.specs.declared.entry.Actor.TheVariants.{Engine}
use Rattle.core_state.specs.declared.entry.Entry.{Entry}
use Rattle.core_state.specs.declared.entry.What.{What}
use Rattle.core_state.specs.declared.numbers.Numbers.{Numbers}
use Rattle.core_state.specs.declared.stack.Stack.{Stack}
use Rattle.step_relation.specs.Asks.{Calls}
use Rattle.step_relation.specs.Given.{Answer, Given}
use Rattle.step_relation.specs.Moves.{Move, ask_begun, ask_failed, poll_failed, poll_gone, poll_ready, poll_waits}
use Rattle.step_relation.specs.Commands.{laid_changes}
use Rattle.step_relation.specs.Orders.{Command, cancel, create, delete, plan_back, rollback_sets, update}
use Rattle.step_relation.specs.Steps.{BeginsWithCall, IsNote, Step, close, command, engines_from, enlist, note, notes}
use Rattle.step_relation.specs.Steps.{past_engines, previews, ran, restart, restart_changes, shows, stop, turn, turned, unstored}
use Rattle.step_relation.specs.Turns.{Turn}
use Rattle.step_relation.specs.Opening.{Opening}
use Rattle.history_laws.proofs.tables.Frame.{applied-append}
use Rattle.history_laws.proofs.tells.Silence.{IsUncalling}
use Rattle.history_laws.proofs.agrees.Called.{filtered, only}
use Rattle.next_laws.proofs.Turns.{ByMove, Whole, by_move, follows, stops}
use Rattle.next_laws.specs.Found.{asks, polls}
use Rattle.workable_laws.specs.Laws.{StepsKeepWorkable}
use Rattle.workable_laws.specs.Workable.{Workable}
use Rattle.workable_laws.proofs.Applied.{enlist_apply, restart_apply}
use Rattle.workable_laws.proofs.Applying.{once_applied}
use Rattle.workable_laws.proofs.Called.{called_workable}
use Rattle.workable_laws.proofs.Drawing.{AllFit}
use Rattle.workable_laws.proofs.Laid.{laid_workable}
use Rattle.workable_laws.proofs.Moved.{move_workable}
use Rattle.workable_laws.proofs.Quiet.{IsSame, same_workable}
use Rattle.step_relation.specs.Asks as call
use Rattle.core_state.specs.declared.change.Change.TheVariants as change_to
use Rattle.heat_plan.specs.declared.calls.Request.TheVariants as request

-- engines that stop and start
data AreEngines (n : ℕ) : List Change → Type 0 where
  no_more : AreEngines n []
  stops_one : (e : ℕ) (cs : List Change) → AreEngines n cs → AreEngines n (Stop e ∷ cs)
  starts_one : (e : ℕ) (cs : List Change) → n ≤ e → AreEngines n cs → AreEngines n (Enlist e ∷ cs)

engines_same : (n : ℕ) (cs : List Change) → AreEngines n cs → (s : StateData) → s.next.engine ≤ n → (t : StateData)
    → IsSame s t → IsSame s (applied cs t)
engines_same n _ no_more s le t same = same
engines_same n _ (stops_one e cs more) s le t same = engines_same n cs more s le (apply (Stop e) t) (record {
  rows = same.rows;
  jobs = same.jobs;
  released = same.released;
  live = λ f c. same.live f (filtered (λ x. not (nat_eq x e)) f t.live c).0;
})
engines_same n _ (starts_one e cs high more) s le t same = engines_same n cs more s le (apply (Enlist e) t) (record {
  rows = same.rows;
  jobs = same.jobs;
  released = same.released;
  live = λ f c. elim (Contains-append_cases t.live (e ∷ []) f c)
      [ inl old ↦ same.live f old | inr new ↦ inr (let is = only e f new in omega (arith, is, high, le)) ];
})

stops_all : (n : ℕ) (es : List ℕ) (rest : List Change) → AreEngines n rest → AreEngines n (map Stop es ++ rest)
stops_all n [] rest more = more
stops_all n (e ∷ es) rest more = stops_one e (map Stop es ++ rest) (stops_all n es rest more)

starts_all : (n first count : ℕ) → n ≤ first → AreEngines n (map Enlist (engines_from first count))
starts_all n first zero le = no_more
starts_all n first (suc count) le = starts_one first _ le (starts_all n (first + 1) count (omega arith))

stops_fit : (s : StateData) (next : Numbers) (es : List ℕ) (rest : List Change) → AllFit s next rest
    → AllFit s next (map Stop es ++ rest)
stops_fit s next [] rest fits = fits
stops_fit s next (e ∷ es) rest fits = (tt, stops_fit s next es rest fits)

starts_fit : (s : StateData) (next : Numbers) (first count : ℕ) → first + count ≤ next.engine
    → AllFit s next (map Enlist (engines_from first count))
starts_fit s next first zero le = tt
starts_fit s next first (suc count) le = (omega (arith, le), starts_fit s next (first + 1) count (omega (arith, le)))

note_silent : (it : What) → IsNote it → IsUncalling it
note_silent _ (shows it stack) = tt
note_silent _ (notes line code path) = tt
note_silent _ (ran idle turns) = tt
note_silent _ (turned e lost) = tt
note_silent _ (previews stack forecast) = tt

module _ (o : Opening) (h : List Entry) (s : StateData) (w : Workable o h s) where
  abbrev Goal : List Change → List Entry → Type 0
  Goal cs es = Workable o (h ++ es) (applied cs s)

  by_case : (cs ds : List Change) (es fs : List Entry) → cs ≡ ds → es ≡ fs → Goal ds fs → Goal cs es
  by_case cs ds es fs c d goal = subst (λ (x : List Change). Goal x es) (sym c)
      (subst (λ (y : List Entry). Goal ds y) (sym d) goal)

  command_workable : (cs : List Change) (es : List Entry) → Command s cs es → Goal cs es
  command_workable cs es (create name plan rollback k p none few room c d) =
      by_case cs _ es _ c d (laid_workable o h s w name plan.items _ k)
  command_workable cs es (update st plan rollback k p at act room c d) =
      by_case cs _ es _ c d (laid_workable o h s w st.name plan.items _ k)
  command_workable cs es (delete st k at c d) = by_case cs _ es _ c d (laid_workable o h s w st.name [] _ k)
  command_workable cs es (cancel st k at forward under room c d) =
      by_case cs _ es _ c d (laid_workable o h s w st.name _ _ k)

  turn_workable : (e : ℕ) (given : Given) (cs : List Change) (es : List Entry) → Turn s e given cs es → Goal cs es
  turn_workable e given cs es t = let m = by_move s e given cs es t in by m m.whole where
    first : (m : ByMove s e given cs es) → Goal m.first m.firsts
    first m = move_workable o h s w e given m.failed m.first m.firsts m.move

    by : (m : ByMove s e given cs es) → Whole s e m.failed m.first m.firsts cs es → Goal cs es
    by m (stops p c d) = by_case cs _ es _ c d (first m)
    by m (follows st last lasts is due k c d) =
        let more = laid_workable o (h ++ m.firsts) (applied m.first s) (first m) k.failed.name _ _ k.lays in
        let told = subst (λ (x : List Change). Workable o ((h ++ m.firsts) ++ lasts) (applied x (applied m.first s)))
        (sym k.changes)
        (subst (λ (y : List Entry). Workable o ((h ++ m.firsts) ++ y)
        (applied (laid_changes (applied m.first s) k.failed.name (plan_back (applied m.first s) k.failed).items
        (rollback_sets (applied m.first s) k.failed (Engine e)) k.lays) (applied m.first s))) (sym k.entries) more) in
        by_case cs _ es _ c d (subst (λ (x : StateData). Workable o (h ++ (m.firsts ++ lasts)) x)
        (sym (applied-append m.first last s))
        (subst (λ (y : List Entry). Workable o y (applied last (applied m.first s)))
        (append_assoc h m.firsts lasts) told))

  -- a call alone is told
  same_call : (e : ℕ) (call_ : Entry) (es rest : List Entry) (c : Entry) → BeginsWithCall es call_
      → es ≡ c ∷ rest → call_ ≡ c
  same_call e call_ es rest c b is = let entries = b.entries in cc

  called : (e : ℕ) (given : Answered) (failed : Option Stack) (cs : List Change) (es : List Entry) (call_ : Entry)
      → Move s e (Answer given) failed cs es
      → BeginsWithCall es call_ → Workable o (h ++ call_ ∷ []) s
  called e given failed cs es call_ (ask_begun k asked _ _ a c d) b =
      subst (λ (x : Entry). Workable o (h ++ x ∷ []) s) (sym (same_call e call_ es _ _ b d))
      (called_workable o h s w e Asking k asked (asks asked a) _ [] tt)
  called e given failed cs es call_ (ask_failed k asked g reason ls _ _ _ a x f c d) b =
      subst (λ (x : Entry). Workable o (h ++ x ∷ []) s) (sym (same_call e call_ es _ _ b d))
      (called_workable o h s w e Asking k asked (asks asked a) _ [] tt)
  called e given failed cs es call_ (poll_waits k asked _ _ a c d) b =
      subst (λ (x : Entry). Workable o (h ++ x ∷ []) s) (sym (same_call e call_ es _ _ b d))
      (called_workable o h s w e Polling k asked (polls asked a) _ [] tt)
  called e given failed cs es call_ (poll_ready k facts _ _ a c d) b =
      subst (λ (x : Entry). Workable o (h ++ x ∷ []) s) (sym (same_call e call_ es _ _ b d))
      (called_workable o h s w e Polling k request.Poll (polls request.Poll (call.polls a)) _ [] tt)
  called e given failed cs es call_ (poll_gone k _ _ a c d) b =
      subst (λ (x : Entry). Workable o (h ++ x ∷ []) s) (sym (same_call e call_ es _ _ b d))
      (called_workable o h s w e Polling k request.Gone (polls request.Gone (call.looks a)) _ [] tt)
  called e given failed cs es call_ (poll_failed k asked g reason ls _ _ _ a x f c d) b =
      subst (λ (x : Entry). Workable o (h ++ x ∷ []) s) (sym (same_call e call_ es _ _ b d))
      (called_workable o h s w e Polling k asked (polls asked a) _ [] tt)

  -- the call of a whole turn is its move's
  move_begins : (first last : List Entry) (es : List Entry) (call_ : Entry) → es ≡ first ++ last → first ≢ []
      → BeginsWithCall es call_ → BeginsWithCall first call_
  move_begins [] last es call_ is some b = absurd (some refl)
  move_begins (x ∷ first) last es call_ is some b = let entries = b.entries in let same : x ≡ call_ = cc in
      record { rest = first; entries = ap (λ (y : Entry). y ∷ first) same; is_call = b.is_call }

  pub alone : (e : ℕ) (given : Answered) (cs : List Change) (es : List Entry) (call_ : Entry)
      → Turn s e (Answer given) cs es → BeginsWithCall es call_
      → Workable o (h ++ call_ ∷ []) s
  alone e given cs es call_ t b = let m = by_move s e (Answer given) cs es t in by m m.whole where
    by : (m : ByMove s e (Answer given) cs es) → Whole s e m.failed m.first m.firsts cs es
        → Workable o (h ++ call_ ∷ []) s
    by m (stops p c d) = called e given m.failed m.first m.firsts call_ m.move
        (subst (λ (l : List Entry). BeginsWithCall l call_) d b)
    by m (follows st last lasts is due k c d) =
        called e given m.failed m.first m.firsts call_ m.move
        (move_begins m.firsts lasts es call_ d (told e given m.failed m.first m.firsts m.move) b) where
          told : (e : ℕ) (given : Answered) (f : Option Stack) (xs : List Change) (ys : List Entry)
              → Move s e (Answer given) f xs ys → ys ≢ []
          told e given f xs ys (ask_begun k asked _ _ a c d) is = cc
          told e given f xs ys (ask_failed k asked g reason ls _ _ _ a x f' c d) is = cc
          told e given f xs ys (poll_waits k asked _ _ a c d) is = cc
          told e given f xs ys (poll_ready k facts _ _ a c d) is = cc
          told e given f xs ys (poll_gone k _ _ a c d) is = cc
          told e given f xs ys (poll_failed k asked g reason ls _ _ _ a x f' c d) is = cc

  pub step_workable : (cs : List Change) (es : List Entry) → Step s cs es → Goal cs es
  step_workable cs es (command it fits) = command_workable cs es it
  step_workable cs es (turn e given it fits) = turn_workable e given cs es it
  step_workable cs es (unstored e given lost all call_ it some fits first c d) =
      by_case cs _ es _ c d (alone e given lost all call_ it first)
  step_workable cs es (stop e live c d) = by_case cs _ es _ c d
      (same_workable o h s w (Stop e ∷ []) _ (tt, tt) (tt, tt)
      (engines_same s.next.engine (Stop e ∷ []) (stops_one e [] no_more) s (omega arith) s same_now)
      (once_applied (Stop e ∷ []) s (live, tt) w.once))
    where
      same_now : IsSame s s
      same_now = record { rows = refl; jobs = refl; released = refl; live = λ f x. inl x }
  step_workable cs es (enlist few below c d) = by_case cs _ es _ c d
      (same_workable o h s w (change_to.Numbers (past_engines s.next 1) ∷ Enlist s.next.engine ∷ []) _ (tt, tt) (
        record {
          stack = omega arith;
          trav = omega arith;
          row = omega arith;
          engine = omega arith;
          letter = omega arith;
        },
        (omega arith, tt),
      )
      (engines_same s.next.engine (Enlist s.next.engine ∷ []) (starts_one s.next.engine [] (omega arith) no_more) s
      (omega arith)
      (apply (change_to.Numbers (past_engines s.next 1)) s)
      (record { rows = refl; jobs = refl; released = refl; live = λ f x. inl x }))
      (once_applied (change_to.Numbers (past_engines s.next 1) ∷ Enlist s.next.engine ∷ []) s
      (enlist_apply s w.drawn.live) w.once))
  step_workable cs es (restart count some few below c d) = by_case cs _ es _ c d
      (same_workable o h s w (restart_changes s count) _ (tt, tt) (
        record {
          stack = omega arith;
          trav = omega arith;
          row = omega arith;
          engine = omega arith;
          letter = omega arith;
        },
        stops_fit s (past_engines s.next count) s.live (map Enlist (engines_from s.next.engine count))
            (starts_fit s (past_engines s.next count) s.next.engine count (omega arith)),
      )
      (engines_same s.next.engine _
      (stops_all s.next.engine s.live _ (starts_all s.next.engine s.next.engine count (omega arith))) s (omega arith)
      (apply (change_to.Numbers (past_engines s.next count)) s)
      (record { rows = refl; jobs = refl; released = refl; live = λ f x. inl x }))
      (once_applied (restart_changes s count) s (restart_apply s count w.drawn.live w.once) w.once))
  step_workable cs es (note it noted c d) = by_case cs _ es _ c d
      (same_workable o h s w [] _ (note_silent it noted, tt) tt
      (record { rows = refl; jobs = refl; released = refl; live = λ f x. inl x }) w.once)
  step_workable cs es (close c d) = by_case cs _ es _ c d
      (same_workable o h s w [] _ (tt, tt) tt
      (record { rows = refl; jobs = refl; released = refl; live = λ f x. inl x }) w.once)

pub steps_keep : StepsKeepWorkable
steps_keep o h s cs es w step = step_workable o h s w cs es step
