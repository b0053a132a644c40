-- Each move of an engine leaves a workable state workable.
use Rattle.std.proofs.Common.{◌≡◌, ◌≢◌, inl, inr, ◌<◌, ℕ, ◌+◌, List, [], ◌∷◌, ◌++◌, length, Option, Some, None, refl}
use Rattle.std.proofs.Common.{sym, ap, subst, arith}
use Rattle.std.specs.Prelude.{Contains, IsSome}
use Rattle.heat_plan.specs.declared.phase.Act.{Act}
use Rattle.heat_plan.specs.declared.phase.Act.TheVariants.{Create, Delete, Init, Rollback, Update}
use Rattle.row_table.specs.declared.row.Row.{Row}
use Rattle.mail_table.specs.declared.mail.Job.{Job}
use Rattle.mail_table.specs.declared.mail.Letter.{Letter}
use Rattle.mail_table.specs.declared.mail.Stage.TheVariants.{Asking, Polling}
use Rattle.core_state.specs.Changes.{applied}
use Rattle.core_state.specs.State.{StateData, stack_at}
use Rattle.core_state.specs.declared.change.Change.{Change}
use Rattle.core_state.specs.declared.change.Change.TheVariants.{Drop}
use Rattle.core_state.specs.declared.entry.Actor.TheVariants.{Engine}
use Rattle.core_state.specs.declared.entry.Cause.{Cause}
use Rattle.core_state.specs.declared.entry.Entry.{Entry}
use Rattle.core_state.specs.declared.entry.MailWrite.{MailWrite}
use Rattle.core_state.specs.declared.entry.Why.{Why}
use Rattle.core_state.specs.declared.stack.Stack.{Stack}
use Rattle.step_relation.specs.Asks.{Falls, Polls, cause_at, failed_entries, marked, marks, overrun}
use Rattle.step_relation.specs.Given.{Given}
use Rattle.step_relation.specs.Moves.{Move, ask_begun, ask_failed, begin_failed, begin_faulted, begin_in_place}
use Rattle.step_relation.specs.Moves.{begin_init, begin_overrun, begin_replaced, begin_resumed, begin_same}
use Rattle.step_relation.specs.Moves.{clean_deleted, clean_gone, clean_init, clean_kept, clean_retained, clean_stuck}
use Rattle.step_relation.specs.Moves.{finish, finish_last, finish_overrun, poll_failed, poll_gone, poll_ready}
use Rattle.step_relation.specs.Moves.{poll_waits, take_dropped, take_free, take_stolen, takeover_fresh}
use Rattle.step_relation.specs.Moves.{takeover_overrun}
use Rattle.step_relation.specs.Takes.{Relays, relayed_letter}
use Rattle.step_relation.specs.Begins.{left_entries}
use Rattle.step_relation.specs.Takes.{released_entries}
use Rattle.step_relation.specs.Writes.{failed_mark, lock_writes, mail_entry, rows_entry, unlock_writes}
use Rattle.step_relation.specs.Opening.{Opening}
use Rattle.history_laws.proofs.tells.Silence.{AreUncalling}
use Rattle.next_laws.proofs.Listings.{cons_cases, no_member}
use Rattle.next_laws.specs.Found.{asks, polls}
use Rattle.workable_laws.specs.Workable.{IsCalledAct, Workable, creates, deletes, ready, updates}
use Rattle.workable_laws.proofs.Begun.{asked_workable, just_left, left_workable, passed_workable, purged_workable}
use Rattle.workable_laws.proofs.Begun.{replaced_workable, resumed_workable, retained_workable, same_workable}
use Rattle.workable_laws.proofs.Called.{begun_workable, called_workable, failed_workable, gone_workable, ready_workable}
use Rattle.workable_laws.proofs.Ends.{fresh_some, finish_workable, free_workable, last_workable, released_workable}
use Rattle.workable_laws.proofs.Ends.{resends_under, stolen_workable}
use Rattle.workable_laws.proofs.Own.{dead_begun, like_live}
use Rattle.workable_laws.proofs.Quiet.{IsSame}
use Rattle.step_relation.specs.Asks as call
use Rattle.workable_laws.proofs.Quiet as quiet
use Rattle.heat_plan.specs.declared.calls.Answered.TheVariants as answer
use Rattle.heat_plan.specs.declared.calls.Request.TheVariants as request

-- what the moves tell beside their calls
failed_silent : (e : ℕ) (r : Row) (ls : List Letter) (f : Option Stack) (why : Why)
    → AreUncalling (failed_entries e r ls f why)
failed_silent e r ls None why = (tt, (tt, tt))
failed_silent e r ls (Some st) why = (tt, (tt, (tt, tt)))

left_silent : (e : ℕ) (r : Row) (f : Option Stack) (c : Cause)
    → AreUncalling (left_entries e r ++ failed_mark (Engine e) f c)
left_silent e r None c = (tt, (tt, tt))
left_silent e r (Some st) c = (tt, (tt, (tt, tt)))

take_silent : (e : ℕ) (row : Option Row) (x : MailWrite) (ms : List MailWrite)
    → AreUncalling (rows_entry (Engine e) (lock_writes row e) ++ mail_entry (Engine e) (x ∷ ms))
take_silent e None x ms = (tt, tt)
take_silent e (Some r) x ms = (tt, (tt, tt))

release_silent : (e f : ℕ) (row : Option Row) (ls : List Letter) → AreUncalling (released_entries e f row ls)
release_silent e f None ls = (tt, tt)
release_silent e f (Some r) ls = (tt, (tt, tt))

finish_silent : (e : ℕ) (row : Option Row) (x : MailWrite) (ms : List MailWrite) (mark : List Entry) → AreUncalling mark
    → AreUncalling (rows_entry (Engine e) (unlock_writes row) ++ (mail_entry (Engine e) (x ∷ ms) ++ mark))
finish_silent e None x ms mark silent = (tt, silent)
finish_silent e (Some r) x ms mark silent = (tt, (tt, silent))

-- a row under way that isn't to be deleted was created or updated
act_of : (r : Row) → r.act ≢ Init → r.act ≢ Rollback → r.act ≢ Delete → IsCalledAct r.act
act_of r begun other kept = by r.act refl where
  by : (a : Act) → r.act ≡ a → IsCalledAct a
  by Init is = absurd (begun is)
  by Create is = creates
  by Update is = updates
  by Delete is = absurd (kept is)
  by Rollback is = absurd (other is)

falls_under : (s : StateData) (j : Job) (ls : List Letter) (f : Option Stack) → Falls s j ls f → (l : Letter)
    → Contains ls l → l.no < s.next.letter + length ls
falls_under s j ls f (overrun _ over sends) l c = resends_under s j.letter.stack j.row ls sends l c
falls_under s j ls f (marked k not) l c = absurd (no_member l c)
falls_under s j ls f (marks k is) l c = absurd (no_member l c)

falls_some : (s : StateData) (j : Job) (ls : List Letter) (f : Option Stack) → Falls s j ls f → (st : Stack)
    → f ≡ Some st → IsSome (stack_at s.stacks st.name)
falls_some s j ls f (overrun _ over sends) st is = cc
falls_some s j ls f (marked k not) st is = cc
falls_some s j ls f (marks k under) st is = let same : k.stack ≡ st = cc in
    subst (λ (x : Stack). IsSome (stack_at s.stacks x.name)) same (fresh_some s j.letter j.row k)

module _ (o : Opening) (h : List Entry) (s : StateData) (w : Workable o h s) (e : ℕ) where
  -- what is written and told is what the case says
  abbrev Goal : List Change → List Entry → Type 0
  Goal cs es = Workable o (h ++ es) (applied cs s)

  by_case : (cs ds : List Change) (es fs : List Entry) → cs ≡ ds → es ≡ fs → Goal ds fs → Goal cs es
  by_case cs ds es fs c d goal = subst (λ (x : List Change). Goal x es) (sym c)
      (subst (λ (y : List Entry). Goal ds y) (sym d) goal)

  relays_under : (f : ℕ) (k : Relays s e f) (l : Letter) → Contains (relayed_letter s e f k ∷ []) l
      → l.no < s.next.letter + 1
  relays_under f k l c = elim (cons_cases [] (relayed_letter s e f k) l c) [
    | inl is ↦ (let n : l.no ≡ s.next.letter = ap (λ (x : Letter). x.no) is in omega (arith, n))
    | inr none ↦ absurd (no_member l none)
  ]

  pub move_workable : (given : Given) (failed : Option Stack) (cs : List Change) (es : List Entry)
      → Move s e given failed cs es → Goal cs es
  move_workable given failed cs es (take_dropped l _ _ t i c d) = by_case cs _ es _ c d
      (quiet.same_workable o h s w (Drop l.no ∷ []) _ (tt, tt) (tt, tt)
      (record { rows = refl; jobs = refl; released = refl; live = λ f x. inl x }) w.once)
  move_workable given failed cs es (take_free k _ _ free c d) =
      by_case cs _ es _ c d (free_workable o h s w e k _ (take_silent e k.meant.fresh.row _ _) free)
  move_workable given failed cs es (take_stolen k f j _ _ holds n c d) =
      by_case cs _ es _ c d (stolen_workable o h s w e k _ (take_silent e k.meant.fresh.row _ _) f j holds)
  move_workable given failed cs es (begin_overrun j _ _ v k c d) = by_case cs _ es _ c d
      (released_workable o h s w _ (release_silent e e k.row k.letters) e j v.its k.row k.found k.letters
      (resends_under s j.letter.stack j.row k.letters k.resends))
  move_workable given failed cs es (begin_faulted k code path _ _ _ f c d) = by_case cs _ es _ c d
      (left_workable o h s w e k.job k.works.its _ (left_silent e k.row failed _) k.row k.found failed
      (falls_some s k.job [] failed f))
  move_workable given failed cs es (begin_init k props effect _ _ i c d) = by_case cs _ es _ c d
      (asked_workable o h s w e k.job k.works.its _ (tt, (tt, tt)) k.row _ k.found refl refl creates
      (record { act = λ a. cc; target = λ up. cc }) (λ must. absurd (dead_begun _ refl (λ a. cc) must)))
  move_workable given failed cs es (begin_same k props effect _ _ n i x c d) = by_case cs _ es _ c d
      (same_workable o h s w e k.job k.works.its _ (tt, (tt, tt)) k.row _ k.found refl
      (let old = w.jobs.rows k.job.row k.row k.found in record { act = old.act; target = old.target })
      (like_live k.row _ refl refl))
  move_workable given failed cs es (begin_in_place k props effect _ _ n i x c d) = by_case cs _ es _ c d
      (asked_workable o h s w e k.job k.works.its _ (tt, (tt, tt)) k.row _ k.found refl refl updates
      (record { act = λ a. cc; target = λ up under. refl }) (λ must. ready i n k.kept))
  move_workable given failed cs es (begin_resumed k props effect _ _ n i x c d) = by_case cs _ es _ c d
      (resumed_workable o h s w e k.job k.works.its _ (tt, tt) k.row k.found i
      (act_of k.row n (w.jobs.rows k.job.row k.row k.found).act k.kept))
  move_workable given failed cs es (begin_failed k props effect _ _ n i x c d) = by_case cs _ es _ c d
      (just_left o h s w e k.job k.works.its _ (tt, (tt, tt)) k.row k.found)
  move_workable given failed cs es (begin_replaced k props effect _ _ n x c d) = by_case cs _ es _ c d
      (replaced_workable o h s w e k _ (tt, (tt, tt)) props)
  move_workable given failed cs es (clean_gone k _ _ at c d) =
      by_case cs _ es _ c d (passed_workable o h s w e k.job k.works.its _ (tt, tt))
  move_workable given failed cs es (clean_kept k r _ _ at x c d) =
      by_case cs _ es _ c d (passed_workable o h s w e k.job k.works.its _ (tt, tt))
  move_workable given failed cs es (clean_init k r _ _ at x i c d) =
      by_case cs _ es _ c d (purged_workable o h s w e k.job k.works.its _ (tt, (tt, tt)) r at)
  move_workable given failed cs es (clean_stuck k r _ _ at x i c d) =
      by_case cs _ es _ c d (just_left o h s w e k.job k.works.its _ (tt, (tt, tt)) r at)
  move_workable given failed cs es (clean_retained k r _ _ at x n i p c d) = by_case cs _ es _ c d
      (retained_workable o h s w e k.job k.works.its _ (tt, (tt, (tt, tt))) r at)
  move_workable given failed cs es (clean_deleted k r _ _ at x n i p c d) = by_case cs _ es _ c d
      (asked_workable o h s w e k.job k.works.its _ (tt, (tt, tt)) r _ at refl refl deletes
      (record { act = λ a. cc; target = λ up. cc }) (λ must. absurd (dead_begun _ refl (λ a. cc) must)))
  move_workable given failed cs es (ask_begun k asked _ _ a c d) = by_case cs _ es _ c d
      (begun_workable o h s w e Asking k asked (asks asked a) answer.Begun _ (tt, tt) refl refl)
  move_workable given failed cs es (ask_failed k asked g reason ls _ _ _ a x f c d) = by_case cs _ es _ c d
      (failed_workable o h s w e Asking k asked (asks asked a) g _ (failed_silent e k.row ls failed reason) ls
      (falls_under s k.job ls failed f) failed (falls_some s k.job ls failed f))
  move_workable given failed cs es (poll_waits k asked _ _ a c d) = by_case cs _ es _ c d
      (called_workable o h s w e Polling k asked (polls asked a) answer.NotYet [] tt)
  move_workable given failed cs es (poll_ready k facts _ _ a c d) = by_case cs _ es _ c d
      (ready_workable o h s w e Polling k request.Poll (polls request.Poll (call.polls a)) (answer.Ready facts) _
      (tt, (tt, tt)) facts refl)
  move_workable given failed cs es (poll_gone k _ _ a c d) = by_case cs _ es _ c d
      (gone_workable o h s w e Polling k request.Gone (polls request.Gone (call.looks a)) answer.Gone _ (tt, (tt, tt)))
  move_workable given failed cs es (poll_failed k asked g reason ls _ _ _ a x f c d) = by_case cs _ es _ c d
      (failed_workable o h s w e Polling k asked (polls asked a) g _ (failed_silent e k.row ls failed reason) ls
      (falls_under s k.job ls failed f) failed (falls_some s k.job ls failed f))
  move_workable given failed cs es (finish_overrun j _ _ v k c d) = by_case cs _ es _ c d
      (released_workable o h s w _ (release_silent e e k.row k.letters) e j v.its k.row k.found k.letters
      (resends_under s j.letter.stack j.row k.letters k.resends))
  move_workable given failed cs es (finish k _ _ n c d) = by_case cs _ es _ c d
      (finish_workable o h s w e k _ (finish_silent e k.fresh.row _ _ [] tt))
  move_workable given failed cs es (finish_last k _ _ y c d) = by_case cs _ es _ c d
      (last_workable o h s w e k _ (finish_silent e k.fresh.row _ _ _ (tt, tt)))
  move_workable given failed cs es (takeover_overrun f j _ _ t k c d) = by_case cs _ es _ c d
      (released_workable o h s w _ (release_silent e f k.row k.letters) f j t.left.its k.row k.found k.letters
      (resends_under s j.letter.stack j.row k.letters k.resends))
  move_workable given failed cs es (takeover_fresh f k _ _ c d) = by_case cs _ es _ c d
      (released_workable o h s w _ (release_silent e f k.fresh.row (relayed_letter s e f k ∷ [])) f k.job
      k.next.left.its k.fresh.row k.fresh.found (relayed_letter s e f k ∷ []) (relays_under f k))
