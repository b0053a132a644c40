-- Each turn lowers the work: its move does, and a rollback behind it has stood for itself.
use Rattle.std.proofs.Common.{◌≡◌, ◌<◌, ℕ, List, [], ◌∷◌, ◌++◌, Option, Some, None, refl, sym, ap, subst, ◌∙◌, arith}
use Rattle.std.specs.Prelude.{Contains}
use Rattle.heat_plan.specs.declared.phase.Status.TheVariants.{Failed}
use Rattle.heat_plan.specs.declared.token.Token.{Token}
use Rattle.row_table.specs.Rows.{row_at}
use Rattle.row_table.specs.declared.row.Row.{Row}
use Rattle.mail_table.specs.Mails.{job_at}
use Rattle.mail_table.specs.declared.mail.Job.{Job}
use Rattle.mail_table.specs.declared.mail.Letter.{Letter}
use Rattle.core_state.specs.Changes.{applied, apply}
use Rattle.core_state.specs.State.{StateData, put_stack, stack_at}
use Rattle.core_state.specs.declared.change.Change.{Change}
use Rattle.core_state.specs.declared.entry.Actor.TheVariants.{Engine}
use Rattle.core_state.specs.declared.entry.Entry.{Entry}
use Rattle.core_state.specs.declared.stack.Stack.{Stack}
use Rattle.step_relation.specs.Asks.{Falls, failed_changes, marked, marks, overrun}
use Rattle.step_relation.specs.Begins.{left_changes}
use Rattle.step_relation.specs.Commands.{Lays, laid_changes}
use Rattle.step_relation.specs.Given.{Given}
use Rattle.step_relation.specs.Moves.{Move, ask_begun, ask_failed, begin_failed, begin_faulted, begin_in_place}
use Rattle.step_relation.specs.Moves.{begin_init, begin_overrun, begin_replaced, begin_resumed, begin_same}
use Rattle.step_relation.specs.Moves.{clean_deleted, clean_gone, clean_init, clean_kept, clean_retained, clean_stuck}
use Rattle.step_relation.specs.Moves.{finish, finish_last, finish_overrun, poll_failed, poll_gone, poll_ready}
use Rattle.step_relation.specs.Moves.{poll_waits, take_dropped, take_free, take_stolen, takeover_fresh}
use Rattle.step_relation.specs.Moves.{takeover_overrun}
use Rattle.step_relation.specs.Orders.{plan_back, rollback_sets}
use Rattle.step_relation.specs.Rows.{failed_row}
use Rattle.step_relation.specs.Runs.{IsTied, Judges}
use Rattle.step_relation.specs.Turns.{IsDue, Turn}
use Rattle.step_relation.specs.Writes.{mark_failed}
use Rattle.step_relation.specs.Elsewhere.{Elsewhere}
use Rattle.step_relation.specs.Groups.{IsOrdered, rolls_back}
use Rattle.step_relation.specs.Sound.{Standing}
use Rattle.history_laws.proofs.tables.Frame.{then}
use Rattle.history_laws.proofs.tables.Rows.{row_self, same_some, stack-key, stack_here}
use Rattle.history_laws.proofs.frames.Commands.{commands_on_one}
use Rattle.history_laws.proofs.frames.OnOne.{moves_on_one}
use Rattle.next_laws.proofs.Turns.{ByMove, Whole, by_move, follows, stops}
use Rattle.graph_laws.proofs.whole.Whole.{standing_kept}
use Rattle.bound_laws.specs.Bound.{IsWork, TurnsLowerWork}
use Rattle.bound_laws.proofs.Ended.{form_unlocked}
use Rattle.bound_laws.proofs.Falls.{PollsFall, falls_of}
use Rattle.bound_laws.proofs.Forms.{form_put}
use Rattle.bound_laws.proofs.Moving.{move_lowers}
use Rattle.bound_laws.proofs.Marked.{Marks}
use Rattle.bound_laws.proofs.Rolling.{rolls}

applied-append : (xs ys : List Change) (s : StateData) → applied (xs ++ ys) s ≡ applied ys (applied xs s)
applied-append [] ys s = refl
applied-append (x ∷ xs) ys s = applied-append xs ys (apply x s)

-- a move that marks this stack
record Fails (s u : StateData) (e : ℕ) (st : Stack) : Type 0 where
  pub job : Job
  pub marks_it : Marks s u e job st
  pub stacks : u.stacks ≡ put_stack (record st { status = Failed }) s.stacks
  pub else_ : Elsewhere st.name s u

none_some : (st : Stack) → None ≡ Some st → ⊥
none_some st is = cc

module _ (s : StateData) (hs : Standing s) (e : ℕ) where
  -- the fault of an item
  left_fails : (j : Job) (r : Row) (f : Option Stack) (st : Stack) → job_at s.jobs e ≡ Some j → Contains s.live e
      → row_at s.rows j.row ≡ Some r → Falls s j [] f → f ≡ Some st
      → Elsewhere j.letter.stack s (applied (left_changes e r ++ mark_failed f) s)
      → Fails s (applied (left_changes e r ++ mark_failed f) s) e st
  left_fails j r _ st its live found (overrun ls over sends) is else_ = absurd (none_some st is)
  left_fails j r _ st its live found (marked k not) is else_ = absurd (none_some st is)
  left_fails j r _ st its live found (marks k under) is else_ =
      let same : k.stack ≡ st = cc in
      subst (λ (x : Stack). Fails s (applied (left_changes e r ++ mark_failed (Some k.stack)) s) e x) same (record {
        job = j;
        marks_it = record {
          its = its;
          live = live;
          lives = refl;
          jobs = refl;
          letters = refl;
          pasts = refl;
          next = omega arith;
          rows = form_unlocked s (applied (left_changes e r ++ mark_failed (Some k.stack)) s) j.row (Some r) found refl;
          in_table = subst (λ (x : List ℕ). stack_at s.stacks x ≡ Some k.stack) (sym named) k.names.in_table;
          under = under;
        };
        stacks = refl;
        else_ = subst (λ (x : List ℕ). Elsewhere x s (applied (left_changes e r ++ mark_failed (Some k.stack)) s))
            (sym named) else_;
      })
    where
      named : k.stack.name ≡ j.letter.stack
      named = stack-key s.stacks j.letter.stack k.stack k.names.in_table

  -- an answer that fails
  called_fails : (j : Job) (r : Row) (ls : List Letter) (f : Option Stack) (st : Stack) → job_at s.jobs e ≡ Some j
      → Contains s.live e → row_at s.rows j.row ≡ Some r
      → Falls s j ls f → f ≡ Some st → Elsewhere j.letter.stack s (applied (failed_changes s e r ls f) s)
      → Fails s (applied (failed_changes s e r ls f) s) e st
  called_fails j r _ _ st its live found (overrun ls over sends) is else_ = absurd (none_some st is)
  called_fails j r _ _ st its live found (marked k not) is else_ = absurd (none_some st is)
  called_fails j r _ _ st its live found (marks k under) is else_ =
      let same : k.stack ≡ st = cc in
      subst (λ (x : Stack). Fails s (applied (failed_changes s e r [] (Some k.stack)) s) e x) same (record {
        job = j;
        marks_it = record {
          its = its;
          live = live;
          lives = refl;
          jobs = refl;
          letters = refl;
          pasts = refl;
          next = omega arith;
          rows = form_put s (applied (failed_changes s e r [] (Some k.stack)) s) r (failed_row r)
              (row_self s.rows j.row r found) refl refl
              (λ c. record { kept = c.kept; last = c.last }) (λ x may far. far);
          in_table = subst (λ (x : List ℕ). stack_at s.stacks x ≡ Some k.stack) (sym named) k.names.in_table;
          under = under;
        };
        stacks = refl;
        else_ = subst (λ (x : List ℕ). Elsewhere x s (applied (failed_changes s e r [] (Some k.stack)) s))
            (sym named) else_;
      })
    where
      named : k.stack.name ≡ j.letter.stack
      named = stack-key s.stacks j.letter.stack k.stack k.names.in_table

  fails_of : (given : Given) (f : Option Stack) (cs : List Change) (es : List Entry) (st : Stack)
      → Move s e given f cs es → f ≡ Some st → Fails s (applied cs s) e st
  fails_of given f cs es st (begin_faulted k code path _ _ _ x c d) is =
      subst (λ (l : List Change). Fails s (applied l s) e st) (sym c)
      (left_fails k.job k.row f st k.works.its k.works.live k.found x is
      (subst (λ (l : List Change). Elsewhere k.job.letter.stack s (applied l s)) c
      (moves_on_one s e given f cs es hs (begin_faulted k code path f cs es x c d))))
  fails_of given f cs es st (ask_failed k asked g reason ls _ _ _ x y z c d) is =
      subst (λ (l : List Change). Fails s (applied l s) e st) (sym c)
      (called_fails k.job k.row ls f st k.works.its k.works.live k.found z is
      (subst (λ (l : List Change). Elsewhere k.job.letter.stack s (applied l s)) c
      (moves_on_one s e given f cs es hs (ask_failed k asked g reason ls f cs es x y z c d))))
  fails_of given f cs es st (poll_failed k asked g reason ls _ _ _ x y z c d) is =
      subst (λ (l : List Change). Fails s (applied l s) e st) (sym c)
      (called_fails k.job k.row ls f st k.works.its k.works.live k.found z is
      (subst (λ (l : List Change). Elsewhere k.job.letter.stack s (applied l s)) c
      (moves_on_one s e given f cs es hs (poll_failed k asked g reason ls f cs es x y z c d))))
  fails_of given f cs es st (take_dropped l _ _ t i c d) is = absurd (none_some st is)
  fails_of given f cs es st (take_free k _ _ free c d) is = absurd (none_some st is)
  fails_of given f cs es st (take_stolen k g j _ _ holds stopped c d) is = absurd (none_some st is)
  fails_of given f cs es st (begin_overrun j _ _ w k c d) is = absurd (none_some st is)
  fails_of given f cs es st (begin_init k props effect _ _ i c d) is = absurd (none_some st is)
  fails_of given f cs es st (begin_same k props effect _ _ b i x c d) is = absurd (none_some st is)
  fails_of given f cs es st (begin_in_place k props effect _ _ b i x c d) is = absurd (none_some st is)
  fails_of given f cs es st (begin_resumed k props effect _ _ b i x c d) is = absurd (none_some st is)
  fails_of given f cs es st (begin_failed k props effect _ _ b i x c d) is = absurd (none_some st is)
  fails_of given f cs es st (begin_replaced k props effect _ _ b goes c d) is = absurd (none_some st is)
  fails_of given f cs es st (clean_gone k _ _ at c d) is = absurd (none_some st is)
  fails_of given f cs es st (clean_kept k r _ _ at x c d) is = absurd (none_some st is)
  fails_of given f cs es st (clean_init k r _ _ at x i c d) is = absurd (none_some st is)
  fails_of given f cs es st (clean_stuck k r _ _ at x i c d) is = absurd (none_some st is)
  fails_of given f cs es st (clean_retained k r _ _ at x b i p c d) is = absurd (none_some st is)
  fails_of given f cs es st (clean_deleted k r _ _ at x b i p c d) is = absurd (none_some st is)
  fails_of given f cs es st (ask_begun k asked _ _ x c d) is = absurd (none_some st is)
  fails_of given f cs es st (poll_waits k asked _ _ x c d) is = absurd (none_some st is)
  fails_of given f cs es st (poll_ready k facts _ _ x c d) is = absurd (none_some st is)
  fails_of given f cs es st (poll_gone k _ _ x c d) is = absurd (none_some st is)
  fails_of given f cs es st (finish_overrun j _ _ w k c d) is = absurd (none_some st is)
  fails_of given f cs es st (finish k _ _ not c d) is = absurd (none_some st is)
  fails_of given f cs es st (finish_last k _ _ yes_ c d) is = absurd (none_some st is)
  fails_of given f cs es st (takeover_overrun g j _ _ t k c d) is = absurd (none_some st is)
  fails_of given f cs es st (takeover_fresh g k _ _ c d) is = absurd (none_some st is)

-- behind such a move, a rollback
rolled : (before after : Token → ℕ) (s u : StateData) (e : ℕ) (given : Given) → PollsFall before after s e given
    → Standing s → Standing u → (st : Stack)
    → Fails s u e st → IsDue u st → (x : Stack) → x ≡ record st { status = Failed }
    → (lays : Lays u x.name (plan_back u x).items) → (t : StateData)
    → t ≡ applied (laid_changes u x.name (plan_back u x).items (rollback_sets u x (Engine e)) lays) u → (n m : ℕ)
    → IsWork before s n → IsWork after t m → m < n
rolled before after s u e given falls hs hu st f due x same =
    subst (λ (y : Stack). (lays : Lays u y.name (plan_back u y).items) → (t : StateData)
    → t ≡ applied (laid_changes u y.name (plan_back u y).items (rollback_sets u y (Engine e)) lays) u → (n m : ℕ)
    → IsWork before s n → IsWork after t m → m < n)
    (sym same) by
  where
    failed : Stack
    failed = record st { status = Failed }

    ordered : IsOrdered u st.name (plan_back u (record st { status = Failed })).items
        (rollback_sets u (record st { status = Failed }) (Engine e))
    ordered = rolls_back (record st { status = Failed }) (Engine e)
        (subst (λ (l : List Stack). stack_at l st.name ≡ Some (record st { status = Failed })) (sym f.stacks)
        (stack_here (record st { status = Failed }) s.stacks))
        due.forward (λ is. cc)

    by : (lays : Lays u st.name (plan_back u (record st { status = Failed })).items) → (t : StateData)
        → t ≡ applied (laid_changes u st.name (plan_back u (record st { status = Failed })).items
        (rollback_sets u (record st { status = Failed }) (Engine e)) lays) u
        → (n m : ℕ) → IsWork before s n → IsWork after t m → m < n
    by lays t is n m a b =
        let ht : Standing t = subst Standing (sym is) (standing_kept.commands u st.name _ _ lays hu ordered) in
        let on_u : Elsewhere st.name u t =
        subst (Elsewhere st.name u) (sym is) (commands_on_one u st.name _ _ lays hu ordered) in
        rolls before after s u e given falls hs f.job st f.marks_it due.asked lays t is ht
        (then st.name s u t f.else_ on_u) n m a b

pub turn_lowers : (judges : Judges) (s : StateData) (e : ℕ) (given : Given) (cs : List Change) (es : List Entry)
    (before after : Token → ℕ) (n m : ℕ) → Standing s → Turn s e given cs es → IsTied judges s e given
    → PollsFall before after s e given → IsWork before s n → IsWork after (applied cs s) m → m < n
turn_lowers judges s e given cs es before after n m hs turn tied falls a b = let k = by_move s e given cs es turn in
    by k k.whole where
      first : (k : ByMove s e given cs es) → Standing (applied k.first s)
      first k = standing_kept.moves judges s e given k.failed k.first k.firsts hs k.move tied

      by : (k : ByMove s e given cs es) → Whole s e k.failed k.first k.firsts cs es → m < n
      by k (stops p c d) = move_lowers judges before after s e given falls hs n a k.failed k.first k.firsts k.move
          tied (first k) m
          (subst (λ (l : List Change). IsWork after (applied l s) m) c b)
      by k (follows st last lasts is due f c d) =
          let fails = fails_of s hs e given k.failed k.first k.firsts st k.move is in
          let same : f.failed ≡ record st { status = Failed } = same_some f.failed (record st { status = Failed }) f.is
          (subst (λ (l : List Stack). stack_at l st.name ≡ Some (record st { status = Failed })) (sym fails.stacks)
          (stack_here (record st { status = Failed }) s.stacks)) in
          let ends : applied cs s ≡ applied last (applied k.first s) = ap (λ (l : List Change). applied l s) c
          ∙ applied-append k.first last s in
          rolled before after s (applied k.first s) e given falls hs (first k) st fails due f.failed same f.lays
          (applied cs s)
          (ends ∙ ap (λ (l : List Change). applied l (applied k.first s)) f.changes) n m a b

pub turns_lower : TurnsLowerWork
turns_lower judges s e given cs es old new n m hs it few =
    turn_lowers judges s e given cs es old.left new.left n m hs it.turn it.tied
    (falls_of s e given old new it.polled few)
