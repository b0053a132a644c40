-- Each step leaves every stack that it isn't on.
use Rattle.std.proofs.Common.{◌≡◌, ◌≢◌, ℕ, zero, suc, ◌+◌, List, [], ◌∷◌, ◌++◌, map, Some, refl, sym, ap, ◌∙◌, subst}
use Rattle.std.specs.Prelude.{Contains, ◌↔◌}
use Rattle.heat_plan.specs.declared.token.Token.{Token}
use Rattle.row_table.specs.Rows.{row_at}
use Rattle.row_table.specs.declared.row.Row.{Row}
use Rattle.mail_table.specs.Mails.{job_at, letter_at}
use Rattle.mail_table.specs.declared.mail.Job.{Job}
use Rattle.mail_table.specs.declared.mail.Letter.{Letter}
use Rattle.step_relation.specs.Changes.{applied}
use Rattle.step_relation.specs.State.{StateData, graph_at, past_at, stack_at}
use Rattle.step_relation.specs.declared.Change.{Change}
use Rattle.step_relation.specs.declared.Change.TheVariants.{Enlist, Stop}
use Rattle.step_relation.specs.declared.Actor.TheVariants.{Engine, Main}
use Rattle.step_relation.specs.declared.Entry.{Entry}
use Rattle.step_relation.specs.declared.What.{What}
use Rattle.step_relation.specs.Given.{Answer, Given}
use Rattle.step_relation.specs.Orders.{Command, cancel, create, create_sets, delete, delete_sets, plan_back}
use Rattle.step_relation.specs.Orders.{rollback_sets, update, update_sets}
use Rattle.step_relation.specs.Steps.{IsNote, close, command, engines_from, enlist, notes, note, ran, restart, shows}
use Rattle.step_relation.specs.Steps.{previews, stop, turn, turned, unstored}
use Rattle.step_relation.specs.Turns.{Turn, plain, rolls}
use Rattle.step_relation.specs.Could.{could_of}
use Rattle.step_relation.specs.Marked.{marked_of}
use Rattle.step_relation.specs.Newest.{newest, rollback_of}
use Rattle.step_relation.specs.Opening.{Opening}
use Rattle.step_relation.specs.Stored.{released}
use Rattle.step_relation.specs.Elsewhere.{Elsewhere}
use Rattle.step_relation.specs.Sound.{Standing}
use Rattle.history_laws.proofs.frames.Commands.{laid_on}
use Rattle.history_laws.proofs.frames.OnOne.{moves_on_one}
use Rattle.history_laws.specs.frames.Laws.{stack_of}
use Rattle.history_laws.proofs.leaves.Apart.{AreApart, IsApart, could_apart, marked_apart, newest_apart, released_apart}
use Rattle.history_laws.proofs.leaves.Apart.{rollback_apart}
use Rattle.history_laws.proofs.leaves.Told.{failed_stack, laid_apart, move_apart}
use Rattle.history_laws.specs.leaves.Leaves.{LeavesStack, StepsLeaveOthers, command_stack, turn_stack}
use Rattle.history_laws.proofs.links.Kept.{links_after}
use Rattle.history_laws.proofs.tables.Frame.{applied-append, then}
use Rattle.history_laws.proofs.tables.Puts.{all_append}
use Rattle.history_laws.proofs.tells.Appends.{could-append, marked-append, newest-append, released-append, rollback-append}

-- a stack's tables are as they were
pub record StateLeaves (name : List ℕ) (s t : StateData) : Type 0 where
  pub stack : stack_at t.stacks name ≡ stack_at s.stacks name
  pub graph : graph_at t.graphs name ≡ graph_at s.graphs name
  pub past : past_at t.pasts name ≡ past_at s.pasts name
  pub rows : (n : ℕ) (r : Row) → r.stack ≡ name → (row_at t.rows n ≡ Some r) ↔ (row_at s.rows n ≡ Some r)
  pub letters : (n : ℕ) (l : Letter) → l.stack ≡ name
      → (letter_at t.letters n ≡ Some l) ↔ (letter_at s.letters n ≡ Some l)
  pub jobs : (e : ℕ) (j : Job) → j.letter.stack ≡ name → (job_at t.jobs e ≡ Some j) ↔ (job_at s.jobs e ≡ Some j)

state_elsewhere : (own name : List ℕ) (s t : StateData) → Elsewhere own s t → own ≢ name → StateLeaves name s t
state_elsewhere own name s t E ne =
    let away : (x : List ℕ) → x ≡ name → x ≢ own = λ x is eq. ne (sym eq ∙ is) in record {
      stack = E.stacks name (away name refl);
      graph = E.graphs name (away name refl);
      past = E.pasts name (away name refl);
      rows = λ n r is. (E.rows n r (away r.stack is), E.rows_stay n r (away r.stack is));
      letters = λ n l is. (E.letters n l (away l.stack is), E.letters_stay n l (away l.stack is));
      jobs = λ e j is. (E.jobs e j (away j.letter.stack is), E.jobs_stay e j (away j.letter.stack is));
    }

state_same : (name : List ℕ) (s : StateData) → StateLeaves name s s
state_same name s = record {
  stack = refl;
  graph = refl;
  past = refl;
  rows = λ n r is. (λ at. at, λ at. at);
  letters = λ n l is. (λ at. at, λ at. at);
  jobs = λ e j is. (λ at. at, λ at. at);
}

-- only engines came and went
state_engines : (name : List ℕ) (s : StateData) (live : List ℕ) (next : _)
    → StateLeaves name s (record s { live = live; next = next })
state_engines name s live next = record {
  stack = refl;
  graph = refl;
  past = refl;
  rows = λ n r is. (λ at. at, λ at. at);
  letters = λ n l is. (λ at. at, λ at. at);
  jobs = λ e j is. (λ at. at, λ at. at);
}

-- and the history says nothing of it
leaves : (o : Opening) (name : List ℕ) (s : StateData) (h : List Entry) (t : StateData) (es : List Entry)
    → StateLeaves name s t → AreApart name es
    → LeavesStack o name s h t (h ++ es)
leaves o name s h t es L apart = record {
  stack = L.stack;
  graph = L.graph;
  past = L.past;
  rows = L.rows;
  letters = L.letters;
  jobs = L.jobs;
  tokens = λ token is. could-append o h es token
      ∙ could_apart token (could_of o h token) es (subst (λ (x : List ℕ). AreApart x es) (sym is) apart);
  owned = λ token is.
      subst (λ (x : List Token). Contains x token ↔ Contains (released o h) token) (sym (released-append o h es))
      (released_apart token (released o h) es (subst (λ (x : List ℕ). AreApart x es) (sym is) apart));
  traversal = newest-append o h es name ∙ newest_apart name (newest o h name) es apart;
  mark = marked-append o h es name ∙ marked_apart name (marked_of o h name) es apart;
  rollback = rollback-append o h es name ∙ rollback_apart name (rollback_of o h name) es apart;
}

apart_both : (name : List ℕ) (es fs : List Entry) → AreApart name es → AreApart name fs → AreApart name (es ++ fs)
apart_both name es fs one two = record { all = all_append (λ (e : Entry). IsApart name e.what) es fs one.all two.all }

-- a turn
module _ (s : StateData) (S : Standing s) (e : ℕ) (given : Given) where
  pub turn_elsewhere : (cs : List Change) (es : List Entry) → (it : Turn s e given cs es)
      → Elsewhere (turn_stack s e given cs es it) s (applied cs s)
  turn_elsewhere cs es (plain failed move quiet) = moves_on_one s e given failed cs es S move
  turn_elsewhere cs es (rolls st first last firsts lasts move due follows is made) =
      let own = stack_of s e given (Some st) first firsts move in
      let same : follows.failed.name ≡ stack_of s e given (Some st) first firsts move = follows.its_name
      ∙ failed_stack s e given st first firsts S move in
      subst (Elsewhere (stack_of s e given (Some st) first firsts move) s)
      (sym (ap (λ (x : List Change). applied x s) is ∙ applied-append first last s))
      (then _ s (applied first s) (applied last (applied first s))
      (moves_on_one s e given (Some st) first firsts S move)
      (subst (λ (x : List ℕ). Elsewhere x (applied first s) (applied last (applied first s))) same
      (subst (λ (x : List Change). Elsewhere follows.failed.name (applied first s) (applied x (applied first s)))
      (sym follows.changes)
      (laid_on (applied first s) (links_after s e given (Some st) first firsts S move) follows.failed.name
      (plan_back (applied first s) follows.failed).items
      (rollback_sets (applied first s) follows.failed (Engine e)) follows.lays refl))))

  turn_apart : (cs : List Change) (es : List Entry) → (it : Turn s e given cs es) → (name : List ℕ)
      → turn_stack s e given cs es it ≢ name → AreApart name es
  turn_apart cs es (plain failed move quiet) name ne = move_apart s e given failed cs es S move name ne
  turn_apart cs es (rolls st first last firsts lasts move due follows is made) name ne =
      let same : follows.failed.name ≡ stack_of s e given (Some st) first firsts move = follows.its_name
      ∙ failed_stack s e given st first firsts S move in
      subst (AreApart name) (sym made)
      (apart_both name firsts lasts (move_apart s e given (Some st) first firsts S move name ne)
      (subst (AreApart name) (sym follows.entries)
      (laid_apart (applied first s) follows.failed.name (plan_back (applied first s) follows.failed).items
      (rollback_sets (applied first s) follows.failed (Engine e)) follows.lays name (λ eq. ne (sym same ∙ eq)))))

-- a command
module _ (s : StateData) (S : Standing s) where
  pub command_elsewhere : (cs : List Change) (es : List Entry) → (it : Command s cs es)
      → Elsewhere (command_stack s cs es it) s (applied cs s)
  command_elsewhere cs es (create name plan rollback k proper free few room is made) =
      subst (λ (x : List Change). Elsewhere name s (applied x s)) (sym is)
      (laid_on s S.links name plan.items (create_sets s name plan rollback) k refl)
  command_elsewhere cs es (update st plan rollback k proper in_table keeps room is made) =
      subst (λ (x : List Change). Elsewhere st.name s (applied x s)) (sym is)
      (laid_on s S.links st.name plan.items (update_sets s st plan rollback) k refl)
  command_elsewhere cs es (delete st k in_table is made) =
      subst (λ (x : List Change). Elsewhere st.name s (applied x s)) (sym is)
      (laid_on s S.links st.name [] (delete_sets s st) k refl)
  command_elsewhere cs es (cancel st k in_table forward unmarked room is made) =
      subst (λ (x : List Change). Elsewhere st.name s (applied x s)) (sym is)
      (laid_on s S.links st.name (plan_back s st).items (rollback_sets s st Main) k refl)

  command_apart : (cs : List Change) (es : List Entry) → (it : Command s cs es) → (name : List ℕ)
      → command_stack s cs es it ≢ name → AreApart name es
  command_apart cs es (create own plan rollback k proper free few room is made) name ne =
      subst (AreApart name) (sym made) (laid_apart s own plan.items (create_sets s own plan rollback) k name ne)
  command_apart cs es (update st plan rollback k proper in_table keeps room is made) name ne =
      subst (AreApart name) (sym made) (laid_apart s st.name plan.items (update_sets s st plan rollback) k name ne)
  command_apart cs es (delete st k in_table is made) name ne =
      subst (AreApart name) (sym made) (laid_apart s st.name [] (delete_sets s st) k name ne)
  command_apart cs es (cancel st k in_table forward unmarked room is made) name ne =
      subst (AreApart name) (sym made) (laid_apart s st.name (plan_back s st).items (rollback_sets s st Main) k name ne)

-- engines stop and are enlisted
stops : (name : List ℕ) (s : StateData) (next : _) (es : List ℕ) (rest : List Change) (live : List ℕ)
    → ((l : List ℕ) → StateLeaves name s (applied rest (record s { live = l; next = next })))
    → StateLeaves name s (applied (map Stop es ++ rest) (record s { live = live; next = next }))
stops name s next [] rest live more = more live
stops name s next (e ∷ es) rest live more = stops name s next es rest _ more

enlists : (name : List ℕ) (s : StateData) (next : _) (count first : ℕ) (live : List ℕ)
    → StateLeaves name s (applied (map Enlist (engines_from first count)) (record s { live = live; next = next }))
enlists name s next zero first live = state_engines name s live next
enlists name s next (suc count) first live = enlists name s next count (first + 1) _

note_apart : (name : List ℕ) (it : What) → IsNote it → IsApart name it
note_apart name _ (shows it stack) = tt
note_apart name _ (notes line code path) = tt
note_apart name _ (ran idle turns) = tt
note_apart name _ (turned e lost) = tt
note_apart name _ (previews stack forecast) = tt

by_step : (o : Opening) (name : List ℕ) (s : StateData) (h : List Entry) (cs ds : List Change) (es fs : List Entry)
    → cs ≡ ds → es ≡ fs
    → LeavesStack o name s h (applied ds s) (h ++ fs) → LeavesStack o name s h (applied cs s) (h ++ es)
by_step o name s h cs ds es fs is made now =
    subst (λ (x : List Change). LeavesStack o name s h (applied x s) (h ++ es)) (sym is)
    (subst (λ (x : List Entry). LeavesStack o name s h (applied ds s) (h ++ x)) (sym made) now)

pub leaves_others : StepsLeaveOthers
leaves_others o h s cs es S (command it fits) name other =
    let ne : command_stack s cs es it ≢ name = λ eq. other (ap Some eq) in
    leaves o name s h (applied cs s) es (state_elsewhere _ name s (applied cs s) (command_elsewhere s S cs es it) ne)
    (command_apart s S cs es it name ne)
leaves_others o h s cs es S (turn e given it fits) name other =
    let ne : turn_stack s e given cs es it ≢ name = λ eq. other (ap Some eq) in
    leaves o name s h (applied cs s) es (state_elsewhere _ name s (applied cs s)
    (turn_elsewhere s S e given cs es it) ne) (turn_apart s S e given cs es it name ne)
leaves_others o h s cs es S (unstored e given lost all call it some fits first is made) name other =
    let ne : turn_stack s e (Answer given) lost all it ≢ name = λ eq. other (ap Some eq) in
    let apart = subst (AreApart name) first.entries (turn_apart s S e (Answer given) lost all it name ne) in
    by_step o name s h cs [] es (call ∷ []) is made
    (leaves o name s h s (call ∷ []) (state_same name s) (record { all = (apart.all.0, tt) }))
leaves_others o h s cs es S (stop e live is made) name other =
    by_step o name s h cs _ es _ is made
    (leaves o name s h _ _ (state_engines name s _ s.next) (record { all = (tt, tt) }))
leaves_others o h s cs es S (enlist few below is made) name other =
    by_step o name s h cs _ es _ is made (leaves o name s h _ _ (state_engines name s _ _) (record { all = (tt, tt) }))
leaves_others o h s cs es S (restart count some few below is made) name other =
    by_step o name s h cs _ es _ is made (leaves o name s h _ _
    (stops name s _ s.live _ s.live (λ l. enlists name s _ count s.next.engine l)) (record { all = (tt, tt) }))
leaves_others o h s cs es S (note it noted is made) name other =
    by_step o name s h cs _ es _ is made
    (leaves o name s h s _ (state_same name s) (record { all = (note_apart name it noted, tt) }))
leaves_others o h s cs es S (close is made) name other =
    by_step o name s h cs _ es _ is made (leaves o name s h s _ (state_same name s) (record { all = (tt, tt) }))
