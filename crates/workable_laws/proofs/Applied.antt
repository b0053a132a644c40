-- Each change of a step from a workable state applies where it stands.
use Rattle.std.proofs.Common.{◌≡◌, inl, inr, ◌<◌, ℕ, List, [], ◌∷◌, ◌++◌, length, map, Option, Some}
use Rattle.std.proofs.Common.{refl, sym, ap, subst, ◌∙◌}
use Rattle.std.proofs.Common.{arith}
use Rattle.std.specs.Prelude.{Contains, IsSome}
use Rattle.std.proofs.lemmas.List.Elements.{All-contains}
use Rattle.std.proofs.lemmas.Option.{slice_get_within}
use Rattle.heat_plan.specs.declared.item.Item.{Item}
use Rattle.heat_plan.specs.declared.phase.Status.TheVariants.{InProgress}
use Rattle.traversal_graph.specs.declared.shape.Node.{Node}
use Rattle.row_table.specs.Rows.{row_at}
use Rattle.row_table.specs.declared.row.Row.{Row}
use Rattle.sync_points.specs.declared.point.Point.{Point}
use Rattle.mail_table.specs.Mails.{job_at, letter_at}
use Rattle.mail_table.specs.declared.mail.Job.{Job}
use Rattle.mail_table.specs.declared.mail.Letter.{Letter}
use Rattle.core_state.specs.Applies.{AllApply, IsWithin}
use Rattle.core_state.specs.Changes.{applied, apply}
use Rattle.core_state.specs.State.{StateData, put_stack, stack_at}
use Rattle.core_state.specs.declared.change.Change.{Change}
use Rattle.core_state.specs.declared.change.Change.TheVariants.{Drop, EndJob, Enlist, PutJob, PutPast, PutStack, Stop}
use Rattle.core_state.specs.declared.entry.Actor.TheVariants.{Engine}
use Rattle.core_state.specs.declared.entry.Entry.{Entry}
use Rattle.core_state.specs.declared.stack.Stack.{Stack}
use Rattle.step_relation.specs.Asks.{Falls, failed_changes, marked, marks, overrun}
use Rattle.step_relation.specs.Begins.{left_changes}
use Rattle.step_relation.specs.Cleanups.{purged_changes, retained_changes}
use Rattle.step_relation.specs.Commands.{Lays, Sets, first_letters, laid_changes, past_command}
use Rattle.step_relation.specs.Commands.{settles_at_once, stack_set}
use Rattle.step_relation.specs.Finishes.{Finishes, finished_changes, given_input, ready_letters}
use Rattle.step_relation.specs.Given.{Given}
use Rattle.step_relation.specs.Inputs.{passed_points, point_after}
use Rattle.step_relation.specs.Moves.{Move, ask_begun, ask_failed, begin_failed, begin_faulted, begin_in_place}
use Rattle.step_relation.specs.Moves.{begin_init, begin_overrun, begin_replaced, begin_resumed, begin_same}
use Rattle.step_relation.specs.Moves.{clean_deleted, clean_gone, clean_init, clean_kept, clean_retained, clean_stuck}
use Rattle.step_relation.specs.Moves.{finish, finish_last, finish_overrun, poll_failed, poll_gone, poll_ready}
use Rattle.step_relation.specs.Moves.{poll_waits, take_dropped, take_free, take_stolen, takeover_fresh}
use Rattle.step_relation.specs.Moves.{takeover_overrun}
use Rattle.step_relation.specs.Orders.{Command, cancel, create, delete, plan_back, rollback_sets, update}
use Rattle.step_relation.specs.Resends.{Resends, nobody}
use Rattle.step_relation.specs.Rows.{token_of}
use Rattle.step_relation.specs.Steps.{close, command, engines_from, enlist, note, past_engines, restart}
use Rattle.step_relation.specs.Steps.{restart_changes, stop, turn, unstored}
use Rattle.step_relation.specs.Takes.{Takes, relayed_letter, released_changes}
use Rattle.step_relation.specs.Turns.{Turn}
use Rattle.step_relation.specs.Opening.{Opening}
use Rattle.step_relation.specs.Numbered.{AllBelow, EachOnce}
use Rattle.history_laws.proofs.tables.Rows.{graph-key, row-key, stack_here}
use Rattle.next_laws.proofs.Listings.{cons_cases}
use Rattle.next_laws.proofs.Turns.{ByMove, Whole, by_move, follows, stops}
use Rattle.workable_laws.specs.Laws.{StepsApply}
use Rattle.workable_laws.specs.Workable.{Workable}
use Rattle.workable_laws.proofs.Applying.{IsFrom, IsPointOf, apply-append, draw_apply, enlists_apply, failure_apply}
use Rattle.workable_laws.proofs.Applying.{letters_from, lock_apply, mapped, mark_apply, points_apply, rows_apply}
use Rattle.workable_laws.proofs.Applying.{sends_alone, sends_apply, stops_apply, unlock_apply}
use Rattle.workable_laws.proofs.Ends.{fresh_some}
use Rattle.workable_laws.proofs.Moved.{move_workable}
use Rattle.workable_laws.proofs.Within.{laid_within}
use Rattle.core_state.specs.declared.change.Change.TheVariants as change_to
use Rattle.step_relation.specs.Resends as resend

-- the letters of a release have the next numbers
resends_from : (s : StateData) (name : List ℕ) (n : ℕ) (ls : List Letter) → Resends s name n ls
    → IsFrom s.next.letter ls
resends_from s name n _ (resend.update st g i has least) = (refl, tt)
resends_from s name n _ (resend.cleanup st g i has none_ least) = (refl, tt)
resends_from s name n _ (nobody a b) = tt

falls_from : (s : StateData) (j : Job) (ls : List Letter) (f : Option Stack) → Falls s j ls f → IsFrom s.next.letter ls
falls_from s j ls f (overrun _ over sends) = resends_from s j.letter.stack j.row ls sends
falls_from s j _ _ (marked k not) = tt
falls_from s j _ _ (marks k under) = tt

module _ (o : Opening) (h : List Entry) (s : StateData) (w : Workable o h s) where
  has_job : (e : ℕ) (j : Job) → job_at s.jobs e ≡ Some j → IsSome (job_at s.jobs e)
  has_job e j its = rw its refl

  has_row : (n : ℕ) (r : Row) → row_at s.rows n ≡ Some r → IsSome (row_at s.rows r.no)
  has_row n r at = rw (row-key s.rows n r at) (rw at refl)

  -- a job ends, its row is unlocked, and letters are sent
  released_apply : (f : ℕ) (j : Job) → job_at s.jobs f ≡ Some j → (row : Option Row) (ls : List Letter)
      → IsFrom s.next.letter ls
      → AllApply (released_changes s f row ls) s
  released_apply f j its row ls from = draw_apply s ls _ (λ n. unlock_apply (record s { next = n }) row _ (λ rows. (
    has_job f j its,
    sends_alone s.next.letter ls (apply (EndJob f) (record s { next = n; rows = rows })) from w.drawn.letters,
  )))

  failed_apply : (e : ℕ) (j : Job) → job_at s.jobs e ≡ Some j → (r : Row) (ls : List Letter) (f : Option Stack)
      → IsFrom s.next.letter ls
      → AllApply (failed_changes s e r ls f) s
  failed_apply e j its r ls f from = draw_apply s ls _ (λ n. (
    tt,
    (
      has_job e j its,
      sends_apply s.next.letter ls _ _ from w.drawn.letters (λ t same. failure_apply t f),
    ),
  ))

  left_apply : (e : ℕ) (j : Job) → job_at s.jobs e ≡ Some j → (r : Row) → AllApply (left_changes e r) s
  left_apply e j its r = (tt, (has_job e j its, tt))

  purged_apply : (j : Job) (r : Row) → row_at s.rows j.row ≡ Some r → AllApply (purged_changes j r) s
  purged_apply j r at = (has_row j.row r at, (tt, tt))

  -- a token is given up once
  retained_apply : (j : Job) (r : Row) → row_at s.rows j.row ≡ Some r → AllApply (retained_changes j r) s
  retained_apply j r at = (
    (λ c. w.cloud.rowless (token_of r) r c
        (subst (λ (n : ℕ). row_at s.rows n ≡ Some r) (sym (row-key s.rows j.row r at)) at) refl),
    (has_row j.row r at, (tt, tt)),
  )

  module _ (e : ℕ) (k : Finishes s e) where
    whole : IsWithin k.fresh.graph.graph
    whole = (w.graphs k.job.letter.stack k.fresh.graph (rw k.fresh.names.in_table refl) k.fresh.names.its_graph).ends

    -- the node and those behind it are the graph's
    node_within : (n : ℕ) → Contains (k.job.letter.node ∷ k.succs) n → n < length k.fresh.graph.graph.nodes
    node_within n c = elim (cons_cases k.succs k.job.letter.node n c) [
      | inl is ↦
          (let lt = slice_get_within k.fresh.graph.graph.nodes k.job.letter.node k.fresh.node k.fresh.names.its_node in
          omega (arith, lt, is))
      | inr succ ↦ (All-contains (λ ((before, after) : ℕ × ℕ). (before < length k.fresh.graph.graph.nodes)
          × (after < length k.fresh.graph.graph.nodes)) k.fresh.graph.graph.edges (k.job.letter.node, n) whole
          ((k.behind.each n).0 succ)).1
    ]

    -- the points that change are of these
    each_point : (p : Point) → Contains (passed_points k.fresh.graph k.job.letter.node (given_input s e k) k.succs) p
        → IsPointOf k.job.letter.stack (length k.fresh.graph.graph.nodes) p
    each_point p c = let (n, among, is) =
        mapped (point_after k.fresh.graph k.job.letter.node (given_input s e k) k.succs)
        (k.job.letter.node ∷ k.succs) p c in record {
          stack = ap (λ (x : Point). x.stack) is
              ∙ graph-key s.graphs k.job.letter.stack k.fresh.graph k.fresh.names.its_graph;
          node = subst (λ (x : Point). x.node < length k.fresh.graph.graph.nodes) (sym is) (node_within n among);
        }

    finished_apply : (mark : List Change) → ((t : StateData) → t.stacks ≡ s.stacks → AllApply mark t)
        → AllApply (finished_changes s e k mark) s
    finished_apply mark more =
        draw_apply s (ready_letters s e k) _ (λ n. unlock_apply (record s { next = n }) k.fresh.row _ (λ rows. (
          has_job e k.job k.works.its,
          points_apply k.job.letter.stack (length k.fresh.graph.graph.nodes)
              (passed_points k.fresh.graph k.job.letter.node (given_input s e k) k.succs) _
              (apply (EndJob e) (record s { next = n; rows = rows })) each_point
              (record { graph = k.fresh.graph; found = k.fresh.names.its_graph; size = refl })
              (λ graphs. sends_apply s.next.letter (ready_letters s e k) mark _
              (letters_from k.fresh.stack s.next.letter k.ready)
              w.drawn.letters more),
        )))

  take_apply : (e : ℕ) (k : Takes s e) → IsSome (letter_at s.letters k.letter.no)
  take_apply e k = rw k.next.first.waits refl

  pub move_apply : (e : ℕ) (given : Given) (failed : Option Stack) (cs : List Change) (es : List Entry)
      → Move s e given failed cs es
      → AllApply cs s
  move_apply e given failed cs es m = by given failed cs es m where
    as_is : (cs ds : List Change) → cs ≡ ds → AllApply ds s → AllApply cs s
    as_is cs ds c goal = subst (λ (x : List Change). AllApply x s) (sym c) goal

    by : (given : Given) (failed : Option Stack) (cs : List Change) (es : List Entry) → Move s e given failed cs es
        → AllApply cs s
    by _ _ cs es (take_dropped l _ _ t i c d) = as_is cs _ c (rw t.first.waits refl, tt)
    by _ _ cs es (take_free k _ _ free c d) =
        as_is cs _ c (lock_apply s k.meant.fresh.row e _ (λ rows. (take_apply e k, (tt, tt))))
    by _ _ cs es (take_stolen k f j _ _ holds n c d) = as_is cs _ c
        (lock_apply s k.meant.fresh.row e _ (λ rows. (take_apply e k, (has_job f j holds.its, (tt, tt)))))
    by _ _ cs es (begin_overrun j _ _ v k c d) = as_is cs _ c
        (released_apply e j v.its k.row k.letters (resends_from s j.letter.stack j.row k.letters k.resends))
    by _ _ cs es (begin_faulted k code path f _ _ falls c d) = as_is cs _ c
        (apply-append (left_changes e k.row) _ s (left_apply e k.job k.works.its k.row) (failure_apply _ f))
    by _ _ cs es (begin_init k props effect _ _ i c d) = as_is cs _ c (tt, (tt, tt))
    by _ _ cs es (begin_same k props effect _ _ n i x c d) = as_is cs _ c (tt, (tt, tt))
    by _ _ cs es (begin_in_place k props effect _ _ n i x c d) = as_is cs _ c (tt, (tt, tt))
    by _ _ cs es (begin_resumed k props effect _ _ n i x c d) = as_is cs _ c (tt, tt)
    by _ _ cs es (begin_failed k props effect _ _ n i x c d) = as_is cs _ c (left_apply e k.job k.works.its k.row)
    by _ _ cs es (begin_replaced k props effect _ _ n x c d) = as_is cs _ c (
      record { stack = omega arith; trav = omega arith; row = omega arith; engine = omega arith; letter = omega arith },
      (tt, (tt, (tt, tt))),
    )
    by _ _ cs es (clean_gone k _ _ at c d) = as_is cs _ c (tt, tt)
    by _ _ cs es (clean_kept k r _ _ at x c d) = as_is cs _ c (tt, tt)
    by _ _ cs es (clean_init k r _ _ at x i c d) = as_is cs _ c (purged_apply k.job r at)
    by _ _ cs es (clean_stuck k r _ _ at x i c d) = as_is cs _ c (left_apply e k.job k.works.its r)
    by _ _ cs es (clean_retained k r _ _ at x n i p c d) = as_is cs _ c (retained_apply k.job r at)
    by _ _ cs es (clean_deleted k r _ _ at x n i p c d) = as_is cs _ c (tt, (tt, tt))
    by _ _ cs es (ask_begun k asked _ _ a c d) = as_is cs _ c (tt, tt)
    by _ _ cs es (ask_failed k asked g reason ls f _ _ a x falls c d) = as_is cs _ c
        (failed_apply e k.job k.works.its k.row ls f (falls_from s k.job ls f falls))
    by _ _ cs es (poll_waits k asked _ _ a c d) = as_is cs _ c tt
    by _ _ cs es (poll_ready k facts _ _ a c d) = as_is cs _ c (tt, (tt, tt))
    by _ _ cs es (poll_gone k _ _ a c d) = as_is cs _ c (purged_apply k.job k.row k.found)
    by _ _ cs es (poll_failed k asked g reason ls f _ _ a x falls c d) = as_is cs _ c
        (failed_apply e k.job k.works.its k.row ls f (falls_from s k.job ls f falls))
    by _ _ cs es (finish_overrun j _ _ v k c d) = as_is cs _ c
        (released_apply e j v.its k.row k.letters (resends_from s j.letter.stack j.row k.letters k.resends))
    by _ _ cs es (finish k _ _ n c d) = as_is cs _ c (finished_apply e k [] (λ t same. tt))
    by _ _ cs es (finish_last k _ _ y c d) = as_is cs _ c (finished_apply e k _ (λ t same. mark_apply t k.fresh.stack
        (subst (λ (l : List Stack). IsSome (stack_at l k.fresh.stack.name)) (sym same)
        (fresh_some s k.job.letter k.job.row k.fresh))))
    by _ _ cs es (takeover_overrun f j _ _ t k c d) = as_is cs _ c
        (released_apply f j t.left.its k.row k.letters (resends_from s j.letter.stack j.row k.letters k.resends))
    by _ _ cs es (takeover_fresh f k _ _ c d) = as_is cs _ c
        (released_apply f k.job k.next.left.its k.fresh.row (relayed_letter s e f k ∷ []) (refl, tt))

  -- a command, whose past is its stack's
  module _ (name : List ℕ) (items : List Item) (it : Sets) (k : Lays s name items) where
    abbrev stacks_then : List Stack
    stacks_then = put_stack (stack_set s name it InProgress) s.stacks

    abbrev past_then : StateData
    past_then = apply (PutPast it.past) (apply (PutStack (stack_set s name it InProgress))
        (apply (change_to.Numbers (past_command s.next it.stacks (length k.rows) (length k.leaves))) s))

    stands : IsSome (stack_at stacks_then name)
    stands = rw (stack_here (stack_set s name it InProgress) s.stacks) refl

    settled : (nodes : List Node) (t : StateData) → t.stacks ≡ stacks_then
        → AllApply (settles_at_once nodes s name it) t
    settled (node ∷ nodes) t same = tt
    settled [] t same = mark_apply t (stack_set s name it InProgress)
        (subst (λ (l : List Stack). IsSome (stack_at l name)) (sym same) stands)

    pub laid_apply : it.past.stack ≡ name → AllApply (laid_changes s name items it k) s
    laid_apply own = (
      record { stack = omega arith; trav = omega arith; row = omega arith; engine = omega arith; letter = omega arith },
      (
        tt,
        (
          subst (λ (n : List ℕ). IsSome (stack_at stacks_then n)) (sym own) stands,
          rows_apply past_then k.rows _ (λ rows. (
            (stands, laid_within s name items k),
            sends_apply s.next.letter (first_letters s name items it k) _ _
                (letters_from (stack_set s name it InProgress) s.next.letter k.leaves)
                w.drawn.letters (λ t same. settled k.graph.nodes t same),
          )),
        ),
      ),
    )

  command_apply : (cs : List Change) (es : List Entry) → Command s cs es → AllApply cs s
  command_apply cs es (create name plan rollback k p none few room c d) =
      subst (λ (x : List Change). AllApply x s) (sym c) (laid_apply name plan.items _ k refl)
  command_apply cs es (update st plan rollback k p at act room c d) =
      subst (λ (x : List Change). AllApply x s) (sym c) (laid_apply st.name plan.items _ k refl)
  command_apply cs es (delete st k at c d) = subst (λ (x : List Change). AllApply x s) (sym c)
      (laid_apply st.name [] _ k refl)
  command_apply cs es (cancel st k at forward under room c d) =
      subst (λ (x : List Change). AllApply x s) (sym c) (laid_apply st.name _ _ k refl)

-- a turn: its move, and the rollback behind it from the state that the move left
turn_apply : (o : Opening) (h : List Entry) (s : StateData) → Workable o h s
    → (e : ℕ) (given : Given) (cs : List Change) (es : List Entry)
    → Turn s e given cs es → AllApply cs s
turn_apply o h s w e given cs es t = let m = by_move s e given cs es t in by m m.whole where
  first : (m : ByMove s e given cs es) → AllApply m.first s
  first m = move_apply o h s w e given m.failed m.first m.firsts m.move

  by : (m : ByMove s e given cs es) → Whole s e m.failed m.first m.firsts cs es → AllApply cs s
  by m (stops p c d) = subst (λ (x : List Change). AllApply x s) (sym c) (first m)
  by m (follows st last lasts is due k c d) =
      let mid = move_workable o h s w e given m.failed m.first m.firsts m.move in
      let more = laid_apply o (h ++ m.firsts) (applied m.first s) mid k.failed.name
      (plan_back (applied m.first s) k.failed).items
      (rollback_sets (applied m.first s) k.failed (Engine e)) k.lays refl in
      subst (λ (x : List Change). AllApply x s) (sym c) (apply-append m.first last s (first m)
      (subst (λ (x : List Change). AllApply x (applied m.first s)) (sym k.changes) more))

-- engines that stop and start
pub enlist_apply : (s : StateData) → AllBelow s.next.engine s.live
    → AllApply (change_to.Numbers (past_engines s.next 1) ∷ Enlist s.next.engine ∷ []) s
enlist_apply s low = (
  record { stack = omega arith; trav = omega arith; row = omega arith; engine = omega arith; letter = omega arith },
  ((λ c. let lt = low s.next.engine c in omega (arith, lt)), tt),
)

pub restart_apply : (s : StateData) (count : ℕ) → AllBelow s.next.engine s.live → EachOnce s.live
    → AllApply (restart_changes s count) s
restart_apply s count low once = (
  record { stack = omega arith; trav = omega arith; row = omega arith; engine = omega arith; letter = omega arith },
  stops_apply s.live (map Enlist (engines_from s.next.engine count))
      (apply (change_to.Numbers (past_engines s.next count)) s)
      s.next.engine once (λ e c. c) low (λ u same under. enlists_apply s.next.engine count u under),
)

pub steps_apply : StepsApply
steps_apply o h s cs es w (command it fits) = command_apply o h s w cs es it
steps_apply o h s cs es w (turn e given it fits) = turn_apply o h s w e given cs es it
steps_apply o h s cs es w (unstored e given lost all call_ it some fits first c d) =
    subst (λ (x : List Change). AllApply x s) (sym c) tt
steps_apply o h s cs es w (stop e live c d) = subst (λ (x : List Change). AllApply x s) (sym c) (live, tt)
steps_apply o h s cs es w (enlist few below c d) = subst (λ (x : List Change). AllApply x s) (sym c)
    (enlist_apply s w.drawn.live)
steps_apply o h s cs es w (restart count some few below c d) = subst (λ (x : List Change). AllApply x s) (sym c)
    (restart_apply s count w.drawn.live w.once)
steps_apply o h s cs es w (note it noted c d) = subst (λ (x : List Change). AllApply x s) (sym c) tt
steps_apply o h s cs es w (close c d) = subst (λ (x : List Change). AllApply x s) (sym c) tt
