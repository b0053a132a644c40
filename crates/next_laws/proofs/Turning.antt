-- A turn exists for whatever suits the engine's next step.
use Rattle.std.proofs.Common.{◌≡◌, ◌≢◌, inl, inr, ℕ, List, [], ◌++◌, length, Option, Some, None, refl}
use Rattle.std.specs.Prelude.{Contains, slice_get}
use Rattle.std.proofs.lemmas.Option.{slice_get_within}
use Rattle.heat_value.specs.Data.{Members}
use Rattle.heat_value.specs.declared.path.Step.{Step}
use Rattle.heat_plan.specs.declared.calls.Answered.{Answered}
use Rattle.heat_plan.specs.declared.calls.Request.{Request}
use Rattle.heat_plan.specs.declared.phase.Act.{Act}
use Rattle.heat_plan.specs.declared.phase.Act.TheVariants.{Create, Delete, Init, Rollback, Update}
use Rattle.heat_plan.specs.declared.phase.Status.TheVariants.{Failed}
use Rattle.traversal_graph.specs.Builds.{Joins}
use Rattle.traversal_graph.specs.declared.shape.Node.{Node}
use Rattle.row_table.specs.Rows.{row_at}
use Rattle.row_table.specs.declared.row.Row.{Row}
use Rattle.mail_table.specs.declared.mail.Job.{Job}
use Rattle.mail_table.specs.declared.mail.Letter.{Letter}
use Rattle.mail_table.specs.declared.mail.Stage.TheVariants.{Asking, Ending, Polling}
use Rattle.core_state.specs.Changes.{applied}
use Rattle.core_state.specs.Reads.{IsDone, IsReady}
use Rattle.core_state.specs.State.{StateData, stack_at}
use Rattle.core_state.specs.declared.change.Change.{Change}
use Rattle.core_state.specs.declared.entry.Actor.TheVariants.{Engine}
use Rattle.core_state.specs.declared.entry.Entry.{Entry}
use Rattle.core_state.specs.declared.entry.Why.{Why}
use Rattle.core_state.specs.declared.graph.Graph.{Graph}
use Rattle.core_state.specs.declared.stack.Stack.{Stack}
use Rattle.type_catalog.specs.declared.effect.Effect.{Effect}
use Rattle.history_laws.specs.Asks.{Asks, Calls, Falls, Polls, Refuses, by_code, by_failure, by_quota, marked, marks}
use Rattle.history_laws.specs.Asks.{overrun}
use Rattle.history_laws.specs.Begins.{Begins}
use Rattle.history_laws.specs.Cleanups.{Cleans}
use Rattle.history_laws.specs.Commands.{laid_changes, laid_entries}
use Rattle.history_laws.specs.Finishes.{Finishes, Settles, graph_then}
use Rattle.history_laws.specs.Freshness.{IsFresh, IsOverrun}
use Rattle.history_laws.specs.Given.{Answer, Faulted, Given, Nothing, Prepared}
use Rattle.history_laws.specs.Inputs.{AllDone, input_of, passed}
use Rattle.history_laws.specs.Moves.{Move, ask_begun, ask_failed, begin_failed, begin_faulted, begin_in_place}
use Rattle.history_laws.specs.Moves.{begin_init, begin_overrun, begin_replaced, begin_resumed, begin_same}
use Rattle.history_laws.specs.Moves.{clean_deleted, clean_gone, clean_init, clean_kept, clean_retained, clean_stuck}
use Rattle.history_laws.specs.Moves.{finish, finish_last, finish_overrun, poll_failed, poll_gone, poll_ready}
use Rattle.history_laws.specs.Moves.{poll_waits, take_dropped, take_free, take_stolen, takeover_fresh}
use Rattle.history_laws.specs.Moves.{takeover_overrun}
use Rattle.history_laws.specs.Nexts.{TakesNext, TakesOver, Works}
use Rattle.history_laws.specs.Orders.{IsForward, of_create, of_update, past_of, plan_back, rollback_sets}
use Rattle.history_laws.specs.Takes.{Releases, Takes, done, held, outdated}
use Rattle.history_laws.specs.Turns.{IsDue, Turn, plain, rolls, stays, unfailed}
use Rattle.history_laws.proofs.tables.Rows.{same_or_not, stack-key, stack_here}
use Rattle.next_laws.proofs.Verdicts.{Clears, Decides, Fate, Lot, creates, deletes, gone, keeps, kept, leaves, purges}
use Rattle.next_laws.proofs.Verdicts.{replaces, resumes, retains, sticks, updates}
use Rattle.next_laws.specs.HasTurn.{TurnExists}
use Rattle.next_laws.specs.Suits.{MayAnswer, Suits, asks, cleans, ends, faults, overruns, polls, prepares, takes}
use Rattle.next_laws.specs.Suits.{takes_over}
use Rattle.next_laws.proofs.Collect.{all_of}
use Rattle.next_laws.proofs.Decide.{Decided, all_or_one, both_or_not, bound_of, exchanged, flag_or_not, le_or_not}
use Rattle.next_laws.proofs.Decide.{member_or_not, pair_or_not}
use Rattle.next_laws.proofs.Fates.{fate_exists, lot_exists}
use Rattle.next_laws.proofs.Layings.{lays_exist}
use Rattle.next_laws.proofs.Sights.{done_or_not, fresh_or_not, holder_or_none, meant_or_not, ready_or_not}
use Rattle.next_laws.proofs.Waiting.{falls_exist, progress_or_not, resends_exist}
use Rattle.history_laws.specs.Asks as call
use Rattle.history_laws.specs.Freshness as work
use Rattle.next_laws.specs.Suits as may
use Rattle.heat_plan.specs.declared.calls.Request.TheVariants as request

pub record HasTurn (s : StateData) (e : ℕ) (given : Given) : Type 0 where
  pub changes : List Change
  pub entries : List Entry
  pub turn : Turn s e given changes entries

-- a move that marks nothing is a turn
module _ (s : StateData) (e : ℕ) where
  quiet : (given : Given) (cs : List Change) (es : List Entry) → Move s e given None cs es → HasTurn s e given
  quiet given cs es m = record { changes = cs; entries = es; turn = plain None m unfailed }

  forward_or_not : (act : Act) → Decided (IsForward act)
  forward_or_not Init = inr (λ k. not_init k) where
    not_init : IsForward Init → ⊥
    not_init k = elim k [ ]
  forward_or_not Create = inl of_create
  forward_or_not Update = inl of_update
  forward_or_not Delete = inr (λ k. not_delete k) where
    not_delete : IsForward Delete → ⊥
    not_delete k = elim k [ ]
  forward_or_not Rollback = inr (λ k. not_rollback k) where
    not_rollback : IsForward Rollback → ⊥
    not_rollback k = elim k [ ]

  due_or_not : (t : StateData) (st : Stack) → Decided (IsDue t st)
  due_or_not t st = exchanged (λ p. record { forward = p.0.0; asked = p.0.1; room = p.1 })
      (λ k. ((k.forward, k.asked), k.room))
      (both_or_not (both_or_not (forward_or_not st.act) (flag_or_not (past_of t st.name).rollback)) (le_or_not _ _))

  -- one that marks a stack is one, alone or with what follows
  marking : (given : Given) (st : Stack) (cs : List Change) (es : List Entry) → Move s e given (Some st) cs es
      → (failed : Stack) → stack_at (applied cs s).stacks st.name ≡ Some failed → HasTurn s e given
  marking given st cs es m failed found = elim (due_or_not (applied cs s) st) [
    | inr not ↦ record { changes = cs; entries = es; turn = plain (Some st) m (stays st not) }
    | inl due ↦ let t = applied cs s in let lays = lays_exist t failed.name (plan_back t failed).items in record {
      changes = cs ++ laid_changes t failed.name (plan_back t failed).items (rollback_sets t failed (Engine e)) lays;
      entries = es ++ laid_entries t failed.name (plan_back t failed).items (rollback_sets t failed (Engine e)) lays;
      turn = rolls st cs _ es _ m due
          (record {
            failed = failed;
            is = found;
            its_name = stack-key t.stacks st.name failed found;
            lays = lays;
            changes = refl;
            entries = refl;
          }) refl refl;
    }
  ]

-- takes
take_turn : (s : StateData) (e : ℕ) (l : Letter) → TakesNext s e l → HasTurn s e Nothing
take_turn s e l t = elim (meant_or_not s l) [
  | inr over ↦ quiet s e Nothing _ _ (take_dropped l _ _ t (outdated over) refl refl)
  | inl meant ↦ elim (done_or_not meant.fresh.graph l.node) [
    | inl is ↦ quiet s e Nothing _ _ (take_dropped l _ _ t (done meant is) refl refl)
    | inr open_ ↦ let k : Takes s e = record { letter = l; next = t; meant = meant; open_ = open_ } in
        elim (holder_or_none s.jobs meant.target) [
          | inr free ↦ quiet s e Nothing _ _ (take_free k _ _ free refl refl)
          | inl found ↦ let (f, j, holds) = found in elim (member_or_not same_or_not s.live f) [
            | inl live ↦ quiet s e Nothing _ _ (take_dropped l _ _ t (held meant f j holds live) refl refl)
            | inr stopped ↦ quiet s e Nothing _ _ (take_stolen k f j _ _ holds stopped refl refl)
          ]
        ]
  ]
]

-- what the release of an overrun job needs
releases_of : (s : StateData) (f : ℕ) (j : Job) → IsOverrun s j → Releases s f j
releases_of s f j over =
    let (ls, sends) = resends_exist s j.letter.stack j.row in
    record { row = row_at s.rows j.row; found = refl; overrun = over; letters = ls; resends = sends }

take_over_turn : (s : StateData) (e f : ℕ) (j : Job) → TakesOver s e f j → HasTurn s e Nothing
take_over_turn s e f j t = elim (fresh_or_not s j.letter j.row) [
  | inr over ↦ quiet s e Nothing _ _ (takeover_overrun f j _ _ t (releases_of s f j over) refl refl)
  | inl fresh ↦ quiet s e Nothing _ _ (takeover_fresh f (record { job = j; next = t; fresh = fresh }) _ _ refl refl)
]

-- begins
prepared_turn : (s : StateData) (e : ℕ) (k : Begins s e) (props : Members) (effect : Effect)
    → HasTurn s e (Prepared props effect)
prepared_turn s e k props effect =
    let (fate, is) = fate_exists k.row k.item k.stack.trav props effect in by fate is
  where
    by : (fate : Fate) → Decides k.row k.item k.stack.trav props effect fate → HasTurn s e (Prepared props effect)
    by _ (creates new) = quiet s e _ _ _ (begin_init k props effect _ _ new refl refl)
    by _ (keeps begun is same) = quiet s e _ _ _ (begin_same k props effect _ _ begun is same refl refl)
    by _ (updates begun is soft) = quiet s e _ _ _ (begin_in_place k props effect _ _ begun is soft refl refl)
    by _ (resumes begun is newest) = quiet s e _ _ _ (begin_resumed k props effect _ _ begun is newest refl refl)
    by _ (leaves begun is newest) = quiet s e _ _ _ (begin_failed k props effect _ _ begun is newest refl refl)
    by _ (replaces begun goes) = quiet s e _ _ _ (begin_replaced k props effect _ _ begun goes refl refl)

fault_turn : (s : StateData) (e : ℕ) (k : Begins s e) (code : List ℕ) (path : List Step)
    → HasTurn s e (Faulted code path)
fault_turn s e k code path = elim (fresh_or_not s k.job.letter k.job.row) [
  | inr over ↦ absurd (over (begun_fresh s e k))
  | inl fresh ↦ elim (progress_or_not fresh.stack.status) [
    | inr not ↦ quiet s e _ _ _ (begin_faulted k code path None _ _ (marked fresh not) refl refl)
    | inl is ↦ marking s e _ fresh.stack _ _
        (begin_faulted k code path (Some fresh.stack) _ _ (marks fresh is) refl refl)
        (record fresh.stack { status = Failed }) (stack_here (record fresh.stack { status = Failed }) s.stacks)
  ]
] where
  begun_fresh : (s : StateData) (e : ℕ) (k : Begins s e) → IsFresh s k.job.letter k.job.row
  begun_fresh s e k = record {
    stack = k.stack;
    graph = k.graph;
    node = _;
    row = Some k.row;
    names = k.names;
    found = k.found;
    serves = work.updates k.name k.chosen k.item k.row k.asked k.kept;
  }

clean_turn : (s : StateData) (e : ℕ) → Cleans s e → HasTurn s e Nothing
clean_turn s e k = let (lot, is) = lot_exists s k.stack k.job.row (row_at s.rows k.job.row) refl in
    by (row_at s.rows k.job.row) refl lot is
  where
    by : (row : Option Row) → row_at s.rows k.job.row ≡ row → (lot : Lot) → Clears s k.stack row lot
        → HasTurn s e Nothing
    by _ at _ gone = quiet s e _ _ _ (clean_gone k _ _ at refl refl)
    by _ at _ (kept r is) = quiet s e _ _ _ (clean_kept k r _ _ at is refl refl)
    by _ at _ (purges r not new) = quiet s e _ _ _ (clean_init k r _ _ at not new refl refl)
    by _ at _ (sticks r not stuck) = quiet s e _ _ _ (clean_stuck k r _ _ at not stuck refl refl)
    by _ at _ (retains r not begun loose retained) =
        quiet s e _ _ _ (clean_retained k r _ _ at not begun loose retained refl refl)
    by _ at _ (deletes r not begun loose other) =
        quiet s e _ _ _ (clean_deleted k r _ _ at not begun loose other refl refl)

-- calls
ask_failing : (s : StateData) (e : ℕ) (k : Calls s e Asking) (asked : Request) (given : Answered) (reason : Why)
    → Asks k.row asked
    → Refuses k.row.act asked given reason → HasTurn s e (Answer given)
ask_failing s e k asked given reason a x = let (ls, f, falls) = falls_exist s k.job in by ls f falls
  where
    by : (ls : List Letter) (f : Option Stack) → Falls s k.job ls f → HasTurn s e (Answer given)
    by _ _ (overrun ls over sends) =
        quiet s e _ _ _ (ask_failed k asked given reason ls None _ _ a x (overrun ls over sends) refl refl)
    by _ _ (marked fresh not) =
        quiet s e _ _ _ (ask_failed k asked given reason [] None _ _ a x (marked fresh not) refl refl)
    by _ _ (marks fresh is) = marking s e _ fresh.stack _ _
        (ask_failed k asked given reason [] (Some fresh.stack) _ _ a x (marks fresh is) refl refl)
        (record fresh.stack { status = Failed }) (stack_here (record fresh.stack { status = Failed }) s.stacks)

poll_failing : (s : StateData) (e : ℕ) (k : Calls s e Polling) (asked : Request) (given : Answered) (reason : Why)
    → Polls k.row asked
    → Refuses k.row.act asked given reason → HasTurn s e (Answer given)
poll_failing s e k asked given reason a x = let (ls, f, falls) = falls_exist s k.job in by ls f falls
  where
    by : (ls : List Letter) (f : Option Stack) → Falls s k.job ls f → HasTurn s e (Answer given)
    by _ _ (overrun ls over sends) =
        quiet s e _ _ _ (poll_failed k asked given reason ls None _ _ a x (overrun ls over sends) refl refl)
    by _ _ (marked fresh not) =
        quiet s e _ _ _ (poll_failed k asked given reason [] None _ _ a x (marked fresh not) refl refl)
    by _ _ (marks fresh is) = marking s e _ fresh.stack _ _
        (poll_failed k asked given reason [] (Some fresh.stack) _ _ a x (marks fresh is) refl refl)
        (record fresh.stack { status = Failed }) (stack_here (record fresh.stack { status = Failed }) s.stacks)

ask_turn : (s : StateData) (e : ℕ) (k : Calls s e Asking) (asked : Request) (given : Answered) → Asks k.row asked
    → MayAnswer asked given
    → HasTurn s e (Answer given)
ask_turn s e k asked given a (may.create_begun kind props) = quiet s e _ _ _ (ask_begun k _ _ _ a refl refl)
ask_turn s e k asked given a (may.create_quota kind props) = ask_failing s e k _ _ _ a (by_quota kind props)
ask_turn s e k asked given a (may.update_begun props) = quiet s e _ _ _ (ask_begun k _ _ _ a refl refl)
ask_turn s e k asked given a may.delete_begun = quiet s e _ _ _ (ask_begun k _ _ _ a refl refl)
ask_turn s e k asked given a (may.failed _) = ask_failing s e k _ _ _ a (by_failure asked)
ask_turn s e k asked given a may.poll_waits = absurd (no_poll a) where
  no_poll : Asks k.row request.Poll → ⊥
  no_poll x = elim x [ ]
ask_turn s e k asked given a (may.poll_ready facts) = absurd (no_poll a) where
  no_poll : Asks k.row request.Poll → ⊥
  no_poll x = elim x [ ]
ask_turn s e k asked given a (may.poll_broken code) = absurd (no_poll a) where
  no_poll : Asks k.row request.Poll → ⊥
  no_poll x = elim x [ ]
ask_turn s e k asked given a may.gone_waits = absurd (no_gone a) where
  no_gone : Asks k.row request.Gone → ⊥
  no_gone x = elim x [ ]
ask_turn s e k asked given a may.gone = absurd (no_gone a) where
  no_gone : Asks k.row request.Gone → ⊥
  no_gone x = elim x [ ]

polls_alive : (r : Row) → Polls r request.Poll → r.act ≢ Delete
polls_alive r (call.polls ne) = ne

looks_gone : (r : Row) → Polls r request.Gone → r.act ≡ Delete
looks_gone r (call.looks is) = is

poll_turn : (s : StateData) (e : ℕ) (k : Calls s e Polling) (asked : Request) (given : Answered) → Polls k.row asked
    → MayAnswer asked given
    → HasTurn s e (Answer given)
poll_turn s e k asked given a may.poll_waits = quiet s e _ _ _ (poll_waits k _ _ _ a refl refl)
poll_turn s e k asked given a (may.poll_ready facts) =
    quiet s e _ _ _ (poll_ready k facts _ _ (polls_alive k.row a) refl refl)
poll_turn s e k asked given a (may.poll_broken code) = poll_failing s e k _ _ _ a (by_code code)
poll_turn s e k asked given a may.gone_waits = quiet s e _ _ _ (poll_waits k _ _ _ a refl refl)
poll_turn s e k asked given a may.gone = quiet s e _ _ _ (poll_gone k _ _ (looks_gone k.row a) refl refl)
poll_turn s e k asked given a (may.failed _) = poll_failing s e k _ _ _ a (by_failure asked)
poll_turn s e k asked given a (may.create_begun kind props) = absurd (no_create a) where
  no_create : Polls k.row (request.Create kind props) → ⊥
  no_create x = elim x [ ]
poll_turn s e k asked given a (may.create_quota kind props) = absurd (no_create a) where
  no_create : Polls k.row (request.Create kind props) → ⊥
  no_create x = elim x [ ]
poll_turn s e k asked given a (may.update_begun props) = absurd (no_update a) where
  no_update : Polls k.row (request.Update props) → ⊥
  no_update x = elim x [ ]
poll_turn s e k asked given a may.delete_begun = absurd (no_delete a) where
  no_delete : Polls k.row request.Delete → ⊥
  no_delete x = elim x [ ]

-- finishes
all_done_or_not : (g : Graph) → Decided (AllDone g)
all_done_or_not g = elim (all_or_one (λ i. (node : Node) → slice_get g.graph.nodes i ≡ Some node → IsDone g i) done_if
    (length g.graph.nodes)) [
      | inl all ↦ inl (λ i node at. all i (slice_get_within g.graph.nodes i node at) node at)
      | inr one ↦ let (i, not) = one in inr (λ all. not (all i))
    ] where
      done_if : (i : ℕ) → Decided ((node : Node) → slice_get g.graph.nodes i ≡ Some node → IsDone g i)
      done_if i = by (slice_get g.graph.nodes i) refl where
        by : (o : Option Node) → slice_get g.graph.nodes i ≡ o
            → Decided ((node : Node) → slice_get g.graph.nodes i ≡ Some node → IsDone g i)
        by None none = inl (λ node at. cc)
        by (Some node) at = elim (done_or_not g i)
            [ inl is ↦ inl (λ x y. is) | inr not ↦ inr (λ all. not (all node at)) ]

module _ (s : StateData) (e : ℕ) (j : Job) (w : Works s e j Ending) (fresh : IsFresh s j.letter j.row) where
  finishes : Finishes s e
  finishes =
      let edges = fresh.graph.graph.edges in
      let (b, within) = bound_of (λ (x : ℕ × ℕ). x.1) edges in
      let (succs, behind) = all_of (Joins edges j.letter.node)
      (λ k. member_or_not pair_or_not edges (j.letter.node, k)) b (λ k c. within (j.letter.node, k) c) in
      let g = passed fresh.graph j.letter.node (input_of j.letter.node fresh.node j.row fresh.row) succs in
      let (b', within') = bound_of (λ (k : ℕ). k) succs in
      let (ready, are) = all_of (λ k. Contains succs k × IsReady g k)
      (λ k. both_or_not (member_or_not same_or_not succs k) (ready_or_not g k)) b' (λ k c. within' k c.0) in
      record { job = j; works = w; fresh = fresh; succs = succs; behind = behind; ready = ready; ready_are = are }

  settles_or_not : (k : Finishes s e) → Decided (Settles s e k)
  settles_or_not k = exchanged (λ p. record { all = p.0; unmarked = p.1 }) (λ x. (x.all, x.unmarked))
      (both_or_not (all_done_or_not (graph_then s e k)) (progress_or_not k.fresh.stack.status))

  finish_turn : HasTurn s e Nothing
  finish_turn = elim (settles_or_not finishes) [
    | inl yes_ ↦ quiet s e _ _ _ (finish_last finishes _ _ yes_ refl refl)
    | inr not ↦ quiet s e _ _ _ (finish finishes _ _ not refl refl)
  ]

end_turn : (s : StateData) (e : ℕ) (j : Job) → Works s e j Ending → HasTurn s e Nothing
end_turn s e j w = elim (fresh_or_not s j.letter j.row) [
  | inr over ↦ quiet s e _ _ _ (finish_overrun j _ _ w (releases_of s e j over) refl refl)
  | inl fresh ↦ finish_turn s e j w fresh
]

turn_of : (s : StateData) (e : ℕ) (given : Given) → Suits s e given → HasTurn s e given
turn_of s e given (takes l t) = take_turn s e l t
turn_of s e given (takes_over f j t) = take_over_turn s e f j t
turn_of s e given (overruns j w over) = quiet s e _ _ _ (begin_overrun j _ _ w (releases_of s e j over) refl refl)
turn_of s e given (cleans k) = clean_turn s e k
turn_of s e given (ends j w) = end_turn s e j w
turn_of s e given (prepares k props effect) = prepared_turn s e k props effect
turn_of s e given (faults k code path) = fault_turn s e k code path
turn_of s e given (asks k asked _ a m) = ask_turn s e k asked _ a m
turn_of s e given (polls k asked _ a m) = poll_turn s e k asked _ a m

pub turn_exists : TurnExists
turn_exists s e given k = let t = turn_of s e given k in (t.changes, t.entries, t.turn)
