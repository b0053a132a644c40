-- Each move is on one stack: that of its letter or job.
use Rattle.std.proofs.Common.{◌≡◌, ℕ, List, [], ◌∷◌, ◌++◌, map, Option, Some, None, refl, sym, ap, ◌∙◌, subst, arith}
use Rattle.std.specs.List.{AllByRecursion}
use Rattle.std.proofs.lemmas.List.{append-nil}
use Rattle.heat_value.specs.Data.{Members}
use Rattle.row_table.specs.Rows.{put_row, row_at}
use Rattle.row_table.specs.declared.row.Row.{Row}
use Rattle.sync_points.specs.declared.point.Input.{Input}
use Rattle.sync_points.specs.declared.point.Point.{Point}
use Rattle.mail_table.specs.Mails.{job_at, letter_at}
use Rattle.mail_table.specs.declared.mail.Job.{Job}
use Rattle.mail_table.specs.declared.mail.Letter.{Letter}
use Rattle.mail_table.specs.declared.mail.Stage.{Stage}
use Rattle.mail_table.specs.declared.mail.Stage.TheVariants.{Asking, Ending, Polling}
use Rattle.step_relation.specs.Changes.{applied, apply}
use Rattle.step_relation.specs.State.{StateData}
use Rattle.step_relation.specs.declared.Change.{Change}
use Rattle.step_relation.specs.declared.Change.TheVariants.{Drop, DropRow, EndJob, PutJob, PutRow, Send}
use Rattle.step_relation.specs.declared.Numbers.{Numbers}
use Rattle.step_relation.specs.declared.Stack.{Stack}
use Rattle.step_relation.specs.Asks.{Falls, failed_changes, marked, marks, overrun}
use Rattle.step_relation.specs.Begins.{Begins, moved_job, next_row, past_row, replaced_changes}
use Rattle.step_relation.specs.Finishes.{Finishes, finished_changes, given_input, ready_letters}
use Rattle.step_relation.specs.Inputs.{passed_points, point_after}
use Rattle.step_relation.specs.Moves.{ask_begun, ask_failed, begin_failed, begin_faulted, begin_in_place, begin_init}
use Rattle.step_relation.specs.Moves.{begin_overrun, begin_replaced, begin_resumed, begin_same, clean_deleted}
use Rattle.step_relation.specs.Moves.{clean_gone, clean_init, clean_kept, clean_retained, clean_stuck, finish}
use Rattle.step_relation.specs.Moves.{finish_last, finish_overrun, poll_failed, poll_gone, poll_ready, poll_waits}
use Rattle.step_relation.specs.Moves.{take_dropped, take_free, take_stolen, takeover_fresh, takeover_overrun}
use Rattle.step_relation.specs.Resends.{Resends, cleanup, nobody, update}
use Rattle.step_relation.specs.Rows.{failed_row, replaced, token_of, unlocked}
use Rattle.step_relation.specs.Takes.{Takes, relayed_letter, released_changes, taken_job}
use Rattle.step_relation.specs.Writes.{lock, mark_complete, mark_failed, unlock, with_stage}
use Rattle.step_relation.specs.Elsewhere.{Elsewhere}
use Rattle.step_relation.specs.Linked.{IsOf, Links, by_job, by_row}
use Rattle.step_relation.specs.Sound.{Standing}
use Rattle.history_laws.specs.frames.Laws.{MovesAreOnOne}
use Rattle.history_laws.proofs.frames.Pieces.{IsNew, MarksOwn, completes, draws, ends_here, fails, letters_new, locks, older}
use Rattle.history_laws.proofs.frames.Pieces.{over, points, restages, sends, unlocks}
use Rattle.history_laws.proofs.tables.Facts.{job_row_stack, named_owned, target_owned}
use Rattle.history_laws.proofs.tables.Frame.{nowhere, on_drop, on_end, on_job, on_numbers, on_release, on_row, on_row_gone, then}
use Rattle.history_laws.proofs.tables.Rows.{graph-key, job_cut, row-key, row_else, row_self, same_some, stack-key}

module _ (s : StateData) (S : Standing s) (e : ℕ) (j : Job) (its : job_at s.jobs e ≡ Some j) where
  h : Links s
  h = S.links

  abbrev own : List ℕ
  own = j.letter.stack

  row_own : (q : Row) → row_at s.rows j.row ≡ Some q → q.stack ≡ j.letter.stack
  row_own q at = job_row_stack s h e j q its at

  onward : (stage : Stage) → Elsewhere j.letter.stack s (applied (PutJob (with_stage stage j) ∷ []) s)
  onward stage = restages s e j (with_stage stage j) its refl refl

  begun : (stage : Stage) (r q : Row) → row_at s.rows j.row ≡ Some r → q.no ≡ r.no → q.stack ≡ r.stack
      → Elsewhere j.letter.stack s (applied (PutRow q ∷ PutJob (with_stage stage j) ∷ []) s)
  begun stage r q at same called =
      then _ s (apply (PutRow q) s) _
      (over j.letter.stack s r q (subst (λ (n : ℕ). row_at s.rows n ≡ Some r)
      (sym (same ∙ row-key s.rows j.row r at)) at) (row_own r at) (called ∙ row_own r at))
      (restages (apply (PutRow q) s) e j (with_stage stage j) its refl refl)

  left : (r q : Row) → row_at s.rows j.row ≡ Some r → q.no ≡ r.no → q.stack ≡ r.stack → (rest : List Change)
      → ((t : StateData) → Elsewhere j.letter.stack t (applied rest t))
      → Elsewhere j.letter.stack s (applied (PutRow q ∷ EndJob e ∷ rest) s)
  left r q at same called rest more =
      then _ s (apply (PutRow q) s) _
      (over j.letter.stack s r q (subst (λ (n : ℕ). row_at s.rows n ≡ Some r)
      (sym (same ∙ row-key s.rows j.row r at)) at) (row_own r at) (called ∙ row_own r at))
      (then _ _ (apply (EndJob e) (apply (PutRow q) s)) _ (ends_here (apply (PutRow q) s) e j its) (more _))

  purged : (stage : Stage) (r : Row) → row_at s.rows j.row ≡ Some r
      → Elsewhere j.letter.stack s (applied (DropRow r.no ∷ PutJob (with_stage stage j) ∷ []) s)
  purged stage r at =
      then _ s (apply (DropRow r.no) s) _
      (on_row_gone j.letter.stack s r.no
      (λ o at_o. row_own o (subst (λ (n : ℕ). row_at s.rows n ≡ Some o) (row-key s.rows j.row r at) at_o)))
      (restages (apply (DropRow r.no) s) e j (with_stage stage j) its refl refl)

  pub falls_own : (letters : List Letter) (failed : Option Stack) → Falls s j letters failed
      → MarksOwn j.letter.stack failed
  falls_own letters _ (overrun _ _ _) st is = cc
  falls_own _ _ (marked _ _) st is = cc
  falls_own _ _ (marks k _) st is =
      let same : k.stack ≡ st = cc in
      subst (λ (x : Stack). x.name ≡ j.letter.stack) same (stack-key s.stacks j.letter.stack k.stack k.names.in_table)

  resent_new : (number : ℕ) (letters : List Letter) → Resends s j.letter.stack number letters
      → AllByRecursion (IsNew j.letter.stack s.next.letter) letters
  resent_new number _ (update st g i has least) = letters_new j.letter.stack s.next.letter s.next.letter st (i ∷ [])
      (stack-key s.stacks _ st has.in_table) (omega arith)
  resent_new number _ (cleanup st g i has none least) = letters_new j.letter.stack s.next.letter s.next.letter st
      (i ∷ []) (stack-key s.stacks _ st has.in_table) (omega arith)
  resent_new number _ (nobody none none') = tt

  falls_new : (letters : List Letter) (failed : Option Stack) → Falls s j letters failed
      → AllByRecursion (IsNew j.letter.stack s.next.letter) letters
  falls_new _ _ (overrun letters stale resends) = resent_new j.row letters resends
  falls_new _ _ (marked _ _) = tt
  falls_new _ _ (marks k _) = tt

  sent : (letters : List Letter) → AllByRecursion (IsNew j.letter.stack s.next.letter) letters → (t : StateData)
      → t.letters ≡ s.letters
      → Elsewhere j.letter.stack t (applied (map Send letters) t)
  sent letters news t same =
      subst (λ (cs : List Change). Elsewhere j.letter.stack t (applied cs t)) (append-nil (map Send letters))
      (sends j.letter.stack s.next.letter t letters [] news
      (λ m l at ne. older j.letter.stack s h m l (subst (λ (x : List Letter). letter_at x m ≡ Some l) same at) ne)
      (λ u. nowhere j.letter.stack u))

  released : (r : Option Row) → row_at s.rows j.row ≡ r → (letters : List Letter)
      → AllByRecursion (IsNew j.letter.stack s.next.letter) letters
      → Elsewhere j.letter.stack s (applied (released_changes s e r letters) s)
  released r at letters news =
      draws j.letter.stack s letters (unlock r (EndJob e ∷ map Send letters)) (λ next up.
      unlocks (record s { next = next }) e j its row_own r at (map Send letters) (λ t same. sent letters news t same))

  call_failed : (r : Row) → row_at s.rows j.row ≡ Some r → (letters : List Letter) (failed : Option Stack)
      → Falls s j letters failed
      → Elsewhere j.letter.stack s (applied (failed_changes s e r letters failed) s)
  call_failed r at letters failed falls =
      draws j.letter.stack s letters (PutRow (failed_row r) ∷ EndJob e ∷ (map Send letters ++ mark_failed failed))
      (λ next up. fails_in next) where
        fails_in : (next : Numbers) → Elsewhere j.letter.stack (record s { next = next }) (applied
            (PutRow (failed_row r) ∷ EndJob e ∷ (map Send letters ++ mark_failed failed)) (record s { next = next }))
        fails_in next =
            let t = record s { next = next } in
            then _ (record s { next = next }) (apply (PutRow (failed_row r)) (record s { next = next })) _
            (over j.letter.stack (record s { next = next }) r (failed_row r) (row_self s.rows j.row r at) (row_own r at)
            (row_own r at))
            (then _ _ (apply (EndJob e) (apply (PutRow (failed_row r)) (record s { next = next }))) _
            (ends_here (apply (PutRow (failed_row r)) (record s { next = next })) e j its)
            (sends j.letter.stack s.next.letter _ letters (mark_failed failed) (falls_new letters failed falls)
            (older j.letter.stack s h)
            (λ u. fails j.letter.stack u failed (falls_own letters failed falls))))

-- a letter is taken
module _ (s : StateData) (S : Standing s) (e : ℕ) (k : Takes s e) where
  taken_own : IsOf s.rows s.graphs s.jobs k.meant.target k.letter.stack
  taken_own =
      target_owned s S.links k.letter.stack k.meant.fresh.node k.meant.target
      (named_owned s S k.letter k.meant.fresh.stack k.meant.fresh.graph k.meant.fresh.node k.meant.fresh.names)
      k.meant.to

  target_row_own : (q : Row) → row_at s.rows k.meant.target ≡ Some q → q.stack ≡ k.letter.stack
  target_row_own q at = S.links.owned.one k.meant.target q.stack k.letter.stack (by_row q at refl) taken_own

  dropped : (u : StateData) → u.letters ≡ s.letters → Elsewhere k.letter.stack u (apply (Drop k.letter.no) u)
  dropped u same = on_drop k.letter.stack u k.letter.no (λ o at.
      ap (λ (x : Letter). x.stack) (same_some o k.letter at
      (subst (λ (x : List Letter). letter_at x k.letter.no ≡ Some k.letter) (sym same) k.next.first.waits)))

  jobless : (u : StateData) → u.jobs ≡ s.jobs → (o : Job) → job_at u.jobs e ≡ Some o → ⊥
  jobless u same o at =
      let none : job_at u.jobs e ≡ None = subst (λ (x : List Job). job_at x e ≡ None) (sym same) k.next.jobless in cc

  taken : Elsewhere k.letter.stack s
      (applied (lock k.meant.fresh.row e (Drop k.letter.no ∷ PutJob (taken_job s e k) ∷ [])) s)
  taken = locks k.letter.stack s e k.meant.target k.meant.fresh.row k.meant.fresh.found target_row_own _
      (λ u letters jobs.
      then k.letter.stack u (apply (Drop k.letter.no) u) _ (dropped u letters)
      (on_job k.letter.stack (apply (Drop k.letter.no) u) (taken_job s e k) refl
      (λ o at. absurd (jobless u jobs o at))))

  stolen : (f : ℕ) (j : Job) → job_at s.jobs f ≡ Some j → j.row ≡ k.meant.target
      → Elsewhere k.letter.stack s
      (applied (lock k.meant.fresh.row e (Drop k.letter.no ∷ EndJob f ∷ PutJob (taken_job s e k) ∷ [])) s)
  stolen f j its on = locks k.letter.stack s e k.meant.target k.meant.fresh.row k.meant.fresh.found target_row_own _
      (λ u letters jobs.
      then k.letter.stack u (apply (Drop k.letter.no) u) _ (dropped u letters)
      (then k.letter.stack _ (apply (EndJob f) (apply (Drop k.letter.no) u)) _
      (on_end k.letter.stack (apply (Drop k.letter.no) u) f (λ o at.
      ap (λ (x : Job). x.letter.stack) (same_some o j at (subst (λ (x : List Job). job_at x f ≡ Some j) (sym jobs) its))
      ∙ thief))
      (on_job k.letter.stack (apply (EndJob f) (apply (Drop k.letter.no) u)) (taken_job s e k) refl
      (λ o at. absurd (jobless u jobs o (job_cut f u.jobs at).1))))) where
        thief : j.letter.stack ≡ k.letter.stack
        thief = S.links.owned.one k.meant.target j.letter.stack k.letter.stack (by_job f j its on refl) taken_own

-- a row is replaced
module _ (s : StateData) (S : Standing s) (e : ℕ) (k : Begins s e) (props : Members) where
  abbrev new : Row
  new = next_row s e k props

  abbrev old : Row
  old = replaced s.next.row k.row

  stack_is : k.stack.name ≡ k.job.letter.stack
  stack_is = stack-key s.stacks k.job.letter.stack k.stack k.names.in_table

  row_is : k.row.stack ≡ k.job.letter.stack
  row_is = job_row_stack s S.links e k.job k.row k.works.its k.found

  no_row : (o : Row) → row_at s.rows s.next.row ≡ Some o → ⊥
  no_row o at = let n = row-key s.rows s.next.row o at in
      let b = (S.links.numbered.rows s.next.row o at).no_ in omega arith

  still : row_at (put_row new s.rows) k.row.no ≡ Some k.row
  still =
      let l = (S.links.numbered.rows k.job.row k.row k.found).no_ in
      row_else new s.rows k.row.no (λ eq. let n : s.next.row ≡ k.row.no = eq in omega arith)
      ∙ row_self s.rows k.job.row k.row k.found

  -- the numbers rise last, since the new row has the number that was the next one
  replaces : Elsewhere k.job.letter.stack s (applied (replaced_changes s e k props) s)
  replaces =
      then _ s (apply (PutRow new) s) _
      (on_row k.job.letter.stack s new stack_is (λ o at. absurd (no_row o at)) (λ none. omega arith))
      (then _ _ (apply (PutRow old) (apply (PutRow new) s)) _
      (over k.job.letter.stack (apply (PutRow new) s) k.row old still row_is row_is)
      (then _ _ (apply (PutJob (moved_job s k.job)) (apply (PutRow old) (apply (PutRow new) s))) _
      (restages (apply (PutRow old) (apply (PutRow new) s)) e k.job (moved_job s k.job) k.works.its refl refl)
      (on_numbers _ _ (past_row s.next) (record {
        stack = omega arith;
        trav = omega arith;
        row = omega arith;
        engine = omega arith;
        letter = omega arith;
      }))))

-- a node is done
module _ (s : StateData) (S : Standing s) (e : ℕ) (k : Finishes s e) where
  graph_is : k.fresh.graph.stack ≡ k.job.letter.stack
  graph_is = graph-key s.graphs k.job.letter.stack k.fresh.graph k.fresh.names.its_graph

  points_own : (x : Input) (succs ks : List ℕ)
      → AllByRecursion (λ (p : Point). p.stack ≡ k.job.letter.stack)
      (map (point_after k.fresh.graph k.job.letter.node x succs) ks)
  points_own x succs [] = tt
  points_own x succs (n ∷ ns) = (graph_is, points_own x succs ns)

  done : (mark : List Change) → ((t : StateData) → Elsewhere k.job.letter.stack t (applied mark t))
      → Elsewhere k.job.letter.stack s (applied (finished_changes s e k mark) s)
  done mark and_mark =
      draws k.job.letter.stack s (ready_letters s e k) _ (λ next up.
      unlocks (record s { next = next }) e k.job k.works.its
      (row_own s S e k.job k.works.its) k.fresh.row k.fresh.found _ (λ t same.
      points k.job.letter.stack t (passed_points k.fresh.graph k.job.letter.node (given_input s e k) k.succs) _
      (points_own (given_input s e k) k.succs (k.job.letter.node ∷ k.succs)) (λ u same_u.
      sends k.job.letter.stack s.next.letter u (ready_letters s e k) mark
      (letters_new k.job.letter.stack s.next.letter s.next.letter k.fresh.stack k.ready
      (stack-key s.stacks k.job.letter.stack k.fresh.stack k.fresh.names.in_table) (omega arith))
      (λ m l at ne. older k.job.letter.stack s S.links m l
      (subst (λ (x : List Letter). letter_at x m ≡ Some l) (same_u ∙ same) at) ne) and_mark)))

  last : (t : StateData) → Elsewhere k.job.letter.stack t (applied (mark_complete k.fresh.stack) t)
  last t = subst (λ (x : List ℕ). Elsewhere x t (applied (mark_complete k.fresh.stack) t))
      (stack-key s.stacks k.job.letter.stack k.fresh.stack k.fresh.names.in_table)
      (completes t k.fresh.stack)

by_changes : (own : List ℕ) (s : StateData) (cs ds : List Change) → cs ≡ ds → Elsewhere own s (applied ds s)
    → Elsewhere own s (applied cs s)
by_changes own s cs ds is now = subst (λ (xs : List Change). Elsewhere own s (applied xs s)) (sym is) now

pub moves_on_one : MovesAreOnOne
moves_on_one s e given failed cs es S (take_dropped l _ _ next idle is _) =
    by_changes _ s cs _ is
    (on_drop l.stack s l.no (λ o at. ap (λ (x : Letter). x.stack) (same_some o l at next.first.waits)))
moves_on_one s e given failed cs es S (take_free k _ _ free is _) = by_changes _ s cs _ is (taken s S e k)
moves_on_one s e given failed cs es S (take_stolen k f j _ _ holder stopped is _) =
    by_changes _ s cs _ is (stolen s S e k f j holder.its holder.has)
moves_on_one s e given failed cs es S (begin_overrun j _ _ works k is _) =
    by_changes _ s cs _ is (released s S e j works.its k.row k.found k.letters
    (resent_new s S e j works.its j.row k.letters k.resends))
moves_on_one s e given failed cs es S (begin_faulted k code path mark _ _ falls is _) =
    by_changes _ s cs _ is (left s S e k.job k.works.its k.row (unlocked k.row) k.found refl refl (mark_failed mark)
    (λ t. fails k.job.letter.stack t mark (falls_own s S e k.job k.works.its [] mark falls)))
moves_on_one s e given failed cs es S (begin_init k props effect _ _ init is _) =
    by_changes _ s cs _ is (begun s S e k.job k.works.its Asking k.row _ k.found refl refl)
moves_on_one s e given failed cs es S (begin_same k props effect _ _ act complete same is _) =
    by_changes _ s cs _ is (begun s S e k.job k.works.its Ending k.row _ k.found refl refl)
moves_on_one s e given failed cs es S (begin_in_place k props effect _ _ act complete soft is _) =
    by_changes _ s cs _ is (begun s S e k.job k.works.its Asking k.row _ k.found refl refl)
moves_on_one s e given failed cs es S (begin_resumed k props effect _ _ act status newest is _) =
    by_changes _ s cs _ is (onward s S e k.job k.works.its Asking)
moves_on_one s e given failed cs es S (begin_failed k props effect _ _ act status newest is _) =
    by_changes _ s cs _ is (left s S e k.job k.works.its k.row (unlocked k.row) k.found refl refl []
    (λ t. nowhere k.job.letter.stack t))
moves_on_one s e given failed cs es S (begin_replaced k props effect _ _ act go is _) =
    by_changes _ s cs _ is (replaces s S e k props)
moves_on_one s e given failed cs es S (clean_gone k _ _ none is _) =
    by_changes _ s cs _ is (onward s S e k.job k.works.its Ending)
moves_on_one s e given failed cs es S (clean_kept k r _ _ found kept is _) =
    by_changes _ s cs _ is (onward s S e k.job k.works.its Ending)
moves_on_one s e given failed cs es S (clean_init k r _ _ found unkept init is _) =
    by_changes _ s cs _ is (purged s S e k.job k.works.its Ending r found)
moves_on_one s e given failed cs es S (clean_stuck k r _ _ found unkept stuck is _) =
    by_changes _ s cs _ is (left s S e k.job k.works.its r (unlocked r) found refl refl []
    (λ t. nowhere k.job.letter.stack t))
moves_on_one s e given failed cs es S (clean_retained k r _ _ found unkept act unstuck retained is _) =
    by_changes _ s cs _ is (then _ s (applied (DropRow r.no ∷ PutJob (with_stage Ending k.job) ∷ []) s) _
    (purged s S e k.job k.works.its Ending r found)
    (on_release k.job.letter.stack _ (token_of r) (job_row_stack s S.links e k.job r k.works.its found)))
moves_on_one s e given failed cs es S (clean_deleted k r _ _ found unkept act unstuck other is _) =
    by_changes _ s cs _ is (begun s S e k.job k.works.its Asking r _ found refl refl)
moves_on_one s e given failed cs es S (ask_begun k asked _ _ asks is _) =
    by_changes _ s cs _ is (onward s S e k.job k.works.its Polling)
moves_on_one s e given failed cs es S (ask_failed k asked answer reason letters mark _ _ asks refuses falls is _) =
    by_changes _ s cs _ is (call_failed s S e k.job k.works.its k.row k.found letters mark falls)
moves_on_one s e given failed cs es S (poll_waits k asked _ _ asks is _) =
    by_changes _ s cs _ is (nowhere k.job.letter.stack s)
moves_on_one s e given failed cs es S (poll_ready k facts _ _ act is _) =
    by_changes _ s cs _ is (begun s S e k.job k.works.its Ending k.row _ k.found refl refl)
moves_on_one s e given failed cs es S (poll_gone k _ _ act is _) =
    by_changes _ s cs _ is (purged s S e k.job k.works.its Ending k.row k.found)
moves_on_one s e given failed cs es S (poll_failed k asked answer reason letters mark _ _ asks refuses falls is _) =
    by_changes _ s cs _ is (call_failed s S e k.job k.works.its k.row k.found letters mark falls)
moves_on_one s e given failed cs es S (finish_overrun j _ _ works k is _) =
    by_changes _ s cs _ is (released s S e j works.its k.row k.found k.letters
    (resent_new s S e j works.its j.row k.letters k.resends))
moves_on_one s e given failed cs es S (finish k _ _ unsettled is _) =
    by_changes _ s cs _ is (done s S e k [] (λ t. nowhere k.job.letter.stack t))
moves_on_one s e given failed cs es S (finish_last k _ _ settles is _) =
    by_changes _ s cs _ is (done s S e k _ (last s S e k))
moves_on_one s e given failed cs es S (takeover_overrun f j _ _ next k is _) =
    by_changes _ s cs _ is (released s S f j next.left.its k.row k.found k.letters
    (resent_new s S f j next.left.its j.row k.letters k.resends))
moves_on_one s e given failed cs es S (takeover_fresh f k _ _ is _) =
    by_changes _ s cs _ is (released s S f k.job k.next.left.its k.fresh.row k.fresh.found (relayed_letter s e f k ∷ [])
    (letters_new k.job.letter.stack s.next.letter s.next.letter k.fresh.stack (k.job.letter.node ∷ [])
    (stack-key s.stacks k.job.letter.stack k.fresh.stack k.fresh.names.in_table) (omega arith)))
