-- The outcomes of the begin of an update node, and of a clean-up node.
use Rattle.std.proofs.Common.{arith, inl, inr, refl, subst, sym, ◌∙◌}
use Rattle.std.proofs.lemmas.List.Elements.{Contains-append_cases, Contains-append_left, Contains-append_right}
use Rattle.std.specs.Prelude.{Contains, List, None, Option, Some, [], ℕ, ◌++◌, ◌+◌, ◌<◌, ◌∷◌, ◌≡◌, ◌≢◌, ◌≤◌}
use Rattle.heat_value.specs.Data.{Members}
use Rattle.heat_plan.specs.declared.item.Policy.TheVariants.{Retain}
use Rattle.heat_plan.specs.declared.phase.Act.TheVariants.{Delete, Init}
use Rattle.heat_plan.specs.declared.phase.Status.TheVariants.{Complete}
use Rattle.heat_plan.specs.declared.token.Token.{Token}
use Rattle.provider.specs.Table.{TokenState}
use Rattle.row_table.specs.Rows.{cut_row, put_row, row_at}
use Rattle.row_table.specs.declared.row.Row.{Row}
use Rattle.mail_table.specs.Mails.{cut_job, job_at}
use Rattle.mail_table.specs.declared.mail.Job.{Job}
use Rattle.mail_table.specs.declared.mail.Letter.{Letter}
use Rattle.mail_table.specs.declared.mail.Stage.{Stage}
use Rattle.mail_table.specs.declared.mail.Stage.TheVariants.{Asking, Ending, Polling}
use Rattle.step_relation.specs.Changes.{applied}
use Rattle.step_relation.specs.State.{StateData, stack_at}
use Rattle.step_relation.specs.declared.Actor.{Actor}
use Rattle.step_relation.specs.declared.Actor.TheVariants.{Engine}
use Rattle.step_relation.specs.declared.Cause.{Cause}
use Rattle.step_relation.specs.declared.Entry.{Entry}
use Rattle.step_relation.specs.declared.Stack.{Stack}
use Rattle.step_relation.specs.Asks.{Falls, marked, marks, overrun}
use Rattle.step_relation.specs.Begins.{Begins, begun_changes, begun_entries, left_changes, left_entries, moved_job}
use Rattle.step_relation.specs.Begins.{next_row, onward_changes, onward_entries, replaced_changes, replaced_entries}
use Rattle.step_relation.specs.Cleanups.{purged_changes, purged_entries, retained_changes, retained_entries}
use Rattle.step_relation.specs.Rows.{created_row, deleted_row, replaced, same_row, token_of, unlocked, updated_row}
use Rattle.step_relation.specs.Writes.{failed_mark, mark_failed, with_stage}
use Rattle.step_relation.specs.Could.{could_of}
use Rattle.step_relation.specs.Opening.{Opening}
use Rattle.step_relation.specs.Stored.{released}
use Rattle.step_relation.specs.Tokens.{HasRow, IsAlive, MayLive}
use Rattle.step_relation.specs.Linked.{Links}
use Rattle.step_relation.specs.Sound.{Sound}
use Rattle.history_laws.proofs.tables.Rows.{row-key, row_cut, row_else, row_gone, row_kept, row_self, stack-key}
use Rattle.history_laws.proofs.tells.Appends.{released-append}
use Rattle.history_laws.proofs.tells.Marks.{MarkMade, fails, unmade}
use Rattle.history_laws.proofs.tells.Silence.{could-silent}
use Rattle.history_laws.proofs.agrees.Called.{only}
use Rattle.history_laws.proofs.agrees.Ends.{failed_stacks}
use Rattle.history_laws.proofs.agrees.Goes.{Goes, gives, was_given, was_polling}
use Rattle.history_laws.proofs.agrees.Going.{RowsGo, rows_cut, rows_look, rows_new, rows_put, rows_same, rows_then}
use Rattle.history_laws.proofs.agrees.Jobs.{goes_with, polls_ended, polls_restaged, put_else}
use Rattle.history_laws.proofs.agrees.Outcome.{Outcome, uncalled}
use Rattle.history_laws.proofs.agrees.Suits.{fits_creating, fits_deleting, fits_updating}
use Rattle.history_laws.proofs.agrees.Taken.{outcome_plain, rows_relocked}
use Rattle.provider.proofs.Lists.{here}

-- what follows from a failure is a mark, or none
pub made_failed : (s t : StateData) (j : Job) (letters : List Letter) (failed_ : Option Stack) (actor : Actor)
    (cause : Cause)
    → Falls s j letters failed_ → t.stacks ≡ failed_stacks failed_ s.stacks → t.pasts ≡ s.pasts
    → MarkMade s t (failed_mark actor failed_ cause)
made_failed s t j letters _ actor cause (overrun _ over resends) stacks pasts = unmade refl stacks pasts
made_failed s t j _ _ actor cause (marked k ne) stacks pasts = unmade refl stacks pasts
made_failed s t j _ _ actor cause (marks k status) stacks pasts =
    let key = stack-key s.stacks j.letter.stack k.stack k.names.in_table in
    fails actor k.stack cause (subst (λ (n : List ℕ). stack_at s.stacks n ≡ Some k.stack) (sym key) k.names.in_table)
    status refl stacks pasts

module _ (o : Opening) (h : List Entry) (s : StateData) (e : ℕ) (x : Sound o h s) where
  links : Links s
  links = x.standing.links

  pub begun_goes : (g : List Entry) (j : Job) → job_at s.jobs e ≡ Some j → (stage : Stage) → stage ≢ Polling
      → (q : Row) → q.no ≡ j.row
      → RowsGo o g s.next.row s.rows (put_row q s.rows) → Goes o g s (applied (begun_changes j stage q) s)
  begun_goes g j its stage ne q number rows = goes_with o g s
      (applied (begun_changes j stage q) s) j.row links.numbered rows (put_else q s.rows j.row s.next.row number)
      (polls_restaged s links.locked e j its (with_stage stage j) refl ne) refl (omega arith)

  begun_outcome : (j : Job) → job_at s.jobs e ≡ Some j → (stage : Stage) → stage ≢ Polling → (q : Row) → q.no ≡ j.row
      → RowsGo o (h ++ begun_entries e j stage q) s.next.row s.rows (put_row q s.rows)
      → Outcome o h s (applied (begun_changes j stage q) s) e (begun_entries e j stage q)
  begun_outcome j its stage ne q number rows = outcome_plain o h s (applied (begun_changes j stage q) s) e
      (begun_entries e j stage q)
      (tt, (tt, tt)) (tt, (tt, tt)) (λ i. cc) refl refl refl refl
      (begun_goes (h ++ begun_entries e j stage q) j its stage ne q number rows)

  pub onward_goes : (g : List Entry) (j : Job) → job_at s.jobs e ≡ Some j → (stage : Stage) → stage ≢ Polling
      → Goes o g s (applied (onward_changes j stage) s)
  onward_goes g j its stage ne = goes_with o g s (applied (onward_changes j stage) s) j.row links.numbered
      (rows_same o g s.next.row s.rows) (λ m n lt. refl)
      (polls_restaged s links.locked e j its (with_stage stage j) refl ne) refl (omega arith)

  pub onward_outcome : (j : Job) → job_at s.jobs e ≡ Some j → (stage : Stage) → stage ≢ Polling
      → Outcome o h s (applied (onward_changes j stage) s) e (onward_entries e j stage)
  onward_outcome j its stage ne = outcome_plain o h s (applied (onward_changes j stage) s) e
      (onward_entries e j stage)
      (tt, tt) (tt, tt) (λ i. cc) refl refl refl refl (onward_goes (h ++ onward_entries e j stage) j its stage ne)

  left_goes : (g : List Entry) (j : Job) (r : Row) → job_at s.jobs e ≡ Some j → row_at s.rows j.row ≡ Some r
      → (stacks : List Stack)
      → Goes o g s (record s { stacks = stacks; rows = put_row (unlocked r) s.rows; jobs = cut_job e s.jobs })
  left_goes g j r its found stacks =
      goes_with o g s (record s { stacks = stacks; rows = put_row (unlocked r) s.rows; jobs = cut_job e s.jobs })
      j.row links.numbered
      (rows_relocked o g s j.row r None (r.key + 1) found) (put_else (unlocked r) s.rows j.row s.next.row
      (row-key s.rows j.row r found))
      (polls_ended s links.locked e j its) refl (omega arith)

  pub left_outcome : (j : Job) (r : Row) → job_at s.jobs e ≡ Some j → row_at s.rows j.row ≡ Some r
      → Outcome o h s (applied (left_changes e r) s) e (left_entries e r)
  left_outcome j r its found = outcome_plain o h s (applied (left_changes e r) s) e (left_entries e r) (tt, (tt, tt))
      (tt, (tt, tt)) (λ i. cc) refl refl refl refl
      (left_goes (h ++ left_entries e r) j r its found s.stacks)

  pub faulted_outcome : (j : Job) (r : Row) (cause : Cause) → job_at s.jobs e ≡ Some j → row_at s.rows j.row ≡ Some r
      → (failed_ : Option Stack)
      → Falls s j [] failed_
      → Outcome o h s (applied (left_changes e r ++ mark_failed failed_) s) e
      (left_entries e r ++ failed_mark (Engine e) failed_ cause)
  faulted_outcome j r cause its found None falls = left_outcome j r its found
  faulted_outcome j r cause its found (Some st) falls = record {
    first = left_entries e r;
    marks = failed_mark (Engine e) (Some st) cause;
    entries = refl;
    silent = (tt, (tt, tt));
    stored_is = refl;
    released_is = refl;
    made = made_failed s (applied (left_changes e r ++ mark_failed (Some st)) s) j [] (Some st)
        (Engine e) cause falls refl refl;
    call = uncalled (tt, (tt, (tt, tt))) (λ i. cc);
    goes = left_goes (h ++ (left_entries e r ++ failed_mark (Engine e) (Some st) cause)) j r its found
        (failed_stacks (Some st) s.stacks);
  }

  -- begin at an update node
  module _ (k : Begins s e) (props : Members) where
    its : job_at s.jobs e ≡ Some k.job
    its = k.works.its

    number : k.row.no ≡ k.job.row
    number = row-key s.rows k.job.row k.row k.found

    self : row_at s.rows k.row.no ≡ Some k.row
    self = row_self s.rows k.job.row k.row k.found

    pub init_outcome : k.row.act ≡ Init
        → Outcome o h s (applied (begun_changes k.job Asking (created_row k.row k.item k.stack.trav props k.required))
        s) e
        (begun_entries e k.job Asking (created_row k.row k.item k.stack.trav props k.required))
    init_outcome init = begun_outcome k.job its Asking (λ i. cc)
        (created_row k.row k.item k.stack.trav props k.required) number
        (rows_put o _ s.next.row k.row (created_row k.row k.item k.stack.trav props k.required) s.rows self refl
        (λ free act. cc) (λ b i. cc)
        (λ act. let i = sym init ∙ act in cc)
        (λ state among f. fits_creating (created_row k.row k.item k.stack.trav props k.required) state refl refl
        (inl (f.init init))))

    pub same_outcome : Outcome o h s
        (applied (begun_changes k.job Ending (same_row k.row k.item k.stack.trav k.required)) s) e
        (begun_entries e k.job Ending (same_row k.row k.item k.stack.trav k.required))
    same_outcome = begun_outcome k.job its Ending (λ i. cc) (same_row k.row k.item k.stack.trav k.required) number
        (rows_look o _ s.next.row k.row (same_row k.row k.item k.stack.trav k.required) s.rows self
        (record { token = refl; act = refl; status = refl; kind = refl; props = refl; target = refl; facts = refl })
        (λ act. absurd (k.kept act)))

    pub in_place_outcome : k.row.act ≢ Init → k.row.status ≡ Complete
        → Outcome o h s (applied (begun_changes k.job Asking (updated_row k.row k.item k.stack.trav props k.required))
        s) e
        (begun_entries e k.job Asking (updated_row k.row k.item k.stack.trav props k.required))
    in_place_outcome begun_ done = begun_outcome k.job its Asking (λ i. cc)
        (updated_row k.row k.item k.stack.trav props k.required) number
        (rows_put o _ s.next.row k.row (updated_row k.row k.item k.stack.trav props k.required) s.rows self refl
        (λ free act. cc) (λ b i. cc)
        (λ act. absurd (k.kept act))
        (λ state among f. fits_updating (updated_row k.row k.item k.stack.trav props k.required) state refl refl
        (inl (let a = (f.ready done begun_ k.kept).alive in record {
          it = a.it;
          alive = a.alive;
          kind =
              a.kind;
          props_are = a.props_are;
        }))))

  -- no token with a number that is still to come may be alive
  pub none_next : (t : Token) (state : TokenState) → s.next.row ≤ t.row → Contains (could_of o h t) state
      → state ≡ None
  none_next t None le among = refl
  none_next t (Some it) le among =
      absurd (by (x.agrees.named t (record { lives = record { it = it; among = among }; owned = owned }))) where
        owned : ¬ Contains (released o h) t
        owned c = let lt = x.released.below t (subst (λ (ts : List Token). Contains ts t) x.tells.tokens c) in
            omega (arith, lt, le)

        by : HasRow o h t → ⊥
        by w =
            let found = subst (λ (rows : List Row). row_at rows t.row ≡ Some w.row) x.tells.rows w.found in
            let lt = (links.numbered.rows t.row w.row found).no_ in
            let key = row-key s.rows t.row w.row found in
            omega (arith, lt, le, key)

  pub no_next_row : (n : ℕ) → s.next.row ≤ n → row_at s.rows n ≡ None
  no_next_row n le = by (row_at s.rows n) refl where
    by : (w : Option Row) → row_at s.rows n ≡ w → w ≡ None
    by None at = refl
    by (Some r) at =
        let lt = (links.numbered.rows n r at).no_ in
        let key = row-key s.rows n r at in
        absurd (omega (arith, lt, le, key))

  pub replaced_outcome : (k : Begins s e) (props : Members) → Outcome o h s
      (applied (replaced_changes s e k props) s) e (replaced_entries s e k props)
  replaced_outcome k props =
      let new = next_row s e k props in
      let old = replaced s.next.row k.row in
      let g = h ++ replaced_entries s e k props in
      let key = row-key s.rows k.job.row k.row k.found in
      let lt = (links.numbered.rows k.job.row k.row k.found).no_ in
      outcome_plain o h s (applied (replaced_changes s e k props) s) e (replaced_entries s e k props) (tt, (tt, tt))
      (tt, (tt, tt)) (λ i. cc) refl refl refl refl
      (goes_with o g s (applied (replaced_changes s e k props) s) k.job.row links.numbered
      (rows_then o g s.next.row s.rows (put_row new s.rows) (put_row old (put_row new s.rows))
      (rows_new o g s.next.row new s.rows (no_next_row s.next.row (omega arith)) (omega arith) (λ act. cc)
      (λ state among. fits_creating new state refl refl (inl (none_next (token_of new) state (omega arith)
      (subst (λ (ss : List TokenState). Contains ss state) (could-silent o h (replaced_entries s e k props)
      (token_of new) (tt, (tt, tt))) among)))))
      (rows_look o g s.next.row k.row old (put_row new s.rows)
      (row_else new s.rows k.row.no (λ i. omega (arith, lt, i)) ∙ row_self s.rows k.job.row k.row k.found)
      (record { token = refl; act = refl; status = refl; kind = refl; props = refl; target = refl; facts = refl })
      (λ act. refl)))
      (λ m ne below. row_else old (put_row new s.rows) m (λ i. ne (sym i ∙ key))
      ∙ row_else new s.rows m (λ i. omega (arith, below, i)))
      (polls_restaged s links.locked e k.job k.works.its (moved_job s k.job) refl (λ i. cc)) refl (omega arith))

  -- begin at a clean-up node
  module _ (j : Job) (r : Row) (its : job_at s.jobs e ≡ Some j) (found : row_at s.rows j.row ≡ Some r) where
    r_number : r.no ≡ j.row
    r_number = row-key s.rows j.row r found

    r_self : row_at s.rows r.no ≡ Some r
    r_self = row_self s.rows j.row r found

    cut_other : (m : ℕ) → m ≢ j.row → m < s.next.row → row_at (cut_row r.no s.rows) m ≡ row_at s.rows m
    cut_other m ne lt = row_kept r.no s.rows m (λ i. ne (sym i ∙ r_number))

    pub purged_goes : (g : List Entry) → (r.act ≢ Init → ¬ IsAlive o g (token_of r))
        → (r.act ≡ Delete → ¬ MayLive (could_of o g (token_of r)))
        → Goes o g s (applied (purged_changes j r) s)
    purged_goes g unalive gone_ = goes_with o g s (applied (purged_changes j r) s) j.row links.numbered
        (rows_cut o g s.next.row r s.rows r_self unalive gone_) cut_other
        (polls_restaged s links.locked e j its (with_stage Ending j) refl (λ i. cc)) refl (omega arith)

    pub purged_outcome : r.act ≡ Init → Outcome o h s (applied (purged_changes j r) s) e (purged_entries e j r)
    purged_outcome init = outcome_plain o h s (applied (purged_changes j r) s) e (purged_entries e j r) (tt, (tt, tt))
        (tt, (tt, tt)) (λ i. cc) refl refl refl refl
        (purged_goes (h ++ purged_entries e j r) (λ ne. absurd (ne init)) (λ act. let i = sym init ∙ act in cc))

    pub retained_outcome : r.policy ≡ Retain → Outcome o h s (applied (retained_changes j r) s) e
        (retained_entries e j r)
    retained_outcome policy = outcome_plain o h s (applied (retained_changes j r) s) e (retained_entries e j r)
        (tt, (tt, (tt, tt))) (tt, (tt, (tt, tt)))
        (λ i. cc) refl refl refl refl (record {
          rows = rows_cut o (h ++ retained_entries e j r) s.next.row r s.rows r_self
              (λ ne alive. alive.owned given_now)
              (λ act. absurd (x.released.kept j.row r found act policy));
          jobs = λ f w at stage. let (was, ne) = polls_restaged s links.locked e j its (with_stage Ending j) refl
              (λ i. cc) f w at stage in
              was_polling was (λ q at_q. (row_cut r.no s.rows at_q).1);
          up = λ y c. Contains-append_left s.released (token_of r ∷ []) y c;
          given_up = λ y c. elim (Contains-append_cases s.released (token_of r ∷ []) y c) [
            | inl was ↦ was_given was
            | inr new ↦ gives r r_self (sym (only (token_of r) y new)) (row_gone r.no s.rows)
          ];
          next = omega arith;
        }) where
          given_now : Contains (released o (h ++ retained_entries e j r)) (token_of r)
          given_now = subst (λ (ts : List Token). Contains ts (token_of r))
              (sym (released-append o h (retained_entries e j r)))
              (Contains-append_right (released o h) (token_of r ∷ []) (token_of r)
              (here (token_of r) (token_of r) [] refl))

    pub deleted_outcome : (trav : ℕ) → r.policy ≢ Retain → Outcome o h s
        (applied (begun_changes j Asking (deleted_row r trav)) s) e (begun_entries e j Asking (deleted_row r trav))
    deleted_outcome trav policy = begun_outcome j its Asking (λ i. cc) (deleted_row r trav) r_number
        (rows_put o _ s.next.row r (deleted_row r trav) s.rows r_self refl (λ free act. policy) (λ b i. cc)
        (λ act. refl)
        (λ state among f. fits_deleting (deleted_row r trav) state refl))
