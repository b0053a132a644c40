-- A letter is taken, and a job is released.
use Rattle.std.proofs.Common.{◌≡◌, ◌≤◌, inl, inr, ℕ, ◌+◌, List, [], ◌∷◌, map, Option, Some, None, refl, sym, ◌∙◌, subst}
use Rattle.std.proofs.Common.{arith}
use Rattle.std.specs.Prelude.{length}
use Rattle.std.specs.List.{AllByRecursion}
use Rattle.std.proofs.lemmas.List.{append-nil}
use Rattle.row_table.specs.Rows.{put_row, row_at}
use Rattle.row_table.specs.declared.row.Row.{Row}
use Rattle.mail_table.specs.Mails.{cut_job, job_at}
use Rattle.mail_table.specs.declared.mail.Job.{Job}
use Rattle.mail_table.specs.declared.mail.Letter.{Letter}
use Rattle.mail_table.specs.declared.mail.Stage.TheVariants.{Taken}
use Rattle.step_relation.specs.Changes.{applied, apply}
use Rattle.step_relation.specs.State.{StateData}
use Rattle.step_relation.specs.declared.Change.{Change}
use Rattle.step_relation.specs.declared.Change.TheVariants.{Drop, EndJob, PutJob, PutRow, Send}
use Rattle.step_relation.specs.declared.Numbers.{Numbers}
use Rattle.step_relation.specs.Nexts.{TakesNext}
use Rattle.step_relation.specs.Resends.{Resends, cleanup, nobody, update}
use Rattle.step_relation.specs.Rows.{locked, unlocked}
use Rattle.step_relation.specs.Takes.{HasNoHolder, released_changes}
use Rattle.step_relation.specs.Writes.{job_of, lock, unlock}
use Rattle.step_relation.specs.Applies.{NoneFalls}
use Rattle.step_relation.specs.Linked.{IsOf, Links, by_row}
use Rattle.history_laws.proofs.links.Locks.{Locked-hold, Locked-lock, Locked-steal, Locked-steal_gone}
use Rattle.history_laws.proofs.links.Numbers.{JobFor, LetterFor, Numbered-Drop, Numbered-EndJob, Numbered-PutJob}
use Rattle.history_laws.proofs.links.Owners.{IsOf-cut_job, IsOf-put_row, Owned-less, Owned-put_job}
use Rattle.history_laws.proofs.links.Rewrites.{Links-ended, chained_row, current_row, numbered_row, owned_row, rewrites_locked}
use Rattle.history_laws.proofs.links.Single.{Links-Numbers, Links-sends, draws, letters-below}
use Rattle.history_laws.proofs.tables.Facts.{drawn}
use Rattle.history_laws.proofs.tables.Rows.{row-key}

module _ (s : StateData) (h : Links s) (e : ℕ) (l : Letter) (t : ℕ) (has : IsOf s.rows s.graphs s.jobs t l.stack)
    (takes : TakesNext s e l) where
  abbrev begun : Job
  begun = job_of e l t Taken

  job_below : JobFor s.next (job_of e l t Taken)
  job_below = record {
    holder = h.numbered.live e takes.live;
    its_row = drawn s t l.stack h.numbered has;
    its_letter = h.numbered.letters l.no l takes.first.waits;
  }

  its_stack : (a : List ℕ) → IsOf s.rows s.graphs s.jobs t a → l.stack ≡ a
  its_stack a x = h.owned.one t l.stack a has x

  its_stack_locked : (r : Row) → row_at s.rows t ≡ Some r → (a : List ℕ) → IsOf
      (put_row (locked e r) s.rows) s.graphs s.jobs t a → l.stack ≡ a
  its_stack_locked r at a x = elim (IsOf-put_row (locked e r) s.rows s.graphs s.jobs t a x) [
    | inl was ↦ its_stack a was
    | inr new ↦ its_stack r.stack (by_row r at refl) ∙ new.1
  ]

  pub Links-taken : (r : Option Row) → row_at s.rows t ≡ r → HasNoHolder s.jobs t
      → Links (applied (lock r e (Drop l.no ∷ PutJob (job_of e l t Taken) ∷ [])) s)
  Links-taken None at free = record {
    numbered = Numbered-PutJob _ (job_of e l t Taken) job_below (Numbered-Drop s l.no h.numbered);
    current = h.current;
    chained = h.chained;
    locked = Locked-hold s.rows s.jobs (job_of e l t Taken) at takes.jobless free h.locked;
    owned = Owned-put_job (job_of e l t Taken) s.rows s.graphs s.jobs its_stack h.owned;
  }
  Links-taken (Some r) at free =
      let w = rewrites_locked s h t r at e takes.live in
      let n : r.no ≡ t = row-key s.rows t r at in
      record {
        numbered = Numbered-PutJob _ (job_of e l t Taken) job_below
            (Numbered-Drop _ l.no (numbered_row s h r (locked e r) w));
        current = current_row s h r (locked e r) w;
        chained = chained_row s h r (locked e r) w;
        locked = Locked-lock s.rows s.jobs (locked e r) (job_of e l t Taken) refl (sym n) takes.jobless
            (λ k j at_k on. free k j at_k (on ∙ n)) h.locked;
        owned = Owned-put_job (job_of e l t Taken) _ s.graphs s.jobs (its_stack_locked r at)
            (owned_row s h r (locked e r) w);
      }

  pub Links-stolen : (r : Option Row) (f : ℕ) (j : Job) → row_at s.rows t ≡ r → job_at s.jobs f ≡ Some j → j.row ≡ t
      → Links (applied (lock r e (Drop l.no ∷ EndJob f ∷ PutJob (job_of e l t Taken) ∷ [])) s)
  Links-stolen None f j at its on = record {
    numbered = Numbered-PutJob _ (job_of e l t Taken) job_below
        (Numbered-EndJob _ f (Numbered-Drop s l.no h.numbered));
    current = h.current;
    chained = h.chained;
    locked = Locked-steal_gone s.rows s.jobs f j (job_of e l t Taken)
        (subst (λ (n : ℕ). row_at s.rows n ≡ None) (sym on) at) its (sym on) takes.jobless h.locked;
    owned = Owned-put_job (job_of e l t Taken) s.rows s.graphs (cut_job f s.jobs)
        (λ a x. its_stack a (IsOf-cut_job f s.rows s.graphs s.jobs t a x))
        (Owned-less s.rows s.rows s.graphs s.graphs s.jobs (cut_job f s.jobs)
        (IsOf-cut_job f s.rows s.graphs s.jobs) h.owned);
  }
  Links-stolen (Some r) f j at its on =
      let w = rewrites_locked s h t r at e takes.live in
      let n : r.no ≡ t = row-key s.rows t r at in
      record {
        numbered = Numbered-PutJob _ (job_of e l t Taken) job_below
            (Numbered-EndJob _ f (Numbered-Drop _ l.no (numbered_row s h r (locked e r) w)));
        current = current_row s h r (locked e r) w;
        chained = chained_row s h r (locked e r) w;
        locked = Locked-steal s.rows s.jobs r (locked e r) f j (job_of e l t Taken) w.stood its (on ∙ sym n) refl
            (sym n) takes.jobless h.locked;
        owned = Owned-put_job (job_of e l t Taken) _ s.graphs (cut_job f s.jobs)
            (λ a x. its_stack_locked r at a (IsOf-cut_job f _ s.graphs s.jobs t a x))
            (Owned-less _ _ s.graphs s.graphs s.jobs (cut_job f s.jobs) (IsOf-cut_job f _ s.graphs s.jobs)
            (owned_row s h r (locked e r) w));
      }

-- letters that are sent again have numbers below those behind them
pub resent_below : (s : StateData) → Links s → (name : List ℕ) (number : ℕ) (letters : List Letter)
    → Resends s name number letters
    → (next : Numbers) → s.next.letter + length letters ≤ next.letter → next.trav ≡ s.next.trav → AllByRecursion
    (LetterFor next) letters
resent_below s h name number _ (update st g i has least) next le same =
    let b = (h.numbered.stacks name st has.in_table).newest in letters-below next s.next.letter st (i ∷ [])
    (omega arith) le
resent_below s h name number _ (cleanup st g i has none least) next le same =
    let b = (h.numbered.stacks name st has.in_table).newest in letters-below next s.next.letter st (i ∷ [])
    (omega arith) le
resent_below s h name number _ (nobody none none') next le same = tt

-- what comes behind the end of a job, in the state that it leaves
pub behind : (s : StateData) (n : ℕ) (r : Option Row) (e : ℕ) (rest : List Change) → row_at s.rows n ≡ r
    → ((t : StateData) → t.next ≡ s.next → t.stacks ≡ s.stacks → t.graphs ≡ s.graphs → t.rows ≡
    (applied (unlock r (EndJob e ∷ [])) s).rows
    → Links t → Links (applied rest t))
    → Links (applied (unlock r (EndJob e ∷ [])) s) → Links (applied (unlock r (EndJob e ∷ rest)) s)
behind s n None e rest at more h = more (apply (EndJob e) s) refl refl refl refl h
behind s n (Some r) e rest at more h = more (apply (EndJob e) (apply (PutRow (unlocked r)) s)) refl refl refl refl h

-- a job is released
pub Links-released : (s : StateData) → Links s → (f : ℕ) (j : Job) → job_at s.jobs f ≡ Some j → (r : Option Row)
    → row_at s.rows j.row ≡ r
    → (letters : List Letter)
    → ((next : Numbers) → s.next.letter + length letters ≤ next.letter → next.trav ≡ s.next.trav → AllByRecursion
    (LetterFor next) letters)
    → Links (applied (released_changes s f r letters) s)
Links-released s h f j its r at letters below = draws Links s letters
    (unlock r (EndJob f ∷ map Send letters)) more where
      sent : (t : StateData) (next : Numbers) → t.next ≡ next → AllByRecursion (LetterFor next) letters → Links t
          → Links (applied (map Send letters) t)
      sent t next same ls h_t =
          subst (λ (cs : List Change). Links (applied cs t)) (append-nil (map Send letters))
          (Links-sends t letters [] (subst (λ (n : Numbers). AllByRecursion (LetterFor n) letters) (sym same) ls)
          (λ u _ _ h_u. h_u) h_t)

      more : (next : Numbers) → NoneFalls s.next next → s.next.letter + length letters ≤ next.letter
          → next.trav ≡ s.next.trav
          → Links (applied (unlock r (EndJob f ∷ map Send letters)) (record s { next = next }))
      more next up le same =
          behind (record s { next = next }) j.row r f (map Send letters) at
          (λ t same_next _ _ _ h_t. sent t next same_next (below next le same) h_t)
          (Links-ended (record s { next = next }) (Links-Numbers s next up h) f j its r at)
