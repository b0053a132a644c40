-- A job begins at its node.
use Rattle.std.proofs.Common.{◌≡◌, ◌<◌, inl, inr, ℕ, List, ◌++◌, Option, Some, refl, sym, ap, ◌∙◌, subst, arith}
use Rattle.std.specs.Prelude.{IsSome}
use Rattle.std.specs.Str.{bytes_eq}
use Rattle.std.proofs.lemmas.Slice.Eq.{bytes_eq-Decides}
use Rattle.heat_value.specs.Data.{Members}
use Rattle.heat_plan.specs.declared.item.Item.{Item}
use Rattle.step_relation.specs.Reads.{item_at}
use Rattle.step_relation.specs.GraphFits.{TargetFits}
use Rattle.heat_plan.specs.declared.facts.Facts.{Facts}
use Rattle.row_table.specs.Chains.{IsCurrent}
use Rattle.row_table.specs.Rows.{put_row, row_at}
use Rattle.row_table.specs.declared.row.Row.{Row}
use Rattle.mail_table.specs.Mails.{job_at}
use Rattle.mail_table.specs.declared.mail.Job.{Job}
use Rattle.step_relation.specs.Changes.{applied}
use Rattle.step_relation.specs.State.{StateData, stack_at}
use Rattle.step_relation.specs.declared.Stack.{Stack}
use Rattle.step_relation.specs.Begins.{Begins, left_changes, moved_job, next_row, past_row, replaced_changes}
use Rattle.step_relation.specs.Freshness.{plan_of}
use Rattle.step_relation.specs.Rows.{created_row, deleted_row, ready_row, replaced, same_row, unlocked, updated_row}
use Rattle.step_relation.specs.Writes.{mark_failed}
use Rattle.step_relation.specs.Applies.{NoneFalls}
use Rattle.step_relation.specs.Linked.{IsOf, Links, Owned}
use Rattle.step_relation.specs.Numbered.{AllBelow}
use Rattle.step_relation.specs.Sound.{Standing}
use Rattle.history_laws.proofs.links.Locks.{Locked-move}
use Rattle.history_laws.proofs.links.Numbers.{JobFor, Numbered-Numbers, Numbered-PutJob, Numbered-PutRow, RowBelow-rises, RowFor}
use Rattle.history_laws.proofs.links.Owners.{IsOf-put_row, Owned-put_job, Owned-put_row, Owned-row}
use Rattle.history_laws.proofs.links.Replaced.{Chained-replaced, OneCurrent-replaced, Replaces}
use Rattle.history_laws.proofs.links.Rewrites.{Links-left, Rewrites, its_engine, rewrites_unlocked}
use Rattle.history_laws.proofs.links.Single.{Links-failed, MarkFor}
use Rattle.history_laws.proofs.tables.Facts.{drawn, job_row_stack, job_target}
use Rattle.history_laws.proofs.tables.Tables.{at-key}
use Rattle.history_laws.proofs.tables.Rows.{job-key, row-key, row_else, row_self}

-- a job's row is unlocked, and the job ends, and its stack may be marked
pub Links-faulted : (s : StateData) → Links s → (e : ℕ) (j : Job) → job_at s.jobs e ≡ Some j → (r : Row)
    → row_at s.rows j.row ≡ Some r
    → (failed : Option Stack) → MarkFor s.next failed → Links (applied (left_changes e r ++ mark_failed failed) s)
Links-faulted s h e j its r at failed below =
    Links-failed _ failed below (Links-left s h e j its r (unlocked r) at refl refl
    (rewrites_unlocked s h j.row r at))

-- numbers of a row that keeps its own
kept_below : (s : StateData) (r q : Row) → RowFor s.next r → q.no ≡ r.no → q.trav < s.next.trav
    → AllBelow s.next.row q.requires_
    → q.replaces ≡ r.replaces → q.replaced_by ≡ r.replaced_by → q.engine ≡ r.engine → RowFor s.next q
kept_below s r q b no_is trav required replaces replaced_by engine = record {
  no_ = let n = b.no_ in omega arith;
  newest = trav;
  required = required;
  replaces = λ n is. b.replaces n (sym replaces ∙ is);
  replaced_by = λ n is. b.replaced_by n (sym replaced_by ∙ is);
  holder = λ n is. b.holder n (sym engine ∙ is);
}

item-name : (items : List Item) (name : List ℕ) (item : Item) → item_at items name ≡ Some item → item.name ≡ name
item-name items name item h = at-key bytes_eq bytes_eq-Decides (λ (i : Item). i.name) items name item h

module _ (s : StateData) (S : Standing s) (e : ℕ) (k : Begins s e) where
  h : Links s
  h = S.links

  b : RowFor s.next k.row
  b = h.numbered.rows k.job.row k.row k.found

  trav_below : k.stack.trav < s.next.trav
  trav_below = (h.numbered.stacks k.job.letter.stack k.stack k.names.in_table).newest

  required_below : AllBelow s.next.row k.required
  required_below n has =
      let it = (k.requires_are.each n).0 has in
      let l = (h.numbered.graphs k.job.letter.stack k.graph k.names.its_graph).inputs k.job.letter.node k.point it.input
      k.its_point it.among in
      let same : it.input.row ≡ n = it.row in omega arith

  pub rewrites_created : (props : Members) → Rewrites s k.row (created_row k.row k.item k.stack.trav props k.required)
  rewrites_created props = record {
    stood = row_self s.rows k.job.row k.row k.found;
    links = record { no_ = refl; stack = refl; name = refl; replaces = refl; replaced_by = refl; kept = λ _. k.kept };
    below = kept_below s k.row (created_row k.row k.item k.stack.trav props k.required) b refl trav_below required_below
        refl refl refl;
  }

  pub rewrites_same : Rewrites s k.row (same_row k.row k.item k.stack.trav k.required)
  rewrites_same = record {
    stood = row_self s.rows k.job.row k.row k.found;
    links = record { no_ = refl; stack = refl; name = refl; replaces = refl; replaced_by = refl; kept = λ _. k.kept };
    below = kept_below s k.row (same_row k.row k.item k.stack.trav k.required) b refl trav_below required_below
        refl refl refl;
  }

  pub rewrites_updated : (props : Members) → Rewrites s k.row (updated_row k.row k.item k.stack.trav props k.required)
  rewrites_updated props = record {
    stood = row_self s.rows k.job.row k.row k.found;
    links = record { no_ = refl; stack = refl; name = refl; replaces = refl; replaced_by = refl; kept = λ _. k.kept };
    below = kept_below s k.row (updated_row k.row k.item k.stack.trav props k.required) b refl trav_below required_below
        refl refl refl;
  }

  begun_current : IsCurrent k.row
  begun_current = (job_target s S e k.job k.stack k.graph k.name k.chosen k.row k.works.its k.names k.found).is.current

  module _ (props : Members) where
    abbrev new : Row
    new = next_row s e k props

    abbrev old : Row
    old = replaced s.next.row k.row

    abbrev moved : Job
    moved = moved_job s k.job

    up : NoneFalls s.next (past_row s.next)
    up = record {
      stack = omega arith;
      trav = omega arith;
      row = omega arith;
      engine = omega arith;
      letter =
          omega arith;
    }

    jb : JobFor s.next k.job
    jb = h.numbered.jobs e k.job k.works.its

    row_stack : k.row.stack ≡ k.job.letter.stack
    row_stack = job_row_stack s h e k.job k.row k.works.its k.found

    target : TargetFits s k.stack k.name k.chosen k.row
    target = job_target s S e k.job k.stack k.graph k.name k.chosen k.row k.works.its k.names k.found

    new_stack : k.stack.name ≡ k.row.stack
    new_stack = sym target.is.stack_is

    new_name : k.item.name ≡ k.row.name
    new_name = item-name (plan_of k.stack.plan).items k.name k.item k.asked ∙ sym target.is.name_is

    -- nobody has the new number
    fresh : (a : List ℕ) → IsOf s.rows s.graphs s.jobs s.next.row a → ⊥
    fresh a x = let l = drawn s s.next.row a h.numbered x in omega arith

    replaces : Replaces s.next s.rows k.row new old
    replaces = record {
      stood = row_self s.rows k.job.row k.row k.found;
      current = begun_current;
      below = h.numbered.rows;
      number = refl;
      stack = new_stack;
      name = new_name;
      replaces = refl;
      last = refl;
      old_number = refl;
      old_stack = refl;
      old_name = refl;
      old_replaces = refl;
      old_by = refl;
    }

    owned_new : Owned (put_row new s.rows) s.graphs s.jobs
    owned_new = Owned-put_row new s.rows s.graphs s.jobs (λ a x. absurd (fresh a x)) h.owned

    still : row_at (put_row new s.rows) k.row.no ≡ Some k.row
    still = let l = b.no_ in row_else new s.rows k.row.no (λ eq. let n : s.next.row ≡ k.row.no = eq in
        omega arith) ∙ row_self s.rows k.job.row k.row k.found

    owned_old : Owned (put_row old (put_row new s.rows)) s.graphs s.jobs
    owned_old = Owned-row k.row old _ s.graphs s.jobs still refl owned_new

    whose : (a : List ℕ) → IsOf (put_row old (put_row new s.rows)) s.graphs s.jobs s.next.row a
        → k.job.letter.stack ≡ a
    whose a x = elim (IsOf-put_row old (put_row new s.rows) s.graphs s.jobs _ a x) [
      | inl y ↦ elim (IsOf-put_row new s.rows s.graphs s.jobs _ a y) [
        | inl z ↦ absurd (fresh a z)
        | inr is ↦ sym row_stack ∙ (sym new_stack ∙ is.1)
      ]
      | inr is ↦ sym row_stack ∙ is.1
    ]

    raised : RowFor (past_row s.next) k.row
    raised = RowBelow-rises s.next _ up k.row b

    new_below : RowFor (past_row s.next) new
    new_below = record {
      no_ = omega arith;
      newest = trav_below;
      required = λ n has. let l = required_below n has in omega arith;
      replaces = λ n is. let same : k.row.no ≡ n = cc in let l = b.no_ in omega arith;
      replaced_by = λ n is. cc;
      holder = λ n is. let same : e ≡ n = cc in let l = h.numbered.live e k.works.live in omega arith;
    }

    old_below : RowFor (past_row s.next) old
    old_below = record {
      no_ = raised.no_;
      newest = b.newest;
      required = raised.required;
      replaces = raised.replaces;
      replaced_by = λ n is. let same : s.next.row ≡ n = cc in omega arith;
      holder = λ n is. cc;
    }

    in_table : IsSome (stack_at s.stacks k.row.stack)
    in_table = h.numbered.in_table k.job.row k.row k.found

    moved_below : JobFor (past_row s.next) moved
    moved_below = record { holder = jb.holder; its_row = omega arith; its_letter = jb.its_letter }

    pub Links-replaced : Links (applied (replaced_changes s e k props) s)
    Links-replaced = record {
      numbered = Numbered-PutJob _ moved moved_below
          (Numbered-PutRow _ old old_below in_table
          (Numbered-PutRow _ new new_below (subst (λ (x : List ℕ). IsSome (stack_at s.stacks x))
          (sym new_stack) in_table)
          (Numbered-Numbers s _ up h.numbered)));
      current = OneCurrent-replaced s.next s.rows k.row new old replaces h.current;
      chained = Chained-replaced s.next s.rows k.row new old replaces h.chained;
      locked = Locked-move s.rows s.jobs new old k.job moved (its_engine s e k.job k.works.its)
          (sym (row-key s.rows k.job.row k.row k.found)) refl
          (ap Some (sym (job-key s.jobs e k.job k.works.its))) refl (λ eq. let l = b.no_ in
          let n : k.row.no ≡ s.next.row = eq in omega arith)
          (λ f m at_f on. let l = (h.numbered.jobs f m at_f).its_row in let n : m.row ≡ s.next.row = on in
          omega arith) h.locked;
      owned = Owned-put_job moved _ s.graphs s.jobs whose owned_old;
    }

-- a row is asked to go
pub rewrites_deleted : (s : StateData) → Links s → (n : ℕ) (r : Row) → row_at s.rows n ≡ Some r → (trav : ℕ)
    → trav < s.next.trav → Rewrites s r (deleted_row r trav)
rewrites_deleted s h n r at trav below =
    let b = h.numbered.rows n r at in record {
      stood = row_self s.rows n r at;
      links = record {
        no_ = refl;
        stack = refl;
        name = refl;
        replaces = refl;
        replaced_by = refl;
        kept =
            λ other. absurd (other refl);
      };
      below = kept_below s r (deleted_row r trav) b refl below b.required refl refl refl;
    }

pub rewrites_ready : (s : StateData) → Links s → (n : ℕ) (r : Row) → row_at s.rows n ≡ Some r → (facts : Facts)
    → Rewrites s r (ready_row r facts)
rewrites_ready s h n r at facts =
    let b = h.numbered.rows n r at in record {
      stood = row_self s.rows n r at;
      links = record { no_ = refl; stack = refl; name = refl; replaces = refl; replaced_by = refl; kept = λ k. k };
      below = kept_below s r (ready_row r facts) b refl b.newest b.required refl refl refl;
    }
