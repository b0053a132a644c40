-- A row is written anew, and its job with it.
use Rattle.std.proofs.Common.{◌≡◌, ℕ, List, [], ◌∷◌, Option, Some, None, refl, sym, ◌∙◌, subst, arith}
use Rattle.std.specs.Prelude.{Contains}
use Rattle.row_table.specs.Rows.{cut_row, put_row, row_at}
use Rattle.row_table.specs.declared.row.Row.{Row}
use Rattle.mail_table.specs.Mails.{job_at, put_job}
use Rattle.mail_table.specs.declared.mail.Job.{Job}
use Rattle.mail_table.specs.declared.mail.Stage.{Stage}
use Rattle.step_relation.specs.Changes.{applied, apply}
use Rattle.step_relation.specs.State.{StateData}
use Rattle.step_relation.specs.declared.Change.TheVariants.{DropRow, EndJob, PutJob, PutRow}
use Rattle.step_relation.specs.Rows.{failed_row, locked, unlocked}
use Rattle.step_relation.specs.Writes.{unlock, with_stage}
use Rattle.step_relation.specs.Linked.{Chained, Links, OneCurrent, Owned, by_job}
use Rattle.step_relation.specs.Numbered.{Numbered}
use Rattle.history_laws.proofs.links.Chains.{Chained-were, OneCurrent-were, SameLinks, SameLinks-same}
use Rattle.history_laws.proofs.links.Locks.{Locked-end, Locked-purge, Locked-restage, Locked-row, Locked-unlock}
use Rattle.history_laws.proofs.links.Numbers.{JobFor, Numbered-DropRow, Numbered-EndJob, Numbered-PutJob, Numbered-PutRow}
use Rattle.history_laws.proofs.links.Numbers.{RowFor}
use Rattle.history_laws.proofs.links.Owners.{IsOf-cut_job, IsOf-cut_row, Owned-less, Owned-put_job, Owned-row}
use Rattle.history_laws.proofs.tables.Alike.{Were-cut, Were-put}
use Rattle.history_laws.proofs.tables.Rows.{job-key, row-key, row_self}

-- a row is written anew, with its links, and numbers below the next ones
pub record Rewrites (s : StateData) (r q : Row) : Type 0 where
  pub stood : row_at s.rows q.no ≡ Some r
  pub links : SameLinks r q
  pub below : RowFor s.next q

module _ (s : StateData) (h : Links s) (r q : Row) (w : Rewrites s r q) where
  pub numbered_row : Numbered (apply (PutRow q) s)
  numbered_row = Numbered-PutRow s q w.below (rw w.links.stack (h.numbered.in_table q.no r w.stood)) h.numbered

  pub current_row : OneCurrent (put_row q s.rows)
  current_row = OneCurrent-were s.rows (put_row q s.rows)
      (Were-put SameLinks SameLinks-same r q s.rows w.stood w.links) h.current

  pub chained_row : Chained (put_row q s.rows)
  chained_row = Chained-were s.rows (put_row q s.rows)
      (Were-put SameLinks SameLinks-same r q s.rows w.stood w.links) h.chained

  pub owned_row : Owned (put_row q s.rows) s.graphs s.jobs
  owned_row = Owned-row r q s.rows s.graphs s.jobs w.stood w.links.stack h.owned

module _ (s : StateData) (h : Links s) (n : ℕ) (r : Row) (at : row_at s.rows n ≡ Some r) where
  pub rewrites_locked : (e : ℕ) → Contains s.live e → Rewrites s r (locked e r)
  rewrites_locked e live = let b = h.numbered.rows n r at in record {
    stood = row_self s.rows n r at;
    links = record { no_ = refl; stack = refl; name = refl; replaces = refl; replaced_by = refl; kept = λ k. k };
    below = record {
      no_ = b.no_;
      newest = b.newest;
      required = b.required;
      replaces = b.replaces;
      replaced_by = b.replaced_by;
      holder = λ f is. let same : e ≡ f = cc in let l = h.numbered.live e live in omega arith;
    };
  }

  pub rewrites_unlocked : Rewrites s r (unlocked r)
  rewrites_unlocked = let b = h.numbered.rows n r at in record {
    stood = row_self s.rows n r at;
    links = record { no_ = refl; stack = refl; name = refl; replaces = refl; replaced_by = refl; kept = λ k. k };
    below = record {
      no_ = b.no_;
      newest = b.newest;
      required = b.required;
      replaces = b.replaces;
      replaced_by = b.replaced_by;
      holder = λ f is. cc;
    };
  }

  pub rewrites_failed : Rewrites s r (failed_row r)
  rewrites_failed = let b = h.numbered.rows n r at in record {
    stood = row_self s.rows n r at;
    links = record { no_ = refl; stack = refl; name = refl; replaces = refl; replaced_by = refl; kept = λ k. k };
    below = record {
      no_ = b.no_;
      newest = b.newest;
      required = b.required;
      replaces = b.replaces;
      replaced_by = b.replaced_by;
      holder = λ f is. cc;
    };
  }

pub its_engine : (s : StateData) (e : ℕ) (j : Job) → job_at s.jobs e ≡ Some j → job_at s.jobs j.engine ≡ Some j
its_engine s e j its = subst (λ (k : ℕ). job_at s.jobs k ≡ Some j) (sym (job-key s.jobs e j its)) its

-- a job goes on at another stage
module _ (s : StateData) (h : Links s) (e : ℕ) (j : Job) (its : job_at s.jobs e ≡ Some j) (stage : Stage) where
  staged_below : JobFor s.next (with_stage stage j)
  staged_below = let b = h.numbered.jobs e j its in record {
    holder = b.holder;
    its_row = b.its_row;
    its_letter =
        b.its_letter;
  }

  owned_staged : (rows : List Row) → Owned rows s.graphs s.jobs → Owned rows s.graphs
      (put_job (with_stage stage j) s.jobs)
  owned_staged rows old =
      Owned-put_job (with_stage stage j) rows s.graphs s.jobs
      (λ a x. old.one j.row j.letter.stack a (by_job e j its refl refl) x) old

  -- with its row as it is
  pub Links-onward : Links (applied (PutJob (with_stage stage j) ∷ []) s)
  Links-onward = record {
    numbered = Numbered-PutJob s (with_stage stage j) staged_below h.numbered;
    current = h.current;
    chained = h.chained;
    locked = Locked-restage s.rows s.jobs j (with_stage stage j) (its_engine s e j its) refl h.locked;
    owned = owned_staged s.rows h.owned;
  }

  -- with its row written anew
  pub Links-begun : (r q : Row) → Rewrites s r q → q.engine ≡ r.engine → Links
      (applied (PutRow q ∷ PutJob (with_stage stage j) ∷ []) s)
  Links-begun r q w same = record {
    numbered = Numbered-PutJob _ (with_stage stage j) staged_below (numbered_row s h r q w);
    current = current_row s h r q w;
    chained = chained_row s h r q w;
    locked = Locked-restage _ s.jobs j (with_stage stage j) (its_engine s e j its) refl
        (Locked-row s.rows s.jobs r q w.stood same h.locked);
    owned = owned_staged _ (owned_row s h r q w);
  }

  -- with its row gone
  pub Links-purged : (c : ℕ) → Links (applied (DropRow c ∷ PutJob (with_stage stage j) ∷ []) s)
  Links-purged c = record {
    numbered = Numbered-PutJob _ (with_stage stage j) staged_below (Numbered-DropRow s c h.numbered);
    current = OneCurrent-were s.rows (cut_row c s.rows) (Were-cut SameLinks SameLinks-same c s.rows) h.current;
    chained = Chained-were s.rows (cut_row c s.rows) (Were-cut SameLinks SameLinks-same c s.rows) h.chained;
    locked = Locked-restage _ s.jobs j (with_stage stage j) (its_engine s e j its) refl
        (Locked-purge s.rows s.jobs c h.locked);
    owned = owned_staged _ (Owned-less s.rows (cut_row c s.rows) s.graphs s.graphs s.jobs s.jobs
        (IsOf-cut_row c s.rows s.graphs s.jobs) h.owned);
  }

-- a job ends, and its row is unlocked, if it stands
module _ (s : StateData) (h : Links s) (e : ℕ) (j : Job) (its : job_at s.jobs e ≡ Some j) where
  pub Links-left : (r q : Row) → row_at s.rows j.row ≡ Some r → q.no ≡ r.no → q.engine ≡ None → Rewrites s r q
      → Links (applied (PutRow q ∷ EndJob e ∷ []) s)
  Links-left r q at same free w = record {
    numbered = Numbered-EndJob _ e (numbered_row s h r q w);
    current = current_row s h r q w;
    chained = chained_row s h r q w;
    locked = Locked-unlock s.rows s.jobs q e j its (sym (same ∙ row-key s.rows j.row r at)) free h.locked;
    owned = Owned-less _ _ s.graphs s.graphs s.jobs _ (IsOf-cut_job e _ s.graphs s.jobs) (owned_row s h r q w);
  }

  pub Links-ended : (r : Option Row) → row_at s.rows j.row ≡ r → Links (applied (unlock r (EndJob e ∷ [])) s)
  Links-ended None at = record {
    numbered = Numbered-EndJob s e h.numbered;
    current = h.current;
    chained = h.chained;
    locked = Locked-end s.rows s.jobs e j its at h.locked;
    owned = Owned-less s.rows s.rows s.graphs s.graphs s.jobs _ (IsOf-cut_job e s.rows s.graphs s.jobs) h.owned;
  }
  Links-ended (Some r) at = Links-left r (unlocked r) at refl refl (rewrites_unlocked s h j.row r at)
