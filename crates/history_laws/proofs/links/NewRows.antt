-- The new rows of a command keep the links.
use Rattle.std.proofs.Common.{◌≡◌, ◌≢◌, ◌<◌, ◌≤◌, ◌⊎◌, inl, inr, ℕ, suc, ◌+◌, List, [], ◌∷◌, Some, None, refl, sym, ap}
use Rattle.std.proofs.Common.{◌∙◌, subst, arith}
use Rattle.std.specs.Prelude.{Contains, IsSome, length}
use Rattle.heat_plan.specs.Order.{Rising}
use Rattle.heat_plan.specs.Plans.{names_of}
use Rattle.heat_plan.specs.declared.item.Item.{Item}
use Rattle.row_table.specs.Chains.{IsCurrent}
use Rattle.row_table.specs.Rows.{put_row, row_at}
use Rattle.row_table.specs.declared.row.Row.{Row}
use Rattle.mail_table.specs.Mails.{job_at}
use Rattle.mail_table.specs.declared.mail.Job.{Job}
use Rattle.step_relation.specs.State.{StateData, stack_at}
use Rattle.step_relation.specs.Commands.{Chooses, current, fresh, none}
use Rattle.step_relation.specs.Rows.{new_row}
use Rattle.step_relation.specs.Targets.{HasNoCurrent}
use Rattle.step_relation.specs.Linked.{Chained, IsOf, Links, Locked, OneCurrent, Owned, by_job, by_node, by_row}
use Rattle.step_relation.specs.Numbered.{RowBelow}
use Rattle.history_laws.proofs.links.Locks.{Locked-fresh}
use Rattle.history_laws.proofs.links.Owners.{Owned-put_row}
use Rattle.history_laws.proofs.tables.Puts.{contains_head, contains_none, contains_there, put_rows, rising_apart, rising_rest}
use Rattle.history_laws.proofs.tables.Rows.{row-key, row_put}

-- rows of which those from the state's next number on, up to this one, are new ones of the stack
pub record NewRows (s : StateData) (name : List ℕ) (next : ℕ) (items : List Item) (rows : List Row) : Type 0 where
  pub current : OneCurrent rows
  pub chained : Chained rows
  pub locked : Locked rows s.jobs
  pub owned : Owned rows s.graphs s.jobs
  pub below : (n : ℕ) (r : Row) → row_at rows n ≡ Some r → RowBelow next (s.next.trav + 1) s.next.engine r
  pub in_table : (n : ℕ) (r : Row) → row_at rows n ≡ Some r → IsSome (stack_at s.stacks r.stack) ⊎ (r.stack ≡ name)
  pub old : (m : ℕ) (q : Row) → row_at rows m ≡ Some q → (row_at s.rows m ≡ Some q) ⊎
      (Contains (names_of items) q.name → ⊥)
  pub low : s.next.row ≤ next

RowBelow-more : (a b t u e : ℕ) (r : Row) → a ≤ b → t ≤ u → RowBelow a t e r → RowBelow b u e r
RowBelow-more a b t u e r le le' h = record {
  no_ = let l = h.no_ in omega arith;
  newest = let l = h.newest in omega arith;
  required = λ n has. let l = h.required n has in omega arith;
  replaces = λ n is. let l = h.replaces n is in omega arith;
  replaced_by = λ n is. let l = h.replaced_by n is in omega arith;
  holder = h.holder;
}

module _ (s : StateData) (h : Links s) (name : List ℕ) where
  pub none_new : (items : List Item) → NewRows s name s.next.row items s.rows
  none_new items = record {
    current = h.current;
    chained = h.chained;
    locked = h.locked;
    owned = h.owned;
    below = λ n r at. RowBelow-more s.next.row s.next.row s.next.trav (s.next.trav + 1) s.next.engine r
        (omega arith) (omega arith) (h.numbered.rows n r at);
    in_table = λ n r at. inl (h.numbered.in_table n r at);
    old = λ m q at. inl at;
    low = omega arith;
  }

  one_known : (next : ℕ) (item : Item) (items : List Item) (rows : List Row) → NewRows s name next
      (item ∷ items) rows → NewRows s name next items rows
  one_known next item items rows N = record {
    current = N.current;
    chained = N.chained;
    locked = N.locked;
    owned = N.owned;
    below = N.below;
    in_table = N.in_table;
    old = λ m q at. elim (N.old m q at) [
      | inl was ↦ inl was
      | inr out ↦ inr
          (λ has. out (contains_there item.name q.name (names_of items) has))
    ];
    low = N.low;
  }

  -- one more row
  module _ (next : ℕ) (item : Item) (items : List Item) (rows : List Row)
      (N : NewRows s name next (item ∷ items) rows)
      (apart : Contains (names_of items) item.name → ⊥) (lacks : HasNoCurrent s.rows name item.name) where
    abbrev q : Row
    q = new_row name s.next.trav next item

    less : (n : ℕ) (r : Row) → row_at rows n ≡ Some r → n < next
    less n r at = let k = row-key rows n r at in let b = (N.below n r at).no_ in omega arith

    nobody : (f : ℕ) (j : Job) → job_at s.jobs f ≡ Some j → j.row ≢ next
    nobody f j at is = let b = (h.numbered.jobs f j at).its_row in let l = N.low in let e : j.row ≡ next = is in
        omega arith

    unowned : (a : List ℕ) → IsOf rows s.graphs s.jobs next a → ⊥
    unowned a (by_row r at is) = let l = less next r at in omega arith
    unowned a (by_node g i node at at_i is) = let b = (h.numbered.graphs a g at).nodes i node at_i in let l =
        N.low in omega arith
    unowned a (by_job e j at on is) = nobody e j at on

    one_current : OneCurrent (put_row q rows)
    one_current = record { newest = go } where
      go : (n m : ℕ) (a b : Row) → row_at (put_row q rows) n ≡ Some a → row_at (put_row q rows) m ≡ Some b
          → a.stack ≡ b.stack → a.name ≡ b.name
          → IsCurrent a → m ≤ n
      go n m a b at_n at_m stacks names c = elim (row_put q rows at_n) [
        | inl new ↦ elim (row_put q rows at_m) [
          | inl new' ↦ let k : next ≡ n = new.0 in let k' : next ≡ m = new'.0 in omega arith
          | inr was' ↦ let k : next ≡ n = new.0 in let l = less m b was'.1 in omega arith
        ]
        | inr was ↦ elim (row_put q rows at_m) [
          | inl new' ↦ absurd (clash n a was.1 (stacks ∙ ap (λ (x : Row). x.stack) (sym new'.1))
              (names ∙ ap (λ (x : Row). x.name) (sym new'.1)) c)
          | inr was' ↦ N.current.newest n m a b was.1 was'.1 stacks names c
        ]
      ] where
        clash : (n : ℕ) (a : Row) → row_at rows n ≡ Some a → a.stack ≡ name → a.name ≡ item.name → IsCurrent a → ⊥
        clash n a at is called c = elim (N.old n a at) [
          | inl was ↦ lacks n a was is called c
          | inr out ↦ out (subst (λ (x : List ℕ). Contains (names_of (item ∷ items)) x) (sym called)
              (contains_head item.name (names_of items)))
        ]

    no_next : (m : ℕ) → None ≡ Some m → ⊥
    no_next m is = cc

    chains : Chained (put_row q rows)
    chains = record {
      rises = λ n m r at by. elim (row_put q rows at) [
        | inl new ↦ absurd (no_next m (ap (λ (x : Row). x.replaced_by) new.1 ∙ by))
        | inr was ↦ N.chained.rises n m r was.1 by
      ];
      forth = λ n m r p at by at_m. elim (row_put q rows at) [
        | inl new ↦ absurd (no_next m (ap (λ (x : Row). x.replaced_by) new.1 ∙ by))
        | inr was ↦ elim (row_put q rows at_m) [
          | inl new ↦ let k : next ≡ m = new.0 in let l = (N.below n r was.1).replaced_by m by in absurd (omega arith)
          | inr was' ↦ N.chained.forth n m r p was.1 by was'.1
        ]
      ];
      back = λ n m r p at at_m of. elim (row_put q rows at_m) [
        | inl new ↦ absurd (no_next n (ap (λ (x : Row). x.replaces) new.1 ∙ of))
        | inr was' ↦ elim (row_put q rows at) [
          | inl new ↦ let k : next ≡ n = new.0 in let l = (N.below m p was'.1).replaces n of in absurd (omega arith)
          | inr was ↦ N.chained.back n m r p was.1 was'.1 of
        ]
      ];
    }

    q_below : RowBelow (next + 1) (s.next.trav + 1) s.next.engine q
    q_below = record {
      no_ = omega arith;
      newest = omega arith;
      required = λ n has. absurd (contains_none n has);
      replaces = λ n is. cc;
      replaced_by = λ n is. cc;
      holder = λ n is. cc;
    }

    one_new : NewRows s name (next + 1) items (put_row q rows)
    one_new = record {
      current = one_current;
      chained = chains;
      locked = Locked-fresh rows s.jobs q refl nobody N.locked;
      owned = Owned-put_row q rows s.graphs s.jobs (λ a x. absurd (unowned a x)) N.owned;
      below = λ n r at. elim (row_put q rows at) [
        | inl new ↦ subst (RowBelow (next + 1) (s.next.trav + 1) s.next.engine) new.1 q_below
        | inr was ↦ RowBelow-more next (next + 1) (s.next.trav + 1) (s.next.trav + 1) s.next.engine r (omega arith)
            (omega arith) (N.below n r was.1)
      ];
      in_table = λ n r at. elim (row_put q rows at) [
        | inl new ↦ inr (ap (λ (x : Row). x.stack) (sym new.1))
        | inr was ↦ N.in_table n r was.1
      ];
      old = λ m r at. elim (row_put q rows at) [
        | inl new ↦ inr (λ has. apart (subst (λ (x : Row). Contains (names_of items) x.name) (sym new.1) has))
        | inr was ↦ elim (N.old m r was.1) [
          | inl there ↦ inl there
          | inr out ↦ inr (λ has. out (contains_there item.name r.name (names_of items) has))
        ]
      ];
      low = let l = N.low in omega arith;
    }

  -- all of them
  pub all_new : (next : ℕ) (items : List Item) (chosen : List ℕ) (qs : List Row)
      → Chooses s name s.next.trav next items chosen qs
      → Rising (names_of items) → (rows : List Row) → NewRows s name next items rows → NewRows s name
      (next + length qs) [] (put_rows qs rows)
  all_new next _ _ _ (none _) rising rows N = subst (λ (n : ℕ). NewRows s name n [] rows) (plus_none next) N where
    plus_none : (n : ℕ) → n ≡ n + 0
    plus_none n = omega arith
  all_new next _ _ _ (current _ item items r chosen qs is more) rising rows N =
      all_new next items chosen qs more (rising_rest item.name (names_of items) rising) rows
      (one_known next item items rows N)
  all_new next _ _ _ (fresh _ item items chosen qs lacks more) rising rows N =
      subst (λ (n : ℕ). NewRows s name n [] (put_rows qs (put_row (new_row name s.next.trav next item) rows)))
      (plus_one next (length qs))
      (all_new (next + 1) items chosen qs more (rising_rest item.name (names_of items) rising)
      (put_row (new_row name s.next.trav next item) rows)
      (one_new next item items rows N (rising_apart item.name (names_of items) rising) lacks)) where
        plus_one : (n m : ℕ) → n + 1 + m ≡ n + suc m
        plus_one n m = omega arith
