-- The current row of a name, and the target of a node, can be found.
use Rattle.std.proofs.Common.{◌≡◌, ◌⊎◌, inl, inr, ◌<◌, ◌≤◌, ℕ, zero, suc, ◌+◌, List, Option, Some, None, refl, sym, ap}
use Rattle.std.proofs.Common.{subst, ◌∙◌, arith}
use Rattle.heat_plan.specs.declared.phase.Act.{Act}
use Rattle.heat_plan.specs.declared.phase.Act.TheVariants.{Create, Delete, Init, Rollback, Update}
use Rattle.traversal_graph.specs.declared.shape.Node.{Node}
use Rattle.traversal_graph.specs.declared.shape.Node.TheVariants.{C, U}
use Rattle.row_table.specs.Chains.{IsCurrent, Leads, ends, goes}
use Rattle.row_table.specs.Rows.{row_at, row_key}
use Rattle.row_table.specs.declared.row.Row.{Row}
use Rattle.history_laws.specs.Targets.{HasNoCurrent, IsCurrentOf, IsTarget, of_c, of_u, renewed}
use Rattle.history_laws.proofs.tables.Rows.{row-key, row_self, same_or_not, same_some, text_or_not}
use Rattle.history_laws.proofs.tables.Targets.{current_once, leads_stands}
use Rattle.next_laws.proofs.Decide.{Decided, below_or_not, bound_at, greatest_or_none}

pub delete_or_not : (act : Act) → Decided (act ≡ Delete)
delete_or_not Init = inr (λ e. cc)
delete_or_not Create = inr (λ e. cc)
delete_or_not Update = inr (λ e. cc)
delete_or_not Delete = inl refl
delete_or_not Rollback = inr (λ e. cc)

none_or_not : {A : Type 0} (o : Option A) → Decided (o ≡ None)
none_or_not None = inl refl
none_or_not (Some x) = inr (λ e. cc)

current_or_not : (r : Row) → Decided (IsCurrent r)
current_or_not r = elim (delete_or_not r.act) [
  | inl gone ↦ inr (λ c. c.kept gone)
  | inr kept ↦ elim (none_or_not r.replaced_by) [
    | inl last ↦ inl (record { kept = kept; last = last })
    | inr not ↦ inr (λ c. not c.last)
  ]
]

module _ (rows : List Row) (stack name : List ℕ) where
  -- the row of this number is a current one
  record IsOne (n : ℕ) : Type 0 where
    pub row : Row
    pub found : row_at rows n ≡ Some row
    pub stack_is : row.stack ≡ stack
    pub name_is : row.name ≡ name
    pub current : IsCurrent row

  one_of : (n : ℕ) (r : Row) → row_at rows n ≡ Some r → Decided (IsOne n)
  one_of n r at = elim (text_or_not r.stack stack) [
    | inr not ↦ inr (λ k. let same = same_some k.row r k.found at in
        not (ap (λ (x : Row). x.stack) (sym same) ∙ k.stack_is))
    | inl stack_is ↦ elim (text_or_not r.name name) [
      | inr not ↦ inr (λ k. let same = same_some k.row r k.found at in
          not (ap (λ (x : Row). x.name) (sym same) ∙ k.name_is))
      | inl name_is ↦ elim (current_or_not r) [
        | inr not ↦ inr (λ k. let same = same_some k.row r k.found at in not (subst IsCurrent same k.current))
        | inl current ↦ inl (record { row = r; found = at; stack_is = stack_is; name_is = name_is; current = current })
      ]
    ]
  ]

  one_or_not : (n : ℕ) → Decided (IsOne n)
  one_or_not n = by (row_at rows n) refl where
    by : (o : Option Row) → row_at rows n ≡ o → Decided (IsOne n)
    by None at = inr (λ k. let found = k.found in cc)
    by (Some r) at = one_of n r at

  pub current_or_none : ((r : Row) × IsCurrentOf rows stack name r) ⊎ HasNoCurrent rows stack name
  current_or_none = let (b, within) = bound_at row_key rows in elim (greatest_or_none IsOne one_or_not b) [
    | inl found ↦ let (n, g) = found in
        let number : g.is.row.no ≡ n = row-key rows n g.is.row g.is.found in inl (
          g.is.row,
          record {
            found = row_self rows n g.is.row g.is.found;
            stack_is = g.is.stack_is;
            name_is = g.is.name_is;
            current = g.is.current;
            greatest = λ m q at of called current.
                let le = g.greatest m (within m q at)
                (record { row = q; found = at; stack_is = of; name_is = called; current = current }) in
                subst (λ (k : ℕ). m ≤ k) (sym number) le;
          },
        )
    | inr none ↦ inr (λ m q at of called current.
        none m (within m q at) (record { row = q; found = at; stack_is = of; name_is = called; current = current }))
  ]

  -- a row is the current one or isn't
  pub current_is_or_not : (r : Row) → row_at rows r.no ≡ Some r → Decided (IsCurrentOf rows stack name r)
  current_is_or_not r at = elim current_or_none [
    | inr none ↦ inr (λ k. none r.no r k.found k.stack_is k.name_is k.current)
    | inl found ↦ let (q, is) = found in elim (same_number q r) [
      | inl same ↦ inl (subst (IsCurrentOf rows stack name)
          (same_some q r is.found (subst (λ (k : ℕ). row_at rows k ≡ Some r) (sym same) at)) is)
      | inr not ↦ inr (λ k. not (current_once rows stack name q r is k))
    ]
  ] where
    same_number : (q x : Row) → Decided (q.no ≡ x.no)
    same_number q x = same_or_not q.no x.no

-- a chain from a row that stands ends somewhere
module _ (rows : List Row) (b : ℕ) (within : (k : ℕ) (x : Row) → row_at rows k ≡ Some x → k < b) where
  leads_within : (fuel n : ℕ) (r : Row) → row_at rows n ≡ Some r → b ≤ n + fuel → (t : ℕ) × Leads rows n t
  leads_within zero n r at reach = let lt = within n r at in absurd (omega (arith, lt, reach))
  leads_within (suc fuel) n r at reach =
      by r.replaced_by refl (λ m q at_m up. leads_within fuel m q at_m (omega (arith, up, reach))) where
        by_row : (m : ℕ) → r.replaced_by ≡ Some m → n < m → (o : Option Row) → row_at rows m ≡ o
            → ((m : ℕ) (q : Row) → row_at rows m ≡ Some q → n < m → (t : ℕ) × Leads rows m t) → (t : ℕ) × Leads rows n t
        by_row m is up None none rest = (
          n,
          ends n r at (λ k q by_ lt found. let same : m ≡ k = cc in
              let found_m : row_at rows m ≡ Some q = subst (λ (z : ℕ). row_at rows z ≡ Some q) (sym same) found in cc),
        )
        by_row m is up (Some q) found rest = let (t, on) = rest m q found up in (t, goes n m t r at is up on)

        by : (o : Option ℕ) → r.replaced_by ≡ o
            → ((m : ℕ) (q : Row) → row_at rows m ≡ Some q → n < m → (t : ℕ) × Leads rows m t)
            → (t : ℕ) × Leads rows n t
        by None is rest = (n, ends n r at (λ m q by_ lt found. cc))
        by (Some m) is rest = elim (below_or_not n m) [
          | inl up ↦ by_row m is up (row_at rows m) refl rest
          | inr le ↦ (
            n,
            ends n r at (λ k q by_ lt found. let same : m ≡ k = cc in
                let number = row-key rows n r at in omega (arith, le, lt, same, number)),
          )
        ]

pub leads_from : (rows : List Row) (n : ℕ) (r : Row) → row_at rows n ≡ Some r → (t : ℕ) × Leads rows n t
leads_from rows n r at = let (b, within) = bound_at row_key rows in leads_within rows b within b n r at (omega arith)

pub target_or_none : (rows : List Row) (stack : List ℕ) (node : Node)
    → ((t : ℕ) × IsTarget rows stack node t) ⊎ ((t : ℕ) → ¬ IsTarget rows stack node t)
target_or_none rows stack (C n) = inl (n, of_c n)
target_or_none rows stack (U name n) = by (row_at rows n) refl where
  only_current : row_at rows n ≡ None → HasNoCurrent rows stack name → (t : ℕ) → IsTarget rows stack (U name n) t → ⊥
  only_current gone none t (of_u _ _ _ on) = let (q, at) = leads_stands rows n t on in cc
  only_current gone none t (renewed _ _ r missing is) = none r.no r is.found is.stack_is is.name_is is.current

  by : (o : Option Row) → row_at rows n ≡ o → ((t : ℕ) × IsTarget rows stack (U name n) t)
      ⊎ ((t : ℕ) → ¬ IsTarget rows stack (U name n) t)
  by (Some r) at = let (t, on) = leads_from rows n r at in inl (t, of_u name n t on)
  by None gone = elim (current_or_none rows stack name) [
    | inl found ↦ let (r, is) = found in inl (r.no, renewed name n r gone is)
    | inr none ↦ inr (only_current gone none)
  ]
