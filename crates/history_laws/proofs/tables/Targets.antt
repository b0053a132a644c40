-- A node has one target; and targets stay where each row keeps its number, stack, name, act and replaced_by.
use Rattle.std.proofs.Common.{◌≡◌, ◌<◌, ◌≤◌, ℕ, List, Some, refl, sym, ap, ◌∙◌, subst, arith}
use Rattle.traversal_graph.specs.declared.shape.Node.{Node}
use Rattle.traversal_graph.specs.declared.shape.Node.TheVariants.{C, U}
use Rattle.row_table.specs.Chains.{IsLast, Leads, ends, goes}
use Rattle.row_table.specs.Rows.{row_at}
use Rattle.row_table.specs.declared.row.Row.{Row}
use Rattle.step_relation.specs.Targets.{IsCurrentOf, IsTarget, of_c, of_u, renewed}
use Rattle.history_laws.proofs.tables.Alike.{Alike}
use Rattle.history_laws.proofs.tables.Rows.{row-key, same_some}

-- the row at which a chain ends stands
pub leads_stands : (rows : List Row) (n t : ℕ) → Leads rows n t → (r : Row) × (row_at rows n ≡ Some r)
leads_stands rows n t (ends _ r at l) = (r, at)
leads_stands rows n t (goes _ m _ r at by up on) = (r, at)

-- where a chain goes on, its row isn't the last
not_last : (rows : List Row) (n m t : ℕ) (r q : Row) → row_at rows n ≡ Some r → IsLast rows r → row_at rows n ≡ Some q
    → q.replaced_by ≡ Some m
    → n < m → Leads rows m t → ⊥
not_last rows n m t r q at l at_q by up on =
    let (x, at_x) = leads_stands rows m t on in
    let is : r ≡ q = same_some r q at at_q in
    let number : r.no ≡ n = row-key rows n r at in
    l m x (ap (λ (z : Row). z.replaced_by) is ∙ by) (subst (λ (k : ℕ). k < m) (sym number) up) at_x

pub leads_once : (rows : List Row) (n t u : ℕ) → Leads rows n t → Leads rows n u → t ≡ u
leads_once rows n t u (ends _ r at l) (ends _ q at' l') = refl
leads_once rows n t u (ends _ r at l) (goes _ m _ q at' by up on) = absurd (not_last rows n m u r q at l at' by up on)
leads_once rows n t u (goes _ m _ r at by up on) (ends _ q at' l') = absurd (not_last rows n m t q r at' l' at by up on)
leads_once rows n t u (goes _ m _ r at by up on) (goes _ k _ q at' by' up' on') =
    let is : r ≡ q = same_some r q at at' in
    let next : Some m ≡ Some k = sym by ∙ (ap (λ (z : Row). z.replaced_by) is ∙ by') in
    let same : m ≡ k = cc in
    leads_once rows m t u on (subst (λ (x : ℕ). Leads rows x u) (sym same) on')

-- a stack and a name have one current row
pub current_once : (rows : List Row) (stack name : List ℕ) (r q : Row) → IsCurrentOf rows stack name r
    → IsCurrentOf rows stack name q → r.no ≡ q.no
current_once rows stack name r q a b =
    let le : q.no ≤ r.no = a.greatest q.no q b.found b.stack_is b.name_is b.current in
    let ge : r.no ≤ q.no = b.greatest r.no r a.found a.stack_is a.name_is a.current in
    omega arith

pub same_current : (rows : List Row) (stack name : List ℕ) (r q : Row) → IsCurrentOf rows stack name r
    → IsCurrentOf rows stack name q → r ≡ q
same_current rows stack name r q a b =
    same_some r q a.found (subst (λ (k : ℕ). row_at rows k ≡ Some q)
    (sym (current_once rows stack name r q a b)) b.found)

-- a node has one target
pub target_once : (rows : List Row) (stack : List ℕ) (node : Node) (t u : ℕ) → IsTarget rows stack node t
    → IsTarget rows stack node u → t ≡ u
target_once rows stack node t u (of_c _) (of_c _) = refl
target_once rows stack node t u (of_u name n _ on) (of_u _ _ _ on') = leads_once rows n t u on on'
target_once rows stack node t u (of_u name n _ on) (renewed _ _ r none is) = let (q, at) =
    leads_stands rows n t on in cc
target_once rows stack node t u (renewed name n r none is) (of_u _ _ _ on) = let (q, at) =
    leads_stands rows n u on in cc
target_once rows stack node t u (renewed name n r none is) (renewed _ _ q none' is') =
    current_once rows stack name r q is is'

pub cleanup_target : (rows : List Row) (stack : List ℕ) (n t : ℕ) → IsTarget rows stack (C n) t → n ≡ t
cleanup_target rows stack n t (of_c _) = refl

-- what targets read of a row
pub record SameWay (o a : Row) : Type 0 where
  pub no_ : a.no ≡ o.no
  pub stack : a.stack ≡ o.stack
  pub name : a.name ≡ o.name
  pub act : a.act ≡ o.act
  pub replaced_by : a.replaced_by ≡ o.replaced_by

pub SameWay-same : (r : Row) → SameWay r r
SameWay-same r = record { no_ = refl; stack = refl; name = refl; act = refl; replaced_by = refl }

module _ (before after : List Row) (alike : Alike SameWay before after) where
  last : (o a : Row) → SameWay o a → IsLast before o → IsLast after a
  last o a same h m q by up at =
      let (p, at_p, _) = alike.were m q at in
      h m p (sym same.replaced_by ∙ by) (subst (λ (k : ℕ). k < m) same.no_ up) at_p

  pub leads_kept : (n t : ℕ) → Leads before n t → Leads after n t
  leads_kept n t (ends _ r at h) = let (a, at_a, same) = alike.are n r at in ends n a at_a (last r a same h)
  leads_kept n t (goes _ m _ r at by up on) =
      let (a, at_a, same) = alike.are n r at in goes n m t a at_a (same.replaced_by ∙ by) up (leads_kept m t on)

  pub current_kept : (stack name : List ℕ) (r : Row) → IsCurrentOf before stack name r
      → (a : Row) × (a.no ≡ r.no) × IsCurrentOf after stack name a
  current_kept stack name r is =
      let (a, at_a, same) = alike.are r.no r is.found in (a, same.no_, by a at_a same) where
        by : (a : Row) → row_at after r.no ≡ Some a → SameWay r a → IsCurrentOf after stack name a
        by a at_a same = record {
          found = subst (λ (k : ℕ). row_at after k ≡ Some a) (sym same.no_) at_a;
          stack_is = same.stack ∙ is.stack_is;
          name_is = same.name ∙ is.name_is;
          current = record {
            kept = λ e. is.current.kept (sym same.act ∙ e);
            last = same.replaced_by
                ∙ is.current.last;
          };
          greatest = λ m q at of called current.
              let (p, at_p, like) = alike.were m q at in
              let le : m ≤ r.no = is.greatest m p at_p (sym like.stack ∙ of) (sym like.name ∙ called)
              (record { kept = λ e. current.kept (like.act ∙ e); last = sym like.replaced_by ∙ current.last }) in
              subst (λ (k : ℕ). m ≤ k) (sym same.no_) le;
        }

  pub target_kept : (stack : List ℕ) (node : Node) (t : ℕ) → IsTarget before stack node t → IsTarget after stack node t
  target_kept stack node t (of_c _) = of_c t
  target_kept stack node t (of_u name n _ on) = of_u name n t (leads_kept n t on)
  target_kept stack node t (renewed name n r none is) =
      let (a, number, current) = current_kept stack name r is in
      subst (λ (k : ℕ). IsTarget after stack (U name n) k) number (renewed name n a (alike.gone n none) current)
