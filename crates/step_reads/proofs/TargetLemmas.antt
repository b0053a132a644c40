-- The chain of a row, and that a node has one target.
use Rattle.std.proofs.Common.{◌≡◌, ◌<◌, ◌≤◌, ◌^◌, ℕ, List, Bor, None, Some, refl, sym, ap, ◌∙◌, subst, arith}
use Rattle.std.specs.Prelude.{IfSome, Option, option_map}
use Rattle.traversal_graph.specs.declared.shape.Node.{Node}
use Rattle.traversal_graph.specs.declared.shape.Node.TheVariants.{U}
use Rattle.row_table.specs.Chains.{IsLast, Leads, ends, goes}
use Rattle.row_table.specs.Rows.{row_at}
use Rattle.row_table.specs.declared.row.Row.{Row}
use Rattle.step_relation.specs.Targets.{IsCurrentOf, IsTarget, of_c, of_u, renewed}
use Rattle.step_reads.specs.Rows.{IsBehind}
use Rattle.step_reads.proofs.Tables.{row-key, row-self}

pub behind_of : (rows : List Row) (r : Row) (m : ℕ) (found : Option (Bor Row)) → r.replaced_by ≡ Some m → r.no < m
    → m < 2 ^ 62
    → option_map (λ q. q.now) found ≡ row_at rows m → IfSome found (λ q. IsBehind rows r q.now)
behind_of rows r m None by up low h = tt
behind_of rows r m (Some q) by up low h =
    let key : q.now.no ≡ m = row-key rows m q.now (sym h) in
    record {
      link = subst (λ (k : ℕ). r.replaced_by ≡ Some k) (sym key) by;
      rises = subst (λ (k : ℕ). r.no < k) (sym key) up;
      below = subst (λ (k : ℕ). k < 2 ^ 62) (sym key) low;
      found = subst (λ (k : ℕ). row_at rows k ≡ Some q.now) (sym key) (sym h);
    }

pub same_some : {A : Type 0} (x y : A) {o : Option A} → o ≡ Some x → o ≡ Some y → x ≡ y
same_some x y h i = cc

-- the row at which a chain begins stands
pub leads_stands : (rows : List Row) (n t : ℕ) → Leads rows n t → (r : Row) × (row_at rows n ≡ Some r)
leads_stands rows n t (ends _ r at l) = (r, at)
leads_stands rows n t (goes _ m _ r at by up on) = (r, at)

-- where a chain goes on, its row isn't the last
not_last : (rows : List Row) (n m t : ℕ) (r q : Row) → row_at rows n ≡ Some r → IsLast rows r → row_at rows n ≡ Some q
    → q.replaced_by ≡ Some m
    → n < m → Leads rows m t → ⊥
not_last rows n m t r q at l at_q by up on =
    let (x, at_x) = leads_stands rows m t on in
    let is : r ≡ q = same_some r q at at_q in
    let number : r.no ≡ n = row-key rows n r at in
    l m x (ap (λ (z : Row). z.replaced_by) is ∙ by) (subst (λ (k : ℕ). k < m) (sym number) up) at_x

-- a chain has one end
pub leads_once : (rows : List Row) (n t u : ℕ) → Leads rows n t → Leads rows n u → t ≡ u
leads_once rows n t u (ends _ r at l) (ends _ q at' l') = refl
leads_once rows n t u (ends _ r at l) (goes _ m _ q at' by up on) = absurd (not_last rows n m u r q at l at' by up on)
leads_once rows n t u (goes _ m _ r at by up on) (ends _ q at' l') = absurd (not_last rows n m t q r at' l' at by up on)
leads_once rows n t u (goes _ m _ r at by up on) (goes _ k _ q at' by' up' on') =
    let is : r ≡ q = same_some r q at at' in
    let next : Some m ≡ Some k = sym by ∙ (ap (λ (z : Row). z.replaced_by) is ∙ by') in
    let same : m ≡ k = cc in
    leads_once rows m t u on (subst (λ (x : ℕ). Leads rows x u) (sym same) on')

-- a stack and a name have one current row
pub current_once : (rows : List Row) (stack name : List ℕ) (r q : Row) → IsCurrentOf rows stack name r
    → IsCurrentOf rows stack name q → r.no ≡ q.no
current_once rows stack name r q a b =
    let le : q.no ≤ r.no = a.greatest q.no q b.found b.stack_is b.name_is b.current in
    let ge : r.no ≤ q.no = b.greatest r.no r a.found a.stack_is a.name_is a.current in
    omega arith

-- a node has one target
pub target_once : (rows : List Row) (stack : List ℕ) (node : Node) (t u : ℕ) → IsTarget rows stack node t
    → IsTarget rows stack node u → t ≡ u
target_once rows stack node t u (of_c _) (of_c _) = refl
target_once rows stack node t u (of_u name n _ on) (of_u _ _ _ on') = leads_once rows n t u on on'
target_once rows stack node t u (of_u name n _ on) (renewed _ _ r none is) = let (q, at) = leads_stands rows n t on in
    cc
target_once rows stack node t u (renewed name n r none is) (of_u _ _ _ on) = let (q, at) = leads_stands rows n u on in
    cc
target_once rows stack node t u (renewed name n r none is) (renewed _ _ q none' is') =
    current_once rows stack name r q is is'

-- a row that was looked up stands under its own number
pub found_self : (rows : List Row) (n : ℕ) (r : Row) → Some r ≡ row_at rows n → row_at rows r.no ≡ Some r
found_self rows n r h = row-self rows n r (sym h)

-- the target of an update node whose row stands
pub chained : (rows : List Row) (stack name : List ℕ) (n t : ℕ) (r : Row) (node : Node) → node ≡ U name n
    → Some r ≡ row_at rows n
    → Leads rows r.no t → IsTarget rows stack node t
chained rows stack name n t r node is h on = rw is
    (of_u name n t (subst (λ (k : ℕ). Leads rows k t) (row-key rows n r (sym h)) on))

-- the target of one whose row stands no more
pub renewed_at : (rows : List Row) (stack name : List ℕ) (n : ℕ) (r : Row) (node : Node) → node ≡ U name n
    → None ≡ row_at rows n
    → IsCurrentOf rows stack name r → IsTarget rows stack node r.no
renewed_at rows stack name n r node is h current = rw is (renewed name n r (sym h) current)
