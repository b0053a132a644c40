-- Items that have a listing have an order: nodes whose edges rise by a rank can be taken one by one, the least ready first.
-- And a listing that takes them so is an order.
use Rattle.std.proofs.Common.{◌≡◌, ◌⊎◌, ℕ, zero, suc, ◌+◌, ◌<◌, ◌≤◌, List, [], ◌∷◌, ◌++◌, length, get_or, map, sym, ap, subst, inl, inr, arith}
use Rattle.std.specs.Prelude.{Contains}
use Rattle.std.proofs.lemmas.Bool.{cases_lt, cases_eq}
use Rattle.std.proofs.lemmas.List.{length_push, length-map}
use Rattle.std.proofs.lemmas.List.Elements.{All-push, All-contains}
use Rattle.std.proofs.lemmas.List.Sorted.{length_permutation}
use Rattle.std.proofs.lemmas.Option.{slice_get_within}
use Rattle.dep_graph.specs.Lists.{IsLeast}
use Rattle.dep_graph.specs.Orders.{IsReady, TakesLeast, Orders}
use Rattle.dep_graph.specs.Paths.{IsAcyclic}
use Rattle.dep_graph.proofs.ClosingLemmas.{length-le_distinct}
use Rattle.dep_graph.proofs.OrderLemmas.{TakesLeast-none, TakesLeast-push, all_below, once_each, IsDistinct-fresh}
use Rattle.heat_plan.specs.Order.{Rising}
use Rattle.heat_plan.specs.Plans.{names_of, IsListing, HasNoCycle}
use Rattle.heat_plan.specs.declared.item.Item.{Item}
use Rattle.traversal_graph.specs.Candidates.{need_edges}
use Rattle.traversal_graph.specs.Relations.{IsNeeded}
use Rattle.traversal_graph.proofs.NeedMembers.{in_needs, to_needs}
use Rattle.traversal_graph.proofs.Listings.{acyclic_by_rank, rank_in, ranks_rise}

-- ---- what can be decided

-- it holds or it doesn't
abbrev Decided : Type 0 → Type 0
Decided A = A ⊎ (A → ⊥)

same_number : (x y : ℕ) → Decided (x ≡ y)
same_number x y = cases_eq x y

same_pair : (p q : ℕ × ℕ) → Decided (p ≡ q)
same_pair (a, b) (c, d) = elim (cases_eq a c) [
  | inl e ↦ elim (cases_eq b d) [ inl f ↦ inl cc | inr g ↦ inr (λ h. g (ap (λ (x : ℕ × ℕ). x.1) h)) ]
  | inr g ↦ inr (λ h. g (ap (λ (x : ℕ × ℕ). x.0) h))
]

held : {A : Type 0} → ((p q : A) → Decided (p ≡ q)) → (l : List A) (x : A) → Decided (Contains l x)
held same [] x = inr (λ c. absurd (omega (arith, c.1)))
held {A} same (y ∷ l) x = go (same y x) (held same l x)
  where
    none : (y ≡ x → ⊥) → (Contains l x → ⊥) → Contains (y ∷ l) x → ⊥
    none ne not (zero, lt, e) = ne e
    none ne not (suc k, lt, e) = not (k, omega (arith, lt), e)

    go : Decided (y ≡ x) → Decided (Contains l x) → Decided (Contains (y ∷ l) x)
    go (inl e) rest = inl (0, omega arith, e)
    go (inr ne) (inl (k, lt, e)) = inl (suc k, omega (arith, lt), e)
    go (inr ne) (inr not) = inr (none ne not)

-- all numbers below the bound are of the kind, or one isn't
all_or_one : (P : ℕ → Type 0) → ((k : ℕ) → Decided (P k)) → (n : ℕ)
    → ((k : ℕ) → k < n → P k) ⊎ ((k : ℕ) × (k < n) × (P k → ⊥))
all_or_one P test zero = inl (λ k lt. absurd (omega (arith, lt)))
all_or_one P test (suc n) = go (all_or_one P test n) (test n)
  where
    go : ((k : ℕ) → k < n → P k) ⊎ ((k : ℕ) × (k < n) × (P k → ⊥)) → Decided (P n)
        → ((k : ℕ) → k < suc n → P k) ⊎ ((k : ℕ) × (k < suc n) × (P k → ⊥))
    go (inr (k, lt, isnt)) last = inr (k, omega (arith, lt), isnt)
    go (inl all) (inr isnt) = inr (n, omega arith, isnt)
    go (inl all) (inl own) = inl (λ k lt. elim (cases_eq k n) [
      | inl e ↦ subst P (sym e) own
      | inr ne ↦ all k (omega (arith, lt, ne))
    ])

-- the least of a kind below the bound, or there is none
least_or_none : (P : ℕ → Type 0) → ((k : ℕ) → Decided (P k)) → (n : ℕ)
    → ((k : ℕ) × IsLeast P k) ⊎ ((k : ℕ) → k < n → P k → ⊥)
least_or_none P test zero = inr (λ k lt h. absurd (omega (arith, lt)))
least_or_none P test (suc n) = go (least_or_none P test n) (test n)
  where
    above : ((k : ℕ) → k < n → P k → ⊥) → (other : ℕ) → P other → n ≤ other
    above none other h = elim (cases_lt other n) [ inl lt ↦ absurd (none other lt h) | inr le ↦ le ]

    go : ((k : ℕ) × IsLeast P k) ⊎ ((k : ℕ) → k < n → P k → ⊥) → Decided (P n)
        → ((k : ℕ) × IsLeast P k) ⊎ ((k : ℕ) → k < suc n → P k → ⊥)
    go (inl found) last = inl found
    go (inr none) (inl own) = inl (n, record { is = own; least = above none })
    go (inr none) (inr isnt) = inr (λ k lt h. elim (cases_eq k n) [
      | inl e ↦ isnt (subst P e h)
      | inr ne ↦ none k (omega (arith, lt, ne)) h
    ])

-- ---- nodes taken one by one

-- where a node isn't taken yet, there are fewer than all
room : (E : ℕ → ℕ → Type 0) (n : ℕ) (l : List ℕ) (x : ℕ) → TakesLeast E n l → x < n → (Contains l x → ⊥) → length l < n
room E n l x taken lt fresh =
    let more = length-le_distinct (l ++ x ∷ []) n (IsDistinct-fresh l x (once_each E n l taken) fresh)
    (All-push (λ y. y < n) l x (all_below E n l taken) lt) in
    omega (arith, more, length_push l x)

-- where all are taken, they are in order
orders_from : (E : ℕ → ℕ → Type 0) (n : ℕ) (order : List ℕ) → IsAcyclic E → TakesLeast E n order
    → ((x : ℕ) → x < n → Contains order x) → Orders E n order
orders_from E n order acyclic taken all = record {
  acyclic = acyclic;
  listed = record {
    all = λ x. ((λ h. All-contains (λ y. y < n) order x (all_below E n order taken) h), all x);
    once = once_each E n order taken;
    forward = λ front x back e. (taken front x back e).is.ready;
    least = taken;
  };
}

-- ---- an order, node by node

module _ (E : ℕ → ℕ → Type 0) (n : ℕ) (rank : ℕ → ℕ) (up : (x y : ℕ) → E x y → rank x < rank y)
    (joins : (x y : ℕ) → E x y → x < n) (test : (x y : ℕ) → Decided (E x y)) where
  -- all predecessors are listed, or one isn't
  preds : (l : List ℕ) (x : ℕ) → ((p : ℕ) → E p x → Contains l p) ⊎ ((p : ℕ) × E p x × (Contains l p → ⊥))
  preds l x = go (all_or_one (λ p. E p x → Contains l p) (λ p. by p (test p x) (held same_number l p)) n)
    where
      by : (p : ℕ) → Decided (E p x) → Decided (Contains l p) → Decided (E p x → Contains l p)
      by p edge (inl c) = inl (λ _. c)
      by p (inr isnt) (inr not) = inl (λ e. absurd (isnt e))
      by p (inl e) (inr not) = inr (λ f. not (f e))

      open_ : (p : ℕ) → ((E p x → Contains l p) → ⊥) → Decided (E p x) → Decided (Contains l p)
          → (p : ℕ) × E p x × (Contains l p → ⊥)
      open_ p isnt edge (inl c) = absurd (isnt (λ _. c))
      open_ p isnt (inr none) (inr not) = absurd (isnt (λ e. absurd (none e)))
      open_ p isnt (inl e) (inr not) = (p, e, not)

      go : ((p : ℕ) → p < n → E p x → Contains l p) ⊎ ((p : ℕ) × (p < n) × ((E p x → Contains l p) → ⊥))
          → ((p : ℕ) → E p x → Contains l p) ⊎ ((p : ℕ) × E p x × (Contains l p → ⊥))
      go (inl all) = inl (λ p e. all p (joins p x e) e)
      go (inr (p, lt, isnt)) = inr (open_ p isnt (test p x) (held same_number l p))

  is_ready : (l : List ℕ) (x : ℕ) → Decided (IsReady E n l x)
  is_ready l x = go (cases_lt x n) (held same_number l x) (preds l x)
    where
      go : (x < n) ⊎ (n ≤ x) → Decided (Contains l x)
          → ((p : ℕ) → E p x → Contains l p) ⊎ ((p : ℕ) × E p x × (Contains l p → ⊥)) → Decided (IsReady E n l x)
      go (inr le) c all = inr (λ r. absurd (omega (arith, le, r.within)))
      go (inl lt) (inl c) all = inr (λ r. r.fresh c)
      go (inl lt) (inr not) (inr (p, e, isnt)) = inr (λ r. isnt (r.ready p e))
      go (inl lt) (inr not) (inl all) = inl (record { within = lt; fresh = not; ready = all })

  -- where a node isn't listed yet, one is ready: that, or one behind which it stands
  some_ready : (r : ℕ) (l : List ℕ) (x : ℕ) → rank x < r → x < n → (Contains l x → ⊥) → (y : ℕ) × IsReady E n l y
  some_ready zero l x low lt fresh = absurd (omega (arith, low))
  some_ready (suc r) l x low lt fresh = elim (preds l x) [
    | inl all ↦ (x, record { within = lt; fresh = fresh; ready = all })
    | inr h ↦ some_ready r l h.0 (omega (arith, low, up h.0 x h.1)) (joins h.0 x h.1) h.2
  ]

  ordered : (left : ℕ) (l : List ℕ) → TakesLeast E n l → n ≤ length l + left
      → (order : List ℕ) × TakesLeast E n order × ((x : ℕ) → x < n → Contains order x)
  ordered zero l taken enough = elim (all_or_one (λ x. Contains l x) (held same_number l) n) [
    | inl all ↦ (l, taken, all)
    | inr h ↦ absurd (omega (arith, enough, room E n l h.0 taken h.1 h.2))
  ]
  ordered (suc left) l taken enough = elim (all_or_one (λ x. Contains l x) (held same_number l) n) [
    | inl all ↦ (l, taken, all)
    | inr h ↦ elim (least_or_none (IsReady E n l) (is_ready l) n) [
      | inl found ↦ ordered left (l ++ found.0 ∷ []) (TakesLeast-push E n l found.0 taken found.1)
          (omega (arith, enough, length_push l found.0))
      | inr none ↦ (let some = some_ready (suc (rank h.0)) l h.0 (omega arith) h.1 h.2 in
          absurd (none some.0 some.1.within some.1))
    ]
  ]

  pub order_by_rank : (order : List ℕ) × Orders E n order
  order_by_rank =
      let o = ordered n [] (TakesLeast-none E n) (omega arith) in
      (o.0, orders_from E n o.0 (acyclic_by_rank E rank up) o.1 o.2)

-- ---- the items' order

is_needed : (items : List Item) → Rising (names_of items) → (x y : ℕ) → Decided (IsNeeded items x y)
is_needed items up x y = elim (held same_pair (need_edges items) (x, y)) [
  | inl c ↦ inl (in_needs items x y c)
  | inr isnt ↦ inr (λ h. isnt (to_needs items x y up h))
]

pub order_from_listing : (items : List Item) → Rising (names_of items) → HasNoCycle items
    → (order : List ℕ) × Orders (IsNeeded items) (length items) order
order_from_listing items up (listed, list) =
    order_by_rank (IsNeeded items) (length items) (rank_in items listed) (λ x y h. (ranks_rise items listed up list x y h).0)
    (λ x y h. slice_get_within items x h.needed h.needed_at) (is_needed items up)

-- a listing that takes the least first has each item, since it is as long as all are
module _ (items : List Item) (d : Item) (order : List ℕ) (up : Rising (names_of items))
    (taken : TakesLeast (IsNeeded items) (length items) order) (list : IsListing items (map (λ k. get_or items k d) order)) where
  all_in : (x : ℕ) → x < length items → Contains order x
  all_in x lt = elim (held same_number order x) [
    | inl c ↦ c
    | inr fresh ↦ absurd (omega (
      arith,
      length_permutation items (map (λ k. get_or items k d) order) list.same,
      length-map order (λ k. get_or items k d),
      room (IsNeeded items) (length items) order x taken lt fresh,
    ))
  ]

  pub order_of_listing : Orders (IsNeeded items) (length items) order
  order_of_listing =
      let listed : List Item = map (λ k. get_or items k d) order in
      orders_from (IsNeeded items) (length items) order
      (acyclic_by_rank (IsNeeded items) (rank_in items listed) (λ x y h. (ranks_rise items listed up list x y h).0))
      taken all_in
