-- The entries of one group in an index of groups and numbers.
use Rattle.std.proofs.Common.{◌≡◌, ◌<◌, ◌≤◌, ◌∙◌, ℕ, true, false, true≢false, List, length, map, get_or, refl, sym, ap, subst, ⊎_elim, arith, ◌⊎◌}
use Rattle.std.specs.Prelude.{not}
use Rattle.std.specs.Ordering.{nat_cmp, ordering_then, is_lt, is_gt, MatchOrdering}
use Rattle.std.specs.Cmp.{IsTotalOrder, tied_itself, ranks}
use Rattle.std.specs.declared.cmp.Ordering.{Ordering}
use Rattle.std.specs.declared.cmp.Ordering.TheVariants.{Less, Equal, Greater}
use Rattle.std.proofs.lemmas.List.{length-map, get_or-map}
use Rattle.std.proofs.lemmas.Map.Lookups.{CmpEqualImpliesEq}
use Rattle.keyed_table.specs.Orders.{IsOrder, IsStart}
use Rattle.keyed_table.specs.Sortings.{pair_below}
use Rattle.keyed_table.proofs.Numbers.{compared}
use Rattle.row_table.specs.declared.row.Row.{Row}
use Rattle.row_table.proofs.RowOrders.{key_in}

less_than : (a b : ℕ) → is_lt (nat_cmp a b) ≡ true → a < b
less_than a b e = subst (λ r. MatchOrdering r (a < b) (a ≡ b) (b < a)) (is_less (nat_cmp a b) e) (ranks a b) where
  is_less : (r : Ordering) → is_lt r ≡ true → r ≡ Less
  is_less Less h = refl
  is_less Equal h = absurd (true≢false (sym h))
  is_less Greater h = absurd (true≢false (sym h))

never_below : (a : ℕ) (r : Ordering) → nat_cmp a 0 ≡ r → is_lt (nat_cmp a 0) ≡ false
never_below a Less e = absurd (omega (arith, less_than a 0 (ap is_lt e)))
never_below a Equal e = ap is_lt e
never_below a Greater e = ap is_lt e

module _ {G : Type 0} (cmp : G → G → Ordering) (total : IsTotalOrder cmp) (exact : CmpEqualImpliesEq cmp) (group : Row → G)
    (rows : List Row) (places : List ℕ) (o : IsOrder (pair_below cmp nat_cmp) (map (key_in group) rows) places) (g : G) where
  -- in one group the numbers decide
  in_group : (a b : ℕ) → pair_below cmp nat_cmp (g, a) (g, b) ≡ is_lt (nat_cmp a b)
  in_group a b = ap (λ r. is_lt (ordering_then r (nat_cmp a b))) (tied_itself total g)

  key_at : (i : ℕ) (d : Row) → i < length places → get_or (map (key_in group) rows) (get_or places i 0) (key_in group d) ≡ key_in group (get_or rows (get_or places i 0) d)
  key_at i d l = get_or-map (key_in group) rows (get_or places i 0) d (key_in group d) (omega (arith, (o.within i l).0, length-map rows (key_in group)))

  module _ (start stop : ℕ) (b : IsStart (λ k. pair_below cmp nat_cmp k (g, 0)) (map (key_in group) rows) places start)
      (e : IsStart (λ k. not (is_gt (cmp k.0 g))) (map (key_in group) rows) places stop) where
    -- an entry between the ends leads to a row of the group
    pub grouped : (i : ℕ) (d : Row) → start ≤ i → i < stop → group (get_or rows (get_or places i 0) d) ≡ g
    grouped i d le lt =
        let l : i < length places = omega (arith, lt, e.few) in
        let r = get_or rows (get_or places i 0) d in
        exact (group r) g (by (cmp (group r) g)
        (subst (λ k. pair_below cmp nat_cmp k (g, 0) ≡ false) (key_at i d l) (b.behind i (key_in group d) le l))
        (subst (λ k. not (is_gt (cmp k.0 g)) ≡ true) (key_at i d l) (e.before i (key_in group d) lt)))
      where
        by : (r : Ordering) → is_lt (ordering_then r (nat_cmp (get_or rows (get_or places i 0) d).no 0)) ≡ false → not (is_gt r) ≡ true → r ≡ Equal
        by Less p q = absurd (true≢false p)
        by Equal p q = refl
        by Greater p q = absurd (true≢false (sym q))

    -- a row of the group has its entry there
    pub entry_of : (p : ℕ) (x : Row) → p < length rows → ((d : Row) → get_or rows p d ≡ x) → group x ≡ g
        → (i : ℕ) × (start ≤ i) × (i < stop) × ((d : Row) → get_or rows (get_or places i 0) d ≡ x)
    entry_of p x lp is own =
        let (i, li, ei) = o.whole p (omega (arith, lp, length-map rows (key_in group))) (λ f. omega (arith, f, lp, length-map rows (key_in group))) in
        let read : (d : Row) → get_or rows (get_or places i 0) d ≡ x = λ d. ap (λ n. get_or rows n d) ei ∙ is d in
        let key : get_or (map (key_in group) rows) (get_or places i 0) (key_in group x) ≡ (g, x.no) = key_at i x li ∙ ap (key_in group) (read x) ∙ ap (λ h. (h, x.no)) own in (
          i,
          ⊎_elim (λ less. absurd (true≢false (
              sym (subst (λ k. pair_below cmp nat_cmp k (g, 0) ≡ true) key (b.before i (key_in group x) less)) ∙ in_group x.no 0 ∙ never_below x.no (nat_cmp x.no 0) refl)))
              (λ le. ⊎_elim (λ same. omega (arith, same)) (λ more. omega (arith, more)) le) (compared i start),
          ⊎_elim (λ less. less) (λ le. absurd (true≢false (
              sym (ap (λ r. not (is_gt r)) (tied_itself total g)) ∙ subst (λ k. not (is_gt (cmp k.0 g)) ≡ false) key (e.behind i (key_in group x) (at_least i le) li)))) (compared i stop),
          read,
        )
      where
        at_least : (i : ℕ) → (i ≡ stop) ⊎ (stop < i) → stop ≤ i
        at_least i h = ⊎_elim (λ f. omega (arith, f)) (λ m. omega (arith, m)) h

    -- their numbers rise
    pub rising : (i j : ℕ) (d : Row) → start ≤ i → i < j → j < stop → (get_or rows (get_or places i 0) d).no < (get_or rows (get_or places j 0) d).no
    rising i j d le less lt =
        let li : i < length places = omega (arith, lt, less, e.few) in
        let lj : j < length places = omega (arith, lt, e.few) in
        let ki : get_or (map (key_in group) rows) (get_or places i 0) (key_in group d) ≡ (g, (get_or rows (get_or places i 0) d).no) =
        key_at i d li ∙ ap (λ h. (h, (get_or rows (get_or places i 0) d).no)) (grouped i d le (omega (arith, less, lt))) in
        let kj : get_or (map (key_in group) rows) (get_or places j 0) (key_in group d) ≡ (g, (get_or rows (get_or places j 0) d).no) =
        key_at j d lj ∙ ap (λ h. (h, (get_or rows (get_or places j 0) d).no)) (grouped j d (omega (arith, le, less)) lt) in
        less_than (get_or rows (get_or places i 0) d).no (get_or rows (get_or places j 0) d).no
        (sym (in_group (get_or rows (get_or places i 0) d).no (get_or rows (get_or places j 0) d).no) ∙ subst (λ k. pair_below cmp nat_cmp (g, (get_or rows (get_or places i 0) d).no) k ≡ true) kj
        (subst (λ k. pair_below cmp nat_cmp k (get_or (map (key_in group) rows) (get_or places j 0) (key_in group d)) ≡ true) ki (o.rises i j (key_in group d) less lj)))
