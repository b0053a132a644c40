-- How an index follows its list.
use Rattle.std.proofs.Common.{◌≡◌, ◌≢◌, ◌<◌, ◌≤◌, ◌⊎◌, ◌+◌, ◌-◌, ◌∙◌, ℕ, Bool, true, false, cond, true≢false, List, [], ◌∷◌, ◌++◌, length, map, get_or, set, ltb, insert, remove, refl, sym, ap, ap₂, subst, inl, inr, ⊎_elim, arith, lt-ltb, ltb-true}
use Rattle.std.proofs.lemmas.List.{length-map, get_or-map, length-set, length_push, get_or_append_left, get_or-set_other}
use Rattle.std.proofs.lemmas.List.Edits.{length-insert, get_or-insert_below, get_or-insert_at, get_or-insert_above, length-remove, get_or-remove_below, get_or-remove_above}
use Rattle.keyed_table.proofs.Numbers.{compared}
use Rattle.keyed_table.specs.Orders.{IsSorting, IsOrderBut, IsOrder, IsStart, closed}

any : {K : Type 0} (keys : List K) (p : ℕ) → p < length keys → K
any [] p lt = absurd (omega arith)
any (k ∷ ks) p lt = k

ltb-not : (a b : ℕ) → b < a → ltb a b ≡ false
ltb-not a b lt = by (ltb a b) refl where
  by : (t : Bool) → ltb a b ≡ t → t ≡ false
  by false e = refl
  by true e = absurd (omega (arith, lt, ltb-true a b e))

closed-before : (q p : ℕ) → p < q → closed q p ≡ p
closed-before q p lt = ap (λ b. cond b (p - 1) p) (ltb-not q p lt)

closed-behind : (q p : ℕ) → q < p → closed q p ≡ p - 1
closed-behind q p lt = ap (λ b. cond b (p - 1) p) (lt-ltb q p lt)

module _ {K : Type 0} (same below : K → K → Bool) (s : IsSorting same below) where
  pub keys_differ : (out : ℕ) (keys : List K) (places : List ℕ) (o : IsOrderBut below out keys places) (i j : ℕ) (d : K)
      → i < j → j < length places → get_or keys (get_or places i 0) d ≢ get_or keys (get_or places j 0) d
  keys_differ out keys places o i j d lt l e =
      true≢false (sym (subst (λ k. below k (get_or keys (get_or places j 0) d) ≡ true) e (o.rises i j d lt l)) ∙ s.apart _)

  -- one key, one entry
  pub one_entry : (out : ℕ) (keys : List K) (places : List ℕ) (o : IsOrderBut below out keys places) (i j : ℕ) (d : K)
      → i < length places → j < length places → get_or keys (get_or places i 0) d ≡ get_or keys (get_or places j 0) d → i ≡ j
  one_entry out keys places o i j d li lj e = ⊎_elim
      (λ less. absurd (keys_differ out keys places o i j d less lj e))
      (⊎_elim (λ same. same) (λ more. absurd (keys_differ out keys places o j i d more li (sym e))))
      (compared i j)

  -- one key, one place
  pub one_place : (keys : List K) (places : List ℕ) (o : IsOrder below keys places) (p q : ℕ) (d : K)
      → p < length keys → q < length keys → get_or keys p d ≡ get_or keys q d → p ≡ q
  one_place keys places o p q d lp lq e =
      let (i, li, ei) = o.whole p lp (λ n. omega (arith, n)) in
      let (j, lj, ej) = o.whole q lq (λ n. omega (arith, n)) in
      sym ei ∙ ap (λ n. get_or places n 0) (one_entry (length keys) keys places o i j d li lj (ap (λ n. get_or keys n d) ei ∙ e ∙ sym (ap (λ n. get_or keys n d) ej))) ∙ ej

  -- where an entry stood before another was taken out
  kept : (places : List ℕ) (i k : ℕ) → i < length places → k < length (remove places i)
      → (j : ℕ) × (j < length places) × (get_or (remove places i) k 0 ≡ get_or places j 0) × (((k < i) × (j ≡ k)) ⊎ ((i ≤ k) × (j ≡ k + 1)))
  kept places i k lt l =
      let n = length-remove places i lt in ⊎_elim
      (λ less. (k, omega (arith, n), get_or-remove_below places i 0 k less lt, inl (less, refl)))
      (λ le. (k + 1, omega (arith, n), get_or-remove_above places i 0 k (at_least le) lt, inr (at_least le, refl)))
      (compared k i)
    where
      at_least : (k ≡ i) ⊎ (i < k) → i ≤ k
      at_least h = ⊎_elim (λ e. omega (arith, e)) (λ m. omega (arith, m)) h

  -- an entry is taken out
  pub left_out : (keys : List K) (places : List ℕ) (o : IsOrder below keys places) (i : ℕ) → i < length places
      → IsOrderBut below (get_or places i 0) keys (remove places i)
  left_out keys places o i lt = record {
    within = λ k l. inside k (kept places i k lt l);
    rises = λ a b d less l. let n = length-remove places i lt in
        up a b d less (kept places i a lt (omega arith)) (kept places i b lt l);
    whole = λ p lp ne. let (j, lj, ej) = o.whole p lp (λ e. omega (arith, e)) in found p ne j lj ej;
  } where
    inside : (k : ℕ) → (j : ℕ) × (j < length places) × (get_or (remove places i) k 0 ≡ get_or places j 0) × (((k < i) × (j ≡ k)) ⊎ ((i ≤ k) × (j ≡ k + 1)))
        → (get_or (remove places i) k 0 < length keys) × (get_or (remove places i) k 0 ≢ get_or places i 0)
    inside k (j, lj, e, side) =
        let w = (o.within j lj).0 in (
          omega (arith, e, w),
          λ same.
              let d = any keys (get_or places j 0) w in
              let both : j ≡ i = one_entry (length keys) keys places o j i d lj lt (ap (λ n. get_or keys n d) (sym e ∙ same)) in
              ⊎_elim (λ (less, is). omega (arith, less, is, both)) (λ (more, is). omega (arith, more, is, both)) side,
        )

    up : (a b : ℕ) (d : K) → a < b
        → (j : ℕ) × (j < length places) × (get_or (remove places i) a 0 ≡ get_or places j 0) × (((a < i) × (j ≡ a)) ⊎ ((i ≤ a) × (j ≡ a + 1)))
        → (j : ℕ) × (j < length places) × (get_or (remove places i) b 0 ≡ get_or places j 0) × (((b < i) × (j ≡ b)) ⊎ ((i ≤ b) × (j ≡ b + 1)))
        → below (get_or keys (get_or (remove places i) a 0) d) (get_or keys (get_or (remove places i) b 0) d) ≡ true
    up a b d less (j, lj, e, side) (m, lm, f, other) =
        ap₂ (λ x y. below (get_or keys x d) (get_or keys y d)) e f ∙ o.rises j m d
        (⊎_elim (λ (q, is). ⊎_elim (λ (r, it). omega (arith, less, is, it)) (λ (r, it). omega (arith, less, is, it)) other)
        (λ (q, is). ⊎_elim (λ (r, it). omega (arith, less, q, r, is, it)) (λ (r, it). omega (arith, less, is, it)) other) side) lm

    found : (p : ℕ) → p ≢ get_or places i 0 → (j : ℕ) → j < length places → get_or places j 0 ≡ p
        → (k : ℕ) × (k < length (remove places i)) × (get_or (remove places i) k 0 ≡ p)
    found p ne j lj ej =
        let n = length-remove places i lt in ⊎_elim
        (λ less. (j, omega arith, get_or-remove_below places i 0 j less lt ∙ ej))
        (⊎_elim (λ same. absurd (ne (sym ej ∙ ap (λ n. get_or places n 0) same)))
        (λ more. (j - 1, omega arith, get_or-remove_above places i 0 (j - 1) (omega arith) lt ∙ ap (λ n. get_or places n 0) (omega arith) ∙ ej)))
        (compared j i)

  -- the key that is left out may be any
  pub written : (out : ℕ) (keys : List K) (places : List ℕ) (x : K) → IsOrderBut below out keys places → IsOrderBut below out (set keys out x) places
  written out keys places x o = record {
    within = λ i l. let n = length-set keys out x in (omega (arith, n, (o.within i l).0), (o.within i l).1);
    rises = λ i j d less l. ap₂ below (get_or-set_other keys out (get_or places i 0) x d (o.within i (omega arith)).1)
        (get_or-set_other keys out (get_or places j 0) x d (o.within j l).1) ∙ o.rises i j d less l;
    whole = λ p l ne. let n = length-set keys out x in o.whole p (omega arith) ne;
  }

  -- one key more, which is left out
  pub pushed : (keys : List K) (places : List ℕ) (x : K) → IsOrder below keys places → IsOrderBut below (length keys) (keys ++ x ∷ []) places
  pushed keys places x o = record {
    within = λ i l. let n = length_push keys x in (omega (arith, n, (o.within i l).0), (o.within i l).1);
    rises = λ i j d less l. ap₂ below (get_or_append_left keys (x ∷ []) d (get_or places i 0) (o.within i (omega arith)).0)
        (get_or_append_left keys (x ∷ []) d (get_or places j 0) (o.within j l).0) ∙ o.rises i j d less l;
    whole = λ p l ne. let n = length_push keys x in o.whole p (omega (arith, n, l, ne)) ne;
  }

  -- no place is past the keys that are left
  pub within_left : (out left : ℕ) (keys : List K) (places : List ℕ) → IsOrderBut below out keys places → length keys ≤ left + 1
      → (i : ℕ) → i < length places → get_or places i 0 ≤ left
  within_left out left keys places o n i l = omega (arith, n, (o.within i l).0)

  -- the key that is left out goes
  pub dropped : (out : ℕ) (keys : List K) (places : List ℕ) → out < length keys → IsOrderBut below out keys places
      → IsOrder below (remove keys out) (map (closed out) places)
  dropped out keys places lt o = record {
    within = λ i l. let n = length-map places (closed out) in let r = length-remove keys out lt in
        (omega (arith, r, place i (omega arith), down i (omega arith)), λ e. omega (arith, r, place i (omega arith), down i (omega arith), e));
    rises = λ i j d less l. let n = length-map places (closed out) in
        ap₂ below (key i d (omega arith)) (key j d (omega arith)) ∙ o.rises i j d less (omega arith);
    whole = λ p l ne. let r = length-remove keys out lt in let n = length-map places (closed out) in ⊎_elim
        (λ less. at p p (closed-before out p less) (o.whole p (omega arith) (λ e. omega (arith, e, less))))
        (λ le. at p (p + 1) (closed-behind out (p + 1) (past p le) ∙ omega arith) (o.whole (p + 1) (omega arith) (λ e. omega (arith, e, past p le))))
        (compared p out);
  } where
    past : (p : ℕ) → (p ≡ out) ⊎ (out < p) → out < p + 1
    past p h = ⊎_elim (λ e. omega (arith, e)) (λ m. omega (arith, m)) h

    place : (i : ℕ) → i < length places → get_or (map (closed out) places) i 0 ≡ closed out (get_or places i 0)
    place i l = get_or-map (closed out) places i 0 0 l

    -- a place that isn't left out stays below the others
    down : (i : ℕ) → i < length places → closed out (get_or places i 0) + 1 < length keys
    down i l =
        let w = o.within i l in ⊎_elim
        (λ less. omega (arith, closed-before out (get_or places i 0) less, less, lt))
        (⊎_elim (λ e. absurd (w.1 e)) (λ more. omega (arith, closed-behind out (get_or places i 0) more, more, w.0)))
        (compared (get_or places i 0) out)

    key : (i : ℕ) (d : K) → i < length places → get_or (remove keys out) (get_or (map (closed out) places) i 0) d ≡ get_or keys (get_or places i 0) d
    key i d l = ap (λ n. get_or (remove keys out) n d) (place i l) ∙ ⊎_elim
        (λ less. ap (λ n. get_or (remove keys out) n d) (closed-before out (get_or places i 0) less) ∙ get_or-remove_below keys out d (get_or places i 0) less lt)
        (⊎_elim (λ e. absurd ((o.within i l).1 e))
        (λ more. ap (λ n. get_or (remove keys out) n d) (closed-behind out (get_or places i 0) more)
        ∙ get_or-remove_above keys out d (get_or places i 0 - 1) (omega arith) lt ∙ ap (λ n. get_or keys n d) (omega arith)))
        (compared (get_or places i 0) out)

    at : (p q : ℕ) → closed out q ≡ p → (i : ℕ) × (i < length places) × (get_or places i 0 ≡ q)
        → (i : ℕ) × (i < length (map (closed out) places)) × (get_or (map (closed out) places) i 0 ≡ p)
    at p q e (i, l, is) = let n = length-map places (closed out) in (i, omega arith, place i l ∙ ap (closed out) is ∙ e)

  -- the key that is left out gets its entry
  pub entered : (out : ℕ) (keys : List K) (places : List ℕ) (x : K) (at : ℕ) → out < length keys
      → ((d : K) → get_or keys out d ≡ x) → ((p : ℕ) (d : K) → p < length keys → p ≢ out → get_or keys p d ≢ x)
      → IsStart (λ k. below k x) keys places at → IsOrderBut below out keys places → IsOrder below keys (insert places at out)
  entered out keys places x at lt is apart b o = record {
    within = λ i l. let w = inside i l in (w, λ e. omega (arith, w, e));
    rises = up;
    whole = λ p l ne. ⊎_elim (λ less. there p l (λ e. omega (arith, e, less))) (⊎_elim
        (λ e. let n = length-insert places at out b.few in (at, omega (arith, b.few), get_or-insert_at places at out 0 b.few ∙ sym e))
        (λ more. there p l (λ e. omega (arith, e, more)))) (compared p out);
  } where
    before : (i : ℕ) → i < at → get_or (insert places at out) i 0 ≡ get_or places i 0
    before i l = get_or-insert_below places at out 0 i l b.few

    here : get_or (insert places at out) at 0 ≡ out
    here = get_or-insert_at places at out 0 b.few

    behind : (i : ℕ) → at < i → get_or (insert places at out) i 0 ≡ get_or places (i - 1) 0
    behind i l = ap (λ n. get_or (insert places at out) n 0) (omega arith) ∙ get_or-insert_above places at out 0 (i - 1) (omega arith) b.few

    inside : (i : ℕ) → i < length (insert places at out) → get_or (insert places at out) i 0 < length keys
    inside i l = let n = length-insert places at out b.few in ⊎_elim
        (λ less. omega (arith, before i less, (o.within i (omega (arith, b.few))).0))
        (⊎_elim (λ e. omega (arith, ap (λ n. get_or (insert places at out) n 0) e, here, lt))
        (λ more. omega (arith, behind i more, (o.within (i - 1) (omega arith)).0)))
        (compared i at)

    word : ℕ → K → K
    word i d = get_or keys (get_or (insert places at out) i 0) d

    above : (k : K) → below k x ≡ false → k ≢ x → below x k ≡ true
    above k f ne = by (below x k) refl where
      by : (t : Bool) → below x k ≡ t → t ≡ true
      by true e = refl
      by false e = absurd (ne (s.either k x f e))

    up : (i j : ℕ) (d : K) → i < j → j < length (insert places at out) → below (word i d) (word j d) ≡ true
    up i j d less l = let n = length-insert places at out b.few in ⊎_elim
        (λ lj. ap₂ (λ p q. below (get_or keys p d) (get_or keys q d)) (before i (omega arith)) (before j lj) ∙ o.rises i j d less (omega (arith, b.few)))
        (⊎_elim
        (λ e. ap₂ below (ap (λ p. get_or keys p d) (before i (omega arith))) (ap (λ n. word n d) e ∙ ap (λ p. get_or keys p d) here ∙ is d) ∙ b.before i d (omega arith))
        (λ mj. ⊎_elim
        (λ li. ap₂ (λ p q. below (get_or keys p d) (get_or keys q d)) (before i li) (behind j mj) ∙ o.rises i (j - 1) d (omega arith) (omega arith))
        (⊎_elim
        (λ e. ap₂ below (ap (λ n. word n d) e ∙ ap (λ p. get_or keys p d) here ∙ is d) (ap (λ p. get_or keys p d) (behind j mj))
        ∙ above _ (b.behind (j - 1) d (omega arith) (omega arith)) (apart (get_or places (j - 1) 0) d (o.within (j - 1) (omega arith)).0 (o.within (j - 1) (omega arith)).1))
        (λ mi. ap₂ (λ p q. below (get_or keys p d) (get_or keys q d)) (behind i mi) (behind j mj) ∙ o.rises (i - 1) (j - 1) d (omega arith) (omega arith)))
        (compared i at)))
        (compared j at)

    there : (p : ℕ) → p < length keys → p ≢ out → (i : ℕ) × (i < length (insert places at out)) × (get_or (insert places at out) i 0 ≡ p)
    there p l ne = let n = length-insert places at out b.few in let (i, li, ei) = o.whole p l ne in ⊎_elim
        (λ less. (i, omega arith, before i less ∙ ei))
        (λ le. (i + 1, omega arith, behind (i + 1) (past i le) ∙ ap (λ n. get_or places n 0) (omega arith) ∙ ei))
        (compared i at)
      where
        past : (i : ℕ) → (i ≡ at) ⊎ (at < i) → at < i + 1
        past i h = ⊎_elim (λ e. omega (arith, e)) (λ m. omega (arith, m)) h
