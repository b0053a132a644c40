-- What a search through an index finds in its list.
use Rattle.std.proofs.Common.{◌≡◌, ◌≢◌, ◌<◌, ◌≤◌, ◌+◌, ◌∙◌, ℕ, zero, suc, Bool, true, false, cond, true≢false, List, [], ◌∷◌, Some, None, length, map, get_or, refl, sym, ap, subst, ⊎_elim, arith}
use Rattle.std.specs.List.{position_from}
use Rattle.std.proofs.lemmas.List.{length-map, get_or-map, get_or_default}
use Rattle.keyed_table.proofs.Numbers.{compared}
use Rattle.keyed_table.proofs.Orders.{one_place}
use Rattle.keyed_table.specs.Orders.{IsSorting, IsOrder, IsStart}

-- the first that passes
pub position-first : {A : Type 0} (t : A → Bool) (xs : List A) (n p : ℕ) → p < length xs
    → ((d : A) → t (get_or xs p d) ≡ true) → ((q : ℕ) (d : A) → q < p → t (get_or xs q d) ≡ false) → position_from t n xs ≡ Some (n + p)
position-first t [] n p lt hit miss = absurd (omega arith)
position-first t (x ∷ xs) n zero lt hit miss = ap (λ b. cond b (Some n) (position_from t (n + 1) xs)) (hit x) ∙ ap (λ m. Some m) (omega arith)
position-first t (x ∷ xs) n (suc p) lt hit miss =
    ap (λ b. cond b (Some n) (position_from t (n + 1) xs)) (miss 0 x (omega arith))
    ∙ position-first t xs (n + 1) p (omega arith) hit (λ q d l. miss (suc q) d (omega arith)) ∙ ap (λ m. Some m) (omega arith)

-- none that passes
pub position-nowhere : {A : Type 0} (t : A → Bool) (xs : List A) (n : ℕ) → ((q : ℕ) (d : A) → q < length xs → t (get_or xs q d) ≡ false)
    → position_from t n xs ≡ None
position-nowhere t [] n miss = refl
position-nowhere t (x ∷ xs) n miss =
    ap (λ b. cond b (Some n) (position_from t (n + 1) xs)) (miss 0 x (omega arith)) ∙ position-nowhere t xs (n + 1) (λ q d l. miss (suc q) d (omega arith))

module _ {A K : Type 0} (key : A → K) (same below : K → K → Bool) (s : IsSorting same below) (items : List A) (places : List ℕ)
    (o : IsOrder below (map key items) places) (k : K) where
  not_same : (a : K) → a ≢ k → same a k ≡ false
  not_same a ne = by (same a k) refl where
    by : (t : Bool) → same a k ≡ t → t ≡ false
    by false e = refl
    by true e = absurd (ne (s.equal a k e))

  -- the record at an entry's place has the key: no other has it, and it is the first
  pub alone : (at : ℕ) → at < length places → ((d : A) → same (key (get_or items (get_or places at 0) d)) k ≡ true)
      → (q : ℕ) (d : A) → q < length items → q ≢ get_or places at 0 → same (key (get_or items q d)) k ≡ false
  alone at lt hit q d l ne =
      let p = get_or places at 0 in
      let w : p < length items = omega (arith, (o.within at lt).0, length-map items key) in
      not_same _ (λ e. ne (one_place same below s (map key items) places o q p (key d) (omega (arith, l, length-map items key)) (omega (arith, w, length-map items key))
      (get_or-map key items q d (key d) l ∙ e ∙ sym (s.equal _ _ (hit d)) ∙ sym (get_or-map key items p d (key d) w))))

  pub found : (at : ℕ) → at < length places → ((d : A) → same (key (get_or items (get_or places at 0) d)) k ≡ true)
      → position_from (λ x. same (key x) k) 0 items ≡ Some (get_or places at 0)
  found at lt hit =
      let p = get_or places at 0 in
      let w : p < length items = omega (arith, (o.within at lt).0, length-map items key) in
      position-first (λ x. same (key x) k) items 0 p w hit (λ q d l. alone at lt hit q d (omega (arith, l, w)) (λ e. omega (arith, l, e))) ∙ ap (λ n. Some n) (omega arith)

  -- no record has the key where the one at the start's place, if there is one, hasn't
  pub missed : (at : ℕ) → IsStart (λ x. below x k) (map key items) places at
      → (at < length places → (d : A) → same (key (get_or items (get_or places at 0) d)) k ≡ false)
      → position_from (λ x. same (key x) k) 0 items ≡ None
  missed at b miss = position-nowhere (λ x. same (key x) k) items 0 (λ q d l. not_same _ (λ e. none q d l e)) where
    none : (q : ℕ) (d : A) → q < length items → key (get_or items q d) ≢ k
    none q d l e =
        let n = length-map items key in
        let (i, li, ei) = o.whole q (omega (arith, l, n)) (λ m. omega (arith, l, n, m)) in
        let is : get_or (map key items) (get_or places i 0) (key d) ≡ k = ap (λ m. get_or (map key items) m (key d)) ei ∙ get_or-map key items q d (key d) l ∙ e in ⊎_elim
        (λ less. true≢false (sym (subst (λ x. below x k ≡ true) is (b.before i (key d) less)) ∙ s.apart k))
        (⊎_elim
        (λ same_at.
        let there : key (get_or items (get_or places at 0) d) ≡ k = ap (λ m. key (get_or items m d)) (ap (λ m. get_or places m 0) (sym same_at) ∙ ei) ∙ e in
        true≢false (sym (s.itself k) ∙ subst (λ x. same x k ≡ false) there (miss (omega (arith, same_at, li)) d)))
        (λ more. true≢false (sym (subst (λ x. below (get_or (map key items) (get_or places at 0) (key d)) x ≡ true) is (o.rises at i (key d) more li)) ∙ b.behind at (key d) (omega arith) (omega arith))))
        (compared i at)

-- the same, as a search reads its entries and the record there
module _ {A K : Type 0} (key : A → K) (same below : K → K → Bool) (s : IsSorting same below) (items : List A) (places entries : List ℕ)
    (is : entries ≡ places) (o : IsOrder below (map key items) places) (k : K) (at : ℕ) where
  there : IsOrder below (map key items) entries
  there = subst (IsOrder below (map key items)) (sym is) o

  hit : (x : A) → x ≡ get_or items (get_or entries at 0) x → at < length entries → (b : Bool) → same (key x) k ≡ b → (d : A) → same (key (get_or items (get_or entries at 0) d)) k ≡ b
  hit x read lt b e d =
      ap (λ y. same (key y) k) (get_or_default items (get_or entries at 0) d x (omega (arith, (there.within at lt).0, length-map items key)) ∙ sym read) ∙ e

  pub place_found : at < length entries → (x : A) → x ≡ get_or items (get_or entries at 0) x → same (key x) k ≡ true
      → position_from (λ y. same (key y) k) 0 items ≡ Some (get_or entries at 0)
  place_found lt x read e = found key same below s items entries there k at lt (hit x read lt true e)

  pub place_within : at < length entries → get_or entries at 0 < length items
  place_within lt = omega (arith, (there.within at lt).0, length-map items key)

  pub place_alone : at < length entries → (x : A) → x ≡ get_or items (get_or entries at 0) x → same (key x) k ≡ true
      → (q : ℕ) (d : A) → q < length items → q ≢ get_or entries at 0 → same (key (get_or items q d)) k ≡ false
  place_alone lt x read e = alone key same below s items entries there k at lt (hit x read lt true e)

  module _ (b : IsStart (λ x. below x k) (map key items) places at) where
    begun : IsStart (λ x. below x k) (map key items) entries at
    begun = subst (λ es. IsStart (λ x. below x k) (map key items) es at) (sym is) b

    pub missed_past : length entries ≤ at → position_from (λ y. same (key y) k) 0 items ≡ None
    missed_past le = missed key same below s items entries there k at begun (λ lt. absurd (omega arith))

    pub missed_there : (x : A) → x ≡ get_or items (get_or entries at 0) x → same (key x) k ≡ false → position_from (λ y. same (key y) k) 0 items ≡ None
    missed_there x read e = missed key same below s items entries there k at begun (λ lt. hit x read lt false e)
