-- What a table's calls do to its index, and what its definitions say where a key's place is known.
use Rattle.std.proofs.Common.{◌≡◌, ◌≢◌, ◌<◌, ◌≤◌, ◌+◌, ◌∙◌, ℕ, zero, suc, Bool, true, false, cond, true≢false, List, [], ◌∷◌, ◌++◌, Some, None, All, length, map, get_or, set, insert, remove, not, option_map, slice_get, refl, sym, ap, subst, ⊎_elim, arith, add-one}
use Rattle.std.specs.List.{position_from}
use Rattle.std.proofs.lemmas.List.{length-map, get_or-map, get_or_append_left, get_or_default, get_or_push, length_push}
use Rattle.std.proofs.lemmas.List.Edits.{length-remove}
use Rattle.std.proofs.lemmas.Option.{slice_get-get_or}
use Rattle.heat_plan.specs.Tables.{at, cut}
use Rattle.keyed_table.proofs.Numbers.{compared}
use Rattle.keyed_table.proofs.Finds.{position-first}
use Rattle.keyed_table.proofs.Orders.{left_out, within_left, pushed, dropped, entered}
use Rattle.keyed_table.proofs.Puts.{position_from-shift, position_from-none}
use Rattle.keyed_table.specs.Orders.{AreApart, IsSorting, IsOrderBut, IsOrder, IsStart, closed}

pub map-push : {A K : Type 0} (key : A → K) (xs : List A) (x : A) → map key (xs ++ x ∷ []) ≡ map key xs ++ key x ∷ []
map-push key [] x = refl
map-push key (y ∷ ys) x = ap (λ (zs : List _). key y ∷ zs) (map-push key ys x)

pub map-remove : {A K : Type 0} (key : A → K) (xs : List A) (i : ℕ) → map key (remove xs i) ≡ remove (map key xs) i
map-remove key [] zero = refl
map-remove key [] (suc i) = refl
map-remove key (x ∷ xs) zero = refl
map-remove key (x ∷ xs) (suc i) = ap (λ (zs : List _). key x ∷ zs) (map-remove key xs i)

keys-set : {A K : Type 0} (key : A → K) (xs : List A) (p : ℕ) (x : A) → option_map key (slice_get xs p) ≡ Some (key x) → map key (set xs p x) ≡ map key xs
keys-set key [] p x h = refl
keys-set key (y ∷ ys) zero x h = ap (λ (zs : _). zs ∷ map key ys) (let e : key y ≡ key x = cc in sym e)
keys-set key (y ∷ ys) (suc p) x h = ap (λ (zs : List _). key y ∷ zs) (keys-set key ys p x h)

module _ {A K : Type 0} (key : A → K) (same below : K → K → Bool) (s : IsSorting same below) (items : List A) (places : List ℕ)
    (o : IsOrder below (map key items) places) where
  as_one : (keys keys' : List K) (es es' : List ℕ) → keys ≡ keys' → es ≡ es' → IsOrder below keys es → IsOrder below keys' es'
  as_one keys keys' es es' e f h = subst (λ ks. IsOrder below ks es') e (subst (λ ps. IsOrder below keys ps) f h)

  -- a record of the same key
  pub set_keeps : (items' : List A) (p : ℕ) (x : A) → items' ≡ set items p x → option_map key (slice_get items p) ≡ Some (key x)
      → IsOrder below (map key items') places
  set_keeps items' p x e h = as_one _ _ _ _ (sym (ap (map key) e ∙ keys-set key items p x h)) refl o

  -- a record that is written into and keeps its key
  pub rewrite_keeps : (items' : List A) (p : ℕ) (f : A → A) → p < length items → ((x : A) → key (f x) ≡ key x)
      → ((x : A) → slice_get items p ≡ Some x → items' ≡ set items p (f x)) → IsOrder below (map key items') places
  rewrite_keeps items' p f l same_key h =
      let d = any items l in
      let x = get_or items p d in
      let e : slice_get items p ≡ Some x = slice_get-get_or items p d l in
      set_keeps items' p (f x) (h x e) (ap (option_map key) e ∙ ap (λ k. Some k) (sym (same_key x)))
    where
      any : (xs : List A) → p < length xs → A
      any [] lt = absurd (omega arith)
      any (x ∷ xs) lt = x

  -- one record more
  pub push_keeps : (items' : List A) (places' : List ℕ) (x : A) (at : ℕ) → items' ≡ items ++ x ∷ [] → places' ≡ insert places at (length items)
      → All (λ y. same (key y) (key x) ≡ false) items → IsStart (λ k. below k (key x)) (map key items) places at
      → IsOrder below (map key items') places'
  push_keeps items' places' x at e f new b = as_one _ _ _ _ (sym (ap (map key) e ∙ map-push key items x)) (sym (f ∙ ap (insert places at) (sym n))) (
      entered same below s (length (map key items)) keys places (key x) at (omega (arith, m)) (λ d. get_or_push (map key items) (key x) d (length (map key items)) refl)
      apart start (pushed same below s (map key items) places (key x) o)) where
        keys : List K
        keys = map key items ++ key x ∷ []

        n : length (map key items) ≡ length items
        n = length-map items key

        m : length keys ≡ length (map key items) + 1
        m = length_push (map key items) (key x)

        read : (p : ℕ) (d : K) → p < length (map key items) → get_or keys p d ≡ get_or (map key items) p d
        read p d l = get_or_append_left (map key items) (key x ∷ []) d p l

        apart : (p : ℕ) (d : K) → p < length keys → p ≢ length (map key items) → get_or keys p d ≢ key x
        apart p d l ne e =
            let w : p < length (map key items) = omega (arith, l, ne, m) in
            let there : key (get_or items p x) ≡ key x = sym (get_or-map key items p x d (omega (arith, w, n))) ∙ sym (read p d w) ∙ e in
            true≢false (sym (s.itself (key x)) ∙ subst (λ k. same k (key x) ≡ false) there (new p x (omega (arith, w, n))))

        start : IsStart (λ k. below k (key x)) keys places at
        start = record {
          few = b.few;
          before = λ i d l. ap (λ k. below k (key x)) (read (get_or places i 0) d (o.within i (omega (arith, b.few))).0) ∙ b.before i d l;
          behind = λ i d le l. ap (λ k. below k (key x)) (read (get_or places i 0) d (o.within i l).0) ∙ b.behind i d le l;
        }

  -- one record less
  pub remove_keeps : (items' : List A) (places' : List ℕ) (p at : ℕ) → items' ≡ remove items p → places' ≡ map (closed p) (remove places at)
      → p < length items → at < length places → get_or places at 0 ≡ p → IsOrder below (map key items') places'
  remove_keeps items' places' p at e f l lt is = as_one _ _ _ _ (sym (ap (map key) e ∙ map-remove key items p)) (sym f)
      (dropped same below s p (map key items) (remove places at) (omega (arith, l, length-map items key))
      (subst (λ q. IsOrderBut below q (map key items) (remove places at)) is (left_out same below s (map key items) places o at lt)))

  -- and no entry past the records that are left
  pub remove_within : (places' : List ℕ) (p at left : ℕ) → places' ≡ remove places at → p < length items → at < length places → get_or places at 0 ≡ p
      → left ≡ length (remove items p) → (i : ℕ) → i < length places' → get_or places' i 0 ≤ left
  remove_within places' p at left f l lt is n = within_left same below s p left (map key items) places'
      (subst (λ q. IsOrderBut below q (map key items) places') is (subst (IsOrderBut below (get_or places at 0) (map key items)) (sym f) (left_out same below s (map key items) places o at lt)))
      (omega (arith, length-map items key, length-remove items p l, n))

  -- the search for a record's key ends at its entry
  pub start_there : (p at : ℕ) (k : K) → p < length items → ((d : A) → key (get_or items p d) ≡ k) → IsStart (λ x. below x k) (map key items) places at
      → (at < length places) × (get_or places at 0 ≡ p)
  start_there p at k l is b =
      let (i, li, ei) = o.whole p (omega (arith, l, length-map items key)) (λ e. omega (arith, e, l, length-map items key)) in
      let d : A = any items l in
      let there : get_or (map key items) (get_or places i 0) (key d) ≡ k = ap (λ m. get_or (map key items) m (key d)) ei ∙ get_or-map key items p d (key d) l ∙ is d in ⊎_elim
      (λ less. absurd (true≢false (sym (subst (λ x. below x k ≡ true) there (b.before i (key d) less)) ∙ s.apart k)))
      (⊎_elim (λ e. (omega (arith, e, li), ap (λ m. get_or places m 0) (sym e) ∙ ei))
      (λ more. absurd (true≢false (sym (subst (λ x. below (get_or (map key items) (get_or places at 0) (key d)) x ≡ true) there (o.rises at i (key d) more li))
      ∙ b.behind at (key d) (omega arith) (omega arith)))))
      (compared i at)
    where
      any : (xs : List A) → p < length xs → A
      any [] lt = absurd (omega arith)
      any (x ∷ xs) lt = x

  -- the same, as a search reads the record
  pub entry_there : (p at : ℕ) (k : K) (xs : List A) (x : A) → xs ≡ items → p < length items → x ≡ get_or xs p x → k ≡ key x
      → IsStart (λ y. below y k) (map key xs) places at → (at < length places) × (get_or places at 0 ≡ p)
  entry_there p at k xs x e l read is b = start_there p at k l
      (λ d. ap key (get_or_default items p d x l ∙ ap (λ ys. get_or ys p x) (sym e) ∙ sym read) ∙ sym is)
      (subst (λ ys. IsStart (λ y. below y k) (map key ys) places at) e b)

-- look-ups by the place of a key
module _ {K A : Type 0} (same : K → K → Bool) (key : A → K) (k : K) where
  test : A → Bool
  test x = same (key x) k

  pub at-place : (xs : List A) (p : ℕ) → position_from (λ x. same (key x) k) 0 xs ≡ Some p → at same key xs k ≡ slice_get xs p
  unfolding at
  at-place [] p h = cc
  at-place (x ∷ xs) p h = by (same (key x) k) h (at-place xs) where
    by : (b : Bool) → cond b (Some 0) (position_from (λ x. same (key x) k) 1 xs) ≡ Some p
        → ((j : ℕ) → position_from (λ x. same (key x) k) 0 xs ≡ Some j → at same key xs k ≡ slice_get xs j)
        → cond b (Some x) (at same key xs k) ≡ slice_get (x ∷ xs) p
    by true e rest = let f : 0 ≡ p = cc in ap (slice_get (x ∷ xs)) f
    by false e rest = let (j, is, there) = position_from-shift (λ x. same (key x) k) 0 xs p e in rw (is, add-one) (rest j there)

  pub at-nowhere : (xs : List A) → position_from (λ x. same (key x) k) 0 xs ≡ None → at same key xs k ≡ None
  unfolding at
  at-nowhere [] h = refl
  at-nowhere (x ∷ xs) h = by (same (key x) k) h (λ e. at-nowhere xs (position_from-none (λ x. same (key x) k) 1 0 xs e)) where
    by : (b : Bool) → cond b (Some 0) (position_from (λ x. same (key x) k) 1 xs) ≡ None
        → (position_from (λ x. same (key x) k) 1 xs ≡ None → at same key xs k ≡ None) → cond b (Some x) (at same key xs k) ≡ None
    by true e rest = cc
    by false e rest = rest e

  pub none_passes : (xs : List A) → position_from (λ x. same (key x) k) 0 xs ≡ None → (q : ℕ) (d : A) → q < length xs → same (key (get_or xs q d)) k ≡ false
  none_passes [] h = λ q d l. absurd (omega arith)
  none_passes (x ∷ xs) h = by (same (key x) k) refl h (λ e. none_passes xs (position_from-none (λ x. same (key x) k) 1 0 xs e)) where
    by : (b : Bool) → same (key x) k ≡ b → cond b (Some 0) (position_from (λ x. same (key x) k) 1 xs) ≡ None
        → (position_from (λ x. same (key x) k) 1 xs ≡ None → (q : ℕ) (d : A) → q < length xs → same (key (get_or xs q d)) k ≡ false)
        → (q : ℕ) (d : A) → q < suc (length xs) → same (key (get_or (x ∷ xs) q d)) k ≡ false
    by true is e rest q d l = cc
    by false is e rest zero d l = is
    by false is e rest (suc q) d l = rest e q d (omega arith)

  pub passes_there : (xs : List A) (p : ℕ) → position_from (λ x. same (key x) k) 0 xs ≡ Some p → (d : A) → same (key (get_or xs p d)) k ≡ true
  passes_there [] p h d = cc
  passes_there (x ∷ xs) p h d = by (same (key x) k) refl h (passes_there xs) where
    by : (b : Bool) → same (key x) k ≡ b → cond b (Some 0) (position_from (λ x. same (key x) k) 1 xs) ≡ Some p
        → ((j : ℕ) → position_from (λ x. same (key x) k) 0 xs ≡ Some j → (d : A) → same (key (get_or xs j d)) k ≡ true)
        → same (key (get_or (x ∷ xs) p d)) k ≡ true
    by true is e rest = let f : 0 ≡ p = cc in subst (λ n. same (key (get_or (x ∷ xs) n d)) k ≡ true) f is
    by false is e rest =
        let (j, is, there) = position_from-shift (λ x. same (key x) k) 0 xs p e in
        rw (is, add-one) (rest j there d)

  -- a cut
  pub cut-nowhere : (xs : List A) → ((q : ℕ) (d : A) → q < length xs → same (key (get_or xs q d)) k ≡ false) → cut same key k xs ≡ xs
  unfolding cut
  cut-nowhere [] h = refl
  cut-nowhere (x ∷ xs) h =
      ap (λ b. cond (not b) (x ∷ cut same key k xs) (cut same key k xs)) (h 0 x (omega arith))
      ∙ ap (λ (ys : List A). x ∷ ys) (cut-nowhere xs (λ q d l. h (suc q) d (omega arith)))

  pub cut-place : (xs : List A) (p : ℕ) → p < length xs → ((d : A) → same (key (get_or xs p d)) k ≡ true)
      → ((q : ℕ) (d : A) → q < length xs → q ≢ p → same (key (get_or xs q d)) k ≡ false) → cut same key k xs ≡ remove xs p
  unfolding cut
  cut-place [] p l hit miss = absurd (omega arith)
  cut-place (x ∷ xs) zero l hit miss =
      ap (λ b. cond (not b) (x ∷ cut same key k xs) (cut same key k xs)) (hit x) ∙ cut-nowhere xs (λ q d m. miss (suc q) d (omega arith) (λ e. omega (arith, e)))
  cut-place (x ∷ xs) (suc p) l hit miss =
      ap (λ b. cond (not b) (x ∷ cut same key k xs) (cut same key k xs)) (miss 0 x (omega arith) (λ e. omega (arith, e)))
      ∙ ap (λ (ys : List A). x ∷ ys) (cut-place xs p (omega arith) hit (λ q d m ne. miss (suc q) d (omega arith) (λ e. ne (omega (arith, e)))))

-- the record at the place of a key has it
pub key-there : {K A : Type 0} (same below : K → K → Bool) (s : IsSorting same below) (key : A → K) (k : K) (xs : List A) (p : ℕ) → p < length xs
    → position_from (λ x. same (key x) k) 0 xs ≡ Some p → option_map key (slice_get xs p) ≡ Some k
key-there same below s key k [] p l h = absurd (omega arith)
key-there same below s key k (x ∷ xs) p l h =
    ap (option_map key) (slice_get-get_or (x ∷ xs) p x l) ∙ ap (λ y. Some y) (s.equal _ _ (passes_there same key k (x ∷ xs) p h x))

-- where keys are apart, a cut removes the record at the key's place
pub cut-apart : {K A : Type 0} (same below : K → K → Bool) (s : IsSorting same below) (key : A → K) (k : K) (xs : List A) (p : ℕ) → AreApart (map key xs) → p < length xs
    → position_from (λ x. same (key x) k) 0 xs ≡ Some p → cut same key k xs ≡ remove xs p
cut-apart same below s key k xs p apart l h = cut-place same key k xs p l (passes_there same key k xs p h) (λ q d m ne. other (same (key (get_or xs q d)) k) q d m ne refl) where
  other : (b : Bool) (q : ℕ) (d : _) → q < length xs → q ≢ p → same (key (get_or xs q d)) k ≡ b → b ≡ false
  other false q d m ne e = refl
  other true q d m ne e = absurd (ne (apart q p (key d) (omega (arith, m, length-map xs key)) (omega (arith, l, length-map xs key))
      (get_or-map key xs q d (key d) m ∙ s.equal _ _ e ∙ sym (s.equal _ _ (passes_there same key k xs p h d)) ∙ sym (get_or-map key xs p d (key d) l))))

-- the record that a look-up gives stands in the list
pub at-among : {K A : Type 0} (same : K → K → Bool) (key : A → K) (k : K) (xs : List A) (y : A) → at same key xs k ≡ Some y
    → (q : ℕ) × (q < length xs) × ((d : A) → get_or xs q d ≡ y)
unfolding at
at-among same key k [] y h = cc
at-among {A = A} same key k (x ∷ xs) y h = by (same (key x) k) h (at-among same key k xs y) where
  by : (b : Bool) → cond b (Some x) (at same key xs k) ≡ Some y
      → (at same key xs k ≡ Some y → (q : ℕ) × (q < length xs) × ((d : A) → get_or xs q d ≡ y))
      → (q : ℕ) × (q < suc (length xs)) × ((d : A) → get_or (x ∷ xs) q d ≡ y)
  by true e rest = let is : x ≡ y = cc in (0, omega arith, λ d. is)
  by false e rest = let (q, l, is) = rest e in (suc q, omega arith, is)

-- what a look-up by a record's own key gives
pub at-own : {K A : Type 0} (same below : K → K → Bool) (s : IsSorting same below) (key : A → K) (xs : List A) → AreApart (map key xs) → (p : ℕ) → p < length xs
    → (x : A) → x ≡ get_or xs p x → at same key xs (key x) ≡ Some x
at-own {K = K} {A = A} same below s key xs apart p l x read =
    at-place same key (key x) xs p (position-first (λ y. same (key y) (key x)) xs 0 p l
    (λ d. ap (λ y. same (key y) (key x)) (get_or_default xs p d x l ∙ sym read) ∙ s.itself (key x)) (λ q d lt. other (same (key (get_or xs q d)) (key x)) q d lt refl)
    ∙ ap (λ n. Some n) (omega arith))
    ∙ slice_get-get_or xs p x l ∙ ap (λ y. Some y) (sym read)
  where
    other : (b : Bool) (q : ℕ) (d : A) → q < p → same (key (get_or xs q d)) (key x) ≡ b → b ≡ false
    other false q d lt e = refl
    other true q d lt e = absurd (omega (
      arith,
      lt,
      apart q p (key d) (omega (arith, lt, l, length-map xs key)) (omega (arith, l, length-map xs key))
          (get_or-map key xs q d (key d) (omega arith) ∙ s.equal _ _ e ∙ ap key (read ∙ get_or_default xs p x d l) ∙ sym (get_or-map key xs p d (key d) l)),
    ))

-- the record at the first entry is the lowest
pub at-first : {K A : Type 0} (same below : K → K → Bool) (s : IsSorting same below) (key : A → K) (xs : List A) (places : List ℕ) → IsOrder below (map key xs) places
    → 0 < length places → (x : A) → x ≡ get_or xs (get_or places 0 0) x → (k : K) (y : A) → at same key xs k ≡ Some y → below (key y) (key x) ≡ false
at-first {K = K} {A = A} same below s key xs places o l x read k y h =
    let (q, lq, is) = at-among same key k xs y h in
    let (i, li, ei) = o.whole q (omega (arith, lq, length-map xs key)) (λ e. omega (arith, e, lq, length-map xs key)) in
    let w : get_or places 0 0 < length xs = omega (arith, (o.within 0 l).0, length-map xs key) in
    let mine : get_or (map key xs) (get_or places 0 0) (key x) ≡ key x = get_or-map key xs (get_or places 0 0) x (key x) w ∙ ap key (sym read) in
    let its : get_or (map key xs) (get_or places i 0) (key x) ≡ key y = ap (λ n. get_or (map key xs) n (key x)) ei ∙ get_or-map key xs q x (key x) lq ∙ ap key (is x) in
    ⊎_elim (λ less. absurd (omega (arith, less))) (⊎_elim
    (λ e. subst (λ n. below n (key x) ≡ false) (sym mine ∙ ap (λ n. get_or (map key xs) (get_or places n 0) (key x)) (sym e) ∙ its) (s.apart (key x)))
    (λ more. above (subst (λ n. below n (key y) ≡ true) mine (subst (λ n. below (get_or (map key xs) (get_or places 0 0) (key x)) n ≡ true) its (o.rises 0 i (key x) more li)))))
    (compared i 0)
  where
    above : below (key x) (key y) ≡ true → below (key y) (key x) ≡ false
    above up = by (below (key y) (key x)) refl where
      by : (b : Bool) → below (key y) (key x) ≡ b → b ≡ false
      by false e = refl
      by true e = absurd (true≢false (sym (s.onward _ _ _ up e) ∙ s.apart (key x)))

-- a cut finds no more behind one record of the key that was taken out
pub cut-remove : {K A : Type 0} (same : K → K → Bool) (key : A → K) (k : K) (xs : List A) (p : ℕ) → p < length xs → ((d : A) → same (key (get_or xs p d)) k ≡ true)
    → cut same key k (remove xs p) ≡ cut same key k xs
unfolding cut
cut-remove same key k [] p l hit = absurd (omega arith)
cut-remove same key k (x ∷ xs) zero l hit = sym (ap (λ b. cond (not b) (x ∷ cut same key k xs) (cut same key k xs)) (hit x))
cut-remove same key k (x ∷ xs) (suc p) l hit = ap (λ (ys : List _). cond (not (same (key x) k)) (x ∷ ys) ys) (cut-remove same key k xs p (omega arith) hit)
