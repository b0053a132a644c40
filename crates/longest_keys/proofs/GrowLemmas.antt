-- Reading one byte more of a key, of all keys that have one, and of all to their fronts.
use Rattle.std.proofs.Common.{◌≡◌, ◌≢◌, ◌+◌, ◌-◌, ◌<◌, ◌≤◌, ℕ, zero, suc, List, [], ◌∷◌, ◌++◌, length, map, drop, get_or, set, ◌⊎◌, inl, inr, Some, refl, ap, sym, ◌∙◌, subst, arith, append_assoc}
use denote.Ref.{Bor}
use Rattle.std.specs.List.{All, Contains, slice_get}
use Rattle.std.proofs.lemmas.List.{append-nil, length-set}
use Rattle.std.proofs.lemmas.List.Elements.{All-nil, All-cons, All-append, All-weaker, All-contains, Contains-append_left, Contains-append_right}
use Rattle.longest_keys.specs.Tries.{IsEdge, Spells, IsLast, IsTrie, IsLeveled, IsGrown, AreEnds}
use Rattle.longest_keys.specs.Growing.{IsReadTo, IsReading, AreWithin, IsRead, AreFirst, root}
use Rattle.longest_keys.specs.declared.growing.Cursor.{Cursor}
use Rattle.longest_keys.specs.declared.trie.Node.{Node}
use Rattle.longest_keys.proofs.Lists.{one_at, got_set, all_got, drop_end, drop_next}
use Rattle.longest_keys.proofs.TrieLemmas.{grown_keeps, within_grown, leveled_grown}

length-rest : (m n : ℕ) (xs : List ℕ) → m + n ≡ length xs → length (drop m xs) ≡ n
length-rest zero n xs e = omega (arith, e)
length-rest (suc m) n [] e = absurd (omega (arith, e))
length-rest (suc m) n (x ∷ xs) e = length-rest m n xs (omega (arith, e))

-- ---- nothing is read

no_edge : (p b c : ℕ) → IsEdge (root ∷ []) p b c → ⊥
no_edge p b c e = go c e.below e.there
  where
    go : (c : ℕ) → c ≢ 0 → slice_get (root ∷ []) c ≡ Some e.node → ⊥
    go zero below there = below refl
    go (suc c) below there = cc

root_last : (p bound : ℕ) → IsLast (root ∷ []) p bound 0
root_last p bound = record { child = λ some. absurd (some refl); before = λ some. absurd (some refl); last = λ b d e l. absurd (no_edge p b d e) }

root_trie : IsTrie (root ∷ [])
root_trie = record {
  root = omega arith;
  parents = λ p b c e. absurd (no_edge p b c e);
  children = children;
  siblings = siblings;
  apart = λ p b c d e f. absurd (no_edge p b c e);
}
  where
    children : (i : ℕ) (n : Node) → slice_get (root ∷ []) i ≡ Some n → IsLast (root ∷ []) i 1 n.child
    children zero n at = let same : root ≡ n = cc in subst (λ (m : Node). IsLast (root ∷ []) 0 1 m.child) same (root_last 0 1)
    children (suc i) n at = cc

    siblings : (i : ℕ) (n : Node) → slice_get (root ∷ []) i ≡ Some n → i ≢ 0 → IsLast (root ∷ []) n.parent i n.sibling
    siblings zero n at some = absurd (some refl)
    siblings (suc i) n at some = cc

root_text : (i : ℕ) (s : List ℕ) → Spells (root ∷ []) i s → s ≡ []
root_text i [] h = refl
root_text i (b ∷ s) h = absurd (no_edge h.0 b i h.1)

pub first_read : (keys : List (List ℕ)) (cursors : List Cursor) (nodes : List Node) (ends : List ℕ) → nodes ≡ root ∷ [] → length ends ≡ length keys → All (λ e. e ≡ 0) ends → AreFirst keys cursors
    → IsRead keys 0 cursors [] nodes ends
first_read keys cursors nodes ends is size zeros first = subst (λ (ns : List Node). IsRead keys 0 cursors [] ns ends) (sym is) (record {
  trie = root_trie;
  leveled = λ i j s t h k l. omega (arith, ap length (root_text i s h));
  within = λ i s h. omega (arith, ap length (root_text i s h));
  size = size;
  now = All-weaker _ (IsReadTo keys (root ∷ []) 0) whole cursors first.only;
  next = All-nil (IsReadTo keys (root ∷ []) 1);
  each = λ i e k at there. each i e k at there;
})
  where
    longer : (k : List ℕ) → k ≢ [] → (m : ℕ) × (suc m + 0 ≡ length k)
    longer [] some = absurd (some refl)
    longer (x ∷ k) some = (length k, omega arith)

    whole : (c : Cursor) → (c.node ≡ 0) × ((k : List ℕ) × (slice_get keys c.key ≡ Some k) × (k ≢ [])) → IsReadTo keys (root ∷ []) 0 c
    whole c (at, (k, there, some)) =
        let more = longer k some in
        let all : suc more.0 ≡ length k = omega (arith, more.1) in
        let end : drop (suc more.0) k ≡ [] = ap (λ (m : ℕ). drop m k) all ∙ drop_end k in
        record { key = k; left = more.0; there = there; whole = more.1; spelled = subst (Spells (root ∷ []) c.node) (sym end) at }

    each : (i e : ℕ) (k : List ℕ) → slice_get ends i ≡ Some e → slice_get keys i ≡ Some k → Spells (root ∷ []) e k ⊎ IsReading (cursors ++ []) i
    each i e [] at there = inl (all_got (λ e. e ≡ 0) ends i e zeros at)
    each i e (x ∷ k) at there = inr (subst (λ (cs : List Cursor). IsReading cs i) (sym (append-nil cursors)) (first.each i (x ∷ k) there (λ e. cc)))

-- ---- one byte more of one key

kept_read : (keys : List (List ℕ)) (old new : List Node) (p b e n : ℕ) (c : Cursor) → IsGrown old new p b e → IsReadTo keys old n c → IsReadTo keys new n c
kept_read keys old new p b e n c grown h = record {
  key = h.key;
  left = h.left;
  there = h.there;
  whole = h.whole;
  spelled = grown_keeps old new p b e c.node (drop (suc h.left) h.key) grown h.spelled;
}

own_or_rest : (c : Cursor) (xs : List Cursor) (i : ℕ) → IsReading (c ∷ xs) i → (c.key ≡ i) ⊎ IsReading xs i
own_or_rest c xs i h = go h.listed
  where
    go : Contains (c ∷ xs) h.cursor → (c.key ≡ i) ⊎ IsReading xs i
    go (zero, l, e) = inl (ap (λ (x : Cursor). x.key) e ∙ h.key)
    go (suc j, l, e) = inr (record { cursor = h.cursor; listed = (j, omega arith, e); key = h.key })

-- the cursor that is read
pub first_cursor : (keys : List (List ℕ)) (n : ℕ) (c : Cursor) (rest next : List Cursor) (nodes : List Node) (ends : List ℕ) → IsRead keys n (c ∷ rest) next nodes ends → IsReadTo keys nodes n c
first_cursor keys n c rest next nodes ends read = read.now 0 c (omega arith)

module _ (keys : List (List ℕ)) (n : ℕ) (c : Cursor) (rest next : List Cursor) (nodes new : List Node) (ends : List ℕ) (e b : ℕ) (read : IsRead keys n (c ∷ rest) next nodes ends) (grown : IsGrown nodes new c.node b e)
    (here : IsReadTo keys nodes n c) (byte : b ≡ get_or here.key here.left 0) where
  long : length (drop (suc here.left) here.key) ≡ n
  long = length-rest (suc here.left) n here.key here.whole

  more_within : AreWithin new (suc n)
  more_within = within_grown nodes new c.node b e n (drop (suc here.left) here.key) read.trie here.spelled long read.within grown

  more_leveled : IsLeveled new
  more_leveled = leveled_grown nodes new c.node b e n (drop (suc here.left) here.key) read.trie here.spelled long read.within grown read.leveled

  more_spelled : Spells new e (drop here.left here.key)
  more_spelled =
      let whole : drop here.left here.key ≡ b ∷ drop (suc here.left) here.key
      = drop_next here.key here.left 0 (omega (arith, here.whole)) ∙ ap (λ (x : ℕ). x ∷ drop (suc here.left) here.key) (sym byte) in
      subst (Spells new e) (sym whole) (c.node, grown.edge, grown_keeps nodes new c.node b e c.node (drop (suc here.left) here.key) grown here.spelled)

  rest_now : All (IsReadTo keys new n) rest
  rest_now = All-weaker (IsReadTo keys nodes n) (IsReadTo keys new n) (λ d h. kept_read keys nodes new c.node b e n d grown h) rest (λ i d l. read.now (suc i) d (omega arith))

  rest_next : All (IsReadTo keys new (suc n)) next
  rest_next = All-weaker (IsReadTo keys nodes (suc n)) (IsReadTo keys new (suc n)) (λ d h. kept_read keys nodes new c.node b e (suc n) d grown h) next read.next

  kept_spelled : (f : ℕ) (k : List ℕ) → Spells nodes f k → Spells new f k
  kept_spelled f k h = grown_keeps nodes new c.node b e f k grown h

  pub read_whole : here.left ≡ 0 → IsRead keys n rest next new (set ends c.key e)
  read_whole end = record {
    trie = grown.trie;
    leveled = more_leveled;
    within = more_within;
    size = omega (arith, length-set ends c.key e, read.size);
    now = rest_now;
    next = rest_next;
    each = λ i f k at there. by i f k there (got_set ends c.key e i f at);
  }
    where
      behind : (i f : ℕ) (k : List ℕ) → i ≢ c.key → Spells nodes f k ⊎ IsReading ((c ∷ rest) ++ next) i → Spells new f k ⊎ IsReading (rest ++ next) i
      behind i f k other (inl h) = inl (kept_spelled f k h)
      behind i f k other (inr h) = go (own_or_rest c (rest ++ next) i h)
        where
          go : (c.key ≡ i) ⊎ IsReading (rest ++ next) i → Spells new f k ⊎ IsReading (rest ++ next) i
          go (inl own) = absurd (other (sym own))
          go (inr h) = inr h

      by : (i f : ℕ) (k : List ℕ) → slice_get keys i ≡ Some k → ((i ≡ c.key) × (e ≡ f)) ⊎ ((i ≢ c.key) × (slice_get ends i ≡ Some f)) → Spells new f k ⊎ IsReading (rest ++ next) i
      by i f k there (inl (own, same)) =
          let key : here.key ≡ k = one_at keys i here.key k (ap (slice_get keys) own ∙ here.there) there in
          let all : drop here.left here.key ≡ k = ap (λ (m : ℕ). drop m here.key) end ∙ key in
          inl (subst (λ (x : ℕ). Spells new x k) same (subst (Spells new e) all more_spelled))
      by i f k there (inr (other, at)) = behind i f k other (read.each i f k at there)

  abbrev further : Cursor
  further = record { key = c.key; node = e }

  pub read_further : (m : ℕ) → here.left ≡ suc m → IsRead keys n rest (next ++ further ∷ []) new ends
  read_further m left = record {
    trie = grown.trie;
    leveled = more_leveled;
    within = more_within;
    size = read.size;
    now = rest_now;
    next = All-append (IsReadTo keys new (suc n)) next (further ∷ []) rest_next (All-cons (IsReadTo keys new (suc n)) further [] own (All-nil (IsReadTo keys new (suc n))));
    each = λ i f k at there. by i f k (read.each i f k at there);
  }
    where
      own : IsReadTo keys new (suc n) further
      own = record {
        key = here.key;
        left = m;
        there = here.there;
        whole = omega (arith, here.whole, left);
        spelled = subst (λ (x : ℕ). Spells new e (drop x here.key)) left more_spelled;
      }

      by : (i f : ℕ) (k : List ℕ) → Spells nodes f k ⊎ IsReading ((c ∷ rest) ++ next) i → Spells new f k ⊎ IsReading (rest ++ (next ++ further ∷ [])) i
      by i f k (inl h) = inl (kept_spelled f k h)
      by i f k (inr h) = go (own_or_rest c (rest ++ next) i h)
        where
          go : (c.key ≡ i) ⊎ IsReading (rest ++ next) i → Spells new f k ⊎ IsReading (rest ++ (next ++ further ∷ [])) i
          go (inl mine) = inr (record {
            cursor = further;
            listed = Contains-append_right rest (next ++ further ∷ []) further (Contains-append_right next (further ∷ []) further (0, omega arith, refl));
            key = mine;
          })
          go (inr h) = inr (record {
            cursor = h.cursor;
            listed = subst (λ (xs : List Cursor). Contains xs h.cursor) (append_assoc rest next (further ∷ [])) (Contains-append_left (rest ++ next) (further ∷ []) h.cursor h.listed);
            key = h.key;
          })

-- the key that a cursor reads, as it is read
pub key_read : (keys : List (Bor (List ℕ))) (i : ℕ) (d : Bor (List ℕ)) (k : List ℕ) → slice_get (map (λ k. k.now) keys) i ≡ Some k → (get_or keys i d).now ≡ k
key_read [] i d k e = cc
key_read (x ∷ keys) zero d k e = let same : x.now ≡ k = cc in same
key_read (x ∷ keys) (suc i) d k e = key_read keys i d k e

pub key_there : (keys : List (Bor (List ℕ))) (i : ℕ) (d : Bor (List ℕ)) → i < length keys → slice_get (map (λ k. k.now) keys) i ≡ Some (get_or keys i d).now
key_there [] i d l = absurd (omega (arith, l))
key_there (x ∷ keys) zero d l = refl
key_there (x ∷ keys) (suc i) d l = key_there keys i d (omega (arith, l))

pub byte_read : (keys : List (Bor (List ℕ))) (d : Bor (List ℕ)) (n left : ℕ) (c : Cursor) (nodes : List Node) (h : IsReadTo (map (λ k. k.now) keys) nodes n c) → left ≡ length (get_or keys c.key d).now - n - 1
    → (left ≡ h.left) × (get_or (get_or keys c.key d).now left 0 ≡ get_or h.key h.left 0)
byte_read keys d n left c nodes h e =
    let key = key_read keys c.key d h.key h.there in
    let same : left ≡ h.left = omega (arith, e, h.whole, ap length key) in
    (same, ap (λ (k : List ℕ). get_or k left 0) key ∙ ap (λ (m : ℕ). get_or h.key m 0) same)

-- ---- one byte more of each

pub level_done : (keys : List (List ℕ)) (n m : ℕ) (next : List Cursor) (nodes : List Node) (ends : List ℕ) → m ≡ suc n → IsRead keys n [] next nodes ends → IsRead keys m next [] nodes ends
level_done keys n m next nodes ends e read = subst (λ (x : ℕ). IsRead keys x next [] nodes ends) (sym e) (record {
  trie = read.trie;
  leveled = read.leveled;
  within = λ i s h. (let most = read.within i s h in omega (arith, most));
  size = read.size;
  now = read.next;
  next = All-nil (IsReadTo keys nodes (suc (suc n)));
  each = λ i f k at there. go i f k (read.each i f k at there);
})
  where
    go : (i f : ℕ) (k : List ℕ) → Spells nodes f k ⊎ IsReading ([] ++ next) i → Spells nodes f k ⊎ IsReading (next ++ []) i
    go i f k (inl h) = inl h
    go i f k (inr h) = inr (subst (λ (cs : List Cursor). IsReading cs i) (sym (append-nil next)) h)

-- where no key has more bytes, each ends at its node
pub all_read : (keys : List (List ℕ)) (n : ℕ) (cursors : List Cursor) (nodes : List Node) (ends : List ℕ) → All (λ k. length k ≤ n) keys → IsRead keys n cursors [] nodes ends → AreEnds keys nodes ends
all_read keys n cursors nodes ends most read = record { size = read.size; each = λ i e k at there. go i e k there (read.each i e k at there) }
  where
    go : (i e : ℕ) (k : List ℕ) → slice_get keys i ≡ Some k → Spells nodes e k ⊎ IsReading (cursors ++ []) i → Spells nodes e k
    go i e k there (inl h) = h
    go i e k there (inr h) =
        let listed : Contains cursors h.cursor = subst (λ (cs : List Cursor). Contains cs h.cursor) (append-nil cursors) h.listed in
        let to = All-contains (IsReadTo keys nodes n) cursors h.cursor read.now listed in
        let bound = all_got (λ k. length k ≤ n) keys h.cursor.key to.key most to.there in
        absurd (omega (arith, to.whole, bound))
