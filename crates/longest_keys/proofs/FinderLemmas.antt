-- The longest key that the text of each node begins with.
use Rattle.std.proofs.Common.{◌≡◌, ◌≢◌, ◌<◌, ◌≤◌, ℕ, zero, suc, List, [], ◌∷◌, ◌++◌, length, drop, set, ◌⊎◌, inl, inr, Some, refl, ap, sym, ◌∙◌, subst, arith}
use Rattle.std.specs.List.{All, slice_get}
use Rattle.std.proofs.lemmas.Bool.{cases_eq, cases_lt}
use Rattle.std.proofs.lemmas.List.{length-set}
use Rattle.std.proofs.lemmas.Option.{slice_get_within}
use Rattle.longest_keys.specs.Texts.{Begins, IsLongest, but_last}
use Rattle.longest_keys.specs.Tries.{Spells, IsTrie, AreEnds}
use Rattle.longest_keys.specs.Walks.{IsDeepest, AreFails, AreEarlier, AreStates}
use Rattle.longest_keys.specs.Finders.{IsOwn, IsNumbered, AreLongest}
use Rattle.longest_keys.specs.declared.trie.Node.{Node}
use Rattle.longest_keys.proofs.Lists.{one_at, got_set, got_push, push_old, got_at, got_all, all_got}
use Rattle.longest_keys.proofs.Beginnings.{begins_itself, begins_through, length-begins, begins_all, begins_shorter, begins-but_last, begins_but_last, longest_moves}
use Rattle.longest_keys.proofs.TrieLemmas.{one_text, one_node, spelled_within}

-- ---- the node of each key

pub ends_within : (keys : List (List ℕ)) (nodes : List Node) (ends : List ℕ) → IsTrie nodes → AreEnds keys nodes ends → All (λ e. e < length nodes) ends
ends_within keys nodes ends trie are = got_all (λ e. e < length nodes) ends within
  where
    within : (i e : ℕ) → slice_get ends i ≡ Some e → e < length nodes
    within i e at =
        let key = got_at keys i (omega (arith, are.size, slice_get_within ends i e at)) in
        spelled_within nodes e key.0 trie (are.each i e key.0 at key.1)

-- a key has its node
pub key_spelled : (keys : List (List ℕ)) (nodes : List Node) (ends : List ℕ) (i : ℕ) (k : List ℕ) → AreEnds keys nodes ends → slice_get keys i ≡ Some k
    → (e : ℕ) × (slice_get ends i ≡ Some e) × Spells nodes e k
key_spelled keys nodes ends i k are there =
    let end = got_at ends i (omega (arith, are.size, slice_get_within keys i k there)) in
    (end.0, end.1, are.each i end.0 k end.1 there)

-- ---- numbers of keys that end at nodes

-- the number is that of a key that ends at the node, or no key before place n ends there
abbrev pub IsOwnOf : List ℕ → ℕ → ℕ → ℕ → Type 0
IsOwnOf ends n e zero = (i : ℕ) → i < n → slice_get ends i ≢ Some e
IsOwnOf ends n e (suc i) = slice_get ends i ≡ Some e

abbrev pub AreOwnOf : List ℕ → ℕ → List ℕ → Type 0
AreOwnOf ends n own = (e m : ℕ) → slice_get own e ≡ Some m → IsOwnOf ends n e m

pub none_own : (ends own : List ℕ) → All (λ m. m ≡ 0) own → AreOwnOf ends 0 own
none_own ends own zeros e m at = subst (IsOwnOf ends 0 e) (sym (all_got (λ m. m ≡ 0) own e m zeros at)) (λ i l. absurd (omega (arith, l)))

pub one_own : (ends own : List ℕ) (n f m : ℕ) → m ≡ suc n → slice_get ends n ≡ Some f → AreOwnOf ends n own → AreOwnOf ends m (set own f m)
one_own ends own n f m is there are e k at =
    subst (λ (x : ℕ). IsOwnOf ends x e k) (sym is) (go k (got_set own f (suc n) e k (subst (λ (x : ℕ). slice_get (set own f x) e ≡ Some k) is at)))
  where
    later : (k : ℕ) → e ≢ f → IsOwnOf ends n e k → IsOwnOf ends (suc n) e k
    later zero other none = λ i l h. by i l h (cases_lt i n)
      where
        by : (i : ℕ) → i < suc n → slice_get ends i ≡ Some e → (i < n) ⊎ (n ≤ i) → ⊥
        by i l h (inl less) = none i less h
        by i l h (inr more) =
            let here : i ≡ n = omega (arith, l, more) in
            other (one_at ends n e f (ap (slice_get ends) (sym here) ∙ h) there)
    later (suc i) other h = h

    go : (k : ℕ) → ((e ≡ f) × (suc n ≡ k)) ⊎ ((e ≢ f) × (slice_get own e ≡ Some k)) → IsOwnOf ends (suc n) e k
    go k (inl (here, same)) = subst (IsOwnOf ends (suc n) e) same (there ∙ ap Some (sym here))
    go k (inr (other, was)) = later k other (are e k was)

pub all_own : (ends own : List ℕ) (n : ℕ) → length ends ≤ n → AreOwnOf ends n own → (e m : ℕ) → slice_get own e ≡ Some m → IsOwn ends e m
all_own ends own n most are e m at = go m (are e m at)
  where
    go : (m : ℕ) → IsOwnOf ends n e m → IsOwn ends e m
    go zero none = λ i h. none i (omega (arith, most, slice_get_within ends i e h)) h
    go (suc i) h = h

-- ---- numbers of the longest keys

pub more_numbers : (own fails numbers : List ℕ) (x : ℕ) → AreEarlier fails → ((n : ℕ) → slice_get own (length numbers) ≡ Some (suc n) → x ≡ suc n)
    → (slice_get own (length numbers) ≡ Some 0 → length numbers ≢ 0 → (f : ℕ) → slice_get fails (length numbers) ≡ Some f → slice_get numbers f ≡ Some x)
    → (slice_get own (length numbers) ≡ Some 0 → length numbers ≡ 0 → x ≡ 0)
    → ((i : ℕ) → IsNumbered own fails numbers i) → (i : ℕ) → IsNumbered own fails (numbers ++ x ∷ []) i
more_numbers own fails numbers x earlier mine led root are i = record {
  mine = λ m n at o. one m n (got_push numbers x i m at) o;
  led = λ m f at o some there. two m f (got_push numbers x i m at) o some there;
  root = λ m at o none. three m (got_push numbers x i m at) o none;
}
  where
    one : (m n : ℕ) → (slice_get numbers i ≡ Some m) ⊎ ((i ≡ length numbers) × (x ≡ m)) → slice_get own i ≡ Some (suc n) → m ≡ suc n
    one m n (inl at) o = (are i).mine m n at o
    one m n (inr (here, same)) o = sym same ∙ mine n (ap (slice_get own) (sym here) ∙ o)

    two : (m f : ℕ) → (slice_get numbers i ≡ Some m) ⊎ ((i ≡ length numbers) × (x ≡ m)) → slice_get own i ≡ Some 0 → i ≢ 0 → slice_get fails i ≡ Some f → slice_get (numbers ++ x ∷ []) f ≡ Some m
    two m f (inl at) o some there = push_old numbers x f m ((are i).led m f at o some there)
    two m f (inr (here, same)) o some there =
        push_old numbers x f m (led (ap (slice_get own) (sym here) ∙ o) (λ e. some (here ∙ e)) f (ap (slice_get fails) (sym here) ∙ there) ∙ ap Some same)

    three : (m : ℕ) → (slice_get numbers i ≡ Some m) ⊎ ((i ≡ length numbers) × (x ≡ m)) → slice_get own i ≡ Some 0 → i ≡ 0 → m ≡ 0
    three m (inl at) o none = (are i).root m at o none
    three m (inr (here, same)) o none = sym same ∙ root (ap (slice_get own) (sym here) ∙ o) (sym here ∙ none)

module _ (keys : List (List ℕ)) (nodes : List Node) (ends own fails numbers : List ℕ) (trie : IsTrie nodes) (are : AreEnds keys nodes ends) (fail : AreFails nodes fails) (told : length fails ≡ length nodes)
    (size : length own ≡ length nodes) (owned : (e m : ℕ) → slice_get own e ≡ Some m → IsOwn ends e m) (numbered : (i : ℕ) → IsNumbered own fails numbers i) where
  -- a key that begins the text of a node where none ends is shorter
  not_whole : (i : ℕ) (s : List ℕ) → Spells nodes i s → IsOwn ends i 0 → (j : ℕ) (k : List ℕ) → slice_get keys j ≡ Some k → Begins k s → length k < length s
  not_whole i s h none j k there begun = by (cases_lt (length k) (length s))
    where
      end : (e : ℕ) × (slice_get ends j ≡ Some e) × Spells nodes e k
      end = key_spelled keys nodes ends j k are there

      by : (length k < length s) ⊎ (length s ≤ length k) → length k < length s
      by (inl l) = l
      by (inr l) =
          let same : k ≡ s = begins_all k s begun l in
          let here : end.0 ≡ i = one_node nodes end.0 i s trie (subst (Spells nodes end.0) same end.2) h in
          absurd (none j (end.1 ∙ ap Some here))

  numbered_own : (i n m : ℕ) (s : List ℕ) → Spells nodes i s → slice_get ends n ≡ Some i → m ≡ suc n → IsLongest keys s m
  numbered_own i n m s h at is =
      let key = got_at keys n (omega (arith, are.size, slice_get_within ends n i at)) in
      let same : key.0 ≡ s = one_text nodes i key.0 s (are.each n i key.0 at key.1) h in
      subst (IsLongest keys s) (sym is) (
        key.0,
        key.1,
        subst (Begins key.0) same (begins_itself key.0),
        got_all (λ k. Begins k s → length k ≤ length key.0) keys (λ j k there begun. omega (arith, length-begins k s begun, ap length same)),
      )

  numbered_none : (i : ℕ) (s : List ℕ) → Spells nodes i s → IsOwn ends i 0 → i ≡ 0 → IsLongest keys s 0
  numbered_none i s h none root =
      let empty : s ≡ [] = one_text nodes i s [] h root in
      got_all (λ k. ¬ (Begins k s)) keys (λ j k there begun. (let less = not_whole i s h none j k there begun in absurd (omega (arith, less, ap length empty))))

  -- the keys that begin a text with a shorter one before them begin the longest of the trie's texts that is shorter
  numbered_led : (i f m : ℕ) (s : List ℕ) → Spells nodes i s → IsOwn ends i 0 → slice_get fails i ≡ Some f → ((t : List ℕ) → Spells nodes f t → IsLongest keys t m) → IsLongest keys s m
  numbered_led i f m s h none there shorter =
      let deep = fail.longest i f s there h in
      longest_moves keys deep.text s m (begins_through deep.text (but_last s) s deep.stands (begins-but_last s)) (λ j k at begun. (
      let less = not_whole i s h none j k at begun in
      let front = begins_but_last k s begun less in
      let end = key_spelled keys nodes ends j k are at in
      begins_shorter k deep.text (but_last s) front deep.stands (deep.longest end.0 k end.2 front)
      )) (shorter deep.text deep.spelled)

  longest_at : (i m : ℕ) (s : List ℕ) → slice_get numbers i ≡ Some m → Spells nodes i s → ((f : ℕ) (t : List ℕ) → f < i → slice_get numbers f ≡ Some m → Spells nodes f t → IsLongest keys t m) → IsLongest keys s m
  longest_at i m s at h earlier =
      let mine = got_at own i (omega (arith, size, spelled_within nodes i s trie h)) in
      let there = got_at fails i (omega (arith, told, spelled_within nodes i s trie h)) in
      go mine.0 mine.1 there.0 there.1 (cases_eq i 0)
    where
      go : (o : ℕ) → slice_get own i ≡ Some o → (f : ℕ) → slice_get fails i ≡ Some f → (i ≡ 0) ⊎ (i ≡ 0 → ⊥) → IsLongest keys s m
      go zero o f there (inl root) = subst (IsLongest keys s) (sym ((numbered i).root m at o root)) (numbered_none i s h (owned i 0 o) root)
      go zero o f there (inr some) =
          let before = fail.earlier i f there in
          numbered_led i f m s h (owned i 0 o) there (λ t k. earlier f t (omega (arith, before, some)) ((numbered i).led m f at o some there) k)
      go (suc n) o f there root = numbered_own i n m s h (owned i (suc n) o) ((numbered i).mine m n at o)

  longest_below : (bound i m : ℕ) (s : List ℕ) → i < bound → slice_get numbers i ≡ Some m → Spells nodes i s → IsLongest keys s m
  longest_below zero i m s l at h = absurd (omega (arith, l))
  longest_below (suc bound) i m s l at h = longest_at i m s at h (λ f t less there k. longest_below bound f m t (omega (arith, l, less)) there k)

  pub all_longest : AreLongest keys nodes numbers
  all_longest i m s at h = longest_below (suc i) i m s (omega arith) at h

-- ---- the longest key at a place

pub longest_at_state : (keys : List (List ℕ)) (nodes : List Node) (ends longest t : List ℕ) (q m : ℕ) → AreEnds keys nodes ends → AreLongest keys nodes longest → IsDeepest nodes t q → slice_get longest q ≡ Some m
    → IsLongest keys t m
longest_at_state keys nodes ends longest t q m are all deep at =
    longest_moves keys deep.text t m deep.stands (λ j k there begun. (
    let end = key_spelled keys nodes ends j k are there in
    begins_shorter k deep.text t begun deep.stands (deep.longest end.0 k end.2 begun)
    )) (all q m deep.text at deep.spelled)

-- the first n states are turned into numbers
pub record AreTurned (states longest found : List ℕ) (n : ℕ) : Type 0 where
  pub size : length found ≡ length states
  pub before : (i m : ℕ) → i < n → slice_get found i ≡ Some m → (q : ℕ) × (slice_get states i ≡ Some q) × (slice_get longest q ≡ Some m)
  pub behind : (i m : ℕ) → n ≤ i → slice_get found i ≡ Some m → slice_get states i ≡ Some m

pub none_turned : (states longest : List ℕ) → AreTurned states longest states 0
none_turned states longest = record { size = refl; before = λ i m l at. absurd (omega (arith, l)); behind = λ i m l at. at }

pub one_turned : (states longest found : List ℕ) (n k q m : ℕ) → k ≡ suc n → slice_get found n ≡ Some q → slice_get longest q ≡ Some m → AreTurned states longest found n → AreTurned states longest (set found n m) k
one_turned states longest found n k q m is here number h = subst (AreTurned states longest (set found n m)) (sym is) (record {
  size = omega (arith, length-set found n m, h.size);
  before = λ i r l at. before i r l (got_set found n m i r at);
  behind = λ i r l at. behind i r l (got_set found n m i r at);
})
  where
    before : (i r : ℕ) → i < suc n → ((i ≡ n) × (m ≡ r)) ⊎ ((i ≢ n) × (slice_get found i ≡ Some r)) → (p : ℕ) × (slice_get states i ≡ Some p) × (slice_get longest p ≡ Some r)
    before i r l (inl (e, same)) = (q, ap (slice_get states) e ∙ h.behind n q (omega arith) here, number ∙ ap Some same)
    before i r l (inr (other, at)) = h.before i r (omega (arith, l, other)) at

    behind : (i r : ℕ) → suc n ≤ i → ((i ≡ n) × (m ≡ r)) ⊎ ((i ≢ n) × (slice_get found i ≡ Some r)) → slice_get states i ≡ Some r
    behind i r l (inl (e, same)) = absurd (omega (arith, l, e))
    behind i r l (inr (other, at)) = h.behind i r (omega (arith, l)) at

pub turned_within : (nodes : List Node) (text states longest found : List ℕ) (n q : ℕ) → IsTrie nodes → AreStates nodes text states → AreTurned states longest found n → slice_get found n ≡ Some q → q < length nodes
turned_within nodes text states longest found n q trie told h at =
    let deep = told.each n q (h.behind n q (omega arith) at) in
    spelled_within nodes q deep.text trie deep.spelled

pub all_turned : (keys : List (List ℕ)) (nodes : List Node) (ends longest text states found : List ℕ) (n : ℕ) → AreEnds keys nodes ends → AreLongest keys nodes longest → AreStates nodes text states
    → length states ≤ n → AreTurned states longest found n → (i m : ℕ) → slice_get found i ≡ Some m → IsLongest keys (drop i text) m
all_turned keys nodes ends longest text states found n are all told most h i m at =
    let turned = h.before i m (omega (arith, most, h.size, slice_get_within found i m at)) at in
    longest_at_state keys nodes ends longest (drop i text) turned.0 m are all (told.each i turned.0 turned.1) turned.2

-- ---- states

pub states_within : (nodes : List Node) (text states : List ℕ) → IsTrie nodes → AreStates nodes text states → All (λ q. q < length nodes) states
states_within nodes text states trie told =
    got_all (λ q. q < length nodes) states (λ i q at. let deep = told.each i q at in spelled_within nodes q deep.text trie deep.spelled)
