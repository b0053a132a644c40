-- Each node of a trie stands for one text, and no two for the same; what a trie is with one node more.
use Rattle.std.proofs.Common.{◌≡◌, ◌≢◌, ◌<◌, ◌≤◌, ℕ, zero, suc, List, [], ◌∷◌, ◌++◌, length, set, ◌⊎◌, inl, inr, Some, refl, ap, sym, ◌∙◌, subst, arith, length-append}
use Rattle.std.specs.List.{slice_get}
use Rattle.std.proofs.lemmas.Bool.{cases_eq}
use Rattle.std.proofs.lemmas.List.{length-set}
use Rattle.std.proofs.lemmas.Option.{slice_get_within}
use Rattle.longest_keys.specs.Tries.{IsEdge, LacksEdge, Spells, IsLast, IsTrie, IsGrown, IsLeveled}
use Rattle.longest_keys.specs.Growing.{AreWithin}
use Rattle.longest_keys.specs.declared.trie.Node.{Node}
use Rattle.longest_keys.proofs.Lists.{one_at, got_set, set_here, set_else, got_push, push_old, push_here, got_at}

-- ---- texts and nodes

pub same_edge : (nodes : List Node) (p b q d c : ℕ) → IsEdge nodes p b c → IsEdge nodes q d c → (p ≡ q) × (b ≡ d)
same_edge nodes p b q d c e f =
    let same : e.node ≡ f.node = one_at nodes c e.node f.node e.there f.there in
    (sym e.parent ∙ (ap (λ (n : Node). n.parent) same ∙ f.parent), sym e.byte ∙ (ap (λ (n : Node). n.byte) same ∙ f.byte))

pub one_text : (nodes : List Node) (i : ℕ) (s t : List ℕ) → Spells nodes i s → Spells nodes i t → s ≡ t
one_text nodes i [] [] h k = refl
one_text nodes i [] (d ∷ t) h k = absurd (k.1.below h)
one_text nodes i (b ∷ s) [] h k = absurd (h.1.below k)
one_text nodes i (b ∷ s) (d ∷ t) h k =
    let same = same_edge nodes h.0 b k.0 d i h.1 k.1 in
    let rest : s ≡ t = one_text nodes h.0 s t h.2 (subst (λ (q : ℕ). Spells nodes q t) (sym same.0) k.2) in
    let byte : b ≡ d = same.1 in cc

pub one_node : (nodes : List Node) (i j : ℕ) (s : List ℕ) → IsTrie nodes → Spells nodes i s → Spells nodes j s → i ≡ j
one_node nodes i j [] trie h k = h ∙ sym k
one_node nodes i j (b ∷ s) trie h k =
    let parents : h.0 ≡ k.0 = one_node nodes h.0 k.0 s trie h.2 k.2 in
    trie.apart h.0 b i j h.1 (subst (λ (q : ℕ). IsEdge nodes q b j) (sym parents) k.1)

pub edge_within : (nodes : List Node) (p b c : ℕ) → IsEdge nodes p b c → c < length nodes
edge_within nodes p b c e = slice_get_within nodes c e.node e.there

pub spelled_within : (nodes : List Node) (i : ℕ) (s : List ℕ) → IsTrie nodes → Spells nodes i s → i < length nodes
spelled_within nodes i [] trie h = omega (arith, h, trie.root)
spelled_within nodes i (b ∷ s) trie h = edge_within nodes h.0 b i h.1

-- the edge to a node
edge_to : (nodes : List Node) (i : ℕ) (n : Node) → i ≢ 0 → slice_get nodes i ≡ Some n → IsEdge nodes n.parent n.byte i
edge_to nodes i n below there = record { node = n; there = there; below = below; parent = refl; byte = refl }

texts_below : (nodes : List Node) (m i : ℕ) → IsTrie nodes → i < m → i < length nodes → (s : List ℕ) × Spells nodes i s
texts_below nodes m zero trie l w = ([], refl)
texts_below nodes zero (suc i) trie l w = absurd (omega arith)
texts_below nodes (suc m) (suc i) trie l w =
    let at = got_at nodes (suc i) w in
    let edge = edge_to nodes (suc i) at.0 (λ e. cc) at.1 in
    let earlier = trie.parents at.0.parent at.0.byte (suc i) edge in
    let rest = texts_below nodes m at.0.parent trie (omega (arith, earlier)) (omega (arith, earlier)) in
    (at.0.byte ∷ rest.0, (at.0.parent, edge, rest.1))

pub has_text : (nodes : List Node) (i : ℕ) → IsTrie nodes → i < length nodes → (s : List ℕ) × Spells nodes i s
has_text nodes i trie w = texts_below nodes (suc i) i trie (omega arith) w

-- a node but the root, seen from its parent
pub from_parent : (nodes : List Node) (i : ℕ) (n : Node) (s : List ℕ) → i ≢ 0 → slice_get nodes i ≡ Some n → Spells nodes i s → (t : List ℕ) × (s ≡ n.byte ∷ t) × Spells nodes n.parent t
from_parent nodes i n [] below there h = absurd (below h)
from_parent nodes i n (b ∷ t) below there h =
    let same = same_edge nodes h.0 b n.parent n.byte i h.1 (edge_to nodes i n below there) in
    (t, ap (λ (x : ℕ). x ∷ t) same.1, subst (λ (q : ℕ). Spells nodes q t) same.0 h.2)

pub parent_earlier : (nodes : List Node) (i : ℕ) (n : Node) → IsTrie nodes → i ≢ 0 → slice_get nodes i ≡ Some n → n.parent < i
parent_earlier nodes i n trie below there = trie.parents n.parent n.byte i (edge_to nodes i n below there)

-- ---- the children of a node, from the last to the first

-- no child of p with byte b stands behind c, which is a child of p or 0
pub record IsNext (nodes : List Node) (p b c : ℕ) : Type 0 where
  pub within : c < length nodes
  pub child : c ≢ 0 → (d : ℕ) × IsEdge nodes p d c
  pub rest : (d : ℕ) → IsEdge nodes p b d → d ≤ c

next_within : (nodes : List Node) (p c : ℕ) → IsTrie nodes → (c ≢ 0 → (d : ℕ) × IsEdge nodes p d c) → c < length nodes
next_within nodes p zero trie child = trie.root
next_within nodes p (suc c) trie child = let edge = child (λ e. cc) in edge_within nodes p edge.0 (suc c) edge.1

pub first_child : (nodes : List Node) (p b : ℕ) (n : Node) → IsTrie nodes → slice_get nodes p ≡ Some n → IsNext nodes p b n.child
first_child nodes p b n trie there =
    let last = trie.children p n there in
    record {
      within = next_within nodes p n.child trie last.child;
      child = last.child;
      rest = λ d e. last.last b d e (edge_within nodes p b d e);
    }

pub next_child : (nodes : List Node) (p b c : ℕ) (n : Node) → IsTrie nodes → IsNext nodes p b c → c ≢ 0 → slice_get nodes c ≡ Some n → n.byte ≢ b → IsNext nodes p b n.sibling × (n.sibling < c)
next_child nodes p b c n trie next some there other =
    let edge = next.child some in
    let parent : n.parent ≡ p = (same_edge nodes n.parent n.byte p edge.0 c (edge_to nodes c n some there) edge.1).0 in
    let last : IsLast nodes p c n.sibling = subst (λ (q : ℕ). IsLast nodes q c n.sibling) parent (trie.siblings c n there some) in (
      record {
        within = next_within nodes p n.sibling trie last.child;
        child = last.child;
        rest = λ d e. last.last b d e (before d e (cases_eq d c));
      },
      smaller n.sibling last.before,
    )
  where
    before : (d : ℕ) → IsEdge nodes p b d → (d ≡ c) ⊎ (d ≡ c → ⊥) → d < c
    before d e (inl here) =
        let mine : IsEdge nodes p b c = subst (IsEdge nodes p b) here e in
        absurd (other ((same_edge nodes n.parent n.byte p b c (edge_to nodes c n some there) mine).1))
    before d e (inr apart) = let most = next.rest d e in omega (arith, most, apart)

    smaller : (x : ℕ) → (x ≢ 0 → x < c) → x < c
    smaller zero h = omega (arith, some)
    smaller (suc x) h = h (λ e. cc)

pub found_child : (nodes : List Node) (p b c : ℕ) (n : Node) → IsNext nodes p b c → c ≢ 0 → slice_get nodes c ≡ Some n → n.byte ≡ b → IsEdge nodes p b c
found_child nodes p b c n next some there byte =
    let edge = next.child some in
    let same = same_edge nodes n.parent n.byte p edge.0 c (edge_to nodes c n some there) edge.1 in
    record { node = n; there = there; below = some; parent = same.0; byte = byte }

pub no_child : (nodes : List Node) (p b c : ℕ) → IsNext nodes p b c → c ≡ 0 → LacksEdge nodes p b
no_child nodes p b c next none d e = e.below (let most = next.rest d e in omega (arith, most, none))

-- ---- one node more

pub same_grown : (nodes : List Node) (p b c : ℕ) → IsTrie nodes → IsEdge nodes p b c → IsGrown nodes nodes p b c
same_grown nodes p b c trie edge = record {
  trie = trie;
  edge = edge;
  kept = λ q d e h. h;
  more = λ q d e h. inl h;
  size = omega arith;
}

module _ (old : List Node) (p b : ℕ) (n : Node) (trie : IsTrie old) (there : slice_get old p ≡ Some n) (none : LacksEdge old p b) where
  abbrev added : Node
  added = record { byte = b; parent = p; child = 0; sibling = n.child }

  abbrev parent : Node
  parent = record { byte = n.byte; parent = n.parent; child = length old; sibling = n.sibling }

  abbrev new : List Node
  new = set (old ++ added ∷ []) p parent

  early : p < length old
  early = slice_get_within old p n there

  size : length new ≡ suc (length old)
  size = omega (arith, length-set (old ++ added ∷ []) p parent, length-append old (added ∷ []))

  -- a node of the new list, as it was
  record IsOld (c : ℕ) (m : Node) : Type 0 where
    was : Node
    at : slice_get old c ≡ Some was
    byte : m.byte ≡ was.byte
    parent : m.parent ≡ was.parent
    sibling : m.sibling ≡ was.sibling
    child : ((c ≡ p) × (m.child ≡ length old)) ⊎ ((c ≢ p) × (m.child ≡ was.child))

  got : (c : ℕ) (m : Node) → slice_get new c ≡ Some m → ((c ≡ length old) × (added ≡ m)) ⊎ IsOld c m
  got c m h = go (got_set (old ++ added ∷ []) p parent c m h)
    where
      behind : c ≢ p → (slice_get old c ≡ Some m) ⊎ ((c ≡ length old) × (added ≡ m)) → ((c ≡ length old) × (added ≡ m)) ⊎ IsOld c m
      behind other (inl at) = inr (record { was = m; at = at; byte = refl; parent = refl; sibling = refl; child = inr (other, refl) })
      behind other (inr h) = inl h

      go : ((c ≡ p) × (parent ≡ m)) ⊎ ((c ≢ p) × (slice_get (old ++ added ∷ []) c ≡ Some m)) → ((c ≡ length old) × (added ≡ m)) ⊎ IsOld c m
      go (inl (here, same)) = inr (record {
        was = n;
        at = ap (slice_get old) here ∙ there;
        byte = sym (ap (λ (x : Node). x.byte) same);
        parent = sym (ap (λ (x : Node). x.parent) same);
        sibling = sym (ap (λ (x : Node). x.sibling) same);
        child = inl (here, sym (ap (λ (x : Node). x.child) same));
      })
      go (inr (other, at)) = behind other (got_push old added c m at)

  edge_kept : (q d e : ℕ) → IsEdge old q d e → IsEdge new q d e
  edge_kept q d e h = go (cases_eq e p)
    where
      go : (e ≡ p) ⊎ (e ≡ p → ⊥) → IsEdge new q d e
      go (inl here) =
          let same = same_edge old q d n.parent n.byte e h (edge_to old e n h.below (ap (slice_get old) here ∙ there)) in
          record {
            node = parent;
            there = ap (slice_get new) here ∙ set_here (old ++ added ∷ []) p parent (omega (arith, early, length-append old (added ∷ [])));
            below = h.below;
            parent = sym same.0;
            byte = sym same.1;
          }
      go (inr other) = record {
        node = h.node;
        there = set_else (old ++ added ∷ []) p parent e h.node other (push_old old added e h.node h.there);
        below = h.below;
        parent = h.parent;
        byte = h.byte;
      }

  edge_more : (q d e : ℕ) → IsEdge new q d e → IsEdge old q d e ⊎ ((q ≡ p) × (d ≡ b) × (e ≡ length old))
  edge_more q d e h = go (got e h.node h.there)
    where
      go : ((e ≡ length old) × (added ≡ h.node)) ⊎ IsOld e h.node → IsEdge old q d e ⊎ ((q ≡ p) × (d ≡ b) × (e ≡ length old))
      go (inl (last, same)) =
          inr (sym h.parent ∙ sym (ap (λ (x : Node). x.parent) same), sym h.byte ∙ sym (ap (λ (x : Node). x.byte) same), last)
      go (inr o) = inl (record { node = o.was; there = o.at; below = h.below; parent = sym o.parent ∙ h.parent; byte = sym o.byte ∙ h.byte })

  new_edge : IsEdge new p b (length old)
  new_edge = record {
    node = added;
    there = set_else (old ++ added ∷ []) p parent (length old) added (λ e. omega (arith, early, e)) (push_here old added);
    below = λ e. omega (arith, trie.root, e);
    parent = refl;
    byte = refl;
  }

  -- what was last among earlier places still is
  last_kept : (q bound c : ℕ) → bound ≤ length old → IsLast old q bound c → IsLast new q bound c
  last_kept q bound c within last = record {
    child = λ some. let edge = last.child some in (edge.0, edge_kept q edge.0 c edge.1);
    before = last.before;
    last = λ d e h l. go d e l (edge_more q d e h);
  }
    where
      go : (d e : ℕ) → e < bound → IsEdge old q d e ⊎ ((q ≡ p) × (d ≡ b) × (e ≡ length old)) → e ≤ c
      go d e l (inl h) = last.last d e h l
      go d e l (inr (x, y, z)) = absurd (omega (arith, l, within, z))

  new_parents : (q d e : ℕ) → IsEdge new q d e → q < e
  new_parents q d e h = go (edge_more q d e h)
    where
      go : IsEdge old q d e ⊎ ((q ≡ p) × (d ≡ b) × (e ≡ length old)) → q < e
      go (inl h) = trie.parents q d e h
      go (inr (x, y, z)) = omega (arith, x, z, early)

  new_apart : (q d c e : ℕ) → IsEdge new q d c → IsEdge new q d e → c ≡ e
  new_apart q d c e h k = go (edge_more q d c h) (edge_more q d e k)
    where
      lacks : (q d e : ℕ) → q ≡ p → d ≡ b → IsEdge old q d e → ⊥
      lacks q d e x y h = none e (subst (λ (z : ℕ). IsEdge old p z e) y (subst (λ (z : ℕ). IsEdge old z d e) x h))

      go : IsEdge old q d c ⊎ ((q ≡ p) × (d ≡ b) × (c ≡ length old)) → IsEdge old q d e ⊎ ((q ≡ p) × (d ≡ b) × (e ≡ length old)) → c ≡ e
      go (inl h) (inl k) = trie.apart q d c e h k
      go (inl h) (inr (x, y, z)) = absurd (lacks q d c x y h)
      go (inr (x, y, z)) (inl k) = absurd (lacks q d e x y k)
      go (inr (x, y, z)) (inr (u, v, w)) = z ∙ sym w

  new_children : (i : ℕ) (m : Node) → slice_get new i ≡ Some m → IsLast new i (length new) m.child
  new_children i m at = go (got i m at)
    where
      leaf : i ≡ length old → (d e : ℕ) → IsEdge old i d e ⊎ ((i ≡ p) × (d ≡ b) × (e ≡ length old)) → e ≤ 0
      leaf here d e (inl h) = absurd (omega (arith, here, trie.parents i d e h, edge_within old i d e h))
      leaf here d e (inr (x, y, z)) = absurd (omega (arith, here, x, early))

      other : (c : ℕ) → i ≢ p → IsLast old i (length old) c → (d e : ℕ) → IsEdge old i d e ⊎ ((i ≡ p) × (d ≡ b) × (e ≡ length old)) → e ≤ c
      other c apart last d e (inl h) = last.last d e h (edge_within old i d e h)
      other c apart last d e (inr (x, y, z)) = absurd (apart x)

      by : (o : IsOld i m) → ((i ≡ p) × (m.child ≡ length old)) ⊎ ((i ≢ p) × (m.child ≡ o.was.child)) → IsLast new i (length new) m.child
      by o (inl (here, is)) = record {
        child = λ some. (b, subst (λ (c : ℕ). IsEdge new i b c) (sym is) (subst (λ (q : ℕ). IsEdge new q b (length old)) (sym here) new_edge));
        before = λ some. omega (arith, is, size);
        last = λ d e h l. omega (arith, is, size, l);
      }
      by o (inr (apart, is)) =
          let last = trie.children i o.was o.at in
          subst (λ (c : ℕ). IsLast new i (length new) c) (sym is) (record {
            child = λ some. let edge = last.child some in (edge.0, edge_kept i edge.0 o.was.child edge.1);
            before = λ some. let below = last.before some in omega (arith, below, size);
            last = λ d e h l. other o.was.child apart last d e (edge_more i d e h);
          })

      go : ((i ≡ length old) × (added ≡ m)) ⊎ IsOld i m → IsLast new i (length new) m.child
      go (inl (here, same)) =
          subst (λ (x : Node). IsLast new i (length new) x.child) same
          (record { child = λ some. absurd (some refl); before = λ some. absurd (some refl); last = λ d e h l. leaf here d e (edge_more i d e h) })
      go (inr o) = by o o.child

  new_siblings : (i : ℕ) (m : Node) → slice_get new i ≡ Some m → i ≢ 0 → IsLast new m.parent i m.sibling
  new_siblings i m at some = go (got i m at)
    where
      go : ((i ≡ length old) × (added ≡ m)) ⊎ IsOld i m → IsLast new m.parent i m.sibling
      go (inl (here, same)) =
          subst (λ (x : Node). IsLast new x.parent i x.sibling) same
          (subst (λ (x : ℕ). IsLast new p x n.child) (sym here) (last_kept p (length old) n.child (omega arith) (trie.children p n there)))
      go (inr o) =
          let last = last_kept o.was.parent i o.was.sibling (omega (arith, slice_get_within old i o.was o.at)) (trie.siblings i o.was o.at some) in
          subst (λ (x : ℕ). IsLast new m.parent i x) (sym o.sibling) (subst (λ (q : ℕ). IsLast new q i o.was.sibling) (sym o.parent) last)

  pub one_grown : IsGrown old new p b (length old)
  one_grown = record {
    trie = record {
      root = omega (arith, size);
      parents = new_parents;
      children = new_children;
      siblings = new_siblings;
      apart = new_apart;
    };
    edge = new_edge;
    kept = edge_kept;
    more = edge_more;
    size = omega (arith, size);
  }

-- ---- texts of a trie that grew

pub grown_keeps : (old new : List Node) (p b c i : ℕ) (s : List ℕ) → IsGrown old new p b c → Spells old i s → Spells new i s
grown_keeps old new p b c i [] grown h = h
grown_keeps old new p b c i (d ∷ s) grown h = (h.0, grown.kept h.0 d i h.1, grown_keeps old new p b c h.0 s grown h.2)

-- a text that is new is that of the new node
pub record IsAdded (old : List Node) (p b i : ℕ) (s : List ℕ) : Type 0 where
  pub last : i ≡ length old
  pub text : List ℕ
  pub whole : s ≡ b ∷ text
  pub spelled : Spells old p text

pub grown_texts : (old new : List Node) (p b c i : ℕ) (s : List ℕ) → IsTrie old → p < length old → IsGrown old new p b c → Spells new i s → Spells old i s ⊎ IsAdded old p b i s
grown_texts old new p b c i [] trie early grown h = inl h
grown_texts old new p b c i (d ∷ s) trie early grown h = go (grown.more h.0 d i h.1) (grown_texts old new p b c h.0 s trie early grown h.2)
  where
    go : IsEdge old h.0 d i ⊎ ((h.0 ≡ p) × (d ≡ b) × (i ≡ length old)) → Spells old h.0 s ⊎ IsAdded old p b h.0 s → Spells old i (d ∷ s) ⊎ IsAdded old p b i (d ∷ s)
    go (inl edge) (inl rest) = inl (h.0, edge, rest)
    go (inl edge) (inr more) = absurd (omega (arith, more.last, trie.parents h.0 d i edge, edge_within old h.0 d i edge))
    go (inr (x, y, z)) (inl rest) = inr (record { last = z; text = s; whole = ap (λ (e : ℕ). e ∷ s) y; spelled = subst (λ (q : ℕ). Spells old q s) x rest })
    go (inr (x, y, z)) (inr more) = absurd (omega (arith, more.last, x, early))

module _ (old new : List Node) (p b c m : ℕ) (t : List ℕ) (trie : IsTrie old) (here : Spells old p t) (long : length t ≡ m) (within : AreWithin old (suc m)) (grown : IsGrown old new p b c) where
  long_added : (i : ℕ) (s : List ℕ) → IsAdded old p b i s → length s ≡ suc m
  long_added i s add = let same : add.text ≡ t = one_text old p add.text t add.spelled here in omega (arith, ap length add.whole, ap length same, long)

  pub within_grown : AreWithin new (suc m)
  within_grown i s h = go (grown_texts old new p b c i s trie (spelled_within old p t trie here) grown h)
    where
      go : Spells old i s ⊎ IsAdded old p b i s → length s ≤ suc m
      go (inl h) = within i s h
      go (inr add) = let is = long_added i s add in omega (arith, is)

  pub leveled_grown : IsLeveled old → IsLeveled new
  leveled_grown leveled i j s u h k l = go (grown_texts old new p b c i s trie (spelled_within old p t trie here) grown h) (grown_texts old new p b c j u trie (spelled_within old p t trie here) grown k)
    where
      go : Spells old i s ⊎ IsAdded old p b i s → Spells old j u ⊎ IsAdded old p b j u → length s ≤ length u
      go (inl h) (inl k) = leveled i j s u h k l
      go (inl h) (inr add) = let is = long_added j u add in let most = within i s h in omega (arith, is, most)
      go (inr add) (inl k) = absurd (omega (arith, add.last, l, spelled_within old j u trie k))
      go (inr one) (inr two) = let is = long_added i s one in let two_is = long_added j u two in omega (arith, is, two_is)

-- what a list is to which a node was pushed, and then set as the last child of its parent
pub add_done : (old pushed : List Node) (p b count : ℕ) (n m : Node) → IsTrie old → LacksEdge old p b → count ≡ length old → slice_get old p ≡ Some n
    → pushed ≡ old ++ record { byte = b; parent = p; child = 0; sibling = n.child } ∷ [] → slice_get pushed p ≡ Some m
    → IsGrown old (set pushed p (record { byte = m.byte; parent = m.parent; child = count; sibling = m.sibling })) p b count
add_done old pushed p b count n m trie none size there is at =
    let same : m ≡ n = one_at pushed p m n at (ap (λ (ns : List Node). slice_get ns p) is ∙ push_old old _ p n there) in
    rw (is, size, same) (one_grown old p b n trie there none)
