-- From the longest text of a trie at one place to that at the place before it, and to the next shorter.
use Rattle.std.proofs.Common.{◌≡◌, ◌≢◌, ◌<◌, ◌≤◌, ℕ, zero, suc, pred, List, [], ◌∷◌, ◌++◌, length, drop, get_or, set, ◌⊎◌, inl, inr, Some, refl, ap, sym, ◌∙◌, subst, arith, length-append}
use Rattle.std.specs.List.{slice_get}
use Rattle.std.proofs.lemmas.Bool.{cases_lt}
use Rattle.std.proofs.lemmas.List.{length-set}
use Rattle.std.proofs.lemmas.Option.{slice_get_within}
use Rattle.longest_keys.specs.Texts.{Begins, but_last}
use Rattle.longest_keys.specs.Tries.{IsEdge, LacksEdge, Spells, IsTrie, IsLeveled}
use Rattle.longest_keys.specs.Walks.{IsDeepest, AreFails, AreStates}
use Rattle.longest_keys.specs.declared.trie.Node.{Node}
use Rattle.longest_keys.proofs.Lists.{got_set, got_push, drop_end, drop_next}
use Rattle.longest_keys.proofs.Beginnings.{begins_through, length-begins, begins_shorter, begins_same, begins_byte, byte_begins, begins_nothing, begins-but_last, begins_but_last, length-but_last}
use Rattle.longest_keys.proofs.TrieLemmas.{one_text, one_node, spelled_within, has_text, from_parent}

pub deepest_within : (nodes : List Node) (t : List ℕ) (i : ℕ) → IsTrie nodes → IsDeepest nodes t i → i < length nodes
deepest_within nodes t i trie h = spelled_within nodes i h.text trie h.spelled

-- the text of the node at place i begins t, and none of the trie's texts behind byte b, that begins t, is longer
pub record IsRest (nodes : List Node) (b : ℕ) (t : List ℕ) (i : ℕ) : Type 0 where
  pub text : List ℕ
  pub spelled : Spells nodes i text
  pub stands : Begins text t
  pub longest : (j : ℕ) (u : List ℕ) → Spells nodes j (b ∷ u) → Begins u t → length u ≤ length text

pub first_rest : (nodes : List Node) (b : ℕ) (t : List ℕ) (i : ℕ) → IsDeepest nodes t i → IsRest nodes b t i
first_rest nodes b t i h = record { text = h.text; spelled = h.spelled; stands = h.stands; longest = λ j u k front. h.longest k.0 u k.2 front }

pub found_rest : (nodes : List Node) (b : ℕ) (t : List ℕ) (i c : ℕ) → IsEdge nodes i b c → IsRest nodes b t i → IsDeepest nodes (b ∷ t) c
found_rest nodes b t i c edge h = record {
  text = b ∷ h.text;
  spelled = (i, edge, h.spelled);
  stands = byte_begins b h.text t h.stands;
  longest = most;
}
  where
    most : (j : ℕ) (u : List ℕ) → Spells nodes j u → Begins u (b ∷ t) → length u ≤ suc (length h.text)
    most j [] k front = omega arith
    most j (d ∷ u) k front =
        let cut = begins_byte d u b t front in
        let bound = h.longest j u (subst (λ (x : ℕ). Spells nodes j (x ∷ u)) cut.0 k) cut.1 in omega (arith, bound)

-- where no child has the byte, a text that is as long as this isn't one behind the byte
not_here : (nodes : List Node) (b : ℕ) (i j : ℕ) (s : List ℕ) → IsTrie nodes → LacksEdge nodes i b → Spells nodes i s → Spells nodes j (b ∷ s) → ⊥
not_here nodes b i j s trie lacks h k =
    lacks j (subst (λ (p : ℕ). IsEdge nodes p b j) (one_node nodes k.0 i s trie k.2 h) k.1)

pub last_rest : (nodes : List Node) (b : ℕ) (t : List ℕ) (i : ℕ) → IsTrie nodes → i ≡ 0 → LacksEdge nodes 0 b → IsRest nodes b t i → IsDeepest nodes (b ∷ t) 0
last_rest nodes b t i trie root lacks h = record { text = []; spelled = refl; stands = (b ∷ t, refl); longest = most }
  where
    short : (u : List ℕ) → length u ≤ length h.text → u ≡ []
    short [] l = refl
    short (x ∷ u) l =
        let none : h.text ≡ [] = one_text nodes i h.text [] h.spelled root in
        absurd (omega (arith, l, ap length none))

    most : (j : ℕ) (u : List ℕ) → Spells nodes j u → Begins u (b ∷ t) → length u ≤ 0
    most j [] k front = omega arith
    most j (d ∷ u) k front =
        let cut = begins_byte d u b t front in
        let here : Spells nodes j (b ∷ u) = subst (λ (x : ℕ). Spells nodes j (x ∷ u)) cut.0 k in
        let none : u ≡ [] = short u (h.longest j u here cut.1) in
        absurd (not_here nodes b 0 j [] trie lacks refl (subst (λ (x : List ℕ). Spells nodes j (b ∷ x)) none here))

pub next_rest : (nodes : List Node) (fails : List ℕ) (b : ℕ) (t : List ℕ) (i f : ℕ) → IsTrie nodes → AreFails nodes fails → slice_get fails i ≡ Some f → LacksEdge nodes i b
    → IsRest nodes b t i → IsRest nodes b t f
next_rest nodes fails b t i f trie are at lacks h =
    let shorter = are.longest i f h.text at h.spelled in
    record {
      text = shorter.text;
      spelled = shorter.spelled;
      stands = begins_through shorter.text (but_last h.text) t shorter.stands (begins_through (but_last h.text) h.text t (begins-but_last h.text) h.stands);
      longest = λ j u k front. shorter.longest k.0 u k.2 (within j u k front (cases_lt (length u) (length h.text)));
    }
  where
    within : (j : ℕ) (u : List ℕ) → Spells nodes j (b ∷ u) → Begins u t → (length u < length h.text) ⊎ (length h.text ≤ length u) → Begins u (but_last h.text)
    within j u k front (inl l) = begins_but_last u h.text (begins_shorter u h.text t front h.stands (omega (arith, l))) l
    within j u k front (inr l) =
        let bound = h.longest j u k front in
        let same : u ≡ h.text = begins_same u h.text t front h.stands (omega (arith, l, bound)) in
        absurd (not_here nodes b i j h.text trie lacks h.spelled (subst (λ (x : List ℕ). Spells nodes j (b ∷ x)) same k))

-- ---- the next shorter of each node's text

pub root_alone : (nodes : List Node) (i : ℕ) → i ≡ 0 → IsDeepest nodes [] i
root_alone nodes i root = record { text = []; spelled = root; stands = ([], refl); longest = λ j u k front. omega (arith, ap length (begins_nothing u front)) }

pub fail_of_root : (nodes : List Node) (i : ℕ) (n : Node) (s : List ℕ) → IsTrie nodes → i ≢ 0 → slice_get nodes i ≡ Some n → n.parent ≡ 0 → Spells nodes i s → IsDeepest nodes (but_last s) 0
fail_of_root nodes i n s trie some there root h =
    let up = from_parent nodes i n s some there h in
    let none : up.0 ≡ [] = one_text nodes n.parent up.0 [] up.2 root in
    let one : s ≡ n.byte ∷ [] = up.1 ∙ ap (λ (t : List ℕ). n.byte ∷ t) none in
    subst (λ (t : List ℕ). IsDeepest nodes (but_last t) 0) (sym one) (root_alone nodes 0 refl)

but_last-byte : (b : ℕ) (t : List ℕ) → t ≢ [] → but_last (b ∷ t) ≡ b ∷ but_last t
but_last-byte b [] some = absurd (some refl)
but_last-byte b (x ∷ t) some = refl

pub fail_of_parent : (nodes : List Node) (fails : List ℕ) (i f r : ℕ) (n : Node) (s : List ℕ) → IsTrie nodes → AreFails nodes fails → i ≢ 0 → slice_get nodes i ≡ Some n → n.parent ≢ 0
    → slice_get fails n.parent ≡ Some f → ((t : List ℕ) → IsDeepest nodes t f → IsDeepest nodes (n.byte ∷ t) r) → Spells nodes i s → IsDeepest nodes (but_last s) r
fail_of_parent nodes fails i f r n s trie are some there inner at after h =
    let up = from_parent nodes i n s some there h in
    let more : up.0 ≢ [] = (λ e. inner (one_root up.0 e up.2)) in
    subst (λ (t : List ℕ). IsDeepest nodes t r) (sym (ap but_last up.1 ∙ but_last-byte n.byte up.0 more)) (after (but_last up.0) (are.longest n.parent f up.0 at up.2))
  where
    one_root : (t : List ℕ) → t ≡ [] → Spells nodes n.parent t → n.parent ≡ 0
    one_root t e k = subst (Spells nodes n.parent) e k

pub fail_earlier : (nodes : List Node) (i r : ℕ) → IsTrie nodes → IsLeveled nodes → i < length nodes → i ≢ 0 → ((s : List ℕ) → Spells nodes i s → IsDeepest nodes (but_last s) r) → r < i
fail_earlier nodes i r trie leveled within some fail = go (has_text nodes i trie within)
  where
    by : (s : List ℕ) → Spells nodes i s → IsDeepest nodes (but_last s) r → (r < i) ⊎ (i ≤ r) → r < i
    by s h d (inl l) = l
    by [] h d (inr l) = absurd (some h)
    by (b ∷ s) h d (inr l) =
        let long = leveled i r (b ∷ s) d.text h d.spelled l in
        absurd (omega (arith, long, length-begins d.text (but_last (b ∷ s)) d.stands, length-but_last b s))

    go : (s : List ℕ) × Spells nodes i s → r < i
    go (s, h) = by s h (fail s h) (cases_lt r i)

pub first_fails : (nodes : List Node) → IsTrie nodes → AreFails nodes (0 ∷ [])
first_fails nodes trie = record { within = trie.root; earlier = earlier; longest = longest }
  where
    earlier : (i f : ℕ) → slice_get (0 ∷ []) i ≡ Some f → f ≤ pred i
    earlier zero f at = let same : 0 ≡ f = cc in omega (arith, same)
    earlier (suc i) f at = cc

    longest : (i f : ℕ) (s : List ℕ) → slice_get (0 ∷ []) i ≡ Some f → Spells nodes i s → IsDeepest nodes (but_last s) f
    longest zero f [] at h = let same : 0 ≡ f = cc in root_alone nodes f (sym same)
    longest zero f (b ∷ s) at h = absurd (h.1.below refl)
    longest (suc i) f s at h = cc

pub more_fails : (nodes : List Node) (fails : List ℕ) (r : ℕ) → AreFails nodes fails → length fails < length nodes → r < length fails
    → ((s : List ℕ) → Spells nodes (length fails) s → IsDeepest nodes (but_last s) r) → AreFails nodes (fails ++ r ∷ [])
more_fails nodes fails r are less before fail = record {
  within = omega (arith, less, length-append fails (r ∷ []));
  earlier = λ i f at. earlier i f (got_push fails r i f at);
  longest = λ i f s at h. longest i f s (got_push fails r i f at) h;
}
  where
    earlier : (i f : ℕ) → (slice_get fails i ≡ Some f) ⊎ ((i ≡ length fails) × (r ≡ f)) → f ≤ pred i
    earlier i f (inl at) = are.earlier i f at
    earlier i f (inr (here, same)) = omega (arith, here, same, before)

    longest : (i f : ℕ) (s : List ℕ) → (slice_get fails i ≡ Some f) ⊎ ((i ≡ length fails) × (r ≡ f)) → Spells nodes i s → IsDeepest nodes (but_last s) f
    longest i f s (inl at) h = are.longest i f s at h
    longest i f s (inr (here, same)) h = subst (IsDeepest nodes (but_last s)) same (fail s (subst (λ (x : ℕ). Spells nodes x s) here h))

-- ---- from place to place

-- the states of the places from n on are told
pub record AreStatesFrom (nodes : List Node) (text states : List ℕ) (n : ℕ) : Type 0 where
  pub size : length states ≡ length text
  pub each : (i q : ℕ) → n ≤ i → slice_get states i ≡ Some q → IsDeepest nodes (drop i text) q

pub one_state : (nodes : List Node) (text states : List ℕ) (n q : ℕ) → AreStatesFrom nodes text states (suc n) → IsDeepest nodes (drop n text) q → AreStatesFrom nodes text (set states n q) n
one_state nodes text states n q h here = record {
  size = omega (arith, length-set states n q, h.size);
  each = λ i r l at. go i r l (got_set states n q i r at);
}
  where
    go : (i r : ℕ) → n ≤ i → ((i ≡ n) × (q ≡ r)) ⊎ ((i ≢ n) × (slice_get states i ≡ Some r)) → IsDeepest nodes (drop i text) r
    go i r l (inl (e, same)) = subst (IsDeepest nodes (drop i text)) same (subst (λ (x : ℕ). IsDeepest nodes (drop x text) q) (sym e) here)
    go i r l (inr (other, at)) = h.each i r (omega (arith, l, other)) at

pub no_states : (nodes : List Node) (text states : List ℕ) → length states ≡ length text → AreStatesFrom nodes text states (length text)
no_states nodes text states size = record { size = size; each = λ i q l at. absurd (omega (arith, l, size, slice_get_within states i q at)) }

pub all_states : (nodes : List Node) (text states : List ℕ) → AreStatesFrom nodes text states 0 → AreStates nodes text states
all_states nodes text states h = record { size = h.size; each = λ i q at. h.each i q (omega arith) at }

pub root_at_end : (nodes : List Node) (text : List ℕ) → IsDeepest nodes (drop (length text) text) 0
root_at_end nodes text = subst (λ (t : List ℕ). IsDeepest nodes t 0) (sym (drop_end text)) (root_alone nodes 0 refl)

-- the state of the place before
pub state_before : (nodes : List Node) (text states : List ℕ) (left n q : ℕ) → left ≡ suc n → left ≤ length text → AreStatesFrom nodes text states left
    → IsDeepest nodes (get_or text n 0 ∷ drop left text) q → (n ≤ length text) × AreStatesFrom nodes text (set states n q) n × IsDeepest nodes (drop n text) q
state_before nodes text states left n q e within told next =
    let whole : drop n text ≡ get_or text n 0 ∷ drop left text = drop_next text n 0 (omega (arith, e, within)) ∙ ap (λ (m : ℕ). get_or text n 0 ∷ drop m text) (sym e) in
    let here : IsDeepest nodes (drop n text) q = subst (λ (t : List ℕ). IsDeepest nodes t q) (sym whole) next in
    (omega (arith, e, within), one_state nodes text states n q (subst (AreStatesFrom nodes text states) e told) here, here)
