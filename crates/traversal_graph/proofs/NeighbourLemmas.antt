-- The predecessors of all nodes, one edge more.
use Rattle.std.proofs.Common.{◌≡◌, ◌⊎◌, ℕ, ◌+◌, ◌<◌, ◌≤◌, List, [], length, get_or, set, take, replicate, refl, sym, ap, ◌∙◌, inl, inr, arith}
use Rattle.std.specs.Prelude.{Contains}
use Rattle.std.proofs.lemmas.Bool.{cases_eq, cases_lt}
use Rattle.std.proofs.lemmas.List.{get_or-set_same, get_or-set_other, get_or_past, get_or_read, length-set, get_or-replicate, length-replicate}
use Rattle.dep_graph.specs.Lists.{IsRising, ListsAll, PutsIn}
use Rattle.traversal_graph.specs.Neighbours.{AreRising, ListsPreds, PutsPred}
use Rattle.traversal_graph.proofs.ListLemmas.{ListsAll-more, ListsAll-skip}

-- a node's list with one node more
pub PutsPred-set : (old : List (List ℕ)) (before after : ℕ) (item new : List ℕ) → after < length old
    → item ≡ get_or old after item → PutsIn item before new → PutsPred before after old (set old after new)
PutsPred-set old before after item new lt read puts = record {
  size = length-set old after new;
  puts = λ _. rw (get_or-set_same old after new [] lt) (rw (get_or_read old after item lt read []) at puts);
  same = λ node ne. get_or-set_other old after node new [] ne;
}

-- a number past the nodes has no list
pub PutsPred-past : (all : List (List ℕ)) (before after : ℕ) → length all ≤ after → PutsPred before after all all
PutsPred-past all before after le = record {
  size = refl;
  puts = λ lt. absurd (omega arith);
  same = λ node ne. refl;
}

rising_none : IsRising []
rising_none i j d lt inside = absurd (omega arith)

-- no list has a node yet
none : (n node : ℕ) → get_or {A = List ℕ} (replicate n []) node [] ≡ []
none n node = elim (cases_lt node n) [
  | inl below ↦ get_or-replicate n node [] [] below
  | inr above ↦ get_or_past (replicate n []) node [] (rw (length-replicate {A = List ℕ} n []) above)
]

pub AreRising-replicate : (n : ℕ) → AreRising (replicate n [])
AreRising-replicate n node = rw (none n node) rising_none

pub AreRising-puts : (before after : ℕ) (old new : List (List ℕ)) → AreRising old → PutsPred before after old new → AreRising new
AreRising-puts before after old new up puts node = elim (cases_eq node after) [
  | inl e ↦ here e (cases_lt after (length old))
  | inr ne ↦ rw (puts.same node ne) (up node)
]
  where
    here : node ≡ after → (after < length old) ⊎ (length old ≤ after) → IsRising (get_or new node [])
    here e (inl lt) = rw e (puts.puts lt).rising
    here e (inr le) = rw (e, get_or_past new after [] (rw puts.size le)) rising_none

pub ListsPreds-none : (n : ℕ) → ListsPreds [] n (replicate n [])
ListsPreds-none n = record {
  size = length-replicate {A = List ℕ} n [];
  each = λ node lt. rw (none n node) (record {
    rising = rising_none;
    each = λ x. ((λ c. absurd (nowhere x c)), (λ c. absurd (unjoined (x, node) c)));
  });
}
  where
    nowhere : (x : ℕ) → Contains {X = ℕ} [] x → ⊥
    nowhere x (k, lt, e) = absurd (omega arith)

    unjoined : (p : ℕ × ℕ) → Contains {X = ℕ × ℕ} [] p → ⊥
    unjoined p (k, lt, e) = absurd (omega arith)

-- an edge more: its before goes into the list of its after
pub ListsPreds-more : (edges : List (ℕ × ℕ)) (i n : ℕ) (old new : List (List ℕ)) → i < length edges
    → ListsPreds (take i edges) n old → PutsPred (get_or edges i (0, 0)).0 (get_or edges i (0, 0)).1 old new
    → ListsPreds (take (i + 1) edges) n new
ListsPreds-more edges i n old new lt h puts = record {
  size = puts.size ∙ h.size;
  each = each;
}
  where
    edge : ℕ × ℕ
    edge = get_or edges i (0, 0)

    each : (node : ℕ) → node < n → ListsAll (λ x. Contains (take (i + 1) edges) (x, node)) (get_or new node [])
    each node below = elim (cases_eq node edge.1) [
      | inl e ↦ ListsAll-more edges i (λ (x : ℕ). (x, node)) edge.0 (get_or old node []) (get_or new node []) lt
          (λ y z same. ap (λ (p : ℕ × ℕ). p.0) same) (ap (λ (m : ℕ). (edge.0, m)) (sym e)) (h.each node below)
          (rw e (puts.puts (rw (← e, h.size) below)))
      | inr ne ↦ rw (puts.same node ne)
          (ListsAll-skip edges i (λ (x : ℕ). (x, node)) (get_or old node []) lt (λ y same. ne (sym (ap (λ (p : ℕ × ℕ). p.1) same))) (h.each node below))
    ]
