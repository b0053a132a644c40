-- Counts of the predecessors that are left, and the nodes whose count is none.
use Rattle.std.proofs.Common.{◌≡◌, ◌≢◌, ◌⊎◌, ◌↔◌, ℕ, suc, ◌+◌, ◌<◌, ◌≤◌, Bool, true, false, cond, eqb, List, [], ◌∷◌, ◌++◌, length, map, drop, get_or, set, replicate, refl, sym, ap, subst, ◌∙◌, inl, inr, arith}
use Rattle.std.specs.Prelude.{Contains, All, count_by}
use Rattle.std.proofs.lemmas.Bool.{cases_Bool, cases_eq, cases_lt, eq-eqb, ne_eqb, false_from_ne_true}
use Rattle.std.proofs.lemmas.List.{get_or_past, get_or_default, get_or-map, get_or-set_same, get_or-set_other, length-set, length-map, get_or-replicate, length-replicate, drop_all}
use Rattle.std.proofs.lemmas.List.Elements.{Contains-get_or, Contains-append_left, Contains-push_cases}
use Rattle.std.proofs.lemmas.List.Sums.{sum_by-cons, sum_by-drop_more}
use Rattle.dep_graph.specs.Lists.{IsRising, IsLeast, ListsAll, PutsIn}
use Rattle.dep_graph.specs.Edges.{Links, HasEdge, JoinsNodes}
use Rattle.dep_graph.specs.Marks.{IsMarked, IsUnheld, IsStuck, Leaves}
use Rattle.dep_graph.specs.Orders.{TakesLeast, IsReady}
use Rattle.dep_graph.specs.Counts.{occurrences, marked_count, CountsLeft, HasNone, ListsReady, CountsDown}
use Rattle.dep_graph.proofs.ListLemmas.{Contains-cons_cases, Contains-tail, Contains-head}
use Rattle.dep_graph.proofs.MarkLemmas.{IsMarked-within, IsMarked-clear, unmarked}
use Rattle.dep_graph.proofs.OrderLemmas.{takes_all}

count_yes : (p : ℕ → Bool) (y : ℕ) (ys : List ℕ) → p y ≡ true → count_by p (y ∷ ys) ≡ count_by p ys + 1
count_yes p y ys e =
    let one : ◌≡◌ {A = ℕ} (cond (p y) 1 0) 1 = ap (λ (b : Bool). cond b 1 0) e in
    omega (arith, one, sum_by-cons (λ (x : ℕ). cond (p x) 1 0) y ys)

count_no : (p : ℕ → Bool) (y : ℕ) (ys : List ℕ) → p y ≡ false → count_by p (y ∷ ys) ≡ count_by p ys
count_no p y ys e =
    let none : ◌≡◌ {A = ℕ} (cond (p y) 1 0) 0 = ap (λ (b : Bool). cond b 1 0) e in
    omega (arith, none, sum_by-cons (λ (x : ℕ). cond (p x) 1 0) y ys)

Contains-nil : (x : ℕ) → Contains [] x → ⊥
Contains-nil x (k, lt, e) = absurd (omega arith)

has_or_not : (xs : List ℕ) (a : ℕ) → Contains xs a ⊎ (Contains xs a → ⊥)
has_or_not [] a = inr (Contains-nil a)
has_or_not (y ∷ xs) a = elim (cases_eq a y) [
  | inl e ↦ inl (Contains-head xs y a e)
  | inr ne ↦ elim (has_or_not xs a) [
    | inl k ↦ inl (Contains-tail xs y a k)
    | inr h ↦ inr (λ c. elim (Contains-cons_cases xs y a c) [ inl e ↦ ne e | inr k ↦ h k ])
  ]
]

-- marks that are counted

pub none_counted : (marks : List Bool) (nodes : List ℕ) → ((x : ℕ) → Contains nodes x → IsMarked marks x → ⊥)
    → marked_count marks nodes ≡ 0
none_counted marks [] h = refl
none_counted marks (y ∷ nodes) h =
    count_no (λ x. get_or marks x false) y nodes (false_from_ne_true _ (h y (Contains-head nodes y y refl)))
    ∙ none_counted marks nodes (λ x k. h x (Contains-tail nodes y x k))

pub all_counted : (marks : List Bool) (nodes : List ℕ) → ((x : ℕ) → Contains nodes x → IsMarked marks x)
    → marked_count marks nodes ≡ length nodes
all_counted marks [] h = refl
all_counted marks (y ∷ nodes) h =
    omega (
      arith,
      count_yes (λ x. get_or marks x false) y nodes (h y (Contains-head nodes y y refl)),
      all_counted marks nodes (λ x k. h x (Contains-tail nodes y x k)),
    )

-- where the count isn't none, one node has its mark
pub counted_one : (marks : List Bool) (nodes : List ℕ) → (marked_count marks nodes ≡ 0 → ⊥)
    → (x : ℕ) × Contains nodes x × IsMarked marks x
counted_one marks [] ne = absurd (ne refl)
counted_one marks (y ∷ nodes) ne = elim (cases_Bool (get_or marks y false)) [
  | inl m ↦ (y, Contains-head nodes y y refl, m)
  | inr u ↦ (let rest = counted_one marks nodes (λ e. ne (count_no (λ x. get_or marks x false) y nodes u ∙ e)) in
      (rest.0, Contains-tail nodes y rest.0 rest.1, rest.2))
]

pub unmarked_from_none : (marks : List Bool) (nodes : List ℕ) → marked_count marks nodes ≡ 0
    → (x : ℕ) → Contains nodes x → IsMarked marks x → ⊥
unmarked_from_none marks [] e x c m = Contains-nil x c
unmarked_from_none marks (y ∷ nodes) e x c m = elim (Contains-cons_cases nodes y x c) [
  | inl same ↦ here (rw same at m)
  | inr k ↦ elim (cases_Bool (get_or marks y false)) [
    | inl n ↦ here n
    | inr u ↦ unmarked_from_none marks nodes (sym (count_no (λ z. get_or marks z false) y nodes u) ∙ e) x k m
  ]
]
  where
    here : IsMarked marks y → ⊥
    here n = let one = count_yes (λ z. get_or marks z false) y nodes n in absurd (omega (arith, one, e))

-- how often a number is listed

occurrences-none : (x : ℕ) (nodes : List ℕ) → (Contains nodes x → ⊥) → occurrences x nodes ≡ 0
occurrences-none x [] h = refl
occurrences-none x (y ∷ nodes) h =
    count_no (λ z. eqb z x) y nodes (ne_eqb y x (λ e. h (Contains-head nodes y x (sym e))))
    ∙ occurrences-none x nodes (λ k. h (Contains-tail nodes y x k))

tail_rises : (y : ℕ) (nodes : List ℕ) → IsRising (y ∷ nodes) → IsRising nodes
tail_rises y nodes up i j d lt inside = up (suc i) (suc j) d (omega arith) (omega arith)

pub head_below : (y : ℕ) (nodes : List ℕ) → IsRising (y ∷ nodes) → (x : ℕ) → Contains nodes x → y < x
head_below y nodes up x (k, lt, e) =
    let below : y < get_or nodes k x = up 0 (suc k) x (omega arith) (omega arith) in rw e at below

occurrences-once : (x : ℕ) (nodes : List ℕ) → IsRising nodes → Contains nodes x → occurrences x nodes ≡ 1
occurrences-once x [] up c = absurd (Contains-nil x c)
occurrences-once x (y ∷ nodes) up c = elim (cases_eq y x) [
  | inl e ↦ (let rest = occurrences-none x nodes (λ k. let below = head_below y nodes up x k in absurd (omega (arith, below, e))) in
      omega (arith, count_yes (λ z. eqb z x) y nodes (eq-eqb y x e), rest))
  | inr ne ↦ elim (Contains-cons_cases nodes y x c) [
    | inl e ↦ absurd (ne (sym e))
    | inr k ↦ count_no (λ z. eqb z x) y nodes (ne_eqb y x ne) ∙ occurrences-once x nodes (tail_rises y nodes up) k
  ]
]

occurrences-same : (a b : ℕ) (xs ys : List ℕ) → IsRising xs → IsRising ys → (Contains xs a ↔ Contains ys b)
    → occurrences a xs ≡ occurrences b ys
occurrences-same a b xs ys up up' same = elim (has_or_not xs a) [
  | inl k ↦ occurrences-once a xs up k ∙ sym (occurrences-once b ys up' (same.0 k))
  | inr h ↦ occurrences-none a xs h ∙ sym (occurrences-none b ys (λ k. h (same.1 k)))
]

-- a node that loses its mark is counted no more
count-clear : (marks : List Bool) (x : ℕ) (nodes : List ℕ) → IsMarked marks x
    → marked_count (set marks x false) nodes + occurrences x nodes ≡ marked_count marks nodes
count-clear marks x [] m = refl
count-clear marks x (y ∷ nodes) m = elim (cases_eq y x) [
  | inl e ↦ (let one = count_yes (λ z. eqb z x) y nodes (eq-eqb y x e) in
      let had = count_yes (λ z. get_or marks z false) y nodes (rw e m) in
      let lost = count_no (λ z. get_or (set marks x false) z false) y nodes (rw e (get_or-set_same marks x false false (IsMarked-within marks x m))) in
      omega (arith, one, had, lost, count-clear marks x nodes m))
  | inr ne ↦ (let zero = count_no (λ z. eqb z x) y nodes (ne_eqb y x ne) in
      let kept = get_or-set_other marks x y false false ne in
      elim (cases_Bool (get_or marks y false)) [
        | inl n ↦ (let had = count_yes (λ z. get_or marks z false) y nodes n in
            let has = count_yes (λ z. get_or (set marks x false) z false) y nodes (kept ∙ n) in
            omega (arith, zero, had, has, count-clear marks x nodes m))
        | inr n ↦ (let had = count_no (λ z. get_or marks z false) y nodes n in
            let has = count_no (λ z. get_or (set marks x false) z false) y nodes (kept ∙ n) in
            omega (arith, zero, had, has, count-clear marks x nodes m))
      ])
]

-- at first

pub CountsLeft-all : (graph : Links) → JoinsNodes graph → CountsLeft graph (replicate (length graph) true) (map length graph)
CountsLeft-all graph joins = record {
  same = length-map graph length;
  each = λ x. by x (cases_lt x (length graph));
}
  where
    by : (x : ℕ) → (x < length graph) ⊎ (length graph ≤ x)
        → get_or (map length graph) x 0 ≡ marked_count (replicate (length graph) true) (get_or graph x [])
    by x (inl lt) = get_or-map length graph x [] 0 lt
        ∙ sym (all_counted (replicate (length graph) true) (get_or graph x []) (λ p h. get_or-replicate (length graph) p true false (joins p x h).0))
    by x (inr le) = get_or_past (map length graph) x 0 (rw (length-map graph length) le)
        ∙ sym (ap (λ (l : List ℕ). marked_count (replicate (length graph) true) l) (get_or_past graph x [] le))

pub ListsReady-first : (counts ready : List ℕ) (n : ℕ) → length counts ≡ n → ListsAll (HasNone counts) ready
    → ListsReady (replicate n true) counts ready
ListsReady-first counts ready n same lists x = (there, back)
  where
    there : Contains ready x → IsMarked (replicate n true) x × (get_or counts x 0 ≡ 0)
    there c = let h = (lists.each x).0 c in (get_or-replicate n x true false (rw same at h.0), h.1)

    back : IsMarked (replicate n true) x × (get_or counts x 0 ≡ 0) → Contains ready x
    back (m, e) = (lists.each x).1 (rw same (rw length-replicate at (IsMarked-within (replicate n true) x m)), e)

-- the nodes below some node whose count is none
abbrev pub ListsNone : List ℕ → ℕ → List ℕ → Type 0
ListsNone counts k = ListsAll (λ x. (x < k) × HasNone counts x)

pub ListsNone-start : (counts : List ℕ) → ListsNone counts 0 []
ListsNone-start counts = record {
  rising = λ i j d lt inside. absurd (omega (arith, inside));
  each = λ x. ((λ c. absurd (Contains-nil x c)), (λ h. absurd (omega (arith, h.0))));
}

pub ListsNone-more : (counts ready ready' : List ℕ) (k v : ℕ) → ListsNone counts k ready → k < length counts
    → get_or counts k 0 ≡ v → (v ≡ 0 → PutsIn ready k ready') → (0 < v → ready' ≡ ready)
    → ListsNone counts (k + 1) ready'
ListsNone-more counts ready ready' k v old lt is none kept = elim (cases_eq v 0) [
  | inl e ↦ record {
    rising = (none e).rising;
    each = λ x. (
      (λ c. elim (((none e).each x).0 c) [
        | inl h ↦ (let o = (old.each x).0 h in (omega (arith, o.0), o.1))
        | inr same ↦ (omega (arith, same), (rw same lt, rw same (is ∙ e)))
      ]),
      (λ h. ((none e).each x).1 (by_place x h (cases_eq x k))),
    );
  }
  | inr ne ↦ rw (kept (omega (arith, ne))) (record {
    rising = old.rising;
    each = λ x. (
      (λ c. let o = (old.each x).0 c in (omega (arith, o.0), o.1)),
      (λ h. elim (cases_eq x k) [
        | inl same ↦ absurd (ne (sym is ∙ (rw same at h.1.1)))
        | inr other ↦ (old.each x).1 (omega (arith, h.0, other), h.1)
      ]),
    );
  })
]
  where
    by_place : (x : ℕ) → (x < k + 1) × HasNone counts x → (x ≡ k) ⊎ (x ≡ k → ⊥) → Contains ready x ⊎ (x ≡ k)
    by_place x h (inl same) = inr same
    by_place x h (inr other) = inl ((old.each x).1 (omega (arith, h.0, other), h.1))

pub ListsAll-none : (counts ready : List ℕ) (k : ℕ) → ListsNone counts k ready → length counts ≤ k
    → ListsAll (HasNone counts) ready
ListsAll-none counts ready k old le = record {
  rising = old.rising;
  each = λ x. ((λ c. ((old.each x).0 c).1), (λ h. (old.each x).1 (omega (arith, h.0, le), h)));
}

-- a node that is counted down once

pub ListsReady-put : (left : List Bool) (counts ready ready' : List ℕ) (s v : ℕ) → ListsReady left counts ready
    → s < length counts → IsMarked left s → v ≡ 0 → PutsIn ready s ready' → ListsReady left (set counts s v) ready'
ListsReady-put left counts ready ready' s v old lt m none puts x = elim (cases_eq x s) [
  | inl e ↦ (
    (λ c. (rw e m, rw e (get_or-set_same counts s v 0 lt ∙ none))),
    (λ h. (puts.each x).1 (inr e)),
  )
  | inr ne ↦ rw (get_or-set_other counts s x v 0 ne) (
    (λ c. elim ((puts.each x).0 c) [ inl k ↦ (old x).0 k | inr e ↦ absurd (ne e) ]),
    (λ h. (puts.each x).1 (inl ((old x).1 h))),
  )
]

pub ListsReady-skip : (left : List Bool) (counts ready : List ℕ) (s v : ℕ) → ListsReady left counts ready
    → s < length counts → 0 < get_or counts s 0 → (v ≡ 0 → ⊥) → ListsReady left (set counts s v) ready
ListsReady-skip left counts ready s v old lt some ne x = elim (cases_eq x s) [
  | inl e ↦ (
    (λ c. let k = (old x).0 c in absurd (omega (arith, some, rw e at k.1))),
    (λ h. absurd (ne (sym (get_or-set_same counts s v 0 lt) ∙ (rw e at h.1)))),
  )
  | inr other ↦ rw (get_or-set_other counts s x v 0 other) ((λ c. (old x).0 c), (λ h. (old x).1 h))
]

-- what is listed then, whatever the count
pub ListsReady-one : (left : List Bool) (counts ready ready' : List ℕ) (s v : ℕ) → ListsReady left counts ready
    → s < length counts → IsMarked left s → 0 < get_or counts s 0 → (v ≡ 0 → PutsIn ready s ready')
    → (0 < v → ready' ≡ ready) → ListsReady left (set counts s v) ready'
ListsReady-one left counts ready ready' s v old lt m some none kept = elim (cases_eq v 0) [
  | inl e ↦ ListsReady-put left counts ready ready' s v old lt m e (none e)
  | inr ne ↦ rw (kept (omega (arith, ne))) (ListsReady-skip left counts ready s v old lt some ne)
]

pub CountsDown-one : (counts : List ℕ) (s v : ℕ) → s < length counts → v + 1 ≡ get_or counts s 0
    → CountsDown (s ∷ []) counts (set counts s v)
CountsDown-one counts s v lt less = record {
  same = length-set counts s v;
  each = each;
}
  where
    each : (x : ℕ) → get_or (set counts s v) x 0 + occurrences x (s ∷ []) ≡ get_or counts x 0
    each x = elim (cases_eq s x) [
      | inl e ↦ (let one = count_yes (λ z. eqb z x) s [] (eq-eqb s x e) in
          let now : get_or (set counts s v) x 0 ≡ v = rw (← e) (get_or-set_same counts s v 0 lt) in
          let was : get_or counts x 0 ≡ v + 1 = rw (← e) (sym less) in
          omega (arith, one, now, was))
      | inr ne ↦ (let none = count_no (λ z. eqb z x) s [] (ne_eqb s x ne) in
          let kept = get_or-set_other counts s x v 0 (λ e. ne (sym e)) in
          omega (arith, none, kept))
    ]

-- counts down a list

pub record IsCounting (nodes : List ℕ) (i : ℕ) (old new : List ℕ) : Type 0 where
  pub same : length new ≡ length old
  pub each : (x : ℕ) → get_or new x 0 + occurrences x nodes ≡ get_or old x 0 + occurrences x (drop i nodes)

pub IsCounting-start : (nodes old : List ℕ) → IsCounting nodes 0 old old
IsCounting-start nodes old = record {
  same = refl;
  each = λ x. refl;
}

pub IsCounting-some : (nodes : List ℕ) (i : ℕ) (old new : List ℕ) → IsCounting nodes i old new → i < length nodes
    → ((x : ℕ) → occurrences x nodes ≤ get_or old x 0) → 0 < get_or new (get_or nodes i 0) 0
IsCounting-some nodes i old new h lt enough =
    let s = get_or nodes i 0 in
    let one : ◌≡◌ {A = ℕ} (cond (eqb s s) 1 0) 1 = ap (λ (b : Bool). cond b 1 0) (eq-eqb s s refl) in
    omega (arith, h.each s, enough s, one, sum_by-drop_more (λ (z : ℕ). cond (eqb z s) 1 0) nodes i 0 lt)

pub IsCounting-more : (nodes : List ℕ) (i : ℕ) (old new newer : List ℕ) → IsCounting nodes i old new → i < length nodes
    → CountsDown (get_or nodes i 0 ∷ []) new newer → IsCounting nodes (i + 1) old newer
IsCounting-more nodes i old new newer h lt down = record {
  same = down.same ∙ h.same;
  each = λ x. omega (
    arith,
    h.each x,
    down.each x,
    sum_by-drop_more (λ (z : ℕ). cond (eqb z x) 1 0) nodes i 0 lt,
    sum_by-cons (λ (z : ℕ). cond (eqb z x) 1 0) (get_or nodes i 0) [],
  );
}

pub CountsDown-all : (nodes : List ℕ) (i : ℕ) (old new : List ℕ) → IsCounting nodes i old new → length nodes ≤ i
    → CountsDown nodes old new
CountsDown-all nodes i old new h le = record {
  same = h.same;
  each = λ x. (let none : occurrences x (drop i nodes) ≡ 0 = ap (λ (l : List ℕ). occurrences x l) (drop_all i nodes le) in
      omega (arith, h.each x, none));
}

-- the least node that is ready is taken away

same_occurrences : (graph : Links) (node : ℕ) (succs : List ℕ) → ((x : ℕ) → IsRising (get_or graph x []))
    → ListsAll (λ s. HasEdge graph node s) succs → (x : ℕ) → occurrences x succs ≡ occurrences node (get_or graph x [])
same_occurrences graph node succs up lists x = occurrences-same x node succs (get_or graph x []) lists.rising (up x) (lists.each x)

pub CountsLeft-step : (graph : Links) (left : List Bool) (counts new : List ℕ) (node : ℕ) (succs : List ℕ)
    → ((x : ℕ) → IsRising (get_or graph x [])) → CountsLeft graph left counts → IsMarked left node
    → ListsAll (λ s. HasEdge graph node s) succs → CountsDown succs counts new → CountsLeft graph (set left node false) new
CountsLeft-step graph left counts new node succs up old m lists down = record {
  same = down.same ∙ old.same;
  each = λ x. omega (
    arith,
    down.each x,
    old.each x,
    count-clear left node (get_or graph x []) m,
    same_occurrences graph node succs up lists x,
  );
}

pub counted_enough : (graph : Links) (left : List Bool) (counts : List ℕ) (node : ℕ) (succs : List ℕ)
    → ((x : ℕ) → IsRising (get_or graph x [])) → CountsLeft graph left counts → IsMarked left node
    → ListsAll (λ s. HasEdge graph node s) succs → (x : ℕ) → occurrences x succs ≤ get_or counts x 0
counted_enough graph left counts node succs up old m lists x =
    omega (arith, old.each x, count-clear left node (get_or graph x []) m, same_occurrences graph node succs up lists x)

-- a node that is listed has its predecessors listed
preds_listed : (E : ℕ → ℕ → Type 0) (n : ℕ) (order : List ℕ) → TakesLeast E n order
    → (x : ℕ) → Contains order x → (pred : ℕ) → E pred x → Contains order pred
preds_listed E n order taken = takes_all E n order P taken (λ x c. absurd (Contains-nil x c)) step
  where
    P : List ℕ → Type 0
    P l = (x : ℕ) → Contains l x → (pred : ℕ) → E pred x → Contains l pred

    step : (front : List ℕ) (y : ℕ) → IsReady E n front y
        → ((x : ℕ) → Contains front x → (pred : ℕ) → E pred x → Contains front pred)
        → (x : ℕ) → Contains (front ++ y ∷ []) x → (pred : ℕ) → E pred x → Contains (front ++ y ∷ []) pred
    step front y ready h x c pred edge = elim (Contains-push_cases front y x c) [
      | inl k ↦ Contains-append_left front (y ∷ []) pred (h x k pred edge)
      | inr e ↦ Contains-append_left front (y ∷ []) pred (ready.ready pred (rw (← e) at edge))
    ]

-- the successors of a node that is taken away are left
pub succs_marked : (graph : Links) (left : List Bool) (listed : List ℕ) (node : ℕ) (succs : List ℕ) → JoinsNodes graph
    → length left ≡ length graph → TakesLeast (HasEdge graph) (length graph) listed → Leaves listed left
    → IsUnheld (HasEdge graph) left node → ListsAll (λ s. HasEdge graph node s) succs
    → All (λ x. IsMarked (set left node false) x) succs
succs_marked graph left listed node succs joins same taken leaves unheld lists k d lt =
    marked (get_or succs k d) ((lists.each (get_or succs k d)).0 (Contains-get_or succs k d lt))
  where
    other : (s : ℕ) → HasEdge graph node s → s ≡ node → ⊥
    other s edge e = unheld.unheld node (rw e at edge) unheld.marked

    marked : (s : ℕ) → HasEdge graph node s → IsMarked (set left node false) s
    marked s edge = elim (cases_Bool (get_or left s false)) [
      | inl m ↦ get_or-set_other left node s false false (other s edge) ∙ m
      | inr u ↦ absurd (leaves.marked node unheld.marked (preds_listed (HasEdge graph) (length graph) listed taken s
          (leaves.rest s (rw same (joins node s edge).1) (unmarked left s u)) node edge))
    ]

least_unheld : (graph : Links) (left : List Bool) (counts : List ℕ) (node : ℕ) (rest : List ℕ)
    → CountsLeft graph left counts → ListsReady left counts (node ∷ rest) → IsRising (node ∷ rest)
    → IsLeast (IsUnheld (HasEdge graph) left) node
least_unheld graph left counts node rest counted ready up = record {
  is = record {
    marked = here.0;
    unheld = unmarked_from_none left (get_or graph node []) (sym (counted.each node) ∙ here.1);
  };
  least = λ other h. le other (Contains-cons_cases rest node other ((ready other).1 (
    h.marked,
    counted.each other ∙ none_counted left (get_or graph other []) h.unheld,
  )));
}
  where
    here : IsMarked left node × (get_or counts node 0 ≡ 0)
    here = (ready node).0 (Contains-head rest node node refl)

    le : (other : ℕ) → (other ≡ node) ⊎ Contains rest other → node ≤ other
    le other (inl e) = omega (arith, e)
    le other (inr k) = let below = head_below node rest up other k in omega (arith, below)

-- the same of a list of which it is the first
pub unheld_first : (graph : Links) (left : List Bool) (counts ready : List ℕ) (node : ℕ) (rest : List ℕ)
    → CountsLeft graph left counts → ListsReady left counts ready → ready ≡ node ∷ rest → IsRising ready
    → IsLeast (IsUnheld (HasEdge graph) left) node
unheld_first graph left counts ready node rest counted lists e up =
    least_unheld graph left counts node rest counted (rw e at lists) (rw e at up)

ready_rest : (left : List Bool) (counts : List ℕ) (node : ℕ) (rest : List ℕ)
    → ListsReady left counts (node ∷ rest) → IsRising (node ∷ rest) → ListsReady (set left node false) counts rest
ready_rest left counts node rest ready up x = (there, back)
  where
    there : Contains rest x → IsMarked (set left node false) x × (get_or counts x 0 ≡ 0)
    there k =
        let below = head_below node rest up x k in
        let h = (ready x).0 (Contains-tail rest node x k) in
        (get_or-set_other left node x false false (λ e. absurd (omega (arith, below, e))) ∙ h.0, h.1)

    back : IsMarked (set left node false) x × (get_or counts x 0 ≡ 0) → Contains rest x
    back (m, e) =
        let clear = IsMarked-clear left node x m in
        elim (Contains-cons_cases rest node x ((ready x).1 (clear.1, e))) [ inl same ↦ absurd (clear.0 same) | inr k ↦ k ]

pub rest_ready : (left : List Bool) (counts ready : List ℕ) (node : ℕ) (rest : List ℕ)
    → ListsReady left counts ready → ready ≡ node ∷ rest → IsRising ready → ListsReady (set left node false) counts rest
rest_ready left counts ready node rest lists e up = ready_rest left counts node rest (rw e at lists) (rw e at up)

pub stuck_at_end : (graph : Links) (left : List Bool) (counts ready : List ℕ) → CountsLeft graph left counts
    → ListsReady left counts ready → ready ≡ [] → IsStuck (HasEdge graph) left
stuck_at_end graph left counts ready counted lists none node m =
    counted_one left (get_or graph node []) (λ e. Contains-nil node (rw none at ((lists node).1 (m, counted.each node ∙ e))))
