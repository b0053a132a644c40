-- The two lists of each node when an edge is added.
use Rattle.std.proofs.Common.{◌≡◌, ◌≢◌, ◌⊎◌, ◌↔◌, ℕ, zero, suc, ◌<◌, ◌≤◌, ◌^◌, List, [], ◌∷◌, length, get_or, set, replicate, refl, sym, ap, ◌∙◌, inl, inr, arith}
use Rattle.std.specs.Prelude.{Contains}
use Rattle.std.specs.List.{insert, remove}
use Rattle.std.proofs.lemmas.Bool.{cases_eq, cases_lt}
use Rattle.std.proofs.lemmas.List.{get_or-set_same, get_or-set_other, get_or_past, get_or_default, get_or_read, length-set, get_or-replicate, length-replicate, set-set, set-get_or}
use Rattle.dep_graph.specs.Lists.{IsRising, PutsIn, ListsAll}
use Rattle.dep_graph.specs.Edges.{Links, HasEdge, JoinsNodes, IsBare, AddsEdge, IsTwofold}

-- the list at a node after one node's list was changed
HasEdge-set : (lists : Links) (i number : ℕ) (new : List ℕ) → i < length lists
    → PutsIn (get_or lists i []) number new
    → (x j : ℕ) → HasEdge (set lists i new) x j ↔ (HasEdge lists x j ⊎ ((x ≡ number) × (j ≡ i)))
HasEdge-set lists i number new lt puts x j = elim (cases_eq j i) [ inl e ↦ same e | inr ne ↦ other ne ]
  where
    same : j ≡ i → HasEdge (set lists i new) x j ↔ (HasEdge lists x j ⊎ ((x ≡ number) × (j ≡ i)))
    same e = rw e (rw (get_or-set_same lists i new [] lt) (to, from))
      where
        to : Contains new x → Contains (get_or lists i []) x ⊎ ((x ≡ number) × (i ≡ i))
        to h = elim ((puts.each x).0 h) [ inl k ↦ inl k | inr k ↦ inr (k, refl) ]

        from : Contains (get_or lists i []) x ⊎ ((x ≡ number) × (i ≡ i)) → Contains new x
        from (inl k) = (puts.each x).1 (inl k)
        from (inr (k, _)) = (puts.each x).1 (inr k)

    other : j ≢ i → HasEdge (set lists i new) x j ↔ (HasEdge lists x j ⊎ ((x ≡ number) × (j ≡ i)))
    other ne = rw (get_or-set_other lists i j new [] ne) ((λ h. inl h), from)
      where
        from : Contains (get_or lists j []) x ⊎ ((x ≡ number) × (j ≡ i)) → Contains (get_or lists j []) x
        from (inl k) = k
        from (inr (_, e)) = absurd (ne e)

IsRising-set : (lists : Links) (i : ℕ) (new : List ℕ) → i < length lists → IsRising new
    → ((node : ℕ) → IsRising (get_or lists node [])) → (node : ℕ) → IsRising (get_or (set lists i new) node [])
IsRising-set lists i new lt up each node = elim (cases_eq node i) [
  | inl e ↦ rw e (rw (get_or-set_same lists i new [] lt) up)
  | inr ne ↦ rw (get_or-set_other lists i node new [] ne) (each node)
]

pub AddsEdge-set : (preds : Links) (before after : ℕ) (new : List ℕ) → after < length preds
    → PutsIn (get_or preds after []) before new → AddsEdge before after preds (set preds after new)
AddsEdge-set preds before after new lt puts = record {
  same = length-set preds after new;
  edges = λ x y. HasEdge-set preds after before new lt puts x y;
}

pub IsTwofold-set : (preds succs : Links) (before after : ℕ) (ps ss : List ℕ) → IsTwofold preds succs
    → before < length preds → after < length preds
    → PutsIn (get_or preds after []) before ps → PutsIn (get_or succs before []) after ss
    → IsTwofold (set preds after ps) (set succs before ss)
IsTwofold-set preds succs before after ps ss old b a in_preds in_succs = record {
  same = length-set succs before ss ∙ old.same ∙ sym (length-set preds after ps);
  few = rw (length-set preds after ps) old.few;
  rising_preds = IsRising-set preds after ps a in_preds.rising old.rising_preds;
  rising_succs = IsRising-set succs before ss b' in_succs.rising old.rising_succs;
  joins = joins;
  both = λ x y. (there x y, back x y);
}
  where
    b' : before < length succs
    b' = rw old.same b

    joins : JoinsNodes (set preds after ps)
    joins x y h = rw (length-set preds after ps) (within ((HasEdge-set preds after before ps a in_preds x y).0 h))
      where
        within : HasEdge preds x y ⊎ ((x ≡ before) × (y ≡ after)) → (x < length preds) × (y < length preds)
        within (inl k) = old.joins x y k
        within (inr (e, f)) = (rw e b, rw f a)

    there : (x y : ℕ) → Contains (get_or (set succs before ss) x []) y → HasEdge (set preds after ps) x y
    there x y h = (HasEdge-set preds after before ps a in_preds x y).1 (turn ((HasEdge-set succs before after ss b' in_succs y x).0 h))
      where
        turn : HasEdge succs y x ⊎ ((y ≡ after) × (x ≡ before)) → HasEdge preds x y ⊎ ((x ≡ before) × (y ≡ after))
        turn (inl k) = inl ((old.both x y).0 k)
        turn (inr (e, f)) = inr (f, e)

    back : (x y : ℕ) → HasEdge (set preds after ps) x y → Contains (get_or (set succs before ss) x []) y
    back x y h = (HasEdge-set succs before after ss b' in_succs y x).1 (turn ((HasEdge-set preds after before ps a in_preds x y).0 h))
      where
        turn : HasEdge preds x y ⊎ ((x ≡ before) × (y ≡ after)) → HasEdge succs y x ⊎ ((y ≡ after) × (x ≡ before))
        turn (inl k) = inl ((old.both x y).1 k)
        turn (inr (e, f)) = inr (f, e)

-- an edge that is there
pub AddsEdge-there : (graph : Links) (before after : ℕ) → HasEdge graph before after → AddsEdge before after graph graph
AddsEdge-there graph before after edge = record {
  same = refl;
  edges = λ x y. ((λ h. inl h), there x y);
}
  where
    there : (x y : ℕ) → HasEdge graph x y ⊎ ((x ≡ before) × (y ≡ after)) → HasEdge graph x y
    there x y (inl h) = h
    there x y (inr (e, f)) = rw (e, f) edge

-- what was put in at a place and is taken out there again
remove-insert : (xs : List ℕ) (i y : ℕ) → i ≤ length xs → remove (insert xs i y) i ≡ xs
remove-insert xs zero y le = refl
remove-insert [] (suc i) y le = absurd (omega arith)
remove-insert (x ∷ xs) (suc i) y le = ap (λ (l : List ℕ). x ∷ l) (remove-insert xs i y (omega arith))

pub put_back : (lists newer newest : Links) (at place node : ℕ) → at < length lists → place ≤ length (get_or lists at [])
    → newer ≡ set lists at (insert (get_or lists at []) place node)
    → newest ≡ set newer at (remove (get_or newer at []) place) → newest ≡ lists
put_back lists newer newest at place node lt le put out = out
    ∙ ap (λ (ls : Links). set ls at (remove (get_or ls at []) place)) put
    ∙ set-set lists at _ _
    ∙ ap (λ (l : List ℕ). set lists at (remove l place)) (get_or-set_same lists at (insert (get_or lists at []) place node) [] lt)
    ∙ ap (λ (l : List ℕ). set lists at l) (remove-insert (get_or lists at []) place node le)
    ∙ set-get_or lists at []

-- a node of no list has no edge
no_edge : (n : ℕ) (x y : ℕ) → HasEdge (replicate n []) x y → ⊥
no_edge n x y (k, lt, _) = absurd (nothing (cases_lt y n))
  where
    none : get_or {A = List ℕ} (replicate n []) y [] ≡ [] → ⊥
    none e = let l : k < length {A = ℕ} [] = omega (arith, lt, ap (length {A = ℕ}) e) in absurd (omega arith)

    nothing : (y < n) ⊎ (n ≤ y) → ⊥
    nothing (inl below) = none (get_or-replicate n y [] [] below)
    nothing (inr above) = none (get_or_past (replicate n []) y [] (rw (length-replicate {A = List ℕ} n []) above))

pub IsBare-replicate : (n : ℕ) (graph : Links) → graph ≡ replicate n [] → IsBare n graph
IsBare-replicate n graph e = rw e (record {
  size_is = length-replicate {A = List ℕ} n [];
  bare = no_edge n;
})

pub IsTwofold-replicate : (n : ℕ) (preds succs : Links) → n < 2 ^ 32
    → preds ≡ replicate n [] → succs ≡ replicate n [] → IsTwofold preds succs
IsTwofold-replicate n preds succs few e f = rw (e, f) (record {
  same = refl;
  few = rw (length-replicate {A = List ℕ} n []) few;
  rising_preds = flat;
  rising_succs = flat;
  joins = λ x y h. absurd (no_edge n x y h);
  both = λ x y. ((λ h. absurd (no_edge n y x h)), (λ h. absurd (no_edge n x y h)));
})
  where
    flat : (node : ℕ) → IsRising (get_or (replicate n []) node [])
    flat node i j d lt inside = absurd (no_edge n (get_or (get_or (replicate n []) node []) j d) node (j, inside, get_or_default _ j _ _ inside))

-- what a read of a node's list gives
pub preds_read : (preds succs graph : Links) (node : ℕ) (item list : List ℕ) → IsTwofold preds succs
    → preds ≡ graph → node < length graph → item ≡ get_or preds node item → list ≡ item
    → ListsAll (λ pred. HasEdge graph pred node) list
preds_read preds succs graph node item list two e lt found same = rw (← e) (rw (same, get_or_read preds node item (rw e lt) found []) (record {
  rising = two.rising_preds node;
  each = λ x. ((λ h. h), (λ h. h));
}))

pub succs_read : (preds succs graph : Links) (node : ℕ) (item list : List ℕ) → IsTwofold preds succs
    → preds ≡ graph → node < length graph → item ≡ get_or succs node item → list ≡ item
    → ListsAll (λ succ. HasEdge graph node succ) list
succs_read preds succs graph node item list two e lt found same = rw (← e) (rw (same, get_or_read succs node item (rw (two.same, e) lt) found []) (record {
  rising = two.rising_succs node;
  each = λ x. two.both node x;
}))

pub rising_read : (lists : Links) (node : ℕ) (item : List ℕ) → ((i : ℕ) → IsRising (get_or lists i []))
    → node < length lists → item ≡ get_or lists node item → IsRising item
rising_read lists node item up lt found = rw (get_or_read lists node item lt found []) (up node)

-- an edge that was put into the two lists
pub edge_put : (preds succs newer news graph : Links) (before after place : ℕ) (p : List ℕ) → IsTwofold preds succs
    → preds ≡ graph → before < length graph → after < length graph → p ≡ get_or preds after p
    → PutsIn p before (insert p place before)
    → newer ≡ set preds after (insert (get_or preds after []) place before)
    → (list : List ℕ) × PutsIn (get_or succs before []) after list × (news ≡ set succs before list)
    → AddsEdge before after graph newer × IsTwofold newer news
edge_put preds succs newer news graph before after place p two e b a found puts put (list, in_succs, put') =
    let a' : after < length preds = rw e a in
    let b' : before < length preds = rw e b in
    let q = rw (get_or_read preds after p a' found []) at puts in (
      rw (← e, put) (AddsEdge-set preds before after (insert (get_or preds after []) place before) a' q),
      rw (put, put') (IsTwofold-set preds succs before after (insert (get_or preds after []) place before) list two b' a' q in_succs),
    )

-- an edge that was put into the one list and taken out again
pub edge_refused : (preds succs newer newest news : Links) (before after place : ℕ) (p : List ℕ) → IsTwofold preds succs
    → after < length preds → p ≡ get_or preds after p → place ≤ length p
    → newer ≡ set preds after (insert (get_or preds after []) place before)
    → newest ≡ set newer after (remove (get_or newer after []) place) → news ≡ succs
    → IsTwofold newest news × (newest ≡ preds)
edge_refused preds succs newer newest news before after place p two lt found le put out kept =
    let le' = rw (get_or_read preds after p lt found []) at le in
    let back = put_back preds newer newest after place before lt le' put out in
    (rw (back, kept) two, back)
