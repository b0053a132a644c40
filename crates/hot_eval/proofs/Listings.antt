-- The program's lists as keys with their lists.
use Rattle.std.proofs.Common.{◌≡◌, ◌∙◌, ◌<◌, ◌≤◌, ◌+◌, ◌-◌, ◌==◌, ℕ, zero, suc, List, [], ◌∷◌, ◌++◌, Bool, true, false}
use Rattle.std.proofs.Common.{Option, Some, None, Result, Ok, Err, ok_or, length, get_or, take, refl, ap, sym, subst, arith, nat_le, if◌then◌else◌}
use Rattle.std.proofs.lemmas.Bool.Decides.{Decides-eqb}
use Rattle.std.proofs.lemmas.List.{map-append, take_more, take_all, nil_from_length, length-map}
use Rattle.std.specs.Prelude.{unwrap_or}
use Rattle.heat_value.specs.Data.{null, Nodes, no_nodes}
use denote.Ref.{Bor}
use Rattle.std.proofs.Math.ListN.{set}
use Rattle.heat_value.specs.Coercion.{coerced}
use Rattle.heat_value.specs.Meaning.{data_of, nodes_of}
use Rattle.hot_strings.specs.Pieces.{Params}
use Rattle.eval_words.specs.Lookups.{node_at}
use Rattle.heat_value.specs.declared.value.Value.{Value}
use Rattle.eval_words.specs.Choices.{Lists, choices}
use Rattle.hot_eval.specs.Repeats.{lists_of, count_of, ArePlaces, choices_from, list_at, link, AreLinks, item_texts, stocks_for}
use Rattle.hot_eval.specs.declared.choices.Listed.{Listed}
use Rattle.hot_eval.proofs.Turns.{AreZeros, zeros_push, zeros_first, zeros_are, no_choice, place_within, places_length}
use Rattle.hot_eval.proofs.Turns.{AreTurned, Goes, turned_next, turned_back, turned_none}
use Rattle.hot_eval.proofs.Linked.{AreLinked, linked_next, link_below, turned_down}
use Rattle.hot_eval.proofs.Picks.{IsMaking, making_next}

-- a key with its list
abbrev pub list_of : Listed → List ℕ × Nodes
list_of l = (l.key.now, nodes_of l.items.now)

pub lists_at : (ls : List Listed) (n : ℕ) (l d : Listed) (e : List ℕ × Nodes) → n < length ls → l ≡ get_or ls n d
    → list_of l ≡ get_or (lists_of ls) n e
lists_at [] n l d e below at = absurd (omega (arith, below))
lists_at (m ∷ ls) zero l d e below at = ap list_of at
lists_at (m ∷ ls) (suc n) l d e below at = lists_at ls n l d e (omega (arith, below)) at

pub length-lists : (ls : List Listed) → length (lists_of ls) ≡ length ls
length-lists ls = length-map ls list_of

pub count_nodes : (vs : List Value) → count_of (nodes_of vs) ≡ length vs
count_nodes [] = refl
count_nodes (v ∷ vs) = ap suc (count_nodes vs)

-- ---- whether a list is empty

none_there : (vs : List Value) (b : Bool) → b ≡ (length vs == 0) → b ≡ true → nodes_of vs ≡ no_nodes
none_there vs b is e = ap nodes_of (nil_from_length vs ((Decides-eqb (length vs) 0).0 (sym is ∙ e)))

some_there : (vs : List Value) (b : Bool) → b ≡ (length vs == 0) → b ≡ false → 0 < count_of (nodes_of vs)
some_there [] b is e = let none : true ≡ false = sym is ∙ e in cc
some_there (v ∷ vs) b is e = omega arith

-- ---- the first places

pub empty_list : (ls : List Listed) (n : ℕ) (l d : Listed) (b : Bool) → n < length ls → l ≡ get_or ls n d
    → b ≡ (length l.items.now == 0) → b ≡ true → choices (lists_of ls) ≡ []
empty_list ls n l d b below at is e =
    no_choice (lists_of ls) n (list_of l) (omega (arith, below, length-lists ls))
    (ap (λ m. m.1) (sym (lists_at ls n l d (list_of l) below at)) ∙ none_there l.items.now b is e)

pub next_zero : (ls : List Listed) (n : ℕ) (l d : Listed) (b : Bool) (ps qs : List ℕ) → n < length ls → l ≡ get_or ls n d
    → b ≡ (length l.items.now == 0) → b ≡ false → qs ≡ ps ++ 0 ∷ [] → AreZeros (lists_of (take n ls)) ps
    → AreZeros (lists_of (take (n + 1) ls)) qs
next_zero ls n l d b ps qs below at is e push h =
    rw (push, take_more ls n d below, ← at, map-append list_of (take n ls) (l ∷ []))
    (zeros_push (lists_of (take n ls)) ps (list_of l) (some_there l.items.now b is e) h)

pub all_zeros : (ls : List Listed) (n : ℕ) (ps : List ℕ) → length ls ≤ n → AreZeros (lists_of (take n ls)) ps
    → ArePlaces (lists_of ls) ps × (choices_from (lists_of ls) ps ≡ choices (lists_of ls))
all_zeros ls n ps above h =
    let zeros : AreZeros (lists_of ls) ps = subst (λ (x : List Listed). AreZeros (lists_of x) ps) (take_all n ls above) h in
    (zeros_are (lists_of ls) ps zeros, zeros_first (lists_of ls) ps zeros)

-- ---- one place

pub place_there : (ls : List Listed) (ps : List ℕ) (n p : ℕ) (l d : Listed) → ArePlaces (lists_of ls) ps → n < length ls
    → l ≡ get_or ls n d → p ≡ get_or ps n p → p < length l.items.now
place_there ls ps n p l d h below at here =
    let within = place_within (lists_of ls) ps n (list_of l) p h (omega (arith, below, length-lists ls)) in
    let count : count_of (get_or (lists_of ls) n (list_of l)).1 ≡ length l.items.now =
    ap (λ m. count_of m.1) (sym (lists_at ls n l d (list_of l) below at)) ∙ count_nodes l.items.now in
    omega (arith, within, count, here)

pub wanted_some : {X E : Type 0} (o : Option X) (e : E) (r : Result X E) (x : X) → r ≡ ok_or o e → r ≡ Ok x → o ≡ Some x
wanted_some None e r x is ok = let none : Err e ≡ Ok x = sym is ∙ ok in cc
wanted_some (Some y) e r x is ok = let same : Ok y ≡ Ok x = sym is ∙ ok in cc

-- ---- from place to place

listed_at : (ls : List Listed) (n : ℕ) (l d : Listed) → n < length ls → l ≡ get_or ls n d
    → list_of l ≡ get_or (lists_of ls) n (list_of l)
listed_at ls n l d below at = lists_at ls n l d (list_of l) below at

turned_at : (ls : Lists) (old now : List ℕ) (at n : ℕ) → at ≡ n + 1 → AreTurned ls old now at → AreTurned ls old now (n + 1)
turned_at ls old now at n e h = subst (λ (m : ℕ). AreTurned ls old now m) e h

pub listed_next : (ls : List Listed) (old now : List ℕ) (at p next : ℕ) (l d : Listed) → ArePlaces (lists_of ls) old
    → AreTurned (lists_of ls) old now at → 0 < at → l ≡ get_or ls (at - 1) d → p ≡ get_or now (at - 1) p
    → (next ≡ p + 1) × (next < length l.items.now)
    → ArePlaces (lists_of ls) (set now (at - 1) next) × Goes (lists_of ls) old (set now (at - 1) next)
listed_next ls old now at p next l d was h some is here found =
    let below : at - 1 < length ls = omega (arith, some, h.within, length-lists ls) in
    let further : AreTurned (lists_of ls) old now ((at - 1) + 1) = turned_at (lists_of ls) old now at (at - 1) (omega (arith, some)) h in
    let more : p + 1 < count_of (list_of l).1 = omega (arith, found.0, found.1, count_nodes l.items.now) in
    subst (λ (q : ℕ). ArePlaces (lists_of ls) (set now (at - 1) q) × Goes (lists_of ls) old (set now (at - 1) q)) (sym found.0)
    (turned_next (lists_of ls) old now (at - 1) p (list_of l) was further (omega (arith, below, length-lists ls))
    (listed_at ls (at - 1) l d below is) here more)

pub listed_back : (ls : List Listed) (old now : List ℕ) (at p : ℕ) (l d : Listed) → ArePlaces (lists_of ls) old
    → AreTurned (lists_of ls) old now at → 0 < at → l ≡ get_or ls (at - 1) d → p ≡ get_or now (at - 1) p
    → length l.items.now ≤ p + 1 → AreTurned (lists_of ls) old (set now (at - 1) 0) (at - 1)
listed_back ls old now at p l d was h some is here last =
    let below : at - 1 < length ls = omega (arith, some, h.within, length-lists ls) in
    let further : AreTurned (lists_of ls) old now ((at - 1) + 1) = turned_at (lists_of ls) old now at (at - 1) (omega (arith, some)) h in
    turned_back (lists_of ls) old now (at - 1) p (list_of l) was further (omega (arith, below, length-lists ls))
    (listed_at ls (at - 1) l d below is) here (omega (arith, last, count_nodes l.items.now))

-- ---- one key more of a choice

pub listed_making : (ls : List Listed) (ps : List ℕ) (n p : ℕ) (l m d e : Listed) (texts texts' : Params)
    (vs vs' : List (Bor Value)) (q : List ℕ × List ℕ) (v : Bor Value) → n < length ls → ArePlaces (lists_of ls) ps
    → l ≡ get_or ls n d → m ≡ get_or ls n e → p ≡ get_or ps n p → Some (data_of v.now) ≡ node_at (nodes_of l.items.now) p
    → q ≡ (m.key.now, coerced (data_of v.now)) → texts' ≡ texts ++ q ∷ [] → vs' ≡ vs ++ v ∷ []
    → IsMaking (lists_of ls) ps n texts vs → IsMaking (lists_of ls) ps (n + 1) texts' vs'
listed_making ls ps n p l m d e texts texts' vs vs' q v below h at at' here item pair push push' making =
    rw (push, push', pair)
    (making_next (lists_of ls) ps n (list_of l) p texts vs m.key.now (coerced (data_of v.now)) v
    (omega (arith, below, length-lists ls)) (omega (arith, below, length-lists ls, places_length (lists_of ls) ps h))
    (listed_at ls n l d below at) here item
    (ap (λ x. x.0) (lists_at ls n m e (list_of l) below at' ∙ sym (listed_at ls n l d below at))) refl making)

-- ---- the walk

-- the program's next link
pub listed_link : (ls : List Listed) (links pushed : List ℕ) (at x was : ℕ) (l d : Listed) → at < length ls
    → AreLinked (lists_of ls) links at → l ≡ get_or ls at d → was ≡ get_or links at was
    → x ≡ (if nat_le 2 (length l.items.now) then at + 1 else was) → pushed ≡ links ++ x ∷ []
    → AreLinked (lists_of ls) pushed (at + 1)
listed_link ls links pushed at x was l d below h here there is push =
    linked_next (lists_of ls) links pushed at x h push (omega (arith, below, length-lists ls)) as_link
  where
    count : count_of (list_at (lists_of ls) at) ≡ length l.items.now
    count = ap (λ m. count_of m.1) (sym (lists_at ls at l d ([], no_nodes) below here)) ∙ count_nodes l.items.now

    next : at + 1 ≡ suc at
    next = omega arith

    as_link : x ≡ link (lists_of ls) (suc at)
    as_link =
        is ∙ ap (λ (n : ℕ). if nat_le 2 (length l.items.now) then n else was) next
        ∙ ap (λ (n : ℕ). if nat_le 2 (length l.items.now) then suc at else n) (there ∙ h.each at was (omega arith))
        ∙ ap (λ (n : ℕ). if nat_le 2 n then suc at else link (lists_of ls) at) (sym count)

-- one list's texts more
pub listed_stock : (ls : List Listed) (n : ℕ) (l d : Listed) (ss ts : List (List (List ℕ))) (s : List (List ℕ))
    → n < length ls → l ≡ get_or ls n d → s ≡ item_texts (nodes_of l.items.now) → ts ≡ ss ++ s ∷ []
    → ss ≡ stocks_for (lists_of (take n ls)) → ts ≡ stocks_for (lists_of (take (n + 1) ls))
listed_stock ls n l d ss ts s below at is push h =
    push ∙ ap (λ (x : List (List (List ℕ))). x ++ s ∷ []) h
    ∙ ap (λ (x : List (List ℕ)). stocks_for (lists_of (take n ls)) ++ x ∷ []) is
    ∙ sym (ap (λ (x : List Listed). stocks_for (lists_of x))
    (take_more ls n d below ∙ ap (λ (m : Listed). take n ls ++ m ∷ []) (sym at))
    ∙ ap stocks_for (map-append list_of (take n ls) (l ∷ []))
    ∙ map-append (λ (m : List ℕ × Nodes). item_texts m.1) (lists_of (take n ls)) (list_of l ∷ []))

-- how many items the list at a place has
pub listed_count : (ls : List Listed) (n : ℕ) (l d : Listed) → n < length ls → l ≡ get_or ls n d
    → count_of (list_at (lists_of ls) n) ≡ length l.items.now
listed_count ls n l d below at =
    ap (λ m. count_of m.1) (sym (lists_at ls n l d ([], no_nodes) below at)) ∙ count_nodes l.items.now

-- the item at a place of it
pub listed_item : (ls : List Listed) (n p : ℕ) (l d : Listed) (v : Bor Value) → n < length ls → l ≡ get_or ls n d
    → Some (data_of v.now) ≡ node_at (nodes_of l.items.now) p → data_of v.now ≡ unwrap_or (node_at (list_at (lists_of ls) n) p) null
listed_item ls n p l d v below at is =
    ap (λ o. unwrap_or o null) is
    ∙ ap (λ (m : List ℕ × Nodes). unwrap_or (node_at m.1 p) null) (lists_at ls n l d ([], no_nodes) below at)

-- the list in front of the place turns back, and those of one item in front of it too
pub listed_down : (ls : List Listed) (old now : List ℕ) (at p : ℕ) (l d : Listed) (links : List ℕ)
    → ArePlaces (lists_of ls) old → AreLinks (lists_of ls) links → AreTurned (lists_of ls) old now at → 0 < at
    → l ≡ get_or ls (at - 1) d → p ≡ get_or now (at - 1) p → length l.items.now ≤ p + 1
    → AreTurned (lists_of ls) old (set now (at - 1) 0) (get_or links (at - 1) 0)
listed_down ls old now at p l d links was linked h some is here last =
    subst (AreTurned (lists_of ls) old (set now (at - 1) 0))
    (sym (linked.each (at - 1) 0 (omega (arith, some, h.within))))
    (turned_down (lists_of ls) old (set now (at - 1) 0) (at - 1) was
    (listed_back ls old now at p l d was h some is here last))

-- so from the first choice's places on, with no list turned yet
pub listed_start : (ls : List Listed) (places links : List ℕ) → ArePlaces (lists_of ls) places
    → AreLinks (lists_of ls) links → AreTurned (lists_of ls) places places (get_or links (length ls) 0)
listed_start ls places links was linked =
    subst (AreTurned (lists_of ls) places places)
    (sym (linked.each (length ls) 0 (omega (arith, length-lists ls))))
    (turned_down (lists_of ls) places places (length ls) was
    (turned_none (lists_of ls) places (length ls) was (sym (length-lists ls))))

-- the walk goes back
pub listed_less : (ls : List Listed) (links : List ℕ) (at : ℕ) → AreLinks (lists_of ls) links → 0 < at
    → at ≤ length (lists_of ls) → get_or links (at - 1) 0 < at
listed_less ls links at linked some within =
    omega (arith, linked.each (at - 1) 0 (omega (arith, some, within)), link_below (lists_of ls) (at - 1), some)
