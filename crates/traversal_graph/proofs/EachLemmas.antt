-- Lists made of each item and its place, one item more.
use Rattle.std.proofs.Common.{◌≡◌, ℕ, ◌+◌, ◌<◌, ◌≤◌, Bool, true, false, List, [], ◌∷◌, ◌++◌, length, get_or, take, sym, ap, ◌∙◌, append_assoc, arith}
use Rattle.std.proofs.lemmas.List.{append-nil, take_more, length-take-le, map_push, map_more}
use Rattle.std.proofs.lemmas.List.Elements.{All-push}
use Rattle.std.specs.Prelude.{All}
use Rattle.traversal_graph.specs.declared.draft.Draft.{Draft}
use Rattle.traversal_graph.specs.Candidates.{each_from, each, edge_if, edges_in, edges_out}
use Rattle.traversal_graph.specs.Drafts.{Draws}
use Rattle.traversal_graph.proofs.DrawLemmas.{Draws-append}

each_from-push : {A : Type 0} (place : ℕ) (xs : List A) (x : A) (f : ℕ → A → List (ℕ × ℕ))
    → each_from place (xs ++ x ∷ []) f ≡ each_from place xs f ++ f (place + length xs) x
each_from-push {A = A} place [] x f =
    let e : place ≡ place + length {A = A} [] = omega arith in append-nil (f place x) ∙ ap (λ (p : ℕ). f p x) e
each_from-push place (y ∷ ys) x f =
    let e : (place + 1) + length ys ≡ place + length (y ∷ ys) = omega arith in
    ap (λ (l : List (ℕ × ℕ)). f place y ++ l) (each_from-push (place + 1) ys x f ∙ ap (λ (p : ℕ). each_from (place + 1) ys f ++ f p x) e)
    ∙ sym (append_assoc (f place y) (each_from (place + 1) ys f) (f (place + length (y ∷ ys)) x))

pub each_more : {A : Type 0} (xs : List A) (i : ℕ) (x : A) (f : ℕ → A → List (ℕ × ℕ)) → i < length xs → x ≡ get_or xs i x
    → each (take (i + 1) xs) f ≡ each (take i xs) f ++ f i x
each_more xs i x f lt read =
    let n : 0 + length (take i xs) ≡ i = omega (arith, length-take-le i xs) in
    ap (λ l. each_from 0 l f) (take_more xs i x lt ∙ ap (λ y. take i xs ++ y ∷ []) (sym read))
    ∙ each_from-push 0 (take i xs) x f ∙ ap (λ (p : ℕ). each (take i xs) f ++ f p x) n

-- edges out of one node, one node more
pub Draws-out : (afters : List ℕ) (i before : ℕ) (old mid new : Draft) → i < length afters
    → Draws (edges_out before (take i afters)) old mid → Draws ((before, get_or afters i 0) ∷ []) mid new
    → Draws (edges_out before (take (i + 1) afters)) old new
Draws-out afters i before old mid new lt a b =
    let f : ℕ → ℕ × ℕ = λ after. (before, after) in
    rw (map_more f afters i 0 lt)
    (Draws-append (edges_out before (take i afters)) ((before, get_or afters i 0) ∷ []) old mid new a b)

-- edges into one node, one node more
pub Draws-in : (befores : List ℕ) (i after : ℕ) (old mid new : Draft) → i < length befores
    → Draws (edges_in (take i befores) after) old mid → Draws ((get_or befores i 0, after) ∷ []) mid new
    → Draws (edges_in (take (i + 1) befores) after) old new
Draws-in befores i after old mid new lt a b =
    let f : ℕ → ℕ × ℕ = λ before. (before, after) in
    rw (map_more f befores i 0 lt)
    (Draws-append (edges_in (take i befores) after) ((get_or befores i 0, after) ∷ []) old mid new a b)

-- a list of nodes, where a row's test passes and where it doesn't
pub edges-pushed : {A : Type 0} (xs : List A) (i : ℕ) (x : A) (test : A → Bool) (nodes : List ℕ) (before first : ℕ)
    → i < length xs → x ≡ get_or xs i x → test x ≡ true
    → edges_out before nodes ≡ each (take i xs) (λ (q : ℕ) (y : A). edge_if (test y) before (first + q))
    → edges_out before (nodes ++ (first + i) ∷ []) ≡ each (take (i + 1) xs) (λ (q : ℕ) (y : A). edge_if (test y) before (first + q))
edges-pushed {A = A} xs i x test nodes before first lt read e h =
    let f : ℕ → A → List (ℕ × ℕ) = λ q y. edge_if (test y) before (first + q) in
    let g : ℕ → ℕ × ℕ = λ after. (before, after) in
    map_push g nodes (first + i)
    ∙ ap (λ (l : List (ℕ × ℕ)). l ++ (before, first + i) ∷ []) h
    ∙ ap (λ (b : Bool). each (take i xs) f ++ edge_if b before (first + i)) (sym e)
    ∙ sym (each_more xs i x f lt read)

pub edges-skipped : {A : Type 0} (xs : List A) (i : ℕ) (x : A) (test : A → Bool) (nodes : List ℕ) (before first : ℕ)
    → i < length xs → x ≡ get_or xs i x → test x ≡ false
    → edges_out before nodes ≡ each (take i xs) (λ (q : ℕ) (y : A). edge_if (test y) before (first + q))
    → edges_out before nodes ≡ each (take (i + 1) xs) (λ (q : ℕ) (y : A). edge_if (test y) before (first + q))
edges-skipped {A = A} xs i x test nodes before first lt read e h =
    let f : ℕ → A → List (ℕ × ℕ) = λ q y. edge_if (test y) before (first + q) in
    h ∙ sym (append-nil (each (take i xs) f))
    ∙ ap (λ (b : Bool). each (take i xs) f ++ edge_if b before (first + i)) (sym e)
    ∙ sym (each_more xs i x f lt read)

-- a list of nodes with edges into one, where an item's test passes and where it doesn't
pub into-pushed : {A : Type 0} (xs : List A) (i : ℕ) (x : A) (test : A → Bool) (from : A → ℕ) (nodes : List ℕ) (after : ℕ)
    → i < length xs → x ≡ get_or xs i x → test x ≡ true
    → edges_in nodes after ≡ each (take i xs) (λ (q : ℕ) (y : A). edge_if (test y) (from y) after)
    → edges_in (nodes ++ from x ∷ []) after ≡ each (take (i + 1) xs) (λ (q : ℕ) (y : A). edge_if (test y) (from y) after)
into-pushed {A = A} xs i x test from nodes after lt read e h =
    let f : ℕ → A → List (ℕ × ℕ) = λ q y. edge_if (test y) (from y) after in
    let g : ℕ → ℕ × ℕ = λ before. (before, after) in
    map_push g nodes (from x)
    ∙ ap (λ (l : List (ℕ × ℕ)). l ++ (from x, after) ∷ []) h
    ∙ ap (λ (b : Bool). each (take i xs) f ++ edge_if b (from x) after) (sym e)
    ∙ sym (each_more xs i x f lt read)

pub into-skipped : {A : Type 0} (xs : List A) (i : ℕ) (x : A) (test : A → Bool) (from : A → ℕ) (nodes : List ℕ) (after : ℕ)
    → i < length xs → x ≡ get_or xs i x → test x ≡ false
    → edges_in nodes after ≡ each (take i xs) (λ (q : ℕ) (y : A). edge_if (test y) (from y) after)
    → edges_in nodes after ≡ each (take (i + 1) xs) (λ (q : ℕ) (y : A). edge_if (test y) (from y) after)
into-skipped {A = A} xs i x test from nodes after lt read e h =
    let f : ℕ → A → List (ℕ × ℕ) = λ q y. edge_if (test y) (from y) after in
    h ∙ sym (append-nil (each (take i xs) f))
    ∙ ap (λ (b : Bool). each (take i xs) f ++ edge_if b (from x) after) (sym e)
    ∙ sym (each_more xs i x f lt read)

-- nodes that stand below a number
pub below_later : (nodes : List ℕ) (n m : ℕ) → n ≤ m → All (λ node. node < n) nodes → All (λ node. node < m) nodes
below_later nodes n m le h k d lt = let e = h k d lt in omega arith

pub below_pushed : (nodes : List ℕ) (n m x : ℕ) → n ≤ m → x < m → All (λ node. node < n) nodes
    → All (λ node. node < m) (nodes ++ x ∷ [])
below_pushed nodes n m x le lt h = All-push (λ node. node < m) nodes x (below_later nodes n m le h) lt
