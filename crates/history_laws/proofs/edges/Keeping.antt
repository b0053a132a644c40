-- What is kept of candidates for edges: no cycle, and each candidate that goes up a rank that none goes down.
use Rattle.std.proofs.Common.{◌≡◌, ◌<◌, ◌≤◌, ◌⊎◌, inl, inr, ℕ, List, [], ◌∷◌, ◌++◌, refl, sym, ap, subst, arith}
use Rattle.std.specs.Prelude.{Contains}
use Rattle.std.proofs.lemmas.List.Elements.{Contains-append_cases, Contains-append_left, Contains-append_right}
use Rattle.dep_graph.specs.Paths.{HasPath, IsAcyclic, Leads}
use Rattle.dep_graph.proofs.PathLemmas.{HasPath-append, HasPath-same, HasPath-step, Loops, acyclic_from, leads_of}
use Rattle.dep_graph.proofs.PathLemmas.{no_loop}
use Rattle.traversal_graph.specs.Builds.{Considers, Joins, Keeps, begins, goes_on}

pub only_one : {A : Type 0} (x y : A) → Contains (x ∷ []) y → x ≡ y
only_one x y (n, lt, is) = let first : n ≡ 0 = omega arith in rw first at is

pub last_is : (e f : ℕ × ℕ) → Contains (e ∷ []) f → (e.0 ≡ f.0) × (e.1 ≡ f.1)
last_is e f c = let is = only_one e f c in (ap (λ (x : ℕ × ℕ). x.0) is, ap (λ (x : ℕ × ℕ). x.1) is)

pub nothing : {A : Type 0} (y : A) → Contains [] y → ⊥
nothing y (n, lt, is) = omega arith

-- what one more candidate leaves
still_kept : (kept new : List (ℕ × ℕ)) (b a : ℕ) → Considers kept b a new → (e : ℕ × ℕ) → Contains kept e
    → Contains new e
still_kept kept new b a (inl (path, is)) e c = subst (λ (l : List (ℕ × ℕ)). Contains l e) (sym is) c
still_kept kept new b a (inr (open_, is)) e c = subst (λ (l : List (ℕ × ℕ)). Contains l e) (sym is)
    (Contains-append_left kept ((b, a) ∷ []) e c)

was_kept : (kept new : List (ℕ × ℕ)) (b a : ℕ) → Considers kept b a new → (e : ℕ × ℕ) → Contains new e
    → Contains kept e ⊎ Contains ((b, a) ∷ []) e
was_kept kept new b a (inl (path, is)) e c = inl (subst (λ (l : List (ℕ × ℕ)). Contains l e) is c)
was_kept kept new b a (inr (open_, is)) e c =
    elim (Contains-append_cases kept ((b, a) ∷ []) e (subst (λ (l : List (ℕ × ℕ)). Contains l e) is c)) [
      | inl was ↦ inl was
      | inr last ↦ inr last
    ]

-- each edge that is kept was a candidate
pub kept_are : (candidates kept : List (ℕ × ℕ)) → Keeps [] candidates kept → (e : ℕ × ℕ) → Contains kept e
    → Contains candidates e
kept_are candidates kept (begins _ _ none is) e c = absurd (nothing e (subst (λ (l : List (ℕ × ℕ)). Contains l e) is c))
kept_are candidates kept (goes_on earlier mid _ _ b a more one is) e c =
    subst (λ (l : List (ℕ × ℕ)). Contains l e) (sym is) (elim (was_kept mid kept b a one e c) [
      | inl was ↦ Contains-append_left earlier ((b, a) ∷ []) e (kept_are earlier mid more e was)
      | inr last ↦ Contains-append_right earlier ((b, a) ∷ []) e last
    ])

-- along edges that don't go down a rank, a path doesn't
path_up : (rank : ℕ → ℕ) (E : ℕ → ℕ → Type 0) → ((b a : ℕ) → E b a → rank b ≤ rank a) → (x : ℕ) (p : List ℕ) (y : ℕ)
    → Leads E x p y
    → rank x ≤ rank y
path_up rank E up x [] y is = subst (λ (z : ℕ). rank x ≤ rank z) is (omega arith)
path_up rank E up x (z ∷ p) y (e, rest) = let a = up x z e in let b = path_up rank E up z p y rest in omega arith

pub rising_kept : (rank : ℕ → ℕ) (candidates kept : List (ℕ × ℕ)) → Keeps [] candidates kept
    → ((b a : ℕ) → Joins candidates b a → rank b ≤ rank a) → (b a : ℕ) → Joins candidates b a → rank b < rank a
    → Joins kept b a
rising_kept rank candidates kept (begins _ _ none is) up b a c lt =
    absurd (nothing (b, a) (subst (λ (l : List (ℕ × ℕ)). Contains l (b, a)) none c))
rising_kept rank candidates kept (goes_on earlier mid _ _ x y more one is) up b a c lt =
    elim (Contains-append_cases earlier ((x, y) ∷ []) (b, a) (subst (λ (l : List (ℕ × ℕ)). Contains l (b, a)) is c)) [
      | inl was ↦ still_kept mid kept x y one (b, a) (rising_kept rank earlier mid more earlier_up b a was lt)
      | inr last ↦ by one (last_is (x, y) (b, a) last)
    ] where
      among : (n m : ℕ) → Joins earlier n m → Joins candidates n m
      among n m d = subst (λ (l : List (ℕ × ℕ)). Contains l (n, m)) (sym is)
          (Contains-append_left earlier ((x, y) ∷ []) (n, m) d)

      earlier_up : (n m : ℕ) → Joins earlier n m → rank n ≤ rank m
      earlier_up n m d = up n m (among n m d)

      mid_up : (n m : ℕ) → Joins mid n m → rank n ≤ rank m
      mid_up n m d = earlier_up n m (kept_are earlier mid more (n, m) d)

      by : Considers mid x y kept → (x ≡ b) × (y ≡ a) → Joins kept b a
      by (inl (path, same)) eq =
          let p = leads_of (Joins mid) y x path in
          let down : rank y ≤ rank x = path_up rank (Joins mid) mid_up y p.0 x p.1 in
          let down' : rank a ≤ rank b =
          subst (λ (z : ℕ). rank a ≤ rank z) eq.0 (subst (λ (z : ℕ). rank z ≤ rank x) eq.1 down) in
          absurd (omega arith)
      by (inr (open_, same)) eq = subst (λ (l : List (ℕ × ℕ)). Contains l (b, a)) (sym same)
          (subst (λ (z : ℕ). Contains (mid ++ (x, y) ∷ []) (b, z)) eq.1
          (subst (λ (z : ℕ). Contains (mid ++ (x, y) ∷ []) (z, y)) eq.0
          (Contains-append_right mid ((x, y) ∷ []) (x, y) (0, omega arith, refl))))

-- a path along one edge more goes without it, or goes to it and comes from it
module _ (kept : List (ℕ × ℕ)) (b a : ℕ) where
  abbrev new : List (ℕ × ℕ)
  new = kept ++ (b, a) ∷ []

  edge_was : (x y : ℕ) → Joins new x y → Joins kept x y ⊎ ((x ≡ b) × (y ≡ a))
  edge_was x y c = elim (Contains-append_cases kept ((b, a) ∷ []) (x, y) c) [
    | inl was ↦ inl was
    | inr last ↦ let eq = last_is (b, a) (x, y) last in inr (sym eq.0, sym eq.1)
  ]

  path_was : (x : ℕ) (p : List ℕ) (y : ℕ) → Leads (Joins new) x p y
      → HasPath (Joins kept) x y ⊎ (HasPath (Joins kept) x b × HasPath (Joins kept) a y)
  path_was x [] y is = inl (HasPath-same (Joins kept) x y is)
  path_was x (z ∷ p) y (e, rest) = by (edge_was x z e) (path_was z p y rest) where
    by : Joins kept x z ⊎ ((x ≡ b) × (z ≡ a))
        → HasPath (Joins kept) z y ⊎ (HasPath (Joins kept) z b × HasPath (Joins kept) a y)
        → HasPath (Joins kept) x y ⊎ (HasPath (Joins kept) x b × HasPath (Joins kept) a y)
    by (inl old) (inl h) = inl (HasPath-step (Joins kept) x z y old h)
    by (inl old) (inr h) = inr (HasPath-step (Joins kept) x z b old h.0, h.1)
    by (inr is) (inl h) = inr (HasPath-same (Joins kept) x b is.0, subst (λ (w : ℕ). HasPath (Joins kept) w y) is.1 h)
    by (inr is) (inr h) = inr (HasPath-same (Joins kept) x b is.0, h.1)

  stays_acyclic : IsAcyclic (Joins kept) → ¬ HasPath (Joins kept) a b → (n : ℕ) → ¬ Loops (Joins new) n
  stays_acyclic acyclic open_ n (x, e, path) = let p = leads_of (Joins new) x n path in
      by (edge_was n x e) (path_was x p.0 n p.1) where
        by : Joins kept n x ⊎ ((n ≡ b) × (x ≡ a))
            → HasPath (Joins kept) x n ⊎ (HasPath (Joins kept) x b × HasPath (Joins kept) a n) → ⊥
        by (inl old) (inl h) = no_loop (Joins kept) acyclic n (x, old, h)
        by (inl old) (inr h) = open_ (HasPath-append (Joins kept) a n b h.1 (HasPath-step (Joins kept) n x b old h.0))
        by (inr is) (inl h) = open_
            (subst (λ (w : ℕ). HasPath (Joins kept) w b) is.1 (subst (λ (w : ℕ). HasPath (Joins kept) x w) is.0 h))
        by (inr is) (inr h) = open_ (subst (λ (w : ℕ). HasPath (Joins kept) w b) is.1 h.0)

pub keeps_acyclic : (candidates kept : List (ℕ × ℕ)) → Keeps [] candidates kept → IsAcyclic (Joins kept)
keeps_acyclic candidates kept (begins _ _ none is) =
    acyclic_from (Joins kept)
    (λ n loop. nothing (n, loop.0) (subst (λ (l : List (ℕ × ℕ)). Contains l (n, loop.0)) is loop.1))
keeps_acyclic candidates kept (goes_on earlier mid _ _ b a more one is) = by one (keeps_acyclic earlier mid more) where
  by : Considers mid b a kept → IsAcyclic (Joins mid) → IsAcyclic (Joins kept)
  by (inl (path, same)) old = subst (λ (l : List (ℕ × ℕ)). IsAcyclic (Joins l)) (sym same) old
  by (inr (open_, same)) old = subst (λ (l : List (ℕ × ℕ)). IsAcyclic (Joins l)) (sym same)
      (acyclic_from (Joins (mid ++ (b, a) ∷ [])) (stays_acyclic mid b a old open_))
