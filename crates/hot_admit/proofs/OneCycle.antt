-- The walk back through what is left is the same each time, and so is its cycle.
use Rattle.std.proofs.Common.{◌≡◌, ◌⊎◌, ◌∙◌, ℕ, List, [], ◌∷◌, ◌++◌, Contains, eqb, false, refl, sym, ap, subst, inl}
use Rattle.std.proofs.Common.{inr, append_assoc, arith}
use Rattle.std.specs.List.{IsDistinct}
use Rattle.std.proofs.lemmas.List.{append-nil}
use Rattle.std.proofs.lemmas.Bool.{eq-eqb, false≢true}
use Rattle.std.proofs.lemmas.List.Elements.{All-from_recursion, All-contains, Contains-append_right}
use Rattle.std.proofs.lemmas.Map.Keys.{IsDistinct-head, IsDistinct-tail}
use Rattle.dep_graph.specs.Lists.{IsLeast}
use Rattle.dep_graph.specs.Paths.{Leads, IsPath}
use Rattle.dep_graph.specs.Orders.{IsLeft, GoesBack, IsWalkedCycle, FindsCycle}
use Rattle.traversal_graph.proofs.EachMembers.{Contains-front}
use Rattle.hot_admit.proofs.Members.{none_in, front_cases}

pub least_one : (P : ℕ → Type 0) (a b : ℕ) → IsLeast P a → IsLeast P b → a ≡ b
least_one P a b x y = omega (arith, x.least b y.is, y.least a x.is)

-- ---- two ways of one walk

-- one goes on where the other ends
abbrev Goes_on : List ℕ → List ℕ → Type 0
Goes_on p q = (r : List ℕ) × (q ≡ p ++ r)

ways : (E : ℕ → ℕ → Type 0) (a : ℕ) (p : List ℕ) (b : ℕ) (q : List ℕ) (c : ℕ) → Leads (GoesBack E) a p b
    → Leads (GoesBack E) a q c
    → Goes_on p q ⊎ Goes_on q p
ways E a [] b q c h k = inl (q, refl)
ways E a (x ∷ p) b [] c h k = inr (x ∷ p, refl)
ways E a (x ∷ p) b (y ∷ q) c h k =
    by (ways E x p b q c h.1 (subst (λ (z : ℕ). Leads (GoesBack E) z q c) (sym same) k.1))
  where
    same : x ≡ y
    same = least_one (λ pred. E pred a × IsLeft E pred) x y h.0 k.0

    by : Goes_on p q ⊎ Goes_on q p → Goes_on (x ∷ p) (y ∷ q) ⊎ Goes_on (y ∷ q) (x ∷ p)
    by (inl (r, e)) = inl (r, ap (λ (z : ℕ). z ∷ q) (sym same) ∙ ap (λ (l : List ℕ). x ∷ l) e)
    by (inr (r, e)) = inr (r, ap (λ (z : ℕ). z ∷ p) same ∙ ap (λ (l : List ℕ). y ∷ l) e)

walks : (E : ℕ → ℕ → Type 0) (a b c : ℕ) (p q : List ℕ) → IsPath (GoesBack E) a b p → IsPath (GoesBack E) a c q
    → Goes_on p q ⊎ Goes_on q p
walks E a b c [] q h k = absurd h
walks E a b c (x ∷ p) [] h k = absurd k
walks E a b c (x ∷ p) (y ∷ q) h k = by (ways E a p b q c h.1 k.1)
  where
    same : x ≡ y
    same = h.0 ∙ sym k.0

    by : Goes_on p q ⊎ Goes_on q p → Goes_on (x ∷ p) (y ∷ q) ⊎ Goes_on (y ∷ q) (x ∷ p)
    by (inl (r, e)) = inl (r, ap (λ (z : ℕ). z ∷ q) (sym same) ∙ ap (λ (l : List ℕ). x ∷ l) e)
    by (inr (r, e)) = inr (r, ap (λ (z : ℕ). z ∷ p) same ∙ ap (λ (l : List ℕ). y ∷ l) e)

-- ---- lists by their ends

never_empty : (xs : List ℕ) (y : ℕ) (ys : List ℕ) → [] ≡ xs ++ y ∷ ys → ⊥
never_empty [] y ys e = cc
never_empty (x ∷ xs) y ys e = cc

last_one : (xs ys : List ℕ) (x y : ℕ) → xs ++ x ∷ [] ≡ ys ++ y ∷ [] → (xs ≡ ys) × (x ≡ y)
last_one [] [] x y e = (refl, cc)
last_one [] (b ∷ ys) x y e = let rest : [] ≡ ys ++ y ∷ [] = cc in absurd (never_empty ys y [] rest)
last_one (a ∷ xs) [] x y e = let rest : [] ≡ xs ++ x ∷ [] = cc in absurd (never_empty xs x [] rest)
last_one (a ∷ xs) (b ∷ ys) x y e =
    let first : a ≡ b = cc in
    let rest : xs ++ x ∷ [] ≡ ys ++ y ∷ [] = cc in
    let more = last_one xs ys x y rest in
    let same : xs ≡ ys = more.0 in
    (cc, more.1)

-- what stands before the last
before_last : (xs ys : List ℕ) (x y z : ℕ) (zs : List ℕ) → xs ++ x ∷ [] ≡ ys ++ y ∷ z ∷ zs
    → (r : List ℕ) × (xs ≡ ys ++ y ∷ r)
before_last [] [] x y z zs e = cc
before_last [] (b ∷ ys) x y z zs e = let rest : [] ≡ ys ++ y ∷ z ∷ zs = cc in absurd (never_empty ys y (z ∷ zs) rest)
before_last (a ∷ xs) [] x y z zs e = let first : a ≡ y = cc in (xs, ap (λ (w : ℕ). w ∷ xs) first)
before_last (a ∷ xs) (b ∷ ys) x y z zs e =
    let first : a ≡ b = cc in
    let rest : xs ++ x ∷ [] ≡ ys ++ y ∷ z ∷ zs = cc in
    let more = before_last xs ys x y z zs rest in
    let behind : xs ≡ ys ++ y ∷ more.0 = more.1 in
    (more.0, cc)

-- ---- lists without a second time

not_again : (x : ℕ) (xs : List ℕ) → IsDistinct eqb (x ∷ xs) → Contains xs x → ⊥
not_again x xs once h =
    false≢true (sym (All-contains (λ y. eqb x y ≡ false) xs x
    (All-from_recursion (λ y. eqb x y ≡ false) xs (IsDistinct-head eqb x xs once)) h) ∙ eq-eqb x x refl)

no_second : (xs : List ℕ) (y : ℕ) (ys : List ℕ) → IsDistinct eqb (xs ++ y ∷ ys) → Contains xs y → ⊥
no_second [] y ys once h = none_in y h
no_second (x ∷ xs) y ys once h =
    by (front_cases x xs y h) (no_second xs y ys (IsDistinct-tail eqb x (xs ++ y ∷ ys) once))
  where
    by : (y ≡ x) ⊎ Contains xs y → (Contains xs y → ⊥) → ⊥
    by (inl e) more = not_again x (xs ++ y ∷ ys) once
        (Contains-append_right xs (y ∷ ys) x (subst (λ (z : ℕ). Contains (y ∷ ys) z) e (Contains-front y ys)))
    by (inr in') more = more in'

from_first : (xs ys : List ℕ) (f : ℕ) (os ps : List ℕ) → xs ++ f ∷ os ≡ ys ++ f ∷ ps
    → IsDistinct eqb (xs ++ f ∷ os) → os ≡ ps
from_first [] [] f os ps e once = cc
from_first [] (y ∷ ys) f os ps e once =
    let rest : os ≡ ys ++ f ∷ ps = cc in
    absurd (not_again f os once (rw rest (Contains-append_right ys (f ∷ ps) f (Contains-front f ps))))
from_first (x ∷ xs) [] f os ps e once =
    let first : x ≡ f = cc in
    absurd (not_again x (xs ++ f ∷ os) once
    (Contains-append_right xs (f ∷ os) x (subst (λ (z : ℕ). Contains (f ∷ os) z) (sym first) (Contains-front f os))))
from_first (x ∷ xs) (y ∷ ys) f os ps e once =
    let rest : xs ++ f ∷ os ≡ ys ++ f ∷ ps = cc in
    from_first xs ys f os ps rest (IsDistinct-tail eqb x (xs ++ f ∷ os) once)

-- ---- the cycle

module _ (E : ℕ → ℕ → Type 0) where
  -- the walk, and the cycle's first again
  whole : (c : List ℕ) (w : IsWalkedCycle E c) → IsPath (GoesBack E) w.start w.first ((w.stem ++ c) ++ w.first ∷ [])
  whole c w = w.walk

  again : (c : List ℕ) (w : IsWalkedCycle E c) → Contains (w.stem ++ c) w.first
  again c w = Contains-append_right w.stem c w.first (rw w.cycle_is (Contains-front w.first w.others))

  -- both walks passed the same, and came to the same again
  abbrev Alike : (c d : List ℕ) → IsWalkedCycle E c → IsWalkedCycle E d → Type 0
  Alike c d v w = (v.stem ++ c ≡ w.stem ++ d) × (v.first ≡ w.first)

  -- the other goes on from where one came to its first again, so it ends there too
  goes_on_none : (c d : List ℕ) (v : IsWalkedCycle E c) (w : IsWalkedCycle E d) (r : List ℕ)
      → (w.stem ++ d) ++ w.first ∷ [] ≡ ((v.stem ++ c) ++ v.first ∷ []) ++ r → Alike c d v w
  goes_on_none c d v w [] e =
      last_one (v.stem ++ c) (w.stem ++ d) v.first w.first (sym (e ∙ append-nil ((v.stem ++ c) ++ v.first ∷ [])))
  goes_on_none c d v w (x ∷ r) e =
      let far : (w.stem ++ d) ++ w.first ∷ [] ≡ (v.stem ++ c) ++ v.first ∷ x ∷ r = e
      ∙ append_assoc (v.stem ++ c) (v.first ∷ []) (x ∷ r) in
      let before = before_last (w.stem ++ d) (v.stem ++ c) w.first v.first x r far in
      absurd (no_second (v.stem ++ c) v.first before.0 (rw before.1 at w.once) (again c v))

  turned : (c d : List ℕ) (v : IsWalkedCycle E c) (w : IsWalkedCycle E d) → Alike d c w v → Alike c d v w
  turned c d v w h = (sym h.0, sym h.1)

  alike : (c d : List ℕ) (v : IsWalkedCycle E c) (w : IsWalkedCycle E d) → Alike c d v w
  alike c d v w = by (walks E v.start v.first w.first ((v.stem ++ c) ++ v.first ∷ []) ((w.stem ++ d) ++ w.first ∷ [])
      (whole c v) there)
    where
      there : IsPath (GoesBack E) v.start w.first ((w.stem ++ d) ++ w.first ∷ [])
      there = subst (λ (s : ℕ). IsPath (GoesBack E) s w.first ((w.stem ++ d) ++ w.first ∷ []))
          (least_one (IsLeft E) w.start v.start w.start_is v.start_is) (whole d w)

      by : Goes_on ((v.stem ++ c) ++ v.first ∷ []) ((w.stem ++ d) ++ w.first ∷ [])
          ⊎ Goes_on ((w.stem ++ d) ++ w.first ∷ []) ((v.stem ++ c) ++ v.first ∷ [])
          → Alike c d v w
      by (inl (r, e)) = goes_on_none c d v w r e
      by (inr (r, e)) = turned c d v w (goes_on_none d c w v r e)

  walked_one : (c d : List ℕ) (v : IsWalkedCycle E c) (w : IsWalkedCycle E d) → c ≡ d
  walked_one c d v w =
      let same = alike c d v w in
      let other : d ≡ v.first ∷ w.others = w.cycle_is ∙ ap (λ (f : ℕ). f ∷ w.others) (sym same.1) in
      let lists : v.stem ++ v.first ∷ v.others ≡ w.stem ++ v.first ∷ w.others =
      ap (λ (l : List ℕ). v.stem ++ l) (sym v.cycle_is) ∙ same.0 ∙ ap (λ (l : List ℕ). w.stem ++ l) other in
      let once : IsDistinct eqb (v.stem ++ v.first ∷ v.others) =
      subst (λ (l : List ℕ). IsDistinct eqb (v.stem ++ l)) v.cycle_is v.once in
      v.cycle_is ∙ ap (λ (l : List ℕ). v.first ∷ l)
      (from_first v.stem w.stem v.first v.others w.others lists once) ∙ sym other

  pub cycle_one : (c d : List ℕ) → FindsCycle E c → FindsCycle E d → c ≡ d
  cycle_one c d x y = walked_one c d x.walked y.walked
