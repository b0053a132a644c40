-- Paths joined and taken apart, and the loops that an acyclic relation doesn't have.
use Rattle.std.proofs.Common.{◌≡◌, ◌⊎◌, ℕ, List, [], ◌∷◌, ◌++◌, refl, sym, ap, subst, inl, inr}
use Rattle.dep_graph.specs.Paths.{Leads, IsPath, HasPath, IsCycle, IsAcyclic, Against}

pub Leads-append : (E : ℕ → ℕ → Type 0) (a : ℕ) (p : List ℕ) (b : ℕ) (q : List ℕ) (c : ℕ)
    → Leads E a p b → Leads E b q c → Leads E a (p ++ q) c
Leads-append E a [] b q c e h = let L : ℕ → Type 0 = λ x. Leads E x q c in subst L (sym e) h
Leads-append E a (x ∷ p) b q c (e, r) h = (e, Leads-append E x p b q c r h)

pub Leads-weaker : (E F : ℕ → ℕ → Type 0) → ((x y : ℕ) → E x y → F x y)
    → (a : ℕ) (p : List ℕ) (b : ℕ) → Leads E a p b → Leads F a p b
Leads-weaker E F f a [] b e = e
Leads-weaker E F f a (x ∷ p) b (e, r) = (f a x e, Leads-weaker E F f x p b r)

-- what follows a node that stands on the way
pub Leads-from : (E : ℕ → ℕ → Type 0) (a : ℕ) (p : List ℕ) (x : ℕ) (q : List ℕ) (b : ℕ)
    → Leads E a (p ++ x ∷ q) b → Leads E x q b
Leads-from E a [] x q b (e, r) = r
Leads-from E a (y ∷ p) x q b (e, r) = Leads-from E y p x q b r

-- a way with a step ends at its end
Leads-end : (E : ℕ → ℕ → Type 0) (a x : ℕ) (p : List ℕ) (b : ℕ)
    → Leads E a (x ∷ p) b → (q : List ℕ) × (x ∷ p ≡ q ++ b ∷ [])
Leads-end E a x [] b (e, r) = ([], ap (λ (z : ℕ). z ∷ []) r)
Leads-end E a x (y ∷ p) b (e, r) = (x ∷ (Leads-end E x y p b r).0, ap (λ (l : List ℕ). x ∷ l) (Leads-end E x y p b r).1)

pub IsPath-push : (E : ℕ → ℕ → Type 0) (a b c : ℕ) (p : List ℕ)
    → IsPath E a b p → E b c → IsPath E a c (p ++ c ∷ [])
IsPath-push E a b c [] h e = absurd h
IsPath-push E a b c (x ∷ p) (s, r) e = (s, Leads-append E a p b (c ∷ []) c r (e, refl))

pub IsPath-weaker : (E F : ℕ → ℕ → Type 0) → ((x y : ℕ) → E x y → F x y)
    → (a b : ℕ) (p : List ℕ) → IsPath E a b p → IsPath F a b p
IsPath-weaker E F f a b [] h = h
IsPath-weaker E F f a b (x ∷ p) (s, r) = (s, Leads-weaker E F f a p b r)

pub IsPath-from : (E : ℕ → ℕ → Type 0) (a b : ℕ) (p : List ℕ) (x : ℕ) (q : List ℕ)
    → IsPath E a b (p ++ x ∷ q) → Leads E x q b
IsPath-from E a b [] x q (s, r) = let L : ℕ → Type 0 = λ y. Leads E y q b in subst L (sym s) r
IsPath-from E a b (y ∷ p) x q (s, r) = Leads-from E a p x q b r

pub HasPath-leads : (E : ℕ → ℕ → Type 0) (a : ℕ) (p : List ℕ) (b : ℕ) → Leads E a p b → HasPath E a b
HasPath-leads E a p b h = (a ∷ p, (refl, h))

pub leads_of : (E : ℕ → ℕ → Type 0) (a b : ℕ) → HasPath E a b → (p : List ℕ) × Leads E a p b
leads_of E a b ([], h) = absurd h
leads_of E a b (x ∷ p, (s, r)) = (p, r)

pub HasPath-refl : (E : ℕ → ℕ → Type 0) (a : ℕ) → HasPath E a a
HasPath-refl E a = (a ∷ [], (refl, refl))

pub HasPath-same : (E : ℕ → ℕ → Type 0) (a b : ℕ) → a ≡ b → HasPath E a b
HasPath-same E a b e = (a ∷ [], (refl, e))

pub HasPath-step : (E : ℕ → ℕ → Type 0) (a x b : ℕ) → E a x → HasPath E x b → HasPath E a b
HasPath-step E a x b e h = let r = leads_of E x b h in (a ∷ x ∷ r.0, (refl, (e, r.1)))

pub HasPath-append : (E : ℕ → ℕ → Type 0) (a b c : ℕ) → HasPath E a b → HasPath E b c → HasPath E a c
HasPath-append E a b c g h =
    let p = leads_of E a b g in let q = leads_of E b c h in
    HasPath-leads E a _ c (Leads-append E a p.0 b q.0 c p.1 q.1)

pub HasPath-push : (E : ℕ → ℕ → Type 0) (a b c : ℕ) → HasPath E a b → E b c → HasPath E a c
HasPath-push E a b c h e = HasPath-append E a b c h (HasPath-step E b c c e (HasPath-refl E c))

-- a path is empty or begins with a step
pub HasPath-first : (E : ℕ → ℕ → Type 0) (a b : ℕ) → HasPath E a b
    → (a ≡ b) ⊎ ((x : ℕ) × E a x × HasPath E x b)
HasPath-first E a b ([], h) = absurd h
HasPath-first E a b (y ∷ [], (s, r)) = inl r
HasPath-first E a b (y ∷ x ∷ p, (s, (e, r))) = inr (x, e, HasPath-leads E x p b r)

-- a path is empty or ends with a step
pub HasPath-last : (E : ℕ → ℕ → Type 0) (a : ℕ) (p : List ℕ) (b : ℕ) → Leads E a p b
    → (a ≡ b) ⊎ ((x : ℕ) × HasPath E a x × E x b)
HasPath-last E a [] b e = inl e
HasPath-last E a (y ∷ p) b (e, r) = elim (HasPath-last E y p b r) [
  | inl same ↦ inr (a, HasPath-refl E a, (let F : ℕ → Type 0 = λ z. E a z in subst F same e))
  | inr more ↦ inr (more.0, HasPath-step E a y more.0 e more.1, more.2)
]

pub HasPath-against : (E : ℕ → ℕ → Type 0) (a : ℕ) (p : List ℕ) (b : ℕ) → Leads (Against E) a p b → HasPath E b a
HasPath-against E a [] b e = HasPath-same E b a (sym e)
HasPath-against E a (x ∷ p) b (e, r) = HasPath-push E b x a (HasPath-against E x p b r) e

-- a path read backwards
pub turned : (E : ℕ → ℕ → Type 0) (a b : ℕ) → HasPath (Against E) a b → HasPath E b a
turned E a b h = let p = leads_of (Against E) a b h in HasPath-against E a p.0 b p.1

-- a step from which the node is reached again
abbrev pub Loops : (ℕ → ℕ → Type 0) → ℕ → Type 0
Loops E a = (x : ℕ) × E a x × HasPath E x a

loop_of_cycle : (E : ℕ → ℕ → Type 0) (c : List ℕ) → IsCycle E c → (a : ℕ) × Loops E a
loop_of_cycle E [] h = absurd h
loop_of_cycle E (a ∷ []) (e, r) = (a, (a, e, HasPath-refl E a))
loop_of_cycle E (a ∷ x ∷ p) (e, r) = (a, (x, e, HasPath-leads E x (p ++ a ∷ []) a r))

cycle_of_loop : (E : ℕ → ℕ → Type 0) (a : ℕ) → Loops E a → (c : List ℕ) × IsCycle E c
cycle_of_loop E a (x, e, h) =
    let p = leads_of E x a h in
    let q = Leads-end E a x p.0 a (e, p.1) in
    let L : List ℕ → Type 0 = λ l. Leads E a l a in
    (a ∷ q.0, subst L q.1 (e, p.1))

pub acyclic_from : (E : ℕ → ℕ → Type 0) → ((a : ℕ) → ¬ Loops E a) → IsAcyclic E
acyclic_from E no_loop c h = let l = loop_of_cycle E c h in no_loop l.0 l.1

pub no_loop : (E : ℕ → ℕ → Type 0) → IsAcyclic E → (a : ℕ) → ¬ Loops E a
no_loop E acyclic a h = let c = cycle_of_loop E a h in acyclic c.0 c.1

-- a loop comes by an edge, and that edge's node loops too
pub Loops-pred : (E : ℕ → ℕ → Type 0) (a : ℕ) → Loops E a → (x : ℕ) × E x a × Loops E x
Loops-pred E a (y, e, h) = let p = leads_of E y a h in elim (HasPath-last E y p.0 a p.1) [
  | inl same ↦ (let F : ℕ → Type 0 = λ z. E a z in let back : E a a = subst F same e in (a, back, (a, back, HasPath-refl E a)))
  | inr more ↦ (more.0, more.2, (a, more.2, HasPath-step E a y more.0 e more.1))
]

pub closed_against : (E : ℕ → ℕ → Type 0) (c : List ℕ) → IsCycle (Against E) c → ¬ IsAcyclic E
closed_against E c h acyclic =
    let l = loop_of_cycle (Against E) c h in
    let p = leads_of (Against E) l.1.0 l.0 l.1.2 in
    no_loop E acyclic l.1.0 (l.0, l.1.1, HasPath-against E l.1.0 p.0 l.0 p.1)
