-- Whether edges lead from one node to another can be told, so that candidates can be considered in turn.
use Rattle.std.proofs.Common.{◌≡◌, ◌⊎◌, inl, inr, ℕ, List, [], ◌∷◌, ◌++◌, append_assoc, append-nil, refl, sym, ap}
use Rattle.std.proofs.Common.{subst}
use Rattle.std.specs.Prelude.{Contains}
use Rattle.dep_graph.specs.Paths.{HasPath, Leads}
use Rattle.dep_graph.proofs.PathLemmas.{HasPath-append, HasPath-same, HasPath-step, leads_of}
use Rattle.traversal_graph.specs.Builds.{Considers, Joins, Keeps, begins, goes_on}
use Rattle.history_laws.proofs.tables.Rows.{same_or_not}
use Rattle.next_laws.proofs.Listings.{cons_cases, in_head, in_tail, no_member}
use Rattle.next_laws.proofs.Decide.{Decided, both_or_not}

-- paths over more edges
wider : (x : ℕ × ℕ) (es : List (ℕ × ℕ)) (a : ℕ) (p : List ℕ) (b : ℕ) → Leads (Joins es) a p b
    → HasPath (Joins (x ∷ es)) a b
wider x es a [] b e = HasPath-same (Joins (x ∷ es)) a b e
wider x es a (c ∷ p) b (e, rest) = HasPath-step (Joins (x ∷ es)) a c b (in_tail es x (a, c) e) (wider x es c p b rest)

widens : (x : ℕ × ℕ) (es : List (ℕ × ℕ)) (a b : ℕ) → HasPath (Joins es) a b → HasPath (Joins (x ∷ es)) a b
widens x es a b h = let (p, on) = leads_of (Joins es) a b h in wider x es a p b on

-- a path without the first edge, or over it
abbrev Splits : (ℕ × ℕ) → List (ℕ × ℕ) → ℕ → ℕ → Type 0
Splits x es a b = HasPath (Joins es) a b ⊎ (HasPath (Joins es) a x.0 × HasPath (Joins es) x.1 b)

splits : (x : ℕ × ℕ) (es : List (ℕ × ℕ)) (a : ℕ) (p : List ℕ) (b : ℕ) → Leads (Joins (x ∷ es)) a p b → Splits x es a b
splits x es a [] b e = inl (HasPath-same (Joins es) a b e)
splits x es a (c ∷ p) b (e, rest) = by (cons_cases es x (a, c) e) (splits x es c p b rest) where
  by : ((a, c) ≡ x) ⊎ Contains es (a, c) → Splits x es c b → Splits x es a b
  by (inr edge) (inl on) = inl (HasPath-step (Joins es) a c b edge on)
  by (inr edge) (inr (there, back)) = inr (HasPath-step (Joins es) a c x.0 edge there, back)
  by (inl is) (inl on) = inr (
    HasPath-same (Joins es) a x.0 (ap (λ (q : ℕ × ℕ). q.0) is),
    subst (λ (n : ℕ). HasPath (Joins es) n b) (ap (λ (q : ℕ × ℕ). q.1) is) on,
  )
  by (inl is) (inr (there, back)) = inr (HasPath-same (Joins es) a x.0 (ap (λ (q : ℕ × ℕ). q.0) is), back)

joined : (x : ℕ × ℕ) (es : List (ℕ × ℕ)) (a b : ℕ) → Splits x es a b → HasPath (Joins (x ∷ es)) a b
joined x es a b (inl h) = widens x es a b h
joined x es a b (inr (there, back)) =
    let edge : Joins (x ∷ es) x.0 x.1 = in_head es x in
    HasPath-append (Joins (x ∷ es)) a x.0 b (widens x es a x.0 there)
    (HasPath-step (Joins (x ∷ es)) x.0 x.1 b edge (widens x es x.1 b back))

no_edge : (a : ℕ) (p : List ℕ) (b : ℕ) → Leads (Joins []) a p b → a ≡ b
no_edge a [] b e = e
no_edge a (c ∷ p) b (e, rest) = absurd (no_member (a, c) e)

pub path_or_not : (es : List (ℕ × ℕ)) (a b : ℕ) → Decided (HasPath (Joins es) a b)
path_or_not [] a b = elim (same_or_not a b) [
  | inl is ↦ inl (HasPath-same (Joins []) a b is)
  | inr not ↦ inr (λ h. let (p, on) = leads_of (Joins []) a b h in not (no_edge a p b on))
]
path_or_not (x ∷ es) a b = elim (path_or_not es a b) [
  | inl h ↦ inl (widens x es a b h)
  | inr not ↦ elim (both_or_not (path_or_not es a x.0) (path_or_not es x.1 b)) [
    | inl both ↦ inl (joined x es a b (inr both))
    | inr neither ↦ inr (λ h. let (p, on) = leads_of (Joins (x ∷ es)) a b h in elim (splits x es a p b on) [
      | inl direct ↦ not direct
      | inr over ↦ neither over
    ])
  ]
]

-- each candidate is kept or not
considered : (kept : List (ℕ × ℕ)) (x : ℕ × ℕ) → (new : List (ℕ × ℕ)) × Considers kept x.0 x.1 new
considered kept x = elim (path_or_not kept x.1 x.0) [
  | inl closes ↦ (kept, inl (closes, refl))
  | inr not ↦ (kept ++ (x.0, x.1) ∷ [], inr (not, refl))
]

keeps_more : (first done rest kept : List (ℕ × ℕ)) → Keeps first done kept
    → (all : List (ℕ × ℕ)) × Keeps first (done ++ rest) all
keeps_more first done [] kept h = (kept, subst (λ (l : List (ℕ × ℕ)). Keeps first l kept) (sym (append-nil done)) h)
keeps_more first done (x ∷ rest) kept h =
    let (new, step) = considered kept x in
    let next : Keeps first (done ++ x ∷ []) new = goes_on done kept (done ++ x ∷ []) new x.0 x.1 h step refl in
    let (all, on) = keeps_more first (done ++ x ∷ []) rest new next in
    (all, subst (λ (l : List (ℕ × ℕ)). Keeps first l all) (append_assoc done (x ∷ []) rest) on)

pub keeps_exist : (first candidates : List (ℕ × ℕ)) → (all : List (ℕ × ℕ)) × Keeps first candidates all
keeps_exist first candidates = keeps_more first [] candidates first (begins [] first refl refl)
