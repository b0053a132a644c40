-- The edges from the conditions of names, one name more.
use Rattle.std.proofs.Common.{◌≡◌, ◌⊎◌, ◌∙◌, ◌<◌, ◌+◌, ℕ, List, [], ◌∷◌, ◌++◌, Some, Contains, slice_get}
use Rattle.std.proofs.Common.{Ok, Err, Bor, map, length, get_or, take, refl, sym, ap, subst, inl, inr}
use Rattle.std.proofs.lemmas.List.{take_more, map-append}
use Rattle.std.proofs.lemmas.List.Elements.{Contains-push, Contains-push_cases, Contains-append_left}
use Rattle.dep_graph.specs.Edges.{Links, HasEdge, AddsEdge}
use Rattle.heat_value.specs.Data.{Members, keys_of, Rises}
use Rattle.heat_value.specs.Meaning.{members_of}
use Rattle.heat_value.specs.Places.{place}
use Rattle.heat_value.specs.declared.text.Text.{Text}
use Rattle.heat_value.specs.declared.value.Member.{Member}
use Rattle.hot_admit.specs.Naming.{HasNameAt, AddsNames}
use Rattle.hot_admit.proofs.Keyed.{named_at, is_at}
use Rattle.hot_admit.proofs.Members.{none_in}

pub adds_none : (conds : Members) (after : ℕ) (graph : Links) → AddsNames conds [] after graph graph
adds_none conds after graph = record { same = refl; edges = λ x y. (inl, by x y) }
  where
    by : (x y : ℕ) → HasEdge graph x y ⊎ (HasNameAt conds [] x × (y ≡ after)) → HasEdge graph x y
    by x y (inl h) = h
    by x y (inr h) = absurd (none_in h.0.name h.0.named)

left : (conds : Members) (names : List (List ℕ)) (name : List ℕ) (x : ℕ) → HasNameAt conds names x
    → HasNameAt conds (names ++ name ∷ []) x
left conds names name x h =
    record { name = h.name; found = h.found; named = Contains-append_left names (name ∷ []) h.name h.named }

-- a place of one of the names, of which the last is one name more
split : (conds : Members) (names : List (List ℕ)) (name : List ℕ) (x : ℕ) → HasNameAt conds (names ++ name ∷ []) x
    → HasNameAt conds names x ⊎ (slice_get (keys_of conds) x ≡ Some name)
split conds names name x h = by (Contains-push_cases names name h.name h.named)
  where
    by : Contains names h.name ⊎ (name ≡ h.name) → HasNameAt conds names x ⊎ (slice_get (keys_of conds) x ≡ Some name)
    by (inl in') = inl (record { name = h.name; found = h.found; named = in' })
    by (inr e) = inr (h.found ∙ ap Some (sym e))

-- the condition of the name has an edge more
adds_push : (ms : List Member) (names : List (List ℕ)) (name : List ℕ) (after p : ℕ) (old mid new : Links)
    → Rises (members_of ms) → AddsNames (members_of ms) names after old mid → place name ms ≡ Ok p
    → AddsEdge p after mid new → AddsNames (members_of ms) (names ++ name ∷ []) after old new
adds_push ms names name after p old mid new up adds at edge = record {
  same = edge.same ∙ adds.same;
  edges = λ x y. ((λ h. there x y ((edge.edges x y).0 h)), (λ h. (edge.edges x y).1 (back x y h)));
}
  where
    Here : ℕ → Type 0
    Here = HasNameAt (members_of ms) (names ++ name ∷ [])

    last : Here p
    last = record { name = name; found = named_at name ms p at; named = Contains-push names name }

    before : (x y : ℕ) → HasEdge old x y ⊎ (HasNameAt (members_of ms) names x × (y ≡ after))
        → HasEdge old x y ⊎ (Here x × (y ≡ after))
    before x y (inl h) = inl h
    before x y (inr h) = inr (left (members_of ms) names name x h.0, h.1)

    there : (x y : ℕ) → HasEdge mid x y ⊎ ((x ≡ p) × (y ≡ after)) → HasEdge old x y ⊎ (Here x × (y ≡ after))
    there x y (inl h) = before x y ((adds.edges x y).0 h)
    there x y (inr h) = inr (subst Here (sym h.0) last, h.1)

    same_place : (x : ℕ) → slice_get (keys_of (members_of ms)) x ≡ Some name → x ≡ p
    same_place x found = let both : Ok x ≡ Ok p = sym (is_at name ms x up found) ∙ at in cc

    cases : (x y : ℕ) → y ≡ after
        → HasNameAt (members_of ms) names x ⊎ (slice_get (keys_of (members_of ms)) x ≡ Some name)
        → HasEdge mid x y ⊎ ((x ≡ p) × (y ≡ after))
    cases x y e (inl h) = inl ((adds.edges x y).1 (inr (h, e)))
    cases x y e (inr h) = inr (same_place x h, e)

    back : (x y : ℕ) → HasEdge old x y ⊎ (Here x × (y ≡ after)) → HasEdge mid x y ⊎ ((x ≡ p) × (y ≡ after))
    back x y (inl h) = inl ((adds.edges x y).1 (inl h))
    back x y (inr h) = cases x y h.1 (split (members_of ms) names name x h.0)

-- where no condition has the name, nothing changes
adds_skip : (ms : List Member) (names : List (List ℕ)) (name : List ℕ) (after p : ℕ) (old mid : Links)
    → Rises (members_of ms) → AddsNames (members_of ms) names after old mid → place name ms ≡ Err p
    → AddsNames (members_of ms) (names ++ name ∷ []) after old mid
adds_skip ms names name after p old mid up adds at = record {
  same = adds.same;
  edges = λ x y. ((λ h. before x y ((adds.edges x y).0 h)), (λ h. (adds.edges x y).1 (back x y h)));
}
  where
    before : (x y : ℕ) → HasEdge old x y ⊎ (HasNameAt (members_of ms) names x × (y ≡ after))
        → HasEdge old x y ⊎ (HasNameAt (members_of ms) (names ++ name ∷ []) x × (y ≡ after))
    before x y (inl h) = inl h
    before x y (inr h) = inr (left (members_of ms) names name x h.0, h.1)

    nowhere : (x : ℕ) → slice_get (keys_of (members_of ms)) x ≡ Some name → ⊥
    nowhere x found = let both : Ok x ≡ Err p = sym (is_at name ms x up found) ∙ at in cc

    cases : (x y : ℕ) → y ≡ after
        → HasNameAt (members_of ms) names x ⊎ (slice_get (keys_of (members_of ms)) x ≡ Some name)
        → HasEdge old x y ⊎ (HasNameAt (members_of ms) names x × (y ≡ after))
    cases x y e (inl h) = inr (h, e)
    cases x y e (inr h) = absurd (nowhere x h)

    back : (x y : ℕ) → HasEdge old x y ⊎ (HasNameAt (members_of ms) (names ++ name ∷ []) x × (y ≡ after))
        → HasEdge old x y ⊎ (HasNameAt (members_of ms) names x × (y ≡ after))
    back x y (inl h) = inl h
    back x y (inr h) = cases x y h.1 (split (members_of ms) names name x h.0)

-- the names of the first texts, and of one more
more_names : (ts : List (Bor Text)) (n : ℕ) (t : Bor Text) → n < length ts → t ≡ get_or ts n t
    → map (λ (x : Bor Text). x.now) (take (n + 1) ts) ≡ map (λ (x : Bor Text). x.now) (take n ts) ++ t.now ∷ []
more_names ts n t below at =
    ap (λ (l : List (Bor Text)). map (λ (x : Bor Text). x.now) l)
    (take_more ts n t below ∙ ap (λ (w : Bor Text). take n ts ++ w ∷ []) (sym at))
    ∙ map-append (λ (x : Bor Text). x.now) (take n ts) (t ∷ [])

pub adds_more : (ms : List Member) (ts : List (Bor Text)) (n : ℕ) (t : Bor Text) (after p : ℕ) (old mid new : Links)
    → Rises (members_of ms) → n < length ts → t ≡ get_or ts n t
    → AddsNames (members_of ms) (map (λ (x : Bor Text). x.now) (take n ts)) after old mid → place t.now ms ≡ Ok p
    → AddsEdge p after mid new
    → AddsNames (members_of ms) (map (λ (x : Bor Text). x.now) (take (n + 1) ts)) after old new
adds_more ms ts n t after p old mid new up below at adds found edge =
    rw (more_names ts n t below at)
    (adds_push ms (map (λ (x : Bor Text). x.now) (take n ts)) t.now after p old mid new up adds found edge)

pub adds_past : (ms : List Member) (ts : List (Bor Text)) (n : ℕ) (t : Bor Text) (after p : ℕ) (old mid : Links)
    → Rises (members_of ms) → n < length ts → t ≡ get_or ts n t
    → AddsNames (members_of ms) (map (λ (x : Bor Text). x.now) (take n ts)) after old mid → place t.now ms ≡ Err p
    → AddsNames (members_of ms) (map (λ (x : Bor Text). x.now) (take (n + 1) ts)) after old mid
adds_past ms ts n t after p old mid up below at adds found =
    rw (more_names ts n t below at)
    (adds_skip ms (map (λ (x : Bor Text). x.now) (take n ts)) t.now after p old mid up adds found)
