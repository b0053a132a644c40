-- A candidate that is no edge would have closed a cycle: `only_cycles_are_left_out`.
use Rattle.std.proofs.Common.{List, [], inl, inr, subst, sym, ℕ, ◌∷◌, ◌≡◌, ◌⊎◌}
use Rattle.std.specs.Prelude.{Contains}
use Rattle.std.proofs.lemmas.List.Elements.{Contains-append_cases, Contains-append_left, Contains-append_right}
use Rattle.dep_graph.specs.Paths.{HasPath}
use Rattle.dep_graph.proofs.PathLemmas.{IsPath-weaker}
use Rattle.traversal_graph.specs.Builds.{Considers, Joins, Keeps, begins, goes_on}
use Rattle.history_laws.proofs.tables.Puts.{contains_head}
use Rattle.history_laws.proofs.edges.Keeping.{last_is, nothing}
use Rattle.history_examples.specs.Edges.{OnlyCyclesAreLeftOut}

-- an edge, or one that would close a cycle
abbrev Counts : List (ℕ × ℕ) → ℕ → ℕ → Type 0
Counts kept b a = Joins kept b a ⊎ HasPath (Joins kept) a b

-- what is kept stays so
stays : (kept new : List (ℕ × ℕ)) (x y : ℕ) → Considers kept x y new → (b a : ℕ) → Joins kept b a → Joins new b a
stays kept new x y (inl (path, is)) b a c = subst (λ (l : List (ℕ × ℕ)). Joins l b a) (sym is) c
stays kept new x y (inr (open_, is)) b a c =
    subst (λ (l : List (ℕ × ℕ)). Joins l b a) (sym is) (Contains-append_left kept ((x, y) ∷ []) (b, a) c)

still : (kept new : List (ℕ × ℕ)) (x y : ℕ) → Considers kept x y new → (b a : ℕ) → Counts kept b a → Counts new b a
still kept new x y one b a (inl edge) = inl (stays kept new x y one b a edge)
still kept new x y one b a (inr (path, is)) =
    inr (path, IsPath-weaker (Joins kept) (Joins new) (stays kept new x y one) a b path is)

considered : (kept new : List (ℕ × ℕ)) (x y : ℕ) → Considers kept x y new → Counts new x y
considered kept new x y (inl (path, is)) = inr (subst (λ (l : List (ℕ × ℕ)). HasPath (Joins l) y x) (sym is) path)
considered kept new x y (inr (open_, is)) = inl (subst (λ (l : List (ℕ × ℕ)). Joins l x y) (sym is)
    (Contains-append_right kept ((x, y) ∷ []) (x, y) (contains_head (x, y) [])))

each_counts : (candidates kept : List (ℕ × ℕ)) → Keeps [] candidates kept → (b a : ℕ) → Joins candidates b a
    → Counts kept b a
each_counts candidates kept (begins _ _ none is) b a c =
    absurd (nothing (b, a) (subst (λ (l : List (ℕ × ℕ)). Contains l (b, a)) none c))
each_counts candidates kept (goes_on earlier mid _ _ x y more one is) b a c =
    elim (Contains-append_cases earlier ((x, y) ∷ []) (b, a) (subst (λ (l : List (ℕ × ℕ)). Contains l (b, a)) is c)) [
      | inl was ↦ still mid kept x y one b a (each_counts earlier mid more b a was)
      | inr last ↦ by (last_is (x, y) (b, a) last)
    ] where
      by : (x ≡ b) × (y ≡ a) → Counts kept b a
      by (same, also) =
          subst (λ (n : ℕ). Counts kept n a) same
          (subst (λ (n : ℕ). Counts kept x n) also (considered mid kept x y one))

pub only_cycles_are_left_out : OnlyCyclesAreLeftOut
only_cycles_are_left_out items rows edges before after keeps among = each_counts _ edges keeps before after among
