-- Ranks given against the edges: where a node has one, so have those that lead to it, or they wait.
use Rattle.std.proofs.Common.{◌≡◌, ◌⊎◌, ◌∙◌, ◌<◌, ◌≤◌, ◌++◌, ◌+◌, ℕ, zero, suc, List, [], ◌∷◌, length, get_or, set, replicate}
use Rattle.std.proofs.Common.{refl, sym, ap, subst, inl, inr, length-append, arith}
use Rattle.std.specs.Prelude.{Contains}
use Rattle.std.proofs.lemmas.Bool.{cases_eq}
use Rattle.std.proofs.lemmas.List.{get_or_default, get_or-set_same, get_or-set_other, length-set, length-replicate, length_push}
use Rattle.std.proofs.lemmas.List.Elements.{Contains-push, Contains-push_cases, Contains-append_left}
use Rattle.std.proofs.lemmas.List.Elements.{Contains-append_right, Contains-append_cases}
use Rattle.dep_graph.specs.Lists.{ListsAll}
use Rattle.dep_graph.specs.Ranks.{AreRanks, rank_of}
use Rattle.dep_graph.proofs.RankCountLemmas.{left_to_do, zeros, less_waiting, less_marked, zeros_less, neighbours_few}

-- no edge leads to a higher rank, but to one of this rank or a lower one from a node that waits
pub record IsRanking (E : ℕ → ℕ → Type 0) (n rank : ℕ) (ranks pending : List ℕ) : Type 0 where
  pub count : length ranks ≡ n
  pub falls : (x y : ℕ) → E x y
      → (rank_of ranks y ≤ rank_of ranks x) ⊎ ((rank_of ranks y ≤ rank) × Contains pending x)
  pub given : (x : ℕ) → 0 < rank_of ranks x → rank ≤ rank_of ranks x
  pub waits : (x : ℕ) → Contains pending x → x < n

-- an element that was read is the node's rank
pub read_rank : (ranks : List ℕ) (node found : ℕ) → node < length ranks → found ≡ get_or ranks node found
    → rank_of ranks node ≡ found
read_rank ranks node found lt is = get_or_default ranks node 0 found lt ∙ sym is

none_in : (x : ℕ) → Contains {X = ℕ} [] x → ⊥
none_in x (k, lt, e) = absurd (omega arith)

-- at first none has a rank
pub no_ranks : (E : ℕ → ℕ → Type 0) (n lowest : ℕ) → AreRanks E n lowest (replicate n 0)
no_ranks E n lowest = record {
  count = length-replicate n 0;
  falls = λ x y edge. omega (arith, none n y);
  given = λ x some. absurd (omega (arith, some, none n x));
}
  where
    none : (m x : ℕ) → rank_of (replicate m 0) x ≡ 0
    none zero x = refl
    none (suc m) zero = refl
    none (suc m) (suc x) = none m x

pub lower_ranks : (E : ℕ → ℕ → Type 0) (n low lowest : ℕ) (ranks : List ℕ) → low ≤ lowest → AreRanks E n lowest ranks
    → AreRanks E n low ranks
lower_ranks E n low lowest ranks le are =
    record { count = are.count; falls = are.falls; given = λ x some. omega (arith, le, are.given x some) }

pub ranking_begins : (E : ℕ → ℕ → Type 0) (n rank goal : ℕ) (ranks : List ℕ) → goal < n → AreRanks E n rank ranks
    → IsRanking E n rank ranks ([] ++ goal ∷ [])
ranking_begins E n rank goal ranks lt are = record {
  count = are.count;
  falls = λ x y edge. inl (are.falls x y edge);
  given = are.given;
  waits = λ x c. elim (Contains-push_cases [] goal x c) [
    | inl none ↦ absurd (none_in x none)
    | inr e ↦ subst (λ (z : ℕ). z < n) e lt
  ];
}

pub ranking_ends : (E : ℕ → ℕ → Type 0) (n rank : ℕ) (ranks : List ℕ) → IsRanking E n rank ranks []
    → AreRanks E n rank ranks
ranking_ends E n rank ranks s = record {
  count = s.count;
  falls = λ x y edge. elim (s.falls x y edge) [ inl le ↦ le | inr h ↦ absurd (none_in x h.1) ];
  given = s.given;
}

module _ (E : ℕ → ℕ → Type 0) (n rank : ℕ) (ranks pending rest : List ℕ) (node : ℕ)
    (s : IsRanking E n rank ranks pending) (is : pending ≡ rest ++ node ∷ []) where
  longer : length pending ≡ length rest + 1
  longer = ap length is ∙ length_push rest node

  waiting : (x : ℕ) → Contains rest x → Contains pending x
  waiting x c = rw is (Contains-append_left rest (node ∷ []) x c)

  pub last_within : node < n
  last_within = s.waits node (rw is (Contains-push rest node))

  -- one that has a rank changes nothing
  pub skipped : 0 < rank_of ranks node → IsRanking E n rank ranks rest
  skipped some = record {
    count = s.count;
    falls = λ x y edge. by x y (s.falls x y edge);
    given = s.given;
    waits = λ x c. s.waits x (waiting x c);
  }
    where
      low : rank ≤ rank_of ranks node
      low = s.given node some

      by : (x y : ℕ) → (rank_of ranks y ≤ rank_of ranks x) ⊎ ((rank_of ranks y ≤ rank) × Contains pending x)
          → (rank_of ranks y ≤ rank_of ranks x) ⊎ ((rank_of ranks y ≤ rank) × Contains rest x)
      by x y (inl le) = inl le
      by x y (inr (le, c)) = elim (Contains-push_cases rest node x (rw is at c)) [
        | inl old ↦ inr (le, old)
        | inr e ↦ inl (subst (λ (z : ℕ). rank_of ranks y ≤ rank_of ranks z) e (omega (arith, le, low)))
      ]

  pub skipped_less : left_to_do n (zeros ranks) (length rest) < left_to_do n (zeros ranks) (length pending)
  skipped_less = less_waiting n (zeros ranks) (length rest) (length pending) longer

  module _ (none : rank_of ranks node ≡ 0) (preds : List ℕ) (lists : ListsAll (λ pred. E pred node) preds)
      (joins : (x y : ℕ) → E x y → (x < n) × (y < n)) where
    abbrev Now : List ℕ
    Now = set ranks node rank

    inside : node < length ranks
    inside = rw s.count last_within

    now_same : (x : ℕ) → x ≡ node → rank_of Now x ≡ rank
    now_same x e = subst (λ (z : ℕ). rank_of Now z ≡ rank) (sym e) (get_or-set_same ranks node rank 0 inside)

    now_other : (x : ℕ) → (x ≡ node → ⊥) → rank_of Now x ≡ rank_of ranks x
    now_other x ne = get_or-set_other ranks node x rank 0 ne

    -- ranks rise alone
    risen : (x : ℕ) → rank_of ranks x ≤ rank_of Now x
    risen x = elim (cases_eq x node) [
      | inl e ↦ (let was : rank_of ranks x ≡ 0 = subst (λ (z : ℕ). rank_of ranks z ≡ 0) (sym e) none in omega (arith, was))
      | inr ne ↦ omega (arith, now_other x ne)
    ]

    -- one that has none gets its rank, and those that lead to it wait
    pub ranked : IsRanking E n rank (set ranks node rank) (rest ++ preds)
    ranked = record {
      count = length-set ranks node rank ∙ s.count;
      falls = λ x y edge. elim (cases_eq y node) [
        | inl e ↦ inr (
          omega (arith, now_same y e),
          Contains-append_right rest preds x ((lists.each x).1 (subst (λ (z : ℕ). E x z) e edge)),
        )
        | inr ne ↦ old x y (now_other y ne) (s.falls x y edge)
      ];
      given = λ x some. elim (cases_eq x node) [
        | inl e ↦ omega (arith, now_same x e)
        | inr ne ↦ (let had : 0 < rank_of ranks x = omega (arith, some, now_other x ne) in
            omega (arith, now_other x ne, s.given x had))
      ];
      waits = λ x c. elim (Contains-append_cases rest preds x c) [
        | inl w ↦ s.waits x (waiting x w)
        | inr p ↦ (joins x node ((lists.each x).0 p)).0
      ];
    }
      where
        old : (x y : ℕ) → rank_of Now y ≡ rank_of ranks y
            → (rank_of ranks y ≤ rank_of ranks x) ⊎ ((rank_of ranks y ≤ rank) × Contains pending x)
            → (rank_of Now y ≤ rank_of Now x) ⊎ ((rank_of Now y ≤ rank) × Contains (rest ++ preds) x)
        old x y kept (inl le) = inl (omega (arith, kept, le, risen x))
        old x y kept (inr (le, c)) = elim (Contains-push_cases rest node x (rw is at c)) [
          | inl w ↦ inr (omega (arith, kept, le), Contains-append_left rest preds x w)
          | inr e ↦ inl (omega (arith, kept, le, now_same x (sym e)))
        ]

    pub ranked_less : 0 < rank
        → left_to_do n (zeros (set ranks node rank)) (length (rest ++ preds)) < left_to_do n (zeros ranks) (length pending)
    ranked_less some =
        less_marked n (zeros ranks) (zeros Now) (length rest) (length preds) (length (rest ++ preds)) (length pending)
        (zeros_less ranks node rank inside none some)
        (neighbours_few (λ x. E x node) preds n lists (λ x edge. (joins x node edge).0))
        (omega (arith, length-append rest preds)) longer
