-- What a search finds among the elements that a filter keeps.
use Rattle.std.proofs.Common.{◌≡◌, ◌∙◌, ℕ, List, [], ◌∷◌, Bool, true, false, not, Some, None, refl, sym, ap}
use Rattle.std.proofs.Common.{find, cond, bytes_eq, option_map}
use Rattle.std.proofs.lemmas.Slice.Eq.{bytes_eq-Decides}
use Rattle.std.specs.List.{filter}
use Rattle.heat_plan.specs.declared.facts.KnownFacts.{KnownFacts}
use Rattle.eval_words.specs.Scenes.{is_one_of, present, facts_told}

either_way : {A : Type 0} (b : Bool) (a : A) → a ≡ cond b a a
either_way true a = refl
either_way false a = refl

-- what the search can't tell apart is kept or left out together
pub find-filter : {X : Type 0} (test p : X → Bool) (b : Bool) → ((x : X) → test x ≡ true → p x ≡ b) → (xs : List X)
    → find test (filter p xs) ≡ cond b (find test xs) None
find-filter test p b h [] = either_way b None
find-filter {X} test p b h (x ∷ xs) = by (test x) (p x) refl refl (h x) (find-filter test p b h xs)
  where
    by : (t c : Bool) → test x ≡ t → p x ≡ c → (test x ≡ true → p x ≡ b)
        → find test (filter p xs) ≡ cond b (find test xs) None
        → find test (cond c (x ∷ filter p xs) (filter p xs)) ≡ cond b (cond t (Some x) (find test xs)) None
    by true true is kept same more =
        ap (λ t. cond t (Some x) (find test (filter p xs))) is
        ∙ ap (λ c. cond c (Some x) None) (sym kept ∙ same is)
    by true false is kept same more =
        let out : b ≡ false = sym (same is) ∙ kept in
        more ∙ ap (λ c. cond c (find test xs) None) out ∙ sym (ap (λ c. cond c (Some x) None) out)
    by false true is kept same more = ap (λ t. cond t (Some x) (find test (filter p xs))) is ∙ more
    by false false is kept same more = more

named : (absent : List (List ℕ)) (name : List ℕ) (k : KnownFacts) → bytes_eq k.name name ≡ true
    → not (is_one_of absent k.name) ≡ not (is_one_of absent name)
named absent name k e = ap (λ n. not (is_one_of absent n)) ((bytes_eq-Decides k.name name).0 e)

told : (absent : List (List ℕ)) (known : List KnownFacts) (name : List ℕ)
    → facts_told (present absent known) name
    ≡ option_map (λ (k : KnownFacts). k.facts) (cond (not (is_one_of absent name))
    (find (λ (k : KnownFacts). bytes_eq k.name name) known) None)
told absent known name =
    ap (option_map (λ (k : KnownFacts). k.facts))
    (find-filter (λ (k : KnownFacts). bytes_eq k.name name) (λ (k : KnownFacts). not (is_one_of absent k.name))
    (not (is_one_of absent name)) (named absent name) known)

-- of an absent name nothing is told, and of another what was told
pub told_absent : (absent : List (List ℕ)) (known : List KnownFacts) (name : List ℕ) → is_one_of absent name ≡ true
    → facts_told (present absent known) name ≡ None
told_absent absent known name e =
    told absent known name
    ∙ ap (λ b. option_map (λ (k : KnownFacts). k.facts) (cond (not b)
    (find (λ (k : KnownFacts). bytes_eq k.name name) known) None)) e

pub told_present : (absent : List (List ℕ)) (known : List KnownFacts) (name : List ℕ) → is_one_of absent name ≡ false
    → facts_told (present absent known) name ≡ facts_told known name
told_present absent known name e =
    told absent known name
    ∙ ap (λ b. option_map (λ (k : KnownFacts). k.facts) (cond (not b)
    (find (λ (k : KnownFacts). bytes_eq k.name name) known) None)) e
