-- Options are read one by one, each in one way.
use Rattle.std.proofs.Common.{◌≡◌, ◌≢◌, inl, inr, ◌<◌, ℕ, List, [], ◌∷◌, ◌++◌, Option, Some, None, length, get_or, refl}
use Rattle.std.proofs.Common.{sym, ap, subst, arith, ◌∙◌, Bor}
use Rattle.std.specs.Prelude.{codes, MatchOption}
use Rattle.std.proofs.lemmas.List.{append_cancel_left}
use Rattle.converge_call.specs.Options.{HasOption, IsCount, IsPath, IsWithWorkers, IsWithCloud, Said, Say, Says}
use Rattle.converge_call.specs.Options as said

-- a name isn't itself with more behind it
longer : (name b : List ℕ) → name ≡ name ++ 61 ∷ b → ⊥
longer [] b same = cc
longer (c ∷ name) b same = longer name b (let rest : name ≡ name ++ 61 ∷ b = cc in rest)

-- an option in front has one value, and one rest behind it
pub option_one : (name a b : List ℕ) (r s words : List (List ℕ)) → HasOption name a r words
    → HasOption name b s words → (a ≡ b) × (r ≡ s)
option_one name a b r s words (inl x) (inl y) = (cc, cc)
option_one name a b r s words (inl x) (inr y) =
    absurd (longer name b (let same : name ≡ name ++ 61 ∷ b = cc in same))
option_one name a b r s words (inr x) (inl y) =
    absurd (longer name a (let same : name ≡ name ++ 61 ∷ a = cc in same))
option_one name a b r s words (inr x) (inr y) =
    let whole : name ++ 61 ∷ a ≡ name ++ 61 ∷ b = cc in
    let behind : 61 ∷ a ≡ 61 ∷ b = append_cancel_left name (61 ∷ a) (61 ∷ b) whole in
    (cc, cc)

-- what stands behind an option is shorter
pub option_shorter : (name a : List ℕ) (r words : List (List ℕ)) → HasOption name a r words → length r < length words
option_shorter name a r words (inl x) = rw x (omega arith)
option_shorter name a r words (inr x) = rw x (omega arith)

-- the two options differ in their third byte
abbrev third : List (List ℕ) → ℕ
third words = get_or (get_or words 0 []) 2 0

third_of_workers : (a : List ℕ) (r words : List (List ℕ)) → HasOption (codes "--workers") a r words
    → third words ≡ 119
third_of_workers a r words (inl x) = rw x refl
third_of_workers a r words (inr x) = rw x refl

third_of_cloud : (a : List ℕ) (r words : List (List ℕ)) → HasOption (codes "--cloud") a r words
    → third words ≡ 99
third_of_cloud a r words (inl x) = rw x refl
third_of_cloud a r words (inr x) = rw x refl

pub options_differ : (a b : List ℕ) (r s words : List (List ℕ)) → HasOption (codes "--workers") a r words
    → HasOption (codes "--cloud") b s words → ⊥
options_differ a b r s words has has_too =
    let here = third_of_workers a r words has in
    let there = third_of_cloud b s words has_too in omega (arith, here, there)

-- where workers are asked for wrongly, or twice, nothing is said
pub no_workers : (options rest : List (List ℕ)) (digits : List ℕ) (before : Said)
    → HasOption (codes "--workers") digits rest options
    → ((n : ℕ) → IsCount digits n → before.workers ≢ None)
    → (after : Said) (r : List (List ℕ)) → Says options r before after → ⊥
no_workers options rest digits before has none after r (said.workers d has_too with_them) =
    let same : d ≡ digits = (option_one (codes "--workers") d digits r rest options has_too has).0 in
    none with_them.count (subst (λ (x : List ℕ). IsCount x with_them.count) same with_them.is_count) with_them.unsaid
no_workers options rest digits before has none after r (said.cloud path has_too with_it) =
    options_differ digits path rest r options has has_too

-- the same for a cloud file
pub no_cloud : (options rest : List (List ℕ)) (path : List ℕ) (before : Said)
    → HasOption (codes "--cloud") path rest options
    → (IsPath path → before.cloud ≢ None)
    → (after : Said) (r : List (List ℕ)) → Says options r before after → ⊥
no_cloud options rest path before has none after r (said.cloud p has_too with_it) =
    let same : p ≡ path = (option_one (codes "--cloud") p path r rest options has_too has).0 in
    none (subst IsPath same with_it.is_path) with_it.unsaid
no_cloud options rest path before has none after r (said.workers d has_too with_them) =
    options_differ d path r rest options has_too has

-- where neither stands in front, nothing is said
pub no_option : (options : List (List ℕ)) (before : Said)
    → ((value : List ℕ) (rest : List (List ℕ)) → HasOption (codes "--workers") value rest options → ⊥)
    → ((value : List ℕ) (rest : List (List ℕ)) → HasOption (codes "--cloud") value rest options → ⊥)
    → (after : Said) (r : List (List ℕ)) → Says options r before after → ⊥
no_option options before workers cloud after r (said.workers d has with_them) = workers d r has
no_option options before workers cloud after r (said.cloud p has with_it) = cloud p r has

-- the value behind `=`
pub value_is : (word name behind : List ℕ) (r : Option (Bor (List ℕ))) → word ≡ name ++ behind
    → MatchOption r ((rest : List ℕ) → behind ≢ 61 ∷ rest) (λ x. behind ≡ 61 ∷ x.now)
    → MatchOption r ((value : List ℕ) → word ≢ name ++ 61 ∷ value) (λ value. word ≡ name ++ 61 ∷ value.now)
value_is word name behind None is none = λ value same.
    none value (append_cancel_left name behind (61 ∷ value) (sym is ∙ same))
value_is word name behind (Some x) is some = is ∙ ap (λ (l : List ℕ). name ++ l) some
