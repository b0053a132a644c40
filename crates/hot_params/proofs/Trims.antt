-- Texts without the spaces at their ends.
use Rattle.std.proofs.Common.{◌≡◌, ◌≢◌, ◌∙◌, ◌==◌, ◌&&◌, ℕ, List, [], ◌∷◌, ◌++◌, Bool, true, false, refl, ap}
use Rattle.std.proofs.Common.{sym, Option, Some, None, if◌then◌else◌}
use denote.Ref.{Bor}
use Rattle.std.proofs.lemmas.Bool.{eqb-true}
use Rattle.std.specs.Option.{MatchOption}
use Rattle.std.specs.Str.Pattern.{FindsTextPrefix, FindsTextSuffix, StripsPrefix, StripsSuffix}
use Rattle.hot_params.specs.Texts.{without_front, without_back, onto_rest, is_nothing}

front_at : (b : ℕ) (bs : List ℕ) (t : Bool) → (b == 32) ≡ t → ((rest : List ℕ) → b ∷ bs ≢ 32 ∷ rest)
    → (if t then without_front bs else b ∷ bs) ≡ b ∷ bs
front_at b bs true is other = let at : b ≡ 32 = eqb-true b 32 is in absurd (other bs (ap (λ x. x ∷ bs) at))
front_at b bs false is other = refl

-- a text that begins with no space stays
pub front_stays : (s : List ℕ) → ((rest : List ℕ) → s ≢ 32 ∷ rest) → without_front s ≡ s
front_stays [] other = refl
front_stays (b ∷ bs) other = front_at b bs (b == 32) refl other

-- a space at the end is left out
pub back_shorter : (s : List ℕ) → without_back (s ++ 32 ∷ []) ≡ without_back s
back_shorter [] = refl
back_shorter (b ∷ bs) = ap (onto_rest b) (back_shorter bs)

back_at : (b : ℕ) (bs : List ℕ) (t : Bool) → (b == 32) ≡ t → ((front : List ℕ) → b ∷ bs ≢ front ++ 32 ∷ [])
    → (if t && is_nothing bs then [] else b ∷ bs) ≡ b ∷ bs
back_at b [] true is other = let at : b ≡ 32 = eqb-true b 32 is in absurd (other [] (ap (λ x. x ∷ []) at))
back_at b (c ∷ cs) true is other = refl
back_at b bs false is other = refl

-- a text that ends with no space stays
pub back_stays : (s : List ℕ) → ((front : List ℕ) → s ≢ front ++ 32 ∷ []) → without_back s ≡ s
back_stays [] other = refl
back_stays (b ∷ bs) other =
    ap (onto_rest b) (back_stays bs (λ front e. other (b ∷ front) (ap (λ x. b ∷ x) e)))
    ∙ back_at b bs (b == 32) refl other

-- what stands behind a space at the front
pub behind_found : (s : List ℕ) (r : Option (Bor (List ℕ)))
    → MatchOption r (FindsTextPrefix (32 ∷ []) s None) (λ x. StripsPrefix (FindsTextPrefix (32 ∷ [])) s x.now)
    → MatchOption r ((rest : List ℕ) → s ≢ 32 ∷ rest) (λ x. s ≡ 32 ∷ x.now)
behind_found s None h = λ rest e. h rest e
behind_found s (Some x) h = h.1.1 ∙ ap (λ t. 32 ∷ t) (sym h.2)

-- what stands before a space at the end
pub before_found : (s : List ℕ) (r : Option (Bor (List ℕ)))
    → MatchOption r (FindsTextSuffix (32 ∷ []) s None) (λ x. StripsSuffix (FindsTextSuffix (32 ∷ [])) s x.now)
    → MatchOption r ((front : List ℕ) → s ≢ front ++ 32 ∷ []) (λ x. s ≡ x.now ++ 32 ∷ [])
before_found s None h = λ front e. h front e
before_found s (Some x) h = h.1.1 ∙ ap (λ t. t ++ 32 ∷ []) (sym h.2)
