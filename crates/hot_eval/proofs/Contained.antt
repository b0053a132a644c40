-- Whether a text stands in another, as a flag.
use Rattle.std.proofs.Common.{◌≡◌, ◌∙◌, ◌==◌, ◌||◌, ℕ, List, [], ◌∷◌, ◌++◌, Bool, true, false, refl, ap, sym, subst}
use Rattle.std.proofs.lemmas.Bool.Decides.{Decides-eqb}
use Rattle.std.specs.Bool.{MatchBool}
use Rattle.hot_strings.proofs.PieceLemmas.{both_true}
use Rattle.hot_strings.specs.Answers.{begins, is_part}
use Rattle.hot_strings.specs.Places.{Begins, IsPart, Lacks}

begins-append : (d rest : List ℕ) → begins d (d ++ rest) ≡ true
begins-append [] rest = refl
begins-append (x ∷ d) rest = rw ((Decides-eqb x x).1 refl) (begins-append d rest)

begins-true : (d s : List ℕ) → begins d s ≡ true → Begins d s
begins-true [] s e = (s, refl)
begins-true (x ∷ d) [] e = cc
begins-true (x ∷ d) (y ∷ s) e =
    let both = both_true (x == y) (begins d s) e in
    let same : x ≡ y = (Decides-eqb x y).0 both.0 in
    let more = begins-true d s both.1 in
    let tail : s ≡ d ++ more.0 = more.1 in (more.0, cc)

part_here : (d s : List ℕ) → begins d s ≡ true → is_part d s ≡ true
part_here d [] e = e
part_here d (b ∷ s) e = ap (λ x. x || is_part d s) e

later : (a b : Bool) → b ≡ true → (a || b) ≡ true
later true b e = refl
later false b e = e

part_there : (d before after : List ℕ) → is_part d (before ++ (d ++ after)) ≡ true
part_there d [] after = part_here d (d ++ after) (begins-append d after)
part_there d (b ∷ before) after = later (begins d (b ∷ (before ++ (d ++ after)))) _ (part_there d before after)

part_true : (d s : List ℕ) → is_part d s ≡ true → IsPart d s
part_true d [] e = let here = begins-true d [] e in ([], here.0, here.1)
part_true d (b ∷ s) e = go (begins d (b ∷ s)) refl (part_true d s)
  where
    go : (t : Bool) → begins d (b ∷ s) ≡ t → (is_part d s ≡ true → IsPart d s) → IsPart d (b ∷ s)
    go true is more = let here = begins-true d (b ∷ s) is in ([], here.0, here.1)
    go false is more =
        let rest = more (sym (ap (λ t. t || is_part d s) is) ∙ e) in
        (b ∷ rest.0, rest.1, ap (λ (t : List ℕ). b ∷ t) rest.2)

lacking : (d s : List ℕ) (t : Bool) → is_part d s ≡ t → Lacks d s → false ≡ t
lacking d s true is lacks = let there = part_true d s is in absurd (lacks there.0 there.1 there.2)
lacking d s false is lacks = refl

-- what a search for the part answers
pub is_part-found : (d s : List ℕ) (r : Bool) → MatchBool r (IsPart d s) (Lacks d s) → r ≡ is_part d s
is_part-found d s true (before, after, e) =
    sym (subst (λ (t : List ℕ). is_part d t ≡ true) (sym e) (part_there d before after))
is_part-found d s false lacks = lacking d s (is_part d s) refl lacks
