-- A body's object gives one thing at most, and its files are texts.
use Rattle.std.proofs.Common.{◌≡◌, ◌∙◌, ℕ, List, Bool, true, false, Option, Some, None, refl, sym, ap, subst, [], ◌∷◌, codes, bytes_eq, inl, inr, if◌then◌else◌}
use Rattle.std.proofs.lemmas.Slice.Eq.{bytes_eq-Decides}
use Rattle.heat_value.specs.Data.{Data, null, flag, whole, words, items, fields, Members, no_members, member, lookup}
use Rattle.heat_value.specs.declared.path.Step.{Step}
use Rattle.heat_value.specs.declared.path.Step.TheVariants.{Key}
use Rattle.script_lines.specs.BodyKeys.{AreTexts, HoldsTexts, IsRight, AreRight, IsFirstWrong}
use Rattle.script_lines.specs.Requested.{BodyData, object_in, body_with, Gives, IsMisgiven, bare, wrong}

at_first : (l k : List ℕ) (e d : Data) (later : Option Data) (b : Bool) → bytes_eq l k ≡ b → IsRight l e → (later ≡ Some d → IsRight k d)
    → (if b then Some e else later) ≡ Some d → IsRight k d
at_first l k e d later true same right further found =
    let is : e ≡ d = cc in
    subst (λ (x : List ℕ). IsRight x d) ((bytes_eq-Decides l k).0 same) (subst (IsRight l) is right)
at_first l k e d later false same right further found = further found

-- what stands under a key of an object that is right
right_at : (ms : Members) (k : List ℕ) (d : Data) → AreRight ms → lookup k ms ≡ Some d → IsRight k d
right_at no_members k d right found = let clash : None ≡ Some d = found in cc
right_at (member l e ms) k d right found =
    at_first l k e d (lookup k ms) (bytes_eq l k) refl right.0 (λ further. right_at ms k d right.1 further) found

texts_in : (o : Option Data) → ((d : Data) → o ≡ Some d → HoldsTexts d) → AreTexts (object_in o)
texts_in None holds = tt
texts_in (Some null) holds = tt
texts_in (Some (flag b)) holds = tt
texts_in (Some (whole z)) holds = tt
texts_in (Some (words s)) holds = tt
texts_in (Some (items ns)) holds = tt
texts_in (Some (fields ms)) holds = holds (fields ms) refl

pub files_are_texts : (ms : Members) → AreRight ms → AreTexts (object_in (lookup (codes "files") ms))
files_are_texts ms right = texts_in (lookup (codes "files") ms) (λ d found. right_at ms (codes "files") d right found)

wrong_unique : (ms : Members) (k l : List ℕ) → IsFirstWrong ms k → IsFirstWrong ms l → k ≡ l
wrong_unique no_members k l a b = absurd a
wrong_unique (member m d ms) k l (inl a) (inl b) = a.1 ∙ sym b.1
wrong_unique (member m d ms) k l (inl a) (inr b) = absurd (a.0 b.0)
wrong_unique (member m d ms) k l (inr a) (inl b) = absurd (b.0 a.0)
wrong_unique (member m d ms) k l (inr a) (inr b) = wrong_unique ms k l a.1 b.1

wrong_or_right : (ms : Members) (k : List ℕ) → IsFirstWrong ms k → AreRight ms → ⊥
wrong_or_right no_members k a right = absurd a
wrong_or_right (member m d ms) k (inl a) right = a.0 right.0
wrong_or_right (member m d ms) k (inr a) right = wrong_or_right ms k a.1 right.1

pub gives_unique : (ms : Members) (a b : BodyData) → Gives ms a → Gives ms b → a ≡ b
gives_unique ms a b x y =
    let both : Some x.template ≡ Some y.template = sym x.found ∙ y.found in
    let same : x.template ≡ y.template = cc in
    x.given ∙ ap (λ (t : Data). body_with t ms) same ∙ sym y.given

pub misgiven_unique : (ms : Members) (p q : List Step) → IsMisgiven ms p → IsMisgiven ms q → p ≡ q
misgiven_unique ms p q (bare lacks is) (bare lacks_too also) = is ∙ sym also
misgiven_unique ms p q (bare lacks is) (wrong t found k first also) = let clash : None ≡ Some t = sym lacks ∙ found in cc
misgiven_unique ms p q (wrong t found k first is) (bare lacks also) = let clash : None ≡ Some t = sym lacks ∙ found in cc
misgiven_unique ms p q (wrong t found k first is) (wrong u there l again also) =
    is ∙ ap (λ (x : List ℕ). Key x ∷ []) (wrong_unique ms k l first again) ∙ sym also

pub misgiven_or_gives : (ms : Members) (p : List Step) (b : BodyData) → IsMisgiven ms p → Gives ms b → ⊥
misgiven_or_gives ms p b (bare lacks is) y = let clash : None ≡ Some y.template = sym lacks ∙ y.found in cc
misgiven_or_gives ms p b (wrong t found k first is) y = wrong_or_right ms k first y.right
