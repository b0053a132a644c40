-- The words of the program: each form is read, and as one mode.
use Rattle.std.proofs.Common.{◌≡◌, inl, inr, ◌<◌, ◌≤◌, ℕ, List, [], ◌∷◌, ◌++◌, Option, Some, None, get_or, length}
use Rattle.std.proofs.Common.{refl, sym, ap, ◌∙◌, subst, arith}
use Rattle.std.specs.Prelude.{codes, unwrap_or, ⊤}
use Rattle.std.proofs.lemmas.Fmt.{decimal_injective, first_decimal}
use Rattle.std.proofs.lemmas.List.{append_cancel_right}
use Rattle.converge_call.specs.Options.{HasOption, IsCount, IsPath, IsWithWorkers, IsWithCloud, Said, Say, Says, unsaid}
use Rattle.converge_call.specs.Options as said
use Rattle.converge_call.specs.Words.{EndsWith, Drives, IsForm, setup_for}
use Rattle.converge_call.specs.declared.setup.Setup.{Setup}
use Rattle.converge_call.specs.declared.setup.Mode.{Mode}
use Rattle.converge_call.specs.declared.setup.Mode.TheVariants.{Drive}
use Rattle.converge_call.proofs.Options.{option_one, option_shorter, options_differ}

-- one number is written so
count_one : (digits : List ℕ) (n m : ℕ) → IsCount digits n → IsCount digits m → n ≡ m
count_one digits n m a b =
    let few : n ≤ 64 = a.few in
    let few_too : m ≤ 64 = b.few in
    decimal_injective n m (omega (arith, few)) (omega (arith, few_too)) (a.digits ∙ sym b.digits)

-- one option is said in one way
pub says_one : (o r s : List (List ℕ)) (before a c : Said) → Says o r before a → Says o s before c → (r ≡ s) × (a ≡ c)
says_one o r s before a c (said.workers d has with_them) (said.workers e has_too with_too) =
    let (same, rests) = option_one (codes "--workers") d e r s o has has_too in
    let one : with_them.count ≡ with_too.count = count_one e with_them.count with_too.count
    (subst (λ (x : List ℕ). IsCount x with_them.count) same with_them.is_count) with_too.is_count in
    (rests, with_them.said ∙ (ap (λ (n : ℕ). record before { workers = Some n }) one ∙ sym with_too.said))
says_one o r s before a c (said.workers d has with_them) (said.cloud p has_too with_it) =
    absurd (options_differ d p r s o has has_too)
says_one o r s before a c (said.cloud p has with_it) (said.workers d has_too with_them) =
    absurd (options_differ d p s r o has_too has)
says_one o r s before a c (said.cloud p has with_it) (said.cloud q has_too with_too) =
    let (same, rests) = option_one (codes "--cloud") p q r s o has has_too in
    (rests, with_it.said ∙ (ap (λ (x : List ℕ). record before { cloud = Some x }) same ∙ sym with_too.said))

-- what stands behind an option is shorter
pub says_shorter : (o r : List (List ℕ)) (before after : Said) → Says o r before after → length r < length o
says_shorter o r before after (said.workers d has with_them) = option_shorter (codes "--workers") d r o has
says_shorter o r before after (said.cloud p has with_it) = option_shorter (codes "--cloud") p r o has

-- options say one thing
say_one : (o : List (List ℕ)) (before a c : Said) → Say o before a → Say o before c → a ≡ c
say_one _ _ _ _ (said.nothing o before a empty same) (said.nothing _ _ c empty_too same_too) = same ∙ sym same_too
say_one _ _ _ _ (said.nothing o before a empty same) (said.further _ r _ mid c says say) =
    let less = says_shorter o r before mid says in
    let none : length o ≡ 0 = ap length empty in absurd (omega (arith, less, none))
say_one _ _ _ _ (said.further o r before mid a says say) (said.nothing _ _ c empty same) =
    let less = says_shorter o r before mid says in
    let none : length o ≡ 0 = ap length empty in absurd (omega (arith, less, none))
say_one _ _ _ _ (said.further o r before mid a says say) (said.further _ s _ other c says_too say_too) =
    let both = says_one o r s before mid other says says_too in
    say_one r mid a c say (subst (λ (x : List (List ℕ)). Say x mid c) (sym both.0)
    (subst (λ (m : Said). Say s m c) (sym both.1) say_too))

-- as many workers as are said are 1 to 64
abbrev IsFew : Option ℕ → Type 0
IsFew None = ⊤
IsFew (Some n) = (1 ≤ n) × (n ≤ 64)

says_few : (o r : List (List ℕ)) (before after : Said) → Says o r before after → IsFew before.workers
    → IsFew after.workers
says_few o r before after (said.workers d has with_them) few =
    rw with_them.said (with_them.is_count.some, with_them.is_count.few)
says_few o r before after (said.cloud p has with_it) few = rw with_it.said few

say_few : (o : List (List ℕ)) (before after : Said) → Say o before after → IsFew before.workers → IsFew after.workers
say_few _ _ _ (said.nothing o before after empty same) few = rw same few
say_few _ _ _ (said.further o r before mid after says say) few =
    say_few r mid after say (says_few o r before mid says few)

few_or_one : (o : Option ℕ) → IsFew o → (1 ≤ unwrap_or o 1) × (unwrap_or o 1 ≤ 64)
few_or_one None few = (omega arith, omega arith)
few_or_one (Some n) few = few

-- the form of a setup has 1 to 64 workers
pub drives_few : (ws : List (List ℕ)) (s : Setup) → Drives ws s → (1 ≤ s.workers) × (s.workers ≤ 64)
drives_few ws s d = rw d.set (few_or_one d.said.workers (say_few d.options unsaid d.said d.say tt))

-- the word that ends the options is neither a number nor a path
no_count : (n : ℕ) → IsCount (codes "--") n → ⊥
no_count n c =
    let few : n ≤ 64 = c.few in
    let above : 48 < get_or (codes "--") 0 0 = subst (λ (ds : List ℕ). 48 < get_or ds 0 0) c.digits
    (first_decimal n c.some (omega (arith, few))) in
    omega (arith, above)

no_path : IsPath (codes "--") → ⊥
no_path is = is.front refl

-- options in front of a last word stay, or their last value is that word
data Ends (rest before : List (List ℕ)) (value : List ℕ) : Type 0 where
  later : (more : List (List ℕ)) → rest ≡ more ++ codes "--" ∷ [] → Ends rest before value
  last : value ≡ codes "--" → Ends rest before value

ends_apart : (name value : List ℕ) (rest before o : List (List ℕ)) → o ≡ name ∷ value ∷ rest
    → o ≡ before ++ codes "--" ∷ [] → Ends rest before value
ends_apart name value rest [] o is ends = cc
ends_apart name value rest (x ∷ []) o is ends = last (let same : value ≡ codes "--" = cc in same)
ends_apart name value rest (x ∷ y ∷ more) o is ends =
    later more (let same : rest ≡ more ++ codes "--" ∷ [] = cc in same)

ends_joined : (word value : List ℕ) (rest before o : List (List ℕ)) → (word ≡ codes "--" → ⊥) → o ≡ word ∷ rest
    → o ≡ before ++ codes "--" ∷ [] → Ends rest before value
ends_joined word value rest [] o other is ends = absurd (other (let same : word ≡ codes "--" = cc in same))
ends_joined word value rest (x ∷ more) o other is ends =
    later more (let same : rest ≡ more ++ codes "--" ∷ [] = cc in same)

workers_joined : (value : List ℕ) → codes "--workers" ++ 61 ∷ value ≡ codes "--" → ⊥
workers_joined value same = cc

cloud_joined : (value : List ℕ) → codes "--cloud" ++ 61 ∷ value ≡ codes "--" → ⊥
cloud_joined value same = cc

workers_end : (value : List ℕ) (rest before o : List (List ℕ)) → HasOption (codes "--workers") value rest o
    → o ≡ before ++ codes "--" ∷ [] → Ends rest before value
workers_end value rest before o (inl is) ends = ends_apart (codes "--workers") value rest before o is ends
workers_end value rest before o (inr is) ends =
    ends_joined (codes "--workers" ++ 61 ∷ value) value rest before o (workers_joined value) is ends

cloud_end : (value : List ℕ) (rest before o : List (List ℕ)) → HasOption (codes "--cloud") value rest o
    → o ≡ before ++ codes "--" ∷ [] → Ends rest before value
cloud_end value rest before o (inl is) ends = ends_apart (codes "--cloud") value rest before o is ends
cloud_end value rest before o (inr is) ends =
    ends_joined (codes "--cloud" ++ 61 ∷ value) value rest before o (cloud_joined value) is ends

-- where options end with that word, so do those behind the first
says_ends : (o r before : List (List ℕ)) (a b : Said) → Says o r a b → o ≡ before ++ codes "--" ∷ []
    → (more : List (List ℕ)) × (r ≡ more ++ codes "--" ∷ [])
says_ends o r before a b (said.workers d has with_them) ends = by (workers_end d r before o has ends) where
  by : Ends r before d → (more : List (List ℕ)) × (r ≡ more ++ codes "--" ∷ [])
  by (later more is) = (more, is)
  by (last is) =
      absurd (no_count with_them.count (subst (λ (x : List ℕ). IsCount x with_them.count) is with_them.is_count))
says_ends o r before a b (said.cloud p has with_it) ends = by (cloud_end p r before o has ends) where
  by : Ends r before p → (more : List (List ℕ)) × (r ≡ more ++ codes "--" ∷ [])
  by (later more is) = (more, is)
  by (last is) = absurd (no_path (subst IsPath is with_it.is_path))

-- options don't end with the word that ends them
not_ended : (o before : List (List ℕ)) (a b : Said) → Say o a b → o ≡ before ++ codes "--" ∷ [] → ⊥
not_ended _ before _ _ (said.nothing o a b empty same) ends = none before (sym empty ∙ ends) where
  none : (before : List (List ℕ)) → [] ≡ before ++ codes "--" ∷ [] → ⊥
  none [] same = cc
  none (x ∷ xs) same = cc
not_ended _ before _ _ (said.further o r a mid b says say) ends =
    let (more, is) = says_ends o r before a mid says ends in not_ended r more mid b say is

-- what stands behind `drive` ends with one list of options
options_alike : (behind o p : List (List ℕ)) (a b : Said) → EndsWith behind o → Say o unsaid a → EndsWith behind p
    → Say p unsaid b → o ≡ p
options_alike behind o p a b (inl x) say (inl y) say_too = sym x ∙ y
options_alike behind o p a b (inl x) say (inr y) say_too = absurd (not_ended o p unsaid a say (sym x ∙ y))
options_alike behind o p a b (inr x) say (inl y) say_too = absurd (not_ended p o unsaid b say_too (sym y ∙ x))
options_alike behind o p a b (inr x) say (inr y) say_too = append_cancel_right o p (codes "--" ∷ []) (sym x ∙ y)

drives_one : (ws : List (List ℕ)) (s t : Setup) → Drives ws s → Drives ws t → s ≡ t
drives_one ws s t a b =
    let behind : a.behind ≡ b.behind = let first = a.first in let other = b.first in cc in
    let same : a.options ≡ b.options =
    options_alike b.behind a.options b.options a.said b.said
    (subst (λ (x : List (List ℕ)). EndsWith x a.options) behind a.ended) a.say b.ended b.say in
    let said : a.said ≡ b.said = say_one b.options unsaid a.said b.said
    (subst (λ (o : List (List ℕ)). Say o unsaid a.said) same a.say) b.say in
    a.set ∙ (ap setup_for said ∙ sym b.set)

-- the words are the form of one mode
pub form_one : (ws : List (List ℕ)) (a b : Mode) → IsForm ws a → IsForm ws b → a ≡ b
form_one ws (Drive s) (Drive t) a b = ap (λ (x : Setup). Drive x) (drives_one ws s t a b)

-- the options that were cut off are those of every form
pub no_form : (ws behind options : List (List ℕ)) (m : Mode) → ws ≡ codes "drive" ∷ behind → EndsWith behind options
    → ((before : List (List ℕ)) → behind ≡ before ++ codes "--" ∷ [] → options ≡ before)
    → ((s : Said) → Say options unsaid s → ⊥)
    → IsForm ws m → ⊥
no_form ws behind options (Drive setup) first ends cut none form = by form.ended where
  same : form.behind ≡ behind
  same = let other = form.first in cc

  by : EndsWith form.behind form.options → ⊥
  by (inl is) = at ends where
    at : EndsWith behind options → ⊥
    at (inl here) = none form.said
        (subst (λ (o : List (List ℕ)). Say o unsaid form.said) (sym is ∙ same ∙ here) form.say)
    at (inr here) = not_ended form.options options unsaid form.said form.say (sym is ∙ same ∙ here)
  by (inr is) =
      none form.said (subst (λ (o : List (List ℕ)). Say o unsaid form.said)
      (sym (cut form.options (sym same ∙ is))) form.say)
