-- The parts of a token's text are those before, between and behind its first two slashes.
use Rattle.std.proofs.Common.{◌≡◌, ◌≢◌, ◌∙◌, ℕ, List, [], ◌∷◌, ◌++◌, All, refl, sym, subst, decimal, arith}
use Rattle.std.proofs.lemmas.List.Elements.{All-tail}
use Rattle.heat_plan.specs.Names.{IsResName}
use Rattle.heat_plan.specs.Tokens.{IsToken, token_text}
use Rattle.heat_plan.specs.declared.token.Token.{Token}
use Rattle.heat_plan.proofs.NamesLemmas.{name_byte_apart}

-- a list with no 47 in it
abbrev pub NoSlash : List ℕ → Type 0
NoSlash s = All (λ b. b ≢ 47) s

head_apart : (b : ℕ) (s : List ℕ) → NoSlash (b ∷ s) → b ≢ 47
head_apart b s none = none 0 0 (omega arith)

-- two partings of one text at the first slash are the same
pub parting_unique : (s t : List ℕ) (x y : List ℕ) → NoSlash s → NoSlash t → s ++ 47 ∷ x ≡ t ++ 47 ∷ y → (s ≡ t) × (x ≡ y)
parting_unique [] [] x y s_none t_none e = (refl, cc)
parting_unique [] (b ∷ t) x y s_none t_none e = let same : 47 ≡ b = cc in absurd (head_apart b t t_none (sym same))
parting_unique (a ∷ s) [] x y s_none t_none e = let same : a ≡ 47 = cc in absurd (head_apart a s s_none same)
parting_unique (a ∷ s) (b ∷ t) x y s_none t_none e =
    let rest : s ++ 47 ∷ x ≡ t ++ 47 ∷ y = cc in
    let head : a ≡ b = cc in
    let (front, back) = parting_unique s t x y (All-tail (λ (k : ℕ). k ≢ 47) a s s_none) (All-tail (λ (k : ℕ). k ≢ 47) b t t_none) rest in
    (cc, back)

-- a text with a slash has one
pub slash_stands : (s x : List ℕ) → NoSlash (s ++ 47 ∷ x) → ⊥
slash_stands [] x none = head_apart 47 x none refl
slash_stands (b ∷ s) x none = slash_stands s x (All-tail (λ (k : ℕ). k ≢ 47) b (s ++ 47 ∷ x) none)

-- no name has a slash
pub name_has_none : (name : List ℕ) → IsResName name → NoSlash name
name_has_none name is k d below = name_byte_apart _ (is.each k d below)

-- the text of a token has a slash, and one more behind it
pub token_has_slash : (t : Token) (bytes : List ℕ) → token_text t ≡ bytes → NoSlash bytes → ⊥
token_has_slash t bytes e none = slash_stands t.stack (t.name ++ 47 ∷ decimal t.row) (subst NoSlash (sym e) none)

pub token_has_two : (t : Token) (stack rest bytes : List ℕ) → IsToken t → NoSlash stack → stack ++ 47 ∷ rest ≡ bytes → token_text t ≡ bytes → NoSlash rest → ⊥
token_has_two t stack rest bytes is first parts e none =
    let (front, back) = parting_unique t.stack stack (t.name ++ 47 ∷ decimal t.row) rest (name_has_none t.stack is.stack.name) first (e ∙ sym parts) in
    slash_stands t.name (decimal t.row) (subst NoSlash (sym back) none)

-- the parts that were found are those of the token
pub token_parts : (t : Token) (stack rest name row bytes : List ℕ) → IsToken t → NoSlash stack → NoSlash name → stack ++ 47 ∷ rest ≡ bytes → name ++ 47 ∷ row ≡ rest → token_text t ≡ bytes
    → (t.stack ≡ stack) × (t.name ≡ name) × (decimal t.row ≡ row)
token_parts t stack rest name row bytes is first second parts more e =
    let (front, back) = parting_unique t.stack stack (t.name ++ 47 ∷ decimal t.row) rest (name_has_none t.stack is.stack.name) first (e ∙ sym parts) in
    let (middle, end) = parting_unique t.name name (decimal t.row) row (name_has_none t.name is.name) second (back ∙ sym more) in
    (front, middle, end)
