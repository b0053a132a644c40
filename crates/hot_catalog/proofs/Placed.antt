-- Where a kind goes among others, and what stands under a name among several lists.
use Rattle.std.proofs.Common.{◌≡◌, ◌∙◌, ◌<◌, ◌≤◌, ℕ, zero, suc, List, [], ◌∷◌, ◌++◌, Bool, true, false, length}
use Rattle.std.proofs.Common.{get_or, take, drop, slice_set}
use Rattle.std.proofs.Common.{refl, ap, sym, arith, Option, Some, None, bytes_eq, if◌then◌else◌}
use Rattle.std.specs.Option.{option_or}
use Rattle.hot_catalog.specs.Catalogs.{with_kind}
use Rattle.type_catalog.specs.Names.{named}
use Rattle.type_catalog.specs.Registries.{kind_name}
use Rattle.type_catalog.specs.declared.kind.KindDef.{KindDef}

-- a kind of another name is passed
pub passed : (k : KindDef) (ks : List KindDef) (i : ℕ) (l : KindDef) → i < length ks → l ≡ get_or ks i l
    → bytes_eq l.name k.name ≡ false
    → take i ks ++ with_kind k (drop i ks) ≡ take (suc i) ks ++ with_kind k (drop (suc i) ks)
passed k [] i l below at other = absurd (omega (arith, below))
passed k (m ∷ ks) zero l below at other =
    ap (λ b. if b then k ∷ ks else m ∷ with_kind k ks) (ap (λ (x : KindDef). bytes_eq x.name k.name) (sym at) ∙ other)
passed k (m ∷ ks) (suc i) l below at other = ap (λ x. m ∷ x) (passed k ks i l (omega (arith, below)) at other)

-- the kind of the name is replaced
pub replaced : (k : KindDef) (ks : List KindDef) (i : ℕ) (l : KindDef) → i < length ks → l ≡ get_or ks i l
    → bytes_eq l.name k.name ≡ true → take i ks ++ with_kind k (drop i ks) ≡ slice_set ks i k
replaced k [] i l below at same = absurd (omega (arith, below))
replaced k (m ∷ ks) zero l below at same =
    ap (λ b. if b then k ∷ ks else m ∷ with_kind k ks) (ap (λ (x : KindDef). bytes_eq x.name k.name) (sym at) ∙ same)
replaced k (m ∷ ks) (suc i) l below at same = ap (λ x. m ∷ x) (replaced k ks i l (omega (arith, below)) at same)

-- where none has the name, the kind goes behind the last
pub behind_last : (k : KindDef) (ks : List KindDef) (i : ℕ) → length ks ≤ i
    → take i ks ++ with_kind k (drop i ks) ≡ ks ++ k ∷ []
behind_last k [] zero above = refl
behind_last k [] (suc i) above = refl
behind_last k (m ∷ ks) zero above = absurd (omega (arith, above))
behind_last k (m ∷ ks) (suc i) above = ap (λ x. m ∷ x) (behind_last k ks i (omega (arith, above)))

by_head : {T : Type 0} (x : T) (o p : Option T) (b : Bool)
    → (if b then Some x else option_or o p) ≡ option_or (if b then Some x else o) p
by_head x o p true = refl
by_head x o p false = refl

-- what stands under a name in two lists stands in the first, or else in the second
pub named-append : {T : Type 0} (name_of : T → List ℕ) (n : List ℕ) (xs ys : List T)
    → named name_of n (xs ++ ys) ≡ option_or (named name_of n xs) (named name_of n ys)
named-append name_of n [] ys = refl
named-append name_of n (x ∷ xs) ys =
    ap (λ o. if bytes_eq (name_of x) n then Some x else o) (named-append name_of n xs ys)
    ∙ by_head x (named name_of n xs) (named name_of n ys) (bytes_eq (name_of x) n)

-- what stands in the first list
pub first_found : (n : List ℕ) (xs ys : List KindDef) (k : KindDef) → Some k ≡ named kind_name n xs
    → Some k ≡ named kind_name n (xs ++ ys)
first_found n xs ys k is =
    ap (λ o. option_or o (named kind_name n ys)) is ∙ sym (named-append kind_name n xs ys)

-- what stands in the second, where nothing stands in the first
pub then_found : (n : List ℕ) (xs ys : List KindDef) (o : Option KindDef) → None ≡ named kind_name n xs
    → o ≡ named kind_name n ys → o ≡ named kind_name n (xs ++ ys)
then_found n xs ys o none is =
    is ∙ (ap (λ p. option_or p (named kind_name n ys)) none ∙ sym (named-append kind_name n xs ys))
