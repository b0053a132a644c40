-- How many kinds stand once those of a line are put.
use Rattle.std.proofs.Common.{◌≡◌, ◌∙◌, ◌+◌, ℕ, suc, List, [], ◌∷◌, Bool, true, false, not, ◌&&◌, ◌||◌, map, length}
use Rattle.std.proofs.Common.{nat_le, refl, ap, sym, subst, arith, Option, Some, None, is_some, bytes_eq, if◌then◌else◌}
use Rattle.std.specs.List.{AllByRecursion}
use Rattle.std.specs.List.Sorted.{IsStrictlySortedBy}
use Rattle.std.specs.Ordering.{nat_cmp, ordering_reverse}
use Rattle.std.specs.Cmp.Lexicographic.{slice_cmp}
use Rattle.std.specs.declared.cmp.Ordering.TheVariants.{Less}
use Rattle.std.proofs.lemmas.Slice.Eq.{bytes_eq-Decides}
use Rattle.std.proofs.lemmas.Cmp.{nat_list_cmp_total}
use Rattle.heat_value.specs.Data.{Data, Members, no_members, member, keys_of, Rises, lookup}
use Rattle.hot_catalog.specs.Catalogs.{with_kind, with_all, after, with_many_kinds}
use Rattle.hot_catalog.specs.Paths.{here_unless}
use Rattle.hot_catalog.specs.declared.catalog.Catalog.{Catalog}
use Rattle.hot_forms.specs.Shapes.{members_in}
use Rattle.hot_catalog.specs.Counts.{others}
use Rattle.hot_catalog.specs.Definitions.{definition_of, definitions_of}
use Rattle.type_catalog.specs.Names.{is_listed, are_distinct}
use Rattle.type_catalog.specs.Registries.{kind_name}
use Rattle.type_catalog.specs.declared.kind.KindDef.{KindDef}

abbrev pub names : List KindDef → List (List ℕ)
names ks = map kind_name ks

-- ---- names

eq_itself : (n : List ℕ) → bytes_eq n n ≡ true
eq_itself n = (bytes_eq-Decides n n).1 refl

-- equality of texts doesn't turn on which is first
turned : (m n : List ℕ) (b : Bool) → bytes_eq m n ≡ b → bytes_eq n m ≡ b
turned m n true is = (bytes_eq-Decides n m).1 (sym ((bytes_eq-Decides m n).0 is))
turned m n false is = by (bytes_eq n m) refl
  where
    by : (b : Bool) → bytes_eq n m ≡ b → bytes_eq n m ≡ false
    by false other = other
    by true same =
        let back : bytes_eq m n ≡ true = (bytes_eq-Decides m n).1 (sym ((bytes_eq-Decides n m).0 same)) in cc

-- ---- a kind is put: whether another name is listed stays, and names stay distinct

listed_with : (k : KindDef) (ks : List KindDef) (n : List ℕ) → bytes_eq n k.name ≡ false
    → is_listed (names (with_kind k ks)) n ≡ is_listed (names ks) n
listed_with k [] n other = ap (λ b. b || false) other
listed_with k (l ∷ ls) n other = by (listed_with k ls n other) (bytes_eq l.name k.name) refl
  where
    by : is_listed (names (with_kind k ls)) n ≡ is_listed (names ls) n → (b : Bool) → bytes_eq l.name k.name ≡ b
        → is_listed (names (if b then k ∷ ls else l ∷ with_kind k ls)) n ≡ is_listed (names (l ∷ ls)) n
    by more true same =
        ap (λ (m : List ℕ). bytes_eq n m || is_listed (names ls) n) (sym ((bytes_eq-Decides l.name k.name).0 same))
    by more false unlike = ap (λ b. bytes_eq n l.name || b) more

apart : (m : List ℕ) (ns : List (List ℕ)) → are_distinct (m ∷ ns) ≡ true
    → (is_listed ns m ≡ false) × (are_distinct ns ≡ true)
apart m ns = by (is_listed ns m) (are_distinct ns)
  where
    by : (a b : Bool) → (not a && b) ≡ true → (a ≡ false) × (b ≡ true)
    by true b e = cc
    by false b e = (refl, e)

put_apart : (m : List ℕ) (ns : List (List ℕ)) → is_listed ns m ≡ false → are_distinct ns ≡ true
    → are_distinct (m ∷ ns) ≡ true
put_apart m ns none rest = ap (λ b. not b && are_distinct ns) none ∙ rest

pub distinct_with : (k : KindDef) (ks : List KindDef) → are_distinct (names ks) ≡ true
    → are_distinct (names (with_kind k ks)) ≡ true
distinct_with k [] distinct = refl
distinct_with k (l ∷ ls) distinct =
    let parts = apart l.name (names ls) distinct in
    by parts.0 (distinct_with k ls parts.1) (bytes_eq l.name k.name) refl
  where
    by : is_listed (names ls) l.name ≡ false → are_distinct (names (with_kind k ls)) ≡ true → (b : Bool) → bytes_eq l.name k.name ≡ b
        → are_distinct (names (if b then k ∷ ls else l ∷ with_kind k ls)) ≡ true
    by none rest true same =
        subst (λ (m : List ℕ). are_distinct (m ∷ names ls) ≡ true) ((bytes_eq-Decides l.name k.name).0 same) distinct
    by none rest false unlike =
        put_apart l.name (names (with_kind k ls)) (listed_with k ls l.name unlike ∙ none) rest

-- ---- how many a line leaves

-- a key that is no kind's name changes nothing
others_none : (k : List ℕ) (d : Data) (ms : Members) (ks : List KindDef) → is_listed (names ks) k ≡ false
    → others (member k d ms) ks ≡ others ms ks
others_none k d ms [] none = refl
others_none k d ms (l ∷ ls) none =
    by (others_none k d ms ls) (bytes_eq k l.name) (is_listed (names ls) k) refl refl none
  where
    by : (is_listed (names ls) k ≡ false → others (member k d ms) ls ≡ others ms ls) → (a b : Bool) → bytes_eq k l.name ≡ a → is_listed (names ls) k ≡ b → (a || b) ≡ false
        → others (member k d ms) (l ∷ ls) ≡ others ms (l ∷ ls)
    by more true b same rest e = cc
    by more false b unlike rest e =
        ap (λ (c : Bool). if is_some (if c then Some d else lookup l.name ms)
        then others (member k d ms) ls else suc (others (member k d ms) ls)) unlike
        ∙ ap (λ (n : ℕ). if is_some (lookup l.name ms) then n else suc n) (more (rest ∙ e))

-- a kind that is put counts as one that the line, as far as it is left, doesn't name
others_with : (k : KindDef) (d : Data) (ms : Members) (ks : List KindDef) → lookup k.name ms ≡ None
    → are_distinct (names ks) ≡ true → others ms (with_kind k ks) ≡ suc (others (member k.name d ms) ks)
others_with k d ms [] none distinct = ap (λ (o : Option Data). if is_some o then 0 else 1) none
others_with k d ms (l ∷ ls) none distinct =
    let parts = apart l.name (names ls) distinct in
    by parts.0 (others_with k d ms ls none parts.1) (bytes_eq l.name k.name) refl
  where
    one_more : (b : Bool) (n : ℕ) → (if b then suc n else suc (suc n)) ≡ suc (if b then n else suc n)
    one_more true n = refl
    one_more false n = refl

    by : is_listed (names ls) l.name ≡ false
        → others ms (with_kind k ls) ≡ suc (others (member k.name d ms) ls) → (b : Bool) → bytes_eq l.name k.name ≡ b
        → others ms (if b then k ∷ ls else l ∷ with_kind k ls) ≡ suc (others (member k.name d ms) (l ∷ ls))
    by alone more true same =
        let is : l.name ≡ k.name = (bytes_eq-Decides l.name k.name).0 same in
        let unlisted : is_listed (names ls) k.name ≡ false =
        subst (λ (m : List ℕ). is_listed (names ls) m ≡ false) is alone in
        ap (λ (o : Option Data). if is_some o then others ms ls else suc (others ms ls)) none
        ∙ ap suc (sym (others_none k.name d ms ls unlisted))
        ∙ ap (λ (c : Bool). suc (if is_some (if c then Some d else lookup l.name ms)
        then others (member k.name d ms) ls else suc (others (member k.name d ms) ls))) (sym (turned l.name k.name true same))
    by alone more false unlike =
        ap (λ (n : ℕ). if is_some (lookup l.name ms) then n else suc n) more
        ∙ one_more (is_some (lookup l.name ms)) (others (member k.name d ms) ls)
        ∙ ap (λ (c : Bool). suc (if is_some (if c then Some d else lookup l.name ms)
        then others (member k.name d ms) ls else suc (others (member k.name d ms) ls))) (sym (turned l.name k.name false unlike))

others_all : (ks : List KindDef) → others no_members ks ≡ length ks
others_all [] = refl
others_all (k ∷ ks) = ap suc (others_all ks)

-- ---- all kinds of a line

-- no later key is the first
not_behind : (k : List ℕ) (ms : Members) → AllByRecursion (λ y. slice_cmp nat_cmp k y ≡ Less) (keys_of ms)
    → lookup k ms ≡ None
not_behind k no_members all = refl
not_behind k (member l e ms) all = by all.0 (not_behind k ms all.1) (bytes_eq l k) refl
  where
    by : slice_cmp nat_cmp k l ≡ Less → lookup k ms ≡ None → (b : Bool) → bytes_eq l k ≡ b → (if b then Some e else lookup k ms) ≡ None
    by first none true same =
        let is : l ≡ k = (bytes_eq-Decides l k).0 same in
        let below : slice_cmp nat_cmp k k ≡ Less = subst (λ (m : List ℕ). slice_cmp nat_cmp k m ≡ Less) is first in
        let back : slice_cmp nat_cmp k k ≡ ordering_reverse Less =
        nat_list_cmp_total.antisymm k k ∙ ap ordering_reverse below in cc
    by first none false unlike = none

pub counted : (ms : Members) (ks : List KindDef) → Rises ms → are_distinct (names ks) ≡ true
    → length (with_all (definitions_of ms) ks) ≡ length (keys_of ms) + others ms ks
unfolding IsStrictlySortedBy
counted no_members ks up distinct = let all = others_all ks in omega (arith, all)
counted (member k d ms) ks up distinct =
    let kind = definition_of k d in
    let rest : length (with_all (definitions_of ms) (with_kind kind ks))
    ≡ length (keys_of ms) + others ms (with_kind kind ks) =
    counted ms (with_kind kind ks) up.1 (distinct_with kind ks distinct) in
    let more : others ms (with_kind kind ks) ≡ suc (others (member k d ms) ks) =
    others_with kind d ms ks (not_behind k ms up.0) distinct in
    omega (arith, rest, more)

-- whether too many would stand
pub many_told : (c : Catalog) (d : Data) (line : Members) (few : Bool) → line ≡ members_in d → Rises line
    → are_distinct (names c.given) ≡ true
    → few ≡ nat_le (length c.registered + (length (keys_of line) + others line c.given)) 256
    → with_many_kinds (after c d) ≡ here_unless few
many_told c d line few is up distinct told =
    ap (λ (ms : Members). here_unless (nat_le (length c.registered + length (with_all (definitions_of ms) c.given)) 256)) (sym is)
    ∙ ap (λ (n : ℕ). here_unless (nat_le (length c.registered + n) 256)) (counted line c.given up distinct)
    ∙ ap here_unless (sym told)
