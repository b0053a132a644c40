-- A map made over value by value: one member more, and what stands under a key.
use Rattle.std.proofs.Common.{◌≡◌, ◌<◌, ◌+◌, ◌∙◌, ℕ, zero, suc, List, [], ◌∷◌, length, get_or, take, refl, ap, subst, arith}
use Rattle.std.proofs.Common.{Bool, true, false, Option, Some, None, option_map, is_some, if◌then◌else◌}
use Rattle.std.proofs.lemmas.Slice.Eq.{bytes_eq-Decides}
use Rattle.std.specs.List.{AllByRecursion}
use Rattle.std.specs.List.Sorted.{IsStrictlySortedBy}
use Rattle.std.specs.Ordering.{nat_cmp, match_ordering}
use Rattle.std.specs.Str.{bytes_eq}
use Rattle.std.specs.Cmp.Lexicographic.{slice_cmp}
use Rattle.std.specs.declared.cmp.Ordering.{Ordering}
use Rattle.std.specs.declared.cmp.Ordering.TheVariants.{Less, Greater}
use Rattle.heat_value.proofs.Searches.{flipped}
use Rattle.heat_value.specs.Data.{Data, Members, no_members, member, put, keys_of, Rises, lookup}
use Rattle.heat_value.specs.Meaning.{data_of, members_of}
use Rattle.heat_value.specs.declared.value.Member.{Member}
use Rattle.hot_env.specs.Applied.{each_value}

abbrev cmp : List ℕ → List ℕ → Ordering
cmp = slice_cmp nat_cmp

-- a key behind one that is below all is above it
above : (k : List ℕ) (es : List Member) (n : ℕ) (e : Member) → AllByRecursion (λ y. cmp k y ≡ Less) (keys_of (members_of es))
    → n < length es → e ≡ get_or es n e → cmp e.key k ≡ Greater
above k [] n e all l is = absurd (omega (arith, l))
above k (x ∷ es) zero e all l is = ap (λ (y : Member). cmp y.key k) is ∙ flipped k x.key Less all.0
above k (x ∷ es) (suc n) e all l is = above k es n e all.1 (omega (arith, l)) is

abbrev placed : Ordering → List ℕ → Data → List ℕ → Data → Members → Members
placed o k v l d ms = match_ordering o (member k v (member l d ms)) (member k v ms) (member l d (put k v ms))

one_more : (f : List ℕ → Data → Data) (es : List Member) (n : ℕ) (e : Member) (v : Data) → Rises (members_of es)
    → n < length es → e ≡ get_or es n e → v ≡ f e.key (data_of e.value)
    → put e.key v (each_value f (members_of (take n es))) ≡ each_value f (members_of (take (suc n) es))
unfolding IsStrictlySortedBy
one_more f [] n e v h l is made = absurd (omega (arith, l))
one_more f (x ∷ es) zero e v h l is made =
    ap (λ (d : Data). member e.key d no_members) made
    ∙ ap (λ (y : Member). member y.key (f y.key (data_of y.value)) no_members) is
one_more f (x ∷ es) (suc n) e v h l is made =
    let later : cmp e.key x.key ≡ Greater = above x.key es n e h.0 (omega (arith, l)) is in
    ap (λ (o : Ordering). placed o e.key v x.key (f x.key (data_of x.value)) (each_value f (members_of (take n es)))) later
    ∙ ap (member x.key (f x.key (data_of x.value))) (one_more f es n e v h.1 (omega (arith, l)) is made)

-- the map of one member more
pub each_more : (f : List ℕ → Data → Data) (es : List Member) (n : ℕ) (e : Member) (v : Data) → Rises (members_of es)
    → n < length es → e ≡ get_or es n e → v ≡ f e.key (data_of e.value)
    → put e.key v (each_value f (members_of (take n es))) ≡ each_value f (members_of (take (n + 1) es))
each_more f es n e v h l is made =
    let next : suc n ≡ n + 1 = omega arith in
    subst (λ (m : ℕ). put e.key v (each_value f (members_of (take n es))) ≡ each_value f (members_of (take m es))) next
    (one_more f es n e v h l is made)

-- ---- what stands under a key

abbrev found : Bool → Data → Option Data → Option Data
found b d rest = if b then Some d else rest

found_made : (f : List ℕ → Data → Data) (k l : List ℕ) (d : Data) (b : Bool) (rest rest2 : Option Data) → bytes_eq l k ≡ b
    → rest2 ≡ option_map (f k) rest → found b (f l d) rest2 ≡ option_map (f k) (found b d rest)
found_made f k l d true rest rest2 is more = ap (λ (m : List ℕ). Some (f m d)) ((bytes_eq-Decides l k).0 is)
found_made f k l d false rest rest2 is more = more

pub lookup-each : (f : List ℕ → Data → Data) (k : List ℕ) (ms : Members)
    → lookup k (each_value f ms) ≡ option_map (f k) (lookup k ms)
lookup-each f k no_members = refl
lookup-each f k (member l d ms) =
    found_made f k l d (bytes_eq l k) (lookup k ms) (lookup k (each_value f ms)) refl (lookup-each f k ms)

some-map : (f : Data → Data) (o : Option Data) → is_some (option_map f o) ≡ is_some o
some-map f None = refl
some-map f (Some d) = refl

pub stands-each : (f : List ℕ → Data → Data) (k : List ℕ) (ms : Members)
    → is_some (lookup k (each_value f ms)) ≡ is_some (lookup k ms)
stands-each f k ms = ap (λ (o : Option Data). is_some o) (lookup-each f k ms) ∙ some-map (f k) (lookup k ms)

same-map : (f : Data → Data) (o : Option Data) → ((d : Data) → f d ≡ d) → option_map f o ≡ o
same-map f None same = refl
same-map f (Some d) same = ap (λ (e : Data). Some e) (same d)

-- under another key all is as it was
pub lookup-unmade : (f : List ℕ → Data → Data) (k : List ℕ) (ms : Members) → ((d : Data) → f k d ≡ d)
    → lookup k (each_value f ms) ≡ lookup k ms
lookup-unmade f k ms same = lookup-each f k ms ∙ same-map (f k) (lookup k ms) same
