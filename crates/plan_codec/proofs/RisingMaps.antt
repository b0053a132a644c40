-- Members put into a map one after the other, by rising keys.
use Rattle.std.proofs.Common.{◌≡◌, ◌∙◌, ℕ, List, [], ◌∷◌, length, map, refl, sym, ap, subst, arith}
use Rattle.std.specs.List.{AllByRecursion}
use Rattle.std.specs.List.Sorted.{IsStrictlySortedBy}
use Rattle.std.specs.Ordering.{nat_cmp}
use Rattle.std.specs.Cmp.Lexicographic.{slice_cmp}
use Rattle.std.specs.declared.cmp.Ordering.TheVariants.{Less}
use Rattle.heat_value.specs.Data.{Data, Members, no_members, member, keys_of, Rises, put}
use Rattle.heat_value.specs.Meaning.{data_of, members_of}
use Rattle.heat_value.specs.declared.value.Member.{Member}
use Rattle.heat_value.proofs.Searches.{flipped}

-- a map with another behind it
abbrev joined : Members → Members → Members
joined no_members ns = ns
joined (member k d ms) ns = member k d (joined ms ns)

joined-nothing : (ms : Members) → joined ms no_members ≡ ms
joined-nothing no_members = refl
joined-nothing (member k d ms) = ap (member k d) (joined-nothing ms)

joined-joined : (ms ns os : Members) → joined (joined ms ns) os ≡ joined ms (joined ns os)
joined-joined no_members ns os = refl
joined-joined (member k d ms) ns os = ap (member k d) (joined-joined ms ns os)

-- members put into a map, the first one first
abbrev pub with_all : Members → List Member → Members
with_all ms [] = ms
with_all ms (e ∷ es) = with_all (put e.key (data_of e.value) ms) es

-- what holds of all keys holds of the one between
between : (P : List ℕ → Type 0) (ms : Members) (k : List ℕ) (d : Data) (ns : Members) → AllByRecursion P (keys_of (joined ms (member k d ns))) → P k
between P no_members k d ns h = h.0
between P (member l e ms) k d ns h = between P ms k d ns h.1

below_last : (ms : Members) (k : List ℕ) (d : Data) (ns : Members) → Rises (joined ms (member k d ns)) → AllByRecursion (λ l. slice_cmp nat_cmp l k ≡ Less) (keys_of ms)
unfolding IsStrictlySortedBy
below_last no_members k d ns up = tt
below_last (member l e ms) k d ns up = (between (λ y. slice_cmp nat_cmp l y ≡ Less) ms k d ns up.0, below_last ms k d ns up.1)

put-last : (ms : Members) (k : List ℕ) (d : Data) → AllByRecursion (λ l. slice_cmp nat_cmp l k ≡ Less) (keys_of ms) → put k d ms ≡ joined ms (member k d no_members)
put-last no_members k d below = refl
put-last (member l e ms) k d below = rw (flipped l k Less below.0) (ap (member l e) (put-last ms k d below.1))

with_all-rising : (es : List Member) (ms : Members) → Rises (joined ms (members_of es)) → with_all ms es ≡ joined ms (members_of es)
with_all-rising [] ms up = sym (joined-nothing ms)
with_all-rising (e ∷ es) ms up =
    let last = put-last ms e.key (data_of e.value) (below_last ms e.key (data_of e.value) (members_of es) up) in
    let whole : joined (put e.key (data_of e.value) ms) (members_of es) ≡ joined ms (members_of (e ∷ es)) =
    ap (λ (ns : Members). joined ns (members_of es)) last ∙ joined-joined ms (member e.key (data_of e.value) no_members) (members_of es) in
    with_all-rising es (put e.key (data_of e.value) ms) (subst Rises (sym whole) up) ∙ whole

pub with_all-nothing : (es : List Member) → Rises (members_of es) → with_all no_members es ≡ members_of es
with_all-nothing es up = with_all-rising es no_members up

-- once all were put, the map is theirs
pub all_put : (ms : Members) (es fs : List Member) → length es ≡ 0 → with_all ms es ≡ with_all no_members fs
    → Rises (members_of fs) → ms ≡ members_of fs
all_put ms [] fs none so up = so ∙ with_all-nothing fs up
all_put ms (e ∷ es) fs none so up = absurd (omega (arith, none))

-- the keys of a map of members
pub keys_of-members_of : (es : List Member) → keys_of (members_of es) ≡ map (λ (m : Member). m.key) es
keys_of-members_of [] = refl
keys_of-members_of (e ∷ es) = ap (λ (ks : List (List ℕ)). e.key ∷ ks) (keys_of-members_of es)

pub rises_by_keys : (es : List Member) → IsStrictlySortedBy (slice_cmp nat_cmp) (map (λ (m : Member). m.key) es) → Rises (members_of es)
rises_by_keys es up = subst (IsStrictlySortedBy (slice_cmp nat_cmp)) (sym (keys_of-members_of es)) up

pub keys_from_rises : (es : List Member) → Rises (members_of es) → IsStrictlySortedBy (slice_cmp nat_cmp) (map (λ (m : Member). m.key) es)
keys_from_rises es up = subst (IsStrictlySortedBy (slice_cmp nat_cmp)) (keys_of-members_of es) up
