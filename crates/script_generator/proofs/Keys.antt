-- The keys of the bodies: so many, and rising.
use Rattle.std.proofs.Common.{◌≡◌, ℕ, zero, suc, pos, ◌+◌, ◌/◌, ◌<◌, ◌≤◌, length, refl, ap, arith, Bool, true, false, codes, nat_lt, ◌==◌, ◌%◌, List, if◌then◌else◌}
use Rattle.std.specs.Ordering.{nat_cmp}
use Rattle.std.specs.declared.cmp.Ordering.TheVariants.{Less}
use Rattle.std.specs.Cmp.Lexicographic.{slice_cmp}
use Rattle.std.specs.List.{AllByRecursion}
use Rattle.std.specs.List.Sorted.{IsStrictlySortedBy}
use Rattle.heat_value.specs.Data.{Data, whole, words, fields, member, no_members, keys_of, Rises}
use Rattle.script_generator.specs.Resources.{name_of, size_of, resource_of, resources_from, properties_of}
use Rattle.script_generator.specs.Rising.{KeysRise, KeysRiseInMembers}
use Rattle.script_generator.specs.Script.{body_of}
use Rattle.script_generator.specs.declared.body.Body.{Body}
use Rattle.script_generator.specs.declared.body.Body.TheVariants.{First, Second}
use Rattle.script_generator.proofs.Digits.{name_rises}

-- there are so many of them
pub so_many : (body : Body) (i k : ℕ) → length (keys_of (resources_from body i k)) ≡ k
so_many body i zero = refl
so_many body i (suc k) = ap suc (so_many body (suc i) k)

-- each name from a later number on is greater
all_greater : (body : Body) (i j k : ℕ) → i < j → j + k ≤ 10000
    → AllByRecursion (λ name. slice_cmp nat_cmp (name_of i) name ≡ Less) (keys_of (resources_from body j k))
all_greater body i j zero less small = tt
all_greater body i j (suc k) less small =
    (name_rises i j less (omega arith), all_greater body i (suc j) k (omega arith) (omega arith))

-- the names rise
names_rise : (body : Body) (i k : ℕ) → i + k ≤ 10000 → Rises (resources_from body i k)
unfolding IsStrictlySortedBy
names_rise body i zero small = tt
names_rise body i (suc k) small =
    (all_greater body i (suc i) k (omega arith) (omega arith), names_rise body (suc i) k (omega arith))

-- a size comes before a zone
zone_behind : (size : Data) (zoned : Bool) → KeysRise size → KeysRise (fields (member (codes "size") size (if zoned then member (codes "zone") (words (codes "z")) no_members else no_members)))
unfolding IsStrictlySortedBy
zone_behind size true rise = (((refl, tt), (tt, tt)), (rise, (tt, tt)))
zone_behind size false rise = ((tt, tt), (rise, tt))

properties_rise : (body : Body) (i : ℕ) → KeysRise (fields (properties_of body i))
properties_rise First i = zone_behind (whole (pos i)) false tt
properties_rise Second i = zone_behind (whole (pos (size_of Second i))) (i % 7 == 0) tt

-- what is depended on comes before the properties, and these before the type
need_before : (needs : Bool) (name : List ℕ) (properties : Data) → KeysRise properties →
    let parts = member (codes "properties") properties (member (codes "type") (words (codes "Test::Box")) no_members) in
    KeysRise (fields (if needs then member (codes "depends_on") (words name) parts else parts))
unfolding IsStrictlySortedBy
need_before true name properties rise = (((refl, (refl, tt)), ((refl, tt), (tt, tt))), (tt, (rise, (tt, tt))))
need_before false name properties rise = (((refl, tt), (tt, tt)), (rise, (tt, tt)))

resource_rises : (body : Body) (i : ℕ) → KeysRise (resource_of body i)
unfolding resource_of
resource_rises body i = need_before (nat_lt 1 i) (name_of (i / 2)) (fields (properties_of body i)) (properties_rise body i)

resources_rise : (body : Body) (i k : ℕ) → KeysRiseInMembers (resources_from body i k)
resources_rise body i zero = tt
resources_rise body i (suc k) = (resource_rises body i, resources_rise body (suc i) k)

-- in each object of a body the keys rise
pub body_rises : (body : Body) (n : ℕ) → n ≤ 500 → KeysRise (body_of body n)
unfolding body_of IsStrictlySortedBy
body_rises body n most =
    ((tt, tt), ((((refl, tt), (tt, tt)), (tt, ((names_rise body 1 n (omega arith), resources_rise body 1 n), tt))), tt))
