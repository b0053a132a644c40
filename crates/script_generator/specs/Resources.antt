-- The resources of the generated bodies, as data.
use Rattle.std.specs.Prelude.{ℕ, zero, suc, pos, ◌+◌, ◌-◌, ◌/◌, ◌%◌, List, ◌++◌, length, replicate, ◌==◌, nat_lt}
use Rattle.std.specs.Prelude.{if◌then◌else◌, codes, decimal}
use Rattle.heat_value.specs.Data.{Data, whole, words, fields, Members, no_members, member}
use Rattle.script_generator.specs.declared.body.Body.{Body}
use Rattle.script_generator.specs.declared.body.Body.TheVariants.{First, Second}

-- a number in four digits, with zeros in front
abbrev pub four_digits : ℕ → List ℕ
four_digits i = replicate (4 - length (decimal i)) 48 ++ decimal i

-- the name of the resource i
abbrev pub name_of : ℕ → List ℕ
name_of i = codes "r" ++ four_digits i

-- its size: i, and one more in the second body where 3 divides i
abbrev pub size_of : Body → ℕ → ℕ
size_of First i = i
size_of Second i = if i % 3 == 0 then i + 1 else i

-- its zone, which it has in the second body where 7 divides i
abbrev pub zone_of : Body → ℕ → Members
zone_of First i = no_members
zone_of Second i = if i % 7 == 0 then member (codes "zone") (words (codes "z")) no_members else no_members

-- its properties
abbrev pub properties_of : Body → ℕ → Members
properties_of body i = member (codes "size") (whole (pos (size_of body i))) (zone_of body i)

-- its properties and its type
abbrev pub parts_of : Body → ℕ → Members
parts_of body i =
    member (codes "properties") (fields (properties_of body i))
    (member (codes "type") (words (codes "Test::Box")) no_members)

-- the resource: each but the first depends on the one of half its number, rounded down
unfoldable pub resource_of : Body → ℕ → Data
resource_of body i =
    fields (if nat_lt 1 i then member (codes "depends_on") (words (name_of (i / 2))) (parts_of body i)
    else parts_of body i)

-- so many resources by their names, from the resource i on
abbrev pub resources_from : Body → ℕ → ℕ → Members
resources_from body i zero = no_members
resources_from body i (suc k) = member (name_of i) (resource_of body i) (resources_from body (suc i) k)
