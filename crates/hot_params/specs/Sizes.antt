-- How much a value holds, and bounds on numbers.
use Rattle.std.specs.Prelude.{ℕ, ℤ, pos, List, [], ◌∷◌, ◌+◌, Bool, true, false, ◌&&◌, nat_le, Option}
use Rattle.std.specs.Prelude.{Some, None, codes}
use Rattle.std.specs.Prelude.{int_le, if◌then◌else◌}
use Rattle.std.specs.Int.{int_rem_euclid}
use Rattle.std.specs.Ordering.{int_eq}
use Rattle.heat_value.specs.Data.{Data, null, flag, whole, words, items, fields, Nodes, no_nodes, node}
use Rattle.heat_value.specs.Data.{Members, no_members, member, lookup}

-- how many characters: the bytes that begin one, all but 128 to 191
abbrev pub characters : List ℕ → ℕ
characters [] = 0
characters (b ∷ bs) = if nat_le 128 b && nat_le b 191 then characters bs else 1 + characters bs

abbrev pub count_nodes : Nodes → ℕ
count_nodes no_nodes = 0
count_nodes (node d ns) = 1 + count_nodes ns

abbrev pub count_members : Members → ℕ
count_members no_members = 0
count_members (member k d ms) = 1 + count_members ms

-- the count of characters, items or entries
abbrev pub size_of : Data → ℕ
size_of null = 0
size_of (flag b) = 0
size_of (whole z) = 0
size_of (words s) = characters s
size_of (items ns) = count_nodes ns
size_of (fields ms) = count_members ms

-- the number is at least the one that stands there
abbrev pub is_from : Option Data → ℤ → Bool
is_from None z = true
is_from (Some null) z = true
is_from (Some (flag b)) z = true
is_from (Some (whole least)) z = int_le least z
is_from (Some (words s)) z = true
is_from (Some (items ns)) z = true
is_from (Some (fields ms)) z = true

-- the number is at most the one that stands there
abbrev pub is_up_to : Option Data → ℤ → Bool
is_up_to None z = true
is_up_to (Some null) z = true
is_up_to (Some (flag b)) z = true
is_up_to (Some (whole most)) z = int_le z most
is_up_to (Some (words s)) z = true
is_up_to (Some (items ns)) z = true
is_up_to (Some (fields ms)) z = true

-- the number is within `min` and `max`, as far as they are there
abbrev pub is_within : Members → ℤ → Bool
is_within bounds z = is_from (lookup (codes "min") bounds) z && is_up_to (lookup (codes "max") bounds) z

-- the number leaves this remainder, from 0 to step - 1, on division by the step
abbrev pub leaves : Option Data → Option Data → ℤ → Bool
leaves (Some (whole offset)) (Some (whole step)) z =
    int_le (pos 1) step && int_eq (int_rem_euclid z step) offset
leaves (Some (whole offset)) None z = false
leaves (Some (whole offset)) (Some null) z = false
leaves (Some (whole offset)) (Some (flag b)) z = false
leaves (Some (whole offset)) (Some (words s)) z = false
leaves (Some (whole offset)) (Some (items ns)) z = false
leaves (Some (whole offset)) (Some (fields ms)) z = false
leaves None step z = false
leaves (Some null) step z = false
leaves (Some (flag b)) step z = false
leaves (Some (words s)) step z = false
leaves (Some (items ns)) step z = false
leaves (Some (fields ms)) step z = false

-- the same of the parts of a constraint's argument
abbrev pub is_remainder : Members → ℤ → Bool
is_remainder parts z = leaves (lookup (codes "offset") parts) (lookup (codes "step") parts) z

-- a test of a whole number; no other value passes it
abbrev pub of_whole : (ℤ → Bool) → Data → Bool
of_whole test null = false
of_whole test (flag b) = false
of_whole test (whole z) = test z
of_whole test (words s) = false
of_whole test (items ns) = false
of_whole test (fields ms) = false
