-- How deep the parts of a body nest.
use Rattle.std.proofs.Common.{◌≡◌, ◌≤◌, ℕ, suc, max, List, Bool, true, false, Option, Some, None, refl, sym, subst, arith}
use Rattle.std.proofs.Common.{bytes_eq, if◌then◌else◌}
use Rattle.heat_value.specs.Data.{Data, null, flag, whole, words, items, fields, Members, no_members, member, lookup}
use Rattle.heat_value.specs.Data.{depth, members_depth}
use Rattle.script_lines.specs.Requested.{object_in}

found_at : (e d : Data) (o : Option Data) (n : ℕ) (b : Bool) → (if b then Some e else o) ≡ Some d
    → (o ≡ Some d → depth d ≤ n) → depth d ≤ max (depth e) n
found_at e d o n true is rest =
    let at : e ≡ d = cc in subst (λ (x : Data). depth d ≤ max (depth x) n) (sym at) (omega arith)
found_at e d o n false is rest = omega (arith, rest is)

-- what stands in an object nests no deeper than its members
pub depth-lookup : (k : List ℕ) (ms : Members) (d : Data) → lookup k ms ≡ Some d → depth d ≤ members_depth ms
depth-lookup k no_members d is = cc
depth-lookup k (member l e ms) d is =
    found_at e d (lookup k ms) (members_depth ms) (bytes_eq l k) is (λ found. depth-lookup k ms d found)

object_depth : (o : Option Data) (n : ℕ) → ((d : Data) → o ≡ Some d → depth d ≤ n) → members_depth (object_in o) ≤ n
object_depth None n below = omega arith
object_depth (Some null) n below = omega arith
object_depth (Some (flag b)) n below = omega arith
object_depth (Some (whole z)) n below = omega arith
object_depth (Some (words s)) n below = omega arith
object_depth (Some (items ns)) n below = omega arith
object_depth (Some (fields ms)) n below = omega (arith, below (fields ms) refl)

-- an object that stands in another nests no deeper
pub members_depth-object_in : (k : List ℕ) (ms : Members) → members_depth (object_in (lookup k ms)) ≤ members_depth ms
members_depth-object_in k ms = object_depth (lookup k ms) (members_depth ms) (λ d is. depth-lookup k ms d is)
