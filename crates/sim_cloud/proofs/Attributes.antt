-- Attributes nest no deeper than the properties that they are taken from.
use Rattle.std.proofs.Common.{◌≡◌, ◌≤◌, ℕ, Bool, true, false, List, [], ◌∷◌, ◌++◌, Some, refl, ap, arith, max}
use Rattle.std.specs.Prelude.{map, fold, unwrap_or, bytes_eq, if◌then◌else◌, decimal}
use Rattle.std.specs.Ordering.{nat_cmp, match_ordering}
use Rattle.std.specs.Cmp.Lexicographic.{slice_cmp}
use Rattle.std.specs.declared.cmp.Ordering.{Ordering}
use Rattle.std.specs.declared.cmp.Ordering.TheVariants.{Less, Equal, Greater}
use Rattle.heat_value.specs.Data.{Data, words, Members, no_members, member, depth, members_depth, fields, keys_of, lookup, put}
use Rattle.heat_value.specs.Meaning.{members_of}
use Rattle.heat_value.specs.declared.value.Member.{Member}
use Rattle.sim_cloud.specs.Rule.{value_of, attrs_of}

pub keys_of_members : (es : List Member) → keys_of (members_of es) ≡ map (λ (e : Member). e.key) es
keys_of_members [] = refl
keys_of_members (e ∷ es) = ap (λ ks. e.key ∷ ks) (keys_of_members es)

depth-put : (k : List ℕ) (d : Data) (ms : Members) → members_depth (put k d ms) ≤ max (depth d) (members_depth ms)
depth-put k d no_members = omega arith
depth-put k d (member l e ms) = by (slice_cmp nat_cmp k l) (depth-put k d ms) where
  by : (o : Ordering) → members_depth (put k d ms) ≤ max (depth d) (members_depth ms)
      → members_depth (match_ordering o (member k d (member l e ms)) (member k d ms) (member l e (put k d ms))) ≤ max (depth d) (max (depth e) (members_depth ms))
  by Less h = omega arith
  by Equal h = omega arith
  by Greater h = omega (arith, h)

depth-value : (props : Members) (row : ℕ) (name : List ℕ) → depth (value_of props row name) ≤ members_depth props
depth-value no_members row name = omega arith
depth-value (member l d ms) row name = by (bytes_eq l name) (depth-value ms row name) where
  by : (b : Bool) → depth (value_of ms row name) ≤ members_depth ms → depth (unwrap_or (if b then Some d else lookup name ms) (words (name ++ 45 ∷ decimal row))) ≤ max (depth d) (members_depth ms)
  by true h = omega arith
  by false h = omega (arith, h)

depth-fold : (names : List (List ℕ)) (props : Members) (row : ℕ) (ms : Members) → members_depth ms ≤ members_depth props
    → members_depth (fold (λ m name. put name (value_of props row name) m) ms names) ≤ members_depth props
depth-fold [] props row ms h = h
depth-fold (name ∷ names) props row ms h =
    depth-fold names props row (put name (value_of props row name) ms) (omega (arith, h, depth-put name (value_of props row name) ms, depth-value props row name))

pub attributes_shallow : (names : List (List ℕ)) (props : Members) (row : ℕ) → depth (fields props) ≤ 64 → depth (fields (attrs_of names props row)) ≤ 64
attributes_shallow names props row h = omega (arith, h, depth-fold names props row no_members (omega arith))
