-- What a template holds nests less deep than it does.
use Rattle.std.proofs.Common.{◌≡◌, ◌≤◌, ℕ, max, List, Bool, true, false, Option, Some, None, refl, sym, subst, arith}
use Rattle.std.proofs.Common.{if◌then◌else◌, codes}
use Rattle.std.specs.Str.{bytes_eq}
use Rattle.heat_value.specs.Data.{Data, null, flag, whole, words, items, fields, Members, no_members, member, lookup}
use Rattle.heat_value.specs.Data.{depth, members_depth}
use Rattle.hot_forms.specs.Sections.{unless_null, section}
use Rattle.hot_forms.specs.Shapes.{members_in}
use Rattle.std.proofs.lemmas.List.Elements.{All-nil, All-cons}
use Rattle.hot_admit.specs.Plans.{AreShallow}
use Rattle.hot_admit.specs.Resources.{OutputData, output_with, outputs_among}
use Rattle.hot_tree.specs.Readings.{object_in, or_null, entries}

found_at : (l k : List ℕ) (e d : Data) (o : Option Data) (n : ℕ) (b : Bool) → (if b then Some e else o) ≡ Some d
    → (o ≡ Some d → depth d ≤ n) → depth d ≤ max (depth e) n
found_at l k e d o n true is rest =
    let at : e ≡ d = cc in subst (λ (x : Data). depth d ≤ max (depth x) n) (sym at) (omega arith)
found_at l k e d o n false is rest = omega (arith, rest is)

pub lookup_depth : (k : List ℕ) (ms : Members) (d : Data) → lookup k ms ≡ Some d → depth d ≤ members_depth ms
lookup_depth k no_members d is = cc
lookup_depth k (member l e ms) d is =
    found_at l k e d (lookup k ms) (members_depth ms) (bytes_eq l k) is (λ found. lookup_depth k ms d found)

pub members_in_depth : (d : Data) → members_depth (members_in d) ≤ depth d
members_in_depth null = omega arith
members_in_depth (flag b) = omega arith
members_in_depth (whole z) = omega arith
members_in_depth (words s) = omega arith
members_in_depth (items ns) = omega arith
members_in_depth (fields ms) = omega arith

not_null : (o : Option Data) (d : Data) → unless_null o ≡ Some d → o ≡ Some d
not_null None d is = cc
not_null (Some null) d is = cc
not_null (Some (flag b)) d is = is
not_null (Some (whole z)) d is = is
not_null (Some (words s)) d is = is
not_null (Some (items ns)) d is = is
not_null (Some (fields ms)) d is = is

-- the entries of a section nest no deeper than what it stands in
pub entries_depth : (k : List ℕ) (ms : Members) → members_depth (entries k ms) ≤ members_depth ms
entries_depth k ms = by (section k ms) (λ d is. lookup_depth k ms d (not_null (lookup k ms) d is))
  where
    by : (o : Option Data) → ((d : Data) → o ≡ Some d → depth d ≤ members_depth ms)
        → members_depth (object_in o) ≤ members_depth ms
    by None all = omega arith
    by (Some d) all = omega (arith, all d refl, members_in_depth d)

-- an object nests at least once
one_deep : (d : Data) (n : ℕ) → depth d ≤ n → 1 ≤ n → depth (fields (members_in d)) ≤ n
one_deep null n at one = omega (arith, one)
one_deep (flag b) n at one = omega (arith, one)
one_deep (whole z) n at one = omega (arith, one)
one_deep (words s) n at one = omega (arith, one)
one_deep (items ns) n at one = omega (arith, one)
one_deep (fields ms) n at one = at

-- the object under a key
pub object_depth : (k : List ℕ) (ms : Members) → members_depth ms ≤ 64 → depth (fields (object_in (lookup k ms))) ≤ 64
object_depth k ms shallow = by (lookup k ms) (λ d is. lookup_depth k ms d is)
  where
    by : (o : Option Data) → ((d : Data) → o ≡ Some d → depth d ≤ members_depth ms)
        → depth (fields (object_in o)) ≤ 64
    by None all = omega arith
    by (Some d) all = one_deep d 64 (omega (arith, all d refl, shallow)) (omega arith)

-- the value under a key, null where there is none
pub value_depth : (k : List ℕ) (ms : Members) → members_depth ms ≤ 64 → depth (or_null (lookup k ms)) ≤ 64
value_depth k ms shallow = by (lookup k ms) (λ d is. lookup_depth k ms d is)
  where
    by : (o : Option Data) → ((d : Data) → o ≡ Some d → depth d ≤ members_depth ms) → depth (or_null o) ≤ 64
    by None all = omega arith
    by (Some d) all = omega (arith, all d refl, shallow)

-- each output's value
pub outputs_depth : (ms : Members) → members_depth ms ≤ 64 → AreShallow (outputs_among ms)
outputs_depth no_members shallow = All-nil (λ (o : OutputData). depth o.value ≤ 64)
outputs_depth (member k d ms) shallow =
    All-cons (λ (o : OutputData). depth o.value ≤ 64) (output_with k (members_in d)) (outputs_among ms)
    (value_depth (codes "value") (members_in d) (omega (arith, members_in_depth d, shallow)))
    (outputs_depth ms (omega (arith, shallow)))
