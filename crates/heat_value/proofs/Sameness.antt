-- Lists and maps that are the same, part by part.
use Rattle.std.proofs.Common.{◌≡◌, List, [], ◌∷◌, length, refl, ap, suc}
use Rattle.heat_value.specs.Meaning.{data_of, nodes_of, members_of}
use Rattle.heat_value.specs.declared.value.Value.{Value}
use Rattle.heat_value.specs.declared.value.Value.TheVariants as value
use Rattle.heat_value.specs.declared.value.Member.{Member}

pub same_nodes_length : (xs ys : List Value) → nodes_of xs ≡ nodes_of ys → length xs ≡ length ys
same_nodes_length [] [] e = refl
same_nodes_length [] (y ∷ ys) e = cc
same_nodes_length (x ∷ xs) [] e = cc
same_nodes_length (x ∷ xs) (y ∷ ys) e = let rest : nodes_of xs ≡ nodes_of ys = cc in ap suc (same_nodes_length xs ys rest)

pub same_members_length : (xs ys : List Member) → members_of xs ≡ members_of ys → length xs ≡ length ys
same_members_length [] [] e = refl
same_members_length [] (y ∷ ys) e = cc
same_members_length (x ∷ xs) [] e = cc
same_members_length (x ∷ xs) (y ∷ ys) e = let rest : members_of xs ≡ members_of ys = cc in ap suc (same_members_length xs ys rest)

-- equal data is that of equal values
pub same_data : (v w : Value) → data_of v ≡ data_of w → v ≡ w
same_data value.Null value.Null e = refl
same_data (value.Flag a) (value.Flag b) e = cc
same_data (value.Whole a) (value.Whole b) e = cc
same_data (value.Words a) (value.Words b) e = cc
same_data (value.Items a) (value.Items b) e = cc
same_data (value.Fields a) (value.Fields b) e = cc
same_data _ _ e = cc

pub ruleset for_equals = (same_nodes_length, same_members_length, same_data)
