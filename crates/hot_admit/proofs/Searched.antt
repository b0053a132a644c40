-- The resources of a template, as a search among their names finds them.
use Rattle.std.proofs.Common.{◌≡◌, ℕ, List, [], ◌∷◌, Option, Some, Bool, true, false, refl, ap, subst}
use Rattle.std.proofs.Common.{map, option_map, cond, find, bytes_eq}
use Rattle.heat_plan.specs.Order.{Rising}
use Rattle.hot_admit.specs.Basis.{resource_named}
use Rattle.hot_admit.specs.Resources.{ResourceData, resource_data, resources_data, names_of}
use Rattle.hot_tree.specs.declared.res.Res.{Res}

names_are : (rs : List Res) → names_of (resources_data rs) ≡ map (λ (r : Res). r.name) rs
names_are [] = refl
names_are (r ∷ rs) = ap (λ (ns : List (List ℕ)). r.name ∷ ns) (names_are rs)

pub named_rising : (rs : List Res) → Rising (names_of (resources_data rs)) → Rising (map (λ (r : Res). r.name) rs)
named_rising rs up = subst Rising (names_are rs) up

-- what is found among them is the resource of the name
pub named_found : (name : List ℕ) (rs : List Res)
    → option_map resource_data (find (λ (r : Res). bytes_eq r.name name) rs) ≡ resource_named (resources_data rs) name
named_found name [] = refl
named_found name (r ∷ rs) = by (bytes_eq r.name name) (named_found name rs)
  where
    by : (b : Bool)
        → option_map resource_data (find (λ (r : Res). bytes_eq r.name name) rs)
        ≡ resource_named (resources_data rs) name
        → option_map resource_data (cond b (Some r) (find (λ (r : Res). bytes_eq r.name name) rs))
        ≡ cond b (Some (resource_data r)) (resource_named (resources_data rs) name)
    by true rest = refl
    by false rest = rest
