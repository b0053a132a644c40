-- What holds of all resources or outputs holds of each.
use Rattle.std.proofs.Common.{◌≡◌, ◌<◌, ◌≤◌, ℕ, zero, suc, List, [], ◌∷◌, All, length, get_or, sym, subst, arith}
use Rattle.std.proofs.lemmas.List.Elements.{All-nil, All-cons, All-head, All-tail}
use Rattle.heat_plan.specs.Names.{IsResName}
use Rattle.heat_value.specs.Data.{depth}
use Rattle.heat_value.specs.Meaning.{data_of}
use Rattle.hot_admit.specs.Basis.{BasisData}
use Rattle.hot_admit.specs.Items.{IsFit}
use Rattle.hot_admit.specs.Plans.{AreShallow}
use Rattle.hot_admit.specs.Resources.{ResourceData, resource_data, resources_data, names_of}
use Rattle.hot_admit.specs.Resources.{OutputData, output_data, outputs_data}
use Rattle.hot_tree.specs.declared.out_part.Out.{Out}
use Rattle.hot_tree.specs.declared.res.Res.{Res}

pub name_at : (rs : List Res) (i : ℕ) (r : Res) → All IsResName (names_of (resources_data rs)) → i < length rs
    → r ≡ get_or rs i r → IsResName r.name
name_at [] i r all lt at = absurd (omega (arith, lt))
name_at (q ∷ rs) zero r all lt at =
    subst (λ (x : Res). IsResName x.name) (sym at) (All-head IsResName q.name (names_of (resources_data rs)) all)
name_at (q ∷ rs) (suc i) r all lt at =
    name_at rs i r (All-tail IsResName q.name (names_of (resources_data rs)) all) (omega (arith, lt)) at

pub fit_at : (b : BasisData) (rs : List Res) (i : ℕ) (r : Res) → All (IsFit b) (resources_data rs) → i < length rs
    → r ≡ get_or rs i r → IsFit b (resource_data r)
fit_at b [] i r all lt at = absurd (omega (arith, lt))
fit_at b (q ∷ rs) zero r all lt at = subst (λ (x : Res). IsFit b (resource_data x)) (sym at)
    (All-head (IsFit b) (resource_data q) (resources_data rs) all)
fit_at b (q ∷ rs) (suc i) r all lt at =
    fit_at b rs i r (All-tail (IsFit b) (resource_data q) (resources_data rs) all) (omega (arith, lt)) at

pub shallow_at : (os : List Out) (i : ℕ) (o : Out) → AreShallow (outputs_data os) → i < length os → o ≡ get_or os i o
    → depth (data_of o.value) ≤ 64
shallow_at [] i o all lt at = absurd (omega (arith, lt))
shallow_at (q ∷ os) zero o all lt at = subst (λ (x : Out). depth (data_of x.value) ≤ 64) (sym at)
    (All-head (λ (x : OutputData). depth x.value ≤ 64) (output_data q) (outputs_data os) all)
shallow_at (q ∷ os) (suc i) o all lt at = shallow_at os i o
    (All-tail (λ (x : OutputData). depth x.value ≤ 64) (output_data q) (outputs_data os) all) (omega (arith, lt)) at

pub names_fit : (b : BasisData) (rs : List ResourceData) → All (IsFit b) rs → All IsResName (names_of rs)
names_fit b [] all = All-nil IsResName
names_fit b (r ∷ rs) all = All-cons IsResName r.name (names_of rs) (All-head (IsFit b) r rs all).name
    (names_fit b rs (All-tail (IsFit b) r rs all))
