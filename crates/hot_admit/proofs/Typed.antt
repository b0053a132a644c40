-- A template's parts by type say the same as its object.
use Rattle.std.proofs.Common.{◌≡◌, ℕ, List, [], ◌∷◌, refl, ap, codes}
use Rattle.heat_value.specs.Data.{Data, Members, no_members, member, keys_of, Rises}
use Rattle.hot_admit.specs.Resources.{resource_with, resources_among, resource_data, resources_data}
use Rattle.hot_admit.specs.Resources.{names_of}
use Rattle.hot_admit.specs.Resources.{output_with, outputs_among, output_data, outputs_data}
use Rattle.hot_forms.specs.Shapes.{members_in}
use Rattle.heat_plan.specs.Order.{Rising}
use Rattle.hot_tree.specs.PartEntries.{IsRes, IsOut}
use Rattle.hot_tree.specs.Parts.{ArePartsOf}
use Rattle.hot_tree.specs.Readings.{AreEach, entries}
use Rattle.hot_tree.specs.declared.parts.Parts.{Parts}
use Rattle.hot_tree.specs.declared.out_part.Out.{Out}
use Rattle.hot_tree.specs.declared.res.Res.{Res}

resource_same : (k : List ℕ) (d : Data) (r : Res) → IsRes k d r → resource_data r ≡ resource_with k (members_in d)
resource_same k d r h =
    rw (h.named, h.kind, h.cond, h.props, h.depends_on, h.policy, h.update_policy, h.external_id) refl

pub resources_same : (ms : Members) (rs : List Res) → AreEach IsRes ms rs → resources_data rs ≡ resources_among ms
resources_same no_members [] h = refl
resources_same no_members (r ∷ rs) h = absurd h
resources_same (member k d ms) [] h = absurd h
resources_same (member k d ms) (r ∷ rs) h =
    let first : resource_data r ≡ resource_with k (members_in d) = resource_same k d r h.0 in
    let rest : resources_data rs ≡ resources_among ms = resources_same ms rs h.1 in cc

output_same : (k : List ℕ) (d : Data) (o : Out) → IsOut k d o → output_data o ≡ output_with k (members_in d)
output_same k d o h = rw (h.named, h.value, h.cond) refl

pub outputs_same : (ms : Members) (os : List Out) → AreEach IsOut ms os → outputs_data os ≡ outputs_among ms
outputs_same no_members [] h = refl
outputs_same no_members (o ∷ os) h = absurd h
outputs_same (member k d ms) [] h = absurd h
outputs_same (member k d ms) (o ∷ os) h =
    let first : output_data o ≡ output_with k (members_in d) = output_same k d o h.0 in
    let rest : outputs_data os ≡ outputs_among ms = outputs_same ms os h.1 in cc

-- the names of resources are the keys of their section
pub names_are_keys : (ms : Members) → names_of (resources_among ms) ≡ keys_of ms
names_are_keys no_members = refl
names_are_keys (member k d ms) = ap (λ (l : List (List ℕ)). k ∷ l) (names_are_keys ms)

-- the resources come in byte order of their names
pub in_order : (t : Members) (p : Parts) → ArePartsOf t p → Rises (entries (codes "resources") t)
    → Rising (names_of (resources_data p.resources))
in_order t p are up =
    rw (
      resources_same (entries (codes "resources") t) p.resources are.resources,
      names_are_keys (entries (codes "resources") t),
    ) up
