-- What stands at a path in a value, and as what it is evaluated there.
use Rattle.std.specs.Prelude.{◌≡◌, ◌⊎◌, ◌+◌, ℕ, List, [], ◌∷◌}
use Rattle.heat_value.specs.Data.{Data, null, flag, whole, words, items, fields, Nodes, no_nodes, node}
use Rattle.heat_value.specs.Data.{Members, no_members, member}
use Rattle.heat_value.specs.declared.path.Step.{Step}
use Rattle.heat_value.specs.declared.path.Step.TheVariants.{Key, Index}
use Rattle.hot_functions.specs.Forms.{lone}
use Rattle.template_laws.specs.Roles.{Role, called_as, item_role, member_role}

-- of a list's values from the place i on, e stands at the place j
abbrev pub HasItem : ℕ → Nodes → ℕ → Data → Type 0
HasItem i no_nodes j e = ⊥
HasItem i (node d ns) j e = ((j ≡ i) × (e ≡ d)) ⊎ HasItem (i + 1) ns j e

-- e stands under the key
abbrev pub HasMember : Members → List ℕ → Data → Type 0
HasMember no_members k e = ⊥
HasMember (member l d ms) k e = ((k ≡ l) × (e ≡ d)) ⊎ HasMember ms k e

-- e stands one step on in a value of this role, and has its own there
abbrev pub IsPart : Role → Data → Step → Role → Data → Type 0
IsPart r null s q e = ⊥
IsPart r (flag b) s q e = ⊥
IsPart r (whole z) s q e = ⊥
IsPart r (words t) s q e = ⊥
IsPart r (items ns) (Key k) q e = ⊥
IsPart r (items ns) (Index i) q e = HasItem 0 ns i e × (q ≡ item_role r i)
IsPart r (fields ms) (Key k) q e = HasMember ms k e × (q ≡ member_role r (called_as r (lone ms)) k)
IsPart r (fields ms) (Index i) q e = ⊥

-- e stands at the path
abbrev pub Reaches : Role → Data → List Step → Role → Data → Type 0
Reaches r d [] q e = (q ≡ r) × (e ≡ d)
Reaches r d (s ∷ path) q e = (p : Role) × (x : Data) × IsPart r d s p x × Reaches p x path q e
