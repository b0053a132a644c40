-- The values of an object rewritten one by one, and the parts behind `refs`.
use Rattle.std.proofs.Common.{◌≡◌, ◌<◌, ◌≤◌, ◌+◌, ◌∙◌, ℕ, List, [], ◌∷◌, None, length, get_or, take, refl, ap, sym, arith}
use Rattle.heat_value.specs.Data.{Data, Nodes, Members, no_members, member, put, Rises}
use Rattle.heat_value.specs.Meaning.{data_of, nodes_of, members_of}
use Rattle.heat_value.specs.declared.value.Value.{Value}
use Rattle.heat_value.specs.declared.value.Member.{Member}
use Rattle.hot_env.specs.Applied.{each_value}
use Rattle.hot_env.proofs.Mapped.{each_more}
use Rattle.hot_groups.specs.References.{rewritten, members_rewritten, ids_for, one_for}

module _ (groups : Members) where
  each-rewritten : (ms : Members) → members_rewritten groups ms ≡ each_value (λ k d. rewritten groups d) ms
  each-rewritten no_members = refl
  each-rewritten (member k d ms) = ap (member k (rewritten groups d)) (each-rewritten ms)

  -- one value more
  pub members_more : (es : List Member) (n : ℕ) (e : Member) (v : Data) → Rises (members_of es) → n < length es
      → e ≡ get_or es n e → v ≡ rewritten groups (data_of e.value)
      → put e.key v (members_rewritten groups (members_of (take n es))) ≡ members_rewritten groups (members_of (take (n + 1) es))
  members_more es n e v rises below is made =
      ap (put e.key v) (each-rewritten (members_of (take n es)))
      ∙ each_more (λ k d. rewritten groups d) es n e v rises below is made ∙ sym (each-rewritten (members_of (take (n + 1) es)))

-- more than one part stands behind `refs`
pub ids-more : (ns : Nodes) (vs : List Value) → 2 ≤ length vs → None ≡ ids_for ns (nodes_of vs)
ids-more ns [] above = absurd (omega (arith, above))
ids-more ns (v ∷ []) above = absurd (omega (arith, above))
ids-more ns (v ∷ w ∷ vs) above = refl

-- something stands behind a member's id
pub id-more : (name : Data) (vs : List Value) → 1 ≤ length vs → None ≡ one_for name None (nodes_of vs)
id-more name [] above = absurd (omega (arith, above))
id-more name (v ∷ vs) above = refl
