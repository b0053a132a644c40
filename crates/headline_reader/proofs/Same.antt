-- A test of equality is the test of sameness.
use Rattle.std.proofs.Common.{◌≡◌, ◌↔◌, Bool, true, false, Option, Some, None, refl, sym, subst, IsTrue}
use Rattle.std.proofs.lemmas.Slice.Eq.{bytes_eq-Decides}
use Rattle.heat_plan.specs.declared.facts.Facts.{Facts}
use Rattle.heat_value.specs.Data.{Members}
use Rattle.provider.specs.Same.{same_flag, same_members}
use Rattle.provider.specs.Table.{TokenState, same_told, same_state}
use Rattle.provider.proofs.Sames.{same_members-same, same_members-other, same_facts-same, same_state-true}

pub same-props : (b : Bool) (x y : Members) → (IsTrue b ↔ (x ≡ y)) → b ≡ same_members x y
same-props true x y h = sym (subst (λ (z : Members). same_members x z ≡ true) (h.0 refl) (same_members-same x))
same-props false x y h = sym (same_members-other x y (λ is. let no_ : IsTrue false = h.1 is in cc))

flag-itself : (b : Bool) → same_flag b b ≡ true
flag-itself true = refl
flag-itself false = refl

told-itself : (x : Option Facts) → same_told x x ≡ true
told-itself None = refl
told-itself (Some f) = same_facts-same f

state-itself : (x : TokenState) → same_state x x ≡ true
state-itself None = refl
state-itself (Some a) = rw ((bytes_eq-Decides a.kind a.kind).1 refl, same_members-same a.props, told-itself a.facts) (flag-itself a.leaving)

pub same-state : (b : Bool) (x y : TokenState) → (IsTrue b ↔ (x ≡ y)) → b ≡ same_state x y
same-state true x y h = sym (subst (λ (z : TokenState). same_state x z ≡ true) (h.0 refl) (state-itself x))
same-state false x y h = go (same_state x y) refl
  where
    go : (t : Bool) → same_state x y ≡ t → false ≡ t
    go true e = let no_ : IsTrue false = h.1 (same_state-true x y e) in cc
    go false e = refl
