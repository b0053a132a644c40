-- What a change asks for, known as a mere fact alone, as one of its cases.
use Rattle.std.proofs.Common.{◌≡◌, ◌≢◌, ◌∙◌, ◌==◌, ◌&&◌, ◌||◌, ℕ, List, Bool, true, false, not, Option, None, Some}
use Rattle.std.proofs.Common.{refl, ap, sym, subst, if◌then◌else◌}
use Rattle.std.specs.Prelude.{Contains, Decides}
use Rattle.std.specs.Coded.{Coded-set}
use Rattle.std.specs.Cmp.Lexicographic.{pointwise}
use Rattle.std.specs.Cmp.{booleans_Decides, signed_Decides, unsigned_Decides}
use Rattle.std.specs.Ordering.{int_eq}
use Rattle.std.specs.Set.{is_member}
use Rattle.std.specs.Str.{bytes_eq}
use Rattle.std.proofs.Math.Bool.{Bool-set, beq}
use Rattle.std.proofs.Math.Logic.{∥∥₁_elim}
use Rattle.std.proofs.lemmas.Bool.{both_ways}
use Rattle.std.proofs.lemmas.Map.Made.{is_member-Decides}
use Rattle.std.proofs.lemmas.Option.{none-some}
use Rattle.std.proofs.lemmas.Slice.Eq.{bytes_eq-Decides, slice_eq-Decides}
use Rattle.heat_value.specs.Code.{Token, data_from, data_from-tokens, members_code, tokens}
use Rattle.heat_value.specs.Data.{Data, Members, member, no_members, lookup}
use Rattle.type_catalog.specs.Changes.{ChangeOf, Differs, same, in_place, replace}
use Rattle.type_catalog.specs.declared.effect.Effect.{Effect}
use Rattle.type_catalog.specs.declared.effect.Effect.TheVariants.{Same, InPlace, Replace}

-- ---- truth values

both_true : (a b : Bool) → (a && b) ≡ true → (a ≡ true) × (b ≡ true)
both_true true b e = (refl, e)
both_true false b e = absurd (both_ways false refl e)

true_both : (a b : Bool) → a ≡ true → b ≡ true → (a && b) ≡ true
true_both true b e f = f
true_both false b e f = e

true_left : (a b : Bool) → a ≡ true → (a || b) ≡ true
true_left true b e = refl
true_left false b e = absurd (both_ways false refl e)

true_right : (a b : Bool) → b ≡ true → (a || b) ≡ true
true_right true b e = refl
true_right false b e = e

not_true : (b : Bool) → not b ≡ true → b ≡ false
not_true true e = sym e
not_true false e = refl

true_not : (b : Bool) → ¬ (b ≡ true) → not b ≡ true
true_not true un = absurd (un refl)
true_not false un = refl

-- ---- whether two values are the same

pair_Decides : {A B : Type 0} (f : A → A → Bool) (g : B → B → Bool) → ((a b : A) → Decides (f a b) (a ≡ b))
    → ((a b : B) → Decides (g a b) (a ≡ b)) → (x y : A × B) → Decides (f x.0 y.0 && g x.1 y.1) (x ≡ y)
pair_Decides f g left right x y = (
  λ e. let parts = both_true (f x.0 y.0) (g x.1 y.1) e in
      λ i. ((left x.0 y.0).0 parts.0 i, (right x.1 y.1).0 parts.1 i),
  λ e. true_both _ _ ((left x.0 y.0).1 (ap (λ p. p.0) e)) ((right x.1 y.1).1 (ap (λ p. p.1) e)),
)

abbrev token_eq : Token → Token → Bool
token_eq a b = (a.0 == b.0) && (beq a.1.0 b.1.0 && (int_eq a.1.1.0 b.1.1.0 && bytes_eq a.1.1.1 b.1.1.1))

token_Decides : (a b : Token) → Decides (token_eq a b) (a ≡ b)
token_Decides = pair_Decides ◌==◌ _ unsigned_Decides (pair_Decides beq _ booleans_Decides
    (pair_Decides int_eq bytes_eq signed_Decides bytes_eq-Decides))

abbrev data_same : Data → Data → Bool
data_same a b = pointwise token_eq (tokens a) (tokens b)

data_Decides : (a b : Data) → Decides (data_same a b) (a ≡ b)
data_Decides a b =
    let all = slice_eq-Decides token_Decides (tokens a) (tokens b) (data_same a b) refl in (
      λ e. sym (data_from-tokens a) ∙ ap data_from (all.0 e) ∙ data_from-tokens b,
      λ e. all.1 (ap tokens e),
    )

abbrev found_same : Option Data → Option Data → Bool
found_same None None = true
found_same None (Some b) = false
found_same (Some a) None = false
found_same (Some a) (Some b) = data_same a b

found_Decides : (a b : Option Data) → Decides (found_same a b) (a ≡ b)
found_Decides None None = (λ e. refl, λ e. refl)
found_Decides None (Some b) = (λ e. absurd (both_ways false refl e), λ e. absurd (none-some b e))
found_Decides (Some a) None = (λ e. absurd (both_ways false refl e), λ e. absurd (none-some a (sym e)))
found_Decides (Some a) (Some b) = (
  λ e. ap Some ((data_Decides a b).0 e),
  λ e. let inner : a ≡ b = cc in (data_Decides a b).1 inner,
)

-- ---- a property that differs and doesn't change in place

abbrev is_hard : List (List ℕ) → Members → Members → List ℕ → Bool
is_hard softs old new key = not (found_same (lookup key old) (lookup key new)) && not (is_member bytes_eq softs key)

hard_differs : (softs : List (List ℕ)) (old new : Members) (key : List ℕ) → is_hard softs old new key ≡ true
    → Differs old new key × (¬ Contains softs key)
hard_differs softs old new key e =
    let parts = both_true _ _ e in (
      λ is. both_ways _ (not_true _ parts.0) ((found_Decides (lookup key old) (lookup key new)).1 is),
      λ has. both_ways _ (not_true _ parts.1) ((is_member-Decides bytes_eq-Decides softs key).1 has),
    )

differs_hard : (softs : List (List ℕ)) (old new : Members) (key : List ℕ) → Differs old new key
    → ¬ Contains softs key → is_hard softs old new key ≡ true
differs_hard softs old new key differs lacks = true_both _ _
    (true_not _ (λ is. differs ((found_Decides (lookup key old) (lookup key new)).0 is)))
    (true_not _ (λ is. lacks ((is_member-Decides bytes_eq-Decides softs key).0 is)))

abbrev any_key : (List ℕ → Bool) → Members → Bool
any_key test no_members = false
any_key test (member k d ms) = test k || any_key test ms

key_of : (test : List ℕ → Bool) (ms : Members) → any_key test ms ≡ true → (key : List ℕ) × (test key ≡ true)
key_of test no_members e = absurd (both_ways false refl e)
key_of test (member k d ms) e = by (test k) refl e (key_of test ms) where
  by : (b : Bool) → test k ≡ b → (b || any_key test ms) ≡ true
      → (any_key test ms ≡ true → (key : List ℕ) × (test key ≡ true)) → (key : List ℕ) × (test key ≡ true)
  by true is any later = (k, is)
  by false is any later = later any

any_of : (test : List ℕ → Bool) (ms : Members) (key : List ℕ) → lookup key ms ≢ None → test key ≡ true
    → any_key test ms ≡ true
any_of test no_members key some is = absurd (some refl)
any_of test (member l d ms) key some is = by (bytes_eq l key) refl some (λ later. any_of test ms key later is) where
  by : (b : Bool) → bytes_eq l key ≡ b → (if b then Some d else lookup key ms) ≢ None
      → (lookup key ms ≢ None → any_key test ms ≡ true) → (test l || any_key test ms) ≡ true
  by true here some later = true_left _ _ (subst (λ (x : List ℕ). test x ≡ true) (sym ((bytes_eq-Decides l key).0 here)) is)
  by false here some later = true_right _ _ (later some)

-- ---- the cases

module _ (softs : List (List ℕ)) (old new : Members) where
  equal_of : ChangeOf softs old new Same → old ≡ new
  equal_of (same e) = e

  unequal_of : ChangeOf softs old new InPlace → old ≢ new
  unequal_of (in_place e soft) = e

  soft_of : ChangeOf softs old new InPlace → (key : List ℕ) → Differs old new key → Contains softs key
  soft_of (in_place e soft) = soft

  hard_of : ChangeOf softs old new Replace
      → (any_key (is_hard softs old new) old || any_key (is_hard softs old new) new) ≡ true
  hard_of (replace key differs lacks) = by (lookup key old) refl where
    by : (found : Option Data) → lookup key old ≡ found
        → (any_key (is_hard softs old new) old || any_key (is_hard softs old new) new) ≡ true
    by None is = true_right _ _ (any_of _ new key (λ none. differs (is ∙ sym none))
        (differs_hard softs old new key differs lacks))
    by (Some d) is = true_left _ _ (any_of _ old key (λ none. none-some d (sym none ∙ is))
        (differs_hard softs old new key differs lacks))

  replaced : (key : List ℕ) × (is_hard softs old new key ≡ true) → ChangeOf softs old new Replace
  replaced it = let parts = hard_differs softs old new it.0 it.1 in replace it.0 parts.0 parts.1

  replaced_by : (b : Bool) → any_key (is_hard softs old new) old ≡ b
      → (b || any_key (is_hard softs old new) new) ≡ true → ChangeOf softs old new Replace
  replaced_by true is any = replaced (key_of _ old is)
  replaced_by false is any = replaced (key_of _ new any)

  pub change_again : (effect : Effect) → ∥ ChangeOf softs old new effect ∥₁ → ChangeOf softs old new effect
  change_again Same t = same (∥∥₁_elim t (Coded-set members_code old new) equal_of)
  change_again InPlace t = in_place (λ e. ∥∥₁_elim t (λ x y. absurd x) (λ c. unequal_of c e)) (λ key differs.
      (is_member-Decides bytes_eq-Decides softs key).0 (∥∥₁_elim t (Bool-set _ _)
      (λ c. (is_member-Decides bytes_eq-Decides softs key).1 (soft_of c key differs))))
  change_again Replace t = replaced_by _ refl (∥∥₁_elim t (Bool-set _ _) hard_of)
