-- Each parameter of a template is bound, the pseudo parameters too.
use Rattle.std.proofs.Common.{◌≡◌, ◌⊎◌, List, [], ◌∷◌, ℕ, Bool, true, false, ◌||◌, Option, Some, None, refl, sym}
use Rattle.std.proofs.Common.{inl, inr, subst, bytes_eq, codes, is_some, if◌then◌else◌}
use Rattle.std.proofs.lemmas.Slice.Eq.{bytes_eq-Decides}
use Rattle.std.specs.Cmp.Lexicographic.{slice_cmp}
use Rattle.std.specs.Ordering.{nat_cmp, match_ordering}
use Rattle.std.specs.declared.cmp.Ordering.{Ordering}
use Rattle.std.specs.declared.cmp.Ordering.TheVariants.{Less, Equal, Greater}
use Rattle.heat_value.proofs.Searches.{equal_by}
use Rattle.heat_value.specs.Data.{Data, words, Members, no_members, member, lookup, put}
use Rattle.hot_functions.specs.Walk.{is_parameter, pseudo_parameters}
use Rattle.hot_forms.specs.Checks.{is_among}
use Rattle.hot_params.specs.Bindings.{AreBound}
use Rattle.hot_params.specs.Bound.{IsBoundTo, params_of}
use Rattle.hot_params.specs.Identity.{with_pseudo, stack_id}
use Rattle.hot_params.specs.declared.ids.Ids.{Ids}
use Rattle.type_catalog.specs.declared.custom.NamedTest.{NamedTest}

-- a value stands under the name
abbrev pub Stands : List ℕ → Members → Type 0
Stands name ms = is_some (lookup name ms) ≡ true

-- ---- where a value is put

-- under the name itself, or under another
lookup_by : (name : List ℕ) (k : List ℕ) (d : Data) (ms : Members) (b : Bool)
    → (b ≡ false → Stands name ms) → is_some (if b then Some d else lookup name ms) ≡ true
lookup_by name k d ms true rest = refl
lookup_by name k d ms false rest = rest refl

module _ (k : List ℕ) (d : Data) where
  here : bytes_eq k k ≡ true
  here = (bytes_eq-Decides k k).1 refl

  at_front : (ms : Members) → Stands k (member k d ms)
  at_front ms = subst (λ b. is_some (if b then Some d else lookup k ms) ≡ true) (sym here) refl

  pub put_stands : (ms : Members) → Stands k (put k d ms)
  put_stands no_members = at_front no_members
  put_stands (member l e ms) = by (slice_cmp nat_cmp k l) (put_stands ms)
    where
      by : (o : Ordering) → Stands k (put k d ms)
          → Stands k (match_ordering o (member k d (member l e ms)) (member k d ms) (member l e (put k d ms)))
      by Less later = at_front (member l e ms)
      by Equal later = at_front ms
      by Greater later = lookup_by k l e (put k d ms) (bytes_eq l k) (λ apart. later)

  -- behind a member of another name
  behind : (name l : List ℕ) (e : Data) (ms : Members) → bytes_eq l name ≡ false → Stands name (member l e ms)
      → Stands name ms
  behind name l e ms apart = subst (λ b. is_some (if b then Some e else lookup name ms) ≡ true) apart

  -- what stood there still does
  pub put_keeps : (name : List ℕ) (ms : Members) → Stands name ms → Stands name (put k d ms)
  put_keeps name no_members there = cc
  put_keeps name (member l e ms) there = by (slice_cmp nat_cmp k l) refl (put_keeps name ms)
    where
      by : (o : Ordering) → slice_cmp nat_cmp k l ≡ o → (Stands name ms → Stands name (put k d ms))
          → Stands name (match_ordering o (member k d (member l e ms)) (member k d ms) (member l e (put k d ms)))
      by Less is later = lookup_by name k d (member l e ms) (bytes_eq k name) (λ apart. there)
      by Equal is later = lookup_by name k d ms (bytes_eq k name) (λ apart.
          behind name l e ms (subst (λ x. bytes_eq x name ≡ false) (sym same) apart) there)
        where
          same : l ≡ k
          same = (bytes_eq-Decides l k).0 (equal_by k l Equal is)
      by Greater is later = lookup_by name l e (put k d ms) (bytes_eq l name) (λ apart.
          later (behind name l e ms apart there))

-- ---- parameters

-- each parameter has its value
bound_stands : (tests : List NamedTest) (given params values : Members) → AreBound tests given params values
    → (name : List ℕ) → Stands name params → Stands name values
bound_stands tests given no_members no_members bound name there = cc
bound_stands tests given no_members (member l v vs) bound name there = cc
bound_stands tests given (member k d ms) no_members bound name there = absurd bound
bound_stands tests given (member k d ms) (member l v vs) (same, is, rest) name there =
    lookup_by name l v vs (bytes_eq l name) (λ apart.
    bound_stands tests given ms vs rest name
    (behind k d name k d ms (subst (λ x. bytes_eq x name ≡ false) same apart) there))

-- one of three
one_of_three : (name a b c : List ℕ) → is_among (a ∷ b ∷ c ∷ []) name ≡ true
    → (name ≡ a) ⊎ ((name ≡ b) ⊎ (name ≡ c))
one_of_three name a b c is = by (bytes_eq name a) (bytes_eq name b) (bytes_eq name c) refl refl refl is
  where
    by : (x y z : Bool) → bytes_eq name a ≡ x → bytes_eq name b ≡ y → bytes_eq name c ≡ z
        → (x || (y || (z || false))) ≡ true → (name ≡ a) ⊎ ((name ≡ b) ⊎ (name ≡ c))
    by true y z at_a at_b at_c is = inl ((bytes_eq-Decides name a).0 at_a)
    by false true z at_a at_b at_c is = inr (inl ((bytes_eq-Decides name b).0 at_b))
    by false false true at_a at_b at_c is = inr (inr ((bytes_eq-Decides name c).0 at_c))
    by false false false at_a at_b at_c is = cc

module _ (ids : Ids) (values : Members) where
  abbrev project : Members
  project = put (codes "OS::project_id") (words (codes "demo")) values

  abbrev identity : Members
  identity = put (codes "OS::stack_id") (words (stack_id ids)) project

  named : Stands (codes "OS::stack_name") (with_pseudo ids values)
  named = put_stands (codes "OS::stack_name") (words ids.stack) identity

  of_project : Stands (codes "OS::project_id") (with_pseudo ids values)
  of_project =
      put_keeps (codes "OS::stack_name") (words ids.stack) (codes "OS::project_id") identity
      (put_keeps (codes "OS::stack_id") (words (stack_id ids)) (codes "OS::project_id") project
      (put_stands (codes "OS::project_id") (words (codes "demo")) values))

  identified : Stands (codes "OS::stack_id") (with_pseudo ids values)
  identified =
      put_keeps (codes "OS::stack_name") (words ids.stack) (codes "OS::stack_id") identity
      (put_stands (codes "OS::stack_id") (words (stack_id ids)) project)

  kept : (name : List ℕ) → Stands name values → Stands name (with_pseudo ids values)
  kept name there =
      put_keeps (codes "OS::stack_name") (words ids.stack) name identity
      (put_keeps (codes "OS::stack_id") (words (stack_id ids)) name project
      (put_keeps (codes "OS::project_id") (words (codes "demo")) name values there))

  pseudo_stands : (name : List ℕ) → is_among pseudo_parameters name ≡ true → Stands name (with_pseudo ids values)
  pseudo_stands name is =
      by (one_of_three name (codes "OS::stack_name") (codes "OS::project_id") (codes "OS::stack_id") is)
    where
      by : (name ≡ codes "OS::stack_name") ⊎ ((name ≡ codes "OS::project_id") ⊎ (name ≡ codes "OS::stack_id"))
          → Stands name (with_pseudo ids values)
      by (inl e) = subst (λ x. Stands x (with_pseudo ids values)) (sym e) named
      by (inr (inl e)) = subst (λ x. Stands x (with_pseudo ids values)) (sym e) of_project
      by (inr (inr e)) = subst (λ x. Stands x (with_pseudo ids values)) (sym e) identified

-- what stands there
found : (name : List ℕ) (ms : Members) → Stands name ms → (d : Data) × (lookup name ms ≡ Some d)
found name ms there = by (lookup name ms) refl there
  where
    by : (o : Option Data) → lookup name ms ≡ o → is_some o ≡ true → (d : Data) × (lookup name ms ≡ Some d)
    by None is there = cc
    by (Some d) is there = (d, is)

pub binds_each : (tests : List NamedTest) (ids : Ids) (template given bound : Members)
    → IsBoundTo tests ids template given bound → (name : List ℕ) → is_parameter (params_of template) name ≡ true
    → (d : Data) × (lookup name bound ≡ Some d)
binds_each tests ids template given bound is name known =
    found name bound (subst (Stands name) (sym is.all) (by (is_among pseudo_parameters name) refl known))
  where
    by : (b : Bool) → is_among pseudo_parameters name ≡ b → (b || is_some (lookup name (params_of template))) ≡ true
        → Stands name (with_pseudo ids is.values)
    by true pseudo known = pseudo_stands ids is.values name pseudo
    by false pseudo known =
        kept ids is.values name (bound_stands tests given (params_of template) is.values is.each name known)
