-- How far the parameters are bound.
use Rattle.std.proofs.Common.{◌≡◌, ◌∙◌, ◌+◌, ◌<◌, ◌≤◌, ℕ, List, [], ◌∷◌, ◌++◌, length, get_or, drop}
use Rattle.std.proofs.Common.{refl, ap, sym, subst, Option, Some, None, inl, inr}
use Rattle.std.proofs.lemmas.Cmp.{nat_list_cmp_total}
use Rattle.std.specs.Cmp.Lexicographic.{slice_cmp}
use Rattle.std.specs.List.{AllByRecursion}
use Rattle.std.specs.List.Sorted.{IsStrictlySortedBy}
use Rattle.std.specs.Ordering.{nat_cmp, match_ordering, ordering_reverse}
use Rattle.std.specs.declared.cmp.Ordering.{Ordering}
use Rattle.std.specs.declared.cmp.Ordering.TheVariants.{Less, Greater}
use Rattle.heat_value.specs.Data.{Data, Nodes, node, Members, no_members, member, keys_of, put, lookup}
use Rattle.heat_value.specs.Meaning.{data_of, nodes_of, members_of}
use Rattle.heat_value.specs.declared.value.Value.{Value}
use Rattle.heat_value.specs.declared.value.Member.{Member}
use Rattle.hot_forms.specs.Shapes.{members_in}
use Rattle.hot_forms.specs.declared.sort.Sort.{Sort}
use Rattle.hot_params.proofs.Places.{nodes_at, nodes_end, members_at, members_end}
use Rattle.hot_params.specs.Bindings.{AreMet, IsFirstUnmet, AreBound, IsValueOf, IsFirstFlaw, IsFlawOf}
use Rattle.hot_params.specs.Bindings.{IsOwnFault, IsFirstFault}
use Rattle.hot_params.specs.declared.fault.ParamFault.{ParamFault}
use Rattle.hot_params.specs.declared.fault.ParamFault.TheVariants.{Wrong, Memory}
use Rattle.hot_tree.specs.Constraints.{asked_in}
use Rattle.hot_params.specs.Rules.{GivesFor}
use Rattle.hot_params.specs.declared.code.ParamCode.{ParamCode}
use Rattle.hot_params.specs.declared.fault.ParamFlaw.{ParamFlaw}
use Rattle.type_catalog.specs.declared.custom.NamedTest.{NamedTest}

-- ---- constraints

-- what is found of the constraints that are left, counted from i, is found of all
pub record LeadsTo (tests : List NamedTest) (s : Option Sort) (v : Data) (whole : Nodes) (i : ℕ) (left : Nodes)
    : Type 0 where
  pub met : AreMet tests s v left → AreMet tests s v whole
  pub unmet : (j : ℕ) (c : ParamCode) → IsFirstUnmet tests s v i left j c → IsFirstUnmet tests s v 0 whole j c

module _ (tests : List NamedTest) (s : Option Sort) (v : Data) (whole : Nodes) where
  pub leads_first : LeadsTo tests s v whole 0 whole
  leads_first = record { met = λ m. m; unmet = λ j c u. u }

  pub leads_on : (i : ℕ) (d : Data) (left : Nodes) → LeadsTo tests s v whole i (node d left)
      → GivesFor tests s (asked_in (members_in d)) v None → LeadsTo tests s v whole (i + 1) left
  leads_on i d left h is = record { met = λ m. h.met (is, m); unmet = λ j c u. h.unmet j c (inr (is, u)) }

  pub first_here : (vs : List Value) (n : ℕ) (x : Value) (c : ParamCode) → n < length vs → x ≡ get_or vs n x
      → LeadsTo tests s v whole n (nodes_of (drop n vs))
      → GivesFor tests s (asked_in (members_in (data_of x))) v (Some c) → IsFirstUnmet tests s v 0 whole n c
  first_here vs n x c below at h gives =
      (subst (LeadsTo tests s v whole n) (nodes_at vs n x below at) h).unmet n c (inl (refl, gives))

  pub next_entry : (vs : List Value) (n : ℕ) (x : Value) → n < length vs → x ≡ get_or vs n x
      → LeadsTo tests s v whole n (nodes_of (drop n vs))
      → GivesFor tests s (asked_in (members_in (data_of x))) v None
      → LeadsTo tests s v whole (n + 1) (nodes_of (drop (n + 1) vs))
  next_entry vs n x below at h gives =
      leads_on n (data_of x) _ (subst (LeadsTo tests s v whole n) (nodes_at vs n x below at) h) gives

  pub all_met : (vs : List Value) (n : ℕ) → length vs ≤ n → LeadsTo tests s v whole n (nodes_of (drop n vs))
      → AreMet tests s v whole
  all_met vs n above h = (subst (LeadsTo tests s v whole n) (nodes_end vs n above) h).met tt

-- ---- all parameters

-- one map behind another
abbrev pub joined : Members → Members → Members
joined no_members ms = ms
joined (member k d ls) ms = member k d (joined ls ms)

-- the values of those so far: with the values of those that are left they are all, and a flaw of these is the first
pub record IsOnTheWay (tests : List NamedTest) (given whole values left : Members) : Type 0 where
  pub bound : (vs : Members) → AreBound tests given left vs → AreBound tests given whole (joined values vs)
  pub flaw : (f : ParamFlaw) → IsFirstFlaw tests given left f → IsFirstFlaw tests given whole f
  pub keys : keys_of values ++ keys_of left ≡ keys_of whole

abbrev last : Members → List ℕ → Data → Members
last ms k v = joined ms (member k v no_members)

joined-last : (ms : Members) (k : List ℕ) (v : Data) (vs : Members)
    → joined (last ms k v) vs ≡ joined ms (member k v vs)
joined-last no_members k v vs = refl
joined-last (member l d ms) k v vs = ap (member l d) (joined-last ms k v vs)

joined-none : (ms : Members) → joined ms no_members ≡ ms
joined-none no_members = refl
joined-none (member l d ms) = ap (member l d) (joined-none ms)

keys-last : (ms : Members) (k : List ℕ) (v : Data) (ks : List (List ℕ))
    → keys_of (last ms k v) ++ ks ≡ keys_of ms ++ k ∷ ks
keys-last no_members k v ks = refl
keys-last (member l d ms) k v ks = ap (λ x. l ∷ x) (keys-last ms k v ks)

abbrev cmp : List ℕ → List ℕ → Ordering
cmp = slice_cmp nat_cmp

below : (l k : List ℕ) (ls ks : List (List ℕ)) → AllByRecursion (λ y. cmp l y ≡ Less) (ls ++ k ∷ ks) → cmp l k ≡ Less
below l k [] ks h = h.0
below l k (m ∷ ls) ks h = below l k ls ks h.1

-- a key above all others goes behind the last
put_last : (ms : Members) (k : List ℕ) (v : Data) (ks : List (List ℕ)) → IsStrictlySortedBy cmp (keys_of ms ++ k ∷ ks)
    → put k v ms ≡ last ms k v
unfolding IsStrictlySortedBy
put_last no_members k v ks h = refl
put_last (member l d ms) k v ks h =
    let above : cmp k l ≡ Greater =
    nat_list_cmp_total.antisymm k l ∙ ap ordering_reverse (below l k (keys_of ms) ks h.0) in
    ap (λ o. match_ordering o (member k v (member l d ms)) (member k v ms) (member l d (put k v ms))) above
    ∙ ap (member l d) (put_last ms k v ks h.1)

module _ (tests : List NamedTest) (given whole : Members) where
  pub way_first : IsOnTheWay tests given whole no_members whole
  way_first = record { bound = λ vs b. b; flaw = λ f h. h; keys = refl }

  pub way_on : (values : Members) (k : List ℕ) (d v : Data) (left : Members) → IsStrictlySortedBy cmp (keys_of whole)
      → IsOnTheWay tests given whole values (member k d left) → IsValueOf tests (lookup k given) (members_in d) v
      → IsOnTheWay tests given whole (put k v values) left
  way_on values k d v left rising h is =
      let placed : put k v values ≡ last values k v =
      put_last values k v (keys_of left) (subst (IsStrictlySortedBy cmp) (sym h.keys) rising) in
      subst (λ (ms : Members). IsOnTheWay tests given whole ms left) (sym placed) (record {
        bound = λ vs b. subst (AreBound tests given whole) (sym (joined-last values k v vs))
            (h.bound (member k v vs) (refl, is, b));
        flaw = λ f g. h.flaw f (inr (v, is, g));
        keys = keys-last values k v (keys_of left) ∙ h.keys;
      })

  pub way_end : (values : Members) → IsOnTheWay tests given whole values no_members → AreBound tests given whole values
  way_end values h = subst (AreBound tests given whole) (joined-none values) (h.bound no_members tt)

  pub way_next : (es : List Member) (n : ℕ) (m : Member) (values : Members) (v : Data)
      → n < length es → m ≡ get_or es n m
      → IsStrictlySortedBy cmp (keys_of whole) → IsOnTheWay tests given whole values (members_of (drop n es))
      → IsValueOf tests (lookup m.key given) (members_in (data_of m.value)) v
      → IsOnTheWay tests given whole (put m.key v values) (members_of (drop (n + 1) es))
  way_next es n m values v below at rising h is =
      way_on values m.key (data_of m.value) v _ rising
      (subst (IsOnTheWay tests given whole values) (members_at es n m below at) h) is

  pub way_flaw : (es : List Member) (n : ℕ) (m : Member) (values : Members) (f : ParamFlaw) → n < length es
      → m ≡ get_or es n m → IsOnTheWay tests given whole values (members_of (drop n es))
      → IsFlawOf tests m.key (lookup m.key given) (members_in (data_of m.value)) f → IsFirstFlaw tests given whole f
  way_flaw es n m values f below at h is =
      (subst (IsOnTheWay tests given whole values) (members_at es n m below at) h).flaw f (inl is)

  -- the same of a fault
  pub way_fault : (es : List Member) (n : ℕ) (m : Member) (values : Members) (e : ParamFault) → n < length es
      → m ≡ get_or es n m → IsOnTheWay tests given whole values (members_of (drop n es))
      → IsOwnFault tests m.key (lookup m.key given) (members_in (data_of m.value)) e → IsFirstFault tests given whole e
  way_fault es n m values (Wrong f) below at h is = way_flaw es n m values f below at h is
  way_fault es n m values Memory below at h is = tt

  pub way_all : (es : List Member) (n : ℕ) (values : Members) → length es ≤ n
      → IsOnTheWay tests given whole values (members_of (drop n es)) → AreBound tests given whole values
  way_all es n values above h =
      way_end values (subst (IsOnTheWay tests given whole values) (members_end es n above) h)
