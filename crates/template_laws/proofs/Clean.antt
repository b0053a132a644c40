-- Values in which template checks and admission find nothing, part by part.
use Rattle.std.proofs.Common.{◌≡◌, ◌+◌, List, [], ◌∷◌, ℕ, Bool, true, false, not, Option, Some, None, refl, subst}
use Rattle.std.proofs.Common.{is_some, codes}
use Rattle.heat_value.specs.Data.{Data, null, flag, whole, words, items, fields, Nodes, no_nodes, node}
use Rattle.heat_value.specs.Data.{Members, no_members, member, lookup}
use Rattle.heat_value.specs.declared.path.Step.TheVariants.{Key, Index}
use Rattle.hot_admit.specs.Basis.{BasisData}
use Rattle.hot_admit.specs.Places.{Sort, place_in, place_among, place_under, lone_is}
use Rattle.hot_admit.specs.References.{is_unknown_reference, is_unknown_resource, is_unknown_file}
use Rattle.hot_admit.specs.Unsupported.{is_unsupported}
use Rattle.hot_catalog.specs.Paths.{behind}
use Rattle.hot_forms.specs.Checks.{under, unless, first_of}
use Rattle.hot_forms.specs.declared.code.HotCode.TheVariants.{H22, H24}
use Rattle.hot_functions.specs.Forms.{lone, has_form}
use Rattle.hot_functions.specs.Places.{item_place, member_place, form_at}
use Rattle.hot_functions.specs.Walk.{value_flaw, items_flaw, members_flaw, function_flaw, argument_flaw, unnamed, is_barred}
use Rattle.hot_functions.specs.Walk.{is_parameter, unnamed_parameter}
use Rattle.hot_functions.specs.declared.form.Form.{Form}
use Rattle.hot_functions.specs.declared.form.Form.TheVariants as form
use Rattle.hot_functions.specs.declared.place.Place.{Place}
use Rattle.eval_words.specs.Lookups.{file_named}
use Rattle.eval_words.specs.Names.{has_form_of}
use Rattle.eval_words.specs.Scenes.{SceneData}
use Rattle.eval_words.specs.declared.function.Function.{Function}
use Rattle.template_laws.specs.Formed.{IsBound, IsFile}
use Rattle.template_laws.proofs.Forms.{Suits, form_for}
use Rattle.template_laws.proofs.Absent.{first_none, rest_none, under_none, behind_none, unless_none, here_false, here_later}
use Rattle.template_laws.proofs.Absent.{right_false}

module _ (params conds : Members) (basis : BasisData) where
  -- nothing is wrong with a value that is read so
  pub record Clean (p : Place) (d : Data) : Type 0 where
    pub flaw : value_flaw params conds p d ≡ None
    pub supported : place_in is_unsupported d ≡ None
    pub known : place_in (is_unknown_reference basis) d ≡ None

  -- with the values of a list from the place i on
  pub record AreClean (p : Place) (i : ℕ) (ns : Nodes) : Type 0 where
    pub flaw : items_flaw params conds p i ns ≡ None
    pub supported : place_among is_unsupported i ns ≡ None
    pub known : place_among (is_unknown_reference basis) i ns ≡ None

  -- with the values of an object, each read so
  pub record HoldClean (p : Place) (ms : Members) : Type 0 where
    pub flaw : members_flaw params conds p ms ≡ None
    pub supported : place_under is_unsupported ms ≡ None
    pub known : place_under (is_unknown_reference basis) ms ≡ None

  -- with an object of this one member itself
  pub record IsChecked (p : Place) (k : List ℕ) (d : Data) : Type 0 where
    pub argument : argument_flaw params (form_at p k) d ≡ None
    pub supported : is_unsupported k d ≡ false
    pub known : is_unknown_reference basis k d ≡ false

  -- ---- parts

  pub of_list : (p : Place) (ns : Nodes) → Clean p (items ns) → AreClean p 0 ns
  of_list p ns c = record { flaw = c.flaw; supported = c.supported; known = c.known }

  among_here : (is : Sort) (i : ℕ) (d : Data) (ns : Nodes) → place_among is i (node d ns) ≡ None → place_in is d ≡ None
  among_here is i d ns none =
      behind_none (Index i) (place_in is d) (first_none (behind (Index i) (place_in is d)) (place_among is (i + 1) ns) none)

  among_later : (is : Sort) (i : ℕ) (d : Data) (ns : Nodes) → place_among is i (node d ns) ≡ None
      → place_among is (i + 1) ns ≡ None
  among_later is i d ns = rest_none (behind (Index i) (place_in is d)) (place_among is (i + 1) ns)

  pub first_item : (p : Place) (i : ℕ) (d : Data) (ns : Nodes) → AreClean p i (node d ns) → Clean (item_place p i) d
  first_item p i d ns c = record {
    flaw = under_none (Index i) (value_flaw params conds (item_place p i) d)
        (first_none (under (Index i) (value_flaw params conds (item_place p i) d))
        (items_flaw params conds p (i + 1) ns) c.flaw);
    supported = among_here is_unsupported i d ns c.supported;
    known = among_here (is_unknown_reference basis) i d ns c.known;
  }

  pub later_items : (p : Place) (i : ℕ) (d : Data) (ns : Nodes) → AreClean p i (node d ns) → AreClean p (i + 1) ns
  later_items p i d ns c = record {
    flaw = rest_none (under (Index i) (value_flaw params conds (item_place p i) d))
        (items_flaw params conds p (i + 1) ns) c.flaw;
    supported = among_later is_unsupported i d ns c.supported;
    known = among_later (is_unknown_reference basis) i d ns c.known;
  }

  under_here : (is : Sort) (k : List ℕ) (d : Data) (ms : Members) → place_under is (member k d ms) ≡ None
      → place_in is d ≡ None
  under_here is k d ms none =
      behind_none (Key k) (place_in is d) (first_none (behind (Key k) (place_in is d)) (place_under is ms) none)

  under_later : (is : Sort) (k : List ℕ) (d : Data) (ms : Members) → place_under is (member k d ms) ≡ None
      → place_under is ms ≡ None
  under_later is k d ms = rest_none (behind (Key k) (place_in is d)) (place_under is ms)

  pub first_member : (p : Place) (k : List ℕ) (d : Data) (ms : Members) → HoldClean p (member k d ms) → Clean p d
  first_member p k d ms c = record {
    flaw = under_none (Key k) (value_flaw params conds p d)
        (first_none (under (Key k) (value_flaw params conds p d)) (members_flaw params conds p ms) c.flaw);
    supported = under_here is_unsupported k d ms c.supported;
    known = under_here (is_unknown_reference basis) k d ms c.known;
  }

  pub later_members : (p : Place) (k : List ℕ) (d : Data) (ms : Members) → HoldClean p (member k d ms) → HoldClean p ms
  later_members p k d ms c = record {
    flaw = rest_none (under (Key k) (value_flaw params conds p d)) (members_flaw params conds p ms) c.flaw;
    supported = under_later is_unsupported k d ms c.supported;
    known = under_later (is_unknown_reference basis) k d ms c.known;
  }

  pub of_object : (p : Place) (ms : Members) → Clean p (fields ms) → HoldClean (member_place p (lone ms)) ms
  of_object p ms c = record {
    flaw = rest_none (function_flaw params p (lone ms)) (members_flaw params conds (member_place p (lone ms)) ms) c.flaw;
    supported = here_later (lone_is is_unsupported (lone ms)) (place_under is_unsupported ms) c.supported;
    known = here_later (lone_is (is_unknown_reference basis) (lone ms)) (place_under (is_unknown_reference basis) ms)
        c.known;
  }

  -- ---- calls

  pub of_call : (p : Place) (k : List ℕ) (d : Data) → Clean p (fields (member k d no_members)) → IsChecked p k d
  of_call p k d c = record {
    argument = under_none (Key k) (argument_flaw params (form_at p k) d)
        (first_none (under (Key k) (argument_flaw params (form_at p k) d)) None
        (rest_none (unless (not (is_barred p k)) H22)
        (first_of (under (Key k) (argument_flaw params (form_at p k) d) ∷ []))
        (first_none (function_flaw params p (Some (k, d)))
        (members_flaw params conds (member_place p (Some (k, d))) (member k d no_members)) c.flaw)));
    supported = here_false (is_unsupported k d) (place_under is_unsupported (member k d no_members)) c.supported;
    known = here_false (is_unknown_reference basis k d)
        (place_under (is_unknown_reference basis) (member k d no_members)) c.known;
  }

  -- what is found of a function's argument
  pub record IsArgument (f : Function) (y : Option Form) (d : Data) : Type 0 where
    pub found : has_form_of y d ≡ true
    pub has : has_form (form_for f) d ≡ true
    pub named : unnamed params (form_for f) d ≡ None

  pub of_argument : (f : Function) (y : Option Form) (d : Data) → Suits (Some f) y → argument_flaw params y d ≡ None
      → IsArgument f y d
  of_argument f None d suits none = absurd suits
  of_argument f (Some g) d suits none = record {
    found = has;
    has = subst (λ h. has_form h d ≡ true) suits has;
    named = subst (λ h. unnamed params h d ≡ None) suits
        (first_none (unnamed params g d) None
        (rest_none (unless (has_form g d) H22) (first_of (unnamed params g d ∷ [])) none));
  }
    where
      has : has_form g d ≡ true
      has = unless_none (has_form g d) H22
          (first_none (unless (has_form g d) H22) (first_of (unnamed params g d ∷ [])) none)

  -- ---- names

  module _ (S : SceneData) where
    pub is_bound : ((s : List ℕ) → is_parameter params s ≡ true → (e : Data) × (lookup s S.params ≡ Some e))
        → (d : Data) → has_form form.Parameter d ≡ true → unnamed params form.Parameter d ≡ None → IsBound S d
    is_bound bound null has named = cc
    is_bound bound (flag b) has named = cc
    is_bound bound (whole z) has named = cc
    is_bound bound (words s) has named = bound s (unless_none (is_parameter params s) H24 named)
    is_bound bound (items no_nodes) has named = cc
    is_bound bound (items (node null ns)) has named = cc
    is_bound bound (items (node (flag b) ns)) has named = cc
    is_bound bound (items (node (whole z) ns)) has named = cc
    is_bound bound (items (node (words s) ns)) has named =
        bound s (unless_none (is_parameter params s) H24
        (under_none (Index 0) (unnamed_parameter params (words s)) named))
    is_bound bound (items (node (items ps) ns)) has named = cc
    is_bound bound (items (node (fields ms) ns)) has named = cc
    is_bound bound (fields ms) has named = cc

    pub is_file : ((s : List ℕ) → is_some (lookup s basis.files) ≡ true → (t : List ℕ) × (file_named S s ≡ Some t))
        → (d : Data) → has_form form.File d ≡ true → is_unknown_reference basis (codes "get_file") d ≡ false
        → IsFile S d
    is_file filed null has known = cc
    is_file filed (flag b) has known = cc
    is_file filed (whole z) has known = cc
    is_file filed (words s) has known =
        filed s (there (is_some (lookup s basis.files))
        (right_false (is_unknown_resource basis.resources (codes "get_file") (words s))
        (is_unknown_file basis.files (codes "get_file") (words s)) known))
      where
        there : (b : Bool) → not b ≡ false → b ≡ true
        there true is = refl
        there false is = cc
    is_file filed (items ns) has known = cc
    is_file filed (fields ms) has known = cc
