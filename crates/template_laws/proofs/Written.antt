-- Values in their form by another role.
use Rattle.std.proofs.Common.{◌≡◌, ◌+◌, List, ℕ, Bool, true, false, Option, Some, None, refl, sym, subst}
use Rattle.std.proofs.Common.{bytes_eq, codes, if◌then◌else◌}
use Rattle.heat_value.specs.Data.{Data, null, flag, whole, words, items, fields, Nodes, no_nodes, node}
use Rattle.heat_value.specs.Data.{Members, no_members, member}
use Rattle.eval_words.specs.Scenes.{SceneData}
use Rattle.eval_words.specs.declared.function.Function.{Function}
use Rattle.hot_functions.specs.Forms.{lone, has_form, maps_form}
use Rattle.hot_functions.specs.declared.form.Form.{Form}
use Rattle.template_laws.specs.Formed.{IsFormed, AreFormed, HoldFormed, IsRight}
use Rattle.template_laws.specs.Roles.{Role, as_value, as_parts, as_repetition, as_written, called_as, named_as, member_role}

module _ (S : SceneData) where
  -- nothing is called in a role that calls nothing
  pub uncalled : (r : Role) → ((k : List ℕ) → named_as r k ≡ None) → (ms : Members)
      → IsRight S r (lone ms) (called_as r (lone ms))
  uncalled r none no_members = tt
  uncalled r none (member k d no_members) = subst (IsRight S r (Some (k, d))) (sym (none k)) tt
  uncalled r none (member k d (member l e ms)) = tt

  -- ---- as it is written

  mutual
    pub written : (d : Data) → IsFormed S as_written d
    written null = tt
    written (flag b) = tt
    written (whole z) = tt
    written (words s) = tt
    written (items ns) = all_written 0 ns
    written (fields ms) = (uncalled as_written (λ k. refl) ms, under_written _ ms)

    all_written : (i : ℕ) (ns : Nodes) → AreFormed S as_written i ns
    all_written i no_nodes = tt
    all_written i (node d ns) = (written d, all_written (i + 1) ns)

    under_written : (f : Option Function) (ms : Members) → HoldFormed S as_written f ms
    under_written f no_members = tt
    under_written f (member k d ms) = (written d, under_written f ms)

  -- an object whose values stand as they are written
  pub left_written : (r : Role) (f : Option Function) → ((k : List ℕ) → member_role r f k ≡ as_written) → (ms : Members)
      → HoldFormed S r f ms
  left_written r f is no_members = tt
  left_written r f is (member k d ms) =
      (subst (λ q. IsFormed S q d) (sym (is k)) (written d), left_written r f is ms)

  -- ---- arguments

  values_as_parts : (i : ℕ) (ns : Nodes) → AreFormed S as_value i ns → AreFormed S as_parts i ns
  values_as_parts i no_nodes formed = tt
  values_as_parts i (node d ns) formed = (formed.0, values_as_parts (i + 1) ns formed.1)

  pub members_as_parts : (f : Option Function) (ms : Members) → HoldFormed S as_value None ms
      → HoldFormed S as_parts f ms
  members_as_parts f no_members formed = tt
  members_as_parts f (member k d ms) formed = (formed.0, members_as_parts f ms formed.1)

  members_as_repetition : (f : Option Function) (ms : Members) → HoldFormed S as_value None ms
      → HoldFormed S as_repetition f ms
  members_as_repetition f no_members formed = tt
  members_as_repetition f (member k d ms) formed =
      (by (bytes_eq k (codes "template")), members_as_repetition f ms formed.1)
    where
      by : (b : Bool) → IsFormed S (if b then as_written else as_value) d
      by true = written d
      by false = formed.0

  -- an object of several members calls nothing
  plain : (ms : Members) → lone ms ≡ None → IsFormed S as_value (fields ms) → HoldFormed S as_value None ms
  plain ms many formed = subst (λ o. HoldFormed S as_value (called_as as_value o) ms) many formed.1

  -- an argument that is a value in its form, where an object is none that calls a function
  pub as_argument : (g : Form) (d : Data) → has_form g d ≡ true
      → ((ms : Members) → maps_form g ms ≡ true → lone ms ≡ None) → IsFormed S as_value d → IsFormed S as_parts d
  as_argument g null has many formed = tt
  as_argument g (flag b) has many formed = tt
  as_argument g (whole z) has many formed = tt
  as_argument g (words s) has many formed = tt
  as_argument g (items ns) has many formed = values_as_parts 0 ns formed
  as_argument g (fields ms) has many formed =
      (uncalled as_parts (λ k. refl) ms, members_as_parts _ ms (plain ms (many ms has) formed))

  pub as_repeated : (g : Form) (d : Data) → has_form g d ≡ true
      → ((ms : Members) → maps_form g ms ≡ true → lone ms ≡ None) → IsFormed S as_value d → IsFormed S as_repetition d
  as_repeated g null has many formed = tt
  as_repeated g (flag b) has many formed = tt
  as_repeated g (whole z) has many formed = tt
  as_repeated g (words s) has many formed = tt
  as_repeated g (items ns) has many formed = all 0 ns
    where
      all : (i : ℕ) (ns : Nodes) → AreFormed S as_repetition i ns
      all i no_nodes = tt
      all i (node d ns) = (written d, all (i + 1) ns)
  as_repeated g (fields ms) has many formed =
      (uncalled as_repetition (λ k. refl) ms, members_as_repetition _ ms (plain ms (many ms has) formed))
