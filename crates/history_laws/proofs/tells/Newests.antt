-- Where a stack's newest traversal comes from, and that its completion makes its plan the last one reached.
use Rattle.std.proofs.Common.{ap, append_assoc, arith, inl, inr, refl, subst, sym, ◌∙◌}
use Rattle.std.proofs.lemmas.List.Elements.{Contains-append_right}
use Rattle.std.proofs.lemmas.Slice.Eq.{bytes_eq-Decides}
use Rattle.std.specs.Prelude.{Contains, List, None, Option, Some, [], bytes_eq, false, option_map, true, ℕ, ◌++◌, ◌∷◌}
use Rattle.std.specs.Prelude.{◌≡◌, ◌≢◌, ◌⊎◌}
use Rattle.heat_plan.specs.declared.phase.Act.TheVariants.{Delete}
use Rattle.provider.proofs.Sames.{not_true}
use Rattle.step_relation.specs.State.{stack_at}
use Rattle.step_relation.specs.declared.Entry.{Entry}
use Rattle.step_relation.specs.declared.What.{What}
use Rattle.step_relation.specs.declared.Stack.{Stack}
use Rattle.step_relation.specs.Freshness.{plan_of}
use Rattle.step_relation.specs.Last.{IsCommandOf, IsCompletion, IsLast, opened, reached, since}
use Rattle.step_relation.specs.Newest.{Latest, latest_of, newest, newest_by}
use Rattle.step_relation.specs.Opening.{Opening}
use Rattle.history_laws.proofs.tables.Rows.{stack-key, text_or_not}
use Rattle.history_laws.proofs.tells.Appends.{newest_on}
use Rattle.history_laws.proofs.tells.Lasts.{IsUncommanded, uncommanded_both, uncommanded_never, uncommanded_no_create}
use Rattle.step_relation.specs.declared.What.TheVariants as what
use Rattle.provider.proofs.Lists.{here, cases}

pub text_cases : (a b : List ℕ) → ((bytes_eq a b ≡ true) × (a ≡ b)) ⊎ ((bytes_eq a b ≡ false) × (a ≢ b))
text_cases a b = elim (text_or_not a b) [
  | inl is ↦ inl ((bytes_eq-Decides a b).1 is, is)
  | inr ne ↦ inr (not_true (bytes_eq a b) (λ t. ne ((bytes_eq-Decides a b).0 t)), ne)
]

-- the last command of the stack
pub record IsLastCommand (stack : List ℕ) (h : List Entry) (it : Latest) : Type 0 where
  pub before : List Entry
  pub behind : List Entry
  pub entry : Entry
  pub splits : h ≡ before ++ entry ∷ behind
  pub command : IsCommandOf stack entry it
  pub none : IsUncommanded stack behind

command_or : (stack : List ℕ) (e : Entry) (b : Option Latest)
    → ((it : Latest) × IsCommandOf stack e it × (newest_by stack b e.what ≡ Some it))
    ⊎ (((it : Latest) → ¬ IsCommandOf stack e it) × (newest_by stack b e.what ≡ b))
command_or stack e b = by e.what refl where
  by : (w : What) → e.what ≡ w → ((it : Latest) × IsCommandOf stack e it × (newest_by stack b w ≡ Some it))
      ⊎ (((it : Latest) → ¬ IsCommandOf stack e it) × (newest_by stack b w ≡ b))
  by (what.Command name trav act plan rb) is = elim (text_cases name stack) [
    | inl same ↦ inl (
      record { trav = trav; act = act; plan = plan },
      record { rollback = rb; is = is ∙ ap (λ (n : List ℕ). what.Command n trav act plan rb) same.1 },
      rw same.0 refl,
    )
    | inr other ↦ inr (λ it c. let eq = sym is ∙ c.is in other.1 (cc), rw other.0 refl)
  ]
  by (what.Mark stack trav act cause) is = inr (λ it c. let eq = sym is ∙ c.is in cc, refl)
  by (what.Call token request given) is = inr (λ it c. let eq = sym is ∙ c.is in cc, refl)
  by (what.Release token) is = inr (λ it c. let eq = sym is ∙ c.is in cc, refl)
  by (what.Rows writes) is = inr (λ it c. let eq = sym is ∙ c.is in cc, refl)
  by (what.Mail writes) is = inr (λ it c. let eq = sym is ∙ c.is in cc, refl)
  by (what.Engine change) is = inr (λ it c. let eq = sym is ∙ c.is in cc, refl)
  by (what.Show it stack) is = inr (λ it c. let eq = sym is ∙ c.is in cc, refl)
  by (what.Note line code path) is = inr (λ it c. let eq = sym is ∙ c.is in cc, refl)
  by (what.Ran idle turns) is = inr (λ it c. let eq = sym is ∙ c.is in cc, refl)
  by (what.Turned engine lost) is = inr (λ it c. let eq = sym is ∙ c.is in cc, refl)
  by (what.Preview stack forecast) is = inr (λ it c. let eq = sym is ∙ c.is in cc, refl)
  by what.Closed is = inr (λ it c. let eq = sym is ∙ c.is in cc, refl)

pub newest_from : (stack : List ℕ) (b : Option Latest) (h : List Entry) (it : Latest) → newest_on stack b h ≡ Some it
    → IsLastCommand stack h it ⊎ (IsUncommanded stack h × (b ≡ Some it))
newest_from stack b [] it is = inr (λ e x among. absurd (omega (arith, among.1)), is)
newest_from stack b (e ∷ es) it is = elim (newest_from stack (newest_by stack b e.what) es it is) [
  | inl k ↦ inl (record {
    before = e ∷ k.before;
    behind = k.behind;
    entry = k.entry;
    splits = ap (λ (x : List Entry). e ∷ x) k.splits;
    command = k.command;
    none = k.none;
  })
  | inr (none, eq) ↦ elim (command_or stack e b) [
    | inl (found, c, as_) ↦
        let same : found ≡ it = cc in
        inl (record {
          before = [];
          behind = es;
          entry = e;
          splits = refl;
          command =
              subst (IsCommandOf stack e) same c;
          none = none;
        })
    | inr (no_command, same) ↦ inr (
      λ x i among c. elim (cases x e es among) [
        | inl is_e ↦ no_command i (subst (λ (y : Entry). IsCommandOf stack y i) (sym is_e) c)
        | inr rest ↦ none x i rest c
      ],
      sym same ∙ eq,
    )
  ]
]

-- a mark isn't a command
uncommanded_mark : (stack : List ℕ) (trav : ℕ) (e : Entry) → IsCompletion stack trav e → IsUncommanded stack (e ∷ [])
uncommanded_mark stack trav e done x it among c = elim (cases x e [] among) [
  | inl is ↦ let eq = sym done.1 ∙ (ap (λ (y : Entry). y.what) is ∙ c.is) in cc
  | inr rest ↦ absurd (omega (arith, rest.1))
]

at_end : (h : List Entry) (e : Entry) → Contains (h ++ e ∷ []) e
at_end h e = Contains-append_right h (e ∷ []) e (here e e [] refl)

pub opening_stack : (found : Option Stack) (it : Latest) → option_map latest_of found ≡ Some it
    → (st : Stack) × (found ≡ Some st) × (latest_of st ≡ it)
opening_stack None it is = cc
opening_stack (Some st) it is = (st, refl, cc)

pub last_completed : (o : Opening) (h : List Entry) (stack : List ℕ) (it : Latest) (e : Entry)
    → newest o h stack ≡ Some it
    → it.act ≢ Delete → IsCompletion stack it.trav e → IsLast o (h ++ e ∷ []) stack (plan_of it.plan)
last_completed o h stack it e is keeps done =
    elim (newest_from stack (option_map latest_of (stack_at o.state.stacks stack)) h it is) [
      | inl k ↦
          let none = uncommanded_both stack k.behind (e ∷ []) k.none (uncommanded_mark stack it.trav e done) in
          reached k.before (k.behind ++ e ∷ []) k.entry it
          (ap (λ (x : List Entry). x ++ e ∷ []) k.splits ∙ append_assoc k.before (k.entry ∷ k.behind) (e ∷ []))
          (record {
            command = k.command;
            keeps = keeps;
            completed =
                record { entry = e; among = at_end k.behind e; completes = done };
          })
          (uncommanded_no_create stack (k.behind ++ e ∷ []) none) (uncommanded_never stack (k.behind ++ e ∷ []) none)
      | inr (none_h, eq) ↦ from_opening none_h (opening_stack (stack_at o.state.stacks stack) it eq)
    ] where
      from_opening : IsUncommanded stack h → (st : Stack) × (stack_at o.state.stacks stack ≡ Some st) ×
          (latest_of st ≡ it)
          → IsLast o (h ++ e ∷ []) stack (plan_of it.plan)
      from_opening none_h (st, found, same) =
          let none = uncommanded_both stack h (e ∷ []) none_h (uncommanded_mark stack it.trav e done) in
          let name : st.name ≡ stack = stack-key o.state.stacks stack st found in
          let trav : st.trav ≡ it.trav = ap (λ (x : Latest). x.trav) same in
          subst (λ (x : Latest). IsLast o (h ++ e ∷ []) stack (plan_of x.plan)) same
          (opened st (uncommanded_no_create stack (h ++ e ∷ []) none)
          (uncommanded_never stack (h ++ e ∷ []) none) found
          (λ d. keeps (ap (λ (x : Latest). x.act) (sym same) ∙ d))
          (since (record {
            entry = e;
            among = at_end h e;
            completes = (
              done.0,
              done.1 ∙ (ap (λ (n : List ℕ). what.Mark n it.trav done.0 None) (sym name)
                  ∙ ap (λ (n : ℕ). what.Mark st.name n done.0 None) (sym trav)),
            );
          })))
