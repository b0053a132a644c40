-- What a history says of where a row's policy comes from, behind further entries and of a row that is written anew.
use Rattle.std.proofs.Common.{List, ap, inl, inr, refl, subst, sym, ◌∙◌}
use Rattle.std.proofs.lemmas.List.Elements.{Contains-append_cases, Contains-append_left, Contains-append_right}
use Rattle.std.proofs.lemmas.Slice.Eq.{bytes_eq-Decides}
use Rattle.std.specs.Prelude.{Contains, List, Option, Some, bytes_eq, option_map, ℕ, ◌++◌, ◌∷◌, ◌≡◌}
use Rattle.heat_plan.specs.Plans.{PlanData}
use Rattle.heat_plan.specs.declared.item.Item.{Item}
use Rattle.row_table.specs.Rows.{row_at}
use Rattle.row_table.specs.declared.row.Row.{Row}
use Rattle.provider.proofs.Lists.{here}
use Rattle.step_relation.specs.Reads.{item_at}
use Rattle.step_relation.specs.State.{StateData, stack_at}
use Rattle.step_relation.specs.declared.Entry.{Entry}
use Rattle.step_relation.specs.declared.Stack.{Stack}
use Rattle.step_relation.specs.Begins.{Begins}
use Rattle.step_relation.specs.Freshness.{plan_of}
use Rattle.step_relation.specs.Rows.{token_of}
use Rattle.step_relation.specs.Last.{IsCommandOf}
use Rattle.step_relation.specs.Newest.{Latest, latest_of}
use Rattle.step_relation.specs.Opening.{Opening}
use Rattle.step_relation.specs.Policies.{HasPolicy, HasPolicyFrom, IsUnheard, commanded}
use Rattle.step_relation.specs.Policies.{planned, stood}
use Rattle.step_relation.specs.GraphFits.{TargetFits}
use Rattle.step_relation.specs.Sound.{Sound}
use Rattle.history_laws.proofs.policies.Moves.{IsBegunFor, SameBegin}
use Rattle.history_laws.proofs.tables.Facts.{job_target}
use Rattle.history_laws.proofs.tables.Tables.{at-key}
use Rattle.history_laws.proofs.tells.Lasts.{IsUncommanded}
use Rattle.history_laws.proofs.tells.Newests.{IsLastCommand, newest_from, opening_stack}

-- entries that have no command of the row's traversal change nothing
pub unheard_both : (h es : List Entry) (r : Row) → IsUnheard h r → IsUnheard es r → IsUnheard (h ++ es) r
unheard_both h es r a b e it among c = elim (Contains-append_cases h es e among) [
  | inl was ↦ a e it was c
  | inr new ↦ b e it new c
]

pub heard_more : (o : Opening) (h es : List Entry) (r : Row) → IsUnheard es r → HasPolicyFrom o h r
    → HasPolicyFrom o (h ++ es) r
heard_more o h es r none (commanded c) = commanded (record {
  entry = c.entry;
  among = Contains-append_left h es c.entry c.among;
  it = c.it;
  command = c.command;
  trav = c.trav;
  policy = c.policy;
})
heard_more o h es r none (planned unheard p) = planned (unheard_both h es r unheard none) p
heard_more o h es r none (stood unheard p) = stood (unheard_both h es r unheard none) p

pub unheard_uncommanded : (es : List Entry) (r : Row) → IsUncommanded r.stack es → IsUnheard es r
unheard_uncommanded es r none e it among c same = none e it among c

-- a row that keeps what its last begin gave it
module _ (o : Opening) (h : List Entry) (r a : Row) (same : SameBegin r a) where
  policy_on : (plan : Option PlanData) → HasPolicy plan r.name r.policy → HasPolicy plan a.name a.policy
  policy_on plan k = record {
    item = k.item;
    asked = subst (λ (n : List ℕ). item_at (plan_of plan).items n ≡ Some k.item) (sym same.name) k.asked;
    its = k.its ∙ sym same.policy;
  }

  unheard_on : IsUnheard h r → IsUnheard h a
  unheard_on unheard e it among c is =
      unheard e it among (subst (λ (n : List ℕ). IsCommandOf n e it) same.stack c) (is ∙ same.trav)

  pub alike_from : HasPolicyFrom o h r → HasPolicyFrom o h a
  alike_from (commanded c) = commanded (record {
    entry = c.entry;
    among = c.among;
    it = c.it;
    command = subst (λ (n : List ℕ). IsCommandOf n c.entry c.it) (sym same.stack) c.command;
    trav = c.trav ∙ sym same.trav;
    policy = policy_on c.it.plan c.policy;
  })
  alike_from (planned unheard p) = planned (unheard_on unheard) (record {
    stack = p.stack;
    found = subst (λ (n : List ℕ). stack_at o.state.stacks n ≡ Some p.stack) (sym same.stack) p.found;
    trav = p.trav ∙ sym same.trav;
    policy = policy_on p.stack.plan p.policy;
  })
  alike_from (stood unheard p) = stood (unheard_on unheard) (record {
    row = p.row;
    found = subst (λ (n : ℕ). row_at o.state.rows n ≡ Some p.row) (sym same.no_) p.found;
    its = p.its ∙ tokens;
    trav = p.trav ∙ sym same.trav;
    policy = p.policy ∙ sym same.policy;
  }) where
    tokens : token_of r ≡ token_of a
    tokens = let n = sym same.no_ in let s = sym same.stack in let m = sym same.name in cc

-- a row that is begun for an item of its stack's newest traversal has that item's policy
module _ (o : Opening) (h : List Entry) (s : StateData) (x : Sound o h s) (e : ℕ) (k : Begins s e) (a : Row)
    (b : IsBegunFor s e k a) where
  its : (a.stack ≡ k.stack.name) × (a.name ≡ k.name)
  its = elim b.its [
    | inl (stack, name) ↦ (
      stack ∙ target.is.stack_is,
      name ∙ target.is.name_is,
    )
    | inr (stack, name) ↦ (
      stack,
      name ∙ at-key bytes_eq bytes_eq-Decides (λ (i : Item). i.name) (plan_of k.stack.plan).items k.name k.item k.asked,
    )
  ] where
    target : TargetFits s k.stack k.name k.chosen k.row
    target = job_target s x.standing e k.job k.stack k.graph k.name k.chosen k.row k.works.its k.names k.found

  policy_of : HasPolicy k.stack.plan a.name a.policy
  policy_of = record {
    item = k.item;
    asked = subst (λ (n : List ℕ). item_at (plan_of k.stack.plan).items n ≡ Some k.item) (sym its.1) k.asked;
    its = sym b.policy;
  }

  heard : IsLastCommand k.stack.name h (latest_of k.stack) → HasPolicyFrom o h a
  heard c = commanded (record {
    entry = c.entry;
    among = subst (λ (es : List Entry). Contains es c.entry) (sym c.splits)
        (Contains-append_right c.before (c.entry ∷ c.behind) c.entry (here c.entry c.entry c.behind refl));
    it = latest_of k.stack;
    command = subst (λ (n : List ℕ). IsCommandOf n c.entry (latest_of k.stack)) (sym its.0) c.command;
    trav = sym b.trav;
    policy = policy_of;
  })

  opened : IsUncommanded k.stack.name h
      → (st : Stack) × (stack_at o.state.stacks k.stack.name ≡ Some st) × (latest_of st ≡ latest_of k.stack)
      → HasPolicyFrom o h a
  opened none (st, found, same) = planned (unheard_uncommanded h a (subst (λ (n : List ℕ). IsUncommanded n h)
      (sym its.0) none)) (record {
        stack = st;
        found = subst (λ (n : List ℕ). stack_at o.state.stacks n ≡ Some st) (sym its.0) found;
        trav = ap (λ (l : Latest). l.trav) same ∙ sym b.trav;
        policy = subst (λ (p : Option PlanData). HasPolicy p a.name a.policy)
            (ap (λ (l : Latest). l.plan) (sym same)) policy_of;
      })

  pub begun_from : HasPolicyFrom o h a
  begun_from =
      let told = x.tells.stacks k.job.letter.stack k.stack k.names.in_table in
      elim (newest_from k.stack.name (option_map latest_of (stack_at o.state.stacks k.stack.name)) h
      (latest_of k.stack) told.traversal) [
        | inl c ↦ heard c
        | inr (none, is) ↦ opened none (opening_stack (stack_at o.state.stacks k.stack.name) (latest_of k.stack) is)
      ]
