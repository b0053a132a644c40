-- Changes that are made one after another, and lists of them: what is left decides, and makes what the whole makes.
use Rattle.std.proofs.Common.{◌≡◌, ◌≢◌, ◌⊎◌, inl, inr, ◌<◌, ◌≤◌, ℕ, List, [], ◌∷◌, ◌++◌, length, None, Option, Some, refl, sym, ap, ◌∙◌, subst, arith}
use Rattle.std.specs.Prelude.{All, Contains, IsSome}
use Rattle.std.proofs.lemmas.Bool.{cases_lt}
use Rattle.std.proofs.lemmas.List.Elements.{All-cons, All-head, All-nil, All-tail}
use Rattle.heat_plan.specs.declared.token.Token.{Token}
use Rattle.core_state.specs.declared.TravGraph.{TravGraph}
use Rattle.row_table.specs.Rows.{row_at}
use Rattle.core_state.specs.declared.Point.{Point}
use Rattle.mail_table.specs.Mails.{job_at, letter_at}
use Rattle.core_state.specs.Applies.{AllApply, Applies, HasNode, IsWithin, NoneFalls}
use Rattle.core_state.specs.Changes.{applied, apply}
use Rattle.core_state.specs.State.{StateData, graph_at, stack_at}
use Rattle.core_state.specs.declared.change.Change.{Change}
use Rattle.core_state.specs.declared.change.Change.TheVariants as change
use Rattle.core_state.specs.declared.graph.Graph.{Graph}
use Rattle.core_state.specs.declared.numbers.Numbers.{Numbers}
use Rattle.step_relation.specs.Images.{IsMade}
use Rattle.step_relation.specs.Tokens.{token_at}
use Rattle.history_laws.proofs.tables.Frame.{applied-append}
use Rattle.history_laws.proofs.tables.Rows.{same_or_not, same_some, text_or_not}
use Rattle.history_laws.proofs.tables.Puts.{contains_cases, contains_head, contains_none, contains_there}
use Rattle.state_images.specs.Replays.{IsReplay, joined}
use Rattle.state_images.proofs.Written.{joined as led_on}

-- whether a change applies is one or the other
not_or : {P : Type 0} → P ⊎ ¬ P → ¬ P ⊎ ¬ ¬ P
not_or (inl p) = inr (λ n. n p)
not_or (inr n) = inl n

among_or_not : {A : Type 0} → ((x y : A) → (x ≡ y) ⊎ (x ≢ y)) → (xs : List A) (x : A) → Contains xs x ⊎ ¬ Contains xs x
among_or_not same [] x = inr (contains_none x)
among_or_not same (y ∷ ys) x = by (same y x) (among_or_not same ys x) where
  by : ((y ≡ x) ⊎ (y ≢ x)) → (Contains ys x ⊎ ¬ Contains ys x) → Contains (y ∷ ys) x ⊎ ¬ Contains (y ∷ ys) x
  by (inl is) rest = inl (subst (Contains (y ∷ ys)) is (contains_head y ys))
  by (inr ne) (inl there) = inl (contains_there y x ys there)
  by (inr ne) (inr none) = inr (λ c. elim (contains_cases y x ys c) [ inl is ↦ ne is | inr there ↦ none there ])

some_or_not : {A : Type 0} (o : Option A) → IsSome o ⊎ ¬ IsSome o
some_or_not (Some x) = inl refl
some_or_not None = inr (λ h. cc)

none_or_not : {A : Type 0} (o : Option A) → (o ≡ None) ⊎ (o ≢ None)
none_or_not (Some x) = inr (λ h. cc)
none_or_not None = inl refl

ends_or_not : (n : ℕ) (edges : List (ℕ × ℕ)) → All (λ ((before, after) : ℕ × ℕ). (before < n) × (after < n)) edges
    ⊎ ¬ All (λ ((before, after) : ℕ × ℕ). (before < n) × (after < n)) edges
ends_or_not n [] = inl (All-nil (λ ((before, after) : ℕ × ℕ). (before < n) × (after < n)))
ends_or_not n (e ∷ edges) = by (cases_lt e.0 n) (cases_lt e.1 n) (ends_or_not n edges) where
  by : ((e.0 < n) ⊎ (n ≤ e.0)) → ((e.1 < n) ⊎ (n ≤ e.1))
      → (All (λ ((before, after) : ℕ × ℕ). (before < n) × (after < n)) edges ⊎ ¬ All (λ ((before, after) : ℕ × ℕ). (before < n) × (after < n)) edges)
      → All (λ ((before, after) : ℕ × ℕ). (before < n) × (after < n)) (e ∷ edges)
      ⊎ ¬ All (λ ((before, after) : ℕ × ℕ). (before < n) × (after < n)) (e ∷ edges)
  by (inl a) (inl b) (inl rest) = inl (All-cons (λ ((before, after) : ℕ × ℕ). (before < n) × (after < n)) e edges (a, b) rest)
  by (inr a) b rest = inr (λ all. let h = (All-head (λ ((before, after) : ℕ × ℕ). (before < n) × (after < n)) e edges all).0 in omega (arith, a, h))
  by (inl a) (inr b) rest = inr (λ all. let h = (All-head (λ ((before, after) : ℕ × ℕ). (before < n) × (after < n)) e edges all).1 in omega (arith, b, h))
  by (inl a) (inl b) (inr rest) = inr (λ all. rest (All-tail (λ ((before, after) : ℕ × ℕ). (before < n) × (after < n)) e edges all))

node_or_not : (s : StateData) (p : Point) → HasNode s p ⊎ ¬ HasNode s p
node_or_not s p = by (graph_at s.graphs p.stack) refl where
  by : (o : Option Graph) → graph_at s.graphs p.stack ≡ o → HasNode s p ⊎ ¬ HasNode s p
  by None e = inr (λ h. let f = h.its_graph in cc)
  by (Some g) e = elim (cases_lt p.node (length g.graph.nodes)) [
    | inl lt ↦ inl (record { graph = g; its_graph = e; within = lt })
    | inr le ↦ inr (λ h. let is : h.graph ≡ g = same_some h.graph g h.its_graph e in
        let lt : p.node < length g.graph.nodes = subst (λ (x : Graph). p.node < length x.graph.nodes) is h.within in omega (arith, lt, le))
  ]

falls_or_not : (old new : Numbers) → NoneFalls old new ⊎ ¬ NoneFalls old new
falls_or_not old new = by (cases_lt new.stack old.stack) (cases_lt new.trav old.trav) (cases_lt new.row old.row)
    (cases_lt new.engine old.engine) (cases_lt new.letter old.letter) where
      by : ((new.stack < old.stack) ⊎ (old.stack ≤ new.stack)) → ((new.trav < old.trav) ⊎ (old.trav ≤ new.trav))
          → ((new.row < old.row) ⊎ (old.row ≤ new.row)) → ((new.engine < old.engine) ⊎ (old.engine ≤ new.engine))
          → ((new.letter < old.letter) ⊎ (old.letter ≤ new.letter)) → NoneFalls old new ⊎ ¬ NoneFalls old new
      by (inr a) (inr b) (inr c) (inr d) (inr e) = inl (record { stack = a; trav = b; row = c; engine = d; letter = e })
      by (inl a) b c d e = inr (λ f. let le = f.stack in omega (arith, a, le))
      by (inr a) (inl b) c d e = inr (λ f. let le = f.trav in omega (arith, b, le))
      by (inr a) (inr b) (inl c) d e = inr (λ f. let le = f.row in omega (arith, c, le))
      by (inr a) (inr b) (inr c) (inl d) e = inr (λ f. let le = f.engine in omega (arith, d, le))
      by (inr a) (inr b) (inr c) (inr d) (inl e) = inr (λ f. let le = f.letter in omega (arith, e, le))

same_parts : (xa xb ya yb : List ℕ) (m n : ℕ) → xa ≡ xb → ya ≡ yb → m ≡ n → token_at xa ya m ≡ token_at xb yb n
same_parts xa xb ya yb m n stacks names rows = rw (stacks, names, rows) refl

token_or_not : (t u : Token) → (t ≡ u) ⊎ (t ≢ u)
token_or_not t u = by (text_or_not t.stack u.stack) (text_or_not t.name u.name) (same_or_not t.row u.row) where
  by : ((t.stack ≡ u.stack) ⊎ (t.stack ≢ u.stack)) → ((t.name ≡ u.name) ⊎ (t.name ≢ u.name)) → ((t.row ≡ u.row) ⊎ (t.row ≢ u.row))
      → (t ≡ u) ⊎ (t ≢ u)
  by (inl a) (inl b) (inl c) = inl (same_parts t.stack u.stack t.name u.name t.row u.row a b c)
  by (inr a) b c = inr (λ e. a (ap (λ (x : Token). x.stack) e))
  by (inl a) (inr b) c = inr (λ e. b (ap (λ (x : Token). x.name) e))
  by (inl a) (inl b) (inr c) = inr (λ e. c (ap (λ (x : Token). x.row) e))

within_or_not : (s : StateData) (name : List ℕ) (g : TravGraph) → (IsSome (stack_at s.stacks name) × IsWithin g)
    ⊎ ¬ (IsSome (stack_at s.stacks name) × IsWithin g)
within_or_not s name g = by (some_or_not (stack_at s.stacks name)) (ends_or_not (length g.nodes) g.edges) where
  by : (IsSome (stack_at s.stacks name) ⊎ ¬ IsSome (stack_at s.stacks name)) → (IsWithin g ⊎ ¬ IsWithin g)
      → (IsSome (stack_at s.stacks name) × IsWithin g) ⊎ ¬ (IsSome (stack_at s.stacks name) × IsWithin g)
  by (inl a) (inl b) = inl (a, b)
  by (inr a) b = inr (λ both. a both.0)
  by (inl a) (inr b) = inr (λ both. b both.1)

applies_or_not : (s : StateData) (c : Change) → Applies s c ⊎ ¬ Applies s c
applies_or_not s (change.PutStack st) = inl tt
applies_or_not s (change.DropStack name) = some_or_not (stack_at s.stacks name)
applies_or_not s (change.PutRow r) = inl tt
applies_or_not s (change.DropRow n) = some_or_not (row_at s.rows n)
applies_or_not s (change.PutGraph name g) = within_or_not s name g
applies_or_not s (change.PutPoint p) = node_or_not s p
applies_or_not s (change.Send l) = none_or_not (letter_at s.letters l.no)
applies_or_not s (change.Drop n) = some_or_not (letter_at s.letters n)
applies_or_not s (change.PutJob j) = inl tt
applies_or_not s (change.EndJob e) = some_or_not (job_at s.jobs e)
applies_or_not s (change.Enlist e) = not_or (among_or_not same_or_not s.live e)
applies_or_not s (change.Stop e) = among_or_not same_or_not s.live e
applies_or_not s (change.Numbers next) = falls_or_not s.next next
applies_or_not s (change.PutPast p) = some_or_not (stack_at s.stacks p.stack)
applies_or_not s (change.Release t) = not_or (among_or_not token_or_not s.released t)

pub applies_then : (s : StateData) (c : Change) → (¬ Applies s c → ⊥) → Applies s c
applies_then s c f = elim (applies_or_not s c) [ inl a ↦ a | inr n ↦ absurd (f n) ]

-- what is left decides, and makes what the whole makes
pub record Leaves (rest : List Change) (t : StateData) (all : List Change) (s : StateData) : Type 0 where
  pub back : AllApply rest t → AllApply all s
  pub on : AllApply all s → AllApply rest t
  pub makes : applied rest t ≡ applied all s

pub one_made : (c : Change) (cs before all : List Change) (s t first : StateData) → before ≡ c ∷ cs → Applies s c → t ≡ apply c s
    → Leaves before s all first → Leaves cs t all first
one_made c cs before all s t first e a is l = record {
  back = λ h. l.back (subst (λ (b : List Change). AllApply b s) (sym e) (a, subst (AllApply cs) is h));
  on = λ h. subst (AllApply cs) (sym is) (subst (λ (b : List Change). AllApply b s) e (l.on h)).1;
  makes = ap (applied cs) is ∙ (sym (ap (λ (b : List Change). applied b s) e) ∙ l.makes);
}

apply-first : (xs ys : List Change) (s : StateData) → AllApply (xs ++ ys) s → AllApply xs s
apply-first [] ys s h = tt
apply-first (x ∷ xs) ys s h = (h.0, apply-first xs ys (apply x s) h.1)

apply-last : (xs ys : List Change) (s : StateData) → AllApply (xs ++ ys) s → AllApply ys (applied xs s)
apply-last [] ys s h = h
apply-last (x ∷ xs) ys s h = apply-last xs ys (apply x s) h.1

pub list_made : (l : List Change) (ls before : List (List Change)) (all : List Change) (s t first : StateData) → before ≡ l ∷ ls
    → AllApply l s → t ≡ applied l s → Leaves (joined before) s all first → Leaves (joined ls) t all first
list_made l ls before all s t first e a is k = record {
  back = λ h. k.back (subst (λ (b : List (List Change)). AllApply (joined b) s) (sym e)
      (led_on l (joined ls) s (applied l s) (applied (joined ls) (applied l s)) (record { applies = a; gives = refl })
      (record { applies = subst (AllApply (joined ls)) is h; gives = refl })).applies);
  on = λ h. subst (AllApply (joined ls)) (sym is)
      (apply-last l (joined ls) s (subst (λ (b : List (List Change)). AllApply (joined b) s) e (k.on h)));
  makes = ap (applied (joined ls)) is ∙ (sym (applied-append l (joined ls) s)
      ∙ (sym (ap (λ (b : List (List Change)). applied (joined b) s) e) ∙ k.makes));
}

pub list_bad : (l : List Change) (ls before : List (List Change)) (all : List Change) (s first : StateData) → before ≡ l ∷ ls
    → Leaves (joined before) s all first → ¬ AllApply l s → ¬ AllApply all first
list_bad l ls before all s first e k n h =
    n (apply-first l (joined ls) s (subst (λ (b : List (List Change)). AllApply (joined b) s) e (k.on h)))

-- what lists of changes made of nothing, changes made
pub replay_made : (lists : List (List Change)) (s : StateData) → IsReplay lists s → IsMade s
replay_made lists s r = record { written = joined lists; applies = r.applies; replayed = r.gives }
