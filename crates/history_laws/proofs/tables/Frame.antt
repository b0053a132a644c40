-- Each change is on one stack, and what it leaves of the others.
use Rattle.std.proofs.Common.{◌≡◌, ◌≤◌, ◌⊎◌, inl, inr, ℕ, List, [], ◌∷◌, ◌++◌, Option, Some, None, refl, sym, ap, ◌∙◌}
use Rattle.std.proofs.Common.{subst}
use Rattle.std.proofs.Common.{arith}
use Rattle.std.specs.Prelude.{Contains}
use Rattle.std.proofs.lemmas.List.Elements.{Contains-append_cases, Contains-append_left}
use Rattle.heat_plan.specs.declared.token.Token.{Token}
use Rattle.traversal_graph.specs.declared.shape.TravGraph.{TravGraph}
use Rattle.row_table.specs.Rows.{row_at}
use Rattle.row_table.specs.declared.row.Row.{Row}
use Rattle.sync_points.specs.declared.point.Point.{Point}
use Rattle.mail_table.specs.Mails.{job_at, letter_at}
use Rattle.mail_table.specs.declared.mail.Job.{Job}
use Rattle.mail_table.specs.declared.mail.Letter.{Letter}
use Rattle.step_relation.specs.Applies.{NoneFalls}
use Rattle.step_relation.specs.Changes.{applied, apply, fresh_graph}
use Rattle.step_relation.specs.State.{StateData}
use Rattle.step_relation.specs.declared.Change.{Change}
use Rattle.step_relation.specs.declared.Change.TheVariants.{Drop, DropRow, DropStack, EndJob, Enlist, PutGraph}
use Rattle.step_relation.specs.declared.Change.TheVariants.{PutJob, PutPast, PutPoint, PutRow, PutStack, Release}
use Rattle.step_relation.specs.declared.Change.TheVariants.{Send, Stop}
use Rattle.step_relation.specs.declared.Numbers.{Numbers}
use Rattle.step_relation.specs.declared.Past.{Past}
use Rattle.step_relation.specs.declared.Stack.{Stack}
use Rattle.step_relation.specs.Elsewhere.{Elsewhere}
use Rattle.history_laws.proofs.tables.Points.{point_else}
use Rattle.history_laws.proofs.tables.Rows.{graph_else, graph_kept, job_cut, job_else, job_kept, job_put, letter_cut}
use Rattle.history_laws.proofs.tables.Rows.{letter_else, letter_kept, letter_put, past_else, past_kept, row_cut, row_else}
use Rattle.history_laws.proofs.tables.Rows.{row_kept, row_put, stack_else, stack_kept}
use Rattle.step_relation.specs.declared.Change.TheVariants as change_to

pub NoneFalls-same : (a : Numbers) → NoneFalls a a
NoneFalls-same a = record {
  stack = omega arith;
  trav = omega arith;
  row = omega arith;
  engine = omega arith;
  letter = omega arith;
}

pub NoneFalls-then : (a b c : Numbers) → NoneFalls a b → NoneFalls b c → NoneFalls a c
NoneFalls-then a b c u v = record {
  stack = let l = u.stack in let m = v.stack in omega arith;
  trav = let l = u.trav in let m = v.trav in omega arith;
  row = let l = u.row in let m = v.row in omega arith;
  engine = let l = u.engine in let m = v.engine in omega arith;
  letter = let l = u.letter in let m = v.letter in omega arith;
}

pub nowhere : (own : List ℕ) (s : StateData) → Elsewhere own s s
nowhere own s = record {
  stacks = λ name ne. refl;
  graphs = λ name ne. refl;
  pasts = λ name ne. refl;
  rows = λ n r ne at. at;
  rows_stay = λ n r ne at. at;
  letters = λ n l ne at. at;
  letters_stay = λ n l ne at. at;
  jobs = λ e j ne at. at;
  jobs_stay = λ e j ne at. at;
  released = λ t ne has. has;
  released_stay = λ t has. has;
  born = λ n q is at. inl (q, at, is);
  rises = NoneFalls-same s.next;
}

pub then : (own : List ℕ) (s t u : StateData) → Elsewhere own s t → Elsewhere own t u → Elsewhere own s u
then own s t u a b = record {
  stacks = λ name ne. b.stacks name ne ∙ a.stacks name ne;
  graphs = λ name ne. b.graphs name ne ∙ a.graphs name ne;
  pasts = λ name ne. b.pasts name ne ∙ a.pasts name ne;
  rows = λ n r ne at. a.rows n r ne (b.rows n r ne at);
  rows_stay = λ n r ne at. b.rows_stay n r ne (a.rows_stay n r ne at);
  letters = λ n l ne at. a.letters n l ne (b.letters n l ne at);
  letters_stay = λ n l ne at. b.letters_stay n l ne (a.letters_stay n l ne at);
  jobs = λ e j ne at. a.jobs e j ne (b.jobs e j ne at);
  jobs_stay = λ e j ne at. b.jobs_stay e j ne (a.jobs_stay e j ne at);
  released = λ t ne has. a.released t ne (b.released t ne has);
  released_stay = λ t has. b.released_stay t (a.released_stay t has);
  born = λ n q is at. elim (b.born n q is at) [
    | inl (o, was, o_is) ↦ a.born n o o_is was
    | inr new ↦ let l = a.rises.row in inr (omega arith)
  ];
  rises = NoneFalls-then s.next t.next u.next a.rises b.rises;
}

pub applied-append : (first last : List Change) (s : StateData)
    → applied (first ++ last) s ≡ applied last (applied first s)
applied-append [] last s = refl
applied-append (c ∷ cs) last s = applied-append cs last (apply c s)

pub only_one : {A : Type 0} (x y : A) → Contains (x ∷ []) y → x ≡ y
only_one x y (n, lt, is) = let first : n ≡ 0 = omega arith in rw first at is

-- a row of this stack is written over one of this stack, or under a new number
pub on_row : (own : List ℕ) (s : StateData) (q : Row) → q.stack ≡ own
    → ((o : Row) → row_at s.rows q.no ≡ Some o → o.stack ≡ own)
    → ((row_at s.rows q.no ≡ None) → s.next.row ≤ q.no) → Elsewhere own s (apply (PutRow q) s)
on_row own s q is over fresh = record {
  stacks = λ name ne. refl;
  graphs = λ name ne. refl;
  pasts = λ name ne. refl;
  letters = λ n l ne at. at;
  letters_stay = λ n l ne at. at;
  jobs = λ e j ne at. at;
  jobs_stay = λ e j ne at. at;
  released = λ t ne has. has;
  released_stay = λ t has. has;
  rises = NoneFalls-same s.next;
  rows = λ n r ne at. elim (row_put q s.rows at) [
    | inl new ↦ absurd (ne (ap (λ (x : Row). x.stack) (sym new.1) ∙ is))
    | inr was ↦ was.1
  ];
  rows_stay = λ n r ne at.
      row_else q s.rows n (λ eq. ne (over r (subst (λ (k : ℕ). row_at s.rows k ≡ Some r) (sym eq) at))) ∙ at;
  born = λ n p p_is at. elim (row_put q s.rows at) [
    | inl new ↦ by n new.0 (row_at s.rows n) refl
    | inr was ↦ inl (p, was.1, p_is)
  ];
} where
  by : (n : ℕ) → q.no ≡ n → (o : Option Row) → row_at s.rows n ≡ o
      → ((p : Row) × (row_at s.rows n ≡ Some p) × (p.stack ≡ own)) ⊎ (s.next.row ≤ n)
  by n is_n (Some p) at = inl (p, at, over p (subst (λ (k : ℕ). row_at s.rows k ≡ Some p) (sym is_n) at))
  by n is_n None at = let l = fresh (subst (λ (k : ℕ). row_at s.rows k ≡ None) (sym is_n) at) in inr (omega arith)

-- a row of this stack goes
pub on_row_gone : (own : List ℕ) (s : StateData) (c : ℕ) → ((o : Row) → row_at s.rows c ≡ Some o → o.stack ≡ own)
    → Elsewhere own s (apply (DropRow c) s)
on_row_gone own s c over = record {
  stacks = λ name ne. refl;
  graphs = λ name ne. refl;
  pasts = λ name ne. refl;
  letters = λ n l ne at. at;
  letters_stay = λ n l ne at. at;
  jobs = λ e j ne at. at;
  jobs_stay = λ e j ne at. at;
  released = λ t ne has. has;
  released_stay = λ t has. has;
  rises = NoneFalls-same s.next;
  rows = λ n r ne at. (row_cut c s.rows at).1;
  rows_stay = λ n r ne at.
      row_kept c s.rows n (λ eq. ne (over r (subst (λ (k : ℕ). row_at s.rows k ≡ Some r) (sym eq) at))) ∙ at;
  born = λ n p p_is at. inl (p, (row_cut c s.rows at).1, p_is);
}

-- a job of this stack is written, for an engine whose job was one
pub on_job : (own : List ℕ) (s : StateData) (q : Job) → q.letter.stack ≡ own
    → ((o : Job) → job_at s.jobs q.engine ≡ Some o → o.letter.stack ≡ own) → Elsewhere own s (apply (PutJob q) s)
on_job own s q is over = record {
  stacks = λ name ne. refl;
  graphs = λ name ne. refl;
  pasts = λ name ne. refl;
  rows = λ n r ne at. at;
  rows_stay = λ n r ne at. at;
  letters = λ n l ne at. at;
  letters_stay = λ n l ne at. at;
  released = λ t ne has. has;
  released_stay = λ t has. has;
  born = λ n p p_is at. inl (p, at, p_is);
  rises = NoneFalls-same s.next;
  jobs = λ e j ne at. elim (job_put q s.jobs at) [
    | inl new ↦ absurd (ne (ap (λ (x : Job). x.letter.stack) (sym new.1) ∙ is))
    | inr was ↦ was.1
  ];
  jobs_stay = λ e j ne at.
      job_else q s.jobs e (λ eq. ne (over j (subst (λ (k : ℕ). job_at s.jobs k ≡ Some j) (sym eq) at))) ∙ at;
}

pub on_end : (own : List ℕ) (s : StateData) (e : ℕ) → ((o : Job) → job_at s.jobs e ≡ Some o → o.letter.stack ≡ own)
    → Elsewhere own s (apply (EndJob e) s)
on_end own s e over = record {
  stacks = λ name ne. refl;
  graphs = λ name ne. refl;
  pasts = λ name ne. refl;
  rows = λ n r ne at. at;
  rows_stay = λ n r ne at. at;
  letters = λ n l ne at. at;
  letters_stay = λ n l ne at. at;
  released = λ t ne has. has;
  released_stay = λ t has. has;
  born = λ n p p_is at. inl (p, at, p_is);
  rises = NoneFalls-same s.next;
  jobs = λ f j ne at. (job_cut e s.jobs at).1;
  jobs_stay = λ f j ne at.
      job_kept e s.jobs f (λ eq. ne (over j (subst (λ (k : ℕ). job_at s.jobs k ≡ Some j) (sym eq) at))) ∙ at;
}

pub on_send : (own : List ℕ) (s : StateData) (l : Letter) → l.stack ≡ own
    → ((o : Letter) → letter_at s.letters l.no ≡ Some o → o.stack ≡ own) → Elsewhere own s (apply (Send l) s)
on_send own s l is over = record {
  stacks = λ name ne. refl;
  graphs = λ name ne. refl;
  pasts = λ name ne. refl;
  rows = λ n r ne at. at;
  rows_stay = λ n r ne at. at;
  jobs = λ e j ne at. at;
  jobs_stay = λ e j ne at. at;
  released = λ t ne has. has;
  released_stay = λ t has. has;
  born = λ n p p_is at. inl (p, at, p_is);
  rises = NoneFalls-same s.next;
  letters = λ n m ne at. elim (letter_put l s.letters at) [
    | inl new ↦ absurd (ne (ap (λ (x : Letter). x.stack) (sym new.1) ∙ is))
    | inr was ↦ was.1
  ];
  letters_stay = λ n m ne at.
      letter_else l s.letters n (λ eq. ne (over m (subst (λ (k : ℕ). letter_at s.letters k ≡ Some m) (sym eq) at)))
      ∙ at;
}

pub on_drop : (own : List ℕ) (s : StateData) (c : ℕ) → ((o : Letter) → letter_at s.letters c ≡ Some o → o.stack ≡ own)
    → Elsewhere own s (apply (Drop c) s)
on_drop own s c over = record {
  stacks = λ name ne. refl;
  graphs = λ name ne. refl;
  pasts = λ name ne. refl;
  rows = λ n r ne at. at;
  rows_stay = λ n r ne at. at;
  jobs = λ e j ne at. at;
  jobs_stay = λ e j ne at. at;
  released = λ t ne has. has;
  released_stay = λ t has. has;
  born = λ n p p_is at. inl (p, at, p_is);
  rises = NoneFalls-same s.next;
  letters = λ n m ne at. (letter_cut c s.letters at).1;
  letters_stay = λ n m ne at.
      letter_kept c s.letters n (λ eq. ne (over m (subst (λ (k : ℕ). letter_at s.letters k ≡ Some m) (sym eq) at)))
      ∙ at;
}

pub on_stack : (own : List ℕ) (s : StateData) (st : Stack) → st.name ≡ own → Elsewhere own s (apply (PutStack st) s)
on_stack own s st is = record {
  graphs = λ name ne. refl;
  pasts = λ name ne. refl;
  rows = λ n r ne at. at;
  rows_stay = λ n r ne at. at;
  letters = λ n l ne at. at;
  letters_stay = λ n l ne at. at;
  jobs = λ e j ne at. at;
  jobs_stay = λ e j ne at. at;
  released = λ t ne has. has;
  released_stay = λ t has. has;
  born = λ n p p_is at. inl (p, at, p_is);
  rises = NoneFalls-same s.next;
  stacks = λ name ne. stack_else st s.stacks name (λ eq. ne (sym eq ∙ is));
}

pub on_stack_gone : (own : List ℕ) (s : StateData) → Elsewhere own s (apply (DropStack own) s)
on_stack_gone own s = record {
  rows = λ n r ne at. at;
  rows_stay = λ n r ne at. at;
  letters = λ n l ne at. at;
  letters_stay = λ n l ne at. at;
  jobs = λ e j ne at. at;
  jobs_stay = λ e j ne at. at;
  released = λ t ne has. has;
  released_stay = λ t has. has;
  born = λ n p p_is at. inl (p, at, p_is);
  rises = NoneFalls-same s.next;
  stacks = λ name ne. stack_kept own s.stacks name (λ eq. ne (sym eq));
  graphs = λ name ne. graph_kept own s.graphs name (λ eq. ne (sym eq));
  pasts = λ name ne. past_kept own s.pasts name (λ eq. ne (sym eq));
}

pub on_graph : (own : List ℕ) (s : StateData) (graph : TravGraph) → Elsewhere own s (apply (PutGraph own graph) s)
on_graph own s graph = record {
  stacks = λ name ne. refl;
  pasts = λ name ne. refl;
  rows = λ n r ne at. at;
  rows_stay = λ n r ne at. at;
  letters = λ n l ne at. at;
  letters_stay = λ n l ne at. at;
  jobs = λ e j ne at. at;
  jobs_stay = λ e j ne at. at;
  released = λ t ne has. has;
  released_stay = λ t has. has;
  born = λ n p p_is at. inl (p, at, p_is);
  rises = NoneFalls-same s.next;
  graphs = λ name ne. graph_else (fresh_graph own graph) s.graphs name (λ eq. ne (sym eq));
}

pub on_point : (own : List ℕ) (s : StateData) (p : Point) → p.stack ≡ own → Elsewhere own s (apply (PutPoint p) s)
on_point own s p is = record {
  stacks = λ name ne. refl;
  pasts = λ name ne. refl;
  rows = λ n r ne at. at;
  rows_stay = λ n r ne at. at;
  letters = λ n l ne at. at;
  letters_stay = λ n l ne at. at;
  jobs = λ e j ne at. at;
  jobs_stay = λ e j ne at. at;
  released = λ t ne has. has;
  released_stay = λ t has. has;
  born = λ n p p_is at. inl (p, at, p_is);
  rises = NoneFalls-same s.next;
  graphs = λ name ne. point_else p s.graphs name (λ eq. ne (sym eq ∙ is));
}

pub on_past : (own : List ℕ) (s : StateData) (p : Past) → p.stack ≡ own → Elsewhere own s (apply (PutPast p) s)
on_past own s p is = record {
  stacks = λ name ne. refl;
  graphs = λ name ne. refl;
  rows = λ n r ne at. at;
  rows_stay = λ n r ne at. at;
  letters = λ n l ne at. at;
  letters_stay = λ n l ne at. at;
  jobs = λ e j ne at. at;
  jobs_stay = λ e j ne at. at;
  released = λ t ne has. has;
  released_stay = λ t has. has;
  born = λ n p p_is at. inl (p, at, p_is);
  rises = NoneFalls-same s.next;
  pasts = λ name ne. past_else p s.pasts name (λ eq. ne (sym eq ∙ is));
}

pub on_release : (own : List ℕ) (s : StateData) (t : Token) → t.stack ≡ own → Elsewhere own s (apply (Release t) s)
on_release own s t is = record {
  stacks = λ name ne. refl;
  graphs = λ name ne. refl;
  pasts = λ name ne. refl;
  rows = λ n r ne at. at;
  rows_stay = λ n r ne at. at;
  letters = λ n l ne at. at;
  letters_stay = λ n l ne at. at;
  jobs = λ e j ne at. at;
  jobs_stay = λ e j ne at. at;
  born = λ n p p_is at. inl (p, at, p_is);
  rises = NoneFalls-same s.next;
  released = λ u ne has. elim (Contains-append_cases s.released (t ∷ []) u has) [
    | inl was ↦ was
    | inr new ↦ absurd (ne (ap (λ (x : Token). x.stack) (sym (only_one t u new)) ∙ is))
  ];
  released_stay = λ u has. Contains-append_left s.released (t ∷ []) u has;
}

-- the numbers rise; last of all, since a new row has a number from the next one on
pub on_numbers : (own : List ℕ) (s : StateData) (next : Numbers) → NoneFalls s.next next
    → Elsewhere own s (apply (change_to.Numbers next) s)
on_numbers own s next up = record {
  stacks = λ name ne. refl;
  graphs = λ name ne. refl;
  pasts = λ name ne. refl;
  rows = λ n r ne at. at;
  rows_stay = λ n r ne at. at;
  letters = λ n l ne at. at;
  letters_stay = λ n l ne at. at;
  jobs = λ e j ne at. at;
  jobs_stay = λ e j ne at. at;
  released = λ t ne has. has;
  released_stay = λ t has. has;
  born = λ n p p_is at. inl (p, at, p_is);
  rises = up;
}

pub on_enlist : (own : List ℕ) (s : StateData) (e : ℕ) → Elsewhere own s (apply (Enlist e) s)
on_enlist own s e = record {
  stacks = λ name ne. refl;
  graphs = λ name ne. refl;
  pasts = λ name ne. refl;
  rows = λ n r ne at. at;
  rows_stay = λ n r ne at. at;
  letters = λ n l ne at. at;
  letters_stay = λ n l ne at. at;
  jobs = λ e j ne at. at;
  jobs_stay = λ e j ne at. at;
  released = λ t ne has. has;
  released_stay = λ t has. has;
  born = λ n p p_is at. inl (p, at, p_is);
  rises = NoneFalls-same s.next;
}

pub on_stop : (own : List ℕ) (s : StateData) (e : ℕ) → Elsewhere own s (apply (Stop e) s)
on_stop own s e = record {
  stacks = λ name ne. refl;
  graphs = λ name ne. refl;
  pasts = λ name ne. refl;
  rows = λ n r ne at. at;
  rows_stay = λ n r ne at. at;
  letters = λ n l ne at. at;
  letters_stay = λ n l ne at. at;
  jobs = λ e j ne at. at;
  jobs_stay = λ e j ne at. at;
  released = λ t ne has. has;
  released_stay = λ t has. has;
  born = λ n p p_is at. inl (p, at, p_is);
  rises = NoneFalls-same s.next;
}
