-- What each change keeps of `Numbered`.
use Rattle.std.proofs.Common.{◌≡◌, ◌≢◌, ◌<◌, ◌≤◌, ◌⊎◌, inl, inr, ℕ, ◌+◌, zero, suc, List, [], ◌∷◌, ◌++◌, Option, Some}
use Rattle.std.proofs.Common.{sym, ap, subst, ◌∙◌, arith}
use Rattle.std.specs.Prelude.{Contains, IsSome, false, nat_eq, slice_get, slice_index_or}
use Rattle.std.specs.Str.{bytes_eq}
use Rattle.std.proofs.lemmas.Bool.Decides.{Decides-eqb}
use Rattle.std.proofs.lemmas.List.Elements.{Contains-append_cases}
use Rattle.std.proofs.lemmas.List.Quantifiers.{all_pairs_push}
use Rattle.std.proofs.lemmas.Option.{get_or_from_slice_get, slice_get-get_or}
use Rattle.std.proofs.lemmas.Slice.Eq.{bytes_eq-Decides}
use Rattle.heat_plan.specs.declared.token.Token.{Token}
use Rattle.traversal_graph.specs.declared.shape.Node.{Node}
use Rattle.traversal_graph.specs.declared.shape.TravGraph.{TravGraph}
use Rattle.row_table.specs.Rows.{row_at, row_key}
use Rattle.row_table.specs.declared.row.Row.{Row}
use Rattle.sync_points.specs.declared.point.Input.{Input}
use Rattle.sync_points.specs.declared.point.Point.{Point}
use Rattle.mail_table.specs.Mails.{job_key, letter_key}
use Rattle.mail_table.specs.declared.mail.Job.{Job}
use Rattle.mail_table.specs.declared.mail.Letter.{Letter}
use Rattle.step_relation.specs.Changes.{apply, fresh_graph, with_point}
use Rattle.step_relation.specs.Graphs.{fresh_points}
use Rattle.step_relation.specs.State.{StateData, graph_at, graph_key, stack_at, stack_key}
use Rattle.step_relation.specs.declared.Change.TheVariants.{Drop, DropRow, DropStack, EndJob, Enlist, PutGraph}
use Rattle.step_relation.specs.declared.Change.TheVariants.{PutJob, PutPast, PutPoint, PutRow, PutStack, Release}
use Rattle.step_relation.specs.declared.Change.TheVariants.{Send, Stop}
use Rattle.step_relation.specs.declared.Graph.{Graph}
use Rattle.step_relation.specs.declared.Numbers.{Numbers}
use Rattle.step_relation.specs.declared.Past.{Past}
use Rattle.step_relation.specs.declared.Stack.{Stack}
use Rattle.step_relation.specs.Applies.{NoneFalls}
use Rattle.step_relation.specs.Numbered.{AllBelow, BelowIfThere, EachOnce, GraphBelow, JobBelow, LetterBelow, Numbered}
use Rattle.step_relation.specs.Numbered.{RowBelow, StackBelow, row_of}
use Rattle.history_laws.proofs.tables.Frame.{only_one}
use Rattle.history_laws.proofs.tables.Points.{point_found}
use Rattle.history_laws.proofs.tables.Rows.{graph_cut, row_cut, stack_cut, stack_kept}
use Rattle.history_laws.proofs.tables.Tables.{Each-cut, Each-put, set_found, some_put}
use Rattle.step_relation.specs.declared.Change.TheVariants as change_to

abbrev pub RowFor : Numbers → Row → Type 0
RowFor next r = RowBelow next.row next.trav next.engine r

abbrev pub LetterFor : Numbers → Letter → Type 0
LetterFor next l = LetterBelow next.letter next.trav l

abbrev pub JobFor : Numbers → Job → Type 0
JobFor next j = JobBelow next.engine next.row next.letter next.trav j

below_more : (o : Option ℕ) (a b : ℕ) → a ≤ b → BelowIfThere a o → BelowIfThere b o
below_more o a b le h n is = let l = h n is in omega arith

all_more : (ns : List ℕ) (a b : ℕ) → a ≤ b → AllBelow a ns → AllBelow b ns
all_more ns a b le h n has = let l = h n has in omega arith

module _ (a b : Numbers) (u : NoneFalls a b) where
  pub RowBelow-rises : (r : Row) → RowFor a r → RowFor b r
  RowBelow-rises r h = record {
    no_ = let n = h.no_ in let l = u.row in omega arith;
    newest = let n = h.newest in let l = u.trav in omega arith;
    required = all_more r.requires_ _ _ u.row h.required;
    replaces = below_more r.replaces _ _ u.row h.replaces;
    replaced_by = below_more r.replaced_by _ _ u.row h.replaced_by;
    holder = below_more r.engine _ _ u.engine h.holder;
  }

  pub LetterBelow-rises : (l : Letter) → LetterFor a l → LetterFor b l
  LetterBelow-rises l h = record {
    no_ = let n = h.no_ in let m = u.letter in omega arith;
    newest = let n = h.newest in let m = u.trav in omega arith;
  }

  pub JobBelow-rises : (j : Job) → JobFor a j → JobFor b j
  JobBelow-rises j h = record {
    holder = let n = h.holder in let m = u.engine in omega arith;
    its_row = let n = h.its_row in let m = u.row in omega arith;
    its_letter = LetterBelow-rises j.letter h.its_letter;
  }

  pub StackBelow-rises : (st : Stack) → StackBelow a.stack a.trav st → StackBelow b.stack b.trav st
  StackBelow-rises st h = record {
    no_ = let n = h.no_ in let m = u.stack in omega arith;
    newest = let n = h.newest in let m = u.trav in omega arith;
  }

  pub GraphBelow-rises : (g : Graph) → GraphBelow a.row g → GraphBelow b.row g
  GraphBelow-rises g h = record {
    nodes = λ i node at. let l = h.nodes i node at in let r = u.row in omega arith;
    inputs = λ i p x at has. let l = h.inputs i p x at has in let r = u.row in omega arith;
  }

pub Numbered-Numbers : (s : StateData) (next : Numbers) → NoneFalls s.next next → Numbered s → Numbered
    (apply (change_to.Numbers next) s)
Numbered-Numbers s next u h = record {
  in_table = h.in_table;
  stacks = λ n st at. StackBelow-rises s.next next u st (h.stacks n st at);
  rows = λ n r at. RowBelow-rises s.next next u r (h.rows n r at);
  graphs = λ n g at. GraphBelow-rises s.next next u g (h.graphs n g at);
  letters = λ n l at. LetterBelow-rises s.next next u l (h.letters n l at);
  jobs = λ e j at. JobBelow-rises s.next next u j (h.jobs e j at);
  live = λ e has. let l = h.live e has in let r = u.engine in omega arith;
  once = h.once;
}

pub Numbered-PutStack : (s : StateData) (st : Stack) → StackBelow s.next.stack s.next.trav st → Numbered s
    → Numbered (apply (PutStack st) s)
Numbered-PutStack s st below h = record {
  in_table = λ n r at. some_put bytes_eq bytes_eq-Decides stack_key st s.stacks r.stack (h.in_table n r at);
  stacks = Each-put bytes_eq bytes_eq-Decides stack_key
      (StackBelow s.next.stack s.next.trav) st s.stacks below h.stacks;
  rows = h.rows;
  graphs = h.graphs;
  letters = h.letters;
  jobs = h.jobs;
  live = h.live;
  once = h.once;
}

-- a stack goes of which no row stands
pub Numbered-DropStack : (s : StateData) (name : List ℕ) →
    ((n : ℕ) (r : Row) → row_at s.rows n ≡ Some r → r.stack ≢ name) → Numbered s
    → Numbered (apply (DropStack name) s)
Numbered-DropStack s name none h = record {
  in_table = λ n r at. subst IsSome (sym (stack_kept name s.stacks r.stack (λ eq. none n r at (sym eq))))
      (h.in_table n r at);
  stacks = λ n st at. h.stacks n st (stack_cut name s.stacks at).1;
  rows = h.rows;
  graphs = λ n g at. h.graphs n g (graph_cut name s.graphs at).1;
  letters = h.letters;
  jobs = h.jobs;
  live = h.live;
  once = h.once;
}

pub Numbered-PutRow : (s : StateData) (q : Row) → RowFor s.next q → IsSome (stack_at s.stacks q.stack) → Numbered s
    → Numbered (apply (PutRow q) s)
Numbered-PutRow s q below there h = record {
  in_table = Each-put nat_eq Decides-eqb row_key (λ r. IsSome (stack_at s.stacks r.stack)) q s.rows there h.in_table;
  stacks = h.stacks;
  rows = Each-put nat_eq Decides-eqb row_key (RowFor s.next) q s.rows below h.rows;
  graphs = h.graphs;
  letters = h.letters;
  jobs = h.jobs;
  live = h.live;
  once = h.once;
}

pub Numbered-DropRow : (s : StateData) (c : ℕ) → Numbered s → Numbered (apply (DropRow c) s)
Numbered-DropRow s c h = record {
  in_table = λ n r at. h.in_table n r (row_cut c s.rows at).1;
  stacks = h.stacks;
  rows = λ n r at. h.rows n r (row_cut c s.rows at).1;
  graphs = h.graphs;
  letters = h.letters;
  jobs = h.jobs;
  live = h.live;
  once = h.once;
}

pub Numbered-Send : (s : StateData) (l : Letter) → LetterFor s.next l → Numbered s → Numbered (apply (Send l) s)
Numbered-Send s l below h = record {
  in_table = h.in_table;
  stacks = h.stacks;
  rows = h.rows;
  graphs = h.graphs;
  letters = Each-put nat_eq Decides-eqb letter_key (LetterFor s.next) l s.letters below h.letters;
  jobs = h.jobs;
  live = h.live;
  once = h.once;
}

pub Numbered-Drop : (s : StateData) (n : ℕ) → Numbered s → Numbered (apply (Drop n) s)
Numbered-Drop s n h = record {
  in_table = h.in_table;
  stacks = h.stacks;
  rows = h.rows;
  graphs = h.graphs;
  letters = Each-cut nat_eq Decides-eqb letter_key (LetterFor s.next) n s.letters h.letters;
  jobs = h.jobs;
  live = h.live;
  once = h.once;
}

pub Numbered-PutJob : (s : StateData) (j : Job) → JobFor s.next j → Numbered s → Numbered (apply (PutJob j) s)
Numbered-PutJob s j below h = record {
  in_table = h.in_table;
  stacks = h.stacks;
  rows = h.rows;
  graphs = h.graphs;
  letters = h.letters;
  jobs = Each-put nat_eq Decides-eqb job_key (JobFor s.next) j s.jobs below h.jobs;
  live = h.live;
  once = h.once;
}

pub Numbered-EndJob : (s : StateData) (e : ℕ) → Numbered s → Numbered (apply (EndJob e) s)
Numbered-EndJob s e h = record {
  in_table = h.in_table;
  stacks = h.stacks;
  rows = h.rows;
  graphs = h.graphs;
  letters = h.letters;
  jobs = Each-cut nat_eq Decides-eqb job_key (JobFor s.next) e s.jobs h.jobs;
  live = h.live;
  once = h.once;
}

pub Numbered-PutPast : (s : StateData) (p : Past) → Numbered s → Numbered (apply (PutPast p) s)
Numbered-PutPast s p h = record {
  in_table = h.in_table;
  stacks = h.stacks;
  rows = h.rows;
  graphs = h.graphs;
  letters = h.letters;
  jobs = h.jobs;
  live = h.live;
  once = h.once;
}

pub Numbered-Release : (s : StateData) (t : Token) → Numbered s → Numbered (apply (Release t) s)
Numbered-Release s t h = record {
  in_table = h.in_table;
  stacks = h.stacks;
  rows = h.rows;
  graphs = h.graphs;
  letters = h.letters;
  jobs = h.jobs;
  live = h.live;
  once = h.once;
}

-- a number that doesn't stand yet joins the others
pub once_more : (numbers : List ℕ) (n : ℕ) → ¬ Contains numbers n → EachOnce numbers → EachOnce (numbers ++ n ∷ [])
once_more numbers n new once = all_pairs_push (λ (a b : ℕ). a ≢ b) numbers n once
    (λ k d lt is. new (
      k,
      lt,
      get_or_from_slice_get numbers k (slice_index_or numbers k d) n
          (slice_get-get_or numbers k d lt) ∙ is,
    ))

pub Numbered-Enlist : (s : StateData) (e : ℕ) → e < s.next.engine → ¬ Contains s.live e → Numbered s
    → Numbered (apply (Enlist e) s)
Numbered-Enlist s e below new h = record {
  in_table = h.in_table;
  stacks = h.stacks;
  rows = h.rows;
  graphs = h.graphs;
  letters = h.letters;
  jobs = h.jobs;
  live = λ f has. elim (Contains-append_cases s.live (e ∷ []) f has) [
    | inl was ↦ h.live f was
    | inr its ↦ rw (← only_one e f its) below
  ];
  once = once_more s.live e new h.once;
}

-- the inputs of the written point are below the next number
abbrev pub PointBelow : ℕ → Point → Type 0
PointBelow row p = (x : Input) → Contains p.inputs x → x.row < row

pub Numbered-PutPoint : (s : StateData) (p : Point) → PointBelow s.next.row p → Numbered s → Numbered
    (apply (PutPoint p) s)
Numbered-PutPoint s p below h = record {
  in_table = h.in_table;
  stacks = h.stacks;
  rows = h.rows;
  graphs = λ n g at. let (o, at_o, is) = point_found p s.graphs n g at in again n g o at_o is;
  letters = h.letters;
  jobs = h.jobs;
  live = h.live;
  once = h.once;
} where
  again : (n : List ℕ) (g o : Graph) → graph_at s.graphs n ≡ Some o → (g ≡ with_point p o) ⊎ (g ≡ o)
      → GraphBelow s.next.row g
  again n g o at_o (inr same) = subst (GraphBelow s.next.row) (sym same) (h.graphs n o at_o)
  again n g o at_o (inl same) = subst (GraphBelow s.next.row) (sym same) (
      let old = h.graphs n o at_o in
      record {
        nodes = old.nodes;
        inputs = λ k q x at has. elim (set_found o.points p.node p k q at) [
          | inl is ↦ below x (rw is.1 at has)
          | inr was ↦ old.inputs k q x was has
        ];
      })

-- a point of a graph on which nothing has been done has no input
pub fresh_point_empty : (stack : List ℕ) (place : ℕ) (nodes : List Node) (i : ℕ) (p : Point) → slice_get
    (fresh_points stack place nodes) i ≡ Some p
    → p.inputs ≡ []
fresh_point_empty stack place [] i p at = cc
fresh_point_empty stack place (node ∷ nodes) zero p at =
    let is : record { stack = stack; node = place; inputs = []; done = false } ≡ p = cc in sym
    (ap (λ (x : Point). x.inputs) is)
fresh_point_empty stack place (node ∷ nodes) (suc i) p at = fresh_point_empty stack (place + 1) nodes i p at

no_input : (x : Input) → Contains [] x → ⊥
no_input x (n, lt, is) = omega arith

pub GraphBelow-fresh : (row : ℕ) (name : List ℕ) (g : TravGraph) →
    ((i : ℕ) (node : Node) → slice_get g.nodes i ≡ Some node → row_of node < row)
    → GraphBelow row (fresh_graph name g)
GraphBelow-fresh row name g below = record {
  nodes = below;
  inputs = λ i p x at has. absurd (no_input x (rw (fresh_point_empty name 0 g.nodes i p at) at has));
}

pub Numbered-PutGraph : (s : StateData) (name : List ℕ) (g : TravGraph) →
    ((i : ℕ) (node : Node) → slice_get g.nodes i ≡ Some node → row_of node < s.next.row)
    → Numbered s → Numbered (apply (PutGraph name g) s)
Numbered-PutGraph s name g below h = record {
  in_table = h.in_table;
  stacks = h.stacks;
  rows = h.rows;
  graphs = Each-put bytes_eq bytes_eq-Decides graph_key (GraphBelow s.next.row) (fresh_graph name g) s.graphs
      (GraphBelow-fresh s.next.row name g below) h.graphs;
  letters = h.letters;
  jobs = h.jobs;
  live = h.live;
  once = h.once;
}
