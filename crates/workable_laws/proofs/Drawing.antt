-- Numbers that are drawn stay below the next ones, and each graph stays whole, whatever is changed.
use Rattle.std.proofs.Common.{◌≡◌, inl, inr, ◌<◌, ℕ, zero, suc, ◌+◌, List, [], ◌∷◌, ◌++◌, length, map, not, nat_eq}
use Rattle.std.proofs.Common.{Option, Some, None, refl, sym, subst, ◌∙◌, arith}
use Rattle.std.specs.Prelude.{Contains, IsSome, slice_get, slice_set}
use Rattle.std.proofs.lemmas.List.Elements.{Contains-append_cases}
use Rattle.heat_plan.specs.declared.token.Token.{Token}
use Rattle.traversal_graph.specs.declared.shape.Node.{Node}
use Rattle.traversal_graph.specs.declared.shape.Node.TheVariants.{C}
use Rattle.row_table.specs.declared.row.Row.{Row}
use Rattle.sync_points.specs.declared.point.Point.{Point}
use Rattle.mail_table.specs.declared.mail.Job.{Job}
use Rattle.mail_table.specs.declared.mail.Letter.{Letter}
use Rattle.core_state.specs.Applies.{IsWithin, NoneFalls}
use Rattle.core_state.specs.Changes.{applied, apply, fresh_graph}
use Rattle.core_state.specs.Graphs.{fresh_points}
use Rattle.core_state.specs.State.{StateData, cut_stack, graph_at, put_stack, stack_at}
use Rattle.core_state.specs.declared.change.Change.{Change}
use Rattle.core_state.specs.declared.change.Change.TheVariants.{Drop, DropRow, DropStack, EndJob, Enlist, PutGraph}
use Rattle.core_state.specs.declared.change.Change.TheVariants.{PutJob, PutPast, PutPoint, PutRow, PutStack, Release}
use Rattle.core_state.specs.declared.change.Change.TheVariants.{Send, Stop}
use Rattle.core_state.specs.declared.graph.Graph.{Graph}
use Rattle.core_state.specs.declared.numbers.Numbers.{Numbers}
use Rattle.core_state.specs.declared.stack.Stack.{Stack}
use Rattle.step_relation.specs.Writes.{draw_letters, past_letters}
use Rattle.history_laws.proofs.tables.Points.{point_found}
use Rattle.history_laws.proofs.tables.Rows.{graph_cut, graph_put, job_cut, job_put, letter_cut, letter_put, row_cut, row_put}
use Rattle.history_laws.proofs.tables.Rows.{same_or_not, stack_else, stack_gone, stack_kept, text_or_not}
use Rattle.history_laws.proofs.tables.Tables.{set_else, set_here}
use Rattle.history_laws.proofs.agrees.Called.{filtered, only}
use Rattle.next_laws.proofs.Listings.{in_head, in_tail}
use Rattle.workable_laws.specs.Workable.{AreWhole, Drawn, IsWhole}
use Rattle.core_state.specs.declared.change.Change.TheVariants as change_to

-- a change writes no number from the next one on, but for one that it draws, and a stack of these that stood
abbrev pub FitsNext : StateData → Numbers → Change → Type 0
FitsNext s next (PutStack st) = IsSome (stack_at s.stacks st.name)
FitsNext s next (DropStack name) = Unit {0}
FitsNext s next (PutRow r) = r.no < next.row
FitsNext s next (DropRow n) = Unit {0}
FitsNext s next (PutGraph name g) = ((i n : ℕ) → slice_get g.nodes i ≡ Some (C n) → n < next.row) × IsWithin g
FitsNext s next (PutPoint p) = Unit {0}
FitsNext s next (Send l) = l.no < next.letter
FitsNext s next (Drop n) = Unit {0}
FitsNext s next (PutJob j) = (j.row < next.row) × (j.engine < next.engine)
FitsNext s next (EndJob e) = Unit {0}
FitsNext s next (Enlist e) = e < next.engine
FitsNext s next (Stop e) = Unit {0}
FitsNext s next (change_to.Numbers n) = NoneFalls next n
FitsNext s next (PutPast p) = Unit {0}
FitsNext s next (Release t) = t.row < next.row

abbrev pub next_then : Numbers → Change → Numbers
next_then next (PutStack st) = next
next_then next (DropStack name) = next
next_then next (PutRow r) = next
next_then next (DropRow n) = next
next_then next (PutGraph name g) = next
next_then next (PutPoint p) = next
next_then next (Send l) = next
next_then next (Drop n) = next
next_then next (PutJob j) = next
next_then next (EndJob e) = next
next_then next (Enlist e) = next
next_then next (Stop e) = next
next_then next (change_to.Numbers n) = n
next_then next (PutPast p) = next
next_then next (Release t) = next

abbrev pub AllFit : StateData → Numbers → List Change → Type 0
AllFit s next [] = Unit {0}
AllFit s next (c ∷ cs) = FitsNext s next c × AllFit s (next_then next c) cs

drawn_once : (first s : StateData) (c : Change) → FitsNext first s.next c → Drawn s → Drawn (apply c s)
drawn_once first s (PutStack st) fits d = record {
  rows = d.rows;
  cleanups = d.cleanups;
  jobs = d.jobs;
  holders = d.holders;
  letters = d.letters;
  live = d.live;
  released = d.released;
}
drawn_once first s (DropStack name) fits d = record {
  rows = d.rows;
  cleanups = λ n g i k at node. d.cleanups n g i k (graph_cut name s.graphs at).1 node;
  jobs = d.jobs;
  holders = d.holders;
  letters = d.letters;
  live = d.live;
  released = d.released;
}
drawn_once first s (PutRow r) fits d = record {
  rows = λ n q at. elim (row_put r s.rows at) [
    | inl new ↦ subst (λ (k : ℕ). k < s.next.row) new.0 fits
    | inr old ↦ d.rows n q old.1
  ];
  cleanups = d.cleanups;
  jobs = d.jobs;
  holders = d.holders;
  letters = d.letters;
  live = d.live;
  released = d.released;
}
drawn_once first s (DropRow c) fits d = record {
  rows = λ n q at. d.rows n q (row_cut c s.rows at).1;
  cleanups = d.cleanups;
  jobs = d.jobs;
  holders = d.holders;
  letters = d.letters;
  live = d.live;
  released = d.released;
}
drawn_once first s (PutGraph name g) fits d = record {
  rows = d.rows;
  cleanups = λ n q i k at node. elim (graph_put (fresh_graph name g) s.graphs at) [
    | inl new ↦ fits.0 i k (subst (λ (x : Graph). slice_get x.graph.nodes i ≡ Some (C k)) (sym new.1) node)
    | inr old ↦ d.cleanups n q i k old.1 node
  ];
  jobs = d.jobs;
  holders = d.holders;
  letters = d.letters;
  live = d.live;
  released = d.released;
}
drawn_once first s (PutPoint p) fits d = record {
  rows = d.rows;
  cleanups = λ n g i k at node. let (x, was, either) = point_found p s.graphs n g at in elim either [
    | inl is ↦ d.cleanups n x i k was (subst (λ (y : Graph). slice_get y.graph.nodes i ≡ Some (C k)) is node)
    | inr is ↦ d.cleanups n x i k was (subst (λ (y : Graph). slice_get y.graph.nodes i ≡ Some (C k)) is node)
  ];
  jobs = d.jobs;
  holders = d.holders;
  letters = d.letters;
  live = d.live;
  released = d.released;
}
drawn_once first s (Send l) fits d = record {
  rows = d.rows;
  cleanups = d.cleanups;
  jobs = d.jobs;
  holders = d.holders;
  letters = λ n m at. elim (letter_put l s.letters at) [
    | inl new ↦ subst (λ (k : ℕ). k < s.next.letter) new.0 fits
    | inr old ↦ d.letters n m old.1
  ];
  live = d.live;
  released = d.released;
}
drawn_once first s (Drop c) fits d = record {
  rows = d.rows;
  cleanups = d.cleanups;
  jobs = d.jobs;
  holders = d.holders;
  letters = λ n m at. d.letters n m (letter_cut c s.letters at).1;
  live = d.live;
  released = d.released;
}
drawn_once first s (PutJob j) fits d = record {
  rows = d.rows;
  cleanups = d.cleanups;
  jobs = λ e k at. elim (job_put j s.jobs at) [
    | inl new ↦ subst (λ (x : Job). x.row < s.next.row) new.1 fits.0
    | inr old ↦ d.jobs e k old.1
  ];
  holders = λ e k at. elim (job_put j s.jobs at) [
    | inl new ↦ subst (λ (x : ℕ). x < s.next.engine) new.0 fits.1
    | inr old ↦ d.holders e k old.1
  ];
  letters = d.letters;
  live = d.live;
  released = d.released;
}
drawn_once first s (EndJob c) fits d = record {
  rows = d.rows;
  cleanups = d.cleanups;
  jobs = λ e k at. d.jobs e k (job_cut c s.jobs at).1;
  holders = λ e k at. d.holders e k (job_cut c s.jobs at).1;
  letters = d.letters;
  live = d.live;
  released = d.released;
}
drawn_once first s (Enlist e) fits d = record {
  rows = d.rows;
  cleanups = d.cleanups;
  jobs = d.jobs;
  holders = d.holders;
  letters = d.letters;
  live = λ f at. elim (Contains-append_cases s.live (e ∷ []) f at)
      [ inl old ↦ d.live f old | inr new ↦ subst (λ (k : ℕ). k < s.next.engine) (sym (only e f new)) fits ];
  released = d.released;
}
drawn_once first s (Stop e) fits d = record {
  rows = d.rows;
  cleanups = d.cleanups;
  jobs = d.jobs;
  holders = d.holders;
  letters = d.letters;
  live = λ f at. d.live f (filtered (λ x. not (nat_eq x e)) f s.live at).0;
  released = d.released;
}
drawn_once first s (change_to.Numbers n) fits d = record {
  rows = λ k r at. let lt = d.rows k r at in let up = fits.row in omega (arith, lt, up);
  cleanups = λ name g i k at node. let lt = d.cleanups name g i k at node in let up = fits.row in omega (arith, lt, up);
  jobs = λ e j at. let lt = d.jobs e j at in let up = fits.row in omega (arith, lt, up);
  holders = λ e j at. let lt = d.holders e j at in let up = fits.engine in omega (arith, lt, up);
  letters = λ k l at. let lt = d.letters k l at in let up = fits.letter in omega (arith, lt, up);
  live = λ e at. let lt = d.live e at in let up = fits.engine in omega (arith, lt, up);
  released = λ t at. let lt = d.released t at in let up = fits.row in omega (arith, lt, up);
}
drawn_once first s (PutPast p) fits d = record {
  rows = d.rows;
  cleanups = d.cleanups;
  jobs = d.jobs;
  holders = d.holders;
  letters = d.letters;
  live = d.live;
  released = d.released;
}
drawn_once first s (Release t) fits d = record {
  rows = d.rows;
  cleanups = d.cleanups;
  jobs = d.jobs;
  holders = d.holders;
  letters = d.letters;
  live = d.live;
  released = λ x at. elim (Contains-append_cases s.released (t ∷ []) x at)
      [ inl old ↦ d.released x old | inr new ↦ subst (λ (y : Token). y.row < s.next.row) (sym (only t x new)) fits ];
}

next_is : (s : StateData) (c : Change) → (apply c s).next ≡ next_then s.next c
next_is s (PutStack st) = refl
next_is s (DropStack name) = refl
next_is s (PutRow r) = refl
next_is s (DropRow n) = refl
next_is s (PutGraph name g) = refl
next_is s (PutPoint p) = refl
next_is s (Send l) = refl
next_is s (Drop n) = refl
next_is s (PutJob j) = refl
next_is s (EndJob e) = refl
next_is s (Enlist e) = refl
next_is s (Stop e) = refl
next_is s (change_to.Numbers n) = refl
next_is s (PutPast p) = refl
next_is s (Release t) = refl

pub drawn_applied : (first : StateData) (cs : List Change) (s : StateData) → AllFit first s.next cs → Drawn s
    → Drawn (applied cs s)
drawn_applied first [] s fits d = d
drawn_applied first (c ∷ cs) s fits d =
    drawn_applied first cs (apply c s) (subst (λ (n : Numbers). AllFit first n cs) (sym (next_is s c)) fits.1)
    (drawn_once first s c fits.0 d)

-- lists of changes
pub sends_fit : (first : StateData) (next : Numbers) (ls : List Letter) (rest : List Change)
    → ((l : Letter) → Contains ls l → l.no < next.letter) → AllFit first next rest
    → AllFit first next (map Send ls ++ rest)
sends_fit first next [] rest each fits = fits
sends_fit first next (l ∷ ls) rest each fits =
    (each l (in_head ls l), sends_fit first next ls rest (λ m c. each m (in_tail ls l m c)) fits)

pub sends_all : (first : StateData) (next : Numbers) (ls : List Letter)
    → ((l : Letter) → Contains ls l → l.no < next.letter) → AllFit first next (map Send ls)
sends_all first next [] each = tt
sends_all first next (l ∷ ls) each = (each l (in_head ls l), sends_all first next ls (λ m c. each m (in_tail ls l m c)))

pub rows_fit : (first : StateData) (next : Numbers) (rs : List Row) (rest : List Change)
    → ((r : Row) → Contains rs r → r.no < next.row) → AllFit first next rest
    → AllFit first next (map PutRow rs ++ rest)
rows_fit first next [] rest each fits = fits
rows_fit first next (r ∷ rs) rest each fits =
    (each r (in_head rs r), rows_fit first next rs rest (λ m c. each m (in_tail rs r m c)) fits)

pub points_fit : (first : StateData) (next : Numbers) (ps : List Point) (rest : List Change) → AllFit first next rest
    → AllFit first next (map PutPoint ps ++ rest)
points_fit first next [] rest fits = fits
points_fit first next (p ∷ ps) rest fits = (tt, points_fit first next ps rest fits)

-- the numbers behind the letters that are drawn
abbrev pub past_drawn : Numbers → List Letter → Numbers
past_drawn next [] = next
past_drawn next (l ∷ ls) = past_letters next (length (l ∷ ls))

pub same_falls : (next : Numbers) (count : ℕ) → NoneFalls next (past_letters next count)
same_falls next count = record {
  stack = omega arith;
  trav = omega arith;
  row = omega arith;
  engine = omega arith;
  letter = omega arith;
}

pub draw_fits : (first : StateData) (next : Numbers) (ls : List Letter) (rest : List Change)
    → AllFit first (past_drawn next ls) rest → AllFit first next (draw_letters next ls rest)
draw_fits first next [] rest fits = fits
draw_fits first next (l ∷ ls) rest fits = (same_falls next (length (l ∷ ls)), fits)

-- points
pub fresh_point : (stack : List ℕ) (place : ℕ) (nodes : List Node) (i : ℕ) (node : Node) → slice_get nodes i ≡ Some node
    → (p : Point) × (slice_get (fresh_points stack place nodes) i ≡ Some p)
fresh_point stack place [] i node at = cc
fresh_point stack place (x ∷ nodes) zero node at = (_, refl)
fresh_point stack place (x ∷ nodes) (suc i) node at = fresh_point stack (place + 1) nodes i node at

still_there : (ps : List Point) (k : ℕ) (p : Point) (i : ℕ) (q : Point) → slice_get ps i ≡ Some q
    → (x : Point) × (slice_get (slice_set ps k p) i ≡ Some x)
still_there ps k p i q at = elim (same_or_not i k) [
  | inl is ↦ (p, subst (λ (n : ℕ). slice_get (slice_set ps n p) i ≡ Some p) is (set_here ps i p q at))
  | inr ne ↦ (q, set_else ps k p i ne ∙ at)
]

-- each stack is one of those at first, and the graphs of these are whole
pub record AreLaid (first s : StateData) : Type 0 where
  pub stacks : (n : List ℕ) → IsSome (stack_at s.stacks n) → IsSome (stack_at first.stacks n)
  pub graphs : (n : List ℕ) (g : Graph) → IsSome (stack_at first.stacks n) → graph_at s.graphs n ≡ Some g → IsWhole g

was_there : (first : StateData) (x : Stack) (stacks : List Stack) → IsSome (stack_at first.stacks x.name)
    → ((n : List ℕ) → IsSome (stack_at stacks n) → IsSome (stack_at first.stacks n)) → (n : List ℕ)
    → IsSome (stack_at (put_stack x stacks) n)
    → IsSome (stack_at first.stacks n)
was_there first x stacks some were n has = elim (text_or_not x.name n) [
  | inl is ↦ subst (λ (m : List ℕ). IsSome (stack_at first.stacks m)) is some
  | inr ne ↦ were n (subst IsSome (stack_else x stacks n ne) has)
]

cut_there : (first : StateData) (c : List ℕ) (stacks : List Stack)
    → ((n : List ℕ) → IsSome (stack_at stacks n) → IsSome (stack_at first.stacks n))
    → (n : List ℕ) → IsSome (stack_at (cut_stack c stacks) n) → IsSome (stack_at first.stacks n)
cut_there first c stacks were n has = elim (text_or_not c n) [
  | inl is ↦ (let none = stack_gone c stacks in
      let some : IsSome (stack_at (cut_stack c stacks) c) =
      subst (λ (m : List ℕ). IsSome (stack_at (cut_stack c stacks) m)) (sym is) has in
      absurd (no_some (stack_at (cut_stack c stacks) c) none some))
  | inr ne ↦ were n (subst IsSome (stack_kept c stacks n ne) has)
] where
  no_some : (o : Option Stack) → o ≡ None → IsSome o → ⊥
  no_some None is some = cc
  no_some (Some x) is some = cc

whole_once : (first s : StateData) (c : Change) → FitsNext first s.next c → AreLaid first s → AreLaid first (apply c s)
whole_once first s (PutStack st) fits h =
    record { stacks = was_there first st s.stacks fits h.stacks; graphs = h.graphs }
whole_once first s (DropStack name) fits h =
    record {
      stacks = cut_there first name s.stacks h.stacks;
      graphs = λ n g has at. h.graphs n g has (graph_cut name s.graphs at).1;
    }
whole_once first s (PutRow r) fits h = record { stacks = h.stacks; graphs = h.graphs }
whole_once first s (DropRow n) fits h = record { stacks = h.stacks; graphs = h.graphs }
whole_once first s (PutGraph name x) fits h = record {
  stacks = h.stacks;
  graphs = λ n g has at. elim (graph_put (fresh_graph name x) s.graphs at) [
    | inl new ↦ subst IsWhole new.1
        (record { points = λ i node it. fresh_point name 0 x.nodes i node it; ends = fits.1 })
    | inr old ↦ h.graphs n g has old.1
  ];
}
whole_once first s (PutPoint p) fits h = record {
  stacks = h.stacks;
  graphs = λ n g has at. let (x, was, either) = point_found p s.graphs n g at in elim either [
    | inl is ↦ subst IsWhole (sym is) (let old = h.graphs n x has was in record {
      points = λ i node it. let (q, there) = old.points i node it in still_there x.points p.node p i q there;
      ends = old.ends;
    })
    | inr is ↦ subst IsWhole (sym is) (h.graphs n x has was)
  ];
}
whole_once first s (Send l) fits h = record { stacks = h.stacks; graphs = h.graphs }
whole_once first s (Drop n) fits h = record { stacks = h.stacks; graphs = h.graphs }
whole_once first s (PutJob j) fits h = record { stacks = h.stacks; graphs = h.graphs }
whole_once first s (EndJob e) fits h = record { stacks = h.stacks; graphs = h.graphs }
whole_once first s (Enlist e) fits h = record { stacks = h.stacks; graphs = h.graphs }
whole_once first s (Stop e) fits h = record { stacks = h.stacks; graphs = h.graphs }
whole_once first s (change_to.Numbers n) fits h = record { stacks = h.stacks; graphs = h.graphs }
whole_once first s (PutPast p) fits h = record { stacks = h.stacks; graphs = h.graphs }
whole_once first s (Release t) fits h = record { stacks = h.stacks; graphs = h.graphs }

laid_applied : (first : StateData) (cs : List Change) (s : StateData) → AllFit first s.next cs → AreLaid first s
    → AreLaid first (applied cs s)
laid_applied first [] s fits h = h
laid_applied first (c ∷ cs) s fits h =
    laid_applied first cs (apply c s) (subst (λ (n : Numbers). AllFit first n cs) (sym (next_is s c)) fits.1)
    (whole_once first s c fits.0 h)

pub whole_applied : (cs : List Change) (s : StateData) → AllFit s s.next cs → AreWhole s → AreWhole (applied cs s)
whole_applied cs s fits h =
    let k = laid_applied s cs s fits (record { stacks = λ n has. has; graphs = h }) in
    λ n g has at. k.graphs n g (k.stacks n has) at
