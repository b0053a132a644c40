-- Lists of changes that apply, one behind another.
use Rattle.std.proofs.Common.{◌≡◌, ◌≢◌, inl, inr, ◌<◌, ℕ, zero, suc, ◌+◌, List, [], ◌∷◌, ◌++◌, length, map, not}
use Rattle.std.proofs.Common.{nat_eq}
use Rattle.std.proofs.Common.{Option, Some, None, refl, sym, ap, subst, ◌∙◌, arith}
use Rattle.std.specs.Prelude.{Bool, Contains, IsSome, false, true}
use Rattle.std.proofs.lemmas.Bool.Decides.{Decides-eqb}
use Rattle.std.proofs.lemmas.List.Elements.{Contains-append_cases}
use Rattle.std.proofs.lemmas.List.Kept.{AllPairs-filter}
use Rattle.provider.proofs.Lists.{Contains-filter}
use Rattle.heat_plan.specs.declared.phase.Act.{Act}
use Rattle.heat_plan.specs.declared.phase.Act.TheVariants.{Create, Delete, Init, Rollback, Update}
use Rattle.row_table.specs.declared.row.Row.{Row}
use Rattle.sync_points.specs.declared.point.Point.{Point}
use Rattle.mail_table.specs.Mails.{letter_at}
use Rattle.mail_table.specs.declared.mail.Letter.{Letter}
use Rattle.core_state.specs.Applies.{AllApply, Applies, HasNode}
use Rattle.core_state.specs.Changes.{applied, apply, put_point, with_point}
use Rattle.core_state.specs.State.{StateData, graph_at, stack_at}
use Rattle.core_state.specs.declared.change.Change.{Change}
use Rattle.core_state.specs.declared.change.Change.TheVariants.{Drop, DropRow, DropStack, EndJob, Enlist, PutGraph}
use Rattle.core_state.specs.declared.change.Change.TheVariants.{PutJob, PutPast, PutPoint, PutRow, PutStack, Release}
use Rattle.core_state.specs.declared.change.Change.TheVariants.{Send, Stop}
use Rattle.core_state.specs.declared.graph.Graph.{Graph}
use Rattle.core_state.specs.declared.numbers.Numbers.{Numbers}
use Rattle.core_state.specs.declared.stack.Stack.{Stack}
use Rattle.step_relation.specs.Steps.{engines_from}
use Rattle.step_relation.specs.Writes.{draw_letters, letters_to, lock, mark_complete, mark_failed, unlock}
use Rattle.step_relation.specs.Numbered.{AllBelow, EachOnce}
use Rattle.history_laws.proofs.links.Numbers.{once_more}
use Rattle.history_laws.proofs.tables.Points.{point_here}
use Rattle.history_laws.proofs.tables.Rows.{letter_put}
use Rattle.history_laws.proofs.agrees.Called.{filtered, only}
use Rattle.next_laws.proofs.Listings.{cons_cases, in_head, in_tail, no_member}
use Rattle.workable_laws.proofs.Drawing.{same_falls}
use Rattle.core_state.specs.declared.change.Change.TheVariants as change_to

pub mapped : {A B : Type 0} (f : A → B) (xs : List A) (y : B) → Contains (map f xs) y
    → (x : A) × Contains xs x × (y ≡ f x)
mapped f [] y c = absurd (no_member y c)
mapped f (x ∷ xs) y c = elim (cons_cases (map f xs) (f x) y c) [
  | inl is ↦ (x, in_head xs x, is)
  | inr later ↦ let (z, at, is) = mapped f xs y later in (z, in_tail xs x z at, is)
]

pub apply-append : (xs ys : List Change) (s : StateData) → AllApply xs s → AllApply ys (applied xs s)
    → AllApply (xs ++ ys) s
apply-append [] ys s first last = last
apply-append (x ∷ xs) ys s first last = (first.0, apply-append xs ys (apply x s) first.1 last)

-- the numbers of letters are drawn; what follows applies whatever the next numbers are
pub draw_apply : (s : StateData) (ls : List Letter) (rest : List Change)
    → ((n : Numbers) → AllApply rest (record s { next = n })) → AllApply (draw_letters s.next ls rest) s
draw_apply s [] rest more = more s.next
draw_apply s (l ∷ ls) rest more = (same_falls s.next (length (l ∷ ls)), more _)

-- rows are written
pub unlock_apply : (s : StateData) (row : Option Row) (rest : List Change)
    → ((rows : List Row) → AllApply rest (record s { rows = rows })) → AllApply (unlock row rest) s
unlock_apply s None rest more = more s.rows
unlock_apply s (Some r) rest more = (tt, more _)

pub lock_apply : (s : StateData) (row : Option Row) (e : ℕ) (rest : List Change)
    → ((rows : List Row) → AllApply rest (record s { rows = rows })) → AllApply (lock row e rest) s
lock_apply s None e rest more = more s.rows
lock_apply s (Some r) e rest more = (tt, more _)

pub rows_apply : (s : StateData) (rs : List Row) (rest : List Change)
    → ((rows : List Row) → AllApply rest (record s { rows = rows })) → AllApply (map PutRow rs ++ rest) s
rows_apply s [] rest more = more s.rows
rows_apply s (r ∷ rs) rest more = (tt, rows_apply (apply (PutRow r) s) rs rest more)

-- letters that are numbered one behind another
abbrev pub IsFrom : ℕ → List Letter → Type 0
IsFrom n [] = Unit {0}
IsFrom n (l ∷ ls) = (l.no ≡ n) × IsFrom (n + 1) ls

pub letters_from : (st : Stack) (n : ℕ) (nodes : List ℕ) → IsFrom n (letters_to st n nodes)
letters_from st n [] = tt
letters_from st n (node ∷ nodes) = (refl, letters_from st (n + 1) nodes)

-- every waiting letter has a lower number
abbrev pub LettersBelow : ℕ → List Letter → Type 0
LettersBelow n letters = (m : ℕ) (l : Letter) → letter_at letters m ≡ Some l → m < n

none_waits : (letters : List Letter) (n m : ℕ) → LettersBelow n letters → m ≡ n → letter_at letters m ≡ None
none_waits letters n m below is = by (letter_at letters m) refl where
  by : (o : Option Letter) → letter_at letters m ≡ o → letter_at letters m ≡ None
  by None at = at
  by (Some l) at = let lt = below m l at in absurd (omega (arith, lt, is))

one_more : (letters : List Letter) (n : ℕ) (l : Letter) → LettersBelow n letters → l.no ≡ n
    → (s : StateData) → s.letters ≡ letters → LettersBelow (n + 1) (apply (Send l) s).letters
one_more letters n l below is s same m x at = elim (letter_put l s.letters at) [
  | inl new ↦ (let e = new.0 in omega (arith, is, e))
  | inr old ↦ (let lt = below m x (subst (λ (ls : List Letter). letter_at ls m ≡ Some x) same old.1) in
      omega (arith, lt))
]

-- they are sent; what follows reads the stacks alone
pub sends_apply : (n : ℕ) (ls : List Letter) (rest : List Change) (s : StateData) → IsFrom n ls
    → LettersBelow n s.letters
    → ((t : StateData) → t.stacks ≡ s.stacks → AllApply rest t) → AllApply (map Send ls ++ rest) s
sends_apply n [] rest s from below more = more s refl
sends_apply n (l ∷ ls) rest s from below more = (
  none_waits s.letters n l.no below from.0,
  sends_apply (n + 1) ls rest (apply (Send l) s) from.1 (one_more s.letters n l below from.0 s refl) more,
)

pub sends_alone : (n : ℕ) (ls : List Letter) (s : StateData) → IsFrom n ls → LettersBelow n s.letters
    → AllApply (map Send ls) s
sends_alone n [] s from below = tt
sends_alone n (l ∷ ls) s from below = (
  none_waits s.letters n l.no below from.0,
  sends_alone (n + 1) ls (apply (Send l) s) from.1 (one_more s.letters n l below from.0 s refl),
)

-- a stack's graph, with so many nodes
pub record HasNodes (graphs : List Graph) (name : List ℕ) (count : ℕ) : Type 0 where
  pub graph : Graph
  pub found : graph_at graphs name ≡ Some graph
  pub size : length graph.graph.nodes ≡ count

-- a point of one of its nodes
pub record IsPointOf (name : List ℕ) (count : ℕ) (p : Point) : Type 0 where
  pub stack : p.stack ≡ name
  pub node : p.node < count

pub points_apply : (name : List ℕ) (count : ℕ) (ps : List Point) (rest : List Change) (s : StateData)
    → ((p : Point) → Contains ps p → IsPointOf name count p) → HasNodes s.graphs name count
    → ((graphs : List Graph) → AllApply rest (record s { graphs = graphs })) → AllApply (map PutPoint ps ++ rest) s
points_apply name count [] rest s each has more = more s.graphs
points_apply name count (p ∷ ps) rest s each has more = (
  here,
  points_apply name count ps rest (apply (PutPoint p) s) (λ q c. each q (in_tail ps p q c)) then more,
) where
  its : IsPointOf name count p
  its = each p (in_head ps p)

  found : graph_at s.graphs p.stack ≡ Some has.graph
  found = subst (λ (n : List ℕ). graph_at s.graphs n ≡ Some has.graph) (sym its.stack) has.found

  here : HasNode s p
  here = record {
    graph = has.graph;
    its_graph = found;
    within = let lt = its.node in let size = has.size in omega (arith, lt, size);
  }

  then : HasNodes (put_point p s.graphs) name count
  then = record {
    graph = with_point p has.graph;
    found = subst (λ (n : List ℕ). graph_at (put_point p s.graphs) n ≡ Some (with_point p has.graph)) its.stack
        (point_here p s.graphs has.graph found);
    size = has.size;
  }

-- marks
pub mark_apply : (t : StateData) (st : Stack) → IsSome (stack_at t.stacks st.name) → AllApply (mark_complete st) t
mark_apply t st some = by st.act where
  by : (a : Act) → AllApply (mark_complete (record st { act = a })) t
  by Delete = (some, tt)
  by Init = (tt, tt)
  by Create = (tt, tt)
  by Update = (tt, tt)
  by Rollback = (tt, tt)

pub failure_apply : (t : StateData) (f : Option Stack) → AllApply (mark_failed f) t
failure_apply t None = tt
failure_apply t (Some st) = (tt, tt)

unlike : (a b : ℕ) → a ≢ b → not (nat_eq a b) ≡ true
unlike a b ne = by (nat_eq a b) refl where
  by : (x : Bool) → nat_eq a b ≡ x → not (nat_eq a b) ≡ true
  by true e = absurd (ne ((Decides-eqb a b).0 e))
  by false e = ap not e

-- all of these engines stop, each once; what follows finds fewer live
pub stops_apply : (es : List ℕ) (rest : List Change) (t : StateData) (high : ℕ) → EachOnce es
    → ((e : ℕ) → Contains es e → Contains t.live e) → AllBelow high t.live
    → ((u : StateData) → u.next ≡ t.next → AllBelow high u.live → AllApply rest u) → AllApply (map Stop es ++ rest) t
stops_apply [] rest t high once each low more = more t refl low
stops_apply (e ∷ es) rest t high once each low more = (
  each e (in_head es e),
  stops_apply es rest (apply (Stop e) t) high
      (λ i j d lt le. once (suc i) (suc j) d (omega (arith, lt)) (omega (arith, le)))
      still (λ f c. low f (filtered (λ x. not (nat_eq x e)) f t.live c).0) more,
) where
  other : (f : ℕ) → Contains es f → f ≢ e
  other f (k, lt, is) same = once 0 (suc k) f (omega arith) (omega (arith, lt)) (sym same ∙ sym is)

  still : (f : ℕ) → Contains es f → Contains (apply (Stop e) t).live f
  still f c = Contains-filter (λ x. not (nat_eq x e)) f t.live (unlike f e (other f c)) (each f (in_tail es e f c))

-- so many are enlisted behind all that live
pub enlists_apply : (first count : ℕ) (t : StateData) → AllBelow first t.live
    → AllApply (map Enlist (engines_from first count)) t
enlists_apply first zero t low = tt
enlists_apply first (suc count) t low = (
  (λ c. let lt = low first c in omega (arith, lt)),
  enlists_apply (first + 1) count (apply (Enlist first) t)
      (λ f c. elim (Contains-append_cases t.live (first ∷ []) f c) [
        | inl old ↦ (let lt = low f old in omega (arith, lt))
        | inr new ↦ (let is = only first f new in omega (arith, is))
      ]),
)

-- no engine is live twice behind changes that apply
once_behind : (c : Change) (s : StateData) → Applies s c → EachOnce s.live → EachOnce (apply c s).live
once_behind (PutStack st) s fits once = once
once_behind (DropStack name) s fits once = once
once_behind (PutRow r) s fits once = once
once_behind (DropRow n) s fits once = once
once_behind (PutGraph name g) s fits once = once
once_behind (PutPoint p) s fits once = once
once_behind (Send l) s fits once = once
once_behind (Drop n) s fits once = once
once_behind (PutJob j) s fits once = once
once_behind (EndJob e) s fits once = once
once_behind (Enlist e) s fits once = once_more s.live e fits once
once_behind (Stop e) s fits once = AllPairs-filter (λ (a b : ℕ). a ≢ b) (λ x. not (nat_eq x e)) s.live once
once_behind (change_to.Numbers n) s fits once = once
once_behind (PutPast p) s fits once = once
once_behind (Release t) s fits once = once

pub once_applied : (cs : List Change) (s : StateData) → AllApply cs s → EachOnce s.live → EachOnce (applied cs s).live
once_applied [] s fits once = once
once_applied (c ∷ cs) s fits once = once_applied cs (apply c s) fits.1 (once_behind c s fits.0 once)
