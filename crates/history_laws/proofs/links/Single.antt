-- What each single change keeps of `Links`.
use Rattle.std.proofs.Common.{◌≡◌, ◌≢◌, ◌<◌, ◌≤◌, inl, inr, ℕ, ◌+◌, List, [], ◌∷◌, ◌++◌, map, Option, Some, None, refl}
use Rattle.std.proofs.Common.{ap, ◌∙◌, arith}
use Rattle.std.specs.Prelude.{length}
use Rattle.std.specs.List.{AllByRecursion}
use Rattle.heat_plan.specs.declared.phase.Act.{Act}
use Rattle.heat_plan.specs.declared.phase.Act.TheVariants.{Create, Delete, Init, Rollback, Update}
use Rattle.heat_plan.specs.declared.phase.Status.{Status}
use Rattle.heat_plan.specs.declared.phase.Status.TheVariants.{Complete, Failed}
use Rattle.heat_plan.specs.declared.token.Token.{Token}
use Rattle.row_table.specs.Rows.{put_row, row_at}
use Rattle.row_table.specs.declared.row.Row.{Row}
use Rattle.sync_points.specs.declared.point.Point.{Point}
use Rattle.mail_table.specs.declared.mail.Letter.{Letter}
use Rattle.step_relation.specs.Changes.{applied, apply}
use Rattle.step_relation.specs.State.{StateData}
use Rattle.step_relation.specs.declared.Change.{Change}
use Rattle.step_relation.specs.declared.Change.TheVariants.{Drop, DropStack, PutPast, PutPoint, PutStack, Release}
use Rattle.step_relation.specs.declared.Change.TheVariants.{Send}
use Rattle.step_relation.specs.declared.Numbers.{Numbers}
use Rattle.step_relation.specs.declared.Past.{Past}
use Rattle.step_relation.specs.declared.Stack.{Stack}
use Rattle.step_relation.specs.Writes.{draw_letters, letters_to, mark_complete, mark_failed, past_letters}
use Rattle.step_relation.specs.Applies.{NoneFalls}
use Rattle.step_relation.specs.Linked.{Links}
use Rattle.step_relation.specs.Numbered.{StackBelow}
use Rattle.history_laws.proofs.links.Numbers.{LetterFor, Numbered-Drop, Numbered-DropStack, Numbered-Numbers, Numbered-PutPast}
use Rattle.history_laws.proofs.links.Numbers.{Numbered-PutPoint, Numbered-PutStack, Numbered-Release, Numbered-Send, PointBelow}
use Rattle.history_laws.proofs.links.Owners.{IsOf-cut_graph, IsOf-point, Owned-less}
use Rattle.history_laws.proofs.tables.Frame.{NoneFalls-same}
use Rattle.history_laws.proofs.tables.Rows.{row_put}
use Rattle.step_relation.specs.declared.Change.TheVariants as change_to

pub Links-Numbers : (s : StateData) (next : Numbers) → NoneFalls s.next next → Links s → Links
    (apply (change_to.Numbers next) s)
Links-Numbers s next up h = record {
  numbered = Numbered-Numbers s next up h.numbered;
  current = h.current;
  chained = h.chained;
  locked = h.locked;
  owned = h.owned;
}

pub Links-PutStack : (s : StateData) (st : Stack) → StackBelow s.next.stack s.next.trav st → Links s → Links
    (apply (PutStack st) s)
Links-PutStack s st below h = record {
  numbered = Numbered-PutStack s st below h.numbered;
  current = h.current;
  chained = h.chained;
  locked = h.locked;
  owned = h.owned;
}

-- no row of the stack stands
abbrev pub NoRow : List Row → List ℕ → Type 0
NoRow rows name = (n : ℕ) (r : Row) → row_at rows n ≡ Some r → r.stack ≢ name

pub NoRow-put : (rows : List Row) (name : List ℕ) (q : Row) → q.stack ≢ name → NoRow rows name → NoRow
    (put_row q rows) name
NoRow-put rows name q ne none n r at = elim (row_put q rows at) [
  | inl new ↦ λ eq. ne (ap (λ (x : Row). x.stack) new.1 ∙ eq)
  | inr was ↦ none n r was.1
]

pub Links-DropStack : (s : StateData) (name : List ℕ) → NoRow s.rows name → Links s → Links (apply (DropStack name) s)
Links-DropStack s name none h = record {
  numbered = Numbered-DropStack s name none h.numbered;
  current = h.current;
  chained = h.chained;
  locked = h.locked;
  owned = Owned-less s.rows s.rows s.graphs _ s.jobs s.jobs (IsOf-cut_graph name s.rows s.graphs s.jobs) h.owned;
}

pub Links-Send : (s : StateData) (l : Letter) → LetterFor s.next l → Links s → Links (apply (Send l) s)
Links-Send s l below h = record {
  numbered = Numbered-Send s l below h.numbered;
  current = h.current;
  chained = h.chained;
  locked = h.locked;
  owned = h.owned;
}

pub Links-Drop : (s : StateData) (n : ℕ) → Links s → Links (apply (Drop n) s)
Links-Drop s n h = record {
  numbered = Numbered-Drop s n h.numbered;
  current = h.current;
  chained = h.chained;
  locked = h.locked;
  owned = h.owned;
}

pub Links-PutPoint : (s : StateData) (p : Point) → PointBelow s.next.row p → Links s → Links (apply (PutPoint p) s)
Links-PutPoint s p below h = record {
  numbered = Numbered-PutPoint s p below h.numbered;
  current = h.current;
  chained = h.chained;
  locked = h.locked;
  owned = Owned-less s.rows s.rows s.graphs _ s.jobs s.jobs (IsOf-point p s.rows s.graphs s.jobs) h.owned;
}

pub Links-PutPast : (s : StateData) (p : Past) → Links s → Links (apply (PutPast p) s)
Links-PutPast s p h = record {
  numbered = Numbered-PutPast s p h.numbered;
  current = h.current;
  chained = h.chained;
  locked = h.locked;
  owned = h.owned;
}

pub Links-Release : (s : StateData) (t : Token) → Links s → Links (apply (Release t) s)
Links-Release s t h = record {
  numbered = Numbered-Release s t h.numbered;
  current = h.current;
  chained = h.chained;
  locked = h.locked;
  owned = h.owned;
}

-- a stack under its numbers with another status
pub StackBelow-status : (stack trav : ℕ) (st : Stack) (status : Status) → StackBelow stack trav st
    → StackBelow stack trav (record st { status = status })
StackBelow-status stack trav st status b = record { no_ = b.no_; newest = b.newest }

-- the stack that is marked is one below the next numbers
abbrev pub MarkFor : Numbers → Option Stack → Type 0
MarkFor next failed = (st : Stack) → failed ≡ Some st → StackBelow next.stack next.trav st

pub Links-failed : (s : StateData) (failed : Option Stack) → MarkFor s.next failed → Links s → Links
    (applied (mark_failed failed) s)
Links-failed s None below h = h
Links-failed s (Some st) below h =
    Links-PutStack s (record st { status = Failed }) (StackBelow-status _ _ st Failed (below st refl)) h

-- a stack is marked as complete; at a delete none of its rows stands
pub Links-complete : (s : StateData) (st : Stack) → StackBelow s.next.stack s.next.trav st →
    (st.act ≡ Delete → NoRow s.rows st.name) → Links s
    → Links (applied (mark_complete st) s)
Links-complete s st below none h = by st.act none where
  kept : (a : Act) → Links (apply (PutStack (record st { act = a; status = Complete })) s)
  kept a = Links-PutStack s (record st { act = a; status = Complete })
      (record { no_ = below.no_; newest = below.newest }) h

  by : (a : Act) → (a ≡ Delete → NoRow s.rows st.name) → Links (applied (mark_complete (record st { act = a })) s)
  by Delete no_row = Links-DropStack s st.name (no_row refl) h
  by Init no_row = kept Init
  by Create no_row = kept Create
  by Update no_row = kept Update
  by Rollback no_row = kept Rollback

-- letters are sent, and then something more
pub Links-sends : (s : StateData) (ls : List Letter) (rest : List Change) → AllByRecursion (LetterFor s.next) ls
    → ((t : StateData) → t.next ≡ s.next → t.rows ≡ s.rows → Links t → Links (applied rest t)) → Links s → Links
    (applied (map Send ls ++ rest) s)
Links-sends s [] rest below more h = more s refl refl h
Links-sends s (l ∷ ls) rest below more h = Links-sends (apply (Send l) s) ls rest below.1 more
    (Links-Send s l below.0 h)

-- points are written, and then something more
pub Links-points : (s : StateData) (ps : List Point) (rest : List Change) → AllByRecursion (PointBelow s.next.row) ps
    → ((t : StateData) → t.next ≡ s.next → t.rows ≡ s.rows → Links t → Links (applied rest t)) → Links s → Links
    (applied (map PutPoint ps ++ rest) s)
Links-points s [] rest below more h = more s refl refl h
Links-points s (p ∷ ps) rest below more h = Links-points (apply (PutPoint p) s) ps rest below.1 more
    (Links-PutPoint s p below.0 h)

-- letters to nodes have numbers below the next one behind them
pub letters-below : (next : Numbers) (n : ℕ) (st : Stack) (ks : List ℕ) → st.trav < next.trav
    → n + length ks ≤ next.letter
    → AllByRecursion (LetterFor next) (letters_to st n ks)
letters-below next n st [] trav le = tt
letters-below next n st (k ∷ ks) trav le =
    (record { no_ = omega arith; newest = trav }, letters-below next (n + 1) st ks trav (omega arith))

-- where numbers of letters are drawn, the next numbers rise
pub draws : (P : StateData → Type 0) (s : StateData) (ls : List Letter) (rest : List Change)
    → ((next : Numbers) → NoneFalls s.next next → s.next.letter + length ls ≤ next.letter → next.trav ≡ s.next.trav → P
    (applied rest (record s { next = next })))
    → P (applied (draw_letters s.next ls rest) s)
draws P s [] rest more = more s.next (NoneFalls-same s.next) (omega arith) refl
draws P s (l ∷ ls) rest more =
    more (past_letters s.next (length (l ∷ ls)))
    (record {
      stack = omega arith;
      trav = omega arith;
      row = omega arith;
      engine = omega arith;
      letter =
          omega arith;
    }) (omega arith) refl
