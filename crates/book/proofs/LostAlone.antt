-- The turn of a poll's answer of unknown size, whose call may be told alone.
use Rattle.std.proofs.Common.{List, [], ap, refl, subst, sym, ℕ, ◌++◌, ◌∙◌, ◌∷◌, ◌≡◌}
use Rattle.std.specs.Prelude.{Option, Some, ◌≢◌}
use Rattle.heat_plan.specs.declared.calls.Answered.{Answered}
use Rattle.heat_plan.specs.declared.calls.Request.{Request}
use Rattle.heat_plan.specs.declared.phase.Act.TheVariants.{Delete}
use Rattle.row_table.specs.Rows.{row_at}
use Rattle.row_table.specs.declared.row.Row.{Row}
use Rattle.mail_table.specs.declared.mail.Job.{Job}
use Rattle.mail_table.specs.declared.mail.Letter.{Letter}
use Rattle.mail_table.specs.declared.mail.Stage.{Stage}
use Rattle.mail_table.specs.declared.mail.Stage.TheVariants.{Polling}
use Rattle.core_state.specs.State.{StateData}
use Rattle.core_state.specs.declared.change.Change.{Change}
use Rattle.core_state.specs.declared.entry.Entry.{Entry}
use Rattle.core_state.specs.declared.numbers.Numbers.{Numbers}
use Rattle.core_state.specs.declared.stack.Stack.{Stack}
use Rattle.step_relation.specs.Asks.{Calls}
use Rattle.step_relation.specs.Asks as call
use Rattle.step_relation.specs.Given.{Answer}
use Rattle.step_relation.specs.Turns.{IsWorn, Turn, WearsOut}
use Rattle.step_relation.specs.Writes.{call_entry, draw_letters}
use Rattle.history_laws.proofs.tables.Rows.{same_some}
use Rattle.next_laws.proofs.Parts.{Kind, Part, begins, goes, placed, readies, refuses, waits}
use Rattle.next_laws.proofs.Turns.{ByMove, Whole, by_move, follows, stops}
use Rattle.next_laws.proofs.Worn.{call_not_worn}
use Rattle.next_laws.specs.Suits as suits
use Rattle.takeover_steps.specs.Lost.{IsOfUnknownSize}
use Rattle.takeover_steps.specs.Lost as lost
use Rattle.heat_plan.specs.declared.calls.Answered.TheVariants as answer
use Rattle.heat_plan.specs.declared.calls.Request.TheVariants as request
use Rattle.next_laws.proofs.Turning.{turn_exists}
use Rattle.book.specs.Outcomes.{IsCalled}
use Rattle.book.proofs.Calling.{polls_now}
use Rattle.book.proofs.Telling.{FirstCall, turn_calls}

-- an engine calls for one row
called_once : (s : StateData) (e : ℕ) (a b : Stage) (q : Calls s e a) (k : Calls s e b) → q.row ≡ k.row
called_once s e a b q k =
    let jobs : q.job ≡ k.job = same_some q.job k.job q.works.its k.works.its in
    same_some q.row k.row q.found (subst (λ (j : Job). row_at s.rows j.row ≡ Some k.row) (sym jobs) k.found)

-- no such answer
never_begun : ¬ IsOfUnknownSize answer.Begun
never_begun size = elim size [ ]

never_waits : ¬ IsOfUnknownSize answer.NotYet
never_waits size = elim size [ ]

never_gone : ¬ IsOfUnknownSize answer.Gone
never_gone size = elim size [ ]

drawn_some : (next : Numbers) (ls : List Letter) (c : Change) (rest : List Change)
    → draw_letters next ls (c ∷ rest) ≢ []
drawn_some next [] c rest is = cc
drawn_some next (l ∷ ls) c rest is = cc

joined_some : (first last cs : List Change) → cs ≡ first ++ last → first ≢ [] → cs ≢ []
joined_some [] last cs is some none = some refl
joined_some (c ∷ first) last cs is some none = let both = sym is ∙ none in cc

module _ (s : StateData) (e : ℕ) where
  -- its turn changes something
  part_some : (kind : Kind) (given : Answered) (f : Option Stack) (cs : List Change) (es : List Entry)
      → IsOfUnknownSize given → Part s e kind (Answer given) f cs es → cs ≢ []
  part_some _ _ _ cs es size (begins k asked _ _ a c d) none = never_begun size
  part_some _ _ _ cs es size (waits k asked _ _ a c d) none = never_waits size
  part_some _ _ _ cs es size (readies k facts _ _ a c d) none = let both = sym c ∙ none in cc
  part_some _ _ _ cs es size (goes k _ _ a c d) none = never_gone size
  part_some _ _ _ cs es size (refuses stage k asked g reason letters failed _ _ a x falls c d) none =
      drawn_some s.next letters _ _ (sym c ∙ none)

  turn_some : (given : Answered) (cs : List Change) (es : List Entry) → IsOfUnknownSize given
      → Turn s e (Answer given) cs es → cs ≢ []
  turn_some given cs es size t none = by a.whole where
    a : ByMove s e (Answer given) cs es
    a = by_move s e (Answer given) cs es t

    first : a.first ≢ []
    first = let p = placed s e (Answer given) a.failed a.first a.firsts a.move in
        part_some p.kind given a.failed a.first a.firsts size p.part

    by : Whole s e a.failed a.first a.firsts cs es → ⊥
    by (stops p c d) = first (sym c ∙ none)
    by (follows st last lasts is due k c d) = joined_some a.first last cs c first none

  -- a provider may give it to a poll
  may_answer : (given : Answered) → IsOfUnknownSize given → suits.MayAnswer request.Poll given
  may_answer _ (lost.ready facts) = suits.poll_ready facts
  may_answer _ (lost.broken code) = suits.poll_broken code

  -- the turn of such an answer, which changes something, and tells of the poll first
  pub record LostTurn (k : Calls s e Polling) (given : Answered) : Type 0 where
    pub changes : List Change
    pub all : List Entry
    pub rest : List Entry
    pub some : changes ≢ []
    pub turn : Turn s e (Answer given) changes all
    pub lasts : ¬ WearsOut s e (Answer given)
    pub entries : all ≡ call_entry e k.row request.Poll given ∷ rest

  -- the first entry of a poll's turn
  pub poll_first : (k : Calls s e Polling) (given : Answered) → k.row.act ≢ Delete → (cs : List Change)
      (es : List Entry) → Turn s e (Answer given) cs es
      → (rest : List Entry) × (es ≡ call_entry e k.row request.Poll given ∷ rest)
  poll_first k given stays cs es t = (
    first.rest,
    first.entries ∙ ap (λ (c : Entry). c ∷ first.rest)
        (same_call first.stage first.calls first.asked (polls_now s e k.row one_row k stays (record {
          stage = first.stage;
          calls = first.calls;
          asked = first.asked;
          asks = first.asks;
        }))),
  ) where
    first : FirstCall s e given es
    first = turn_calls s e given cs es t

    one_row : IsCalled s e k.row
    one_row stage q = called_once s e stage Polling q k

    same_call : (stage : Stage) (q : Calls s e stage) (asked : Request) → asked ≡ request.Poll
        → call_entry e q.row asked given ≡ call_entry e k.row request.Poll given
    same_call stage q asked is = ap (λ (r : Row). call_entry e r asked given) (called_once s e stage Polling q k)
        ∙ ap (λ (a : Request). call_entry e k.row a given) is

  -- where the step of a failure was made and wears nothing out, there is such a turn
  pub lost_turn : (k : Calls s e Polling) (given : Answered) → k.row.act ≢ Delete → IsOfUnknownSize given
      → (cs : List Change) (es : List Entry) → Turn s e (Answer answer.Failed) cs es → ¬ IsWorn cs
      → LostTurn k given
  lost_turn k given stays size cs es t unworn =
      let (changes, all, u) = turn_exists s e (Answer given)
      (suits.polls k request.Poll given (call.polls stays) (may_answer given size)) in
      let (rest, is) = poll_first k given stays changes all u in record {
        changes = changes;
        all = all;
        rest = rest;
        some = turn_some given changes all size u;
        turn = u;
        lasts = call_not_worn s e cs es t unworn given;
        entries = is;
      }
