-- The turn of a poll that failed, told with a code, is the turn of a resource that is broken.
use Rattle.std.proofs.Common.{◌≡◌, ◌≢◌, ◌∙◌, ℕ, List, [], ◌∷◌, ◌++◌, None, Option, Some, refl, sym, ap, subst, map}
use Rattle.std.proofs.lemmas.List.{map-append}
use Rattle.heat_plan.specs.declared.calls.Answered.{Answered}
use Rattle.heat_plan.specs.declared.calls.Answered.TheVariants as answer
use Rattle.heat_plan.specs.declared.calls.Request.{Request}
use Rattle.heat_plan.specs.declared.calls.Request.TheVariants as request
use Rattle.heat_plan.specs.declared.item.Item.{Item}
use Rattle.heat_plan.specs.declared.phase.Act.{Act}
use Rattle.heat_plan.specs.declared.phase.Act.TheVariants.{Delete}
use Rattle.row_table.specs.Rows.{row_at}
use Rattle.row_table.specs.declared.row.Row.{Row}
use Rattle.mail_table.specs.declared.mail.Job.{Job}
use Rattle.mail_table.specs.declared.mail.Letter.{Letter}
use Rattle.mail_table.specs.declared.mail.Stage.{Stage}
use Rattle.mail_table.specs.declared.mail.Stage.TheVariants.{Asking, Polling}
use Rattle.traversal_graph.specs.declared.shape.Node.{Node}
use Rattle.core_state.specs.State.{StateData}
use Rattle.core_state.specs.declared.change.Change.{Change}
use Rattle.core_state.specs.declared.entry.Actor.{Actor}
use Rattle.core_state.specs.declared.entry.Actor.TheVariants.{Engine}
use Rattle.core_state.specs.declared.entry.Entry.{Entry}
use Rattle.core_state.specs.declared.entry.MailWrite.{MailWrite}
use Rattle.core_state.specs.declared.entry.MailWrite.TheVariants.{Sent}
use Rattle.core_state.specs.declared.entry.RowWrite.{RowWrite}
use Rattle.core_state.specs.declared.entry.RowWrite.TheVariants.{Set}
use Rattle.core_state.specs.declared.entry.What.TheVariants as what
use Rattle.core_state.specs.declared.entry.Why.{Why}
use Rattle.core_state.specs.declared.entry.Why.TheVariants as why
use Rattle.core_state.specs.declared.made.Made.{Made}
use Rattle.core_state.specs.declared.stack.Stack.{Stack}
use Rattle.step_relation.specs.Asks.{Calls, Falls, Polls, Refuses, by_code, by_failure, by_quota, failed_changes, failed_entries, polls}
use Rattle.step_relation.specs.Commands.{Lays, Sets, first_letters, laid_entries, settled_mark}
use Rattle.step_relation.specs.Given.{Answer, Given, IsLike, answers, same}
use Rattle.step_relation.specs.Moves.{poll_failed}
use Rattle.step_relation.specs.Orders.{plan_back, rollback_sets}
use Rattle.step_relation.specs.Turns.{FollowsFailure, Turn, WearsOut, plain, rolls}
use Rattle.step_relation.specs.Writes.{call_entry, entry_of, mail_entry, rows_entry}
use Rattle.command_steps.specs.Turns.{IsTurn}
use Rattle.next_laws.proofs.Parts.{IsAsked, Kind, Part, at_ask, at_poll, placed, refuses}
use Rattle.next_laws.proofs.Readings.{works_one}
use Rattle.next_laws.proofs.Turns.{Whole, by_move, follows, stops}
use Rattle.history_laws.proofs.tables.Rows.{same_some}
use Rattle.step_ends.specs.Broken.{entry_broken, entries_broken}
use Rattle.step_ends.proofs.Called.{kept_poll}

-- what is worn out under one answer is under another
pub worn_otherwise : (s : StateData) (e : ℕ) (a b : Answered) → WearsOut s e (Answer a) → WearsOut s e (Answer b)
worn_otherwise s e a b w =
    let (other, is) = answer_of (Answer a) w.other w.like refl in
    record {
      other = w.other;
      like = subst (λ (g : Given). IsLike (Answer b) g) (sym is) (answers b other);
      changes = w.changes;
      entries = w.entries;
      turn = w.turn;
      worn = w.worn;
    }
  where
    answer_of : (given other : Given) → IsLike given other → given ≡ Answer a → (c : Answered) × (other ≡ Answer c)
    answer_of given other (answers _ c) is = (c, refl)
    answer_of given other (same _) is = (a, is)

-- ---- what a rollback tells has neither a call nor a cause

module _ (code : List ℕ) where
  kept_rows : (a : Actor) (ws : List RowWrite) → entries_broken code (rows_entry a ws) ≡ rows_entry a ws
  kept_rows a [] = refl
  kept_rows a (w ∷ ws) = refl

  kept_mail : (a : Actor) (ws : List MailWrite) → entries_broken code (mail_entry a ws) ≡ mail_entry a ws
  kept_mail a [] = refl
  kept_mail a (w ∷ ws) = refl

  kept_mark : (nodes : List Node) (s : StateData) (name : List ℕ) (it : Sets)
      → entries_broken code (settled_mark nodes s name it) ≡ settled_mark nodes s name it
  kept_mark [] s name it = refl
  kept_mark (node ∷ nodes) s name it = refl

  kept_both : (xs ys : List Entry) → entries_broken code xs ≡ xs → entries_broken code ys ≡ ys
      → entries_broken code (xs ++ ys) ≡ xs ++ ys
  kept_both xs ys left right =
      map-append (entry_broken code) xs ys
      ∙ ap (λ (l : List Entry). l ++ entries_broken code ys) left
      ∙ ap (λ (l : List Entry). xs ++ l) right

  kept_laying : (s : StateData) (name : List ℕ) (items : List Item) (it : Sets) (k : Lays s name items)
      → entries_broken code (laid_entries s name items it k) ≡ laid_entries s name items it k
  kept_laying s name items it k =
      let letters = map Sent (first_letters s name items it k) in
      let mark = settled_mark k.graph.nodes s name it in
      ap (λ (l : List Entry). entry_of it.actor (what.Command name s.next.trav it.act it.plan it.past.rollback) ∷ l)
      (kept_both (rows_entry it.actor (map Set k.rows)) (mail_entry it.actor letters ++ mark)
      (kept_rows it.actor (map Set k.rows))
      (kept_both (mail_entry it.actor letters) mark (kept_mail it.actor letters) (kept_mark k.graph.nodes s name it)))

  kept_rollback : (s : StateData) (e : ℕ) (st : Stack) (cs : List Change) (es : List Entry)
      → FollowsFailure s e st cs es → entries_broken code es ≡ es
  kept_rollback s e st cs es k =
      ap (entries_broken code) k.entries
      ∙ kept_laying s k.failed.name (plan_back s k.failed).items (rollback_sets s k.failed (Engine e)) k.lays
      ∙ sym k.entries

  -- the failure itself, with the code
  failed_told : (e : ℕ) (r : Row) (asked : Request) (letters : List Letter) (f : Option Stack) (act : Act)
      → entries_broken code (call_entry e r asked answer.Failed ∷ failed_entries e r letters f (why.Failed act))
      ≡ call_entry e r asked (answer.Broken code) ∷ failed_entries e r letters f (why.Broken act code)
  failed_told e r asked letters None act = refl
  failed_told e r asked letters (Some st) act = refl

-- ---- the failure that was made

-- its letters, and what it changed and told
record FellBy (s : StateData) (e : ℕ) (k : Calls s e Polling) (f : Option Stack) (first : List Change)
    (firsts : List Entry) : Type 0 where
  pub letters : List Letter
  pub falls : Falls s k.job letters f
  pub changes : first ≡ failed_changes s e k.row letters f
  pub entries : firsts
      ≡ call_entry e k.row request.Poll answer.Failed ∷ failed_entries e k.row letters f (why.Failed k.row.act)

poll_asked : (r : Row) (stage : Stage) (asked : Request) → stage ≡ Polling → IsAsked r stage asked → Polls r asked
poll_asked r stage asked is (at_poll _ x) = x
poll_asked r stage asked is (at_ask _ x) = let f : Asking ≡ Polling = is in cc

plain_reason : (act : Act) (asked : Request) (given : Answered) (reason : Why) → Refuses act asked given reason
    → given ≡ answer.Failed → reason ≡ why.Failed act
plain_reason act asked given reason (by_failure _) is = refl
plain_reason act asked given reason (by_code code) is = let f : answer.Broken code ≡ answer.Failed = is in cc
plain_reason act asked given reason (by_quota kind props) is = let f : answer.Quota ≡ answer.Failed = is in cc

fell_by : (s : StateData) (e : ℕ) (k : Calls s e Polling) → k.row.act ≢ Delete → (kind : Kind) (f : Option Stack)
    (cs : List Change) (es : List Entry) → Part s e kind (Answer answer.Failed) f cs es → FellBy s e k f cs es
fell_by s e k kept kind f cs es (refuses stage q asked given reason ls _ _ _ x r u c d) =
    let jobs : q.job ≡ k.job = works_one s e stage Polling q.job k.job q.works k.works in
    let rows : q.row ≡ k.row = same_some q.row k.row (subst (λ
    (j : Job). row_at s.rows j.row ≡ Some q.row) jobs q.found) k.found in
    let at : stage ≡ Polling = sym q.works.stage_is ∙ ap (λ (j : Job). j.stage) jobs ∙ k.works.stage_is in
    let polled : Polls k.row asked = subst (λ (r : Row). Polls r asked) rows (poll_asked q.row stage asked at x) in
    let is : asked ≡ request.Poll = kept_poll k.row asked polled kept in
    let because : reason ≡ why.Failed k.row.act =
    plain_reason q.row.act asked answer.Failed reason r refl ∙ ap (λ (r : Row). why.Failed r.act) rows in
    record {
      letters = ls;
      falls = subst (λ (j : Job). Falls s j ls f) jobs u;
      changes = c ∙ ap (λ (r : Row). failed_changes s e r ls f) rows;
      entries = d
          ∙ ap (λ (r : Row). call_entry e r asked answer.Failed ∷ failed_entries e r ls f reason) rows
          ∙ ap (λ (q : Request). call_entry e k.row q answer.Failed ∷ failed_entries e k.row ls f reason) is
          ∙ ap (λ (w : Why). call_entry e k.row request.Poll answer.Failed ∷ failed_entries e k.row ls f w) because;
    }

module _ (code : List ℕ) (s : StateData) (e : ℕ) (k : Calls s e Polling) (kept : k.row.act ≢ Delete) where
  told : (f : Option Stack) (first cs : List Change) (firsts es : List Entry) → FellBy s e k f first firsts
      → Whole s e f first firsts cs es → Turn s e (Answer (answer.Broken code)) cs (entries_broken code es)
  told f first cs firsts es x whole = by whole
    where
      firsts_told : entries_broken code firsts ≡ call_entry e k.row request.Poll (answer.Broken code)
          ∷ failed_entries e k.row x.letters f (why.Broken k.row.act code)
      firsts_told =
          ap (entries_broken code) x.entries ∙ failed_told code e k.row request.Poll x.letters f k.row.act

      by : Whole s e f first firsts cs es → Turn s e (Answer (answer.Broken code)) cs (entries_broken code es)
      by (stops p c d) =
          subst (λ (l : List Change). Turn s e (Answer (answer.Broken code)) l (entries_broken code es)) (sym c)
          (plain f (poll_failed k request.Poll (answer.Broken code) (why.Broken k.row.act code) x.letters f first _
          (polls kept) (by_code code) x.falls x.changes (ap (entries_broken code) d ∙ firsts_told)) p)
      by (follows st last lasts at due behind c d) =
          rolls st first last (entries_broken code firsts) lasts
          (poll_failed k request.Poll (answer.Broken code) (why.Broken k.row.act code) x.letters (Some st) first _
          (polls kept) (by_code code) (subst (λ (g : Option Stack). Falls s k.job x.letters g) at x.falls)
          (x.changes ∙ ap (λ (g : Option Stack). failed_changes s e k.row x.letters g) at)
          (firsts_told ∙ ap (λ (g : Option Stack). call_entry e k.row request.Poll (answer.Broken code)
          ∷ failed_entries e k.row x.letters g (why.Broken k.row.act code)) at))
          due behind c
          (ap (entries_broken code) d ∙ map-append (entry_broken code) firsts lasts
          ∙ ap (λ (l : List Entry). entries_broken code firsts ++ l) (kept_rollback code _ e st last lasts behind))

  pub broken_turn : (failed : Made) → IsTurn s e (Answer answer.Failed) failed → (made : Made)
      → made.changes ≡ failed.changes → made.entries ≡ entries_broken code failed.entries
      → IsTurn s e (Answer (answer.Broken code)) made
  broken_turn failed t made changes entries =
      let m = by_move s e (Answer answer.Failed) failed.changes failed.entries t.turn in
      let p = placed s e _ m.failed m.first m.firsts m.move in
      let x = fell_by s e k kept p.kind m.failed m.first m.firsts p.part in
      let turn = told m.failed m.first failed.changes m.firsts failed.entries x m.whole in
      record {
        turn = subst (λ (l : List Change). Turn s e (Answer (answer.Broken code)) l made.entries) (sym changes)
            (subst (λ (l : List Entry). Turn s e (Answer (answer.Broken code)) failed.changes l) (sym entries) turn);
        lasts = λ w. t.lasts (worn_otherwise s e (answer.Broken code) answer.Failed w);
      }
