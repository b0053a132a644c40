-- The frame of what the moves are made of.
use Rattle.std.proofs.Common.{◌≡◌, ◌≢◌, ◌<◌, ◌≤◌, inl, inr, ℕ, ◌+◌, List, [], ◌∷◌, ◌++◌, map, Option, Some, None, refl}
use Rattle.std.proofs.Common.{sym, ap, ◌∙◌, subst, arith}
use Rattle.std.specs.Prelude.{length}
use Rattle.std.specs.List.{AllByRecursion}
use Rattle.heat_plan.specs.declared.phase.Act.{Act}
use Rattle.heat_plan.specs.declared.phase.Act.TheVariants.{Create, Delete, Init, Rollback, Update}
use Rattle.heat_plan.specs.declared.phase.Status.TheVariants.{Complete, Failed}
use Rattle.row_table.specs.Rows.{row_at}
use Rattle.row_table.specs.declared.row.Row.{Row}
use Rattle.sync_points.specs.declared.point.Point.{Point}
use Rattle.mail_table.specs.Mails.{job_at, letter_at}
use Rattle.mail_table.specs.declared.mail.Job.{Job}
use Rattle.mail_table.specs.declared.mail.Letter.{Letter}
use Rattle.step_relation.specs.Changes.{applied, apply}
use Rattle.step_relation.specs.State.{StateData}
use Rattle.step_relation.specs.declared.Change.{Change}
use Rattle.step_relation.specs.declared.Change.TheVariants.{EndJob, PutJob, PutPoint, PutRow, Send}
use Rattle.step_relation.specs.declared.Numbers.{Numbers}
use Rattle.step_relation.specs.declared.Stack.{Stack}
use Rattle.step_relation.specs.Rows.{locked, unlocked}
use Rattle.step_relation.specs.Writes.{draw_letters, letters_to, lock, mark_complete, mark_failed, past_letters, unlock}
use Rattle.step_relation.specs.Applies.{NoneFalls}
use Rattle.step_relation.specs.Elsewhere.{Elsewhere}
use Rattle.step_relation.specs.Linked.{Links}
use Rattle.history_laws.proofs.tables.Frame.{NoneFalls-same, nowhere, on_end, on_job, on_numbers, on_point, on_row, on_send}
use Rattle.history_laws.proofs.tables.Frame.{on_stack, on_stack_gone, then}
use Rattle.history_laws.proofs.tables.Rows.{job-key, letter-key, letter_put, row_self, same_some, text_or_not}

-- a row is written over one of its stack
pub over : (own : List ℕ) (s : StateData) (r q : Row) → row_at s.rows q.no ≡ Some r → r.stack ≡ own → q.stack ≡ own
    → Elsewhere own s (apply (PutRow q) s)
over own s r q at r_is q_is =
    on_row own s q q_is (λ o at_o. subst (λ (x : Row). x.stack ≡ own) (same_some r o at at_o) r_is)
    (λ none. let e : Some r ≡ None = sym at ∙ none in cc)

-- a letter of this stack, with a number from this one on
pub record IsNew (own : List ℕ) (first : ℕ) (l : Letter) : Type 0 where
  pub stack : l.stack ≡ own
  pub number : first ≤ l.no

-- letters of other stacks have lower numbers
abbrev pub AreOlder : List ℕ → ℕ → List Letter → Type 0
AreOlder own first letters = (m : ℕ) (l : Letter) → letter_at letters m ≡ Some l → l.stack ≢ own → m < first

pub older : (own : List ℕ) (s : StateData) → Links s → AreOlder own s.next.letter s.letters
older own s h m l at ne = let n = letter-key s.letters m l at in let b = (h.numbered.letters m l at).no_ in omega arith

pub sends : (own : List ℕ) (first : ℕ) (s : StateData) (ls : List Letter) (rest : List Change)
    → AllByRecursion (IsNew own first) ls
    → AreOlder own first s.letters → ((t : StateData) → Elsewhere own t (applied rest t))
    → Elsewhere own s (applied (map Send ls ++ rest) s)
sends own first s [] rest news old more = more s
sends own first s (l ∷ ls) rest news old more =
    then own s (apply (Send l) s) _ (on_send own s l news.0.stack mine)
    (sends own first (apply (Send l) s) ls rest news.1 old' more) where
      mine : (o : Letter) → letter_at s.letters l.no ≡ Some o → o.stack ≡ own
      mine o at = elim (text_or_not o.stack own) [
        | inl is ↦ is
        | inr ne ↦ let lt = old l.no o at ne in let le = news.0.number in absurd (omega arith)
      ]

      old' : AreOlder own first (apply (Send l) s).letters
      old' m o at ne = elim (letter_put l s.letters at) [
        | inl is ↦ absurd (ne (ap (λ (x : Letter). x.stack) (sym is.1) ∙ news.0.stack))
        | inr was ↦ old m o was.1 ne
      ]

pub letters_new : (own : List ℕ) (first n : ℕ) (st : Stack) (ks : List ℕ) → st.name ≡ own → first ≤ n
    → AllByRecursion (IsNew own first) (letters_to st n ks)
letters_new own first n st [] called le = tt
letters_new own first n st (k ∷ ks) called le =
    (record { stack = called; number = le }, letters_new own first (n + 1) st ks called (omega arith))

pub points : (own : List ℕ) (s : StateData) (ps : List Point) (rest : List Change)
    → AllByRecursion (λ (p : Point). p.stack ≡ own) ps
    → ((t : StateData) → t.letters ≡ s.letters → Elsewhere own t (applied rest t))
    → Elsewhere own s (applied (map PutPoint ps ++ rest) s)
points own s [] rest are more = more s refl
points own s (p ∷ ps) rest are more =
    then own s (apply (PutPoint p) s) _ (on_point own s p are.0) (points own (apply (PutPoint p) s) ps rest are.1 more)

-- numbers of letters are drawn first
pub draws : (own : List ℕ) (s : StateData) (ls : List Letter) (rest : List Change)
    → ((next : Numbers) → NoneFalls s.next next
    → Elsewhere own (record s { next = next }) (applied rest (record s { next = next })))
    → Elsewhere own s (applied (draw_letters s.next ls rest) s)
draws own s [] rest more = more s.next (NoneFalls-same s.next)
draws own s (l ∷ ls) rest more = then own s (record s { next = past_letters s.next (length (l ∷ ls)) }) _
    (on_numbers own s _ up) (more _ up) where
      up : NoneFalls s.next (past_letters s.next (length (l ∷ ls)))
      up = record {
        stack = omega arith;
        trav = omega arith;
        row = omega arith;
        engine = omega arith;
        letter = omega arith;
      }

-- a job is written anew
pub restages : (s : StateData) (e : ℕ) (j q : Job) → job_at s.jobs e ≡ Some j → q.engine ≡ j.engine
    → q.letter.stack ≡ j.letter.stack
    → Elsewhere j.letter.stack s (apply (PutJob q) s)
restages s e j q its same called = on_job j.letter.stack s q called
    (λ o at. own o (subst (λ (k : ℕ). job_at s.jobs k ≡ Some o) (same ∙ job-key s.jobs e j its) at)) where
      own : (o : Job) → job_at s.jobs e ≡ Some o → o.letter.stack ≡ j.letter.stack
      own o at = ap (λ (x : Job). x.letter.stack) (same_some o j at its)

pub ends_here : (s : StateData) (e : ℕ) (j : Job) → job_at s.jobs e ≡ Some j
    → Elsewhere j.letter.stack s (apply (EndJob e) s)
ends_here s e j its = on_end j.letter.stack s e (λ o at. ap (λ (x : Job). x.letter.stack) (same_some o j at its))

-- a row is unlocked, if it stands, and its job ends
pub unlocks : (s : StateData) (e : ℕ) (j : Job) → job_at s.jobs e ≡ Some j
    → ((q : Row) → row_at s.rows j.row ≡ Some q → q.stack ≡ j.letter.stack)
    → (r : Option Row) → row_at s.rows j.row ≡ r → (rest : List Change)
    → ((t : StateData) → t.letters ≡ s.letters → Elsewhere j.letter.stack t (applied rest t))
    → Elsewhere j.letter.stack s (applied (unlock r (EndJob e ∷ rest)) s)
unlocks s e j its is None at rest more = then _ s (apply (EndJob e) s) _ (ends_here s e j its) (more _ refl)
unlocks s e j its is (Some r) at rest more =
    then _ s (apply (PutRow (unlocked r)) s) _
    (over j.letter.stack s r (unlocked r) (row_self s.rows j.row r at) (is r at) (is r at))
    (then _ _ (apply (EndJob e) (apply (PutRow (unlocked r)) s)) _ (ends_here (apply (PutRow (unlocked r)) s) e j its)
    (more _ refl))

-- a row is locked, if it stands
pub locks : (own : List ℕ) (s : StateData) (e t : ℕ) (r : Option Row) → row_at s.rows t ≡ r
    → ((q : Row) → row_at s.rows t ≡ Some q → q.stack ≡ own)
    → (rest : List Change) → ((u : StateData) → u.letters ≡ s.letters → u.jobs ≡ s.jobs
    → Elsewhere own u (applied rest u))
    → Elsewhere own s (applied (lock r e rest) s)
locks own s e t None at is rest more = more s refl refl
locks own s e t (Some r) at is rest more =
    then _ s (apply (PutRow (locked e r)) s) _ (over own s r (locked e r) (row_self s.rows t r at) (is r at) (is r at))
    (more _ refl refl)

-- a stack is marked
abbrev pub MarksOwn : List ℕ → Option Stack → Type 0
MarksOwn own failed = (st : Stack) → failed ≡ Some st → st.name ≡ own

pub fails : (own : List ℕ) (t : StateData) (failed : Option Stack) → MarksOwn own failed
    → Elsewhere own t (applied (mark_failed failed) t)
fails own t None is = nowhere own t
fails own t (Some st) is = on_stack own t (record st { status = Failed }) (is st refl)

pub completes : (t : StateData) (st : Stack) → Elsewhere st.name t (applied (mark_complete st) t)
completes t st = by st.act where
  by : (a : Act) → Elsewhere st.name t (applied (mark_complete (record st { act = a })) t)
  by Delete = on_stack_gone st.name t
  by Init = on_stack st.name t (record st { act = Init; status = Complete }) refl
  by Create = on_stack st.name t (record st { act = Create; status = Complete }) refl
  by Update = on_stack st.name t (record st { act = Update; status = Complete }) refl
  by Rollback = on_stack st.name t (record st { act = Rollback; status = Complete }) refl
