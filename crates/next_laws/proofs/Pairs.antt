-- Two moves of one part have one outcome.
use Rattle.std.proofs.Common.{◌≡◌, ℕ, List, [], ◌∷◌, ◌++◌, Option, None, refl, sym, ap, subst, ◌∙◌}
use Rattle.heat_value.specs.Data.{Members}
use Rattle.heat_value.specs.declared.path.Step.{Step}
use Rattle.heat_plan.specs.declared.item.Item.{Item}
use Rattle.row_table.specs.Rows.{row_at}
use Rattle.row_table.specs.declared.row.Row.{Row}
use Rattle.mail_table.specs.declared.mail.Job.{Job}
use Rattle.mail_table.specs.declared.mail.Letter.{Letter}
use Rattle.core_state.specs.State.{StateData}
use Rattle.core_state.specs.declared.change.Change.{Change}
use Rattle.core_state.specs.declared.change.Change.TheVariants.{Drop, EndJob, PutJob}
use Rattle.core_state.specs.declared.entry.Actor.TheVariants.{Engine}
use Rattle.core_state.specs.declared.entry.Entry.{Entry}
use Rattle.core_state.specs.declared.entry.MailWrite.TheVariants.{Dropped, Ended, Held}
use Rattle.core_state.specs.declared.stack.Stack.{Stack}
use Rattle.type_catalog.specs.declared.effect.Effect.{Effect}
use Rattle.history_laws.specs.Asks.{Falls, fault_of}
use Rattle.history_laws.specs.Begins.{Begins, left_changes, left_entries}
use Rattle.history_laws.specs.Cleanups.{Cleans}
use Rattle.history_laws.specs.Freshness.{IsFresh, IsOverrun, cleans}
use Rattle.history_laws.specs.Nexts.{TakesNext}
use Rattle.history_laws.specs.Resends.{Resends}
use Rattle.history_laws.specs.Takes.{HasNoHolder, IsHolder, IsIdleLetter, Relays, Releases, Takes, relayed_letter}
use Rattle.history_laws.specs.Takes.{released_changes, released_entries, taken_job}
use Rattle.history_laws.specs.Writes.{failed_mark, lock, lock_writes, mail_entry, mark_failed, rows_entry}
use Rattle.next_laws.proofs.Parts.{fate_changes, fate_entries, lot_changes, lot_entries}
use Rattle.next_laws.proofs.Readings.{fresh_one, holder_one, left_one, lowest_one, resends_one}
use Rattle.next_laws.proofs.Verdicts.{Clears, Created, Decides, Fate, Kept, Left, Lot, Replaced, Resumed, Updated}
use Rattle.next_laws.proofs.Verdicts.{fate_one, lot_one}
use Rattle.next_laws.proofs.Works.{SameBegin, begin_one, clean_one, falls_one, take_one}

-- one stack that is marked, the same changes and the same entries
pub record AreOne (f g : Option Stack) (cs ds : List Change) (es fs : List Entry) : Type 0 where
  pub marked : f ≡ g
  pub changes : cs ≡ ds
  pub entries : es ≡ fs

-- both are what is written, and that is the same
by_forms : {f : Option Stack} {cs ds us vs : List Change} {es fs xs ys : List Entry} → cs ≡ us → es ≡ xs → ds ≡ vs
    → fs ≡ ys → us ≡ vs → xs ≡ ys
    → AreOne f f cs ds es fs
by_forms c d i j same like = record { marked = refl; changes = c ∙ (same ∙ sym i); entries = d ∙ (like ∙ sym j) }

-- takes
module _ (s : StateData) (e : ℕ) where
  pub drop_take : (l : Letter) (k : Takes s e) → TakesNext s e l → IsIdleLetter s l → IsIdleLetter s k.letter
  drop_take l k t i = subst (IsIdleLetter s) (lowest_one s.letters l k.letter t.first k.next.first) i

  pub free_stolen : (k q : Takes s e) (f : ℕ) (j : Job) → HasNoHolder s.jobs k.meant.target
      → IsHolder s.jobs q.meant.target f j → ⊥
  free_stolen k q f j free h = let same = take_one s e k q in free f j h.its (h.has ∙ sym same.targets)

  pub drops_one : (l m : Letter) (cs ds : List Change) (es fs : List Entry) → TakesNext s e l → TakesNext s e m
      → cs ≡ Drop l.no ∷ [] → es ≡ mail_entry (Engine e) (Dropped l.no ∷ [])
      → ds ≡ Drop m.no ∷ [] → fs ≡ mail_entry (Engine e) (Dropped m.no ∷ [])
      → AreOne None None cs ds es fs
  drops_one l m cs ds es fs t u c d i j =
      let same : l ≡ m = lowest_one s.letters l m t.first u.first in
      record { marked = refl; changes = cc; entries = cc }

  pub takes_one : (k q : Takes s e) (cs ds : List Change) (es fs : List Entry)
      → cs ≡ lock k.meant.fresh.row e (Drop k.letter.no ∷ PutJob (taken_job s e k) ∷ [])
      → es ≡ rows_entry (Engine e) (lock_writes k.meant.fresh.row e)
      ++ mail_entry (Engine e) (Dropped k.letter.no ∷ Held (taken_job s e k) ∷ [])
      → ds ≡ lock q.meant.fresh.row e (Drop q.letter.no ∷ PutJob (taken_job s e q) ∷ [])
      → fs ≡ rows_entry (Engine e) (lock_writes q.meant.fresh.row e)
      ++ mail_entry (Engine e) (Dropped q.letter.no ∷ Held (taken_job s e q) ∷ [])
      → AreOne None None cs ds es fs
  takes_one k q cs ds es fs c d i j =
      let same = take_one s e k q in
      let letters = same.letters in let targets = same.targets in let rows = same.rows in
      record { marked = refl; changes = cc; entries = cc }

  pub steals_one : (k q : Takes s e) (f g : ℕ) (cs ds : List Change) (es fs : List Entry) → f ≡ g
      → cs ≡ lock k.meant.fresh.row e (Drop k.letter.no ∷ EndJob f ∷ PutJob (taken_job s e k) ∷ [])
      → es ≡ rows_entry (Engine e) (lock_writes k.meant.fresh.row e)
      ++ mail_entry (Engine e) (Dropped k.letter.no ∷ Ended f ∷ Held (taken_job s e k) ∷ [])
      → ds ≡ lock q.meant.fresh.row e (Drop q.letter.no ∷ EndJob g ∷ PutJob (taken_job s e q) ∷ [])
      → fs ≡ rows_entry (Engine e) (lock_writes q.meant.fresh.row e)
      ++ mail_entry (Engine e) (Dropped q.letter.no ∷ Ended g ∷ Held (taken_job s e q) ∷ [])
      → AreOne None None cs ds es fs
  steals_one k q f g cs ds es fs who c d i j =
      let same = take_one s e k q in
      let letters = same.letters in let targets = same.targets in let rows = same.rows in
      record { marked = refl; changes = cc; entries = cc }

  pub thief_one : (k q : Takes s e) (f g : ℕ) (j i : Job) → IsHolder s.jobs k.meant.target f j
      → IsHolder s.jobs q.meant.target g i → f ≡ g
  thief_one k q f g j i h h' =
      let same = take_one s e k q in holder_one s.jobs k.meant.target q.meant.target f g j i same.targets h h'

-- releases
module _ (s : StateData) where
  pub release_one : (e f g : ℕ) (j i : Job) (k : Releases s f j) (q : Releases s g i) (cs ds : List Change)
      (es fs : List Entry) → f ≡ g → j ≡ i
      → cs ≡ released_changes s f k.row k.letters → es ≡ released_entries e f k.row k.letters
      → ds ≡ released_changes s g q.row q.letters → fs ≡ released_entries e g q.row q.letters
      → AreOne None None cs ds es fs
  release_one e f g j i k q cs ds es fs who jobs c d x y =
      let rows : k.row ≡ q.row = sym k.found ∙ (ap (λ (z : Job). row_at s.rows z.row) jobs ∙ q.found) in
      let letters : k.letters ≡ q.letters = resends_one s j.letter.stack j.row k.letters q.letters k.resends
      (subst (λ (z : Job). Resends s z.letter.stack z.row q.letters) (sym jobs) q.resends) in
      record { marked = refl; changes = cc; entries = cc }

  pub fresh_again : (j i : Job) → j ≡ i → IsFresh s i.letter i.row → IsOverrun s j → ⊥
  fresh_again j i same fresh o = o (subst (λ (z : Job). IsFresh s z.letter z.row) (sym same) fresh)

  pub relay_one : (e f g : ℕ) (k : Relays s e f) (q : Relays s e g) (cs ds : List Change) (es fs : List Entry)
      → cs ≡ released_changes s f k.fresh.row (relayed_letter s e f k ∷ [])
      → es ≡ released_entries e f k.fresh.row (relayed_letter s e f k ∷ [])
      → ds ≡ released_changes s g q.fresh.row (relayed_letter s e g q ∷ [])
      → fs ≡ released_entries e g q.fresh.row (relayed_letter s e g q ∷ [])
      → AreOne None None cs ds es fs
  relay_one e f g k q cs ds es fs c d x y =
      let (who, jobs) = left_one s e f g k.job q.job k.next q.next in
      let like = fresh_one s k.job.letter q.job.letter k.job.row q.job.row (ap (λ (j : Job). j.letter) jobs)
      (ap (λ (j : Job). j.row) jobs) k.fresh q.fresh in
      let rows = like.rows in let stacks = like.stacks in record { marked = refl; changes = cc; entries = cc }

-- begins
module _ (s : StateData) (e : ℕ) where
  pub fault_one : (k q : Begins s e) (code : List ℕ) (path : List Step) (f g : Option Stack) (cs ds : List Change)
      (es fs : List Entry)
      → Falls s k.job [] f → Falls s q.job [] g
      → cs ≡ left_changes e k.row ++ mark_failed f
      → es ≡ left_entries e k.row ++ failed_mark (Engine e) f (fault_of k.item.name k.row.no code path)
      → ds ≡ left_changes e q.row ++ mark_failed g
      → fs ≡ left_entries e q.row ++ failed_mark (Engine e) g (fault_of q.item.name q.row.no code path)
      → AreOne f g cs ds es fs
  fault_one k q code path f g cs ds es fs x y c d i j =
      let same = begin_one s e k q in
      let rows = same.rows in let items = same.items in
      let (_, marks) = falls_one s k.job [] [] f g x (subst (λ (z : Job). Falls s z [] g) (sym same.jobs) y) in
      let left : left_changes e k.row ++ mark_failed f ≡ left_changes e q.row ++ mark_failed g = cc in
      let told : left_entries e k.row ++ failed_mark (Engine e) f (fault_of k.item.name k.row.no code path)
      ≡ left_entries e q.row ++ failed_mark (Engine e) g (fault_of q.item.name q.row.no code path) = cc in
      record { marked = marks; changes = c ∙ (left ∙ sym i); entries = d ∙ (told ∙ sym j) }

  fate_changes_same : (k q : Begins s e) (props : Members) (fate : Fate) → SameBegin s e k q
      → fate_changes s e k props fate ≡ fate_changes s e q props fate
  fate_changes_same k q props Created same =
      let jobs = same.jobs in let stacks = same.stacks in let items = same.items in let rows = same.rows in
      let required = same.required in cc
  fate_changes_same k q props Kept same =
      let jobs = same.jobs in let stacks = same.stacks in let items = same.items in let rows = same.rows in
      let required = same.required in cc
  fate_changes_same k q props Updated same =
      let jobs = same.jobs in let stacks = same.stacks in let items = same.items in let rows = same.rows in
      let required = same.required in cc
  fate_changes_same k q props Resumed same = let jobs = same.jobs in cc
  fate_changes_same k q props Left same = let rows = same.rows in cc
  fate_changes_same k q props Replaced same =
      let jobs = same.jobs in let stacks = same.stacks in let items = same.items in let rows = same.rows in
      let required = same.required in cc

  fate_entries_same : (k q : Begins s e) (props : Members) (fate : Fate) → SameBegin s e k q
      → fate_entries s e k props fate ≡ fate_entries s e q props fate
  fate_entries_same k q props Created same =
      let jobs = same.jobs in let stacks = same.stacks in let items = same.items in let rows = same.rows in
      let required = same.required in cc
  fate_entries_same k q props Kept same =
      let jobs = same.jobs in let stacks = same.stacks in let items = same.items in let rows = same.rows in
      let required = same.required in cc
  fate_entries_same k q props Updated same =
      let jobs = same.jobs in let stacks = same.stacks in let items = same.items in let rows = same.rows in
      let required = same.required in cc
  fate_entries_same k q props Resumed same = let jobs = same.jobs in cc
  fate_entries_same k q props Left same = let rows = same.rows in cc
  fate_entries_same k q props Replaced same =
      let jobs = same.jobs in let stacks = same.stacks in let items = same.items in let rows = same.rows in
      let required = same.required in cc

  pub prepare_one : (k q : Begins s e) (props : Members) (effect : Effect) (a b : Fate) (cs ds : List Change)
      (es fs : List Entry)
      → Decides k.row k.item k.stack.trav props effect a → Decides q.row q.item q.stack.trav props effect b
      → cs ≡ fate_changes s e k props a → es ≡ fate_entries s e k props a
      → ds ≡ fate_changes s e q props b → fs ≡ fate_entries s e q props b
      → AreOne None None cs ds es fs
  prepare_one k q props effect a b cs ds es fs x y c d i j =
      let same = begin_one s e k q in
      let y' = subst (λ (r : Row). Decides r k.item k.stack.trav props effect b) (sym same.rows)
      (subst (λ (it : Item). Decides q.row it k.stack.trav props effect b) (sym same.items)
      (subst (λ (st : Stack). Decides q.row q.item st.trav props effect b) (sym same.stacks) y)) in
      let fates : a ≡ b = fate_one k.row k.item k.stack.trav props effect a b x y' in
      by_forms c d i j (fate_changes_same k q props a same ∙ ap (fate_changes s e q props) fates)
      (fate_entries_same k q props a same ∙ ap (fate_entries s e q props) fates)

  pub clear_one : (k q : Cleans s e) (row other : Option Row) (a b : Lot) (cs ds : List Change) (es fs : List Entry)
      → row_at s.rows k.job.row ≡ row → row_at s.rows q.job.row ≡ other → Clears s k.stack row a
      → Clears s q.stack other b
      → cs ≡ lot_changes e k.job k.stack.trav a → es ≡ lot_entries e k.job k.stack.trav a
      → ds ≡ lot_changes e q.job q.stack.trav b → fs ≡ lot_entries e q.job q.stack.trav b
      → AreOne None None cs ds es fs
  clear_one k q row other a b cs ds es fs at at' x y c d i j =
      let (jobs, stacks) = clean_one s e k q in
      let rows : row ≡ other = sym at ∙ (ap (λ (z : Job). row_at s.rows z.row) jobs ∙ at') in
      let y' = subst (λ (r : Option Row). Clears s k.stack r b) (sym rows)
      (subst (λ (st : Stack). Clears s st other b) (sym stacks) y) in
      let lots : a ≡ b = lot_one s k.stack row a b x y' in
      by_forms c d i j (ap (λ (z : Job). lot_changes e z k.stack.trav a) jobs
      ∙ (ap (λ (st : Stack). lot_changes e q.job st.trav a) stacks
      ∙ ap (lot_changes e q.job q.stack.trav) lots))
      (ap (λ (z : Job). lot_entries e z k.stack.trav a) jobs
      ∙ (ap (λ (st : Stack). lot_entries e q.job st.trav a) stacks
      ∙ ap (lot_entries e q.job q.stack.trav) lots))

  -- a job at a clean-up node isn't overrun
  pub clean_fresh : (k : Cleans s e) → IsFresh s k.job.letter k.job.row
  clean_fresh k = record {
    stack = k.stack;
    graph = k.graph;
    node = _;
    row = row_at s.rows k.job.row;
    names = k.names;
    found = refl;
    serves = cleans k.number _;
  }
