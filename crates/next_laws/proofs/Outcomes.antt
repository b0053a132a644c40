-- Two calls, two finishes, and any two moves of one part have one outcome.
use Rattle.std.proofs.Common.{◌≡◌, ℕ, List, [], ◌∷◌, Option, None, refl, sym, ap, subst, ◌∙◌}
use Rattle.heat_plan.specs.declared.calls.Answered.{Answered}
use Rattle.heat_plan.specs.declared.calls.Request.{Request}
use Rattle.heat_plan.specs.declared.facts.Facts.{Facts}
use Rattle.heat_plan.specs.declared.phase.Act.{Act}
use Rattle.heat_plan.specs.declared.phase.Status.TheVariants.{InProgress}
use Rattle.row_table.specs.declared.row.Row.{Row}
use Rattle.mail_table.specs.declared.mail.Job.{Job}
use Rattle.mail_table.specs.declared.mail.Letter.{Letter}
use Rattle.mail_table.specs.declared.mail.Stage.{Stage}
use Rattle.mail_table.specs.declared.mail.Stage.TheVariants.{Asking, Ending, Polling}
use Rattle.core_state.specs.State.{StateData}
use Rattle.core_state.specs.declared.change.Change.{Change}
use Rattle.core_state.specs.declared.entry.Actor.TheVariants.{Engine}
use Rattle.core_state.specs.declared.entry.Entry.{Entry}
use Rattle.core_state.specs.declared.entry.Why.{Why}
use Rattle.core_state.specs.declared.stack.Stack.{Stack}
use Rattle.history_laws.specs.Asks.{Asks, Calls, Falls, Polls, Refuses, failed_changes, failed_entries}
use Rattle.history_laws.specs.Begins.{begun_changes, begun_entries, onward_changes, onward_entries}
use Rattle.history_laws.specs.Cleanups.{purged_changes, purged_entries}
use Rattle.history_laws.specs.Finishes.{Finishes, Settles, finished_changes, finished_entries, graph_then}
use Rattle.history_laws.specs.Given.{Given}
use Rattle.history_laws.specs.Inputs.{AllDone}
use Rattle.history_laws.specs.Moves.{Move}
use Rattle.history_laws.specs.Rows.{ready_row}
use Rattle.history_laws.specs.Writes.{call_entry, complete_mark, mark_complete}
use Rattle.next_laws.proofs.Pairs.{AreOne, clean_fresh, clear_one, drop_take, drops_one, fault_one, free_stolen}
use Rattle.next_laws.proofs.Pairs.{fresh_again, prepare_one, relay_one, release_one, steals_one, takes_one, thief_one}
use Rattle.next_laws.proofs.Parts.{IsAsked, Kind, Part, at_ask, at_poll, begins, clears, drops, ends, faults, goes}
use Rattle.next_laws.proofs.Parts.{kind_one, overruns, placed, prepares, readies, refuses, relays, relieves, settles}
use Rattle.next_laws.proofs.Parts.{steals, takes, waits}
use Rattle.next_laws.proofs.Readings.{left_one, works_one}
use Rattle.next_laws.proofs.Works.{SameFinish, asks_one, call_one, falls_one, finish_one, idle_free, idle_stolen}
use Rattle.next_laws.proofs.Works.{polls_one, refuses_one}
use Rattle.heat_plan.specs.declared.calls.Answered.TheVariants as answer
use Rattle.heat_plan.specs.declared.calls.Request.TheVariants as request

-- answers that fail no request
not_begun : (act : Act) (asked : Request) (why : Why) → Refuses act asked answer.Begun why → ⊥
not_begun act asked why r = elim r [ ]

not_waiting : (act : Act) (asked : Request) (why : Why) → Refuses act asked answer.NotYet why → ⊥
not_waiting act asked why r = elim r [ ]

not_ready : (act : Act) (asked : Request) (why : Why) (facts : Facts) → Refuses act asked (answer.Ready facts) why → ⊥
not_ready act asked why facts r = elim r [ ]

not_gone : (act : Act) (asked : Request) (why : Why) → Refuses act asked answer.Gone why → ⊥
not_gone act asked why r = elim r [ ]

-- calls
asked_one : (r : Row) (stage : Stage) (a b : Request) → IsAsked r stage a → IsAsked r stage b → a ≡ b
asked_one r stage a b (at_ask _ x) (at_ask _ y) = asks_one r a b x y
asked_one r stage a b (at_poll _ x) (at_poll _ y) = polls_one r a b x y

module _ (s : StateData) (e : ℕ) where
  begun_one : (k q : Calls s e Asking) (a b : Request) (cs ds : List Change) (es fs : List Entry) → Asks k.row a
      → Asks q.row b
      → cs ≡ onward_changes k.job Polling → es ≡ call_entry e k.row a answer.Begun ∷ onward_entries e k.job Polling
      → ds ≡ onward_changes q.job Polling → fs ≡ call_entry e q.row b answer.Begun ∷ onward_entries e q.job Polling
      → AreOne None None cs ds es fs
  begun_one k q a b cs ds es fs x y c d i j =
      let (jobs, rows) = call_one s e Asking k q in
      let asked : a ≡ b = asks_one k.row a b x (subst (λ (r : Row). Asks r b) (sym rows) y) in
      record { marked = refl; changes = cc; entries = cc }

  wait_one : (k q : Calls s e Polling) (a b : Request) (cs ds : List Change) (es fs : List Entry) → Polls k.row a
      → Polls q.row b
      → cs ≡ [] → es ≡ call_entry e k.row a answer.NotYet ∷ []
      → ds ≡ [] → fs ≡ call_entry e q.row b answer.NotYet ∷ []
      → AreOne None None cs ds es fs
  wait_one k q a b cs ds es fs x y c d i j =
      let (jobs, rows) = call_one s e Polling k q in
      let asked : a ≡ b = polls_one k.row a b x (subst (λ (r : Row). Polls r b) (sym rows) y) in
      record { marked = refl; changes = cc; entries = cc }

  ready_one : (k q : Calls s e Polling) (facts : Facts) (cs ds : List Change) (es fs : List Entry)
      → cs ≡ begun_changes k.job Ending (ready_row k.row facts)
      → es ≡ call_entry e k.row request.Poll (answer.Ready facts) ∷ begun_entries e k.job Ending (ready_row k.row facts)
      → ds ≡ begun_changes q.job Ending (ready_row q.row facts)
      → fs ≡ call_entry e q.row request.Poll (answer.Ready facts) ∷ begun_entries e q.job Ending (ready_row q.row facts)
      → AreOne None None cs ds es fs
  ready_one k q facts cs ds es fs c d i j =
      let (jobs, rows) = call_one s e Polling k q in record { marked = refl; changes = cc; entries = cc }

  gone_one : (k q : Calls s e Polling) (cs ds : List Change) (es fs : List Entry)
      → cs ≡ purged_changes k.job k.row → es ≡ call_entry e k.row request.Gone answer.Gone
      ∷ purged_entries e k.job k.row
      → ds ≡ purged_changes q.job q.row → fs ≡ call_entry e q.row request.Gone answer.Gone
      ∷ purged_entries e q.job q.row
      → AreOne None None cs ds es fs
  gone_one k q cs ds es fs c d i j =
      let (jobs, rows) = call_one s e Polling k q in record { marked = refl; changes = cc; entries = cc }

  refusal_one : (stage : Stage) (k q : Calls s e stage) (a b : Request) (given : Answered) (why other : Why)
      (ls ms : List Letter) (f g : Option Stack)
      (cs ds : List Change) (es fs : List Entry) → IsAsked k.row stage a → IsAsked q.row stage b
      → Refuses k.row.act a given why → Refuses q.row.act b given other → Falls s k.job ls f → Falls s q.job ms g
      → cs ≡ failed_changes s e k.row ls f → es ≡ call_entry e k.row a given ∷ failed_entries e k.row ls f why
      → ds ≡ failed_changes s e q.row ms g → fs ≡ call_entry e q.row b given ∷ failed_entries e q.row ms g other
      → AreOne f g cs ds es fs
  refusal_one stage k q a b given why other ls ms f g cs ds es fs x y r t u v c d i j =
      let (jobs, rows) = call_one s e stage k q in
      let asked : a ≡ b = asked_one k.row stage a b x (subst (λ (z : Row). IsAsked z stage b) (sym rows) y) in
      let t' = subst (λ (z : Request). Refuses k.row.act z given other) (sym asked)
      (subst (λ (z : Row). Refuses z.act b given other) (sym rows) t) in
      let reasons : why ≡ other = refuses_one k.row.act a given why other r t' in
      let (letters, marks) = falls_one s k.job ls ms f g u (subst (λ (z : Job). Falls s z ms g) (sym jobs) v) in
      record { marked = marks; changes = cc; entries = cc }

-- finishes
module _ (s : StateData) (e : ℕ) (k q : Finishes s e) where
  graphs_then : SameFinish s e k q → graph_then s e k ≡ graph_then s e q
  graphs_then same =
      let jobs = same.jobs in let graphs = same.graphs in let nodes = same.nodes in let rows = same.rows in
      let succs = same.succs in cc

  settles_too : Settles s e k → Settles s e q
  settles_too x = let same = finish_one s e k q in record {
    all = subst AllDone (graphs_then same) x.all;
    unmarked = subst (λ (st : Stack). st.status ≡ InProgress) same.stacks x.unmarked;
  }

  finished_changes_same : (mark : List Change) → finished_changes s e k mark ≡ finished_changes s e q mark
  finished_changes_same mark =
      let same = finish_one s e k q in
      let jobs = same.jobs in let stacks = same.stacks in let graphs = same.graphs in let nodes = same.nodes in
      let rows = same.rows in
      let succs = same.succs in let ready = same.ready in cc

  finished_entries_same : (mark : List Entry) → finished_entries s e k mark ≡ finished_entries s e q mark
  finished_entries_same mark =
      let same = finish_one s e k q in
      let stacks = same.stacks in let rows = same.rows in let ready = same.ready in cc

  end_one : (cs ds : List Change) (es fs : List Entry)
      → cs ≡ finished_changes s e k [] → es ≡ finished_entries s e k []
      → ds ≡ finished_changes s e q [] → fs ≡ finished_entries s e q []
      → AreOne None None cs ds es fs
  end_one cs ds es fs c d i j = record {
    marked = refl;
    changes = c ∙ (finished_changes_same [] ∙ sym i);
    entries = d ∙ (finished_entries_same [] ∙ sym j);
  }

  settled_one : (cs ds : List Change) (es fs : List Entry)
      → cs ≡ finished_changes s e k (mark_complete k.fresh.stack)
      → es ≡ finished_entries s e k (complete_mark (Engine e) k.fresh.stack ∷ [])
      → ds ≡ finished_changes s e q (mark_complete q.fresh.stack)
      → fs ≡ finished_entries s e q (complete_mark (Engine e) q.fresh.stack ∷ [])
      → AreOne None None cs ds es fs
  settled_one cs ds es fs c d i j =
      let same = finish_one s e k q in let stacks = same.stacks in
      let marks : mark_complete k.fresh.stack ≡ mark_complete q.fresh.stack = ap mark_complete stacks in
      let told : complete_mark (Engine e) k.fresh.stack ∷ [] ≡ complete_mark (Engine e) q.fresh.stack ∷ [] =
      ap (λ (st : Stack). complete_mark (Engine e) st ∷ []) stacks in
      record {
        marked = refl;
        changes = c
            ∙ (ap (finished_changes s e k) marks ∙ (finished_changes_same (mark_complete q.fresh.stack) ∙ sym i));
        entries = d ∙ (ap (finished_entries s e k) told
            ∙ (finished_entries_same (complete_mark (Engine e) q.fresh.stack ∷ []) ∙ sym j));
      }

-- any two of one part
part_one : (s : StateData) (e : ℕ) (kind : Kind) (given : Given) (f g : Option Stack) (cs ds : List Change)
    (es fs : List Entry)
    → Part s e kind given f cs es → Part s e kind given g ds fs → AreOne f g cs ds es fs
part_one s e kind given f g cs ds es fs (drops l _ _ t x c d) (drops m _ _ u y i j) =
    drops_one s e l m cs ds es fs t u c d i j
part_one s e kind given f g cs ds es fs (drops l _ _ t x c d) (takes k _ _ free i j) =
    absurd (idle_free s e k (drop_take s e l k t x) free)
part_one s e kind given f g cs ds es fs (drops l _ _ t x c d) (steals k who job _ _ h n i j) =
    absurd (idle_stolen s e k (drop_take s e l k t x) who job h n)
part_one s e kind given f g cs ds es fs (takes k _ _ free c d) (drops l _ _ t x i j) =
    absurd (idle_free s e k (drop_take s e l k t x) free)
part_one s e kind given f g cs ds es fs (takes k _ _ free c d) (takes q _ _ free' i j) =
    takes_one s e k q cs ds es fs c d i j
part_one s e kind given f g cs ds es fs (takes k _ _ free c d) (steals q who job _ _ h n i j) =
    absurd (free_stolen s e k q who job free h)
part_one s e kind given f g cs ds es fs (steals k who job _ _ h n c d) (drops l _ _ t x i j) =
    absurd (idle_stolen s e k (drop_take s e l k t x) who job h n)
part_one s e kind given f g cs ds es fs (steals k who job _ _ h n c d) (takes q _ _ free i j) =
    absurd (free_stolen s e q k who job free h)
part_one s e kind given f g cs ds es fs (steals k who job _ _ h n c d) (steals q who' job' _ _ h' n' i j) =
    steals_one s e k q who who' cs ds es fs (thief_one s e k q who who' job job' h h') c d i j
part_one s e kind given f g cs ds es fs (overruns j stage _ _ w k c d) (overruns i _ _ _ v q x y) =
    release_one s e e e j i k q cs ds es fs refl (works_one s e stage stage j i w v) c d x y
part_one s e kind given f g cs ds es fs (overruns j stage _ _ w k c d) (clears q row lot _ _ at x i y) =
    absurd (fresh_again s j q.job (works_one s e stage stage j q.job w q.works) (clean_fresh s e q) k.overrun)
part_one s e kind given f g cs ds es fs (overruns j stage _ _ w k c d) (ends q _ _ n x y) =
    absurd (fresh_again s j q.job (works_one s e stage stage j q.job w q.works) q.fresh k.overrun)
part_one s e kind given f g cs ds es fs (overruns j stage _ _ w k c d) (settles q _ _ n x y) =
    absurd (fresh_again s j q.job (works_one s e stage stage j q.job w q.works) q.fresh k.overrun)
part_one s e kind given f g cs ds es fs (clears q row lot _ _ at x i y) (overruns j stage _ _ w k c d) =
    absurd (fresh_again s j q.job (works_one s e stage stage j q.job w q.works) (clean_fresh s e q) k.overrun)
part_one s e kind given f g cs ds es fs (clears k row lot _ _ at x c d) (clears q other lot' _ _ at' y i j) =
    clear_one s e k q row other lot lot' cs ds es fs at at' x y c d i j
part_one s e kind given f g cs ds es fs (ends q _ _ n x y) (overruns j stage _ _ w k c d) =
    absurd (fresh_again s j q.job (works_one s e stage stage j q.job w q.works) q.fresh k.overrun)
part_one s e kind given f g cs ds es fs (ends k _ _ n c d) (ends q _ _ n' i j) = end_one s e k q cs ds es fs c d i j
part_one s e kind given f g cs ds es fs (ends k _ _ n c d) (settles q _ _ y i j) = absurd (n (settles_too s e q k y))
part_one s e kind given f g cs ds es fs (settles q _ _ n x y) (overruns j stage _ _ w k c d) =
    absurd (fresh_again s j q.job (works_one s e stage stage j q.job w q.works) q.fresh k.overrun)
part_one s e kind given f g cs ds es fs (settles k _ _ y c d) (ends q _ _ n i j) = absurd (n (settles_too s e k q y))
part_one s e kind given f g cs ds es fs (settles k _ _ y c d) (settles q _ _ y' i j) =
    settled_one s e k q cs ds es fs c d i j
part_one s e kind given f g cs ds es fs (faults k code path _ _ _ x c d) (faults q _ _ _ _ _ y i j) =
    fault_one s e k q code path f g cs ds es fs x y c d i j
part_one s e kind given f g cs ds es fs (prepares k props effect a _ _ x c d) (prepares q _ _ b _ _ y i j) =
    prepare_one s e k q props effect a b cs ds es fs x y c d i j
part_one s e kind given f g cs ds es fs (begins k a _ _ x c d) (begins q b _ _ y i j) =
    begun_one s e k q a b cs ds es fs x y c d i j
part_one s e kind given f g cs ds es fs (begins k a _ _ x c d) (refuses _ q b _ why ls _ _ _ y r u i j) =
    absurd (not_begun q.row.act b why r)
part_one s e kind given f g cs ds es fs (waits k a _ _ x c d) (waits q b _ _ y i j) =
    wait_one s e k q a b cs ds es fs x y c d i j
part_one s e kind given f g cs ds es fs (waits k a _ _ x c d) (refuses _ q b _ why ls _ _ _ y r u i j) =
    absurd (not_waiting q.row.act b why r)
part_one s e kind given f g cs ds es fs (readies k facts _ _ x c d) (readies q _ _ _ y i j) =
    ready_one s e k q facts cs ds es fs c d i j
part_one s e kind given f g cs ds es fs (readies k facts _ _ x c d) (refuses _ q b _ why ls _ _ _ y r u i j) =
    absurd (not_ready q.row.act b why facts r)
part_one s e kind given f g cs ds es fs (goes k _ _ x c d) (goes q _ _ y i j) = gone_one s e k q cs ds es fs c d i j
part_one s e kind given f g cs ds es fs (goes k _ _ x c d) (refuses _ q b _ why ls _ _ _ y r u i j) =
    absurd (not_gone q.row.act b why r)
part_one s e kind given f g cs ds es fs (refuses _ q b _ why ls _ _ _ y r u i j) (begins k a _ _ x c d) =
    absurd (not_begun q.row.act b why r)
part_one s e kind given f g cs ds es fs (refuses _ q b _ why ls _ _ _ y r u i j) (waits k a _ _ x c d) =
    absurd (not_waiting q.row.act b why r)
part_one s e kind given f g cs ds es fs (refuses _ q b _ why ls _ _ _ y r u i j) (readies k facts _ _ x c d) =
    absurd (not_ready q.row.act b why facts r)
part_one s e kind given f g cs ds es fs (refuses _ q b _ why ls _ _ _ y r u i j) (goes k _ _ x c d) =
    absurd (not_gone q.row.act b why r)
part_one s e kind given f g cs ds es fs (refuses stage k a answered why ls _ _ _ x r u c d)
    (refuses _ q b _ other ms _ _ _ y t v i j) =
    refusal_one s e stage k q a b answered why other ls ms f g cs ds es fs x y r t u v c d i j
part_one s e kind given f g cs ds es fs (relieves who j _ _ t k c d) (relieves who' i _ _ u q x y) =
    release_one s e who who' j i k q cs ds es fs (left_one s e who who' j i t u).0
    (left_one s e who who' j i t u).1 c d x y
part_one s e kind given f g cs ds es fs (relieves who j _ _ t k c d) (relays who' q _ _ x y) =
    absurd (fresh_again s j q.job (left_one s e who who' j q.job t q.next).1 q.fresh k.overrun)
part_one s e kind given f g cs ds es fs (relays who' q _ _ x y) (relieves who j _ _ t k c d) =
    absurd (fresh_again s j q.job (left_one s e who who' j q.job t q.next).1 q.fresh k.overrun)
part_one s e kind given f g cs ds es fs (relays who k _ _ c d) (relays who' q _ _ i j) =
    relay_one s e who who' k q cs ds es fs c d i j

-- any two moves
pub move_one : (s : StateData) (e : ℕ) (given : Given) (f g : Option Stack) (cs ds : List Change) (es fs : List Entry)
    → Move s e given f cs es → Move s e given g ds fs → AreOne f g cs ds es fs
move_one s e given f g cs ds es fs m n =
    let a = placed s e given f cs es m in let b = placed s e given g ds fs n in
    part_one s e a.kind given f g cs ds es fs a.part
    (subst (λ (x : Kind). Part s e x given g ds fs) (sym (kind_one s e a.kind b.kind a.next b.next)) b.part)
