-- What the history tells behind a command.
use Rattle.std.proofs.Common.{Bool, List, ap, append_assoc, arith, false, inl, inr, refl, subst, sym, true, ◌∙◌}
use Rattle.std.proofs.lemmas.Slice.Eq.{bytes_eq-Decides}
use Rattle.std.specs.Prelude.{Contains, List, None, Option, Some, [], bytes_eq, map, ℕ, ◌++◌, ◌∷◌, ◌≡◌, ◌≢◌, ◌⊎◌}
use Rattle.heat_plan.specs.Plans.{PlanData}
use Rattle.heat_plan.specs.declared.item.Item.{Item}
use Rattle.heat_plan.specs.declared.phase.Act.{Act}
use Rattle.heat_plan.specs.declared.phase.Act.TheVariants.{Create, Delete, Init, Rollback, Update}
use Rattle.heat_plan.specs.declared.phase.Status.{Status}
use Rattle.heat_plan.specs.declared.phase.Status.TheVariants.{Complete, Failed, InProgress}
use Rattle.traversal_graph.specs.declared.shape.Node.{Node}
use Rattle.step_relation.specs.Changes.{applied}
use Rattle.step_relation.specs.State.{StateData, past_at, put_past, stack_at}
use Rattle.step_relation.specs.declared.Change.{Change}
use Rattle.step_relation.specs.declared.Actor.{Actor}
use Rattle.step_relation.specs.declared.Actor.TheVariants.{Engine, Main}
use Rattle.step_relation.specs.declared.Entry.{Entry}
use Rattle.step_relation.specs.declared.MailWrite.TheVariants.{Sent}
use Rattle.step_relation.specs.declared.RowWrite.TheVariants.{Set}
use Rattle.step_relation.specs.declared.Past.{Past}
use Rattle.step_relation.specs.declared.Stack.{Stack}
use Rattle.step_relation.specs.Commands.{Lays, Sets, first_letters, laid_changes, laid_entries, settled_mark}
use Rattle.step_relation.specs.Commands.{settles_at_once, stack_set}
use Rattle.step_relation.specs.Freshness.{plan_of}
use Rattle.step_relation.specs.Orders.{IsForward, back_after, create_sets, of_create, of_update, past_of, past_or}
use Rattle.step_relation.specs.Orders.{plan_back, rollback_sets, update_sets}
use Rattle.step_relation.specs.Writes.{complete_mark, entry_of, mail_entry, mark_complete, rows_entry}
use Rattle.step_relation.specs.Last.{IsLast, IsNeverReached, created}
use Rattle.step_relation.specs.Marked.{Unmarked}
use Rattle.step_relation.specs.Opening.{Opening}
use Rattle.step_relation.specs.Groups.{IsOrdered, ToldByCommands, creates, deletes, rolls_back, updates}
use Rattle.step_relation.specs.Sound.{Sound}
use Rattle.step_relation.specs.Tells.{Tells}
use Rattle.history_laws.proofs.tables.Rows.{past_else, past_here, stack_here}
use Rattle.history_laws.proofs.tells.Appends.{marked-append, newest-append, rollback-append}
use Rattle.history_laws.proofs.tells.Beside.{beside_command}
use Rattle.history_laws.proofs.tells.Lasts.{IsPassing, last_kept, passing_more, passing_silent}
use Rattle.history_laws.proofs.tells.Marks.{MarkMade, StacksTold, put_told, stacks_told, unmade}
use Rattle.history_laws.proofs.tells.Silence.{unmarking-both, unmarking_mail, unmarking_rows}
use Rattle.history_laws.proofs.agrees.Finished.{complete_drop, complete_keep, delete_or_not, made_completed, made_deleted}
use Rattle.history_laws.proofs.agrees.Laid.{end_of, laid_end, laid_same, laid_state, laid_uncalling}
use Rattle.history_laws.proofs.agrees.Outcome.{never_last}
use Rattle.step_relation.specs.declared.What.TheVariants as what

pub back_incomplete : (st : Stack) (p : Past) → st.status ≢ Complete → back_after st p ≡ p.back
back_incomplete st p ne = by st.status ne where
  by : (x : Status) → x ≢ Complete → back_after (record st { status = x }) p ≡ p.back
  by Complete n = absurd (n refl)
  by InProgress n = refl
  by Failed n = refl

ordered_past : (s : StateData) (name : List ℕ) (items : List Item) (it : Sets) → IsOrdered s name items it
    → it.past.stack ≡ name
ordered_past s _ _ _ (creates name plan rb none proper) = refl
ordered_past s _ _ _ (updates st plan rb found ne proper) = refl
ordered_past s _ _ _ (deletes st found) = refl
ordered_past s _ _ _ (rolls_back st actor found forward incomplete) = refl

ordered_delete : (s : StateData) (name : List ℕ) (items : List Item) (it : Sets) → IsOrdered s name items it
    → it.act ≡ Delete → it.plan ≡ None
ordered_delete s _ _ _ (creates name plan rb none proper) act = cc
ordered_delete s _ _ _ (updates st plan rb found ne proper) act = cc
ordered_delete s _ _ _ (deletes st found) act = refl
ordered_delete s _ _ _ (rolls_back st actor found forward incomplete) act = cc

pub forward_keeps : (a : Act) → IsForward a → a ≢ Delete
forward_keeps _ of_create i = cc
forward_keeps _ of_update i = cc

-- a command that creates nothing is passed over
passing_command : (name : List ℕ) (actor : Actor) (own : List ℕ) (trav : ℕ) (act : Act) (plan : Option PlanData)
    (rb : Bool) → act ≢ Create
    → IsPassing name (entry_of actor (what.Command own trav act plan rb) ∷ [])
passing_command name actor own trav act plan rb ne =
    passing_more name (entry_of actor (what.Command own trav act plan rb)) []
    (λ it c creates_. let eq = c.is in let same : act ≡ it.act = cc in ne (same ∙ creates_))
    (λ t c. let eq = c.1 in cc) (passing_silent name [] tt)

never_alone : (name : List ℕ) (e : Entry) → IsNeverReached name (e ∷ [])
never_alone name e [] after_ c it is r = absurd (omega (arith, among.1)) where
  none_after : after_ ≡ []
  none_after = cc

  among : Contains [] r.completed.entry
  among = subst (λ (es : List Entry). Contains es r.completed.entry) none_after r.completed.among
never_alone name e (b ∷ []) after_ c it is r = cc
never_alone name e (b ∷ d ∷ before) after_ c it is r = cc

module _ (o : Opening) (h : List Entry) (s : StateData) (x : Sound o h s) where
  abbrev command_of : List ℕ → Sets → Entry
  command_of name it = entry_of it.actor (what.Command name s.next.trav it.act it.plan it.past.rollback)

  ordered_last : (name : List ℕ) (items : List Item) (it : Sets) → IsOrdered s name items it → it.act ≢ Delete
      → IsLast o (h ++ command_of name it ∷ []) name (plan_of it.past.back)
  ordered_last _ _ _ (creates name plan rb none proper) keeps =
      created h [] (command_of name (create_sets s name plan rb))
      (record { trav = s.next.trav; act = Create; plan = Some plan }) refl
      (record { rollback = rb; is = refl }) refl (λ c. absurd (omega (arith, c.among.1)))
      (never_alone name (command_of name (create_sets s name plan rb)))
  ordered_last _ _ _ (updates st plan rb found ne proper) keeps =
      last_kept o h (command_of st.name (update_sets s st plan rb) ∷ []) st.name _
      (passing_command st.name Main st.name s.next.trav Update (Some plan) rb (λ i. cc))
      ((x.tells.stacks st.name st found).last ne)
  ordered_last _ _ _ (deletes st found) keeps = absurd (keeps refl)
  ordered_last _ _ _ (rolls_back st actor found forward incomplete) keeps =
      last_kept o h (command_of st.name (rollback_sets s st actor) ∷ []) st.name _
      (passing_command st.name actor st.name s.next.trav Rollback (Some (plan_back s st)) false (λ i. cc))
      (subst (λ (p : Option PlanData). IsLast o h st.name (plan_of p))
      (back_incomplete st (past_of s st.name) incomplete)
      ((x.tells.stacks st.name st found).last (forward_keeps st.act forward)))

  module _ (name : List ℕ) (items : List Item) (it : Sets) (k : Lays s name items)
      (ordered : IsOrdered s name items it) where
    abbrev mid : StateData
    mid = laid_state s name items it k

    abbrev e : Entry
    e = command_of name it

    past_is : past_of mid name ≡ it.past
    past_is = ap (past_or name) (subst (λ (n : List ℕ). past_at (put_past it.past s.pasts) n ≡ Some it.past)
        (ordered_past s name items it ordered) (past_here it.past s.pasts))

    same : bytes_eq name name ≡ true
    same = (bytes_eq-Decides name name).1 refl

    -- behind the command's own entry
    command_told : StacksTold o (h ++ e ∷ []) mid
    command_told = put_told o h s mid (record { stacks = x.tells.stacks; gone = x.tells.gone }) (e ∷ [])
        (stack_set s name it InProgress)
        (λ other ne. beside_command other name it.actor s.next.trav it.act it.plan it.past.rollback ne) refl
        (λ other ne. past_else it.past s.pasts other (λ i. ne (sym (ordered_past s name items it ordered) ∙ i)))
        (record {
          traversal = newest-append o h (e ∷ []) name ∙ rw same refl;
          marked = record { trav = s.next.trav; mark = Unmarked };
          is_marked = marked-append o h (e ∷ []) name ∙ rw same refl;
          trav = refl;
          status = refl;
          rollback = rollback-append o h (e ∷ []) name ∙ (rw same refl ∙ ap (λ (p : Past). p.rollback) (sym past_is));
          last = λ keeps. subst (λ (p : Past). IsLast o (h ++ e ∷ []) name
              (plan_of (back_after (stack_set s name it InProgress) p))) (sym past_is)
              (ordered_last name items it ordered keeps);
        })

    made_settled : (nodes : List Node) → MarkMade mid (applied (settles_at_once nodes s name it) mid)
        (settled_mark nodes s name it)
    made_settled (node ∷ nodes) = unmade refl refl refl
    made_settled [] = by (delete_or_not it.act) where
      found : stack_at mid.stacks name ≡ Some (stack_set s name it InProgress)
      found = stack_here (stack_set s name it InProgress) s.stacks

      by : (it.act ≡ Delete) ⊎ (it.act ≢ Delete)
          → MarkMade mid (applied (mark_complete (stack_set s name it InProgress)) mid)
          (complete_mark it.actor (stack_set s name it InProgress) ∷ [])
      by (inl act) = subst (λ (m : List Change). MarkMade mid (applied m mid)
          (complete_mark it.actor (stack_set s name it InProgress) ∷ []))
          (sym (complete_drop (stack_set s name it InProgress) act))
          (made_deleted it.actor (stack_set s name it InProgress) found refl act
          (ordered_delete s name items it ordered act))
      by (inr ne) = subst (λ (m : List Change). MarkMade mid (applied m mid)
          (complete_mark it.actor (stack_set s name it InProgress) ∷ []))
          (sym (complete_keep (stack_set s name it InProgress) ne))
          (made_completed it.actor (stack_set s name it InProgress) found refl ne)

    abbrev silent_part : List Entry
    silent_part = rows_entry it.actor (map Set k.rows) ++ mail_entry it.actor
        (map Sent (first_letters s name items it k))

    laid_told : StacksTold o (h ++ laid_entries s name items it k) (applied (laid_changes s name items it k) s)
    laid_told = subst (λ (t : StateData). StacksTold o (h ++ laid_entries s name items it k) t)
        (sym (laid_end s name items it k))
        (subst (λ (es : List Entry). StacksTold o es (applied (settles_at_once k.graph.nodes s name it) mid))
        (append_assoc h (e ∷ []) (silent_part ++ settled_mark k.graph.nodes s name it)
        ∙ ap (λ (es : List Entry). h ++ e ∷ es)
        (append_assoc (rows_entry it.actor (map Set k.rows))
        (mail_entry it.actor (map Sent (first_letters s name items it k)))
        (settled_mark k.graph.nodes s name it)))
        (stacks_told o (h ++ e ∷ []) mid (applied (settles_at_once k.graph.nodes s name it) mid) silent_part
        (settled_mark k.graph.nodes s name it)
        command_told
        (unmarking-both (rows_entry it.actor (map Set k.rows)) _ (unmarking_rows it.actor (map Set k.rows))
        (unmarking_mail it.actor (map Sent (first_letters s name items it k))))
        (made_settled k.graph.nodes)))

pub commands_tell : ToldByCommands Tells
commands_tell o h s name items it k x ordered =
    let t = applied (laid_changes s name items it k) s in
    let d = end_of s name items it k in
    let same_ = laid_same o h s x name items it k t d.rows d.tokens in
    let told_ = laid_told o h s x name items it k ordered in
    record {
      rows = same_.rows_are;
      tokens = same_.tokens_are;
      stacks = told_.stacks;
      gone = told_.gone;
      calling = λ before f token request given is. absurd (never_last h (laid_entries s name items it k) before
          (entry_of (Engine f) (what.Call token request given)) is (laid_uncalling s name items it k) (λ i. cc)
          (λ u. u));
    }

-- of a stack that is complete, and not by a delete, it is its own plan
pub back_completed : (st : Stack) (p : Past) → st.status ≡ Complete → st.act ≢ Delete → back_after st p ≡ st.plan
back_completed st p status ne = by st.status st.act status ne where
  by : (x : Status) (a : Act) → x ≡ Complete → a ≢ Delete → back_after (record st { status = x; act = a }) p ≡ st.plan
  by Complete Delete e n = absurd (n refl)
  by Complete Init e n = refl
  by Complete Create e n = refl
  by Complete Update e n = refl
  by Complete Rollback e n = refl
  by InProgress a e n = cc
  by Failed a e n = cc
