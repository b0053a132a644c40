-- What a rollback reads is as it was before the mark.
use Rattle.std.proofs.Common.{◌≡◌, ◌≤◌, ◌+◌, ◌∙◌, ◌++◌, ℕ, List, [], ◌∷◌, Some, false, refl, sym, ap, subst, length, map}
use Rattle.heat_plan.specs.Plans.{PlanData}
use Rattle.heat_plan.specs.declared.phase.Act.TheVariants.{Rollback}
use Rattle.heat_plan.specs.declared.phase.Status.{Status}
use Rattle.heat_plan.specs.declared.phase.Status.TheVariants.{Failed, InProgress}
use Rattle.traversal_graph.specs.Nodes.{IsBuilt}
use Rattle.traversal_graph.specs.declared.brief.RowBrief.{RowBrief}
use Rattle.traversal_graph.specs.declared.shape.Node.{Node}
use Rattle.row_table.specs.declared.row.Row.{Row}
use Rattle.core_state.specs.Changes.{applied}
use Rattle.core_state.specs.State.{StateData, stack_at}
use Rattle.core_state.specs.declared.change.Change.{Change}
use Rattle.core_state.specs.declared.change.Change.TheVariants as change
use Rattle.core_state.specs.declared.entry.Actor.TheVariants.{Engine}
use Rattle.core_state.specs.declared.entry.Entry.{Entry}
use Rattle.core_state.specs.declared.entry.MailWrite.TheVariants.{Sent}
use Rattle.core_state.specs.declared.entry.RowWrite.TheVariants.{Set}
use Rattle.core_state.specs.declared.entry.What.TheVariants as what
use Rattle.core_state.specs.declared.past.Past.{Past}
use Rattle.core_state.specs.declared.stack.Stack.{Stack}
use Rattle.step_relation.specs.Commands.{Lays, Sets, first_letters, laid_changes, laid_entries, past_command, settled_mark, settles_at_once, stack_set}
use Rattle.step_relation.specs.Freshness.{plan_of}
use Rattle.step_relation.specs.Orders.{back_after, past_of, plan_back, rollback_sets, row_limit}
use Rattle.step_relation.specs.Turns.{FollowsFailure, IsDue}
use Rattle.step_relation.specs.Writes.{entry_of, mail_entry, rows_entry}
use Rattle.history_laws.proofs.tables.Rows.{same_some, stack_here}
use Rattle.step_ends.specs.Marks.{IsRewritten, marking}
use Rattle.step_ends.proofs.Rewrites.{length_put, still_chooses, still_rows}

-- a stack under way goes back to where it could go back to before
open_back : (st : Stack) (x : Status) (past : Past) → x ≡ InProgress
    → back_after (record st { status = x }) past ≡ past.back
open_back st x past is = subst (λ (y : Status). back_after (record st { status = y }) past ≡ past.back) (sym is) refl

module _ (s : StateData) (e : ℕ) (q : Row) (st : Stack) (w : IsRewritten s.rows q) where
  abbrev after : StateData
  after = applied (marking e q st) s

  pub due_after : IsDue s st → IsDue after st
  due_after k = record {
    forward = k.forward;
    asked = k.asked;
    room = subst (λ (n : ℕ). n + length (plan_back s (record st { status = Failed })).items ≤ row_limit)
        (sym (length_put q s.rows w.old w.found)) k.room;
  }

  pub due_before : IsDue after st → IsDue s st
  due_before k = record {
    forward = k.forward;
    asked = k.asked;
    room = subst (λ (n : ℕ). n + length (plan_back s (record st { status = Failed })).items ≤ row_limit)
        (length_put q s.rows w.old w.found) k.room;
  }

  -- where the stack goes back to, and what its rollback sets
  abbrev back : PlanData
  back = plan_of (past_of s st.name).back

  abbrev sets : PlanData → Sets
  sets plan = record {
    actor = Engine e;
    no_ = st.no;
    act = Rollback;
    plan = Some plan;
    past = record { stack = st.name; rollback = false; back = (past_of s st.name).back };
    stacks = 0;
  }

  -- what is laid is the same before the mark and behind it
  settles_same : (nodes : List Node)
      → settles_at_once nodes s st.name (sets back) ≡ settles_at_once nodes after st.name (sets back)
  settles_same [] = refl
  settles_same (node ∷ nodes) = refl

  marks_same : (nodes : List Node) → settled_mark nodes s st.name
      (sets back) ≡ settled_mark nodes after st.name (sets back)
  marks_same [] = refl
  marks_same (node ∷ nodes) = refl

  follows_back : (cs : List Change) (es : List Entry) (lays : Lays s st.name back.items)
      → cs ≡ laid_changes s st.name back.items (sets back) lays
      → es ≡ laid_entries s st.name back.items (sets back) lays → FollowsFailure after e st cs es
  follows_back cs es lays c d =
      let (standing, briefs) = still_rows s.rows q w st.name lays.standing lays.standing_are in
      record {
        failed = record st { status = Failed };
        is = stack_here (record st { status = Failed }) s.stacks;
        its_name = refl;
        lays = record {
          chosen = lays.chosen;
          rows = lays.rows;
          chooses = still_chooses s after q w refl st.name s.next.trav s.next.row back.items lays.chosen
              lays.rows lays.chooses;
          standing = _;
          standing_are = standing;
          graph = lays.graph;
          built = subst (λ (l : List RowBrief). IsBuilt back.items lays.chosen l lays.graph) (sym briefs) lays.built;
          leaves = lays.leaves;
          leaves_are = lays.leaves_are;
        };
        changes = c ∙ ap (λ (mark : List Change).
            change.Numbers (past_command s.next 0 (length lays.rows) (length lays.leaves))
            ∷ change.PutStack (stack_set s st.name (sets back) InProgress)
            ∷ change.PutPast (sets back).past
            ∷ (map change.PutRow lays.rows
            ++ (change.PutGraph st.name lays.graph
            ∷ (map change.Send (first_letters s st.name back.items (sets back) lays) ++ mark))))
            (settles_same lays.graph.nodes);
        entries = d ∙ ap (λ (mark : List Entry).
            entry_of (Engine e) (what.Command st.name s.next.trav Rollback (Some back) false)
            ∷ (rows_entry (Engine e) (map Set lays.rows)
            ++ (mail_entry (Engine e) (map Sent (first_letters s st.name back.items
            (sets back) lays)) ++ mark))) (marks_same lays.graph.nodes);
      }

  pub follows_after : stack_at s.stacks st.name ≡ Some st → st.status ≡ InProgress
      → (cs : List Change) (es : List Entry)
      → FollowsFailure s e st cs es → FollowsFailure after e st cs es
  follows_after found running cs es k = subst Follows (sym
      (same_some k.failed st k.is found)) of_stack k.lays k.changes k.entries
    where
      Follows : Stack → Type 0
      Follows x = (lays : Lays s x.name (plan_back s x).items)
          → cs ≡ laid_changes s x.name (plan_back s x).items (rollback_sets s x (Engine e)) lays
          → es ≡ laid_entries s x.name (plan_back s x).items (rollback_sets s x (Engine e)) lays
          → FollowsFailure after e st cs es

      same : plan_back s st ≡ back
      same = ap plan_of (open_back st st.status (past_of s st.name) running)

      of_stack : Follows st
      of_stack = subst (λ (p : PlanData). (lays : Lays s st.name p.items)
          → cs ≡ laid_changes s st.name p.items (sets p) lays
          → es ≡ laid_entries s st.name p.items (sets p) lays
          → FollowsFailure after e st cs es) (sym same) (follows_back cs es)
