-- The rows of all stacks fit after each move.
use Rattle.std.proofs.Common.{◌≡◌, inl, inr, ℕ, List, [], ◌∷◌, ◌++◌, Option, Some, None, refl, sym, ap, ◌∙◌, subst}
use Rattle.std.specs.Prelude.{unwrap_or}
use Rattle.heat_plan.specs.declared.phase.Status.TheVariants.{Failed}
use Rattle.row_table.specs.Rows.{put_row, row_at}
use Rattle.row_table.specs.declared.row.Row.{Row}
use Rattle.mail_table.specs.Mails.{job_at}
use Rattle.mail_table.specs.declared.mail.Job.{Job}
use Rattle.mail_table.specs.declared.mail.Letter.{Letter}
use Rattle.mail_table.specs.declared.mail.Stage.{Stage}
use Rattle.mail_table.specs.declared.mail.Stage.TheVariants.{Asking, Ending, Polling}
use Rattle.core_state.specs.Changes.{applied, apply}
use Rattle.core_state.specs.State.{StateData, graph_at, stack_at}
use Rattle.core_state.specs.declared.change.Change.{Change}
use Rattle.core_state.specs.declared.change.Change.TheVariants.{Drop, DropRow, EndJob, PutJob, PutRow}
use Rattle.core_state.specs.declared.entry.Entry.{Entry}
use Rattle.core_state.specs.declared.stack.Stack.{Stack}
use Rattle.step_relation.specs.Asks.{Falls, failed_changes, marked, marks, overrun}
use Rattle.step_relation.specs.Begins.{left_changes}
use Rattle.step_relation.specs.Given.{Given}
use Rattle.step_relation.specs.Moves.{Move, ask_begun, ask_failed, begin_failed, begin_faulted, begin_in_place}
use Rattle.step_relation.specs.Moves.{begin_init, begin_overrun, begin_replaced, begin_resumed, begin_same}
use Rattle.step_relation.specs.Moves.{clean_deleted, clean_gone, clean_init, clean_kept, clean_retained, clean_stuck}
use Rattle.step_relation.specs.Moves.{finish, finish_last, finish_overrun, poll_failed, poll_gone, poll_ready}
use Rattle.step_relation.specs.Moves.{poll_waits, take_dropped, take_free, take_stolen, takeover_fresh}
use Rattle.step_relation.specs.Moves.{takeover_overrun}
use Rattle.step_relation.specs.Rows.{failed_row, locked}
use Rattle.step_relation.specs.Runs.{IsTied, Judges}
use Rattle.step_relation.specs.Takes.{relayed_letter, released_changes}
use Rattle.step_relation.specs.Writes.{lock, mark_failed, unlock, with_stage}
use Rattle.step_relation.specs.GraphFits.{graph_of}
use Rattle.step_relation.specs.Groups.{KeptByMoves}
use Rattle.step_relation.specs.MailFits.{IsUnderWay, asks, polls}
use Rattle.step_relation.specs.RowsFit.{RowsFit}
use Rattle.step_relation.specs.Sound.{Standing}
use Rattle.graph_laws.proofs.fits.Finish.{own_finished, own_last}
use Rattle.graph_laws.proofs.fits.Moves.{IsQuiet, at_named, own_quiet, put_begun, put_deleted, put_replaced, quiet_three}
use Rattle.graph_laws.proofs.fits.Moves.{row_kept, row_on, row_unlocked, rows_same}
use Rattle.graph_laws.proofs.fits.Own.{fit_by_own}
use Rattle.graph_laws.proofs.fits.Rewrites.{FitKinds, kinds_cut}
use Rattle.graph_laws.specs.fits.Laws.{AllRowsFit}
use Rattle.graph_laws.proofs.marks.Below.{moves_on_one}
use Rattle.graph_laws.specs.marks.Below.{stack_of}
use Rattle.traversal_graph.specs.declared.shape.Node.TheVariants.{C, U}
use Rattle.graph_laws.proofs.graphs.Kept.{SameStacks, stacks_marked, stacks_same}
use Rattle.graph_laws.proofs.graphs.Known.{never_again, tied_props}
use Rattle.graph_laws.proofs.graphs.Moves.{graphs_moved}
use Rattle.graph_laws.proofs.graphs.Shapes.{create_is_kept, update_is_kept}
use Rattle.graph_laws.specs.graphs.Laws.{GraphsFit}
use Rattle.graph_laws.proofs.marks.Fails.{failed_three}
use Rattle.graph_laws.proofs.marks.Jobs.{under_way}
use Rattle.graph_laws.proofs.marks.Own.{released_three}

-- nothing but letters and jobs
quiet_mail : (s : StateData) → Standing s → (own : List ℕ) → (t : StateData) → t.stacks ≡ s.stacks
    → t.graphs ≡ s.graphs → t.rows ≡ s.rows → IsQuiet s t own
quiet_mail s S own t stacks graphs rows = record {
  stacks = subst (λ x. SameStacks s.stacks x) (sym stacks) (stacks_same s.stacks);
  graphs = ap (λ x. graph_at x own) graphs;
  rows = λ st at. subst (λ x. FitKinds st (graph_of s own) s.rows x) (sym rows) (rows_same s S own st at);
}

quiet_locked : (s : StateData) → Standing s → (own : List ℕ) (e n : ℕ) (r : Option Row) (l : ℕ) (j : Job)
    → row_at s.rows n ≡ r
    → IsQuiet s (applied (lock r e (Drop l ∷ PutJob j ∷ [])) s) own
quiet_locked s S own e n None l j at = quiet_mail s S own _ refl refl refl
quiet_locked s S own e n (Some r) l j at = record {
  stacks = stacks_same s.stacks;
  graphs = refl;
  rows = λ st at_st. row_kept s S own st at_st n r (locked e r) at
      (record {
        no_ = refl;
        stack = refl;
        name = refl;
        act = refl;
        status = refl;
        trav = refl;
        replaced_by =
            refl;
        kind = refl;
        props = refl;
      });
}

quiet_stolen : (s : StateData) → Standing s → (own : List ℕ) (e n f : ℕ) (r : Option Row) (l : ℕ) (j : Job)
    → row_at s.rows n ≡ r
    → IsQuiet s (applied (lock r e (Drop l ∷ EndJob f ∷ PutJob j ∷ [])) s) own
quiet_stolen s S own e n f None l j at = quiet_mail s S own _ refl refl refl
quiet_stolen s S own e n f (Some r) l j at = record {
  stacks = stacks_same s.stacks;
  graphs = refl;
  rows = λ st at_st. row_kept s S own st at_st n r (locked e r) at
      (record {
        no_ = refl;
        stack = refl;
        name = refl;
        act = refl;
        status = refl;
        trav = refl;
        replaced_by =
            refl;
        kind = refl;
        props = refl;
      });
}

quiet_unlocked : (s : StateData) → Standing s → (own : List ℕ) (n : ℕ) (r : Option Row) → row_at s.rows n ≡ r
    → IsQuiet s (applied (unlock r []) s) own
quiet_unlocked s S own n None at = quiet_mail s S own _ refl refl refl
quiet_unlocked s S own n (Some r) at = record {
  stacks = stacks_same s.stacks;
  graphs = refl;
  rows = λ st at_st. row_unlocked s S own st at_st n (Some r) at;
}

quiet_released : (s : StateData) → Standing s → (own : List ℕ) (f n : ℕ) (r : Option Row) (ls : List Letter)
    → row_at s.rows n ≡ r
    → IsQuiet s (applied (released_changes s f r ls) s) own
quiet_released s S own f n r ls at = quiet_three s (applied (unlock r []) s) _ own (released_three s f r ls)
    (quiet_unlocked s S own n r at)

-- a row is written, and the job goes on
quiet_put : (s : StateData) (own : List ℕ) (j : Job) (stage : Stage) (q : Row)
    → ((st : Stack) → stack_at s.stacks own ≡ Some st → FitKinds st (graph_of s own) s.rows (put_row q s.rows))
    → IsQuiet s (applied (PutRow q ∷ PutJob (with_stage stage j) ∷ []) s) own
quiet_put s own j stage q rows = record { stacks = stacks_same s.stacks; graphs = refl; rows = rows }

quiet_purged : (s : StateData) (own : List ℕ) (j : Job) (stage : Stage) (c : ℕ) → IsQuiet s
    (applied (DropRow c ∷ PutJob (with_stage stage j) ∷ []) s) own
quiet_purged s own j stage c = record {
  stacks = stacks_same s.stacks;
  graphs = refl;
  rows =
      λ st at_st. kinds_cut st (graph_of s own) s.rows c;
}

quiet_left : (s : StateData) → Standing s → (own : List ℕ) (e n : ℕ) (r : Row) → row_at s.rows n ≡ Some r
    → IsQuiet s (applied (left_changes e r) s) own
quiet_left s S own e n r at = record {
  stacks = stacks_same s.stacks;
  graphs = refl;
  rows =
      λ st at_st. row_unlocked s S own st at_st n (Some r) at;
}

-- a failure, with the mark that it may bring
quiet_faulted : (s : StateData) → Standing s → (e : ℕ) (j : Job) (r : Row) → row_at s.rows j.row ≡ Some r →
    (failed : Option Stack) → Falls s j [] failed
    → IsQuiet s (applied (left_changes e r ++ mark_failed failed) s) j.letter.stack
quiet_faulted s S e j r at _ (overrun _ old resends) = quiet_left s S j.letter.stack e j.row r at
quiet_faulted s S e j r at _ (marked k other) = quiet_left s S j.letter.stack e j.row r at
quiet_faulted s S e j r at _ (marks k is) = record {
  stacks = stacks_marked s.stacks j.letter.stack k.stack Failed k.names.in_table;
  graphs = refl;
  rows = λ st at_st. row_unlocked s S j.letter.stack st at_st j.row (Some r) at;
}

module _ (s : StateData) (S : Standing s) (e : ℕ) (j : Job) (its : job_at s.jobs e ≡ Some j)
    (stage : IsUnderWay j.stage) (r : Row) (at : row_at s.rows j.row ≡ Some r) where
  rows_failed : (st : Stack) → stack_at s.stacks j.letter.stack ≡ Some st → FitKinds st
      (graph_of s j.letter.stack) s.rows (put_row (failed_row r) s.rows)
  rows_failed st at_st = row_on s S j.letter.stack st at_st j.row r (failed_row r) at
      (under_way s S e j r its stage at).0 refl refl refl refl refl refl refl refl

  quiet_none : (letters : List Letter) → IsQuiet s (applied (failed_changes s e r letters None) s) j.letter.stack
  quiet_none letters = quiet_three s (apply (PutRow (failed_row r)) s) _ j.letter.stack (failed_three s e r letters)
      (record { stacks = stacks_same s.stacks; graphs = refl; rows = rows_failed })

  quiet_failed : (letters : List Letter) (failed : Option Stack) → Falls s j letters failed → IsQuiet s
      (applied (failed_changes s e r letters failed) s) j.letter.stack
  quiet_failed _ _ (overrun letters old resends) = quiet_none letters
  quiet_failed _ _ (marked k other) = quiet_none []
  quiet_failed _ _ (marks k is) = record {
    stacks = stacks_marked s.stacks j.letter.stack k.stack Failed k.names.in_table;
    graphs = refl;
    rows = rows_failed;
  }

at_stage : (a b : Stage) → a ≡ b → IsUnderWay b → IsUnderWay a
at_stage a b is under = subst IsUnderWay (sym is) under

state_is : (s : StateData) (cs ds : List Change) → cs ≡ ds → applied cs s ≡ applied ds s
state_is s cs ds is = ap (λ (xs : List Change). applied xs s) is

own_rows : (judges : Judges) (s : StateData) (e : ℕ) (given : Given) (failed : Option Stack) (cs : List Change)
    (es : List Entry) → Standing s
    → (move : Move s e given failed cs es) → IsTied judges s e given → GraphsFit (applied cs s) → (st : Stack)
    → stack_at (applied cs s).stacks (stack_of s e given failed cs es move) ≡ Some st
    → RowsFit (applied cs s) st (graph_of (applied cs s) (stack_of s e given failed cs es move))
own_rows judges s e given failed cs es S (take_dropped l _ _ next idle is _) tied G =
    own_quiet s S (applied cs s) G l.stack (subst (λ (xs : List Change). IsQuiet s (applied xs s) l.stack) (sym is)
    (quiet_mail s S l.stack _ refl refl refl))
own_rows judges s e given failed cs es S (take_free k _ _ free is _) tied G =
    own_quiet s S (applied cs s) G k.letter.stack (subst
    (λ (xs : List Change). IsQuiet s (applied xs s) k.letter.stack) (sym is)
    (quiet_locked s S k.letter.stack e k.meant.target k.meant.fresh.row _ _ k.meant.fresh.found))
own_rows judges s e given failed cs es S (take_stolen k f j _ _ holder stopped is _) tied G =
    own_quiet s S (applied cs s) G k.letter.stack (subst
    (λ (xs : List Change). IsQuiet s (applied xs s) k.letter.stack) (sym is)
    (quiet_stolen s S k.letter.stack e k.meant.target f k.meant.fresh.row _ _ k.meant.fresh.found))
own_rows judges s e given failed cs es S (begin_overrun j _ _ works k is _) tied G =
    own_quiet s S (applied cs s) G j.letter.stack (subst
    (λ (xs : List Change). IsQuiet s (applied xs s) j.letter.stack) (sym is)
    (quiet_released s S j.letter.stack e j.row k.row k.letters k.found))
own_rows judges s e given failed cs es S (begin_faulted k code path mark _ _ falls is _) tied G =
    own_quiet s S (applied cs s) G k.job.letter.stack (subst
    (λ (xs : List Change). IsQuiet s (applied xs s) k.job.letter.stack) (sym is)
    (quiet_faulted s S e k.job k.row k.found mark falls))
own_rows judges s e given failed cs es S (begin_init k props effect _ _ init is _) tied G =
    own_quiet s S (applied cs s) G k.job.letter.stack (subst
    (λ (xs : List Change). IsQuiet s (applied xs s) k.job.letter.stack) (sym is)
    (quiet_put s k.job.letter.stack k.job Asking _
    (at_named s k.job.letter k.stack k.graph (U k.name k.chosen) k.names _
    (put_begun s S e k props (tied_props judges s e k props effect tied) _ refl refl refl
    (ap (λ o. unwrap_or o props) ((S.shape.each_row k.job.row k.row k.found).plain
    (inl init))) create_is_kept refl))))
own_rows judges s e given failed cs es S (begin_same k props effect _ _ act complete alike is _) tied G =
    own_quiet s S (applied cs s) G k.job.letter.stack (subst
    (λ (xs : List Change). IsQuiet s (applied xs s) k.job.letter.stack) (sym is)
    (quiet_put s k.job.letter.stack k.job Ending _
    (at_named s k.job.letter k.stack k.graph (U k.name k.chosen) k.names _
    (put_begun s S e k props (tied_props judges s e k props effect tied) _ refl refl alike.kind
    (ap (λ o. unwrap_or o k.row.props) ((S.shape.each_row k.job.row k.row k.found).plain
    (inr (inr complete))) ∙ alike.props_are) k.kept refl))))
own_rows judges s e given failed cs es S (begin_in_place k props effect _ _ act complete soft is _) tied G =
    own_quiet s S (applied cs s) G k.job.letter.stack (subst
    (λ (xs : List Change). IsQuiet s (applied xs s) k.job.letter.stack) (sym is)
    (quiet_put s k.job.letter.stack k.job Asking _
    (at_named s k.job.letter k.stack k.graph (U k.name k.chosen) k.names _
    (put_begun s S e k props (tied_props judges s e k props effect tied) _ refl refl soft.kind refl
    update_is_kept refl))))
own_rows judges s e given failed cs es S (begin_resumed k props effect _ _ act status newest is _) tied G =
    own_quiet s S (applied cs s) G k.job.letter.stack (subst
    (λ (xs : List Change). IsQuiet s (applied xs s) k.job.letter.stack) (sym is)
    (quiet_mail s S k.job.letter.stack _ refl refl refl))
own_rows judges s e given failed cs es S (begin_failed k props effect _ _ act status newest is _) tied G =
    own_quiet s S (applied cs s) G k.job.letter.stack (subst
    (λ (xs : List Change). IsQuiet s (applied xs s) k.job.letter.stack) (sym is)
    (quiet_left s S k.job.letter.stack e k.job.row k.row k.found))
own_rows judges s e given failed cs es S (begin_replaced k props effect _ _ act go is _) tied G =
    own_quiet s S (applied cs s) G k.job.letter.stack (subst
    (λ (xs : List Change). IsQuiet s (applied xs s) k.job.letter.stack) (sym is)
    (record {
      stacks = stacks_same s.stacks;
      graphs = refl;
      rows = at_named s k.job.letter k.stack k.graph
          (U k.name k.chosen) k.names _
          (put_replaced s S e k props (tied_props judges s e k props effect tied)
          (never_again judges s S e k props effect tied act go));
    }))
own_rows judges s e given failed cs es S (clean_gone k _ _ none is _) tied G =
    own_quiet s S (applied cs s) G k.job.letter.stack (subst
    (λ (xs : List Change). IsQuiet s (applied xs s) k.job.letter.stack) (sym is)
    (quiet_mail s S k.job.letter.stack _ refl refl refl))
own_rows judges s e given failed cs es S (clean_kept k r _ _ found kept is _) tied G =
    own_quiet s S (applied cs s) G k.job.letter.stack (subst
    (λ (xs : List Change). IsQuiet s (applied xs s) k.job.letter.stack) (sym is)
    (quiet_mail s S k.job.letter.stack _ refl refl refl))
own_rows judges s e given failed cs es S (clean_init k r _ _ found unkept init is _) tied G =
    own_quiet s S (applied cs s) G k.job.letter.stack (subst
    (λ (xs : List Change). IsQuiet s (applied xs s) k.job.letter.stack) (sym is)
    (quiet_purged s k.job.letter.stack k.job Ending r.no))
own_rows judges s e given failed cs es S (clean_stuck k r _ _ found unkept stuck is _) tied G =
    own_quiet s S (applied cs s) G k.job.letter.stack (subst
    (λ (xs : List Change). IsQuiet s (applied xs s) k.job.letter.stack) (sym is)
    (quiet_left s S k.job.letter.stack e k.job.row r found))
own_rows judges s e given failed cs es S (clean_retained k r _ _ found unkept act unstuck retained is _) tied G =
    own_quiet s S (applied cs s) G k.job.letter.stack (subst
    (λ (xs : List Change). IsQuiet s (applied xs s) k.job.letter.stack) (sym is) (let c =
    quiet_purged s k.job.letter.stack k.job Ending r.no in record
    { stacks = c.stacks; graphs = c.graphs; rows = c.rows }))
own_rows judges s e given failed cs es S (clean_deleted k r _ _ found unkept act unstuck differs is _) tied G =
    own_quiet s S (applied cs s) G k.job.letter.stack (subst
    (λ (xs : List Change). IsQuiet s (applied xs s) k.job.letter.stack) (sym is)
    (quiet_put s k.job.letter.stack k.job Asking _
    (at_named s k.job.letter k.stack k.graph (C k.number) k.names _ (put_deleted s S e k r found))))
own_rows judges s e given failed cs es S (ask_begun k asked _ _ calls is _) tied G =
    own_quiet s S (applied cs s) G k.job.letter.stack (subst
    (λ (xs : List Change). IsQuiet s (applied xs s) k.job.letter.stack) (sym is)
    (quiet_mail s S k.job.letter.stack _ refl refl refl))
own_rows judges s e given failed cs es S
    (ask_failed k asked answer reason letters mark _ _ calls refuses falls is _) tied G =
    own_quiet s S (applied cs s) G k.job.letter.stack (subst
    (λ (xs : List Change). IsQuiet s (applied xs s) k.job.letter.stack) (sym is)
    (quiet_failed s S e k.job k.works.its
    (at_stage k.job.stage Asking k.works.stage_is asks) k.row k.found letters mark falls))
own_rows judges s e given failed cs es S (poll_waits k asked _ _ calls is _) tied G =
    own_quiet s S (applied cs s) G k.job.letter.stack (subst
    (λ (xs : List Change). IsQuiet s (applied xs s) k.job.letter.stack) (sym is)
    (quiet_mail s S k.job.letter.stack _ refl refl refl))
own_rows judges s e given failed cs es S (poll_ready k facts _ _ act is _) tied G =
    own_quiet s S (applied cs s) G k.job.letter.stack (subst
    (λ (xs : List Change). IsQuiet s (applied xs s) k.job.letter.stack) (sym is)
    (quiet_put s k.job.letter.stack k.job Ending _
    (λ st at_st. row_on s S k.job.letter.stack st at_st k.job.row k.row _ k.found
    (under_way s S e k.job k.row k.works.its (at_stage k.job.stage Polling k.works.stage_is polls) k.found).0 refl refl
    refl refl refl refl refl refl)))
own_rows judges s e given failed cs es S (poll_gone k _ _ act is _) tied G =
    own_quiet s S (applied cs s) G k.job.letter.stack (subst
    (λ (xs : List Change). IsQuiet s (applied xs s) k.job.letter.stack) (sym is)
    (quiet_purged s k.job.letter.stack k.job Ending k.row.no))
own_rows judges s e given failed cs es S
    (poll_failed k asked answer reason letters mark _ _ calls refuses falls is _) tied G =
    own_quiet s S (applied cs s) G k.job.letter.stack (subst
    (λ (xs : List Change). IsQuiet s (applied xs s) k.job.letter.stack) (sym is)
    (quiet_failed s S e k.job k.works.its
    (at_stage k.job.stage Polling k.works.stage_is polls) k.row k.found letters mark falls))
own_rows judges s e given failed cs es S (finish_overrun j _ _ works k is _) tied G =
    own_quiet s S (applied cs s) G j.letter.stack (subst
    (λ (xs : List Change). IsQuiet s (applied xs s) j.letter.stack) (sym is)
    (quiet_released s S j.letter.stack e j.row k.row k.letters k.found))
own_rows judges s e given failed cs es S (finish k _ _ unsettled is _) tied G =
    own_finished s S e k (applied cs s) (state_is s cs _ is) G
own_rows judges s e given failed cs es S (finish_last k _ _ settles is _) tied G =
    own_last s S e k (applied cs s) (state_is s cs _ is) G
own_rows judges s e given failed cs es S (takeover_overrun f j _ _ next k is _) tied G =
    own_quiet s S (applied cs s) G j.letter.stack (subst
    (λ (xs : List Change). IsQuiet s (applied xs s) j.letter.stack) (sym is)
    (quiet_released s S j.letter.stack f j.row k.row k.letters k.found))
own_rows judges s e given failed cs es S (takeover_fresh f k _ _ is _) tied G =
    own_quiet s S (applied cs s) G k.job.letter.stack (subst
    (λ (xs : List Change). IsQuiet s (applied xs s) k.job.letter.stack) (sym is)
    (quiet_released s S k.job.letter.stack f k.job.row k.fresh.row (relayed_letter s e f k ∷ []) k.fresh.found))

pub fit_by_moves : KeptByMoves AllRowsFit
fit_by_moves judges s e given failed cs es S move tied =
    fit_by_own s S (applied cs s) (stack_of s e given failed cs es move) (moves_on_one s e given failed cs es S move)
    (own_rows judges s e given failed cs es S move tied (graphs_moved judges s e given failed cs es S move tied))
