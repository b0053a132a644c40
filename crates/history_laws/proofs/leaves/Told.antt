-- What moves and commands tell is of their own stack.
use Rattle.std.proofs.Common.{◌≡◌, ◌≢◌, ℕ, List, [], ◌∷◌, ◌++◌, map, Option, Some, None, refl, sym, ◌∙◌, subst}
use Rattle.heat_plan.specs.declared.item.Item.{Item}
use Rattle.traversal_graph.specs.declared.shape.Node.{Node}
use Rattle.row_table.specs.Rows.{row_at}
use Rattle.row_table.specs.declared.row.Row.{Row}
use Rattle.mail_table.specs.Mails.{job_at}
use Rattle.mail_table.specs.declared.mail.Job.{Job}
use Rattle.mail_table.specs.declared.mail.Letter.{Letter}
use Rattle.step_relation.specs.State.{StateData}
use Rattle.step_relation.specs.declared.Change.{Change}
use Rattle.step_relation.specs.declared.Actor.{Actor}
use Rattle.step_relation.specs.declared.Actor.TheVariants.{Engine}
use Rattle.step_relation.specs.declared.Cause.{Cause}
use Rattle.step_relation.specs.declared.Entry.{Entry}
use Rattle.step_relation.specs.declared.MailWrite.{MailWrite}
use Rattle.step_relation.specs.declared.MailWrite.TheVariants.{Ended, Sent}
use Rattle.step_relation.specs.declared.RowWrite.{RowWrite}
use Rattle.step_relation.specs.declared.RowWrite.TheVariants.{Set}
use Rattle.step_relation.specs.declared.Why.{Why}
use Rattle.step_relation.specs.declared.Stack.{Stack}
use Rattle.step_relation.specs.Asks.{Falls, cause_at, failed_entries, fault_of}
use Rattle.step_relation.specs.Commands.{Lays, Sets, first_letters, laid_entries, settled_mark}
use Rattle.step_relation.specs.Finishes.{ready_letters}
use Rattle.step_relation.specs.Given.{Given}
use Rattle.step_relation.specs.Moves.{Move, ask_begun, ask_failed, begin_failed, begin_faulted, begin_in_place}
use Rattle.step_relation.specs.Moves.{begin_init, begin_overrun, begin_replaced, begin_resumed, begin_same}
use Rattle.step_relation.specs.Moves.{clean_deleted, clean_gone, clean_init, clean_kept, clean_retained, clean_stuck}
use Rattle.step_relation.specs.Moves.{finish, finish_last, finish_overrun, poll_failed, poll_gone, poll_ready}
use Rattle.step_relation.specs.Moves.{poll_waits, take_dropped, take_free, take_stolen, takeover_fresh}
use Rattle.step_relation.specs.Moves.{takeover_overrun}
use Rattle.step_relation.specs.Writes.{failed_mark, lock_writes, mail_entry, rows_entry, unlock_writes}
use Rattle.step_relation.specs.Sound.{Standing}
use Rattle.history_laws.proofs.frames.OnOne.{falls_own}
use Rattle.history_laws.proofs.frames.Pieces.{MarksOwn}
use Rattle.history_laws.specs.frames.Laws.{stack_of}
use Rattle.history_laws.proofs.leaves.Apart.{AreApart, IsApart}
use Rattle.history_laws.proofs.tables.Facts.{job_row_stack}
use Rattle.history_laws.proofs.tables.Puts.{all_append}
use Rattle.history_laws.proofs.tables.Rows.{stack-key}

both : (name : List ℕ) (es fs : List Entry) → AreApart name es → AreApart name fs → AreApart name (es ++ fs)
both name es fs one two = record { all = all_append (λ (e : Entry). IsApart name e.what) es fs one.all two.all }

rows_apart : (name : List ℕ) (actor : Actor) (ws : List RowWrite) → AreApart name (rows_entry actor ws)
rows_apart name actor [] = record { all = tt }
rows_apart name actor (w ∷ ws) = record { all = (tt, tt) }

mail_apart : (name : List ℕ) (actor : Actor) (ws : List MailWrite) → AreApart name (mail_entry actor ws)
mail_apart name actor [] = record { all = tt }
mail_apart name actor (w ∷ ws) = record { all = (tt, tt) }

mark_apart : (name own : List ℕ) (actor : Actor) (failed : Option Stack) (cause : Cause) → own ≢ name
    → MarksOwn own failed
    → AreApart name (failed_mark actor failed cause)
mark_apart name own actor None cause ne is = record { all = tt }
mark_apart name own actor (Some st) cause ne is = record { all = (λ eq. ne (sym (is st refl) ∙ eq), tt) }

-- what is written to rows, and then to letters and jobs, and a mark behind
behind_rows : (name : List ℕ) (actor : Actor) (ws : List RowWrite) (m : MailWrite) (ms : List MailWrite)
    (marks : List Entry) → AreApart name marks
    → AreApart name (rows_entry actor ws ++ (mail_entry actor (m ∷ ms) ++ marks))
behind_rows name actor ws m ms marks apart =
    both name (rows_entry actor ws) (mail_entry actor (m ∷ ms) ++ marks) (rows_apart name actor ws)
    (record { all = (tt, apart.all) })

written : (name : List ℕ) (actor : Actor) (ws : List RowWrite) (m : MailWrite) (ms : List MailWrite)
    → AreApart name (rows_entry actor ws ++ mail_entry actor (m ∷ ms))
written name actor ws m ms = both name (rows_entry actor ws) (mail_entry actor (m ∷ ms)) (rows_apart name actor ws)
    (record { all = (tt, tt) })

module _ (s : StateData) (S : Standing s) (e : ℕ) (j : Job) (its : job_at s.jobs e ≡ Some j) (name : List ℕ)
    (ne : j.letter.stack ≢ name) where
  row_apart : (r : Row) → row_at s.rows j.row ≡ Some r → r.stack ≢ name
  row_apart r at eq = ne (sym (job_row_stack s S.links e j r its at) ∙ eq)

  fell : (r : Row) (letters : List Letter) (failed : Option Stack) (reason : Why) → Falls s j letters failed
      → AreApart name (failed_entries e r letters failed reason)
  fell r letters failed reason falls =
      record {
        all = (
          tt,
          (
            tt,
            (mark_apart name j.letter.stack (Engine e) failed (cause_at r reason) ne
                (falls_own s S e j its letters failed falls)).all,
          ),
        );
      }

by_entries : (name : List ℕ) (es fs : List Entry) → es ≡ fs → AreApart name fs → AreApart name es
by_entries name es fs is apart = subst (AreApart name) (sym is) apart

pub move_apart : (s : StateData) (e : ℕ) (given : Given) (failed : Option Stack) (cs : List Change) (es : List Entry)
    → Standing s
    → (move : Move s e given failed cs es) → (name : List ℕ) → stack_of s e given failed cs es move ≢ name
    → AreApart name es
move_apart s e given failed cs es S (take_dropped l _ _ next idle _ made) name ne =
    by_entries name es _ made (record { all = (tt, tt) })
move_apart s e given failed cs es S (take_free k _ _ free _ made) name ne =
    by_entries name es _ made (written name (Engine e) (lock_writes k.meant.fresh.row e) _ _)
move_apart s e given failed cs es S (take_stolen k f j _ _ holder stopped _ made) name ne =
    by_entries name es _ made (written name (Engine e) (lock_writes k.meant.fresh.row e) _ _)
move_apart s e given failed cs es S (begin_overrun j _ _ works k _ made) name ne =
    by_entries name es _ made (written name (Engine e) (unlock_writes k.row) _ _)
move_apart s e given failed cs es S (begin_faulted k code path mark _ _ falls _ made) name ne =
    by_entries name es _ made (record {
      all = (
        tt,
        (
          tt,
          (mark_apart name k.job.letter.stack (Engine e) mark (fault_of k.item.name k.row.no code path) ne
              (falls_own s S e k.job k.works.its [] mark falls)).all,
        ),
      );
    })
move_apart s e given failed cs es S (begin_init k props effect _ _ init _ made) name ne =
    by_entries name es _ made (record { all = (tt, (tt, tt)) })
move_apart s e given failed cs es S (begin_same k props effect _ _ act complete same _ made) name ne =
    by_entries name es _ made (record { all = (tt, (tt, tt)) })
move_apart s e given failed cs es S (begin_in_place k props effect _ _ act complete soft _ made) name ne =
    by_entries name es _ made (record { all = (tt, (tt, tt)) })
move_apart s e given failed cs es S (begin_resumed k props effect _ _ act status newest _ made) name ne =
    by_entries name es _ made (record { all = (tt, tt) })
move_apart s e given failed cs es S (begin_failed k props effect _ _ act status newest _ made) name ne =
    by_entries name es _ made (record { all = (tt, (tt, tt)) })
move_apart s e given failed cs es S (begin_replaced k props effect _ _ act go _ made) name ne =
    by_entries name es _ made (record { all = (tt, (tt, tt)) })
move_apart s e given failed cs es S (clean_gone k _ _ gone _ made) name ne =
    by_entries name es _ made (record { all = (tt, tt) })
move_apart s e given failed cs es S (clean_kept k r _ _ found kept _ made) name ne =
    by_entries name es _ made (record { all = (tt, tt) })
move_apart s e given failed cs es S (clean_init k r _ _ found unkept init _ made) name ne =
    by_entries name es _ made (record { all = (tt, (tt, tt)) })
move_apart s e given failed cs es S (clean_stuck k r _ _ found unkept stuck _ made) name ne =
    by_entries name es _ made (record { all = (tt, (tt, tt)) })
move_apart s e given failed cs es S (clean_retained k r _ _ found unkept act unstuck retained _ made) name ne =
    by_entries name es _ made (record { all = (row_apart s S e k.job k.works.its name ne r found, (tt, (tt, tt))) })
move_apart s e given failed cs es S (clean_deleted k r _ _ found unkept act unstuck other _ made) name ne =
    by_entries name es _ made (record { all = (tt, (tt, tt)) })
move_apart s e given failed cs es S (ask_begun k asked _ _ asks _ made) name ne =
    by_entries name es _ made (record { all = (row_apart s S e k.job k.works.its name ne k.row k.found, (tt, tt)) })
move_apart s e given failed cs es S
    (ask_failed k asked answer reason letters mark _ _ asks refuses falls _ made) name ne =
    by_entries name es _ made (record {
      all = (
        row_apart s S e k.job k.works.its name ne k.row k.found,
        (fell s S e k.job k.works.its name ne k.row letters mark reason falls).all,
      );
    })
move_apart s e given failed cs es S (poll_waits k asked _ _ asks _ made) name ne =
    by_entries name es _ made (record { all = (row_apart s S e k.job k.works.its name ne k.row k.found, tt) })
move_apart s e given failed cs es S (poll_ready k facts _ _ act _ made) name ne =
    by_entries name es _ made
    (record { all = (row_apart s S e k.job k.works.its name ne k.row k.found, (tt, (tt, tt))) })
move_apart s e given failed cs es S (poll_gone k _ _ act _ made) name ne =
    by_entries name es _ made
    (record { all = (row_apart s S e k.job k.works.its name ne k.row k.found, (tt, (tt, tt))) })
move_apart s e given failed cs es S
    (poll_failed k asked answer reason letters mark _ _ asks refuses falls _ made) name ne =
    by_entries name es _ made (record {
      all = (
        row_apart s S e k.job k.works.its name ne k.row k.found,
        (fell s S e k.job k.works.its name ne k.row letters mark reason falls).all,
      );
    })
move_apart s e given failed cs es S (finish_overrun j _ _ works k _ made) name ne =
    by_entries name es _ made (written name (Engine e) (unlock_writes k.row) _ _)
move_apart s e given failed cs es S (finish k _ _ unsettled _ made) name ne =
    by_entries name es _ made (behind_rows name (Engine e) (unlock_writes k.fresh.row) (Ended e)
    (map Sent (ready_letters s e k)) [] (record { all = tt }))
move_apart s e given failed cs es S (finish_last k _ _ settles _ made) name ne =
    by_entries name es _ made
    (behind_rows name (Engine e) (unlock_writes k.fresh.row) (Ended e) (map Sent (ready_letters s e k)) _
    (record {
      all = (
        λ eq. ne
            (sym (stack-key s.stacks k.job.letter.stack k.fresh.stack k.fresh.names.in_table) ∙ eq),
        tt,
      );
    }))
move_apart s e given failed cs es S (takeover_overrun f j _ _ next k _ made) name ne =
    by_entries name es _ made (written name (Engine e) (unlock_writes k.row) _ _)
move_apart s e given failed cs es S (takeover_fresh f k _ _ _ made) name ne =
    by_entries name es _ made (written name (Engine e) (unlock_writes k.fresh.row) _ _)

settled_apart : (nodes : List Node) (s : StateData) (own : List ℕ) (it : Sets) (name : List ℕ) → own ≢ name
    → AreApart name (settled_mark nodes s own it)
settled_apart [] s own it name ne = record { all = (ne, tt) }
settled_apart (node ∷ nodes) s own it name ne = record { all = tt }

pub laid_apart : (s : StateData) (own : List ℕ) (items : List Item) (it : Sets) (k : Lays s own items) (name : List ℕ)
    → own ≢ name
    → AreApart name (laid_entries s own items it k)
laid_apart s own items it k name ne =
    let sent = map Sent (first_letters s own items it k) in
    let writes = both name (rows_entry it.actor (map Set k.rows))
    (mail_entry it.actor sent ++ settled_mark k.graph.nodes s own it) (rows_apart name it.actor (map Set k.rows))
    (both name (mail_entry it.actor sent) (settled_mark k.graph.nodes s own it) (mail_apart name it.actor sent)
    (settled_apart k.graph.nodes s own it name ne)) in
    record { all = (ne, writes.all) }

-- the stack that a move marks as failed is the one that it is on
pub failed_stack : (s : StateData) (e : ℕ) (given : Given) (st : Stack) (cs : List Change) (es : List Entry)
    → Standing s
    → (move : Move s e given (Some st) cs es) → st.name ≡ stack_of s e given (Some st) cs es move
failed_stack s e given st cs es S (begin_faulted k code path _ _ _ falls _ _) =
    falls_own s S e k.job k.works.its [] (Some st) falls st refl
failed_stack s e given st cs es S (ask_failed k asked answer reason letters _ _ _ asks refuses falls _ _) =
    falls_own s S e k.job k.works.its letters (Some st) falls st refl
failed_stack s e given st cs es S (poll_failed k asked answer reason letters _ _ _ asks refuses falls _ _) =
    falls_own s S e k.job k.works.its letters (Some st) falls st refl
