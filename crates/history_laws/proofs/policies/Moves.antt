-- A move's changes put no graph, and write only rows that were there, that are to be deleted, or that were begun.
use Rattle.std.proofs.Common.{inl, inr, List, refl, subst, sym}
use Rattle.std.specs.Prelude.{List, None, Option, Some, [], map, ℕ, ◌∷◌, ◌≡◌, ◌⊎◌}
use Rattle.heat_plan.specs.declared.phase.Act.{Act}
use Rattle.heat_plan.specs.declared.phase.Act.TheVariants.{Create, Delete, Init, Rollback, Update}
use Rattle.row_table.specs.Rows.{row_at}
use Rattle.row_table.specs.declared.row.Row.{Row}
use Rattle.mail_table.specs.declared.mail.Letter.{Letter}
use Rattle.step_relation.specs.State.{StateData}
use Rattle.step_relation.specs.declared.Change.{Change}
use Rattle.step_relation.specs.declared.Change.TheVariants.{PutPoint, Send}
use Rattle.step_relation.specs.declared.Entry.{Entry}
use Rattle.step_relation.specs.declared.Stack.{Stack}
use Rattle.step_relation.specs.Asks.{failed_changes}
use Rattle.step_relation.specs.Begins.{Begins}
use Rattle.step_relation.specs.Finishes.{Finishes, finished_changes, given_input, ready_letters}
use Rattle.step_relation.specs.Given.{Given}
use Rattle.step_relation.specs.Inputs.{passed_points}
use Rattle.step_relation.specs.Moves.{Move, ask_begun, ask_failed, begin_failed, begin_faulted, begin_in_place, begin_init}
use Rattle.step_relation.specs.Moves.{begin_overrun, begin_replaced, begin_resumed, begin_same, clean_deleted}
use Rattle.step_relation.specs.Moves.{clean_gone, clean_init, clean_kept, clean_retained, clean_stuck, finish}
use Rattle.step_relation.specs.Moves.{finish_last, finish_overrun, poll_failed, poll_gone, poll_ready, poll_waits}
use Rattle.step_relation.specs.Moves.{take_dropped, take_free, take_stolen, takeover_fresh, takeover_overrun}
use Rattle.step_relation.specs.Rows.{deleted_row, failed_row, locked, unlocked}
use Rattle.step_relation.specs.Takes.{relayed_letter, released_changes}
use Rattle.step_relation.specs.Writes.{lock, mark_complete, mark_failed, unlock}
use Rattle.history_laws.proofs.policies.Calm.{AreCalm, calm_both, calm_drawn, calm_mark_failed, calm_points, calm_sends}
use Rattle.history_laws.proofs.rows.Written.{EachIs}

-- what a row keeps of its last begin
pub record SameBegin (o a : Row) : Type 0 where
  pub no_ : a.no ≡ o.no
  pub stack : a.stack ≡ o.stack
  pub name : a.name ≡ o.name
  pub act : a.act ≡ o.act
  pub trav : a.trav ≡ o.trav
  pub policy : a.policy ≡ o.policy

-- a row is begun for the item of a node
pub record IsBegunFor (s : StateData) (e : ℕ) (k : Begins s e) (a : Row) : Type 0 where
  pub trav : a.trav ≡ k.stack.trav
  pub policy : a.policy ≡ k.item.policy
  pub its : ((a.stack ≡ k.row.stack) × (a.name ≡ k.row.name)) ⊎ ((a.stack ≡ k.stack.name) × (a.name ≡ k.item.name))

-- what holds of each row that stands, of what is made of it, and of each row that is begun
pub record Closes (s : StateData) (P : Row → Type 0) : Type 0 where
  pub old : EachIs P s.rows
  pub alike : (o a : Row) → SameBegin o a → P o → P a
  pub deleted : (r : Row) (trav : ℕ) → P (deleted_row r trav)
  pub begun : (e : ℕ) (k : Begins s e) (a : Row) → IsBegunFor s e k a → P a

module _ (s : StateData) (P : Row → Type 0) (c : Closes s P) where
  by_calm : (cs ds : List Change) → cs ≡ ds → AreCalm P ds → AreCalm P cs
  by_calm cs ds is calm = subst (AreCalm P) (sym is) calm

  like : (n : ℕ) (r a : Row) → row_at s.rows n ≡ Some r → SameBegin r a → P a
  like n r a at same = c.alike r a same (c.old n r at)

  unlocked_like : (n : ℕ) (r : Row) → row_at s.rows n ≡ Some r → P (unlocked r)
  unlocked_like n r at = like n r (unlocked r) at
      (record { no_ = refl; stack = refl; name = refl; act = refl; trav = refl; policy = refl })

  lock_calm : (e : ℕ) (row : Option Row) (n : ℕ) (rest : List Change) → row_at s.rows n ≡ row → AreCalm P rest
      → AreCalm P (lock row e rest)
  lock_calm e None n rest at calm = calm
  lock_calm e (Some r) n rest at calm = (
    like n r (locked e r) at (record { no_ = refl; stack = refl; name = refl; act = refl; trav = refl; policy = refl }),
    calm,
  )

  unlock_calm : (row : Option Row) (n : ℕ) (rest : List Change) → row_at s.rows n ≡ row → AreCalm P rest
      → AreCalm P (unlock row rest)
  unlock_calm None n rest at calm = calm
  unlock_calm (Some r) n rest at calm = (unlocked_like n r at, calm)

  released_calm : (f n : ℕ) (row : Option Row) (letters : List Letter) → row_at s.rows n ≡ row
      → AreCalm P (released_changes s f row letters)
  released_calm f n row letters at =
      calm_drawn P s.next letters _ (unlock_calm row n _ at (tt, calm_sends P letters))

  failed_calm : (e n : ℕ) (r : Row) (letters : List Letter) (failed : Option Stack) → row_at s.rows n ≡ Some r
      → AreCalm P (failed_changes s e r letters failed)
  failed_calm e n r letters failed at =
      calm_drawn P s.next letters _ (
        like n r (failed_row r) at
            (record { no_ = refl; stack = refl; name = refl; act = refl; trav = refl; policy = refl }),
        (
          tt,
          calm_both P (map Send letters) (mark_failed failed) (calm_sends P letters) (calm_mark_failed P failed),
        ),
      )

  finished_calm : (e : ℕ) (k : Finishes s e) (mark : List Change) → AreCalm P mark
      → AreCalm P (finished_changes s e k mark)
  finished_calm e k mark calm =
      calm_drawn P s.next (ready_letters s e k) _ (unlock_calm k.fresh.row k.job.row _ k.fresh.found (
        tt,
        calm_both P (map PutPoint (passed_points k.fresh.graph k.job.letter.node (given_input s e k) k.succs)) _
            (calm_points P (passed_points k.fresh.graph k.job.letter.node (given_input s e k) k.succs))
            (calm_both P (map Send (ready_letters s e k)) mark (calm_sends P (ready_letters s e k)) calm),
      ))

  complete_calm : (st : Stack) → AreCalm P (mark_complete st)
  complete_calm st = by st.act where
    by : (act : Act) → AreCalm P (mark_complete (record st { act = act }))
    by Init = (tt, tt)
    by Create = (tt, tt)
    by Update = (tt, tt)
    by Delete = (tt, tt)
    by Rollback = (tt, tt)

  pub move_calm : (e : ℕ) (given : Given) (failed : Option Stack) (cs : List Change) (es : List Entry)
      → Move s e given failed cs es → AreCalm P cs
  move_calm e given failed cs es (take_dropped l _ _ next idle is _) = by_calm cs _ is (tt, tt)
  move_calm e given failed cs es (take_free k _ _ free is _) =
      by_calm cs _ is (lock_calm e k.meant.fresh.row k.meant.target _ k.meant.fresh.found (tt, (tt, tt)))
  move_calm e given failed cs es (take_stolen k f j _ _ holder stopped is _) =
      by_calm cs _ is (lock_calm e k.meant.fresh.row k.meant.target _ k.meant.fresh.found (tt, (tt, (tt, tt))))
  move_calm e given failed cs es (begin_overrun j _ _ works k is _) =
      by_calm cs _ is (released_calm e j.row k.row k.letters k.found)
  move_calm e given failed cs es (begin_faulted k code path _ _ _ falls is _) =
      by_calm cs _ is (unlocked_like k.job.row k.row k.found, (tt, calm_mark_failed P failed))
  move_calm e given failed cs es (begin_init k props effect _ _ init is _) =
      by_calm cs _ is (c.begun e k _ (record { trav = refl; policy = refl; its = inl (refl, refl) }), (tt, tt))
  move_calm e given failed cs es (begin_same k props effect _ _ begun complete same is _) =
      by_calm cs _ is (c.begun e k _ (record { trav = refl; policy = refl; its = inl (refl, refl) }), (tt, tt))
  move_calm e given failed cs es (begin_in_place k props effect _ _ begun complete soft is _) =
      by_calm cs _ is (c.begun e k _ (record { trav = refl; policy = refl; its = inl (refl, refl) }), (tt, tt))
  move_calm e given failed cs es (begin_resumed k props effect _ _ begun way newest is _) = by_calm cs _ is (tt, tt)
  move_calm e given failed cs es (begin_failed k props effect _ _ begun fell newest is _) =
      by_calm cs _ is (unlocked_like k.job.row k.row k.found, (tt, tt))
  move_calm e given failed cs es (begin_replaced k props effect _ _ begun must is _) =
      by_calm cs _ is (
        tt,
        (
          c.begun e k _ (record { trav = refl; policy = refl; its = inr (refl, refl) }),
          (
            like k.job.row k.row _ k.found
                (record { no_ = refl; stack = refl; name = refl; act = refl; trav = refl; policy = refl }),
            (tt, tt),
          ),
        ),
      )
  move_calm e given failed cs es (clean_gone k _ _ gone is _) = by_calm cs _ is (tt, tt)
  move_calm e given failed cs es (clean_kept k r _ _ at kept is _) = by_calm cs _ is (tt, tt)
  move_calm e given failed cs es (clean_init k r _ _ at drop init is _) = by_calm cs _ is (tt, (tt, tt))
  move_calm e given failed cs es (clean_stuck k r _ _ at drop stuck is _) =
      by_calm cs _ is (unlocked_like k.job.row r at, (tt, tt))
  move_calm e given failed cs es (clean_retained k r _ _ at drop begun free retain is _) =
      by_calm cs _ is (tt, (tt, (tt, tt)))
  move_calm e given failed cs es (clean_deleted k r _ _ at drop begun free other is _) =
      by_calm cs _ is (c.deleted r k.stack.trav, (tt, tt))
  move_calm e given failed cs es (ask_begun k asked _ _ its is _) = by_calm cs _ is (tt, tt)
  move_calm e given failed cs es (ask_failed k asked answered reason letters _ _ _ its refuses falls is _) =
      by_calm cs _ is (failed_calm e k.job.row k.row letters failed k.found)
  move_calm e given failed cs es (poll_waits k asked _ _ its is _) = by_calm cs _ is tt
  move_calm e given failed cs es (poll_ready k facts _ _ stays is _) =
      by_calm cs _ is (
        like k.job.row k.row _ k.found
            (record { no_ = refl; stack = refl; name = refl; act = refl; trav = refl; policy = refl }),
        (tt, tt),
      )
  move_calm e given failed cs es (poll_gone k _ _ going is _) = by_calm cs _ is (tt, (tt, tt))
  move_calm e given failed cs es (poll_failed k asked answered reason letters _ _ _ its refuses falls is _) =
      by_calm cs _ is (failed_calm e k.job.row k.row letters failed k.found)
  move_calm e given failed cs es (finish_overrun j _ _ works k is _) =
      by_calm cs _ is (released_calm e j.row k.row k.letters k.found)
  move_calm e given failed cs es (finish k _ _ more is _) = by_calm cs _ is (finished_calm e k [] tt)
  move_calm e given failed cs es (finish_last k _ _ all is _) =
      by_calm cs _ is (finished_calm e k (mark_complete k.fresh.stack) (complete_calm k.fresh.stack))
  move_calm e given failed cs es (takeover_overrun f j _ _ next k is _) =
      by_calm cs _ is (released_calm f j.row k.row k.letters k.found)
  move_calm e given failed cs es (takeover_fresh f k _ _ is _) =
      by_calm cs _ is (released_calm f k.job.row k.fresh.row (relayed_letter s e f k ∷ []) k.fresh.found)
