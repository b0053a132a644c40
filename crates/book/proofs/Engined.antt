-- No turn and no command changes which engines are live.
use Rattle.std.proofs.Common.{List, Option, [], ap, refl, subst, sym, ℕ, ◌++◌, ◌∙◌, ◌∷◌, ◌≡◌}
use Rattle.std.specs.Prelude.{None, Some, map}
use Rattle.heat_plan.specs.declared.phase.Act.{Act}
use Rattle.heat_plan.specs.declared.phase.Act.TheVariants.{Create, Delete, Init, Rollback, Update}
use Rattle.heat_plan.specs.declared.phase.Status.TheVariants.{InProgress}
use Rattle.traversal_graph.specs.declared.shape.Node.{Node}
use Rattle.row_table.specs.declared.row.Row.{Row}
use Rattle.sync_points.specs.declared.point.Point.{Point}
use Rattle.mail_table.specs.declared.mail.Letter.{Letter}
use Rattle.core_state.specs.Changes.{applied, apply}
use Rattle.core_state.specs.State.{StateData}
use Rattle.core_state.specs.declared.change.Change.{Change}
use Rattle.core_state.specs.declared.change.Change.TheVariants.{EndJob, PutPoint, PutRow, Send}
use Rattle.core_state.specs.declared.change.Change.TheVariants as change_to
use Rattle.core_state.specs.declared.entry.Entry.{Entry}
use Rattle.core_state.specs.declared.numbers.Numbers.{Numbers}
use Rattle.core_state.specs.declared.stack.Stack.{Stack}
use Rattle.step_relation.specs.Begins.{Begins}
use Rattle.step_relation.specs.Commands.{Lays, Sets, first_letters, laid_changes, settles_at_once, stack_set}
use Rattle.step_relation.specs.Finishes.{Finishes, finished_changes, given_input, ready_letters}
use Rattle.step_relation.specs.Given.{Answer, Given}
use Rattle.step_relation.specs.Inputs.{passed_points}
use Rattle.step_relation.specs.Takes.{relayed_letter, released_changes}
use Rattle.step_relation.specs.Turns.{FollowsFailure, Turn}
use Rattle.step_relation.specs.Writes.{draw_letters, lock, mark_complete, mark_failed, unlock}
use Rattle.next_laws.proofs.Parts.{Kind, Part, begins, clears, drops, ends, faults, goes, overruns, placed, prepares}
use Rattle.next_laws.proofs.Parts.{readies, refuses, relays, relieves, settles, steals, takes, waits}
use Rattle.next_laws.proofs.Parts as part
use Rattle.next_laws.proofs.Turns.{ByMove, Whole, by_move, follows, stops}
use Rattle.next_laws.proofs.Verdicts.{Created, Deleted, Fate, Kept, Left, Lot, Passed, Purged, Replaced, Resumed}
use Rattle.next_laws.proofs.Verdicts.{Retained, Stuck, Updated}
use Rattle.book.specs.Scenes.{Scene}
use Rattle.book.specs.Turned.{Turned}
use Rattle.book.specs.Turned as turned
use Rattle.book.specs.declared.turning.Turn.{Turn as Turn_answer}

-- no engine is enlisted or stopped
abbrev pub IsStill : Change → Type 0
IsStill (change_to.Enlist e) = ⊥
IsStill (change_to.Stop e) = ⊥
IsStill (change_to.PutStack st) = Unit {0}
IsStill (change_to.DropStack name) = Unit {0}
IsStill (change_to.PutRow r) = Unit {0}
IsStill (change_to.DropRow n) = Unit {0}
IsStill (change_to.PutGraph name g) = Unit {0}
IsStill (change_to.PutPoint p) = Unit {0}
IsStill (change_to.Send l) = Unit {0}
IsStill (change_to.Drop n) = Unit {0}
IsStill (change_to.PutJob j) = Unit {0}
IsStill (change_to.EndJob e) = Unit {0}
IsStill (change_to.Numbers next) = Unit {0}
IsStill (change_to.PutPast p) = Unit {0}
IsStill (change_to.Release t) = Unit {0}

abbrev pub AreStill : List Change → Type 0
AreStill [] = Unit {0}
AreStill (c ∷ cs) = IsStill c × AreStill cs

apply-live : (c : Change) (s : StateData) → IsStill c → (apply c s).live ≡ s.live
apply-live (change_to.Enlist e) s h = absurd h
apply-live (change_to.Stop e) s h = absurd h
apply-live (change_to.PutStack st) s h = refl
apply-live (change_to.DropStack name) s h = refl
apply-live (change_to.PutRow r) s h = refl
apply-live (change_to.DropRow n) s h = refl
apply-live (change_to.PutGraph name g) s h = refl
apply-live (change_to.PutPoint p) s h = refl
apply-live (change_to.Send l) s h = refl
apply-live (change_to.Drop n) s h = refl
apply-live (change_to.PutJob j) s h = refl
apply-live (change_to.EndJob e) s h = refl
apply-live (change_to.Numbers next) s h = refl
apply-live (change_to.PutPast p) s h = refl
apply-live (change_to.Release t) s h = refl

pub applied-live : (cs : List Change) (s : StateData) → AreStill cs → (applied cs s).live ≡ s.live
applied-live [] s h = refl
applied-live (c ∷ cs) s h = applied-live cs (apply c s) h.1 ∙ apply-live c s h.0

still-both : (cs ds : List Change) → AreStill cs → AreStill ds → AreStill (cs ++ ds)
still-both [] ds h i = i
still-both (c ∷ cs) ds h i = (h.0, still-both cs ds h.1 i)

still_sends : (ls : List Letter) → AreStill (map Send ls)
still_sends [] = tt
still_sends (l ∷ ls) = (tt, still_sends ls)

still_rows : (rs : List Row) → AreStill (map PutRow rs)
still_rows [] = tt
still_rows (r ∷ rs) = (tt, still_rows rs)

still_points : (ps : List Point) → AreStill (map PutPoint ps)
still_points [] = tt
still_points (p ∷ ps) = (tt, still_points ps)

still_lock : (row : Option Row) (e : ℕ) (rest : List Change) → AreStill rest → AreStill (lock row e rest)
still_lock None e rest h = h
still_lock (Some r) e rest h = (tt, h)

still_unlock : (row : Option Row) (rest : List Change) → AreStill rest → AreStill (unlock row rest)
still_unlock None rest h = h
still_unlock (Some r) rest h = (tt, h)

still_draw : (next : Numbers) (ls : List Letter) (rest : List Change) → AreStill rest → AreStill
    (draw_letters next ls rest)
still_draw next [] rest h = h
still_draw next (l ∷ ls) rest h = (tt, h)

still_failed : (failed : Option Stack) → AreStill (mark_failed failed)
still_failed None = tt
still_failed (Some st) = (tt, tt)

still_complete : (st : Stack) → AreStill (mark_complete st)
still_complete st = by st.act where
  by : (act : Act) → AreStill (mark_complete (record st { act = act }))
  by Init = (tt, tt)
  by Create = (tt, tt)
  by Update = (tt, tt)
  by Delete = (tt, tt)
  by Rollback = (tt, tt)

still_settled : (nodes : List Node) (s : StateData) (name : List ℕ) (it : Sets) → AreStill
    (settles_at_once nodes s name it)
still_settled [] s name it = still_complete (stack_set s name it InProgress)
still_settled (node ∷ nodes) s name it = tt

pub laid_still : (s : StateData) (name : List ℕ) (items : List _) (it : Sets) (k : Lays s name items) → AreStill
    (laid_changes s name items it k)
laid_still s name items it k = (
  tt,
  (
    tt,
    (
      tt,
      still-both (map PutRow k.rows) _ (still_rows k.rows) (
        tt,
        still-both (map Send (first_letters s name items it k)) (settles_at_once k.graph.nodes s name it)
            (still_sends (first_letters s name items it k)) (still_settled k.graph.nodes s name it),
      ),
    ),
  ),
)

module _ (s : StateData) (e : ℕ) where
  still_as : (cs ds : List Change) → cs ≡ ds → AreStill ds → AreStill cs
  still_as cs ds is h = subst AreStill (sym is) h

  still_fate : (k : Begins s e) (props : _) (fate : Fate) → AreStill (part.fate_changes s e k props fate)
  still_fate k props Created = (tt, (tt, tt))
  still_fate k props Kept = (tt, (tt, tt))
  still_fate k props Updated = (tt, (tt, tt))
  still_fate k props Resumed = (tt, tt)
  still_fate k props Left = (tt, (tt, tt))
  still_fate k props Replaced = (tt, (tt, (tt, (tt, tt))))

  still_lot : (j : _) (trav : ℕ) (lot : Lot) → AreStill (part.lot_changes e j trav lot)
  still_lot j trav Passed = (tt, tt)
  still_lot j trav (Purged r) = (tt, (tt, tt))
  still_lot j trav (Stuck r) = (tt, (tt, tt))
  still_lot j trav (Retained r) = (tt, (tt, (tt, tt)))
  still_lot j trav (Deleted r) = (tt, (tt, tt))

  still_released : (f : ℕ) (row : Option Row) (ls : List Letter) → AreStill (released_changes s f row ls)
  still_released f row ls = still_draw s.next ls (unlock row (EndJob f ∷ map Send ls))
      (still_unlock row (EndJob f ∷ map Send ls) (tt, still_sends ls))

  still_finished : (k : Finishes s e) (mark : List Change) → AreStill mark → AreStill (finished_changes s e k mark)
  still_finished k mark h = still_draw s.next (ready_letters s e k) _ (still_unlock k.fresh.row _ (
    tt,
    still-both (map PutPoint (passed_points k.fresh.graph k.job.letter.node (given_input s e k) k.succs)) _
        (still_points (passed_points k.fresh.graph k.job.letter.node (given_input s e k) k.succs))
        (still-both (map Send (ready_letters s e k)) mark (still_sends (ready_letters s e k)) h),
  ))

  part_still : (kind : Kind) (given : Given) (f : Option Stack) (cs : List Change) (es : List Entry)
      → Part s e kind given f cs es → AreStill cs
  part_still _ _ _ cs es (drops l _ _ t i c d) = still_as cs _ c (tt, tt)
  part_still _ _ _ cs es (takes k _ _ free c d) = still_as cs _ c (still_lock k.meant.fresh.row e _ (tt, (tt, tt)))
  part_still _ _ _ cs es (steals k f j _ _ h n c d) = still_as cs _ c
      (still_lock k.meant.fresh.row e _ (tt, (tt, (tt, tt))))
  part_still _ _ _ cs es (overruns j stage _ _ w k c d) = still_as cs _ c (still_released e k.row k.letters)
  part_still _ _ _ cs es (faults k code path failed _ _ falls c d) = still_as cs _ c (tt, (tt, still_failed failed))
  part_still _ _ _ cs es (prepares k props effect fate _ _ x c d) = still_as cs _ c (still_fate k props fate)
  part_still _ _ _ cs es (clears k row lot _ _ at x c d) = still_as cs _ c (still_lot k.job k.stack.trav lot)
  part_still _ _ _ cs es (begins k asked _ _ a c d) = still_as cs _ c (tt, tt)
  part_still _ _ _ cs es (waits k asked _ _ a c d) = still_as cs _ c tt
  part_still _ _ _ cs es (readies k facts _ _ a c d) = still_as cs _ c (tt, (tt, tt))
  part_still _ _ _ cs es (goes k _ _ a c d) = still_as cs _ c (tt, (tt, tt))
  part_still _ _ _ cs es (refuses stage k asked g reason letters failed _ _ a x falls c d) = still_as cs _ c
      (still_draw s.next letters _ (
        tt,
        (
          tt,
          still-both (map Send letters) (mark_failed failed) (still_sends letters)
              (still_failed failed),
        ),
      ))
  part_still _ _ _ cs es (ends k _ _ n c d) = still_as cs _ c (still_finished k [] tt)
  part_still _ _ _ cs es (settles k _ _ y c d) = still_as cs _ c
      (still_finished k (mark_complete k.fresh.stack) (still_complete k.fresh.stack))
  part_still _ _ _ cs es (relieves f j _ _ t k c d) = still_as cs _ c (still_released f k.row k.letters)
  part_still _ _ _ cs es (relays f k _ _ c d) = still_as cs _ c
      (still_released f k.fresh.row (relayed_letter s e f k ∷ []))

  -- no turn changes which engines are live
  pub turn_still : (given : Given) (cs : List Change) (es : List Entry) → Turn s e given cs es → AreStill cs
  turn_still given cs es t = by a.whole where
    a : ByMove s e given cs es
    a = by_move s e given cs es t

    first : AreStill a.first
    first = let p = placed s e given a.failed a.first a.firsts a.move in
        part_still p.kind given a.failed a.first a.firsts p.part

    behind : (u : StateData) (st : Stack) (last : List Change) (lasts : List Entry) → FollowsFailure u e st last lasts
        → AreStill last
    behind u st last lasts k = still_as last _ k.changes (laid_still u k.failed.name _ _ k.lays)

    by : Whole s e a.failed a.first a.firsts cs es → AreStill cs
    by (stops p c d) = still_as cs _ c first
    by (follows st last lasts is due k c d) = still_as cs _ c (still-both a.first last first (behind _ st last lasts k))

pub turned_live : (e : ℕ) (old new : Scene) (result : Turn_answer) → Turned e old new result
    → new.state.live ≡ old.state.live
turned_live e old new result (turned.quiet given cs es is quiet t lasts its makes same) =
    ap (λ (x : StateData). x.live) makes.state ∙ applied-live cs old.state (turn_still old.state e given cs es t)
turned_live e old new result (turned.called k given cs es rest is t lasts entries makes told) =
    ap (λ (x : StateData). x.live) makes.state ∙ applied-live cs old.state
    (turn_still old.state e (Answer given) cs es t)
turned_live e old new result (turned.alone k given cs es rest why some t lasts entries makes told) = ap
    (λ (x : StateData). x.live) makes.state
turned_live e old new result (turned.unkept given cs es is quiet some t lasts its same) = ap
    (λ (x : StateData). x.live) same.state
turned_live e old new result (turned.unmade is same) = ap (λ (x : StateData). x.live) same.state
turned_live e old new result (turned.idle is none same) = ap (λ (x : StateData). x.live) same.state
turned_live e old new result (turned.lost is none same) = ap (λ (x : StateData). x.live) same.state
turned_live e old new result (turned.worn is by same) = ap (λ (x : StateData). x.live) same.state
