-- All pasts fit after each move and each command.
use Rattle.std.proofs.Common.{◌≡◌, inl, inr, ℕ, List, [], ◌∷◌, ◌++◌, map, Option, Some, None, refl, sym, ap, ◌∙◌, subst}
use Rattle.std.specs.Prelude.{IsSome, bytes_eq}
use Rattle.std.proofs.lemmas.Slice.Eq.{bytes_eq-Decides}
use Rattle.std.specs.List.{AllByRecursion}
use Rattle.heat_plan.specs.declared.phase.Act.{Act}
use Rattle.heat_plan.specs.declared.phase.Act.TheVariants.{Create, Delete, Init, Rollback, Update}
use Rattle.heat_plan.specs.declared.phase.Status.TheVariants.{Complete, Failed}
use Rattle.row_table.specs.declared.row.Row.{Row}
use Rattle.sync_points.specs.declared.point.Point.{Point}
use Rattle.mail_table.specs.declared.mail.Job.{Job}
use Rattle.mail_table.specs.declared.mail.Letter.{Letter}
use Rattle.core_state.specs.Changes.{applied, apply}
use Rattle.core_state.specs.State.{StateData, cut_past, past_at, stack_at, stack_key}
use Rattle.core_state.specs.declared.change.Change.{Change}
use Rattle.core_state.specs.declared.change.Change.TheVariants.{Drop, DropRow, DropStack, EndJob, Enlist, PutGraph}
use Rattle.core_state.specs.declared.change.Change.TheVariants.{PutJob, PutPast, PutPoint, PutRow, PutStack, Release}
use Rattle.core_state.specs.declared.change.Change.TheVariants.{Send, Stop}
use Rattle.core_state.specs.declared.entry.Entry.{Entry}
use Rattle.core_state.specs.declared.numbers.Numbers.{Numbers}
use Rattle.core_state.specs.declared.past.Past.{Past}
use Rattle.core_state.specs.declared.stack.Stack.{Stack}
use Rattle.step_relation.specs.Asks.{Falls, failed_changes, marked, marks, overrun}
use Rattle.step_relation.specs.Finishes.{Finishes, finished_changes, given_input, ready_letters}
use Rattle.step_relation.specs.Given.{Given}
use Rattle.step_relation.specs.Moves.{Move, ask_begun, ask_failed, begin_failed, begin_faulted, begin_in_place}
use Rattle.step_relation.specs.Moves.{begin_init, begin_overrun, begin_replaced, begin_resumed, begin_same}
use Rattle.step_relation.specs.Moves.{clean_deleted, clean_gone, clean_init, clean_kept, clean_retained, clean_stuck}
use Rattle.step_relation.specs.Moves.{finish, finish_last, finish_overrun, poll_failed, poll_gone, poll_ready}
use Rattle.step_relation.specs.Moves.{poll_waits, take_dropped, take_free, take_stolen, takeover_fresh}
use Rattle.step_relation.specs.Moves.{takeover_overrun}
use Rattle.step_relation.specs.Inputs.{passed_points}
use Rattle.step_relation.specs.Rows.{failed_row}
use Rattle.step_relation.specs.Takes.{relayed_letter, released_changes}
use Rattle.step_relation.specs.Writes.{draw_letters, lock, mark_complete, mark_failed, unlock}
use Rattle.step_relation.specs.Elsewhere.{Elsewhere}
use Rattle.step_relation.specs.Groups.{KeptByMoves}
use Rattle.step_relation.specs.MarkFits.{PastFits, PastsFit}
use Rattle.step_relation.specs.Sound.{Standing}
use Rattle.history_laws.proofs.frames.Marks.{past_fits_stays}
use Rattle.history_laws.proofs.frames.OnOne.{moves_on_one}
use Rattle.history_laws.specs.frames.Laws.{stack_of}
use Rattle.graph_laws.proofs.marks.Finish.{after, finished_is}
use Rattle.history_laws.proofs.tables.Once.{PastsOnce, once_applied}
use Rattle.history_laws.proofs.tables.Puts.{all_append}
use Rattle.history_laws.proofs.tables.Tables.{some_put}
use Rattle.history_laws.proofs.tables.Rows.{past-key, past_cut, stack-key, stack_cut, stack_put, text_or_not}
use Rattle.core_state.specs.declared.change.Change.TheVariants as change_to

-- a past fits on where it was there, and its stack has the act that it had
pub record KeepsPast (s t : StateData) (own : List ℕ) : Type 0 where
  pub pasts : (p : Past) → past_at t.pasts own ≡ Some p → past_at s.pasts own ≡ Some p
  pub stacks : (st : Stack) → stack_at t.stacks own ≡ Some st → (o : Stack) × (stack_at s.stacks own ≡ Some o) ×
      (st.act ≡ o.act)
  pub there : (p : Past) → past_at t.pasts own ≡ Some p → IsSome (stack_at s.stacks own) → IsSome
      (stack_at t.stacks own)

pub pasts_by_own : (s : StateData) → Standing s → (t : StateData) (own : List ℕ) → Elsewhere own s t
    → KeepsPast s t own → PastsOnce t.pasts → PastsFit t
pasts_by_own s S t own E K once = record { once = once; each = go } where
  mine : (p : Past) → past_at t.pasts own ≡ Some p → p.stack ≡ own → PastFits t p
  mine p at is =
      let old : PastFits s p = S.pasts.each own p (K.pasts p at) in record {
        in_table = subst (λ (x : List ℕ). IsSome (stack_at t.stacks x)) (sym is)
            (K.there p at (subst (λ (x : List ℕ). IsSome (stack_at s.stacks x)) is old.in_table));
        forward = λ st at_st act.
            let (o, was, same) = K.stacks st (subst (λ (x : List ℕ). stack_at t.stacks x ≡ Some st) is at_st) in
            old.forward o (subst (λ (x : List ℕ). stack_at s.stacks x ≡ Some o) (sym is) was)
            (elim act [ inl d ↦ inl (sym same ∙ d) | inr r ↦ inr (sym same ∙ r) ]);
        proper = old.proper;
      }

  go : (name : List ℕ) (p : Past) → past_at t.pasts name ≡ Some p → PastFits t p
  go name p at = elim (text_or_not name own) [
    | inl is ↦
        let here : past_at t.pasts own ≡ Some p = subst (λ (x : List ℕ). past_at t.pasts x ≡ Some p) is at in
        mine p here (past-key t.pasts own p here)
    | inr ne ↦
        past_fits_stays own s t E p (λ eq. ne (sym (past-key t.pasts name p at) ∙ eq))
        (S.pasts.each name p (sym (E.pasts name ne) ∙ at))
  ]

-- changes that leave the pasts, and of a stack at most put another with its act
abbrev pub IsTame : StateData → Change → Type 0
IsTame s (PutStack x) = (o : Stack) × (stack_at s.stacks x.name ≡ Some o) × (x.act ≡ o.act)
IsTame s (DropStack name) = ⊥
IsTame s (PutRow r) = Unit {0}
IsTame s (DropRow n) = Unit {0}
IsTame s (PutGraph name g) = Unit {0}
IsTame s (PutPoint p) = Unit {0}
IsTame s (Send l) = Unit {0}
IsTame s (Drop n) = Unit {0}
IsTame s (PutJob j) = Unit {0}
IsTame s (EndJob e) = Unit {0}
IsTame s (Enlist e) = Unit {0}
IsTame s (Stop e) = Unit {0}
IsTame s (change_to.Numbers n) = Unit {0}
IsTame s (PutPast p) = ⊥
IsTame s (Release t) = Unit {0}

pub record AreTame (s : StateData) (cs : List Change) : Type 0 where
  pub all : AllByRecursion (IsTame s) cs

-- what they leave
pub record Leaves (s t : StateData) : Type 0 where
  pub pasts : t.pasts ≡ s.pasts
  pub stacks : (name : List ℕ) (st : Stack) → stack_at t.stacks name ≡ Some st → (o : Stack) ×
      (stack_at s.stacks name ≡ Some o) × (st.act ≡ o.act)
  pub there : (name : List ℕ) → IsSome (stack_at s.stacks name) → IsSome (stack_at t.stacks name)

leaves_same : (s : StateData) → Leaves s s
leaves_same s = record { pasts = refl; stacks = λ name st at. (st, at, refl); there = λ name some. some }

one_tame : (s t : StateData) → Leaves s t → (c : Change) → IsTame s c → Leaves s (apply c t)
one_tame s t L (PutStack x) (o, was, same) = record {
  pasts = L.pasts;
  stacks = λ name st at. elim (stack_put x t.stacks at) [
    | inl new ↦ (
      o,
      subst (λ (n : List ℕ). stack_at s.stacks n ≡ Some o) new.0 was,
      ap (λ (y : Stack). y.act)
          (sym new.1) ∙ same,
    )
    | inr old ↦ L.stacks name st old.1
  ];
  there = λ name some. some_put bytes_eq bytes_eq-Decides stack_key x t.stacks name (L.there name some);
}
one_tame s t L (DropStack name) tame = absurd tame
one_tame s t L (PutPast p) tame = absurd tame
one_tame s t L (PutRow r) tame = record { pasts = L.pasts; stacks = L.stacks; there = L.there }
one_tame s t L (DropRow n) tame = record { pasts = L.pasts; stacks = L.stacks; there = L.there }
one_tame s t L (PutGraph name g) tame = record { pasts = L.pasts; stacks = L.stacks; there = L.there }
one_tame s t L (PutPoint p) tame = record { pasts = L.pasts; stacks = L.stacks; there = L.there }
one_tame s t L (Send l) tame = record { pasts = L.pasts; stacks = L.stacks; there = L.there }
one_tame s t L (Drop n) tame = record { pasts = L.pasts; stacks = L.stacks; there = L.there }
one_tame s t L (PutJob j) tame = record { pasts = L.pasts; stacks = L.stacks; there = L.there }
one_tame s t L (EndJob e) tame = record { pasts = L.pasts; stacks = L.stacks; there = L.there }
one_tame s t L (Enlist e) tame = record { pasts = L.pasts; stacks = L.stacks; there = L.there }
one_tame s t L (Stop e) tame = record { pasts = L.pasts; stacks = L.stacks; there = L.there }
one_tame s t L (change_to.Numbers n) tame = record { pasts = L.pasts; stacks = L.stacks; there = L.there }
one_tame s t L (Release token) tame = record { pasts = L.pasts; stacks = L.stacks; there = L.there }

all_tame : (s t : StateData) → Leaves s t → (cs : List Change) → AllByRecursion (IsTame s) cs → Leaves s
    (applied cs t)
all_tame s t L [] all = L
all_tame s t L (c ∷ cs) all = all_tame s (apply c t) (one_tame s t L c all.0) cs all.1

keeps : (s : StateData) (cs : List Change) (own : List ℕ) → AreTame s cs → KeepsPast s (applied cs s) own
keeps s cs own tame =
    let L = all_tame s s (leaves_same s) cs tame.all in record {
      pasts = λ p at. subst (λ (ps : List Past). past_at ps own ≡ Some p) L.pasts at;
      stacks = λ st at. L.stacks own st at;
      there = λ p at some. L.there own some;
    }

-- what moves are made of
module _ (s : StateData) where
  then_tame : (cs ds : List Change) → AreTame s cs → AreTame s ds → AreTame s (cs ++ ds)
  then_tame cs ds a b = record { all = all_append (IsTame s) cs ds a.all b.all }

  sends_tame : (ls : List Letter) → AreTame s (map Send ls)
  sends_tame [] = record { all = tt }
  sends_tame (l ∷ ls) = record { all = (tt, (sends_tame ls).all) }

  points_tame : (ps : List Point) → AreTame s (map PutPoint ps)
  points_tame [] = record { all = tt }
  points_tame (p ∷ ps) = record { all = (tt, (points_tame ps).all) }

  draws_tame : (next : Numbers) (ls : List Letter) (rest : List Change) → AreTame s rest → AreTame s
      (draw_letters next ls rest)
  draws_tame next [] rest tame = tame
  draws_tame next (l ∷ ls) rest tame = record { all = (tt, tame.all) }

  lock_tame : (r : Option Row) (e : ℕ) (rest : List Change) → AreTame s rest → AreTame s (lock r e rest)
  lock_tame None e rest tame = tame
  lock_tame (Some r) e rest tame = record { all = (tt, tame.all) }

  unlock_tame : (r : Option Row) (rest : List Change) → AreTame s rest → AreTame s (unlock r rest)
  unlock_tame None rest tame = tame
  unlock_tame (Some r) rest tame = record { all = (tt, tame.all) }

  one : (c : Change) (rest : List Change) → IsTame s c → AreTame s rest → AreTame s (c ∷ rest)
  one c rest tame more = record { all = (tame, more.all) }

  nothing : AreTame s []
  nothing = record { all = tt }

  released_tame : (f : ℕ) (r : Option Row) (ls : List Letter) → AreTame s (released_changes s f r ls)
  released_tame f r ls = draws_tame s.next ls _ (unlock_tame r _ (one (EndJob f) (map Send ls) tt (sends_tame ls)))

  failed_tame : (j : Job) (letters : List Letter) (failed : Option Stack) → Falls s j letters failed → AreTame s
      (mark_failed failed)
  failed_tame j letters _ (overrun _ _ _) = nothing
  failed_tame j _ _ (marked _ _) = nothing
  failed_tame j _ _ (marks k _) = one (PutStack (record k.stack { status = Failed })) [] (
    k.stack,
    subst (λ (x : List ℕ). stack_at s.stacks x ≡ Some k.stack)
        (sym (stack-key s.stacks j.letter.stack k.stack k.names.in_table)) k.names.in_table,
    refl,
  ) nothing

  fails_tame : (e : ℕ) (r : Row) (j : Job) (letters : List Letter) (failed : Option Stack)
      → Falls s j letters failed → AreTame s (failed_changes s e r letters failed)
  fails_tame e r j letters failed falls =
      draws_tame s.next letters _ (one (PutRow (failed_row r)) _ tt
      (one (EndJob e) _ tt (then_tame (map Send letters) (mark_failed failed) (sends_tame letters)
      (failed_tame j letters failed falls))))

-- the last finish may drop its stack, with its past
module _ (s : StateData) (S : Standing s) (e : ℕ) (k : Finishes s e) where
  abbrev own : List ℕ
  own = k.job.letter.stack

  its_name : k.fresh.stack.name ≡ own
  its_name = stack-key s.stacks own k.fresh.stack k.fresh.names.in_table

  put_keeps : (a : Act) → a ≡ k.fresh.stack.act → KeepsPast s
      (apply (PutStack (record k.fresh.stack { act = a; status = Complete })) (after s S e k)) own
  put_keeps a is =
      let L = one_tame s s (leaves_same s) (PutStack (record k.fresh.stack { act = a; status = Complete })) (
        k.fresh.stack,
        subst (λ (x : List ℕ). stack_at s.stacks x ≡ Some k.fresh.stack)
            (sym its_name) k.fresh.names.in_table,
        is,
      ) in record {
        pasts = λ p at. at;
        stacks = λ st at. L.stacks own st at;
        there = λ p at some. L.there own some;
      }

  last_keeps : (a : Act) → a ≡ k.fresh.stack.act → KeepsPast s
      (applied (mark_complete (record k.fresh.stack { act = a })) (after s S e k)) own
  last_keeps Delete is = record {
    pasts = λ p at. absurd (gone p at);
    stacks = λ st at. let old = (stack_cut k.fresh.stack.name s.stacks at) in (st, old.1, refl);
    there = λ p at some. absurd (gone p at);
  } where
    gone : (p : Past) → past_at (cut_past k.fresh.stack.name s.pasts) own ≡ Some p → ⊥
    gone p at = (past_cut k.fresh.stack.name s.pasts at).0 its_name
  last_keeps Init is = put_keeps Init is
  last_keeps Create is = put_keeps Create is
  last_keeps Update is = put_keeps Update is
  last_keeps Rollback is = put_keeps Rollback is

  last_all : KeepsPast s (applied (finished_changes s e k (mark_complete k.fresh.stack)) s) own
  last_all = subst (λ (x : StateData). KeepsPast s x own) (sym (finished_is s S e k (mark_complete k.fresh.stack)))
      (last_keeps k.fresh.stack.act refl)

tame_to : (s : StateData) (cs ds : List Change) → cs ≡ ds → AreTame s ds → AreTame s cs
tame_to s cs ds is tame = subst (AreTame s) (sym is) tame

move_keeps : (s : StateData) (e : ℕ) (given : Given) (failed : Option Stack) (cs : List Change) (es : List Entry)
    → Standing s
    → (move : Move s e given failed cs es) → KeepsPast s (applied cs s) (stack_of s e given failed cs es move)
move_keeps s e given failed cs es S (take_dropped l _ _ next idle is _) = keeps s cs _
    (tame_to s cs _ is (one s (Drop l.no) [] tt (nothing s)))
move_keeps s e given failed cs es S (take_free k _ _ free is _) = keeps s cs _
    (tame_to s cs _ is (lock_tame s k.meant.fresh.row e _
    (one s (Drop k.letter.no) _ tt (one s _ [] tt (nothing s)))))
move_keeps s e given failed cs es S (take_stolen k f j _ _ holder stopped is _) = keeps s cs _
    (tame_to s cs _ is (lock_tame s k.meant.fresh.row e _
    (one s (Drop k.letter.no) _ tt (one s (EndJob f) _ tt (one s _ [] tt (nothing s))))))
move_keeps s e given failed cs es S (begin_overrun j _ _ works k is _) = keeps s cs _
    (tame_to s cs _ is (released_tame s e k.row k.letters))
move_keeps s e given failed cs es S (begin_faulted k code path mark _ _ falls is _) = keeps s cs _
    (tame_to s cs _ is (one s _ _ tt (one s (EndJob e) _ tt (failed_tame s k.job [] mark falls))))
move_keeps s e given failed cs es S (begin_init k props effect _ _ init is _) = keeps s cs _
    (tame_to s cs _ is (record { all = (tt, (tt, tt)) }))
move_keeps s e given failed cs es S (begin_same k props effect _ _ act complete same is _) = keeps s cs _
    (tame_to s cs _ is (record { all = (tt, (tt, tt)) }))
move_keeps s e given failed cs es S (begin_in_place k props effect _ _ act complete soft is _) = keeps s cs _
    (tame_to s cs _ is (record { all = (tt, (tt, tt)) }))
move_keeps s e given failed cs es S (begin_resumed k props effect _ _ act status newest is _) = keeps s cs _
    (tame_to s cs _ is (record { all = (tt, tt) }))
move_keeps s e given failed cs es S (begin_failed k props effect _ _ act status newest is _) = keeps s cs _
    (tame_to s cs _ is (record { all = (tt, (tt, tt)) }))
move_keeps s e given failed cs es S (begin_replaced k props effect _ _ act go is _) = keeps s cs _
    (tame_to s cs _ is (record { all = (tt, (tt, (tt, (tt, tt)))) }))
move_keeps s e given failed cs es S (clean_gone k _ _ none is _) = keeps s cs _
    (tame_to s cs _ is (record { all = (tt, tt) }))
move_keeps s e given failed cs es S (clean_kept k r _ _ found kept is _) = keeps s cs _
    (tame_to s cs _ is (record { all = (tt, tt) }))
move_keeps s e given failed cs es S (clean_init k r _ _ found unkept init is _) = keeps s cs _
    (tame_to s cs _ is (record { all = (tt, (tt, tt)) }))
move_keeps s e given failed cs es S (clean_stuck k r _ _ found unkept stuck is _) = keeps s cs _
    (tame_to s cs _ is (record { all = (tt, (tt, tt)) }))
move_keeps s e given failed cs es S (clean_retained k r _ _ found unkept act unstuck retained is _) = keeps s cs _
    (tame_to s cs _ is (record { all = (tt, (tt, (tt, tt))) }))
move_keeps s e given failed cs es S (clean_deleted k r _ _ found unkept act unstuck other is _) = keeps s cs _
    (tame_to s cs _ is (record { all = (tt, (tt, tt)) }))
move_keeps s e given failed cs es S (ask_begun k asked _ _ calls is _) = keeps s cs _
    (tame_to s cs _ is (record { all = (tt, tt) }))
move_keeps s e given failed cs es S (ask_failed k asked answer reason letters mark _ _ calls refuses falls is _) =
    keeps s cs _ (tame_to s cs _ is (fails_tame s e k.row k.job letters mark falls))
move_keeps s e given failed cs es S (poll_waits k asked _ _ calls is _) = keeps s cs _ (tame_to s cs _ is (nothing s))
move_keeps s e given failed cs es S (poll_ready k facts _ _ act is _) = keeps s cs _
    (tame_to s cs _ is (record { all = (tt, (tt, tt)) }))
move_keeps s e given failed cs es S (poll_gone k _ _ act is _) = keeps s cs _
    (tame_to s cs _ is (record { all = (tt, (tt, tt)) }))
move_keeps s e given failed cs es S (poll_failed k asked answer reason letters mark _ _ calls refuses falls is _) =
    keeps s cs _ (tame_to s cs _ is (fails_tame s e k.row k.job letters mark falls))
move_keeps s e given failed cs es S (finish_overrun j _ _ works k is _) = keeps s cs _
    (tame_to s cs _ is (released_tame s e k.row k.letters))
move_keeps s e given failed cs es S (finish k _ _ unsettled is _) = keeps s cs _
    (tame_to s cs _ is (draws_tame s s.next (ready_letters s e k) _
    (unlock_tame s k.fresh.row _ (one s (EndJob e) _ tt
    (then_tame s (map PutPoint (passed_points k.fresh.graph k.job.letter.node (given_input s e k) k.succs)) _
    (points_tame s (passed_points k.fresh.graph k.job.letter.node (given_input s e k) k.succs))
    (then_tame s (map Send (ready_letters s e k)) [] (sends_tame s (ready_letters s e k)) (nothing s)))))))
move_keeps s e given failed cs es S (takeover_overrun f j _ _ next k is _) = keeps s cs _
    (tame_to s cs _ is (released_tame s f k.row k.letters))
move_keeps s e given failed cs es S (takeover_fresh f k _ _ is _) = keeps s cs _
    (tame_to s cs _ is (released_tame s f k.fresh.row (relayed_letter s e f k ∷ [])))
move_keeps s e given failed cs es S (finish_last k _ _ settles is _) =
    subst (λ (x : List Change). KeepsPast s (applied x s) k.job.letter.stack) (sym is) (last_all s S e k)

pub pasts_by_moves : KeptByMoves PastsFit
pasts_by_moves judges s e given failed cs es S move tied =
    pasts_by_own s S (applied cs s) (stack_of s e given failed cs es move)
    (moves_on_one s e given failed cs es S move) (move_keeps s e given failed cs es S move)
    (once_applied cs s S.pasts.once)
