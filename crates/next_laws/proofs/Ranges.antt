-- A state in range stays so, and what is worn there draws a number at 2^62 or raises a key to it.
use Rattle.std.proofs.Common.{◌≡◌, ◌⊎◌, inl, inr, ◌<◌, ◌≤◌, ℕ, zero, suc, ◌+◌, List, [], ◌∷◌, ◌++◌, map, Option}
use Rattle.std.proofs.Common.{Some, None}
use Rattle.std.proofs.Common.{sym, ap, subst, arith}
use Rattle.std.specs.List.{AllByRecursion}
use Rattle.std.specs.Prelude.{Contains, ◌^◌}
use Rattle.std.proofs.lemmas.Bool.{cases_lt}
use Rattle.heat_plan.specs.declared.item.Item.{Item}
use Rattle.heat_plan.specs.declared.phase.Act.{Act}
use Rattle.heat_plan.specs.declared.phase.Act.TheVariants.{Create, Delete, Init, Rollback, Update}
use Rattle.heat_plan.specs.declared.phase.Status.TheVariants.{InProgress}
use Rattle.traversal_graph.specs.declared.shape.Node.{Node}
use Rattle.row_table.specs.Rows.{row_at}
use Rattle.row_table.specs.declared.row.Row.{Row}
use Rattle.sync_points.specs.declared.point.Point.{Point}
use Rattle.mail_table.specs.declared.mail.Letter.{Letter}
use Rattle.core_state.specs.Changes.{applied, apply}
use Rattle.core_state.specs.State.{StateData}
use Rattle.core_state.specs.declared.change.Change.{Change}
use Rattle.core_state.specs.declared.change.Change.TheVariants.{Drop, DropRow, DropStack, EndJob, Enlist, PutGraph}
use Rattle.core_state.specs.declared.change.Change.TheVariants.{PutJob, PutPast, PutPoint, PutRow, PutStack, Release}
use Rattle.core_state.specs.declared.change.Change.TheVariants.{Send, Stop}
use Rattle.core_state.specs.declared.entry.Entry.{Entry}
use Rattle.core_state.specs.declared.numbers.Numbers.{Numbers}
use Rattle.core_state.specs.declared.stack.Stack.{Stack}
use Rattle.history_laws.specs.Commands.{Chooses, Lays, Sets, current, first_letters, fresh, laid_changes, none}
use Rattle.history_laws.specs.Commands.{settles_at_once, stack_set}
use Rattle.history_laws.specs.Finishes.{given_input, ready_letters}
use Rattle.history_laws.specs.Given.{Given}
use Rattle.history_laws.specs.Inputs.{passed_points}
use Rattle.history_laws.specs.Moves.{Move, ask_begun, ask_failed, begin_failed, begin_faulted, begin_in_place}
use Rattle.history_laws.specs.Moves.{begin_init, begin_overrun, begin_replaced, begin_resumed, begin_same}
use Rattle.history_laws.specs.Moves.{clean_deleted, clean_gone, clean_init, clean_kept, clean_retained, clean_stuck}
use Rattle.history_laws.specs.Moves.{finish, finish_last, finish_overrun, poll_failed, poll_gone, poll_ready}
use Rattle.history_laws.specs.Moves.{poll_waits, take_dropped, take_free, take_stolen, takeover_fresh}
use Rattle.history_laws.specs.Moves.{takeover_overrun}
use Rattle.history_laws.specs.Steps.{Step, close, command, engines_from, enlist, note, past_engines, restart}
use Rattle.history_laws.specs.Steps.{stop, turn, unstored}
use Rattle.history_laws.specs.Takes.{relayed_letter, released_changes}
use Rattle.history_laws.specs.Asks.{failed_changes}
use Rattle.history_laws.specs.Turns.{IsWorn, Overflows, Turn, engine, key, letter, row, stack, trav}
use Rattle.history_laws.specs.Writes.{draw_letters, lock, mark_complete, mark_failed, unlock}
use Rattle.history_laws.proofs.tables.Puts.{all_append, all_contains}
use Rattle.history_laws.proofs.tables.Rows.{row_cut, row_put, row_self}
use Rattle.next_laws.specs.Range.{DrawsLast, IsInRange, RaisesLast, StepsStayInRange, Wears, WornLayoutWears}
use Rattle.next_laws.specs.Range.{WornTurnWears, draws, raises}
use Rattle.next_laws.proofs.Listings.{cons_cases, in_head, in_tail, no_member}
use Rattle.next_laws.proofs.Turns.{ByMove, Whole, by_move, follows, stops}
use Rattle.core_state.specs.declared.change.Change.TheVariants as change_to
use Rattle.next_laws.specs.Range as last
use Rattle.history_laws.specs.Given as like

-- what holds of each change
abbrev AllSmall : List Change → Type 0
AllSmall cs = AllByRecursion (λ (c : Change). ¬ Overflows c) cs

at_most : (n : ℕ) → ¬ (2 ^ 62 < n) → n ≤ 2 ^ 62
at_most n small = elim (cases_lt (2 ^ 62) n) [ inl over ↦ absurd (small over) | inr le ↦ le ]

range_once : (c : Change) (s : StateData) → ¬ Overflows c → IsInRange s → IsInRange (apply c s)
range_once (change_to.Numbers n) s small h = record {
  stack = at_most n.stack (λ over. small (stack n over));
  trav = at_most n.trav (λ over. small (trav n over));
  row = at_most n.row (λ over. small (row n over));
  engine = at_most n.engine (λ over. small (engine n over));
  letter = at_most n.letter (λ over. small (letter n over));
  keys = h.keys;
}
range_once (PutRow r) s small h = record {
  stack = h.stack;
  trav = h.trav;
  row = h.row;
  engine = h.engine;
  letter = h.letter;
  keys = λ n q at. elim (row_put r s.rows at) [
    | inl new ↦ elim (cases_lt r.key (2 ^ 62)) [
      | inl lt ↦ subst (λ (x : Row). x.key < 2 ^ 62) new.1 lt
      | inr le ↦ absurd (small (key r le))
    ]
    | inr old ↦ h.keys n q old.1
  ];
}
range_once (DropRow n) s small h = record {
  stack = h.stack;
  trav = h.trav;
  row = h.row;
  engine = h.engine;
  letter = h.letter;
  keys = λ m q at. h.keys m q (row_cut n s.rows at).1;
}
range_once (PutStack st) s small h =
    record { stack = h.stack; trav = h.trav; row = h.row; engine = h.engine; letter = h.letter; keys = h.keys }
range_once (DropStack name) s small h =
    record { stack = h.stack; trav = h.trav; row = h.row; engine = h.engine; letter = h.letter; keys = h.keys }
range_once (PutGraph name g) s small h =
    record { stack = h.stack; trav = h.trav; row = h.row; engine = h.engine; letter = h.letter; keys = h.keys }
range_once (PutPoint p) s small h =
    record { stack = h.stack; trav = h.trav; row = h.row; engine = h.engine; letter = h.letter; keys = h.keys }
range_once (Send l) s small h =
    record { stack = h.stack; trav = h.trav; row = h.row; engine = h.engine; letter = h.letter; keys = h.keys }
range_once (Drop n) s small h =
    record { stack = h.stack; trav = h.trav; row = h.row; engine = h.engine; letter = h.letter; keys = h.keys }
range_once (PutJob j) s small h =
    record { stack = h.stack; trav = h.trav; row = h.row; engine = h.engine; letter = h.letter; keys = h.keys }
range_once (EndJob e) s small h =
    record { stack = h.stack; trav = h.trav; row = h.row; engine = h.engine; letter = h.letter; keys = h.keys }
range_once (Enlist e) s small h =
    record { stack = h.stack; trav = h.trav; row = h.row; engine = h.engine; letter = h.letter; keys = h.keys }
range_once (Stop e) s small h =
    record { stack = h.stack; trav = h.trav; row = h.row; engine = h.engine; letter = h.letter; keys = h.keys }
range_once (PutPast p) s small h =
    record { stack = h.stack; trav = h.trav; row = h.row; engine = h.engine; letter = h.letter; keys = h.keys }
range_once (Release t) s small h =
    record { stack = h.stack; trav = h.trav; row = h.row; engine = h.engine; letter = h.letter; keys = h.keys }

range_applied : (cs : List Change) (s : StateData) → AllSmall cs → IsInRange s → IsInRange (applied cs s)
range_applied [] s small h = h
range_applied (c ∷ cs) s small h = range_applied cs (apply c s) small.1 (range_once c s small.0 h)

all_small : (cs : List Change) → ¬ IsWorn cs → AllSmall cs
all_small [] lasts = tt
all_small (c ∷ cs) lasts = (
  (λ over. lasts (record { change = c; among = in_head cs c; overflows = over })),
  all_small cs
      (λ w. lasts (record { change = w.change; among = in_tail cs c w.change w.among; overflows = w.overflows })),
)

-- the next numbers behind so many engines
engines_small : (s : StateData) (count : ℕ) → IsInRange s → s.next.engine + count ≤ 2 ^ 62
    → ¬ Overflows (change_to.Numbers (past_engines s.next count))
engines_small s count h few (stack _ over) = let le = h.stack in omega (arith, le, over)
engines_small s count h few (trav _ over) = let le = h.trav in omega (arith, le, over)
engines_small s count h few (row _ over) = let le = h.row in omega (arith, le, over)
engines_small s count h few (engine _ over) = omega (arith, few, over)
engines_small s count h few (letter _ over) = let le = h.letter in omega (arith, le, over)

stops_small : (es : List ℕ) (rest : List Change) → AllSmall rest → AllSmall (map Stop es ++ rest)
stops_small [] rest small = small
stops_small (e ∷ es) rest small = ((λ over. elim over [ ]), stops_small es rest small)

enlists_small : (first count : ℕ) → AllSmall (map Enlist (engines_from first count))
enlists_small first zero = tt
enlists_small first (suc count) = ((λ over. elim over [ ]), enlists_small (first + 1) count)

pub steps_in_range : StepsStayInRange
steps_in_range s cs es h step = range_applied cs s (small cs es step) h where
  none_in : (cs : List Change) → cs ≡ [] → AllSmall cs
  none_in cs is = subst AllSmall (sym is) tt

  small : (cs : List Change) (es : List Entry) → Step s cs es → AllSmall cs
  small cs es (command it fits) = all_small cs fits
  small cs es (turn e given it lasts) = all_small cs (λ w. lasts
      (record { other = given; like = like.same given; changes = cs; entries = es; turn = it; worn = w }))
  small cs es (unstored e given lost all call_ it some fits first is made) = none_in cs is
  small cs es (stop e live is made) = subst AllSmall (sym is) ((λ over. elim over [ ]), tt)
  small cs es (enlist few below is made) = subst AllSmall (sym is)
      (engines_small s 1 h (omega (arith, below)), ((λ over. elim over [ ]), tt))
  small cs es (restart count some few below is made) = subst AllSmall (sym is)
      (engines_small s count h below, stops_small s.live _ (enlists_small s.next.engine count))
  small cs es (note it noted is made) = none_in cs is
  small cs es (close is made) = none_in cs is

-- a key is raised by one at most, where the row stands; that of a new row is none or one
abbrev KeyFits : StateData → Change → Type 0
KeyFits s (PutRow r) = ((q : Row) × (row_at s.rows r.no ≡ Some q) × (r.key ≤ q.key + 1)) ⊎ (r.key ≤ 1)
KeyFits s (PutStack st) = Unit {0}
KeyFits s (DropStack name) = Unit {0}
KeyFits s (DropRow n) = Unit {0}
KeyFits s (PutGraph name g) = Unit {0}
KeyFits s (PutPoint p) = Unit {0}
KeyFits s (Send l) = Unit {0}
KeyFits s (Drop n) = Unit {0}
KeyFits s (PutJob j) = Unit {0}
KeyFits s (EndJob e) = Unit {0}
KeyFits s (Enlist e) = Unit {0}
KeyFits s (Stop e) = Unit {0}
KeyFits s (change_to.Numbers n) = Unit {0}
KeyFits s (PutPast p) = Unit {0}
KeyFits s (Release t) = Unit {0}

abbrev KeysFit : StateData → List Change → Type 0
KeysFit s cs = AllByRecursion (KeyFits s) cs

module _ (s : StateData) where
  raised : (n : ℕ) (r : Row) → row_at s.rows n ≡ Some r → (k : ℕ) → k ≤ r.key + 1
      → ((q : Row) × (row_at s.rows r.no ≡ Some q) × (k ≤ q.key + 1)) ⊎ (k ≤ 1)
  raised n r at k le = inl (r, row_self s.rows n r at, le)

  draw_keys : (next : Numbers) (ls : List Letter) (rest : List Change) → KeysFit s rest
      → KeysFit s (draw_letters next ls rest)
  draw_keys next [] rest fit = fit
  draw_keys next (l ∷ ls) rest fit = (tt, fit)

  lock_keys : (e n : ℕ) (r : Option Row) → row_at s.rows n ≡ r → (rest : List Change) → KeysFit s rest
      → KeysFit s (lock r e rest)
  lock_keys e n None at rest fit = fit
  lock_keys e n (Some r) at rest fit = (raised n r at (r.key + 1) (omega arith), fit)

  unlock_keys : (n : ℕ) (r : Option Row) → row_at s.rows n ≡ r → (rest : List Change) → KeysFit s rest
      → KeysFit s (unlock r rest)
  unlock_keys n None at rest fit = fit
  unlock_keys n (Some r) at rest fit = (raised n r at (r.key + 1) (omega arith), fit)

  send_keys : (ls : List Letter) (rest : List Change) → KeysFit s rest → KeysFit s (map Send ls ++ rest)
  send_keys [] rest fit = fit
  send_keys (l ∷ ls) rest fit = (tt, send_keys ls rest fit)

  sent_keys : (ls : List Letter) → KeysFit s (map Send ls)
  sent_keys [] = tt
  sent_keys (l ∷ ls) = (tt, sent_keys ls)

  point_keys : (ps : List Point) (rest : List Change) → KeysFit s rest → KeysFit s (map PutPoint ps ++ rest)
  point_keys [] rest fit = fit
  point_keys (p ∷ ps) rest fit = (tt, point_keys ps rest fit)

  row_keys : (rs : List Row) (rest : List Change) → ((r : Row) → Contains rs r → r.key ≤ 1) → KeysFit s rest
      → KeysFit s (map PutRow rs ++ rest)
  row_keys [] rest each fit = fit
  row_keys (r ∷ rs) rest each fit =
      (inr (each r (in_head rs r)), row_keys rs rest (λ q c. each q (in_tail rs r q c)) fit)

  failure_keys : (f : Option Stack) → KeysFit s (mark_failed f)
  failure_keys None = tt
  failure_keys (Some st) = (tt, tt)

  mark_keys : (st : Stack) → KeysFit s (mark_complete st)
  mark_keys st = by st.act where
    by : (a : Act) → KeysFit s (mark_complete (record st { act = a }))
    by Delete = (tt, tt)
    by Init = (tt, tt)
    by Create = (tt, tt)
    by Update = (tt, tt)
    by Rollback = (tt, tt)

  released_keys : (f n : ℕ) (r : Option Row) → row_at s.rows n ≡ r → (ls : List Letter)
      → KeysFit s (released_changes s f r ls)
  released_keys f n r at ls = draw_keys s.next ls _ (unlock_keys n r at _ (tt, sent_keys ls))

  failed_keys : (e n : ℕ) (r : Row) → row_at s.rows n ≡ Some r → (ls : List Letter) (f : Option Stack)
      → KeysFit s (failed_changes s e r ls f)
  failed_keys e n r at ls f = draw_keys s.next ls _
      (raised n r at (r.key + 1) (omega arith), (tt, send_keys ls (mark_failed f) (failure_keys f)))

  as_is : (cs ds : List Change) → cs ≡ ds → KeysFit s ds → KeysFit s cs
  as_is cs ds is fit = subst (KeysFit s) (sym is) fit

  move_keys : (e : ℕ) (given : Given) (f : Option Stack) (cs : List Change) (es : List Entry) → Move s e given f cs es
      → KeysFit s cs
  move_keys e _ _ cs es (take_dropped l _ _ t i c d) = as_is cs _ c (tt, tt)
  move_keys e _ _ cs es (take_free k _ _ free c d) = as_is cs _ c
      (lock_keys e k.meant.target k.meant.fresh.row k.meant.fresh.found _ (tt, (tt, tt)))
  move_keys e _ _ cs es (take_stolen k g j _ _ holds n c d) = as_is cs _ c
      (lock_keys e k.meant.target k.meant.fresh.row k.meant.fresh.found _ (tt, (tt, (tt, tt))))
  move_keys e _ _ cs es (begin_overrun j _ _ v k c d) = as_is cs _ c (released_keys e j.row k.row k.found k.letters)
  move_keys e _ _ cs es (begin_faulted k code path f _ _ falls c d) = as_is cs _ c
      (raised k.job.row k.row k.found (k.row.key + 1) (omega arith), (tt, failure_keys f))
  move_keys e _ _ cs es (begin_init k props effect _ _ i c d) = as_is cs _ c
      (raised k.job.row k.row k.found k.row.key (omega arith), (tt, tt))
  move_keys e _ _ cs es (begin_same k props effect _ _ n i x c d) = as_is cs _ c
      (raised k.job.row k.row k.found k.row.key (omega arith), (tt, tt))
  move_keys e _ _ cs es (begin_in_place k props effect _ _ n i x c d) = as_is cs _ c
      (raised k.job.row k.row k.found k.row.key (omega arith), (tt, tt))
  move_keys e _ _ cs es (begin_resumed k props effect _ _ n i x c d) = as_is cs _ c (tt, tt)
  move_keys e _ _ cs es (begin_failed k props effect _ _ n i x c d) = as_is cs _ c
      (raised k.job.row k.row k.found (k.row.key + 1) (omega arith), (tt, tt))
  move_keys e _ _ cs es (begin_replaced k props effect _ _ n x c d) = as_is cs _ c
      (tt, (inr (omega arith), (raised k.job.row k.row k.found (k.row.key + 1) (omega arith), (tt, tt))))
  move_keys e _ _ cs es (clean_gone k _ _ at c d) = as_is cs _ c (tt, tt)
  move_keys e _ _ cs es (clean_kept k r _ _ at x c d) = as_is cs _ c (tt, tt)
  move_keys e _ _ cs es (clean_init k r _ _ at x i c d) = as_is cs _ c (tt, (tt, tt))
  move_keys e _ _ cs es (clean_stuck k r _ _ at x i c d) = as_is cs _ c
      (raised k.job.row r at (r.key + 1) (omega arith), (tt, tt))
  move_keys e _ _ cs es (clean_retained k r _ _ at x n i p c d) = as_is cs _ c (tt, (tt, (tt, tt)))
  move_keys e _ _ cs es (clean_deleted k r _ _ at x n i p c d) = as_is cs _ c
      (raised k.job.row r at r.key (omega arith), (tt, tt))
  move_keys e _ _ cs es (ask_begun k asked _ _ a c d) = as_is cs _ c (tt, tt)
  move_keys e _ _ cs es (ask_failed k asked g reason ls f _ _ a x falls c d) = as_is cs _ c
      (failed_keys e k.job.row k.row k.found ls f)
  move_keys e _ _ cs es (poll_waits k asked _ _ a c d) = as_is cs _ c tt
  move_keys e _ _ cs es (poll_ready k facts _ _ a c d) = as_is cs _ c
      (raised k.job.row k.row k.found k.row.key (omega arith), (tt, tt))
  move_keys e _ _ cs es (poll_gone k _ _ a c d) = as_is cs _ c (tt, (tt, tt))
  move_keys e _ _ cs es (poll_failed k asked g reason ls f _ _ a x falls c d) = as_is cs _ c
      (failed_keys e k.job.row k.row k.found ls f)
  move_keys e _ _ cs es (finish_overrun j _ _ v k c d) = as_is cs _ c (released_keys e j.row k.row k.found k.letters)
  move_keys e _ _ cs es (finish k _ _ n c d) = as_is cs _ c (draw_keys s.next (ready_letters s e k) _
      (unlock_keys k.job.row k.fresh.row k.fresh.found _ (
        tt,
        point_keys
            (passed_points k.fresh.graph k.job.letter.node (given_input s e k) k.succs) _
            (send_keys (ready_letters s e k) [] tt),
      )))
  move_keys e _ _ cs es (finish_last k _ _ y c d) = as_is cs _ c (draw_keys s.next (ready_letters s e k) _
      (unlock_keys k.job.row k.fresh.row k.fresh.found _ (
        tt,
        point_keys
            (passed_points k.fresh.graph k.job.letter.node (given_input s e k) k.succs) _
            (send_keys (ready_letters s e k) _ (mark_keys k.fresh.stack)),
      )))
  move_keys e _ _ cs es (takeover_overrun g j _ _ t k c d) =
      as_is cs _ c (released_keys g j.row k.row k.found k.letters)
  move_keys e _ _ cs es (takeover_fresh g k _ _ c d) = as_is cs _ c
      (released_keys g k.job.row k.fresh.row k.fresh.found (relayed_letter s e g k ∷ []))

-- the rows that a command makes have no key yet
new_keys : (s : StateData) (own : List ℕ) (number next : ℕ) (items : List Item) (ns : List ℕ) (rs : List Row)
    → Chooses s own number next items ns rs → (r : Row) → Contains rs r → r.key ≤ 1
new_keys s own number next _ _ _ (none _) r c = absurd (no_member r c)
new_keys s own number next _ _ _ (current _ item items q chosen rows is on) r c =
    new_keys s own number next items chosen rows on r c
new_keys s own number next _ _ _ (fresh _ item items chosen rows is on) r c = elim (cons_cases rows _ r c) [
  | inl new ↦ (let k = ap (λ (x : Row). x.key) new in omega (arith, k))
  | inr later ↦ new_keys s own number (next + 1) items chosen rows on r later
]

-- what a command lays out, over whatever state its rows are read
laid_keys : (s t : StateData) (name : List ℕ) (items : List Item) (it : Sets) (k : Lays s name items)
    → KeysFit t (laid_changes s name items it k)
laid_keys s t name items it k = (
  tt,
  (
    tt,
    (
      tt,
      row_keys t k.rows _
          (new_keys s name s.next.trav s.next.row items k.chosen k.rows k.chooses)
          (tt, send_keys t (first_letters s name items it k) _ (settled k.graph.nodes)),
    ),
  ),
) where
  settled : (nodes : List Node) → KeysFit t (settles_at_once nodes s name it)
  settled (node ∷ nodes) = tt
  settled [] = mark_keys t (stack_set s name it InProgress)

turn_keys : (s : StateData) (e : ℕ) (given : Given) (cs : List Change) (es : List Entry) → Turn s e given cs es
    → KeysFit s cs
turn_keys s e given cs es t = let m = by_move s e given cs es t in by m m.whole where
  by : (m : ByMove s e given cs es) → Whole s e m.failed m.first m.firsts cs es → KeysFit s cs
  by m (stops p c d) = as_is s cs _ c (move_keys s e given m.failed m.first m.firsts m.move)
  by m (follows st last lasts is due k c d) = as_is s cs _ c
      (all_append (KeyFits s) m.first last (move_keys s e given m.failed m.first m.firsts m.move)
      (as_is s last _ k.changes (laid_keys (applied m.first s) s k.failed.name _ _ k.lays)))

-- what is worn, in a state in range
wears_of : (s : StateData) (cs : List Change) → IsInRange s → KeysFit s cs → (c : Change) → Contains cs c → Overflows c
    → Wears s cs
wears_of s cs h fit _ among (stack n over) = draws n among (last.stack h.stack over)
wears_of s cs h fit _ among (trav n over) = draws n among (last.trav h.trav over)
wears_of s cs h fit _ among (row n over) = draws n among (last.row h.row over)
wears_of s cs h fit _ among (engine n over) = draws n among (last.engine h.engine over)
wears_of s cs h fit _ among (letter n over) = draws n among (last.letter h.letter over)
wears_of s cs h fit _ among (key r le) = elim (all_contains (KeyFits s) cs (PutRow r) fit among) [
  | inl old ↦ (let (q, found, up) = old in let lt = h.keys r.no q found in
      raises r among (record { before = q; found = found; below = lt; last = omega (arith, le, up, lt) }))
  | inr new ↦ absurd (omega (arith, le, new))
]

worn_of : (s : StateData) (cs : List Change) → Wears s cs → IsWorn cs
worn_of s cs (draws n among it) = record { change = change_to.Numbers n; among = among; overflows = by it } where
  by : DrawsLast s n → Overflows (change_to.Numbers n)
  by (last.stack le over) = stack n over
  by (last.trav le over) = trav n over
  by (last.row le over) = row n over
  by (last.engine le over) = engine n over
  by (last.letter le over) = letter n over
worn_of s cs (raises r among it) =
    record { change = PutRow r; among = among; overflows = key r (let is = it.last in omega (arith, is)) }

pub turn_wears : WornTurnWears
turn_wears s e given cs es h t =
    (λ w. wears_of s cs h (turn_keys s e given cs es t) w.change w.among w.overflows, λ w. worn_of s cs w)

pub layout_wears : WornLayoutWears
layout_wears s name items it k h = (
  (λ w. wears_of s _ h (laid_keys s s name items it k) w.change w.among w.overflows),
  (λ w. worn_of s _ w),
)
