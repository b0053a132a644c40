-- How a replay of the calls goes on by one event.
use Rattle.std.proofs.Common.{◌≡◌, ℕ, zero, suc, ◌+◌, ◌<◌, ◌≤◌, true, false, List, [], ◌∷◌, ◌++◌, length, get_or, take, drop, refl, sym, ◌∙◌, ap, subst, arith}
use Rattle.std.proofs.lemmas.Bool.{cond-true, cond-false}
use Rattle.std.proofs.lemmas.List.{take-take, take_more, drop-drop}
use Rattle.heat_disk.specs.declared.half.Half.{Half}
use Rattle.heat_disk.specs.declared.history.Act.{Act}
use Rattle.heat_disk.specs.declared.history.Act.TheVariants.{Write, Cut, Sync}
use Rattle.heat_disk.specs.declared.history.Event.{Event}
use Rattle.heat_disk.specs.History.{Step, Call, Side, wrote, cut_to, synced, after, side, is_same, filled}
use Rattle.heat_disk.specs.Replay.{seen_after, filled_after}
use Rattle.heat_disk.specs.Events.{size_of, step_of, log_of, total}
use Rattle.heat_disk.specs.Sound.{sound_side}
use Rattle.heat_disk.proofs.Fillings.{filled-after}
use Rattle.heat_disk.proofs.Logs.{log_of-push, total-push}

-- these are the bytes and the longest image of the half after these calls
pub record IsAt (half : Half) (start : List ℕ) (fill : ℕ) (calls : List Call) (seen longest : List ℕ) : Type 0 where
  pub seen_is : seen ≡ (side half start calls).seen
  pub longest_is : longest ≡ filled fill (side half start calls)

seen-after : (step : Step) (s : Side) → (after step s).seen ≡ seen_after step s.seen
seen-after (wrote at bytes) s = refl
seen-after (cut_to len) s = refl
seen-after synced s = refl

at_side : (half : Half) (start : List ℕ) (fill : ℕ) (calls : List Call) (s : Side) (seen longest : List ℕ) → side half start calls ≡ s → seen ≡ s.seen → longest ≡ filled fill s → IsAt half start fill calls seen longest
at_side half start fill calls s seen longest is a b = record {
  seen_is = a ∙ sym (ap (λ (t : Side). t.seen) is);
  longest_is = b ∙ sym (ap (λ (t : Side). filled fill t) is);
}

-- a call on this half
pub step_on : (half h : Half) (start : List ℕ) (fill : ℕ) (step : Step) (calls : List Call) (seen longest seen_new longest_new : List ℕ) → is_same h half ≡ true → IsAt half start fill calls seen longest
    → seen_new ≡ seen_after step seen → longest_new ≡ filled_after fill step seen longest → IsAt half start fill ((h, step) ∷ calls) seen_new longest_new
step_on half h start fill step calls seen longest seen_new longest_new same so_far a b =
    let s = side half start calls in
    at_side half start fill ((h, step) ∷ calls) (after step s) seen_new longest_new
    (cond-true (is_same h half) (after step s) s same)
    (a ∙ ap (λ (l : List ℕ). seen_after step l) so_far.seen_is ∙ sym (seen-after step s))
    (b ∙ ap (λ (l : List ℕ). filled_after fill step l longest) so_far.seen_is
    ∙ ap (λ (l : List ℕ). filled_after fill step s.seen l) so_far.longest_is
    ∙ sym (filled-after fill step s (sound_side half start calls)))

-- a call on the other
pub step_off : (half h : Half) (start : List ℕ) (fill : ℕ) (step : Step) (calls : List Call) (seen longest : List ℕ) → is_same h half ≡ false → IsAt half start fill calls seen longest → IsAt half start fill ((h, step) ∷ calls) seen longest
step_off half h start fill step calls seen longest other so_far =
    let s = side half start calls in
    at_side half start fill ((h, step) ∷ calls) s seen longest (cond-false (is_same h half) (after step s) s other) so_far.seen_is so_far.longest_is

-- the event takes its bytes from the front alone
pub step_of-take : (act : Act) (rest : List ℕ) → step_of act (take (size_of act) rest) ≡ step_of act rest
step_of-take (Write at len) rest = ap (λ (bytes : List ℕ). wrote at bytes) (take-take len len rest (omega arith))
step_of-take (Cut len) rest = refl
step_of-take Sync rest = refl

pub total-take : (n : ℕ) (events : List Event) → total (take n events) ≤ total events
total-take zero events = omega arith
total-take (suc n) [] = omega arith
total-take (suc n) (event ∷ events) = omega (arith, total-take n events)

module _ (events : List Event) (i : ℕ) (d : Event) (less : i < length events) where
  one_more : take (i + 1) events ≡ take i events ++ get_or events i d ∷ []
  one_more = take_more events i d less

  -- the next event's bytes are there
  pub fits_next : total (take i events) + size_of (get_or events i d).act ≤ total events
  fits_next = omega (arith, total-push (take i events) (get_or events i d), total-take (i + 1) events, ap total one_more)

  -- the calls with the next event
  pub log_next : (store : List ℕ) → log_of (take (i + 1) events) store [] ≡ ((get_or events i d).half, step_of (get_or events i d).act (drop (total (take i events)) store)) ∷ log_of (take i events) store []
  log_next store = ap (λ (l : List Event). log_of l store []) one_more ∙ log_of-push (take i events) (get_or events i d) store []

  -- what is left behind its bytes
  pub rest_next : (store : List ℕ) → drop (size_of (get_or events i d).act) (drop (total (take i events)) store) ≡ drop (total (take (i + 1) events)) store
  rest_next store =
      drop-drop (size_of (get_or events i d).act) (total (take i events)) store
      ∙ ap (λ (n : ℕ). drop n store) (sym (ap total one_more ∙ total-push (take i events) (get_or events i d)))

  -- the rest of the store once its bytes are taken from it
  pub rest_at : (store rest later : List ℕ) (size : ℕ) → rest ≡ drop (total (take i events)) store → size ≡ size_of (get_or events i d).act → later ≡ drop size rest → later ≡ drop (total (take (i + 1) events)) store
  rest_at store rest later size is same back =
      back ∙ ap (λ (n : ℕ). drop n rest) same ∙ ap (λ (l : List ℕ). drop (size_of (get_or events i d).act) l) is ∙ rest_next store

  same_step : (store rest bytes : List ℕ) (size : ℕ) → rest ≡ drop (total (take i events)) store → size ≡ size_of (get_or events i d).act → bytes ≡ take size rest
      → step_of (get_or events i d).act bytes ≡ step_of (get_or events i d).act (drop (total (take i events)) store)
  same_step store rest bytes size is same front =
      let act = (get_or events i d).act in
      ap (λ (l : List ℕ). step_of act l) (front ∙ ap (λ (n : ℕ). take n rest) same) ∙ step_of-take act rest ∙ ap (λ (l : List ℕ). step_of act l) is

  -- the replay with the next event, on this half
  pub next_on : (half : Half) (start : List ℕ) (fill : ℕ) (store rest bytes : List ℕ) (size : ℕ) (seen longest seen_new longest_new : List ℕ)
      → rest ≡ drop (total (take i events)) store → size ≡ size_of (get_or events i d).act → bytes ≡ take size rest
      → is_same (get_or events i d).half half ≡ true → IsAt half start fill (log_of (take i events) store []) seen longest
      → seen_new ≡ seen_after (step_of (get_or events i d).act bytes) seen → longest_new ≡ filled_after fill (step_of (get_or events i d).act bytes) seen longest
      → IsAt half start fill (log_of (take (i + 1) events) store []) seen_new longest_new
  next_on half start fill store rest bytes size seen longest seen_new longest_new is same front here so_far a b =
      let event = get_or events i d in
      let step = same_step store rest bytes size is same front in
      subst (λ (calls : List Call). IsAt half start fill calls seen_new longest_new) (sym (log_next store))
      (step_on half event.half start fill (step_of event.act (drop (total (take i events)) store)) (log_of (take i events) store []) seen longest seen_new longest_new here so_far
      (a ∙ ap (λ (t : Step). seen_after t seen) step)
      (b ∙ ap (λ (t : Step). filled_after fill t seen longest) step))

  -- and on the other
  pub next_off : (half : Half) (start : List ℕ) (fill : ℕ) (store seen longest : List ℕ) → is_same (get_or events i d).half half ≡ false
      → IsAt half start fill (log_of (take i events) store []) seen longest → IsAt half start fill (log_of (take (i + 1) events) store []) seen longest
  next_off half start fill store seen longest other so_far =
      let event = get_or events i d in
      subst (λ (calls : List Call). IsAt half start fill calls seen longest) (sym (log_next store))
      (step_off half event.half start fill (step_of event.act (drop (total (take i events)) store)) (log_of (take i events) store []) seen longest other so_far)
