-- How a list of events is read as calls.
use Rattle.std.proofs.Common.{◌≡◌, ℕ, ◌+◌, ◌≤◌, List, [], ◌∷◌, ◌++◌, length, drop, refl, sym, ◌∙◌, ap, arith, length-drop}
use Rattle.std.proofs.lemmas.List.{take-append-le, drop-append-le, drop-drop, drop_at}
use Rattle.heat_disk.specs.declared.history.Act.{Act}
use Rattle.heat_disk.specs.declared.history.Act.TheVariants.{Write, Cut, Sync}
use Rattle.heat_disk.specs.declared.history.Event.{Event}
use Rattle.heat_disk.specs.History.{Call, wrote}
use Rattle.heat_disk.specs.Events.{size_of, step_of, log_of, total}

-- one event more
pub log_of-push : (events : List Event) (event : Event) (store : List ℕ) (before : List Call) → log_of (events ++ event ∷ []) store before ≡ (event.half, step_of event.act (drop (total events) store)) ∷ log_of events store before
log_of-push [] event store before = refl
log_of-push (first ∷ events) event store before =
    log_of-push events event (drop (size_of first.act) store) ((first.half, step_of first.act store) ∷ before)
    ∙ ap (λ (rest : List ℕ). (event.half, step_of event.act rest) ∷ log_of events (drop (size_of first.act) store) ((first.half, step_of first.act store) ∷ before))
    (drop-drop (total events) (size_of first.act) store)

pub total-push : (events : List Event) (event : Event) → total (events ++ event ∷ []) ≡ total events + size_of event.act
total-push [] event = omega arith
total-push (first ∷ events) event = omega (arith, total-push events event)

step_of-append : (act : Act) (store more : List ℕ) → size_of act ≤ length store → step_of act (store ++ more) ≡ step_of act store
step_of-append (Write at len) store more fits = ap (λ (bytes : List ℕ). wrote at bytes) (take-append-le len store more fits)
step_of-append (Cut len) store more fits = refl
step_of-append Sync store more fits = refl

-- more bytes behind those of the events change nothing
pub log_of-append : (events : List Event) (store more : List ℕ) (before : List Call) → total events ≤ length store → log_of events (store ++ more) before ≡ log_of events store before
log_of-append [] store more before fits = refl
log_of-append (first ∷ events) store more before fits =
    ap (λ (rest : List ℕ). log_of events rest ((first.half, step_of first.act (store ++ more)) ∷ before)) (drop-append-le (size_of first.act) store more (omega arith))
    ∙ log_of-append events (drop (size_of first.act) store) more ((first.half, step_of first.act (store ++ more)) ∷ before) (omega (arith, length-drop (size_of first.act) store))
    ∙ ap (λ step. log_of events (drop (size_of first.act) store) ((first.half, step) ∷ before)) (step_of-append first.act store more (omega arith))

-- an event whose bytes are put behind those of the others
pub log_of-written : (events : List Event) (event : Event) (store more : List ℕ) → total events ≡ length store → size_of event.act ≡ length more → log_of (events ++ event ∷ []) (store ++ more) [] ≡ (event.half, step_of event.act more) ∷ log_of events store []
log_of-written events event store more is size =
    log_of-push events event (store ++ more) []
    ∙ ap (λ (rest : List ℕ). (event.half, step_of event.act rest) ∷ log_of events (store ++ more) []) (drop_at store more (total events) (sym is))
    ∙ ap (λ (calls : List Call). (event.half, step_of event.act more) ∷ calls) (log_of-append events store more [] (omega arith))
