-- All that suits an engine's next step is of one kind.
use Rattle.std.proofs.Common.{◌≡◌, ◌≢◌, ℕ, Some, sym, ap, subst}
use Rattle.heat_plan.specs.declared.calls.Answered.{Answered}
use Rattle.heat_plan.specs.declared.calls.Request.{Request}
use Rattle.traversal_graph.specs.declared.shape.Node.TheVariants.{C, U}
use Rattle.row_table.specs.declared.row.Row.{Row}
use Rattle.mail_table.specs.declared.mail.Job.{Job}
use Rattle.mail_table.specs.declared.mail.Stage.{Stage}
use Rattle.mail_table.specs.declared.mail.Stage.TheVariants.{Asking, Ending, Polling, Taken}
use Rattle.core_state.specs.State.{StateData}
use Rattle.history_laws.specs.Asks.{Asks, Calls, Polls}
use Rattle.history_laws.specs.Begins.{Begins}
use Rattle.history_laws.specs.Cleanups.{Cleans}
use Rattle.history_laws.specs.Freshness.{IsFresh, IsOverrun, updates}
use Rattle.history_laws.specs.Given.{Answer, Given, Nothing}
use Rattle.history_laws.specs.Nexts.{Works}
use Rattle.next_laws.proofs.Parts.{AtJob, ByLeft, ByLetter, IsNext, Kind, at_job, by_left, by_letter, kind_one}
use Rattle.next_laws.proofs.Readings.{names_one, works_one}
use Rattle.next_laws.proofs.Works.{asks_one, call_one, polls_one}
use Rattle.next_laws.specs.Fits.{IsKin, IsOfItem, SuitsIsOneKind, answers, faulted, items, nothing, prepared}
use Rattle.next_laws.specs.Suits.{MayAnswer, Suits, asks, cleans, ends, faults, overruns, polls, prepares, takes}
use Rattle.next_laws.specs.Suits.{takes_over}

module _ (s : StateData) (e : ℕ) where
  -- at a job's begin, where the node isn't an update node that has work
  no_begin_overrun : (j : Job) → Works s e j Taken → IsOverrun s j → Begins s e → ⊥
  no_begin_overrun j w over k =
      let same : k.job ≡ j = works_one s e Taken Taken k.job j k.works w in
      over (subst (λ (i : Job). IsFresh s i.letter i.row) same (record {
        stack = k.stack;
        graph = k.graph;
        node = U k.name k.chosen;
        row = Some k.row;
        names = k.names;
        found = k.found;
        serves = updates k.name k.chosen k.item k.row k.asked k.kept;
      }))

  no_begin_clean : Cleans s e → Begins s e → ⊥
  no_begin_clean c k =
      let same : c.job ≡ k.job = works_one s e Taken Taken c.job k.job c.works k.works in
      let (_, _, nodes) = names_one s c.job.letter k.job.letter (ap (λ (j : Job). j.letter) same) c.stack k.stack
      c.graph k.graph (C c.number) (U k.name k.chosen) c.names k.names in
      cc

  -- what suits: nothing, where there is nothing to begin and no call; what comes of an item; or an answer
  data Sort : Given → Type 0 where
    still : (kind : Kind) → IsNext s e kind → kind ≢ AtJob Asking → kind ≢ AtJob Polling → ¬ Begins s e → Sort Nothing
    begins : (k : Begins s e) (given : Given) → IsOfItem given → Sort given
    asked : (k : Calls s e Asking) (is : Request) (given : Answered) → Asks k.row is → MayAnswer is given
        → Sort (Answer given)
    polled : (k : Calls s e Polling) (is : Request) (given : Answered) → Polls k.row is → MayAnswer is given
        → Sort (Answer given)

  no_begin : (kind : Kind) → IsNext s e kind → kind ≢ AtJob Taken → Begins s e → ⊥
  no_begin kind next other k = other (kind_one s e kind (AtJob Taken) next (at_job k.job Taken k.works))

  sort_of : (given : Given) → Suits s e given → Sort given
  sort_of _ (takes l t) =
      still ByLetter (by_letter l t) (λ x. cc) (λ x. cc) (no_begin ByLetter (by_letter l t) (λ x. cc))
  sort_of _ (takes_over f j t) =
      still ByLeft (by_left f j t) (λ x. cc) (λ x. cc) (no_begin ByLeft (by_left f j t) (λ x. cc))
  sort_of _ (overruns j w over) = still (AtJob Taken) (at_job j Taken w) (λ x. cc) (λ x. cc) (no_begin_overrun j w over)
  sort_of _ (cleans k) = still (AtJob Taken) (at_job k.job Taken k.works) (λ x. cc) (λ x. cc) (no_begin_clean k)
  sort_of _ (ends j w) =
      still (AtJob Ending) (at_job j Ending w) (λ x. cc) (λ x. cc)
      (no_begin (AtJob Ending) (at_job j Ending w) (λ x. cc))
  sort_of _ (prepares k props effect) = begins k _ (prepared props effect)
  sort_of _ (faults k code path) = begins k _ (faulted code path)
  sort_of _ (asks k is given a m) = asked k is given a m
  sort_of _ (polls k is given a m) = polled k is given a m

  -- a job has one stage
  stages : (j i : Job) (a b : Stage) → Works s e j a → Works s e i b → AtJob a ≡ AtJob b
  stages j i a b w v = kind_one s e (AtJob a) (AtJob b) (at_job j a w) (at_job i b v)

  begin_asks : Begins s e → Calls s e Asking → ⊥
  begin_asks k q = let same = stages k.job q.job Taken Asking k.works q.works in cc

  begin_polls : Begins s e → Calls s e Polling → ⊥
  begin_polls k q = let same = stages k.job q.job Taken Polling k.works q.works in cc

  ask_polls : Calls s e Asking → Calls s e Polling → ⊥
  ask_polls k q = let same = stages k.job q.job Asking Polling k.works q.works in cc

  still_calls : (kind : Kind) (stage : Stage) → IsNext s e kind → kind ≢ AtJob stage → Calls s e stage → ⊥
  still_calls kind stage next other q = other (kind_one s e kind (AtJob stage) next (at_job q.job stage q.works))

  asked_one : (k q : Calls s e Asking) (a b : Request) → Asks k.row a → Asks q.row b → b ≡ a
  asked_one k q a b x y =
      let (_, rows) = call_one s e Asking k q in
      sym (asks_one k.row a b x (subst (λ (r : Row). Asks r b) (sym rows) y))

  polled_one : (k q : Calls s e Polling) (a b : Request) → Polls k.row a → Polls q.row b → b ≡ a
  polled_one k q a b x y =
      let (_, rows) = call_one s e Polling k q in
      sym (polls_one k.row a b x (subst (λ (r : Row). Polls r b) (sym rows) y))

  kin : (a b : Given) → Sort a → Sort b → IsKin a b
  kin _ _ (still kind n no_ask no_poll none) (still _ _ _ _ _) = nothing
  kin _ _ (still kind n no_ask no_poll none) (begins k _ _) = absurd (none k)
  kin _ _ (still kind n no_ask no_poll none) (asked k _ _ _ _) = absurd (still_calls kind Asking n no_ask k)
  kin _ _ (still kind n no_ask no_poll none) (polled k _ _ _ _) = absurd (still_calls kind Polling n no_poll k)
  kin _ _ (begins k _ _) (still _ _ _ _ none) = absurd (none k)
  kin a b (begins k _ i) (begins _ _ j) = items a b i j
  kin _ _ (begins k _ _) (asked q _ _ _ _) = absurd (begin_asks k q)
  kin _ _ (begins k _ _) (polled q _ _ _ _) = absurd (begin_polls k q)
  kin _ _ (asked k _ _ _ _) (still kind n no_ask _ _) = absurd (still_calls kind Asking n no_ask k)
  kin _ _ (asked k _ _ _ _) (begins q _ _) = absurd (begin_asks q k)
  kin _ _ (asked k is a x m) (asked q its b y n) =
      answers is a b m (subst (λ (r : Request). MayAnswer r b) (asked_one k q is its x y) n)
  kin _ _ (asked k _ _ _ _) (polled q _ _ _ _) = absurd (ask_polls k q)
  kin _ _ (polled k _ _ _ _) (still kind n _ no_poll _) = absurd (still_calls kind Polling n no_poll k)
  kin _ _ (polled k _ _ _ _) (begins q _ _) = absurd (begin_polls q k)
  kin _ _ (polled k _ _ _ _) (asked q _ _ _ _) = absurd (ask_polls q k)
  kin _ _ (polled k is a x m) (polled q its b y n) =
      answers is a b m (subst (λ (r : Request). MayAnswer r b) (polled_one k q is its x y) n)

pub suits_is_one_kind : SuitsIsOneKind
suits_is_one_kind s e a b x y = kin s e a b (sort_of s e a x) (sort_of s e b y)
