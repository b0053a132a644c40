-- Each live engine has a step for something, or is idle.
use Rattle.std.proofs.Common.{◌≡◌, ◌⊎◌, inl, inr, ◌<◌, ◌≤◌, ℕ, List, [], Option, Some, None, refl, sym, subst}
use Rattle.std.specs.Prelude.{Contains}
use Rattle.heat_plan.specs.declared.calls.Request.{Request}
use Rattle.dep_graph.specs.Lists.{ListsAll}
use Rattle.traversal_graph.specs.declared.shape.Node.{Node}
use Rattle.traversal_graph.specs.declared.shape.Node.TheVariants.{U}
use Rattle.row_table.specs.Rows.{row_at}
use Rattle.row_table.specs.declared.row.Row.{Row}
use Rattle.sync_points.specs.declared.point.Input.{Input}
use Rattle.mail_table.specs.Mails.{job_at, job_key, letter_at, letter_key}
use Rattle.mail_table.specs.declared.mail.Job.{Job}
use Rattle.mail_table.specs.declared.mail.Letter.{Letter}
use Rattle.mail_table.specs.declared.mail.Stage.{Stage}
use Rattle.mail_table.specs.declared.mail.Stage.TheVariants.{Asking, Ending, Polling, Taken}
use Rattle.core_state.specs.State.{StateData}
use Rattle.core_state.specs.declared.graph.Graph.{Graph}
use Rattle.core_state.specs.declared.stack.Stack.{Stack}
use Rattle.history_laws.specs.Asks.{Polls, looks, polls}
use Rattle.history_laws.specs.Begins.{Begins}
use Rattle.history_laws.specs.Freshness.{Names, Serves, cleans, updates}
use Rattle.history_laws.specs.Given.{Answer, Faulted, Given, Nothing}
use Rattle.history_laws.specs.Inputs.{IsRequired}
use Rattle.history_laws.specs.Nexts.{HasLeft, IsIdle, IsLowest, NoLetters, Works}
use Rattle.history_laws.proofs.tables.Rows.{letter-key, same_or_not}
use Rattle.next_laws.specs.HasTurn.{HasWork, NextExists}
use Rattle.next_laws.specs.Suits.{Suits, failed, takes, takes_over}
use Rattle.next_laws.proofs.Collect.{all_of}
use Rattle.next_laws.proofs.Decide.{Decided, bound_at, bound_of, least_or_none, member_or_not, some_or_none}
use Rattle.next_laws.proofs.Sights.{fresh_or_not}
use Rattle.next_laws.proofs.Targets.{delete_or_not}
use Rattle.next_laws.specs.Suits as suits
use Rattle.heat_plan.specs.declared.calls.Answered.TheVariants as answer

abbrev Something : StateData → ℕ → Type 0
Something s e = (given : Given) × Suits s e given

-- the rows that a node requires are listed
named_or_not : (x : Input) → Decided ((name : List ℕ) × (x.name ≡ Some name))
named_or_not x = by x.name refl where
  by : (o : Option (List ℕ)) → x.name ≡ o → Decided ((name : List ℕ) × (x.name ≡ Some name))
  by None none = inr (λ k. let e = k.1 in cc)
  by (Some name) is = inl (name, is)

required_or_not : (inputs : List Input) (n : ℕ) → Decided (IsRequired inputs n)
required_or_not inputs n = elim (some_or_none Gives gives_or_not inputs) [
  | inl found ↦ let (x, among, (named, row)) = found in
      inl (record { input = x; among = among; name = named.0; named = named.1; row = row })
  | inr none ↦ inr (λ k. none k.input k.among ((k.name, k.named), k.row))
] where
  Gives : Input → Type 0
  Gives x = ((name : List ℕ) × (x.name ≡ Some name)) × (x.row ≡ n)

  gives_or_not : (x : Input) → Decided (Gives x)
  gives_or_not x = elim (named_or_not x) [
    | inr not ↦ inr (λ p. not p.0)
    | inl named ↦ elim (same_or_not x.row n) [ inl is ↦ inl (named, is) | inr not ↦ inr (λ p. not p.1) ]
  ]

required_list : (inputs : List Input) → (ns : List ℕ) × ListsAll (IsRequired inputs) ns
required_list inputs =
    let (b, within) = bound_of (λ (x : Input). x.row) inputs in
    all_of (IsRequired inputs) (required_or_not inputs) b
    (λ n k. let lt = within k.input k.among in subst (λ (m : ℕ). m < b) k.row lt)

polled_for : (r : Row) → (asked : Request) × Polls r asked
polled_for r = elim (delete_or_not r.act) [ inl is ↦ (_, looks is) | inr not ↦ (_, polls not) ]

module _ (s : StateData) (e : ℕ) (h : HasWork s e) where
  -- a job at Taken that has work
  begins_with : (j : Job) (w : Works s e j Taken) (st : Stack) (g : Graph) (node : Node) (row : Option Row)
      → Names s j.letter st g node
      → row_at s.rows j.row ≡ row → Serves st node row → Something s e
  begins_with j w st g _ _ names found (updates name chosen item r asked kept) =
      let (p, there) = h.points j st g (U name chosen) w.its names in
      let (ns, are) = required_list p.inputs in
      let k : Begins s e = record {
        job = j;
        stack = st;
        graph = g;
        name = name;
        chosen = chosen;
        item = item;
        row = r;
        point = p;
        required = ns;
        works = w;
        names = names;
        asked = asked;
        found = found;
        kept = kept;
        its_point = there;
        requires_are = are;
      } in (Faulted [] [], suits.faults k [] [])
  begins_with j w st g _ _ names found (cleans n row) =
      (Nothing, suits.cleans (record { job = j; stack = st; graph = g; number = n; works = w; names = names }))

  taken : (j : Job) → Works s e j Taken → Something s e
  taken j w = elim (fresh_or_not s j.letter j.row) [
    | inr over ↦ (Nothing, suits.overruns j w over)
    | inl k ↦ begins_with j w k.stack k.graph k.node k.row k.names k.found k.serves
  ]

  by_stage : (j : Job) (stage : Stage) → Works s e j stage → Something s e
  by_stage j Taken w = taken j w
  by_stage j Asking w =
      let a = h.asking j w.its w.stage_is in (
        Answer answer.Failed,
        suits.asks
            (record { job = j; row = a.row; works = w; found = a.found }) a.asked answer.Failed a.asks (failed a.asked),
      )
  by_stage j Polling w =
      let (r, found) = h.polling j w.its w.stage_is in
      let (asked, is) = polled_for r in (
        Answer answer.Failed,
        suits.polls (record { job = j; row = r; works = w; found = found }) asked answer.Failed is
            (failed asked),
      )
  by_stage j Ending w = (Nothing, suits.ends j w)

-- the lowest letter, or none
module _ (s : StateData) where
  record Waits (n : ℕ) : Type 0 where
    pub letter : Letter
    pub at : letter_at s.letters n ≡ Some letter

  waits_or_not : (n : ℕ) → Decided (Waits n)
  waits_or_not n = by (letter_at s.letters n) refl where
    by : (o : Option Letter) → letter_at s.letters n ≡ o → Decided (Waits n)
    by None none = inr (λ k. let at = k.at in cc)
    by (Some l) at = inl (record { letter = l; at = at })

  lowest_or_none : ((l : Letter) × IsLowest s.letters l) ⊎ NoLetters s
  lowest_or_none = let (b, within) = bound_at letter_key s.letters in elim (least_or_none Waits waits_or_not b) [
    | inl found ↦ let (n, least) = found in
        let number : least.is.letter.no ≡ n = letter-key s.letters n least.is.letter least.is.at in inl (
          least.is.letter,
          record {
            waits = subst (λ (k : ℕ). letter_at s.letters k ≡ Some least.is.letter) (sym number) least.is.at;
            lowest = λ m other at. let le = least.least m (record { letter = other; at = at }) in
                subst (λ (k : ℕ). k ≤ m) (sym number) le;
          },
        )
    | inr none ↦ inr (λ n. by b within none n (letter_at s.letters n) refl)
  ] where
    by : (b : ℕ) → ((k : ℕ) (x : Letter) → letter_at s.letters k ≡ Some x → k < b) → ((k : ℕ) → k < b → ¬ Waits k)
        → (n : ℕ) (o : Option Letter)
        → letter_at s.letters n ≡ o → letter_at s.letters n ≡ None
    by b within none n None is = is
    by b within none n (Some l) is = absurd (none n (within n l is) (record { letter = l; at = is }))

  -- the lowest stopped engine with a job, or none
  record Leaves (f : ℕ) : Type 0 where
    pub job : Job
    pub left : HasLeft s f job

  leaves_or_not : (f : ℕ) → Decided (Leaves f)
  leaves_or_not f = by (job_at s.jobs f) refl where
    by : (o : Option Job) → job_at s.jobs f ≡ o → Decided (Leaves f)
    by None none = inr (λ k. let its = k.left.its in cc)
    by (Some j) its = elim (member_or_not same_or_not s.live f) [
      | inl live ↦ inr (λ k. k.left.stopped live)
      | inr stopped ↦ inl (record { job = j; left = record { stopped = stopped; its = its } })
    ]

  left_or_none : ((f : ℕ) × (j : Job) × HasLeft s f j × ((g : ℕ) (k : Job) → HasLeft s g k → f ≤ g))
      ⊎ ((f : ℕ) (j : Job) → ¬ HasLeft s f j)
  left_or_none = let (b, within) = bound_at job_key s.jobs in elim (least_or_none Leaves leaves_or_not b) [
    | inl found ↦ let (f, least) = found in
        inl (f, least.is.job, least.is.left, (λ g k left. least.least g (record { job = k; left = left })))
    | inr none ↦ inr (λ f j left. none f (within f j left.its) (record { job = j; left = left }))
  ]

module _ (s : StateData) (e : ℕ) (live : Contains s.live e) where
  jobless : job_at s.jobs e ≡ None → Something s e ⊎ IsIdle s e
  jobless none = elim (lowest_or_none s) [
    | inl found ↦ let (l, first) = found in
        inl (Nothing, takes l (record { live = live; jobless = none; first = first }))
    | inr silent ↦ elim (left_or_none s) [
      | inl found ↦ let (f, j, left, lowest) = found in
          inl (
            Nothing,
            takes_over f j
                (record { live = live; jobless = none; silent = silent; left = left; lowest = lowest }),
          )
      | inr none_left ↦ inr (record { live = live; jobless = none; silent = silent; none_left = none_left })
    ]
  ]

  either : HasWork s e → Something s e ⊎ IsIdle s e
  either h = by (job_at s.jobs e) refl where
    by : (o : Option Job) → job_at s.jobs e ≡ o → Something s e ⊎ IsIdle s e
    by None none = jobless none
    by (Some j) its = inl (by_stage s e h j j.stage (record { live = live; its = its; stage_is = refl }))

has_none : (s : StateData) (e : ℕ) (j : Job) → IsIdle s e → job_at s.jobs e ≡ Some j → ⊥
has_none s e j idle its = let none = idle.jobless in cc

waits_none : (s : StateData) (e : ℕ) (l : Letter) → IsIdle s e → letter_at s.letters l.no ≡ Some l → ⊥
waits_none s e l idle waits = let none = idle.silent l.no in cc

apart : (s : StateData) (e : ℕ) (given : Given) → Suits s e given → ¬ IsIdle s e
apart s e given (takes l t) idle = waits_none s e l idle t.first.waits
apart s e given (takes_over f j t) idle = idle.none_left f j t.left
apart s e given (suits.overruns j w over) idle = has_none s e j idle w.its
apart s e given (suits.cleans k) idle = has_none s e k.job idle k.works.its
apart s e given (suits.ends j w) idle = has_none s e j idle w.its
apart s e given (suits.prepares k props effect) idle = has_none s e k.job idle k.works.its
apart s e given (suits.faults k code path) idle = has_none s e k.job idle k.works.its
apart s e given (suits.asks k asked _ a m) idle = has_none s e k.job idle k.works.its
apart s e given (suits.polls k asked _ a m) idle = has_none s e k.job idle k.works.its

pub next_exists : NextExists
next_exists s e h live = record { either = either s e live h; apart = apart s e }
