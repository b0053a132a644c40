-- An admitted image stays one when its engines are stopped and others are enlisted, and no live engine has a job then.
use Rattle.std.proofs.Common.{◌≡◌, ◌⊎◌, inl, inr, ◌≤◌, ℕ, zero, suc, ◌+◌, List, [], ◌∷◌, ◌++◌, map, not}
use Rattle.std.proofs.Common.{nat_eq, Option}
use Rattle.std.proofs.Common.{Some, None, refl, sym, ap, subst, arith}
use Rattle.std.specs.Prelude.{Contains, true}
use Rattle.std.proofs.lemmas.Bool.Decides.{Decides-eqb}
use Rattle.std.proofs.lemmas.List.Elements.{Contains-append_cases}
use Rattle.heat_plan.specs.declared.token.Token.{Token}
use Rattle.row_table.specs.Rows.{row_at}
use Rattle.row_table.specs.declared.row.Row.{Row}
use Rattle.mail_table.specs.Mails.{job_at}
use Rattle.mail_table.specs.declared.mail.Job.{Job}
use Rattle.core_state.specs.Changes.{applied, apply}
use Rattle.core_state.specs.State.{StateData}
use Rattle.core_state.specs.declared.change.Change.{Change}
use Rattle.core_state.specs.declared.change.Change.TheVariants.{Enlist, Stop}
use Rattle.step_relation.specs.Steps.{engines_from, past_engines, restart_changes}
use Rattle.step_relation.specs.Opening.{Opening}
use Rattle.history_laws.proofs.links.Engines.{links_restarted}
use Rattle.history_laws.proofs.tables.Rows.{job-key}
use Rattle.history_laws.proofs.agrees.Called.{filtered, only}
use Rattle.next_laws.proofs.WorkBelow.{quiet_restart}
use Rattle.next_laws.proofs.Listings.{cons_cases, no_member}
use Rattle.workable_laws.specs.Admitted.{FindsNothing, IsAdmitted, IsRead, IsStill, IsTied}
use Rattle.workable_laws.specs.Admitted.{restarted}
use Rattle.workable_laws.specs.Laws.{RestartedIsWorkable}
use Rattle.workable_laws.specs.Workable.{AreWhole}
use Rattle.workable_laws.proofs.Openings.{admitted}
use Rattle.core_state.specs.declared.change.Change.TheVariants as change_to

-- the live engines are from this number on
abbrev AreHigh : ℕ → StateData → Type 0
AreHigh n t = (f : ℕ) → Contains t.live f → n ≤ f

-- behind the stop of all those that were there
stops_high : (n : ℕ) (es : List ℕ) (rest : List Change) (t : StateData)
    → ((f : ℕ) → Contains t.live f → Contains es f ⊎ (n ≤ f))
    → ((u : StateData) → AreHigh n u → AreHigh n (applied rest u))
    → AreHigh n (applied (map Stop es ++ rest) t)
stops_high n [] rest t low more = more t (λ f c. elim (low f c) [ inl none ↦ absurd (no_member f none) | inr le ↦ le ])
stops_high n (e ∷ es) rest t low more = stops_high n es rest (apply (Stop e) t) still more where
  gone : (f : ℕ) → f ≡ e → not (nat_eq f e) ≡ true → ⊥
  gone f is stays = let test = ap not ((Decides-eqb f e).1 is) in cc

  still : (f : ℕ) → Contains (apply (Stop e) t).live f → Contains es f ⊎ (n ≤ f)
  still f c = let (was, other) = filtered (λ x. not (nat_eq x e)) f t.live c in elim (low f was) [
    | inr le ↦ inr le
    | inl among ↦ elim (cons_cases es e f among) [ inl is ↦ absurd (gone f is other) | inr later ↦ inl later ]
  ]

-- and behind the enlisting of others
enlists_high : (n first count : ℕ) (t : StateData) → n ≤ first → AreHigh n t
    → AreHigh n (applied (map Enlist (engines_from first count)) t)
enlists_high n first zero t le high = high
enlists_high n first (suc count) t le high = enlists_high n (first + 1) count (apply (Enlist first) t)
    (omega (arith, le))
    (λ f c. elim (Contains-append_cases t.live (first ∷ []) f c) [
      | inl old ↦ high f old
      | inr new ↦ (let is = only first f new in omega (arith, is, le))
    ])

restarted_high : (s : StateData) (count : ℕ) → AreHigh s.next.engine (applied (restart_changes s count) s)
restarted_high s count = stops_high s.next.engine s.live (map Enlist (engines_from s.next.engine count))
    (apply (change_to.Numbers (past_engines s.next count)) s) (λ f c. inl c)
    (λ u high. enlists_high s.next.engine s.next.engine count u (omega arith) high)

module _ (o : Opening) (count : ℕ) (a : IsAdmitted o) where
  abbrev s : StateData
  s = o.state

  abbrev t : StateData
  t = applied (restart_changes s count) s

  -- all but the engines is as it was
  rows_are : t.rows ≡ s.rows
  rows_are = ap (λ (x : StateData). x.rows) (quiet_restart s count).is

  jobs_are : t.jobs ≡ s.jobs
  jobs_are = ap (λ (x : StateData). x.jobs) (quiet_restart s count).is

  tokens_are : t.released ≡ s.released
  tokens_are = ap (λ (x : StateData). x.released) (quiet_restart s count).is

  row_number : t.next.row ≡ s.next.row
  row_number = ap (λ (x : StateData). x.next.row) (quiet_restart s count).is

  was_row : (n : ℕ) (r : Row) → row_at t.rows n ≡ Some r → row_at s.rows n ≡ Some r
  was_row n r at = subst (λ (l : List Row). row_at l n ≡ Some r) rows_are at

  was_given : (x : Token) → Contains t.released x → Contains s.released x
  was_given x c = subst (λ (l : List Token). Contains l x) tokens_are c

  read : IsRead t
  read = record {
    graphs = subst AreWhole (sym (quiet_restart s count).is) a.read.graphs;
    acts = λ n r at. a.read.acts n r (was_row n r at);
  }

  tied : IsTied t
  tied = record {
    links = links_restarted s count a.tied.links;
    targets = λ n r at. a.tied.targets n r (was_row n r at);
    released = λ x r c at. a.tied.released x r (was_given x c) (was_row x.row r at);
    below = λ x c. let lt = a.tied.below x (was_given x c) in let same = row_number in omega (arith, lt, same);
  }

  compared : FindsNothing (restarted o count)
  compared = record {
    rows = λ n r at. let k = a.compared.rows n r (was_row n r at) in
        record { ready = k.ready; creating = k.creating; updating = k.updating };
    list = λ x listed. elim (a.compared.list x listed) [
      | inl k ↦ inl (record {
        row = k.row;
        found = subst (λ (l : List Row). row_at l x.row ≡ Some k.row) (sym rows_are) k.found;
        its = k.its;
        begun = k.begun;
      })
      | inr given ↦ inr (subst (λ (l : List Token). Contains l x) (sym tokens_are) given)
    ];
  }

  again : IsAdmitted (restarted o count)
  again = record { read = read; tied = tied; compared = compared }

  -- a live engine is new, and so has no job
  jobless : (e : ℕ) → s.next.engine ≤ e → job_at s.jobs e ≡ None
  jobless e high = by (job_at s.jobs e) refl where
    by : (x : Option Job) → job_at s.jobs e ≡ x → job_at s.jobs e ≡ None
    by None at = at
    by (Some j) at = let lt = (a.tied.links.numbered.jobs e j at).holder in let key = job-key s.jobs e j at in
        absurd (omega (arith, lt, key, high))

  still : IsStill t
  still e c = subst (λ (l : List Job). job_at l e ≡ None) (sym jobs_are) (jobless e (restarted_high s count e c))

pub restarted_workable : RestartedIsWorkable
restarted_workable o count a = admitted (restarted o count) (again o count a) (still o count a)
