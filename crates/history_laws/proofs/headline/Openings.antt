-- An empty history over nothing is sound, and a sound state is a sound opening again.
use Rattle.std.proofs.Common.{List, ap, refl, subst, sym, ◌∙◌}
use Rattle.std.specs.Prelude.{Contains, List, Option, Some, [], option_map, ℕ, ◌++◌, ◌∷◌, ◌≡◌, ◌≢◌}
use Rattle.heat_plan.specs.Plans.{PlanData}
use Rattle.heat_plan.specs.declared.phase.Act.TheVariants.{Delete}
use Rattle.heat_plan.specs.declared.phase.Status.{Status}
use Rattle.heat_plan.specs.declared.phase.Status.TheVariants.{Complete, Failed, InProgress}
use Rattle.heat_plan.specs.declared.token.Token.{Token}
use Rattle.provider.specs.Cloud.{Cloud, state_of}
use Rattle.provider.specs.Table.{TokenState}
use Rattle.row_table.specs.Rows.{row_at}
use Rattle.row_table.specs.declared.row.Row.{Row}
use Rattle.step_relation.specs.State.{StateData, stack_at}
use Rattle.step_relation.specs.declared.Actor.TheVariants.{Engine}
use Rattle.step_relation.specs.declared.Entry.{Entry}
use Rattle.step_relation.specs.declared.Stack.{Stack}
use Rattle.step_relation.specs.Freshness.{plan_of}
use Rattle.step_relation.specs.Orders.{past_of, plan_back}
use Rattle.step_relation.specs.Rows.{token_of}
use Rattle.step_relation.specs.Writes.{entry_of}
use Rattle.step_relation.specs.Could.{Allows, could_of}
use Rattle.step_relation.specs.Last.{HasCreate, IsLast, IsNeverReached, WasReached, at_first, kept, opened, since}
use Rattle.step_relation.specs.Marked.{Marked, mark_by_status, marked_stack}
use Rattle.step_relation.specs.Newest.{latest_of}
use Rattle.step_relation.specs.Policies.{PoliciesFit, stood}
use Rattle.step_relation.specs.Opening.{Opening, first_of}
use Rattle.step_relation.specs.Tokens.{HasRow}
use Rattle.step_relation.specs.Agrees.{Agrees}
use Rattle.step_relation.specs.Laws.{StatesAreOpenings, opening_at}
use Rattle.step_relation.specs.Sound.{Sound}
use Rattle.step_relation.specs.Tells.{ReleasedFits, Tells, never, status_by}
use Rattle.history_laws.proofs.tables.Rows.{row_self, same_some, stack-key}
use Rattle.history_laws.proofs.agrees.Called.{none_in, only}
use Rattle.history_laws.proofs.agrees.LaidTold.{back_completed, back_incomplete}
use Rattle.step_relation.specs.declared.What.TheVariants as what

module _ (o : Opening) (h : List Entry) (s : StateData) (cloud : Cloud) (x : Sound o h s)
    (shows : Allows (first_of o) h cloud) where
  abbrev now : Opening
  now = opening_at s cloud

  -- what the token's state is, it could be
  was_so : (t : Token) (state : TokenState) → Contains (could_of now [] t) state → Contains (could_of o h t) state
  was_so t state among = subst (λ (y : TokenState). Contains (could_of o h t) y)
      (sym (only (state_of cloud t) state among)) (shows t)

  agrees_again : Agrees now [] s
  agrees_again = record {
    named = λ t alive. by t (x.agrees.named t (record {
      lives = record { it = alive.lives.it; among = was_so t (Some alive.lives.it) alive.lives.among };
      owned = λ c. alive.owned (subst (λ (ts : List Token). Contains ts t) x.tells.tokens c);
    }));
    rows = λ n r state at among. x.agrees.rows n r state at (was_so (token_of r) state among);
    polled = λ e j r state at stage found among. x.agrees.polled e j r state at stage found
        (was_so (token_of r) state among);
    leaving = λ t it among left. x.agrees.leaving t it (was_so t (Some it) among) left;
  } where
    by : (t : Token) → HasRow o h t → HasRow now [] t
    by t k = record {
      row = k.row;
      found = subst (λ (rows : List Row). row_at rows t.row ≡ Some k.row) x.tells.rows
          k.found;
      its = k.its;
      begun = k.begun;
    }

  last_again : (name : List ℕ) (st : Stack) → stack_at s.stacks name ≡ Some st → st.act ≢ Delete
      → IsLast now [] st.name (plan_back s st)
  last_again name st at keeps = by st.status refl where
    self : stack_at s.stacks st.name ≡ Some st
    self = subst (λ (n : List ℕ). stack_at s.stacks n ≡ Some st) (sym (stack-key s.stacks name st at)) at

    no_create : ¬ HasCreate st.name []
    no_create c = none_in c.entry c.among

    never_ : IsNeverReached st.name []
    never_ [] behind e it is r = cc
    never_ (b ∷ before) behind e it is r = cc

    unreached : st.status ≢ Complete → ¬ WasReached st []
    unreached ne (at_first done) = ne done
    unreached ne (since c) = none_in c.entry c.among

    is_kept : st.status ≢ Complete → IsLast now [] st.name (plan_back s st)
    is_kept ne = subst (λ (p : Option PlanData). IsLast now [] st.name (plan_of p))
        (sym (back_incomplete st (past_of s st.name) ne))
        (kept no_create never_ (λ q found keeps_ was. unreached ne
        (subst (λ (y : Stack). WasReached y []) (same_some q st found self) was)))

    by : (b : Status) → st.status ≡ b → IsLast now [] st.name (plan_back s st)
    by InProgress is = is_kept (λ e. let f = sym is ∙ e in cc)
    by Failed is = is_kept (λ e. let f = sym is ∙ e in cc)
    by Complete is = subst (λ (p : Option PlanData). IsLast now [] st.name (plan_of p))
        (sym (back_completed st (past_of s st.name) is keeps))
        (opened st no_create never_ self keeps (at_first is))

  tells_again : Tells now [] s
  tells_again = record {
    rows = refl;
    tokens = refl;
    stacks = λ name st at.
        let self : stack_at s.stacks st.name ≡ Some st = subst (λ (n : List ℕ). stack_at s.stacks n ≡ Some st)
        (sym (stack-key s.stacks name st at)) at in
        record {
          traversal = ap (option_map latest_of) self;
          marked = marked_stack st;
          is_marked = ap (option_map marked_stack) self;
          trav = refl;
          status = status_again st.status;
          rollback = refl;
          last = last_again name st at;
        };
    gone = λ name none. never (ap (option_map latest_of) none)
        (ap (λ (f : Option Stack). option_map (λ (y : Marked). y.mark) (option_map marked_stack f)) none);
    calling = λ before e token request given is. absurd (no_entries before
        (entry_of (Engine e) (what.Call token request given)) is);
  } where
    status_again : (b : Status) → status_by (mark_by_status b) ≡ b
    status_again Complete = refl
    status_again InProgress = refl
    status_again Failed = refl

    no_entries : (before : List Entry) (e : Entry) → [] ≡ before ++ e ∷ [] → ⊥
    no_entries [] e is = cc
    no_entries (b ∷ before) e is = cc

  released_again : ReleasedFits now [] s
  released_again = record {
    below = x.released.below;
    rowless = x.released.rowless;
    uncalled = λ before behind t e is given_ among. absurd (none_behind before behind e is among);
    kept = x.released.kept;
  } where
    none_behind : (before behind : List Entry) (e : Entry) → [] ≡ before ++ behind → ¬ Contains behind e
    none_behind [] behind e is c = none_in e (subst (λ (es : List Entry). Contains es e) (sym is) c)
    none_behind (b ∷ before) behind e is c = cc

  -- each row stands so in the opening
  policies_again : PoliciesFit now [] s
  policies_again = record {
    each = λ n r at ne. stood (λ e it c. absurd (none_in e c)) (record {
      row = r;
      found = row_self s.rows n r at;
      its = refl;
      trav = refl;
      policy = refl;
    });
  }

  pub again : Sound now [] s
  again = record { standing = x.standing; agrees = agrees_again; tells = tells_again; released = released_again; policies = policies_again }

pub states_are_openings : StatesAreOpenings
states_are_openings o h s cloud x allowed = again o h s cloud x allowed
