-- An empty history is sound where nothing stands and nothing is alive.
use Rattle.std.proofs.Common.{Bool, List, ap, arith, inl, inr, refl, subst, suc, sym, zero}
use Rattle.std.specs.Prelude.{Contains, List, None, Option, Some, [], bytes_eq, nat_eq, option_map, slice_index_or, ℕ}
use Rattle.std.specs.Prelude.{◌++◌, ◌+◌, ◌<◌, ◌∷◌, ◌≡◌, ◌≢◌, ◌≤◌}
use Rattle.std.proofs.lemmas.List.Kept.{AllPairs-cons}
use Rattle.std.proofs.lemmas.Option.{get_or_from_slice_get, slice_get-get_or}
use Rattle.heat_plan.specs.Tables.{at}
use Rattle.heat_plan.specs.declared.token.Token.{Token}
use Rattle.provider.specs.Table.{Living}
use Rattle.row_table.specs.Rows.{row_at, row_key}
use Rattle.row_table.specs.declared.row.Row.{Row}
use Rattle.mail_table.specs.Mails.{job_at, job_key, letter_at, letter_key}
use Rattle.mail_table.specs.declared.mail.Job.{Job}
use Rattle.mail_table.specs.declared.mail.Letter.{Letter}
use Rattle.step_relation.specs.State.{graph_at, graph_key, past_at, past_key, stack_at, stack_key}
use Rattle.step_relation.specs.declared.Actor.TheVariants.{Engine}
use Rattle.step_relation.specs.declared.Entry.{Entry}
use Rattle.step_relation.specs.declared.Graph.{Graph}
use Rattle.step_relation.specs.declared.Past.{Past}
use Rattle.step_relation.specs.declared.Stack.{Stack}
use Rattle.step_relation.specs.Steps.{engines_from}
use Rattle.step_relation.specs.Writes.{entry_of}
use Rattle.step_relation.specs.Could.{could_of}
use Rattle.step_relation.specs.Marked.{Marked, marked_stack}
use Rattle.step_relation.specs.Newest.{latest_of}
use Rattle.step_relation.specs.Policies.{PoliciesFit}
use Rattle.step_relation.specs.Opening.{Opening, empty_opening}
use Rattle.step_relation.specs.Agrees.{Agrees}
use Rattle.step_relation.specs.Laws.{EmptyIsSound}
use Rattle.step_relation.specs.Linked.{IsOf, Links, by_job, by_node, by_row}
use Rattle.step_relation.specs.Numbered.{EachOnce, Numbered}
use Rattle.step_relation.specs.Sound.{Sound, Standing}
use Rattle.step_relation.specs.Tells.{ReleasedFits, Tells, never}
use Rattle.history_laws.proofs.agrees.Called.{none_in, only}
use Rattle.step_relation.specs.declared.What.TheVariants as what
use Rattle.provider.proofs.Lists.{cases}

nothing_at : {K A : Type 0} (same : K → K → Bool) (key : A → K) (k : K) (x : A) → at same key [] k ≡ Some x → ⊥
unfolding at
nothing_at same key k x h = cc

none_at : {K A : Type 0} (same : K → K → Bool) (key : A → K) (k : K) → at same key [] k ≡ None
unfolding at
none_at same key k = refl

no_row : (n : ℕ) (r : Row) → row_at [] n ≡ Some r → ⊥
no_row n r h = nothing_at nat_eq row_key n r h

no_job : (n : ℕ) (j : Job) → job_at [] n ≡ Some j → ⊥
no_job n j h = nothing_at nat_eq job_key n j h

no_letter : (n : ℕ) (l : Letter) → letter_at [] n ≡ Some l → ⊥
no_letter n l h = nothing_at nat_eq letter_key n l h

no_stack : (n : List ℕ) (st : Stack) → stack_at [] n ≡ Some st → ⊥
no_stack n st h = nothing_at bytes_eq stack_key n st h

no_graph : (n : List ℕ) (g : Graph) → graph_at [] n ≡ Some g → ⊥
no_graph n g h = nothing_at bytes_eq graph_key n g h

no_past : (n : List ℕ) (p : Past) → past_at [] n ≡ Some p → ⊥
no_past n p h = nothing_at bytes_eq past_key n p h

engines_below : (count first e : ℕ) → Contains (engines_from first count) e → e < first + count
engines_below zero first e c = absurd (none_in e c)
engines_below (suc count) first e c = elim (cases e first (engines_from (first + 1) count) c) [
  | inl is ↦ omega (arith, is)
  | inr rest ↦ let lt = engines_below count (first + 1) e rest in omega (arith, lt)
]

engines_above : (count first e : ℕ) → Contains (engines_from first count) e → first ≤ e
engines_above zero first e c = absurd (none_in e c)
engines_above (suc count) first e c = elim (cases e first (engines_from (first + 1) count) c) [
  | inl is ↦ omega (arith, is)
  | inr rest ↦ let lt = engines_above count (first + 1) e rest in omega (arith, lt)
]

engines_once : (count first : ℕ) → EachOnce (engines_from first count)
engines_once zero first = λ i j d lt below. omega arith
engines_once (suc count) first = behind (engines_from (first + 1) count) (engines_above count (first + 1))
    (engines_once count (first + 1)) where
      behind : (more : List ℕ) → ((e : ℕ) → Contains more e → first + 1 ≤ e) → EachOnce more → EachOnce (first ∷ more)
      behind more above once = AllPairs-cons (λ (a b : ℕ). a ≢ b) first more
          (λ i d lt is. let x = slice_index_or more i d in
          let le = above x (i, lt, get_or_from_slice_get more i x x (slice_get-get_or more i d lt)) in
          omega (arith, is, le)) once

module _ (engines : ℕ) (leaving : Token → Bool) where
  abbrev o : Opening
  o = empty_opening engines leaving

  numbered : Numbered o.state
  numbered = record {
    in_table = λ n r at_n. absurd (no_row n r at_n);
    stacks = λ n st at_n. absurd (no_stack n st at_n);
    rows = λ n r at_n. absurd (no_row n r at_n);
    graphs = λ n g at_n. absurd (no_graph n g at_n);
    letters = λ n l at_n. absurd (no_letter n l at_n);
    jobs = λ n j at_n. absurd (no_job n j at_n);
    live = λ e c. engines_below engines 1 e c;
    once = engines_once engines 1;
  }

  no_owner : (n : ℕ) (a : List ℕ) → IsOf [] [] [] n a → ⊥
  no_owner n a (by_row r at_n is) = no_row n r at_n
  no_owner n a (by_node g i node at_n there_ is) = no_graph a g at_n
  no_owner n a (by_job e j at_n is own) = no_job e j at_n

  links : Links o.state
  links = record {
    numbered = numbered;
    current = record { newest = λ n m a b at_n. absurd (no_row n a at_n) };
    chained = record {
      rises = λ n m r at_n. absurd (no_row n r at_n);
      forth = λ n m r q at_n. absurd (no_row n r at_n);
      back = λ n m r q at_n. absurd (no_row n r at_n);
    };
    locked = record {
      held = λ n e r at_n. absurd (no_row n r at_n);
      holds = λ e j r at_n. absurd (no_job e j at_n);
      apart = λ e f j k at_n. absurd (no_job e j at_n);
    };
    owned = record { one = λ n a b of_a. absurd (no_owner n a of_a) };
  }

  standing : Standing o.state
  standing = record {
    links = links;
    shape = record {
      stand = λ n g at_n. absurd (no_graph n g at_n);
      graphs = λ n st at_n. absurd (no_stack n st at_n);
      rows = λ n st at_n. absurd (no_stack n st at_n);
      each_row = λ n r at_n. absurd (no_row n r at_n);
      jobs = record {
        under_way = λ e j at_n. absurd (no_job e j at_n);
        newest =
            λ e j st at_n. absurd (no_job e j at_n);
      };
      letters = record { newest = λ n l st at_n. absurd (no_letter n l at_n) };
    };
    marks = record { each = λ n st at_n. absurd (no_stack n st at_n) };
    covered = record { each = λ n st g i node at_n. absurd (no_stack n st at_n) };
    pasts = record {
      once = λ i j d lt within. absurd (omega (arith, within));
      each = λ n p at_n. absurd (no_past n p at_n);
    };
  }

  dead : (t : Token) (it : Living) → ¬ Contains (could_of o [] t) (Some it)
  dead t it c = let is = only None (Some it) c in cc

  agrees : Agrees o [] o.state
  agrees = record {
    named = λ t alive. absurd (dead t alive.lives.it alive.lives.among);
    rows = λ n r state at_n. absurd (no_row n r at_n);
    polled = λ e j r state at_n. absurd (no_job e j at_n);
    leaving = λ t it among. absurd (dead t it among);
  }

  tells : Tells o [] o.state
  tells = record {
    rows = refl;
    tokens = refl;
    stacks = λ n st at_n. absurd (no_stack n st at_n);
    gone = λ n none. never (ap (option_map latest_of) (none_at bytes_eq stack_key n))
        (ap (λ (f : Option Stack). option_map (λ (y : Marked). y.mark) (option_map marked_stack f))
        (none_at bytes_eq stack_key n));
    calling = λ before e token request given is. absurd (no_entries before
        (entry_of (Engine e) (what.Call token request given)) is);
  } where
    no_entries : (before : List Entry) (e : Entry) → [] ≡ before ++ e ∷ [] → ⊥
    no_entries [] e is = cc
    no_entries (b ∷ before) e is = cc

  released_ : ReleasedFits o [] o.state
  released_ = record {
    below = λ t c. absurd (none_in t c);
    rowless = λ t r c. absurd (none_in t c);
    uncalled = λ before behind t e is given_ among. absurd (none_behind before behind e is among);
    kept = λ n r at_n. absurd (no_row n r at_n);
  } where
    none_behind : (before behind : List Entry) (e : Entry) → [] ≡ before ++ behind → ¬ Contains behind e
    none_behind [] behind e is c = none_in e (subst (λ (es : List Entry). Contains es e) (sym is) c)
    none_behind (b ∷ before) behind e is c = cc

  policies : PoliciesFit o [] o.state
  policies = record { each = λ n r at_n. absurd (no_row n r at_n) }

  empty : Sound o [] o.state
  empty = record { standing = standing; agrees = agrees; tells = tells; released = released_; policies = policies }

pub empty_is_sound : EmptyIsSound
empty_is_sound engines leaving = empty engines leaving
