-- What spoils the create: the sentences that each history breaks, and those that it keeps.
use Rattle.std.proofs.Common.{Bool, List, None, Some, [], ap, false, refl, subst, true, ℕ, ◌∷◌, ◌≡◌}
use Rattle.std.proofs.lemmas.List.Elements.{All-cons, All-head, All-nil}
use Rattle.std.specs.Prelude.{Contains, IsSome, ◌++◌}
use Rattle.heat_plan.specs.Tables.{at, cut, put}
use Rattle.heat_plan.specs.declared.calls.Answered.{Answered}
use Rattle.heat_plan.specs.declared.calls.Request.{Request}
use Rattle.heat_plan.specs.declared.item.Policy.TheVariants.{Delete}
use Rattle.heat_plan.specs.declared.phase.Act.TheVariants.{Create}
use Rattle.heat_plan.specs.declared.token.Token.{Token}
use Rattle.provider.specs.Same.{same_token}
use Rattle.provider.specs.Table.{Living}
use Rattle.provider.proofs.Sames.{same_token-true}
use Rattle.row_table.specs.declared.row.Row.{Row}
use Rattle.core_state.specs.declared.entry.Actor.TheVariants.{Engine}
use Rattle.core_state.specs.declared.entry.Entry.{Entry}
use Rattle.core_state.specs.declared.entry.RowWrite.TheVariants.{Purge}
use Rattle.step_relation.specs.Could.{could_of}
use Rattle.step_relation.specs.Fits.{Fits, HasExactly}
use Rattle.step_relation.specs.Marked.{Completed, mark_of}
use Rattle.step_relation.specs.Tokens.{HasRow, token_at}
use Rattle.step_relation.specs.Headline.{AtPrefix, MayBeAsked, poll}
use Rattle.step_relation.specs.Policies.{MayBeReleased}
use Rattle.history_laws.proofs.tables.Puts.{contains_head, contains_none}
use Rattle.history_laws.proofs.tables.Rows.{same_some}
use Rattle.next_laws.proofs.Listings.{in_head, in_tail}
use Rattle.history_examples.specs.Created.{asked, created, finish_tells, history, poll_tells, until_asked}
use Rattle.history_examples.specs.FirstRow.{row_done}
use Rattle.history_examples.specs.Sentences.{CompleteFits, Holds, Marks, Named, Quiet, Releases, Rows, Sentence}
use Rattle.history_examples.specs.Setting.{facts, item, item_name, living, opening, plan, registries, row_writes, says}
use Rattle.history_examples.specs.Setting.{stack_name, token}
use Rattle.history_examples.specs.Spoiled.{IsNoRun, called_when_complete, marked_before_ready, marked_twice}
use Rattle.history_examples.specs.Spoiled.{purged_while_alive, released_without_retain}
use Rattle.history_examples.proofs.Created.{main_theorem, run_asked, run_created}
use Rattle.history_examples.proofs.Kept.{call_keeps, complete_on, fits_still, incomplete, mark_keeps, named_on}
use Rattle.history_examples.proofs.Kept.{release_keeps, rows_on, write_keeps}
use Rattle.history_examples.proofs.Possible.{begun_states, ready_states, some_begun, some_ready, some_told, told_states}
use Rattle.history_examples.proofs.Sentences.{no_run, of_one, of_two, within}
use Rattle.core_state.specs.declared.entry.What.TheVariants as what
use Rattle.heat_plan.specs.declared.calls.Answered.TheVariants as reply
use Rattle.heat_plan.specs.declared.calls.Request.TheVariants as request

-- the moments before
until_asked_right : AtPrefix opening (until_asked false)
until_asked_right = within registries (created false) (until_asked false) (poll_tells ++ finish_tells) main_theorem

created_right : AtPrefix opening history
created_right = within registries (created false) history [] main_theorem

-- a token whose create began isn't ready
pub none_ready : (called : Bool) (it : Living) → begun_states called ≡ Some it ∷ [] → ¬ IsSome it.facts
unfolding begun_states
none_ready true it is ready = cc
none_ready false it is ready = cc

too_early : ¬ Fits opening (until_asked false) stack_name (plan 1)
unfolding begun_states
too_early fitted =
    let it : HasExactly opening (until_asked false) stack_name (plan 1) (item 1) =
    All-head (HasExactly opening (until_asked false) stack_name (plan 1)) (item 1) [] fitted.each in
    none_ready (same_token (token 1) (token_at stack_name item_name it.row)) it.it it.state it.ready

pub before_ready : IsNoRun marked_before_ready
unfolding begun_states at
before_ready = incomplete (until_asked false) until_asked_right (Engine 1) stack_name 1 Create
    (record { trav = 1; act = Create; plan = Some (plan 1) }) refl too_early refl refl refl refl
    registries (asked false) [] run_asked (λ t. some_begun (same_token (token 1) t))

-- a second mark
second_mark : ¬ Holds Marks opening history (says (Engine 1) (what.Mark stack_name 1 Create None))
unfolding at
second_mark holds = let it = (holds stack_name 1 Create None refl).unmarked in cc

complete_there : mark_of opening history stack_name ≡ Some Completed
unfolding at
complete_there = refl

pub twice : IsNoRun marked_twice
unfolding ready_states begun_states
twice = no_run marked_twice registries (created false) [] run_created (λ t. some_ready (same_token (token 1) t)) Marks
    (in_head [] Marks)
    (of_one (λ (y : Sentence). ¬ Holds y opening history (says (Engine 1) (what.Mark stack_name 1 Create None))) Marks
    second_mark)
    (mark_keeps history created_right (Engine 1) stack_name 1 Create (Marks ∷ [])
    (λ not. absurd (not (in_head [] Marks)))
    (λ not s trav act it is new.
    let same : stack_name ≡ s = cc in
    created_right.complete s it new
    (subst (λ (n : List ℕ). mark_of opening history n ≡ Some Completed) same complete_there))
    (λ not. fits_still history created_right (Engine 1) stack_name 1 Create (λ is. complete_there)))

-- the cloud is asked again
abbrev told : Entry
told = says (Engine 1) (what.Call (token 1) request.Poll (reply.Ready facts))

told_same : (called : Bool) → told_states called ≡ ready_states called
unfolding told_states ready_states begun_states
told_same true = refl
told_same false = refl

told_could : (t : Token) → could_of opening (history ++ told ∷ []) t ≡ could_of opening history t
unfolding told_states ready_states begun_states
told_could t = told_same (same_token (token 1) t)

may_poll : (t : Token) (asked : Request) (given : Answered)
    → what.Call (token 1) request.Poll (reply.Ready facts) ≡ what.Call t asked given
    → MayBeAsked (could_of opening history t) asked
may_poll t asked given is =
    let its : token 1 ≡ t = cc in let poll_ : request.Poll ≡ asked = cc in
    subst (λ (x : Token). MayBeAsked (could_of opening history x) asked) its
    (subst (MayBeAsked (could_of opening history (token 1))) poll_
    (poll (All-cons IsSome (Some (living 1 (Some facts))) [] refl (All-nil IsSome))))

late_call : ¬ Holds Quiet opening history told
unfolding at
late_call holds = holds (token 1) request.Poll (reply.Ready facts) refl refl

pub when_complete : IsNoRun called_when_complete
unfolding told_states ready_states begun_states
when_complete = no_run called_when_complete registries (created false) [] run_created
    (λ t. some_told (same_token (token 1) t)) Quiet (in_head [] Quiet)
    (of_one (λ (y : Sentence). ¬ Holds y opening history told) Quiet late_call)
    (call_keeps history (Engine 1) (token 1) request.Poll (reply.Ready facts) (Quiet ∷ [])
    (λ not. absurd (not (in_head [] Quiet)))
    (λ not. may_poll)
    (complete_on history told told_could refl tt created_right)
    (named_on history told told_could refl refl created_right)
    (rows_on history told told_could refl created_right))

-- the row goes
abbrev purge : Entry
purge = row_writes 1 (Purge 1 ∷ [])

nameless : HasRow opening (history ++ purge ∷ []) (token 1) → ⊥
unfolding at put cut
nameless w = let none : None ≡ Some w.row = w.found in cc

unnamed : ¬ Holds Named opening history purge
unnamed named = nameless (named (token 1) (record {
  lives = record { it = living 1 (Some facts); among = contains_head (Some (living 1 (Some facts))) [] };
  owned = λ c. contains_none (token 1) c;
}))

no_rows : Holds Rows opening history purge
unfolding at put cut
no_rows n r state found among = let none : None ≡ Some r = found in cc

pub while_alive : IsNoRun purged_while_alive
unfolding ready_states begun_states
while_alive = no_run purged_while_alive registries (created false) [] run_created
    (λ t. some_ready (same_token (token 1) t)) Named (in_head [] Named)
    (of_one (λ (y : Sentence). ¬ Holds y opening history purge) Named unnamed)
    (write_keeps history (Engine 1) (Purge 1 ∷ []) (Named ∷ []) created_right
    (λ not. absurd (not (in_head [] Named))) (λ not. no_rows))

-- the resource is given up
abbrev release : Entry
release = says (Engine 1) (what.Release (token 1))

not_retained : MayBeReleased opening history (token 1) → ⊥
unfolding at put cut
not_retained x =
    let is : row_done ≡ x.row = same_some row_done x.row refl x.found in
    let policy : Delete ≡ x.row.policy = ap (λ (r : Row). r.policy) is in
    let retained = x.retained in cc

given_up : (called : Bool) (t : Token) → (called ≡ true → token 1 ≡ t) → (it : Living)
    → ready_states called ≡ Some it ∷ []
    → Contains (token 1 ∷ []) t
unfolding ready_states begun_states
given_up true t same it is = subst (Contains (token 1 ∷ [])) (same refl) (contains_head (token 1) [])
given_up false t same it is = cc

not_owned : Fits opening (history ++ release ∷ []) stack_name (plan 1) → ⊥
unfolding ready_states begun_states
not_owned fits =
    let it : HasExactly opening (history ++ release ∷ []) stack_name (plan 1) (item 1) =
    All-head (HasExactly opening (history ++ release ∷ []) stack_name (plan 1)) (item 1) [] fits.each in
    it.owned (given_up (same_token (token 1) (token_at stack_name item_name it.row))
    (token_at stack_name item_name it.row)
    (same_token-true (token 1) (token_at stack_name item_name it.row)) it.it it.state)

unfitting : ¬ Holds CompleteFits opening history release
unfolding at
unfitting fits = not_owned (fits stack_name (record { trav = 1; act = Create; plan = Some (plan 1) }) refl refl)

released_named : Holds Named opening history release
released_named t alive =
    let w = created_right.named t (record { lives = alive.lives; owned = λ c. contains_none t c }) in
    record { row = w.row; found = w.found; its = w.its; begun = w.begun }

pub without_retain : IsNoRun released_without_retain
unfolding ready_states begun_states
without_retain = no_run released_without_retain registries (created false) [] run_created
    (λ t. some_ready (same_token (token 1) t)) Releases (in_head (CompleteFits ∷ []) Releases)
    (of_two (λ (y : Sentence). ¬ Holds y opening history release) Releases CompleteFits
    (λ holds. not_retained (holds (token 1) refl)) unfitting)
    (release_keeps history (Engine 1) (token 1) (Releases ∷ CompleteFits ∷ []) created_right
    (λ not. absurd (not (in_head (CompleteFits ∷ []) Releases)))
    (λ not. absurd (not (in_tail (CompleteFits ∷ []) Releases CompleteFits (in_head [] CompleteFits)))) released_named)
