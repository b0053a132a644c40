-- What a history says behind further entries: each reading goes on from where it was.
use Rattle.std.proofs.lemmas.Grind.{fold-append}
use Rattle.std.specs.Prelude.{Bool, List, Option, [], fold, option_map, ℕ, ◌++◌, ◌∷◌, ◌≡◌}
use Rattle.heat_plan.specs.declared.token.Token.{Token}
use Rattle.provider.specs.Table.{TokenState}
use Rattle.row_table.specs.declared.row.Row.{Row}
use Rattle.step_relation.specs.State.{stack_at}
use Rattle.step_relation.specs.declared.Entry.{Entry}
use Rattle.step_relation.specs.Orders.{past_of}
use Rattle.step_relation.specs.Could.{could_by, could_of}
use Rattle.step_relation.specs.Marked.{Marked, marked_by, marked_of, marked_stack}
use Rattle.step_relation.specs.Newest.{Latest, latest_of, newest, newest_by, rollback_by, rollback_of}
use Rattle.step_relation.specs.Opening.{Opening, first_of}
use Rattle.step_relation.specs.Stored.{released, released_by, stored, stored_by}

abbrev pub newest_on : List ℕ → Option Latest → List Entry → Option Latest
newest_on s before es = fold (λ (b : Option Latest) (e : Entry). newest_by s b e.what) before es

abbrev pub marked_on : List ℕ → Option Marked → List Entry → Option Marked
marked_on s before es = fold (λ (b : Option Marked) (e : Entry). marked_by s b e.what) before es

abbrev pub rollback_on : List ℕ → Bool → List Entry → Bool
rollback_on s before es = fold (λ (b : Bool) (e : Entry). rollback_by s b e.what) before es

abbrev pub stored_on : List Row → List Entry → List Row
stored_on rows es = fold (λ (rs : List Row) (e : Entry). stored_by rs e.what) rows es

abbrev pub released_on : List Token → List Entry → List Token
released_on tokens es = fold (λ (ts : List Token) (e : Entry). released_by ts e.what) tokens es

abbrev pub could_on : Token → List TokenState → List Entry → List TokenState
could_on t states es = fold (λ (ss : List TokenState) (e : Entry). could_by t ss e.what) states es

pub newest-append : (o : Opening) (h es : List Entry) (s : List ℕ)
    → newest o (h ++ es) s ≡ newest_on s (newest o h s) es
newest-append o h es s = fold-append (λ (b : Option Latest) (e : Entry). newest_by s b e.what)
    (option_map latest_of (stack_at o.state.stacks s)) h es

pub marked-append : (o : Opening) (h es : List Entry) (s : List ℕ)
    → marked_of o (h ++ es) s ≡ marked_on s (marked_of o h s) es
marked-append o h es s = fold-append (λ (b : Option Marked) (e : Entry). marked_by s b e.what)
    (option_map marked_stack (stack_at o.state.stacks s)) h es

pub rollback-append : (o : Opening) (h es : List Entry) (s : List ℕ)
    → rollback_of o (h ++ es) s ≡ rollback_on s (rollback_of o h s) es
rollback-append o h es s = fold-append (λ (b : Bool) (e : Entry). rollback_by s b e.what)
    (past_of o.state s).rollback h es

pub stored-append : (o : Opening) (h es : List Entry) → stored o (h ++ es) ≡ stored_on (stored o h) es
stored-append o h es = fold-append (λ (rs : List Row) (e : Entry). stored_by rs e.what) o.state.rows h es

pub released-append : (o : Opening) (h es : List Entry) → released o (h ++ es) ≡ released_on (released o h) es
released-append o h es = fold-append (λ (ts : List Token) (e : Entry). released_by ts e.what) o.state.released h es

pub could-append : (o : Opening) (h es : List Entry) (t : Token)
    → could_of o (h ++ es) t ≡ could_on t (could_of o h t) es
could-append o h es t = fold-append (λ (ss : List TokenState) (e : Entry). could_by t ss e.what)
    (first_of o t ∷ []) h es
