-- The calls of a history that goes on, and the states in which the cloud then is.
use Rattle.std.proofs.Common.{List, [], append_assoc, inl, inr, refl, subst, sym, ◌++◌, ◌∷◌, ◌≡◌}
use Rattle.std.specs.Prelude.{Contains}
use Rattle.heat_plan.specs.declared.calls.Answered.{Answered}
use Rattle.heat_plan.specs.declared.calls.Request.{Request}
use Rattle.heat_plan.specs.declared.token.Token.{Token}
use Rattle.provider.proofs.States.{fold-keeps}
use Rattle.provider.specs.Cloud.{Cloud, state_of}
use Rattle.provider.specs.Moves.{Answers}
use Rattle.core_state.specs.declared.entry.Actor.{Actor}
use Rattle.core_state.specs.declared.entry.Entry.{Entry}
use Rattle.step_relation.specs.Writes.{entry_of}
use Rattle.step_relation.specs.Could.{Allows, could_of}
use Rattle.step_relation.specs.Opening.{Opening, first_of}
use Rattle.history_laws.proofs.tells.Silence.{AreUncalling, could-silent}
use Rattle.next_laws.proofs.WorkBelow.{could_else, could_here}
use Rattle.next_laws.proofs.WorkBelow.{token_or_not}
use Rattle.book.specs.Kept.{call_of, calls_of}
use Rattle.core_state.specs.declared.entry.What.TheVariants as what

pub calls_of-append : (h g : List Entry) → calls_of (h ++ g) ≡ calls_of h ++ calls_of g
calls_of-append [] g = refl
calls_of-append (e ∷ h) g = rw (calls_of-append h g) (sym (append_assoc (call_of e.what) (calls_of h) (calls_of g)))

module _ (o : Opening) (h : List Entry) (c d : Cloud) (allows : Allows (first_of o) h c) where
  -- entries without a call, and no token's state has changed
  pub silence_allows : (es : List Entry) → AreUncalling es → ((t : Token) → state_of d t ≡ state_of c t)
      → Allows (first_of o) (h ++ es) d
  silence_allows es silent rests t = rw (could-silent o h es t silent, rests t) (allows t)

  -- one call, whose answer the cloud gave
  pub call_allows : (rest : List Entry) (actor : Actor) (token : Token) (asked : Request) (given : Answered)
      → AreUncalling rest
      → Answers token asked given c d
      → Allows (first_of o) (h ++ entry_of actor (what.Call token asked given) ∷ rest) d
  call_allows rest actor token asked given silent answers t = elim (token_or_not t token) [
    | inl is ↦ subst (λ (x : Token). Contains
        (could_of o (h ++ entry_of actor (what.Call token asked given) ∷ rest) x) (state_of d x)) (sym is)
        (rw (could_here o h rest actor token asked given silent)
        (fold-keeps c d token asked given (could_of o h token) answers (allows token)))
    | inr ne ↦ rw (could_else o h rest actor t token asked given (λ is. ne (sym is)) silent, answers.others t ne)
        (allows t)
  ]
