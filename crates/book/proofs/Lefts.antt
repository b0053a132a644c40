-- What each answer makes of the polls left for each token.
use Rattle.std.proofs.Common.{inl, inr, ◌≡◌, ◌⊎◌}
use Rattle.std.specs.Prelude.{◌≢◌}
use Rattle.heat_plan.specs.declared.calls.Answered.{Answered}
use Rattle.heat_plan.specs.declared.calls.Answered.TheVariants as answer
use Rattle.heat_plan.specs.declared.calls.Request.{Request}
use Rattle.heat_plan.specs.declared.calls.Request.TheVariants.{Create, Delete, Gone, Poll, Update}
use Rattle.heat_plan.specs.declared.token.Token.{Token}
use Rattle.provider.specs.Calls.{HasFailed, IsGone}
use Rattle.provider.specs.Changes.{KeepsOthers, Lowers, Stays, Takes}
use Rattle.provider.specs.Cloud.{Cloud}
use Rattle.book.specs.Scenes.{Polls}

module _ (token : Token) (old new : Cloud) where
  -- other tokens keep theirs
  abbrev OthersKeep : Type 0
  OthersKeep = (t : Token) → t ≢ token → new.left t ≡ old.left t

  stays_keep : Stays old new → OthersKeep
  stays_keep h t ne = h.left t

  pub others_keep : KeepsOthers token old new → OthersKeep
  others_keep h t ne = (h t ne).left

  takes_keep : (asked : Request) → Takes token asked old new → OthersKeep
  takes_keep (Create kind props) (inl adds) = others_keep adds.others
  takes_keep (Create kind props) (inr both) = both.1.others
  takes_keep (Update props) (inl sets) = others_keep sets.others
  takes_keep (Update props) (inr both) = both.1.others
  takes_keep Delete (inl sends) = others_keep sends.others
  takes_keep Delete (inr both) = both.1.others
  takes_keep Poll h = absurd h
  takes_keep Gone h = absurd h

  -- an answer that isn't NotYet
  pub spares : (given : Answered) → given ≢ answer.NotYet → OthersKeep → Polls token given old new
  spares given ne others = record { waits = λ is. absurd (ne is); others = others }

  pub stays_polls : (given : Answered) → given ≢ answer.NotYet → Stays old new → Polls token given old new
  stays_polls given ne h = spares given ne (stays_keep h)

  pub takes_polls : (asked : Request) (given : Answered) → given ≢ answer.NotYet → Takes token asked old new
      → Polls token given old new
  takes_polls asked given ne h = spares given ne (takes_keep asked h)

  pub failed_polls : (asked : Request) → HasFailed token asked old new → Polls token answer.Failed old new
  failed_polls asked h = by h.effect where
    by : Stays old new ⊎ Takes token asked old new → Polls token answer.Failed old new
    by (inl stays) = stays_polls answer.Failed (λ is. cc) stays
    by (inr takes) = takes_polls asked answer.Failed (λ is. cc) takes

  -- NotYet takes one
  pub lowers_polls : Lowers token old new → Polls token answer.NotYet old new
  lowers_polls h = record { waits = λ is. h.lower; others = h.rest.others }

  pub gone_polls : IsGone token old new → Polls token answer.Gone old new
  gone_polls h = elim h.effect [
    | inl removes ↦ spares answer.Gone (λ is. cc) (others_keep removes.others)
    | inr absent ↦ stays_polls answer.Gone (λ is. cc) absent.1
  ]
