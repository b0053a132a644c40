-- A sound opening is admitted.
use Rattle.std.proofs.Common.{◌≡◌, ◌≢◌, ◌⊎◌, inl, inr, ℕ, Bool, true, false, List, [], ◌∷◌, Some, None, refl}
use Rattle.std.proofs.Common.{subst}
use Rattle.std.specs.Prelude.{Contains, IsSome}
use Rattle.heat_plan.specs.declared.phase.Act.TheVariants.{Init}
use Rattle.heat_plan.specs.declared.phase.Status.TheVariants.{Complete}
use Rattle.heat_plan.specs.declared.token.Token.{Token}
use Rattle.provider.proofs.Lists.{here}
use Rattle.provider.proofs.Sames.{same_token-same, same_token-true}
use Rattle.provider.specs.Same.{same_token}
use Rattle.provider.specs.Table.{TokenState}
use Rattle.row_table.specs.Rows.{row_at}
use Rattle.row_table.specs.declared.row.Row.{Row}
use Rattle.step_relation.specs.Rows.{token_of}
use Rattle.step_relation.specs.Opening.{Opening, first_of}
use Rattle.step_relation.specs.Agrees.{StateFits}
use Rattle.step_relation.specs.Sound.{Sound}
use Rattle.next_laws.proofs.Listings.{cons_cases, in_head, in_tail, no_member}
use Rattle.workable_laws.specs.Admitted.{FindsNothing, IsKnown, IsListed, IsListedReady}
use Rattle.workable_laws.specs.Laws.{SoundIsAdmitted}
use Rattle.workable_laws.proofs.Openings.{whole_of}

-- a token is among some, or isn't
given_or_not : (ts : List Token) (t : Token) → Contains ts t ⊎ ¬ Contains ts t
given_or_not [] t = inr (λ c. no_member t c)
given_or_not (x ∷ ts) t = by (same_token x t) refl (given_or_not ts t) where
  by : (b : Bool) → same_token x t ≡ b → Contains ts t ⊎ ¬ Contains ts t → Contains (x ∷ ts) t ⊎ ¬ Contains (x ∷ ts) t
  by true is rest = inl (subst (Contains (x ∷ ts)) (same_token-true x t is) (in_head ts x))
  by false not_ rest = elim rest [
    | inl later ↦ inl (in_tail ts x t later)
    | inr none ↦ inr (λ c. elim (cons_cases ts x t c) [
      | inl is ↦ (let e : same_token x x ≡ false = subst (λ (y : Token). same_token x y ≡ false) is not_ in
          let f = same_token-same x in cc)
      | inr later ↦ none later
    ])
  ]

module _ (o : Opening) (x : Sound o [] o.state) where
  fits : (n : ℕ) (r : Row) → row_at o.state.rows n ≡ Some r → StateFits r (first_of o (token_of r))
  fits n r at = x.agrees.rows n r (first_of o (token_of r)) at
      (here (first_of o (token_of r)) (first_of o (token_of r)) [] refl)

  listed : (n : ℕ) (r : Row) → row_at o.state.rows n ≡ Some r → IsListed o r
  listed n r at = let k = fits n r at in record { ready = ready; creating = k.creating; updating = k.updating } where
    ready : r.status ≡ Complete → r.act ≢ Init → IsListedReady r (first_of o (token_of r))
    ready done begun = let row = x.standing.shape.each_row n r at in record {
      as_it_is = (fits n r at).ready done begun (λ gone. row.leaving gone done);
      facts = row.ready done begun;
    }

  known : (t : Token) → IsSome (first_of o t) → IsKnown o.state t ⊎ Contains o.state.released t
  known t some = elim (given_or_not o.state.released t) [
    | inl given ↦ inr given
    | inr kept ↦ inl (by (first_of o t) refl some kept)
  ] where
    by : (y : TokenState) → first_of o t ≡ y → IsSome y → ¬ Contains o.state.released t → IsKnown o.state t
    by None at some kept = cc
    by (Some it) at some kept = let k = x.agrees.named t (record {
      lives = record { it = it; among = here (Some it) (first_of o t) [] at };
      owned = kept;
    }) in record { row = k.row; found = k.found; its = k.its; begun = k.begun }

  compared : FindsNothing o
  compared = record { rows = listed; list = known }

pub sound_admitted : SoundIsAdmitted
sound_admitted o x = record {
  read = record { graphs = whole_of o [] o.state x; acts = λ n r at. (x.standing.shape.each_row n r at).acts };
  tied = record {
    links = x.standing.links;
    targets = λ n r at. (x.standing.shape.each_row n r at).updating;
    released = x.released.rowless;
    below = x.released.below;
  };
  compared = compared o x;
}
