-- Where each step keeps a state sound, a sound opening stays so where its engines are stopped and others are enlisted;
-- and one over nothing is sound.
use Rattle.std.proofs.Common.{List, arith, inl, inr, refl, subst, sym}
use Rattle.std.specs.Prelude.{Bool, List, Some, [], ℕ, ◌∷◌, ◌≡◌}
use Rattle.heat_plan.specs.Tables.{at}
use Rattle.heat_plan.specs.declared.token.Token.{Token}
use Rattle.provider.proofs.Lists.{here}
use Rattle.provider.proofs.Sames.{same_token-same}
use Rattle.provider.specs.Cloud.{Cloud, state_of}
use Rattle.provider.specs.declared.alive.Alive.{Alive}
use Rattle.row_table.specs.Rows.{row_at}
use Rattle.row_table.specs.declared.row.Row.{Row}
use Rattle.step_relation.specs.Changes.{applied}
use Rattle.step_relation.specs.State.{StateData}
use Rattle.step_relation.specs.declared.Actor.TheVariants.{Main}
use Rattle.step_relation.specs.declared.Entry.{Entry}
use Rattle.step_relation.specs.Steps.{restart, restart_changes}
use Rattle.step_relation.specs.Unjudged.{unjudged}
use Rattle.step_relation.specs.Writes.{entry_of}
use Rattle.step_relation.specs.Compared.{FindsNothing, IsExpected}
use Rattle.step_relation.specs.Laws.{NothingKeptIsSound, RestartsKeepSound, SoundAt, StepsKeepSound, opening_at}
use Rattle.step_relation.specs.Opening.{bare, first_of}
use Rattle.step_relation.specs.Sound.{Sound}
use Rattle.history_laws.proofs.agrees.Called.{none_in}
use Rattle.history_laws.proofs.headline.Empty.{empty_is_sound}
use Rattle.history_laws.proofs.headline.Openings.{states_are_openings}
use Rattle.step_relation.specs.declared.EngineChange.TheVariants as engine
use Rattle.step_relation.specs.declared.What.TheVariants as what

-- the entry of a restart
abbrev told_of : StateData → ℕ → Entry
told_of image count = entry_of Main (what.Engine (engine.Restart image.next.engine count))

pub restarts_by : StepsKeepSound → RestartsKeepSound
restarts_by steps_sound image cloud count some few below x =
    states_are_openings (opening_at image cloud) (told_of image count ∷ [])
    (applied (restart_changes image count) image) cloud
    (steps_sound unjudged (opening_at image cloud) [] image (restart_changes image count) (told_of image count ∷ []) x
    (restart count some few below refl refl) tt (λ t is. cc))
    (λ t. here (state_of cloud t) (first_of (opening_at image cloud) t) [] refl)

no_row : (n : ℕ) (r : Row) → row_at [] n ≡ Some r → ⊥
unfolding at
no_row n r found = cc

-- nothing stands that could be listed
none_listed : (alive : List Alive) (leaving : Token → Bool)
    → FindsNothing (record { state = bare; alive = alive; leaving = leaving }) → alive ≡ []
none_listed [] leaving finds = refl
none_listed (a ∷ rest) leaving finds = absurd (unexpected (finds.list a.token (rw (same_token-same a.token) refl))) where
  unexpected : IsExpected bare a.token → ⊥
  unexpected (inl known) = no_row a.token.row known.row known.found
  unexpected (inr given) = none_in a.token given

bare_sound : (cloud : Cloud) → cloud.alive ≡ [] → SoundAt bare cloud
bare_sound cloud none =
    subst (λ (alive : List Alive). Sound (record { state = bare; alive = alive; leaving = cloud.leaving }) [] bare)
    (sym none) (empty_is_sound 0 cloud.leaving)

pub empty_by : RestartsKeepSound → NothingKeptIsSound
empty_by restarts cloud count some few finds =
    let none = none_listed cloud.alive cloud.leaving finds in
    (none, restarts bare cloud count some few (omega (arith, few)) (bare_sound cloud none))
