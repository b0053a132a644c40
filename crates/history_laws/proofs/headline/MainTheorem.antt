-- Every run from a sound opening has the main theorem, where steps keep a standing state.
use Rattle.std.proofs.Common.{List, ap, arith, refl, subst, suc, zero}
use Rattle.std.specs.Prelude.{List, [], slice_get, take, ℕ, ◌++◌, ◌∷◌, ◌≡◌}
use Rattle.step_relation.specs.Could.{IsPossible}
use Rattle.step_relation.specs.Headline.{FollowedBy}
use Rattle.history_laws.proofs.headline.Once.{possible_before}
use Rattle.history_laws.proofs.headline.Rolling.{run_rolled}
use Rattle.history_laws.proofs.headline.Said.{said_entry, said_pair, said_prefix}
use Rattle.history_laws.proofs.headline.Settled.{settled_as}
use Rattle.history_laws.proofs.headline.StepSaid.{run_said}
use Rattle.history_laws.proofs.headline.Steps.{KeepsSound, keeps_sound, runs_sound, step_sound}
use Rattle.history_laws.proofs.headline.Stirring.{standing_stirs}
use Rattle.history_laws.specs.headline.Kept.{StandingHasHeadline, StandingKeepsSound, StandingStirs, StepsKeepRuns}

split_take : {A : Type 0} (n : ℕ) (xs : List A) → (rest : List A) × (xs ≡ take n xs ++ rest)
split_take zero xs = (xs, refl)
split_take (suc n) [] = ([], refl)
split_take (suc n) (x ∷ xs) = let (rest, is) = split_take n xs in (rest, ap (λ ys. x ∷ ys) is)

pub standing_keeps_sound : StandingKeepsSound
standing_keeps_sound kept_ = step_sound (keeps_sound kept_)

pub steps_keep_runs : StepsKeepRuns
steps_keep_runs = runs_sound

pub standing_has_headline : StandingHasHeadline
standing_has_headline kept_ registries o s h first run possible =
    let stirring : StandingStirs = standing_stirs in
    let keeps : KeepsSound = keeps_sound kept_ in
    let said = run_said keeps registries o s h first run possible in
    let sound = runs_sound (step_sound keeps) registries o s h first run possible in
    record {
      prefixes = λ n le. said_prefix o [] [] h said n le;
      entries = λ n e at. said_entry o [] [] h said n e at;
      pairs = λ n e at. subst (λ (k : ℕ). FollowedBy e (slice_get h k)) (omega arith)
          (said_pair o [] [] h said n e at);
      rolled_back = run_rolled keeps registries o s h first run possible;
      stirs = stirring s sound.standing;
      stirred = λ n mid le mid_run. let (rest, is) = split_take n h in
          stirring mid (runs_sound (step_sound keeps) registries o mid (take n h) first mid_run
          (possible_before o (take n h) rest (subst (IsPossible o) is possible))).standing;
      settled = λ idle name st at. settled_as o h s sound said (stirring s sound.standing) idle name st at;
    }
