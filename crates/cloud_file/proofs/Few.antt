-- Few polls are left.
use Rattle.std.proofs.Common.{◌≤◌, List, [], ◌∷◌, ◌++◌}
use Rattle.std.specs.Prelude.{All}
use Rattle.std.proofs.lemmas.List.Elements.{All-push}
use Rattle.sim_cloud.specs.declared.settings.KindDelay.{KindDelay}

pub few_push : (all : List KindDelay) (d : KindDelay) → All (λ (x : KindDelay). x.polls ≤ 64) all → d.polls ≤ 64
    → All (λ (x : KindDelay). x.polls ≤ 64) (all ++ d ∷ [])
few_push all d each few = All-push (λ (x : KindDelay). x.polls ≤ 64) all d each few
