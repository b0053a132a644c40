-- Bytes that begin with no act, status or stage.
use Rattle.std.proofs.Common.{◌≡◌, ◌++◌, ◌∷◌, ◌≤◌, ℕ, List, arith}
use Rattle.mail_table.specs.declared.mail.Stage.{Stage}
use Rattle.mail_table.specs.declared.mail.Stage.TheVariants.{Taken, Asking, Polling, Ending}
use Rattle.plan_codec.specs.Below.{Act, Init, Create, Update, Delete, Rollback, Status, Complete, InProgress, Failed}
use Rattle.plan_codec.specs.Spellings.{Lacks}
use Rattle.row_codec.specs.Words.{spelled_act, IsAct, spelled_status, IsStatus, spelled_stage, IsStage}

no_act_tag : (bytes : List ℕ) → ((tag : ℕ) (rest : List ℕ) → bytes ≡ tag ∷ rest → 5 ≤ tag) → (x : Act) (q : List ℕ)
    → bytes ≡ spelled_act x ++ q → ⊥
no_act_tag bytes past Init q e = absurd (omega (arith, past 0 q e))
no_act_tag bytes past Create q e = absurd (omega (arith, past 1 q e))
no_act_tag bytes past Update q e = absurd (omega (arith, past 2 q e))
no_act_tag bytes past Delete q e = absurd (omega (arith, past 3 q e))
no_act_tag bytes past Rollback q e = absurd (omega (arith, past 4 q e))

pub no_act : (bytes : List ℕ) → ((tag : ℕ) (rest : List ℕ) → bytes ≡ tag ∷ rest → 5 ≤ tag) → Lacks spelled_act IsAct bytes
no_act bytes past = record { none = λ x q p e. no_act_tag bytes past x q e }

no_status_tag : (bytes : List ℕ) → ((tag : ℕ) (rest : List ℕ) → bytes ≡ tag ∷ rest → 3 ≤ tag) → (x : Status) (q : List ℕ)
    → bytes ≡ spelled_status x ++ q → ⊥
no_status_tag bytes past Complete q e = absurd (omega (arith, past 0 q e))
no_status_tag bytes past InProgress q e = absurd (omega (arith, past 1 q e))
no_status_tag bytes past Failed q e = absurd (omega (arith, past 2 q e))

pub no_status : (bytes : List ℕ) → ((tag : ℕ) (rest : List ℕ) → bytes ≡ tag ∷ rest → 3 ≤ tag) → Lacks spelled_status IsStatus bytes
no_status bytes past = record { none = λ x q p e. no_status_tag bytes past x q e }

no_stage_tag : (bytes : List ℕ) → ((tag : ℕ) (rest : List ℕ) → bytes ≡ tag ∷ rest → 4 ≤ tag) → (x : Stage) (q : List ℕ)
    → bytes ≡ spelled_stage x ++ q → ⊥
no_stage_tag bytes past Taken q e = absurd (omega (arith, past 0 q e))
no_stage_tag bytes past Asking q e = absurd (omega (arith, past 1 q e))
no_stage_tag bytes past Polling q e = absurd (omega (arith, past 2 q e))
no_stage_tag bytes past Ending q e = absurd (omega (arith, past 3 q e))

pub no_stage : (bytes : List ℕ) → ((tag : ℕ) (rest : List ℕ) → bytes ≡ tag ∷ rest → 4 ≤ tag) → Lacks spelled_stage IsStage bytes
no_stage bytes past = record { none = λ x q p e. no_stage_tag bytes past x q e }
