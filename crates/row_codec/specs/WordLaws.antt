-- That each of the words has one spelling.
use Rattle.std.specs.Prelude.{◌≡◌, ℕ, List, ◌++◌, refl}
use Rattle.std.proofs.Common.{ap, arith}
use Rattle.plan_codec.specs.Below.{IsResName}
use Rattle.plan_codec.specs.Below.{IsNumber}
use Rattle.plan_codec.specs.Below.{Act}
use Rattle.plan_codec.specs.Below.{Init, Create, Update, Delete, Rollback}
use Rattle.plan_codec.specs.Below.{Status}
use Rattle.plan_codec.specs.Below.{Complete, InProgress, Failed}
use Rattle.mail_table.specs.declared.mail.Stage.{Stage}
use Rattle.mail_table.specs.declared.mail.Stage.TheVariants.{Taken, Asking, Polling, Ending}
use Rattle.traversal_graph.specs.declared.shape.Node.{Node}
use Rattle.traversal_graph.specs.declared.shape.Node.TheVariants.{U, C}
use Rattle.plan_codec.specs.Spellings.{IsUnique}
use Rattle.plan_codec.specs.Numbers.{spelled_number, spelled_bytes, IsWord}
use Rattle.plan_codec.specs.Parts.{spelled_pair, AreBoth}
use Rattle.plan_codec.specs.Laws.{narrowed, number_unique, drawn_unique, resource_name_unique, pair_unique}
use Rattle.row_codec.specs.Words.{spelled_act, IsAct, spelled_status, IsStatus, spelled_stage, IsStage, spelled_node, IsProperNode, IsNext}

acts : (x y : Act) (r q : List ℕ) → spelled_act x ++ r ≡ spelled_act y ++ q → (x ≡ y) × (r ≡ q)
acts Init Init r q e = (refl, cc)
acts Init Create r q e = absurd cc
acts Init Update r q e = absurd cc
acts Init Delete r q e = absurd cc
acts Init Rollback r q e = absurd cc
acts Create Init r q e = absurd cc
acts Create Create r q e = (refl, cc)
acts Create Update r q e = absurd cc
acts Create Delete r q e = absurd cc
acts Create Rollback r q e = absurd cc
acts Update Init r q e = absurd cc
acts Update Create r q e = absurd cc
acts Update Update r q e = (refl, cc)
acts Update Delete r q e = absurd cc
acts Update Rollback r q e = absurd cc
acts Delete Init r q e = absurd cc
acts Delete Create r q e = absurd cc
acts Delete Update r q e = absurd cc
acts Delete Delete r q e = (refl, cc)
acts Delete Rollback r q e = absurd cc
acts Rollback Init r q e = absurd cc
acts Rollback Create r q e = absurd cc
acts Rollback Update r q e = absurd cc
acts Rollback Delete r q e = absurd cc
acts Rollback Rollback r q e = (refl, cc)

pub act_unique : IsUnique spelled_act IsAct
act_unique = record { one = λ x y r q p o e. acts x y r q e }

statuss : (x y : Status) (r q : List ℕ) → spelled_status x ++ r ≡ spelled_status y ++ q → (x ≡ y) × (r ≡ q)
statuss Complete Complete r q e = (refl, cc)
statuss Complete InProgress r q e = absurd cc
statuss Complete Failed r q e = absurd cc
statuss InProgress Complete r q e = absurd cc
statuss InProgress InProgress r q e = (refl, cc)
statuss InProgress Failed r q e = absurd cc
statuss Failed Complete r q e = absurd cc
statuss Failed InProgress r q e = absurd cc
statuss Failed Failed r q e = (refl, cc)

pub status_unique : IsUnique spelled_status IsStatus
status_unique = record { one = λ x y r q p o e. statuss x y r q e }

stages : (x y : Stage) (r q : List ℕ) → spelled_stage x ++ r ≡ spelled_stage y ++ q → (x ≡ y) × (r ≡ q)
stages Taken Taken r q e = (refl, cc)
stages Taken Asking r q e = absurd cc
stages Taken Polling r q e = absurd cc
stages Taken Ending r q e = absurd cc
stages Asking Taken r q e = absurd cc
stages Asking Asking r q e = (refl, cc)
stages Asking Polling r q e = absurd cc
stages Asking Ending r q e = absurd cc
stages Polling Taken r q e = absurd cc
stages Polling Asking r q e = absurd cc
stages Polling Polling r q e = (refl, cc)
stages Polling Ending r q e = absurd cc
stages Ending Taken r q e = absurd cc
stages Ending Asking r q e = absurd cc
stages Ending Polling r q e = absurd cc
stages Ending Ending r q e = (refl, cc)

pub stage_unique : IsUnique spelled_stage IsStage
stage_unique = record { one = λ x y r q p o e. stages x y r q e }

pub next_is_word : (n : ℕ) → IsNext n → IsWord n
next_is_word n h = omega (arith, h.1)

pub next_unique : IsUnique spelled_number IsNext
next_unique = narrowed number_unique next_is_word

-- a name and a row
pub named_row_unique : IsUnique (spelled_pair spelled_bytes spelled_number) (AreBoth IsResName IsNumber)
named_row_unique = pair_unique resource_name_unique drawn_unique

nodes : (x y : Node) (r q : List ℕ) → IsProperNode x → IsProperNode y → spelled_node x ++ r ≡ spelled_node y ++ q → (x ≡ y) × (r ≡ q)
nodes (U n x) (U m y) r q p o e =
    let behind : (spelled_bytes n ++ spelled_number x) ++ r ≡ (spelled_bytes m ++ spelled_number y) ++ q = cc in
    let both = named_row_unique.one (n, x) (m, y) r q p o behind in
    (λ i. U ((both.0 i).0) ((both.0 i).1), both.1)
nodes (C x) (C y) r q p o e =
    let behind : spelled_number x ++ r ≡ spelled_number y ++ q = cc in
    let both = drawn_unique.one x y r q p o behind in
    (ap C both.0, both.1)
nodes (U n x) (C y) r q p o e = absurd cc
nodes (C x) (U m y) r q p o e = absurd cc

pub node_unique : IsUnique spelled_node IsProperNode
node_unique = record { one = nodes }
