-- What a cloud file's quotas, delays, broken names and numbers of calls are read as.
use Rattle.std.specs.Prelude.{◌≡◌, ◌⊎◌, ◌<◌, ◌≤◌, ℕ, List, [], Ok, Err, All, length}
use Rattle.serde_json.specs.Data.{Data, array, object}
use Rattle.heat_value.specs.declared.path.Step.{Step}
use Rattle.heat_plan.specs.Names.{IsResName, IsNameByte}
use Rattle.sim_cloud.specs.declared.settings.KindQuota.{KindQuota}
use Rattle.sim_cloud.specs.declared.settings.KindDelay.{KindDelay}
use Rattle.sim_cloud.specs.declared.settings.NameCode.{NameCode}
use Rattle.cloud_file.specs.Sorts.{Read, ReadsNumber, ReadsText}
use Rattle.cloud_file.specs.Lists.{ReadsItems, ReadsMembers}

-- 1 to 255 name bytes or colons
pub record IsKindName (text : List ℕ) : Type 0 where
  pub some : 0 < length text
  pub few : length text ≤ 255
  pub each : All (λ b. IsNameByte b ⊎ (b ≡ 58)) text

-- a lower-case letter, a digit or `_`
abbrev pub IsCodeByte : ℕ → Type 0
IsCodeByte b = ((97 ≤ b) × (b ≤ 122)) ⊎ (((48 ≤ b) × (b ≤ 57)) ⊎ (b ≡ 95))

-- 1 to 32 of these
pub record IsCode (text : List ℕ) : Type 0 where
  pub some : 0 < length text
  pub few : length text ≤ 32
  pub each : All IsCodeByte text

-- a kind's quota
pub data ReadsQuota (k : List ℕ) (d : Data) (r : Read KindQuota) : Type 0 where
  quota_read : IsKindName k → (n : ℕ) → ReadsNumber 0 1000000 d (Ok n)
      → r ≡ Ok (record { kind = k; most = n }) → ReadsQuota k d r
  no_quota : IsKindName k → (p : List Step) → ReadsNumber 0 1000000 d (Err p) → r ≡ Err p → ReadsQuota k d r
  no_quota_kind : ¬ IsKindName k → r ≡ Err [] → ReadsQuota k d r

-- a kind's delay
pub data ReadsDelay (k : List ℕ) (d : Data) (r : Read KindDelay) : Type 0 where
  delay_read : IsKindName k → (n : ℕ) → ReadsNumber 0 64 d (Ok n)
      → r ≡ Ok (record { kind = k; polls = n }) → ReadsDelay k d r
  no_delay : IsKindName k → (p : List Step) → ReadsNumber 0 64 d (Err p) → r ≡ Err p → ReadsDelay k d r
  no_delay_kind : ¬ IsKindName k → r ≡ Err [] → ReadsDelay k d r

-- the code of a resource's name
pub data ReadsBroken (k : List ℕ) (d : Data) (r : Read NameCode) : Type 0 where
  code_read : IsResName k → (s : List ℕ) → ReadsText d (Ok s) → IsCode s
      → r ≡ Ok (record { name = k; code = s }) → ReadsBroken k d r
  no_code : IsResName k → (s : List ℕ) → ReadsText d (Ok s) → ¬ IsCode s → r ≡ Err [] → ReadsBroken k d r
  no_text : IsResName k → (p : List Step) → ReadsText d (Err p) → r ≡ Err p → ReadsBroken k d r
  no_name : ¬ IsResName k → r ≡ Err [] → ReadsBroken k d r

-- the number of a call
abbrev pub ReadsCall : List ℕ → Data → Read ℕ → Type 0
ReadsCall done d r = ReadsNumber 1 9223372036854775807 d r

-- an object of quotas, of delays, of codes; a list of numbers
abbrev pub ReadsQuotas : Data → Read (List KindQuota) → Type 0
ReadsQuotas (object ms) r = ReadsMembers ReadsQuota [] ms r
ReadsQuotas d r = r ≡ Err []

abbrev pub ReadsDelays : Data → Read (List KindDelay) → Type 0
ReadsDelays (object ms) r = ReadsMembers ReadsDelay [] ms r
ReadsDelays d r = r ≡ Err []

abbrev pub ReadsCodes : Data → Read (List NameCode) → Type 0
ReadsCodes (object ms) r = ReadsMembers ReadsBroken [] ms r
ReadsCodes d r = r ≡ Err []

abbrev pub ReadsCalls : Data → Read (List ℕ) → Type 0
ReadsCalls (array ds) r = ReadsItems ReadsCall 0 [] ds r
ReadsCalls d r = r ≡ Err []
