-- What the bytes of a cloud file are read as.
use Rattle.std.specs.Prelude.{◌≡◌, ◌⊎◌, ℕ, List, [], ◌∷◌, Option, Some, None, Ok, Err, ⊤}
use Rattle.serde_json.specs.Data.{Data, object, Members, no_members, member}
use Rattle.heat_value.specs.Reading.{IsReading, HasNoReading}
use Rattle.heat_value.specs.declared.path.Step.{Step}
use Rattle.heat_value.specs.declared.path.Step.TheVariants.{Key}
use Rattle.sim_cloud.specs.declared.held.Held.{Held}
use Rattle.sim_cloud.specs.declared.settings.KindQuota.{KindQuota}
use Rattle.sim_cloud.specs.declared.settings.KindDelay.{KindDelay}
use Rattle.sim_cloud.specs.declared.settings.NameCode.{NameCode}
use Rattle.sim_cloud.specs.declared.settings.Settings.{Settings}
use Rattle.sim_cloud.specs.declared.sim_cloud.SimCloud.{SimCloud}
use Rattle.cloud_file.specs.declared.fault.CloudFileFault.{CloudFileFault}
use Rattle.cloud_file.specs.declared.fault.CloudFileFault.TheVariants.{NotJson, Shape, Memory}
use Rattle.cloud_file.specs.declared.keys.Part.{Part}
use Rattle.cloud_file.specs.declared.keys.Part.TheVariants as part
use Rattle.cloud_file.specs.Keys.{part_of}
use Rattle.cloud_file.specs.Sorts.{Read}
use Rattle.cloud_file.specs.Tables.{ReadsQuotas, ReadsDelays, ReadsCodes, ReadsCalls}
use Rattle.cloud_file.specs.Entries.{ReadsAlive, Puts}

-- a part of the file
abbrev pub TakesPart : Part → Data → Settings → Settings → Option (List Step) → Type 0
TakesPart part.Alive d old new fault =
    (r : Read (List Held)) × ReadsAlive d r × Puts (λ x. record old { alive = x }) r new fault
TakesPart part.Broken d old new fault =
    (r : Read (List NameCode)) × ReadsCodes d r × Puts (λ x. record old { broken = x }) r new fault
TakesPart part.Delays d old new fault =
    (r : Read (List KindDelay)) × ReadsDelays d r × Puts (λ x. record old { delays = x }) r new fault
TakesPart part.Faults d old new fault =
    (r : Read (List ℕ)) × ReadsCalls d r × Puts (λ x. record old { faults = x }) r new fault
TakesPart part.Late d old new fault =
    (r : Read (List ℕ)) × ReadsCalls d r × Puts (λ x. record old { late = x }) r new fault
TakesPart part.Quotas d old new fault =
    (r : Read (List KindQuota)) × ReadsQuotas d r × Puts (λ x. record old { quotas = x }) r new fault

abbrev pub TakesIf : Option Part → Data → Settings → Settings → Option (List Step) → Type 0
TakesIf None d old new fault = fault ≡ Some []
TakesIf (Some p) d old new fault = TakesPart p d old new fault

-- a member of the file's object; a key that is no part's is a fault
abbrev pub TakesKey : List ℕ → Data → Settings → Settings → Option (List Step) → Type 0
TakesKey k d old new fault = TakesIf (part_of k) d old new fault

-- nothing is set
abbrev pub unset : Settings
unset = record { alive = []; quotas = []; delays = []; broken = []; faults = []; late = [] }

-- the members of the file's object, by their keys in order
abbrev pub ReadsParts : Settings → Members → Read Settings → Type 0
ReadsParts settings no_members r = r ≡ Ok settings
ReadsParts settings (member k d ms) r =
    ((next : Settings) × TakesKey k d settings next None × ReadsParts next ms r)
    ⊎ ((next : Settings) × (p : List Step) × TakesKey k d settings next (Some p) × (r ≡ Err (Key k ∷ p)))

-- the file's value
abbrev pub ReadsFile : Data → Read Settings → Type 0
ReadsFile (object ms) r = ReadsParts unset ms r
ReadsFile d r = r ≡ Err []

-- the bytes are JSON that is read so
abbrev pub ReadsBytes : List ℕ → Read Settings → Type 0
ReadsBytes bytes r = (d : Data) × IsReading bytes d × ReadsFile d r

-- the cloud that these settings make, of which no call was made
pub record IsMadeOf (s : Settings) (c : SimCloud) : Type 0 where
  pub held : c.all.held.all ≡ s.alive
  pub quotas : c.all.quotas ≡ s.quotas
  pub delays : c.conduct.delays ≡ s.delays
  pub broken : c.conduct.broken ≡ s.broken
  pub failing : c.conduct.faults ≡ s.faults
  pub late : c.conduct.late ≡ s.late
  pub trace : c.all.trace ≡ []
  pub faults : c.all.faults ≡ 0

-- the bytes are a cloud file, and this is its cloud
abbrev pub IsFileOf : List ℕ → SimCloud → Type 0
IsFileOf bytes c = (s : Settings) × ReadsBytes bytes (Ok s) × IsMadeOf s c

-- why bytes are no cloud file
abbrev pub IsFaultOf : List ℕ → CloudFileFault → Type 0
IsFaultOf bytes NotJson = HasNoReading bytes
IsFaultOf bytes (Shape p) = ReadsBytes bytes (Err p)
IsFaultOf bytes Memory = ⊤
