-- What an inventory and a simulated cloud show, and how the cloud's next call goes.
use Rattle.std.specs.Prelude.{◌≡◌, ◌≢◌, ◌⊎◌, ◌+◌, ℕ, List, length, Option, Some, None}
use Rattle.heat_plan.specs.declared.token.Token.{Token}
use Rattle.provider.specs.declared.alive.Alive.{Alive}
use Rattle.provider.specs.Cloud.{Cloud, entry_of}
use Rattle.sim_cloud.specs.declared.course.Course.{Course}
use Rattle.sim_cloud.specs.declared.inventory.Inventory.{Inventory}
use Rattle.sim_cloud.specs.declared.sim_cloud.SimCloud.{SimCloud}
use Rattle.sim_cloud.specs.Conduct.{course_in, delay_in, code_in}
use Rattle.sim_cloud.specs.Shown.{Beside, shown, quota_in, CountsFault}

abbrev pub beside_of : Inventory → Beside
beside_of i = record { trace = i.trace; quota = quota_in i.quotas; faults = i.faults }

abbrev pub shown_by : Inventory → Cloud
shown_by i = shown i.held.all (beside_of i)

abbrev pub cloud_of : SimCloud → Cloud
cloud_of c = shown_by c.all

-- the number of the next call: one more than calls had memory
abbrev pub number_of : SimCloud → ℕ
number_of c = length c.all.trace + 1

-- how the next call goes
abbrev pub course_of : SimCloud → Course
course_of c = course_in c.conduct.faults c.conduct.late (number_of c)

-- how many polls an accepted request for this kind leaves
abbrev pub delay_of : SimCloud → List ℕ → ℕ
delay_of c kind = delay_in c.conduct.delays kind

-- the same for a resource that may be absent
abbrev pub delay_for : SimCloud → Option Alive → ℕ
delay_for c None = 0
delay_for c (Some it) = delay_of c it.kind

-- how many polls an accepted request for this resource leaves
abbrev pub delay_at : SimCloud → Token → ℕ
delay_at c token = delay_for c (entry_of (cloud_of c) token)

-- with which code a poll of this resource is broken
abbrev pub code_at : SimCloud → Token → Option (List ℕ)
code_at c token = code_in c.conduct.broken token.name

-- a call that had memory fails exactly where its number is listed; this is counted, and the settings stay
pub record Follows {A : Type 0} (failed memory : A) (result : A) (old new : SimCloud) : Type 0 where
  pub works : course_of old ≡ Course.Works → result ≢ failed
  pub fails : course_of old ≢ Course.Works → (result ≡ failed) ⊎ (result ≡ memory)
  pub conduct : new.conduct ≡ old.conduct
  pub count : CountsFault failed result old.all.faults new.all.faults
