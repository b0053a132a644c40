-- What a scripted cloud shows, and how its answers go on.
use Rattle.std.specs.Prelude.{◌≡◌, ◌≢◌, ◌⊎◌, ◌+◌, ◌-◌, ◌^◌, min, Option, slice_get}
use Rattle.provider.specs.Cloud.{Cloud}
use Rattle.sim_cloud.specs.Simulated.{shown_by}
use Rattle.sim_cloud.specs.declared.course.Course.{Course}
use Rattle.scripted_cloud.specs.declared.scripted_answer.ScriptedAnswer.{ScriptedAnswer}
use Rattle.scripted_cloud.specs.declared.scripted_cloud.ScriptedCloud.{ScriptedCloud}
use Rattle.scripted_cloud.specs.ScriptedAnswers.{course_of}

abbrev pub cloud_of : ScriptedCloud → Cloud
cloud_of c = shown_by c.all

-- how the next call goes
abbrev pub next_of : ScriptedCloud → Option ScriptedAnswer
next_of c = slice_get c.answers c.next

-- A call that had memory takes one scripted answer, and fails exactly where that says so. One that had none takes none.
pub record FollowsAnswers {A : Type 0} (failed memory : A) (result : A) (old new : ScriptedCloud) : Type 0 where
  pub answers : new.answers ≡ old.answers
  pub next : result ≢ memory → new.next ≡ min (old.next + 1) (2 ^ 64 - 1)
  pub waits : result ≡ memory → new.next ≡ old.next
  pub fails : course_of (next_of old) ≢ Course.Works → (result ≡ failed) ⊎ (result ≡ memory)
  pub works : course_of (next_of old) ≡ Course.Works → result ≢ failed
