-- What a scripted answer says; past the last the cloud works.
use Rattle.std.specs.Prelude.{ℕ, min, List, Option, Some, None}
use Rattle.sim_cloud.specs.declared.course.Course.{Course}
use Rattle.scripted_cloud.specs.declared.scripted_answer.ScriptedAnswer.{ScriptedAnswer}
use Rattle.scripted_cloud.specs.declared.scripted_answer.ScriptedAnswer.TheVariants as scripted

-- how the call goes
abbrev pub course_of : Option ScriptedAnswer → Course
course_of None = Course.Works
course_of (Some (scripted.Works polls)) = Course.Works
course_of (Some scripted.Fails) = Course.Fails
course_of (Some (scripted.FailsLate polls)) = Course.FailsLate
course_of (Some (scripted.Breaks code)) = Course.Works

-- how many polls its effect leaves
abbrev pub polls_of : Option ScriptedAnswer → ℕ
polls_of None = 0
polls_of (Some (scripted.Works polls)) = min polls 64
polls_of (Some scripted.Fails) = 0
polls_of (Some (scripted.FailsLate polls)) = min polls 64
polls_of (Some (scripted.Breaks code)) = 0

-- with which code a poll is Broken
abbrev pub code_of : Option ScriptedAnswer → Option (List ℕ)
code_of None = None
code_of (Some (scripted.Works polls)) = None
code_of (Some scripted.Fails) = None
code_of (Some (scripted.FailsLate polls)) = None
code_of (Some (scripted.Breaks code)) = Some code
