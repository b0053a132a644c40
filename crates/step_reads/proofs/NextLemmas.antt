-- What the best of all letters and jobs is.
use Rattle.std.proofs.Common.{◌≡◌, ℕ, List, [], Bor, None, Some, refl, sym, subst}
use Rattle.std.specs.Prelude.{Contains, IfSome, IsNone, Option, option_map}
use Rattle.heat_plan.specs.Tables.{at}
use Rattle.mail_table.specs.Mails.{job_key, letter_at}
use Rattle.mail_table.specs.declared.mail.Job.{Job}
use Rattle.mail_table.specs.declared.mail.Letter.{Letter}
use Rattle.mail_table.specs.Holders.{IsFirst}
use Rattle.core_state.specs.State.{StateData}
use Rattle.step_relation.specs.Nexts.{IsLowest}
use Rattle.step_reads.specs.Tasks.{HasNoLetter, HasNoneLeft, IsLowestLeft}
use Rattle.step_reads.proofs.Best.{IsBest}

abbrev pub IsBestLeft : StateData → List Job → Option Job → Type 0
IsBestLeft s = IsBest job_key (λ (f : ℕ). ¬ Contains s.live f)

pub lowest_of : (letters : List Letter) (best : Option (Bor Letter))
    → IsFirst letters (option_map (λ b. b.now) best) → IfSome best (λ l. IsLowest letters l.now)
lowest_of letters None h = tt
lowest_of letters (Some l) h = record { waits = h.0; lowest = h.1 }

pub none_of : (letters : List Letter) (best : Option (Bor Letter)) → IsFirst letters (option_map (λ b. b.now) best)
    → IsNone best → HasNoLetter letters
unfolding at
none_of letters (Some l) h e = cc
none_of letters None h e = λ n. subst (λ (ls : List Letter). letter_at ls n ≡ None) (sym h) refl

pub left_of : (s : StateData) (best : Option (Bor Job)) → IsBestLeft s s.jobs (option_map (λ b. b.now) best)
    → IfSome best (λ j. IsLowestLeft s j.now)
left_of s None h = tt
left_of s (Some j) h = record {
  left = record { stopped = h.of; its = h.found };
  lowest = λ g k left. h.least g k left.its left.stopped;
}

pub none_left : (s : StateData) (best : Option (Bor Job)) → IsBestLeft s s.jobs (option_map (λ b. b.now) best)
    → IsNone best → HasNoneLeft s
none_left s (Some j) h e = cc
none_left s None h e = λ f j left. h f j left.its left.stopped

pub none_seen : {A : Type 0} (key : A → ℕ) (Of : ℕ → Type 0) → IsBest key Of [] None
unfolding at
none_seen key Of n x h = cc
