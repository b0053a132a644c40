-- The holder of a row is the first of its kind.
use Rattle.std.proofs.Common.{◌≡◌, ◌≤◌, ℕ, true, List, Bor, None, Some, arith}
use Rattle.std.specs.Prelude.{IfSome, IsNone, Option, nat_le, option_map}
use Rattle.std.proofs.lemmas.Bool.Decides.{nat_tests}
use Rattle.mail_table.specs.Mails.{job_key}
use Rattle.mail_table.specs.declared.mail.Job.{Job}
use Rattle.step_relation.specs.Takes.{HasNoHolder, IsHolder}
use Rattle.step_reads.proofs.Held.{IsFirst, IsOrder}
use Rattle.step_reads.proofs.Tables.{job-among, job-key, job-self}

pub ups : IsOrder nat_le
ups = record {
  same = λ a. grind (arith, nat_tests);
  total = λ a b e. grind (arith, nat_tests, e);
  goes_on = λ a b c e f. grind (arith, nat_tests, e, f);
}

abbrev pub IsFirstHolder : List Job → ℕ → List Job → Option Job → Type 0
IsFirstHolder jobs n = IsFirst job_key nat_le ups jobs (λ (j : Job). j.row ≡ n)

pub holder_of : (jobs : List Job) (n : ℕ) (best : Option (Bor Job))
    → IsFirstHolder jobs n jobs (option_map (λ j. j.now) best)
    → IfSome best (λ j. IsHolder jobs n j.now.engine j.now)
holder_of jobs n None h = tt
holder_of jobs n (Some j) h = record {
  its = h.stands;
  has = h.of;
  lowest = λ g k at has.
      let le : nat_le j.now.engine k.engine ≡ true = h.first k (job-among jobs g k at) (job-self jobs g k at) has in
      let key : k.engine ≡ g = job-key jobs g k at in
      let less : j.now.engine ≤ k.engine = grind (arith, nat_tests, le) in
      omega (arith, less, key);
}

pub no_holder : (jobs : List Job) (n : ℕ) (best : Option (Bor Job))
    → IsFirstHolder jobs n jobs (option_map (λ j. j.now) best)
    → IsNone best → HasNoHolder jobs n
no_holder jobs n (Some j) h e = cc
no_holder jobs n None h e = λ f j at has. h j (job-among jobs f j at) (job-self jobs f j at) has
