-- The work as the state alone gives it: it can be told, is never less than the finer form, and is bounded.
use Rattle.std.proofs.Common.{◌≡◌, ◌⊎◌, inl, inr, ◌≤◌, ℕ, ◌+◌, ◌*◌, refl, sym, ap, ◌∙◌, arith}
use Rattle.mail_table.specs.declared.mail.Job.{Job}
use Rattle.mail_table.specs.declared.mail.Stage.{Stage}
use Rattle.mail_table.specs.declared.mail.Stage.TheVariants.{Asking, Ending, Polling, Taken}
use Rattle.core_state.specs.State.{StateData}
use Rattle.heat_plan.specs.declared.token.Token.{Token}
use Rattle.history_laws.proofs.tables.Rows.{same_some}
use Rattle.bound_laws.specs.Counts.{Counts}
use Rattle.bound_laws.specs.Exists.{FullWorkIsOne}
use Rattle.bound_laws.specs.Full.{FullWorkExists, IsFullWork, IsJob, Sizes, WorkIsBounded, WorkIsLess}
use Rattle.bound_laws.specs.Work.{IsAt, IsLate, IsLeft}
use Rattle.bound_laws.proofs.Sets.{at_most, joined}
use Rattle.bound_laws.proofs.Told.{late_told, left_told, letters_told, nodes_told, polls_few, rolls_one, rolls_told}
use Rattle.bound_laws.proofs.Told.{stage_told}

pub full_exists : FullWorkExists
full_exists s =
    let none : Token → ℕ = λ t. 0 in
    let l = letters_told none s in let k = nodes_told none s in let x = left_told none s in
    let a = stage_told none s Taken in let b = stage_told none s Asking in let p = stage_told none s Polling in
    let c = stage_told none s Ending in
    let d = late_told none s in let r = rolls_told none s in (
      69 * l.0 + 69 * k.0 + 70 * x.0 + 68 * a.0 + 67 * b.0 + 66 * p.0 + c.0 + 69 * d.0 + 69 * r.0,
      record {
        letters = l.0;
        nodes = k.0;
        stopped = x.0;
        taken = a.0;
        asking = b.0;
        polling = p.0;
        ending = c.0;
        late = d.0;
        rolls = r.0;
        letters_are = l.1;
        nodes_are = k.1;
        stopped_are = x.1;
        taken_are = a.1;
        asking_are = b.1;
        polling_are = p.1;
        ending_are = c.1;
        late_are = d.1;
        rolls_are = r.1;
        sum = refl;
      },
    )

pub work_less : WorkIsLess
work_less left s n m few a b =
    let l = at_most a.letters_are b.letters_are (λ x k. k) in
    let o = at_most a.nodes_are b.nodes_are (λ x k. k) in
    let x = at_most a.stopped_are b.stopped_are (λ x k. k) in
    let t = at_most a.taken_are b.taken_are (λ x k. k) in
    let q = at_most a.asking_are b.asking_are (λ x k. k) in
    let p = polls_few left s n b.polling a few b.polling_are in
    let c = at_most a.ending_are b.ending_are (λ x k. k) in
    let d = at_most a.late_are b.late_are (λ x k. k) in
    let r = rolls_one s a.rolls b.rolls a.rolls_are b.rolls_are in
    let e = a.sum in let g = b.sum in
    omega (arith, l, o, x, t, q, p, c, d, r, e, g)

full_at_most : (s : StateData) (n m : ℕ) → IsFullWork s n → IsFullWork s m → n ≤ m
full_at_most s n m a b =
    let l = at_most a.letters_are b.letters_are (λ x k. k) in
    let o = at_most a.nodes_are b.nodes_are (λ x k. k) in
    let x = at_most a.stopped_are b.stopped_are (λ x k. k) in
    let t = at_most a.taken_are b.taken_are (λ x k. k) in
    let q = at_most a.asking_are b.asking_are (λ x k. k) in
    let p = at_most a.polling_are b.polling_are (λ x k. k) in
    let c = at_most a.ending_are b.ending_are (λ x k. k) in
    let d = at_most a.late_are b.late_are (λ x k. k) in
    let r = rolls_one s a.rolls b.rolls a.rolls_are b.rolls_are in
    let e = a.sum in let g = b.sum in
    omega (arith, l, o, x, t, q, p, c, d, r, e, g)

pub full_one : FullWorkIsOne
full_one s n m a b =
    let le = full_at_most s n m a b in
    let ge = full_at_most s m n b a in
    omega (arith, le, ge)

module _ (s : StateData) (n : ℕ) (z : Sizes s) (w : IsFullWork s n) where
  stage_one : (x y : Stage) (e : ℕ) → IsAt x s e → IsAt y s e → x ≡ y
  stage_one x y e k q = sym k.stage_is ∙ (ap (λ (j : Job). j.stage) (same_some k.job q.job k.its q.its) ∙ q.stage_is)

  is_job : (stage : Stage) (e : ℕ) → IsAt stage s e → IsJob s e
  is_job stage e k = record { job = k.job; its = k.its }

  abbrev Later : ℕ → Type 0
  Later e = IsAt Polling s e ⊎ IsAt Ending s e

  abbrev Asked : ℕ → Type 0
  Asked e = IsAt Asking s e ⊎ Later e

  abbrev Live : ℕ → Type 0
  Live e = IsAt Taken s e ⊎ Asked e

  later : Counts Later (w.polling + w.ending)
  later = joined w.polling_are w.ending_are (λ e k q. let is = stage_one Polling Ending e k q in cc)

  not_asking : (e : ℕ) → IsAt Asking s e → Later e → ⊥
  not_asking e k (inl q) = let is = stage_one Asking Polling e k q in cc
  not_asking e k (inr q) = let is = stage_one Asking Ending e k q in cc

  asked : Counts Asked (w.asking + (w.polling + w.ending))
  asked = joined w.asking_are later not_asking

  not_taken : (e : ℕ) → IsAt Taken s e → Asked e → ⊥
  not_taken e k (inl q) = let is = stage_one Taken Asking e k q in cc
  not_taken e k (inr (inl q)) = let is = stage_one Taken Polling e k q in cc
  not_taken e k (inr (inr q)) = let is = stage_one Taken Ending e k q in cc

  live : Counts Live (w.taken + (w.asking + (w.polling + w.ending)))
  live = joined w.taken_are asked not_taken

  not_left : (e : ℕ) → IsLeft s e → Live e → ⊥
  not_left e k (inl q) = k.stopped q.live
  not_left e k (inr (inl q)) = k.stopped q.live
  not_left e k (inr (inr (inl q))) = k.stopped q.live
  not_left e k (inr (inr (inr q))) = k.stopped q.live

  jobs_of : (e : ℕ) → IsLeft s e ⊎ Live e → IsJob s e
  jobs_of e (inl k) = record { job = k.job; its = k.its }
  jobs_of e (inr (inl k)) = is_job Taken e k
  jobs_of e (inr (inr (inl k))) = is_job Asking e k
  jobs_of e (inr (inr (inr (inl k)))) = is_job Polling e k
  jobs_of e (inr (inr (inr (inr k)))) = is_job Ending e k

  late_of : (e : ℕ) → IsLeft s e ⊎ IsLate s e → IsJob s e
  late_of e (inl k) = record { job = k.job; its = k.its }
  late_of e (inr k) = record { job = k.job; its = k.its }

  pub bounded : n ≤ 138 * (z.letters + z.nodes) + 206 * z.jobs + 69 * (z.rows + z.updates + z.items)
  bounded =
      let l = at_most w.letters_are z.letters_are (λ x k. k) in
      let o = at_most w.nodes_are z.nodes_are (λ x k. record {
        stack = k.stack;
        graph = k.graph;
        node = k.node;
        in_table = k.in_table;
        its_graph = k.its_graph;
        its_node = k.its_node;
      }) in
      let j = at_most (joined w.stopped_are live not_left) z.jobs_are jobs_of in
      let d = at_most (joined w.stopped_are w.late_are (λ e k q. k.stopped q.live)) z.jobs_are late_of in
      let r = w.rolls_are in
      let rl = at_most r.letters_are z.letters_are (λ x k. record { letter = k.letter; at = k.at }) in
      let ro = at_most r.nodes_are z.nodes_are (λ x q. let k = q.node in record {
        stack = k.stack;
        graph = k.graph;
        node = k.node;
        in_table = k.in_table;
        its_graph = k.its_graph;
        its_node = k.its_node;
      }) in
      let rj = at_most r.jobs_are z.jobs_are (λ x k. record { job = k.job; its = k.its }) in
      let ri = at_most r.items_are z.items_are (λ x k. k) in
      let rr = at_most r.rows_are z.rows_are (λ x k. record { row = k.row; found = k.found }) in
      let rf = at_most r.far_are z.updates_are (λ x k. record {
        stack = k.stack;
        graph = k.graph;
        name = k.name;
        chosen = k.chosen;
        in_table = k.may.in_table;
        its_graph = k.its_graph;
        its_node = k.its_node;
      }) in
      let e = w.sum in let g = r.sum in
      omega (arith, l, o, j, d, rl, ro, rj, ri, rr, rf, e, g)

pub work_bounded : WorkIsBounded
work_bounded = bounded
