use Rattle.std.proofs.Common.{◌≡◌, ◌++◌, ◌+◌, List, ℕ, length, ◌∙◌, ap, arith, refl}
use Rattle.row_journal.specs.Forms.{spelled}
use Rattle.row_journal.proofs.Spelled.{are_none, one_more, sized_more}
use Rattle.row_journal.proofs.records.read_records.Goals as goal

pub loop-behind-preserved : goal.loop-behind-preserved
loop-behind-preserved c =
    let done = c.loop-behind.payloads.items in
    let all = c.push.new.self.items in
    let p = c.in-Some-first_payload.payload.now in
    let q = c.in_ok-from_slice-in-Some-first_payload.field-0 in
    let is_all = c.in_ok-push-in-Some-first_payload.ensures.items in
    let is_payload = c.in_ok-from_slice-in-Some-first_payload.ensures in
    let place : 1 + length done ≡ c.len.result + 1 = omega (arith, c.len.ensures, c.loop-behind.payloads.ok) in
    record {
      parts = one_more done all p q is_all is_payload c.args.version (c.len.result + 1) c.args.bytes.now c.in-Some.behind.now c.in-Some-first_payload.later.now place
          (c.loop-behind.invariant.parts ∙ ap (λ (l : List ℕ). spelled c.args.version 1 done ++ l) c.in-Some.ensures.some)
          c.in-Some-first_payload.ensures.some;
      sized = sized_more done all p q is_all is_payload c.loop-behind.invariant.sized c.in-Some-first_payload.ensures.sized;
    }

pub returns-in-None-clause-none : goal.returns-in-None-clause-none
returns-in-None-clause-none c same payloads found =
    let done = c.loop-behind.payloads.items in
    let place : 1 + length done ≡ c.len.result + 1 = omega (arith, c.len.ensures, c.loop-behind.payloads.ok) in
    are_none c.args.version (c.len.result + 1) c.args.bytes.now c.in-Some.behind.now done payloads place
    (c.in-None.ensures.none refl) c.loop-behind.invariant.sized
    (c.loop-behind.invariant.parts ∙ ap (λ (l : List ℕ). spelled c.args.version 1 done ++ l) c.in-Some.ensures.some) found
