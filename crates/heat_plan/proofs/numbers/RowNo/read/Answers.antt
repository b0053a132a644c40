use Rattle.std.proofs.Common.{◌≡◌, ◌<◌, ◌^◌, ℕ, Option, Some, None, SomeIff, IsNone, sym, ◌∙◌, subst, arith}
use Rattle.std.proofs.lemmas.Fmt.{decimal_injective}
use Rattle.heat_plan.specs.Numbers.{IsNumber}
use Rattle.heat_plan.proofs.numbers.RowNo.read.Goals as goal

-- a value with no number is out of range
off : (o : Option ℕ) (v : ℕ) → SomeIff o (IsNumber v) v → IsNone o → IsNumber v → ⊥
off None v h none is = h is
off (Some n) v h none is = cc

pub returns-in-Some-clause-none : goal.returns-in-Some-clause-none
returns-in-Some-clause-none c none n is e =
    let small : n < 2 ^ 64 = omega (arith, is.1) in
    let same : n ≡ c.in-Some.n = decimal_injective n c.in-Some.n small (omega arith) (e ∙ sym c.in-Some.ensures.some) in
    off c.new.result c.in-Some.n c.new.ensures none (subst IsNumber same is)
