-- What a value's text is read as: a fault of it is that of the value.
use Rattle.std.proofs.Common.{◌≡◌, ◌≤◌, ◌<◌, ℕ, List, Some, Result, Ok, Err, IfErr, refl, ap, subst}
use Rattle.std.proofs.Common.{arith}
use Rattle.std.specs.Prelude.{IsUtf8}
use Rattle.serde_json.specs.Data as json
use Rattle.std.specs.Option.{option_and_then}
use Rattle.serde_json.specs.Find.{as_number, as_u64}
use Rattle.serde_json.specs.Read.{read}
use Rattle.heat_value.specs.Reading.{HasNoReading, IsTooDeep, HasBadNumber, IsOfNumber, first_bad}
use Rattle.heat_value.specs.declared.path.Step.{Step}
use Rattle.heat_value.specs.declared.value.Value.{Value}
use Rattle.heat_value.specs.declared.fault.ValueFault.{ValueFault}
use Rattle.heat_value.specs.declared.fault.ValueFault.TheVariants.{NotJson, TooDeep, BadNumber, Memory}

same_data : (a b : json.Data) (text : List ℕ) → read text ≡ Some a → read text ≡ Some b → a ≡ b
same_data a b text e f = cc

pub read_fault : (d : json.Data) (text : List ℕ) (r : Result Value ValueFault) → IsUtf8 text → read text ≡ Some d
    → json.depth d ≤ 64
    → (r ≡ Err NotJson → HasNoReading text) → (r ≡ Err TooDeep → IsTooDeep text)
    → ((p : List Step) → r ≡ Err (BadNumber p) → HasBadNumber text p)
    → IfErr r (λ e. IsOfNumber e (first_bad d))
read_fault d text (Ok v) utf8 back shallow none deep bad = tt
read_fault d text (Err NotJson) utf8 back shallow none deep bad = none refl d (utf8, back)
read_fault d text (Err TooDeep) utf8 back shallow none deep bad =
    let it = deep refl in
    let same = same_data it.data_read d text it.reading.1 back in
    omega (arith, shallow, subst (λ (x : json.Data). 64 < json.depth x) same it.deep)
read_fault d text (Err (BadNumber p)) utf8 back shallow none deep bad =
    let it = bad p refl in
    subst (λ (x : json.Data). first_bad x ≡ Some p) (same_data it.data_read d text it.reading.1 back) it.first
read_fault d text (Err Memory) utf8 back shallow none deep bad = tt

-- a whole number that is found is the value
pub whole_of : (d : json.Data) (w : ℕ) → option_and_then as_u64 (as_number d) ≡ Some w
    → d ≡ json.number (json.unsigned w)
whole_of (json.number (json.unsigned n)) w e =
    let same : n ≡ w = cc in ap (λ (x : ℕ). json.number (json.unsigned x)) same
whole_of (json.number (json.negative z)) w e = cc
whole_of (json.number (json.float x)) w e = cc
whole_of json.null w e = cc
whole_of (json.boolean b) w e = cc
whole_of (json.string s) w e = cc
whole_of (json.array ds) w e = cc
whole_of (json.object ms) w e = cc
