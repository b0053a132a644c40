-- What a text is read as where a json parameter is wanted.
use Rattle.std.proofs.Common.{◌≡◌, ◌∙◌, ℕ, List, Option, Some, None, ap, sym, subst, arith}
use Rattle.serde_json.specs.Data as json
use Rattle.heat_value.proofs.Conversions.{depth-json_of}
use Rattle.heat_value.specs.Compact.{json_of}
use Rattle.heat_value.specs.Data.{Data, null, flag, whole, words, items, fields, depth}
use Rattle.heat_value.specs.Reading.{IsReading, HasNoReading, IsReadAs, IsTooDeep, HasBadNumber, first_bad}
use Rattle.heat_value.specs.declared.path.Step.{Step}
use Rattle.hot_forms.specs.declared.sort.Sort.TheVariants as sort
use Rattle.hot_params.specs.Conversions.{IsJsonOf, collected, IsConversion}

-- a text is read as one thing
pub one_reading : (s : List ℕ) (d e : json.Data) → IsReading s d → IsReading s e → d ≡ e
one_reading s d e a b = let same : Some d ≡ Some e = sym a.1 ∙ b.1 in cc

pub unread : (s : List ℕ) → HasNoReading s → (v : Data) → ¬ IsJsonOf (words s) v
unread s none v is = none (json_of v) is.0.reading

pub deep : (s : List ℕ) → IsTooDeep s → (v : Data) → ¬ IsJsonOf (words s) v
deep s far v is =
    let same : far.data_read ≡ json_of v = one_reading s far.data_read (json_of v) far.reading is.0.reading in
    let at : json.depth far.data_read ≡ depth v = ap json.depth same ∙ depth-json_of v in
    omega (arith, at, far.deep, is.0.shallow)

pub numbered : (s : List ℕ) (p : List Step) → HasBadNumber s p → (v : Data) → ¬ IsJsonOf (words s) v
numbered s p bad v is =
    let same : bad.data_read ≡ json_of v = one_reading s bad.data_read (json_of v) bad.reading is.0.reading in
    let found : Some p ≡ None = sym bad.first ∙ (ap first_bad same ∙ is.0.whole) in cc

-- what is no object or list isn't the JSON of one
other_json : (v w : Data) → collected w ≡ None → collected v ≡ Some v → json_of v ≡ json_of w → ⊥
other_json v (items ns) none some e = cc
other_json v (fields ms) none some e = cc
other_json null w none some e = cc
other_json (flag b) w none some e = cc
other_json (whole z) w none some e = cc
other_json (words s) w none some e = cc
other_json (items ns) null none some e = cc
other_json (items ns) (flag b) none some e = cc
other_json (items ns) (whole z) none some e = cc
other_json (items ns) (words s) none some e = cc
other_json (fields ms) null none some e = cc
other_json (fields ms) (flag b) none some e = cc
other_json (fields ms) (whole z) none some e = cc
other_json (fields ms) (words s) none some e = cc

pub uncollected : (s : List ℕ) (w : Data) → IsReadAs s w → collected w ≡ None
    → (v : Data) → ¬ IsJsonOf (words s) v
uncollected s w read none v is =
    other_json v w none is.1 (one_reading s (json_of v) (json_of w) is.0.reading read.reading)

-- what is collected of data is the data itself
pub collected_is : (w v : Data) → collected w ≡ Some v → w ≡ v
collected_is (items ns) v e = cc
collected_is (fields ms) v e = cc
collected_is null v e = cc
collected_is (flag b) v e = cc
collected_is (whole z) v e = cc
collected_is (words s) v e = cc

-- what a reading is collected to is the conversion of the text
pub json_said : (s : List ℕ) (w : Data) (o : Option Data) → IsReadAs s w → o ≡ collected w
    → IsConversion (Some sort.Json) (words s) o
json_said s w None read is = uncollected s w read (sym is)
json_said s w (Some v) read is =
    let same : w ≡ v = collected_is w v (sym is) in
    (subst (λ (x : Data). IsReadAs s x) same read, subst (λ (x : Data). collected x ≡ Some v) same (sym is))
