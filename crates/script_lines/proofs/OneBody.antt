-- Bytes are one body, or none for one reason; the same of a catalogue's value.
use Rattle.std.proofs.Common.{◌≡◌, ◌∙◌, ◌<◌, ℕ, List, Some, refl, sym, ap, subst, arith}
use Rattle.serde_json.specs.Data as json
use Rattle.heat_value.specs.Data.{Data, null, flag, whole, words, items, fields, Members}
use Rattle.heat_value.specs.Meaning.{data_of}
use Rattle.heat_value.specs.Reading.{IsReadAs, first_bad}
use Rattle.heat_value.specs.declared.path.Step.{Step}
use Rattle.heat_value.specs.declared.value.Value.{Value}
use Rattle.heat_value.specs.declared.value.Value.TheVariants as value
use Rattle.script_lines.specs.Requested.{BodyData, Gives, IsMisgiven, IsNoValue, no_json, too_deep, bad_number, IsBodyText, IsNoBody, unread, no_object, misgiven}
use Rattle.script_lines.specs.declared.misread.Misread.{Misread}
use Rattle.script_lines.specs.declared.misread.Misread.TheVariants.{L07, L08}
use Rattle.script_lines.proofs.ReadingLemmas.{reading_unique, value_unique, not_without_reading, not_too_deep, not_with_bad_number}
use Rattle.script_lines.proofs.BodyParts.{gives_unique, misgiven_unique, misgiven_or_gives}

pub no_value_unique : (bytes : List ℕ) (a b : Misread) → IsNoValue bytes a → IsNoValue bytes b → a ≡ b
no_value_unique bytes a b (no_json h is) (no_json i also) = is ∙ sym also
no_value_unique bytes a b (no_json h is) (too_deep t also) = absurd (h t.data_read t.reading)
no_value_unique bytes a b (no_json h is) (bad_number p n also) = absurd (h n.data_read n.reading)
no_value_unique bytes a b (too_deep t is) (no_json h also) = absurd (h t.data_read t.reading)
no_value_unique bytes a b (too_deep t is) (too_deep u also) = is ∙ sym also
no_value_unique bytes a b (too_deep t is) (bad_number p n also) =
    let same = reading_unique bytes t.data_read n.data_read t.reading n.reading in
    let far : 64 < json.depth n.data_read = subst (λ (x : json.Data). 64 < json.depth x) same t.deep in
    absurd (omega (arith, far, n.shallow))
no_value_unique bytes a b (bad_number p n is) (no_json h also) = absurd (h n.data_read n.reading)
no_value_unique bytes a b (bad_number p n is) (too_deep t also) =
    let same = reading_unique bytes t.data_read n.data_read t.reading n.reading in
    let far : 64 < json.depth n.data_read = subst (λ (x : json.Data). 64 < json.depth x) same t.deep in
    absurd (omega (arith, far, n.shallow))
no_value_unique bytes a b (bad_number p n is) (bad_number q m also) =
    let same = reading_unique bytes n.data_read m.data_read n.reading m.reading in
    let here : first_bad m.data_read ≡ Some p = subst (λ (x : json.Data). first_bad x ≡ Some p) same n.first in
    let both : Some p ≡ Some q = sym here ∙ m.first in
    let path : p ≡ q = cc in
    is ∙ ap (λ (x : List Step). L07 x) path ∙ sym also

pub no_value_or_value : (bytes : List ℕ) (a : Misread) (d : Data) → IsNoValue bytes a → IsReadAs bytes d → ⊥
no_value_or_value bytes a d (no_json h is) r = not_without_reading bytes d h r
no_value_or_value bytes a d (too_deep t is) r = not_too_deep bytes d t r
no_value_or_value bytes a d (bad_number p n is) r = not_with_bad_number bytes p d n r

same_members : (a b : Members) → fields a ≡ fields b → a ≡ b
same_members a b e = cc

pub members_unique : (bytes : List ℕ) (a b : Members) → IsReadAs bytes (fields a) → IsReadAs bytes (fields b) → a ≡ b
members_unique bytes a b x y = same_members a b (value_unique bytes (fields a) (fields b) x y)

pub body_unique : (bytes : List ℕ) (a b : BodyData) → IsBodyText bytes a → IsBodyText bytes b → a ≡ b
body_unique bytes a b x y =
    let same = members_unique bytes y.members x.members y.reading x.reading in
    gives_unique x.members a b x.gives (subst (λ (ms : Members). Gives ms b) same y.gives)

pub no_body_unique : (bytes : List ℕ) (a b : Misread) → IsNoBody bytes a → IsNoBody bytes b → a ≡ b
no_body_unique bytes a b (unread x) (unread y) = no_value_unique bytes a b x y
no_body_unique bytes a b (unread x) (no_object d r h also) = absurd (no_value_or_value bytes a d x r)
no_body_unique bytes a b (unread x) (misgiven ms r p h also) = absurd (no_value_or_value bytes a (fields ms) x r)
no_body_unique bytes a b (no_object d r h is) (unread y) = absurd (no_value_or_value bytes b d y r)
no_body_unique bytes a b (no_object d r h is) (no_object e s i also) = is ∙ sym also
no_body_unique bytes a b (no_object d r h is) (misgiven ms s p i also) = absurd (h ms (value_unique bytes d (fields ms) r s))
no_body_unique bytes a b (misgiven ms r p h is) (unread y) = absurd (no_value_or_value bytes b (fields ms) y r)
no_body_unique bytes a b (misgiven ms r p h is) (no_object d s i also) = absurd (i ms (value_unique bytes d (fields ms) s r))
no_body_unique bytes a b (misgiven ms r p h is) (misgiven ns s q i also) =
    let same = members_unique bytes ns ms s r in
    let path = misgiven_unique ms p q h (subst (λ (xs : Members). IsMisgiven xs q) same i) in
    is ∙ ap (λ (x : List Step). L08 x) path ∙ sym also

pub no_body_or_body : (bytes : List ℕ) (a : Misread) (b : BodyData) → IsNoBody bytes a → IsBodyText bytes b → ⊥
no_body_or_body bytes a b (unread x) y = no_value_or_value bytes a (fields y.members) x y.reading
no_body_or_body bytes a b (no_object d r h is) y = h y.members (value_unique bytes d (fields y.members) r y.reading)
no_body_or_body bytes a b (misgiven ms r p h is) y =
    let same = members_unique bytes y.members ms y.reading r in
    misgiven_or_gives ms p b h (subst (λ (xs : Members). Gives xs b) same y.gives)

-- the value of this data
abbrev value_back : Data → Value
value_back null = value.Null
value_back (flag b) = value.Flag b
value_back (whole z) = value.Whole z
value_back (words s) = value.Words s
value_back (items ns) = value.Items ns
value_back (fields ms) = value.Fields ms

value_back-data_of : (v : Value) → value_back (data_of v) ≡ v
value_back-data_of value.Null = refl
value_back-data_of (value.Flag b) = refl
value_back-data_of (value.Whole z) = refl
value_back-data_of (value.Words s) = refl
value_back-data_of (value.Items ns) = refl
value_back-data_of (value.Fields ms) = refl

pub read_unique : (bytes : List ℕ) (v w : Value) → IsReadAs bytes (data_of v) → IsReadAs bytes (data_of w) → v ≡ w
read_unique bytes v w a b = sym (value_back-data_of v) ∙ ap value_back (value_unique bytes (data_of v) (data_of w) a b) ∙ value_back-data_of w
