-- What a part of a value weighs and takes.
use Rattle.std.proofs.Common.{◌≡◌, ◌+◌, ◌*◌, ◌/◌, ◌%◌, ◌^◌, ◌-◌, ◌<◌, ◌≤◌, ℕ, zero, suc, List, [], ◌∷◌, ◌++◌, length, get_or, drop, true, ap, ◌∙◌, arith, length-append, min, add-one, drop-cons}
use Rattle.std.specs.Fmt.{decimal}
use Rattle.std.proofs.lemmas.Fmt.{decimal_digit, decimal_step, length-decimal-le}
use Rattle.json.specs.Print.{quoted, escape, escape_byte}
use Rattle.heat_value.specs.Compact.{compact, nodes_text, fields_text}
use Rattle.heat_value.specs.Meaning.{data_of, nodes_of, members_of, weight, nodes_weight, members_weight}
use Rattle.heat_value.specs.declared.value.Value.{Value}
use Rattle.heat_value.specs.declared.value.Member.{Member}

pub weight-item : (vs : List Value) (i : ℕ) (v : Value) → i < length vs → v ≡ get_or vs i v → 2 * weight (data_of v) < 2 * nodes_weight (nodes_of vs)
weight-item [] i v l e = absurd (omega arith)
weight-item (w ∷ vs) zero v l e = omega (arith, ap (λ (x : Value). weight (data_of x)) e)
weight-item (w ∷ vs) (suc i) v l e = omega (arith, weight-item vs i v (omega arith) e)

pub weight-member : (es : List Member) (i : ℕ) (x : Member) → i < length es → x ≡ get_or es i x → 2 * weight (data_of x.value) + 1 < 2 * members_weight (members_of es)
weight-member [] i x l e = absurd (omega arith)
weight-member (y ∷ es) zero x l e = omega (arith, ap (λ (z : Member). weight (data_of z.value)) e)
weight-member (y ∷ es) (suc i) x l e = omega (arith, weight-member es i x (omega arith) e)

-- the text of the values from a place on, with the value there
pub length-nodes_text-drop : (vs : List Value) (i : ℕ) (v : Value) → i < length vs → v ≡ get_or vs i v
    → length (nodes_text true (nodes_of (drop i vs))) ≡ 1 + length (compact (data_of v)) + length (nodes_text true (nodes_of (drop (i + 1) vs)))
length-nodes_text-drop vs i v l e =
    rw (add-one i, drop-cons vs i v l, ← e) (omega (arith, length-append (compact (data_of v)) (nodes_text true (nodes_of (drop (suc i) vs)))))

pub length-fields_text-drop : (es : List Member) (i : ℕ) (x : Member) → i < length es → x ≡ get_or es i x
    → length (fields_text true (members_of (drop i es))) ≡ 1 + (length (quoted x.key) + 1 + length (compact (data_of x.value))) + length (fields_text true (members_of (drop (i + 1) es)))
length-fields_text-drop es i x l e =
    rw (add-one i, drop-cons es i x l, ← e) (omega (
      arith,
      length-append (escape x.key ++ 34 ∷ []) (58 ∷ (compact (data_of x.value) ++ fields_text true (members_of (drop (suc i) es)))),
      length-append (compact (data_of x.value)) (fields_text true (members_of (drop (suc i) es))),
    ))

-- the bytes from a place on, with the byte there
pub length-escape-drop : (s : List ℕ) (i : ℕ) → i < length s → length (escape (drop i s)) ≡ length (escape_byte (get_or s i 0)) + length (escape (drop (i + 1) s))
length-escape-drop s i l = rw (add-one, drop-cons s i 0 l) (length-append (escape_byte (get_or s i 0)) (escape (drop (suc i) s)))

-- one digit more than a tenth has
pub length-decimal-tenth : (n : ℕ) → 10 ≤ n → n < 2 ^ 64 → length (decimal n) ≡ length (decimal (n / 10)) + 1
length-decimal-tenth n big small = ap length (decimal_step n big small) ∙ length-append (decimal (n / 10)) ((48 + n % 10) ∷ [])

pub length-decimal-twenty : (n : ℕ) → n < 2 ^ 64 → length (decimal n) ≤ 20
length-decimal-twenty n small = length-decimal-le 20 n (omega arith) (omega arith) small

pub length-decimal-one : (n : ℕ) → n < 10 → length (decimal n) ≡ 1
length-decimal-one n small = ap length (decimal_digit n small)

-- three counts that stop at the greatest `usize`
pub min-saturating : (size first part total n m : ℕ) → size ≡ min n (2 ^ 64 - 1) → first ≡ min (size + 1) (2 ^ 64 - 1) → part ≡ min m (2 ^ 64 - 1) → total ≡ min (first + part) (2 ^ 64 - 1)
    → total ≡ min (n + 1 + m) (2 ^ 64 - 1)
min-saturating size first part total n m a b c d = omega arith

pub ruleset for_sizes = (weight-item, weight-member)
