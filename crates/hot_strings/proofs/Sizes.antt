-- How long a text is as JSON.
use Rattle.std.proofs.Common.{◌≡◌, ◌≢◌, ◌+◌, true, ◌<◌, ℕ, List, [], ◌∷◌, ◌++◌, length, ap, refl, ◌∙◌, arith, length-append}
use Rattle.std.proofs.lemmas.Grind.{flat_map-append}
use Rattle.json.specs.Print.{escape_byte, escape, quoted}
use Rattle.heat_value.specs.Compact.{compact, nodes_text}
use Rattle.heat_value.specs.Data.{Data, words, items, Nodes, no_nodes, node, node_last}
use Rattle.hot_strings.specs.Size.{IsTooLong, IsLongerThan}
use Rattle.hot_strings.specs.Faults.{IsOfLimit}
use Rattle.hot_strings.specs.declared.fault.StringFault.{StringFault}
use Rattle.hot_strings.specs.declared.fault.StringFault.TheVariants.{F02, F03, F04, F06, Memory}

pub length-quoted : (s : List ℕ) → length (quoted s) ≡ length (escape s) + 2
length-quoted s = omega (arith, length-append (escape s) (34 ∷ []))

pub length-escape-append : (s t : List ℕ) → length (escape (s ++ t)) ≡ length (escape s) + length (escape t)
length-escape-append s t = ap length (flat_map-append escape_byte s t) ∙ length-append (escape s) (escape t)

pub length-quoted-append : (s t : List ℕ) → length (quoted (s ++ t)) ≡ length (quoted s) + length (escape t)
length-quoted-append s t = omega (arith, length-quoted s, length-quoted (s ++ t), length-escape-append s t)

-- what is too long stays so with more behind it
pub IsLongerThan-append : (limit : ℕ) (s t : List ℕ) → IsLongerThan limit (words s) → IsLongerThan limit (words (s ++ t))
IsLongerThan-append limit s t h = omega (arith, length-quoted-append s t)

-- a part that ends a draft ends what begins with both
pub IsOfLimit-append : (e : StringFault) (limit known : ℕ) (s t whole : List ℕ) → limit ≡ known → whole ≡ s ++ t → IsOfLimit e limit (words s) → IsOfLimit e known (words whole)
IsOfLimit-append F02 limit known s t whole same is h = h
IsOfLimit-append F03 limit known s t whole same is h = h
IsOfLimit-append F04 limit known s t whole same is h = h
IsOfLimit-append F06 limit known s t whole same is h = rw (is, ← same) (IsLongerThan-append limit s t h)
IsOfLimit-append Memory limit known s t whole same is h = h

-- a list's text is as long as that of a part behind others
pub length-nodes_text-true : (ns : Nodes) → ns ≢ no_nodes → length (nodes_text true ns) ≡ length (compact (items ns))
length-nodes_text-true no_nodes h = absurd (h refl)
length-nodes_text-true (node d ns) h = omega arith

pub length-nodes_text-last : (ns : Nodes) (d : Data)
    → length (nodes_text true (node_last ns d)) ≡ length (nodes_text true ns) + (1 + length (compact d))
length-nodes_text-last no_nodes d = omega (arith, length-append (compact d) (93 ∷ []))
length-nodes_text-last (node e ns) d =
    omega (arith, length-nodes_text-last ns d, length-append (compact e) (nodes_text true (node_last ns d)), length-append (compact e) (nodes_text true ns))

pub node_last-some : (ns : Nodes) (d : Data) → node_last ns d ≢ no_nodes
node_last-some no_nodes d e = cc
node_last-some (node x ns) d e = cc

pub length-compact-words : (s : List ℕ) → length (compact (words s)) ≡ length (escape s) + 2
length-compact-words s = length-quoted s

pub ruleset for_lists = (length-nodes_text-true, length-nodes_text-last, length-compact-words, node_last-some)

-- a text for which there is no room makes the list too long
pub IsTooLong-last : (ns : Nodes) (s : List ℕ) (room : ℕ) → room + length (nodes_text true ns) ≡ 1048576 → room < 3 + length (escape s) → IsTooLong (items (node_last ns (words s)))
IsTooLong-last ns s room within short =
    omega (arith, length-nodes_text-true (node_last ns (words s)) (node_last-some ns (words s)), length-nodes_text-last ns (words s), length-compact-words s)
