-- What the text functions give.
use Rattle.std.specs.Prelude.{ℕ, List, [], ◌∷◌, Bool, not, ◌&&◌, ◌==◌, Option, Some, None, Result, Ok, Err}
use Rattle.std.specs.Prelude.{length, option_and_then, slice_get, codes, if◌then◌else◌}
use Rattle.std.specs.List.{list_any}
use Rattle.heat_value.specs.Coercion.{coerced}
use Rattle.heat_value.specs.Data.{Data, words, items, Nodes, no_nodes, node, Members, no_members, member, lookup}
use Rattle.hot_forms.specs.Shapes.{members_in}
use Rattle.hot_strings.specs.Answers.{cuts, with_values, digest_of, is_part}
use Rattle.hot_strings.specs.Joined.{joined}
use Rattle.hot_strings.specs.Pieces.{Params}
use Rattle.hot_strings.specs.Split.{Asked, all, one, unfit, asked_by, texts}
use Rattle.eval_words.specs.Lists.{concatenated}
use Rattle.eval_words.specs.Sorts.{wanted, text_in, text_taken, object_in, listed, first_and_rest, two_of}
use Rattle.eval_words.specs.declared.code.FaultCode.{FaultCode}
use Rattle.eval_words.specs.declared.code.FaultCode.TheVariants.{F02, F03, F04}

-- the text is empty
abbrev pub is_empty : List ℕ → Bool
is_empty s = length s == 0

-- ---- list_join

-- each value by its text
abbrev pub texts_of : Nodes → List (List ℕ)
texts_of no_nodes = []
texts_of (node d ns) = coerced d ∷ texts_of ns

-- the texts of all lists' items in order, parted by the delimiter
abbrev pub join_with : Data × Nodes → Result Data FaultCode
join_with (delimiter, lists) =
    wanted (text_taken delimiter) (λ d. wanted (concatenated lists) (λ ns. Ok (words (joined d (texts_of ns)))))

-- what list_join gives of a delimiter and lists; F01 where there is no delimiter
abbrev pub list_join : Data → Result Data FaultCode
list_join a = wanted (first_and_rest (listed a)) join_with

-- ---- str_split

-- F02 where no piece stands at the place
abbrev pub piece_found : Option (List ℕ) → Result Data FaultCode
piece_found None = Err F02
piece_found (Some p) = Ok (words p)

-- F02 for what is no place, F03 for an empty delimiter; else the pieces, or the piece at the place
abbrev pub split_asked : Asked → List ℕ → List ℕ → Result Data FaultCode
split_asked all d s = if is_empty d then Err F03 else Ok (items (texts (cuts d s)))
split_asked (one i) d s = if is_empty d then Err F03 else piece_found (slice_get (cuts d s) i)
split_asked unfit d s = Err F02

-- what is asked by the parts behind the text
abbrev pub asked_in : Nodes → Asked
asked_in no_nodes = all
asked_in (node i ns) = asked_by i

-- what a text is split into at the delimiter, as the parts behind it ask; F01 where it is taken as no text
abbrev pub split_text : List ℕ → Data × Nodes → Result Data FaultCode
split_text d (text, index) = wanted (text_taken text) (split_asked (asked_in index) d)

-- what a delimiter, a text and perhaps a place ask for; F01 where one of the two is lacking or no text
abbrev pub split_with : Data × Nodes → Result Data FaultCode
split_with (delimiter, rest) = wanted (text_taken delimiter) (λ d. wanted (first_and_rest rest) (split_text d))

-- what str_split gives of its argument; F01 where that isn't a list with a first part
abbrev pub str_split : Data → Result Data FaultCode
str_split a = wanted (first_and_rest (listed a)) split_with

-- ---- str_replace and str_replace_strict

-- each key with its value's text
abbrev pub params_of : Members → Params
params_of no_members = []
params_of (member k d ms) = (k, coerced d) ∷ params_of ms

-- some key is empty
abbrev pub has_empty_key : Params → Bool
has_empty_key params = list_any (λ p. is_empty p.0) params

-- a key stands nowhere in the template
abbrev pub lacks_some_key : Params → List ℕ → Bool
lacks_some_key params s = list_any (λ p. not (is_part p.0 s)) params

-- F03 for an empty key; F04, where it is strict, for a key that stands nowhere
abbrev pub put_into : Bool → Params → List ℕ → Result Data FaultCode
put_into strict params s =
    if has_empty_key params then Err F03 else (
    if strict && lacks_some_key params s then Err F04 else Ok (words (with_values params s)))

-- the template with the keys' values in their place; F01 where the template is no text or the keys no object
abbrev pub replace_in : Bool → Members → Result Data FaultCode
replace_in strict ms =
    wanted (option_and_then object_in (lookup (codes "params") ms)) (λ ps.
    wanted (option_and_then text_taken (lookup (codes "template") ms)) (put_into strict (params_of ps)))

-- what str_replace gives of its argument, or its strict form
abbrev pub str_replace : Bool → Data → Result Data FaultCode
str_replace strict a = replace_in strict (members_in a)

-- ---- digest

-- the digest of that name of a text; F01 where one of the two is no text
abbrev pub digest_with : Data × Data → Result Data FaultCode
digest_with (name, text) =
    wanted (text_taken text) (λ t. wanted (option_and_then (λ n. digest_of n t) (text_in name)) (λ hex. Ok (words hex)))

-- F01 too where no digest has the name
abbrev pub digest : Data → Result Data FaultCode
digest a = wanted (two_of (listed a)) digest_with
