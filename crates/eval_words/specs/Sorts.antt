-- What an argument is taken as, once it is evaluated; none where it is of the wrong sort.
use Rattle.std.specs.Prelude.{ℕ, List, Bool, Option, Some, None, Result, Err}
use Rattle.heat_value.specs.Coercion.{coerced}
use Rattle.heat_value.specs.Data.{Data, null, flag, whole, words, items, fields, Nodes, no_nodes, node}
use Rattle.heat_value.specs.Data.{Members, no_members}
use Rattle.eval_words.specs.declared.code.FaultCode.{FaultCode}
use Rattle.eval_words.specs.declared.code.FaultCode.TheVariants.{F01}

-- F01 where an argument is of the wrong sort, or names what isn't there; else what is made of it
abbrev pub wanted : {A B : Type 0} → Option A → (A → Result B FaultCode) → Result B FaultCode
wanted None made = Err F01
wanted (Some a) made = made a

-- a text, where nothing else counts as one
abbrev pub text_in : Data → Option (List ℕ)
text_in null = None
text_in (flag b) = None
text_in (whole z) = None
text_in (words s) = Some s
text_in (items ns) = None
text_in (fields ms) = None

-- a text; a whole number or a flag by its text
abbrev pub text_taken : Data → Option (List ℕ)
text_taken null = None
text_taken (flag b) = Some (coerced (flag b))
text_taken (whole z) = Some (coerced (whole z))
text_taken (words s) = Some s
text_taken (items ns) = None
text_taken (fields ms) = None

-- a flag, where nothing else counts as one
abbrev pub flag_in : Data → Option Bool
flag_in null = None
flag_in (flag b) = Some b
flag_in (whole z) = None
flag_in (words s) = None
flag_in (items ns) = None
flag_in (fields ms) = None

-- a list's values, where nothing else counts as a list
abbrev pub list_in : Data → Option Nodes
list_in null = None
list_in (flag b) = None
list_in (whole z) = None
list_in (words s) = None
list_in (items ns) = Some ns
list_in (fields ms) = None

-- an object's members, where nothing else counts as an object
abbrev pub object_in : Data → Option Members
object_in null = None
object_in (flag b) = None
object_in (whole z) = None
object_in (words s) = None
object_in (items ns) = None
object_in (fields ms) = Some ms

-- a list; null counts as an empty one
abbrev pub list_or_null : Data → Option Nodes
list_or_null null = Some no_nodes
list_or_null (flag b) = None
list_or_null (whole z) = None
list_or_null (words s) = None
list_or_null (items ns) = Some ns
list_or_null (fields ms) = None

-- an object; null counts as an empty one
abbrev pub object_or_null : Data → Option Members
object_or_null null = Some no_members
object_or_null (flag b) = None
object_or_null (whole z) = None
object_or_null (words s) = None
object_or_null (items ns) = None
object_or_null (fields ms) = Some ms

-- ---- the parts of an argument

-- the first of a list, and those behind it
abbrev pub first_and_rest : Nodes → Option (Data × Nodes)
first_and_rest no_nodes = None
first_and_rest (node d ns) = Some (d, ns)

-- the parts of a list; anything else has none
abbrev pub listed : Data → Nodes
listed null = no_nodes
listed (flag b) = no_nodes
listed (whole z) = no_nodes
listed (words s) = no_nodes
listed (items ns) = ns
listed (fields ms) = no_nodes

-- the parts of a list; a text counts as a list of itself
abbrev pub parts : Data → Nodes
parts null = no_nodes
parts (flag b) = no_nodes
parts (whole z) = no_nodes
parts (words s) = node (words s) no_nodes
parts (items ns) = ns
parts (fields ms) = no_nodes

-- the parts of a list of two
abbrev pub two_of : Nodes → Option (Data × Data)
two_of no_nodes = None
two_of (node a no_nodes) = None
two_of (node a (node b no_nodes)) = Some (a, b)
two_of (node a (node b (node c ns))) = None
