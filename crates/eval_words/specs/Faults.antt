-- Faults, and how they are seen from further out.
use Rattle.std.specs.Prelude.{◌≡◌, List, [], Result, Ok, Err, ⊤}
use Rattle.heat_value.specs.declared.path.Step.{Step}
use Rattle.eval_words.specs.declared.code.FaultCode.{FaultCode}
use Rattle.eval_words.specs.declared.code.FaultCode.TheVariants.{F02, F03, F04, F06}
use Rattle.eval_words.specs.declared.fault.EvalFault.{EvalFault}
use Rattle.eval_words.specs.declared.fault.EvalFault.TheVariants as eval
use Rattle.eval_words.specs.declared.fault.FunctionFault.{FunctionFault}
use Rattle.eval_words.specs.declared.fault.FunctionFault.TheVariants as function
use Rattle.hot_strings.specs.declared.fault.StringFault.{StringFault}
use Rattle.hot_strings.specs.declared.fault.StringFault.TheVariants as text

-- a text function's fault, as one of evaluation
abbrev pub of_text_function : StringFault → FunctionFault
of_text_function text.F02 = function.Wrong F02
of_text_function text.F03 = function.Wrong F03
of_text_function text.F04 = function.Wrong F04
of_text_function text.F06 = function.Wrong F06
of_text_function text.Memory = function.Memory

-- the code at the value itself
abbrev pub here : FaultCode → EvalFault
here c = eval.Wrong c []

-- a function's fault at its object
abbrev pub of_function : FunctionFault → EvalFault
of_function (function.Wrong c) = here c
of_function function.Memory = eval.Memory

-- the code at a path, if there was memory for that
abbrev pub at_path : {E : Type 0} → FaultCode → Result (List Step) E → EvalFault
at_path c (Ok p) = eval.Wrong c p
at_path c (Err e) = eval.Memory

-- the same fault with its path seen from further out, or want of memory
abbrev pub IsSeenFrom : (List Step → List Step) → EvalFault → EvalFault → Type 0
IsSeenFrom out before eval.Memory = ⊤
IsSeenFrom out eval.Memory (eval.Wrong c p) = ⊥
IsSeenFrom out (eval.Wrong d q) (eval.Wrong c p) = (c ≡ d) × (p ≡ out q)
