-- How the parts of each function's argument are evaluated.
use Rattle.eval_words.specs.declared.function.Function.{Function}
use Rattle.eval_words.specs.declared.function.Function.TheVariants as function
use Rattle.eval_words.specs.declared.manner.Manner.{Manner}
use Rattle.eval_words.specs.declared.manner.Manner.TheVariants as manner

-- each part as a value, but for the literal template of a repeat, the branch that an `if` doesn't choose, and conditions
abbrev pub manner_of : Function → Manner
manner_of function.Parameter = manner.Each
manner_of function.Resource = manner.Each
manner_of function.Attribute = manner.Each
manner_of function.File = manner.Each
manner_of function.Join = manner.Each
manner_of function.Split = manner.Each
manner_of function.Replace = manner.Each
manner_of function.ReplaceStrictly = manner.Each
manner_of function.Repeat = manner.AllButTemplate
manner_of function.Digest = manner.Each
manner_of function.MergeMaps = manner.Each
manner_of function.ReplaceInMap = manner.Each
manner_of function.Concat = manner.Each
manner_of function.ConcatUnique = manner.Each
manner_of function.Filter = manner.Each
manner_of function.Contains = manner.Each
manner_of function.If = manner.ChosenBranch
manner_of function.FlagParameter = manner.Each
manner_of function.Equals = manner.Each
manner_of function.Not = manner.Condition
manner_of function.And = manner.Conditions
manner_of function.Or = manner.Conditions
