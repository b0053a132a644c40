-- What a value is read as: a right template, or the first flaw.
use Rattle.std.specs.Prelude.{◌≡◌, ℕ, List, Option, Some, None, ⊤}
use Rattle.heat_value.specs.Data.{Data, fields, Members}
use Rattle.heat_value.specs.declared.path.Step.{Step}
use Rattle.hot_forms.specs.Codes.{code_text}
use Rattle.hot_forms.specs.declared.flaw.Flaw.{Flaw}
use Rattle.hot_tree.specs.Whole.{object_flaw, template_flaw}
use Rattle.hot_tree.specs.declared.fault.HotFault.{HotFault}
use Rattle.hot_tree.specs.declared.fault.HotFault.TheVariants.{Wrong, Memory}

-- the object holds none of the flaws
abbrev pub IsRight : Members → Type 0
IsRight ms = object_flaw ms ≡ None

-- the template is the value itself, which is right
pub record IsTemplateOf (d : Data) (template : Members) : Type 0 where
  pub value : d ≡ fields template
  pub right : template_flaw d ≡ None

-- the value's first flaw, or want of memory
abbrev pub IsFaultOf : Data → HotFault → Type 0
IsFaultOf d (Wrong f) = template_flaw d ≡ Some f
IsFaultOf d Memory = ⊤

-- the code that a fault is noted with; want of memory has none
abbrev pub fault_code : HotFault → Option (List ℕ)
fault_code (Wrong f) = Some (code_text f.code)
fault_code Memory = None

-- the path that is noted with it
abbrev pub fault_path : HotFault → Option (List Step)
fault_path (Wrong f) = Some f.path
fault_path Memory = None
