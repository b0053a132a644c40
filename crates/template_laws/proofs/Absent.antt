-- Where no flaw is found, none of the checks finds one.
use Rattle.std.proofs.Common.{◌≡◌, List, [], Bool, true, false, ◌||◌, ◌&&◌, Option, Some, None, refl}
use Rattle.std.proofs.Common.{if◌then◌else◌}
use Rattle.std.specs.Option.{option_or}
use Rattle.heat_value.specs.declared.path.Step.{Step}
use Rattle.hot_admit.specs.Codes.{told}
use Rattle.hot_admit.specs.declared.code.AdmitCode.{AdmitCode}
use Rattle.hot_catalog.specs.Paths.{behind}
use Rattle.hot_forms.specs.Checks.{under, unless}
use Rattle.hot_forms.specs.declared.code.HotCode.{HotCode}
use Rattle.hot_forms.specs.declared.flaw.Flaw.{Flaw}

module _ {A : Type 0} (o p : Option A) where
  pub first_none : option_or o p ≡ None → o ≡ None
  first_none = by o
    where
      by : (o : Option A) → option_or o p ≡ None → o ≡ None
      by None e = refl
      by (Some x) e = cc

  pub rest_none : option_or o p ≡ None → p ≡ None
  rest_none = by o
    where
      by : (o : Option A) → option_or o p ≡ None → p ≡ None
      by None e = e
      by (Some x) e = cc

pub under_none : (s : Step) (o : Option Flaw) → under s o ≡ None → o ≡ None
under_none s None e = refl
under_none s (Some f) e = cc

pub behind_none : (s : Step) (o : Option (List Step)) → behind s o ≡ None → o ≡ None
behind_none s None e = refl
behind_none s (Some p) e = cc

pub told_none : (c : AdmitCode) (o : Option (List Step)) → told c o ≡ None → o ≡ None
told_none c None e = refl
told_none c (Some p) e = cc

pub unless_none : (b : Bool) (c : HotCode) → unless b c ≡ None → b ≡ true
unless_none true c e = refl
unless_none false c e = cc

-- neither this place nor one behind it
pub here_false : (b : Bool) (o : Option (List Step)) → (if b then Some [] else o) ≡ None → b ≡ false
here_false true o e = cc
here_false false o e = refl

pub here_later : (b : Bool) (o : Option (List Step)) → (if b then Some [] else o) ≡ None → o ≡ None
here_later true o e = cc
here_later false o e = e

-- neither of two
pub left_false : (a b : Bool) → (a || b) ≡ false → a ≡ false
left_false true b e = cc
left_false false b e = refl

pub right_false : (a b : Bool) → (a || b) ≡ false → b ≡ false
right_false true b e = cc
right_false false b e = e

-- not the second of two, where the first holds
pub second_false : (a b : Bool) → a ≡ true → (a && b) ≡ false → b ≡ false
second_false true b is e = e
second_false false b is e = cc
