-- What the comparison of an image with the cloud's list comes upon first.
use Rattle.heat_plan.specs.declared.token.Token.{Token}
use Rattle.step_relation.specs.Compared.{FindsDiffering, FindsMissing, FindsStranger}
use Rattle.step_relation.specs.Opening.{Opening}
use Rattle.opening_check.specs.declared.finding.Finding.{Finding}
use Rattle.opening_check.specs.declared.finding.Finding.TheVariants.{Differs, Missing, Stranger}

-- this is found first, at this token
abbrev pub HasFound : Opening → Token → Finding → Type 0
HasFound o t Missing = FindsMissing o t
HasFound o t Differs = FindsDiffering o t
HasFound o t Stranger = FindsStranger o t
