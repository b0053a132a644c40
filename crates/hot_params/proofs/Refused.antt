-- What a refusal says of a pattern.
use Rattle.std.proofs.Common.{◌≢◌, ℕ, List, inl}
use Rattle.std.proofs.Common.{inr, ⊎_elim, refl}
use Rattle.regex.specs.Failures.{IsRightKind}
use Rattle.regex.specs.Patterns.{default_config, Refuses}
use Rattle.regex.specs.Sources.{IsRefusal}
use Rattle.regex.specs.declared.error.Error as regex
use Rattle.regex.specs.declared.error.Error.TheVariants as error
use Rattle.regex_syntax.specs.declared.error.ErrorKind.{ErrorKind}
use Rattle.regex_syntax.specs.declared.error.ErrorKind.TheVariants.{OutOfMemory}
use Rattle.hot_params.specs.Patterns.{IsNoPattern, IsRefusedFor, refused_by}

no_pattern : (pattern : List ℕ) (kind : ErrorKind) → Refuses default_config pattern kind → kind ≢ OutOfMemory
    → IsNoPattern pattern
unfolding Refuses
no_pattern pattern kind r other =
    ⊎_elim (λ e. absurd (other e)) (⊎_elim (λ none. inl none) (λ deep. inr deep.1)) r

-- what an error counts as is what the pattern may be refused for
pub refused_for : (pattern : List ℕ) (e : regex.Error) → IsRefusal default_config pattern e
    → IsRightKind default_config pattern e → IsRefusedFor pattern (refused_by e)
refused_for pattern (error.Syntax e) r k = no_pattern pattern e.kind (r e refl) k
refused_for pattern error.CompiledTooBig r k = tt
refused_for pattern error.Internal r k = tt
refused_for pattern error.OutOfMemory r k = tt
