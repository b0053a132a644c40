-- What a comparison finds, it doesn't find where it finds nothing.
use Rattle.std.proofs.Common.{◌≡◌, List, ◌∷◌, ◌++◌, [], refl, sym, subst, true, false}
use Rattle.std.specs.Prelude.{Bool, IsSome, find}
use Rattle.heat_plan.specs.declared.token.Token.{Token}
use Rattle.provider.specs.Same.{same_token}
use Rattle.provider.specs.declared.alive.Alive.{Alive}
use Rattle.provider.proofs.Sames.{same_token-same}
use Rattle.step_relation.specs.Compared.{FindsNothing, FindsStranger, IsFirstUnlisted}
use Rattle.step_relation.specs.Opening.{Opening}
use Rattle.opening_check.specs.Findings.{HasFound}
use Rattle.opening_check.specs.declared.finding.Finding.{Finding}
use Rattle.opening_check.specs.declared.finding.Finding.TheVariants.{Differs, Missing, Stranger}
use Rattle.converge_call.proofs.Showing.{some_mapped}

-- what is found in a list is found in a longer one
found_behind : (a : Alive) (rest : List Alive) (t : Token) (b : Bool) → same_token a.token t ≡ b
    → IsSome (find (λ (x : Alive). same_token x.token t) rest)
    → IsSome (find (λ (x : Alive). same_token x.token t) (a ∷ rest))
found_behind a rest t true e found = rw e refl
found_behind a rest t false e found = rw e found

-- what stands in a list is found there
found_in : (before : List Alive) (it : Alive) (behind : List Alive) (t : Token) → it.token ≡ t
    → IsSome (find (λ (a : Alive). same_token a.token t) (before ++ it ∷ behind))
found_in [] it behind t is =
    let same : same_token it.token t ≡ true =
    subst (λ (x : Token). same_token it.token x ≡ true) is (same_token-same it.token) in
    rw same refl
found_in (a ∷ before) it behind t is =
    found_behind a (before ++ it ∷ behind) t (same_token a.token t) refl (found_in before it behind t is)

unlisted_not : (o : Opening) (t : Token) → FindsNothing o → IsFirstUnlisted o t → ⊥
unlisted_not o t nothing k = k.unlisted (nothing.rows t.row k.row k.found)

stranger_not : (o : Opening) (t : Token) → FindsNothing o → FindsStranger o t → ⊥
stranger_not o t nothing k =
    k.strange (nothing.list t (some_mapped _ (find (λ (a : Alive). same_token a.token t) o.alive)
    (subst (λ (all : List Alive). IsSome (find (λ (a : Alive). same_token a.token t) all)) (sym k.list)
    (found_in k.before k.it k.behind t k.its))))

pub found_not : (o : Opening) (t : Token) (finding : Finding) → FindsNothing o → HasFound o t finding → ⊥
found_not o t Missing nothing k = unlisted_not o t nothing k.row
found_not o t Differs nothing k = unlisted_not o t nothing k.row
found_not o t Stranger nothing k = stranger_not o t nothing k
