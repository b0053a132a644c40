-- What is said step by step is what all options say.
use Rattle.std.proofs.Common.{◌≡◌, inl, inr, ℕ, List, [], ◌∷◌, length, refl, ap, subst, arith}
use Rattle.converge_call.specs.Options.{Said, Say, Says}
use Rattle.converge_call.specs.Options as said
use Rattle.converge_call.proofs.Wording.{says_one}

-- no option says nothing more
pub said_whole : (o : List (List ℕ)) (before : Said) → length o ≡ 0 → Say o before before
said_whole [] before none = said.nothing [] before before refl refl
said_whole (x ∷ o) before none = absurd (omega (arith, none))

-- behind an option the rest says what all say
pub said_behind : (o rest : List (List ℕ)) (before mid s : Said) → Says o rest before mid → Say o before s → Say rest mid s
said_behind _ rest _ mid _ says (said.nothing o before after empty same) =
    absurd (none says) where
      none : Says o rest before mid → ⊥
      none (said.workers d (inl is) w) = cc
      none (said.workers d (inr is) w) = cc
      none (said.cloud p (inl is) w) = cc
      none (said.cloud p (inr is) w) = cc
said_behind _ rest _ mid _ says (said.further o r before other after says_too say) =
    let both = says_one o r rest before other mid says_too says in
    subst (λ (x : List (List ℕ)). Say x mid after) both.0 (subst (λ (m : Said). Say r m after) both.1 say)

-- where no option stands in front, nothing is said by any
pub said_by_none : (o : List (List ℕ)) (before s : Said)
    → ((after : Said) (rest : List (List ℕ)) → Says o rest before after → ⊥)
    → (length o ≡ 0 → ⊥) → Say o before s → ⊥
said_by_none _ _ _ none some (said.nothing o before after empty same) = some (ap length empty)
said_by_none _ _ _ none some (said.further o rest before mid after says say) = none mid rest says
