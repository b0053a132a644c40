use Rattle.std.proofs.Common.{◌∙◌, inl, inr, sym}
use Rattle.opening_check.proofs.PlacesLemmas.{among, untrue}
use Rattle.opening_check.proofs.strangers.is_expected.Goals as goal

-- src/strangers.rt:33:1
pub returns-else-is_known : goal.returns-else-is_known
returns-else-is_known c =
    let given_up = among c.args.s.now.state.released c.args.given_up.now.items c.args.token.now c.get.result c.requires c.get.ensures in (
      λ h. inr (given_up.0 (sym c.is_some.ensures ∙ h)),
      λ expected. elim expected [
        | inl known ↦ absurd (untrue (c.if-is_known.ensures.1 known))
        | inr given ↦ c.is_some.ensures ∙ given_up.1 given
      ],
    )
