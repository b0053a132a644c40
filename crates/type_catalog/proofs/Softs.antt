-- The names of properties that change in place, compared one by one with a list.
use Rattle.std.proofs.Common.{◌≡◌, ◌∙◌, ◌↔◌, ◌==◌, ◌+◌, ◌<◌, ℕ, suc, List, ◌∷◌, IsTrue, true, false, length, get_or}
use Rattle.std.proofs.Common.{drop, refl, ap, subst, sym, arith}
use Rattle.std.specs.Cmp.{unsigned_Decides}
use Rattle.std.specs.Cmp.Lexicographic.{pointwise}
use Rattle.std.proofs.Math.Seq.{drop-cons}
use Rattle.std.proofs.lemmas.Bool.{both_ways}
use Rattle.std.proofs.lemmas.Slice.Eq.{slice_eq-Decides}
use Rattle.type_catalog.specs.Kinds.{softs_of}
use Rattle.type_catalog.specs.declared.kind.PropDef.{PropDef}

-- the first that is left
softs_next : (ps : List PropDef) (i : ℕ) (p : PropDef) → i < length ps → p ≡ get_or ps i p → p.soft ≡ true
    → softs_of (drop i ps) ≡ p.name ∷ softs_of (drop (i + 1) ps)
softs_next ps i p lt at soft =
    let one : suc i ≡ i + 1 = omega arith in
    let here : drop i ps ≡ p ∷ drop (i + 1) ps =
    subst (λ (n : ℕ). drop i ps ≡ p ∷ drop n ps) one
    (drop-cons ps i p lt ∙ ap (λ x. x ∷ drop (suc i) ps) (sym at)) in
    ap softs_of here ∙ rw soft refl

module _ {all softs rest others : List (List ℕ)} {first : List ℕ} (ps : List PropDef) (i : ℕ) (p : PropDef)
    (lt : i < length ps) (at : p ≡ get_or ps i p) (soft : p.soft ≡ true) (parted : rest ≡ first ∷ others)
    (so_far : all ≡ softs ↔ softs_of (drop i ps) ≡ rest) where
  -- equal heads leave it to what stands behind them
  pub goes_on : pointwise ◌==◌ p.name first ≡ true → all ≡ softs ↔ softs_of (drop (i + 1) ps) ≡ others
  goes_on same =
      let next = softs_next ps i p lt at soft in
      let head = (slice_eq-Decides unsigned_Decides p.name first _ refl).0 same in (
        λ e. let whole : softs_of (drop i ps) ≡ rest = so_far.0 e in cc (whole, next, parted),
        λ e. so_far.1 (next ∙ ap (λ x. x ∷ softs_of (drop (i + 1) ps)) head ∙ ap (λ xs. first ∷ xs) e ∙ sym parted),
      )

  -- others decide
  pub ends : pointwise ◌==◌ p.name first ≡ false → IsTrue false ↔ (all ≡ softs)
  ends differ = (
    λ f. absurd (both_ways false refl f),
    λ e.
        let next = softs_next ps i p lt at soft in
        let whole : softs_of (drop i ps) ≡ rest = so_far.0 e in
        let head : p.name ≡ first = cc (whole, next, parted) in
        absurd (both_ways _ differ ((slice_eq-Decides unsigned_Decides p.name first _ refl).1 head)),
  )
