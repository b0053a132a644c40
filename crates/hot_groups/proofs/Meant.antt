-- What resources stand for, put one after another.
use Rattle.std.proofs.Common.{◌≡◌, ◌<◌, ◌≤◌, ◌+◌, ◌-◌, ◌∙◌, ℕ, List, refl, ap, sym}
use Rattle.heat_value.specs.Data.{Data, fields, Members, no_members, member, put}
use Rattle.hot_env.specs.Environments.{over}
use Rattle.hot_groups.specs.Groups.{member_name}
use Rattle.hot_groups.specs.Plain.{before, meant, all_meant, made, made_from}
use Rattle.hot_groups.proofs.Numbered.{left_more, left_none}

over-before : (base xs ys : Members) → over base (before xs ys) ≡ over (over base xs) ys
over-before base no_members ys = refl
over-before base (member k d xs) ys = over-before (put k d base) xs ys

-- one resource more
pub meant_more : (bound all now : Members) (k : List ℕ) (d : Data) (left rest whole : Members)
    → left ≡ member k d rest → now ≡ over all (meant bound k d) → whole ≡ over all (all_meant bound left)
    → whole ≡ over now (all_meant bound rest)
meant_more bound all now k d left rest whole split set way =
    way ∙ ap (λ (ms : Members). over all (all_meant bound ms)) split
    ∙ over-before all (meant bound k d) (all_meant bound rest)
    ∙ ap (λ (ms : Members). over ms (all_meant bound rest)) (sym set)

module _ (g : List ℕ) (d : Data) (i n : ℕ) (all : Members) where
  -- one member more
  pub made_more : (now whole : Members) (name : List ℕ) (v : Members) → i < n → name ≡ member_name g i → v ≡ made d i
      → now ≡ put name (fields v) all → whole ≡ over all (made_from g d i (n - i))
      → whole ≡ over now (made_from g d (i + 1) (n - (i + 1)))
  made_more now whole name v below named is set way =
      way ∙ ap (λ (m : ℕ). over all (made_from g d i m)) (left_more n i below)
      ∙ ap (λ (ms : Members). over ms (made_from g d (i + 1) (n - (i + 1))))
      (sym (set ∙ ap (λ (s : List ℕ). put s (fields v) all) named ∙ ap (λ (ms : Members). put (member_name g i) (fields ms) all) is))

  -- there is none more
  pub made_all : n ≤ i → over all (made_from g d i (n - i)) ≡ all
  made_all above = ap (λ (m : ℕ). over all (made_from g d i m)) (left_none n i above)
