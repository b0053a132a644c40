use Rattle.std.proofs.Common.{◌≡◌, ◌∙◌, ◌++◌, ◌∷◌, [], List, ℕ, sym, subst}
use Rattle.heat_plan.specs.Names.{IsResName}
use Rattle.eval_words.specs.Needs.{AreResNamesOf}
use Rattle.hot_eval.proofs.Kept.{kept_in, kept_out, read_is, read_fits, read_off}
use Rattle.hot_eval.proofs.needs.add.Goals as goal

pub returns-in_ok-insert : goal.returns-in_ok-insert
returns-in_ok-insert c named kept =
    let same : c.in-Some.name ≡ c.as_bytes.result.now = read_is _ _ _ c.in-Some.is c.in_ok-name.ensures.value in
    let whole : c.in-Some.name ≡ c.args.name.now = same ∙ c.as_bytes.ensures.value ∙ c.as_str.ensures.value in
    subst (λ (n : List ℕ). AreResNamesOf (named ++ n ∷ []) c.insert.new.self.keys) whole
    (kept_in named c.args.names.now c.insert.new.self c.in-Some.name
    (subst IsResName (sym same) (read_fits _ _ _ c.in-Some.is c.in_ok-name.ensures.exact))
    c.in_ok-insert.ensures.updates kept)

pub returns-in_default : goal.returns-in_default
returns-in_default c named kept =
    let whole : c.as_bytes.result.now ≡ c.args.name.now = c.as_bytes.ensures.value ∙ c.as_str.ensures.value in
    subst (λ (n : List ℕ). AreResNamesOf (named ++ n ∷ []) c.args.names.now.keys) whole
    (kept_out named c.args.names.now.keys _ (read_off _ _ c.in_default.is c.in_ok-name.ensures.exact) kept)
