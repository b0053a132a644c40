use Rattle.std.proofs.Common.{◌≡◌, ◌∙◌, ℕ, List, ap, sym, get_or, set}
use Rattle.std.proofs.lemmas.List.{set-set, set-get_or}
use Rattle.hot_eval.proofs.stock.Stock.lend.Goals as goal

back : (l : List (List ℕ)) (n : ℕ) (t u : List ℕ) → u ≡ get_or l n u → set (set l n t) n u ≡ l
back l n t u is = set-set l n t u ∙ ap (set l n) is ∙ set-get_or l n u

pub returns-clause-rest : goal.returns-clause-rest
returns-clause-rest c =
    back (set c.self.inside.all.items c.args.from c.swap.new.x) c.args.to c.swap-2.new.x c.swap-2.new.y
    (c.swap-2.ensures.y_after ∙ c.index_mut-2.ensures.value
    ∙ ap (λ (t : List ℕ). get_or (set c.self.inside.all.items c.args.from c.swap.new.x) c.args.to t) (sym c.swap-2.ensures.y_after))
    ∙ ap (set c.self.inside.all.items c.args.from) c.swap.ensures.x_after
    ∙ ap (λ (l : List (List ℕ)). set l c.args.from c.args.text.now) c.self.view_is
