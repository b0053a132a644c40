-- What keeps `OneCurrent` and `Chained`.
use Rattle.std.proofs.Common.{◌≡◌, ◌≢◌, List, Some, refl, sym, ap, ◌∙◌}
use Rattle.heat_plan.specs.declared.phase.Act.TheVariants.{Delete}
use Rattle.row_table.specs.declared.row.Row.{Row}
use Rattle.step_relation.specs.Linked.{Chained, IsReplacedBy, OneCurrent}
use Rattle.history_laws.proofs.tables.Alike.{Were}

-- what these two parts read of a row is the same
pub record SameLinks (o a : Row) : Type 0 where
  pub no_ : a.no ≡ o.no
  pub stack : a.stack ≡ o.stack
  pub name : a.name ≡ o.name
  pub replaces : a.replaces ≡ o.replaces
  pub replaced_by : a.replaced_by ≡ o.replaced_by
  pub kept : a.act ≢ Delete → o.act ≢ Delete

pub SameLinks-same : (r : Row) → SameLinks r r
SameLinks-same r = record {
  no_ = refl;
  stack = refl;
  name = refl;
  replaces = refl;
  replaced_by = refl;
  kept =
      λ h. h;
}

pub OneCurrent-were : (before after : List Row) → Were SameLinks before after → OneCurrent before → OneCurrent after
OneCurrent-were before after were old = record {
  newest = λ n m a b at_n at_m stacks names current.
      let (p, was_a, same_a) = were n a at_n in
      let (q, was_b, same_b) = were m b at_m in
      old.newest n m p q was_a was_b (sym same_a.stack ∙ (stacks ∙ same_b.stack))
      (sym same_a.name ∙ (names ∙ same_b.name))
      (record { kept = same_a.kept current.kept; last = sym same_a.replaced_by ∙ current.last });
}

pub Chained-were : (before after : List Row) → Were SameLinks before after → Chained before → Chained after
Chained-were before after were old = record {
  rises = λ n m r at_n by.
      let (p, was, same) = were n r at_n in old.rises n m p was (sym same.replaced_by ∙ by);
  forth = λ n m r q at_n by at_m.
      let (p, was_p, same_p) = were n r at_n in
      let (k, was_k, same_k) = were m q at_m in
      again r q p k same_p same_k (old.forth n m p k was_p (sym same_p.replaced_by ∙ by) was_k);
  back = λ n m r q at_n at_m of.
      let (p, was_p, same_p) = were n r at_n in
      let (k, was_k, same_k) = were m q at_m in
      again r q p k same_p same_k (old.back n m p k was_p was_k (sym same_k.replaces ∙ of));
} where
  again : (r q p k : Row) → SameLinks p r → SameLinks k q → IsReplacedBy p k → IsReplacedBy r q
  again r q p k same_p same_k is = record {
    replaced_by = same_p.replaced_by ∙ (is.replaced_by ∙ ap Some (sym same_k.no_));
    replaces = same_k.replaces ∙ (is.replaces ∙ ap Some (sym same_p.no_));
    stack = same_k.stack ∙ (is.stack ∙ sym same_p.stack);
    name = same_k.name ∙ (is.name ∙ sym same_p.name);
  }
