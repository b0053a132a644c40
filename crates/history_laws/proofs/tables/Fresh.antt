-- A job of its stack's newest traversal has work; so one that is overrun is of an older one.
use Rattle.std.proofs.Common.{◌≡◌, inl, inr, ℕ, List, [], ◌∷◌, Some, refl, sym, subst}
use Rattle.std.specs.Prelude.{Contains}
use Rattle.std.specs.Str.{bytes_eq}
use Rattle.std.proofs.lemmas.Slice.Eq.{bytes_eq-Decides}
use Rattle.heat_plan.specs.Plans.{names_of}
use Rattle.heat_plan.specs.Tables.{at}
use Rattle.heat_plan.specs.declared.item.Item.{Item}
use Rattle.traversal_graph.specs.declared.shape.Node.{Node}
use Rattle.traversal_graph.specs.declared.shape.Node.TheVariants.{C, U}
use Rattle.row_table.specs.Rows.{row_at}
use Rattle.mail_table.specs.Mails.{job_at}
use Rattle.mail_table.specs.declared.mail.Job.{Job}
use Rattle.step_relation.specs.Reads.{item_at}
use Rattle.step_relation.specs.State.{StateData}
use Rattle.step_relation.specs.declared.Graph.{Graph}
use Rattle.step_relation.specs.declared.Stack.{Stack}
use Rattle.step_relation.specs.Freshness.{IsFresh, IsOverrun, Names, cleans, plan_of, updates}
use Rattle.step_relation.specs.MailFits.{IsNewest, JobFits}
use Rattle.step_relation.specs.Sound.{Standing}
use Rattle.history_laws.proofs.tables.Facts.{named_fits}
use Rattle.history_laws.proofs.tables.Puts.{contains_cases, contains_none}
use Rattle.history_laws.proofs.tables.Tables.{cases}
use Rattle.history_laws.proofs.tables.Targets.{target_once}

-- a name in the plan is an item's
pub item_of : (items : List Item) (name : List ℕ) → Contains (names_of items) name
    → (item : Item) × (item_at items name ≡ Some item)
unfolding at
item_of [] name has = absurd (contains_none name has)
item_of (x ∷ xs) name has = elim (cases bytes_eq bytes_eq-Decides (λ (i : Item). i.name) x.name name) [
  | inl is ↦ (x, rw is.0 refl)
  | inr not ↦ elim (contains_cases x.name name (names_of xs) has) [
    | inl same ↦ absurd (not.1 same)
    | inr there ↦ let (y, at_y) = item_of xs name there in (y, rw not.0 at_y)
  ]
]

fresh_at : (s : StateData) → Standing s → (j : Job) (st : Stack) (g : Graph) (node : Node) → Names s j.letter st g node
    → JobFits s j st g node
    → IsFresh s j.letter j.row
fresh_at s S j st g (U word n) names f =
    let fits = named_fits s S j.letter st g (U word n) names in
    let (q, is) = fits.targets.updates j.letter.node n word names.its_node in
    let (item, asked) = item_of (plan_of st.plan).items word
    (fits.nodes.only_items j.letter.node n word names.its_node) in
    let number = target_once s.rows st.name (U word n) j.row q.no f.target is.to in record {
      stack = st;
      graph = g;
      node = U word n;
      row = Some q;
      names = names;
      found = subst (λ (x : ℕ). row_at s.rows x ≡ Some q) (sym number) is.is.found;
      serves = updates word n item q asked is.kept;
    }
fresh_at s S j st g (C n) names f = record {
  stack = st;
  graph = g;
  node = C n;
  row = row_at s.rows j.row;
  names = names;
  found = refl;
  serves = cleans n (row_at s.rows j.row);
}

pub fresh_of_newest : (s : StateData) → Standing s → (e : ℕ) (j : Job) → job_at s.jobs e ≡ Some j → (st : Stack)
    → IsNewest s j.letter st
    → IsFresh s j.letter j.row
fresh_of_newest s S e j its st newest =
    let k = S.shape.jobs.newest e j st its newest in fresh_at s S j st k.graph k.node k.names k.fits

pub overrun_is_old : (s : StateData) → Standing s → (e : ℕ) (j : Job) → job_at s.jobs e ≡ Some j → IsOverrun s j
    → (st : Stack)
    → IsNewest s j.letter st → ⊥
overrun_is_old s S e j its overrun st newest = overrun (fresh_of_newest s S e j its st newest)
