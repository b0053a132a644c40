-- The pieces stand in their order.
use Rattle.std.proofs.Common.{◌≡◌, ◌∙◌, ◌∷◌, ◌++◌, List, [], map, append_assoc, ap}
use Rattle.std.proofs.lemmas.Result.{IfOk-weaker}
use Rattle.core_state.specs.declared.change.Change.{Change}
use Rattle.core_state.specs.declared.change.Change.TheVariants.{PutGraph, PutRow, Send}
use Rattle.command_steps.specs.Layouts.{settles}
use Rattle.command_steps.proofs.changes.changes_of.Goals as goal

pieces : (a b c g : Change) (rows letters last : List Change)
    → ((((a ∷ b ∷ c ∷ []) ++ rows) ++ g ∷ []) ++ letters) ++ last ≡ a ∷ b ∷ c ∷ (rows ++ (g ∷ (letters ++ last)))
pieces a b c g rows letters last =
    ap (λ (all : List Change). a ∷ b ∷ c ∷ all)
    (append_assoc (rows ++ g ∷ []) letters last ∙ append_assoc rows (g ∷ []) (letters ++ last))

pub returns : goal.returns
returns c = IfOk-weaker c.with_last.result _ _ (λ changes is.
    let d = c.args.draft in
    is ∙ rw (
      c.in_ok-send_all.ensures,
      c.in_ok-push.ensures.ok,
      c.in_ok-put_rows.ensures,
      c.in_ok-changes.ensures,
      c.into_vec.ensures,
      c.into_vec-2.ensures,
      c.in_ok-last.ensures,
      c.as_slice.ensures,
      c.in_ok-name.ensures,
    )
    (pieces _ _ _ (PutGraph d.stack.name d.graph) (map PutRow d.rows) (map Send d.letters)
    (settles d.graph.nodes d.stack))) c.with_last.ensures
