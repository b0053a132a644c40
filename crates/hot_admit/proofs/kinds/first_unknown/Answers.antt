-- The mark of each member tells whether its key is a property.
use Rattle.std.proofs.Common.{◌≡◌, ◌∙◌, ◌∷◌, [], Some, sym, ap, arith}
use Rattle.std.proofs.lemmas.Result.{IfOk-weaker}
use Rattle.heat_value.specs.Meaning.{members_of}
use Rattle.heat_value.specs.declared.path.Step.TheVariants.{Key}
use Rattle.hot_catalog.specs.Paths.{behind}
use Rattle.hot_admit.specs.Kinds.{first_unknown}
use Rattle.hot_admit.proofs.KeyMarks.{marks_count, mark_told, known_here, unknown_here}
use Rattle.hot_admit.proofs.kinds.first_unknown.Goals as goal

pub index-requires : goal.index-requires
index-requires c =
    omega (
      arith,
      marks_count _ c.as_slice-members.result.now c.in_ok-known.known.items c.in_ok-known.ensures,
      c.in_ok-known.known.ok.0,
      c.loop-place-test.true,
    )

pub returns-then-not-index : goal.returns-then-not-index
returns-then-not-index c =
    let read = c.as_slice-members.ensures.members in
    let all : members_of c.as_slice-members.result.now ≡ c.args.given.now = cc in
    let first : first_unknown c.args.kind.now (members_of c.as_slice-members.result.now)
    ≡ Some (Key c.index-members-place.result.key ∷ []) =
    unknown_here c.args.kind.now c.as_slice-members.result.now c.loop-place.place c.index-members-place.result
    c.loop-place.invariant c.loop-place-test.true c.index-members-place.is
    (mark_told c.args.kind.now c.as_slice-members.result.now c.loop-place.place c.index-members-place.result
    c.index.result.now c.in_ok-known.known.items c.loop-place-test.true c.index-members-place.is
    (rw c.as_slice.ensures at c.in_ok-known.ensures) c.index.ensures ∙ c.if-not-index.true) in
    IfOk-weaker c.behind_key.result _ _ (λ o is.
    is ∙ ap (behind (Key c.index-members-place.result.key)) c.here_unless.ensures ∙ sym first
    ∙ ap (first_unknown c.args.kind.now) all) c.behind_key.ensures

pub loop-place-preserved : goal.loop-place-preserved
loop-place-preserved c =
    known_here c.args.kind.now c.as_slice-members.result.now c.loop-place.place c.index-members-place.result
    c.loop-place.invariant c.loop-place-test.true c.index-members-place.is
    (mark_told c.args.kind.now c.as_slice-members.result.now c.loop-place.place c.index-members-place.result
    c.index.result.now c.in_ok-known.known.items c.loop-place-test.true c.index-members-place.is
    (rw c.as_slice.ensures at c.in_ok-known.ensures) c.index.ensures ∙ c.if-not-index.false)
