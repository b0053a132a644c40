use Rattle.std.proofs.Common.{ℕ, List, ◌<◌, ◌-◌, length, length-append, refl, arith, append_assoc, [], ◌∷◌, ◌++◌, ◌∙◌, ◌≡◌, ap, sym}
use Rattle.std.proofs.lemmas.List.{append-nil}
use Rattle.std.proofs.lemmas.Option.{slice_get_read}
use Rattle.std.proofs.lemmas.Result.{err_from_is_err_and}
use Rattle.hot_strings.specs.Answers.{with_values}
use Rattle.hot_strings.specs.Pieces.{source, replaced}
use Rattle.hot_strings.proofs.AnswerLemmas.{with_values-step}
use Rattle.longest_keys.specs.Texts.{IsLongest}
use Rattle.hot_strings.specs.Indexes.{keys_in}
use Rattle.hot_strings.proofs.Indexing.{longest_here, longest_within}
use Rattle.hot_strings.proofs.KeyLemmas.{is_empty_list, some_bytes}
use Rattle.hot_strings.proofs.PieceLemmas.{length-behind, source_some, LeadsTo-step, replaced-push, push_refused, values_pushed}
use Rattle.hot_strings.proofs.replacing.pass.Goals as goal

pub returns-in_err-push-clause-err : goal.returns-in_err-push-clause-err
returns-in_err-push-clause-err c =
    let p = err_from_is_err_and c.from_residual-in_err-push.result c.from_residual-in_err-push.ensures.1 in
    let piece = c.first_piece.ensures.piece in
    let step = with_values-step c.args.params.now c.requires.distinct c.requires.keys c.loop-rest.rest.now piece.0 c.first_piece.result.1.now piece.1 piece.2 in
    let tail = c.first_piece.result.1.now in
    let done = c.loop-rest.draft.text ++ c.first_piece.result.0.now in
    let whole : with_values c.args.params.now c.args.template.now ≡ done ++ with_values c.args.params.now tail
    = values_pushed c.args.params.now c.args.template.now c.loop-rest.draft.text c.loop-rest.rest.now c.first_piece.result.0.now tail c.loop-rest.invariant.3 (rw piece.3 step) in
    rw (p.1, p.2)
    (push_refused _ c.args.limit c.args.params.now c.args.template.now done (with_values c.args.params.now tail) whole (rw (← c.loop-rest.invariant.1) c.in_err-push.ensures.err))

pub loop-rest-smaller : goal.loop-rest-smaller
loop-rest-smaller c =
    let piece = c.first_piece.ensures.piece in
    length-behind piece.0 c.loop-rest.rest.now c.first_piece.result.1.now (source_some c.args.params.now c.loop-rest.rest.now piece.0 c.requires.keys piece.2) piece.1

pub loop-rest-preserved : goal.loop-rest-preserved
loop-rest-preserved c =
    let walk = c.loop-rest.invariant.2 in
    let piece = c.first_piece.ensures.piece in
    let step = with_values-step c.args.params.now c.requires.distinct c.requires.keys c.loop-rest.rest.now piece.0 c.first_piece.result.1.now piece.1 piece.2 in (
      c.first_piece.ensures.utf8,
      c.push.ensures.limit ∙ c.loop-rest.invariant.1,
      (
        walk.0 ++ piece.0 ∷ [],
        rw (replaced-push walk.0 piece.0, ← walk.1, ← piece.3) c.in_ok-push.ensures.ok,
        LeadsTo-step c.args.params.now c.args.template.now walk.0 c.loop-rest.rest.now piece.0 c.first_piece.result.1.now walk.2 piece.1 piece.2,
      ),
      rw c.in_ok-push.ensures.ok
          (values_pushed c.args.params.now c.args.template.now _ c.loop-rest.rest.now _ c.first_piece.result.1.now c.loop-rest.invariant.3 (rw piece.3 step)),
      (
        c.loop-rest.invariant.4.0 ++ source piece.0,
        c.loop-rest.invariant.4.1 ∙ (ap (λ (t : List ℕ). c.loop-rest.invariant.4.0 ++ t) piece.1 ∙ sym (append_assoc c.loop-rest.invariant.4.0 (source piece.0) c.first_piece.result.1.now)),
      ),
    )

pub returns-clause-ok : goal.returns-clause-ok
returns-clause-ok c =
    let walk = c.loop-rest.invariant.2 in
    let end = is_empty_list c.loop-rest.rest.now c.loop-rest-test.ensures in
    (walk.0 ++ [], walk.2 [] end, c.finish.ensures.text ∙ (walk.1 ∙ ap replaced (sym (append-nil walk.0))))

longest_read : (c : goal.After-row_known-1) → IsLongest (keys_in c.args.params.now) c.loop-rest.rest.now c.index-longest.result.now
longest_read c =
    let front = c.loop-rest.invariant.4 in
    let found = c.in_ok-found.found.items in
    let at : ℕ = length c.args.template.now - length c.loop-rest.rest.now in
    let within : at < length found = omega (arith, c.in_ok-found.ensures.size, ap length front.1, length-append front.0 c.loop-rest.rest.now, some_bytes c.loop-rest.rest.now c.loop-rest-test.ensures) in
    longest_here (keys_in c.args.params.now) c.args.template.now front.0 c.loop-rest.rest.now found at c.index-longest.result.now front.1 refl
    (c.in_ok-found.ensures.each (keys_in c.args.params.now) c.requires.index) (slice_get_read found (length found) at c.index-longest.result.now refl within c.index-longest.ensures)

pub first_piece-requires-clause-within : goal.first_piece-requires-clause-within
first_piece-requires-clause-within c = longest_within c.args.params.now c.loop-rest.rest.now c.index-longest.result.now (longest_read c)

pub first_piece-requires-clause-longest : goal.first_piece-requires-clause-longest
first_piece-requires-clause-longest c = longest_read c
