use Rattle.std.proofs.Common.{◌∙◌, ◌∷◌, Err, ap, inl, inr}
use Rattle.std.proofs.lemmas.Map.Iter.{rest_more}
use Rattle.std.specs.Map.Iter.{deref_pair}
use Rattle.heat_value.specs.declared.path.Step.TheVariants.{Key}
use Rattle.cloud_file.proofs.reading.settings.Goals as goal

-- the fault of a part is the file's
pub returns-in-Some-2-clause-read : goal.returns-in-Some-2-clause-read
returns-in-Some-2-clause-read c =
    c.loop-key.invariant.3 (Err c.in_ok-under_key.field-0)
    (rw (rest_more deref_pair _ _ _ _ c.in-Some.is c.next.ensures.steps)
    (inr (
      c.take.new.all,
      c.in-Some-2.path,
      rw (← c.as_str.ensures.value, ← c.in-Some-2.is) c.in_ok-path.ensures.taken,
      ap Err (c.in_ok-under_key.ensures ∙ ap (λ k. Key k ∷ c.in-Some-2.path) c.as_str-in-Some-2.ensures.value),
    )))

-- a part that is taken leaves the rest to decide
pub loop-key-preserved : goal.loop-key-preserved
loop-key-preserved c = (
  tt,
  tt,
  c.take.ensures.fit,
  λ r rest.
      c.loop-key.invariant.3 r (rw (rest_more deref_pair _ _ _ _ c.in-Some.is c.next.ensures.steps)
      (inl (c.take.new.all, rw (← c.as_str.ensures.value, ← c.in_default.is) c.in_ok-path.ensures.taken, rest))),
)
