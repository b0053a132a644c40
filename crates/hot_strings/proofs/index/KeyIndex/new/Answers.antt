use Rattle.std.proofs.Common.{◌∙◌, ℕ, List, map, ap, subst}
use denote.Ref.{Bor}
use Rattle.longest_keys.specs.Finders.{IsFinderOf}
use Rattle.hot_strings.proofs.Indexing.{empty_of}
use Rattle.hot_strings.proofs.index.KeyIndex.new.Goals as goal

pub returns : goal.returns
returns c = record {
  empty = empty_of c.has_empty_key-empty.result c.args.params.now c.has_empty_key-empty.ensures;
  finder = subst (λ (keys : List (List ℕ)). IsFinderOf keys c.in_ok-finder.finder)
      (ap (λ (keys : List (Bor (List ℕ))). map (λ k. k.now) keys) c.as_slice.ensures.value ∙ c.in_ok-keys.ensures) c.in_ok-finder.ensures;
}
