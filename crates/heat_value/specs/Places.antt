-- Where a key stands among members, or where it would go.
use Rattle.std.specs.Prelude.{ℕ, suc, List, [], ◌∷◌, Result, Ok, Err}
use Rattle.std.specs.Ordering.{nat_cmp, match_ordering}
use Rattle.std.specs.Cmp.Lexicographic.{slice_cmp}
use Rattle.heat_value.specs.declared.value.Member.{Member}

-- the place among one member more
abbrev pub one_further : Result ℕ ℕ → Result ℕ ℕ
one_further (Ok i) = Ok (suc i)
one_further (Err i) = Err (suc i)

-- the place of the key, or that of the first greater key
abbrev pub place : List ℕ → List Member → Result ℕ ℕ
place k [] = Err 0
place k (e ∷ es) = match_ordering (slice_cmp nat_cmp k e.key) (Err 0) (Ok 0) (one_further (place k es))
