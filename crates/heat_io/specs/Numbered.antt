-- Streams in memory: their calls are numbered from 1, and the listed ones fail.
use Rattle.std.specs.Prelude.{◌≡◌, ◌≢◌, ◌⊎◌, ℕ, ◌+◌, ◌-◌, ◌^◌, min, Bool, cond, ◌&&◌}
use Rattle.std.specs.Prelude.{◌==◌, nat_lt, List, ◌++◌, length, take, drop}
use Rattle.std.specs.List.{list_any}
use Rattle.heat_io.specs.declared.source.Got.{Got}
use Rattle.heat_io.specs.declared.source.Got.TheVariants as got
use Rattle.heat_io.specs.declared.sink.Put.{Put}
use Rattle.heat_io.specs.declared.sink.Put.TheVariants as put

-- which calls fail, how many were made, and how many of them failed
pub record Numbered : Type 0 where
  pub fails : List ℕ
  pub made : ℕ
  pub faults : ℕ

-- The next call is a listed one. Numbers end at the last of 64 bits.
abbrev pub fails_next : Numbered → Bool
fails_next calls = nat_lt calls.made (2 ^ 64 - 1) && list_any (λ n. n == (calls.made + 1)) calls.fails

-- one call more
abbrev pub counted : Numbered → Numbered
counted calls = record {
  fails = calls.fails;
  made = min (calls.made + 1) (2 ^ 64 - 1);
  faults = cond (fails_next calls) (min (calls.faults + 1) (2 ^ 64 - 1)) calls.faults;
}

-- before the first call
abbrev pub uncalled : List ℕ → Numbered
uncalled fails = record { fails = fails; made = 0; faults = 0 }

-- a source in memory: what it has left, and how many bytes a call moves at most
pub record Spring : Type 0 where
  pub left : List ℕ
  pub piece : ℕ
  pub calls : Numbered

-- how many bytes the next read moves into a buffer of so many
abbrev pub moved : Spring → ℕ → ℕ
moved spring room = min spring.piece (min room (length spring.left))

-- the answer of the next read
abbrev pub answer_to_read : Spring → ℕ → Got
answer_to_read spring room =
    cond (fails_next spring.calls) got.Failed (cond (length spring.left == 0) got.End (got.Bytes (moved spring room)))

-- the source after the next read
abbrev pub after_read : Spring → ℕ → Spring
after_read spring room = record {
  left = cond (fails_next spring.calls) spring.left (drop (moved spring room) spring.left);
  piece = spring.piece;
  calls = counted spring.calls;
}

-- a sink in memory: what it holds, and how many bytes a call moves at most
pub record Basin : Type 0 where
  pub held : List ℕ
  pub piece : ℕ
  pub calls : Numbered

-- the answer of the next write, if there is memory
abbrev pub answer_to_write : Basin → ℕ → Put
answer_to_write basin count = cond (fails_next basin.calls) put.Failed (put.Took (min basin.piece count))

-- the sink after the next write, if there is memory
abbrev pub after_write : Basin → List ℕ → Basin
after_write basin bytes = record {
  held = cond (fails_next basin.calls) basin.held (basin.held ++ take (min basin.piece (length bytes)) bytes);
  piece = basin.piece;
  calls = counted basin.calls;
}

-- a write: where there is no memory, nothing has changed and the call has no number
pub record IsWritten (old new : Basin) (result : Put) (bytes : List ℕ) : Type 0 where
  pub answer : result ≡ put.Memory ⊎ result ≡ answer_to_write old (length bytes)
  pub memory : result ≡ put.Memory → new ≡ old
  pub after : result ≢ put.Memory → new ≡ after_write old bytes
