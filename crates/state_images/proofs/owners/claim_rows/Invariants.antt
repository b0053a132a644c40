use Rattle.std.proofs.Common.{◌≡◌, ◌++◌, map, take}
use Rattle.state_images.specs.Claims.{row_claim}
use Rattle.state_images.proofs.owners.claim_rows.Given as goal

abbrev pub invariant-loop-row : goal.invariant-loop-row
invariant-loop-row l = l.claims.items ≡ l.fn.claims.items ++ map row_claim (take l.row-index l.rows)
