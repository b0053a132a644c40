use Rattle.std.proofs.Common.{◌≡◌, ◌+◌, ◌^◌, ℕ, List, arith, drop, length, refl, rules, subst}
use Rattle.heat_disk.specs.Halves.{Pair, part}
use Rattle.row_journal.specs.Found.{EndsBy}
use Rattle.row_journal.specs.Pending.{IsThe, StandsBehind}
use Rattle.row_journal.specs.Places.{place_of}
use Rattle.row_journal.specs.declared.place.Place.{Place}
use Rattle.row_journal.specs.ShownImages.{image_of}
use Rattle.row_journal.proofs.Laid.{end_within}
use Rattle.row_journal.proofs.looking.look.Goals as goal

pub place_of-place-requires-clause-fits : goal.place_of-place-requires-clause-fits
place_of-place-requires-clause-fits c =
    let is_image = rw c.in-Some.is at c.in_ok-image.ensures.image in
    let long = rw c.in-Some.is at c.in_ok-image.ensures.len in
    omega (arith, long, end_within (c.args.first.now, c.args.second.now) (image_of c.in-Some.image) (2 ^ 63) is_image (omega arith) (omega arith))

pub returns-in_ok-pending-in-Some-clause-found : goal.returns-in_ok-pending-in-Some-clause-found
returns-in_ok-pending-in-Some-clause-found c =
    let halves : Pair = (c.args.first.now, c.args.second.now) in
    let at : c.place_of-place.result ≡ place_of (image_of c.in-Some.image) = c.place_of-place.ensures in
    let live : c.part-live.result.now ≡ part c.place_of-place.result.half halves = c.part-live.ensures in
    let counted : c.len.result ≡ length c.in-Some.image.payloads.items = search rules in
    record {
      image = image_of c.in-Some.image;
      is_image = rw c.in-Some.is at c.in_ok-image.ensures.image;
      place = at;
      payloads = refl;
      ending = subst (λ (p : Place). EndsBy p.half (part p.half halves) p.end c.ending_of-ending.result) at
          (subst (λ (l : List ℕ). EndsBy c.place_of-place.result.half l c.place_of-place.result.end c.ending_of-ending.result)
          live c.ending_of-ending.ensures);
      pending = subst (λ (p : Place). IsThe (StandsBehind p.version (length c.in-Some.image.payloads.items + 1)
          (drop p.end (part p.half halves))) c.in_ok-pending-in-Some.field-0) at
          (subst (λ (l : List ℕ). IsThe (StandsBehind c.place_of-place.result.version
          (length c.in-Some.image.payloads.items + 1) (drop c.place_of-place.result.end l))
          c.in_ok-pending-in-Some.field-0) live
          (subst (λ (n : ℕ). IsThe (StandsBehind c.place_of-place.result.version (n + 1)
          (drop c.place_of-place.result.end c.part-live.result.now)) c.in_ok-pending-in-Some.field-0) counted
          c.in_ok-pending-in-Some.ensures));
    }
