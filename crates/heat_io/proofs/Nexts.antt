-- What the next line comes to, by what was given, and with more behind.
use Rattle.std.proofs.Common.{◌≡◌, ℕ, ◌+◌, ◌<◌, ◌≤◌, List, [], ◌∷◌, ◌++◌, length, take, drop, get_or, refl, ap, sym, ◌∙◌, subst, arith, Option, Some, None, length-append, length-drop, append-nil}
use Rattle.std.specs.Io.BufRead.{strip_last}
use Rattle.std.proofs.lemmas.List.{take-append-le, take-append-drop}
use Rattle.std.proofs.Math.Seq.{take-length, drop-length}
use Rattle.heat_io.specs.declared.next.Next.{Next}
use Rattle.heat_io.specs.declared.next.Next.TheVariants as next
use Rattle.heat_io.specs.Streams.{ahead, IsEmptied}
use Rattle.heat_io.specs.Lines.{is_lf, cut_lines, length_of_line, behind_line, line_limit}
use Rattle.heat_io.specs.Reading.{Reader, Stays, IsNext, IsNextOf, IsGiven}
use Rattle.heat_io.proofs.Ends.{position_or_len-within, position_or_len-grows}
use Rattle.heat_io.proofs.Cuts.{cut_lines-lf, cut_lines-end, behind_line-append, size_of_line-append, behind_line-end}

-- the line without its CR, by its length
pub front_is : (held seen : List ℕ) (count len : ℕ) → seen ≡ held → count ≡ length_of_line held → len ≤ length (take count seen)
    → take len (take count seen) ≡ strip_last 13 (take count seen) → take len held ≡ strip_last 13 (take (length_of_line held) held)
front_is held seen count len same ends within is =
    let whole : take len (take count seen) ≡ take len held =
    sym (take-append-le len (take count seen) (drop count seen) within) ∙ ap (take len) (take-append-drop count seen ∙ same) in
    sym whole ∙ is ∙ ap (λ n. strip_last 13 (take n seen)) ends ∙ ap (λ bytes. strip_last 13 (take (length_of_line held) bytes)) same

counted_lf : (bytes rest : List ℕ) (given now : ℕ) → length_of_line bytes < length bytes → rest ≡ behind_line bytes
    → now ≡ given + (length_of_line bytes + 1) → now + length rest ≡ given + length bytes
counted_lf bytes rest given now lf is count = omega (arith, lf, count, ap length is, length-drop (length_of_line bytes + 1) bytes)

-- a line that ends at an LF was given, or it wasn't
pub given_lf : (len : ℕ) (old new : Reader) (result : Next) → length_of_line old.held < length old.held → length_of_line old.held ≤ line_limit
    → take len old.held ≡ strip_last 13 (take (length_of_line old.held) old.held)
    → IsGiven len (length_of_line old.held + 1) old new result → IsNext old.given old.held result new.held new.given
given_lf len old new (next.Line line) lf short cr is = record {
  lines = rw (is.0, cr, is.1) (cut_lines-lf old.held lf);
  behind = is.1;
  short = short;
  counted = counted_lf old.held new.held old.given new.given lf is.1 is.2;
  rises = omega (arith, is.2);
  within = is.3;
}
given_lf len old new next.End lf short cr is = absurd is
given_lf len old new next.LineTooLong lf short cr is = absurd is
given_lf len old new next.ScriptTooLong lf short cr is = (short, omega (arith, lf, is.0), is.1)
given_lf len old new next.ReadFault lf short cr is = absurd is
given_lf len old new next.Memory lf short cr is = is

-- the same of a line that ends where the source does
pub given_end : (old new : Reader) (result : Next) → length_of_line old.held ≡ length old.held → length old.held ≤ line_limit → 0 < length old.held
    → IsGiven (length old.held) (length old.held) old new result → IsNext old.given old.held result new.held new.given
given_end old new (next.Line line) none short some is = record {
  lines = rw (is.0, take-length old.held, is.1, drop-length old.held) (cut_lines-end old.held none some);
  behind = is.1 ∙ drop-length old.held ∙ sym (behind_line-end old.held none);
  short = omega (arith, none, short);
  counted = omega (arith, is.2, ap length (is.1 ∙ drop-length old.held));
  rises = omega (arith, is.2, some);
  within = is.3;
}
given_end old new next.End none short some is = absurd is
given_end old new next.LineTooLong none short some is = absurd is
given_end old new next.ScriptTooLong none short some is = (omega (arith, none, short), omega (arith, none, is.0), is.1)
given_end old new next.ReadFault none short some is = absurd is
given_end old new next.Memory none short some is = is

pub stays-more : (given : ℕ) (held rest more : List ℕ) (now : ℕ) → Stays given held rest now → Stays given (held ++ more) (rest ++ more) now
stays-more given held rest more now is = record { rest_same = ap (λ bytes. bytes ++ more) is.rest_same; given_same = is.given_same }

-- the first line, with more behind its LF
line-more : (held more line : List ℕ) (rest : List ℕ) → length_of_line held < length held → cut_lines held ≡ line ∷ cut_lines rest
    → cut_lines (held ++ more) ≡ line ∷ cut_lines (behind_line (held ++ more))
line-more held more line rest lf is =
    let within = position_or_len-within is_lf held more lf in
    let first = ap (λ lines. get_or lines 0 []) (sym (cut_lines-lf held lf) ∙ is) in
    cut_lines-lf (held ++ more) (omega (arith, lf, within, length-append held more))
    ∙ ap (λ bytes. bytes ∷ cut_lines (behind_line (held ++ more)))
    (ap (λ count. strip_last 13 (take count (held ++ more))) within
    ∙ ap (strip_last 13) (take-append-le (length_of_line held) held more (omega (arith, lf)))
    ∙ first)

-- more behind the first line's LF changes nothing
pub next-more : (given : ℕ) (held more : List ℕ) (result : Next) (rest : List ℕ) (now : ℕ) → length_of_line held < length held
    → IsNext given held result rest now → IsNext given (held ++ more) result (rest ++ more) now
next-more given held more (next.Line line) rest now lf is = record {
  lines = line-more held more line rest lf is.lines ∙ ap (λ bytes. line ∷ cut_lines bytes) (behind_line-append held more lf ∙ ap (λ bytes. bytes ++ more) (sym is.behind));
  behind = ap (λ bytes. bytes ++ more) is.behind ∙ sym (behind_line-append held more lf);
  short = rw (position_or_len-within is_lf held more lf) is.short;
  counted = omega (arith, is.counted, length-append rest more, length-append held more);
  rises = is.rises;
  within = is.within;
}
next-more given held more next.End rest now lf is = absurd (omega (arith, lf, ap length is.0))
next-more given held more next.LineTooLong rest now lf is = (rw (position_or_len-within is_lf held more lf) is.0, stays-more given held rest more now is.1)
next-more given held more next.ScriptTooLong rest now lf is =
    (rw (position_or_len-within is_lf held more lf) is.0, rw (size_of_line-append held more lf) is.1, stays-more given held rest more now is.2)
next-more given held more next.ReadFault rest now lf is = stays-more given held rest more now is
next-more given held more next.Memory rest now lf is = stays-more given held rest more now is

abbrev known : Option (List ℕ) → List ℕ
known None = []
known (Some bytes) = bytes

-- what is ahead in the reader and the source is the bytes that were held, and then more
pub ahead-Some : (held bytes : List ℕ) (left : Option (List ℕ)) → ahead held left ≡ Some bytes → (more : List ℕ) × (left ≡ Some more) × (bytes ≡ held ++ more)
ahead-Some held bytes None is = absurd (grind (arith, is))
ahead-Some held bytes (Some more) is = (more, refl, sym (ap (λ told. known told) is))

-- a line that ends at an LF, over all that is ahead
pub told_lf : (given : ℕ) (old held rest : List ℕ) (before left : Option (List ℕ)) (result : Next) (now : ℕ) → ahead held left ≡ ahead old before
    → length_of_line held < length held → IsNext given held result rest now → IsNextOf given (ahead old before) result (ahead rest left) now
told_lf given old held rest before left result now all lf is bytes told =
    let more = ahead-Some held bytes left (all ∙ told) in
    (rest ++ more.0, ap (ahead rest) more.1, subst (λ all. IsNext given all result (rest ++ more.0) now) (sym more.2) (next-more given held more.0 result rest now lf is))

-- the line is too long whatever comes
pub told_long : (given : ℕ) (old held : List ℕ) (before left : Option (List ℕ)) → ahead held left ≡ ahead old before
    → line_limit < length_of_line held → IsNextOf given (ahead old before) next.LineTooLong (ahead held left) given
told_long given old held before left all long bytes told =
    let more = ahead-Some held bytes left (all ∙ told) in
    (bytes, all ∙ told, (subst (λ all. line_limit < length_of_line all) (sym more.2) (omega (arith, long, position_or_len-grows is_lf held more.0)), record { rest_same = refl; given_same = refl }))

-- a line that ends where the source does
pub told_end : (given : ℕ) (old held rest : List ℕ) (before left : Option (List ℕ)) (result : Next) (now : ℕ) → ahead held left ≡ ahead old before
    → IsEmptied left → IsNext given held result rest now → IsNextOf given (ahead old before) result (ahead rest left) now
told_end given old held rest before None result now all emptied is bytes told = absurd (grind (arith, all ∙ told))
told_end given old held rest before (Some more) result now all emptied is bytes told =
    let same : held ≡ bytes = sym (append-nil held) ∙ ap (λ none. held ++ none) (sym emptied) ∙ ap (λ all. known all) (all ∙ told) in
    (rest, ap (λ none. Some (rest ++ none)) emptied ∙ ap Some (append-nil rest), rw (← same) is)

-- nothing was given
pub told_stays : (given : ℕ) (old held : List ℕ) (before left : Option (List ℕ)) → ahead held left ≡ ahead old before
    → (bytes : List ℕ) → ahead old before ≡ Some bytes → (rest : List ℕ) × (ahead held left ≡ Some rest) × Stays given bytes rest given
told_stays given old held before left all bytes told = (bytes, all ∙ told, record { rest_same = refl; given_same = refl })
