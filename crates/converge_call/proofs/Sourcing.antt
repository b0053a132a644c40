-- What was read of a source so far, and how each answer of the reader takes it on or ends it.
use Rattle.std.proofs.Common.{◌≡◌, ◌⊎◌, inl, inr, ◌<◌, ℕ, List, [], ◌∷◌, ◌++◌, Option, Some, None, length}
use Rattle.std.proofs.Common.{refl, sym, ap, ◌∙◌, subst, arith, length-append}
use Rattle.heat_io.specs.declared.next.Next.{Next}
use Rattle.heat_io.specs.declared.next.Next.TheVariants as next
use Rattle.heat_io.specs.Lines.{cut_lines, most_read}
use Rattle.heat_io.specs.Reading as reading
use Rattle.heat_io.specs.Reading.{Gave, HasNoEnd, HoldsFew, IsNext, IsNextOf, Reads, StopsAtEnd}
use Rattle.heat_io.specs.Streams.{ahead}
use Rattle.heat_io.proofs.Runs.{are_lines}
use Rattle.converge_call.specs.Sources.{AllRead, AreRead, FirstRead, JustRead, LimitRead, UnendedRead}
use Rattle.converge_call.proofs.Noting.{append-none}

-- the lines so far, where the source tells: what is ahead is told, and is what follows them
abbrev pub Reached : Option (List ℕ) → Option (List ℕ) → List (List ℕ) → ℕ → Type 0
Reached left front lines given =
    (bytes : List ℕ) → left ≡ Some bytes → (rest : List ℕ) × (front ≡ Some rest) × AreRead bytes lines rest given

-- a reader behind these lines
pub record IsAt (left_old : Option (List ℕ)) (held : List ℕ) (left : Option (List ℕ)) (lines : List (List ℕ)) (given : ℕ)
    : Type 0 where
  pub gave : Gave lines held given
  pub few : length held < most_read
  pub told : Reached left_old (ahead held left) lines given

-- of so many bytes in all
pub are_read : (bytes : List ℕ) (lines : List (List ℕ)) (rest : List ℕ) (given : ℕ) → Reads 0 bytes lines rest given
    → AreRead bytes lines rest given
are_read bytes lines rest given reads =
    let all = are_lines 0 bytes lines rest given reads in
    let count = all.counted in
    record { reads = reads; lines_are = all.lines_are; counted = omega (arith, count) }

-- before the first line
pub at_first : (left : Option (List ℕ)) (held : List ℕ) (given : ℕ) → held ≡ [] → given ≡ 0 → IsAt left held left [] given
at_first left held given empty zero = record {
  gave = reading.begins [] held given refl empty zero;
  few = let none = ap length empty in omega (arith, none);
  told = λ bytes is. (
    bytes,
    ap (λ (h : List ℕ). ahead h left) empty ∙ ap (λ (x : Option (List ℕ)). ahead [] x) is,
    subst (λ (n : ℕ). AreRead bytes [] bytes n) (sym zero)
        (are_read bytes [] bytes 0 (reading.begins [] bytes 0 refl refl refl)),
  );
}

module _ (left_old : Option (List ℕ)) (held : List ℕ) (left : Option (List ℕ)) (lines : List (List ℕ)) (given : ℕ)
    (at : IsAt left_old held left lines given) where
  -- right behind a line
  pub just_read : JustRead left_old left lines
  just_read = record {
    first = record {
      behind = held;
      given = given;
      gave = at.gave;
      taken = [];
      told = λ bytes is. let (rest, front, read) = at.told bytes is in
          (rest, ap (λ (h : List ℕ). ahead h left) (append-none held) ∙ front, read);
    };
    none = refl;
    few = at.few;
  }

  module _ (held_new taken : List ℕ) (left_new : Option (List ℕ)) (given_new : ℕ) where
    -- what an answer says of what is ahead, where the source tells
    abbrev pub Tells : Next → Type 0
    Tells it = IsNextOf given (ahead held left) it (ahead held_new left_new) given_new

    -- and of what was taken
    abbrev pub Sees : Next → Type 0
    Sees it = IsNext given (held ++ taken) it held_new given_new

    -- one line more
    pub line_read : (line : List ℕ) → Tells (next.Line line) → Sees (next.Line line) → StopsAtEnd held taken
        → HoldsFew held held_new → IsAt left_old held_new left_new (lines ++ line ∷ []) given_new
    line_read line tells sees stops few = record {
      gave = reading.adds lines held given taken line (lines ++ line ∷ []) held_new given_new at.gave stops sees refl;
      few = by few;
      told = λ bytes is.
          let (ahead_now, front, read) = at.told bytes is in
          let (rest, new_is, gives) = tells ahead_now front in (
            rest,
            new_is,
            are_read bytes (lines ++ line ∷ []) rest given_new
                (reading.adds lines ahead_now given line (lines ++ line ∷ []) rest given_new read.reads gives refl),
          );
    } where
      by : HoldsFew held held_new → length held_new < most_read
      by (inl less) = less
      by (inr (front, parts)) =
          let was = at.few in let size = ap length parts in let sum = length-append front held_new in
          omega (arith, was, size, sum)

    -- no line: what was held and taken is held
    module _ (it : Next) (tells : Tells it) (same : held_new ≡ held ++ taken)
        (stays : (bytes rest : List ℕ) → IsNext given bytes it rest given_new → rest ≡ bytes) where
      pub not_read : FirstRead left_old left_new lines
      not_read = record {
        behind = held;
        given = given;
        gave = at.gave;
        taken = taken;
        told = λ bytes is.
            let (ahead_now, front, read) = at.told bytes is in
            let (rest, new_is, says) = tells ahead_now front in (
              rest,
              ap (λ (h : List ℕ). ahead h left_new) (sym same) ∙ new_is,
              subst (λ (r : List ℕ). AreRead bytes lines r given) (sym (stays ahead_now rest says)) read,
            );
      }

    pub lacking_read : Tells next.Memory → Sees next.Memory → FirstRead left_old left_new lines
    lacking_read tells sees = not_read next.Memory tells sees.rest_same (λ bytes rest says. says.rest_same)

    pub unended_read : Tells next.ReadFault → Sees next.ReadFault → HasNoEnd held_new
        → UnendedRead left_old left_new lines
    unfolding not_read
    unended_read tells sees none = record {
      first = not_read next.ReadFault tells sees.rest_same (λ bytes rest says. says.rest_same);
      unended = subst HasNoEnd sees.rest_same none;
    }

    pub long_line : Tells next.LineTooLong → Sees next.LineTooLong → LimitRead left_old left_new lines
    unfolding not_read
    long_line tells sees = record {
      first = not_read next.LineTooLong tells sees.1.rest_same (λ bytes rest says. says.1.rest_same);
      passes = inl sees.0;
      told = λ bytes is.
          let (ahead_now, front, read) = at.told bytes is in
          let (rest, new_is, (long, stays)) = tells ahead_now front in (ahead_now, given, read, inl long);
    }

    pub long_script : Tells next.ScriptTooLong → Sees next.ScriptTooLong → LimitRead left_old left_new lines
    unfolding not_read
    long_script tells sees = record {
      first = not_read next.ScriptTooLong tells sees.2.rest_same (λ bytes rest says. says.2.rest_same);
      passes = inr (sees.0, sees.1);
      told = λ bytes is.
          let (ahead_now, front, read) = at.told bytes is in
          let (rest, new_is, (short, long, stays)) = tells ahead_now front in (ahead_now, given, read, inr (short, long));
    }

    -- either limit
    pub limit_read : (it : Next) → (it ≡ next.LineTooLong) ⊎ (it ≡ next.ScriptTooLong) → Tells it → Sees it
        → LimitRead left_old left_new lines
    limit_read it either tells sees = elim either [
      | inl is ↦ long_line (subst Tells is tells) (subst Sees is sees)
      | inr is ↦ long_script (subst Tells is tells) (subst Sees is sees)
    ]

    -- nothing is ahead
    pub all_read : Tells next.End → Sees next.End → AllRead left_old left_new lines
    unfolding not_read
    all_read tells sees = record {
      first = not_read next.End tells sees.1.rest_same (λ bytes rest says. says.1.rest_same);
      none = sees.0;
      told = λ bytes is.
          let (rest, front, read) = at.told bytes is in
          let (last, new_is, (empty, stays)) = tells rest front in
          let none : last ≡ [] = stays.rest_same ∙ empty in
          let whole : given ≡ length bytes = let n = read.counted in let z : length rest ≡ 0 = ap length empty in
          omega (arith, n, z) in (
            subst (λ (g : ℕ). AreRead bytes lines [] g) whole
                (subst (λ (r : List ℕ). AreRead bytes lines r given) empty read),
            read.lines_are ∙ ap (λ (r : List ℕ). lines ++ cut_lines r) empty ∙ append-none lines,
            nothing_left left_new (new_is ∙ ap Some none),
          );
    } where
      at_end : (h rest : List ℕ) → h ++ rest ≡ [] → rest ≡ []
      at_end [] rest same = same
      at_end (b ∷ bs) rest same = cc

      nothing_left : (l : Option (List ℕ)) → ahead held_new l ≡ Some [] → l ≡ Some []
      nothing_left None h = cc
      nothing_left (Some rest) h = ap Some (at_end held_new rest (let same : held_new ++ rest ≡ [] = cc in same))
