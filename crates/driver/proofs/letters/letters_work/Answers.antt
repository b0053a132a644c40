-- A letter after the other.
use Rattle.std.proofs.Common.{List, arith, refl, subst, ℕ, ◌*◌, ◌+◌}
use Rattle.std.specs.Prelude.{nat_eq}
use Rattle.std.proofs.lemmas.Bool.Decides.{Decides-eqb}
use Rattle.mail_table.specs.Mails.{letter_key}
use Rattle.driver.proofs.Listed.{found_here, keys_all, keys_here, new_here}
use Rattle.driver.proofs.Tables.{LettersSeen, letters_all, letters_more}
use Rattle.driver.proofs.letters.letters_work.Goals as goal

pub roll_letter-requires : goal.roll_letter-requires
roll_letter-requires c = found_here nat_eq Decides-eqb letter_key c.letters-letter-items.result.now
    c.args.s.now.state.letters
    c.loop-letter.letter-index c.letter-item.result c.letters-letter-items.ensures c.loop-letter-test.true
    c.letter-item.is c.requires.letters

pub loop-letter-preserved : goal.loop-letter-preserved
loop-letter-preserved c = (
  subst (λ (keys : List ℕ). LettersSeen c.args.s.now.state keys (c.loop-letter.sum + (69 + 69 * c.roll_letter.result)))
      (keys_here nat_eq Decides-eqb letter_key c.letters-letter-items.result.now c.loop-letter.letter-index
      c.letter-item.result
      c.loop-letter-test.true c.letter-item.is)
      (letters_more c.args.s.now.state _ _ _ _ _ c.loop-letter.invariant.0
      (new_here nat_eq Decides-eqb letter_key c.letters-letter-items.result.now c.args.s.now.state.letters
      c.loop-letter.letter-index
      c.letter-item.result c.letters-letter-items.ensures c.loop-letter-test.true c.letter-item.is c.requires.letters)
      (record {
        letter = c.letter-item.result;
        at = found_here nat_eq Decides-eqb letter_key c.letters-letter-items.result.now c.args.s.now.state.letters
            c.loop-letter.letter-index c.letter-item.result c.letters-letter-items.ensures c.loop-letter-test.true
            c.letter-item.is
            c.requires.letters;
      }) c.roll_letter.ensures.exact refl),
  (let a = c.loop-letter.invariant.1 in let b = c.roll_letter.ensures.bound in omega (arith, a, b)),
)

pub returns-clause-exact : goal.returns-clause-exact
returns-clause-exact c = letters_all c.args.s.now.state c.loop-letter.sum
    (subst (λ (keys : List ℕ). LettersSeen c.args.s.now.state keys c.loop-letter.sum)
    (keys_all nat_eq Decides-eqb letter_key c.letters-letter-items.result.now c.args.s.now.state.letters
    c.loop-letter.letter-index
    c.letters-letter-items.ensures c.loop-letter-test.false) c.loop-letter.invariant.0)
