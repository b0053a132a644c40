-- The form that the words are, or that they are none; and that they are one at most.
use Rattle.std.proofs.Common.{◌∷◌, ◌∙◌, ℕ, List, ap, refl}
use Rattle.converge_call.specs.Words.{setup_for}
use Rattle.converge_call.specs.Choices.{said_of}
use Rattle.converge_call.specs.declared.setup.Mode.TheVariants.{Drive}
use Rattle.converge_call.proofs.Wording.{form_one, no_form, drives_few}
use Rattle.converge_call.proofs.words.words_of.Goals as goal

pub returns-in_err-set_up-in-Some-said_by-clause-memory :
    goal.returns-in_err-set_up-in-Some-said_by-clause-memory
returns-in_err-set_up-in-Some-said_by-clause-memory c wanted = (
  Drive (setup_for (said_of c.in-Some-said_by.chosen)),
  record {
    behind = c.in-Some.behind.now;
    options = c.options_in.result.now;
    said = said_of c.in-Some-said_by.chosen;
    first = c.in-Some.ensures.cases.0
        ∙ ap (λ (w : List ℕ). w ∷ c.in-Some.behind.now) (c.if-not-is_word.ensures.0 refl);
    ended = c.options_in.ensures.ends;
    say = c.in-Some-said_by.ensures;
    set = refl;
  },
)

pub returns-in_err-set_up-in-Some-said_by-clause-one :
    goal.returns-in_err-set_up-in-Some-said_by-clause-one
returns-in_err-set_up-in-Some-said_by-clause-one c = form_one c.args.words.now

pub returns-in_ok-set_up-in-Some-said_by-clause-workers :
    goal.returns-in_ok-set_up-in-Some-said_by-clause-workers
returns-in_ok-set_up-in-Some-said_by-clause-workers c =
    drives_few c.args.words.now c.in_ok-set_up-in-Some-said_by.field-0 (record {
      behind = c.in-Some.behind.now;
      options = c.options_in.result.now;
      said = said_of c.in-Some-said_by.chosen;
      first = c.in-Some.ensures.cases.0
          ∙ ap (λ (w : List ℕ). w ∷ c.in-Some.behind.now) (c.if-not-is_word.ensures.0 refl);
      ended = c.options_in.ensures.ends;
      say = c.in-Some-said_by.ensures;
      set = c.in_ok-set_up-in-Some-said_by.ensures;
    })

pub returns-in_ok-set_up-in-Some-said_by-clause-one :
    goal.returns-in_ok-set_up-in-Some-said_by-clause-one
returns-in_ok-set_up-in-Some-said_by-clause-one c = form_one c.args.words.now

pub returns-in-None-clause-usage : goal.returns-in-None-clause-usage
returns-in-None-clause-usage c failed m form =
    no_form c.args.words.now c.in-Some.behind.now c.options_in.result.now m
    (c.in-Some.ensures.cases.0 ∙ ap (λ (w : List ℕ). w ∷ c.in-Some.behind.now) (c.if-not-is_word.ensures.0 refl))
    c.options_in.ensures.ends c.options_in.ensures.cut c.in-None.ensures form

pub returns-in-None-clause-one : goal.returns-in-None-clause-one
returns-in-None-clause-one c = form_one c.args.words.now
