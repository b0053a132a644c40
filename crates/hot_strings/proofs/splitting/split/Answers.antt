use Rattle.hot_strings.proofs.Splits.{AreSplit-one}
use Rattle.hot_strings.proofs.AnswerLemmas.{cuts-split}
use Rattle.hot_strings.proofs.splitting.split.Goals as goal

pub returns-in-None-place_of-clause-one : goal.returns-in-None-place_of-clause-one
returns-in-None-place_of-clause-one c = AreSplit-one c.args.delimiter.now c.args.text.now

pub returns-in-None-at-clause-one : goal.returns-in-None-at-clause-one
returns-in-None-at-clause-one c = AreSplit-one c.args.delimiter.now c.args.text.now

pub returns-in-Some-at-clause-one : goal.returns-in-Some-at-clause-one
returns-in-Some-at-clause-one c = AreSplit-one c.args.delimiter.now c.args.text.now

pub returns-in-None-place_of-clause-answer : goal.returns-in-None-place_of-clause-answer
returns-in-None-place_of-clause-answer c = λ some ps h. cuts-split c.args.delimiter.now c.args.text.now ps some h

pub returns-in-None-at-clause-answer : goal.returns-in-None-at-clause-answer
returns-in-None-at-clause-answer c = λ some ps h. cuts-split c.args.delimiter.now c.args.text.now ps some h

pub returns-in-Some-at-clause-answer : goal.returns-in-Some-at-clause-answer
returns-in-Some-at-clause-answer c = λ some ps h. cuts-split c.args.delimiter.now c.args.text.now ps some h
