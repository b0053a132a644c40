-- Each constraint gives what its own function gives.
use Rattle.hot_params.proofs.constraint.rule_code.Goals as goal

pub returns-in-Length : goal.returns-in-Length
returns-in-Length g c = rw c.in-Length.is c.length_code.ensures

pub returns-in-Range : goal.returns-in-Range
returns-in-Range g c = rw c.in-Range.is c.range_code.ensures

pub returns-in-Modulo : goal.returns-in-Modulo
returns-in-Modulo g c = rw c.in-Modulo.is c.modulo_code.ensures

pub returns-in-Values : goal.returns-in-Values
returns-in-Values g c = rw c.in-Values.is c.values_code.ensures

pub returns-in-Pattern : goal.returns-in-Pattern
returns-in-Pattern g c = rw (c.in-Pattern.is, ← c.text_in.ensures) c.pattern_code.ensures

pub returns-in-Custom : goal.returns-in-Custom
returns-in-Custom g c = rw (c.in-Custom.is, ← c.text_in-in-Custom.ensures) c.custom_code.ensures
