use Rattle.std.proofs.Common.{◌∙◌, ap, sym, option_map}
use Rattle.heat_value.specs.Meaning.{data_of}
use Rattle.hot_forms.specs.Parameters.{sort_in}
use Rattle.hot_params.proofs.Faults.{unlike_fault, unmet_fault}
use Rattle.hot_params.proofs.parameter.value_of.Goals as goal

pub returns-in_default-2-clause-err : goal.returns-in_default-2-clause-err
returns-in_default-2-clause-err g c =
    unlike_fault _ c.args.name.now _ c.args.fields.now (data_of c.in-Some.value.now) c.sort_in-sort.result
    c.in_ok-value-2.field-0 c.fault_at-in_default-2.result
    (sym c.in_ok-value.ensures ∙ ap (option_map (λ v. data_of v.now)) c.in-Some.is)
    (c.sort_in-sort.ensures ∙ ap sort_in c.in_ok-found.ensures) c.in_default-2.is c.in_ok-value-2.ensures
    c.fault_at-in_default-2.ensures

pub returns-in-Some-3-clause-err : goal.returns-in-Some-3-clause-err
returns-in-Some-3-clause-err g c =
    unmet_fault _ c.args.name.now _ c.args.fields.now (data_of c.in-Some.value.now) c.sort_in-sort.result
    c.in_ok-value-2.field-0 c.in-Some-2.value c.in_ok-unmet.field-0 c.in-Some-3.unmet c.fault_of.result
    (sym c.in_ok-value.ensures ∙ ap (option_map (λ v. data_of v.now)) c.in-Some.is)
    (c.sort_in-sort.ensures ∙ ap sort_in c.in_ok-found.ensures) c.in-Some-2.is c.in_ok-value-2.ensures c.in-Some-3.is
    c.in_ok-unmet.ensures c.fault_of.ensures
