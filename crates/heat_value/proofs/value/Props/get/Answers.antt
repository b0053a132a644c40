use Rattle.std.proofs.Common.{◌≡◌, ◌∙◌, sym, ap, Some, option_map, slice_get}
use Rattle.std.proofs.lemmas.Option.{slice_get-get_or}
use Rattle.heat_value.specs.Meaning.{data_of}
use Rattle.heat_value.specs.declared.value.Member.{Member}
use Rattle.heat_value.proofs.Searches.{lookup_placed, at_place}
use Rattle.heat_value.proofs.value.Props.get.Goals as goal

pub returns-in-Ok : goal.returns-in-Ok
returns-in-Ok c =
    let ms = c.self.inside.members.items in
    let found = lookup_placed c.args.key.now ms c.self.invariant in
    let item : slice_get ms c.in-Ok.at ≡ Some c.index.result.now = slice_get-get_or ms c.in-Ok.at c.index.result.now c.in-Ok.ensures.found ∙ ap Some (sym c.index.ensures) in
    rw (← c.self.view_is) (sym (found ∙ ap (λ r. at_place r ms) (sym c.place_of.ensures.place ∙ c.in-Ok.is) ∙ ap (option_map (λ (m : Member). data_of m.value)) item))

pub returns-in-Err : goal.returns-in-Err
returns-in-Err c =
    let ms = c.self.inside.members.items in
    rw (← c.self.view_is) (sym (lookup_placed c.args.key.now ms c.self.invariant ∙ ap (λ r. at_place r ms) (sym c.place_of.ensures.place ∙ c.in-Err.is)))
