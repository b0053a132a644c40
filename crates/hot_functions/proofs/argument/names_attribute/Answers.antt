use Rattle.std.proofs.Common.{◌≡◌, Bool, true, false, ◌&&◌, refl}
use Rattle.hot_functions.proofs.Lengths.{no_values, one_value, two_values}
use Rattle.hot_functions.proofs.argument.names_attribute.Goals as goal

alone : (a b : Bool) → a ≡ b → a ≡ (b && true)
alone true b e = rw (← e) refl
alone false b e = rw (← e) refl

pub returns-in-empty : goal.returns-in-empty
returns-in-empty c = rw (no_values c.args.values.now c.in-empty.len_below) refl

pub returns-in-len1 : goal.returns-in-len1
returns-in-len1 c =
    rw (one_value c.args.values.now c.name-item.result c.name-item.is c.in-len1.len_at_least c.in-len1.len_below)
    (alone _ _ c.is_text.ensures)

pub returns-in-len2-up : goal.returns-in-len2-up
returns-in-len2-up c =
    rw (two_values c.args.values.now _ _ c.name-item-2.is c.attribute-item.is c.in-len2-up.len_at_least)
    c.are_texts.ensures
