use Rattle.hot_catalog.proofs.attributes.are_few_attributes.Goals as goal

pub returns : goal.returns
returns c = rw (← c.members_in.ensures, ← c.in_ok-held.ensures) c.are_few_names.ensures
