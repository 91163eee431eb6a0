use Rattle.judy_tenants.proofs.laws.kinds_are_lawful.Goals as goal

pub returns : goal.returns
returns c = λ H. record { kept = c.arrays_are_kept.ensures H; empties = c.only_nothing_is_empty.ensures H }
