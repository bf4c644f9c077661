use Rattle.grid_log.proofs.units.issued.Goals as goal

pub returns-clause-told : goal.returns-clause-told
returns-clause-told g c = c.tell_firing.ensures
