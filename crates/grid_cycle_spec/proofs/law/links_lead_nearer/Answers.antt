use Rattle.grid_cycle_spec.proofs.Routes.{far_at_most, leads_nearer}
use Rattle.grid_cycle_spec.proofs.law.links_lead_nearer.Goals as goal

pub returns-clause-far : goal.returns-clause-far
returns-clause-far c = far_at_most

pub returns-clause-nearer : goal.returns-clause-nearer
returns-clause-nearer c = leads_nearer
