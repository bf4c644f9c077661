use Rattle.smt_spec.proofs.UnitsLent as lending
use Rattle.smt_spec.proofs.FirstParts as prime
use Rattle.smt_spec.proofs.law.first_programs_are_alone.Goals as goal

pub returns-clause-ends : goal.returns-clause-ends
returns-clause-ends W c = λ images budget p ps g a. prime.ends_first images budget p ps a g

pub returns-clause-fetches : goal.returns-clause-fetches
returns-clause-fetches W c = λ images budget p ps g a there. prime.fetches_first images budget p ps a there g

pub returns-clause-due : goal.returns-clause-due
returns-clause-due W c = λ images budget p ps g a there. prime.fetch_due_first images budget p ps a there g

pub returns-clause-banks : goal.returns-clause-banks
returns-clause-banks W c = λ images budget p ps g a. prime.reads_first images budget p ps a g

pub returns-clause-tiles : goal.returns-clause-tiles
returns-clause-tiles W c = λ images budget p ps g a. prime.answers_first images budget p ps a g

pub returns-clause-units : goal.returns-clause-units
returns-clause-units W c = λ images budget p ps g a. lending.works_first images budget p ps a g

pub returns-clause-arrivals : goal.returns-clause-arrivals
returns-clause-arrivals W c = λ images budget p ps g a. prime.arrivals_first images budget p ps a g

pub returns-clause-mesh : goal.returns-clause-mesh
returns-clause-mesh W c = λ g p f l. prime.mesh_is g p f l

pub returns-clause-travelled : goal.returns-clause-travelled
returns-clause-travelled W c = λ parcels weather g p f l. prime.travelled_is parcels weather g p f l
