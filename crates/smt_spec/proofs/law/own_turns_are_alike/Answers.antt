use Rattle.std.proofs.Common.{[]}
use Rattle.smt_spec.proofs.OwnTurnsAlike as natural
use Rattle.smt_spec.proofs.law.own_turns_are_alike.Goals as goal

pub returns-clause-ends : goal.returns-clause-ends
returns-clause-ends W c = λ blocks budget k u w g. natural.ends_alike u w k blocks budget g

pub returns-clause-fetched : goal.returns-clause-fetched
returns-clause-fetched W c = λ blocks budget k u w g. natural.fetched_alike u w k blocks budget g.fetching g

pub returns-clause-begins : goal.returns-clause-begins
returns-clause-begins W c = λ blocks k u w g. natural.begins_alike u w k blocks 0 g

pub returns-clause-banks : goal.returns-clause-banks
returns-clause-banks W c = λ blocks budget k bank u w g. natural.bank_alike u w k blocks budget bank g

pub returns-clause-tiles : goal.returns-clause-tiles
returns-clause-tiles W c = λ blocks budget k tile u w g. natural.tile_alike u w k blocks budget tile g

pub returns-clause-results : goal.returns-clause-results
returns-clause-results W c = λ k tile p u w g. natural.gives_alike u w k [] 0 tile p g

pub returns-clause-arrivals : goal.returns-clause-arrivals
returns-clause-arrivals W c = λ blocks budget k u w ns g. natural.arrivals_alike u w k blocks budget ns g
