use Rattle.grid_cycle_spec.specs.Fetches.{fetches}
use Rattle.grid_cycle_spec.specs.Banks.{reads_answered}
use Rattle.grid_cycle_spec.specs.DataTiles.{answers}
use Rattle.grid_cycle_spec.specs.Units.{works_on}
use Rattle.grid_bound.proofs.EndParts.{ends_rule}
use Rattle.grid_bound.proofs.FetchParts.{fetches_going}
use Rattle.grid_bound.proofs.BankParts.{banks_going}
use Rattle.grid_bound.proofs.DataParts.{answers_going}
use Rattle.grid_bound.proofs.UnitParts.{works_going}
use Rattle.grid_bound.proofs.TickParts.{moves_going}
use Rattle.grid_bound.proofs.GoingGrids.{kept}
use Rattle.grid_bound.proofs.rule_law.parts_keep_the_rule.Goals as goal

pub returns-clause-ends : goal.returns-clause-ends
returns-clause-ends W c = λ blocks budget g good ok rule. ends_rule blocks good budget 1 g ok rule

pub returns-clause-fetches : goal.returns-clause-fetches
returns-clause-fetches W c = λ blocks budget g good ok went rule. kept blocks budget 1 g (fetches blocks budget g)
    (fetches_going blocks good budget 1 g) ok went rule

pub returns-clause-banks : goal.returns-clause-banks
returns-clause-banks W c = λ blocks budget g good ok went rule. kept blocks budget 1 g
    (reads_answered blocks budget g)
    (banks_going blocks good budget 1 g) ok went rule

pub returns-clause-tiles : goal.returns-clause-tiles
returns-clause-tiles W c = λ blocks budget g good ok went rule. kept blocks budget 1 g (answers blocks budget g)
    (answers_going blocks good budget 1 g) ok went rule

pub returns-clause-units : goal.returns-clause-units
returns-clause-units W c = λ blocks budget g good ok went rule. kept blocks budget 1 g (works_on blocks budget g)
    (works_going blocks good budget 1 g) ok went rule

pub returns-clause-mesh : goal.returns-clause-mesh
returns-clause-mesh W c = λ blocks budget g h good ok went bound rule moves. kept blocks budget 1 g h
    (λ r. moves_going blocks good budget W.W.Weather.next W.W.Weather.follows bound g h r moves) ok went rule
