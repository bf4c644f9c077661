use Rattle.grid_cycle_spec.specs.Choosing.{each}
use Rattle.grid_cycle_spec.specs.DataTiles.{data_turn}
use Rattle.grid_cycle_spec.specs.Units.{unit_turn}
use Rattle.grid_bound.proofs.DataParts.{data_turns_going}
use Rattle.grid_bound.proofs.UnitParts.{unit_turns_going}
use Rattle.grid_bound.proofs.GoingGrids.{kept}
use Rattle.grid_bound.proofs.rule_law.turns_keep_the_rule.Goals as goal

pub returns-clause-tiles : goal.returns-clause-tiles
returns-clause-tiles W c = λ blocks budget k g good ok went rule. kept blocks budget 1 g
    (each (data_turn blocks budget) k g) (data_turns_going blocks good budget 1 k g) ok went rule

pub returns-clause-units : goal.returns-clause-units
returns-clause-units W c = λ blocks budget k g good ok went rule. kept blocks budget 1 g
    (each (unit_turn blocks budget) k g) (unit_turns_going blocks good budget 1 k g) ok went rule
