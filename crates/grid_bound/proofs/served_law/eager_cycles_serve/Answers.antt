use Rattle.grid_bound.proofs.EagerFirst as eager
use Rattle.grid_bound.proofs.served_law.eager_cycles_serve.Goals as goal

pub returns : goal.returns
returns W c = λ blocks budget g h b sizes good ok went room rule bound beyond most is_code is_size due cycle.
    eager.serve blocks good budget _ _ bound g h ok went room rule beyond most b is_code sizes is_size due cycle
