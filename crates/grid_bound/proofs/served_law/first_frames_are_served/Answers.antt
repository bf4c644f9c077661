use Rattle.grid_bound.proofs.FirstGridServed.{serve_first}
use Rattle.grid_bound.proofs.served_law.first_frames_are_served.Goals as goal

pub returns : goal.returns
returns W c = λ blocks budget k j g h b sizes good ok went room first rule beyond is_code is_size due.
    serve_first blocks good budget k j g h ok went room first rule beyond b is_code sizes is_size due
