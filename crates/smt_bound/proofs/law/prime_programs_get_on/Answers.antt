use Rattle.smt_bound.proofs.OneCycle.{one_cycle}
use Rattle.smt_bound.proofs.law.prime_programs_get_on.Goals as goal

pub returns : goal.returns
returns W c = λ images budget k g h goods bound rules few some small held cycle.
    one_cycle images budget _ _ bound goods g h rules few cycle some k small held
