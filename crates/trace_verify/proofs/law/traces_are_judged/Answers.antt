use Rattle.trace_verify.proofs.Verdicts.{completed, faulted}
use Rattle.trace_verify.proofs.Sound.{verified, refused}
use Rattle.trace_verify.proofs.law.traces_are_judged.Goals as goal

pub returns-clause-completed : goal.returns-clause-completed
returns-clause-completed c = λ blocks s budget b bytes inside few t room.
    completed blocks budget s inside few b bytes t room

pub returns-clause-completes : goal.returns-clause-completes
returns-clause-completes c = λ blocks s budget b bytes e. verified blocks budget s b bytes e

pub returns-clause-faulted : goal.returns-clause-faulted
returns-clause-faulted c = λ blocks s budget bytes f inside few fault. faulted blocks budget s inside few bytes f
    fault

pub returns-clause-faults : goal.returns-clause-faults
returns-clause-faults c = λ blocks s budget bytes f e. refused blocks budget s f bytes e
