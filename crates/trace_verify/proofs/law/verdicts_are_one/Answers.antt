use Rattle.trace_verify.proofs.OneVerdict.{judged, apart, one_count, one_fault}
use Rattle.trace_verify.proofs.law.verdicts_are_one.Goals as goal

pub returns-clause-judged : goal.returns-clause-judged
returns-clause-judged c = λ blocks s budget bytes. judged blocks s budget bytes

pub returns-clause-apart : goal.returns-clause-apart
returns-clause-apart c = λ blocks s budget b bytes f inside few t room first.
    apart blocks s bytes inside few budget b f t room first

pub returns-clause-blocks : goal.returns-clause-blocks
returns-clause-blocks c = λ blocks s b d bytes inside few t u. one_count blocks s bytes inside few b d t u

pub returns-clause-fault : goal.returns-clause-fault
returns-clause-fault c = λ blocks s budget bytes f g inside few x y.
    one_fault blocks s bytes inside few budget f g x y
