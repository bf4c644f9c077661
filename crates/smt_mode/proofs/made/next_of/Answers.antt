use Rattle.std.proofs.Common.{◌≡◌, [], subst}
use Rattle.std.specs.Prelude.{All}
use Rattle.std.proofs.lemmas.List.Elements.{All-tail}
use Rattle.std.proofs.lemmas.Result.{IfOk-weaker}
use Rattle.smt_mode.specs.declared.four.Started.{Started}
use Rattle.smt_mode.proofs.made.next_of.Goals as goal

pub returns-in-Some-clause-next : goal.returns-in-Some-clause-next
returns-in-Some-clause-next c = IfOk-weaker c.program_of.result _ _
    (λ x h. record { first = c.in-Some.started; taken = c.in-Some.ensures.value; begun = h }) c.program_of.ensures

pub returns-in-Some-clause-stack : goal.returns-in-Some-clause-stack
returns-in-Some-clause-stack c = All-tail (λ (s : Started). s.predictor.stack ≡ []) c.in-Some.started c.pop.new.self
    (subst (All (λ (s : Started). s.predictor.stack ≡ [])) c.in-Some.ensures.value c.requires.stack)
