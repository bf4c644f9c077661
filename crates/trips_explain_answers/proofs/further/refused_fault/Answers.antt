use Rattle.std.proofs.Common.{subst}
use Rattle.c_front.specs.declared.refusal.Refusal.{Refusal}
use Rattle.c_front.specs.Refusals.{MayBeRefused}
use Rattle.trips_explain_answers.proofs.FurtherFacts.{directive_next, grammar_next}
use Rattle.trips_explain_answers.proofs.further.refused_fault.Goals as goal

pub returns-in-Directive : goal.returns-in-Directive
returns-in-Directive c = λ next may. directive_next next c.args.offset c.in-Directive.field-0
    (subst (λ (r : Refusal). MayBeRefused next r) c.in-Directive.is may)

pub returns-in-Parse : goal.returns-in-Parse
returns-in-Parse c = λ next may. grammar_next next c.args.offset c.in-Parse.field-0
    (subst (λ (r : Refusal). MayBeRefused next r) c.in-Parse.is may)

pub returns-in-Typing : goal.returns-in-Typing
returns-in-Typing c = λ next may. c.typing_fault.ensures next
    (subst (λ (r : Refusal). MayBeRefused next r) c.in-Typing.is may)
