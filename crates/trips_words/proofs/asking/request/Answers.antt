use Rattle.std.proofs.Common.{◌∙◌, sym}
use Rattle.std.proofs.lemmas.Result.{IfOk-weaker}
use Rattle.trips_words.proofs.CommandLemmas.{asked_first, asked_none}
use Rattle.trips_requests.proofs.Counts.{few_blocks, some_blocks, some_turns}
use Rattle.trips_words.proofs.asking.request.Goals as goal

pub returns-in-None-clause-ok : goal.returns-in-None-clause-ok
returns-in-None-clause-ok c = asked_none c.args.words.now (sym c.in-None.ensures.value)

pub returns-in-Some-clause-ok : goal.returns-in-Some-clause-ok
returns-in-Some-clause-ok c = IfOk-weaker c.named_request.result _ _
    (λ r h. h ∙ asked_first c.args.words.now _ c.in-Some.name.now (sym c.in-Some.ensures.value)
    (sym c.as_str.ensures.value)) c.named_request.ensures

pub returns-in-Some-clause-some : goal.returns-in-Some-clause-some
returns-in-Some-clause-some c = some_blocks _ c.named_request.result (returns-in-Some-clause-ok c)

pub returns-in-Some-clause-few : goal.returns-in-Some-clause-few
returns-in-Some-clause-few c = few_blocks _ c.named_request.result (returns-in-Some-clause-ok c)

pub returns-in-Some-clause-turns : goal.returns-in-Some-clause-turns
returns-in-Some-clause-turns c = some_turns _ c.named_request.result (returns-in-Some-clause-ok c)
