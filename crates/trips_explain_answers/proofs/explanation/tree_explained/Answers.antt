use Rattle.trips_explain_answers.proofs.EndedFacts.{ended_as}
use Rattle.trips_explain_answers.proofs.explanation.tree_explained.Goals as goal

pub returns-in-Ok : goal.returns-in-Ok
returns-in-Ok c = ended_as c.args.file.now c.args.text.now c.args.input.now c.deref.result.now
    c.in_ok-definitions.definitions.items c.args.steps c.args.tree c.in-Ok.program c.ended.result c.requires.tree
    c.in-Ok.ensures.ok c.deref.ensures.value c.in_ok-definitions.ensures c.ended.ensures
