use Rattle.std.proofs.Common.{sym, subst}
use Rattle.block_image.specs.Spelling.{ImageBytes}
use Rattle.trips_grid_answers.proofs.SavedRuns.{few_output, few_rest, saved_told}
use Rattle.trips_grid_answers.proofs.saving.saved_run.Goals as goal

pub saved_answer-requires-clause-output : goal.saved_answer-requires-clause-output
saved_answer-requires-clause-output c = few_output c.args.image c.args.input c.args.at c.seeded.result
    c.in_ok-ran.ran.ending _ c.in_ok-ran.ensures.ran c.requires.few

pub saved_answer-requires-clause-rest : goal.saved_answer-requires-clause-rest
saved_answer-requires-clause-rest c = few_rest c.args.image c.args.input c.args.at c.seeded.result
    c.in_ok-ran.ran.ending _ c.in_ok-ran.ensures.ran c.requires.input

pub returns : goal.returns
returns c = saved_told c.args.image c.args.input c.deref.result.now c.args.at c.seeded.result c.in_ok-ran.ran.ending _ _
    c.in_ok-ran.ensures.ran (subst (ImageBytes c.args.image) (sym c.deref.ensures.value) c.in_ok-part.ensures.ok)
    c.in_ok-part.ensures.good c.saved_answer.ensures.saved c.saved_answer.ensures.over
