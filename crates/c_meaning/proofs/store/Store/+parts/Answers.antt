use Rattle.c_meaning.specs.inside.View.{view}
use Rattle.c_meaning.proofs.TaskMeanings.{number_placed}
use Rattle.c_meaning.proofs.store.Store.+parts.Goals as goal

pub value_of-returns-in-Number : goal.value_of-returns-in-Number
value_of-returns-in-Number t c =
    number_placed c.args.program.now c.args.e.now c.in-Number.w (view c.args.self.now) c.number.new.self
    c.number.result c.in-Number.is c.number.ensures
