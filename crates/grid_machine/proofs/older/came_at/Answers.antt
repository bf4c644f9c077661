use Rattle.std.proofs.Common.{sym, ◌∙◌}
use Rattle.std.proofs.lemmas.Option.{none-some}
use Rattle.grid_machine.proofs.OlderFacts.{came_told}
use Rattle.grid_machine.proofs.older.came_at.Goals as goal

pub returns-in-None : goal.returns-in-None
returns-in-None c = λ f e. absurd (none-some f (sym c.in-None.ensures.value ∙ e))

pub returns-in-Some : goal.returns-in-Some
returns-in-Some c = λ f e.
    came_told c.args.window.now.window.frames c.args.age c.args.below c.in-Some.held.now c.in-Some.block.now
    c.in-Some.ensures.value _ c.stores_came.ensures f e
