use Rattle.grid_machine.proofs.WrongFacts.{load_of_age, no_load}
use Rattle.grid_machine.proofs.violations.wrong_in.Goals as goal

pub returns-in-None : goal.returns-in-None
returns-in-None c = no_load c.args.window.now.window.frames c.args.frame c.args.number c.in-None.ensures.value

pub returns-in-Some : goal.returns-in-Some
returns-in-Some c =
    load_of_age c.args.window.now.window.frames c.args.frame c.args.number c.in-Some.age c.in-Some.ensures.value _
    c.wrong_by.ensures
