use Rattle.std.proofs.Common.{◌∙◌}
use Rattle.c_meaning_spec.specs.State.{Go}
use Rattle.c_meaning.specs.inside.View.{view}
use Rattle.c_meaning.specs.declared.frame.Waiting.TheVariants as waiting
use Rattle.c_meaning.proofs.EvaluatorLoop.{taken_as}
use Rattle.c_meaning.proofs.machine.Machine.give.Goals as goal

pub returns-in_ok-moved-in-Some-Follows : goal.returns-in_ok-moved-in-Some-Follows
returns-in_ok-moved-in-Some-Follows c =
    c.in_ok-moved-in-Some-Follows.ensures
    ∙ taken_as c.args.program.now c.in-Some-Follows.field-0 (waiting.Follows c.in-Some-Follows.frame)
    (Go c.args.signal (view c.args.self.now.store)) c.args.self.now.stack.items c.pop.new.self.items
    c.in-Some-Follows.ensures.items c.in-Some-Follows.field-0-is

pub returns-in-Some-Place : goal.returns-in-Some-Place
returns-in-Some-Place c =
    taken_as c.args.program.now c.in-Some-Place.field-0 (waiting.Place c.in-Some-Place.field-0-0)
    (Go c.args.signal (view c.args.self.now.store)) c.args.self.now.stack.items c.pop.new.self.items
    c.in-Some-Place.ensures.items c.in-Some-Place.field-0-is

pub returns-in-Some-Call : goal.returns-in-Some-Call
returns-in-Some-Call c =
    taken_as c.args.program.now c.in-Some-Call.field-0 (waiting.Call c.in-Some-Call.field-0-0)
    (Go c.args.signal (view c.args.self.now.store)) c.args.self.now.stack.items c.pop.new.self.items
    c.in-Some-Call.ensures.items c.in-Some-Call.field-0-is
