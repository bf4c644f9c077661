use Rattle.std.proofs.Common.{ap, ◌∙◌}
use Rattle.c_meaning_spec.specs.State.{State, Over}
use Rattle.c_meaning.specs.inside.Ahead.{unwind_on}
use Rattle.c_meaning.specs.inside.View.{frames, view}
use Rattle.c_meaning.specs.declared.frame.Waiting.TheVariants as waiting
use Rattle.c_meaning.proofs.EvaluatorLoop.{taken_as}
use Rattle.c_meaning.proofs.machine.Machine.end.Goals as goal

pub returns-in-Some-Follows : goal.returns-in-Some-Follows
returns-in-Some-Follows c =
    taken_as c.args.program.now c.in-Some-Follows.field-0 (waiting.Follows c.in-Some-Follows.field-0-0)
    (Over c.args.why (view c.args.self.now.store)) c.args.self.now.stack.items c.pop.new.self.items
    c.in-Some-Follows.ensures.items c.in-Some-Follows.field-0-is

pub returns-in-Some-Place : goal.returns-in-Some-Place
returns-in-Some-Place c =
    ap (λ (s : State). unwind_on c.args.program.now (frames c.pop.new.self.items) (Over c.args.why s))
    c.mark_place.ensures.told
    ∙ taken_as c.args.program.now c.in-Some-Place.field-0 (waiting.Place c.in-Some-Place.token)
    (Over c.args.why (view c.args.self.now.store)) c.args.self.now.stack.items c.pop.new.self.items
    c.in-Some-Place.ensures.items c.in-Some-Place.field-0-is

pub returns : goal.returns
returns c =
    ap (λ (s : State). unwind_on c.args.program.now (frames c.pop.new.self.items) (Over c.args.why s))
    c.in_ok-mark_call-in-Some-Call.ensures.told
    ∙ taken_as c.args.program.now c.in-Some-Call.field-0 (waiting.Call c.in-Some-Call.token)
    (Over c.args.why (view c.args.self.now.store)) c.args.self.now.stack.items c.pop.new.self.items
    c.in-Some-Call.ensures.items c.in-Some-Call.field-0-is
