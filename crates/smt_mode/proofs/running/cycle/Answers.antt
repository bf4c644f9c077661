use Rattle.std.proofs.Common.{refl, sym, ◌∙◌, true≢false}
use Rattle.smt_mode.specs.Machines.{four_of, images_of}
use Rattle.smt_mode.proofs.Endings.{none_told, ran_none, ran_one, some_told}
use Rattle.smt_mode.proofs.running.cycle.Goals as goal

pub returns-then-is_empty-clause-eager : goal.returns-then-is_empty-clause-eager
returns-then-is_empty-clause-eager g c = λ on.
    absurd (on (none_told c.going-programs.result.items _ c.if-is_empty.ensures c.going-programs.ensures.value))

pub returns-then-is_empty-clause-same : goal.returns-then-is_empty-clause-same
returns-then-is_empty-clause-same g c = λ z. refl

pub returns-then-is_empty-clause-over : goal.returns-then-is_empty-clause-over
returns-then-is_empty-clause-over g c =
    none_told c.going-programs.result.items _ c.if-is_empty.ensures c.going-programs.ensures.value

pub returns-then-is_empty-clause-ran : goal.returns-then-is_empty-clause-ran
returns-then-is_empty-clause-ran g c =
    let m = c.args.machine.now in
    ran_none g.W.Weather.next g.W.Weather.follows (images_of m) m.budget (four_of m)

pub returns-then-is_empty-clause-more : goal.returns-then-is_empty-clause-more
returns-then-is_empty-clause-more g c = λ z. absurd (true≢false z)

pub cycle_going-requires-clause-going : goal.cycle_going-requires-clause-going
cycle_going-requires-clause-going g c = c.as_slice.ensures.value ∙ c.going-programs.ensures.value

pub cycle_going-requires-clause-some : goal.cycle_going-requires-clause-some
cycle_going-requires-clause-some g c = λ z.
    some_told c.going-programs.result.items _ c.if-is_empty.ensures (sym c.as_slice.ensures.value) z

pub is_over-requires : goal.is_over-requires
is_over-requires g c = c.cycle_going.ensures.engine.ready.four

pub returns-clause-eager : goal.returns-clause-eager
returns-clause-eager g c = λ on. c.cycle_going.ensures.eager

pub returns-clause-same : goal.returns-clause-same
returns-clause-same g c = λ z.
    absurd (some_told c.going-programs.result.items _ c.if-is_empty.ensures c.going-programs.ensures.value z)

pub returns-clause-ran : goal.returns-clause-ran
returns-clause-ran g c =
    let m = c.args.machine.now in
    ran_one g.W.Weather.next g.W.Weather.follows (images_of m) m.budget (four_of m)
    (four_of c.cycle_going.new.machine)
    (some_told c.going-programs.result.items _ c.if-is_empty.ensures c.going-programs.ensures.value)
    c.cycle_going.ensures.eager

pub returns-clause-more : goal.returns-clause-more
returns-clause-more g c = λ z. c.cycle_going.ensures.cycles
