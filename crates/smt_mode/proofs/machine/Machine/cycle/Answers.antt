use Rattle.std.proofs.Common.{◌+◌, ◌<◌, sym, ap, ap₂, ◌∙◌, subst, arith}
use Rattle.std.specs.Prelude.{All}
use Rattle.smt_spec.specs.Cycles as spec
use Rattle.smt_spec.specs.Cycles.{Moves, acting, acts_of, retires}
use Rattle.smt_spec.specs.Turns.{all_do}
use Rattle.smt_spec.specs.inside.Among.{Distinct}
use Rattle.smt_mode.specs.Machines.{four_of, images_of}
use Rattle.smt_mode.proofs.Chosen.{those_within}
use Rattle.smt_mode.proofs.CycleOf.{acting_once, eager_by, two_at}
use Rattle.smt_mode.proofs.FetchesOf.{after_two}
use Rattle.smt_mode.proofs.machine.Machine.cycle.Goals as goal

pub act-requires-clause-ready : goal.act-requires-clause-ready
act-requires-clause-ready g c = c.end_each.ensures.keeps.ready

pub move_on-requires-clause-distinct : goal.move_on-requires-clause-distinct
move_on-requires-clause-distinct g c =
    let m = c.args.self.now in
    let a = c.end_each.new.self in
    subst Distinct (sym c.as_slice-2.ensures.value)
    (acting_once g.W.Weather.next g.W.Weather.follows (images_of m) m.budget c.args.going.now
    c.acting-acting.result.items (four_of m) (four_of a) (four_of a) (four_of a) (four_of a) c.requires.going
    c.end_each.ensures.change c.acting-acting.ensures.value)

pub move_on-requires-clause-frames : goal.move_on-requires-clause-frames
move_on-requires-clause-frames g c =
    let m = c.args.self.now in
    let a = c.end_each.new.self in
    let b = c.act.new.self in
    let ka = c.end_each.ensures.keeps in
    two_at g.W.Weather.next g.W.Weather.follows (images_of m) m.budget c.args.going.now c.acting-acting.result.items
    (four_of m) (four_of a) (four_of b) (four_of b) (four_of b) c.requires.going c.end_each.ensures.change
    c.acting-acting.ensures.value c.requires.frames
    (c.act.ensures.change
    ∙ ap₂ (λ bs n. acts_of bs n c.as_slice.result.now (four_of a)) ka.images ka.budget
    ∙ ap (λ ps. acts_of (images_of m) m.budget ps (four_of a)) c.as_slice.ensures.value)

pub move_on-requires-clause-ready : goal.move_on-requires-clause-ready
move_on-requires-clause-ready g c = c.act.ensures.keeps.ready

pub move_on-requires-clause-cycles : goal.move_on-requires-clause-cycles
move_on-requires-clause-cycles g c =
    let e = c.act.ensures.keeps.cycles ∙ c.end_each.ensures.keeps.cycles in
    let l = c.requires.cycles in
    omega (arith, e, l)

pub retire_each-requires-clause-ready : goal.retire_each-requires-clause-ready
retire_each-requires-clause-ready g c = c.move_on.ensures.ready

pub returns-clause-eager : goal.returns-clause-eager
returns-clause-eager g c =
    let m = c.args.self.now in
    let a = c.end_each.new.self in
    let b = c.act.new.self in
    let d = c.move_on.new.self in
    let h = c.retire_each.new.self in
    let next = g.W.Weather.next in
    let follows = g.W.Weather.follows in
    let ka = c.end_each.ensures.keeps in
    let kb = after_two 0 4 m a b ka c.act.ensures.keeps in
    let is = c.as_slice.ensures.value in
    let is2 = c.as_slice-2.ensures.value in
    let ps = c.acting-acting.result.items in
    eager_by next follows (images_of m) m.budget c.args.going.now ps (four_of m) (four_of a) (four_of b) (four_of d)
    (four_of h) c.requires.going c.end_each.ensures.change c.acting-acting.ensures.value
    (c.act.ensures.change
    ∙ ap₂ (λ bs n. acts_of bs n c.as_slice.result.now (four_of a)) ka.images ka.budget
    ∙ ap (λ qs. acts_of (images_of m) m.budget qs (four_of a)) is)
    (subst (λ qs. Moves next follows (images_of m) m.budget qs (four_of b) (four_of d)) is2
    (subst (λ n. Moves next follows (images_of m) n c.as_slice-2.result.now (four_of b) (four_of d)) kb.budget
    (subst (λ bs. Moves next follows bs b.budget c.as_slice-2.result.now (four_of b) (four_of d)) kb.images
    c.move_on.ensures.change)))
    (c.retire_each.ensures.change
    ∙ ap (λ n. all_do (λ p. retires n) c.args.going.now (four_of d)) (c.move_on.ensures.budget ∙ kb.budget))

pub returns-clause-images : goal.returns-clause-images
returns-clause-images g c = c.retire_each.ensures.keeps.images ∙ c.move_on.ensures.images
    ∙ c.act.ensures.keeps.images ∙ c.end_each.ensures.keeps.images

pub returns-clause-budget : goal.returns-clause-budget
returns-clause-budget g c = c.retire_each.ensures.keeps.budget ∙ c.move_on.ensures.budget
    ∙ c.act.ensures.keeps.budget ∙ c.end_each.ensures.keeps.budget

pub returns-clause-cycles : goal.returns-clause-cycles
returns-clause-cycles g c = c.retire_each.ensures.keeps.cycles ∙ c.move_on.ensures.cycles
    ∙ ap (λ n. n + 1) (c.act.ensures.keeps.cycles ∙ c.end_each.ensures.keeps.cycles)

pub retire_each-requires-clause-within : goal.retire_each-requires-clause-within
retire_each-requires-clause-within g c =
    subst (All (λ p. p < 4)) (sym c.requires.going) (those_within (spec.goes_on c.args.self.now.budget)
    (four_of c.args.self.now))

pub end_each-requires-clause-within : goal.end_each-requires-clause-within
end_each-requires-clause-within g c =
    subst (All (λ p. p < 4)) (sym c.requires.going) (those_within (spec.goes_on c.args.self.now.budget)
    (four_of c.args.self.now))
