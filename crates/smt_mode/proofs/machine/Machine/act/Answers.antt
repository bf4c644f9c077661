use Rattle.std.proofs.Common.{ap, ap₂, ◌∙◌}
use Rattle.smt_spec.specs.Parts.{answers_of, reads_of, works_of}
use Rattle.smt_mode.specs.Machines.{four_of, images_of}
use Rattle.smt_mode.proofs.FetchesOf.{after_two}
use Rattle.smt_mode.proofs.machine.Machine.act.Goals as goal

pub reads-requires-clause-ready : goal.reads-requires-clause-ready
reads-requires-clause-ready g c = c.fetches.ensures.keeps.ready

pub answers-requires-clause-ready : goal.answers-requires-clause-ready
answers-requires-clause-ready g c = c.reads.ensures.keeps.ready

pub works-requires-clause-ready : goal.works-requires-clause-ready
works-requires-clause-ready g c = c.answers.ensures.keeps.ready

pub returns-clause-change : goal.returns-clause-change
returns-clause-change g c =
    let m = c.args.self.now in
    let a = c.fetches.new.self in
    let b = c.reads.new.self in
    let d = c.answers.new.self in
    let ps = c.args.programs.now in
    let ka = c.fetches.ensures.keeps in
    let kb = after_two 4 4 m a b ka c.reads.ensures.keeps in
    let kd = after_two 4 4 m b d kb c.answers.ensures.keeps in
    c.works.ensures.change ∙ ap₂ (λ bs n. works_of bs n ps (four_of d)) kd.images kd.budget
    ∙ ap (works_of (images_of m) m.budget ps) (c.answers.ensures.change
    ∙ ap₂ (λ bs n. answers_of bs n ps (four_of b)) kb.images kb.budget
    ∙ ap (answers_of (images_of m) m.budget ps) (c.reads.ensures.change
    ∙ ap₂ (λ bs n. reads_of bs n ps (four_of a)) ka.images ka.budget
    ∙ ap (reads_of (images_of m) m.budget ps) c.fetches.ensures.change))

pub returns-clause-keeps : goal.returns-clause-keeps
returns-clause-keeps g c =
    let m = c.args.self.now in
    let a = c.fetches.new.self in
    let b = c.reads.new.self in
    let d = c.answers.new.self in
    after_two 4 4 m d c.works.new.self
    (after_two 4 4 m b d (after_two 4 4 m a b c.fetches.ensures.keeps c.reads.ensures.keeps) c.answers.ensures.keeps)
    c.works.ensures.keeps
