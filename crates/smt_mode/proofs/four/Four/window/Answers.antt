use Rattle.std.proofs.Common.{ap, sym, ◌∙◌, arith}
use Rattle.std.proofs.lemmas.Option.{slice_get_read}
use Rattle.smt_mode.specs.Machines.{blocks_in, four_of, images_of, own_in}
use Rattle.smt_mode.proofs.four.Four.window.Goals as goal

pub index-requires : goal.index-requires
index-requires g c =
    let four = c.self.invariant.ready.four in
    let l = c.requires in
    omega (arith, four, l)

pub returns-clause-window : goal.returns-clause-window
returns-clause-window g c =
    let m = c.self.inside.machine in
    let is = slice_get_read m.programs.items 4 c.args.program c.index.result.now (sym c.self.invariant.ready.four)
    c.requires c.index.ensures in
    ap (λ s. s.window) c.window.ensures.value ∙ ap (λ o. (own_in o).window) (sym is)
    ∙ ap (λ x. ((four_of x).own c.args.program).window) c.self.view_is

pub returns-clause-image : goal.returns-clause-image
returns-clause-image g c =
    let m = c.self.inside.machine in
    let is = slice_get_read m.programs.items 4 c.args.program c.index.result.now (sym c.self.invariant.ready.four)
    c.requires c.index.ensures in
    ap (λ s. s.image.blocks) c.window.ensures.value ∙ ap blocks_in (sym is)
    ∙ ap (λ x. images_of x c.args.program) c.self.view_is
