use Rattle.std.proofs.Common.{sym, ◌∙◌, subst, arith}
use Rattle.std.proofs.lemmas.Option.{same_Some, slice_get_read}
use Rattle.grid_parts.specs.inside.Marked.{SlotsMarked}
use Rattle.smt_mode.specs.Machines.{blocks_of}
use Rattle.smt_mode.proofs.machine.Machine.marks_one.Goals as goal

pub index-requires : goal.index-requires
index-requires g c =
    let four = c.requires.ready.four in
    let l = c.requires.program in
    omega (arith, four, l)

pub returns : goal.returns
returns g c = λ x e.
    let m = c.args.self.now in
    let z = c.index.result.now in
    let is = slice_get_read m.programs.items 4 c.args.program z (sym c.requires.ready.four) c.requires.program
    c.index.ensures in
    subst (λ y. SlotsMarked (blocks_of y) y.window.budget y.window.window c.marked_slots.result)
    (same_Some z x (sym is ∙ e)) c.marked_slots.ensures
