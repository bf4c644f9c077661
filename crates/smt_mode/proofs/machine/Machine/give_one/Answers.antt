use Rattle.std.proofs.Common.{◌<◌, slice_index_or, sym, arith, length, subst}
use Rattle.commit_flush.specs.Seen.{Seen}
use Rattle.grid_parts.specs.inside.Marked.{SlotsMarked}
use Rattle.smt_mode.proofs.MarksOfFour.{marks_set}
use Rattle.std.proofs.lemmas.Option.{slice_get_read}
use Rattle.smt_mode.specs.Machines.{blocks_of, four_of, seen_of}
use Rattle.smt_mode.proofs.OneProgram.{kept, turned}
use Rattle.smt_spec.specs.Parts.{gives}
use Rattle.smt_spec.proofs.OwnTurnsAlike.{gives_alike}
use Rattle.smt_mode.proofs.machine.Machine.give_one.Goals as goal

pub index_mut-requires : goal.index_mut-requires
index_mut-requires g c =
    let four = c.requires.ready.four in
    let l = c.requires.program in
    omega (arith, four, l)

pub returns-clause-change : goal.returns-clause-change
returns-clause-change g c =
    let m = c.args.self.now in
    let x = c.index_mut.result.now in
    let y = c.give.new.program in
    let four = c.requires.ready.four in
    let l = c.requires.program in
    let inside : c.args.program < length m.programs.items = omega (arith, four, l) in
    let is = slice_get_read m.programs.items 4 c.args.program x (sym four) l c.index_mut.ensures.value in
    turned m.programs.items c.args.program x y inside is m.units m.weather m.cycles
    (gives c.args.tile 0) (gives c.args.tile c.args.program)
    (gives_alike (four_of m).units m.weather m.cycles (blocks_of x) x.window.budget c.args.tile c.args.program
    (seen_of x))
    c.give.ensures.change

pub returns-clause-keeps : goal.returns-clause-keeps
returns-clause-keeps g c =
    let m = c.args.self.now in
    let x = c.index_mut.result.now in
    let y = c.give.new.program in
    let four = c.requires.ready.four in
    let l = c.requires.program in
    let inside : c.args.program < length m.programs.items = omega (arith, four, l) in
    let is = slice_get_read m.programs.items 4 c.args.program x (sym four) l c.index_mut.ensures.value in
    kept m.programs.items c.args.program x y inside is m.budget m.cycles 4 c.give.ensures.stays
    c.requires.ready

pub returns-clause-marks : goal.returns-clause-marks
returns-clause-marks g c = λ marks k.
    let m = c.args.self.now in
    let x = c.index_mut.result.now in
    let y = c.give.new.program in
    let four = c.requires.ready.four in
    let l = c.requires.program in
    let inside : c.args.program < length m.programs.items = omega (arith, four, l) in
    let is = slice_get_read m.programs.items 4 c.args.program x (sym four) l c.index_mut.ensures.value in
    marks_set m.programs.items c.args.program x y inside is marks
    (λ w. subst (λ (v : Seen). SlotsMarked v.image.blocks v.budget v.window
    (slice_index_or marks c.args.program 0)) (sym c.give.ensures.same) w) k
