use Rattle.std.proofs.Common.{◌<◌, is_some, length, sym, ap, ap₂, ◌∙◌, arith}
use Rattle.std.proofs.lemmas.Option.{slice_get_read}
use Rattle.grid_cycle_spec.specs.Choosing.{eldest, slots}
use Rattle.grid_cycle_spec.specs.Units.{issues, ready}
use Rattle.smt_spec.specs.Parts.{has_ready}
use Rattle.smt_spec.specs.Programs.{alone, own_of, put}
use Rattle.smt_mode.specs.Machines.{blocks_of, four_of, images_of, seen_of}
use Rattle.smt_mode.proofs.OneProgram.{image_here, kept, left_alone, sees}
use Rattle.smt_mode.proofs.MarksOfFour.{marks_set}
use Rattle.smt_mode.proofs.UnitsOfOne.{issued_one}
use Rattle.smt_mode.proofs.machine.Machine.issue_one.Goals as goal

pub index_mut-requires : goal.index_mut-requires
index_mut-requires g c =
    let four = c.requires.ready.four in
    let l = c.requires.program in
    omega (arith, four, l)

pub issue-requires-clause-marked : goal.issue-requires-clause-marked
issue-requires-clause-marked g c =
    let m = c.args.self.now in
    let x = c.index_mut.result.now in
    let four = c.requires.ready.four in
    let l = c.requires.program in
    let is = slice_get_read m.programs.items 4 c.args.program x (sym four) l c.index_mut.ensures.value in
    c.requires.marked c.args.program x is

pub returns-in-Some-clause-value : goal.returns-in-Some-clause-value
returns-in-Some-clause-value g c =
    let m = c.args.self.now in
    let x = c.index_mut.result.now in
    let y = c.issue.new.program in
    let four = c.requires.ready.four in
    let l = c.requires.program in
    let inside : c.args.program < length m.programs.items = omega (arith, four, l) in
    let is = slice_get_read m.programs.items 4 c.args.program x (sym four) l c.index_mut.ensures.value in
    let budget = (c.requires.ready.within c.args.program x is).budget in
    ap is_some (sym (c.in-Some.ensures.value.1).chose)
    ∙ ap₂ (λ bs b. is_some (eldest (ready bs b (seen_of x) c.args.tile) slots x.window.window.frames))
    (sym (image_here m.programs.items c.args.program x y inside is)) budget
    ∙ ap (has_ready (images_of m) m.budget c.args.tile c.args.program)
    (sym (sees m.programs.items c.args.program x y inside is m.units m.weather m.cycles))

pub returns-in-Some-clause-change : goal.returns-in-Some-clause-change
returns-in-Some-clause-change g c =
    let m = c.args.self.now in
    let x = c.index_mut.result.now in
    let y = c.issue.new.program in
    let four = c.requires.ready.four in
    let l = c.requires.program in
    let inside : c.args.program < length m.programs.items = omega (arith, four, l) in
    let is = slice_get_read m.programs.items 4 c.args.program x (sym four) l c.index_mut.ensures.value in
    let budget = (c.requires.ready.within c.args.program x is).budget in
    let it = c.in-Some.ensures.value in
    issued_one m.programs.items c.args.program x y inside is (blocks_of x) x.window.budget c.args.tile it.0
    c.in-Some.time it.1 m.units (omega arith) c.requires.free m.weather m.cycles
    ∙ ap₂ (λ bs b. put c.args.program (issues bs b c.args.tile (alone c.args.program (four_of m))) (four_of m))
    (sym (image_here m.programs.items c.args.program x y inside is)) budget

pub returns-in-Some-clause-marked : goal.returns-in-Some-clause-marked
returns-in-Some-clause-marked g c =
    let m = c.args.self.now in
    let x = c.index_mut.result.now in
    let y = c.issue.new.program in
    let four = c.requires.ready.four in
    let l = c.requires.program in
    let inside : c.args.program < length m.programs.items = omega (arith, four, l) in
    let is = slice_get_read m.programs.items 4 c.args.program x (sym four) l c.index_mut.ensures.value in
    marks_set m.programs.items c.args.program x y inside is c.args.marks.now (c.issue.ensures.marks _)
    c.requires.marked

pub returns-in-Some-clause-keeps : goal.returns-in-Some-clause-keeps
returns-in-Some-clause-keeps g c =
    let m = c.args.self.now in
    let x = c.index_mut.result.now in
    let y = c.issue.new.program in
    let four = c.requires.ready.four in
    let l = c.requires.program in
    let inside : c.args.program < length m.programs.items = omega (arith, four, l) in
    let is = slice_get_read m.programs.items 4 c.args.program x (sym four) l c.index_mut.ensures.value in
    kept m.programs.items c.args.program x y inside is m.budget m.cycles 4 c.issue.ensures.stays c.requires.ready

pub returns-in-None-clause-value : goal.returns-in-None-clause-value
returns-in-None-clause-value g c =
    let m = c.args.self.now in
    let x = c.index_mut.result.now in
    let y = c.issue.new.program in
    let four = c.requires.ready.four in
    let l = c.requires.program in
    let inside : c.args.program < length m.programs.items = omega (arith, four, l) in
    let is = slice_get_read m.programs.items 4 c.args.program x (sym four) l c.index_mut.ensures.value in
    let budget = (c.requires.ready.within c.args.program x is).budget in
    ap is_some (sym c.in-None.ensures.value.0)
    ∙ ap₂ (λ bs b. is_some (eldest (ready bs b (seen_of x) c.args.tile) slots x.window.window.frames))
    (sym (image_here m.programs.items c.args.program x y inside is)) budget
    ∙ ap (has_ready (images_of m) m.budget c.args.tile c.args.program)
    (sym (sees m.programs.items c.args.program x y inside is m.units m.weather m.cycles))

pub returns-in-None-clause-change : goal.returns-in-None-clause-change
returns-in-None-clause-change g c =
    let m = c.args.self.now in
    let x = c.index_mut.result.now in
    let y = c.issue.new.program in
    let four = c.requires.ready.four in
    let l = c.requires.program in
    let inside : c.args.program < length m.programs.items = omega (arith, four, l) in
    let is = slice_get_read m.programs.items 4 c.args.program x (sym four) l c.index_mut.ensures.value in
    left_alone m.programs.items c.args.program x y inside is m.units m.weather m.cycles
    (ap own_of c.in-None.ensures.value.1)

pub returns-in-None-clause-marked : goal.returns-in-None-clause-marked
returns-in-None-clause-marked g c =
    let m = c.args.self.now in
    let x = c.index_mut.result.now in
    let y = c.issue.new.program in
    let four = c.requires.ready.four in
    let l = c.requires.program in
    let inside : c.args.program < length m.programs.items = omega (arith, four, l) in
    let is = slice_get_read m.programs.items 4 c.args.program x (sym four) l c.index_mut.ensures.value in
    marks_set m.programs.items c.args.program x y inside is c.args.marks.now (c.issue.ensures.marks _)
    c.requires.marked

pub returns-in-None-clause-keeps : goal.returns-in-None-clause-keeps
returns-in-None-clause-keeps g c =
    let m = c.args.self.now in
    let x = c.index_mut.result.now in
    let y = c.issue.new.program in
    let four = c.requires.ready.four in
    let l = c.requires.program in
    let inside : c.args.program < length m.programs.items = omega (arith, four, l) in
    let is = slice_get_read m.programs.items 4 c.args.program x (sym four) l c.index_mut.ensures.value in
    kept m.programs.items c.args.program x y inside is m.budget m.cycles 4 c.issue.ensures.stays c.requires.ready
