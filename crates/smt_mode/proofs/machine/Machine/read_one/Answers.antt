use Rattle.std.proofs.Common.{◌<◌, ap, ap₂, sym, ◌∙◌, arith, length}
use Rattle.std.proofs.lemmas.Option.{slice_get_read}
use Rattle.smt_spec.specs.Programs.{alone, grid_of, own_of, put}
use Rattle.smt_mode.specs.Machines.{blocks_of, four_of, images_of, seen_of}
use Rattle.smt_mode.proofs.OneProgram.{image_here, kept, turned_if}
use Rattle.std.proofs.Common.{cond, is_some}
use Rattle.grid_cycle_spec.specs.Banks.{answers_read, bank_turn}
use Rattle.grid_cycle_spec.specs.Choosing.{eldest, reads}
use Rattle.smt_spec.specs.Parts.{has_read}
use Rattle.smt_spec.proofs.OwnTurnsAlike.{bank_alike}
use Rattle.smt_mode.proofs.OneProgram.{sees}
use Rattle.smt_mode.proofs.machine.Machine.read_one.Goals as goal

pub index_mut-requires : goal.index_mut-requires
index_mut-requires g c =
    let four = c.requires.ready.four in
    let l = c.requires.program in
    omega (arith, four, l)

pub returns-clause-value : goal.returns-clause-value
returns-clause-value g c =
    let m = c.args.self.now in
    let x = c.index_mut.result.now in
    let y = c.read.new.program in
    let four = c.requires.ready.four in
    let l = c.requires.program in
    let inside : c.args.program < length m.programs.items = omega (arith, four, l) in
    let is = slice_get_read m.programs.items 4 c.args.program x (sym four) l c.index_mut.ensures.value in
    let budget = (c.requires.ready.within c.args.program x is).budget in
    c.read.ensures.value
    ∙ ap₂ (λ bs b. is_some
    (eldest (answers_read bs b (grid_of (own_of (seen_of x)) (four_of m).units m.weather m.cycles) c.args.bank) reads
    x.window.window.frames))
    (sym (image_here m.programs.items c.args.program x y inside is)) budget
    ∙ ap (λ h. has_read (images_of m) m.budget c.args.bank c.args.program h)
    (sym (sees m.programs.items c.args.program x y inside is m.units m.weather m.cycles))

pub returns-clause-change : goal.returns-clause-change
returns-clause-change g c =
    let m = c.args.self.now in
    let x = c.index_mut.result.now in
    let y = c.read.new.program in
    let four = c.requires.ready.four in
    let l = c.requires.program in
    let inside : c.args.program < length m.programs.items = omega (arith, four, l) in
    let is = slice_get_read m.programs.items 4 c.args.program x (sym four) l c.index_mut.ensures.value in
    let budget = (c.requires.ready.within c.args.program x is).budget in
    turned_if m.programs.items c.args.program x y inside is m.units m.weather m.cycles
    (bank_turn (blocks_of x) x.window.budget c.args.bank)
    (λ h. bank_turn (blocks_of x) x.window.budget c.args.bank h)
    (bank_alike (four_of m).units m.weather m.cycles (blocks_of x) x.window.budget c.args.bank (seen_of x))
    c.read.result
    c.read.ensures.change
    ∙ ap₂ (λ bs b. cond c.read.result
    (put c.args.program (bank_turn bs b c.args.bank (alone c.args.program (four_of m))) (four_of m)) (four_of m))
    (sym (image_here m.programs.items c.args.program x y inside is)) budget

pub returns-clause-keeps : goal.returns-clause-keeps
returns-clause-keeps g c =
    let m = c.args.self.now in
    let x = c.index_mut.result.now in
    let y = c.read.new.program in
    let four = c.requires.ready.four in
    let l = c.requires.program in
    let inside : c.args.program < length m.programs.items = omega (arith, four, l) in
    let is = slice_get_read m.programs.items 4 c.args.program x (sym four) l c.index_mut.ensures.value in
    kept m.programs.items c.args.program x y inside is m.budget m.cycles 4 c.read.ensures.stays
    c.requires.ready
