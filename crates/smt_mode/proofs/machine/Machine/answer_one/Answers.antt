use Rattle.std.proofs.Common.{◌<◌, ap, ap₂, sym, ◌∙◌, arith, length}
use Rattle.std.proofs.lemmas.Option.{slice_get_read}
use Rattle.smt_spec.specs.Programs.{alone, grid_of, own_of, put}
use Rattle.smt_mode.specs.Machines.{blocks_of, four_of, seen_of}
use Rattle.smt_mode.proofs.OneProgram.{image_here, kept, room_of, turned_if}
use Rattle.std.proofs.Common.{cond, is_some}
use Rattle.commit_flush_spec.specs.Frames.{numbers}
use Rattle.grid_cycle_spec.specs.DataTiles.{answers_request, data_turn}
use Rattle.grid_cycle_spec.specs.Choosing.{eldest}
use Rattle.smt_spec.specs.Parts.{has_request}
use Rattle.smt_spec.proofs.OwnTurnsAlike.{tile_alike}
use Rattle.smt_mode.proofs.OneProgram.{sees}
use Rattle.smt_mode.proofs.machine.Machine.answer_one.Goals as goal

pub index_mut-requires : goal.index_mut-requires
index_mut-requires g c =
    let four = c.requires.ready.four in
    let l = c.requires.program in
    omega (arith, four, l)

pub answer-requires-clause-room : goal.answer-requires-clause-room
answer-requires-clause-room g c =
    let m = c.args.self.now in
    let x = c.index_mut.result.now in
    let four = c.requires.ready.four in
    let l = c.requires.program in
    room_of m.programs.items c.args.program x x (omega (arith, four, l))
    (slice_get_read m.programs.items 4 c.args.program x (sym four) l c.index_mut.ensures.value) m.budget m.cycles 4
    c.requires.ready

pub returns-clause-value : goal.returns-clause-value
returns-clause-value g c =
    let m = c.args.self.now in
    let x = c.index_mut.result.now in
    let y = c.answer.new.program in
    let four = c.requires.ready.four in
    let l = c.requires.program in
    let inside : c.args.program < length m.programs.items = omega (arith, four, l) in
    let is = slice_get_read m.programs.items 4 c.args.program x (sym four) l c.index_mut.ensures.value in
    let budget = (c.requires.ready.within c.args.program x is).budget in
    c.answer.ensures.value
    ∙ ap₂ (λ bs b. is_some
    (eldest (answers_request (grid_of (own_of (seen_of x)) (four_of m).units m.weather m.cycles) c.args.tile) numbers
    x.window.window.frames))
    (sym (image_here m.programs.items c.args.program x y inside is)) budget
    ∙ ap (λ h. has_request c.args.tile c.args.program h)
    (sym (sees m.programs.items c.args.program x y inside is m.units m.weather m.cycles))

pub returns-clause-change : goal.returns-clause-change
returns-clause-change g c =
    let m = c.args.self.now in
    let x = c.index_mut.result.now in
    let y = c.answer.new.program in
    let four = c.requires.ready.four in
    let l = c.requires.program in
    let inside : c.args.program < length m.programs.items = omega (arith, four, l) in
    let is = slice_get_read m.programs.items 4 c.args.program x (sym four) l c.index_mut.ensures.value in
    let budget = (c.requires.ready.within c.args.program x is).budget in
    turned_if m.programs.items c.args.program x y inside is m.units m.weather m.cycles
    (data_turn (blocks_of x) x.window.budget c.args.tile)
    (λ h. data_turn (blocks_of x) x.window.budget c.args.tile h)
    (tile_alike (four_of m).units m.weather m.cycles (blocks_of x) x.window.budget c.args.tile (seen_of x))
    c.answer.result
    c.answer.ensures.change
    ∙ ap₂ (λ bs b. cond c.answer.result
    (put c.args.program (data_turn bs b c.args.tile (alone c.args.program (four_of m))) (four_of m)) (four_of m))
    (sym (image_here m.programs.items c.args.program x y inside is)) budget

pub returns-clause-keeps : goal.returns-clause-keeps
returns-clause-keeps g c =
    let m = c.args.self.now in
    let x = c.index_mut.result.now in
    let y = c.answer.new.program in
    let four = c.requires.ready.four in
    let l = c.requires.program in
    let inside : c.args.program < length m.programs.items = omega (arith, four, l) in
    let is = slice_get_read m.programs.items 4 c.args.program x (sym four) l c.index_mut.ensures.value in
    kept m.programs.items c.args.program x y inside is m.budget m.cycles 4 c.answer.ensures.stays
    c.requires.ready
