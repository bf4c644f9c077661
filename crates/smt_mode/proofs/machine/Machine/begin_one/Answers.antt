use Rattle.std.proofs.Common.{◌<◌, ap, ap₂, sym, ◌∙◌, arith, length}
use Rattle.std.proofs.lemmas.Option.{slice_get_read}
use Rattle.smt_spec.specs.Programs.{alone, grid_of, own_of, put}
use Rattle.smt_mode.specs.Machines.{blocks_of, four_of, images_of, seen_of}
use Rattle.smt_mode.proofs.OneProgram.{image_here, kept, turned_if}
use Rattle.std.proofs.Common.{cond, is_some, nat_lt, ◌&&◌}
use Rattle.grid_cycle_spec.specs.Fetches.{begins}
use Rattle.smt_spec.specs.Parts.{may_begin}
use Rattle.smt_spec.proofs.OwnTurnsAlike.{begins_alike}
use Rattle.smt_mode.specs.Machines.{own_in}
use Rattle.smt_mode.proofs.OneProgram.{sees}
use Rattle.smt_mode.proofs.Idle.{idle_of}
use Rattle.smt_mode.proofs.machine.Machine.begin_one.Goals as goal

pub index_mut-requires : goal.index_mut-requires
index_mut-requires g c =
    let four = c.requires.ready.four in
    let l = c.requires.program in
    omega (arith, four, l)

pub begin-requires : goal.begin-requires
begin-requires g c = record {
  idle = let m = c.args.self.now in
      let x = c.index_mut.result.now in
      let four = c.requires.ready.four in
      let l = c.requires.program in
      let is = slice_get_read m.programs.items 4 c.args.program x (sym four) l c.index_mut.ensures.value in
      sym (ap (λ o. (own_in o).fetching) is) ∙ idle_of (four_of m) c.requires.idle c.args.program l;
}

pub returns-clause-value : goal.returns-clause-value
returns-clause-value g c =
    let m = c.args.self.now in
    let x = c.index_mut.result.now in
    let y = c.begin.new.program in
    let four = c.requires.ready.four in
    let l = c.requires.program in
    let inside : c.args.program < length m.programs.items = omega (arith, four, l) in
    let is = slice_get_read m.programs.items 4 c.args.program x (sym four) l c.index_mut.ensures.value in
    c.begin.ensures.value
    ∙ ap (λ o. nat_lt (length x.window.window.frames) 2 && is_some o)
    (sym (ap (λ h. h.fetching) (begins_alike (four_of m).units m.weather m.cycles (blocks_of x) x.window.budget
    (seen_of x))))
    ∙ ap (λ bs. nat_lt (length x.window.window.frames) 2 && is_some
    (begins bs (grid_of (own_of (seen_of x)) (four_of m).units m.weather m.cycles)).fetching)
    (sym (image_here m.programs.items c.args.program x y inside is))
    ∙ ap (λ h. may_begin (images_of m) c.args.program h)
    (sym (sees m.programs.items c.args.program x y inside is m.units m.weather m.cycles))

pub returns-clause-change : goal.returns-clause-change
returns-clause-change g c =
    let m = c.args.self.now in
    let x = c.index_mut.result.now in
    let y = c.begin.new.program in
    let four = c.requires.ready.four in
    let l = c.requires.program in
    let inside : c.args.program < length m.programs.items = omega (arith, four, l) in
    let is = slice_get_read m.programs.items 4 c.args.program x (sym four) l c.index_mut.ensures.value in
    let budget = (c.requires.ready.within c.args.program x is).budget in
    turned_if m.programs.items c.args.program x y inside is m.units m.weather m.cycles
    (begins (blocks_of x))
    (λ h. begins (blocks_of x) h)
    (begins_alike (four_of m).units m.weather m.cycles (blocks_of x) x.window.budget (seen_of x)) c.begin.result
    c.begin.ensures.change
    ∙ ap₂ (λ bs b. cond c.begin.result (put c.args.program (begins bs (alone c.args.program (four_of m))) (four_of m))
    (four_of m))
    (sym (image_here m.programs.items c.args.program x y inside is)) budget

pub returns-clause-keeps : goal.returns-clause-keeps
returns-clause-keeps g c =
    let m = c.args.self.now in
    let x = c.index_mut.result.now in
    let y = c.begin.new.program in
    let four = c.requires.ready.four in
    let l = c.requires.program in
    let inside : c.args.program < length m.programs.items = omega (arith, four, l) in
    let is = slice_get_read m.programs.items 4 c.args.program x (sym four) l c.index_mut.ensures.value in
    kept m.programs.items c.args.program x y inside is m.budget m.cycles 4 c.begin.ensures.stays
    c.requires.ready
