use Rattle.std.proofs.Common.{◌<◌, ap₂, sym, ◌∙◌, arith, length}
use Rattle.std.proofs.lemmas.Option.{slice_get_read}
use Rattle.smt_spec.specs.Programs.{alone, put}
use Rattle.smt_mode.specs.Machines.{blocks_of, four_of, seen_of}
use Rattle.smt_mode.proofs.OneProgram.{image_here, kept, room_of, turned}
use Rattle.grid_cycle_spec.specs.Ends.{ends}
use Rattle.smt_spec.proofs.OwnTurnsAlike.{ends_alike}
use Rattle.smt_mode.proofs.machine.Machine.end_one.Goals as goal

pub index_mut-requires : goal.index_mut-requires
index_mut-requires g c =
    let four = c.requires.ready.four in
    let l = c.requires.program in
    omega (arith, four, l)

pub end-requires : goal.end-requires
end-requires g c = record {
  room = let m = c.args.self.now in
      let x = c.index_mut.result.now in
      let four = c.requires.ready.four in
      let l = c.requires.program in
      room_of m.programs.items c.args.program x x (omega (arith, four, l))
      (slice_get_read m.programs.items 4 c.args.program x (sym four) l c.index_mut.ensures.value) m.budget m.cycles 0
      c.requires.ready;
}

pub returns-clause-change : goal.returns-clause-change
returns-clause-change g c =
    let m = c.args.self.now in
    let x = c.index_mut.result.now in
    let y = c.end.new.program in
    let four = c.requires.ready.four in
    let l = c.requires.program in
    let inside : c.args.program < length m.programs.items = omega (arith, four, l) in
    let is = slice_get_read m.programs.items 4 c.args.program x (sym four) l c.index_mut.ensures.value in
    let budget = (c.requires.ready.within c.args.program x is).budget in
    turned m.programs.items c.args.program x y inside is m.units m.weather m.cycles
    (ends (blocks_of x) x.window.budget)
    (λ h. ends (blocks_of x) x.window.budget h)
    (ends_alike (four_of m).units m.weather m.cycles (blocks_of x) x.window.budget (seen_of x))
    c.end.ensures.change
    ∙ ap₂ (λ bs b. put c.args.program (ends bs b (alone c.args.program (four_of m))) (four_of m))
    (sym (image_here m.programs.items c.args.program x y inside is)) budget

pub returns-clause-keeps : goal.returns-clause-keeps
returns-clause-keeps g c =
    let m = c.args.self.now in
    let x = c.index_mut.result.now in
    let y = c.end.new.program in
    let four = c.requires.ready.four in
    let l = c.requires.program in
    let inside : c.args.program < length m.programs.items = omega (arith, four, l) in
    let is = slice_get_read m.programs.items 4 c.args.program x (sym four) l c.index_mut.ensures.value in
    kept m.programs.items c.args.program x y inside is m.budget m.cycles 0 c.end.ensures.stays
    c.requires.ready
