use Rattle.std.proofs.Common.{◌<◌, sym, arith, length}
use Rattle.std.proofs.lemmas.Option.{slice_get_read}
use Rattle.smt_mode.specs.Machines.{four_of, seen_of}
use Rattle.smt_mode.proofs.OneProgram.{kept, room_of, turned}
use Rattle.smt_spec.specs.Cycles.{retires}
use Rattle.smt_mode.proofs.Retires.{retires_alike}
use Rattle.smt_mode.proofs.machine.Machine.retire_one.Goals as goal

pub index_mut-requires : goal.index_mut-requires
index_mut-requires g c =
    let four = c.requires.ready.four in
    let l = c.requires.program in
    omega (arith, four, l)

pub retire-requires : goal.retire-requires
retire-requires g c = record {
  room = let m = c.args.self.now in
      let x = c.index_mut.result.now in
      let four = c.requires.ready.four in
      let l = c.requires.program in
      room_of m.programs.items c.args.program x x (omega (arith, four, l))
      (slice_get_read m.programs.items 4 c.args.program x (sym four) l c.index_mut.ensures.value) m.budget m.cycles 0
      c.requires.ready;
}

pub returns-clause-change : goal.returns-clause-change
returns-clause-change g c =
    let m = c.args.self.now in
    let x = c.index_mut.result.now in
    let y = c.retire.new.program in
    let four = c.requires.ready.four in
    let l = c.requires.program in
    let inside : c.args.program < length m.programs.items = omega (arith, four, l) in
    let is = slice_get_read m.programs.items 4 c.args.program x (sym four) l c.index_mut.ensures.value in
    turned m.programs.items c.args.program x y inside is m.units m.weather m.cycles
    (retires m.budget) (retires m.budget) (retires_alike (four_of m).units m.weather m.cycles m.budget (seen_of x))
    c.retire.ensures.change

pub returns-clause-keeps : goal.returns-clause-keeps
returns-clause-keeps g c =
    let m = c.args.self.now in
    let x = c.index_mut.result.now in
    let y = c.retire.new.program in
    let four = c.requires.ready.four in
    let l = c.requires.program in
    let inside : c.args.program < length m.programs.items = omega (arith, four, l) in
    let is = slice_get_read m.programs.items 4 c.args.program x (sym four) l c.index_mut.ensures.value in
    kept m.programs.items c.args.program x y inside is m.budget m.cycles 0 c.retire.ensures.stays
    c.requires.ready
