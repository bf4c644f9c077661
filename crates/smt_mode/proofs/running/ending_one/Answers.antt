use Rattle.std.proofs.Common.{sym, ap, ◌∙◌, arith}
use Rattle.std.proofs.lemmas.Option.{slice_get_read}
use Rattle.grid_machine.specs.Endings.{ending_of}
use Rattle.smt_mode.specs.Machines.{own_in}
use Rattle.smt_mode.proofs.running.ending_one.Goals as goal

pub index-requires : goal.index-requires
index-requires g c =
    let four = c.requires.four in
    let l = c.requires.program in
    omega (arith, four, l)

pub ending-requires : goal.ending-requires
ending-requires g c = record {
  rests = let m = c.args.machine.now in
      let is = slice_get_read m.programs.items 4 c.args.program c.index.result.now (sym c.requires.four)
      c.requires.program c.index.ensures in
      sym (ap (λ o. (own_in o).window.frames) is) ∙ c.requires.rests;
}

pub returns : goal.returns
returns g c =
    let m = c.args.machine.now in
    let is = slice_get_read m.programs.items 4 c.args.program c.index.result.now (sym c.requires.four)
    c.requires.program c.index.ensures in
    c.ending.ensures.value ∙ ap (λ o. ending_of (own_in o).window.over (own_in o).window.state.next) (sym is)
