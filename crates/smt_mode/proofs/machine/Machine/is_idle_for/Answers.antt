use Rattle.std.proofs.Common.{sym, ap, ◌∙◌, arith}
use Rattle.std.proofs.lemmas.Option.{slice_get_read}
use Rattle.std.proofs.Common.{is_none}
use Rattle.smt_mode.specs.Machines.{own_in}
use Rattle.smt_mode.proofs.machine.Machine.is_idle_for.Goals as goal

pub index-requires : goal.index-requires
index-requires g c =
    let four = c.requires.four in
    let l = c.requires.program in
    omega (arith, four, l)

pub returns : goal.returns
returns g c =
    let m = c.args.self.now in
    let x = c.index.result.now in
    let is = slice_get_read m.programs.items 4 c.args.program x (sym c.requires.four) c.requires.program
    c.index.ensures in
    c.is_idle.ensures ∙ ap (λ o. is_none (own_in o).fetching) (sym is)
