use Rattle.std.proofs.Common.{◌≡◌, ◌+◌, ◌*◌, ◌/◌, ◌%◌, ◌||◌, ◌<◌, length, set, refl, sym, ap, ◌∙◌, subst, arith}
use Rattle.std.proofs.lemmas.Option.{slice_get_read}
use Rattle.operand_net.specs.Places.{at}
use Rattle.operand_net.specs.Tick.{RowTicked, row_wants}
use Rattle.operand_net.specs.inside.Rows.{taken}
use Rattle.smt_spec.specs.Programs.{mesh}
use Rattle.smt_mode.specs.Machines.{Program, four_by, four_of}
use Rattle.smt_mode.proofs.OneProgram.{kept}
use Rattle.smt_mode.proofs.Ticks.{tick_after, tick_before, tick_others, tick_rest}
use Rattle.smt_mode.proofs.machine.Machine.tick_frame.Goals as goal

pub index_mut-requires : goal.index_mut-requires
index_mut-requires g c =
    let four = c.requires.ready.four in
    let low = c.requires.frame in
    omega (arith, four, low)

pub returns-clause-ticks : goal.returns-clause-ticks
returns-clause-ticks g c =
    let m = c.args.self.now in
    let x = c.index_mut.result.now in
    let y : Program = record x { state = record x.state { mesh = c.tick_frame.new.self } } in
    let p = c.args.frame / 2 in
    let four = c.requires.ready.four in
    let low = c.requires.frame in
    let inside : p < length m.programs.items = omega (arith, four, low) in
    let is = slice_get_read m.programs.items 4 p x (sym four) (omega (arith, low)) c.index_mut.ensures.value in
    let e : c.args.frame ≡ 2 * p + c.args.frame % 2 = omega arith in
    let h = four_by (set m.programs.items p y) m.units c.tick_frame.new.weather m.cycles in
    subst (λ r. RowTicked g.W.Weather.next g.W.Weather.follows (taken c.args.links.now.nodes) r
    (mesh h c.args.frame) m.weather c.tick_frame.new.weather) (sym (ap (mesh (four_of m)) e ∙ tick_before
    m.programs.items p x y inside is (record { own = refl }) (c.args.frame % 2) (omega arith)
    c.tick_frame.ensures.others m.units m.cycles m.weather c.tick_frame.new.weather))
    (subst (λ r. RowTicked g.W.Weather.next g.W.Weather.follows (taken c.args.links.now.nodes)
    (at x.state.mesh (c.args.frame % 2)) r m.weather c.tick_frame.new.weather) (sym (ap (mesh h) e ∙ tick_after
    m.programs.items p x y inside is (record { own = refl }) (c.args.frame % 2) (omega arith)
    c.tick_frame.ensures.others m.units m.cycles m.weather c.tick_frame.new.weather)) c.tick_frame.ensures.ticks)

pub returns-clause-others : goal.returns-clause-others
returns-clause-others g c = λ f ne.
    let m = c.args.self.now in
    let x = c.index_mut.result.now in
    let y : Program = record x { state = record x.state { mesh = c.tick_frame.new.self } } in
    let p = c.args.frame / 2 in
    let four = c.requires.ready.four in
    let low = c.requires.frame in
    let inside : p < length m.programs.items = omega (arith, four, low) in
    let is = slice_get_read m.programs.items 4 p x (sym four) (omega (arith, low)) c.index_mut.ensures.value in
    let e : c.args.frame ≡ 2 * p + c.args.frame % 2 = omega arith in
    tick_others m.programs.items p x y inside is (record { own = refl }) (c.args.frame % 2) (omega arith)
    c.tick_frame.ensures.others m.units m.cycles m.weather c.tick_frame.new.weather f
    (λ z. ne (z ∙ sym e))

pub returns-clause-marks : goal.returns-clause-marks
returns-clause-marks g c = λ l.
    let m = c.args.self.now in
    let x = c.index_mut.result.now in
    let y : Program = record x { state = record x.state { mesh = c.tick_frame.new.self } } in
    let p = c.args.frame / 2 in
    let four = c.requires.ready.four in
    let low = c.requires.frame in
    let inside : p < length m.programs.items = omega (arith, four, low) in
    let is = slice_get_read m.programs.items 4 p x (sym four) (omega (arith, low)) c.index_mut.ensures.value in
    let e : c.args.frame ≡ 2 * p + c.args.frame % 2 = omega arith in
    c.tick_frame.ensures.marks l
    ∙ ap (λ r. taken c.args.links.now.nodes l || row_wants r l) (sym (ap (mesh (four_of m)) e ∙ tick_before
    m.programs.items p x y inside is (record { own = refl }) (c.args.frame % 2) (omega arith)
    c.tick_frame.ensures.others m.units m.cycles m.weather c.tick_frame.new.weather))

pub returns-clause-rest : goal.returns-clause-rest
returns-clause-rest g c =
    let m = c.args.self.now in
    let x = c.index_mut.result.now in
    let y : Program = record x { state = record x.state { mesh = c.tick_frame.new.self } } in
    let p = c.args.frame / 2 in
    let four = c.requires.ready.four in
    let low = c.requires.frame in
    let inside : p < length m.programs.items = omega (arith, four, low) in
    let is = slice_get_read m.programs.items 4 p x (sym four) (omega (arith, low)) c.index_mut.ensures.value in
    tick_rest m.programs.items p x y inside is (record { own = refl }) (c.args.frame % 2) (omega arith)
    c.tick_frame.ensures.others m.units m.cycles m.weather c.tick_frame.new.weather

pub returns-clause-keeps : goal.returns-clause-keeps
returns-clause-keeps g c =
    let m = c.args.self.now in
    let x = c.index_mut.result.now in
    let y : Program = record x { state = record x.state { mesh = c.tick_frame.new.self } } in
    let p = c.args.frame / 2 in
    let four = c.requires.ready.four in
    let low = c.requires.frame in
    let inside : p < length m.programs.items = omega (arith, four, low) in
    let is = slice_get_read m.programs.items 4 p x (sym four) (omega (arith, low)) c.index_mut.ensures.value in
    kept m.programs.items p x y inside is m.budget m.cycles 4
    (record { image = refl; budget = refl; adds = λ a. a; few = omega arith }) c.requires.ready
