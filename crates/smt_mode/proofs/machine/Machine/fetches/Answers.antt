use Rattle.std.proofs.Common.{cond, ap, ◌∙◌}
use Rattle.grid_cycle_spec.specs.Fetches.{begins}
use Rattle.smt_spec.specs.Parts.{fetch_begins, may_begin}
use Rattle.smt_spec.specs.Turns.{first_does}
use Rattle.smt_mode.specs.Machines.{four_of, images_of}
use Rattle.smt_mode.proofs.OneProgram.{kept_then}
use Rattle.smt_mode.proofs.machine.Machine.fetches.Goals as goal

pub begin_first-requires-clause-ready : goal.begin_first-requires-clause-ready
begin_first-requires-clause-ready g c = c.go_on_each.ensures.keeps.ready

pub returns-then-is_idle-clause-change : goal.returns-then-is_idle-clause-change
returns-then-is_idle-clause-change g c =
    let m = c.args.self.now in
    let k = c.go_on_each.new.self in
    let ps = c.args.programs.now in
    c.begin_first.ensures.change
    ∙ ap (λ bs. first_does (may_begin bs) (λ p. begins (bs p)) ps (four_of k)) c.go_on_each.ensures.keeps.images
    ∙ ap (λ b. cond b (first_does (may_begin (images_of m)) (λ p. begins (images_of m p)) ps (four_of k)) (four_of k))
    c.if-is_idle.ensures
    ∙ ap (fetch_begins (images_of m) ps) c.go_on_each.ensures.change

pub returns-then-is_idle-clause-keeps : goal.returns-then-is_idle-clause-keeps
returns-then-is_idle-clause-keeps g c =
    let m = c.args.self.now in
    let k = c.go_on_each.new.self in
    let h = c.begin_first.new.self in
    kept_then 4 4 m.programs.items k.programs.items h.programs.items m.budget k.budget h.budget m.cycles k.cycles
    h.cycles c.go_on_each.ensures.keeps c.begin_first.ensures.keeps

pub returns-else-is_idle-clause-change : goal.returns-else-is_idle-clause-change
returns-else-is_idle-clause-change g c =
    let m = c.args.self.now in
    let k = c.go_on_each.new.self in
    let ps = c.args.programs.now in
    ap (λ b. cond b (first_does (may_begin (images_of m)) (λ p. begins (images_of m p)) ps (four_of k)) (four_of k))
    c.if-is_idle.ensures
    ∙ ap (fetch_begins (images_of m) ps) c.go_on_each.ensures.change
