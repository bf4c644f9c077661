use Rattle.std.proofs.Common.{◌==◌, cond, sym, ap, ◌∙◌, slice_index_or}
use Rattle.std.proofs.lemmas.Bool.{ne_eqb}
use Rattle.grid_cycle_spec.specs.Units as units
use Rattle.smt_spec.specs.Parts.{has_ready}
use Rattle.smt_spec.specs.Turns.{first_does}
use Rattle.smt_mode.specs.Machines.{four_of, images_of}
use Rattle.smt_mode.proofs.OneProgram.{kept_still}
use Rattle.smt_mode.proofs.machine.Machine.issues.Goals as goal

pub returns-then-self-tile-eq0-clause-change : goal.returns-then-self-tile-eq0-clause-change
returns-then-self-tile-eq0-clause-change g c =
    let m = c.args.self.now in
    c.issue_first.ensures.change
    ∙ sym (ap (λ n. cond (n == 0) (first_does (has_ready (images_of m) m.budget c.args.tile)
    (λ p. units.issues (images_of m p) m.budget c.args.tile) c.args.programs.now (four_of m)) (four_of m))
    c.if-self-tile-eq0.true)

pub returns-else-self-tile-eq0-clause-change : goal.returns-else-self-tile-eq0-clause-change
returns-else-self-tile-eq0-clause-change g c =
    let m = c.args.self.now in
    sym (ap (λ b. cond b (first_does (has_ready (images_of m) m.budget c.args.tile)
    (λ p. units.issues (images_of m p) m.budget c.args.tile) c.args.programs.now (four_of m)) (four_of m))
    (ne_eqb (slice_index_or m.units c.args.tile 0) 0 c.if-self-tile-eq0.false))

pub returns-else-self-tile-eq0-clause-keeps : goal.returns-else-self-tile-eq0-clause-keeps
returns-else-self-tile-eq0-clause-keeps g c =
    let m = c.args.self.now in
    kept_still 4 m.programs.items m.budget m.cycles c.requires.ready
