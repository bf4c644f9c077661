use Rattle.std.proofs.Common.{◌≡◌, ◌+◌, ◌*◌, ◌≤◌, length, subst}
use Rattle.trips_isa.specs.declared.block.Image.{Image}
use Rattle.trips_isa.specs.declared.run.Stepped.TheVariants.{Went}
use Rattle.trips_isa.specs.Machine.{runs, start}
use Rattle.c_meaning_spec.specs.Eval.{eval}
use Rattle.c_compile.specs.Images.{MeansText}
use Rattle.grid_cycle.specs.Engines.{grid_of}
use Rattle.grid_meaning.specs.Meant.{AgreesWith, EndsAsMeant, stands}
use Rattle.grid_meaning.proofs.running.run_image_at.Goals as goal

pub returns-clause-done : goal.returns-clause-done
returns-clause-done g c = λ text input out placing turns program value n steps made reached accepted means bytes is
    enough.
    let x = c.in_ok-begun.begun in
    let s = c.args.arch.state in
    let is_made = c.in_ok-begun.ensures in
    let e = c.run_out-ending.result in
    let z = c.run_out-ending.new.grid in
    subst (λ b. 16 * n + 16 ≤ b → EndsAsMeant c.args.image input b s.trace out value e (grid_of z)) is_made.budget
    (subst (λ (i : Image). (s, Went) ≡ runs i.blocks (start i.bytes input) made → MeansText text placing turns i
    → 16 * n + 16 ≤ x.window.budget → EndsAsMeant i input x.window.budget s.trace out value e (grid_of z))
    is_made.image
    (λ r m f. c.run_out-ending.ensures.done text input out placing turns program value n steps made s c.args.predictor
    c.args.weather r is_made.begun accepted m bytes is f) reached means) enough

pub returns-clause-meant : goal.returns-clause-meant
returns-clause-meant g c = λ text input placing turns program made reached accepted means bytes end n.
    let x = c.in_ok-begun.begun in
    let s = c.args.arch.state in
    let is_made = c.in_ok-begun.ensures in
    let z = c.run_out-ending.new.grid in
    subst (λ b. AgreesWith (stands (grid_of z)) (n ≤ turns * length means.tokens * (b + 1)) (eval program input n))
    is_made.budget
    (subst (λ (i : Image). (s, Went) ≡ runs i.blocks (start i.bytes input) made → (m : MeansText text placing turns i)
    → AgreesWith (stands (grid_of z)) (n ≤ turns * length m.tokens * (x.window.budget + 1)) (eval program input n))
    is_made.image
    (λ r m. c.run_out-ending.ensures.meant text input placing turns program made s c.args.predictor c.args.weather r
    is_made.begun accepted m bytes end n) reached means)
