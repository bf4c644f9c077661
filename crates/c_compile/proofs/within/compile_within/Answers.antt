use Rattle.std.proofs.Common.{arith}
use Rattle.trips_isa.specs.declared.block.Image.{Image}
use Rattle.ir_forms.specs.inside.FlatViews.{program_of}
use Rattle.c_compile.proofs.CutPrograms.{few_blocks}
use Rattle.c_compile.proofs.TriedPlans.{some_weaker}
use Rattle.c_compile_laws.specs.inside.Compiled.{IsCompiled}
use Rattle.c_compile.specs.Images.{IsImageOf}
use Rattle.c_compile.proofs.within.compile_within.Goals as goal

pub tried-requires : goal.tried-requires
tried-requires c =
    let l = c.in_ok-flat.ensures.ok in
    record { fits = l.fits; few = few_blocks c.args.text.now (program_of c.in_ok-flat.flat) l }

pub returns-in-Ok-clause-ok : goal.returns-in-Ok-clause-ok
returns-in-Ok-clause-ok c =
    let flat = program_of c.in_ok-flat.flat in
    some_weaker (λ (i : Image). IsCompiled flat c.args.placing 0 i)
    (λ (i : Image). IsImageOf c.args.text.now c.args.placing 1 i) c.in-Ok.tried.image
    (λ i h. record { some = omega arith; flat = flat; lowered = c.in_ok-flat.ensures.ok; compiled = h })
    c.in-Ok.ensures.ok
