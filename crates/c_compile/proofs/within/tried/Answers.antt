use Rattle.std.proofs.Common.{subst}
use Rattle.std.specs.Prelude.{IfSome}
use Rattle.std.proofs.lemmas.Result.{IfOk-weaker}
use Rattle.trips_isa.specs.declared.block.Image.{Image}
use Rattle.ir_forms.specs.declared.flat.FlatProgram.{FlatProgram}
use Rattle.ir_forms.specs.inside.FlatViews.{program_of}
use Rattle.c_compile.specs.declared.attempts.Tried.{Tried}
use Rattle.c_compile_laws.specs.inside.Compiled.{IsCompiled}
use Rattle.c_compile.proofs.CutPrograms.{are_assigned, fits_given, few_given}
use Rattle.c_compile.proofs.within.tried.Goals as goal

pub image_within-requires : goal.image_within-requires
image_within-requires c =
    let g = c.in_ok-assigned.assigned in
    let e = c.in_ok-assigned.ensures.flat in
    record {
      fits = fits_given c.args.flat g.flat e c.requires.fits;
      assigned = are_assigned c.args.flat g.flat g.live g.groups e c.requires.fits c.in_ok-assigned.ensures.kept
          c.in_ok-assigned.ensures.cut c.in_ok-assigned.ensures.few;
      few = few_given c.args.flat g.flat e c.requires.few;
      keeps = c.in_ok-assigned.ensures.meaning;
    }

pub returns-clause-ok : goal.returns-clause-ok
returns-clause-ok c =
    let g = c.in_ok-assigned.assigned in
    let p = c.args.placing in
    IfOk-weaker c.image_within.result
    (λ (t : Tried). IfSome t.image (λ (i : Image). IsCompiled (program_of g.flat) p 0 i))
    (λ (t : Tried). IfSome t.image (λ (i : Image). IsCompiled (program_of c.args.flat) p 0 i))
    (λ t h. subst (λ (f : FlatProgram). IfSome t.image (λ (i : Image). IsCompiled (program_of f) p 0 i))
    c.in_ok-assigned.ensures.flat h)
    c.image_within.ensures.ok
