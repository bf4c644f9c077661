use Rattle.std.proofs.Common.{subst, ◌-◌}
use Rattle.std.proofs.lemmas.Result.{IfOk-weaker}
use Rattle.ir_forms.specs.declared.flat.FlatProgram.{FlatProgram}
use Rattle.ir_forms.specs.inside.FlatViews.{program_of}
use Rattle.c_compile.specs.declared.listed.Listed.{Listed}
use Rattle.c_compile.specs.inside.Outlines.{IsOutlined}
use Rattle.c_compile.proofs.CutPrograms.{are_assigned, fits_given, few_given}
use Rattle.c_compile.proofs.compiling.compiled.Goals as goal

pub assigned_image-requires : goal.assigned_image-requires
assigned_image-requires c =
    let g = c.in_ok-assigned.assigned in
    let e = c.in_ok-assigned.ensures.flat in
    record {
      fits = fits_given c.args.flat g.flat e c.requires.fits;
      assigned = are_assigned c.args.flat g.flat g.live g.groups e c.requires.fits c.in_ok-assigned.ensures.kept
          c.in_ok-assigned.ensures.cut c.in_ok-assigned.ensures.few;
      few = few_given c.args.flat g.flat e c.requires.few;
      keeps = c.in_ok-assigned.ensures.meaning;
      some = c.requires.some;
    }

pub returns : goal.returns
returns c =
    let g = c.in_ok-assigned.assigned in
    let p = c.args.placing in
    IfOk-weaker c.assigned_image.result
    (λ (l : Listed). IsOutlined (program_of g.flat) p (c.args.copies - 1) l.image l.entries)
    (λ (l : Listed). IsOutlined (program_of c.args.flat) p (c.args.copies - 1) l.image l.entries)
    (λ l h. subst (λ (f : FlatProgram). IsOutlined (program_of f) p (c.args.copies - 1) l.image l.entries)
    c.in_ok-assigned.ensures.flat h)
    c.assigned_image.ensures
