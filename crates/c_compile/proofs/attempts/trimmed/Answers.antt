use Rattle.std.proofs.Common.{List, subst, ap, ◌∙◌}
use Rattle.std.specs.Prelude.{IfOk}
use Rattle.ir_forms.specs.inside.FlatViews.{program_of}
use Rattle.ir_forms.specs.inside.HyperCode as hyper
use Rattle.ir_forms.specs.inside.HyperViews.{blocks_of}
use Rattle.hyper_narrow.specs.declared.narrowed.NarrowedProgram.{NarrowedProgram}
use Rattle.hyper_narrow.specs.inside.NarrowedViews.{narrowed_blocks}
use Rattle.loop_unroll.specs.inside.Unrolled.{unrolled}
use Rattle.hyper_trim.specs.inside.Narrows.{Narrows}
use Rattle.c_compile.proofs.TriedPlans.{built_low}
use Rattle.c_compile.proofs.attempts.trimmed.Goals as goal

pub unroll-requires : goal.unroll-requires
unroll-requires c =
    let g = c.args.assigned.now in
    let n = c.args.plan.now in
    record {
      few = built_low (program_of g.flat) g.live g.groups c.requires.fits c.requires.assigned c.requires.few n.cuts
          n.joins (blocks_of c.in_ok-built.built) c.in_ok-built.ensures.blocks;
    }

pub returns : goal.returns
returns c =
    subst
    (λ (P : List hyper.Block). IfOk c.trim.result (λ (left : NarrowedProgram). Narrows P (narrowed_blocks left)))
    (c.in_ok-program.ensures ∙ ap (unrolled c.args.times.now) c.in_ok-built.ensures.blocks) c.trim.ensures
