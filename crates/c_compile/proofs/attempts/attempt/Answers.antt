use Rattle.std.proofs.Common.{◌≡◌, ℕ, List, subst, sym, ap, ◌∙◌}
use Rattle.std.specs.List.{All}
use Rattle.std.specs.Prelude.{Result, IfOk, ◌-◌}
use Rattle.std.proofs.lemmas.Result.{IfOk-weaker}
use Rattle.trips_isa.specs.declared.block.Image.{Image}
use Rattle.trips_isa.specs.Images.{FitsImage}
use Rattle.block_cases.specs.Good.{GoodBlock}
use Rattle.ir_forms.specs.inside.FlatViews.{program_of}
use Rattle.hyper_narrow.specs.inside.NarrowedViews.{narrowed_blocks}
use Rattle.c_compile_layout.specs.inside.Emitted.{image_of}
use Rattle.hyper_build.specs.inside.FunctionParts.{entries_of}
use Rattle.hyper_build.specs.inside.Laws.{plan_of}
use Rattle.c_compile.specs.inside.Outlines.{IsOutlined}
use Rattle.c_compile.specs.declared.attempts.Lacking.{Lacking}
use Rattle.c_compile.proofs.AskedTurns.{asks_at_most}
use Rattle.c_compile.proofs.TriedPlans.{followed, low, checked, is_outlined}
use Rattle.c_compile.proofs.attempts.attempt.Goals as goal

pub machine_blocks-requires : goal.machine_blocks-requires
machine_blocks-requires c =
    let g = c.args.assigned.now in
    record {
      followed = followed (program_of g.flat) g.live g.groups c.requires.fits c.requires.assigned c.requires.few
          c.args.plan.now.cuts c.args.plan.now.joins c.args.times.now
          (narrowed_blocks c.args.program.now) c.requires.narrows;
      few = low (program_of g.flat) g.live g.groups c.requires.fits c.requires.assigned c.requires.few
          c.args.plan.now.cuts c.args.plan.now.joins c.args.times.now
          (narrowed_blocks c.args.program.now) c.requires.narrows;
    }

pub image_or_bad-requires : goal.image_or_bad-requires
image_or_bad-requires c =
    let g = c.args.assigned.now in
    let us = c.in-Ok.blocks in
    let ready = checked (program_of g.flat) g.live g.groups c.requires.fits c.requires.assigned c.requires.few
    c.args.plan.now.cuts c.args.plan.now.joins c.args.times.now (narrowed_blocks c.args.program.now)
    c.requires.narrows c.args.placing us c.in-Ok.ensures.ok in
    record {
      sizes = ready.sizes;
      few = ready.few;
      fits = subst (λ (bs : List ℕ). FitsImage (image_of us bs)) (sym c.as_slice.ensures.value) ready.fits;
    }

pub returns-in-Ok : goal.returns-in-Ok
returns-in-Ok c =
    let g = c.args.assigned.now in
    let us = c.in-Ok.blocks in
    let now = c.as_slice.result.now in
    let e = c.as_slice.ensures.value in
    let Good : Image → Type 0 = λ i. (i ≡ image_of us now) × All GoodBlock (image_of us now).blocks in
    let Made : Image → Type 0 = λ i. IsOutlined (program_of g.flat) c.args.placing (c.args.copies - 1) i
    (entries_of (plan_of c.args.plan.now.cuts c.args.plan.now.joins g.groups) (program_of g.flat)) in
    IfOk-weaker c.image_or_bad.result (λ (o : Result Image Lacking). IfOk o Good)
    (λ (o : Result Image Lacking). IfOk o Made)
    (λ (o : Result Image Lacking) h. IfOk-weaker o Good Made
    (λ i h. is_outlined (program_of g.flat) g.live g.groups c.requires.fits c.requires.assigned c.requires.few
    c.args.plan.now.cuts c.args.plan.now.joins c.args.times.now (narrowed_blocks c.args.program.now)
    c.requires.narrows c.args.placing us c.in-Ok.ensures.ok c.requires.keeps (c.args.copies - 1)
    (asks_at_most c.args.times.now c.args.copies c.requires.low) i
    (h.0 ∙ ap (λ (bs : List ℕ). image_of us bs) e)
    (subst (λ (bs : List ℕ). All GoodBlock (image_of us bs).blocks) e h.1)) h)
    c.image_or_bad.ensures
