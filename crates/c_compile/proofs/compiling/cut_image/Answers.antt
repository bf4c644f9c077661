use Rattle.std.proofs.Common.{◌≡◌, ◌-◌, subst, sym, ap, ◌∙◌, List, ℕ}
use Rattle.ir_forms.specs.inside.FlatViews.{program_of}
use Rattle.c_compile_layout.specs.Emitted.{IsGoodImage}
use Rattle.c_compile_layout.specs.inside.Emitted.{image_of}
use Rattle.c_compile.specs.inside.Outlines.{IsOutlined}
use Rattle.c_compile.proofs.CutPrograms.{few_chunks, at_most_128, good, is_outlined}
use Rattle.c_compile.proofs.compiling.cut_image.Goals as goal

pub checked_image-requires : goal.checked_image-requires
checked_image-requires c =
    let g = c.args.assigned.now in
    let F = program_of g.flat in
    let p = c.args.placing in
    let us = c.in_ok-blocks.blocks in
    record {
      sizes = at_most_128 F g.live g.groups c.requires.fits c.requires.assigned c.requires.few p us
          c.in_ok-blocks.ensures;
      few = few_chunks F g.live g.groups c.requires.fits c.requires.assigned c.requires.few p us
          c.in_ok-blocks.ensures;
      good = subst (λ (bs : List ℕ). IsGoodImage (image_of us bs)) (sym c.as_slice.ensures.value)
          (good F g.live g.groups c.requires.fits c.requires.assigned c.requires.few p us
          c.in_ok-blocks.ensures);
    }

pub returns : goal.returns
returns c =
    let g = c.args.assigned.now in
    let F = program_of g.flat in
    let p = c.args.placing in
    let us = c.in_ok-blocks.blocks in
    subst (λ (entries : List ℕ). IsOutlined F p (c.args.copies - 1) c.in_ok-image.image entries)
    (sym c.in_ok-entries.ensures)
    (is_outlined F g.live g.groups c.requires.fits c.requires.assigned c.requires.few p us
    c.in_ok-blocks.ensures c.requires.keeps (c.args.copies - 1) c.in_ok-image.image
    (c.in_ok-image.ensures ∙ ap (λ (bs : List ℕ). image_of us bs) c.as_slice.ensures.value))
