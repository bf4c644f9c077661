use Rattle.std.proofs.Common.{◌≡◌, map, sym, ap, ◌∙◌, subst, List, ℕ}
use Rattle.std.proofs.lemmas.Result.{IfOk-weaker}
use Rattle.ir_forms.specs.declared.hyper.HyperBlock.{HyperBlock}
use Rattle.ir_forms.specs.inside.HyperViews.{blocks_of, block_of}
use Rattle.hyper_narrow.specs.declared.narrowed.NarrowedProgram.{NarrowedProgram}
use Rattle.hyper_narrow.specs.inside.NarrowedCode.{whole}
use Rattle.hyper_narrow.specs.inside.NarrowedViews.{narrowed_blocks}
use Rattle.hyper_trim.specs.inside.Alive as spec
use Rattle.hyper_trim.specs.inside.Narrows.{Narrows}
use Rattle.hyper_trim.proofs.Narrowing.{whole_narrows}
use Rattle.hyper_trim.proofs.Shapes.{closed_narrows}
use Rattle.hyper_trim.proofs.trimming.dropped.Goals as goal

pub returns : goal.returns
returns c =
    let P = blocks_of c.args.program in
    let T = c.as_slice-4.result.now in
    let ret = c.union-ret.result in
    let closed = subst (λ (x : List HyperBlock). spec.IsClosed T ret (map block_of x)) c.as_slice-3.ensures.value
    (c.in_ok-is_closed.ensures c.if-not-branch.false) in
    subst (Narrows P) (sym (c.in_ok-blocks.ensures
    ∙ ap (λ (x : List ℕ). map (spec.narrow_block x ret) P) (c.as_slice-5.ensures.value
    ∙ sym c.as_slice-4.ensures.value)))
    (closed_narrows T ret P closed)

pub returns-then-not-branch : goal.returns-then-not-branch
returns-then-not-branch c =
    let P = blocks_of c.args.program in
    IfOk-weaker c.whole_program.result (λ (p : NarrowedProgram). narrowed_blocks p ≡ map whole P)
    (λ (p : NarrowedProgram). Narrows P (narrowed_blocks p))
    (λ p e. subst (Narrows P) (sym e) (whole_narrows P)) c.whole_program.ensures
