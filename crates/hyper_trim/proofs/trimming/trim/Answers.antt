use Rattle.std.proofs.lemmas.Result.{IfOk-weaker}
use Rattle.ir_forms.specs.inside.HyperViews.{blocks_of}
use Rattle.hyper_narrow.specs.inside.NarrowedViews.{narrowed_blocks}
use Rattle.hyper_trim.specs.inside.Narrows.{Narrows}
use Rattle.hyper_trim.proofs.Programs.{narrows_behind}
use Rattle.hyper_trim.proofs.trimming.trim.Goals as goal

pub returns : goal.returns
returns c =
    let P = blocks_of c.args.program in
    let Q = blocks_of c.in_ok-program.program in
    IfOk-weaker c.dropped.result (λ q. Narrows Q (narrowed_blocks q))
    (λ q. Narrows P (narrowed_blocks q))
    (λ q h. narrows_behind P Q (narrowed_blocks q) c.in_ok-program.ensures h) c.dropped.ensures
