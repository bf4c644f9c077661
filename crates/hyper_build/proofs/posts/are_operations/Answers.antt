use Rattle.std.proofs.Common.{◌≡◌, ap, ◌∙◌, arith, drop}
use Rattle.ir_forms.specs.inside.FlatViews.{code_of}
use Rattle.hyper_build.specs.inside.Legs as legs
use Rattle.hyper_build.proofs.posts.are_operations.Goals as goal

pub returns : goal.returns
returns c =
    let e : c.loop-at.at ≡ 0 = omega arith in
    c.loop-at.invariant.done ∙ ap (λ n. legs.are_operations (code_of (drop n c.args.stmts.now))) e
