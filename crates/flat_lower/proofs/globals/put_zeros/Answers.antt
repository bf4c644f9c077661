use Rattle.std.proofs.Common.{◌≡◌, ◌-◌, ◌++◌, replicate, sym, ap, ◌∙◌, append-nil, arith}
use Rattle.flat_lower.proofs.EmitImages.{zero_more}
use Rattle.flat_lower.proofs.globals.put_zeros.Goals as goal

pub loop-i-init : goal.loop-i-init
loop-i-init c =
    let e : c.args.count - 0 ≡ c.args.count = omega arith in ap (λ n. c.args.bytes.now ++ replicate n 0) e

pub loop-i-preserved : goal.loop-i-preserved
loop-i-preserved c =
    zero_more c.args.bytes.now c.loop-i.bytes c.push.new.self c.loop-i._i c.args.count
    (omega arith) c.in_ok-push.ensures.ok c.loop-i.invariant

pub returns : goal.returns
returns c =
    let e : c.args.count - c.loop-i._i ≡ 0 = omega arith in
    sym (append-nil c.loop-i.bytes) ∙ ap (λ n. c.loop-i.bytes ++ replicate n 0) (sym e)
    ∙ c.loop-i.invariant
