use Rattle.std.proofs.Common.{◌≡◌, ap, ◌∙◌, arith}
use Rattle.reg_assign.specs.inside.Live.{members_below, members}
use Rattle.reg_assign.specs.inside.Pass.{seen}
use Rattle.reg_assign.proofs.sets.members_of.Goals as goal

pub returns : goal.returns
unfolding members
returns c =
    c.loop-v.invariant ∙ ap (λ n. members_below n (seen c.args.set))
    (let e : c.loop-v.v ≡ 80 = omega arith in e)
