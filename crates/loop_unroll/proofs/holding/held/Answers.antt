use Rattle.std.proofs.Common.{◌≡◌, ◌-◌, suc, arith}
use Rattle.ir_forms.specs.inside.HyperViews.{items_of}
use Rattle.loop_unroll.proofs.HeldItems.{none_held, one_held}
use Rattle.loop_unroll.proofs.holding.held.Goals as goal

pub loop-register-init : goal.loop-register-init
loop-register-init c = none_held c.new-all.result (items_of c.args.items.now) c.new-all.ensures.value

pub loop-register-preserved : goal.loop-register-preserved
loop-register-preserved c =
    let l = c.loop-register-test.true in
    one_held (items_of c.hold.new.all) (items_of c.loop-register.all) (items_of c.args.items.now)
    (c.loop-register.register - 1) c.loop-register.register (omega (arith, l)) c.in_ok-hold.ensures
    c.loop-register.invariant
