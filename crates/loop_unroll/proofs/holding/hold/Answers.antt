use Rattle.std.proofs.Common.{cond, refl, sym, ap, ◌∙◌}
use Rattle.trips_isa.specs.declared.op.Op.TheVariants.{Mov}
use Rattle.ir_forms.specs.declared.hyper.HyperItem.TheVariants as variant
use Rattle.ir_forms.specs.declared.hyper.Source.TheVariants.{Const, Reg}
use Rattle.ir_forms.specs.inside.HyperCode.{Set}
use Rattle.ir_forms.specs.inside.HyperViews.{items_of}
use Rattle.loop_unroll.specs.inside.Unrolled.{before}
use Rattle.loop_unroll.proofs.HeldItems.{put_held}
use Rattle.loop_unroll.proofs.holding.hold.Goals as goal

pub returns-in_ok-push : goal.returns-in_ok-push
returns-in_ok-push c = λ k.
    put_held c.args.all.now c.push.new.self (variant.Set c.args.register Mov (Reg c.args.register) (Const 0))
    c.args.register k refl c.in_ok-push.ensures.ok
    ∙ ap (λ b. before (items_of c.args.all.now) (cond b (Set c.args.register Mov (Reg c.args.register) (Const 0) k) k))
    (sym c.if-sets.true ∙ c.sets.ensures)
