use Rattle.std.proofs.Common.{rules}
use Rattle.flow_guards.specs.inside.Unguards.{Unguards}
use Rattle.flow_fold.specs.inside.Replaces.{Replaces}
use Rattle.flow_ease.proofs.Unguarding.{eases_unguarded}
use Rattle.flow_ease.proofs.Folding.{eases_then_replaced}
use Rattle.flow_ease.proofs.easing.ease.Goals as goal

-- src/easing.rt:13:1
pub returns : goal.returns
returns c =
    let u : Unguards c.args.block c.in_ok-loose.loose = search rules in
    let d : Replaces c.in_ok-loose.loose c.in_ok-shared.shared = search rules in
    let l : Replaces c.in_ok-shared.shared c.in_ok-lean.lean = search rules in
    let f : Replaces c.in_ok-lean.lean c.in_ok-folded.folded = search rules in
    let w : Replaces c.in_ok-folded.folded c.in_ok-few.few = search rules in
    let t : Replaces c.in_ok-few.few c.in_ok-strided.strided = search rules in
    let s : Replaces c.in_ok-strided.strided c.in_ok-swept.swept = search rules in
    eases_then_replaced c.args.block c.in_ok-strided.strided c.in_ok-swept.swept
    (eases_then_replaced c.args.block c.in_ok-few.few c.in_ok-strided.strided
    (eases_then_replaced c.args.block c.in_ok-folded.folded c.in_ok-few.few
    (eases_then_replaced c.args.block c.in_ok-lean.lean c.in_ok-folded.folded
    (eases_then_replaced c.args.block c.in_ok-shared.shared c.in_ok-lean.lean
    (eases_then_replaced c.args.block c.in_ok-loose.loose c.in_ok-shared.shared
    (eases_unguarded c.args.block c.in_ok-loose.loose u) d) l) f) w) t) s
