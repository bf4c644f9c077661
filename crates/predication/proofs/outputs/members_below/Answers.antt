use Rattle.std.proofs.Common.{◌≡◌, ◌++◌, ◌-◌, suc, ℕ, List, ap, sym, ◌∙◌, arith}
use Rattle.std.proofs.lemmas.Bool.Decides.{nat_tests}
use Rattle.predication.specs.inside.Made.{members_below}
use Rattle.predication.proofs.OutputLemmas.{members_skipped, members_turn}
use Rattle.predication.proofs.outputs.members_below.Goals as goal

pub loop-register-init : goal.loop-register-init
loop-register-init c =
    let n = c.top_below-register.result in
    let m = c.args.count in
    let low = c.top_below-register.ensures.low in
    ap (λ (x : List ℕ). x ++ members_below c.args.found.now n) c.new-reads.ensures.value
    ∙ sym (members_skipped c.args.found.now (m - n) m n (omega (arith, low)) c.top_below-register.ensures.none)

pub loop-register-preserved : goal.loop-register-preserved
loop-register-preserved c =
    let r = c.loop-register.register - 1 in
    let t = c.loop-register-test.true in
    let up : suc r ≡ c.loop-register.register = grind (arith, nat_tests, t) in
    members_turn c.args.found.now r c.top_below-register-in-loop-register.result c.loop-register.reads
    c.push_member.new.to (members_below c.args.found.now c.args.count)
    c.top_below-register-in-loop-register.ensures.low c.top_below-register-in-loop-register.ensures.none
    c.in_ok-push_member.ensures
    (ap (λ (x : ℕ). c.loop-register.reads ++ members_below c.args.found.now x) up ∙ c.loop-register.invariant)
