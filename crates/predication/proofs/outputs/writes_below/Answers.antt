use Rattle.std.proofs.Common.{◌≡◌, ◌++◌, ◌-◌, ◌<◌, ◌≤◌, suc, ℕ, List, false, ap, sym, subst, ◌∙◌, arith}
use Rattle.std.proofs.lemmas.Bool.Decides.{nat_tests}
use Rattle.ir_forms.specs.declared.flow.FlowWrite.{FlowWrite}
use Rattle.predication.specs.inside.Environments.{member}
use Rattle.predication.specs.inside.Emits.{env_of}
use Rattle.predication.specs.inside.Converted.{among, writes_below}
use Rattle.predication.proofs.OutputLemmas.{writes_among, writes_turn}
use Rattle.predication.proofs.outputs.writes_below.Goals as goal

pub loop-register-init : goal.loop-register-init
loop-register-init c =
    let n = c.top_below-register.result in
    let m = c.args.count in
    let sets = c.args.names.now.sets in
    let env = env_of c.args.names.now.entries in
    let none = subst (λ (rs : List ℕ). (r : ℕ) → n ≤ r → r < m → member r rs ≡ false) c.as_slice.ensures.value
    c.top_below-register.ensures.none in
    ap (λ (x : List FlowWrite). x ++ writes_below env (among c.args.lasting sets) n) c.new-writes.ensures.value
    ∙ sym (writes_among c.args.lasting env sets m n c.top_below-register.ensures.low none)

pub loop-register-preserved : goal.loop-register-preserved
loop-register-preserved c =
    let r = c.loop-register.register - 1 in
    let n = c.top_below-register-in-loop-register.result in
    let t = c.loop-register-test.true in
    let up : suc r ≡ c.loop-register.register = grind (arith, nat_tests, t) in
    let sets = c.args.names.now.sets in
    let env = env_of c.args.names.now.entries in
    let none = subst (λ (rs : List ℕ). (q : ℕ) → n ≤ q → q < r → member q rs ≡ false)
    c.as_slice-in-loop-register.ensures.value c.top_below-register-in-loop-register.ensures.none in
    writes_turn c.args.lasting env sets r n c.loop-register.writes c.push_write.new.to
    (writes_below env (among c.args.lasting sets) c.args.count) c.top_below-register-in-loop-register.ensures.low none
    c.in_ok-push_write.ensures
    (ap (λ (x : ℕ). c.loop-register.writes ++ writes_below env (among c.args.lasting sets) x) up
    ∙ c.loop-register.invariant)
