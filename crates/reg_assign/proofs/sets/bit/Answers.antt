use Rattle.std.proofs.Common.{◌^◌, cond, sym, ap, ◌∙◌, arith, lt-ltb, le-ltb}
use Rattle.std.proofs.lemmas.Nat.{one_shl}
use Rattle.reg_assign.specs.inside.Pass as pass
use Rattle.reg_assign.proofs.sets.bit.Goals as goal

pub returns-then-v-lt80 : goal.returns-then-v-lt80
unfolding pass.bit
returns-then-v-lt80 c =
    one_shl c.args.v 128 (omega arith)
    ∙ sym (ap (λ b. cond b (2 ^ c.args.v) 0) (lt-ltb c.args.v 80 (omega arith)))

pub returns-else-v-lt80 : goal.returns-else-v-lt80
unfolding pass.bit
returns-else-v-lt80 c = sym (ap (λ b. cond b (2 ^ c.args.v) 0) (le-ltb c.args.v 80 (omega arith)))
