use Rattle.std.proofs.Common.{◌^◌, cond, sym, ap, ◌∙◌, arith, lt-ltb, le-ltb}
use Rattle.std.proofs.lemmas.Nat.{one_shl}
use Rattle.hyper_trim.specs.inside.Sets as sets
use Rattle.hyper_trim.proofs.sets.bit.Goals as goal

pub returns-then-r-lt128 : goal.returns-then-r-lt128
unfolding sets.bit
returns-then-r-lt128 c =
    one_shl c.args.r 128 (omega arith)
    ∙ sym (ap (λ b. cond b (2 ^ c.args.r) 0) (lt-ltb c.args.r 128 (omega arith)))

pub returns-else-r-lt128 : goal.returns-else-r-lt128
unfolding sets.bit
returns-else-r-lt128 c = sym (ap (λ b. cond b (2 ^ c.args.r) 0) (le-ltb c.args.r 128 (omega arith)))
