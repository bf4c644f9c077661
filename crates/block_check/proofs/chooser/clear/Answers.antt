use Rattle.std.proofs.Common.{◌≡◌, ◌<◌, Bool, true, false, nat_lt, length, refl, arith}
use Rattle.block_cases.specs.Cases.{bit}
use Rattle.block_check.proofs.Chains.{bit_past}
use Rattle.block_check.proofs.chooser.clear.Goals as goal

pub returns : goal.returns
returns c x = go (nat_lt x (length c.loop-mark.lead)) refl
  where
    go : (b : Bool) → nat_lt x (length c.loop-mark.lead) ≡ b → bit c.loop-mark.lead x ≡ false
    go true e = c.loop-mark.invariant x (let lt : x < length c.loop-mark.lead = grind arith in
        omega arith)
    go false e = bit_past c.loop-mark.lead x (grind arith)
