use Rattle.std.proofs.Common.{sym, ◌∙◌, true≢false}
use Rattle.block_check.proofs.judge.first_wanted.Goals as goal

pub loop-q-init : goal.loop-q-init
loop-q-init c p lt e = absurd (true≢false (sym e ∙ c.requires.low p lt))
