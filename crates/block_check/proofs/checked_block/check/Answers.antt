use Rattle.std.proofs.Common.{true≢false, sym, refl}
use Rattle.block_check.proofs.Lowest.{found_good, found_checked, found_lowest}
use Rattle.block_check.proofs.checked_block.check.Goals as goal

pub invariant_of-result : goal.invariant_of-result
invariant_of-result c = found_checked c.args.block c.requires.fits c.in-Ok.ensures.good

pub returns-in-Ok-clause-ok : goal.returns-in-Ok-clause-ok
returns-in-Ok-clause-ok c = (
  λ _. found_good c.args.block c.requires.fits c.in-Ok.ensures.good,
  λ
      _. refl,
)

pub returns-in-Ok-clause-checked : goal.returns-in-Ok-clause-checked
returns-in-Ok-clause-checked c = found_checked c.args.block c.requires.fits c.in-Ok.ensures.good

pub returns-in-Err-clause-ok : goal.returns-in-Err-clause-ok
returns-in-Err-clause-ok c = (
  λ e. absurd (true≢false (sym e)),
  λ g. absurd (g c.in-Err.fault (found_lowest c.args.block c.requires.fits c.in-Err.fault
      c.in-Err.ensures.fault).holds),
)

pub returns-in-Ok-clause-good : goal.returns-in-Ok-clause-good
returns-in-Ok-clause-good c = (λ _. c.in-Ok.ensures.good, λ _. refl)

pub returns-in-Ok-clause-one_token : goal.returns-in-Ok-clause-one_token
returns-in-Ok-clause-one_token c = (found_checked c.args.block c.requires.fits
    c.in-Ok.ensures.good).from_entry

pub returns-in-Err-clause-good : goal.returns-in-Err-clause-good
returns-in-Err-clause-good c = (
  λ e. absurd (true≢false (sym e)),
  λ g. absurd (found_good c.args.block c.requires.fits g c.in-Err.fault (found_lowest c.args.block
      c.requires.fits c.in-Err.fault c.in-Err.ensures.fault).holds),
)

pub returns-in-Err-clause-fault : goal.returns-in-Err-clause-fault
returns-in-Err-clause-fault c = found_lowest c.args.block c.requires.fits c.in-Err.fault
    c.in-Err.ensures.fault
