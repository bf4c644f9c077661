use Rattle.std.proofs.Common.{arith, ap, ◌∙◌, unwrap_or}
use Rattle.block_check.proofs.Chunks.{found_within}
use Rattle.block_check.proofs.checked_image.CheckedImage.block_at.Goals as goal

pub returns-clause-value : goal.returns-clause-value
returns-clause-value c = c.unwrap_or.ensures ∙ ap (λ o. unwrap_or o 0) c.starting_at.ensures.value
    ∙ c.capped.ensures c.args.self.now.blocks c.starting_at.ensures.image.fits.total

pub returns-clause-within : goal.returns-clause-within
returns-clause-within c =
    found_within c.args.self.now.blocks c.capped.result c.unwrap_or.result c.starting_at.result
    c.starting_at.ensures.image.fits.some c.starting_at.ensures.value c.unwrap_or.ensures
