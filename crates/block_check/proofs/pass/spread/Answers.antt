use Rattle.std.proofs.Common.{◌≡◌, ◌<◌, ◌-◌, suc, length, arith, refl, sym, ◌∙◌}
use Rattle.std.proofs.lemmas.Option.{slice_get-get_or}
use Rattle.block_check.specs.inside.Pass.{tok_at}
use Rattle.block_check.proofs.Rounds.{spread_more}
use Rattle.block_check.proofs.Sparing.{spread_none}
use Rattle.block_check.proofs.pass.spread.Goals as goal

pub loop-x-preserved : goal.loop-x-preserved
loop-x-preserved c = record {
  within = omega arith;
  done = λ q lt.
      let below : c.loop-x.x - 1 < length c.args.nodes.now = omega arith in
      let next : suc (c.loop-x.x - 1) ≡ c.loop-x.x = omega arith in
      spread_more c.args.nodes.now c.loop-x.x (c.loop-x.x - 1) _ q (tok_at c.args.toks.now) _ _ _
      (slice_get-get_or c.args.nodes.now (c.loop-x.x - 1) _ below) refl next
      (c.loop-x.invariant.done q lt) (c.offer.ensures q lt);
}

pub loop-x-init : goal.loop-x-init
loop-x-init c = record {
  within = c.requires.used;
  done = λ q lt. c.loop-spot.invariant q (omega arith)
      ∙ sym (spread_none c.args.nodes.now c.args.used c.args.toks.now q c.requires.rest);
}
