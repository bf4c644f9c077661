use Rattle.std.proofs.Common.{sym, ◌∙◌}
use Rattle.target_file.specs.Bare.{bare}
use Rattle.target_file.proofs.Turns.{written, all_written}
use Rattle.target_file.proofs.stripping.bare.Goals as goal

pub loop-rest-preserved : goal.loop-rest-preserved
loop-rest-preserved c =
    written c.loop-rest.out.items c.put_line.new.out.items c.loop-rest.rest.now c.first_line-line.result.tells.now
    c.first_line-line.result.ended c.first_line-line.result.rest.now _ c.first_line-line.ensures
    c.in_ok-put_line.ensures c.loop-rest.invariant

pub returns : goal.returns
returns c =
    all_written c.loop-rest.out.items c.loop-rest.rest.now (bare c.args.text.now)
    (sym c.is_empty.ensures ∙ c.loop-rest-test.false) c.loop-rest.invariant
