use Rattle.std.proofs.Common.{◌≡◌, ◌++◌}
use Rattle.std.proofs.lemmas.Result.{on_ok_weaker}
use Rattle.byteorder.specs.Endian.{big_bytes}
use Rattle.grid_record.proofs.PieceFacts.{then_too}
use Rattle.grid_record.proofs.moment.put_counts.Goals as goal

pub returns : goal.returns
returns c =
    let n = c.args.counts in
    let one = big_bytes 8 n.cycles in
    let two = big_bytes 8 n.fetched in
    let three = big_bytes 8 n.committed in
    let four = big_bytes 8 n.flushed in
    record {
      ok = on_ok_weaker c.put_long-4.result (λ e.
          then_too c.args.out.now.items one (two ++ (three ++ four)) c.in_ok-put_long.ensures.ok
          (then_too c.put_long.new.out.items two (three ++ four) c.in_ok-put_long-2.ensures.ok
          (then_too c.put_long-2.new.out.items three four c.in_ok-put_long-3.ensures.ok e))) c.put_long-4.ensures.ok;
    }
