use Rattle.std.proofs.Common.{◌+◌, drop, get_or, [], refl, sym, subst, arith}
use Rattle.std.proofs.lemmas.List.{at_drop_more, at_drop_all}
use Rattle.grid_log.specs.Events.{why_of}
use Rattle.grid_log.specs.Logs.{Logged}
use Rattle.grid_log.specs.inside.Telling.{flushed_by}
use Rattle.grid_log.proofs.Logging.{logged_none}
use Rattle.grid_log.proofs.Flushing.{one_flushed}
use Rattle.grid_log.proofs.flushes.tell_flushes.Goals as goal

pub loop-n-init : goal.loop-n-init
loop-n-init c = record { told = λ x told. told }

pub loop-n-preserved : goal.loop-n-preserved
loop-n-preserved c =
    let why = why_of c.args.cause in
    let ns = c.args.before.now in
    let n = c.loop-n.n in
    record {
      told = λ x rest. c.loop-n.invariant.told x
          (subst (λ es. Logged c.loop-n.log es x) (sym (at_drop_more (flushed_by why) ns n 0 (omega arith)))
          (one_flushed why (get_or ns n 0) (drop (n + 1) ns) c.loop-n.log c.keep.new.self x c.keep.ensures rest));
    }

pub returns : goal.returns
returns c =
    c.loop-n.invariant.told c.loop-n.log
    (subst (λ es. Logged c.loop-n.log es c.loop-n.log)
    (sym (at_drop_all (flushed_by (why_of c.args.cause)) c.args.before.now c.loop-n.n (omega arith)))
    (logged_none c.loop-n.log [] (λ s. refl)))
