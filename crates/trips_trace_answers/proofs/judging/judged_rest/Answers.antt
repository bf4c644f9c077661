use Rattle.std.proofs.Common.{ℕ, ◌<◌, ◌++◌, length, take, refl, ◌∙◌, arith}
use Rattle.std.proofs.lemmas.Grind.{common_steps}
use Rattle.trips_outside.specs.Outside.{Rose}
use Rattle.trips_outside.proofs.Told.{read_on}
use Rattle.trips_trace_answers.proofs.Pieces.{behind_more, ended, stopped, not_both}
use Rattle.trips_trace_answers.proofs.judging.judged_rest.Goals as goal

pub returns-then-count-eq0-clause-judged : goal.returns-then-count-eq0-clause-judged
returns-then-count-eq0-clause-judged g c =
    let some : 0 < length c.read.new.into = grind (arith, common_steps) in
    let behind = c.loop-pieces.invariant.so_far in
    ended c.args.verifier.now c.loop-pieces.verifier (g.F.Files.ahead c.args.files.now)
    (g.F.Files.ahead c.loop-pieces.files) (g.F.Files.ahead c.read.new.self)
    (Rose (g.F.Files.faults c.args.files.now) (g.F.Files.faults c.read.new.self)) c.read.new.into behind.0
    c.in-Ok.count c.last.result behind.1 c.in-Ok.ensures.bytes c.if-count-eq0.true some behind.2 c.last.ensures

pub returns-in-Err-clause-judged : goal.returns-in-Err-clause-judged
returns-in-Err-clause-judged g c =
    let behind = c.loop-pieces.invariant.so_far in
    let piece = take c.in-Ok.count c.read.new.into in
    stopped c.args.verifier.now c.feed.new.self (g.F.Files.ahead c.args.files.now) (g.F.Files.ahead c.read.new.self)
    (Unit {0}) (behind.0 ++ piece) c.in-Err.fault
    (read_on (g.F.Files.ahead c.args.files.now) (g.F.Files.ahead c.loop-pieces.files)
    (g.F.Files.ahead c.read.new.self) behind.0 (behind.0 ++ piece) c.read.new.into c.in-Ok.count behind.1
    c.in-Ok.ensures.bytes refl)
    (behind_more c.args.verifier.now c.loop-pieces.verifier c.feed.new.self behind.0 piece c.feed.ensures.completes
    c.feed.ensures.faults behind.2) ((c.feed.ensures.answered c.in-Err.fault).1 c.in-Err.is)

pub loop-pieces-preserved : goal.loop-pieces-preserved
loop-pieces-preserved g c =
    let behind = c.loop-pieces.invariant.so_far in
    let piece = take c.in-Ok.count c.read.new.into in
    record {
      so_far = (
        behind.0 ++ piece,
        read_on (g.F.Files.ahead c.args.files.now) (g.F.Files.ahead c.loop-pieces.files)
            (g.F.Files.ahead c.read.new.self) behind.0 (behind.0 ++ piece) c.read.new.into c.in-Ok.count behind.1
            c.in-Ok.ensures.bytes refl,
        behind_more c.args.verifier.now c.loop-pieces.verifier c.feed.new.self behind.0 piece
            c.feed.ensures.completes c.feed.ensures.faults behind.2,
      );
      fresh = λ f answered. not_both c.feed.result c.in_default-feed.field-0 f c.in_default-feed.is
          ((c.feed.ensures.answered f).0 answered);
      kept = c.read.ensures.kept ∙ c.loop-pieces.invariant.kept;
      later = omega (arith, c.loop-pieces.invariant.later, c.read.ensures.cause.later);
    }
