use Rattle.std.proofs.Common.{◌≡◌, ◌-◌, ap, sym, ◌∙◌, take, arith}
use Rattle.commit_flush_spec.specs.Older.{after_all, committed}
use Rattle.lsq_order.specs.inside.Taking.{taken}
use Rattle.commit_flush.proofs.GapFacts.{memory_gap}
use Rattle.commit_flush.proofs.LoadFacts.{taken_more}
use Rattle.commit_flush.proofs.LoadTold.{frame_there}
use Rattle.commit_flush.proofs.window.Window.seek_older.Goals as goal

pub loop-end-init : goal.loop-end-init
loop-end-init c =
    let w = c.args.self.now.window in
    record {
      sound = c.requires.sound;
      within = c.storing_before-end.ensures.within;
      taken = ap (taken c.args.sought) (sym (memory_gap w.frames (committed w.state) c.storing_before-end.result
          c.args.age c.storing_before-end.ensures.within c.storing_before-end.ensures.none));
    }

pub loop-end-preserved : goal.loop-end-preserved
loop-end-preserved c =
    let w = c.args.self.now.window in
    let o = committed w.state in
    let older = c.loop-end.end - 1 in
    let below = c.loop-end.invariant.within in
    let t = frame_there w.frames older (omega (arith, below)) in
    let next = c.storing_before-end-in-loop-end.ensures.within in
    record {
      sound = c.seek-sought.ensures.sound;
      within = omega (arith, below, next);
      taken = ap (taken c.seek-sought.result)
          (sym (memory_gap w.frames o c.storing_before-end-in-loop-end.result older
          next c.storing_before-end-in-loop-end.ensures.none))
          ∙ taken_more w.frames o c.loop-end.sought c.seek-sought.result older c.loop-end.end t.0 t.1 (omega arith)
          (c.seek-sought.ensures.taken t.0 (after_all (take older w.frames) o).memory t.1)
          ∙ c.loop-end.invariant.taken;
    }

pub returns-clause-taken : goal.returns-clause-taken
returns-clause-taken c =
    let w = c.args.self.now.window in
    let o = committed w.state in
    let none : 0 ≡ c.loop-end.end = omega arith in
    ap (λ n. taken c.loop-end.sought (after_all (take n w.frames) o).memory) none ∙ c.loop-end.invariant.taken
