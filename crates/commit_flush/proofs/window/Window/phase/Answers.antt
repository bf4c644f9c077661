use Rattle.std.proofs.Common.{arith}
use Rattle.commit_flush.proofs.SeenFacts.{eight}
use Rattle.commit_flush.proofs.PhaseFacts.{phase_found, phase_block, phase_past, phase_runs}
use Rattle.commit_flush.proofs.window.Window.phase.Goals as goal

pub index-requires : goal.index-requires
index-requires c = omega (arith, eight c.self.invariant.sound)

pub returns-then-frame-lt8 : goal.returns-then-frame-lt8
returns-then-frame-lt8 c = record {
  found = phase_found c.self.invariant.sound _ c.self.view_is c.args.frame c.index.result.now c.if-frame-lt8.true
      c.index.ensures;
  block = phase_block c.self.invariant.sound _ c.self.view_is c.args.frame c.index.result.now c.if-frame-lt8.true
      c.index.ensures;
  runnable = λ f e. phase_runs c.self.invariant.sound _ c.self.view_is c.args.frame f e;
}

pub returns-else-frame-lt8-clause-found : goal.returns-else-frame-lt8-clause-found
returns-else-frame-lt8-clause-found c = phase_past c.self.invariant.sound _ c.self.view_is c.args.frame
    c.if-frame-lt8.false

pub returns-else-frame-lt8-clause-runnable : goal.returns-else-frame-lt8-clause-runnable
returns-else-frame-lt8-clause-runnable c = λ f e. phase_runs c.self.invariant.sound _ c.self.view_is c.args.frame f e
