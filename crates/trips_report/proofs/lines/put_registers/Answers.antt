use Rattle.std.proofs.Common.{◌∙◌, ◌++◌, ap, arith}
use Rattle.target_asm_spec.proofs.Numbered.{numbered_step}
use Rattle.trips_report.proofs.ListedTexts.{numbered_all}
use Rattle.trips_report.specs.Runs.{register_line}
use Rattle.trips_report.proofs.lines.put_registers.Goals as goal

pub loop-r-preserved : goal.loop-r-preserved
loop-r-preserved c = numbered_step register_line c.loop-r.r c.args.arch.now.state.registers 0
    c.args.out.now.items c.loop-r.out.items _ (omega (arith, c.loop-r-test.true, c.requires.count))
    c.loop-r.invariant
    (c.in_ok-put_register.ensures.ok
    ∙ ap (λ w. c.loop-r.out.items ++ register_line c.loop-r.r w) c.register.ensures.value)

pub returns : goal.returns
returns c = record {
  ok = numbered_all register_line c.loop-r.r c.args.arch.now.state.registers c.args.out.now.items
      c.loop-r.out.items (omega (arith, c.loop-r-test.false, c.requires.count)) c.loop-r.invariant;
}
