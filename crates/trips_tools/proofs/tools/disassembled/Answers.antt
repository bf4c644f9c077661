use Rattle.std.proofs.lemmas.Result.{IfOk-weaker}
use Rattle.trips_tools.proofs.tools.disassembled.Goals as goal

pub returns-in-Ok : goal.returns-in-Ok
returns-in-Ok c = record {
  ok = IfOk-weaker c.printed.result _ _ (λ made h. h c.args.bytes.now c.in-Ok.ensures.ok)
      c.printed.ensures;
}
