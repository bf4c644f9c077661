use Rattle.std.proofs.Common.{Option, sym, ap, ◌∙◌, []}
use Rattle.c_tree.specs.declared.Callee.TheVariants.{Func}
use Rattle.c_meaning_spec.specs.declared.Fault.{Fault}
use Rattle.c_meaning_spec.specs.State.{State}
use Rattle.c_meaning_spec.specs.Call.{called}
use Rattle.c_meaning_spec.specs.Eval.{Outcome, start, outcome, fault}
use Rattle.c_meaning_spec.specs.Telling.{telling, told}
use Rattle.c_meaning_spec.specs.inside.TellingLaws.{run_told}
use Rattle.c_meaning_spec.proofs.Tellings.{outcome-is-told, fault-is-told}
use Rattle.c_meaning.specs.Answer.{answer}
use Rattle.c_meaning.proofs.evaluation.evaluate.Goals as goal

pub returns : goal.returns
unfolding told
returns c =
    let P = c.args.program.now in let input = c.args.input.now in let n = c.args.n in let first = start P input n in
    record {
      ok = c.in_ok-outcome.ensures (called (telling P) P (Func P.main) [] first)
          (ap (λ (s : State). called (telling P) P (Func P.main) [] s) (sym c.in_ok-store.ensures))
          ∙ (ap (λ (f : Option Fault). answer f (told P input n) (outcome n (run_told P input n)))
          (fault-is-told P input n)
          ∙ ap (λ (o : Outcome). answer (fault P input n) (told P input n) o) (outcome-is-told P input n));
    }
