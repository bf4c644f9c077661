use Rattle.std.proofs.Common.{ℕ, List, map, ap, ◌∙◌}
use Rattle.ir_forms.specs.inside.FlatCode.{Function, Program}
use Rattle.flat_lower.specs.inside.TreeViews.{func_of}
use Rattle.flat_lower.specs.inside.Statements.{lowered, lowered_from, globals_image}
use Rattle.flat_lower.proofs.lowering.flat_of.Goals as goal

pub returns : goal.returns
unfolding lowered
returns c =
    let P = c.args.program.now in
    let g = c.as_slice-globals.ensures.value in
    let f = c.as_slice-2.ensures.value in
    let hf = c.in_ok-functions.ensures
    ∙ ap (λ x. lowered_from x P.main 0 (map func_of c.as_slice-2.result.now)) g
    ∙ ap (λ x. lowered_from P.globals P.main 0 (map func_of x)) f in
    let hb = c.in_ok-bytes.ensures ∙ ap globals_image g in
    let program : List Function → List ℕ → Program = λ fs bs. record { functions = fs; bytes = bs; main = P.main } in
    record {
      ok = ap (λ fs. program fs c.in_ok-bytes.bytes) hf
          ∙ ap (program (lowered_from P.globals P.main 0 (map func_of P.functions))) hb;
    }
