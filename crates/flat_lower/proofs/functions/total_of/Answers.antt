use Rattle.std.proofs.Common.{None}
use Rattle.std.proofs.Common.{◌≡◌, ◌+◌, drop, get_or, ap, ◌∙◌, arith}
use Rattle.c_meaning_spec.specs.Call as call
use Rattle.c_tree.specs.declared.Kind.TheVariants.{Char}
use Rattle.c_tree.specs.declared.TypedArray.{TypedArray}
use Rattle.flat_lower.proofs.EmitArguments.{drop_all}
use Rattle.flat_lower.proofs.EmitImages.{item_at}
use Rattle.flat_lower.proofs.functions.total_of.Goals as goal

pub loop-array-preserved : goal.loop-array-preserved
loop-array-preserved c =
    let all = c.args.arrays.now in
    let i = c.loop-array.array-index in
    let a : TypedArray = record { kind = Char; length = 0; row = None } in
    let d : call.all_bytes (drop i all) ≡ call.array_bytes (get_or all i a) + call.all_bytes (drop
    (i + 1) all) =
    ap call.all_bytes (item_at all i a (omega arith)) in
    let k = c.in_ok-total.ensures ∙ ap (λ n. c.loop-array.total + n) c.array_bytes.ensures in
    let v = c.loop-array.invariant in
    omega (arith, d, k, v)

pub returns : goal.returns
returns c =
    let d : call.all_bytes (drop c.loop-array.array-index c.args.arrays.now) ≡ 0 =
    ap call.all_bytes (drop_all c.args.arrays.now c.loop-array.array-index (omega arith)) in
    let v = c.loop-array.invariant in
    omega (arith, d, v)
