use Rattle.std.proofs.Common.{None}
use Rattle.std.proofs.Common.{◌+◌, ◌++◌, drop, map, get_or, sym, ap, ◌∙◌, append-nil, arith}
use Rattle.c_meaning_spec.specs.Call as call
use Rattle.c_tree.specs.declared.Kind.TheVariants.{Char}
use Rattle.c_tree.specs.declared.TypedArray.{TypedArray}
use Rattle.flat_lower.specs.inside.Emitted.{starts_from}
use Rattle.flat_lower.proofs.EmitArguments.{drop_all}
use Rattle.flat_lower.proofs.EmitImages.{item_at, start_more}
use Rattle.flat_lower.proofs.functions.starts_of.Goals as goal

pub loop-array-init : goal.loop-array-init
loop-array-init c = ap (λ x. x ++ starts_from 0 (map call.array_bytes c.args.arrays.now))
    c.new-found.ensures.value

pub loop-array-preserved : goal.loop-array-preserved
loop-array-preserved c =
    let all = c.args.arrays.now in
    let i = c.loop-array.array-index in
    let z : TypedArray = record { kind = Char; length = 0; row = None } in
    let a = get_or all i z in
    let d = item_at all i z (omega arith) in
    let e = ap (λ r. c.loop-array.found ++ starts_from c.loop-array.at (map call.array_bytes r)) (sym d) ∙
    c.loop-array.invariant in
    start_more c.loop-array.found c.push.new.self c.loop-array.at c.in_ok-at.at (call.array_bytes a)
    (map call.array_bytes (drop (i + 1) all))
    (starts_from 0 (map call.array_bytes all)) c.in_ok-push.ensures.ok
    (c.in_ok-at.ensures ∙ ap (λ n. c.loop-array.at + n) c.array_bytes.ensures) e

pub returns : goal.returns
returns c =
    let all = c.args.arrays.now in
    let d = drop_all all c.loop-array.array-index (omega arith) in
    sym (append-nil c.loop-array.found)
    ∙ ap (λ r. c.loop-array.found ++ starts_from c.loop-array.at (map call.array_bytes r)) (sym d)
    ∙ c.loop-array.invariant
