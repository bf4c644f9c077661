use Rattle.std.proofs.Common.{◌+◌, ◌++◌, drop, map, sym, ap, ◌∙◌, append-nil, arith}
use Rattle.flat_lower.specs.inside.Objects as objects
use Rattle.flat_lower.specs.inside.Emitted.{starts_from}
use Rattle.flat_lower.proofs.EmitArguments.{drop_all}
use Rattle.flat_lower.proofs.EmitImages.{item_of, start_more}
use Rattle.flat_lower.proofs.globals.addresses_of.Goals as goal

pub loop-global-init : goal.loop-global-init
loop-global-init c = ap (λ x. x ++ starts_from 0 (map objects.global_bytes c.args.globals.now))
    c.new-found.ensures.value

pub loop-global-preserved : goal.loop-global-preserved
loop-global-preserved c =
    let all = c.args.globals.now in
    let i = c.loop-global.global-index in
    let a = c.global-item.result in
    let d = item_of all i a (omega arith) c.global-item.is in
    let e = ap (λ r. c.loop-global.found ++ starts_from c.loop-global.at (map objects.global_bytes r))
    (sym d) ∙ c.loop-global.invariant in
    start_more c.loop-global.found c.push.new.self c.loop-global.at c.in_ok-at.at
    (objects.global_bytes a) (map objects.global_bytes (drop (i + 1) all))
    (starts_from 0 (map objects.global_bytes all)) c.in_ok-push.ensures.ok
    (c.in_ok-at.ensures ∙ ap (λ n. c.loop-global.at + n) c.global_bytes.ensures) e

pub returns : goal.returns
returns c =
    let all = c.args.globals.now in
    let d = drop_all all c.loop-global.global-index (omega arith) in
    sym (append-nil c.loop-global.found)
    ∙ ap (λ r. c.loop-global.found ++ starts_from c.loop-global.at (map objects.global_bytes r))
    (sym d) ∙ c.loop-global.invariant
