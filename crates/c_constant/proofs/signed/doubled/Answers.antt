use Rattle.std.proofs.Common.{rules, ◌≡◌, ◌<◌, ◌*◌, ◌^◌, ◌≤◌, arith, sym, ◌∙◌, pos, to_z, of_z, w64}
use Rattle.std.proofs.Common.{ap}
use Rattle.std.proofs.lemmas.Int.{ints}
use Rattle.c_constant.specs.Kinds.{word_of, in_kind}
use Rattle.c_constant.proofs.Shifts.{beyond, under, over}
use Rattle.c_constant.proofs.signed.doubled.Goals as goal

pub returns-then-a-count : goal.returns-then-a-count
returns-then-a-count c =
    let p : 0 < 2 ^ c.args.count = search rules in
    sym (ap word_of (beyond c.args.kind (c.args.a * 2 ^ c.args.count) c.requires.signed
    (over c.args.a (2 ^ c.args.count) p c.if-a-count.true)))

pub returns : goal.returns
returns c =
    let p : 0 < 2 ^ c.args.count = search rules in
    let u : c.args.a * 2 ^ c.args.count ≤ 9223372036854775807 = under c.args.a
    (2 ^ c.args.count) p c.if-a-count.false in
    let e : to_z w64 (of_z w64 c.cast_signed.result) ≡ pos (c.args.a * 2 ^ c.args.count) = omega (arith, ints) in
    c.in_signed.ensures ∙ ap (λ z. word_of (in_kind c.args.kind z)) e
