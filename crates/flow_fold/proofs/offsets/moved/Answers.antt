use Rattle.std.proofs.Common.{◌≡◌, ◌+ℤ◌, ◌-ℤ◌, sym, ap, ◌∙◌, arith, to_z, of_z, w32, w64}
use Rattle.std.proofs.lemmas.Int.{ints, to_z-of_z}
use Rattle.flow_fold.specs.inside.Offsets as offsets
use Rattle.flow_fold.proofs.offsets.moved.Goals as goal

pub returns-in-Addi : goal.returns-in-Addi
returns-in-Addi c =
    let a : to_z w32 (of_z w32 c.args.a) ≡ c.args.a = to_z-of_z w32 c.args.a c.ranges.a in
    let b : to_z w32 (of_z w32 c.args.b) ≡ c.args.b = to_z-of_z w32 c.args.b c.ranges.b in
    let i : to_z w64 (of_z w64 (to_z w64 (of_z w64 c.args.b) +ℤ to_z w64 (of_z w64 c.args.a)))
    ≡ c.args.b +ℤ c.args.a = omega (arith, ints, c.ranges.a, c.ranges.b) in
    let h = c.if_small.ensures in
    let g : c.if_small.result ≡ offsets.if_small c.args.a c.args.b (c.args.b +ℤ c.args.a) = cc in
    g ∙ ap (λ o. offsets.moved o c.args.a c.args.b) (sym c.in-Addi.is)

pub returns-in-Subi : goal.returns-in-Subi
returns-in-Subi c =
    let a : to_z w32 (of_z w32 c.args.a) ≡ c.args.a = to_z-of_z w32 c.args.a c.ranges.a in
    let b : to_z w32 (of_z w32 c.args.b) ≡ c.args.b = to_z-of_z w32 c.args.b c.ranges.b in
    let i : to_z w64 (of_z w64 (to_z w64 (of_z w64 c.args.b) -ℤ to_z w64 (of_z w64 c.args.a)))
    ≡ c.args.b -ℤ c.args.a = omega (arith, ints, c.ranges.a, c.ranges.b) in
    let h = c.if_small-in-Subi.ensures in
    let g : c.if_small-in-Subi.result ≡ offsets.if_small c.args.a c.args.b (c.args.b -ℤ c.args.a) = cc in
    g ∙ ap (λ o. offsets.moved o c.args.a c.args.b) (sym c.in-Subi.is)
