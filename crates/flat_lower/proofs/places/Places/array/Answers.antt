use Rattle.std.proofs.Common.{◌≡◌, map, rules, ap, ◌∙◌}
use Rattle.c_meaning_spec.specs.Call.{array_bytes}
use Rattle.flat_lower.specs.inside.Objects.{Context, array_at}
use Rattle.flat_lower.proofs.EmitStarts.{found}
use Rattle.flat_lower.proofs.places.Places.array.Goals as goal

pub returns-in-Some : goal.returns-in-Some
unfolding array_at
returns-in-Some c =
    let x = c.in-Some.at.now in
    let all = c.self.inside.arrays.now in
    let k : x ≡ array_at all c.args.a = found c.self.inside.starts.now (map array_bytes all) c.args.a x
    c.self.invariant.1 (search rules) (search rules) in
    k ∙ ap (λ (p : Context). array_at p.arrays c.args.a) c.self.view_is
