use Rattle.std.proofs.Common.{◌≡◌, map, rules, ap, ◌∙◌}
use Rattle.flat_lower.specs.inside.Objects.{Context, global_bytes, global_at}
use Rattle.flat_lower.proofs.EmitStarts.{found}
use Rattle.flat_lower.proofs.places.Places.global.Goals as goal

pub returns-in-Some : goal.returns-in-Some
unfolding global_at
returns-in-Some c =
    let x = c.in-Some.at.now in
    let all = c.self.inside.globals.now in
    let k : x ≡ global_at all c.args.g = found c.self.inside.addresses.now (map global_bytes all) c.args.g x
    c.self.invariant.0 (search rules) (search rules) in
    k ∙ ap (λ (p : Context). global_at p.globals c.args.g) c.self.view_is
