use Rattle.std.proofs.Common.{◌<◌, ◌^◌, ◌||◌, not, ap, ap₂, ◌∙◌, rules, bit_or, bit_and}
use Rattle.frame_state.proofs.BitFacts.{has_or, has_and, has_not}
use Rattle.std.proofs.lemmas.Nat.{or_lt}
use Rattle.frame_state.proofs.ready.matching.Goals as goal

pub returns : goal.returns
returns c = λ s h.
    let a : c.args.on_true < 2 ^ 64 = search rules in
    let b : c.args.on_false < 2 ^ 64 = search rules in
    let small : bit_or c.args.on_true c.args.on_false < 2 ^ 64 = or_lt 64 c.args.on_true c.args.on_false a b in
    has_or _ (bit_or (bit_and c.args.on_true c.args.odd) (bit_and c.args.on_false c.args.even)) s
    ∙ ap₂ (λ y z. y || z)
    (has_not (bit_or c.args.on_true c.args.on_false) s small h ∙ ap not (has_or c.args.on_true c.args.on_false s))
    (has_or (bit_and c.args.on_true c.args.odd) (bit_and c.args.on_false c.args.even) s
    ∙ ap₂ (λ y z. y || z) (has_and c.args.on_true c.args.odd s) (has_and c.args.on_false c.args.even s))
