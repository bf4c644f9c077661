use Rattle.std.proofs.Common.{◌≡◌, ◌+◌, ◌*◌, ℕ, sym, ap, ◌∙◌, get_or, arith}
use Rattle.operand_net.specs.declared.parcel.Stand.TheVariants.{Nowhere}
use Rattle.operand_net.specs.inside.Places.{come}
use Rattle.operand_net.specs.inside.Marks.{marked}
use Rattle.operand_net.specs.inside.IsStands.{is_come}
use Rattle.operand_net.proofs.Places.{first_is, none_is}
use Rattle.operand_net.proofs.stands.Stands.first_come.Goals as goal

pub returns-then-p-lt320-clause-value : goal.returns-then-p-lt320-clause-value
returns-then-p-lt320-clause-value c =
    let seen : (q : ℕ) → is_come (get_or c.args.self.now q Nowhere) ≡ marked c.self.inside.arrived q =
    λ q. sym (c.self.invariant.arrived_is q ∙ ap (λ s. is_come (get_or s q Nowhere)) c.self.view_is) in
    c.come.ensures ∙ ap (come c.args.frame c.lowest-p.result) c.at.ensures.value
    ∙ first_is c.args.self.now c.args.frame c.lowest-p.result c.if-p-lt320.true
    (λ k l. seen (320 * c.args.frame + k) ∙ c.lowest-p.ensures.clear k (omega arith) l)
    (seen (320 * c.args.frame + c.lowest-p.result) ∙ c.lowest-p.ensures.found c.if-p-lt320.true)

pub returns-else-p-lt320-clause-value : goal.returns-else-p-lt320-clause-value
returns-else-p-lt320-clause-value c =
    let seen : (q : ℕ) → is_come (get_or c.args.self.now q Nowhere) ≡ marked c.self.inside.arrived q =
    λ q. sym (c.self.invariant.arrived_is q ∙ ap (λ s. is_come (get_or s q Nowhere)) c.self.view_is) in
    none_is c.args.self.now c.args.frame
    (λ k l. seen (320 * c.args.frame + k) ∙ c.lowest-p.ensures.clear k (omega arith) (omega arith))
