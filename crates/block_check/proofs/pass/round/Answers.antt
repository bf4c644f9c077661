use Rattle.std.proofs.Common.{◌≡◌, ◌<◌, ◌≤◌, length, arith, ap, sym, ◌∙◌, refl, nat_lt, Bool, true}
use Rattle.std.proofs.Common.{false}
use Rattle.block_cases.specs.CaseRule.{pulled, first}
use Rattle.block_cases.specs.Cases.{bit}
use Rattle.block_check.specs.inside.Pass.{tok_at, once}
use Rattle.block_check.proofs.Rounds.{pulled_at, far, far_node, slot_fits}
use Rattle.block_check.proofs.pass.round.Goals as goal

pub returns-clause-gives : goal.returns-clause-gives
returns-clause-gives c x = go (nat_lt x (length c.args.nodes.now)) refl
  where
    go : (b : Bool) → nat_lt x (length c.args.nodes.now) ≡ b →
        tok_at c.sweep.new.toks x ≡ once c.args.nodes.now (bit c.args.bits.now) (tok_at
        c.args.toks.now) x
    go true e =
        let lt : x < length c.args.nodes.now = grind arith in
        c.sweep.ensures.gives x lt
        ∙ pulled_at c.args.nodes.now x (bit c.args.bits.now x) (tok_at c.spread.new.spots) (λ q.
        first c.args.nodes.now q (tok_at c.args.toks.now)) (slot_fits c.args.nodes.now x
        c.requires.in_place) c.spread.ensures
    go false e =
        let past : length c.args.nodes.now ≤ x = grind arith in
        far c.sweep.new.toks x (omega arith)
        ∙ ap (λ o. pulled o (bit c.args.bits.now x) (λ q. first c.args.nodes.now q (tok_at
        c.args.toks.now))) (sym (far_node c.args.nodes.now x past))
