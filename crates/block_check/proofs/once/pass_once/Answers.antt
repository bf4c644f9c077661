use Rattle.std.proofs.Common.{drop, arith, subst, ◌∙◌, ◌+◌, ℕ, List}
use Rattle.block_cases.specs.Cases.{bit}
use Rattle.block_cases.specs.CaseRule.{first}
use Rattle.block_cases.proofs.Steady.{only_one}
use Rattle.block_check.specs.inside.Pass.{tok_at}
use Rattle.block_check.specs.inside.Passing.{Passing}
use Rattle.block_check.proofs.Adding.{drop_at}
use Rattle.block_check.proofs.OnePass.{start, ended, solved, absent_all}
use Rattle.block_check.proofs.Sparing.{pulled_spare}
use Rattle.block_check.proofs.once.pass_once.Goals as goal

pub loop-at-init : goal.loop-at-init
loop-at-init c rank o w =
    start c.args.nodes.now rank c.args.order.now w (bit c.args.bits.now) _ _ (λ q b.
    c.loop-spot.invariant q (omega arith)) (absent_all c.loop-token.toks (λ y lt.
    c.loop-token.invariant y (omega arith)))

pub loop-at-preserved : goal.loop-at-preserved
loop-at-preserved c rank o w =
    c.fire_one.ensures c.if-not-fire_one.false rank (drop (c.loop-at.at + 1) c.args.order.now) o
    (subst (λ (l : List ℕ). Passing c.args.nodes.now rank l (bit c.args.bits.now) c.loop-at.spots
    c.loop-at.toks) (drop_at c.args.order.now c.loop-at.at (omega arith)) (c.loop-at.invariant rank o w))

pub returns-clause-toks : goal.returns-clause-toks
returns-clause-toks c e x =
    only_one c.args.nodes.now c.requires.ordered.0 c.requires.ordered.1 (bit c.args.bits.now) (tok_at
    c.loop-at.toks) (solved c.args.nodes.now c.requires.ordered.0 (bit c.args.bits.now) c.loop-at.spots
    c.loop-at.toks (omega arith) (ended c.args.nodes.now c.args.order.now c.loop-at.at (bit
    c.args.bits.now) _ _ c.requires.ordered (omega arith) c.loop-at.invariant)) x

pub returns-clause-rest : goal.returns-clause-rest
returns-clause-rest c e x le =
    solved c.args.nodes.now c.requires.ordered.0 (bit c.args.bits.now) c.loop-at.spots c.loop-at.toks
    (omega arith) (ended c.args.nodes.now c.args.order.now c.loop-at.at (bit c.args.bits.now) _ _
    c.requires.ordered (omega arith) c.loop-at.invariant) x
    ∙ pulled_spare c.args.nodes.now c.args.used x (bit c.args.bits.now x) (λ q. first
    c.args.nodes.now q (tok_at c.loop-at.toks)) c.requires.spare le

pub returns-clause-places : goal.returns-clause-places
returns-clause-places c e q lt =
    (ended c.args.nodes.now c.args.order.now c.loop-at.at (bit c.args.bits.now) c.loop-at.spots
    c.loop-at.toks c.requires.ordered (omega arith) c.loop-at.invariant).places q (omega arith) (λ k.
    omega (arith, k, lt))

pub returns-clause-single : goal.returns-clause-single
returns-clause-single c e q lt =
    (ended c.args.nodes.now c.args.order.now c.loop-at.at (bit c.args.bits.now) c.loop-at.spots
    c.loop-at.toks c.requires.ordered (omega arith) c.loop-at.invariant).single q (omega arith) (λ k.
    omega (arith, k, lt))
