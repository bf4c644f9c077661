use Rattle.std.proofs.Common.{◌≡◌, ◌<◌, ◌≤◌, slice_get, arith, ap, sym, ◌∙◌, true, false, Bool}
use Rattle.std.proofs.Common.{nat_lt, refl}
use Rattle.block_cases.specs.CaseRule.{pulled}
use Rattle.block_cases.specs.Cases.{bit}
use Rattle.std.proofs.lemmas.Option.{slice_get-get_or}
use Rattle.block_check.specs.inside.Pass.{tok_at}
use Rattle.block_check.proofs.Sparing.{pulled_spare}
use Rattle.block_check.proofs.Rounds.{set_more, set_other, set_away, pulled_here}
use Rattle.block_check.proofs.pass.sweep.Goals as goal
use Rattle.block_check.proofs.pass.sweep.Goals.{then-put, else-put}

pub loop-x-preserved : goal.loop-x-preserved
loop-x-preserved c = record {
  gives = set_more c.loop-x.toks c.put.new.toks c.loop-x.x c.fired-token.result (λ y. pulled
      (slice_get c.args.nodes.now y) (bit c.args.bits.now y) (tok_at c.args.spots.now)) (omega
      arith) c.put.ensures.set c.loop-x.invariant.gives (pulled_here c.args.nodes.now c.loop-x.x _
      _ (tok_at c.args.spots.now) _ (slice_get-get_or c.args.nodes.now c.loop-x.x _ (omega arith))
      c.fired-token.ensures);
  rest = λ y le. ap (λ l. tok_at l y) c.put.ensures.set
      ∙ set_away c.loop-x.toks c.loop-x.x y c.fired-token.result (let lt : c.loop-x.x < c.args.used
      = omega arith in omega arith) ∙ c.loop-x.invariant.rest y le;
  same =
      elim c.if-put.branch [
        | then-put w ↦ λ e. absurd (let no : true ≡ false = sym w.changed-is ∙ e in cc)
        | else-put w ↦ λ e y. ap (λ l. tok_at l y) c.put.ensures.set
            ∙ set_other c.loop-x.toks c.loop-x.x y c.fired-token.result (c.put.ensures.same
            w.if-put.false) (omega arith) ∙ c.loop-x.invariant.same (sym w.changed-is ∙ e) y
      ];
}

pub returns-clause-gives : goal.returns-clause-gives
returns-clause-gives c x lt = go (nat_lt x c.args.used) refl
  where
    go : (b : Bool) → nat_lt x c.args.used ≡ b → tok_at c.loop-x.toks x ≡ pulled (slice_get
        c.args.nodes.now x) (bit c.args.bits.now x) (tok_at c.args.spots.now)
    go true e = c.loop-x.invariant.gives x (grind arith)
    go false e =
        let le : c.args.used ≤ x = grind arith in
        c.loop-x.invariant.rest x le ∙ sym (pulled_spare c.args.nodes.now c.args.used x (bit
        c.args.bits.now x) (tok_at c.args.spots.now) c.requires.spare le)
