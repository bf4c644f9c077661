use Rattle.std.proofs.Common.{◌≡◌, ℕ, ◌+◌, ◌*◌, ◌<◌, ◌&&◌, false, get_or, ap, ap₂, ◌∙◌, arith}
use Rattle.std.specs.Prelude.{is_some}
use Rattle.trips_isa.specs.declared.block.Block.{Block}
use Rattle.trips_isa.specs.declared.block.Sense.TheVariants.{OnTrue, OnFalse}
use Rattle.trips_isa.specs.Rule.{matched}
use Rattle.commit_flush_spec.specs.Frames.{at}
use Rattle.frame_state.specs.inside.Held.{Held}
use Rattle.frame_state.specs.inside.Shapes.{IsShape}
use Rattle.frame_state.proofs.ReadyFacts.{ready_by}
use Rattle.frame_state.proofs.body.Body.ready.Goals as goal

pub returns : goal.returns
returns c = record {
  value = λ (b : Block) (is : IsShape b c.args.shape.now) (s : ℕ) (h : s < 64).
      let q : ℕ = 64 * c.args.k + s in
      let low : q < 128 = omega arith in
      let near : q < 416 = omega arith in
      let far : 64 * (2 + c.args.k) + s < 416 = omega arith in
      let up : 64 * (2 + c.args.k) + s ≡ 128 + q = omega arith in
      c.ready.ensures.value s h
      ∙ ap₂ (λ x y. x && y)
      (ap₂ (λ x y. x && y) (c.waiting-open.ensures.value s h) (c.come-has_left.ensures s h))
      (ap₂ (λ x y. x && y) (c.come-has_right.ensures s h) (c.matching-matched.ensures s h))
      ∙ ready_by b c.args.self.now q _ _ _ _ _ _ _ _ _ _
      (c.word-there.ensures.value s h low ∙ is.there q low)
      (c.word-fired.ensures.value s h low ∙ ap (λ (z : Held). get_or z.fired q false) c.self.view_is)
      (c.word-left.ensures.value s h low ∙ is.left q low)
      (c.word-right.ensures.value s h low ∙ is.right q low)
      (c.word-left_came.ensures.value s h near ∙ ap (λ (z : Held). is_some (at z.spots q)) c.self.view_is)
      (c.word-right_came.ensures.value s h far ∙ ap (λ x. is_some (at c.self.inside.spots x)) up
      ∙ ap (λ (z : Held). is_some (at z.spots (128 + q))) c.self.view_is)
      (c.word-on_true.ensures.value s h low ∙ is.on_true q low)
      (c.word-on_false.ensures.value s h low ∙ is.on_false q low)
      (c.odd-odd.ensures.value s h ∙ ap (λ (z : Held). matched OnTrue (at z.spots (256 + q))) c.self.view_is)
      (c.even-even.ensures.value s h ∙ ap (λ (z : Held). matched OnFalse (at z.spots (256 + q))) c.self.view_is);
}
