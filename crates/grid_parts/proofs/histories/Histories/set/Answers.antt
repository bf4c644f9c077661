use Rattle.std.proofs.Common.{ℕ, ◌<◌, ◌==◌, cond, length, slice_index_or, ap, ◌∙◌, arith}
use Rattle.grid_parts.proofs.RowFacts.{set_row, set_history}
use Rattle.grid_parts.proofs.histories.Histories.set.Goals as goal

pub invariant_of-self : goal.invariant_of-self
invariant_of-self c =
    set_history c.self.inside.words c.args.frame c.args.history c.requires.frame c.requires.history c.self.invariant

pub returns : goal.returns
returns c =
    let inside : c.args.frame < length c.self.inside.words = let size = c.self.invariant.size in
    omega (arith, size) in
    λ f. ap (λ (h : ℕ → ℕ). h f) (set_row c.self.inside.words c.args.frame c.args.history 0 inside)
    ∙ ap (λ ws. cond (f == c.args.frame) c.args.history (slice_index_or ws f 0)) c.self.view_is
