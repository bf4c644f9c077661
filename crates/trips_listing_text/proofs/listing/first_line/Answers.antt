use Rattle.std.proofs.Common.{ℕ, drop, take, sym, ap, subst, ◌∙◌, arith, true}
use Rattle.std.proofs.lemmas.List.{take_rest}
use Rattle.trips_listing_text.specs.inside.Lines.{IsLine}
use Rattle.trips_listing_text.proofs.Turns.{is_last, is_ended}
use Rattle.trips_listing_text.proofs.listing.first_line.Goals as goal

pub returns-in-empty : goal.returns-in-empty
returns-in-empty c =
    is_last c.args.text.now c.split_at.result.0.now c.split_at.result.1.now
    (c.split_at.ensures.front ∙ ap (λ (n : ℕ). take n c.args.text.now) c.line_size.ensures.value)
    (c.split_at.ensures.back ∙ ap (λ (n : ℕ). drop n c.args.text.now) c.line_size.ensures.value)
    (omega (arith, c.in-empty.len_below))

pub returns-in-len1-up : goal.returns-in-len1-up
returns-in-len1-up c =
    subst (IsLine c.args.text.now c.split_at.result.0.now true) (sym (take_rest c.split_at.result.1.now 1))
    (is_ended c.args.text.now c.split_at.result.0.now c.split_at.result.1.now
    (c.split_at.ensures.front ∙ ap (λ (n : ℕ). take n c.args.text.now) c.line_size.ensures.value)
    (c.split_at.ensures.back ∙ ap (λ (n : ℕ). drop n c.args.text.now) c.line_size.ensures.value)
    (omega (arith, c.in-len1-up.len_at_least)))
