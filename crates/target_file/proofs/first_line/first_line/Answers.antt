use Rattle.std.proofs.Common.{ℕ, drop, sym, ap, subst, ◌∙◌, arith, true}
use Rattle.std.proofs.lemmas.List.{take_rest}
use Rattle.target_file.specs.inside.Scanning.{IsFirstLine}
use Rattle.target_file.proofs.Scans.{is_last, is_ended, tells_of}
use Rattle.target_file.proofs.first_line.first_line.Goals as goal

pub returns-in-empty : goal.returns-in-empty
returns-in-empty c =
    is_last c.args.text.now c.split_at-2.result.0.now c.split_at.result.1.now
    (c.split_at.ensures.back ∙ ap (λ (n : ℕ). drop n c.args.text.now) c.line_size.ensures.value)
    (tells_of c.args.text.now c.split_at.result.0.now c.split_at-2.result.0.now c.line_size.result
    c.told_size.result c.line_size.ensures.value c.split_at.ensures.front c.told_size.ensures.value
    c.split_at-2.ensures.front)
    (omega (arith, c.in-empty.len_below))

pub returns-in-len1-up : goal.returns-in-len1-up
returns-in-len1-up c =
    subst (IsFirstLine c.args.text.now c.split_at-2.result.0.now true) (sym (take_rest c.split_at.result.1.now 1))
    (is_ended c.args.text.now c.split_at-2.result.0.now c.split_at.result.1.now
    (c.split_at.ensures.back ∙ ap (λ (n : ℕ). drop n c.args.text.now) c.line_size.ensures.value)
    (tells_of c.args.text.now c.split_at.result.0.now c.split_at-2.result.0.now c.line_size.result
    c.told_size.result c.line_size.ensures.value c.split_at.ensures.front c.told_size.ensures.value
    c.split_at-2.ensures.front)
    (omega (arith, c.in-len1-up.len_at_least)))
