use Rattle.std.proofs.Common.{◌≤◌, ap, sym, ◌∙◌, length, List, Option, ℕ, slice_get, arith}
use Rattle.c_meaning_spec.specs.State.{row_in}
use Rattle.c_meaning.specs.declared.arrays.Span.{Span}
use Rattle.c_meaning.specs.inside.Cells.{total, span_length}
use Rattle.c_meaning.proofs.Lays.{row-count}
use Rattle.c_meaning.proofs.arrays.Arrays.count_in.Goals as goal

pub returns : goal.returns
returns c =
    let f = c.self.invariant.fits in
    let n = c.self.invariant.counted in
    let le : total c.self.inside.spans.items ≤ length c.self.inside.cells.items = omega arith in record {
      value = c.length_at.ensures
          ∙ ap (λ (s : List Span). span_length (slice_get s c.args.array)) c.as_slice.ensures.value
          ∙ sym (row-count c.args.array c.self.inside.spans.items c.self.inside.cells.items le)
          ∙ ap (λ (rs : List (List (Option ℕ))). length (row_in (slice_get rs c.args.array))) c.self.view_is;
    }
