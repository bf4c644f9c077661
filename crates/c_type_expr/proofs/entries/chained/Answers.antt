use Rattle.std.proofs.Common.{◌≡◌, ◌<◌, ◌+◌, ◌∙◌, sym, ap, subst, List, Option, ℕ, length}
use Rattle.std.proofs.Common.{reverse, refl, arith, set, get_or, take}
use Rattle.std.proofs.lemmas.List.{length-set}
use Rattle.c_type_expr.specs.Scope.{Frame}
use Rattle.c_type_expr.specs.inside.Chains.{KeptIn}
use Rattle.c_type_expr.proofs.Chains.{whole}
use Rattle.c_type_expr.proofs.LinkedChains.{bindings_reversed, linked_at, relinked}
use Rattle.c_type_expr.proofs.entries.chained.Goals as goal

pub returns-clause-same : goal.returns-clause-same
returns-clause-same c =
    bindings_reversed c.loop-i.entries ∙ ap (λ (f : Frame). reverse f) c.loop-i.invariant.same
    ∙ sym (bindings_reversed c.args.entries.now)

pub loop-i-preserved : goal.loop-i-preserved
loop-i-preserved c =
    let lt : c.loop-i.i < length c.loop-i.entries = omega arith in
    let heads : List (Option ℕ) = c.put-entry.new.heads in
    let old : length c.as_mut_slice.result.now ≡ c.args.count =
    ap (length {A = Option ℕ}) c.as_mut_slice.ensures.value ∙ c.loop-i.invariant.count in
    let new : length heads ≡ c.args.count =
    ap (length {A = Option ℕ}) c.put-entry.ensures.heads ∙ length-set _ _ _ ∙ old in
    let all = whole c.loop-i.heads.len heads c.loop-i.heads.items
    (omega (arith, new, c.loop-i.invariant.count, c.loop-i.heads.ok.0)) in
    record {
      kept =
          subst (λ (h : List (Option ℕ)). KeptIn c.args.count (reverse (take (c.loop-i.i + 1)
          (set c.loop-i.entries c.loop-i.i (record {
            binding = (get_or c.loop-i.entries c.loop-i.i
                c.index-entries-i.result).binding;
            older = c.put-entry.result;
          })))) h) (sym all)
          (linked_at c.args.count c.loop-i.entries c.loop-i.i _ c.as_slice.result.now
          c.as_mut_slice.result.now heads lt c.requires old c.as_slice.ensures.value
          (subst (λ (h : List (Option ℕ)). KeptIn c.args.count
          (reverse (take c.loop-i.i c.loop-i.entries)) h)
          (sym c.as_mut_slice.ensures.value) c.loop-i.invariant.kept)
          c.put-entry.ensures.older c.put-entry.ensures.heads);
      count = ap (length {A = Option ℕ}) all ∙ new;
      same = relinked c.loop-i.entries c.loop-i.i _ c.index-entries-i.result lt refl
          ∙ c.loop-i.invariant.same;
    }
