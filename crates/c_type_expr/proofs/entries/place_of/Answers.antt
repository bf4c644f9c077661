use Rattle.std.proofs.Common.{◌<◌, ◌∙◌, sym, ap, subst, length, reverse, List, ℕ, Some}
use Rattle.c_type_expr.specs.declared.meaning.Entry.{Entry}
use Rattle.c_type_expr.specs.inside.Frames.{place_in}
use Rattle.c_type_expr.proofs.Chains.{Walk, above, is_same}
use Rattle.c_type_expr.proofs.Chains.{walk_begins, walk_finds, walk_goes_on, walk_falls}
use Rattle.c_type_expr.proofs.entries.place_of.Goals as goal

pub loop-next-init : goal.loop-next-init
loop-next-init c =
    walk_begins (length c.args.heads.now) c.args.entries.now c.args.heads.now
    c.as_slice-name.result.now c.head_of-next.result c.requires c.head_of-next.ensures

pub returns-then-same_bytes : goal.returns-then-same_bytes
returns-then-same_bytes c =
    walk_finds (length c.args.heads.now) c.args.entries.now c.as_slice-name.result.now c.in-Some.at
    c.index-entries-at.result
    (subst (λ o. Walk (length c.args.heads.now) c.args.entries.now c.as_slice-name.result.now o)
    c.in-Some.is c.loop-next.invariant)
    (is_same _ c.as_slice-name.result.now c.as_slice.result.now c.same_bytes.result
    c.same_bytes.ensures
    (c.as_slice.ensures.value ∙ ap (λ (e : Entry). e.binding.name) c.index-entries-at.is)
    ∙ c.if-same_bytes.true)
    ∙ ap (λ (q : List ℕ). place_in (reverse c.args.entries.now) q) c.as_slice-name.ensures.value

pub loop-next-smaller : goal.loop-next-smaller
loop-next-smaller c =
    subst (λ o. above c.index-entries-at.result.older < above o) (sym c.in-Some.is)
    (subst (λ (e : Entry). above e.older < above (Some c.in-Some.at)) (sym c.index-entries-at.is)
    (walk_falls (length c.args.heads.now) c.args.entries.now c.as_slice-name.result.now c.in-Some.at
    c.index-entries-at.result
    (subst (λ o. Walk (length c.args.heads.now) c.args.entries.now c.as_slice-name.result.now o)
    c.in-Some.is c.loop-next.invariant) c.requires.chained))

pub loop-next-preserved : goal.loop-next-preserved
loop-next-preserved c =
    subst (λ (e : Entry). Walk (length c.args.heads.now) c.args.entries.now
    c.as_slice-name.result.now e.older) (sym c.index-entries-at.is)
    (walk_goes_on (length c.args.heads.now) c.args.entries.now c.as_slice-name.result.now
    c.in-Some.at c.index-entries-at.result
    (subst (λ o. Walk (length c.args.heads.now) c.args.entries.now c.as_slice-name.result.now o)
    c.in-Some.is c.loop-next.invariant) c.requires.chained
    (is_same _ c.as_slice-name.result.now c.as_slice.result.now c.same_bytes.result
    c.same_bytes.ensures
    (c.as_slice.ensures.value ∙ ap (λ (e : Entry). e.binding.name) c.index-entries-at.is)
    ∙ c.if-same_bytes.false))
