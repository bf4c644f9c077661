use Rattle.std.proofs.Common.{ℕ, true, List, [], ◌∷◌, ◌++◌, Option, None, subst, sym, ap, ◌∙◌}
use Rattle.c_type.specs.inside.Seen.{Knows}
use Rattle.c_type.proofs.KnownLabels.{knows_default}
use Rattle.c_type.proofs.seen.add_default.Goals as goal

pub returns-clause-kept : goal.returns-clause-kept
returns-clause-kept c =
    subst (λ (xs : List (Option ℕ)). Knows xs c.args.words.now true)
    (sym
    (c.push_reserved.ensures.items
    ∙ ap (λ (xs : List (Option ℕ)). xs ++ None ∷ []) c.reserve.ensures.items))
    (knows_default c.args.labels.now.items c.args.words.now c.args.has_default.now c.requires)
