use Rattle.std.proofs.Common.{ℕ, List, [], ◌∷◌, ◌++◌, Option, Some, subst, sym, ap, ◌∙◌}
use Rattle.c_type.specs.inside.Seen.{Knows}
use Rattle.c_type.proofs.KnownLabels.{knows_case}
use Rattle.c_type.proofs.seen.add_case.Goals as goal

pub returns-then-is_new-clause-kept : goal.returns-then-is_new-clause-kept
returns-then-is_new-clause-kept c =
    subst (λ (xs : List (Option ℕ)). Knows xs c.insert.new.self c.args.has_default)
    (sym
    (c.push_reserved.ensures.items
    ∙ ap (λ (xs : List (Option ℕ)). xs ++ Some c.args.word ∷ []) c.reserve.ensures.items))
    (knows_case c.args.labels.now.items c.args.words.now c.insert.new.self c.args.has_default c.args.word
    c.requires c.in-Ok.ensures.updates.0)
