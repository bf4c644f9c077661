-- The labels and sections of a well formed switch are as the lowering takes them.
use Rattle.std.proofs.Common.{◌≡◌, ℕ, zero, suc, ◌+◌, ◌≤◌, true, false, List, [], ◌∷◌, ◌++◌, map, Option}
use Rattle.std.proofs.Common.{Some, None, refl, sym, subst, arith, append-nil, append_assoc}
use Rattle.std.proofs.lemmas.Bool.{or_parts}
use Rattle.c_tree.specs.declared.Kind.{Kind}
use Rattle.c_tree.specs.declared.TypedFunc.{TypedFunc}
use Rattle.c_tree.specs.declared.TypedProgram.{TypedProgram}
use Rattle.c_tree.specs.declared.TypedSection.{TypedSection}
use Rattle.c_tree.specs.declared.TypedStmt.{TypedStmt}
use Rattle.c_type.specs.declared.state.Around.{Around}
use Rattle.c_type.specs.Statements.{label_among}
use Rattle.c_type_rules.specs.inside.KeptStatements.{Labels, RunsSections}
use Rattle.c_type_rules.specs.inside.KeptStatements as rule
use Rattle.flat_lower_premises.specs.inside.Words.{IsFilled}
use Rattle.flat_lower_premises.specs.inside.TypedTrees.{SectionsHaveWords}
use Rattle.flat_lower_premises.specs.inside.TypedTrees as word
use Rattle.flat_lower.specs.inside.TreeViews.{stmt_of, stmts_of}
use Rattle.flat_lower.specs.inside.Emitted.{sections_in}
use Rattle.flat_lower.specs.inside.FitsSwitches.{IsLabelled, FitsLabels, case_count, one_if_none, free_sections}
use Rattle.flat_lower.specs.inside.FitsSwitches as plain

-- LABELS

-- their words are of the type of the test
pub labels_fit : (k : Kind) (seen ls : List (Option ℕ)) → Labels k seen ls → FitsLabels (Some k) ls
labels_fit k _ _ rule.no_label = tt
labels_fit k _ _ (rule.a_label {seen = seen} {x = None} {xs = xs} i f l) =
    (tt, labels_fit k (seen ++ None ∷ []) xs l)
labels_fit k _ _ (rule.a_label {seen = seen} {x = Some w} {xs = xs} i f l) =
    (i, labels_fit k (seen ++ Some w ∷ []) xs l)

-- how often `default` is among labels
abbrev defaults : List (Option ℕ) → ℕ
defaults [] = 0
defaults (None ∷ ls) = 1 + defaults ls
defaults (Some w ∷ ls) = defaults ls

defaults_joined : (xs ys : List (Option ℕ)) → defaults (xs ++ ys) ≡ defaults xs + defaults ys
defaults_joined [] ys = omega arith
defaults_joined (None ∷ xs) ys = let h = defaults_joined xs ys in omega (arith, h)
defaults_joined (Some w ∷ xs) ys = defaults_joined xs ys

no_default : (ls : List (Option ℕ)) → label_among None ls ≡ false → defaults ls ≡ 0
no_default [] h = refl
no_default (None ∷ ls) h = let e = (or_parts true (label_among None ls) h).0 in absurd (cc e)
no_default (Some w ∷ ls) h = no_default ls (or_parts false (label_among None ls) h).1

-- no more than once, since each label is another than those before it
one_default : (k : Kind) (seen ls : List (Option ℕ)) → Labels k seen ls → defaults seen ≤ 1
    → defaults (seen ++ ls) ≤ 1
one_default k _ _ (rule.no_label {seen = seen}) h =
    subst (λ (ls : List (Option ℕ)). defaults ls ≤ 1) (sym (append-nil seen)) h
one_default k _ _ (rule.a_label {seen = seen} {x = None} {xs = xs} i f l) h =
    let z = no_default seen f in
    let j = defaults_joined seen (None ∷ []) in
    subst (λ (ls : List (Option ℕ)). defaults ls ≤ 1) (append_assoc seen (None ∷ []) xs)
    (one_default k (seen ++ None ∷ []) xs l (omega (arith, z, j)))
one_default k _ _ (rule.a_label {seen = seen} {x = Some w} {xs = xs} i f l) h =
    let j = defaults_joined seen (Some w ∷ []) in
    subst (λ (ls : List (Option ℕ)). defaults ls ≤ 1) (append_assoc seen (Some w ∷ []) xs)
    (one_default k (seen ++ Some w ∷ []) xs l (omega (arith, h, j)))

-- a section without a case has `default`
free_has_default : (ls : List (Option ℕ)) → IsFilled ls → one_if_none (case_count ls) ≤ defaults ls
free_has_default [] h = absurd h
free_has_default (None ∷ ls) h = by (case_count ls)
  where
    by : (n : ℕ) → one_if_none n ≤ 1 + defaults ls
    by zero = omega arith
    by (suc n) = omega arith
free_has_default (Some w ∷ ls) h = omega arith

-- SECTIONS

-- a section with labels is labelled
pub labelled : (ls : List (Option ℕ)) → IsFilled ls → IsLabelled ls
labelled [] h = absurd h
labelled (l ∷ ls) h = tt

-- a section with statements has statements as plain data
pub filled : (ss : List TypedStmt) → IsFilled ss → plain.IsFilled (stmts_of (map stmt_of ss))
filled [] h = absurd h
filled (s ∷ ss) h = tt

-- no more than one section has no case
module _ (P : TypedProgram) (f : TypedFunc) where
  one_free : (k : Kind) (seen : List (Option ℕ)) (b : Around) (xs : List TypedSection)
      → RunsSections P f k seen b xs → SectionsHaveWords xs → defaults seen ≤ 1
      → free_sections (sections_in xs) + defaults seen ≤ 1
  one_free _ _ b _ rule.no_section w h = omega (arith, h)
  one_free _ _ b _ (rule.a_section {k = k} {seen = seen} {s = s} {ss = ss} l r rs) (word.one_section i j u ws) h =
      let d = one_default k seen s.labels l h in
      let e = defaults_joined seen s.labels in
      let g = free_has_default s.labels i in
      let rest = one_free k (seen ++ s.labels) b ss rs ws d in
      omega (arith, e, g, rest)

  -- a well formed switch has at most one section without a case
  pub few_free : (k : Kind) (b : Around) (xs : List TypedSection) → RunsSections P f k [] b xs
      → SectionsHaveWords xs → free_sections (sections_in xs) ≤ 1
  few_free k b xs r w = let h = one_free k [] b xs r w (omega arith) in omega (arith, h)
