-- The nodes of the sections of a switch, in two parts: their labels, and the rest.
use Rattle.std.proofs.Common.{◌≡◌, ℕ, ◌+◌, arith}
use Rattle.flat_lower.specs.inside.Tree.{Sections, NoSections, WithSection}
use Rattle.flat_lower.specs.inside.Sizes.{label_count}
use Rattle.flat_lower_premises.specs.inside.SourceNodes.{stmts_nodes, sections_nodes}

-- the labels of all sections
abbrev pub labels_nodes : Sections → ℕ
labels_nodes NoSections = 0
labels_nodes (WithSection ls body rest) = label_count ls + labels_nodes rest

-- all sections with their statements
abbrev pub bodies_nodes : Sections → ℕ
bodies_nodes NoSections = 0
bodies_nodes (WithSection ls body rest) = 1 + (stmts_nodes body + bodies_nodes rest)

-- the nodes of some sections are those of their labels and the rest
pub in_two : (xs : Sections) → sections_nodes xs ≡ labels_nodes xs + bodies_nodes xs
in_two NoSections = omega arith
in_two (WithSection ls body rest) = let h = in_two rest in omega (arith, h)
