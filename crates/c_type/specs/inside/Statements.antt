-- Beside what is believed of Statements.antt: statements (C17 6.8).
use Rattle.std.specs.Prelude.{map}
use Rattle.c_tree.specs.declared.tree.Section.{Section}
use Rattle.c_type.specs.Statements.{SectionPart, part, labels_in, statements_in}

-- what a section does
abbrev pub section_of : Section → SectionPart
section_of x = record { labels = labels_in x; body = map part (statements_in x) }
