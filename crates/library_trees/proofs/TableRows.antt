-- The rows of the library's table, word by word.
use Rattle.std.proofs.Common.{refl}
use Rattle.c_tree.specs.Marks.{marks as plain_marks}
use Rattle.c_lex.specs.Tables.{keywords, marks}
use Rattle.library_trees.specs.Rows.{TableHasTokens}

pub table_has_tokens : TableHasTokens
unfolding keywords marks plain_marks
table_has_tokens = record {
  unsigned = refl;
  signed = refl;
  hexadecimal = refl;
  digits = refl;
  fill = refl;
  size = refl;
}
