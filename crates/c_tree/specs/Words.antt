-- How a word keeps its bytes.
use Rattle.std.specs.Prelude.{List, ℕ, take, min}
use Rattle.c_tree.specs.declared.word.Bytes.{Bytes}
use Rattle.c_tree.specs.declared.word.Bytes.TheVariants as bytes

-- the bytes of a word, in place, of which there are 14 at most, or in memory of their own
abbrev pub bytes_of : Bytes → List ℕ
bytes_of (bytes.Short length cells) = take (min length 14) cells
bytes_of (bytes.Long b) = b.items
