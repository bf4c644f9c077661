-- A target text with comment lines before each of its blocks.
use Rattle.std.specs.Prelude.{ℕ, suc, nat_eq, Bool, true, false, if◌then◌else◌}
use Rattle.std.specs.Prelude.{List, [], ◌∷◌, ◌++◌, codes}
use Rattle.std.specs.List.{starts_with}
use Rattle.c_tree.specs.declared.token.Lexeme.{Lexeme}
use Rattle.c_tree.specs.declared.tree.Top.{Top}
use Rattle.target_file.specs.Bare.{lines_of}
use Rattle.trips_listing_text.specs.declared.told.Told.{Told}
use Rattle.trips_listing_text.specs.Functions.{told_all}
use Rattle.trips_listing_text.specs.Comments.{comments}

-- whether a block begins with a line
unfoldable pub begins_block : List ℕ → Bool
begins_block l = starts_with nat_eq l (codes "block ")

-- the end of a line: none behind the last
abbrev pub line_end : List (List ℕ) → List ℕ
line_end [] = []
line_end (l ∷ ls) = 10 ∷ []

-- what stands before a line, behind k lines with which blocks begin
abbrev pub before : Bool → (ℕ → List ℕ) → ℕ → List ℕ
before true c k = c k
before false c k = []

-- how many such lines stand before the next
abbrev pub behind : Bool → ℕ → ℕ
behind true k = suc k
behind false k = k

-- lines with what a function tells before each with which a block begins, the first of them block k
abbrev pub listed : (ℕ → List ℕ) → ℕ → List (List ℕ) → List ℕ
listed c k [] = []
listed c k (l ∷ ls) =
    before (begins_block l) c k ++ (l ++ (line_end ls ++ listed c (behind (begins_block l) k) ls))

-- The listing of a target text, by the text of C, its tokens and its tree, and by the first blocks of its functions.
abbrev pub listing_text : List ℕ → List Lexeme → List Top → List ℕ → List ℕ → List ℕ
listing_text text tokens tree entries target =
    listed (comments entries (told_all text tokens tree)) 0 (lines_of target)
