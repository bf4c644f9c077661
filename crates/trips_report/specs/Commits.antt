-- The committed blocks of a run by their numbers, as a report shows them.
use Rattle.std.specs.Prelude.{ℕ, zero, suc, ◌+◌, ◌==◌, nat_lt, cond, List, [], ◌∷◌, ◌++◌, codes, decimal}
use Rattle.trips_isa.specs.declared.run.Traced.{Traced}

-- how many blocks of a trace have this number
abbrev pub commits_of : ℕ → List Traced → ℕ
commits_of k [] = 0
commits_of k (t ∷ ts) = cond (t.block == k) 1 0 + commits_of k ts

-- the greater one of two numbers
abbrev pub greater : ℕ → ℕ → ℕ
greater a b = cond (nat_lt a b) b a

-- the lowest number above those of all blocks of a trace
abbrev pub above : List Traced → ℕ
above [] = 0
above (t ∷ ts) = greater (suc t.block) (above ts)

-- the line of a block that was committed so often, as `block 4 committed 17`; none of one that never was
unfoldable pub commit_line : ℕ → ℕ → List ℕ
commit_line k zero = []
commit_line k (suc n) = codes "block " ++ (decimal k ++ (codes " committed " ++ (decimal (suc n) ++ 10 ∷ [])))

-- the lines of the blocks of the lowest n numbers, in order, each committed so often
abbrev pub lines_below : (ℕ → ℕ) → ℕ → List ℕ
lines_below often zero = []
lines_below often (suc n) = lines_below often n ++ commit_line n (often n)

-- a line for each number that blocks of a trace have, in order
abbrev pub commit_lines : List Traced → List ℕ
commit_lines trace = lines_below (λ k. commits_of k trace) (above trace)

-- the sum of the lowest n numbers of a row
abbrev pub sum_below : (ℕ → ℕ) → ℕ → ℕ
sum_below often zero = 0
sum_below often (suc n) = sum_below often n + often n
