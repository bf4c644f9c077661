-- Reading the words of a header.
use Rattle.std.specs.Prelude.{ℕ, ◌+◌, ◌*◌, ◌/◌, ◌%◌, List, [], ◌∷◌}
use Rattle.std.specs.Prelude.{Bool, ◌&&◌, ◌||◌, not, nat_le, nat_lt, ◌==◌}

-- the info bits of all words, after those of the words before
abbrev pub info_from : ℕ → List ℕ → ℕ
info_from info [] = info
info_from info (w ∷ ws) = info_from (info * 4 + w / 1073741824) ws

-- the number of reads that the info bits state, be it too great or not
abbrev pub reads_in : ℕ → ℕ
reads_in info = info / 67108864 % 64

-- that of writes, in the same way
abbrev pub writes_in : ℕ → ℕ
writes_in info = info / 1048576 % 64

-- and that of body chunks
abbrev pub chunks_in : ℕ → ℕ
chunks_in info = info / 131072 % 8

-- at most 32 reads, 32 writes, from 1 to 4 body chunks, and zeros
abbrev pub is_good_info : ℕ → Bool
is_good_info info =
    nat_le (reads_in info) 32 && nat_le (writes_in info) 32 && nat_lt 0 (chunks_in info) && nat_le
    (chunks_in info) 4
    && (info % 131072 == 0)

-- fields past the counts, and at word 16 the info bits
unfoldable pub is_bad : ℕ → ℕ → ℕ → Bool
is_bad info i w =
    (nat_le (reads_in info) i && not (w / 128 % 8388608 == 0)) ||
    (nat_le (writes_in info) i && not (w % 128 == 0))
    || (i == 16 && not (is_good_info info))
