-- What a load takes while some of its bytes are still to be found: those of stores, the others from behind them
-- (docs/WINDOW.md, "What a frame sees").
use Rattle.std.specs.Prelude.{◌≡◌, ℕ, zero, suc, ◌+◌, ◌-◌, ◌*◌, ◌/◌, ◌%◌, ◌≤◌, false, cond}
use Rattle.std.specs.Int.{bit_at}
use Rattle.base.specs.Rows.{has_bit}
use Rattle.lsq_order.specs.declared.sought.Sought.{Sought}

-- the bits of a word; not an `abbrev`, since a numeral unrolls recursions in goals
unfoldable pub word_bits : ℕ
word_bits = 64

-- the number of these k bits, the least significant first
abbrev pub number_of : ℕ → (ℕ → ℕ) → ℕ
number_of zero bit = 0
number_of (suc k) bit = bit 0 + 2 * number_of k (λ i. bit (suc i))

-- bit i of the number that the bytes before an address make, the last one being the least significant
abbrev pub byte_bit : ℕ → (ℕ → ℕ) → ℕ → ℕ
byte_bit end mem i = bit_at (mem (end - 1 - i / 8)) (i % 8)

-- bit i of what is taken: where it is open, of the bytes that are seen behind
abbrev pub bit_taken : Sought → (ℕ → ℕ) → ℕ → ℕ
bit_taken s mem i = cond (has_bit s.wanted i) (byte_bit s.end mem i) (bit_at s.word i)

-- the number that is taken, where `mem` says the byte that is seen behind at each address
abbrev pub taken : Sought → (ℕ → ℕ) → ℕ
taken s mem = number_of word_bits (bit_taken s mem)

-- only bits of the bytes that the load wants are open
pub record IsSought (s : Sought) : Type 0 where
  pub small : s.size ≤ 8
  pub behind : s.size ≤ s.end
  pub wanted : (i : ℕ) → 8 * s.size ≤ i → has_bit s.wanted i ≡ false
