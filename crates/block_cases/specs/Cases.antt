-- The cases of a block, and what each spot gets in a case. Own: cases (docs/MACHINE.md, "Good blocks");
-- the manual asks of a compiler what they decide of a block, one token at each spot (TRIPS Processor
-- Reference Manual, UT Austin TR-05-19).
use Rattle.std.specs.Prelude.{◌≡◌, ℕ, zero, suc, ◌+◌, ◌<◌, Bool, true, false, ◌&&◌, List, [], ◌∷◌}
use Rattle.std.specs.Prelude.{slice_get, slice_index_or, length}
use Rattle.block_cases.specs.declared.token.CaseToken.{CaseToken}
use Rattle.block_cases.specs.declared.token.CaseToken.TheVariants.{Absent, Null, Bit}
use Rattle.trips_isa.specs.declared.node.Node.{Node}
use Rattle.block_cases.specs.Nodes.{targets, hits, one_if}
use Rattle.block_cases.specs.CaseRule.{fires}
use Rattle.block_cases.specs.Choosers.{is_chooser}
-- the depth at which a token is asked for, that of the machine's own tables of tokens
unfoldable pub use Rattle.trips_isa.specs.Tables.{deepest}

-- whether a token is there
abbrev pub present : CaseToken → Bool
present Absent = false
present Null = true
present (Bit v) = true

-- the bit of node x in a list of bits, and 0 past its end
abbrev pub bit : List Bool → ℕ → Bool
bit c x = slice_index_or c x false

-- the token of node x where a list gives the bits
abbrev pub token : List Node → List Bool → ℕ → CaseToken
token ns c x = fires ns (bit c) deepest x

-- whether node x has a bit of its own: it is a chooser, and it fires
abbrev pub has_bit : List Node → List Bool → ℕ → Bool
has_bit ns c x = is_chooser ns x (slice_get ns x) && present (token ns c x)

-- whether f holds of each place in a list of bits that has a 1
abbrev pub ones_pass : List Bool → (ℕ → Bool) → Bool
ones_pass [] f = true
ones_pass (true ∷ vs) f = f 0 && ones_pass vs (λ y. f (suc y))
ones_pass (false ∷ vs) f = ones_pass vs (λ y. f (suc y))

-- whether each 1 of a list of bits is the bit of a chooser that fires
abbrev pub is_case : List Node → List Bool → Bool
is_case ns c = ones_pass c (has_bit ns c)

-- the number of lists of n bits that pass a test
abbrev pub count : ℕ → (List Bool → Bool) → ℕ
count zero p = one_if (p [])
count (suc n) p = count n (λ l. p (false ∷ l)) + count n (λ l. p (true ∷ l))

-- how many cases there are
abbrev pub cases : List Node → ℕ
cases ns = count (length ns) (is_case ns)

-- how many tokens a node gives to a place that it names k times
abbrev pub weighed : CaseToken → ℕ → ℕ
weighed Absent k = 0
weighed Null k = k
weighed (Bit v) k = k

-- how many tokens place q gets, where f says what each node gives
abbrev pub tokens : List Node → (ℕ → CaseToken) → ℕ → ℕ
tokens [] f q = 0
tokens (n ∷ ns) f q = weighed (f 0) (hits (targets n) q) + tokens ns (λ y. f (suc y)) q

-- a case: a list of bits, one for each node, in which each 1 is the bit of a chooser that fires
pub record IsCase (ns : List Node) (c : List Bool) : Type 0 where
  -- one bit for each node
  pub size : length c ≡ length ns
  -- a node that is no chooser, or does not fire, has the bit 0
  pub bits : is_case ns c ≡ true

-- P holds in some case
abbrev pub InSomeCase : List Node → (List Bool → Type 0) → Type 0
InSomeCase ns P = (c : List Bool) × IsCase ns c × P c

-- in some case place q gets two tokens or more
abbrev pub GetsTwo : List Node → ℕ → Type 0
GetsTwo ns q = InSomeCase ns (λ c. 1 < tokens ns (token ns c) q)

-- in some case place q gets no token
abbrev pub GetsNone : List Node → ℕ → Type 0
GetsNone ns q = InSomeCase ns (λ c. tokens ns (token ns c) q ≡ 0)
