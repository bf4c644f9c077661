-- The chains of a hash table, which run through the bindings.
use Rattle.std.specs.Prelude.{◌≡◌, ℕ, ◌*◌, ◌/◌, ◌%◌, ◌^◌, ◌-◌, nat_eq, cond, List, [], ◌∷◌, length}
use Rattle.std.specs.Prelude.{Option, Some, None, slice_index_or, fold, bit_and, bit_xor}
use Rattle.c_type_expr.specs.declared.meaning.Entry.{Entry}
use Rattle.c_type_expr.specs.declared.entries.TheConstants.{MULTIPLIER}

-- the number of a name that has one more byte
abbrev pub with_byte : ℕ → ℕ → ℕ
with_byte number byte = (bit_xor number byte * MULTIPLIER) % 2 ^ 64

-- the number of a name: the upper half of 64 bits, in which each byte counts
unfoldable pub number_of : List ℕ → ℕ
number_of name = fold with_byte 0 name / 2 ^ 32

-- the chain of a name, of so many
unfoldable pub chain_of : ℕ → List ℕ → ℕ
chain_of count name = bit_and (number_of name) (count - 1)

-- the place of the newest entry of a chain, of entries from the newest on
abbrev pub head_in : ℕ → List Entry → ℕ → Option ℕ
head_in count [] k = None
head_in count (e ∷ es) k =
    cond (nat_eq (chain_of count e.binding.name) k) (Some (length es)) (head_in count es k)

-- each entry knows the next older one of its chain
abbrev pub Chained : ℕ → List Entry → Type 0
Chained count [] = Unit {0}
Chained count (e ∷ es) =
    (e.older ≡ head_in count es (chain_of count e.binding.name)) × Chained count es

-- of so many chains the heads are the places of the newest entries
pub record KeptIn (count : ℕ) (es : List Entry) (heads : List (Option ℕ)) : Type 0 where
  pub chained : Chained count es
  pub finds : (k : ℕ) → slice_index_or heads k None ≡ head_in count es k

-- the chains, of which each has a head
abbrev pub Kept : List Entry → List (Option ℕ) → Type 0
Kept es heads = KeptIn (length heads) es heads
