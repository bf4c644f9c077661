-- Which registers are alive at the entry of each block: a table that is guessed, and judged by one look at each
-- block.
use Rattle.std.specs.Prelude.{◌≡◌, ℕ, false, bit_or, List, [], ◌∷◌, Option, Some, None, slice_get}
use Rattle.ir_forms.specs.declared.hyper.Exit.{Exit}
use Rattle.ir_forms.specs.declared.hyper.Exit.TheVariants as exit
use Rattle.ir_forms.specs.inside.HyperCode.{Tail, Leave, Test, Block}
use Rattle.ir_forms.specs.inside.HyperRuns.{block_at}
use Rattle.hyper_narrow.specs.declared.narrowed.Lasting.TheVariants.{Those}
use Rattle.hyper_narrow.specs.inside.NarrowedCode.{Narrowed}
use Rattle.hyper_trim.specs.inside.Sets.{bit, without, read_by, Within}
use Rattle.hyper_trim.specs.inside.Trim.{Trimmed, ended, trim}

-- an entry, or the first where there is none
abbrev pub alive_or : ℕ → Option ℕ → ℕ
alive_or first None = first
alive_or first (Some a) = a

-- What a table says of a label. Where no block stands the run goes to block 0, and so does the table.
abbrev pub alive_at : List ℕ → ℕ → ℕ
alive_at [] l = 0
alive_at (a ∷ T) l = alive_or a (slice_get (a ∷ T) l)

-- Before an exit; `ret` is alive behind every return. A return reads register 2, which a call sets, and a system call
-- registers 0 and 3.
abbrev pub live_exit : List ℕ → ℕ → Exit → ℕ
live_exit T ret (exit.Jump l) = alive_at T l
live_exit T ret (exit.Call l back) = without (alive_at T l) (bit 2)
live_exit T ret exit.Return = bit_or ret (bit 2)
live_exit T ret (exit.System l) = bit_or (alive_at T l) (bit_or (bit 0) (bit 3))

-- before the tests of a tail
abbrev pub live_tail : List ℕ → ℕ → Tail → ℕ
live_tail T ret (Leave e) = live_exit T ret e
live_tail T ret (Test x one other) = bit_or (bit_or (live_tail T ret one) (live_tail T ret other)) (read_by x)

-- What outlasts a block that takes an exit: what is alive where it leads. A call sets register 2 for what follows,
-- and a return goes by it as the items left it.
abbrev pub lasting_exit : List ℕ → ℕ → Exit → ℕ
lasting_exit T ret (exit.Jump l) = alive_at T l
lasting_exit T ret (exit.Call l back) = alive_at T l
lasting_exit T ret exit.Return = ret
lasting_exit T ret (exit.System l) = bit_or (alive_at T l) (bit_or (bit 0) (bit 3))

-- a block with such a tail; its tests see every register as the items left it
abbrev pub lasting_tail : List ℕ → ℕ → Tail → ℕ
lasting_tail T ret (Leave e) = lasting_exit T ret e
lasting_tail T ret (Test x one other) = bit_or (lasting_tail T ret one) (lasting_tail T ret other)

-- a block's items trimmed, and what is alive at its entry
abbrev pub trim_items : List ℕ → ℕ → Block → Trimmed
trim_items T ret b = trim false b.items (ended (live_tail T ret b.tail))

-- a block without the items that set what nobody reads
abbrev pub trim_block : List ℕ → ℕ → Block → Block
trim_block T ret b = record { items = (trim_items T ret b).items; tail = b.tail }

-- and with what outlasts it
abbrev pub narrow_block : List ℕ → ℕ → Block → Narrowed
narrow_block T ret b = record { block = trim_block T ret b; lasting = Those (lasting_tail T ret b.tail) }

-- The table has, for each block, all that is alive at its entry by what the table says of the blocks that follow it.
-- A return may lead to every block.
pub record IsClosed (T : List ℕ) (ret : ℕ) (P : List Block) : Type 0 where
  pub blocks : (l : ℕ) → Within (trim_items T ret (block_at P l)).live (alive_at T l)
  pub returns : (l : ℕ) → Within (alive_at T l) ret

-- each entry is within a set
abbrev pub AllWithin : List ℕ → ℕ → Type 0
AllWithin T ret = (k a : ℕ) → slice_get T k ≡ Some a → Within a ret

-- as many entries as blocks, each with what is alive at the entry of its block
abbrev pub HasBlocks : List ℕ → ℕ → List ℕ → List Block → Type 0
HasBlocks T ret entries P =
    (k a : ℕ) (b : Block) → slice_get entries k ≡ Some a → slice_get P k ≡ Some b → Within (trim_items T ret b).live a
