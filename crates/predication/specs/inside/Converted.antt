-- The flow block of a narrowed block: guards in place of branches, each register's sources merged.
use Rattle.std.specs.Prelude.{ℕ, zero, suc, ◌+◌, ◌^◌, Bool, false, nat_eq, cond, ◌||◌, List, [], ◌∷◌}
use Rattle.std.specs.Prelude.{◌++◌, length, None}
use Rattle.trips_isa.specs.declared.form.Form.{Form}
use Rattle.trips_isa.specs.declared.form.Form.TheVariants as form
use Rattle.trips_isa.specs.Forms.{form_of}
use Rattle.ir_forms.specs.declared.flow.FlowSource.{FlowSource}
use Rattle.ir_forms.specs.declared.flow.FlowSource.TheVariants.{Read, Node}
use Rattle.ir_forms.specs.declared.flow.FlowNode.{FlowNode}
use Rattle.ir_forms.specs.declared.flow.FlowWrite.{FlowWrite}
use Rattle.ir_forms.specs.declared.flow.FlowBlock.{FlowBlock}
use Rattle.ir_forms.specs.inside.HyperCode.{Block}
use Rattle.hyper_narrow.specs.declared.narrowed.Lasting.{Lasting}
use Rattle.hyper_narrow.specs.declared.narrowed.Lasting.TheVariants.{Every, Those}
use Rattle.hyper_narrow.specs.inside.NarrowedCode.{Narrowed, is_among}
use Rattle.predication.specs.inside.Environments.{Env, no_bits, at_start, member}
use Rattle.predication.specs.inside.Ifs.{Out, items, touched}
use Rattle.predication.specs.inside.Tails.{Ending, tail, tail_touched}

-- how many registers and how many load/store numbers there are
abbrev pub register_count : ℕ
register_count = 128

-- so many loads and stores of a block have numbers of their own, of five bits
abbrev pub number_count : ℕ
number_count = 32

-- THE NODES

-- the items, from the block's start on
abbrev pub begun : Block → Out
begun b = items None 0 0 at_start no_bits b.items

-- the end, after the items
abbrev pub ended : Block → Ending
ended b = tail None (length (begun b).nodes) 0 (begun b).env (begun b).bits b.tail

-- the nodes of the items, and behind them those of the tests and exits
abbrev pub all_nodes : Block → List FlowNode
all_nodes b = (begun b).nodes ++ (ended b).nodes

-- the registers that the block sets on some path
abbrev pub all_touched : Block → List ℕ
all_touched b = touched b.items ++ tail_touched b.tail

-- WRITES

-- those of some registers that are in a set
abbrev pub chosen : ℕ → List ℕ → List ℕ
chosen set [] = []
chosen set (r ∷ rs) = cond (is_among set r) (r ∷ chosen set rs) (chosen set rs)

-- those of some registers that outlast a block
abbrev pub among : Lasting → List ℕ → List ℕ
among Every rs = rs
among (Those set) rs = chosen set rs

-- the registers that the block writes: it sets them on some path, and they outlast it
abbrev pub all_written : Narrowed → List ℕ
all_written c = among c.lasting (all_touched c.block)

-- the registers below n that are written, each once
abbrev pub writes_below : Env → List ℕ → ℕ → List FlowWrite
writes_below env rs zero = []
writes_below env rs (suc n) =
    cond (member n rs)
    (record { register = n; sources = (env n).given } ∷ writes_below env rs n)
    (writes_below env rs n)

-- READS

-- whether a source is the read of register r
abbrev pub reads_in : List FlowSource → ℕ → Bool
reads_in [] r = false
reads_in (Read q ∷ ss) r = nat_eq q r || reads_in ss r
reads_in (Node j ∷ ss) r = reads_in ss r

-- whether an operand of some nodes takes the word that register r has when the block begins
abbrev pub nodes_read : List FlowNode → ℕ → Bool
nodes_read [] r = false
nodes_read (n ∷ rest) r = reads_in n.left r || (reads_in n.right r || nodes_read rest r)

-- whether a write hands that word on
abbrev pub writes_read : List FlowWrite → ℕ → Bool
writes_read [] r = false
writes_read (w ∷ rest) r = reads_in w.sources r || writes_read rest r

-- the registers below n that some source reads
abbrev pub reads_below : List FlowNode → List FlowWrite → ℕ → List ℕ
reads_below ns ws zero = []
reads_below ns ws (suc n) =
    cond (nodes_read ns n || writes_read ws n) (n ∷ reads_below ns ws n) (reads_below ns ws n)

-- THE MASK

-- whether a node is the store of number k
abbrev pub stores_as : Form → FlowNode → ℕ → Bool
stores_as form.Store n k = nat_eq n.number k
stores_as _ n k = false

-- whether some store has the number k
abbrev pub has_store : List FlowNode → ℕ → Bool
has_store [] k = false
has_store (n ∷ rest) k = stores_as (form_of n.op) n k || has_store rest k

-- the bits of the numbers below n that stores have
abbrev pub mask_below : List FlowNode → ℕ → ℕ
mask_below ns zero = 0
mask_below ns (suc k) = mask_below ns k + cond (has_store ns k) (2 ^ k) 0

-- THE BLOCK

-- the flow block of a narrowed block
abbrev pub predicated : Narrowed → FlowBlock
predicated c = record {
  nodes = all_nodes c.block;
  reads = reads_below (all_nodes c.block)
      (writes_below (ended c.block).env (all_written c) register_count) register_count;
  writes = writes_below (ended c.block).env (all_written c) register_count;
  mask = mask_below (all_nodes c.block) number_count;
}
