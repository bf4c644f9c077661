-- The parts of a flow block, from its nodes and from what registers are named at its end.
use Rattle.std.specs.Prelude.{◌≡◌, ℕ, zero, suc, ◌+◌, ◌^◌, Bool, ◌||◌, cond, List, [], ◌∷◌, length, map}
use Rattle.ir_forms.specs.declared.flow.FlowNode.{FlowNode}
use Rattle.ir_forms.specs.declared.flow.FlowWrite.{FlowWrite}
use Rattle.ir_forms.specs.declared.flow.FlowBlock.{FlowBlock}
use Rattle.ir_forms.specs.inside.HyperCode.{Block}
use Rattle.ir_forms.specs.inside.HyperFits.{exits_in}
use Rattle.hyper_narrow.specs.declared.narrowed.Lasting.{Lasting}
use Rattle.predication.specs.declared.work.Emitted.{Emitted}
use Rattle.predication.specs.inside.Environments.{Env, member}
use Rattle.predication.specs.inside.Converted.{register_count, number_count, begun, ended, all_nodes, all_touched}
use Rattle.predication.specs.inside.Converted.{writes_below, reads_below, mask_below, among}
use Rattle.predication.specs.inside.Outcomes.{Counts}
use Rattle.predication.specs.inside.Emits.{low, env_of}

-- ONE REGISTER

-- the write of one register, where it is among some
abbrev pub write_of : Env → List ℕ → ℕ → List FlowWrite
write_of env rs r = cond (member r rs) (record { register = r; sources = (env r).given } ∷ []) []

-- REGISTERS AND NUMBERS THAT ARE FOUND

-- the registers that are found afterwards are those before and those of which f is true
abbrev pub Notes : (before after : List ℕ) → (ℕ → Bool) → Type 0
Notes before after f = (r : ℕ) (b : Bool) → (member r after || b) ≡ (member r before || (f r || b))

-- one register, where it is found
abbrev pub member_of : List ℕ → ℕ → List ℕ
member_of found r = cond (member r found) (r ∷ []) []

-- the registers below n that are found
abbrev pub members_below : List ℕ → ℕ → List ℕ
members_below found zero = []
members_below found (suc n) =
    cond (member n found) (n ∷ members_below found n) (members_below found n)

-- the bits of the numbers below n that are found
abbrev pub mask_members : List ℕ → ℕ → ℕ
mask_members found zero = 0
mask_members found (suc k) = mask_members found k + cond (member k found) (2 ^ k) 0

-- ALL OF THEM

-- a write for each of some registers
unfoldable pub writes_of : Env → List ℕ → List FlowWrite
writes_of env rs = writes_below env rs register_count

-- the registers whose word at the block's begin some operand or write takes
unfoldable pub reads_of : List FlowNode → List FlowWrite → List ℕ
reads_of ns ws = reads_below ns ws register_count

-- the mask of the block: the numbers of its stores
unfoldable pub mask_of : List FlowNode → ℕ
mask_of ns = mask_below ns number_count

-- the flow block of nodes, of the entries at their end, and of the registers that are written
abbrev pub flow_of : List FlowNode → Env → List ℕ → FlowBlock
flow_of ns env rs = record {
  nodes = ns;
  reads = reads_of ns (writes_of env rs);
  writes = writes_of env rs;
  mask = mask_of ns;
}

-- COUNTS

-- the counts of a flow block, whose numbers and exits were counted as they were emitted
abbrev pub counts_by : FlowBlock → ℕ → ℕ → Counts
counts_by f numbers exits = record {
  insts = length f.nodes;
  reads = length f.reads;
  writes = length f.writes;
  numbers = numbers;
  exits = exits;
}

-- the flow block of all that is emitted, of which the registers are written that outlast the block
abbrev pub flow_in : Lasting → Emitted → FlowBlock
flow_in set e = flow_of e.nodes (env_of e.names.entries) (among set e.names.sets)

-- what the code compares with the machine's limits
abbrev pub counts_in : Lasting → Emitted → Counts
counts_in set e = counts_by (flow_in set e) e.numbers e.exits

-- all of a block is emitted
pub record IsEmitted (b : Block) (e : Emitted) : Type 0 where
  -- with numbers modulo 256
  pub nodes : e.nodes ≡ map low (all_nodes b)
  pub env : env_of e.names.entries ≡ (ended b).env
  pub sets : e.names.sets ≡ all_touched b
  pub numbers : e.numbers ≡ (begun b).number
  pub exits : e.exits ≡ exits_in b.tail
