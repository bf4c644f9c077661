-- What a flow block comes to, as the outcome of a machine block, and when a machine block means it.
use Rattle.std.specs.Prelude.{◌≡◌, ℕ, suc, ◌+◌, cond, List, [], ◌∷◌, ◌++◌, slice_index, map, length}
use Rattle.std.specs.Prelude.{Option, Some, None}
use Rattle.trips_isa.specs.declared.form.Form.{Form}
use Rattle.trips_isa.specs.declared.block.Token.{Token}
use Rattle.trips_isa.specs.declared.block.Token.TheVariants.{Word}
use Rattle.trips_isa.specs.declared.block.Inst.{Inst}
use Rattle.trips_isa.specs.declared.block.Block.{Block}
use Rattle.trips_isa.specs.Rule.{Answer, matched}
use Rattle.trips_isa.specs.Forms.{form_of, size_of}
use Rattle.trips_isa.specs.Stores.{address_of}
use Rattle.trips_isa.specs.declared.form.Form.TheVariants.{Load, Store}
use Rattle.trips_isa.specs.Tables.{deepest}
use Rattle.trips_isa.specs.Blocks.{Leaving, at_place, token_of}
use Rattle.trips_isa.specs.Outcomes.{Effects, or_null, all_stores, exit_of, is_system, next_of}
use Rattle.trips_isa.specs.Outcomes.{plain}
use Rattle.ir_forms.specs.declared.flow.FlowWrite.{FlowWrite}
use Rattle.ir_forms.specs.declared.flow.FlowBlock.{FlowBlock}
use Rattle.ir_forms.specs.inside.FlowRuns.{AtStart, first, stores, exits, fired, written}
use Rattle.trips_isa.specs.Machine.{write_all}
use Rattle.fan_out.specs.inside.Targeted.{register_of}
use Rattle.trips_isa.specs.inside.Acts.{Act, Divided, Accessed}
use Rattle.trips_isa.specs.Faults.{divides}

-- the tokens of some writes, null where none comes
abbrev pub write_tokens : (ℕ → ℕ) → (ℕ → Answer) → List FlowWrite → List Token
write_tokens regs h [] = []
write_tokens regs h (w ∷ rest) = or_null (first regs h w.sources) ∷ write_tokens regs h rest

-- the first of the branches that fire
abbrev pub head_of : List (Inst × Token) → Leaving
head_of [] = None
head_of (e ∷ rest) = Some e

-- the exit that is taken
abbrev pub leaving : (ℕ → Answer) → FlowBlock → Leaving
leaving h f = head_of (exits h 0 f.nodes)

-- what a flow block comes to as block k, where h gives the token of each node
abbrev pub flow_outcome : List Block → ℕ → FlowBlock → (ℕ → ℕ) → (ℕ → Answer) → Effects
flow_outcome blocks k f regs h = record {
  writes = write_tokens regs h f.writes;
  stores = all_stores (stores regs h f.nodes);
  exit = exit_of (leaving h f);
  system = is_system (leaving h f);
  successor = next_of blocks k (leaving h f);
}

-- from every entry state the block comes to what each table of the flow block comes to
abbrev pub MeansFlow : FlowBlock → Block → Type 0
MeansFlow f b = (regs mem : List ℕ) (h : ℕ → Answer) → AtStart (slice_index regs) mem h f
    → (blocks : List Block) (k : ℕ)
    → plain blocks k b regs mem ≡ flow_outcome blocks k f (slice_index regs) h

-- what a machine block does that can fault -------------------------------------------------------

-- what an instruction of a form does on words that can fault: an access or a division
abbrev pub inst_act_words : Form → Inst → ℕ → ℕ → List Act
inst_act_words Load i l r = Accessed (address_of i l) (size_of i.op) ∷ []
inst_act_words Store i l r = Accessed (address_of i l) (size_of i.op) ∷ []
inst_act_words _ i l r = cond (divides i.op) (Divided r ∷ []) []

-- a load has one operand
abbrev pub inst_act_tokens : Form → Inst → Answer → Answer → List Act
inst_act_tokens Load i (Some (Word l)) r = inst_act_words Load i l 0
inst_act_tokens form i (Some (Word l)) (Some (Word r)) = inst_act_words form i l r
inst_act_tokens form i l r = []

-- what slot j does that can fault: only what fires does something
abbrev pub slot_acts : (ℕ → Answer) → ℕ → Option Inst → List Act
slot_acts at j None = []
slot_acts at j (Some i) = cond (matched i.sense (at (256 + j)))
    (inst_act_tokens (form_of i.op) i (at j) (at (128 + j))) []

-- the slots that fire and can fault, in order, where `at` says what stands at each place
abbrev pub slots_acts : (ℕ → Answer) → ℕ → List (Option Inst) → List Act
slots_acts at j [] = []
slots_acts at j (i ∷ is) = slot_acts at j i ++ slots_acts at (suc j) is

-- what a block does that can fault in an entry state, slot by slot
abbrev pub acts_by_slot : Block → List ℕ → List ℕ → List Act
acts_by_slot b regs mem = slots_acts (at_place b (token_of b regs mem deepest)) 0 b.insts.items

-- the same operations that can fault are done, in the same order
abbrev pub FaultsAsFlow : FlowBlock → Block → Type 0
FaultsAsFlow f b = (regs mem : List ℕ) (h : ℕ → Answer) → AtStart (slice_index regs) mem h f
    → acts_by_slot b regs mem ≡ fired (slice_index regs) h f.nodes

-- the registers after the writes of an outcome are those of the flow block
abbrev pub WritesAsFlow : FlowBlock → Type 0
WritesAsFlow f = (regs : List ℕ) (h : ℕ → Answer) (r : ℕ) → length regs ≡ 128
    → slice_index (write_all regs (map register_of f.writes)
    (write_tokens (slice_index regs) h f.writes)) r ≡ written (slice_index regs) h f.writes r
