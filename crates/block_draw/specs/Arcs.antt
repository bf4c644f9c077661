-- The arcs of a drawing: from a read or an instruction to the places that it names, and between instructions, memory
-- and exits.
use Rattle.std.specs.Prelude.{ℕ, List, [], ◌++◌, Option, Some, None, codes}
use Rattle.trips_isa.specs.declared.block.Spot.{Spot}
use Rattle.trips_isa.specs.declared.block.Spot.TheVariants as spot
use Rattle.trips_isa.specs.declared.block.Inst.{Inst}
use Rattle.trips_isa.specs.declared.block.ReadSlot.{ReadSlot}
use Rattle.trips_isa.specs.declared.form.Form.{Form}
use Rattle.trips_isa.specs.declared.form.Form.TheVariants as form
use Rattle.trips_isa.specs.Forms.{form_of}
use Rattle.block_draw.specs.declared.positions.Port.{Port}
use Rattle.block_draw.specs.Positions as at
use Rattle.block_draw.specs.Shapes.{curve_text}

-- to an operand, a predicate or a write; a token goes to no other spot
abbrev pub spot_arc : Port → Spot → List ℕ
spot_arc from (spot.Left s) = curve_text (codes "left") from (at.left_port s)
spot_arc from (spot.Right s) = curve_text (codes "right") from (at.right_port s)
spot_arc from (spot.Pred s) = curve_text (codes "guard") from (at.guard_port s)
spot_arc from (spot.Write w) = curve_text (codes "write") from (at.write_port w)
spot_arc from (spot.Read r) = []
spot_arc from (spot.Inst s) = []
spot_arc from (spot.Store n) = []

-- to a spot that may not be there
abbrev pub target_arc : Port → Option Spot → List ℕ
target_arc from None = []
target_arc from (Some s) = spot_arc from s

-- those of read i
unfoldable pub read_arcs : ℕ → ReadSlot → List ℕ
read_arcs i r = spot_arc (at.read_port i) r.first ++ target_arc (at.read_port i) r.second

-- a load has one from memory, a store one to memory, a branch one to its exit
abbrev pub form_arc : Form → ℕ → ℕ → List ℕ
form_arc form.Load s n = curve_text (codes "load") (at.memory_port n) (at.load_port s)
form_arc form.Store s n = curve_text (codes "store") (at.store_port s) (at.memory_port n)
form_arc form.Branch s n = curve_text (codes "leave") (at.leave_port s) (at.exit_port n)
form_arc form.General s n = []
form_arc form.Immediate s n = []
form_arc form.Constant s n = []

-- those of the instruction in slot s
unfoldable pub inst_arcs : ℕ → Inst → List ℕ
inst_arcs s i = target_arc (at.result_port s) i.first ++ (target_arc (at.result_port s) i.second
    ++ form_arc (form_of i.op) s i.number)

-- those of slot s
abbrev pub slot_arcs : ℕ → Option Inst → List ℕ
slot_arcs s None = []
slot_arcs s (Some i) = inst_arcs s i
