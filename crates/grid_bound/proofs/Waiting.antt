-- What waits with a number has its address, which is the one of any table of what has come.
use Rattle.std.proofs.Common.{◌≡◌, ◌≢◌, ℕ, ◌+◌, Some, None, true, is_some, slice_get, List, refl, sym, ap, ◌∙◌}
use Rattle.trips_isa.specs.declared.block.Inst.{Inst}
use Rattle.trips_isa.specs.declared.block.Block.{Block}
use Rattle.trips_isa.specs.declared.op.Op.{Op}
use Rattle.trips_isa.specs.declared.form.Form.{Form}
use Rattle.trips_isa.specs.declared.form.Form.TheVariants as form
use Rattle.trips_isa.specs.Forms.{form_of, role_in, role_of, takes_left}
use Rattle.trips_isa.specs.Places.{nodes_of, inst_node}
use Rattle.trips_isa.specs.Rule.{Answer, matched, rule}
use Rattle.trips_isa.specs.Tables.{node_gives}
use Rattle.trips_isa.specs.Blocks.{computes, at_place}
use Rattle.block_cases.specs.Orders.{slot_of}
use Rattle.commit_flush_spec.specs.Frames.{Frame, at, slot_node}
use Rattle.commit_flush_spec.specs.Older.{Older}
use Rattle.commit_flush_spec.specs.Sending.{token_with}
use Rattle.commit_flush_spec.specs.inside.Invariant.{Below, FrameOk, Asked}
use Rattle.commit_flush_spec.proofs.Lists.{below_is}
use Rattle.commit_flush_spec.specs.inside.Observers.{has_number}
use Rattle.commit_flush_spec.proofs.Producers.{node_of_slot}
use Rattle.commit_flush_spec.proofs.Search.{some_is}
use Rattle.grid_bound.proofs.CourseSpots.{gives_left, if_parts, some_there}

-- loads and stores have an address
takes_address : (k : Form) (op : Op) → has_number k ≡ true → takes_left (role_in k op) ≡ true
takes_address form.Load op h = refl
takes_address form.Store op h = refl
takes_address form.General op h = absurd (cc)
takes_address form.Immediate op h = absurd (cc)
takes_address form.Branch op h = absurd (cc)
takes_address form.Constant op h = absurd (cc)

-- an instruction that gives a token, and takes a left operand, has it
left_there : (e : Frame) (s : ℕ) (i : Inst) → slot_of e.code s ≡ Some i → token_with e (slot_node e.code s) 0 ≢ None
    → takes_left (role_of i.op) ≡ true → at e.spots s ≢ None
left_there e s i z n l =
    let here : slice_get (nodes_of e.code) (slot_node e.code s) ≡ Some (inst_node s (Some i)) =
    node_of_slot e.code s i z in
    let some : is_some (rule (role_of i.op) i.sense (computes e.code (λ y z. 0) (slot_node e.code s)) (at e.spots s)
    (at e.spots (128 + s)) (at e.spots (256 + s))) ≡ true =
    sym (ap (λ m. is_some (node_gives m (computes e.code (λ y z. 0) (slot_node e.code s)) (at e.spots))) here)
    ∙ some_is _ n in
    let k = if_parts (matched i.sense (at e.spots (256 + s))) _ some in
    some_there (at e.spots s)
    (gives_left (role_of i.op) (computes e.code (λ y z. 0) (slot_node e.code s)) (at e.spots s)
    (at e.spots (128 + s)) k.1 l)

-- what waits with a number has its address, which is that of the table
pub address_came : (blocks : List Block) (o : Older) (e : Frame) → FrameOk blocks o e
    → ((n s : ℕ) → at e.requests n ≡ Some s → (i : Inst) → slot_of e.code s ≡ Some i
    → has_number (form_of i.op) ≡ true) → (t : ℕ → Answer)
    → ((q : ℕ) → Below (at e.spots q) (at_place e.code t q)) → (s n : ℕ) → at e.requests n ≡ Some s
    → at e.spots s ≡ at_place e.code t s
address_came blocks o e ok numbered t below s n w =
    let a : Asked e n s = ok.asked n s w in
    below_is (at e.spots s) (at_place e.code t s) (below s)
    (left_there e s a.inst a.is_inst a.ready
    (takes_address (form_of (a.inst).op) (a.inst).op (numbered n s w a.inst a.is_inst)))
