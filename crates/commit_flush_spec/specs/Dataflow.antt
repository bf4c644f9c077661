-- What happens to one frame as tokens move: Read, Fire and Deliver.
use Rattle.std.specs.Prelude.{ℕ, ◌+◌, ◌*◌, true, false, ◌||◌, not, [], ◌∷◌, Option, Some, None, slice_get}
use Rattle.std.specs.Prelude.{slice_set, slice_index_or, is_none}
use Rattle.trips_isa.specs.declared.block.Inst.{Inst}
use Rattle.trips_isa.specs.declared.block.ReadSlot.{ReadSlot}
use Rattle.trips_isa.specs.declared.form.Form.{Form}
use Rattle.trips_isa.specs.declared.form.Form.TheVariants.{Load, Store, Branch}
use Rattle.trips_isa.specs.Forms.{form_of}
use Rattle.trips_isa.specs.Rule.{Answer}
use Rattle.block_cases.specs.Orders.{slot_of}
use Rattle.commit_flush_spec.specs.Marks.{mark_delivered}
use Rattle.commit_flush_spec.specs.Frames.{Frame, at, first_read_place, slot_node, target, is_target}
use Rattle.commit_flush_spec.specs.Sending.{send, token_with}
use Rattle.commit_flush_spec.specs.Older.{Older}
use Rattle.commit_flush_spec.specs.Causes.{NoFrame, NoRead, NotYet, NoInst, NotReady, NoToken, Happened, judged}

-- reads ----------------------------------------------------------------------------------------

-- the word that a read is answered: its register's, where that is known
abbrev pub read_seen : Older → Option ReadSlot → Option ℕ
read_seen o None = None
read_seen o (Some r) = o.look r.register

-- why read r of a frame is not answered
abbrev pub can_read : ℕ → Older → Frame → Happened
can_read r o f = judged (
    (f.sealed, NoFrame)
    ∷ (is_none (slice_get f.code.reads.items r) || slice_index_or f.reads r false, NoRead)
    ∷ (is_none (read_seen o (slice_get f.code.reads.items r)), NotYet) ∷ [])

-- read r answered with a word, where there is one
abbrev pub read_answered : ℕ → Option ℕ → Frame → Frame
read_answered r None f = f
read_answered r (Some v) f =
    send r (first_read_place + 2 * r) (token_with f r v) (record f { reads = slice_set f.reads r true })

-- puts the tokens of read r on their way
abbrev pub read : ℕ → Older → Frame → Frame
read r o f = read_answered r (read_seen o (slice_get f.code.reads.items r)) f

-- firing ---------------------------------------------------------------------------------------

-- an instruction is ready where the rule gives a token of what has come
abbrev pub can_fire : ℕ → Older → Frame → Happened
can_fire s o f = judged (
    (f.sealed, NoFrame)
    ∷ (is_none (slot_of f.code s) || slice_index_or f.fired s false, NoInst)
    ∷ (is_none (token_with f (slot_node f.code s) 0), NotReady) ∷ [])

-- a load, a store and a branch wait; any other instruction sends its token
abbrev pub fire_form : Form → Inst → ℕ → Frame → Frame
fire_form Load i s f = record f { requests = slice_set f.requests i.number (Some s) }
fire_form Store i s f = record f { requests = slice_set f.requests i.number (Some s) }
fire_form Branch i s f = record f { leaving = Some s }
fire_form _ i s f = send (slot_node f.code s) (2 * s) (token_with f (slot_node f.code s) 0) f

-- what the instruction of slot s does as it fires
abbrev pub fire_inst : Option Inst → ℕ → Frame → Frame
fire_inst None s f = f
fire_inst (Some i) s f = fire_form (form_of i.op) i s f

-- slot s fires
abbrev pub fire : ℕ → Older → Frame → Frame
fire s o f = fire_inst (slot_of f.code s) s (record f { fired = slice_set f.fired s true })

-- delivery -------------------------------------------------------------------------------------

-- why the token in place p is not delivered
abbrev pub can_deliver : ℕ → Older → Frame → Happened
can_deliver p o f = judged (
    (f.sealed, NoToken) ∷ (is_none (at f.places p), NoToken)
    ∷ (not (is_target (target f.code p)), NoToken) ∷ [])

-- the token t of place p at its target
abbrev pub delivered : ℕ → Answer → Frame → Frame
delivered p None f = f
delivered p (Some t) f = record f {
  places = slice_set f.places p None;
  spots = slice_set f.spots (target f.code p) (Some t);
  marks = mark_delivered p (target f.code p) f.marks;
}

-- moves the token in place p to the place of the block that it goes to
abbrev pub deliver : ℕ → Older → Frame → Frame
deliver p o f = delivered p (at f.places p) f
