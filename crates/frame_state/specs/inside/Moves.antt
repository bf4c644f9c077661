-- What the events of a frame do to what it holds, where the instruction is at hand.
use Rattle.std.specs.Prelude.{◌≡◌, ℕ, suc, ◌+◌, ◌*◌, Bool, Option, Some, None, is_none, true, slice_set}
use Rattle.trips_isa.specs.declared.block.Token.{Token}
use Rattle.trips_isa.specs.declared.block.Block.{Block}
use Rattle.trips_isa.specs.declared.block.Inst.{Inst}
use Rattle.trips_isa.specs.declared.form.Form.{Form}
use Rattle.trips_isa.specs.declared.form.Form.TheVariants.{Load, Store, Branch}
use Rattle.trips_isa.specs.Forms.{form_of, role_of}
use Rattle.trips_isa.specs.Rule.{Answer, rule}
use Rattle.trips_isa.specs.Places.{inst_node, first_place, place_at}
use Rattle.trips_isa.specs.Blocks.{slot_computes}
use Rattle.trips_isa.specs.Faults.{own_fault}
use Rattle.trips_isa.specs.Marks.{node_mark}
use Rattle.commit_flush_spec.specs.Marks.{mark_on, mark_sent, mark_delivered}
use Rattle.commit_flush_spec.specs.Frames.{at, is_target, emptied, target}
use Rattle.commit_flush_spec.specs.Sending.{put_if}
use Rattle.frame_state.specs.inside.Held.{Held}

-- what the instruction i of slot s gives of what has come, where w is the word that a load is answered
abbrev pub slot_token : Held → Inst → ℕ → ℕ → Answer
slot_token h i s w = rule (role_of i.op) i.sense (slot_computes (Some i) (λ a. w))
    (at h.spots s) (at h.spots (128 + s)) (at h.spots (256 + s))

-- its mark
abbrev pub slot_mark : Held → Inst → ℕ → ℕ
slot_mark h i s = node_mark (Some (inst_node s (Some i))) (own_fault (Some i)) (at h.spots)
    (mark_on h.marks.spots) (slot_token h i s 0)

-- a token with its mark c, on its way from place p on to the places that are named
abbrev pub sent_to : ℕ → ℕ → ℕ → Token → ℕ → Held → Held
sent_to p first second t c h = record h {
  places = put_if (is_target second) (put_if (is_target first) h.places p t) (suc p) t;
  marks = mark_sent p c h.marks;
}

-- the token of the instruction i of slot s, where it gives one, on its way
abbrev pub sent_by : Inst → ℕ → Answer → ℕ → Held → Held
sent_by i s None c h = h
sent_by i s (Some t) c h =
    sent_to (2 * s) (first_place (form_of i.op) i.number i.first) (place_at i.second) t c h

-- the instruction i of slot s, of a form, fires: a load, a store and a branch wait
abbrev pub fired_by : Form → Inst → ℕ → Held → Held
fired_by Load i s h = record h { requests = slice_set h.requests i.number (Some s) }
fired_by Store i s h = record h { requests = slice_set h.requests i.number (Some s) }
fired_by Branch i s h = record h { leaving = Some s }
fired_by _ i s h = sent_by i s (slot_token h i s 0) (slot_mark h i s) h

-- what slot s holds fires
abbrev pub fired_slot : Option Inst → ℕ → Held → Held
fired_slot None s h = h
fired_slot (Some i) s h = fired_by (form_of i.op) i s h

-- the instruction i of slot s fires where it gives a token, and else nothing happens
abbrev pub fired_if : Answer → Inst → ℕ → Held → Held
fired_if None i s h = h
fired_if (Some t) i s h = fired_by (form_of i.op) i s (record h { fired = slice_set h.fired s true })

-- the token of place p comes to place q of the block
abbrev pub moved : ℕ → ℕ → Answer → Held → Held
moved p q None h = h
moved p q (Some t) h = record h {
  places = slice_set h.places p None;
  spots = slice_set h.spots q (Some t);
  marks = mark_delivered p q h.marks;
}

-- whether the place of the block is empty to which the token in place p goes
abbrev pub finds_room : Block → ℕ → Held → Bool
finds_room b p h = is_none (at h.spots (target b p))

-- each token that has come stays where it is
abbrev pub KeepsSpots : Held → Held → Type 0
KeepsSpots old new = (q : ℕ) (t : Token) → at old.spots q ≡ Some t → at new.spots q ≡ Some t

-- no token stays on its way and nothing waits
abbrev pub closed : Held → Held
closed h = record h {
  places = emptied h.places;
  requests = emptied h.requests;
  leaving = None;
}
