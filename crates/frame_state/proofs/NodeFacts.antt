-- The window's events of one frame, where the instruction, the read or the place is at hand.
use Rattle.std.proofs.Common.{◌≡◌, ℕ, zero, suc, ◌+◌, ◌*◌, ◌<◌, Bool, true, false, cond, List, [], ◌∷◌, Option}
use Rattle.std.proofs.Common.{Some, None}
use Rattle.std.proofs.Common.{slice_get, set, length, refl, sym, ap, ap₂, ◌∙◌, arith}
use Rattle.std.proofs.lemmas.Bool.Decides.{nat_tests}
use Rattle.trips_isa.specs.declared.block.Inst.{Inst}
use Rattle.trips_isa.specs.declared.block.ReadSlot.{ReadSlot}
use Rattle.trips_isa.specs.declared.block.Block.{Block}
use Rattle.trips_isa.specs.declared.block.Token.TheVariants.{Word}
use Rattle.trips_isa.specs.declared.node.Node.{Node}
use Rattle.trips_isa.specs.declared.form.Form.{Form}
use Rattle.trips_isa.specs.declared.form.Form.TheVariants.{General, Immediate, Load, Store, Branch, Constant}
use Rattle.trips_isa.specs.declared.operands.Operands.{Operands}
use Rattle.trips_isa.specs.declared.operands.Operands.TheVariants.{Missing, Nulls, Words}
use Rattle.trips_isa.specs.Forms.{form_of, role_of, takes_left, takes_right}
use Rattle.trips_isa.specs.Operands.{operands, is_guarded}
use Rattle.trips_isa.specs.inside.Operands.{given_of}
use Rattle.trips_isa.specs.Rule.{Answer, matched, if_matched, gives, rule}
use Rattle.trips_isa.specs.Places.{nodes_of, inst_node, inst_nodes, read_node, place_of, place_at}
use Rattle.trips_isa.specs.Tables.{node_gives}
use Rattle.trips_isa.specs.Blocks.{computes, computes_if_read, slot_computes, is_read, inst_at}
use Rattle.trips_isa.specs.Faults.{own_fault, fault_if_read, node_fault}
use Rattle.trips_isa.specs.Marks.{node_mark, fired_mark, mark_by}
use Rattle.trips_isa.proofs.OperandFacts.{gives_is}
use Rattle.block_cases.specs.Orders.{slot_of}
use Rattle.trips_isa.specs.Stores.{stored_of}
use Rattle.commit_flush_spec.specs.Marks.{mark_on, mark_sent, mark_stored}
use Rattle.commit_flush_spec.specs.Frames.{Taken, at, slot_node, target, named_at}
use Rattle.commit_flush_spec.specs.Memory as memory
use Rattle.commit_flush_spec.specs.Memory.{with_slot, with_inst, request, taken_word, load_answered, load, with_store}
use Rattle.commit_flush_spec.specs.Sending.{send, sent, token_with, mark_with}
use Rattle.commit_flush_spec.specs.Older.{Older}
use Rattle.commit_flush_spec.specs.Dataflow.{read_answered, fire, fire_inst, fire_form, deliver, delivered}
use Rattle.commit_flush_spec.proofs.Tokens.{slot_got, read_got, slot_not_read, inst_at_is, inst_in, read_is}
use Rattle.frame_state.specs.inside.Held.{Held, as_frame, running}
use Rattle.frame_state.specs.inside.Moves.{slot_token, slot_mark, sent_to, sent_by, fired_by, fired_slot, moved}

-- marks -----------------------------------------------------------------------------------------

-- what a node gives has a mark exactly where its predicate matches
marked : (n : Node) (a own : ℕ → ℕ → ℕ) (pull : ℕ → Answer) (marks : ℕ → ℕ)
    → node_mark (Some n) own pull marks (rule n.role n.sense a (pull n.slot) (pull (128 + n.slot))
    (pull (256 + n.slot)))
    ≡ cond (matched n.sense (pull (256 + n.slot))) (fired_mark n own pull marks) 0
marked n a own pull marks = by_match (matched n.sense (pull (256 + n.slot)))
  where
    by_operands : (o : Operands) → operands n.role (pull n.slot) (pull (128 + n.slot)) ≡ o
        → node_mark (Some n) own pull marks (given_of n.role a o) ≡ fired_mark n own pull marks
    by_operands Missing e = sym (ap (λ o. mark_by own o (cond (takes_left n.role) (marks n.slot) 0)
        (cond (takes_right n.role) (marks (128 + n.slot)) 0) (cond (is_guarded n.sense) (marks (256 + n.slot)) 0)) e)
    by_operands (Nulls x y) e = refl
    by_operands (Words x y) e = refl

    by_match : (b : Bool) → node_mark (Some n) own pull marks
        (if_matched b (gives n.role a (pull n.slot) (pull (128 + n.slot))))
        ≡ cond b (fired_mark n own pull marks) 0
    by_match true =
        ap (node_mark (Some n) own pull marks) (gives_is n.role a (pull n.slot) (pull (128 + n.slot)))
        ∙ by_operands (operands n.role (pull n.slot) (pull (128 + n.slot))) refl
    by_match false = refl

-- the mark of an instruction, of the tokens and the marks at its places
abbrev pub mark_of_parts : Inst → Answer → Answer → Answer → ℕ → ℕ → ℕ → ℕ
mark_of_parts i l r p ml mr mp = cond (matched i.sense p)
    (mark_by (own_fault (Some i)) (operands (role_of i.op) l r) (cond (takes_left (role_of i.op)) ml 0)
    (cond (takes_right (role_of i.op)) mr 0) (cond (is_guarded i.sense) mp 0)) 0

-- the mark of an instruction is that of the tokens and the marks at its three places
pub marked_by : (h : Held) (i : Inst) (s : ℕ) (l r p : Answer) (ml mr mp : ℕ)
    → l ≡ at h.spots s → r ≡ at h.spots (128 + s) → p ≡ at h.spots (256 + s)
    → ml ≡ mark_on h.marks.spots s → mr ≡ mark_on h.marks.spots (128 + s) → mp ≡ mark_on h.marks.spots (256 + s)
    → mark_of_parts i l r p ml mr mp ≡ slot_mark h i s
marked_by h i s l r p ml mr mp el er ep eml emr emp =
    let same : mark_of_parts i l r p ml mr mp
    ≡ mark_of_parts i (at h.spots s) (at h.spots (128 + s)) (at h.spots (256 + s))
    (mark_on h.marks.spots s) (mark_on h.marks.spots (128 + s)) (mark_on h.marks.spots (256 + s)) =
    λ k. mark_of_parts i (el k) (er k) (ep k) (eml k) (emr k) (emp k) in
    same ∙ sym (marked (inst_node s (Some i)) (slot_computes (Some i) (λ a. 0)) (own_fault (Some i)) (at h.spots)
    (mark_on h.marks.spots))

-- the instruction of a slot ---------------------------------------------------------------------

-- what a node computes, by whether it is a read, and by what its slot holds
abbrev by_read : Block → ℕ → ℕ → Bool → ℕ → ℕ → ℕ
by_read b w x z l r = computes_if_read z b (λ a. w) x l r

abbrev by_inst : ℕ → Option Inst → ℕ → ℕ → ℕ
by_inst w i l r = slot_computes i (λ a. w) l r

abbrev fault_by : Option Inst → Bool → ℕ → ℕ → ℕ
fault_by i z l r = fault_if_read z i l r

abbrev fault_in : Option Inst → ℕ → ℕ → ℕ
fault_in i l r = own_fault i l r

module _ (b : Block) (s : ℕ) (i : Inst) (is : slot_of b s ≡ Some i) where
  pub got : slice_get (nodes_of b) (slot_node b s) ≡ Some (inst_node s (Some i))
  got = slot_got b s (inst_in b.insts.items s i is) ∙ ap (λ o. Some (inst_node s o)) is

  computes_is : (w : ℕ) → computes b (λ y a. w) (slot_node b s) ≡ slot_computes (Some i) (λ a. w)
  computes_is w = ap (by_read b w (slot_node b s)) (slot_not_read b s) ∙ ap (by_inst w) (inst_at_is b s ∙ is)

  fault_is : node_fault b (slot_node b s) ≡ own_fault (Some i)
  fault_is = ap (fault_by (inst_at b (slot_node b s))) (slot_not_read b s) ∙ ap fault_in (inst_at_is b s ∙ is)

  -- what a running frame gives at a slot's node is what its instruction gives
  pub token_is : (c : Bool) (h : Held) (w : ℕ) → token_with (as_frame c b h) (slot_node b s) w ≡ slot_token h i s w
  token_is c h w = ap₂ (λ n a. node_gives n a (at h.spots)) got (computes_is w)

  -- the mark of an instruction's node in a frame is the mark of its slot
  pub mark_is : (c : Bool) (h : Held) → mark_with (as_frame c b h) (slot_node b s) ≡ slot_mark h i s
  mark_is c h = λ k. node_mark (got k) (fault_is k) (at h.spots) (mark_on h.marks.spots) (token_is c h 0 k)

  pub send_is : (c : Bool) (h : Held) (t : Answer)
      → send (slot_node b s) (2 * s) t (as_frame c b h) ≡ as_frame c b (sent_by i s t (slot_mark h i s) h)
  send_is c h None = refl
  send_is c h (Some t) = λ k. record (as_frame c b h) {
    places = sent (got k) h.places (2 * s) t;
    marks = mark_sent (2 * s) (mark_is c h k) h.marks;
  }

-- events ----------------------------------------------------------------------------------------

-- the instruction of slot s fires, once that is noted
fires_from : (b : Block) (s : ℕ) (g : Held)
    → running b (fired_slot (slot_of b s) s g) ≡ fire_inst (slot_of b s) s (running b g)
fires_from b s g = by_slot (slot_of b s) refl
  where
    value : (i : Inst) → slot_of b s ≡ Some i
        → running b (sent_by i s (slot_token g i s 0) (slot_mark g i s) g)
        ≡ send (slot_node b s) (2 * s) (token_with (running b g) (slot_node b s) 0) (running b g)
    value i e = sym (ap (λ t. send (slot_node b s) (2 * s) t (running b g)) (token_is b s i e false g 0)
        ∙ send_is b s i e false g (slot_token g i s 0))

    by_form : (f : Form) (i : Inst) → slot_of b s ≡ Some i
        → running b (fired_by f i s g) ≡ fire_form f i s (running b g)
    by_form Load i e = refl
    by_form Store i e = refl
    by_form Branch i e = refl
    by_form General i e = value i e
    by_form Immediate i e = value i e
    by_form Constant i e = value i e

    by_slot : (i : Option Inst) → slot_of b s ≡ i
        → running b (fired_slot i s g) ≡ fire_inst i s (running b g)
    by_slot None e = refl
    by_slot (Some i) e = by_form (form_of i.op) i e

-- to fire a slot of what is held is to fire it in the frame
pub fires : (b : Block) (s : ℕ) (o : Older) (h : Held)
    → running b (fired_slot (slot_of b s) s (record h { fired = set h.fired s true })) ≡ fire s o (running b h)
fires b s o h = fires_from b s (record h { fired = set h.fired s true })

-- a token in a place comes to the place that its node names
pub comes : (b : Block) (p q : ℕ) (o : Older) (h : Held) → q ≡ target b p
    → running b (moved p q (at h.places p) h) ≡ deliver p o (running b h)
comes b p q o h e = ap (λ z. running b (moved p z (at h.places p) h)) e ∙ go (at h.places p)
  where
    go : (t : Answer) → running b (moved p (target b p) t h) ≡ delivered p t (running b h)
    go None = refl
    go (Some t) = refl

-- requests --------------------------------------------------------------------------------------

-- the slot and the instruction of a request
abbrev slot_asked : Option (ℕ × Inst) → ℕ
slot_asked None = 0
slot_asked (Some p) = p.0

abbrev inst_asked : Inst → Option (ℕ × Inst) → Inst
inst_asked d None = d
inst_asked d (Some p) = p.1

-- what waits with a number stands in its slot
pub waits_in : (b : Block) (r : Option ℕ) (s : ℕ) (i : Inst) → with_inst b r ≡ Some (s, i) → slot_of b s ≡ Some i
waits_in b None s i e = absurd (cc)
waits_in b (Some t) s i e = go (slot_of b t) refl e
  where
    go : (j : Option Inst) → slot_of b t ≡ j → with_slot t j ≡ Some (s, i) → slot_of b s ≡ Some i
    go None k z = absurd (cc)
    go (Some j) k z = ap (slot_of b) (sym (ap slot_asked z)) ∙ k ∙ ap Some (ap (inst_asked j) z)

-- a load is answered
pub answers : (b : Block) (n s w : ℕ) (i : Inst) (o : Older) (h : Held) (t : Taken)
    → request (running b h) n ≡ Some (s, i) → t ≡ memory.taken_of i (at h.spots s)
    → w ≡ taken_word o (running b h) n (memory.taken_of i (at h.spots s))
    → running b (sent_by i s (slot_token h i s w) (slot_mark h i s)
    (record h { requests = set h.requests n None; loads = set h.loads n (Some t) }))
    ≡ load n o (running b h)
answers b n s w i o h t e et ew =
    let taken : Taken = memory.taken_of i (at h.spots s) in
    let word : ℕ = taken_word o (running b h) n taken in
    let g : Held = record h { requests = set h.requests n None; loads = set h.loads n (Some taken) } in
    let is : slot_of b s ≡ Some i = waits_in b (at h.requests n) s i e in
    ap (λ z. running b (sent_by i s (slot_token h i s w) (slot_mark h i s)
    (record h { requests = set h.requests n None; loads = set h.loads n (Some z) }))) et
    ∙ ap (λ z. running b (sent_by i s (slot_token h i s z) (slot_mark h i s) g)) ew
    ∙ sym (ap (load_answered n o (running b h)) e
    ∙ ap (λ z. send (slot_node b s) (2 * s) z (running b g)) (token_is b s i is false h word)
    ∙ send_is b s i is false g (slot_token h i s word))

-- a store is resolved
pub resolves : (b : Block) (n s : ℕ) (i : Inst) (h : Held) → slot_of b s ≡ Some i
    → running b (record h {
      requests = set h.requests n None;
      stores = set h.stores n (stored_of i (at h.spots s) (at h.spots (128 + s)));
      marks = mark_stored n (slot_mark h i s) h.marks;
    }) ≡ with_store n (stored_of i (at h.spots s) (at h.spots (128 + s))) (mark_with (running b h) (slot_node b s))
    (running b h)
resolves b n s i h is =
    sym (ap (λ m. with_store n (stored_of i (at h.spots s) (at h.spots (128 + s))) m (running b h))
    (mark_is b s i is false h))

-- reads -----------------------------------------------------------------------------------------

-- a read that is there
item : (rs : List ReadSlot) (r : ℕ) → r < length rs → (slot : ReadSlot) × (slice_get rs r ≡ Some slot)
item [] r h = absurd (omega arith)
item (x ∷ rs) zero h = (x, refl)
item (x ∷ rs) (suc r) h = item rs r (omega arith)

module _ (b : Block) (r : ℕ) (slot : ReadSlot) (is : slice_get b.reads.items r ≡ Some slot) where
  read_node_got : slice_get (nodes_of b) r ≡ Some (read_node slot)
  read_node_got = read_got b.reads.items (inst_nodes 0 b.insts.items) r slot is

  is_a_read : is_read b r ≡ true
  is_a_read = let l : r < length b.reads.items = read_is b.reads.items r slot is in grind (arith, nat_tests, l)

  read_token : (h : Held) (w : ℕ) → token_with (running b h) r w ≡ Some (Word w)
  read_token h w = ap₂ (λ n a. node_gives n a (at h.spots)) read_node_got (ap (by_read b w r) is_a_read)

  read_mark : (h : Held) → mark_with (running b h) r ≡ 0
  read_mark h = λ k. node_mark (read_node_got k) (ap (fault_by (inst_at b r)) is_a_read k) (at h.spots)
      (mark_on h.marks.spots) (read_token h 0 k)

  -- the word of a read on its way
  read_sent : (w : ℕ) (g : Held) → send r (256 + 2 * r) (Some (Word w)) (running b g)
      ≡ running b (sent_to (256 + 2 * r) (place_of slot.first) (place_at slot.second) (Word w) 0 g)
  read_sent w g = λ k. record (running b g) {
    places = sent (read_node_got k) g.places (256 + 2 * r) (Word w);
    marks = mark_sent (256 + 2 * r) (read_mark g k) g.marks;
  }

-- where a read gets its word, its tokens are sent to the places that the read names, and it is answered
pub reads : (b : Block) (r w first second : ℕ) (h : Held) → r < length b.reads.items
    → first ≡ named_at (slice_get (nodes_of b) r) true → second ≡ named_at (slice_get (nodes_of b) r) false
    → running b (sent_to (256 + 2 * r) first second (Word w) 0 (record h { reads = set h.reads r true }))
    ≡ read_answered r (Some w) (running b h)
reads b r w first second h l ef es =
    let there = item b.reads.items r l in
    let slot : ReadSlot = there.0 in
    let is : slice_get b.reads.items r ≡ Some slot = there.1 in
    let g : Held = record h { reads = set h.reads r true } in
    let at_first : first ≡ place_of slot.first = ef ∙ ap (λ n. named_at n true) (read_node_got b r slot is) in
    let at_second : second ≡ place_at slot.second = es ∙ ap (λ n. named_at n false) (read_node_got b r slot is) in
    ap₂ (λ x y. running b (sent_to (256 + 2 * r) x y (Word w) 0 g)) at_first at_second
    ∙ sym (ap (λ t. send r (256 + 2 * r) t (running b g)) (read_token b r slot is h w) ∙ read_sent b r slot is w g)
