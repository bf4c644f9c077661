-- What a running frame holds tells which of its steps may be taken; and how many numbers each step has.
use Rattle.std.proofs.Common.{◌≡◌, ℕ, zero, suc, ◌<◌, ◌≤◌, Bool, true, false, not, ◌&&◌, ◌||◌, List, [], ◌∷◌, length}
use Rattle.std.proofs.Common.{slice_get, slice_index_or}
use Rattle.std.proofs.Common.{Option, Some, None, is_some, is_none, sym, ap, ◌∙◌, subst, true≢false, refl, arith}
use Rattle.trips_isa.specs.declared.block.Block.{Block}
use Rattle.trips_isa.specs.declared.form.Form.{Form}
use Rattle.trips_isa.specs.Forms.{is_load, is_store}
use Rattle.trips_isa.specs.declared.block.ReadSlot.{ReadSlot}
use Rattle.trips_isa.specs.Machine.{State}
use Rattle.trips_isa.specs.Rule.{Answer}
use Rattle.block_cases.specs.Orders.{slot_of}
use Rattle.commit_flush_spec.specs.Frames.{at, slot_node, target, is_target}
use Rattle.commit_flush_spec.specs.Memory.{is_request, with_inst}
use Rattle.commit_flush_spec.specs.Sending.{token_with}
use Rattle.commit_flush_spec.specs.Older.{Older, committed}
use Rattle.commit_flush_spec.specs.Causes.{NoFrame, NoRead, NotYet, NoInst, NotReady, NoToken, NoRequest, judged}
use Rattle.commit_flush_spec.specs.Dataflow.{read_seen}
use Rattle.frame_state.specs.inside.Held.{Held, running}
use Rattle.frame_state.specs.inside.Shapes.{is_ready}
use Rattle.commit_flush_spec.specs.inside.NextEvent.{is_done, places, slots, reads}
use Rattle.commit_flush_spec.proofs.Stuck.{numbers_are}
use Rattle.commit_flush.specs.declared.step.Step.{Step}
use Rattle.commit_flush.specs.declared.step.Step.TheVariants.{Token, Firing, Read, Store, Load}
use Rattle.commit_flush.specs.inside.Steps.{count_of, is_next}

-- how many numbers there are ----------------------------------------------------------------------

-- there are 128 slots
pub slots_are : slots ≡ 128
unfolding slots
slots_are = refl

-- a block has at most 32 reads
pub reads_are : reads ≡ 32
unfolding reads
reads_are = refl

-- a frame has 320 places for tokens on their way
pub places_are : places ≡ 320
unfolding places
places_are = refl

-- the number of a step fits a byte where it is no place
pub small : (t : Step) (k : ℕ) → k < count_of t → k < 320
small Token k l = let e = places_are in omega (arith, l, e)
small Firing k l = let e = slots_are in omega (arith, l, e)
small Read k l = let e = reads_are in omega (arith, l, e)
small Store k l = let e = numbers_are in omega (arith, l, e)
small Load k l = let e = numbers_are in omega (arith, l, e)

-- what may be taken ------------------------------------------------------------------------------

-- a token is there
pub token_there : (t : Answer) (x y : Bool) → true ≡ is_some t → x ≡ y
    → x ≡ is_done (judged ((false, NoToken) ∷ (is_none t, NoToken) ∷ (not y, NoToken) ∷ []))
token_there None x y e i = absurd (true≢false e)
token_there (Some v) x true e i = i
token_there (Some v) x false e i = i

-- or it is not
pub no_token : (t : Answer) (y : Bool) → false ≡ is_some t
    → false ≡ is_done (judged ((false, NoToken) ∷ (is_none t, NoToken) ∷ (not y, NoToken) ∷ []))
no_token None y e = refl
no_token (Some v) y e = absurd (true≢false (sym e))

-- an instruction that has not fired is there
pub fired_there : (z x : Bool) (t : Answer) → true ≡ not z → x ≡ is_some t
    → x ≡ is_done (judged ((false, NoFrame) ∷ (z, NoInst) ∷ (is_none t, NotReady) ∷ []))
fired_there true x t e i = absurd (true≢false e)
fired_there false x None e i = i
fired_there false x (Some v) e i = i

-- or it is not
pub not_fired : (z : Bool) (t : Answer) → false ≡ not z
    → false ≡ is_done (judged ((false, NoFrame) ∷ (z, NoInst) ∷ (is_none t, NotReady) ∷ []))
not_fired true t e = refl
not_fired false t e = absurd (true≢false (sym e))

-- the oldest frame sees every register
pub unread_next : (s : State) (q : Option ReadSlot) (c x : Bool) → x ≡ not (is_none q || c)
    → x ≡ is_done (judged ((false, NoFrame) ∷ (is_none q || c, NoRead)
    ∷ (is_none (read_seen (committed s) q), NotYet) ∷ []))
unread_next s None c x i = i
unread_next s (Some v) true x i = i
unread_next s (Some v) false x i = i

-- a request is there, and what more is wanted of it
pub asked_and : (r x y : Bool) → true ≡ r → x ≡ y
    → x ≡ (is_done (judged ((false, NoFrame) ∷ (not r, NoRequest) ∷ [])) && y)
asked_and true x y e i = i
asked_and false x y e i = absurd (true≢false e)

-- or it is not
pub not_asked : (r y : Bool) → false ≡ r
    → false ≡ (is_done (judged ((false, NoFrame) ∷ (not r, NoRequest) ∷ [])) && y)
not_asked true y e = absurd (true≢false (sym e))
not_asked false y e = refl

-- what may not be taken ---------------------------------------------------------------------------

-- where no token stands in a place, none is delivered from it next
pub place_off : (b : Block) (h : Held) (o : Older) (p : ℕ) → at h.places p ≡ None
    → is_next Token o (running b h) p ≡ false
place_off b h o p e =
    ap (λ t. is_done (judged
    ((false, NoToken) ∷ (is_none t, NoToken) ∷ (not (is_target (target b p)), NoToken) ∷ []))) e

read_none : (q : Option ReadSlot) (c x : Bool) → q ≡ None
    → is_done (judged ((false, NoFrame) ∷ (is_none q || c, NoRead) ∷ (x, NotYet) ∷ [])) ≡ false
read_none None c x e = refl
read_none (Some r) c x e = absurd (cc)

past_reads : (rs : List ReadSlot) (k : ℕ) → length rs ≤ k → slice_get rs k ≡ None
past_reads [] k l = refl
past_reads (r ∷ rs) zero l = absurd (omega (arith, l))
past_reads (r ∷ rs) (suc k) l = past_reads rs k (omega (arith, l))

-- a read that the block does not declare
pub read_off : (b : Block) (h : Held) (o : Older) (k : ℕ) → length b.reads.items ≤ k
    → is_next Read o (running b h) k ≡ false
read_off b h o k l = read_none (slice_get b.reads.items k) _ _ (past_reads b.reads.items k l)

no_request : (p : Form → Bool) (b : Block) (z : Option ℕ) (y : Bool) → z ≡ None
    → (is_done (judged ((false, NoFrame) ∷ (not (is_request p (with_inst b z)), NoRequest) ∷ [])) && y) ≡ false
no_request p b None y e = refl
no_request p b (Some t) y e = absurd (cc)

-- a number with which nothing waits
pub store_off : (b : Block) (h : Held) (o : Older) (k : ℕ) → at h.requests k ≡ None
    → is_next Store o (running b h) k ≡ false
store_off b h o k e = no_request is_store b (at h.requests k) _ e

-- where no load waits with a number, none is answered next
pub load_off : (b : Block) (h : Held) (o : Older) (k : ℕ) → at h.requests k ≡ None
    → is_next Load o (running b h) k ≡ false
load_off b h o k e = no_request is_load b (at h.requests k) _ e

-- a slot that is ready
ready_is : (z : Bool) (t : Answer) → (not z && is_some t)
    ≡ is_done (judged ((false, NoFrame) ∷ (z, NoInst) ∷ (is_none t, NotReady) ∷ []))
ready_is true None = refl
ready_is true (Some v) = refl
ready_is false None = refl
ready_is false (Some v) = refl

-- an instruction is ready where it may be fired next
pub ready_next : (b : Block) (h : Held) (o : Older) (k : ℕ)
    → is_ready (running b h) k ≡ is_next Firing o (running b h) k
ready_next b h o k = ready_is (is_none (slot_of b k) || slice_index_or h.fired k false)
    (token_with (running b h) (slot_node b k) 0)

-- bounds of numbers -------------------------------------------------------------------------------

at_step : (t u : Step) (k : ℕ) → t ≡ u → k < count_of t → k < count_of u
at_step t u k e l = subst (λ s. k < count_of s) e l

-- a slot that may fire is below 128
pub firing_below : (t : Step) (k : ℕ) → t ≡ Firing → k < count_of t → k < 128
firing_below t k e l = let b = at_step t Firing k e l in let z = slots_are in omega (arith, b, z)

-- a read is below 32
pub read_below : (t : Step) (k : ℕ) → t ≡ Read → k < count_of t → k < 32
read_below t k e l = let b = at_step t Read k e l in let z = reads_are in omega (arith, b, z)

-- a store's number is below 32
pub store_below : (t : Step) (k : ℕ) → t ≡ Store → k < count_of t → k < 32
store_below t k e l = let b = at_step t Store k e l in let z = numbers_are in omega (arith, b, z)

-- a load's number is below 32
pub load_below : (t : Step) (k : ℕ) → t ≡ Load → k < count_of t → k < 32
load_below t k e l = let b = at_step t Load k e l in let z = numbers_are in omega (arith, b, z)

-- how many there are
pub counts_places : (t : Step) (n : ℕ) → t ≡ Token → n ≡ 320 → n ≡ count_of t
counts_places t n e m = m ∙ sym places_are ∙ ap count_of (sym e)

-- there are 128 slots to fire
pub counts_slots : (t : Step) (n : ℕ) → t ≡ Firing → n ≡ 128 → n ≡ count_of t
counts_slots t n e m = m ∙ sym slots_are ∙ ap count_of (sym e)

-- there are 32 reads
pub counts_reads : (t : Step) (n : ℕ) → t ≡ Read → n ≡ 32 → n ≡ count_of t
counts_reads t n e m = m ∙ sym reads_are ∙ ap count_of (sym e)

-- there are 32 numbers of stores
pub counts_stores : (t : Step) (n : ℕ) → t ≡ Store → n ≡ 32 → n ≡ count_of t
counts_stores t n e m = m ∙ sym numbers_are ∙ ap count_of (sym e)

-- there are 32 numbers of loads
pub counts_loads : (t : Step) (n : ℕ) → t ≡ Load → n ≡ 32 → n ≡ count_of t
counts_loads t n e m = m ∙ sym numbers_are ∙ ap count_of (sym e)
