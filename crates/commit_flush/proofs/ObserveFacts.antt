-- What is told of a frame that runs, and that nothing is told of any other.
use Rattle.std.proofs.Common.{◌≡◌, ◌≢◌, ℕ, ◌≤◌, Bool, true, false, cond, ◌&&◌, ◌||◌, not, List, Option, Some, None}
use Rattle.std.proofs.Common.{length, slice_get, slice_index_or, refl, sym, ap, ◌∙◌, arith, true≢false}
use Rattle.std.proofs.lemmas.Option.{slice_get_past}
use Rattle.std.specs.Prelude.{is_none, is_some}
use Rattle.trips_isa.specs.declared.op.Op.{Op}
use Rattle.trips_isa.specs.declared.block.Token.TheVariants.{Null, Word}
use Rattle.trips_isa.specs.declared.block.Inst.{Inst}
use Rattle.trips_isa.specs.declared.block.Block.{Block}
use Rattle.trips_isa.specs.declared.form.Form.{Form}
use Rattle.trips_isa.specs.declared.form.Form.TheVariants.{General, Immediate, Load, Store, Branch, Constant}
use Rattle.trips_isa.specs.Forms.{form_of, role_in, takes_left}
use Rattle.trips_isa.specs.Rule.{Answer}
use Rattle.block_cases.specs.Orders.{slot_of}
use Rattle.commit_flush_spec.specs.Frames.{Frame, at, slot_node}
use Rattle.commit_flush_spec.specs.Sending.{token_with}
use Rattle.commit_flush_spec.specs.Memory.{is_request, request, with_inst, with_slot}
use Rattle.commit_flush_spec.specs.Ends.{complete}
use Rattle.commit_flush_spec.specs.InFlight.{Window}
use Rattle.commit_flush_spec.specs.inside.Invariant.{Asked}
use Rattle.commit_flush_spec.specs.inside.Laws.{WindowOk}
use Rattle.commit_flush_spec.specs.Older.{committed}
use Rattle.commit_flush.specs.inside.Places.{frame_of}
use Rattle.commit_flush.proofs.FrameFacts.{frame_ok, has_age}
use Rattle.frame_state.specs.inside.Held.{Held, running}
use Rattle.frame_state.specs.Lacks.{least_lack}
use Rattle.frame_state.proofs.ReadyFacts.{left_came}
use Rattle.frame_state.specs.inside.Phases.{IsIdle}
use Rattle.commit_flush.specs.Observed.{is_whole_in, lack_in}
use Rattle.commit_flush.specs.inside.Observed.{address_by, address_in, is_access, token_address}
use Rattle.commit_flush.specs.inside.Observed.{unread_in, waits_in}

-- where no frame runs ----------------------------------------------------------------------------

-- where no frame runs, nothing waits with a number
pub idle_waits : (n : ℕ) (z : Option Frame) → IsIdle z → waits_in n z ≡ false
idle_waits n None i = refl
idle_waits n (Some f) i = ap (λ s. not s && is_request is_access (request f n)) i

-- where no frame runs, no address is told
pub idle_address : (n : ℕ) (z : Option Frame) → IsIdle z → address_in n z ≡ None
idle_address n None i = refl
idle_address n (Some f) i = ap (λ s. cond s None (address_by f (request f n))) i

-- where no frame runs, no output is missing
pub idle_lack : (z : Option Frame) → IsIdle z → lack_in z ≡ None
idle_lack None i = refl
idle_lack (Some f) i = ap (λ s. cond s None (least_lack f)) i

or_true : (b : Bool) → (true || b) ≡ true
or_true true = refl
or_true false = refl

-- where no frame runs, all outputs are there
pub idle_whole : (z : Option Frame) → IsIdle z → is_whole_in z ≡ true
idle_whole None i = refl
idle_whole (Some f) i = ap (λ s. s || complete f) i ∙ or_true (complete f)

-- where no frame runs, no read waits
pub idle_unread : (r : ℕ) (z : Option Frame) → IsIdle z → unread_in r z ≡ false
idle_unread r None i = refl
idle_unread r (Some f) i =
    ap (λ s. not s && not (is_none (slice_get f.code.reads.items r) || slice_index_or f.reads r false)) i

-- a read past the declared ones is not open
pub past_reads : (b : Block) (h : Held) (n : ℕ) → n ≡ length b.reads.items → (r : ℕ) → n ≤ r
    → not (is_none (slice_get b.reads.items r) || slice_index_or h.reads r false) ≡ false
past_reads b h n e r l =
    ap (λ z. not (is_none z || slice_index_or h.reads r false)) (slice_get_past b.reads.items r (omega (arith, e, l)))
    ∙ ap not (or_true (slice_index_or h.reads r false))

-- addresses --------------------------------------------------------------------------------------

address_there : (i : Inst) (t : Answer) → is_some (token_address i t) ≡ is_some t
address_there i None = refl
address_there i (Some Null) = refl
address_there i (Some (Word w)) = refl

-- loads and stores take a left operand
takes : (t : Form) (o : Op) → is_access t ≡ true → takes_left (role_in t o) ≡ true
takes Load o e = refl
takes Store o e = refl
takes General o e = absurd (true≢false (sym e))
takes Immediate o e = absurd (true≢false (sym e))
takes Branch o e = absurd (true≢false (sym e))
takes Constant o e = absurd (true≢false (sym e))

something : {A : Type 0} (x : Option A) → x ≢ None → is_some x ≡ true
something None ne = absurd (ne refl)
something (Some x) ne = refl

-- a load or a store that waits has its address
pub waits_told : (blocks : List Block) (budget : ℕ) (w : Window) → WindowOk blocks budget w → (n k : ℕ) (b : Block)
    (h : Held) → frame_of n w.frames ≡ Some (running b h)
    → is_some (address_by (running b h) (request (running b h) k))
    ≡ is_request is_access (request (running b h) k)
waits_told blocks budget w ok n k b h e = by_slot (at h.requests k) refl
  where
    by_kind : (s : ℕ) (i : Inst) → at h.requests k ≡ Some s → slot_of b s ≡ Some i → (a : Bool)
        → is_access (form_of i.op) ≡ a
        → is_some (cond (is_access (form_of i.op)) (token_address i (at h.spots s)) None) ≡ is_access (form_of i.op)
    by_kind s i asks is false kind =
        ap (λ a. is_some (cond a (token_address i (at h.spots s)) None)) kind ∙ sym kind
    by_kind s i asks is true kind =
        let age = has_age n w.frames (running b h) e in
        let asked : Asked (running b h) k s =
        (frame_ok blocks w.frames (committed w.state) ok.frames age.0 (running b h) age.2).asked k s asks in
        let came : is_some (at h.spots s) ≡ true = left_came b h s i is
        (something (token_with (running b h) (slot_node b s) 0) asked.ready) (takes (form_of i.op) i.op kind) in
        ap (λ a. is_some (cond a (token_address i (at h.spots s)) None)) kind
        ∙ address_there i (at h.spots s) ∙ came ∙ sym kind

    by_inst : (s : ℕ) → at h.requests k ≡ Some s → (z : Option Inst) → slot_of b s ≡ z
        → is_some (address_by (running b h) (with_slot s z)) ≡ is_request is_access (with_slot s z)
    by_inst s asks None is = refl
    by_inst s asks (Some i) is = by_kind s i asks is (is_access (form_of i.op)) refl

    by_slot : (z : Option ℕ) → at h.requests k ≡ z
        → is_some (address_by (running b h) (with_inst b z)) ≡ is_request is_access (with_inst b z)
    by_slot None asks = refl
    by_slot (Some s) asks = by_inst s asks (slot_of b s) refl
