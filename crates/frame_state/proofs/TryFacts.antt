-- What a frame answers that is tried: what was found of it is what its causes ask, and what comes finds room.
use Rattle.std.proofs.Common.{◌≡◌, ℕ, Bool, true, false, cond, ◌||◌, List, Option}
use Rattle.std.proofs.Common.{Some, None, slice_get, slice_index_or}
use Rattle.std.proofs.Common.{refl, sym, ap, ap₂, ◌∙◌}
use Rattle.std.specs.Prelude.{is_none, is_some}
use Rattle.trips_isa.specs.declared.block.Token.{Token}
use Rattle.trips_isa.specs.declared.block.Inst.{Inst}
use Rattle.trips_isa.specs.declared.block.Block.{Block}
use Rattle.trips_isa.specs.Rule.{Answer}
use Rattle.block_cases.specs.Orders.{slot_of}
use Rattle.commit_flush_spec.specs.Causes.{NoInst, NotReady, Done, NotNow}
use Rattle.commit_flush_spec.specs.Frames.{Frame, at, is_target, slot_node, target}
use Rattle.commit_flush_spec.specs.inside.Laws.{IsFree}
use Rattle.commit_flush_spec.specs.Sending.{token_with}
use Rattle.commit_flush_spec.specs.Older.{Older}
use Rattle.commit_flush_spec.specs.Dataflow.{can_fire}
use Rattle.frame_state.specs.inside.Held.{Held, running}
use Rattle.frame_state.specs.inside.Moves.{slot_token}
use Rattle.frame_state.proofs.NodeFacts.{token_is}
use Rattle.frame_state.specs.declared.phase.Phase.{Phase}
use Rattle.frame_state.specs.declared.phase.Phase.TheVariants.{Going}
use Rattle.frame_state.specs.inside.Phases.{frame_in, with_block}

-- an instruction that was found has not fired
unfired : (c : Bool) (z : Option Inst) (i : Inst) → Some i ≡ cond c None z → (c ≡ false) × (z ≡ Some i)
unfired true z i e = absurd (cc)
unfired false z i e = (refl, sym e)

-- where the instruction of a slot is found, its token says whether it fires
answers_fire : (b : Block) (h : Held) (s : ℕ) (i : Inst) (t : Answer)
    → Some i ≡ cond (slice_index_or h.fired s false) None (slot_of b s) → t ≡ slot_token h i s 0 → (o : Older)
    → cond (is_none t) (NotNow NotReady) Done ≡ can_fire s o (running b h)
answers_fire b h s i t found e o =
    let u = unfired (slice_index_or h.fired s false) (slot_of b s) i found in
    ap (λ x. cond (is_none x) (NotNow NotReady) Done) (e ∙ sym (token_is b s i u.1 false h 0))
    ∙ sym (ap₂ (λ x y. cond (is_none x || y) (NotNow NoInst)
    (cond (is_none (token_with (running b h) (slot_node b s) 0)) (NotNow NotReady) Done)) u.1 u.0)

-- a token is there or it is not
by_token : (t : Answer) → cond (is_some t) Done (NotNow NotReady) ≡ cond (is_none t) (NotNow NotReady) Done
by_token None = refl
by_token (Some t) = refl

-- and so does whether there is one
pub answers_fired : (b : Block) (h : Held) (s : ℕ) (i : Inst) (z : Bool)
    → Some i ≡ cond (slice_index_or h.fired s false) None (slot_of b s) → z ≡ is_some (slot_token h i s 0)
    → (o : Older) → cond z Done (NotNow NotReady) ≡ can_fire s o (running b h)
answers_fired b h s i z found e o =
    ap (λ x. cond x Done (NotNow NotReady)) e ∙ by_token (slot_token h i s 0)
    ∙ answers_fire b h s i (slot_token h i s 0) found refl o

-- a frame that runs, with its block
pub going_is : (blocks : List Block) (b : Block) (h : Held) (p : Phase) → p ≡ Going h
    → slice_get blocks h.block ≡ Some b → frame_in blocks p ≡ Some (running b h)
going_is blocks b h p e is = ap (frame_in blocks) e ∙ ap (with_block false h) is

-- a token on its way finds the place empty that it goes to
pub goes_free : (f : Frame) (p : ℕ) (t : Token) → IsFree f → Some t ≡ at f.places p
    → is_target (target f.code p) ≡ true → is_none (at f.spots (target f.code p)) ≡ true
goes_free f p t free there to = ap is_none (free p (λ none. let bad : Some t ≡ None = there ∙ none in cc) to)
