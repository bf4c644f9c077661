-- What waits in a frame waits in one of its slots.
use Rattle.std.proofs.Common.{◌≡◌, ℕ, ◌<◌, Option, Some, None, refl, sym, ap, ◌∙◌, subst}
use Rattle.std.specs.Prelude.{IfSome}
use Rattle.trips_isa.specs.declared.block.Inst.{Inst}
use Rattle.trips_isa.specs.declared.block.Block.{Block}
use Rattle.block_cases.specs.Orders.{slot_of}
use Rattle.commit_flush_spec.specs.Frames.{at}
use Rattle.commit_flush_spec.specs.inside.Invariant.{IsRunnable}
use Rattle.commit_flush_spec.specs.Memory.{request, with_inst, with_slot}
use Rattle.frame_state.specs.inside.Held.{Held, running}
use Rattle.grid_parts.specs.inside.Asked.{request_at}
use Rattle.grid_parts.specs.declared.windows.Request.{Request}
use Rattle.grid_machine.proofs.BlockFacts.{slot_below}

-- what waits with a number waits in one of the 128 slots
pub slot_within : (b : Block) → IsRunnable b → (h : Held) (k : ℕ) (q : Option (ℕ × Inst)) (r : Option Request)
    → q ≡ request (running b h) k → r ≡ request_at (running b h) q → IfSome r (λ (p : Request). p.slot < 128)
slot_within b runs h k q r asked is =
    subst (λ x. IfSome x (λ (p : Request). p.slot < 128)) (sym (is ∙ ap (request_at (running b h)) asked))
    (go (at h.requests k))
  where
    by : (s : ℕ) (y : Option Inst) → slot_of b s ≡ y
        → IfSome (request_at (running b h) (with_slot s y)) (λ (p : Request). p.slot < 128)
    by s None e = tt
    by s (Some i) e = slot_below b runs s i e

    go : (z : Option ℕ) → IfSome (request_at (running b h) (with_inst b z)) (λ (p : Request). p.slot < 128)
    go None = tt
    go (Some s) = by s (slot_of b s) refl
