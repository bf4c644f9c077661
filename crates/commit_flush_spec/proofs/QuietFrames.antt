-- A frame to which nothing can happen.
use Rattle.std.proofs.Common.{◌≡◌, ◌≢◌, ℕ, true, false, Some, None, slice_get, get_or}
use Rattle.trips_isa.specs.declared.block.Inst.{Inst}
use Rattle.trips_isa.specs.declared.block.ReadSlot.{ReadSlot}
use Rattle.trips_isa.specs.Forms.{form_of, is_load, is_store}
use Rattle.block_cases.specs.Orders.{slot_of}
use Rattle.commit_flush_spec.specs.Frames.{Frame, at, slot_node, target, is_target}
use Rattle.commit_flush_spec.specs.Sending.{token_with}
use Rattle.commit_flush_spec.specs.inside.NextEvent.{stores_came}

-- no token can be delivered, no read answered, no instruction fired; a load that waits waits for a store, a store
-- that waits has come, and no branch waits
pub record Quiet (f : Frame) : Type 0 where
  pub tokens : (p : ℕ) → is_target (target f.code p) ≡ true → at f.places p ≡ None
  pub reads : (r : ℕ) (slot : ReadSlot) → slice_get f.code.reads.items r ≡ Some slot
      → get_or f.reads r false ≡ true
  pub fires : (s : ℕ) (i : Inst) → slot_of f.code s ≡ Some i → token_with f (slot_node f.code s) 0 ≢ None
      → get_or f.fired s false ≡ true
  pub loads : (s : ℕ) (i : Inst) → slot_of f.code s ≡ Some i → is_load (form_of i.op) ≡ true
      → at f.requests i.number ≡ Some s → stores_came f i.number ≡ false
  pub stores : (s : ℕ) (i : Inst) → slot_of f.code s ≡ Some i → is_store (form_of i.op) ≡ true
      → at f.requests i.number ≡ Some s → at f.stores i.number ≢ None
  pub exits : f.leaving ≡ None
