-- What stands of the blocks of frames in flight.
use Rattle.std.proofs.Common.{◌≡◌, ℕ, ◌<◌, ◌≤◌, ◌⊎◌, inl, inr, List, Option, Some, None, length, slice_get}
use Rattle.std.proofs.Common.{refl, sym, ◌∙◌, subst, arith}
use Rattle.std.specs.Prelude.{IfSome}
use Rattle.std.proofs.lemmas.Bool.{cases_lt}
use Rattle.std.proofs.lemmas.List.{get_or_past}
use Rattle.std.proofs.lemmas.List.Elements.{All-get_or}
use Rattle.std.proofs.lemmas.Option.{none-some, slice_get_within}
use Rattle.trips_isa.specs.declared.form.Form.{Form}
use Rattle.trips_isa.specs.declared.form.Form.TheVariants.{General, Immediate, Load, Store, Branch, Constant}
use Rattle.trips_isa.specs.declared.block.Inst.{Inst}
use Rattle.trips_isa.specs.declared.block.Block.{Block}
use Rattle.trips_isa.specs.Fits.{FitsForm, FitsSlot}
use Rattle.trips_isa.specs.Forms.{form_of}
use Rattle.block_cases.specs.Orders.{slot_of}
use Rattle.commit_flush_spec.specs.Frames.{Frame}
use Rattle.commit_flush_spec.specs.InFlight.{Window}
use Rattle.commit_flush_spec.specs.inside.Invariant.{AllGood, IsRunnable, IsSized}
use Rattle.commit_flush_spec.specs.inside.Laws.{WindowOk}
use Rattle.commit_flush_spec.specs.Older.{committed}
use Rattle.commit_flush.specs.inside.Places.{frame_of}
use Rattle.commit_flush.proofs.FrameFacts.{frame_ok, has_age}
use Rattle.frame_state.specs.inside.Held.{Held, as_frame}
use Rattle.frame_state.specs.inside.Told.{block_in}
use Rattle.commit_flush.specs.inside.Lent.{IsLent}

module _ (blocks : List Block) (budget : ℕ) (w : Window) (ok : WindowOk blocks budget w) where
  -- the block of a frame in flight is its block of the image
  pub code_at : (n : ℕ) (f : Frame) → frame_of n w.frames ≡ Some f → slice_get blocks f.block ≡ Some f.code
  code_at n f e = let a = has_age n w.frames f e in
      (frame_ok blocks w.frames (committed w.state) ok.frames a.0 f a.2).code

  -- the block of a frame in flight is one of the image's
  pub block_within : (n : ℕ) (r : Option ℕ) → r ≡ block_in (frame_of n w.frames) → IfSome r (λ k. k < length blocks)
  block_within n r e =
      subst (λ x. IfSome x (λ k. k < length blocks)) (sym e) (go (frame_of n w.frames) refl)
    where
      go : (z : Option Frame) → frame_of n w.frames ≡ z → IfSome (block_in z) (λ k. k < length blocks)
      go None is = tt
      go (Some f) is = slice_get_within blocks f.block f.code (code_at n f is)

  -- the block that is lent of a frame in flight is the image's
  pub lent_code : (n : ℕ) (h : Held) (b : Block) → IsLent h b (frame_of n w.frames)
      → slice_get blocks h.block ≡ Some b
  lent_code n h b l = code_at n (as_frame l.0 b h) l.1

  -- it was checked
  pub lent_runs : AllGood blocks → (n : ℕ) (h : Held) (b : Block) → IsLent h b (frame_of n w.frames) → IsRunnable b
  lent_runs good n h b l = good h.block b (lent_code n h b l)

  -- the lists of a frame have their sizes
  pub sized_at : (a : ℕ) (f : Frame) → slice_get w.frames a ≡ Some f → IsSized f
  sized_at a f e = (frame_ok blocks w.frames (committed w.state) ok.frames a f e).sized

-- slots of a checked block -------------------------------------------------------------------------

-- the number of an instruction is below 32
number_fits : (t : Form) (i : Inst) → FitsForm t i → i.number < 32
number_fits General i h = let e : i.number ≡ 0 = h.2 in omega arith
number_fits Immediate i h = let e : i.number ≡ 0 = h.2 in omega arith
number_fits Load i h = h.2
number_fits Store i h = h.2
number_fits Branch i h = let l : i.number < 8 = h.2 in omega arith
number_fits Constant i h = let e : i.number ≡ 0 = h.2 in omega arith

number_in : (z : Option Inst) → FitsSlot z → IfSome z (λ (i : Inst). i.number < 32)
number_in None h = tt
number_in (Some i) h = number_fits (form_of i.op) i h

-- the number of an instruction is below 32
pub number_below : (b : Block) → IsRunnable b → (s : ℕ) (r : Option Inst) → r ≡ slot_of b s
    → IfSome r (λ (i : Inst). i.number < 32)
number_below b runs s r e =
    subst (λ z. IfSome z (λ (i : Inst). i.number < 32)) (sym e) (go (cases_lt s (length b.insts.items)))
  where
    go : (s < length b.insts.items) ⊎ (length b.insts.items ≤ s) → IfSome (slot_of b s) (λ (i : Inst). i.number < 32)
    go (inl l) = number_in (slot_of b s) (All-get_or FitsSlot b.insts.items s None l runs.fits.each_inst)
    go (inr l) = subst (λ z. IfSome z (λ (i : Inst). i.number < 32)) (sym (get_or_past b.insts.items s None l)) tt

-- a slot that holds an instruction is one of the 128
pub slot_below : (b : Block) → IsRunnable b → (s : ℕ) (i : Inst) → slot_of b s ≡ Some i → s < 128
slot_below b runs s i e = go (cases_lt s (length b.insts.items))
  where
    go : (s < length b.insts.items) ⊎ (length b.insts.items ≤ s) → s < 128
    go (inl l) = let k = runs.fits.insts in omega (arith, l, k)
    go (inr l) = absurd (none-some i (sym (get_or_past b.insts.items s None l) ∙ e))
