-- What firing a slot does, where that is tried: it fires where its instruction gives a token.
use Rattle.std.proofs.Common.{◌≡◌, ℕ, true, false, cond, Some, None, set, refl, sym, ap, ◌∙◌}
use Rattle.std.specs.Prelude.{is_some}
use Rattle.trips_isa.specs.declared.block.Inst.{Inst}
use Rattle.trips_isa.specs.declared.block.Block.{Block}
use Rattle.trips_isa.specs.Rule.{Answer}
use Rattle.block_cases.specs.Orders.{slot_of}
use Rattle.commit_flush_spec.specs.Older.{Older}
use Rattle.commit_flush_spec.specs.Dataflow.{fire}
use Rattle.frame_state.specs.inside.Held.{Held, Stays, running}
use Rattle.frame_state.specs.inside.Moves.{fired_if, fired_slot}
use Rattle.frame_state.proofs.NodeFacts.{fires}
use Rattle.frame_state.proofs.StayFacts.{slot_stays}

-- a slot fires where its instruction gives a token
pub fires_if : (b : Block) (s : ℕ) (i : Inst) (t : Answer) (h : Held) → slot_of b s ≡ Some i → (o : Older)
    → running b (fired_if t i s h) ≡ cond (is_some t) (fire s o (running b h)) (running b h)
fires_if b s i None h is o = refl
fires_if b s i (Some t) h is o =
    ap (λ j. running b (fired_slot j s (record h { fired = set h.fired s true }))) (sym is) ∙ fires b s o h

-- and else nothing happens
pub same_unless : (i : Inst) (s : ℕ) (t : Answer) (h : Held) → is_some t ≡ false → fired_if t i s h ≡ h
same_unless i s None h e = refl
same_unless i s (Some t) h e = absurd (cc)

-- either way its number, its block and its generation stay
pub stays_if : (i : Inst) (s : ℕ) (t : Answer) (h : Held) → Stays h (fired_if t i s h)
stays_if i s None h = record { number = refl; block = refl; generation = refl }
stays_if i s (Some t) h = slot_stays (Some i) s h (record h { fired = set h.fired s true })
    (record { number = refl; block = refl; generation = refl })
