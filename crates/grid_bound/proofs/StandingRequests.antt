-- Requests that stand at data tiles, as the lane and as the grid have them.
use Rattle.std.proofs.Common.{◌≡◌, ◌≢◌, ℕ, suc, ◌*◌, ◌-◌, ◌<◌, ◌⊎◌, inl, inr, Bool, true, false, cond}
use Rattle.std.proofs.Common.{nat_lt, List, Option, Some, None, slice_get, slice_index_or, set, refl, sym, ap}
use Rattle.std.proofs.Common.{◌∙◌}
use Rattle.std.proofs.lemmas.Bool.{cases_eq, ltb-true, eqb-true, ne_eqb}
use Rattle.trips_isa.specs.declared.block.Inst.{Inst}
use Rattle.trips_isa.specs.declared.block.ReadSlot.{ReadSlot}
use Rattle.trips_isa.specs.Forms.{form_of}
use Rattle.block_cases.specs.Orders.{slot_of}
use Rattle.operand_net.specs.declared.parcel.Stand.{Stand}
use Rattle.commit_flush_spec.specs.Frames.{Frame, at}
use Rattle.commit_flush_spec.proofs.Lists.{none_at, other_at}
use Rattle.grid_cycle_spec.specs.Grid.{Grid}
use Rattle.grid_cycle_spec.specs.inside.Arrivals.{is_waiting}
use Rattle.grid_bound.specs.inside.Course.{Kind, Reading, Plain, Serving}
use Rattle.grid_bound.specs.inside.Lane.{Idle, Sent, is_standing}
use Rattle.grid_bound.specs.inside.Blocks.{slot_tasks, kind_of}
use Rattle.grid_bound.specs.inside.Seen.{slot_phase, read_phase, phase_of}
use Rattle.grid_bound.proofs.Fronts.{slot_far, slot_phase_is}

-- who waits with a number has asked for it
pub waiting_is : (o : Option ℕ) (s : ℕ) → is_waiting o s ≡ true → o ≡ Some s
waiting_is None s e = absurd (cc)
waiting_is (Some k) s e = ap Some (eqb-true k s e)

stands_parts : (k : Kind) (fired works waits asked : Bool) (p q : Stand)
    → is_standing (slot_far k fired works waits asked p q) ≡ true → (waits ≡ true) × (asked ≡ true)
stands_parts k false works waits asked p q e = absurd (cc)
stands_parts k true true waits asked p q e = absurd (cc)
stands_parts Reading true false waits asked p q e = absurd (cc)
stands_parts Plain true false waits asked p q e = absurd (cc)
stands_parts Serving true false true true p q e = (refl, refl)
stands_parts Serving true false true false p q e = absurd (cc)
stands_parts Serving true false false asked p q e = absurd (cc)

-- a task that stands is a slot whose request has come to its data tile
pub record StandsAt {W : Type 0} (h : Grid W) (e : Frame) (x : ℕ) : Type 0 where
  pub inside : x < slot_tasks
  pub inst : Inst
  pub is_inst : slot_of e.code x ≡ Some inst
  pub waits : at e.requests inst.number ≡ Some x
  pub asked : h.asked e.number inst.number ≡ true

-- a task that stands at its data tile in the lane does so in the grid
pub standing_is : {W : Type 0} (h : Grid W) (e : Frame) (x : ℕ) → is_standing (phase_of h e x) ≡ true
    → StandsAt h e x
standing_is h e x z = by (nat_lt x slot_tasks) refl z
  where
    by : (b : Bool) → nat_lt x slot_tasks ≡ b
        → is_standing (cond b (slot_phase h e x (slot_of e.code x))
        (read_phase h e (x - slot_tasks) (slice_get e.code.reads.items (x - slot_tasks)))) ≡ true → StandsAt h e x
    by true l w = slot (slot_of e.code x) refl w
      where
        slot : (o : Option Inst) → slot_of e.code x ≡ o → is_standing (slot_phase h e x o) ≡ true → StandsAt h e x
        slot None i w = absurd (cc)
        slot (Some j) i w =
            let p = stands_parts (kind_of (form_of j.op)) (slice_index_or e.fired x false) (h.works e.number x)
            (is_waiting (at e.requests j.number) x) (h.asked e.number j.number) (h.parcels e.number (2 * x))
            (h.parcels e.number (suc (2 * x))) (sym (ap is_standing (slot_phase_is h e x j)) ∙ w) in
            record {
              inside = ltb-true x slot_tasks l;
              inst = j;
              is_inst = i;
              waits = waiting_is (at e.requests j.number) x p.0;
              asked = p.1;
            }
    by false l w = absurd (read (slice_get e.code.reads.items (x - slot_tasks)) w)
      where
        flag : (b : Bool) (p q : Stand) → is_standing (cond b (Sent p q) Idle) ≡ true → ⊥
        flag true p q w = cc
        flag false p q w = cc

        read : (o : Option ReadSlot) → is_standing (read_phase h e (x - slot_tasks) o) ≡ true → ⊥
        read None w = cc
        read (Some r) w = flag (slice_index_or e.reads (x - slot_tasks) false) _ _ w

-- a number that is answered is waited with no longer, and nothing else changes
pub released : (requests : List (Option ℕ)) (k s x n : ℕ) → at requests k ≡ Some s → x ≢ s
    → is_waiting (at (set requests k None) n) x ≡ is_waiting (at requests n) x
released requests k s x n w other = by (cases_eq n k)
  where
    by : (n ≡ k) ⊎ (n ≡ k → ⊥) → is_waiting (at (set requests k None) n) x ≡ is_waiting (at requests n) x
    by (inl z) =
        ap (λ n. is_waiting (at (set requests k None) n) x) z
        ∙ ap (λ o. is_waiting o x) (none_at requests k)
        ∙ sym (ne_eqb s x (λ y. other (sym y))) ∙ sym (ap (λ o. is_waiting o x) w)
        ∙ sym (ap (λ n. is_waiting (at requests n) x) z)
    by (inr z) = ap (λ o. is_waiting o x) (other_at requests k n None z)
