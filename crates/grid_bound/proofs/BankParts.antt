-- Part (3) of a cycle, the banks, keeps the rule.
use Rattle.std.proofs.Common.{◌≡◌, ℕ, suc, ◌+◌, ◌*◌, ◌<◌, true, false, inl, inr, List, ◌∷◌, ◌++◌}
use Rattle.std.proofs.Common.{Option, Some, None, set, nat_lt, refl, sym, ap, ◌∙◌, subst, arith}
use Rattle.std.proofs.lemmas.Bool.{le-ltb}
use Rattle.trips_isa.specs.declared.block.Block.{Block}
use Rattle.trips_isa.specs.Forms.{form_of}
use Rattle.operand_net.specs.Places.{Places}
use Rattle.commit_flush_spec.specs.Frames.{Frame}
use Rattle.commit_flush_spec.specs.Older.{Older, committed}
use Rattle.commit_flush_spec.specs.Causes.{NoFrame, Done, NotNow}
use Rattle.commit_flush_spec.specs.Dataflow.{can_read, read}
use Rattle.commit_flush_spec.specs.Window.{Window, Read, can, can_now}
use Rattle.commit_flush_spec.specs.inside.Invariant.{AllGood, FrameOk}
use Rattle.commit_flush_spec.proofs.Committing.{both_true}
use Rattle.commit_flush_spec.proofs.Frames.{not_now}
use Rattle.grid_cycle_spec.specs.Stations.{bank_node}
use Rattle.grid_cycle_spec.specs.Grid.{Grid}
use Rattle.grid_cycle_spec.specs.Choosing.{eldest, reads, with_frame}
use Rattle.grid_cycle_spec.specs.Sending.{enter_both}
use Rattle.grid_cycle_spec.specs.Banks.{answers_read, read_chosen, bank_turn, reads_answered}
use Rattle.grid_bound.proofs.EachFrame.{FrameAt, Chosen, answered_at, eldest_is, moved_at, own_at, with_at}
use Rattle.grid_bound.proofs.FrameRules.{Reads, Sent, read_sends}
use Rattle.grid_bound.proofs.EventRules.{went}
use Rattle.grid_bound.proofs.FrameRules as frame_rules
use Rattle.grid_bound.proofs.Travels.{IsPlace, come_by, read_travels}
use Rattle.grid_bound.specs.inside.UnderWay.{Tied}
use Rattle.grid_bound.proofs.Entered.{Entered, both_enter, enters_at}
use Rattle.grid_bound.proofs.TiedFrames.{sent_tied}
use Rattle.grid_bound.proofs.GoingGrids.{Going, Moved, alone_is, done_is}
use Rattle.grid_bound.proofs.GoingGrids.{each_going, frame_ok, frame_sure, frame_tied}
use Rattle.grid_bound.proofs.GoingGrids.{moved}
use Rattle.grid_bound.proofs.GoingGrids.{moved_to, sees, stepped}

-- a bank answers a read of a frame
module _ {W : Type 0} (blocks : List Block) (good : AllGood blocks) (budget least : ℕ) (g : Grid W)
    (go : Going blocks budget least g) (bank : ℕ) (low : bank < 4) (n r : ℕ) (a0 : FrameAt n g.window.frames)
    (done : can blocks budget (Read a0.frame.number r) g.window ≡ Done) where
  abbrev a : FrameAt a0.frame.number g.window.frames
  a = own_at n g.window.frames a0

  abbrev f : Frame
  f = a0.frame

  abbrev o : Older
  o = sees blocks good budget g a0.frame.number a

  asks : can_read r o f ≡ Done
  asks = sym (answered_at (NotNow NoFrame) (can_read r) (committed g.window.state) a0.frame.number g.window.frames a)
      ∙ (went g.window.over (can_now blocks budget (Read a0.frame.number r) g.window) done).1

  ok : FrameOk blocks o f
  ok = frame_ok blocks good budget g a0.frame.number a go.ok

  read_it : Reads blocks good o f ok r
  read_it = frame_rules.reads blocks good o f ok r asks

  abbrev p : ℕ
  p = 256 + 2 * r

  sent : Sent (record f { reads = set f.reads r true }) p read_it.token (read r o f)
  sent = read_sends blocks good o f ok r read_it

  -- the frame with its tokens on their way
  module _ (s : Sent (record f { reads = set f.reads r true }) p read_it.token (read r o f)) where
    abbrev F : Frame
    F = record f { reads = set f.reads r true; places = s.places; marks = s.marks }

    change : Moved blocks good budget g a0.frame.number a (Read a0.frame.number r) F
    change = moved blocks good budget g a0.frame.number a least go (Read a0.frame.number r) F done
        (alone_is blocks good budget g a0.frame.number a (read r)
        ∙ ap (moved_to blocks good budget g a0.frame.number a) s.is)

    abbrev G : Grid W
    G = record g { window = moved_to blocks good budget g a0.frame.number a F }

    high : (q : ℕ) → IsPlace p q → nat_lt q 256 ≡ false
    high q (inl e) = ap (λ k. nat_lt k 256) e ∙ le-ltb (256 + 2 * r) 256 (omega arith)
    high q (inr e) = ap (λ k. nat_lt k 256) e ∙ le-ltb (suc (256 + 2 * r)) 256 (omega arith)

    runs : f.sealed ≡ false
    runs = (not_now f.sealed NoFrame _ asks).0

    tied : Tied (g.parcels a0.frame.number) (g.asked a0.frame.number) (g.works a0.frame.number) f
    tied = frame_tied blocks good budget g a0.frame.number a least go.ties runs

    entered : (after : Places) → Entered F p g.parcels after
        → Going blocks budget least (record G { parcels = after })
    entered after e =
        stepped blocks good budget g a0.frame.number a least go
        (Read a0.frame.number r) F change after g.asked g.works
        g.units refl runs refl
        (λ m d. record {
          parcels_are = λ q. e.others m q (inl d);
          asked_are = λ k. refl;
          works_are = λ k. refl;
        })
        (sent_tied (g.parcels a0.frame.number) (after a0.frame.number) (g.asked a0.frame.number)
        (g.asked a0.frame.number) (g.works a0.frame.number) f F p refl (λ k z. z)
        (λ i k z. come_by (g.asked a0.frame.number) f F refl refl i k (form_of i.op))
        s.keeps s.others (λ q d k. e.others a0.frame.number q (inr (d, k)))
        (enters_at F p g.parcels after e)
        (λ q z. read_travels (g.asked a0.frame.number) (g.works a0.frame.number) f q (high q z))
        (λ q z. read_travels (g.asked a0.frame.number) (g.works a0.frame.number) F q (high q z))
        (tied).standing tied)
        (frame_sure blocks good budget g a0.frame.number a least go.ties) go.ties.busy
        (λ q l. e.held least a0.frame.number q (go.ties.mesh a0.frame.number q l))

    near : bank_node bank < 25
    near = omega (arith, low)

    all_entered : Going blocks budget least (enter_both (bank_node bank) F p G)
    all_entered =
        let e = both_enter (bank_node bank) near F p G in
        subst (Going blocks budget least) (sym e.1) (entered e.0 e.2)

    placed : Going blocks budget least (with_frame a0.frame.number (λ x h. enter_both (bank_node bank) x p h)
        (a.older ++ F ∷ a.younger) G)
    placed = subst (Going blocks budget least)
        (sym (with_at a0.frame.number (λ x h. enter_both (bank_node bank) x p h) (a.older ++ F ∷ a.younger)
        (moved_at a0.frame.number g.window.frames a F refl) G)) all_entered

    answered : Going blocks budget least (read_chosen blocks budget bank (Some (a0.frame.number, r)) g)
    answered = subst (λ (w : Window). Going blocks budget least
        (with_frame a0.frame.number (λ x h. enter_both (bank_node bank) x p h) w.frames (record g { window = w })))
        (sym (change).is) placed

module _ {W : Type 0} (blocks : List Block) (good : AllGood blocks) (budget least : ℕ) where
  -- that a bank answers the read that it has chosen keeps the rule
  pub chosen_going : (bank : ℕ) → bank < 4 → (o : Option (ℕ × ℕ)) (g : Grid W) → Going blocks budget least g
      → eldest (answers_read blocks budget g bank) reads g.window.frames ≡ o
      → Going blocks budget least (read_chosen blocks budget bank o g)
  chosen_going bank low None g go e = go
  chosen_going bank low (Some q) g go e =
      let k : Chosen (answers_read blocks budget g bank) reads g.window.frames q =
      eldest_is (answers_read blocks budget g bank) reads g.window.frames q go.ok.numbers e in
      let a = k.there in
      let d : can blocks budget (Read a.frame.number q.1) g.window ≡ Done =
      done_is (can blocks budget (Read a.frame.number q.1) g.window) (both_true _ _ k.passes).1 in
      let s = sent blocks good budget least g go bank low q.0 q.1 a d in
      subst (λ n. Going blocks budget least (read_chosen blocks budget bank (Some (n, q.1)) g)) a.number
      (answered blocks good budget least g go bank low q.0 q.1 a d s)

  -- part (3) keeps the rule
  pub banks_going : (g : Grid W) → Going blocks budget least g → Going blocks budget least
      (reads_answered blocks budget g)
  banks_going g go = each_going blocks budget least (bank_turn blocks budget) 4
      (λ bank low x r. chosen_going bank low (eldest
      (answers_read blocks budget x bank) reads x.window.frames) x r refl)
      4 (omega arith) g go
