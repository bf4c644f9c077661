-- Part (6) of a cycle, place by place: what has come in the places of all frames is delivered, and the rule is kept.
use Rattle.std.proofs.Common.{◌≡◌, ℕ, zero, suc, ◌<◌}
use Rattle.std.proofs.Common.{Bool, true, false}
use Rattle.std.proofs.Common.{List, [], ◌∷◌, Option, Some, None}
use Rattle.std.proofs.Common.{refl, sym, ap, ap₂, ◌∙◌, subst, true≢false, arith}
use Rattle.trips_isa.specs.declared.block.Block.{Block}
use Rattle.operand_net.specs.declared.parcel.Parcel.{Parcel}
use Rattle.operand_net.specs.declared.parcel.Stand.{Stand}
use Rattle.operand_net.specs.declared.parcel.Stand.TheVariants.{Nowhere, Away, Held}
use Rattle.operand_net.specs.Places.{put}
use Rattle.operand_net.specs.inside.Places.{come}
use Rattle.operand_net.specs.inside.IsStands.{is_here}
use Rattle.commit_flush_spec.specs.inside.Invariant.{AllGood}
use Rattle.grid_cycle_spec.specs.Grid.{Grid}
use Rattle.grid_cycle_spec.specs.Choosing.{each, with_frame}
use Rattle.grid_cycle_spec.specs.inside.Choosing.{places}
use Rattle.grid_cycle_spec.specs.inside.Arrivals.{place_arrives, arrives_if, arrival, arrivals}
use Rattle.grid_cycle_spec.proofs.KeptChanges.{places_are}
use Rattle.grid_bound.specs.inside.Rule.{runs_in}
use Rattle.grid_bound.proofs.EachFrame.{find_at}
use Rattle.grid_bound.proofs.EachFrame.{runs_are, with_at}
use Rattle.grid_bound.proofs.GoingGrids.{Going}
use Rattle.grid_bound.proofs.GoingGrids.{each_going}
use Rattle.grid_bound.proofs.ArrivalParts.{arrives_going}

-- places -----------------------------------------------------------------------------------------

come_here : (n p : ℕ) (s : Stand) (c : Parcel) → come n p s ≡ Some c
    → (is_here s ≡ true) × ((c.frame ≡ n) × (c.place ≡ p))
come_here n p Nowhere c e = absurd (cc)
come_here n p (Away t h) c e = absurd (cc)
come_here n p (Held t (suc h)) c e = absurd (cc)
come_here n p (Held t zero) c e = (refl, (sym (ap frame_in e), sym (ap place_in e)))
  where
    frame_in : Option Parcel → ℕ
    frame_in None = n
    frame_in (Some d) = d.frame

    place_in : Option Parcel → ℕ
    place_in None = p
    place_in (Some d) = d.place

module _ {W : Type 0} (blocks : List Block) (good : AllGood blocks) (budget : ℕ) where
  come_going : (n p : ℕ) → p < 320 → (q : Option Parcel) (g : Grid W) → come n p (g.parcels n p) ≡ q
      → Going blocks budget 0 g → Going blocks budget 0 (arrives_if blocks budget n p q g)
  come_going n p l None g e go = go
  come_going n p l (Some c) g e go =
      let k = come_here n p (g.parcels n p) c e in
      let h : Grid W = record g { parcels = put g.parcels n p Nowhere } in
      subst (λ x. Going blocks budget 0 (with_frame n (place_arrives blocks budget p) g.window.frames
      (record g { parcels = x }))) (sym (ap₂ (λ x y. put g.parcels x y Nowhere) (k.1).0 (k.1).1))
      (by k.0 h refl)
    where
      runs : is_here (g.parcels n p) ≡ true → runs_in n g.window.frames ≡ true
      runs here = side (runs_in n g.window.frames) refl
        where
          side : (b : Bool) → runs_in n g.window.frames ≡ b → runs_in n g.window.frames ≡ true
          side true i = i
          side false i = absurd (true≢false (sym here ∙ ap is_here ((go.ties.nothing n i).none_travels p l)))

      by : is_here (g.parcels n p) ≡ true → (h : Grid W) → h ≡ record g { parcels = put g.parcels n p Nowhere }
          → Going blocks budget 0 (with_frame n (place_arrives blocks budget p) g.window.frames
          (record g { parcels = put g.parcels n p Nowhere }))
      by here h same' =
          let a = find_at n g.window.frames go.ok.numbers (runs_are n g.window.frames (runs here)) in
          subst (Going blocks budget 0) (sym (with_at n (place_arrives blocks budget p) g.window.frames a
          (record g { parcels = put g.parcels n p Nowhere })))
          (subst (λ x. Going blocks budget 0 (place_arrives blocks budget p a.frame
          (record g { parcels = put g.parcels x p Nowhere }))) a.number
          (arrives_going blocks good budget g go n p l a (ap (λ x. is_here (g.parcels x p)) a.number ∙ here)))

  -- what arrives in the places of all frames keeps the rule
  pub arrivals_going : (ns : List ℕ) (g : Grid W) → Going blocks budget 0 g
      → Going blocks budget 0 (arrivals blocks budget ns g)
  arrivals_going [] g go = go
  arrivals_going (n ∷ ns) g go = arrivals_going ns (each (arrival blocks budget n) places g)
      (subst (λ k. Going blocks budget 0 (each (arrival blocks budget n) k g)) (sym places_are)
      (each_going blocks budget 0 (arrival blocks budget n) 320
      (λ p l x r. come_going n p l (come n p (x.parcels n p)) x refl r) 320 (omega arith) g go))
