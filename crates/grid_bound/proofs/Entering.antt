-- The tokens of a node enter the mesh as the lane has them: from the node at which they enter to where they are used.
use Rattle.std.proofs.Common.{◌≡◌, ◌≢◌, ℕ, suc, ◌+◌, ◌*◌, ◌%◌, ◌<◌, ◌==◌, ◌&&◌, ◌⊎◌, inl, inr, Bool, true, false}
use Rattle.std.proofs.Common.{cond, Option, Some, None, is_some, slice_get, slice_index, refl, sym, ap, ap₂}
use Rattle.std.proofs.Common.{◌∙◌, arith}
use Rattle.std.proofs.lemmas.Bool.Decides.{nat_tests}
use Rattle.std.proofs.lemmas.Bool.{ne_eqb, eq-eqb, cond-false}
use Rattle.trips_isa.specs.declared.block.Inst.{Inst}
use Rattle.trips_isa.specs.declared.block.ReadSlot.{ReadSlot}
use Rattle.trips_isa.specs.declared.block.Block.{Block}
use Rattle.trips_isa.specs.Forms.{form_of}
use Rattle.trips_isa.specs.Places.{nodes_of, place_of, place_at, first_place}
use Rattle.block_cases.specs.Orders.{slot_of}
use Rattle.operand_net.specs.declared.parcel.Stand.{Stand}
use Rattle.operand_net.specs.declared.parcel.Stand.TheVariants.{Nowhere}
use Rattle.commit_flush_spec.specs.Frames.{Frame, at, source, target, named_at, is_target, slot_node}
use Rattle.commit_flush_spec.proofs.Sends.{slot_source, read_source}
use Rattle.commit_flush_spec.specs.inside.DrivingLaws.{IsFilled}
use Rattle.commit_flush_spec.proofs.Producers.{node_of_slot, node_of_read}
use Rattle.grid_cycle_spec.specs.Stations.{home}
use Rattle.grid_cycle_spec.specs.Grid.{Grid}
use Rattle.grid_cycle_spec.specs.Sending.{enters, enters_if, enter_both}
use Rattle.grid_bound.specs.inside.Sending.{parcel, launch}
use Rattle.grid_bound.specs.inside.Blocks.{target_at}
use Rattle.grid_bound.proofs.Ahead.{same_number}

-- where tokens go ----------------------------------------------------------------------------------

module _ (b : Block) (x p : ℕ) (even : p % 2 ≡ 0) (from : (source b p ≡ x) × (source b (suc p) ≡ x)) where
  first_goes : target b p ≡ named_at (slice_get (nodes_of b) x) true
  first_goes =
      let par : (p % 2 == 0) ≡ true = grind (arith, nat_tests) in
      ap₂ (λ y c. named_at (slice_get (nodes_of b) y) c) from.0 par

  second_goes : target b (suc p) ≡ named_at (slice_get (nodes_of b) x) false
  second_goes =
      let odd : suc p % 2 ≡ 1 = omega (arith, even) in
      let par : (suc p % 2 == 0) ≡ false = grind (arith, nat_tests) in
      ap₂ (λ y c. named_at (slice_get (nodes_of b) y) c) from.1 par

-- the two places of a slot go to the two targets of its instruction
pub slot_targets : (b : Block) (s : ℕ) (i : Inst) → s < 128 → slot_of b s ≡ Some i
    → (target b (2 * s) ≡ first_place (form_of i.op) i.number i.first)
    × (target b (suc (2 * s)) ≡ place_at i.second)
slot_targets b s i l e =
    let even : 2 * s % 2 ≡ 0 = omega arith in
    let n = node_of_slot b s i e in (
      first_goes b (slot_node b s) (2 * s) even (slot_source b s l) ∙ ap (λ n. named_at n true) n,
      second_goes b (slot_node b s) (2 * s) even (slot_source b s l) ∙ ap (λ n. named_at n false) n,
    )

-- the places of a read have the targets that it names
pub read_targets : (b : Block) (r : ℕ) (slot : ReadSlot) → slice_get b.reads.items r ≡ Some slot
    → (target b (256 + 2 * r) ≡ place_of slot.first) × (target b (suc (256 + 2 * r)) ≡ place_at slot.second)
read_targets b r slot e =
    let even : (256 + 2 * r) % 2 ≡ 0 = omega arith in
    let n = node_of_read b r slot e in (
      first_goes b r (256 + 2 * r) even (read_source b r) ∙ ap (λ n. named_at n true) n,
      second_goes b r (256 + 2 * r) even (read_source b r) ∙ ap (λ n. named_at n false) n,
    )

-- which places are filled --------------------------------------------------------------------------

some_or : {A : Type 0} (o : Option A) → (o ≡ None) ⊎ (o ≢ None)
some_or None = inl refl
some_or (Some v) = inr (λ e. cc)

some_is : {A : Type 0} (o : Option A) → o ≢ None → is_some o ≡ true
some_is None n = absurd (n refl)
some_is (Some v) n = refl

-- a place that was empty, and is one of a node that sends, has a token exactly where it has a target
pub filled_is : (f e : Frame) (p q : ℕ) → IsFilled f e p q → (q ≡ p) ⊎ (q ≡ suc p) → at f.places q ≡ None
    → is_some (at e.places q) ≡ is_target (target f.code q)
filled_is f e p q h w none = go (is_target (target f.code q)) refl (some_or (at e.places q))
  where
    go : (b : Bool) → is_target (target f.code q) ≡ b → (at e.places q ≡ None) ⊎ (at e.places q ≢ None)
        → is_some (at e.places q) ≡ b
    go true t k = some_is (at e.places q) (h.1 (inr (w, t)))
    go false t (inl k) = ap is_some k
    go false t (inr k) = absurd (by (h.0 k))
      where
        by : (at f.places q ≢ None) ⊎ (((q ≡ p) ⊎ (q ≡ suc p)) × (is_target (target f.code q) ≡ true)) → ⊥
        by (inl z) = z none
        by (inr z) = let bad : true ≡ false = sym z.1 ∙ t in cc

-- entering -----------------------------------------------------------------------------------------

and_off : (a b : Bool) → b ≡ false → (a && b) ≡ false
and_off true b e = e
and_off false b e = refl

and_on : (a b : Bool) → b ≡ true → (a && b) ≡ a
and_on true b e = e
and_on false b e = refl

-- a token is launched to its target
launched : (from : ℕ) (f : Frame) (n : ℕ) (b : Bool) (q : ℕ) (old : Stand) → b ≡ is_target q → old ≡ Nowhere
    → cond b (parcel n from (home f.code q)) old ≡ launch n from (target_at f.code q)
launched from f n b q old e z =
    ap₂ (λ b s. cond b (parcel n from (home f.code q)) s) e z ∙ go (is_target q)
  where
    go : (b : Bool) → cond b (parcel n from (home f.code q)) Nowhere
        ≡ launch n from (cond b (Some (record { spot = q; there = home f.code q })) None)
    go true = refl
    go false = refl

module _ {W : Type 0} (from : ℕ) (f : Frame) where
  -- the generation of a frame's number
  abbrev pub born : Grid W → ℕ
  born g = slice_index g.window.generations f.number

  -- a token that enters makes a parcel in its own place, and changes no other
  pub one_entered : (g : Grid W) (b : Bool) (place to q : ℕ)
      → (cond b (enters f.number place from to g) g).parcels f.number q
      ≡ cond (b && q == place) (parcel (born g) from to) (g.parcels f.number q)
  one_entered g true place to q =
      ap (λ t. cond (t && q == place) (parcel (born g) from to) (g.parcels f.number q)) (same_number f.number)
  one_entered g false place to q = refl

  abbrev Only : Grid W → Grid W → Type 0
  Only g h = h ≡ record g { parcels = h.parcels }

  one_only : (g : Grid W) (b : Bool) (place to : ℕ) → Only g (cond b (enters f.number place from to g) g)
  one_only g true place to = refl
  one_only g false place to = refl

  -- only parcels change
  pub both_only : (g : Grid W) (place : ℕ) → Only g (enter_both from f place g)
  both_only g place =
      let m : Grid W = enters_if from f place g in
      one_only m (is_some (at f.places (suc place))) (suc place) (home f.code (target f.code (suc place)))
      ∙ ap (λ (k : Grid W). record k { parcels = (enter_both from f place g).parcels })
      (one_only g (is_some (at f.places place)) place (home f.code (target f.code place)))

  born_same : (g : Grid W) (place : ℕ) → born (enters_if from f place g) ≡ born g
  born_same g place = ap born (one_only g (is_some (at f.places place)) place (home f.code (target f.code place)))

  -- other places keep their parcels
  pub both_other : (g : Grid W) (place q : ℕ) → q ≢ place → q ≢ suc place
      → (enter_both from f place g).parcels f.number q ≡ g.parcels f.number q
  both_other g place q n m =
      one_entered (enters_if from f place g) (is_some (at f.places (suc place))) (suc place)
      (home f.code (target f.code (suc place))) q
      ∙ cond-false _ _ _ (and_off _ _ (ne_eqb q (suc place) m))
      ∙ one_entered g (is_some (at f.places place)) place (home f.code (target f.code place)) q
      ∙ cond-false _ _ _ (and_off _ _ (ne_eqb q place n))

  -- the first token of a node enters the mesh on its way to its target, if there is one
  pub first_enters : (g : Grid W) (place : ℕ) → is_some (at f.places place) ≡ is_target (target f.code place)
      → g.parcels f.number place ≡ Nowhere
      → (enter_both from f place g).parcels f.number place
      ≡ launch (born g) from (target_at f.code (target f.code place))
  first_enters g place e z =
      one_entered (enters_if from f place g) (is_some (at f.places (suc place))) (suc place)
      (home f.code (target f.code (suc place))) place
      ∙ cond-false _ _ _ (and_off _ _ (ne_eqb place (suc place) (λ w. absurd (omega (arith, w)))))
      ∙ one_entered g (is_some (at f.places place)) place (home f.code (target f.code place)) place
      ∙ ap (λ b. cond b (parcel (born g) from (home f.code (target f.code place))) (g.parcels f.number place))
      (and_on (is_some (at f.places place)) (place == place) (eq-eqb place place refl))
      ∙ launched from f (born g) (is_some (at f.places place)) (target f.code place) (g.parcels f.number place) e z

  -- the second token of a node enters the mesh on its way to its target, if there is one
  pub second_enters : (g : Grid W) (place : ℕ)
      → is_some (at f.places (suc place)) ≡ is_target (target f.code (suc place))
      → g.parcels f.number (suc place) ≡ Nowhere
      → (enter_both from f place g).parcels f.number (suc place)
      ≡ launch (born g) from (target_at f.code (target f.code (suc place)))
  second_enters g place e z =
      let m : Grid W = enters_if from f place g in
      let to : ℕ = home f.code (target f.code (suc place)) in
      one_entered m (is_some (at f.places (suc place))) (suc place) to (suc place)
      ∙ ap (λ b. cond b (parcel (born m) from to) (m.parcels f.number (suc place)))
      (and_on (is_some (at f.places (suc place))) (suc place == suc place) (eq-eqb (suc place) (suc place) refl))
      ∙ ap₂ (λ n s. cond (is_some (at f.places (suc place))) (parcel n from to) s) (born_same g place)
      (one_entered g (is_some (at f.places place)) place (home f.code (target f.code place)) (suc place)
      ∙ cond-false _ _ _ (and_off _ _ (ne_eqb (suc place) place (λ w. absurd (omega (arith, w))))))
      ∙ launched from f (born g) (is_some (at f.places (suc place))) (target f.code (suc place))
      (g.parcels f.number (suc place)) e z
