-- A node that sends its token fills the places of its targets, and no others.
use Rattle.std.proofs.Common.{◌≡◌, ◌≢◌, ℕ, suc, ◌+◌, ◌*◌, ◌%◌, ◌<◌, Bool, true, false, ◌==◌, ◌⊎◌, inl, inr, List}
use Rattle.std.proofs.Common.{Option, Some, None, slice_get, length, refl, ap, ap₂, ◌∙◌, arith}
use Rattle.std.proofs.lemmas.Bool.Decides.{nat_tests}
use Rattle.trips_isa.specs.declared.block.Token.{Token}
use Rattle.trips_isa.specs.declared.node.Node.{Node}
use Rattle.trips_isa.specs.Rule.{Answer}
use Rattle.trips_isa.specs.Places.{nodes_of}
use Rattle.commit_flush_spec.specs.Frames.{Frame, at, slot_node, source, target, named_at, is_target}
use Rattle.commit_flush_spec.specs.Sending.{put_if, sent, send}
use Rattle.commit_flush_spec.proofs.Lists.{written_or}
use Rattle.commit_flush_spec.proofs.Lost.{sent_there, sent_stands}
use Rattle.commit_flush_spec.proofs.Sends.{slot_source, read_source}
use Rattle.commit_flush_spec.specs.inside.DrivingLaws.{IsFilled}

put_or : (b : Bool) (xs : List Answer) (p : ℕ) (t : Token) (q : ℕ) → at (put_if b xs p t) q ≢ None
    → ((q ≡ p) × (b ≡ true)) ⊎ (at xs q ≢ None)
put_or true xs p t q h = elim (written_or xs p q (Some t) h) [ inl z ↦ inl (z.0, refl) | inr z ↦ inr z ]
put_or false xs p t q h = inr h

-- what stands in a place was put there for the first or the second target, or stood there before
sent_or : (o : Option Node) (xs : List Answer) (p : ℕ) (t : Token) (q : ℕ) → at (sent o xs p t) q ≢ None
    → (((q ≡ p) × (is_target (named_at o true) ≡ true)) ⊎ ((q ≡ suc p) × (is_target (named_at o false) ≡ true)))
    ⊎ (at xs q ≢ None)
sent_or None xs p t q h = inr h
sent_or (Some n) xs p t q h = elim (put_or (is_target n.second) (put_if (is_target n.first) xs p t) (suc p) t q h) [
  | inl z ↦ inl (inr z)
  | inr z ↦ elim (put_or (is_target n.first) xs p t q z) [ inl w ↦ inl (inl w) | inr w ↦ inr w ]
]

module _ (f : Frame) (x p : ℕ) (t : Token) (even : p % 2 ≡ 0) (room : suc p < length f.places)
    (from : (source f.code p ≡ x) × (source f.code (suc p) ≡ x)) where
  -- the target of the first place, and of the second
  first_goes : target f.code p ≡ named_at (slice_get (nodes_of f.code) x) true
  first_goes =
      let par : (p % 2 == 0) ≡ true = grind (arith, nat_tests) in
      ap₂ (λ y c. named_at (slice_get (nodes_of f.code) y) c) from.0 par

  second_goes : target f.code (suc p) ≡ named_at (slice_get (nodes_of f.code) x) false
  second_goes =
      let odd : suc p % 2 ≡ 1 = omega (arith, even) in
      let par : (suc p % 2 == 0) ≡ false = grind (arith, nat_tests) in
      ap₂ (λ y c. named_at (slice_get (nodes_of f.code) y) c) from.1 par

  -- a node that sends its token fills each place as the law says
  pub fills : (q : ℕ) → IsFilled f (send x p (Some t) f) p q
  fills q = (
    λ h. elim (sent_or (slice_get (nodes_of f.code) x) f.places p t q h) [
      | inl z ↦ elim z [
        | inl w ↦ inr (inl w.0, ap is_target (ap (target f.code) w.0 ∙ first_goes) ∙ w.1)
        | inr w ↦ inr (inr w.0, ap is_target (ap (target f.code) w.0 ∙ second_goes) ∙ w.1)
      ]
      | inr z ↦ inl z
    ],
    λ h. elim h [
      | inl z ↦ sent_there (slice_get (nodes_of f.code) x) f.places p t q z
      | inr z ↦ sent_stands f.code f.places x p t q even room z.0 (elim z.0 [
        | inl w ↦ ap (source f.code) w ∙ from.0
        | inr w ↦ ap (source f.code) w ∙ from.1
      ]) z.1
    ],
  )

-- a slot that sends its token fills its two places, and no others
pub slot_fills : (f : Frame) (s : ℕ) (t : Token) → length f.places ≡ 320 → s < 128 → (q : ℕ)
    → IsFilled f (send (slot_node f.code s) (2 * s) (Some t) f) (2 * s) q
slot_fills f s t size l q = fills f (slot_node f.code s) (2 * s) t (omega arith) (omega (arith, size, l))
    (slot_source f.code s l) q

-- a read that sends its token fills its two places, and no others
pub read_fills : (f : Frame) (r : ℕ) (t : Token) → length f.places ≡ 320 → r < 32 → (q : ℕ)
    → IsFilled f (send r (256 + 2 * r) (Some t) f) (256 + 2 * r) q
read_fills f r t size l q = fills f r (256 + 2 * r) t (omega arith) (omega (arith, size, l)) (read_source f.code r) q
