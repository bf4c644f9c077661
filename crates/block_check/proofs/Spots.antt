-- Spots that take tokens and their places, and what is owed a token.
use Rattle.std.proofs.Common.{◌≡◌, ℕ, ◌+◌, ◌-◌, ◌<◌, ◌≤◌, Bool, true, false, cond, ◌&&◌, ◌⊎◌, inl}
use Rattle.std.proofs.Common.{inr, nat_lt, nat_le, length, refl, sym, ap, ◌∙◌, arith}
use Rattle.std.proofs.Common.{true≢false}
use Rattle.trips_isa.specs.declared.block.Spot.{Spot}
use Rattle.trips_isa.specs.declared.block.Spot.TheVariants.{Read, Inst, Left, Right, Pred, Write}
use Rattle.trips_isa.specs.declared.block.Spot.TheVariants.{Store}
use Rattle.trips_isa.specs.declared.block.Block.{Block}
use Rattle.block_cases.proofs.Steady.{or_left, or_right}
use Rattle.block_cases.proofs.Alike.{and_true, both_true, or_true}
use Rattle.block_cases.specs.Blocks.{place_of, in_mask, wanted_of}
use Rattle.block_check.specs.Faults.{TakesTokens, IsOwed}
use Rattle.block_check.specs.Faults.{spot_order}
use Rattle.block_check.specs.inside.Checked.{spot_of}

-- a place that passes a test is not before k where none before k passes
pub not_before : (p : ℕ → Bool) (k j : ℕ) → ((i : ℕ) → i < k → p i ≡ false) → p j ≡ true → k ≤ j
not_before p k j h e = go (nat_lt j k) refl
  where
    go : (v : Bool) → nat_lt j k ≡ v → k ≤ j
    go true i = absurd (true≢false (sym e ∙ h j (grind arith)))
    go false i = grind arith

-- in the order of spots one that takes tokens stands below 2,048
pub spot_low : (s : Spot) → TakesTokens s → spot_order s < 2048
spot_low (Left s) h = omega arith
spot_low (Right s) h = omega arith
spot_low (Pred s) h = omega arith
spot_low (Write s) h = omega arith
spot_low (Store s) h = omega arith
spot_low (Read s) h = absurd h
spot_low (Inst s) h = absurd h

-- spots that take tokens stand in the order of their places
pub place_order : (s t : Spot) → TakesTokens s → TakesTokens t → place_of s ≤ place_of t →
    spot_order s ≤ spot_order t
place_order (Read s) t h k l = absurd h
place_order (Inst s) t h k l = absurd h
place_order (Left s) (Read t) h k l = absurd k
place_order (Left s) (Inst t) h k l = absurd k
place_order (Left s) (Left t) h k l = omega arith
place_order (Left s) (Right t) h k l = omega arith
place_order (Left s) (Pred t) h k l = omega arith
place_order (Left s) (Write t) h k l = omega arith
place_order (Left s) (Store t) h k l = omega arith
place_order (Right s) (Read t) h k l = absurd k
place_order (Right s) (Inst t) h k l = absurd k
place_order (Right s) (Left t) h k l = omega arith
place_order (Right s) (Right t) h k l = omega arith
place_order (Right s) (Pred t) h k l = omega arith
place_order (Right s) (Write t) h k l = omega arith
place_order (Right s) (Store t) h k l = omega arith
place_order (Pred s) (Read t) h k l = absurd k
place_order (Pred s) (Inst t) h k l = absurd k
place_order (Pred s) (Left t) h k l = omega arith
place_order (Pred s) (Right t) h k l = omega arith
place_order (Pred s) (Pred t) h k l = omega arith
place_order (Pred s) (Write t) h k l = omega arith
place_order (Pred s) (Store t) h k l = omega arith
place_order (Write s) (Read t) h k l = absurd k
place_order (Write s) (Inst t) h k l = absurd k
place_order (Write s) (Left t) h k l = omega arith
place_order (Write s) (Right t) h k l = omega arith
place_order (Write s) (Pred t) h k l = omega arith
place_order (Write s) (Write t) h k l = omega arith
place_order (Write s) (Store t) h k l = omega arith
place_order (Store s) (Read t) h k l = absurd k
place_order (Store s) (Inst t) h k l = absurd k
place_order (Store s) (Left t) h k l = omega arith
place_order (Store s) (Right t) h k l = omega arith
place_order (Store s) (Pred t) h k l = omega arith
place_order (Store s) (Write t) h k l = omega arith
place_order (Store s) (Store t) h k l = omega arith

-- a place below the exit is that of its spot
pub record SpotAt (q : ℕ) (s : Spot) : Type 0 where
  pub place : place_of s ≡ q
  pub takes : TakesTokens s

-- each place below 448 is that of its spot
pub at_spot : (q : ℕ) → q < 448 → SpotAt q (spot_of q)
at_spot q h = by_left (nat_lt q 128) refl
  where
    by_store : (d : Bool) → nat_lt q 416 ≡ d → 384 ≤ q →
        SpotAt q (cond d (Write (q - 384)) (Store (q - 416)))
    by_store true e l = record {
      place = (let t : q < 416 = grind arith in
          omega arith);
      takes = (let t : q < 416 = grind arith in omega arith);
    }
    by_store false e l = record {
      place = (let t : 416 ≤ q = grind arith in
          omega arith);
      takes = (let t : 416 ≤ q = grind arith in omega arith);
    }

    by_write : (c : Bool) → nat_lt q 384 ≡ c → 256 ≤ q →
        SpotAt q (cond c (Pred (q - 256)) (cond (nat_lt q 416) (Write (q - 384)) (Store (q - 416))))
    by_write true e l = record {
      place = omega arith;
      takes = (let t : q < 384 = grind arith in
          omega arith);
    }
    by_write false e l = by_store (nat_lt q 416) refl (grind arith)

    by_right : (b : Bool) → nat_lt q 256 ≡ b → 128 ≤ q →
        SpotAt q (cond b (Right (q - 128)) (cond (nat_lt q 384) (Pred (q - 256)) (cond (nat_lt q
        416) (Write (q - 384)) (Store (q - 416)))))
    by_right true e l = record {
      place = omega arith;
      takes = (let t : q < 256 = grind arith in
          omega arith);
    }
    by_right false e l = by_write (nat_lt q 384) refl (grind arith)

    by_left : (a : Bool) → nat_lt q 128 ≡ a → SpotAt q (cond a (Left q) (cond (nat_lt q 256) (Right
        (q - 128)) (cond (nat_lt q 384) (Pred (q - 256)) (cond (nat_lt q 416) (Write (q - 384))
        (Store (q - 416))))))
    by_left true e = record { place = refl; takes = grind arith }
    by_left false e = by_right (nat_lt q 256) refl (grind arith)

-- the place of a spot that takes tokens is below 448
pub takes_below : (s : Spot) → TakesTokens s → place_of s < 448
takes_below (Left s) h = omega arith
takes_below (Right s) h = omega arith
takes_below (Pred s) h = omega arith
takes_below (Write s) h = omega arith
takes_below (Store s) h = omega arith
takes_below (Read s) h = absurd h
takes_below (Inst s) h = absurd h

-- declared writes and numbers of the mask, as spots and as places
pub le_true : (a b : ℕ) → a ≤ b → nat_le a b ≡ true
le_true a b h = grind arith

-- a number below another passes the test
pub lt_true : (a b : ℕ) → a < b → nat_lt a b ≡ true
lt_true a b h = grind arith

-- the test tells that a number is at most another
pub true_le : (a b : ℕ) → nat_le a b ≡ true → a ≤ b
true_le a b h = grind arith

-- where the test of less is true, the one number is less than the other
pub true_lt : (a b : ℕ) → nat_lt a b ≡ true → a < b
true_lt a b h = grind arith

-- the numbers of a mask are below 32
pub mask_below : (mask n : ℕ) → in_mask mask n ≡ true → n < 32
mask_below mask n e = true_lt n 32 (and_true _ _ e).0

-- what a block owes at a spot is wanted at its place
pub owed_wanted : (b : Block) (s : Spot) → IsOwed b s → wanted_of b (place_of s) ≡ true
owed_wanted b (Write w) h = or_left _ _ (both_true _ _ (le_true 384 (384 + w) (omega arith))
    (lt_true (384 + w) _ (omega arith)))
owed_wanted b (Store n) h =
    let low : n < 32 = mask_below b.mask n h in
    let back : 416 + n - 416 ≡ n = omega arith in
    or_right (nat_le 384 (416 + n) && nat_lt (416 + n) (384 + length b.writes.items)) _
    (both_true _ _ (le_true 416 (416 + n) (omega arith)) (both_true _ _ (lt_true (416 + n) 448
    (omega arith)) (ap (in_mask b.mask) back ∙ h)))
owed_wanted b (Read s) h = absurd h
owed_wanted b (Inst s) h = absurd h
owed_wanted b (Left s) h = absurd h
owed_wanted b (Right s) h = absurd h
owed_wanted b (Pred s) h = absurd h

-- a spot that is owed a token takes tokens
pub owed_takes : (b : Block) → length b.writes.items ≤ 32 → (s : Spot) → IsOwed b s → TakesTokens s
owed_takes b few (Write w) h = omega arith
owed_takes b few (Store n) h = mask_below b.mask n h
owed_takes b few (Read s) h = absurd h
owed_takes b few (Inst s) h = absurd h
owed_takes b few (Left s) h = absurd h
owed_takes b few (Right s) h = absurd h
owed_takes b few (Pred s) h = absurd h

-- what is wanted is a write or a number
pub wanted_high : (b : Block) (q : ℕ) → wanted_of b q ≡ true → 384 ≤ q
wanted_high b q e = go (or_true _ _ e)
  where
    go : ((nat_le 384 q && nat_lt q (384 + length b.writes.items)) ≡ true) ⊎ ((nat_le 416 q
        && (nat_lt q 448 && in_mask b.mask (q - 416))) ≡ true) → 384 ≤ q
    go (inl h) = true_le 384 q (and_true _ _ h).0
    go (inr h) = let l : 416 ≤ q = true_le 416 q (and_true _ _ h).0 in omega arith

-- a spot whose place is wanted is owed a token
pub wanted_owed : (b : Block) → length b.writes.items ≤ 32 → (s : Spot) → TakesTokens s →
    wanted_of b (place_of s) ≡ true → IsOwed b s
wanted_owed b few (Left s) h e = absurd (let l : 384 ≤ s = wanted_high b s e in omega arith)
wanted_owed b few (Right s) h e = absurd (let l : 384 ≤ 128 + s = wanted_high b (128 + s) e in
    omega arith)
wanted_owed b few (Pred s) h e = absurd (let l : 384 ≤ 256 + s = wanted_high b (256 + s) e in
    omega arith)
wanted_owed b few (Read s) h e = absurd h
wanted_owed b few (Inst s) h e = absurd h
wanted_owed b few (Write w) h e = go (or_true _ _ e)
  where
    go : ((nat_le 384 (384 + w) && nat_lt (384 + w) (384 + length b.writes.items)) ≡ true) ⊎
        ((nat_le 416 (384 + w) && (nat_lt (384 + w) 448
        && in_mask b.mask (384 + w - 416))) ≡ true) → w < length b.writes.items
    go (inl i) = let l : 384 + w < 384 + length b.writes.items = true_lt (384 + w) (384 + length
        b.writes.items) (and_true _ _ i).1 in omega arith
    go (inr i) = let l : 416 ≤ 384 + w = true_le 416 (384 + w) (and_true _ _ i).0 in
        absurd (omega arith)
wanted_owed b few (Store n) h e = go (or_true _ _ e)
  where
    go : ((nat_le 384 (416 + n) && nat_lt (416 + n) (384 + length b.writes.items)) ≡ true) ⊎
        ((nat_le 416 (416 + n) && (nat_lt (416 + n) 448
        && in_mask b.mask (416 + n - 416))) ≡ true) → in_mask b.mask n ≡ true
    go (inl i) = let l : 416 + n < 384 + length b.writes.items = true_lt (416 + n) (384 + length
        b.writes.items) (and_true _ _ i).1 in absurd (omega arith)
    go (inr i) = let back : n ≡ 416 + n - 416 = omega arith in ap (in_mask b.mask) back
        ∙ (and_true _ _ (and_true _ _ i).1).1
