-- A tree of movs is balanced: the spot at index e of what it feeds has d movs before it, where 2 ^ d is at most
-- e + 2.
use Rattle.std.proofs.Common.{◌≡◌, ℕ, zero, suc, ◌+◌, ◌-◌, ◌*◌, ◌^◌, ◌<◌, ◌≤◌, Bool, true, false}
use Rattle.std.proofs.Common.{List, [], ◌∷◌, ◌++◌, length, slice_get, Some, None}
use Rattle.std.proofs.Common.{◌⊎◌, inl, inr, refl, ap, subst, ◌∙◌, arith}
use Rattle.std.proofs.lemmas.Option.{slice_get_within}
use Rattle.trips_isa.specs.declared.form.Form.{Form}
use Rattle.trips_isa.specs.declared.form.Form.TheVariants.{General, Immediate, Load, Store, Branch}
use Rattle.trips_isa.specs.declared.form.Form.TheVariants.{Constant}
use Rattle.trips_isa.specs.declared.block.Spot.{Spot}
use Rattle.trips_isa.specs.declared.block.Spot.TheVariants as spot
use Rattle.ir_forms.specs.declared.flow.FlowSource.{FlowSource}
use Rattle.fan_out.specs.inside.Fans.{Placed, Fan, lefts, fed, pairs, by_tree, one_target, from_two}
use Rattle.fan_out.specs.inside.Fans.{first_alone, beside}
use Rattle.fan_out.specs.inside.Fans.{two_targets, form_fan, all_operands, if_operands, read_fan, mov_to}
use Rattle.fan_out.specs.inside.Depths.{IsTarget, Way, IsNear}
use Rattle.fan_out.proofs.Bringing.{fed_length, second_none}

-- half of a number, and whether one is left
record Half (e : ℕ) : Type 0 where
  half : ℕ
  is : (e ≡ half + half) ⊎ (e ≡ suc (half + half))

one_more : (e m : ℕ) → (e ≡ m + m) ⊎ (e ≡ suc (m + m))
    → (suc (suc e) ≡ suc m + suc m) ⊎ (suc (suc e) ≡ suc (suc m + suc m))
one_more e m (inl i) = inl (omega arith)
one_more e m (inr i) = inr (omega arith)

half_of : (e : ℕ) → Half e
half_of zero = record { half = 0; is = inl refl }
half_of (suc zero) = record { half = 0; is = inr refl }
half_of (suc (suc e)) =
    let h = half_of e in record { half = suc h.half; is = one_more e h.half h.is }

-- a mov among others that feeds a spot
record Feeds (ps : List Placed) (m : ℕ) (t : Spot) : Type 0 where
  mov : Placed
  stands : slice_get ps m ≡ Some mov
  feeds : IsTarget mov.inst.first mov.inst.second t

-- mov m feeds the spots at 2 m and at 2 m + 1
pairs_feed : (s : FlowSource) (ts : List Spot) (e m : ℕ) (t : Spot)
    → (e ≡ m + m) ⊎ (e ≡ suc (m + m)) → slice_get ts e ≡ Some t → Feeds (pairs s ts) m t
pairs_feed s [] e m t h g = absurd (cc)
pairs_feed s (a ∷ []) zero zero t h g = record { mov = mov_to s a None; stands = refl; feeds = inl g }
pairs_feed s (a ∷ []) zero (suc m) t (inl h) g = absurd (omega arith)
pairs_feed s (a ∷ []) zero (suc m) t (inr h) g = absurd (omega arith)
pairs_feed s (a ∷ []) (suc e) m t h g = absurd (cc)
pairs_feed s (a ∷ b ∷ rest) zero zero t h g =
    record { mov = mov_to s a (Some b); stands = refl; feeds = inl g }
pairs_feed s (a ∷ b ∷ rest) (suc zero) zero t h g =
    record { mov = mov_to s a (Some b); stands = refl; feeds = inr g }
pairs_feed s (a ∷ b ∷ rest) zero (suc m) t (inl h) g = absurd (omega arith)
pairs_feed s (a ∷ b ∷ rest) zero (suc m) t (inr h) g = absurd (omega arith)
pairs_feed s (a ∷ b ∷ rest) (suc zero) (suc m) t (inl h) g = absurd (omega arith)
pairs_feed s (a ∷ b ∷ rest) (suc zero) (suc m) t (inr h) g = absurd (omega arith)
pairs_feed s (a ∷ b ∷ rest) (suc (suc e)) zero t (inl h) g = absurd (omega arith)
pairs_feed s (a ∷ b ∷ rest) (suc (suc e)) zero t (inr h) g = absurd (omega arith)
pairs_feed s (a ∷ b ∷ rest) (suc (suc e)) (suc m) t h g =
    let f = pairs_feed s rest e m t (less h) g in
    record { mov = f.mov; stands = f.stands; feeds = f.feeds }
  where
    less : (suc (suc e) ≡ suc m + suc m) ⊎ (suc (suc e) ≡ suc (suc m + suc m))
        → (e ≡ m + m) ⊎ (e ≡ suc (m + m))
    less (inl i) = inl (omega arith)
    less (inr i) = inr (omega arith)

-- the left operand at an index of some from `next` on
left_at : (next k i : ℕ) (ts : List Spot) → i < k
    → slice_get (lefts next k ++ ts) i ≡ Some (spot.Left (next + i))
left_at next zero i ts l = absurd (omega arith)
left_at next (suc k) zero ts l = let e : next ≡ next + 0 = omega arith in ap (λ j. Some (spot.Left j)) e
left_at next (suc k) (suc i) ts l =
    let e : suc next + i ≡ next + suc i = omega arith in
    left_at (suc next) k i ts (omega arith) ∙ ap (λ j. Some (spot.Left j)) e

-- the spot at an index behind those operands
spot_at : (next k i : ℕ) (ts : List Spot) → slice_get (lefts next k ++ ts) (k + i) ≡ slice_get ts i
spot_at next zero i ts = let e : 0 + i ≡ i = omega arith in ap (slice_get ts) e
spot_at next (suc k) i ts =
    let e : suc k + i ≡ suc (k + i) = omega arith in
    ap (slice_get (lefts next (suc k) ++ ts)) e ∙ spot_at (suc next) k i ts

-- a way over some movs, few for an index
record Short (n : ℕ) (fan : Fan) (less e : ℕ) (t : Spot) : Type 0 where
  movs : ℕ
  way : Way n fan movs t
  few : 2 ^ (less + movs) ≤ e + 2

-- one mov more behind the half of an index
one_deeper : (less d m e : ℕ) → m + m + 2 ≤ e → 2 ^ (less + d) ≤ m + 2 → 2 ^ (less + suc d) ≤ e + 2
one_deeper less d m e h l =
    let i : less + suc d ≡ suc (less + d) = omega arith in
    let p : 2 ^ suc (less + d) ≡ 2 ^ (less + d) * 2 = omega arith in
    let q : 2 ^ (less + suc d) ≡ 2 ^ suc (less + d) = ap (λ (x : ℕ). 2 ^ x) i in
    omega arith

as_one : (d : ℕ) → 2 ^ (0 + d) ≡ 2 ^ d
as_one d = let i : 0 + d ≡ d = omega arith in ap (λ (x : ℕ). 2 ^ x) i

as_two : (d : ℕ) → 2 ^ (1 + d) ≡ 2 ^ d * 2
as_two d =
    let i : 1 + d ≡ suc d = omega arith in
    let p : 2 ^ suc d ≡ 2 ^ d * 2 = omega arith in
    ap (λ (x : ℕ). 2 ^ x) i ∙ p

-- the half of an index is below it
half_low : (e m size : ℕ) → (e ≡ m + m) ⊎ (e ≡ suc (m + m)) → e < size → (m + m ≤ e) × (m + m < size)
half_low e m size (inl i) l = (omega arith, omega arith)
half_low e m size (inr i) l = (omega arith, omega arith)

module _ (s : FlowSource) (n : ℕ) (ts : List Spot) where
  -- the ways of a tree that has its root in a mov
  tree_way : (fuel e : ℕ) (t : Spot) → e < fuel → slice_get (fed (suc n) ts) e ≡ Some t
      → Short n (by_tree s n ts) 0 e t
  tree_way zero e t l g = absurd (omega arith)
  tree_way (suc fuel) e t l g = by h.half h.is (pairs_feed s (fed (suc n) ts) e h.half t h.is g)
      (λ m u. tree_way fuel m u)
    where
      h : Half e
      h = half_of e

      by : (m : ℕ) → (e ≡ m + m) ⊎ (e ≡ suc (m + m)) → Feeds (pairs s (fed (suc n) ts)) m t
          → ((m : ℕ) (u : Spot) → m < fuel → slice_get (fed (suc n) ts) m ≡ Some u
          → Short n (by_tree s n ts) 0 m u)
          → Short n (by_tree s n ts) 0 e t
      by zero is f rest =
          let same : n ≡ n + 0 = omega arith in
          record {
            movs = 1;
            way = record {
              slot = 0;
              mov = f.mov;
              stands = f.stands;
              before = inl (ap (λ j. Some (spot.Left j)) same);
              feeds = f.feeds;
            };
            few = omega arith;
          }
      by (suc m) is f rest =
          let size = fed_length (suc n) ts in
          let low = half_low e (suc m) (length (fed (suc n) ts)) is
          (slice_get_within (fed (suc n) ts) e t g) in
          let a = low.0 in
          let b = low.1 in
          let at : slice_get (fed (suc n) ts) m ≡ Some (spot.Left (suc n + m)) =
          left_at (suc n) (length ts - 2) m ts (omega arith) in
          let before = rest m (spot.Left (suc n + m)) (omega arith) at in
          let same : suc n + m ≡ n + suc m = omega arith in
          record {
            movs = suc before.movs;
            way = record {
              slot = suc m;
              mov = f.mov;
              stands = f.stands;
              before = subst (λ j. Way n (by_tree s n ts) before.movs (spot.Left j)) same before.way;
              feeds = f.feeds;
            };
            few = one_deeper 0 before.movs m e (omega arith) before.few;
          }

  -- the ways of a tree whose root is the result itself
  root_way : (all : List Spot) (k : ℕ) → length all ≤ k + k + 2
      → ((i : ℕ) → i < k → slice_get all i ≡ Some (spot.Left (n + i)))
      → (fuel e : ℕ) (t : Spot) → e < fuel → slice_get all e ≡ Some t
      → Short n (from_two s all) 1 e t
  root_way all k size at zero e t l g = absurd (omega arith)
  root_way [] k size at (suc fuel) e t l g = absurd (cc)
  root_way (a ∷ []) k size at (suc fuel) zero t l g =
      record { movs = 0; way = inl g; few = omega arith }
  root_way (a ∷ []) k size at (suc fuel) (suc e) t l g = absurd (cc)
  root_way (a ∷ b ∷ rest) k size at (suc fuel) zero t l g =
      record { movs = 0; way = inl g; few = omega arith }
  root_way (a ∷ b ∷ rest) k size at (suc fuel) (suc zero) t l g =
      record { movs = 0; way = inr g; few = omega arith }
  root_way (a ∷ b ∷ rest) k size at (suc fuel) (suc (suc e)) t l g =
      let h = half_of e in
      let f = pairs_feed s rest e h.half t h.is g in
      let low = half_low e h.half (length rest) h.is (slice_get_within rest e t g) in
      let c = low.0 in
      let d = low.1 in
      let before = root_way (a ∷ b ∷ rest) k size at fuel h.half (spot.Left (n + h.half)) (omega arith)
      (at h.half (omega arith)) in
      record {
        movs = suc before.movs;
        way = record {
          slot = h.half;
          mov = f.mov;
          stands = f.stands;
          before = before.way;
          feeds = f.feeds;
        };
        few = one_deeper 1 before.movs h.half (suc (suc e)) (omega arith) before.few;
      }

  -- the way of a spot of the list itself
  tree_near : (i : ℕ) (t : Spot) → slice_get ts i ≡ Some t
      → Short n (by_tree s n ts) 0 (length ts - 2 + i) t
  tree_near i t g =
      tree_way (suc (length ts - 2 + i)) (length ts - 2 + i) t (omega arith)
      (spot_at (suc n) (length ts - 2) i ts ∙ g)

  two_near : (i : ℕ) (t : Spot) → slice_get ts i ≡ Some t
      → Short n (two_targets s n ts) 1 (length ts - 2 + i) t
  two_near i t g =
      let size = fed_length n ts in
      let within = slice_get_within ts i t g in
      root_way (fed n ts) (length ts - 2) (omega arith) (λ j l. left_at n (length ts - 2) j ts l)
      (suc (length ts - 2 + i)) (length ts - 2 + i) t (omega arith)
      (spot_at n (length ts - 2) i ts ∙ g)

-- a form with two targets reaches each of k spots by few movs
pub two_is_near : (s : FlowSource) (n i : ℕ) (ts : List Spot) (t : Spot) → slice_get ts i ≡ Some t
    → IsNear n (two_targets s n ts) (2 * length ts) t
two_is_near s n i ts t g =
    let w = two_near s n ts i t g in
    let within = slice_get_within ts i t g in
    let power = as_two w.movs in
    let few = w.few in
    record { movs = w.movs; way = w.way; few = omega arith }

-- a tree that has its root in a mov reaches each of k spots by few movs
pub tree_is_near : (s : FlowSource) (n i : ℕ) (ts : List Spot) (t : Spot) → slice_get ts i ≡ Some t
    → IsNear n (by_tree s n ts) (2 * length ts + 1) t
tree_is_near s n i ts t g =
    let w = tree_near s n ts i t g in
    let within = slice_get_within ts i t g in
    let power = as_one w.movs in
    let few = w.few in
    record { movs = w.movs; way = w.way; few = omega arith }

-- a form with one target reaches each of k spots by few movs
pub one_is_near : (s : FlowSource) (n i : ℕ) (ts : List Spot) (t : Spot) → slice_get ts i ≡ Some t
    → IsNear n (one_target s n ts) (2 * length ts) t
one_is_near s n i [] t g = absurd (cc)
one_is_near s n zero (a ∷ []) t g = record { movs = 0; way = inl g; few = omega arith }
one_is_near s n (suc i) (a ∷ []) t g = absurd (cc)
one_is_near s n i (a ∷ b ∷ rest) t g =
    let w = tree_near s n (a ∷ b ∷ rest) i t g in
    let within = slice_get_within (a ∷ b ∷ rest) i t g in
    let power = as_one w.movs in
    let few = w.few in
    record { movs = w.movs; way = w.way; few = omega arith }

-- a way through a fan with one target is one beside another target too
beside_way : (n : ℕ) (a : Spot) (fan : Fan) → fan.second ≡ None → (d : ℕ) (t : Spot) → Way n fan d t
    → Way n (beside a fan) d t
beside_way n a fan e zero t (inl w) = inr w
beside_way n a fan e zero t (inr w) = absurd (cc)
beside_way n a fan e (suc d) t w = record {
  slot = w.slot;
  mov = w.mov;
  stands = w.stands;
  before = beside_way n a fan e d (spot.Left (n + w.slot)) w.before;
  feeds = w.feeds;
}

-- a form whose first spot is alone at the root reaches each of k spots by few movs
alone_is_near : (s : FlowSource) (n i : ℕ) (ts : List Spot) (t : Spot) → slice_get ts i ≡ Some t
    → IsNear n (first_alone s n ts) (2 * length ts) t
alone_is_near s n i [] t g = absurd (cc)
alone_is_near s n zero (a ∷ rest) t g = record { movs = 0; way = inl g; few = omega arith }
alone_is_near s n (suc i) (a ∷ rest) t g =
    let w = one_is_near s n i rest t g in
    let few = w.few in
    record {
      movs = w.movs;
      way = beside_way n a (one_target s n rest) (second_none s n rest) w.movs t w.way;
      few = omega arith;
    }

-- and so does a node of any form that has consumers
pub node_is_near : (alone : Bool) (form : Form) (s : FlowSource) (n i : ℕ) (ts : List Spot) (t : Spot)
    → (form ≡ Store → ⊥) → (form ≡ Branch → ⊥) → slice_get ts i ≡ Some t
    → IsNear n (form_fan alone form s n ts) (2 * length ts) t
node_is_near true General s n i ts t store branch g = alone_is_near s n i ts t g
node_is_near false General s n i ts t store branch g = two_is_near s n i ts t g
node_is_near c Immediate s n i ts t store branch g = one_is_near s n i ts t g
node_is_near c Load s n i ts t store branch g = one_is_near s n i ts t g
node_is_near c Constant s n i ts t store branch g = one_is_near s n i ts t g
node_is_near c Store s n i ts t store branch g = absurd (store refl)
node_is_near c Branch s n i ts t store branch g = absurd (branch refl)

-- a read reaches each of k spots by few movs
pub read_is_near : (s : FlowSource) (n i : ℕ) (ts : List Spot) (t : Spot) → slice_get ts i ≡ Some t
    → IsNear n (read_fan s n ts) (2 * length ts + 1) t
read_is_near s n i ts t g = by (all_operands ts)
  where
    by : (b : Bool) → IsNear n (if_operands b s n ts) (2 * length ts + 1) t
    by true =
        let w = two_is_near s n i ts t g in
        let few = w.few in
        record { movs = w.movs; way = w.way; few = omega arith }
    by false = tree_is_near s n i ts t g
