-- What a load of a frame in flight takes, and the bytes that it sees.
use Rattle.std.proofs.Common.{◌≡◌, ℕ, suc, ◌+◌, ◌<◌, ◌≤◌, Bool, true, false, cond}
use Rattle.std.proofs.Common.{List, [], ◌∷◌, Option, Some, None, take, slice_get, refl, sym, ap, ◌∙◌, subst, arith}
use Rattle.std.proofs.lemmas.Bool.Decides.{nat_tests}
use Rattle.trips_isa.specs.declared.op.Op.{Op}
use Rattle.trips_isa.specs.declared.op.Op.TheVariants.{Sb}
use Rattle.trips_isa.specs.declared.block.Token.TheVariants.{Null, Word}
use Rattle.trips_isa.specs.declared.block.Inst.{Inst}
use Rattle.trips_isa.specs.Forms.{size_of}
use Rattle.trips_isa.specs.Rule.{Answer}
use Rattle.trips_isa.specs.Stores.{address_of, is_good_address, data_size, byte_seen, bytes_seen, stored_of}
use Rattle.trips_isa.specs.Stores.{null_store}
use Rattle.commit_flush_spec.specs.Frames.{Frame, Taken, NoBytes, Bytes, at, numbers}
use Rattle.commit_flush_spec.specs.Older.{Older, after, after_all}
use Rattle.commit_flush_spec.specs.Memory.{request, taken_of, taken_word}
use Rattle.lsq_order.specs.declared.sought.Sought.{Sought}
use Rattle.lsq_order.specs.inside.Reached.{FitsReach}
use Rattle.lsq_order.specs.inside.Taking.{taken}
use Rattle.lsq_order.proofs.TakingFacts.{seen_small}
use Rattle.commit_flush.proofs.OrderFacts.{after_more}
use Rattle.frame_state.specs.inside.Changes.{IsWord, word_of}
use Rattle.frame_state.specs.inside.Told.{taken_by, waiting_load}

-- sizes ------------------------------------------------------------------------------------------

pub small_size : (op : Op) → size_of op ≤ 8
small_size Sb = omega arith
small_size _ = omega arith

good_bound : (a size : ℕ) → is_good_address a size ≡ true → a + size ≤ data_size
good_bound a size h = grind (arith, nat_tests)

-- what a load takes lies in data memory
pub taken_fits : (i : Inst) (t : Answer) (a z : ℕ) → taken_of i t ≡ Bytes a z → (z ≤ 8) × (a + z ≤ data_size)
taken_fits i None a z e = absurd (cc)
taken_fits i (Some Null) a z e = absurd (cc)
taken_fits i (Some (Word left)) a z e = go (is_good_address (address_of i left) (size_of i.op)) refl e
  where
    go : (b : Bool) → is_good_address (address_of i left) (size_of i.op) ≡ b
        → cond b (Bytes (address_of i left) (size_of i.op)) NoBytes ≡ Bytes a z → (z ≤ 8) × (a + z ≤ data_size)
    go true k w =
        let at_a : address_of i left ≡ a = cc in
        let size_z : size_of i.op ≡ z = cc in
        let bound = good_bound (address_of i left) (size_of i.op) k in (
          subst (λ x. x ≤ 8) size_z (small_size i.op),
          subst (λ x. x + z ≤ data_size) at_a (subst (λ y. address_of i left + y ≤ data_size) size_z bound),
        )
    go false k w = absurd (cc)

-- a store has at most eight bytes
pub fits_reach : (i : Inst) (l r : Answer) → FitsReach (stored_of i l r)
fits_reach i None r = tt
fits_reach i (Some Null) None = tt
fits_reach i (Some (Word a)) None = tt
fits_reach i (Some Null) (Some r) = small_size i.op
fits_reach i (Some (Word a)) (Some Null) = small_size i.op
fits_reach i (Some (Word a)) (Some (Word v)) = go (is_good_address (address_of i a) (size_of i.op))
  where
    go : (b : Bool) → FitsReach (Some (cond b (record {
      number = i.number;
      address = address_of i a;
      size = size_of i.op;
      value = Some v;
    }) (null_store i)))
    go true = small_size i.op
    go false = small_size i.op

-- bytes ------------------------------------------------------------------------------------------

numbers_are : numbers ≡ 32
unfolding numbers
numbers_are = refl

-- a byte of memory is small, also behind frames
pub bytes_low : (fs : List Frame) (o : Older) → ((a : ℕ) → o.memory a < 256) → (a : ℕ)
    → (after_all fs o).memory a < 256
bytes_low [] o h a = h a
bytes_low (f ∷ fs) o h a = bytes_low fs (after f o) (seen_small (at f.stores) o.memory h numbers) a

-- what is taken behind one frame more
pub taken_more : (fs : List Frame) (o : Older) (s new : Sought) (a k : ℕ) (f : Frame) → slice_get fs a ≡ Some f
    → k ≡ a + 1 → taken new (after_all (take a fs) o).memory
    ≡ taken s (byte_seen (at f.stores) (after_all (take a fs) o).memory 32)
    → taken new (after_all (take a fs) o).memory ≡ taken s (after_all (take k fs) o).memory
taken_more fs o s new a k f e is w =
    let next : suc a ≡ k = omega (arith, is) in
    w ∙ ap (λ n. taken s (byte_seen (at f.stores) (after_all (take a fs) o).memory n)) (sym numbers_are)
    ∙ ap (λ (p : Older). taken s p.memory) (sym (after_more fs o a f e))
    ∙ ap (λ n. taken s (after_all (take n fs) o).memory) next

-- words ------------------------------------------------------------------------------------------

-- where no load waits, or takes no bytes, the number is 0
pub no_word : (o : Older) (n : ℕ) (z : Option Frame) (t : Option Taken) → waiting_load n z ≡ t
    → ((a k : ℕ) → t ≡ Some (Bytes a k) → ⊥) → IsWord o n 0 z
no_word o n None t e ne = tt
no_word o n (Some f) t e ne = go (request f n) refl
  where
    taken : (q : ℕ × Inst) → request f n ≡ Some q → (x : Taken) → taken_of q.1 (at f.spots q.0) ≡ x
        → 0 ≡ taken_word o f n x
    taken q w NoBytes k = refl
    taken q w (Bytes a z) k = absurd (ne a z (sym e ∙ ap (taken_by f) w ∙ ap Some k))

    go : (r : Option (ℕ × Inst)) → request f n ≡ r → 0 ≡ word_of o n f (request f n)
    go None w = sym (ap (word_of o n f) w)
    go (Some q) w = taken q w (taken_of q.1 (at f.spots q.0)) refl ∙ sym (ap (word_of o n f) w)

-- else it is that of the bytes
pub word_bytes : (o : Older) (n bytes a k : ℕ) (z : Option Frame) → waiting_load n z ≡ Some (Bytes a k)
    → ((f : Frame) → z ≡ Some f → bytes ≡ bytes_seen (at f.stores) o.memory n a k) → IsWord o n bytes z
word_bytes o n bytes a k None e b = tt
word_bytes o n bytes a k (Some f) e b = go (request f n) refl e
  where
    go : (r : Option (ℕ × Inst)) → request f n ≡ r → taken_by f (request f n) ≡ Some (Bytes a k)
        → bytes ≡ word_of o n f (request f n)
    go None w u = absurd (let bad : None ≡ Some (Bytes a k) = sym (ap (taken_by f) w) ∙ u in cc)
    go (Some q) w u =
        let both : Some (taken_of q.1 (at f.spots q.0)) ≡ Some (Bytes a k) = sym (ap (taken_by f) w) ∙ u in
        let its : taken_of q.1 (at f.spots q.0) ≡ Bytes a k = cc in
        b f refl ∙ sym (ap (taken_word o f n) its) ∙ sym (ap (word_of o n f) w)

-- what a load that waits takes lies in data memory
pub waiting_fits : (n a k : ℕ) (z : Option Frame) → waiting_load n z ≡ Some (Bytes a k)
    → (k ≤ 8) × (a + k ≤ data_size)
waiting_fits n a k None e = absurd (cc)
waiting_fits n a k (Some f) e = go (request f n) e
  where
    go : (r : Option (ℕ × Inst)) → taken_by f r ≡ Some (Bytes a k) → (k ≤ 8) × (a + k ≤ data_size)
    go None u = absurd (cc)
    go (Some q) u =
        let its : taken_of q.1 (at f.spots q.0) ≡ Bytes a k = cc in taken_fits q.1 (at f.spots q.0) a k its
