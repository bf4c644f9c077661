-- The flags of a shape, slot by slot.
use Rattle.std.proofs.Common.{◌≡◌, ℕ, zero, suc, ◌+◌, ◌<◌, ◌≤◌, Bool, true, false, List, length, get_or, set}
use Rattle.std.proofs.Common.{Option, Some, None, is_some, refl, sym, ap, ◌∙◌, arith, inl, inr, replicate}
use Rattle.std.proofs.Common.{length-set, get_or-set_other}
use Rattle.std.proofs.lemmas.Bool.{cases_eq}
use Rattle.std.proofs.lemmas.Grind.{get_or-set_at}
use Rattle.trips_isa.specs.declared.block.Block.{Block}
use Rattle.trips_isa.specs.declared.block.Inst.{Inst}
use Rattle.block_cases.specs.Orders.{slot_of, left_of, right_of}
use Rattle.base.specs.inside.Rows.{no_flags}
use Rattle.commit_flush_spec.specs.Older.{is_serial}
use Rattle.base.proofs.FlagFacts.{length_unset}
use Rattle.frame_state.specs.declared.shape.Shape.{Shape}
use Rattle.frame_state.specs.inside.Shapes.{IsShape}
use Rattle.frame_state.specs.inside.Wants.{is_on_true, is_on_false}

-- 128 flags that are right below slot i, of which none is set from there on
pub record Holds (xs : List Bool) (f : ℕ → Bool) (i : ℕ) : Type 0 where
  pub many : length xs ≡ 128
  pub below : (k : ℕ) → k < i → get_or xs k false ≡ f k
  pub above : (k : ℕ) → i ≤ k → get_or xs k false ≡ false

-- none of some flags that are not set is set
unset : (n k : ℕ) → get_or (replicate n false) k false ≡ false
unset zero k = refl
unset (suc n) zero = refl
unset (suc n) (suc k) = unset n k

-- before the first slot
pub holds_none : (xs : List Bool) (f : ℕ → Bool) → xs ≡ no_flags 128 → Holds xs f 0
unfolding no_flags
holds_none xs f e = record {
  many = ap length e ∙ length_unset 128;
  below = λ k h. absurd (omega arith);
  above = λ k h. ap (λ zs. get_or zs k false) e ∙ unset 128 k;
}

-- with the right flag at slot i
pub holds_set : (xs ys : List Bool) (f : ℕ → Bool) (i : ℕ) (b : Bool) → i < 128 → Holds xs f i → ys ≡ set xs i b
    → b ≡ f i → Holds ys f (i + 1)
holds_set xs ys f i b small h made is = record {
  many = ap length made ∙ length-set xs i b ∙ h.many;
  below = λ k l. ap (λ zs. get_or zs k false) made ∙ elim (cases_eq k i) [
    | inl e ↦ get_or-set_at xs i k b false e (omega (arith, h.many)) ∙ is ∙ ap f (sym e)
    | inr ne ↦ get_or-set_other xs i k b false ne ∙ h.below k (omega (arith, l, ne))
  ];
  above = λ k l. ap (λ zs. get_or zs k false) made
      ∙ get_or-set_other xs i k b false (λ e. absurd (omega arith)) ∙ h.above k (omega arith);
}

-- with no flag at slot i, where none is right
pub holds_same : (xs : List Bool) (f : ℕ → Bool) (i : ℕ) → Holds xs f i → f i ≡ false → Holds xs f (i + 1)
holds_same xs f i h is = record {
  many = h.many;
  below = λ k l. elim (cases_eq k i) [
    | inl e ↦ h.above k (omega arith) ∙ sym is ∙ ap f (sym e)
    | inr ne ↦ h.below k (omega (arith, l, ne))
  ];
  above = λ k l. h.above k (omega arith);
}

-- the flags of a shape say what the slots below i want, and what the block may do
pub record Noted (b : Block) (shape : Shape) (i : ℕ) : Type 0 where
  pub there : Holds shape.there (λ k. is_some (slot_of b k)) i
  pub left : Holds shape.left (λ k. left_of (slot_of b k)) i
  pub right : Holds shape.right (λ k. right_of (slot_of b k)) i
  pub on_true : Holds shape.on_true (λ k. is_on_true (slot_of b k)) i
  pub on_false : Holds shape.on_false (λ k. is_on_false (slot_of b k)) i
  pub serial : shape.serial ≡ is_serial b

-- a slot without an instruction wants nothing
pub noted_none : (b : Block) (shape : Shape) (i : ℕ) → Noted b shape i → slot_of b i ≡ None
    → Noted b shape (i + 1)
noted_none b shape i n e = record {
  there = holds_same shape.there (λ k. is_some (slot_of b k)) i n.there (ap is_some e);
  left = holds_same shape.left (λ k. left_of (slot_of b k)) i n.left (ap left_of e);
  right = holds_same shape.right (λ k. right_of (slot_of b k)) i n.right (ap right_of e);
  on_true = holds_same shape.on_true (λ k. is_on_true (slot_of b k)) i n.on_true (ap is_on_true e);
  on_false = holds_same shape.on_false (λ k. is_on_false (slot_of b k)) i n.on_false (ap is_on_false e);
  serial = n.serial;
}

-- an instruction wants what it says
pub noted_some : (b : Block) (old new : Shape) (i : ℕ) (inst : Inst) → i < 128 → Noted b old i
    → slot_of b i ≡ Some inst
    → new.there ≡ set old.there i true
    → new.left ≡ set old.left i (left_of (Some inst))
    → new.right ≡ set old.right i (right_of (Some inst))
    → new.on_true ≡ set old.on_true i (is_on_true (Some inst))
    → new.on_false ≡ set old.on_false i (is_on_false (Some inst)) → new.serial ≡ old.serial
    → Noted b new (i + 1)
noted_some b old new i inst small n e there left right on_true on_false serial = record {
  there = holds_set old.there new.there (λ k. is_some (slot_of b k)) i true small n.there there (sym (ap is_some e));
  left = holds_set old.left new.left (λ k. left_of (slot_of b k)) i (left_of (Some inst)) small n.left left
      (sym (ap left_of e));
  right = holds_set old.right new.right (λ k. right_of (slot_of b k)) i (right_of (Some inst)) small n.right right
      (sym (ap right_of e));
  on_true = holds_set old.on_true new.on_true (λ k. is_on_true (slot_of b k)) i (is_on_true (Some inst)) small
      n.on_true on_true (sym (ap is_on_true e));
  on_false = holds_set old.on_false new.on_false (λ k. is_on_false (slot_of b k)) i (is_on_false (Some inst)) small
      n.on_false on_false (sym (ap is_on_false e));
  serial = serial ∙ n.serial;
}

-- behind the last slot it is the block's shape
pub noted_all : (b : Block) (shape : Shape) → Noted b shape 128 → IsShape b shape
noted_all b shape n = record {
  there = λ s h. n.there.below s h;
  left = λ s h. n.left.below s h;
  right = λ s h. n.right.below s h;
  on_true = λ s h. n.on_true.below s h;
  on_false = λ s h. n.on_false.below s h;
  serial = n.serial;
}
