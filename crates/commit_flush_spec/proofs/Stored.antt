-- What the table of a good block stores: only at the numbers of the mask, and inside data memory.
use Rattle.std.proofs.Common.{◌≡◌, ℕ, suc, ◌+◌, ◌<◌, ◌≤◌, Bool, true, false, cond, ◌&&◌, ◌||◌, ◌==◌, ◌⊎◌, inl}
use Rattle.std.proofs.Common.{inr, List, [], ◌∷◌, Option, Some, None, slice_get, length, refl, sym, ap, ◌∙◌}
use Rattle.std.proofs.Common.{subst, true≢false, arith}
use Rattle.std.proofs.lemmas.Bool.Decides.{nat_tests}
use Rattle.trips_isa.specs.declared.block.Token.TheVariants.{Null, Word}
use Rattle.trips_isa.specs.declared.block.Spot.{Spot}
use Rattle.trips_isa.specs.declared.block.Spot.TheVariants as spot
use Rattle.trips_isa.specs.declared.block.Inst.{Inst}
use Rattle.trips_isa.specs.declared.block.Block.{Block}
use Rattle.trips_isa.specs.declared.node.Node.{Node}
use Rattle.trips_isa.specs.declared.form.Form.{Form}
use Rattle.trips_isa.specs.declared.form.Form.TheVariants.{General, Immediate, Load, Store, Branch, Constant}
use Rattle.trips_isa.specs.Forms.{form_of, size_of, is_store}
use Rattle.trips_isa.specs.Fits.{FitsBlock, FitsSlot, FitsForm, FitsTarget}
use Rattle.trips_isa.specs.Rule.{Answer}
use Rattle.trips_isa.specs.Places.{place_at, first_place, inst_node, nodes_of, targets, names}
use Rattle.trips_isa.specs.Tables.{first, or_else, taken}
use Rattle.trips_isa.specs.Stores.{data_size, address_of, is_good_address, null_store, word_store, stored_of}
use Rattle.trips_isa.specs.Blocks.{is_read, slot_at, inst_at, at_place}
use Rattle.trips_isa.specs.Blocks.{stored_in, stored_if_read, stored_by, store_of}
use Rattle.block_cases.specs.CaseRule.{no}
use Rattle.trips_isa.specs.Places.{in_mask}
use Rattle.block_cases.specs.Orders.{slot_of, bad_slot_number}
use Rattle.block_cases.proofs.Nodes.{taken_same, slot_got}
use Rattle.commit_flush_spec.specs.inside.Invariant.{IsRunnable}
use Rattle.commit_flush_spec.proofs.Look.{or_false}
use Rattle.commit_flush_spec.proofs.Bytes.{FitsStored}
use Rattle.commit_flush_spec.proofs.Tokens.{inst_in}

-- fields -----------------------------------------------------------------------------------------

-- each instruction of a block that fits its form fits its own form
pub inst_fits : (b : Block) → FitsBlock b → (s : ℕ) (i : Inst) → slot_of b s ≡ Some i → FitsForm (form_of i.op) i
inst_fits b f s i e = subst FitsSlot e (f.each_inst s None (inst_in b.insts.items s i e))

form_number : (t : Form) (i : Inst) → FitsForm t i → i.number < 32
form_number General i h = let e : i.number ≡ 0 = h.2 in omega arith
form_number Immediate i h = let e : i.number ≡ 0 = h.2 in omega arith
form_number Load i h = h.2
form_number Store i h = h.2
form_number Branch i h = let e : i.number < 8 = h.2 in omega arith
form_number Constant i h = let e : i.number ≡ 0 = h.2 in omega arith

-- the number of an instruction in a block that fits is below 32
pub number_small : (b : Block) → FitsBlock b → (s : ℕ) (i : Inst) → slot_of b s ≡ Some i → i.number < 32
number_small b f s i e = form_number (form_of i.op) i (inst_fits b f s i e)

-- the mask ---------------------------------------------------------------------------------------

target_not : (t : Option Spot) (n : ℕ) → n < 32 → FitsTarget t → place_at t ≡ 416 + n → ⊥
target_not None n l f e = omega arith
target_not (Some (spot.Write w)) n l f e = let g : w < 32 = f in omega arith
target_not (Some (spot.Pred s)) n l f e = let g : s < 128 = f in omega arith
target_not (Some (spot.Left s)) n l f e = let g : s < 128 = f in omega arith
target_not (Some (spot.Right s)) n l f e = let g : s < 128 = f in omega arith
target_not (Some (spot.Read s)) n l f e = f
target_not (Some (spot.Inst s)) n l f e = f
target_not (Some (spot.Store s)) n l f e = f

none_not : (t : Option Spot) (n : ℕ) → n < 32 → t ≡ None → place_at t ≡ 416 + n → ⊥
none_not t n l e k = let z : 700 ≡ 416 + n = sym (ap place_at e) ∙ k in omega arith

named_or : (p q k : ℕ) → names (p ∷ q ∷ []) k ≡ true → (p ≡ k) ⊎ (q ≡ k)
named_or p q k e = go (p == k) refl (q == k) refl e
  where
    go : (b : Bool) → (p == k) ≡ b → (c : Bool) → (q == k) ≡ c → (b || (c || false)) ≡ true → (p ≡ k) ⊎ (q ≡ k)
    go true i c j e = inl (grind (arith, nat_tests))
    go false i true j e = inr (grind (arith, nat_tests))
    go false i false j e = absurd (cc)

-- only a store names a number
names_store : (t : Form) (i : Inst) (n : ℕ) → n < 32 → FitsForm t i
    → (first_place t i.number i.first ≡ 416 + n) ⊎ (place_at i.second ≡ 416 + n) → (t ≡ Store) × (i.number ≡ n)
names_store General i n l f (inl e) = absurd (target_not i.first n l (f.0).first e)
names_store General i n l f (inr e) = absurd (target_not i.second n l (f.0).second e)
names_store Immediate i n l f (inl e) = absurd (target_not i.first n l (f.0).first e)
names_store Immediate i n l f (inr e) = absurd (none_not i.second n l (f.0).second e)
names_store Load i n l f (inl e) = absurd (target_not i.first n l (f.0).first e)
names_store Load i n l f (inr e) = absurd (none_not i.second n l (f.0).second e)
names_store Constant i n l f (inl e) = absurd (target_not i.first n l (f.0).first e)
names_store Constant i n l f (inr e) = absurd (none_not i.second n l (f.0).second e)
names_store Store i n l f (inl e) = (refl, omega arith)
names_store Store i n l f (inr e) = absurd (none_not i.second n l (f.0).second e)
names_store Branch i n l f (inl e) = absurd (omega arith)
names_store Branch i n l f (inr e) = absurd (none_not i.second n l (f.0).second e)

-- where the opposite of a test is false, the test is true
pub no_false : (b : Bool) → no b ≡ false → b ≡ true
no_false true e = refl
no_false false e = absurd (cc)

masked : (b : Block) → IsRunnable b → (s n : ℕ) (i : Inst) → slot_of b s ≡ Some i → (form_of i.op ≡ Store)
    × (i.number ≡ n) → in_mask b.mask n ≡ true
masked b good s n i e k =
    let all : length b.insts.items ≡ 128 = good.fits.insts in
    let lt : s < length b.insts.items = inst_in b.insts.items s i e in
    let bad : bad_slot_number b s (Some i) ≡ false = sym (ap (bad_slot_number b s) e)
    ∙ good.good.in_order.numbers s (omega arith) in
    let two = or_false _ _ bad in
    let one : (is_store (form_of i.op) && no (in_mask b.mask i.number)) ≡ false = two.0 in
    let inner : no (in_mask b.mask i.number) ≡ false = sym (ap (λ t. is_store t && no (in_mask b.mask i.number)) k.0)
    ∙ one in
    sym (ap (in_mask b.mask) k.1) ∙ no_false _ inner

none_first : (A : Type 0) (ns : List Node) (q : ℕ) → first {A = A} ns q (λ y. None) ≡ None
none_first A [] q = refl
none_first A (n ∷ ns) q = go (names (targets n) q) (none_first A ns q)
  where
    go : (b : Bool) → first {A = A} ns q (λ y. None) ≡ None
        → or_else (taken {A = A} b (λ y. None)) (first {A = A} ns q (λ y. None)) ≡ None
    go true e = e
    go false e = e

-- a good block stores nothing under a number outside its mask
pub unmasked : (b : Block) → IsRunnable b → (g : ℕ → Answer) (n : ℕ) → n < 32 → in_mask b.mask n ≡ false
    → store_of b g n ≡ None
unmasked b good g n l off = taken_same (nodes_of b) (416 + n) (stored_by b g) (λ y. None) each
    ∙ none_first _ (nodes_of b) (416 + n)
  where
    each : (y : ℕ) (m : Node) → slice_get (nodes_of b) y ≡ Some m → names (targets m) (416 + n) ≡ true
        → stored_by b g y ≡ None
    each y m i nm = go (is_read b y) refl
      where
        slot : (o : Option Inst) → inst_at b y ≡ o → m ≡ inst_node (slot_at b y) o
            → stored_in b g (slot_at b y) o (g y) ≡ None
        slot None e k = refl
        slot (Some j) e k =
            let named : names (targets (inst_node (slot_at b y) (Some j))) (416 + n) ≡ true =
            subst (λ (z : Node). names (targets z) (416 + n) ≡ true) k nm in
            let it = names_store (form_of j.op) j n l (inst_fits b good.fits (slot_at b y) j e)
            (named_or _ _ _ named) in
            absurd (true≢false (sym (masked b good (slot_at b y) n j e it) ∙ off))

        go : (v : Bool) → is_read b y ≡ v → stored_if_read v b g y ≡ None
        go true r = refl
        go false r = slot (inst_at b y) refl (slot_got b y m r i)

-- data memory ------------------------------------------------------------------------------------

good_bound : (a size : ℕ) → is_good_address a size ≡ true → a + size ≤ data_size
good_bound a size h = grind (arith, nat_tests)

word_fits : (i : Inst) (a v : ℕ) → FitsStored data_size (Some (word_store i a v))
word_fits i a v = go (is_good_address a (size_of i.op)) refl
  where
    go : (b : Bool) → is_good_address a (size_of i.op) ≡ b
        → FitsStored data_size (Some (cond b (record {
          number = i.number;
          address = a;
          size = size_of i.op;
          value =
              Some v;
        }) (null_store i)))
    go true e = good_bound a (size_of i.op) e
    go false e = tt

stored_fits : (i : Inst) (l r : Answer) → FitsStored data_size (stored_of i l r)
stored_fits i None r = tt
stored_fits i (Some Null) None = tt
stored_fits i (Some (Word a)) None = tt
stored_fits i (Some Null) (Some r) = tt
stored_fits i (Some (Word a)) (Some Null) = tt
stored_fits i (Some (Word a)) (Some (Word v)) = word_fits i (address_of i a) v

module _ {A : Type 0} (P : Option A → Type 0) (z : P None) where
  either : (o u : Option A) → P o → P u → P (or_else o u)
  either None u p r = r
  either (Some v) u p r = p

  took : (b : Bool) (f : ℕ → Option A) → P (f 0) → P (taken b f)
  took true f h = h
  took false f h = z

  -- what holds of nothing, and of what each node gives, holds of the first that is given
  pub first_holds : (ns : List Node) (q : ℕ) (f : ℕ → Option A) → ((x : ℕ) → P (f x)) → P (first ns q f)
  first_holds [] q f h = z
  first_holds (n ∷ ns) q f h =
      either (taken (names (targets n) q) f) (first ns q (λ y. f (suc y))) (took (names (targets n) q) f (h 0))
      (first_holds ns q (λ y. f (suc y)) (λ x. h (suc x)))

-- what a table stores at a number fits data memory
pub store_fits : (b : Block) (g : ℕ → Answer) (n : ℕ) → FitsStored data_size (store_of b g n)
store_fits b g n = first_holds (FitsStored data_size) tt (nodes_of b) (416 + n) (stored_by b g) each
  where
    each : (x : ℕ) → FitsStored data_size (stored_by b g x)
    each x = go (is_read b x)
      where
        inner : (o : Option Inst) (t : Answer) → FitsStored data_size (stored_in b g (slot_at b x) o t)
        inner None t = tt
        inner (Some i) None = tt
        inner (Some i) (Some t) = stored_fits i (at_place b g (slot_at b x)) (at_place b g (128 + slot_at b x))

        go : (v : Bool) → FitsStored data_size (stored_if_read v b g x)
        go true = tt
        go false = inner (inst_at b x) (g x)
