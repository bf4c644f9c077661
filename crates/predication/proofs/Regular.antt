-- A converted block is regular.
use Rattle.std.proofs.Common.{◌≡◌, ◌≢◌, ℕ, zero, suc, ◌+◌, ◌*◌, ◌/◌, ◌^◌, ◌<◌, List, [], ◌∷◌, length}
use Rattle.std.proofs.Common.{refl, sym, ap, subst, ◌∙◌, arith, cond, nat_eq, nat_lt, Bool, true, false, ◌⊎◌}
use Rattle.std.proofs.Common.{inl, inr, ◌%◌}
use Rattle.std.specs.Prelude.{Option, Some, None}
use Rattle.std.proofs.lemmas.Bool.Decides.{nat_tests}
use Rattle.trips_isa.specs.declared.form.Form.{Form}
use Rattle.trips_isa.specs.declared.form.Form.TheVariants as form
use Rattle.trips_isa.specs.Forms.{form_of}
use Rattle.ir_forms.specs.declared.flow.FlowSource.{FlowSource}
use Rattle.ir_forms.specs.declared.flow.FlowSource.TheVariants.{Read, Node}
use Rattle.ir_forms.specs.declared.flow.FlowNode.{FlowNode}
use Rattle.predication.specs.inside.Environments.{Scope, Env, member}
use Rattle.predication.specs.inside.Converted.{begun, ended, all_nodes, all_written, writes_below, has_store}
use Rattle.predication.specs.inside.Converted.{stores_as, mask_below}
use Rattle.ir_forms.specs.inside.HyperCode.{Block}
use Rattle.std.proofs.Common.{◌||◌, ◌-◌}
use Rattle.std.specs.Prelude.{slice_get}
use Rattle.std.proofs.lemmas.Nat.{pow-add, pow_pos}
use Rattle.std.proofs.Math.Nat.{add-mul-div_right, add-mul-mod_self_right, div-eq_of_lt}
use Rattle.ir_forms.specs.declared.flow.FlowWrite.{FlowWrite}
use Rattle.ir_forms.specs.inside.FlowFits.{in_mask, FitsNodeForm}
use Rattle.ir_forms.specs.declared.flow.Guard.{Guard}
use Rattle.trips_isa.specs.declared.block.Sense.TheVariants.{Always}
use Rattle.predication.specs.inside.Converted.{reads_in, nodes_read, writes_read, reads_below}
use Rattle.ir_forms.specs.inside.HyperFits.{FitsHyper}
use Rattle.predication.specs.inside.Laws.{ConvertsRegular}
use Rattle.predication.proofs.Converted.{block_rises}
use Rattle.ir_forms.specs.inside.FlowRegular.{same_source, is_among, guards_by, nodes_name, writes_name, is_silent}
use Rattle.predication.proofs.Static.{EachGood, GoodGuard, Well, Static}
use Rattle.predication.proofs.Fits.{all_from, Talks, static_at, made, write_is, mask_lt, numbers_order}
use Rattle.predication.proofs.Fits.{store_numbered, load_numbered, before_or, is_numbered}

-- THE MASK

bit_below : (M n k : ℕ) → k < n → (M + 2 ^ n) / 2 ^ k % 2 ≡ M / 2 ^ k % 2
bit_below M n k l =
    let d = n - k - 1 in
    let e : n ≡ suc d + k = omega (arith, l) in
    let p : 2 ^ n ≡ 2 ^ suc d * 2 ^ k = ap (λ (x : ℕ). 2 ^ x) e ∙ pow-add 2 (suc d) k in
    let q : 2 ^ suc d ≡ 2 ^ d * 2 = omega arith in
    ap (λ (x : ℕ). (M + x) / 2 ^ k % 2) p ∙ ap (λ (x : ℕ). x % 2) (add-mul-div_right M (2 ^ suc d) (pow_pos k))
    ∙ ap (λ (x : ℕ). (M / 2 ^ k + x) % 2) q ∙ add-mul-mod_self_right (M / 2 ^ k) (2 ^ d) 2

bit_at_top : (M n : ℕ) → M < 2 ^ n → (M + 2 ^ n) / 2 ^ n % 2 ≡ 1
bit_at_top M n l =
    let e : M + 2 ^ n ≡ M + 1 * 2 ^ n = omega arith in
    ap (λ (x : ℕ). x / 2 ^ n % 2) e ∙ ap (λ (x : ℕ). x % 2) (add-mul-div_right M 1 (pow_pos n))
    ∙ ap (λ (x : ℕ). (x + 1) % 2) (div-eq_of_lt l)

above_top : (M n : ℕ) → M < 2 ^ n → M / 2 ^ n % 2 ≡ 0
above_top M n l = ap (λ (x : ℕ). x % 2) (div-eq_of_lt l)

-- each bit below n says whether a store has its number
mask_bit : (ns : List FlowNode) (n k : ℕ) → k < n → mask_below ns n / 2 ^ k % 2 ≡ cond (has_store ns k) 1 0
mask_bit ns zero k l = absurd (omega arith)
mask_bit ns (suc n) k l = go (nat_eq k n) refl (has_store ns n) refl (λ m. mask_bit ns n k m)
  where
    go : (d : Bool) → nat_eq k n ≡ d → (c : Bool) → has_store ns n ≡ c
        → (k < n → mask_below ns n / 2 ^ k % 2 ≡ cond (has_store ns k) 1 0)
        → (mask_below ns n + cond c (2 ^ n) 0) / 2 ^ k % 2 ≡ cond (has_store ns k) 1 0
    go true d true e ih =
        let s : k ≡ n = grind (arith, nat_tests) in
        let a : (mask_below ns n + 2 ^ n) / 2 ^ k % 2 ≡ 1 = ap (λ (x : ℕ). (mask_below ns n + 2 ^ n) / 2 ^ x % 2) s
        ∙ bit_at_top (mask_below ns n) n (mask_lt ns n) in
        let b : has_store ns k ≡ true = ap (has_store ns) s ∙ e in
        a ∙ sym (ap (λ (x : Bool). cond x 1 0) b)
    go true d false e ih =
        let s : k ≡ n = grind (arith, nat_tests) in
        let z : mask_below ns n + 0 ≡ mask_below ns n = omega arith in
        let a : (mask_below ns n + 0) / 2 ^ k % 2 ≡ 0 = ap (λ (x : ℕ). (mask_below ns n + 0) / 2 ^ x % 2) s
        ∙ ap (λ (x : ℕ). x / 2 ^ n % 2) z ∙ above_top (mask_below ns n) n (mask_lt ns n) in
        let b : has_store ns k ≡ false = ap (has_store ns) s ∙ e in
        a ∙ sym (ap (λ (x : Bool). cond x 1 0) b)
    go false d true e ih =
        let ne : k ≢ n = grind (arith, nat_tests) in
        let m : k < n = omega arith in
        bit_below (mask_below ns n) n k m ∙ ih m
    go false d false e ih =
        let ne : k ≢ n = grind (arith, nat_tests) in
        let z : mask_below ns n + 0 ≡ mask_below ns n = omega arith in
        ap (λ (x : ℕ). x / 2 ^ k % 2) z ∙ ih (omega arith)

-- a number is in the mask where a node stores under it
pub mask_says : (ns : List FlowNode) (k : ℕ) (c : Bool) → k < 32 → has_store ns k ≡ c
    → in_mask (mask_below ns 32) k ≡ c
mask_says ns k c l e = go c (mask_bit ns 32 k l ∙ ap (λ (x : Bool). cond x 1 0) e)
  where
    small : nat_lt k 32 ≡ true
    small = grind (arith, nat_tests)

    go : (c : Bool) → mask_below ns 32 / 2 ^ k % 2 ≡ cond c 1 0 → in_mask (mask_below ns 32) k ≡ c
    go true b = rw (small, b) refl
    go false b = rw (small, b) refl

store_as : (F : Form) (n : FlowNode) (k : ℕ) → F ≡ form.Store → n.number ≡ k → stores_as F n k ≡ true
store_as F n k e s = let z : nat_eq n.number k ≡ true =
    grind (arith, nat_tests) in ap (λ (G : Form). stores_as G n k) e ∙ z

or_left : (a b : Bool) → a ≡ true → (a || b) ≡ true
or_left a b e = rw e refl

or_right : (a b : Bool) → b ≡ true → (a || b) ≡ true
or_right true b e = refl
or_right false b e = e

has_at : (ns : List FlowNode) (i : ℕ) (n : FlowNode) → slice_get ns i ≡ Some n → form_of n.op ≡ form.Store
    → has_store ns n.number ≡ true
has_at [] i n e s = absurd (cc)
has_at (m ∷ ns) zero n e s =
    let q : m ≡ n = cc in
    or_left (stores_as (form_of m.op) m n.number) (has_store ns n.number)
    (store_as (form_of m.op) m n.number (ap (λ (w : FlowNode). form_of w.op) q ∙ s)
    (ap (λ (w : FlowNode). w.number) q))
has_at (m ∷ ns) (suc i) n e s = or_right (stores_as (form_of m.op) m n.number) (has_store ns n.number)
    (has_at ns i n e s)

-- a number that no store has
stores_other : (F : Form) (n : FlowNode) (k : ℕ) → (F ≡ form.Store → n.number ≢ k) → stores_as F n k ≡ false
stores_other form.Store n k f = let ne = f refl in grind (arith, nat_tests)
stores_other form.General n k f = refl
stores_other form.Immediate n k f = refl
stores_other form.Load n k f = refl
stores_other form.Branch n k f = refl
stores_other form.Constant n k f = refl

has_none : (ns : List FlowNode) (k : ℕ) → ((i : ℕ) (n : FlowNode) → slice_get ns i ≡ Some n → form_of n.op
    ≡ form.Store → n.number ≢ k) → has_store ns k ≡ false
has_none [] k f = refl
has_none (n ∷ ns) k f = rw (stores_other (form_of n.op) n k (λ e. f 0 n refl e))
    (has_none ns k (λ i m e s. f (suc i) m e s))

-- NUMBERS

same_place : (b : Block) → FitsHyper b → (i j : ℕ) (m n : FlowNode) → slice_get (all_nodes b) i ≡ Some m
    → slice_get (all_nodes b) j ≡ Some n
    → is_numbered (form_of m.op) ≡ true → is_numbered (form_of n.op) ≡ true → m.number ≡ n.number → i ≡ j
same_place b t i j m n x y p q e = go (before_or i j)
  where
    go : (i < j) ⊎ ((i ≡ j) ⊎ (j < i)) → i ≡ j
    go (inl l) = let z = numbers_order 0 (begun b).number (all_nodes b) i j m n (block_rises b t) x y p q l in absurd
        (omega (arith, z, e))
    go (inr (inl l)) = l
    go (inr (inr l)) = let z = numbers_order 0 (begun b).number (all_nodes b) j i n m
        (block_rises b t) y x q p l in absurd (omega (arith, z, e))

-- WRITES AND READS

write_below : (env : Env) (rs : List ℕ) (n i j : ℕ) (v w : FlowWrite) → slice_get (writes_below env rs n) i ≡ Some v
    → slice_get (writes_below env rs n) j ≡ Some w → v.register ≡ w.register → i ≡ j
write_below env rs zero i j v w x y e = absurd (cc)
write_below env rs (suc n) i j v w x y e =
    go (member n rs) i j x y (λ k z. (write_is env rs n k v z).0) (λ k z. (write_is env rs n k w z).0)
    (λ a c p q. write_below env rs n a c v w p q e)
  where
    head_is : (u : FlowWrite) → Some (record { register = n; sources = (env n).given }) ≡ Some u → u.register ≡ n
    head_is u z = let s : record { register = n; sources = (env n).given } ≡ u =
        cc in sym (ap (λ (p : FlowWrite). p.register) s)

    go : (c : Bool) (i j : ℕ) → slice_get (cond c (record
        { register = n; sources = (env n).given } ∷ writes_below env rs n) (writes_below env rs n)) i ≡ Some v
        → slice_get (cond c (record { register = n; sources = (env n).given } ∷ writes_below env rs n)
        (writes_below env rs n)) j ≡ Some w
        → ((k : ℕ) → slice_get (writes_below env rs n) k ≡ Some v → v.register < n)
        → ((k : ℕ) → slice_get (writes_below env rs n) k ≡ Some w → w.register < n)
        → ((a c : ℕ) → slice_get (writes_below env rs n) a ≡ Some v → slice_get (writes_below env rs n) c ≡ Some w
        → a ≡ c) → i ≡ j
    go false i j x y f g ih = ih i j x y
    go true zero zero x y f g ih = refl
    go true zero (suc j) x y f g ih = let a = head_is v x in let b = g j y in absurd (omega (arith, a, b, e))
    go true (suc i) zero x y f g ih = let a = head_is w y in let b = f i x in absurd (omega (arith, a, b, e))
    go true (suc i) (suc j) x y f g ih = ap (λ (k : ℕ). suc k) (ih i j x y)

-- a register that is listed is below the bound, and something reads it
read_is : (ns : List FlowNode) (ws : List FlowWrite) (n i r : ℕ) → slice_get (reads_below ns ws n) i ≡ Some r
    → (r < n) × ((nodes_read ns r || writes_read ws r) ≡ true)
read_is ns ws zero i r e = absurd (cc)
read_is ns ws (suc n) i r e = go (nodes_read ns n || writes_read ws n) refl i e (λ k x. read_is ns ws n k r x)
  where
    less : (r < n) × ((nodes_read ns r || writes_read ws r) ≡ true)
        → (r < suc n) × ((nodes_read ns r || writes_read ws r) ≡ true)
    less x = (omega (arith, x.0), x.1)

    go : (c : Bool) → (nodes_read ns n || writes_read ws n) ≡ c → (i : ℕ)
        → slice_get (cond c (n ∷ reads_below ns ws n) (reads_below ns ws n)) i ≡ Some r
        → ((k : ℕ) → slice_get (reads_below ns ws n) k ≡ Some r
        → (r < n) × ((nodes_read ns r || writes_read ws r) ≡ true))
        → (r < suc n) × ((nodes_read ns r || writes_read ws r) ≡ true)
    go true z zero e ih =
        let q : n ≡ r = cc in
        let P : ℕ → Type 0 = λ p. (p < suc n) × ((nodes_read ns p || writes_read ws p) ≡ true) in
        subst P q (omega arith, z)
    go true z (suc i) e ih = less (ih i e)
    go false z i e ih = less (ih i e)

-- each register is read once
pub read_once : (ns : List FlowNode) (ws : List FlowWrite) (n i j r : ℕ) → slice_get (reads_below ns ws n) i ≡ Some r
    → slice_get (reads_below ns ws n) j ≡ Some r → i ≡ j
read_once ns ws zero i j r x y = absurd (cc)
read_once ns ws (suc n) i j r x y = go (nodes_read ns n || writes_read ws n) i j x y
    (λ k z. (read_is ns ws n k r z).0) (λ a c p q. read_once ns ws n a c r p q)
  where
    go : (c : Bool) (i j : ℕ) → slice_get (cond c (n ∷ reads_below ns ws n) (reads_below ns ws n)) i ≡ Some r
        → slice_get (cond c (n ∷ reads_below ns ws n) (reads_below ns ws n)) j ≡ Some r
        → ((k : ℕ) → slice_get (reads_below ns ws n) k ≡ Some r → r < n)
        → ((a c : ℕ) → slice_get (reads_below ns ws n) a ≡ Some r → slice_get (reads_below ns ws n) c ≡ Some r
        → a ≡ c) → i ≡ j
    go false i j x y f ih = ih i j x y
    go true zero zero x y f ih = refl
    go true zero (suc j) x y f ih = let a : n ≡ r = cc in let b = f j y in absurd (omega (arith, a, b))
    go true (suc i) zero x y f ih = let a : n ≡ r = cc in let b = f i x in absurd (omega (arith, a, b))
    go true (suc i) (suc j) x y f ih = ap (λ (k : ℕ). suc k) (ih i j x y)

-- NAMES

or_cases : {P : Type 0} (a b : Bool) → (a || b) ≡ true → (a ≡ true → P) → (b ≡ true → P) → P
or_cases true b e x y = x refl
or_cases false b e x y = y e

or_none : (a b : Bool) → a ≡ false → b ≡ false → (a || b) ≡ false
or_none a b p q = rw (p, q) refl

-- a register that sources read is named by them
reads_among : (ss : List FlowSource) (r : ℕ) → reads_in ss r ≡ true → is_among (Read r) ss ≡ true
reads_among [] r e = absurd (cc)
reads_among (Node j ∷ ss) r e = or_right (same_source (Read r) (Node j)) (is_among (Read r) ss) (reads_among ss r e)
reads_among (Read q ∷ ss) r e = go (nat_eq q r) refl e (λ m. reads_among ss r m)
  where
    go : (c : Bool) → nat_eq q r ≡ c → (c || reads_in ss r) ≡ true
        → (reads_in ss r ≡ true → is_among (Read r) ss ≡ true)
        → is_among (Read r) (Read q ∷ ss) ≡ true
    go true z e ih =
        let s : same_source (Read r) (Read q) ≡ true = grind (arith, nat_tests) in
        or_left (same_source (Read r) (Read q)) (is_among (Read r) ss) s
    go false z e ih = or_right (same_source (Read r) (Read q)) (is_among (Read r) ss) (ih e)

nodes_named : (ns : List FlowNode) (r : ℕ) → nodes_read ns r ≡ true → nodes_name (Read r) ns ≡ true
nodes_named [] r e = absurd (cc)
nodes_named (n ∷ ns) r e =
    let a = is_among (Read r) n.left in
    let b = is_among (Read r) n.right in
    let g = guards_by (Read r) n.guard in
    let z = nodes_name (Read r) ns in
    or_cases (reads_in n.left r) (reads_in n.right r || nodes_read ns r) e
    (λ x. or_left a (b || (g || z)) (reads_among n.left r x))
    (λ y. or_right a (b || (g || z)) (or_cases (reads_in n.right r) (nodes_read ns r) y
    (λ x. or_left b (g || z) (reads_among n.right r x))
    (λ x. or_right b (g || z) (or_right g z (nodes_named ns r x)))))

writes_named : (ws : List FlowWrite) (r : ℕ) → writes_read ws r ≡ true → writes_name (Read r) ws ≡ true
writes_named [] r e = absurd (cc)
writes_named (w ∷ ws) r e =
    let a = is_among (Read r) w.sources in
    let z = writes_name (Read r) ws in
    or_cases (reads_in w.sources r) (writes_read ws r) e
    (λ x. or_left a z (reads_among w.sources r x))
    (λ x. or_right a z (writes_named ws r x))

-- node x, from which nothing may take, is named nowhere
module _ (T : ℕ → Type 0) (x : ℕ) (not_x : T x → ⊥) where
  source_none : (j : ℕ) → T j → same_source (Node x) (Node j) ≡ false
  source_none j t = go (same_source (Node x) (Node j)) refl
    where
      go : (c : Bool) → same_source (Node x) (Node j) ≡ c → c ≡ false
      go true e = let s : j ≡ x = grind (arith, nat_tests) in absurd (not_x (subst T s t))
      go false e = refl

  among_none : (k : ℕ) (ss : List FlowSource) → EachGood T k ss → is_among (Node x) ss ≡ false
  among_none k [] g = refl
  among_none k (Read r ∷ ss) g = or_none (same_source (Node x) (Read r)) (is_among (Node x) ss) refl
      (among_none k ss g.1)
  among_none k (Node j ∷ ss) g =
      or_none (same_source (Node x) (Node j)) (is_among (Node x) ss) (source_none j g.0.1) (among_none k ss g.1)

  guard_none : (k : ℕ) (g : Scope) → GoodGuard T k g → guards_by (Node x) g ≡ false
  guard_none k None y = refl
  guard_none k (Some g) y = source_none g.node y.1.0

  nodes_none : (j : ℕ) (ns : List FlowNode) → Static T j ns → nodes_name (Node x) ns ≡ false
  nodes_none j [] s = refl
  nodes_none j (n ∷ ns) s =
      let a = is_among (Node x) n.left in
      let b = is_among (Node x) n.right in
      let g = guards_by (Node x) n.guard in
      let z = nodes_name (Node x) ns in
      or_none a (b || (g || z)) (among_none j n.left s.0.left)
      (or_none b (g || z) (among_none j n.right s.0.right)
      (or_none g z (guard_none j n.guard s.0.guard) (nodes_none (suc j) ns s.1)))

  writes_none : (k : ℕ) (ws : List FlowWrite)
      → ((i : ℕ) (w : FlowWrite) → slice_get ws i ≡ Some w → EachGood T k w.sources) → writes_name (Node x) ws ≡ false
  writes_none k [] f = refl
  writes_none k (w ∷ ws) f =
      or_none (is_among (Node x) w.sources) (writes_name (Node x) ws) (among_none k w.sources (f 0 w refl))
      (writes_none k ws (λ i v e. f (suc i) v e))

guard_sense : (T : ℕ → Type 0) (k : ℕ) (s : Scope) (g : Guard) → s ≡ Some g → GoodGuard T k s → g.sense ≢ Always
guard_sense T k s g e x = let y : GoodGuard T k (Some g) = subst (GoodGuard T k) e x in y.1.1

load_number : (F : Form) (n : FlowNode) → F ≡ form.Load → FitsNodeForm F n → n.number < 32
load_number F n e x = let y : FitsNodeForm form.Load n = subst (λ (G : Form). FitsNodeForm G n) e x in y.1

store_number : (F : Form) (n : FlowNode) → F ≡ form.Store → FitsNodeForm F n → n.number < 32
store_number F n e x = let y : FitsNodeForm form.Store n = subst (λ (G : Form). FitsNodeForm G n) e x in y.1

store_not_load : (F : Form) → F ≡ form.Store → F ≡ form.Load → ⊥
store_not_load F x y = absurd (cc)

-- the converted block is regular
pub converts_regular : ConvertsRegular
converts_regular d t room =
    let b = d.block in
    let mk = made b t room in
    let ns = all_nodes b in
    let ws = writes_below (ended b).env (all_written d) 128 in
    let T = Talks ns in
    let at : (i : ℕ) (n : FlowNode) → slice_get ns i ≡ Some n → Well T i n =
    λ i n e. let z : 0 + i ≡ i = omega arith in subst (λ (k : ℕ). Well T k n) z (static_at T ns 0 i n mk.nodes e) in
    record {
      registers = λ i j v w x y e. write_below (ended b).env (all_written d) 128 i j v w x y e;
      loads = λ i j m n x y p q e.
          same_place b t i j m n x y (load_numbered (form_of m.op) p) (load_numbered (form_of n.op) q) e;
      unmasked = λ j n x p.
          mask_says ns n.number false (load_number (form_of n.op) n p (at j n x).form)
          (has_none ns n.number (λ i m y q e. apart b t j i n m x y p q e));
      masked = λ j n x p.
          mask_says ns n.number true (store_number (form_of n.op) n p (at j n x).form) (has_at ns j n x p);
      operands = λ j n x. let w = at j n x in record { left = w.taken_left; right = w.taken_right };
      guards = λ j n g x e. guard_sense T j n.guard g e (at j n x).guard;
      low = all_from (λ (r : ℕ). r < 128) (reads_below ns ws 128) (λ i r e. (read_is ns ws 128 i r e).0);
      reads = λ i j r x y. read_once ns ws 128 i j r x y;
      used = λ i r e.
          or_cases (nodes_read ns r) (writes_read ws r) (read_is ns ws 128 i r e).1
          (λ x. or_left (nodes_name (Read r) ns) (writes_name (Read r) ws) (nodes_named ns r x))
          (λ x. or_right (nodes_name (Read r) ns) (writes_name (Read r) ws) (writes_named ws r x));
      silent = λ j n x p.
          let not_j : T j → ⊥ = λ y. clash (is_silent (form_of n.op)) p (y n x) in
          or_none (nodes_name (Node j) ns) (writes_name (Node j) ws) (nodes_none T j not_j 0 ns mk.nodes)
          (writes_none T j not_j (length ns) ws (λ i w e.
          let z = write_is (ended b).env (all_written d) 128 i w e in
          subst (λ (ss : List FlowSource). EachGood T (length ns) ss) (sym z.1) (mk.env w.register).0));
    }
  where
    clash : (c : Bool) → c ≡ true → c ≡ false → ⊥
    clash c x y = absurd (cc)

    apart : (b : Block) → FitsHyper b → (j i : ℕ) (n m : FlowNode) → slice_get (all_nodes b) j ≡ Some n
        → slice_get (all_nodes b) i ≡ Some m → form_of n.op ≡ form.Load → form_of m.op ≡ form.Store → m.number
        ≡ n.number → ⊥
    apart b t j i n m x y p q e =
        let s = same_place b t i j m n y x (store_numbered (form_of m.op) q) (load_numbered (form_of n.op) p) e in
        let u : m ≡ n = same (slice_get (all_nodes b) j) (ap (slice_get (all_nodes b)) (sym s) ∙ y) x in
        store_not_load (form_of n.op) (ap (λ (w : FlowNode). form_of w.op) (sym u) ∙ q) p
      where
        same : (z : Option FlowNode) → z ≡ Some m → z ≡ Some n → m ≡ n
        same z e f = cc
