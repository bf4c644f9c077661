-- Numbers once a node is gone, and what a node gives that names all by these.
use Rattle.std.proofs.Common.{◌≡◌, ◌≢◌, ℕ, suc, ◌+◌, ◌-◌, ◌<◌, ◌≤◌, List, [], ◌∷◌, ◌⊎◌, inl, inr, refl}
use Rattle.std.proofs.Common.{sym, ap, ap₂}
use Rattle.std.proofs.Common.{◌∙◌, arith, cond, nat_eq, Bool, true, false, ◌||◌, map}
use Rattle.std.specs.Prelude.{Some, None, Option}
use Rattle.std.proofs.lemmas.Bool.{cases_lt, lt-ltb, le-ltb, eqb-true, eqb-false, ne_eqb}
use Rattle.trips_isa.specs.declared.form.Form.{Form}
use Rattle.trips_isa.specs.declared.form.Form.TheVariants.{General, Immediate, Load, Store, Branch, Constant}
use Rattle.trips_isa.specs.declared.block.Token.TheVariants.{Null, Word}
use Rattle.trips_isa.specs.declared.block.Sense.{Sense}
use Rattle.trips_isa.specs.declared.block.Inst.{Inst}
use Rattle.trips_isa.specs.declared.block.Stored.{Stored}
use Rattle.trips_isa.specs.Forms.{role_of}
use Rattle.trips_isa.specs.Rule.{Answer, matched, rule}
use Rattle.trips_isa.specs.Stores.{stored_of}
use Rattle.trips_isa.specs.Tables.{or_else}
use Rattle.ir_forms.specs.declared.flow.FlowSource.{FlowSource}
use Rattle.ir_forms.specs.declared.flow.FlowSource.TheVariants.{Read, Node}
use Rattle.ir_forms.specs.declared.flow.Guard.{Guard}
use Rattle.ir_forms.specs.declared.flow.FlowNode.{FlowNode}
use Rattle.ir_forms.specs.inside.FlowRuns.{got, first, guard_token, sense_of, gives, met, count, present, inst_of}
use Rattle.ir_forms.specs.inside.FlowRuns.{stored_in, stored_where, act_tokens, leaving_in, numbered}
use Rattle.ir_forms.specs.inside.FlowRegular.{same_source, is_among, guards_by}
use Rattle.flow_fold.specs.inside.Sweeps.{lower, lower_source, lower_guard, lower_node}

-- NUMBERS

-- up to the node that goes numbers stay
pub lower_below : (k j : ℕ) → j ≤ k → lower k j ≡ j
lower_below k j l = ap (λ (b : Bool). cond b (j - 1) j) (le-ltb k j l)

-- behind it they are one less
pub lower_above : (k j : ℕ) → k < j → lower k j ≡ j - 1
lower_above k j l = ap (λ (b : Bool). cond b (j - 1) j) (lt-ltb k j l)

-- the node that goes takes no number
pub lower_same : (k j : ℕ) → nat_eq j k ≡ true → lower k (suc j) ≡ lower k j
lower_same k j e =
    let s = eqb-true j k e in
    let a = lower_above k (suc j) (omega (arith, s)) in
    let b = lower_below k j (omega (arith, s)) in
    omega (arith, a, b)

-- any other takes the next
pub lower_next : (k j : ℕ) → nat_eq j k ≡ false → lower k (suc j) ≡ suc (lower k j)
lower_next k j e = go (cases_lt j k)
  where
    go : (j < k) ⊎ (k ≤ j) → lower k (suc j) ≡ suc (lower k j)
    go (inl l) =
        let a = lower_below k (suc j) (omega (arith, l)) in
        let b = lower_below k j (omega (arith, l)) in
        omega (arith, a, b)
    go (inr l) =
        let d = eqb-false j k e in
        let z : k < j = omega (arith, l, d) in
        let a = lower_above k (suc j) (omega (arith, l)) in
        let b = lower_above k j z in
        omega (arith, a, b, z)

-- two nodes that stay have one new number only if they are one
pub lower_apart : (k i j : ℕ) → i ≢ k → j ≢ k → lower k i ≡ lower k j → i ≡ j
lower_apart k i j a b e = go (cases_lt k i) (cases_lt k j)
  where
    go : (k < i) ⊎ (i ≤ k) → (k < j) ⊎ (j ≤ k) → i ≡ j
    go (inl x) (inl y) = let p = lower_above k i x in let q = lower_above k j y in omega (arith, e, p, q, x, y)
    go (inl x) (inr y) = let p = lower_above k i x in let q = lower_below k j y in omega (arith, e, p, q, x, y, b)
    go (inr x) (inl y) = let p = lower_below k i x in let q = lower_above k j y in omega (arith, e, p, q, x, y, a)
    go (inr x) (inr y) = let p = lower_below k i x in let q = lower_below k j y in omega (arith, e, p, q)

-- neither of two is true
pub neither : (a b : Bool) → (a || b) ≡ false → (a ≡ false) × (b ≡ false)
neither true b e = absurd (cc)
neither false b e = (refl, e)

-- a number that is not k is told from it either way
pub turned_round : (k j : ℕ) → nat_eq k j ≡ false → nat_eq j k ≡ false
turned_round k j e = ne_eqb j k (λ d. eqb-false k j e (sym d))

-- NODES THAT DO NOT NAME THE NODE THAT GOES

-- a node does not name node k
pub record Spares (k : ℕ) (n : FlowNode) : Type 0 where
  pub left : is_among (Node k) n.left ≡ false
  pub right : is_among (Node k) n.right ≡ false
  pub guard : guards_by (Node k) n.guard ≡ false

-- a guard keeps its sense
pub sense_low : (k : ℕ) (o : Option Guard) → sense_of (lower_guard k o) ≡ sense_of o
sense_low k None = refl
sense_low k (Some g) = refl

-- so a node stays the same instruction
pub inst_low : (k : ℕ) (n : FlowNode) → inst_of (lower_node k n) ≡ inst_of n
inst_low k n = ap (λ (s : Sense). with_sense s) (sense_low k n.guard)
  where
    with_sense : Sense → Inst
    with_sense s = record { op = n.op; sense = s; imm = n.imm; number = n.number; first = None; second = None }

module _ (regs : ℕ → ℕ) (k : ℕ) (t : Answer) (h : ℕ → Answer) where
  -- the tokens of the nodes that stayed, and the token t at the node that is gone
  abbrev pub raised : ℕ → Answer
  raised j = cond (nat_eq j k) t (h (lower k j))

  -- the node that is gone has its token
  pub raised_here : (j : ℕ) → nat_eq j k ≡ true → raised j ≡ t
  raised_here j e = ap (λ (b : Bool). cond b t (h (lower k j))) e

  -- any other has the one of its new number
  pub raised_there : (j : ℕ) → nat_eq j k ≡ false → raised j ≡ h (lower k j)
  raised_there j e = ap (λ (b : Bool). cond b t (h (lower k j))) e

  got_low : (s : FlowSource) → same_source (Node k) s ≡ false → got regs raised s ≡ got regs h (lower_source k s)
  got_low (Read r) e = refl
  got_low (Node j) e = raised_there j (turned_round k j e)

  -- an operand takes the same token
  pub first_low : (ss : List FlowSource) → is_among (Node k) ss ≡ false
      → first regs raised ss ≡ first regs h (map (lower_source k) ss)
  first_low [] e = refl
  first_low (s ∷ ss) e =
      let w = neither (same_source (Node k) s) (is_among (Node k) ss) e in
      ap₂ (λ (a b : Answer). or_else a b) (got_low s w.0) (first_low ss w.1)

  -- and gets as many
  pub count_low : (ss : List FlowSource) → is_among (Node k) ss ≡ false
      → count regs raised ss ≡ count regs h (map (lower_source k) ss)
  count_low [] e = refl
  count_low (s ∷ ss) e =
      let w = neither (same_source (Node k) s) (is_among (Node k) ss) e in
      ap₂ (λ (a : Answer) (b : ℕ). present a + b) (got_low s w.0) (count_low ss w.1)

  -- a guard takes the same token
  pub guard_low : (o : Option Guard) → guards_by (Node k) o ≡ false
      → guard_token raised o ≡ guard_token h (lower_guard k o)
  guard_low None e = refl
  guard_low (Some g) e = raised_there g.node (turned_round k g.node e)

  module _ (n : FlowNode) (s : Spares k n) where
    -- so a node that stays gives the same
    pub gives_low : (a : ℕ → ℕ → ℕ) → gives regs raised a n ≡ gives regs h a (lower_node k n)
    gives_low a =
        ap (λ (x : Answer). rule (role_of n.op) (sense_of n.guard) a x (first regs raised n.right)
        (guard_token raised n.guard)) (first_low n.left s.left)
        ∙ ap (λ (x : Answer). rule (role_of n.op) (sense_of n.guard) a (first regs h (map (lower_source k) n.left)) x
        (guard_token raised n.guard)) (first_low n.right s.right)
        ∙ ap₂ (λ (x : Sense) (y : Answer). rule (role_of n.op) x a (first regs h (map (lower_source k) n.left))
        (first regs h (map (lower_source k) n.right)) y) (sym (sense_low k n.guard)) (guard_low n.guard s.guard)

    -- and fires where it fired
    pub met_low : met raised n.guard ≡ met h (lower_guard k n.guard)
    met_low = ap₂ (λ (x : Sense) (y : Answer). matched x y) (sym (sense_low k n.guard)) (guard_low n.guard s.guard)

    -- it stores the same
    pub stored_low : (f : Form) (q : ℕ) → stored_in f regs raised n q ≡ stored_in f regs h (lower_node k n) q
    stored_low Store q = ap (λ (x : Option Stored). cond (nat_eq n.number q) x None)
        (ap (λ (b : Bool). stored_where b regs raised n) met_low
        ∙ ap₂ (λ (x y : Answer). stored_with (met h (lower_guard k n.guard)) n x y) (first_low n.left s.left)
        (first_low n.right s.right)
        ∙ sym (same_stored (met h (lower_guard k n.guard)) (first regs h (map (lower_source k) n.left))
        (first regs h (map (lower_source k) n.right))))
      where
        stored_with : Bool → FlowNode → Answer → Answer → Option Stored
        stored_with b x l r = cond b (stored_of (inst_of x) l r) None

        same_stored : (b : Bool) (l r : Answer) → stored_with b (lower_node k n) l r ≡ stored_with b n l r
        same_stored b l r = ap (λ (i : Inst). cond b (stored_of i l r) None) (inst_low k n)
    stored_low General q = refl
    stored_low Immediate q = refl
    stored_low Load q = refl
    stored_low Branch q = refl
    stored_low Constant q = refl

  -- what it does that can fault does not hang on numbers
  pub acts_same : (f : Form) (n : FlowNode) (l r : Answer) → act_tokens f (lower_node k n) l r ≡ act_tokens f n l r
  acts_same Load n None r = refl
  acts_same Load n (Some Null) r = refl
  acts_same Load n (Some (Word x)) r = refl
  acts_same f n None r = refl
  acts_same f n (Some Null) r = refl
  acts_same f n (Some (Word x)) None = refl
  acts_same f n (Some (Word x)) (Some Null) = refl
  acts_same General n (Some (Word x)) (Some (Word y)) = refl
  acts_same Immediate n (Some (Word x)) (Some (Word y)) = refl
  acts_same Store n (Some (Word x)) (Some (Word y)) = refl
  acts_same Branch n (Some (Word x)) (Some (Word y)) = refl
  acts_same Constant n (Some (Word x)) (Some (Word y)) = refl

-- a branch leaves by the same exit
pub leaves_same : (k : ℕ) (f : Form) (n : FlowNode) (t : Answer) → leaving_in f (lower_node k n) t ≡ leaving_in f n t
leaves_same k Branch n None = refl
leaves_same k Branch n (Some t) = ap (λ (i : Inst). (i, t) ∷ []) (inst_low k n)
leaves_same k General n t = refl
leaves_same k Immediate n t = refl
leaves_same k Load n t = refl
leaves_same k Store n t = refl
leaves_same k Constant n t = refl

-- and a store number gets the same tokens
pub numbered_same : (k : ℕ) (f : Form) (n : FlowNode) (t : Answer) (q : ℕ)
    → numbered f (lower_node k n) t q ≡ numbered f n t q
numbered_same k Store n t q = refl
numbered_same k General n t q = refl
numbered_same k Immediate n t q = refl
numbered_same k Load n t q = refl
numbered_same k Branch n t q = refl
numbered_same k Constant n t q = refl
