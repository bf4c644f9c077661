-- The numbers of loads and stores rise from node to node, so what is stored under a number is what its store does.
use Rattle.std.proofs.Common.{◌≡◌, ◌≢◌, ℕ, suc, ◌+◌, ◌<◌, ◌≤◌, List, [], ◌∷◌, ◌++◌, length, refl, sym, ap}
use Rattle.std.proofs.Common.{subst, ◌∙◌, arith, cond, nat_eq, Bool, true, false, ◌⊎◌, inl, inr}
use Rattle.std.specs.Prelude.{Option, Some, None}
use Rattle.std.proofs.lemmas.Bool.Decides.{nat_tests}
use Rattle.trips_isa.specs.declared.form.Form.{Form}
use Rattle.trips_isa.specs.declared.form.Form.TheVariants as form
use Rattle.trips_isa.specs.declared.block.Stored.{Stored}
use Rattle.trips_isa.specs.Forms.{form_of, role_of, takes_right}
use Rattle.trips_isa.specs.Rule.{Answer}
use Rattle.trips_isa.specs.Tables.{or_else}
use Rattle.ir_forms.specs.declared.flow.FlowNode.{FlowNode}
use Rattle.ir_forms.specs.inside.FlowRuns.{Computes, met, Obeys, stored_where, stored_in, stores, present, numbered}
use Rattle.ir_forms.specs.inside.FlowRuns.{tokens}
use Rattle.predication.specs.inside.Environments.{Scope, Env, Bits, put, from_node, under, no_bits, left_bits}
use Rattle.predication.specs.inside.Environments.{note, distinct}
use Rattle.predication.specs.inside.Operands.{node_of, operand, second, bit_set, tested}
use Rattle.predication.specs.inside.Ifs.{items, touched}
use Rattle.ir_forms.specs.inside.HyperCode.{Items, Done, Set, Load, Save, If}
use Rattle.ir_forms.specs.inside.HyperFits.{FitsItems}
use Rattle.predication.proofs.Tables.{present_most, SettledIn, Runs}
use Rattle.predication.proofs.QuietNodes.{is_still, Quiet, operand_quiet, second_quiet}
use Rattle.predication.proofs.TakenLegs.{join_quiet}
use Rattle.predication.proofs.EmittedIfs.{legs_at, test_at, yea_out, nay_at, nay_out, join_at, joined, rest_at}
use Rattle.predication.proofs.EmittedIfs.{tested_quiet, load_form, store_form}
use Rattle.predication.proofs.Ops.{op_form}

-- a load or store has the next number
abbrev pub IsNext : Form → FlowNode → ℕ → Type 0
IsNext form.Load n m = n.number ≡ m
IsNext form.Store n m = n.number ≡ m
IsNext _ n m = Unit {0}

-- the number behind a node: one more behind a load or a store
abbrev pub next_after : Form → ℕ → ℕ
next_after form.Load m = suc m
next_after form.Store m = suc m
next_after _ m = m

-- the numbers of loads and stores are m, m + 1 and on, up to m2
abbrev pub Rises : ℕ → List FlowNode → ℕ → Type 0
Rises m [] m2 = m ≡ m2
Rises m (n ∷ ns) m2 = IsNext (form_of n.op) n m × Rises (next_after (form_of n.op) m) ns m2

-- numbers that rise to another and on from there rise all the way
pub rises_append : (m i m2 : ℕ) (a b : List FlowNode) → Rises m a i → Rises i b m2 → Rises m (a ++ b) m2
rises_append m i m2 [] b x y = let P : ℕ → Type 0 = λ k. Rises k b m2 in subst P (sym x) y
rises_append m i m2 (n ∷ a) b x y = (x.0, rises_append (next_after (form_of n.op) m) i m2 a b x.1 y)

still_next : (F : Form) (n : FlowNode) (m : ℕ) → is_still F ≡ true → IsNext F n m × (next_after F m ≡ m)
still_next form.General n m e = (tt, refl)
still_next form.Immediate n m e = (tt, refl)
still_next form.Load n m e = absurd (cc)
still_next form.Store n m e = absurd (cc)
still_next form.Branch n m e = (tt, refl)
still_next form.Constant n m e = (tt, refl)

-- a node that is neither a load nor a store
pub rises_still : (m m2 : ℕ) (n : FlowNode) (o : List FlowNode) → is_still (form_of n.op) ≡ true → Rises m o m2
    → Rises m (n ∷ o) m2
rises_still m m2 n o e r =
    let s = still_next (form_of n.op) n m e in
    let P : ℕ → Type 0 = λ k. Rises k o m2 in (s.0, subst P (sym s.1) r)

-- nodes without a load or store have no number
pub quiet_rises : (m : ℕ) (a : List FlowNode) → Quiet a → Rises m a m
quiet_rises m [] q = refl
quiet_rises m (n ∷ a) q = rises_still m m n a q.0.0 (quiet_rises m a q.1)

rises_load : (F : Form) (m m2 : ℕ) (n : FlowNode) (o : List FlowNode) → F ≡ form.Load → n.number ≡ m
    → Rises (suc m) o m2 → IsNext F n m × Rises (next_after F m) o m2
rises_load F m m2 n o e i r =
    let P : Form → Type 0 = λ G. IsNext G n m × Rises (next_after G m) o m2 in subst P (sym e) (i, r)

rises_store : (F : Form) (m m2 : ℕ) (n : FlowNode) (o : List FlowNode) → F ≡ form.Store → n.number ≡ m
    → Rises (suc m) o m2 → IsNext F n m × Rises (next_after F m) o m2
rises_store F m m2 n o e i r =
    let P : Form → Type 0 = λ G. IsNext G n m × Rises (next_after G m) o m2 in subst P (sym e) (i, r)

-- the numbers of emitted items rise from the first to the next free one
pub items_rise : (is : Items) (g : Scope) (j m : ℕ) (env : Env) (bits : Bits) → FitsItems is
    → Rises m (items g j m env bits is).nodes (items g j m env bits is).number
items_rise Done g j m env bits tk = refl
items_rise (Set r o a b rest) g j m env bits tk =
    let xs = (operand j env a).nodes in
    let i = j + length xs in
    let tr = takes_right (role_of o) in
    let ys = (second tr i env b).nodes in
    let k = i + length ys in
    let rs = items g (suc k) m (put env r (from_node k)) (note bits r (bit_set o bits a k)) rest in
    let n = node_of o 0 g (operand j env a).sources (second tr i env b).sources in
    rises_append m m _ xs _ (quiet_rises m xs (operand_quiet j env a))
    (rises_append m m _ ys _ (quiet_rises m ys (second_quiet tr i env b))
    (rises_still m rs.number n rs.nodes (ap is_still (op_form o tk.1))
    (items_rise rest g (suc k) m (put env r (from_node k)) (note bits r (bit_set o bits a k)) tk.4)))
items_rise (Load r o a rest) g j m env bits tk =
    let xs = (operand j env a).nodes in
    let k = j + length xs in
    let rs = items g (suc k) (suc m) (put env r (from_node k)) (note bits r None) rest in
    let n = node_of o m g (operand j env a).sources [] in
    rises_append m m _ xs _ (quiet_rises m xs (operand_quiet j env a))
    (rises_load (form_of o) m rs.number n rs.nodes (load_form (form_of o) tk.1) refl
    (items_rise rest g (suc k) (suc m) (put env r (from_node k)) (note bits r None) tk.3))
items_rise (Save o a b rest) g j m env bits tk =
    let xs = (operand j env a).nodes in
    let i = j + length xs in
    let ys = (operand i env b).nodes in
    let k = i + length ys in
    let rs = items g (suc k) (suc m) env bits rest in
    let n = node_of o m g (operand j env a).sources (operand i env b).sources in
    rises_append m m _ xs _ (quiet_rises m xs (operand_quiet j env a))
    (rises_append m m _ ys _ (quiet_rises m ys (operand_quiet i env b))
    (rises_store (form_of o) m rs.number n rs.nodes (store_form (form_of o) tk.0) refl
    (items_rise rest g (suc k) (suc m) env bits tk.3)))
items_rise (If t yea nay rest) g j m env bits tk =
    let xs = (tested g j env bits t).nodes in
    let k = test_at g j env bits t in
    let y = yea_out g j m env bits t yea in
    let n = nay_out g j m env bits t yea nay in
    let c = joined g j m env bits t yea nay in
    rises_append m m _ xs _ (quiet_rises m xs (tested_quiet g j env bits t))
    (rises_append m y.number _ y.nodes _ (items_rise yea (under k true) (legs_at g j env bits t) m env no_bits tk.1)
    (rises_append y.number n.number _ n.nodes _ (items_rise nay (under k false)
    (nay_at g j m env bits t yea) y.number env no_bits tk.2)
    (rises_append n.number n.number _ c.nodes _
    (quiet_rises n.number c.nodes (join_quiet (distinct (touched yea ++ touched nay)) k
    (join_at g j m env bits t yea nay) env y.env n.env (touched yea) (touched nay)))
    (items_rise rest g (rest_at g j m env bits t yea nay) n.number c.env
    (left_bits bits (touched yea ++ touched nay)) tk.3))))

-- the number behind a node is no less
pub next_le : (F : Form) (m : ℕ) → m ≤ next_after F m
next_le form.General m = omega arith
next_le form.Immediate m = omega arith
next_le form.Load m = omega arith
next_le form.Store m = omega arith
next_le form.Branch m = omega arith
next_le form.Constant m = omega arith

-- rising numbers end no lower than they begin
pub rises_le : (m m2 : ℕ) (a : List FlowNode) → Rises m a m2 → m ≤ m2
rises_le m m2 [] r = omega arith
rises_le m m2 (n ∷ a) r = omega (arith, rises_le (next_after (form_of n.op) m) m2 a r.1, next_le (form_of n.op) m)

module _ (regs : ℕ → ℕ) (h : ℕ → Answer) where
  or_none : (e : Option Stored) → or_else e None ≡ e
  or_none None = refl
  or_none (Some p) = refl

  pub or_none_left : (e u : Option Stored) → e ≡ None → or_else e u ≡ u
  or_none_left e u z = rw z refl

  number_other : (m k : ℕ) (e : Option Stored) → m ≢ k → cond (nat_eq m k) e None ≡ None
  number_other m k e ne = grind (arith, nat_tests)

  number_same : (m k : ℕ) (e : Option Stored) → m ≡ k → cond (nat_eq m k) e None ≡ e
  number_same m k e s = grind (arith, nat_tests)

  other_store : (F : Form) (n : FlowNode) (m k : ℕ) → IsNext F n m → k < m → stored_in F regs h n k ≡ None
  other_store form.Store n m k x l = let ne : n.number ≢ k = omega arith in number_other n.number k _ ne
  other_store form.General n m k x l = refl
  other_store form.Immediate n m k x l = refl
  other_store form.Load n m k x l = refl
  other_store form.Branch n m k x l = refl
  other_store form.Constant n m k x l = refl

  pub stores_low : (m m2 : ℕ) (a : List FlowNode) → Rises m a m2 → (k : ℕ) → k < m → stores regs h a k ≡ None
  stores_low m m2 [] r k l = refl
  stores_low m m2 (n ∷ a) r k l =
      or_none_left _ _ (other_store (form_of n.op) n m k r.0 l)
      ∙ stores_low (next_after (form_of n.op) m) m2 a r.1 k (omega (arith, next_le (form_of n.op) m))

  past_store : (F : Form) (n : FlowNode) (m k : ℕ) → IsNext F n m → next_after F m ≤ k → stored_in F regs h n k ≡ None
  past_store form.Store n m k x l = let ne : n.number ≢ k = omega arith in number_other n.number k _ ne
  past_store form.General n m k x l = refl
  past_store form.Immediate n m k x l = refl
  past_store form.Load n m k x l = refl
  past_store form.Branch n m k x l = refl
  past_store form.Constant n m k x l = refl

  -- from the next free number on nothing is stored
  pub stores_high : (m m2 : ℕ) (a : List FlowNode) → Rises m a m2 → (k : ℕ) → m2 ≤ k → stores regs h a k ≡ None
  stores_high m m2 [] r k l = refl
  stores_high m m2 (n ∷ a) r k l =
      let le = rises_le (next_after (form_of n.op) m) m2 a r.1 in
      or_none_left _ _ (past_store (form_of n.op) n m k r.0 (omega arith))
      ∙ stores_high (next_after (form_of n.op) m) m2 a r.1 k l

  -- a number gets at most one token

  numbered_other : (F : Form) (n : FlowNode) (t : Answer) (m k : ℕ) → IsNext F n m → m ≢ k → numbered F n t k ≡ 0
  numbered_other form.Store n t m k x ne = grind (arith, nat_tests)
  numbered_other form.General n t m k x l = refl
  numbered_other form.Immediate n t m k x l = refl
  numbered_other form.Load n t m k x l = refl
  numbered_other form.Branch n t m k x l = refl
  numbered_other form.Constant n t m k x l = refl

  cond_most : (b : Bool) (p : ℕ) → p ≤ 1 → cond b p 0 ≤ 1
  cond_most true p l = l
  cond_most false p l = omega arith

  numbered_most : (F : Form) (n : FlowNode) (t : Answer) (k : ℕ) → numbered F n t k ≤ 1
  numbered_most form.Store n t k = cond_most (nat_eq n.number k) (present t) (present_most regs h t)
  numbered_most form.General n t k = omega arith
  numbered_most form.Immediate n t k = omega arith
  numbered_most form.Load n t k = omega arith
  numbered_most form.Branch n t k = omega arith
  numbered_most form.Constant n t k = omega arith

  -- a store passes its number, and other nodes have none
  numbered_passes : (F : Form) (n : FlowNode) (t : Answer) (m : ℕ) → (numbered F n t m ≡ 0) ⊎ (next_after F m ≡ suc m)
  numbered_passes form.Store n t m = inr refl
  numbered_passes form.General n t m = inl refl
  numbered_passes form.Immediate n t m = inl refl
  numbered_passes form.Load n t m = inl refl
  numbered_passes form.Branch n t m = inl refl
  numbered_passes form.Constant n t m = inl refl

  pub tokens_low : (j m m2 : ℕ) (a : List FlowNode) → Rises m a m2 → (k : ℕ) → k < m → tokens h j a k ≡ 0
  tokens_low j m m2 [] r k l = refl
  tokens_low j m m2 (n ∷ a) r k l =
      let ne : m ≢ k = omega arith in
      omega (
        arith,
        numbered_other (form_of n.op) n (h j) m k r.0 ne,
        tokens_low (suc j) (next_after (form_of n.op) m) m2 a r.1 k (omega (arith, next_le (form_of n.op) m)),
      )

  -- each number has at most one token
  pub tokens_most : (j m m2 : ℕ) (a : List FlowNode) → Rises m a m2 → (k : ℕ) → tokens h j a k ≤ 1
  tokens_most j m m2 [] r k = omega arith
  tokens_most j m m2 (n ∷ a) r k = go (nat_eq m k) refl (numbered_passes (form_of n.op) n (h j) m)
      (tokens_most (suc j) (next_after (form_of n.op) m) m2 a r.1 k)
    where
      go : (b : Bool) → nat_eq m k ≡ b → (numbered (form_of n.op) n (h j) m ≡ 0) ⊎
          (next_after (form_of n.op) m ≡ suc m) → tokens h (suc j) a k ≤ 1
          → numbered (form_of n.op) n (h j) k + tokens h (suc j) a k ≤ 1
      go false e p rest =
          let ne : m ≢ k = grind (arith, nat_tests) in
          omega (arith, numbered_other (form_of n.op) n (h j) m k r.0 ne, rest)
      go true e (inl z) rest =
          let s : m ≡ k = grind (arith, nat_tests) in
          let z2 : numbered (form_of n.op) n (h j) k ≡ 0 =
          subst (λ (i : ℕ). numbered (form_of n.op) n (h j) i ≡ 0) s z in
          omega (arith, z2, rest)
      go true e (inr z) rest =
          let s : m ≡ k = grind (arith, nat_tests) in
          omega (
            arith,
            numbered_most (form_of n.op) n (h j) k,
            tokens_low (suc j) (next_after (form_of n.op) m) m2 a r.1 k (omega (arith, z, s)),
          )

  module _ (f : Computes) (st : ℕ → Option Stored) where
    settled_one : (F : Form) (n : FlowNode) (m : ℕ) (rest : ℕ → Option Stored) → IsNext F n m
        → ((k : ℕ) → k < next_after F m → rest k ≡ None)
        → st m ≡ or_else (stored_in F regs h n m) (rest m) → SettledIn regs h f st F n
    settled_one form.General n m rest x z e = tt
    settled_one form.Immediate n m rest x z e = tt
    settled_one form.Branch n m rest x z e = tt
    settled_one form.Constant n m rest x z e = tt
    settled_one form.Load n m rest x z e = ap st x ∙ e ∙ z m (omega arith)
    settled_one form.Store n m rest x z e =
        ap st x ∙ e ∙ ap (or_else (cond (nat_eq n.number m) (stored_where (met h n.guard) regs h n) None))
        (z m (omega arith)) ∙ or_none _ ∙ number_same n.number m _ x

    -- a table that agrees with the nodes, where st is what their stores do
    pub runs_of :
        (j m m2 : ℕ) (a : List FlowNode) → Rises m a m2 → ((k : ℕ) → m ≤ k → st k ≡ stores regs h a k)
        → Obeys regs f h j a → Runs regs h f st j a
    runs_of j m m2 [] r e o = tt
    runs_of j m m2 (n ∷ a) r e o = (
      o.0,
      settled_one (form_of n.op) n m (stores regs h a) r.0
          (λ k l. stores_low (next_after (form_of n.op) m) m2 a r.1 k l) (e m (omega arith)),
      runs_of (suc j) (next_after (form_of n.op) m) m2 a r.1
          (λ k l. e k (omega (arith, next_le (form_of n.op) m))
          ∙ or_none_left _ _ (past_store (form_of n.op) n m k r.0 l)) o.1,
    )
