-- Where nothing that a block does faults, slot for slot, nothing that a node of it does faults.
use Rattle.std.proofs.Common.{◌≡◌, ℕ, zero, suc, ◌+◌, Bool, true, false, not, ◌&&◌, cond, List, []}
use Rattle.std.proofs.Common.{◌∷◌, ◌++◌, Option, Some, None, slice_get, refl, sym, ap, ◌∙◌, subst}
use Rattle.std.proofs.Common.{arith}
use Rattle.std.specs.Prelude.{slice_index_or}
use Rattle.trips_isa.specs.declared.op.Op.{Op}
use Rattle.trips_isa.specs.declared.op.Op.TheVariants.{Divs, Divu}
use Rattle.trips_isa.specs.declared.form.Form.{Form}
use Rattle.trips_isa.specs.declared.form.Form.TheVariants.{General, Immediate, Load, Store, Branch}
use Rattle.trips_isa.specs.declared.form.Form.TheVariants.{Constant}
use Rattle.trips_isa.specs.declared.form.Role.TheVariants.{Both}
use Rattle.trips_isa.specs.declared.block.Inst.{Inst}
use Rattle.trips_isa.specs.declared.block.Block.{Block}
use Rattle.trips_isa.specs.declared.block.Token.{Token}
use Rattle.trips_isa.specs.declared.block.Token.TheVariants.{Null, Word}
use Rattle.trips_isa.specs.declared.node.Node.{Node}
use Rattle.trips_isa.specs.declared.operands.Operands.{Operands}
use Rattle.trips_isa.specs.declared.operands.Operands.TheVariants.{Missing, Nulls, Words}
use Rattle.trips_isa.specs.Faults.{divides}
use Rattle.trips_isa.specs.Forms.{form_of, general_role, role_in, role_of}
use Rattle.trips_isa.specs.Operands.{operands}
use Rattle.trips_isa.specs.Places.{inst_node, nodes_of}
use Rattle.trips_isa.specs.Rule.{Answer, if_matched, matched}
use Rattle.trips_isa.specs.Tables.{deepest, node_gives, IsRanked}
use Rattle.trips_isa.specs.Blocks.{at_place, responses_in, computes, inst_at, is_read, slot_at, token_of}
use Rattle.trips_isa.specs.inside.Acts.{Act, Divided, is_fault, is_clean, acts_by, acts_if_read, acts_in, fired_acts}
use Rattle.trips_isa.specs.inside.Acts.{own_acts, IsClean}
use Rattle.block_cases.proofs.Nodes.{slot_got}
use Rattle.block_cases.proofs.Settled.{token_solves}
use Rattle.fan_out.specs.inside.Means.{acts_by_slot, inst_act_tokens, slot_acts, slots_acts}

-- PARTS OF A CLEAN LIST

and_left : (a b : Bool) → (a && b) ≡ true → a ≡ true
and_left true b e = refl
and_left false true e = absurd (cc)
and_left false false e = absurd (cc)

and_right : (a b : Bool) → (a && b) ≡ true → b ≡ true
and_right a true e = refl
and_right true false e = absurd (cc)
and_right false false e = absurd (cc)

and_both : (a b : Bool) → a ≡ true → b ≡ true → (a && b) ≡ true
and_both true b e f = f
and_both false b e f = absurd (cc)

front_clean : (xs ys : List Act) → is_clean (xs ++ ys) ≡ true → is_clean xs ≡ true
front_clean [] ys e = refl
front_clean (a ∷ xs) ys e =
    and_both (not (is_fault a)) (is_clean xs)
    (and_left (not (is_fault a)) (is_clean (xs ++ ys)) e)
    (front_clean xs ys (and_right (not (is_fault a)) (is_clean (xs ++ ys)) e))

back_clean : (xs ys : List Act) → is_clean (xs ++ ys) ≡ true → is_clean ys ≡ true
back_clean [] ys e = e
back_clean (a ∷ xs) ys e = back_clean xs ys
    (and_right (not (is_fault a)) (is_clean (xs ++ ys)) e)

slot_clean : (at : ℕ → Answer) (j k : ℕ) (is : List (Option Inst))
    → is_clean (slots_acts at j is) ≡ true
    → is_clean (slot_acts at (j + k) (slice_index_or is k None)) ≡ true
slot_clean at j k [] e = refl
slot_clean at j zero (i ∷ is) e =
    let z : j ≡ j + 0 = omega arith in
    subst (λ n. is_clean (slot_acts at n i) ≡ true) z
    (front_clean (slot_acts at j i) (slots_acts at (suc j) is) e)
slot_clean at j (suc k) (i ∷ is) e =
    let z : suc j + k ≡ j + suc k = omega arith in
    subst (λ n. is_clean (slot_acts at n (slice_index_or is k None)) ≡ true) z
    (slot_clean at (suc j) k is (back_clean (slot_acts at j i) (slots_acts at (suc j) is) e))

-- ONE INSTRUCTION

-- what does nothing does nothing, whatever its operands are
nothing_done : (own : ℕ → ℕ → List Act) (o : Operands) → ((l r : ℕ) → own l r ≡ [])
    → is_clean (acts_by own o) ≡ true
nothing_done own Missing e = refl
nothing_done own (Nulls a b) e = refl
nothing_done own (Words l r) e = ap is_clean (e l r)

-- what divides takes both operands
divides_both : (op : Op) → divides op ≡ true → general_role op ≡ Both
divides_both Divs e = refl
divides_both Divu e = refl
divides_both _ e = absurd (cc)

-- an instruction does no more than what its operands' tokens say
done_clean : (i : Inst) (own : ℕ → ℕ → List Act) (l r : Answer)
    → ((x y : ℕ) → own x y ≡ acts_in (form_of i.op) i x y)
    → is_clean (inst_act_tokens (form_of i.op) i l r) ≡ true
    → is_clean (acts_by own (operands (role_of i.op) l r)) ≡ true
done_clean i own l r same clean = go (form_of i.op) same clean
  where
    general : (v : Bool) → divides i.op ≡ v → ((x y : ℕ) → own x y ≡ acts_in General i x y)
        → is_clean (inst_act_tokens General i l r) ≡ true
        → is_clean (acts_by own (operands (general_role i.op) l r)) ≡ true
    general false d s c =
        nothing_done own _ (λ x y. s x y ∙ ap (λ v. cond v (Divided y ∷ []) []) d)
    general true d s c =
        subst (λ role. is_clean (acts_by own (operands role l r)) ≡ true)
        (sym (divides_both i.op d)) (by l r c)
      where
        by : (l r : Answer) → is_clean (inst_act_tokens General i l r) ≡ true
            → is_clean (acts_by own (operands Both l r)) ≡ true
        by None r c = refl
        by (Some Null) None c = refl
        by (Some Null) (Some Null) c = refl
        by (Some Null) (Some (Word y)) c = refl
        by (Some (Word x)) None c = refl
        by (Some (Word x)) (Some Null) c = refl
        by (Some (Word x)) (Some (Word y)) c = ap is_clean (s x y) ∙ c

    load : (l : Answer) → ((x y : ℕ) → own x y ≡ acts_in Load i x y)
        → is_clean (inst_act_tokens Load i l r) ≡ true
        → is_clean (acts_by own (operands (role_in Load i.op) l r)) ≡ true
    load None s c = refl
    load (Some Null) s c = refl
    load (Some (Word x)) s c = ap is_clean (s x 0) ∙ c

    store : (l r : Answer) → ((x y : ℕ) → own x y ≡ acts_in Store i x y)
        → is_clean (inst_act_tokens Store i l r) ≡ true
        → is_clean (acts_by own (operands (role_in Store i.op) l r)) ≡ true
    store None r s c = refl
    store (Some Null) None s c = refl
    store (Some Null) (Some Null) s c = refl
    store (Some Null) (Some (Word y)) s c = refl
    store (Some (Word x)) None s c = refl
    store (Some (Word x)) (Some Null) s c = refl
    store (Some (Word x)) (Some (Word y)) s c = ap is_clean (s x y) ∙ c

    go : (e : Form) → ((x y : ℕ) → own x y ≡ acts_in e i x y)
        → is_clean (inst_act_tokens e i l r) ≡ true
        → is_clean (acts_by own (operands (role_in e i.op) l r)) ≡ true
    go General s c = general (divides i.op) refl s c
    go Immediate s c = nothing_done own _ s
    go Constant s c = nothing_done own _ s
    go Branch s c = nothing_done own _ s
    go Load s c = load l s c
    go Store s c = store l r s c

-- EACH NODE

-- what gives a token is matched
gave : (v : Bool) (u : Answer) (t : Token) → Some t ≡ if_matched v u → v ≡ true
gave true u t e = refl
gave false u t e = absurd (cc)

slot_fires_clean : (at : ℕ → Answer) (a : ℕ → ℕ → ℕ) (own : ℕ → ℕ → List Act) (j : ℕ)
    (i : Option Inst) (t : Answer) → t ≡ node_gives (Some (inst_node j i)) a at
    → ((x y : ℕ) → own x y ≡ own_acts i x y) → is_clean (slot_acts at j i) ≡ true
    → is_clean (fired_acts (Some (inst_node j i)) own at t) ≡ true
slot_fires_clean at a own j None None e s c = refl
slot_fires_clean at a own j None (Some t) e s c = refl
slot_fires_clean at a own j (Some i) None e s c = refl
slot_fires_clean at a own j (Some i) (Some t) e s c =
    let m : matched i.sense (at (256 + j)) ≡ true = gave _ _ t e in
    done_clean i own (at j) (at (128 + j)) s
    (ap (λ v. is_clean (cond v (inst_act_tokens (form_of i.op) i (at j) (at (128 + j))) []))
    (sym m) ∙ c)

read_clean : (n : Node) (own : ℕ → ℕ → List Act) (at : ℕ → Answer) (t : Answer)
    → ((x y : ℕ) → own x y ≡ []) → is_clean (fired_acts (Some n) own at t) ≡ true
read_clean n own at None s = refl
read_clean n own at (Some t) s = nothing_done own _ s

-- a block whose slots do nothing that faults is clean, in whatever order its nodes stand
pub slots_clean : (b : Block) → IsRanked (nodes_of b) → (regs mem : List ℕ)
    → is_clean (acts_by_slot b regs mem) ≡ true → IsClean b (token_of b regs mem deepest)
slots_clean b ranked regs mem clean x = node (slice_get (nodes_of b) x) refl
  where
    by : (n : Node) → slice_get (nodes_of b) x ≡ Some n → (v : Bool) → is_read b x ≡ v
        → is_clean (fired_acts (Some n) (acts_if_read v (inst_at b x))
        (at_place b (token_of b regs mem deepest)) (token_of b regs mem deepest x)) ≡ true
    by n e true r = read_clean n (acts_if_read true (inst_at b x))
        (at_place b (token_of b regs mem deepest)) (token_of b regs mem deepest x) (λ k l. refl)
    by n e false r =
        let is : n ≡ inst_node (slot_at b x) (inst_at b x) = slot_got b x n r e in
        let z : 0 + slot_at b x ≡ slot_at b x = omega arith in
        let here : is_clean (slot_acts (at_place b (token_of b regs mem deepest)) (slot_at b x)
        (inst_at b x)) ≡ true =
        subst (λ k. is_clean (slot_acts (at_place b (token_of b regs mem deepest)) k
        (inst_at b x)) ≡ true) z
        (slot_clean (at_place b (token_of b regs mem deepest)) 0 (slot_at b x) b.insts.items
        clean) in
        let table : token_of b regs mem deepest x
        ≡ node_gives (Some (inst_node (slot_at b x) (inst_at b x)))
        (computes b (responses_in b regs mem (token_of b regs mem deepest)) x)
        (at_place b (token_of b regs mem deepest)) =
        token_solves b regs mem ranked x
        ∙ ap (λ o. node_gives o
        (computes b (responses_in b regs mem (token_of b regs mem deepest)) x)
        (at_place b (token_of b regs mem deepest))) (e ∙ ap Some is) in
        subst (λ m. is_clean (fired_acts (Some m) (acts_if_read false (inst_at b x))
        (at_place b (token_of b regs mem deepest)) (token_of b regs mem deepest x)) ≡ true)
        (sym is)
        (slot_fires_clean (at_place b (token_of b regs mem deepest))
        (computes b (responses_in b regs mem (token_of b regs mem deepest)) x)
        (acts_if_read false (inst_at b x)) (slot_at b x)
        (inst_at b x) (token_of b regs mem deepest x) table (λ k l. refl) here)

    node : (o : Option Node) → slice_get (nodes_of b) x ≡ o
        → is_clean (fired_acts o (acts_if_read (is_read b x) (inst_at b x))
        (at_place b (token_of b regs mem deepest)) (token_of b regs mem deepest x)) ≡ true
    node None e = refl
    node (Some n) e = by n e (is_read b x) refl
