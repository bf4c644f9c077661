-- Which node gives the token that a place wants, in a good block: reads and slots, stores at their numbers, branches
-- at the exit.
use Rattle.std.proofs.Common.{◌≡◌, ◌≢◌, ℕ, zero, suc, ◌+◌, ◌<◌, ◌≤◌, Bool, true, false, ◌||◌, ◌==◌, ◌⊎◌, inl, inr}
use Rattle.std.proofs.Common.{List, [], ◌∷◌, Option, Some, None, slice_get, length, is_some, refl, sym, ap}
use Rattle.std.proofs.Common.{◌∙◌, subst, arith}
use Rattle.std.proofs.lemmas.Bool.Decides.{nat_tests}
use Rattle.trips_isa.specs.declared.block.Token.TheVariants.{Null, Word}
use Rattle.trips_isa.specs.declared.block.Spot.{Spot}
use Rattle.trips_isa.specs.declared.block.Spot.TheVariants as spot
use Rattle.trips_isa.specs.declared.block.Inst.{Inst}
use Rattle.trips_isa.specs.declared.block.ReadSlot.{ReadSlot}
use Rattle.trips_isa.specs.declared.block.Block.{Block}
use Rattle.trips_isa.specs.declared.node.Node.{Node}
use Rattle.trips_isa.specs.declared.form.Role.{Role}
use Rattle.trips_isa.specs.declared.form.Role.TheVariants.{Empty, Reading, Free, Nothing, Copy, One, Both}
use Rattle.trips_isa.specs.declared.form.Form.{Form}
use Rattle.trips_isa.specs.declared.form.Form.TheVariants.{General, Immediate, Load, Store, Branch, Constant}
use Rattle.trips_isa.specs.Forms.{form_of}
use Rattle.trips_isa.specs.Fits.{FitsTarget, FitsForm, FitsOperand, FitsSecond, FitsRead}
use Rattle.trips_isa.specs.Rule.{Answer, matched, gives, if_matched}
use Rattle.trips_isa.specs.Places.{place_of, place_at, first_place, read_node}
use Rattle.trips_isa.specs.Places.{inst_node, inst_nodes, nodes_of, targets}
use Rattle.trips_isa.specs.Places.{names}
use Rattle.trips_isa.specs.Tables.{node_gives, first}
use Rattle.trips_isa.specs.Blocks.{Responses, computes, is_read, slot_at, inst_at}
use Rattle.trips_isa.specs.inside.Blocks.{Solves}
use Rattle.block_cases.specs.Orders.{slot_of}
use Rattle.block_cases.specs.inside.Good.{NamesPlace}
use Rattle.block_cases.specs.Cases.{tokens}
use Rattle.block_cases.specs.inside.Shapes.{shape}
use Rattle.block_cases.proofs.Nodes.{not_read}
use Rattle.block_cases.proofs.Nodes as nodes
use Rattle.block_check.proofs.Counting.{held_place}
use Rattle.commit_flush_spec.specs.Frames.{slot_node}
use Rattle.commit_flush_spec.proofs.Tokens.{slot_got, read_got, inst_in}

-- nodes ------------------------------------------------------------------------------------------

-- a node that gives a token is a read, or the instruction of a slot
pub data IsNode (b : Block) (y : ℕ) : Type 0 where
  AtRead : (slot : ReadSlot) → slice_get b.reads.items y ≡ Some slot → IsNode b y
  AtSlot : (s : ℕ) (i : Inst) → y ≡ slot_node b s → slot_of b s ≡ Some i → IsNode b y

read_there : (rs : List ReadSlot) (r : ℕ) → r < length rs → (slot : ReadSlot) × (slice_get rs r ≡ Some slot)
read_there [] r l = absurd (omega arith)
read_there (x ∷ rs) zero l = (x, refl)
read_there (x ∷ rs) (suc r) l = read_there rs r (omega arith)

-- what gives a token in a table that solves a block is a node of it
pub a_node : (b : Block) (a : Responses) (g : ℕ → Answer) → Solves b a g → (y : ℕ) → g y ≢ None → IsNode b y
a_node b a g sol y n = go (is_read b y) refl
  where
    go : (v : Bool) → is_read b y ≡ v → IsNode b y
    go true r =
        let lt : y < length b.reads.items = grind (arith, nat_tests) in
        let k = read_there b.reads.items y lt in
        AtRead k.0 k.1
    go false r = slot (inst_at b y) refl
      where
        -- an empty slot gives nothing
        empty : inst_at b y ≡ None → (q : Option Node) → slice_get (nodes_of b) y ≡ q
            → node_gives q (computes b a y) (λ p. first (nodes_of b) p g) ≡ None
        empty e None i = refl
        empty e (Some m) i = ap (λ (k : Node). node_gives (Some k) (computes b a y) (λ p. first (nodes_of b) p g))
            (nodes.slot_got b y m r i ∙ ap (inst_node (slot_at b y)) e)

        slot : (q : Option Inst) → inst_at b y ≡ q → IsNode b y
        slot None e = absurd (n (sol y ∙ empty e (slice_get (nodes_of b) y) refl))
        slot (Some i) e = AtSlot (slot_at b y) i (not_read b y r) e

-- the node of an instruction
pub node_of_slot : (b : Block) (s : ℕ) (i : Inst) → slot_of b s ≡ Some i
    → slice_get (nodes_of b) (slot_node b s) ≡ Some (inst_node s (Some i))
node_of_slot b s i e = slot_got b s (inst_in b.insts.items s i e) ∙ ap (λ o. Some (inst_node s o)) e

-- the node of a read
pub node_of_read : (b : Block) (r : ℕ) (slot : ReadSlot) → slice_get b.reads.items r ≡ Some slot
    → slice_get (nodes_of b) r ≡ Some (read_node slot)
node_of_read b r slot e = read_got b.reads.items (inst_nodes 0 b.insts.items) r slot e

-- what a node names ------------------------------------------------------------------------------

-- one of two that name a place is it
pub named_or : (p q k : ℕ) → names (p ∷ q ∷ []) k ≡ true → (p ≡ k) ⊎ (q ≡ k)
named_or p q k e = go (p == k) refl (q == k) refl e
  where
    go : (b : Bool) → (p == k) ≡ b → (c : Bool) → (q == k) ≡ c → (b || (c || false)) ≡ true → (p ≡ k) ⊎ (q ≡ k)
    go true i c j e = inl (grind (arith, nat_tests))
    go false i true j e = inr (grind (arith, nat_tests))
    go false i false j e = absurd (cc)

-- the place q is that of a number or the exit
abbrev pub IsOutput : ℕ → Type 0
IsOutput q = (416 ≤ q) × (q < 449)

no_target : (t : Option Spot) (q : ℕ) → IsOutput q → FitsTarget t → place_at t ≡ q → ⊥
no_target None q l f e = let a = l.0 in let b = l.1 in omega (arith, a, b, e)
no_target (Some (spot.Write w)) q l f e = let g : w < 32 = f in let a = l.0 in omega (arith, g, a, e)
no_target (Some (spot.Pred s)) q l f e = let g : s < 128 = f in let a = l.0 in omega (arith, g, a, e)
no_target (Some (spot.Left s)) q l f e = let g : s < 128 = f in let a = l.0 in omega (arith, g, a, e)
no_target (Some (spot.Right s)) q l f e = let g : s < 128 = f in let a = l.0 in omega (arith, g, a, e)
no_target (Some (spot.Read s)) q l f e = f
no_target (Some (spot.Inst s)) q l f e = f
no_target (Some (spot.Store s)) q l f e = f

none_target : (t : Option Spot) (q : ℕ) → IsOutput q → t ≡ None → place_at t ≡ q → ⊥
none_target t q l n e = let z : 700 ≡ q = sym (ap place_at n) ∙ e in let b = l.1 in omega (arith, z, b)

-- only a store names a number, and only a branch the exit
abbrev pub NamesOutput : Form → ℕ → ℕ → Type 0
NamesOutput t n q = ((t ≡ Store) × (416 + n ≡ q)) ⊎ ((t ≡ Branch) × (448 ≡ q))

form_names : (t : Form) (i : Inst) (q : ℕ) → IsOutput q → FitsForm t i
    → (first_place t i.number i.first ≡ q) ⊎ (place_at i.second ≡ q) → NamesOutput t i.number q
form_names General i q l f (inl e) = absurd (no_target i.first q l (f.0).first e)
form_names General i q l f (inr e) = absurd (no_target i.second q l (f.0).second e)
form_names Immediate i q l f (inl e) = absurd (no_target i.first q l (f.0).first e)
form_names Immediate i q l f (inr e) = absurd (none_target i.second q l (f.0).second e)
form_names Load i q l f (inl e) = absurd (no_target i.first q l (f.0).first e)
form_names Load i q l f (inr e) = absurd (none_target i.second q l (f.0).second e)
form_names Constant i q l f (inl e) = absurd (no_target i.first q l (f.0).first e)
form_names Constant i q l f (inr e) = absurd (none_target i.second q l (f.0).second e)
form_names Store i q l f (inl e) = inl (refl, e)
form_names Store i q l f (inr e) = absurd (none_target i.second q l (f.0).second e)
form_names Branch i q l f (inl e) = inr (refl, e)
form_names Branch i q l f (inr e) = absurd (none_target i.second q l (f.0).second e)

same_node : (b : Block) (y : ℕ) (m n : Node) → slice_get (nodes_of b) y ≡ Some m → slice_get (nodes_of b) y ≡ Some n
    → m ≡ n
same_node b y m n d e = let k : Some m ≡ Some n = sym d ∙ e in cc

-- an output that a slot names fits the instruction's form
pub slot_names : (b : Block) (s q : ℕ) (i : Inst) → FitsForm (form_of i.op) i → IsOutput q → slot_of b s ≡ Some i
    → NamesPlace (nodes_of b) (slot_node b s) q → NamesOutput (form_of i.op) i.number q
slot_names b s q i f l e n =
    let same : n.0 ≡ inst_node s (Some i) = same_node b (slot_node b s) n.0 (inst_node s (Some i)) n.1
    (node_of_slot b s i e) in
    form_names (form_of i.op) i q l f
    (named_or _ _ q (subst (λ (k : Node). names (targets k) q ≡ true) same n.2))

operand_low : (s : Spot) → FitsOperand s → place_of s < 416
operand_low (spot.Left s) f = let g : s < 128 = f in omega (arith, g)
operand_low (spot.Right s) f = let g : s < 128 = f in omega (arith, g)
operand_low (spot.Read s) f = absurd f
operand_low (spot.Inst s) f = absurd f
operand_low (spot.Pred s) f = absurd f
operand_low (spot.Write s) f = absurd f
operand_low (spot.Store s) f = absurd f

second_not : (first : Spot) (t : Option Spot) (q : ℕ) → IsOutput q → FitsSecond first t → place_at t ≡ q → ⊥
second_not first None q l f e = let b = l.1 in omega (arith, b, e)
second_not first (Some s) q l f e = let k = operand_low s f.0 in let a = l.0 in omega (arith, k, a, e)

-- a read names neither a number nor the exit
pub read_names : (b : Block) (r q : ℕ) (slot : ReadSlot) → FitsRead slot → IsOutput q
    → slice_get b.reads.items r ≡ Some slot → NamesPlace (nodes_of b) r q → ⊥
read_names b r q slot f l e n =
    let same : n.0 ≡ read_node slot = same_node b r n.0 (read_node slot) n.1 (node_of_read b r slot e) in
    elim (named_or _ _ q (subst (λ (k : Node). names (targets k) q ≡ true) same n.2)) [
      | inl z ↦ let k = operand_low slot.first f.first in let a = l.0 in omega (arith, k, a, z)
      | inr z ↦ second_not slot.first slot.second q l f.second z
    ]

-- who gives a token ------------------------------------------------------------------------------

shape_there : (t : Answer) → (shape t ≡ shape None → ⊥) → t ≢ None
shape_there t n z = n (ap shape z)

-- a place that gets one token gets it of a node
pub giver : (ns : List Node) (g : ℕ → Answer) (q : ℕ) → tokens ns (λ x. shape (g x)) q ≡ 1
    → (y : ℕ) × NamesPlace ns y q × (g y ≢ None)
giver ns g q e =
    let h = held_place ns (λ x. shape (g x)) q (omega (arith, e)) in
    (h.0, h.1, shape_there (g h.0) h.2)

-- whether a node gives a token does not hang on what it computes
role_gives : (e : Role) (c d : ℕ → ℕ → ℕ) (l r : Answer) → is_some (gives e c l r) ≡ is_some (gives e d l r)
role_gives Empty c d l r = refl
role_gives Reading c d l r = refl
role_gives Free c d l r = refl
role_gives Nothing c d l r = refl
role_gives Copy c d l r = refl
role_gives One c d None r = refl
role_gives One c d (Some Null) r = refl
role_gives One c d (Some (Word x)) r = refl
role_gives Both c d None r = refl
role_gives Both c d (Some Null) r = refl
role_gives Both c d (Some (Word x)) None = refl
role_gives Both c d (Some (Word x)) (Some Null) = refl
role_gives Both c d (Some (Word x)) (Some (Word y)) = refl

-- whether a node gives a token does not depend on what it computes
pub node_gives_too : (n : Node) (c d : ℕ → ℕ → ℕ) (p : ℕ → Answer)
    → is_some (node_gives (Some n) c p) ≡ is_some (node_gives (Some n) d p)
node_gives_too n c d p = go (matched n.sense (p (256 + n.slot)))
  where
    go : (b : Bool) → is_some (if_matched b (gives n.role c (p n.slot) (p (128 + n.slot))))
        ≡ is_some (if_matched b (gives n.role d (p n.slot) (p (128 + n.slot))))
    go true = role_gives n.role c d (p n.slot) (p (128 + n.slot))
    go false = refl
