-- The rule is monotone, and what has come gives what the table gives.
use Rattle.std.proofs.Common.{◌≡◌, ◌≢◌, ℕ, zero, suc, ◌+◌, ◌<◌, Bool, true, false, cond, ◌⊎◌, inl, inr, List}
use Rattle.std.proofs.Common.{[], ◌∷◌, ◌++◌, map, Option, Some, None, slice_get, get_or, length, refl, sym}
use Rattle.std.proofs.Common.{ap, ap₂, ◌∙◌, subst, true≢false, arith}
use Rattle.std.proofs.Math.Path.{fun_ext}
use Rattle.std.proofs.lemmas.Bool.Decides.{nat_tests}
use Rattle.trips_isa.specs.declared.block.Token.TheVariants.{Null, Word}
use Rattle.trips_isa.specs.declared.block.Sense.{Sense}
use Rattle.trips_isa.specs.declared.block.Sense.TheVariants.{Always, OnTrue, OnFalse}
use Rattle.trips_isa.specs.declared.form.Role.{Role}
use Rattle.trips_isa.specs.declared.form.Role.TheVariants.{Empty, Reading, Free, Nothing, Copy, One, Both}
use Rattle.trips_isa.specs.declared.form.Form.{Form}
use Rattle.trips_isa.specs.declared.form.Form.TheVariants.{General, Immediate, Load, Store, Branch, Constant}
use Rattle.trips_isa.specs.declared.node.Node.{Node}
use Rattle.trips_isa.specs.declared.op.Op.{Op}
use Rattle.trips_isa.specs.declared.block.Inst.{Inst}
use Rattle.trips_isa.specs.declared.block.ReadSlot.{ReadSlot}
use Rattle.trips_isa.specs.declared.block.Block.{Block}
use Rattle.trips_isa.specs.Forms.{form_of, role_of, role_in, size_of, is_load}
use Rattle.trips_isa.specs.Alu.{loaded_as}
use Rattle.trips_isa.specs.Rule.{Answer, matched, of_one, of_both, gives, if_matched}
use Rattle.trips_isa.specs.Places.{targets, names, read_node, inst_node, inst_nodes, nodes_of}
use Rattle.trips_isa.specs.Tables.{taken, or_else, first, node_gives, deepest}
use Rattle.trips_isa.specs.inside.Tables.{pulled}
use Rattle.trips_isa.specs.Stores.{load_of, address_of, is_good_address}
use Rattle.trips_isa.specs.Blocks.{Responses, computes, computes_if_read, slot_computes}
use Rattle.trips_isa.specs.inside.Blocks.{Solves}
use Rattle.trips_isa.specs.Blocks.{form_computes, is_read, slot_at, inst_at, at_place}
use Rattle.block_cases.specs.Orders.{slot_of}
use Rattle.block_cases.specs.inside.Good.{OneToken, NamesPlace}
use Rattle.block_cases.specs.Blocks.{wanted_of}
use Rattle.block_cases.specs.inside.Shapes.{shape}
use Rattle.block_cases.proofs.Placed.{nodes_placed}
use Rattle.block_cases.proofs.OneToken.{good_machine}
use Rattle.block_cases.proofs.AnyBits.{one_producer, one_at_most}
use Rattle.block_cases.proofs.Unique.{present_shape, pulled_is_table}
use Rattle.block_cases.proofs.Nodes.{past_reads}
use Rattle.commit_flush_spec.specs.Frames.{Frame, at, slot_node}
use Rattle.commit_flush_spec.specs.Sending.{token_with}
use Rattle.commit_flush_spec.specs.inside.Invariant.{Below, IsRunnable}
use Rattle.commit_flush_spec.proofs.Lists.{below_is, is_below, below_trans, none_or}

-- the rule is monotone ---------------------------------------------------------------------------

one_below : (f : ℕ → ℕ) (l l' : Answer) → Below l l' → Below (of_one f l) (of_one f l')
one_below f None l' h = tt
one_below f (Some Null) l' h = ap (of_one f) h
one_below f (Some (Word x)) l' h = ap (of_one f) h

both_below : (f : ℕ → ℕ → ℕ) (l r l' r' : Answer) → Below l l' → Below r r' → Below (of_both f l r) (of_both f l' r')
both_below f None r l' r' h k = tt
both_below f (Some Null) None l' r' h k = tt
both_below f (Some Null) (Some t) l' r' h k = ap₂ (of_both f) h k
both_below f (Some (Word x)) r l' r' h k =
    subst (λ t. Below (of_one (f x) r) (of_both f t r')) h (one_below (f x) r r' k)

gives_below : (e : Role) (a : ℕ → ℕ → ℕ) (l r l' r' : Answer) → Below l l' → Below r r'
    → Below (gives e a l r) (gives e a l' r')
gives_below Empty a l r l' r' h k = tt
gives_below Reading a l r l' r' h k = refl
gives_below Free a l r l' r' h k = refl
gives_below Nothing a l r l' r' h k = refl
gives_below Copy a l r l' r' h k = h
gives_below One a l r l' r' h k = one_below (λ x. a x 0) l l' h
gives_below Both a l r l' r' h k = both_below a l r l' r' h k

matched_below : (s : Sense) (p p' : Answer) → Below p p' → matched s p ≡ true → matched s p' ≡ true
matched_below Always p p' h e = refl
matched_below OnTrue None p' h e = absurd (cc)
matched_below OnTrue (Some t) p' h e = subst (λ u. matched OnTrue u ≡ true) h e
matched_below OnFalse None p' h e = absurd (cc)
matched_below OnFalse (Some t) p' h e = subst (λ u. matched OnFalse u ≡ true) h e

gated_below : (b b' : Bool) (v v' : Answer) → (b ≡ true → b' ≡ true) → Below v v'
    → Below (if_matched b v) (if_matched b' v')
gated_below false b' v v' e h = tt
gated_below true true v v' e h = h
gated_below true false v v' e h = absurd (true≢false (sym (e refl)))

-- where more has come, what a node gives is the same or comes only now
pub node_below : (o : Option Node) (a : ℕ → ℕ → ℕ) (p p' : ℕ → Answer) → ((q : ℕ) → Below (p q) (p' q))
    → Below (node_gives o a p) (node_gives o a p')
node_below None a p p' h = tt
node_below (Some n) a p p' h =
    gated_below (matched n.sense (p (256 + n.slot))) (matched n.sense (p' (256 + n.slot))) _ _
    (matched_below n.sense _ _ (h (256 + n.slot))) (gives_below n.role a _ _ _ _ (h n.slot) (h (128 + n.slot)))

-- where nodes stand ------------------------------------------------------------------------------

nodes_at : (is : List (Option Inst)) (j k : ℕ) → k < length is
    → slice_get (inst_nodes j is) k ≡ Some (inst_node (j + k) (get_or is k None))
nodes_at [] j k l = absurd (omega arith)
nodes_at (i ∷ is) j zero l = let e : j ≡ j + 0 = omega arith in ap (λ n. Some (inst_node n i)) e
nodes_at (i ∷ is) j (suc k) l = let e : suc j + k ≡ j + suc k = omega arith in
    nodes_at is (suc j) k (omega arith) ∙ ap (λ n. Some (inst_node n (get_or is k None))) e

-- the node of a slot is its instruction's
pub slot_got : (b : Block) (s : ℕ) → s < length b.insts.items
    → slice_get (nodes_of b) (slot_node b s) ≡ Some (inst_node s (slot_of b s))
slot_got b s l = let e : 0 + s ≡ s = omega arith in
    past_reads b.reads.items b.insts.items (slot_node b s) s refl ∙ nodes_at b.insts.items 0 s l
    ∙ ap (λ n. Some (inst_node n (slot_of b s))) e

-- the node of a declared read is the read's
pub read_got : (rs : List ReadSlot) (rest : List Node) (r : ℕ) (slot : ReadSlot) → slice_get rs r ≡ Some slot
    → slice_get (map read_node rs ++ rest) r ≡ Some (read_node slot)
read_got [] rest r slot e = absurd (cc)
read_got (x ∷ rs) rest zero slot e = let same : x ≡ slot = cc in ap (λ y. Some (read_node y)) same
read_got (x ∷ rs) rest (suc r) slot e = read_got rs rest r slot e

-- the node of a slot is not a read's
pub slot_not_read : (b : Block) (s : ℕ) → is_read b (slot_node b s) ≡ false
slot_not_read b s = grind (arith, nat_tests)

-- the slot of a slot's node is this slot
pub slot_at_is : (b : Block) (s : ℕ) → slot_at b (slot_node b s) ≡ s
slot_at_is b s = omega arith

-- the instruction at the node of a slot is the one of the slot
pub inst_at_is : (b : Block) (s : ℕ) → inst_at b (slot_node b s) ≡ slot_of b s
inst_at_is b s = ap (λ n. get_or b.insts.items n None) (slot_at_is b s)

-- a read that is found is declared
pub read_is : (rs : List ReadSlot) (r : ℕ) (slot : ReadSlot) → slice_get rs r ≡ Some slot → r < length rs
read_is [] r slot e = absurd (cc)
read_is (x ∷ rs) zero slot e = omega arith
read_is (x ∷ rs) (suc r) slot e = let k = read_is rs r slot e in omega (arith, k)

-- a slot that holds an instruction is one of the block's
pub inst_in : (is : List (Option Inst)) (s : ℕ) (i : Inst) → get_or is s None ≡ Some i → s < length is
inst_in [] s i e = absurd (cc)
inst_in (x ∷ is) zero i e = omega arith
inst_in (x ∷ is) (suc s) i e = let k = inst_in is s i e in omega (arith, k)

-- what nodes compute -----------------------------------------------------------------------------

pub slot_computed : (b : Block) (a : Responses) (s l r : ℕ)
    → computes b a (slot_node b s) l r ≡ slot_computes (slot_of b s) (a (slot_node b s)) l r
slot_computed b a s l r = ap (λ v. computes_if_read v b (a (slot_node b s)) (slot_node b s) l r) (slot_not_read b s)
    ∙ ap (λ o. slot_computes o (a (slot_node b s)) l r) (inst_at_is b s)

pub read_computed : (b : Block) (a : Responses) (r : ℕ) → r < length b.reads.items → (l k : ℕ)
    → computes b a r l k ≡ a r 0
read_computed b a r lt l k = let e : is_read b r ≡ true = grind (arith, nat_tests) in
    ap (λ v. computes_if_read v b (a r) r l k) e

-- only a load's word hangs on its answer
form_same : (t : Form) (i : Inst) (p q : ℕ → ℕ) (l r : ℕ) → is_load t ≡ false
    → form_computes t i p l r ≡ form_computes t i q l r
form_same General i p q l r e = refl
form_same Immediate i p q l r e = refl
form_same Constant i p q l r e = refl
form_same Load i p q l r e = absurd (cc)
form_same Store i p q l r e = refl
form_same Branch i p q l r e = refl

pub same_computed : (b : Block) (a c : Responses) (s : ℕ) (i : Inst) → slot_of b s ≡ Some i
    → is_load (form_of i.op) ≡ false → computes b a (slot_node b s) ≡ computes b c (slot_node b s)
same_computed b a c s i e k = fun_ext (λ l. fun_ext (λ r.
    slot_computed b a s l r
    ∙ ap (λ o. slot_computes o (a (slot_node b s)) l r) e
    ∙ form_same (form_of i.op) i (a (slot_node b s)) (c (slot_node b s)) l r k
    ∙ sym (ap (λ o. slot_computes o (c (slot_node b s)) l r) e)
    ∙ sym (slot_computed b c s l r)))

-- a load takes one operand
pub load_one : (t : Form) (op : Op) → is_load t ≡ true → role_in t op ≡ One
load_one General op e = absurd (cc)
load_one Immediate op e = absurd (cc)
load_one Constant op e = absurd (cc)
load_one Load op e = refl
load_one Store op e = absurd (cc)
load_one Branch op e = absurd (cc)

load_form : (t : Form) → is_load t ≡ true → t ≡ Load
load_form General e = absurd (cc)
load_form Immediate e = absurd (cc)
load_form Constant e = absurd (cc)
load_form Load e = refl
load_form Store e = absurd (cc)
load_form Branch e = absurd (cc)

one_same : (c d : ℕ → ℕ → ℕ) (l : Answer) → ((v : ℕ) → l ≡ Some (Word v) → c v 0 ≡ d v 0)
    → of_one (λ x. c x 0) l ≡ of_one (λ x. d x 0) l
one_same c d None h = refl
one_same c d (Some Null) h = refl
one_same c d (Some (Word v)) h = ap (λ y. Some (Word y)) (h v refl)

gives_same : (e : Role) (c d : ℕ → ℕ → ℕ) (l r : Answer) → e ≡ One → ((v : ℕ) → l ≡ Some (Word v) → c v 0 ≡ d v 0)
    → gives e c l r ≡ gives e d l r
gives_same e c d l r k h = ap (λ z. gives z c l r) k ∙ one_same c d l h ∙ sym (ap (λ z. gives z d l r) k)

load_computed : (b : Block) (a : Responses) (s : ℕ) (i : Inst) → slot_of b s ≡ Some i → is_load (form_of i.op) ≡ true
    → (v : ℕ) → computes b a (slot_node b s) v 0 ≡ load_of i (a (slot_node b s)) v
load_computed b a s i e k v = slot_computed b a s v 0 ∙ ap (λ o. slot_computes o (a (slot_node b s)) v 0) e
    ∙ ap (λ t. form_computes t i (a (slot_node b s)) v 0) (load_form (form_of i.op) k)

-- what has come gives what the table gives -------------------------------------------------------

abbrev pub SpotsBelow : Frame → (ℕ → Answer) → Type 0
SpotsBelow f g = (q : ℕ) → Below (at f.spots q) (at_place f.code g q)

by_table : (f : Frame) (x w : ℕ) (a : Responses) (g : ℕ → Answer) → Solves f.code a g → SpotsBelow f g
    → node_gives (slice_get (nodes_of f.code) x) (computes f.code (λ y z. w) x) (at_place f.code g)
    ≡ node_gives (slice_get (nodes_of f.code) x) (computes f.code a x) (at_place f.code g)
    → Below (token_with f x w) (g x)
by_table f x w a g s h e = below_trans _ _ _
    (node_below (slice_get (nodes_of f.code) x) (computes f.code (λ y z. w) x) (at f.spots) (at_place f.code g) h)
    (is_below _ _ (e ∙ sym (s x)))

-- what an instruction that is no load gives of what has come is what the table has
pub fired_below : (f : Frame) (s w : ℕ) (i : Inst) (a : Responses) (g : ℕ → Answer) → Solves f.code a g
    → SpotsBelow f g
    → slot_of f.code s ≡ Some i → is_load (form_of i.op) ≡ false
    → Below (token_with f (slot_node f.code s) w) (g (slot_node f.code s))
fired_below f s w i a g sol h e k = by_table f (slot_node f.code s) w a g sol h
    (ap (λ c. node_gives (slice_get (nodes_of f.code) (slot_node f.code s)) c (at_place f.code g))
    (same_computed f.code (λ y z. w) a s i e k))

-- what a read gives of its word is what the table has
pub read_below : (f : Frame) (r w : ℕ) (slot : ReadSlot) (a : Responses) (g : ℕ → Answer) → Solves f.code a g
    → SpotsBelow f g
    → slice_get f.code.reads.items r ≡ Some slot → a r 0 ≡ w → Below (token_with f r w) (g r)
read_below f r w slot a g sol h e k = by_table f r w a g sol h
    (ap (λ c. node_gives (slice_get (nodes_of f.code) r) c (at_place f.code g)) (fun_ext (λ l. fun_ext (λ m.
    read_computed f.code (λ y z. w) r lt l m ∙ sym k ∙ sym (read_computed f.code a r lt l m)))))
  where
    lt : r < length f.code.reads.items
    lt = read_is f.code.reads.items r slot e

gives_there : (e : Role) (c d : ℕ → ℕ → ℕ) (l r : Answer) → gives e c l r ≢ None → gives e d l r ≢ None
gives_there Empty c d l r n = n
gives_there Reading c d l r n = λ e. cc
gives_there Free c d l r n = λ e. cc
gives_there Nothing c d l r n = n
gives_there Copy c d l r n = n
gives_there One c d None r n = n
gives_there One c d (Some Null) r n = n
gives_there One c d (Some (Word x)) r n = λ e. cc
gives_there Both c d None r n = n
gives_there Both c d (Some Null) r n = n
gives_there Both c d (Some (Word x)) None n = n
gives_there Both c d (Some (Word x)) (Some Null) n = n
gives_there Both c d (Some (Word x)) (Some (Word y)) n = λ e. cc

-- whether a node fires does not hang on what it computes
node_there : (o : Option Node) (c d : ℕ → ℕ → ℕ) (p : ℕ → Answer) → node_gives o c p ≢ None → node_gives o d p ≢ None
node_there None c d p n = n
node_there (Some m) c d p n = go (matched m.sense (p (256 + m.slot))) n
  where
    go : (b : Bool) → if_matched b (gives m.role c (p m.slot) (p (128 + m.slot))) ≢ None
        → if_matched b (gives m.role d (p m.slot) (p (128 + m.slot))) ≢ None
    go true k = gives_there m.role c d _ _ k
    go false k = k

-- what a node gives of the tokens that have come, the table gives too
pub there : (f : Frame) (x w : ℕ) (a : Responses) (g : ℕ → Answer) → Solves f.code a g → SpotsBelow f g
    → token_with f x w ≢ None → g x ≢ None
there f x w a g s h n z =
    let o : Option Node = slice_get (nodes_of f.code) x in
    let same : token_with f x w
    ≡ node_gives (slice_get (nodes_of f.code) x) (computes f.code (λ y z. w) x) (at_place f.code g) =
    below_is _ _ (node_below (slice_get (nodes_of f.code) x) (computes f.code (λ y z. w) x) (at f.spots)
    (at_place f.code g) h) n in
    let up : node_gives (slice_get (nodes_of f.code) x) (computes f.code (λ y z. w) x) (at_place f.code g) ≢ None =
    λ q. n (same ∙ q) in
    node_there (slice_get (nodes_of f.code) x) (computes f.code (λ y z. w) x) (computes f.code a x)
    (at_place f.code g) up (sym (s x) ∙ z)

-- whether a node gives a token does not hang on what its read or load is answered
pub token_there : (f : Frame) (x w v : ℕ) → token_with f x w ≢ None → token_with f x v ≢ None
token_there f x w v n =
    node_there (slice_get (nodes_of f.code) x) (computes f.code (λ y z. w) x) (computes f.code (λ y z. v) x)
    (at f.spots) n

load_word : (i : Inst) (p : ℕ → ℕ) (w v : ℕ) → (is_good_address (address_of i v) (size_of i.op) ≡ true
    → p (address_of i v) ≡ w) → load_of i (λ z. w) v ≡ load_of i p v
load_word i p w v h = go (is_good_address (address_of i v) (size_of i.op)) refl
  where
    go : (b : Bool) → is_good_address (address_of i v) (size_of i.op) ≡ b
        → cond b (loaded_as i.op w) 0 ≡ cond b (loaded_as i.op (p (address_of i v))) 0
    go true e = ap (loaded_as i.op) (sym (h e))
    go false e = refl

-- what a load gives of its word, where its address has come, is what the table has
pub load_below : (f : Frame) (s w : ℕ) (i : Inst) (a : Responses) (g : ℕ → Answer) → Solves f.code a g
    → SpotsBelow f g
    → slot_of f.code s ≡ Some i → is_load (form_of i.op) ≡ true
    → ((v : ℕ) → at_place f.code g s ≡ Some (Word v) → is_good_address (address_of i v) (size_of i.op) ≡ true
    → a (slot_node f.code s) (address_of i v) ≡ w)
    → Below (token_with f (slot_node f.code s) w) (g (slot_node f.code s))
load_below f s w i a g sol h e k q = by_table f (slot_node f.code s) w a g sol h
    (ap (λ o. node_gives o (computes f.code (λ y z. w) (slot_node f.code s)) (at_place f.code g)) here
    ∙ ap (if_matched (matched i.sense (at_place f.code g (256 + s))))
    (gives_same (role_of i.op) _ _ _ _ (load_one (form_of i.op) i.op k) (λ v z.
    load_computed f.code (λ y z. w) s i e k v ∙ load_word i (a (slot_node f.code s)) w v (q v z)
    ∙ sym (load_computed f.code a s i e k v)))
    ∙ sym (ap (λ o. node_gives o (computes f.code a (slot_node f.code s)) (at_place f.code g)) here))
  where
    here : slice_get (nodes_of f.code) (slot_node f.code s) ≡ Some (inst_node s (Some i))
    here = slot_got f.code s (inst_in f.code.insts.items s i e) ∙ ap (λ o. Some (inst_node s o)) e

-- the only token of a place is the one that is pulled --------------------------------------------

module _ {A : Type 0} where
  or_else_left : (t u : Option A) → t ≢ None → or_else t u ≡ t
  or_else_left None u n = absurd (n refl)
  or_else_left (Some t) u n = refl

  abbrev pub Only : List Node → ℕ → (ℕ → Option A) → ℕ → Type 0
  Only ns q f i = (j : ℕ) (m : Node) → slice_get ns j ≡ Some m → names (targets m) q ≡ true → f j ≢ None → j ≡ i

  skips : (m : Node) (ns : List Node) (q : ℕ) (f : ℕ → Option A) (i : ℕ) → Only (m ∷ ns) q f (suc i)
      → taken (names (targets m) q) f ≡ None
  skips m ns q f i u = go (names (targets m) q) refl (none_or (f 0))
    where
      go : (b : Bool) → names (targets m) q ≡ b → (f 0 ≡ None) ⊎ (f 0 ≢ None) → taken b f ≡ None
      go false e o = refl
      go true e (inl z) = z
      go true e (inr z) = let bad : 0 ≡ suc i = u 0 m refl e z in absurd (omega arith)

  pub first_is : (ns : List Node) (q : ℕ) (f : ℕ → Option A) (i : ℕ) (n : Node) → slice_get ns i ≡ Some n
      → names (targets n) q ≡ true → f i ≢ None → Only ns q f i → first ns q f ≡ f i
  first_is [] q f i n e nm pr u = absurd (cc)
  first_is (m ∷ ns) q f zero n e nm pr u =
      let same : m ≡ n = cc in
      let nm' : names (targets m) q ≡ true = subst (λ (x : Node). names (targets x) q ≡ true) (sym same) nm in
      ap (λ b. or_else (taken b f) (first ns q (λ y. f (suc y)))) nm' ∙ or_else_left (f 0) _ pr
  first_is (m ∷ ns) q f (suc i) n e nm pr u =
      ap (λ t. or_else t (first ns q (λ y. f (suc y)))) (skips m ns q f i u)
      ∙ first_is ns q (λ y. f (suc y)) i n e nm pr (λ j x ex nx px. let s : suc j ≡ suc i = u (suc j) x ex nx px in
      omega arith)

-- good blocks ------------------------------------------------------------------------------------

-- a table that solves a block which may run keeps the law of one token
pub one_law : (b : Block) → IsRunnable b → (a : Responses) (g : ℕ → Answer) → Solves b a g
    → OneToken (nodes_of b) (wanted_of b) (λ x. shape (g x))
one_law b good a g t =
    good_machine (nodes_of b) (wanted_of b) good.good.ranked (nodes_placed b good.fits) good.good.good (computes b a)
    g t

-- in a good block only one node that names a place gives a token
pub producer : (b : Block) → IsRunnable b → (a : Responses) (g : ℕ → Answer) → Solves b a g → (q x y : ℕ) → q < 449
    → NamesPlace (nodes_of b) x q → NamesPlace (nodes_of b) y q → g x ≢ None → g y ≢ None → x ≡ y
producer b good a g t q x y lt n k p r = one_producer (nodes_of b) (λ z. shape (g z)) q
    (one_at_most (nodes_of b) (wanted_of b) (λ z. shape (g z)) (one_law b good a g t) q lt) x y n k
    (present_shape (g x) p) (present_shape (g y) r)

-- at each place that a node names stands what it gives, or what is made of it
pub placed_is : {A : Type 0} (b : Block) → IsRunnable b → (a : Responses) (g : ℕ → Answer) → Solves b a g
    → (f : ℕ → Option A) → ((j : ℕ) → f j ≢ None → g j ≢ None)
    → (q x : ℕ) → q < 449 → NamesPlace (nodes_of b) x q → f x ≢ None → first (nodes_of b) q f ≡ f x
placed_is b good a g t f from q x lt n p = first_is (nodes_of b) q f x n.0 n.1 n.2 p
    (λ j m e nm r. producer b good a g t q j x lt (m, e, nm) n (from j r) (from x p))

-- the table of given answers
pub table : Block → Responses → ℕ → Answer
table b a = pulled (nodes_of b) (computes b a) deepest

-- a good block's table solves it
pub table_solves : (b : Block) → IsRunnable b → (a : Responses) → Solves b a (table b a)
unfolding table
table_solves b good a = pulled_is_table (nodes_of b) good.good.ranked (computes b a)
