-- The nodes of operands and tests where nothing is guarded.
use Rattle.std.proofs.Common.{◌≡◌, ℕ, zero, suc, ◌+◌, ◌/◌, ◌%◌, ◌<◌, ◌≤◌, Bool, true, false, List, [], ◌∷◌, ◌++◌}
use Rattle.std.proofs.Common.{length, refl, sym, ap, subst, arith, length-append, ◌⊎◌, inl, inr, cond, nat_lt, nat_eq}
use Rattle.std.specs.Prelude.{Option, Some, None, pos, ◌||◌}
use Rattle.std.proofs.lemmas.Bool.Decides.{nat_tests}
use Rattle.trips_isa.specs.declared.op.Op.{Op}
use Rattle.trips_isa.specs.declared.op.Op.TheVariants as op
use Rattle.trips_isa.specs.Forms.{role_of}
use Rattle.block_cases.specs.Choosers.{is_copy}
use Rattle.ir_forms.specs.declared.hyper.Source.{Source}
use Rattle.ir_forms.specs.declared.hyper.Source.TheVariants.{Const, Reg}
use Rattle.ir_forms.specs.declared.flow.FlowSource.{FlowSource}
use Rattle.ir_forms.specs.declared.flow.FlowSource.TheVariants.{Read, Node}
use Rattle.ir_forms.specs.declared.flow.FlowNode.{FlowNode}
use Rattle.predication.specs.declared.work.Entry.{Entry}
use Rattle.predication.specs.inside.Environments.{Env, Bits, put, note, from_node}
use Rattle.predication.specs.inside.Converted.{reads_in}
use Rattle.predication.specs.inside.Operands.{Chain, Got, constant_of, longer, chain, read_of, operand, second}
use Rattle.predication.specs.inside.Operands.{is_test}
use Rattle.predication.specs.inside.Operands.{bit_of, is_move, bit_at, bit_set, test_of, fresh_test, test_by, tested}
use Rattle.c_compile_blocks.specs.inside.Costs.{apps, source_cost}
use Rattle.c_compile_blocks.proofs.Flat.{uses, times, node_uses, uses_append, named_once}
use Rattle.c_compile_blocks.proofs.Flat.{flat_append, used_append, price_append, read_append, Told, told_back}
use Rattle.c_compile_blocks.proofs.Flat.{Good, nothing, Piece, no_piece, grouped}

-- an operation whose word is a bit is no mov
pub test_no_copy : (o : Op) → is_test o ≡ true → is_copy (role_of o) ≡ false
test_no_copy op.Mov e = absurd (cc)
test_no_copy _ e = refl

-- ENTRIES

-- a register that an earlier node sets
abbrev pub IsSet : ℕ → Entry → Type 0
IsSet k e = (i : ℕ) × (i < k) × (e ≡ from_node i)

-- a register as the block found it
abbrev pub found : Entry
found = record { given = []; kept = None ∷ [] }

abbrev pub IsPlain : ℕ → Entry → Type 0
IsPlain k e = (e ≡ found) ⊎ IsSet k e

-- each register is as the block found it, or one earlier node sets it
abbrev pub ArePlain : ℕ → Env → Type 0
ArePlain k env = (r : ℕ) → IsPlain k (env r)

-- a register that an earlier node sets is set by an earlier node still at a later one
pub set_later : (j k : ℕ) (e : Entry) → j ≤ k → IsSet j e → IsSet k e
set_later j k e l (i, m, q) = (i, omega (arith, l, m), q)

plain_later : (j k : ℕ) (e : Entry) → j ≤ k → IsPlain j e → IsPlain k e
plain_later j k e l (inl q) = inl q
plain_later j k e l (inr s) = inr (set_later j k e l s)

-- registers that are plain at a node are so at a later one
pub plains_later : (j k : ℕ) (env : Env) → j ≤ k → ArePlain j env → ArePlain k env
plains_later j k env l p r = plain_later j k (env r) l (p r)

-- a node sets a register
pub put_plain : (j k : ℕ) (env : Env) (r : ℕ) → j ≤ k → ArePlain j env
    → ArePlain (suc k) (put env r (from_node k))
put_plain j k env r l p q = go (nat_eq q r)
  where
    go : (b : Bool) → IsPlain (suc k) (cond b (from_node k) (env q))
    go true = inr (k, omega arith, refl)
    go false = plain_later j (suc k) (env q) (omega (arith, l)) (p q)

-- a register that was set stays so, with one register more set by a node
pub put_kept : (j k : ℕ) (env : Env) (r q : ℕ) → j ≤ k → IsSet j (env q)
    → IsSet (suc k) (put env r (from_node k) q)
put_kept j k env r q l s = go (nat_eq q r)
  where
    go : (b : Bool) → IsSet (suc k) (cond b (from_node k) (env q))
    go true = (k, omega arith, refl)
    go false = set_later j (suc k) (env q) (omega (arith, l)) s

-- a register that a node sets is set
pub put_here : (k : ℕ) (env : Env) (r q : ℕ) → nat_eq q r ≡ true
    → IsSet (suc k) (put env r (from_node k) q)
put_here k env r q e = (k, omega arith, ap (λ (b : Bool). cond b (from_node k) (env q)) e)

-- BITS

-- each node that is a register's bit fulfils T
abbrev pub AreBits : (ℕ → Type 0) → Bits → Type 0
AreBits T bits = (r k : ℕ) → bits r ≡ Some k → T k

-- with one bit noted that fulfils T, all bits do
pub note_bits : (T : ℕ → Type 0) (bits : Bits) (r : ℕ) (c : Option ℕ) → AreBits T bits
    → ((k : ℕ) → c ≡ Some k → T k) → AreBits T (note bits r c)
note_bits T bits r c g x q k e = go (nat_eq q r) e
  where
    go : (b : Bool) → cond b c (bits q) ≡ Some k → T k
    go true z = x k z
    go false z = g q k z

pub bit_is : (T : ℕ → Type 0) (o : Op) (k i : ℕ) → (is_copy (role_of o) ≡ false → T k)
    → bit_of (is_test o) k ≡ Some i → T i
bit_is T o k i t e = go (is_test o) refl e
  where
    go : (b : Bool) → is_test o ≡ b → bit_of b k ≡ Some i → T i
    go true q z = let same : k ≡ i = cc in subst T same (t (test_no_copy o q))
    go false q z = absurd (cc)

copied_is : (T : ℕ → Type 0) (bits : Bits) (a : Source) (i : ℕ) → ((r k : ℕ) → bits r ≡ Some k → T k)
    → bit_at bits a ≡ Some i → T i
copied_is T bits (Const w) i b e = absurd (cc e)
copied_is T bits (Reg r) i b e = b r i e

-- the bit of a register that is set fulfils T where those before do, and its node does where it is no mov
pub set_is : (T : ℕ → Type 0) (o : Op) (bits : Bits) (a : Source) (k i : ℕ) → ((r k : ℕ) → bits r ≡ Some k → T k)
    → (is_copy (role_of o) ≡ false → T k) → bit_set o bits a k ≡ Some i → T i
set_is T o bits a k i b t e = go (is_move o) e
  where
    go : (m : Bool) → cond m (bit_at bits a) (bit_of (is_test o) k) ≡ Some i → T i
    go true z = copied_is T bits a i b z
    go false z = bit_is T o k i t z

-- OPERANDS

module _ (P : ℕ → Type 0) where
  genu_piece : (j w : ℕ) → Piece P true j (constant_of op.Genu w [] ∷ []) (Node j ∷ []) 1
  genu_piece j w = record {
    nodes = (record { guard = refl; left = λ e. absurd (cc); right = λ e. absurd (cc) }, tt);
    fed = λ t k l. omega (arith, l);
    used = λ l h. ((λ e. let a = h (Node j) in let b = named_once (Node j) in omega (arith, a, b)), tt);
    reads = ((λ q e. absurd (cc)), (λ q e. absurd (cc)), tt);
    named = λ q e. absurd (cc);
    cost = omega arith;
  }

  app_piece : (j w : ℕ) (c : Chain) (a : ℕ) → Piece P true j c.nodes (Node c.last ∷ []) a
      → Piece P true j (c.nodes ++ (constant_of op.App (w % 65536) (Node c.last ∷ []) ∷ []))
      (Node (j + length c.nodes) ∷ []) (suc a)
  app_piece j w c a x =
      let n = constant_of op.App (w % 65536) (Node c.last ∷ []) in
      let size = length-append c.nodes (n ∷ []) in
      let p = price_append c.nodes (n ∷ []) in
      let cx = x.cost in
      record {
        nodes = flat_append j c.nodes (n ∷ []) x.nodes (
          record {
            guard = refl;
            left = λ e. x.fed refl (j + length c.nodes) (omega arith);
            right = λ e. absurd
                (cc);
          },
          tt,
        );
        fed = λ t k l. omega (arith, l, size);
        used = λ l h.
            used_append l j c.nodes (n ∷ [])
            (x.used l (λ s.
            let b = h s in
            let u = uses_append s c.nodes (n ∷ []) in
            let v : uses s (n ∷ []) ≡ times s (Node c.last ∷ []) + (0 + 0) + 0 = node_uses s n [] in
            omega (arith, b, u, v))) (
              (λ e.
                  let b = h (Node (j + length c.nodes)) in
                  let d = named_once (Node (j + length c.nodes)) in
                  omega (arith, b, d)),
              tt,
            );
        reads = read_append P c.nodes (n ∷ []) x.reads ((λ q e. absurd (cc)), (λ q e. absurd (cc)), tt);
        named = λ q e. absurd (cc);
        cost = omega (arith, p, cx);
      }

  longer_piece : (b : Bool) (j w : ℕ) (c : Chain) (a : ℕ) → Piece P true j c.nodes (Node c.last ∷ []) (suc a)
      → Piece P true j (longer b j w c).nodes (Node (longer b j w c).last ∷ []) (suc (cond b 0 (suc a)))
  longer_piece true j w c a x = genu_piece j w
  longer_piece false j w c a x = app_piece j w c (suc a) x

  chain_piece : (d j w : ℕ)
      → Piece P true j (chain d j w).nodes (Node (chain d j w).last ∷ []) (suc (apps d w))
  chain_piece zero j w = genu_piece j w
  chain_piece (suc d) j w =
      longer_piece (nat_lt w 65536) j w (chain d j (w / 65536)) (apps d (w / 65536)) (chain_piece d j (w / 65536))

  -- a register that is read alone is the one that may be read
  pub read_named : (r q : ℕ) → P r → reads_in (Read r ∷ []) q ≡ true → P q
  read_named r q p e = go (nat_eq r q) refl e
    where
      go : (b : Bool) → nat_eq r q ≡ b → (b || false) ≡ true → P q
      go true z x = let same : r ≡ q = grind (arith, nat_tests) in subst P same p
      go false z x = absurd (cc)

  read_piece : (j r : ℕ) (e : Entry) → IsPlain j e → P r
      → Piece P true j (read_of j r e.given e.kept).nodes (read_of j r e.given e.kept).sources 1
  read_piece j r e (inl q) p =
      subst (λ (y : Entry). Piece P true j (read_of j r y.given y.kept).nodes
      (read_of j r y.given y.kept).sources 1) (sym q)
      (record {
        nodes = tt;
        fed = λ t k l. tt;
        used = λ l h. tt;
        reads = tt;
        named = λ x z. read_named r x p z;
        cost = omega arith;
      })
  read_piece j r e (inr (i, m, q)) p =
      subst (λ (y : Entry). Piece P true j (read_of j r y.given y.kept).nodes
      (read_of j r y.given y.kept).sources 1) (sym q)
      (record {
        nodes = tt;
        fed = λ t k l. omega (arith, m, l);
        used = λ l h. tt;
        reads = tt;
        named = λ x z. absurd (cc);
        cost = omega arith;
      })

  -- the register of an operand may be read
  abbrev pub Names : Source → Type 0
  Names (Const w) = Unit {0}
  Names (Reg r) = P r

  -- the nodes of an operand serve it, at the cost of its source
  pub operand_piece : (j : ℕ) (env : Env) (a : Source) → ArePlain j env → Names a
      → Piece P true j (operand j env a).nodes (operand j env a).sources (source_cost a)
  operand_piece j env (Const w) g p = chain_piece 3 j w
  operand_piece j env (Reg r) g p = read_piece j r (env r) (g r) p

  pub widened : (t : Bool) (j : ℕ) (ns : List FlowNode) (ss : List FlowSource) (c d : ℕ) → c ≤ d
      → Piece P t j ns ss c → Piece P t j ns ss d
  widened t j ns ss c d l x = record {
    nodes = x.nodes;
    fed = x.fed;
    used = x.used;
    reads = x.reads;
    named = x.named;
    cost = (let y = x.cost in omega (arith, y, l));
  }

  -- the nodes of a second operand serve it, at the cost of its source
  pub second_piece : (t : Bool) (j : ℕ) (env : Env) (a : Source) → ArePlain j env → Names a
      → Piece P t j (second t j env a).nodes (second t j env a).sources (source_cost a)
  second_piece true j env a g p = operand_piece j env a g p
  second_piece false j env a g p = widened false j [] [] 0 (source_cost a) (omega arith) (no_piece P j)

  -- TESTS

  -- the nodes of a test, and that its last is no mov
  pub record IsTested (T : ℕ → Type 0) (j : ℕ) (x : Chain) (c : ℕ) : Type 0 where
    pub good : Good P j x.nodes c
    pub test : T x.last

  fresh_tested : (T : ℕ → Type 0) (j : ℕ) (x : Got) (c : ℕ) → Piece P true j x.nodes x.sources c
      → Told T j (fresh_test None j x).nodes → IsTested T j (fresh_test None j x) (1 + c)
  fresh_tested T j x c p t =
      let g = grouped P j x.nodes [] x.sources [] c 0 0 false op.Tnei (pos 0) 0 [] p (no_piece P (j + length x.nodes))
      (λ e. absurd (cc)) (λ e. absurd (cc)) (nothing P (suc (j + length x.nodes + 0))) in
      let d = g.cost in
      record {
        good = record { nodes = g.nodes; used = g.used; reads = g.reads; cost = omega (arith, d) };
        test = (told_back T j x.nodes (test_of None x.sources ∷ []) t).0 refl;
      }

  by_tested : (T : ℕ → Type 0) (j : ℕ) (env : Env) (r : ℕ) (b : Option ℕ) → ArePlain j env → P r
      → ((k : ℕ) → b ≡ Some k → T k) → Told T j (test_by None j env r b).nodes
      → IsTested T j (test_by None j env r b) 2
  by_tested T j env r (Some k) g p x t = record {
    good = record { nodes = tt; used = tt; reads = tt; cost = omega arith };
    test = x k refl;
  }
  by_tested T j env r None g p x t =
      fresh_tested T j (operand j env (Reg r)) 1 (operand_piece j env (Reg r) g p) t

  -- the nodes of a test cost one more than its source, and its last is no mov
  pub tested_is : (T : ℕ → Type 0) (j : ℕ) (env : Env) (bits : Bits) (a : Source) → ArePlain j env
      → AreBits T bits → Names a → Told T j (tested None j env bits a).nodes
      → IsTested T j (tested None j env bits a) (1 + source_cost a)
  tested_is T j env bits (Const w) g b p t =
      fresh_tested T j (operand j env (Const w)) (suc (apps 3 w)) (operand_piece j env (Const w) g p) t
  tested_is T j env bits (Reg r) g b p t = by_tested T j env r (bits r) g p (b r) t
