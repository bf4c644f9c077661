-- Where a guard is met: the bits of registers, and a test's node decides as the tested word does.
use Rattle.std.proofs.Common.{◌≡◌, ℕ, zero, suc, ◌+◌, ◌^◌, ◌<◌, List, [], ◌∷◌, length, refl, sym, ap, subst, ◌∙◌}
use Rattle.std.proofs.Common.{arith, cond, nat_eq, Bool, true, false, not}
use Rattle.std.specs.Prelude.{Option, Some, None}
use Rattle.std.proofs.lemmas.Bool.Decides.{nat_tests}
use Rattle.trips_isa.specs.declared.op.Op.{Op}
use Rattle.trips_isa.specs.declared.op.Op.TheVariants as op
use Rattle.trips_isa.specs.declared.block.Token.TheVariants.{Word}
use Rattle.trips_isa.specs.declared.block.Stored.{Stored}
use Rattle.trips_isa.specs.Forms.{role_of}
use Rattle.trips_isa.specs.Rule.{Answer, if_matched, low}
use Rattle.trips_isa.specs.Rule as rule
use Rattle.ir_forms.specs.declared.hyper.Source.{Source}
use Rattle.ir_forms.specs.declared.hyper.Source.TheVariants.{Const, Reg}
use Rattle.trips_isa.specs.inside.Acts.{Act}
use Rattle.ir_forms.specs.inside.HyperRuns.{register_put, value_of, Machine, after_items, acts, pick}
use Rattle.ir_forms.specs.inside.FlowRuns.{Computes, first, met, fired}
use Rattle.predication.specs.inside.Environments.{Scope, Env, Bits, under, no_bits, left_bits, note, member}
use Rattle.predication.specs.inside.Operands.{Got, operand, bit_of, is_test, is_move, bit_at, bit_set, fresh_test}
use Rattle.predication.specs.inside.Operands.{test_by, tested, test_of}
use Rattle.predication.specs.inside.Ifs.{Out, items, touched}
use Rattle.ir_forms.specs.inside.HyperCode.{Items}
use Rattle.ir_forms.specs.inside.HyperFits.{FitsSource}
use Rattle.predication.proofs.Tables.{Live, Calm, Runs, runs_front, runs_back}
use Rattle.predication.proofs.Memory.{Holds}
use Rattle.predication.proofs.WordLemmas.{Words}
use Rattle.predication.proofs.Operands.{Meant, Gives, operand_gives}
use Rattle.predication.proofs.BitLemmas.{bit_left}
use Rattle.trips_isa.specs.Alu.{alu_of}

-- a number is not 0
abbrev pub nonzero : ℕ → Bool
nonzero zero = false
nonzero (suc n) = true

pub pick_by : {A : Type 0} (v : ℕ) (a b : A) → pick v a b ≡ cond (nonzero v) a b
pick_by zero a b = refl
pick_by (suc v) a b = refl

-- a word that is not 0 picks the first
pub pick_yea : {A : Type 0} (v : ℕ) (a b : A) → nonzero v ≡ true → pick v a b ≡ a
pick_yea v a b e = pick_by v a b ∙ rw e refl

-- the word 0 picks the second
pub pick_nay : {A : Type 0} (v : ℕ) (a b : A) → nonzero v ≡ false → pick v a b ≡ b
pick_nay v a b e = pick_by v a b ∙ rw e refl

low_test : (v : ℕ) → low (alu_of op.Tnei v 0) ≡ nonzero v
low_test zero = refl
low_test (suc v) = let e : nat_eq (suc v) 0 ≡ false = grind (arith, nat_tests) in rw e refl

low_bit : (v : ℕ) → v < 2 → low v ≡ nonzero v
low_bit zero l = refl
low_bit (suc zero) l = refl
low_bit (suc (suc v)) l = absurd (omega arith)

-- what a source stands for is a word
pub value_word : (vals : ℕ → ℕ) (a : Source) → ((r : ℕ) → vals r < 2 ^ 64) → FitsSource a → value_of vals a < 2 ^ 64
value_word vals (Const w) b t = t
value_word vals (Reg r) b t = b r

-- registers stay words where one gets a word
pub put_word : (vals : ℕ → ℕ) (r v : ℕ) → ((q : ℕ) → vals q < 2 ^ 64) → v < 2 ^ 64 → (q : ℕ)
    → register_put vals r v q < 2 ^ 64
put_word vals r v b l q = go (nat_eq q r)
  where
    go : (t : Bool) → cond t v (vals q) < 2 ^ 64
    go true = l
    go false = b q

module _ (regs : ℕ → ℕ) (h : ℕ → Answer) (f : Computes) (st : ℕ → Option Stored) (mem : List ℕ) where
  -- what the nodes are to the items from s, if they give what the state makes of them
  pub record Means (o : Out) (s after : Machine) (is : Items) : Type 0 where
    pub same : after ≡ after_items is s
    pub memory : Holds st mem o.number after.memory
    pub acts : fired regs h o.nodes ≡ acts is s
    pub words : Words after

  -- the nodes of bits give the registers' words, which are 0 or 1
  pub record BitIs (k v : ℕ) : Type 0 where
    pub word : ℕ
    pub gives : h k ≡ Some (Word word)
    pub means : Meant regs h f st mem → (word ≡ v) × (v < 2)

  -- each register with a bit has the bit of its word
  abbrev pub BitsAre : Bits → (ℕ → ℕ) → Type 0
  BitsAre bits vals = (r k : ℕ) → bits r ≡ Some k → BitIs k (vals r)

  -- g is met; s.registers are the registers' words before, and after.registers those after
  pub record On (g : Scope) (j m : ℕ) (env : Env) (bits : Bits) (is : Items) (s : Machine) : Type 0 where
    pub after : Machine
    pub live : Live regs h (items g j m env bits is).env after.registers
    pub calm : Calm regs h (items g j m env bits is).nodes
    pub bit : BitsAre (items g j m env bits is).bits after.registers
    pub kept : (q : ℕ) → member q (touched is) ≡ false → after.registers q ≡ s.registers q
    pub means : Meant regs h f st mem → Words s → Holds st mem m s.memory → Means (items g j m env bits is) s after is

  -- a table without bits has the right ones
  pub no_bit : (vals : ℕ → ℕ) → BitsAre no_bits vals
  no_bit vals r k e = absurd (cc)

  note_case : (b : Bool) (c d : Option ℕ) (k v w : ℕ) → (c ≡ Some k → BitIs k v) → (d ≡ Some k → BitIs k w)
      → cond b c d ≡ Some k → BitIs k (cond b v w)
  note_case true c d k v w x y e = x e
  note_case false c d k v w x y e = y e

  -- bits stay right where a register gets a word and the bit of this word
  pub note_are : (bits : Bits) (vals : ℕ → ℕ) (r v : ℕ) (c : Option ℕ) → ((k : ℕ) → c ≡ Some k → BitIs k v)
      → BitsAre bits vals → BitsAre (note bits r c) (register_put vals r v)
  note_are bits vals r v c x a q k e = note_case (nat_eq q r) c (bits q) k v (vals q) (x k) (a q k) e

  bit_is : (b : Bool) (k i v : ℕ) → h k ≡ Some (Word v) → (b ≡ true → Meant regs h f st mem → v < 2) → bit_of b k
      ≡ Some i → BitIs i v
  bit_is true k i v e l z = let same : k ≡ i = cc in record
      { word = v; gives = subst (λ (n : ℕ). h n ≡ Some (Word v)) same e; means = λ m. (refl, l refl m) }
  bit_is false k i v e l z = absurd (cc)

  -- a copied word keeps its bit
  copied_is : (bits : Bits) (vals : ℕ → ℕ) (a : Source) (i v : ℕ) → (Meant regs h f st mem → v ≡ value_of vals a)
      → BitsAre bits vals → bit_at bits a ≡ Some i → BitIs i v
  copied_is bits vals (Const w) i v c bs z = absurd (cc z)
  copied_is bits vals (Reg r) i v c bs z =
      let b = bs r i z in
      record {
        word = b.word;
        gives = b.gives;
        means = λ m.
            let q = b.means m in
            let e : v ≡ vals r = c m in
            (q.0 ∙ sym e, subst (λ (x : ℕ). x < 2) (sym e) q.1);
      }

  -- the bit that an operation sets is the bit of its word
  pub set_is : (o : Op) (bits : Bits) (vals : ℕ → ℕ) (a : Source) (k i v : ℕ) → h k ≡ Some (Word v)
      → (is_test o ≡ true → Meant regs h f st mem → v < 2)
      → (is_move o ≡ true → Meant regs h f st mem → v ≡ value_of vals a)
      → BitsAre bits vals → bit_set o bits a k ≡ Some i → BitIs i v
  set_is o bits vals a k i v e l c bs z = either (is_move o) c z
    where
      either : (b : Bool) → (b ≡ true → Meant regs h f st mem → v ≡ value_of vals a)
          → cond b (bit_at bits a) (bit_of (is_test o) k) ≡ Some i → BitIs i v
      either true c z = copied_is bits vals a i v (c refl) bs z
      either false c z = bit_is (is_test o) k i v e l z

  -- a register that is not set keeps its word
  pub kept_put : (b c : Bool) (x v y : ℕ) → cond b true c ≡ false → (c ≡ false → x ≡ cond b v y) → x ≡ y
  kept_put true c x v y e g = absurd (cc e)
  kept_put false c x v y e g = g e

  -- behind an if whose legs kept their words
  pub bits_behind : (bits : Bits) (vals vals2 : ℕ → ℕ) (rs : List ℕ)
      → ((q : ℕ) → member q rs ≡ false → vals2 q ≡ vals q) → BitsAre bits vals → BitsAre (left_bits bits rs) vals2
  bits_behind bits vals vals2 rs same bs q k e =
      let z = bit_left rs bits q k e in
      subst (λ (v : ℕ). BitIs k v) (sym (same q z.0)) (bs q k z.1)

  -- a node whose guard is met has the token that it gives
  pub met_node : (g : Scope) (t u : Answer) → met h g ≡ true → t ≡ if_matched (met h g) u → t ≡ u
  met_node g t u m e = let e2 : if_matched (met h g) u ≡ u = rw m refl in e ∙ e2

  -- a node whose guard is met stores what it stores
  pub met_store : (g : Scope) (t u : Option Stored) → met h g ≡ true → t ≡ cond (met h g) u None → t ≡ u
  met_store g t u m e = let e2 : cond (met h g) u None ≡ u = rw m refl in e ∙ e2

  -- a node whose guard is met does its acts
  pub met_acts : (g : Scope) (a : List Act) → met h g ≡ true → cond (met h g) a [] ≡ a
  met_acts g a m = rw m refl

  -- TESTS

  -- a node's low bit decides as the word does
  pub record Decides (k v : ℕ) : Type 0 where
    pub word : ℕ
    pub gives : h k ≡ Some (Word word)
    pub means : Meant regs h f st mem → low word ≡ nonzero v

  fresh_decides : (g : Scope) (j : ℕ) (x : Got) (v : ℕ) → met h g ≡ true → Runs regs h f st j (fresh_test g j x).nodes
      → Gives regs h f st mem (first regs h x.sources) v → Decides (fresh_test g j x).last v
  fresh_decides g j x v u y w =
      let n = test_of g x.sources in
      let k = j + length x.nodes in
      let e : rule.gives (role_of op.Tnei) (f k n) (first regs h x.sources) None ≡ Some (Word (f k n w.word 0)) =
      rw w.gives refl in
      record {
        word = f k n w.word 0;
        gives = met_node g (h k) _ u (runs_back regs h f st j x.nodes (n ∷ []) y).0 ∙ e;
        means = λ m. ap low (m k n w.word 0) ∙ low_test w.word ∙ ap nonzero (w.means m);
      }

  operand_decides : (g : Scope) (j : ℕ) (env : Env) (t : Source) (vals : ℕ → ℕ) → FitsSource t → met h g ≡ true
      → Live regs h env vals
      → Runs regs h f st j (fresh_test g j (operand j env t)).nodes
      → Decides (fresh_test g j (operand j env t)).last (value_of vals t)
  operand_decides g j env t vals tk u l y =
      fresh_decides g j (operand j env t) (value_of vals t) u y
      (operand_gives regs h f st mem j env t vals tk l
      (runs_front regs h f st j (operand j env t).nodes (test_of g (operand j env t).sources ∷ []) y))

  test_decides : (g : Scope) (j : ℕ) (env : Env) (r : ℕ) (b : Option ℕ) (vals : ℕ → ℕ) → r < 128 → met h g ≡ true
      → Live regs h env vals → ((k : ℕ) → b ≡ Some k → BitIs k (vals r))
      → Runs regs h f st j (test_by g j env r b).nodes → Decides (test_by g j env r b).last (vals r)
  test_decides g j env r None vals tk u l a y = operand_decides g j env (Reg r) vals tk u l y
  test_decides g j env r (Some k) vals tk u l a y = let b =
      a k refl in record
      { word = b.word; gives = b.gives; means = λ m. ap low (b.means m).0 ∙ low_bit (vals r) (b.means m).1 }

  -- the node of a test decides as the tested word does
  pub tested_decides : (g : Scope) (j : ℕ) (env : Env) (bits : Bits) (t : Source) (vals : ℕ → ℕ) → FitsSource t
      → met h g ≡ true → Live regs h env vals → BitsAre bits vals
      → Runs regs h f st j (tested g j env bits t).nodes → Decides (tested g j env bits t).last (value_of vals t)
  tested_decides g j env bits (Const w) vals tk u l a y = operand_decides g j env (Const w) vals tk u l y
  tested_decides g j env bits (Reg r) vals tk u l a y = test_decides g j env r (bits r) vals tk u l (a r) y

  -- where the node of a test has a word, its low bit says which leg is met
  pub test_met : (k : ℕ) (w : ℕ) (b : Bool) → h k ≡ Some (Word w) → low w ≡ b
      → (met h (under k true) ≡ b) × (met h (under k false) ≡ not b)
  test_met k w b e o = (rw e o, rw e (ap not o))
