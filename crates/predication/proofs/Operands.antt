-- Operands: the words that constants and registers give.
use Rattle.std.proofs.Common.{◌≡◌, ℕ, zero, suc, ◌+◌, ◌*◌, ◌/◌, ◌%◌, ◌^◌, ◌<◌, List, [], ◌∷◌, length, refl}
use Rattle.std.proofs.Common.{ap, ◌∙◌, arith, nat_lt, Bool, true, false, mod-eq_of_lt}
use Rattle.std.specs.Prelude.{Option, Some, None, pos}
use Rattle.std.proofs.lemmas.Bool.Decides.{nat_tests}
use Rattle.trips_isa.specs.declared.op.Op.TheVariants as op
use Rattle.trips_isa.specs.declared.block.Token.TheVariants.{Word}
use Rattle.trips_isa.specs.declared.block.Stored.{Stored}
use Rattle.trips_isa.specs.Rule.{Answer}
use Rattle.trips_isa.specs.Tables.{or_else}
use Rattle.ir_forms.specs.declared.hyper.Source.{Source}
use Rattle.ir_forms.specs.declared.hyper.Source.TheVariants.{Const, Reg}
use Rattle.ir_forms.specs.declared.flow.FlowSource.TheVariants.{Node}
use Rattle.ir_forms.specs.declared.flow.FlowNode.{FlowNode}
use Rattle.ir_forms.specs.inside.HyperRuns.{value_of}
use Rattle.ir_forms.specs.inside.FlowRuns.{Computes, first, gives, meant}
use Rattle.predication.specs.inside.Environments.{Env}
use Rattle.predication.specs.inside.Operands.{constant_of, longer, chain, operand, second}
use Rattle.predication.proofs.Tables.{Live, Runs, runs_front, runs_back, read_sound}
use Rattle.trips_isa.specs.Alu.{word, alu_of}
use Rattle.ir_forms.specs.inside.HyperFits.{FitsSource}
use Rattle.predication.proofs.Ops.{Right}

-- the bound of the numbers that have d + 1 halves
abbrev pub below : ℕ → ℕ
below zero = 65536
below (suc d) = 65536 * below d

word_of : (w : ℕ) → w < 2 ^ 64 → word (pos w) ≡ w
word_of w l = omega (arith, mod-eq_of_lt l)

low_part : (w k : ℕ) → w < 65536 * k → w / 65536 < k
low_part w k l = omega (arith)

whole_again : (w : ℕ) → w < 2 ^ 64 → (w / 65536 * 65536 + w % 65536) % 2 ^ 64 ≡ w
whole_again w l = omega (arith)

module _ (regs : ℕ → ℕ) (h : ℕ → Answer) (f : Computes) (st : ℕ → Option Stored) (mem : List ℕ) where
  -- the nodes give what the state makes of them, and not the bits of a path
  abbrev pub Meant : Type 0
  Meant = (j : ℕ) (n : FlowNode) (a b : ℕ) → f j n a b ≡ meant st mem j n a b

  -- an answer is a word, and where the nodes give what they mean it is v
  pub record Gives (t : Answer) (v : ℕ) : Type 0 where
    pub word : ℕ
    pub gives : t ≡ Some (Word word)
    pub means : Meant → word ≡ v

  genu_gives : (j w : ℕ) → w < 65536 → Runs regs h f st j (constant_of op.Genu w [] ∷ []) → Gives (h j) w
  genu_gives j w l x = record {
    word = f j (constant_of op.Genu w []) 0 0;
    gives = x.0;
    means = λ m. m j
        (constant_of op.Genu w []) 0 0 ∙ word_of w (omega arith);
  }

  app_gives : (i j w : ℕ) → w < 2 ^ 64 → Gives (h i) (w / 65536)
      → Runs regs h f st j (constant_of op.App (w % 65536) (Node i ∷ []) ∷ []) → Gives (h j) w
  app_gives i j w l g x =
      let n = constant_of op.App (w % 65536) (Node i ∷ []) in
      let e : gives regs h (f j n) n ≡ Some (Word (f j n g.word 0)) = rw g.gives refl in
      record {
        word = f j n g.word 0;
        gives = x.0 ∙ e;
        means = λ m.
            m j n g.word 0 ∙ ap (λ (a : ℕ). alu_of op.App a (word (pos (w % 65536)))) (g.means m)
            ∙ ap (λ (b : ℕ). alu_of op.App (w / 65536) b) (word_of (w % 65536) (omega arith)) ∙ whole_again w l;
      }

  longer_gives : (b : Bool) (d j w : ℕ) → nat_lt w 65536 ≡ b → w < below (suc d) → w < 2 ^ 64
      → (w / 65536 < below d → Runs regs h f st j (chain d j (w / 65536)).nodes
      → Gives (h (chain d j (w / 65536)).last) (w / 65536))
      → Runs regs h f st j (longer b j w (chain d j (w / 65536))).nodes
      → Gives (h (longer b j w (chain d j (w / 65536))).last) w
  longer_gives true d j w e l l2 ih x = genu_gives j w (grind (arith, nat_tests)) x
  longer_gives false d j w e l l2 ih x =
      let c = chain d j (w / 65536) in
      let n = constant_of op.App (w % 65536) (Node c.last ∷ []) in
      app_gives c.last (j + length c.nodes) w l2 (ih (low_part w (below d) l)
      (runs_front regs h f st j c.nodes (n ∷ []) x)) (runs_back regs h f st j c.nodes (n ∷ []) x)

  pub chain_gives : (d j w : ℕ) → w < below d → w < 2 ^ 64 → Runs regs h f st j (chain d j w).nodes
      → Gives (h (chain d j w).last) w
  chain_gives zero j w l l2 x = genu_gives j w l x
  chain_gives (suc d) j w l l2 x = longer_gives (nat_lt w 65536) d j w refl l l2
      (λ l3 y. chain_gives d j (w / 65536) l3 (omega arith) y) x

  single_first : (t : Answer) (v : ℕ) → Gives t v → Gives (or_else t None) v
  single_first t v g = record { word = g.word; gives = rw g.gives refl; means = g.means }

  -- an operand gives a word
  pub operand_gives : (j : ℕ) (env : Env) (a : Source) (vals : ℕ → ℕ) → FitsSource a → Live regs h env vals
      → Runs regs h f st j (operand j env a).nodes
      → Gives (first regs h (operand j env a).sources) (value_of vals a)
  operand_gives j env (Const w) vals t l x = single_first (h (chain 3 j w).last) w (chain_gives 3 j w t t x)
  operand_gives j env (Reg r) vals t l x = record {
    word = vals r;
    gives = read_sound regs h f st j r (env r).given
        (env r).kept (vals r) (l r) x;
    means = λ m. refl;
  }

  -- the second operand
  pub record Second (taken : Bool) (r : Answer) (v : ℕ) : Type 0 where
    pub word : ℕ
    pub right : Right taken r word
    pub means : Meant → word ≡ v

  -- a second operand gives the word of its source
  pub second_gives : (b : Bool) (j : ℕ) (env : Env) (a : Source) (vals : ℕ → ℕ) → FitsSource a → Live regs h env vals
      → Runs regs h f st j (second b j env a).nodes
      → Second b (first regs h (second b j env a).sources) (value_of vals a)
  second_gives true j env a vals t l x =
      let g = operand_gives j env a vals t l x in
      record { word = g.word; right = record { there = λ e. g.gives; absent = λ e. absurd (cc) }; means = g.means }
  second_gives false j env a vals t l x =
      record {
        word = value_of vals a;
        right = record
            { there = λ e. absurd (cc); absent = λ e. refl };
        means = λ m. refl;
      }
