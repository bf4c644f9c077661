-- The operands that registers as the block found them and constants come to are surely there.
use Rattle.std.proofs.Common.{◌≡◌, ℕ, zero, suc, ◌+◌, ◌/◌, ◌%◌, ◌≤◌, Bool, true, false, List, [], ◌∷◌, ◌++◌}
use Rattle.std.proofs.Common.{length, refl, ap, subst, ◌∙◌, arith, length-append, nat_lt}
use Rattle.std.specs.Prelude.{Some, None, slice_get}
use Rattle.trips_isa.specs.declared.op.Op.TheVariants as op
use Rattle.trips_isa.specs.declared.form.Form.TheVariants as form
use Rattle.trips_isa.specs.Forms.{form_of}
use Rattle.ir_forms.specs.declared.hyper.Source.{Source}
use Rattle.ir_forms.specs.declared.hyper.Source.TheVariants.{Const, Reg}
use Rattle.ir_forms.specs.declared.flow.FlowSource.{FlowSource}
use Rattle.ir_forms.specs.declared.flow.FlowSource.TheVariants.{Node}
use Rattle.ir_forms.specs.declared.flow.FlowNode.{FlowNode}
use Rattle.predication.specs.inside.Environments.{Scope, at_start}
use Rattle.predication.specs.inside.Operands.{Chain, constant_of, longer, chain, operand}
use Rattle.c_compile_blocks.proofs.Firmness.{IsThere, IsBare, read_there, bare_there, AreFirm, firm_append}

-- no node is a store
abbrev pub NoStores : List FlowNode → Type 0
NoStores [] = Unit {0}
NoStores (n ∷ ns) = (form_of n.op ≡ form.Store → ⊥) × NoStores ns

pub stores_append : (a b : List FlowNode) → NoStores a → NoStores b → NoStores (a ++ b)
stores_append [] b x y = y
stores_append (n ∷ a) b x y = (x.0, stores_append a b x.1 y)

module _ (all : List FlowNode) where
  -- nodes of the whole list, the first of which is node j
  abbrev pub AreAt : ℕ → List FlowNode → Type 0
  AreAt j [] = Unit {0}
  AreAt j (n ∷ ns) = (slice_get all j ≡ Some n) × AreAt (suc j) ns

  -- Where a list of nodes and one behind it stand in the block, the first does.
  pub at_front : (j : ℕ) (a b : List FlowNode) → AreAt j (a ++ b) → AreAt j a
  at_front j [] b x = tt
  at_front j (n ∷ a) b x = (x.0, at_front (suc j) a b x.1)

  -- Where a list of nodes and one behind it stand in the block, the second does, behind the first.
  pub at_back : (j : ℕ) (a b : List FlowNode) → AreAt j (a ++ b) → AreAt (j + length a) b
  at_back j [] b x = let e : j ≡ j + 0 = omega arith in subst (λ (i : ℕ). AreAt i b) e x
  at_back j (n ∷ a) b x =
      let e : suc j + length a ≡ j + length (n ∷ a) = omega arith in
      subst (λ (i : ℕ). AreAt i b) e (at_back (suc j) a b x.1)

  at_from : (ns : List FlowNode) (j : ℕ)
      → ((i k : ℕ) (n : FlowNode) → k ≡ j + i → slice_get ns i ≡ Some n → slice_get all k ≡ Some n)
      → AreAt j ns
  at_from [] j f = tt
  at_from (n ∷ ns) j f =
      (f 0 j n (omega arith) refl, at_from ns (suc j) (λ i k m q e. f (suc i) k m (omega (arith, q)) e))

  -- nodes, and a list that is there behind them under each scope where t is true
  pub record IsSupplied (t : Bool) (j : ℕ) (ns : List FlowNode) (ss : List FlowSource) : Type 0 where
    pub nodes : AreFirm all j ns
    pub silent : NoStores ns
    pub sources : t ≡ true → (k : ℕ) (g : Scope) → j + length ns ≤ k → IsThere all k g ss

  genu_supplied : (j w : ℕ) → IsBare all j → IsSupplied true j (constant_of op.Genu w [] ∷ []) (Node j ∷ [])
  genu_supplied j w b = record {
    nodes = (record { left = λ e. absurd (cc); right = λ e. absurd (cc) }, tt);
    silent = ((λ e. absurd (cc)), tt);
    sources = λ e k g l. bare_there all j k g [] (omega (arith, l)) b;
  }

  app_supplied : (j w : ℕ) (c : Chain) → IsSupplied true j c.nodes (Node c.last ∷ [])
      → IsBare all (j + length c.nodes)
      → IsSupplied true j (c.nodes ++ (constant_of op.App (w % 65536) (Node c.last ∷ []) ∷ []))
      (Node (j + length c.nodes) ∷ [])
  app_supplied j w c x b =
      let n = constant_of op.App (w % 65536) (Node c.last ∷ []) in
      let size = length-append c.nodes (n ∷ []) in
      record {
        nodes = firm_append all j c.nodes (n ∷ []) x.nodes (
          record {
            left = λ e. x.sources refl (j + length c.nodes) None (omega arith);
            right = λ e. absurd (cc);
          },
          tt,
        );
        silent = stores_append c.nodes (n ∷ []) x.silent ((λ e. absurd (cc)), tt);
        sources = λ e k g l. bare_there all (j + length c.nodes) k g [] (omega (arith, l, size)) b;
      }

  longer_supplied : (t : Bool) (j w : ℕ) (c : Chain) → AreAt j (longer t j w c).nodes
      → (AreAt j c.nodes → IsSupplied true j c.nodes (Node c.last ∷ []))
      → IsSupplied true j (longer t j w c).nodes (Node (longer t j w c).last ∷ [])
  longer_supplied true j w c b f = genu_supplied j w (constant_of op.Genu w [], b.0, refl)
  longer_supplied false j w c b f =
      let n = constant_of op.App (w % 65536) (Node c.last ∷ []) in
      let last = at_back j c.nodes (n ∷ []) b in
      app_supplied j w c (f (at_front j c.nodes (n ∷ []) b)) (n, last.0, refl)

  chain_supplied : (d j w : ℕ) → AreAt j (chain d j w).nodes
      → IsSupplied true j (chain d j w).nodes (Node (chain d j w).last ∷ [])
  chain_supplied zero j w b = genu_supplied j w (constant_of op.Genu w [], b.0, refl)
  chain_supplied (suc d) j w b =
      longer_supplied (nat_lt w 65536) j w (chain d j (w / 65536)) b (λ x. chain_supplied d j (w / 65536) x)

  -- an operand that a register as found or a constant comes to is surely there
  pub operand_supplied : (j : ℕ) (a : Source) → AreAt j (operand j at_start a).nodes
      → IsSupplied true j (operand j at_start a).nodes (operand j at_start a).sources
  operand_supplied j (Const w) b = chain_supplied 3 j w b
  operand_supplied j (Reg r) b = record {
    nodes = tt;
    silent = tt;
    sources = λ e k g l. read_there all k g r [];
  }

-- the nodes of a list are those of the whole list from node 0 on
pub at_all : (ns : List FlowNode) → AreAt ns 0 ns
at_all ns = at_from ns ns 0 (λ i k n q e. let at : k ≡ i = omega (arith, q) in ap (slice_get ns) at ∙ e)
