-- What the operands of a block of one test come to: their sources are surely there under the scope.
use Rattle.std.proofs.Common.{◌≡◌, ℕ, ◌<◌, ◌≤◌, Bool, true, false, not, ◌||◌, List, [], ◌∷◌, ◌++◌}
use Rattle.std.proofs.Common.{refl, sym, ap, ap₂, subst, ◌∙◌, arith, inl, inr}
use Rattle.std.specs.Prelude.{None}
use Rattle.ir_forms.specs.declared.hyper.Source.{Source}
use Rattle.ir_forms.specs.declared.hyper.Source.TheVariants.{Const, Reg}
use Rattle.ir_forms.specs.declared.flow.FlowSource.{FlowSource}
use Rattle.ir_forms.specs.declared.flow.FlowSource.TheVariants.{Read, Node}
use Rattle.ir_forms.specs.declared.flow.FlowNode.{FlowNode}
use Rattle.predication.specs.declared.work.Entry.{Entry}
use Rattle.predication.specs.inside.Environments.{Scope, Env, at_start, under, both}
use Rattle.predication.specs.inside.Operands.{mov_of, read_of, operand, second}
use Rattle.null_outputs.specs.inside.Surely.{Firm, same_scope, has, scope_of, scopes, sure_of}
use Rattle.null_outputs.specs.inside.Surely as surely
use Rattle.null_outputs.proofs.Recognised.{recognises_scope, recognises_both, has_scope}
use Rattle.c_compile_blocks.specs.inside.Costs.{source_cost}
use Rattle.c_compile_blocks.proofs.Pieces.{ArePlain, Names, operand_piece, read_named}
use Rattle.c_compile_blocks.proofs.Flat.{Piece}
use Rattle.c_compile_blocks.proofs.Cheap.{source_most}
use Rattle.c_compile_blocks.proofs.Firmness.{IsThere, read_there, bare_there}
use Rattle.c_compile_blocks.proofs.Supplies.{AreAt, IsSupplied, operand_supplied}
use Rattle.c_compile_blocks.proofs.OneGuard.{under_by, none_saved, flat_by, IsServed}
use Rattle.c_compile_blocks.proofs.Entries.{IsUnder, IsSide, IsMerged, IsKnown, under_later}

-- SCOPES

or_right : (a b : Bool) → b ≡ true → (a || b) ≡ true
or_right true b e = refl
or_right false b e = e

has_back : (s t : List surely.Scope) (g : Scope) → has t g ≡ true → has (s ++ t) g ≡ true
has_back [] t g e = e
has_back (k ∷ s) t g e = or_right (same_scope k g) (has (s ++ t) g) (has_back s t g e)

module _ (all : List FlowNode) where
  -- a node of the scope is there under it
  pub own_there : (i k : ℕ) (g : Scope) (ss : List FlowSource) → i < k → IsUnder all k g i
      → IsThere all k g (Node i ∷ ss)
  own_there i k g ss m (n, e, z, l) firm f =
      recognises_scope all firm g (Node i ∷ ss)
      (ap (has (scopes all firm (Node i ∷ ss))) (sym z) ∙ has_scope all firm i n ss e (f i m))

  first_has : (firm : Firm) (k i : ℕ) (g : Scope) (ss : List FlowSource)
      → ((x : ℕ) → x < k → firm x ≡ true) → IsUnder all k g i → has (scopes all firm (Node i ∷ ss)) g ≡ true
  first_has firm k i g ss ok (n, e, h, l) =
      ap (has (scopes all firm (Node i ∷ ss))) (sym h) ∙ has_scope all firm i n ss e (ok i l)

  second_has : (firm : Firm) (k i j : ℕ) (g : Scope) → ((x : ℕ) → x < k → firm x ≡ true) → IsUnder all k g j
      → has (scopes all firm (Node i ∷ Node j ∷ [])) g ≡ true
  second_has firm k i j g ok u =
      has_back (scope_of all firm (Node i)) (scopes all firm (Node j ∷ [])) g (first_has firm k j g [] ok u)

  -- nodes of both legs are together always there
  pair_there : (c : ℕ) (s : Bool) (k i j : ℕ) → IsUnder all k None c → IsUnder all k (under c s) i
      → IsUnder all k (under c (not s)) j → IsThere all k None (Node i ∷ Node j ∷ [])
  pair_there c true k i j (test, at, bare, l) u v firm ok =
      ap (λ (o : Scope). sure_of all firm o (Node i ∷ Node j ∷ [])) (sym bare)
      ∙ recognises_both all firm c test (Node i ∷ Node j ∷ []) at (ok c l)
      (first_has firm k i (under c true) (Node j ∷ []) ok u) (second_has firm k i j (under c false) ok v)
  pair_there c false k i j (test, at, bare, l) u v firm ok =
      ap (λ (o : Scope). sure_of all firm o (Node i ∷ Node j ∷ [])) (sym bare)
      ∙ recognises_both all firm c test (Node i ∷ Node j ∷ []) at (ok c l)
      (second_has firm k i j (under c true) ok v) (first_has firm k i (under c false) (Node j ∷ []) ok u)

found_plain : (j : ℕ) → ArePlain j at_start
found_plain j r = inl refl

module _ (P : ℕ → Type 0) (all : List FlowNode) (c : ℕ) where
  -- CONSTANTS

  served_flat : (t : Bool) (g : Scope) (j : ℕ) (ns : List FlowNode) (ss : List FlowSource) (k l : ℕ) → k ≤ l
      → Piece P t j ns ss k → IsSupplied all t j ns ss → IsServed P all c t g j ns ss l
  served_flat t g j ns ss k l m x y = record {
    guards = flat_by P all c j ns x.nodes;
    firm = y.nodes;
    used = x.used;
    reads = x.reads;
    named = x.named;
    silent = none_saved ns y.silent;
    cost = (let z = x.cost in omega (arith, z, m));
    there = λ e i z. y.sources e i g z;
  }

  -- no nodes serve no sources
  pub none_served : (g : Scope) (j k : ℕ) → IsServed P all c false g j [] [] k
  none_served g j k = record {
    guards = tt;
    firm = tt;
    used = λ l h. tt;
    reads = tt;
    named = λ q e. absurd (cc);
    silent = refl;
    cost = omega arith;
    there = λ e i l. absurd (cc);
  }

  const_served : (g : Scope) (j w : ℕ) → AreAt all j (operand j at_start (Const w)).nodes
      → IsServed P all c true g j (operand j at_start (Const w)).nodes (operand j at_start (Const w)).sources 5
  const_served g j w a =
      let x = operand j at_start (Const w) in
      let m = source_most (Const w) in
      served_flat true g j x.nodes x.sources (source_cost (Const w)) 5 (omega (arith, m))
      (operand_piece P j at_start (Const w) (found_plain j) tt) (operand_supplied all j (Const w) a)

  -- REGISTERS

  -- what an entry comes to
  abbrev Serves : Scope → ℕ → ℕ → Entry → Type 0
  Serves g j r e =
      AreAt all j (read_of j r e.given e.kept).nodes
      → IsServed P all c true g j (read_of j r e.given e.kept).nodes (read_of j r e.given e.kept).sources 5

  -- as the block found it
  read_serves : (g : Scope) (j r : ℕ) → P r → IsServed P all c true g j [] (Read r ∷ []) 5
  read_serves g j r p = record {
    guards = tt;
    firm = tt;
    used = λ l h. tt;
    reads = tt;
    named = λ q d. read_named P r q p d;
    silent = refl;
    cost = omega arith;
    there = λ e i l. read_there all i g r [];
  }

  -- from one node
  node_serves : (g : Scope) (j i : ℕ) → ((k : ℕ) → j ≤ k → IsThere all k g (Node i ∷ []))
      → IsServed P all c true g j [] (Node i ∷ []) 5
  node_serves g j i f = record {
    guards = tt;
    firm = tt;
    used = λ l h. tt;
    reads = tt;
    named = λ q d. absurd (cc);
    silent = refl;
    cost = omega arith;
    there = λ e k l. f k (omega (arith, l));
  }

  bare_serves : (g : Scope) (j i : ℕ) → IsUnder all j None i → IsServed P all c true g j [] (Node i ∷ []) 5
  bare_serves g j i (n, e, z, l) =
      node_serves g j i (λ k m. bare_there all i k g [] (omega (arith, l, m)) (n, e, z))

  scope_serves : (g : Scope) (j i : ℕ) → IsUnder all j g i → IsServed P all c true g j [] (Node i ∷ []) 5
  scope_serves g j i (n, e, z, l) =
      node_serves g j i
      (λ k m. own_there all i k g [] (omega (arith, l, m)) (n, e, z, omega (arith, l, m)))

  -- from both legs
  pair_serves : (j i k : ℕ) (s : Bool) → IsUnder all j None c → IsUnder all j (under c s) i
      → IsUnder all j (under c (not s)) k → IsServed P all c true None j [] (Node i ∷ Node k ∷ []) 5
  pair_serves j i k s t u v = record {
    guards = tt;
    firm = tt;
    used = λ l h. tt;
    reads = tt;
    named = λ q d. absurd (cc);
    silent = refl;
    cost = omega arith;
    there = λ e x l.
        let m : j ≤ x = omega (arith, l) in
        pair_there all c s x i k (under_later all j x None c m t) (under_later all j x (under c s) i m u)
        (under_later all j x (under c (not s)) k m v);
  }

  -- the old word in the other leg
  abbrev keep : Bool → ℕ → FlowNode
  keep s r = mov_of (under c s) (Read r ∷ [])

  -- from one leg, and as the block found it in the other
  kept_serves : (j r i : ℕ) (s : Bool) → P r → IsUnder all j None c → IsUnder all j (under c s) i
      → AreAt all j (keep (not s) r ∷ [])
      → IsServed P all c true None j (keep (not s) r ∷ []) (Node i ∷ Node j ∷ []) 5
  kept_serves j r i s p t u a = record {
    guards = (under_by c (not s), tt);
    firm = (record { left = λ d. read_there all j (under c (not s)) r []; right = λ d. absurd (cc) }, tt);
    used = λ l h. ((λ d. absurd (cc)), tt);
    reads = ((λ q d. read_named P r q p d), (λ q d. absurd (cc)), tt);
    named = λ q d. absurd (cc);
    silent = refl;
    cost = omega arith;
    there = λ e x l.
        let m : j ≤ x = omega (arith, l) in
        pair_there all c s x i j (under_later all j x None c m t) (under_later all j x (under c s) i m u)
        (keep (not s) r, a.0, refl, omega (arith, l));
  }

  sides_serve : (j r : ℕ) (a b : Entry) → P r → IsUnder all j None c → IsSide all j (under c true) a
      → IsSide all j (under c false) b → Serves None j r (both a b)
  sides_serve j r a b p t (inl (i, u, x)) (inl (k, v, y)) =
      subst (Serves None j r) (ap₂ both (sym x) (sym y)) (λ h. pair_serves j i k true t u v)
  sides_serve j r a b p t (inl (i, u, x)) (inr y) =
      subst (Serves None j r) (ap₂ both (sym x) (sym y)) (λ h. kept_serves j r i true p t u h)
  sides_serve j r a b p t (inr x) (inl (k, v, y)) =
      subst (Serves None j r) (ap₂ both (sym x) (sym y)) (λ h. kept_serves j r k false p t v h)
  sides_serve j r a b p t (inr x) (inr y) =
      subst (Serves None j r) (ap₂ both (sym x) (sym y)) (λ h. read_serves None j r p)

  merged_serves : (j r : ℕ) (e : Entry) → P r → IsMerged all j c e → Serves None j r e
  merged_serves j r e p (a, b, t, x, y, z) = subst (Serves None j r) (sym z) (sides_serve j r a b p t x y)

  register_served : (m : Bool) (g : Scope) (j r : ℕ) (e : Entry) → P r → IsKnown all c m j g e → Serves g j r e
  register_served m g j r e p (inl (inl x)) = subst (Serves g j r) (sym x) (λ h. read_serves g j r p)
  register_served m g j r e p (inl (inr (inl (i, u, x)))) =
      subst (Serves g j r) (sym x) (λ h. bare_serves g j i u)
  register_served m g j r e p (inl (inr (inr (i, u, x)))) =
      subst (Serves g j r) (sym x) (λ h. scope_serves g j i u)
  register_served m g j r e p (inr (t, z, x)) =
      subst (λ (k : Scope). Serves k j r e) (sym z) (merged_serves j r e p x)

  -- OPERANDS

  -- the nodes of an operand serve it under the scope, at a cost of five
  pub operand_served : (m : Bool) (g : Scope) (j : ℕ) (env : Env) (a : Source) → Names P a
      → ((q : ℕ) → IsKnown all c m j g (env q)) → AreAt all j (operand j env a).nodes
      → IsServed P all c true g j (operand j env a).nodes (operand j env a).sources 5
  operand_served m g j env (Const w) p h x = const_served g j w x
  operand_served m g j env (Reg r) p h x = register_served m g j r (env r) p (h r) x

  -- the nodes of a second operand serve it under the scope, at a cost of five
  pub second_served : (t m : Bool) (g : Scope) (j : ℕ) (env : Env) (a : Source) → Names P a
      → ((q : ℕ) → IsKnown all c m j g (env q)) → AreAt all j (second t j env a).nodes
      → IsServed P all c t g j (second t j env a).nodes (second t j env a).sources 5
  second_served true m g j env a p h x = operand_served m g j env a p h x
  second_served false m g j env a p h x = none_served g j 5
