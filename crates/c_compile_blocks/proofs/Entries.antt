-- Where the word of a register comes from in a block of one test: as the block found it, from one node, or
-- from both legs.
use Rattle.std.proofs.Common.{◌≡◌, ℕ, suc, ◌<◌, ◌≤◌, Bool, true, false, List, [], ◌∷◌, ◌++◌, length, refl, sym}
use Rattle.std.proofs.Common.{ap, subst, arith, length-append, cond, nat_eq, ◌⊎◌, inl, inr}
use Rattle.std.specs.Prelude.{Some, None, slice_get, ◌||◌}
use Rattle.trips_isa.specs.Forms.{role_of}
use Rattle.block_cases.specs.Choosers.{is_copy}
use Rattle.ir_forms.specs.declared.flow.FlowSource.{FlowSource}
use Rattle.ir_forms.specs.declared.flow.FlowSource.TheVariants.{Read, Node}
use Rattle.ir_forms.specs.declared.flow.FlowNode.{FlowNode}
use Rattle.predication.specs.declared.work.Entry.{Entry}
use Rattle.predication.specs.inside.Environments.{Scope, Env, under, put, from_node, both}
use Rattle.predication.specs.inside.Converted.{reads_in}
use Rattle.c_compile_blocks.proofs.Pieces.{found}

-- a register that is kept in a scope
abbrev pub kept_in : Scope → Entry
kept_in g = record { given = []; kept = g ∷ [] }

module _ (all : List FlowNode) where
  -- NODES

  -- node i, below k, has this guard
  abbrev pub IsUnder : ℕ → Scope → ℕ → Type 0
  IsUnder k g i = (n : FlowNode) × (slice_get all i ≡ Some n) × (n.guard ≡ g) × (i < k)

  -- and is no mov
  abbrev pub IsChoice : ℕ → Scope → ℕ → Type 0
  IsChoice k g i =
      (n : FlowNode) × (slice_get all i ≡ Some n) × (n.guard ≡ g) × (is_copy (role_of n.op) ≡ false) × (i < k)

  -- What stands under a scope before a node does so before each later node.
  pub under_later : (j k : ℕ) (g : Scope) (i : ℕ) → j ≤ k → IsUnder j g i → IsUnder k g i
  under_later j k g i m (n, e, h, l) = (n, e, h, omega (arith, l, m))

  -- A node that is no `mov`, under a scope before a node, is so before each later node.
  pub choice_later : (j k : ℕ) (g : Scope) (i : ℕ) → j ≤ k → IsChoice j g i → IsChoice k g i
  choice_later j k g i m (n, e, h, z, l) = (n, e, h, z, omega (arith, l, m))

  -- a node that may choose under a scope stands under it
  pub choice_under : (k : ℕ) (g : Scope) (i : ℕ) → IsChoice k g i → IsUnder k g i
  choice_under k g i (n, e, h, z, l) = (n, e, h, l)

  -- ENTRIES

  -- a node of the scope gives the register's word
  abbrev pub IsOwn : ℕ → Scope → Entry → Type 0
  IsOwn k g e = (i : ℕ) × IsUnder k g i × (e ≡ from_node i)

  -- it is as the block found it, or a node of the block or of the scope gives it
  abbrev pub IsSingle : ℕ → Scope → Entry → Type 0
  IsSingle k g e = (e ≡ found) ⊎ (IsOwn k None e ⊎ IsOwn k g e)

  -- what a leg leaves: one of its nodes, or the register as the block found it
  abbrev pub IsSide : ℕ → Scope → Entry → Type 0
  IsSide k g e = IsOwn k g e ⊎ (e ≡ kept_in g)

  -- what both legs of the test by node c leave
  abbrev pub IsMerged : ℕ → ℕ → Entry → Type 0
  IsMerged k c e =
      (a b : Entry) × IsUnder k None c × IsSide k (under c true) a × IsSide k (under c false) b × (e ≡ both a b)

  -- where m is true also what both legs leave, outside of legs
  abbrev pub IsKnown : ℕ → Bool → ℕ → Scope → Entry → Type 0
  IsKnown c m k g e = IsSingle k g e ⊎ ((m ≡ true) × (g ≡ None) × IsMerged k c e)

  -- LATER NODES

  -- A register's word that a node of the scope gives before a node is given so before each later one.
  pub own_later : (j k : ℕ) (g : Scope) (e : Entry) → j ≤ k → IsOwn j g e → IsOwn k g e
  own_later j k g e l (i, u, x) = (i, under_later j k g i l u, x)

  -- An entry that is single before a node is so before each later one.
  pub single_later : (j k : ℕ) (g : Scope) (e : Entry) → j ≤ k → IsSingle j g e → IsSingle k g e
  single_later j k g e l (inl x) = inl x
  single_later j k g e l (inr (inl x)) = inr (inl (own_later j k None e l x))
  single_later j k g e l (inr (inr x)) = inr (inr (own_later j k g e l x))

  -- what a leg leaves at a node it leaves at a later one
  pub side_later : (j k : ℕ) (g : Scope) (e : Entry) → j ≤ k → IsSide j g e → IsSide k g e
  side_later j k g e l (inl x) = inl (own_later j k g e l x)
  side_later j k g e l (inr x) = inr x

  merged_later : (j k c : ℕ) (e : Entry) → j ≤ k → IsMerged j c e → IsMerged k c e
  merged_later j k c e l (a, b, u, x, y, z) = (
    a,
    b,
    under_later j k None c l u,
    side_later j k (under c true) a l x,
    side_later j k (under c false) b l y,
    z,
  )

  -- What is known of an entry before a node is known before each later one.
  pub known_later : (c : ℕ) (m : Bool) (j k : ℕ) (g : Scope) (e : Entry) → j ≤ k → IsKnown c m j g e
      → IsKnown c m k g e
  known_later c m j k g e l (inl x) = inl (single_later j k g e l x)
  known_later c m j k g e l (inr (t, z, x)) = inr (t, z, merged_later j k c e l x)

  -- what a node of the block gives is there in each leg
  pub single_inward : (k : ℕ) (g : Scope) (e : Entry) → IsSingle k None e → IsSingle k g e
  single_inward k g e (inl x) = inl x
  single_inward k g e (inr (inl x)) = inr (inl x)
  single_inward k g e (inr (inr x)) = inr (inl x)

  -- what is known within a leg is as the block found it, or given by one node
  pub known_single : (c k : ℕ) (g : Scope) (e : Entry) → IsKnown c false k g e → IsSingle k g e
  known_single c k g e (inl x) = x
  known_single c k g e (inr (t, z, x)) = absurd (cc)

  -- node k sets a register
  pub put_known : (c : ℕ) (m : Bool) (j k : ℕ) (g : Scope) (env : Env) (r : ℕ) → j ≤ suc k → IsUnder (suc k) g k
      → ((q : ℕ) → IsKnown c m j g (env q)) → (q : ℕ) → IsKnown c m (suc k) g (put env r (from_node k) q)
  put_known c m j k g env r l u h q = go (nat_eq q r)
    where
      go : (b : Bool) → IsKnown c m (suc k) g (cond b (from_node k) (env q))
      go true = inl (inr (inr (k, u, refl)))
      go false = known_later c m j (suc k) g (env q) l (h q)

  -- a register whose word a node of the scope gives keeps so, with one register more set in the scope
  pub put_own : (j k : ℕ) (g : Scope) (env : Env) (r q : ℕ) → j ≤ suc k → IsUnder (suc k) g k
      → IsOwn j g (env q) → IsOwn (suc k) g (put env r (from_node k) q)
  put_own j k g env r q l u h = go (nat_eq q r)
    where
      go : (b : Bool) → IsOwn (suc k) g (cond b (from_node k) (env q))
      go true = (k, u, refl)
      go false = own_later j (suc k) g (env q) l h

  -- a register that a node of the scope sets has its word from the scope
  pub put_first : (k : ℕ) (g : Scope) (env : Env) (r q : ℕ) → IsUnder (suc k) g k → nat_eq q r ≡ true
      → IsOwn (suc k) g (put env r (from_node k) q)
  put_first k g env r q u e = (k, u, ap (λ (b : Bool). cond b (from_node k) (env q)) e)

-- SOURCES

-- at most n sources, no read among them
pub record IsScant (n : ℕ) (e : Entry) : Type 0 where
  pub few : length e.given ≤ n
  pub reads : (q : ℕ) → reads_in e.given q ≡ false

none_scant : (n : ℕ) (e : Entry) → e.given ≡ [] → IsScant n e
none_scant n e z = record {
  few = (let y = ap (λ (ss : List FlowSource). length ss) z in omega (arith, y));
  reads = λ q. ap (λ (ss : List FlowSource). reads_in ss q) z;
}

node_scant : (n k : ℕ) → 1 ≤ n → IsScant n (from_node k)
node_scant n k l = record { few = omega (arith, l); reads = λ q. refl }

reads_append : (a b : List FlowSource) (q : ℕ) → reads_in a q ≡ false → reads_in b q ≡ false
    → reads_in (a ++ b) q ≡ false
reads_append [] b q x y = y
reads_append (Read r ∷ a) b q x y = go (nat_eq r q) x (λ z. reads_append a b q z y)
  where
    go : (c : Bool) → (c || reads_in a q) ≡ false → (reads_in a q ≡ false → reads_in (a ++ b) q ≡ false)
        → (c || reads_in (a ++ b) q) ≡ false
    go true z f = absurd (cc)
    go false z f = f z
reads_append (Node j ∷ a) b q x y = reads_append a b q x y

both_scant : (a b : Entry) → IsScant 1 a → IsScant 1 b → IsScant 2 (both a b)
both_scant a b x y = record {
  few = (let l = length-append a.given b.given in let u = x.few in let v = y.few in omega (arith, l, u, v));
  reads = λ q. reads_append a.given b.given q (x.reads q) (y.reads q);
}

put_scant : (n : ℕ) (e : Entry) (env : Env) (r q : ℕ) → IsScant n e → IsScant n (env q)
    → IsScant n (put env r e q)
put_scant n e env r q x y = go (nat_eq q r)
  where
    go : (c : Bool) → IsScant n (cond c e (env q))
    go true = x
    go false = y

-- a node sets a register
pub node_put_scant : (k : ℕ) (env : Env) (r q : ℕ) → IsScant 2 (env q) → IsScant 2 (put env r (from_node k) q)
node_put_scant k env r q h = put_scant 2 (from_node k) env r q (node_scant 2 k (omega arith)) h

own_scant : (all : List FlowNode) (n k : ℕ) (g : Scope) (e : Entry) → 1 ≤ n → IsOwn all k g e → IsScant n e
own_scant all n k g e l (i, u, x) = subst (IsScant n) (sym x) (node_scant n i l)

found_scant : (n : ℕ) (e : Entry) → e ≡ found → IsScant n e
found_scant n e x = none_scant n e (ap (λ (y : Entry). y.given) x)

side_scant : (all : List FlowNode) (k : ℕ) (g : Scope) (e : Entry) → IsSide all k g e → IsScant 1 e
side_scant all k g e (inl x) = own_scant all 1 k g e (omega arith) x
side_scant all k g e (inr x) = none_scant 1 e (ap (λ (y : Entry). y.given) x)

-- what is known of a register has at most two sources, no read among them
pub known_scant : (all : List FlowNode) (c : ℕ) (m : Bool) (k : ℕ) (g : Scope) (e : Entry)
    → IsKnown all c m k g e → IsScant 2 e
known_scant all c m k g e (inl (inl x)) = found_scant 2 e x
known_scant all c m k g e (inl (inr (inl x))) = own_scant all 2 k None e (omega arith) x
known_scant all c m k g e (inl (inr (inr x))) = own_scant all 2 k g e (omega arith) x
known_scant all c m k g e (inr (t, z, (a, b, u, x, y, w))) =
    subst (IsScant 2) (sym w)
    (both_scant a b (side_scant all k (under c true) a x) (side_scant all k (under c false) b y))
