-- A block without all nodes that nothing which stays names may stand for the block.
use Rattle.std.proofs.Common.{◌≡◌, ℕ, zero, suc, ◌<◌, ◌≤◌, List, [], ◌∷◌, ◌⊎◌, inl, inr, refl, sym, ap, ap₂}
use Rattle.std.proofs.Common.{subst, ◌∙◌, arith, length, cond, nat_eq, Bool, true, false, ◌||◌, ◌&&◌, map}
use Rattle.std.specs.Prelude.{Some, None, Option, slice_get}
use Rattle.std.proofs.Math.Path.{fun_ext}
use Rattle.std.proofs.lemmas.Bool.{cases_lt, eqb-true, eqb-false, and_parts}
use Rattle.std.proofs.lemmas.Option.{slice_get_within, slice_get_past}
use Rattle.ir_forms.specs.declared.flow.FlowSource.{FlowSource}
use Rattle.ir_forms.specs.declared.flow.FlowSource.TheVariants.{Read, Node}
use Rattle.ir_forms.specs.declared.flow.Guard.{Guard}
use Rattle.ir_forms.specs.declared.flow.FlowNode.{FlowNode}
use Rattle.ir_forms.specs.declared.flow.FlowWrite.{FlowWrite}
use Rattle.ir_forms.specs.declared.flow.FlowBlock.{FlowBlock}
use Rattle.ir_forms.specs.inside.FlowRegular.{same_source, is_among, guards_by, nodes_name, writes_name, is_named}
use Rattle.flow_fold.specs.inside.Replaces.{Replaces}
use Rattle.flow_fold.specs.inside.Sweeps.{takes_all}
use Rattle.flow_fold.specs.inside.SweepsAll.{stays_by, stays, number, by_source, by_guard, by_node, by_write, staying}
use Rattle.flow_fold.specs.inside.SweepsAll.{kept, may_sweep, SweepsAll}
use Rattle.flow_fold.proofs.Following.{stands_for_itself, stands_on}
use Rattle.flow_fold.proofs.SweptAway.{sweeping_stands}
use Rattle.flow_fold.proofs.StayingNumbers.{upto, stays_low, stays_high, stays_same}
use Rattle.flow_fold.proofs.SweptInSteps.{block_down, idle_down, unnamed_down}

-- READS

module _ (r : ℕ) where
  read_alike : (v : ℕ → ℕ) (x : FlowSource) → same_source (Read r) (by_source v x) ≡ same_source (Read r) x
  read_alike v (Read q) = refl
  read_alike v (Node j) = refl

  reads_alike : (v : ℕ → ℕ) (xs : List FlowSource)
      → is_among (Read r) (map (by_source v) xs) ≡ is_among (Read r) xs
  reads_alike v [] = refl
  reads_alike v (x ∷ xs) = ap₂ (λ (a b : Bool). a || b) (read_alike v x) (reads_alike v xs)

  writes_alike : (v : ℕ → ℕ) (ws : List FlowWrite)
      → writes_name (Read r) (map (by_write v) ws) ≡ writes_name (Read r) ws
  writes_alike v [] = refl
  writes_alike v (w ∷ ws) = ap₂ (λ (a b : Bool). a || b) (reads_alike v w.sources) (writes_alike v ws)

  no_guard : (v : ℕ → ℕ) (o : Option Guard) → guards_by (Read r) (by_guard v o) ≡ false
  no_guard v None = refl
  no_guard v (Some g) = refl

  -- whether a node or the nodes behind it take the register's word
  abbrev taken_by : FlowNode → Bool → Bool
  taken_by n b = is_among (Read r) n.left || (is_among (Read r) n.right || b)

  node_alike : (v : ℕ → ℕ) (n : FlowNode) (ns : List FlowNode)
      → nodes_name (Read r) (by_node v n ∷ ns) ≡ taken_by n (nodes_name (Read r) ns)
  node_alike v n ns =
      ap₂ (λ (a b : Bool). a || b) (reads_alike v n.left)
      (ap₂ (λ (a b : Bool). a || b) (reads_alike v n.right)
      (ap (λ (c : Bool). c || nodes_name (Read r) ns) (no_guard v n.guard)))

  either : (a b c d : Bool) → (c ≡ true → d ≡ true) → (a || (b || c)) ≡ true → (a || (b || d)) ≡ true
  either true b c d f e = refl
  either false true c d f e = refl
  either false false c d f e = f e

  behind : (a b c : Bool) → c ≡ true → (a || (b || c)) ≡ true
  behind true b c e = refl
  behind false true c e = refl
  behind false false c e = e

  module _ (few many : ℕ → Bool) (all : (j : ℕ) → few j ≡ true → many j ≡ true) (u v : ℕ → ℕ) where
    -- the nodes behind node j
    abbrev some : ℕ → List FlowNode → List FlowNode
    some j ns = staying u few (suc j) ns

    abbrev others : ℕ → List FlowNode → List FlowNode
    others j ns = staying v many (suc j) ns

    nodes_take : (ns : List FlowNode) (j : ℕ) → nodes_name (Read r) (staying u few j ns) ≡ true
        → nodes_name (Read r) (staying v many j ns) ≡ true
    nodes_take [] j e = absurd (cc)
    nodes_take (n ∷ ns) j e = go (λ z. nodes_take ns (suc j) z) (few j) (many j) refl refl e
      where
        go : (nodes_name (Read r) (some j ns) ≡ true → nodes_name (Read r) (others j ns) ≡ true) → (a b : Bool)
            → few j ≡ a → many j ≡ b
            → nodes_name (Read r) (cond a (by_node u n ∷ some j ns) (some j ns)) ≡ true
            → nodes_name (Read r) (cond b (by_node v n ∷ others j ns) (others j ns)) ≡ true
        go rest true true d c e =
            node_alike v n (others j ns)
            ∙ either (is_among (Read r) n.left) (is_among (Read r) n.right) (nodes_name (Read r) (some j ns))
            (nodes_name (Read r) (others j ns)) rest (sym (node_alike u n (some j ns)) ∙ e)
        go rest true false d c e = absurd (let z = all j d in cc)
        go rest false true d c e =
            node_alike v n (others j ns)
            ∙ behind (is_among (Read r) n.left) (is_among (Read r) n.right) (nodes_name (Read r) (others j ns))
            (rest e)
        go rest false false d c e = rest e

or_more : (a b c d : Bool) → (a ≡ true → b ≡ true) → c ≡ d → (a || c) ≡ true → (b || d) ≡ true
or_more true b c d f g e = ap (λ (x : Bool). x || d) (f refl)
or_more false true c d f g e = refl
or_more false false c d f g e = sym g ∙ e

-- where more nodes stay no register is taken less
module _ (f : FlowBlock) (few many : ℕ → Bool) (all : (j : ℕ) → few j ≡ true → many j ≡ true) where
  read_taken : (r : ℕ) → is_named (kept few f) (Read r) ≡ true → is_named (kept many f) (Read r) ≡ true
  read_taken r e =
      or_more (nodes_name (Read r) (kept few f).nodes) (nodes_name (Read r) (kept many f).nodes)
      (writes_name (Read r) (kept few f).writes) (writes_name (Read r) (kept many f).writes)
      (λ z. nodes_take r few many all (number few) (number many) f.nodes 0 z)
      (writes_alike r (number few) f.writes ∙ sym (writes_alike r (number many) f.writes)) e

  both : (a b c d : Bool) → (a ≡ true → b ≡ true) → (c ≡ true → d ≡ true) → (a && c) ≡ true → (b && d) ≡ true
  both a b c d f g e = let z = and_parts a c e in ap₂ (λ (x y : Bool). x && y) (f z.0) (g z.1)

  reads_taken : (rs : List ℕ) → takes_all (kept few f) rs ≡ true → takes_all (kept many f) rs ≡ true
  reads_taken [] e = refl
  reads_taken (r ∷ rs) e =
      both (is_named (kept few f) (Read r)) (is_named (kept many f) (Read r)) (takes_all (kept few f) rs)
      (takes_all (kept many f) rs) (read_taken r) (λ z. reads_taken rs z) e

-- ALL NODES

same_numbers : (j : ℕ) → number (λ i. true) j ≡ j
same_numbers zero = refl
same_numbers (suc j) = ap (λ (i : ℕ). suc i) (same_numbers j)

module _ (v : ℕ → ℕ) (same : (j : ℕ) → v j ≡ j) where
  source_itself : (x : FlowSource) → by_source v x ≡ x
  source_itself (Read r) = refl
  source_itself (Node j) = ap (λ (i : ℕ). Node i) (same j)

  sources_themselves : (xs : List FlowSource) → map (by_source v) xs ≡ xs
  sources_themselves [] = refl
  sources_themselves (x ∷ xs) =
      ap₂ (λ (a : FlowSource) (b : List FlowSource). a ∷ b) (source_itself x) (sources_themselves xs)

  guard_itself : (o : Option Guard) → by_guard v o ≡ o
  guard_itself None = refl
  guard_itself (Some g) = ap (λ (i : ℕ). Some (record g { node = i })) (same g.node)

  abbrev with_sources : FlowNode → Option Guard → List FlowSource → List FlowSource → FlowNode
  with_sources n o l r = record n { guard = o; left = l; right = r }

  node_itself : (n : FlowNode) → by_node v n ≡ n
  node_itself n =
      ap (λ (o : Option Guard). with_sources n o (map (by_source v) n.left) (map (by_source v) n.right))
      (guard_itself n.guard)
      ∙ ap₂ (λ (l r : List FlowSource). with_sources n n.guard l r) (sources_themselves n.left)
      (sources_themselves n.right)

  nodes_themselves : (ns : List FlowNode) (j : ℕ) → staying v (λ i. true) j ns ≡ ns
  nodes_themselves [] j = refl
  nodes_themselves (n ∷ ns) j =
      ap₂ (λ (a : FlowNode) (b : List FlowNode). a ∷ b) (node_itself n) (nodes_themselves ns (suc j))

  writes_themselves : (ws : List FlowWrite) → map (by_write v) ws ≡ ws
  writes_themselves [] = refl
  writes_themselves (w ∷ ws) =
      ap₂ (λ (a : FlowWrite) (b : List FlowWrite). a ∷ b)
      (ap (λ (xs : List FlowSource). record w { sources = xs }) (sources_themselves w.sources))
      (writes_themselves ws)

-- where all nodes stay the block is as it was
block_itself : (f : FlowBlock) → kept (λ i. true) f ≡ f
block_itself f = ap₂ (λ (ns : List FlowNode) (ws : List FlowWrite). record f { nodes = ns; writes = ws })
    (nodes_themselves (number (λ i. true)) same_numbers f.nodes 0)
    (writes_themselves (number (λ i. true)) same_numbers f.writes)

-- ONE AFTER THE OTHER

-- of which a list says that it goes, it has a place
goes_within : (keeps : List Bool) (p : ℕ) → stays keeps p ≡ false → p < length keeps
goes_within keeps p e = at (slice_get keeps p) refl e
  where
    at : (o : Option Bool) → slice_get keeps p ≡ o → stays_by o ≡ false → p < length keeps
    at None t e = absurd (cc)
    at (Some b) t e = slice_get_within keeps p b t

module _ (f : FlowBlock) (keeps : List Bool) (within : length keeps ≤ length f.nodes)
    (may : may_sweep (stays keeps) f ≡ true) (taken : takes_all (kept (stays keeps) f) f.reads ≡ true) where
  abbrev s : ℕ → Bool
  s = stays keeps

  raised : (p j : ℕ) → s j ≡ true → upto s p j ≡ true
  raised p j e = go (cases_lt j p)
    where
      go : (j < p) ⊎ (p ≤ j) → upto s p j ≡ true
      go (inl l) = stays_low s p j l
      go (inr l) = stays_high s p j l ∙ e

  -- node p goes where those behind it are gone
  step : (p : ℕ) → s p ≡ false → Replaces (kept (upto s (suc p)) f) (kept (upto s p) f)
  step p e = sweeping_stands (kept (upto s (suc p)) f) (kept (upto s p) f)
      (record {
        place = p;
        idle = idle_down s p e f (let l = goes_within keeps p e in omega (arith, l, within)) may;
        unnamed = unnamed_down s p e f may;
        becomes = sym (block_down s p e f);
        taken = reads_taken f s (upto s p) (raised p) f.reads taken;
      })

  same_bound : (p : ℕ) → s p ≡ true → (j : ℕ) → upto s (suc p) j ≡ upto s p j
  same_bound p e j = go (nat_eq j p) refl
    where
      go : (b : Bool) → nat_eq j p ≡ b → upto s (suc p) j ≡ upto s p j
      go true q =
          let i = eqb-true j p q in
          let t : s j ≡ true = ap s i ∙ e in
          raised (suc p) j t ∙ sym (raised p j t)
      go false q = stays_same s p j (eqb-false j p q)

  -- so do all up to a bound
  steps : (p : ℕ) → Replaces (kept (upto s p) f) (kept s f)
  steps zero = subst (λ (t : ℕ → Bool). Replaces (kept t f) (kept s f))
      (sym (fun_ext (λ (j : ℕ). stays_high s 0 j (omega arith)))) (stands_for_itself (kept s f))
  steps (suc p) = go (steps p) (s p) refl
    where
      go : Replaces (kept (upto s p) f) (kept s f) → (b : Bool) → s p ≡ b
          → Replaces (kept (upto s (suc p)) f) (kept s f)
      go rest true e = subst (λ (t : ℕ → Bool). Replaces (kept t f) (kept s f))
          (sym (fun_ext (λ (j : ℕ). same_bound p e j))) rest
      go rest false e =
          stands_on (kept (upto s (suc p)) f) (kept (upto s p) f) (kept s f) (step p e) rest

  -- at the bound behind all nodes none is gone
  all_stay : (j : ℕ) → upto s (length keeps) j ≡ true
  all_stay j = go (cases_lt j (length keeps))
    where
      go : (j < length keeps) ⊎ (length keeps ≤ j) → upto s (length keeps) j ≡ true
      go (inl l) = stays_low s (length keeps) j l
      go (inr l) = stays_high s (length keeps) j l ∙ ap stays_by (slice_get_past keeps j l)

  whole : kept (upto s (length keeps)) f ≡ f
  whole = ap (λ (t : ℕ → Bool). kept t f) (fun_ext (λ (j : ℕ). all_stay j)) ∙ block_itself f

  -- the block of the nodes that stay may stand for the block
  pub kept_stands : Replaces f (kept s f)
  kept_stands = subst (λ (z : FlowBlock). Replaces z (kept s f)) whole (steps (length keeps))

-- a block without all nodes that may go may stand for the block
pub sweeping_all_stands : (f g : FlowBlock) → SweepsAll f g → Replaces f g
sweeping_all_stands f g s = subst (λ (z : FlowBlock). Replaces f z) (sym s.becomes)
    (kept_stands f s.keeps s.within s.may
    (subst (λ (z : FlowBlock). takes_all z f.reads ≡ true) s.becomes s.taken))
