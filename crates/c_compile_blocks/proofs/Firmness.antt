-- Where each operand has a source that is surely there once the nodes before are firm, all nodes are found
-- to be firm.
use Rattle.std.proofs.Common.{◌≡◌, ℕ, zero, suc, ◌+◌, ◌<◌, ◌≤◌, Bool, true, false, not, ◌&&◌, List, [], ◌∷◌}
use Rattle.std.proofs.Common.{◌++◌, length, length-append, get_or, refl, sym, ap, subst, ◌∙◌, arith}
use Rattle.std.proofs.Common.{◌⊎◌, inl, inr}
use Rattle.std.specs.Prelude.{Some, None, slice_get}
use Rattle.std.proofs.lemmas.Bool.{cases_lt}
use Rattle.trips_isa.specs.Forms.{role_of, takes_left, takes_right}
use Rattle.ir_forms.specs.declared.flow.FlowSource.{FlowSource}
use Rattle.ir_forms.specs.declared.flow.FlowSource.TheVariants.{Read, Node}
use Rattle.ir_forms.specs.declared.flow.FlowNode.{FlowNode}
use Rattle.ir_forms.specs.declared.flow.FlowBlock.{FlowBlock}
use Rattle.null_outputs.specs.inside.Covers.{left_open, right_open}
use Rattle.null_outputs.specs.inside.Surely.{Scope, Firm, has, scopes, sure_of, is_firm, firm_of, firms_from, firms}
use Rattle.null_outputs.specs.inside.Surely.{sure_by}
use Rattle.null_outputs.specs.inside.Sizes.{AllFirm}
use Rattle.null_outputs.proofs.Recognised.{recognises_always, has_scope}

below : {A : Type 0} (xs : List A) (y : ℕ) (x : A) → slice_get xs y ≡ Some x → y < length xs
below [] y x e = absurd (cc)
below (z ∷ xs) zero x e = omega arith
below (z ∷ xs) (suc y) x e = let h = below xs y x e in omega (arith, h)

-- an operand that is there, or is not taken, is not open
shut : (t s : Bool) → (t ≡ true → s ≡ true) → (t && not s) ≡ false
shut true true h = refl
shut true false h = absurd (let e = h refl in cc)
shut false true h = refl
shut false false h = refl

both_shut : (a b : Bool) → a ≡ false → b ≡ false → (not a && not b) ≡ true
both_shut a b x y = rw (x, y) refl

-- one more is found behind those found before
found_front : (found : List Bool) (v : Bool) (i : ℕ) → i < length found → get_or found i false ≡ true
    → get_or (found ++ (v ∷ [])) i false ≡ true
found_front [] v i l e = absurd (omega (arith, l))
found_front (x ∷ found) v zero l e = e
found_front (x ∷ found) v (suc i) l e = found_front found v i (omega (arith, l)) e

found_last : (found : List Bool) (v : Bool) → v ≡ true → get_or (found ++ (v ∷ [])) (length found) false ≡ true
found_last [] v e = e
found_last (x ∷ found) v e = found_last found v e

module _ (all : List FlowNode) where
  -- where the nodes before node j are firm, a list is found to be there under a scope
  abbrev pub IsThere : ℕ → Scope → List FlowSource → Type 0
  IsThere j g ss = (firm : Firm) → ((i : ℕ) → i < j → firm i ≡ true) → sure_of all firm g ss ≡ true

  -- a node that is not guarded
  abbrev pub IsBare : ℕ → Type 0
  IsBare i = (n : FlowNode) × (slice_get all i ≡ Some n) × (n.guard ≡ None)

  -- a list with a read is there under each scope
  pub read_there : (j : ℕ) (g : Scope) (r : ℕ) (ss : List FlowSource) → IsThere j g (Read r ∷ ss)
  read_there j g r ss firm f = recognises_always all firm g (Read r ∷ ss) refl

  -- A node that is not guarded is found to be there before each later node.
  pub bare_there : (i j : ℕ) (g : Scope) (ss : List FlowSource) → i < j → IsBare i → IsThere j g (Node i ∷ ss)
  bare_there i j g ss l (n, e, z) firm f =
      recognises_always all firm g (Node i ∷ ss)
      (ap (has (scopes all firm (Node i ∷ ss))) (sym z) ∙ has_scope all firm i n ss e (f i l))

  -- each operand of a node is there under its guard
  pub record IsFirmNode (j : ℕ) (n : FlowNode) : Type 0 where
    pub left : takes_left (role_of n.op) ≡ true → IsThere j n.guard n.left
    pub right : takes_right (role_of n.op) ≡ true → IsThere j n.guard n.right

  -- nodes, the first of which is node j
  abbrev pub AreFirm : ℕ → List FlowNode → Type 0
  AreFirm j [] = Unit {0}
  AreFirm j (n ∷ ns) = IsFirmNode j n × AreFirm (suc j) ns

  -- firm nodes behind firm ones are firm
  pub firm_append : (j : ℕ) (a b : List FlowNode) → AreFirm j a → AreFirm (j + length a) b → AreFirm j (a ++ b)
  firm_append j [] b x y = let e : j + 0 ≡ j = omega arith in subst (λ (i : ℕ). AreFirm i b) e y
  firm_append j (n ∷ a) b x y =
      let e : j + length (n ∷ a) ≡ suc j + length a = omega arith in
      (x.0, firm_append (suc j) a b x.1 (subst (λ (i : ℕ). AreFirm i b) e y))

  firm_at : (j : ℕ) (ns : List FlowNode) (i k : ℕ) (n : FlowNode) → AreFirm j ns → k ≡ j + i
      → slice_get ns i ≡ Some n → IsFirmNode k n
  firm_at j [] i k n a e s = absurd (cc)
  firm_at j (m ∷ ns) zero k n a e s =
      let same : m ≡ n = cc in
      let z : j ≡ k = omega (arith, e) in
      subst (λ (i : ℕ). IsFirmNode i n) z (subst (IsFirmNode j) same a.0)
  firm_at j (m ∷ ns) (suc i) k n a e s = firm_at (suc j) ns i k n a.1 (omega (arith, e)) s

  node_shut : (firm : Firm) (j : ℕ) (n : FlowNode) → IsFirmNode j n → ((i : ℕ) → i < j → firm i ≡ true)
      → (left_open (sure_of all firm) n ≡ false) × (right_open (sure_of all firm) n ≡ false)
  node_shut firm j n x f = (
    shut (takes_left (role_of n.op)) (sure_of all firm n.guard n.left) (λ e. x.left e firm f),
    shut (takes_right (role_of n.op)) (sure_of all firm n.guard n.right) (λ e. x.right e firm f),
  )

  -- all that are found to be firm up to j, and one more
  found_more : (found : List Bool) (v : Bool) (j : ℕ) → length found ≡ j
      → ((i : ℕ) → i < j → firm_of found i ≡ true) → v ≡ true → (i : ℕ) → i < suc j
      → firm_of (found ++ (v ∷ [])) i ≡ true
  found_more found v j e f is i l = go (cases_lt i j)
    where
      go : (i < j) ⊎ (j ≤ i) → firm_of (found ++ (v ∷ [])) i ≡ true
      go (inl m) = found_front found v i (omega (arith, m, e)) (f i m)
      go (inr m) =
          let at : i ≡ length found = omega (arith, m, l, e) in
          ap (λ (k : ℕ). get_or (found ++ (v ∷ [])) k false) at ∙ found_last found v is

  firms_all : (ns : List FlowNode) (found : List Bool) (j : ℕ) → length found ≡ j
      → ((i : ℕ) → i < j → firm_of found i ≡ true) → AreFirm j ns → (i : ℕ) → i < j + length ns
      → firm_of (firms_from all found ns) i ≡ true
  firms_all [] found j e f a i l = f i (omega (arith, l))
  firms_all (n ∷ ns) found j e f a i l =
      let v = is_firm all (firm_of found) n in
      let x = node_shut (firm_of found) j n a.0 f in
      let is : v ≡ true = both_shut (left_open (sure_of all (firm_of found)) n)
      (right_open (sure_of all (firm_of found)) n) x.0 x.1 in
      let size = length-append found (v ∷ []) in
      firms_all ns (found ++ (v ∷ [])) (suc j) (omega (arith, e, size)) (found_more found v j e f is) a.1 i
      (omega (arith, l))

-- where each operand has a source that is surely there, all nodes are found to be firm
pub all_firm : (b : FlowBlock) → AreFirm b.nodes 0 b.nodes → AllFirm (sure_by b) b
all_firm b a y n e =
    let l = below b.nodes y n e in
    node_shut b.nodes (firm_of (firms b.nodes)) y n (firm_at b.nodes 0 b.nodes y y n a (omega arith) e)
    (λ i m. firms_all b.nodes b.nodes [] 0 refl (λ k x. absurd (omega (arith, x))) a i (omega (arith, l, m)))
