-- Where outputs hang on unguarded nodes, these are firm, so each output surely gets a token; then nothing is added.
use Rattle.std.proofs.Common.{◌≡◌, ℕ, zero, suc, ◌+◌, ◌<◌, ◌≤◌, List, [], ◌∷◌, ◌++◌, get_or, length}
use Rattle.std.proofs.Common.{refl, sym, ap, ap₂, subst, ◌∙◌, arith, cond, Bool, true, false, not, ◌&&◌, ◌||◌}
use Rattle.std.specs.Prelude.{Option, Some, None, slice_get}
use Rattle.trips_isa.specs.declared.form.Form.{Form}
use Rattle.trips_isa.specs.declared.form.Form.TheVariants as form
use Rattle.trips_isa.specs.Forms.{form_of, role_of, takes_left, takes_right}
use Rattle.ir_forms.specs.declared.flow.FlowSource.{FlowSource}
use Rattle.ir_forms.specs.declared.flow.FlowSource.TheVariants.{Read, Node}
use Rattle.ir_forms.specs.declared.flow.Guard.{Guard}
use Rattle.ir_forms.specs.declared.flow.FlowNode.{FlowNode}
use Rattle.ir_forms.specs.declared.flow.FlowWrite.{FlowWrite}
use Rattle.ir_forms.specs.declared.flow.FlowBlock.{FlowBlock}
use Rattle.ir_forms.specs.inside.FlowFits.{in_mask}
use Rattle.null_outputs.specs.inside.Covers.{left_open, right_open, Cover, list_top, list_nodes, copy_under}
use Rattle.null_outputs.specs.inside.Covers.{both_under}
use Rattle.null_outputs.specs.inside.Covers.{null_store_of}
use Rattle.null_outputs.specs.inside.Groups.{left_needed, right_needed, guard_group}
use Rattle.null_outputs.specs.inside.Groups.{guard_is, is_used, guard_part, guard_part_size, left_part}
use Rattle.null_outputs.specs.inside.Groups.{left_size, right_part}
use Rattle.null_outputs.specs.inside.Groups.{right_size, region, stores_of, number_open}
use Rattle.null_outputs.specs.inside.Completed.{writes_at, cover, write_part, write_size}
use Rattle.null_outputs.specs.inside.Completed.{filled_all, numbers_at, number_size, numbers_part, all_numbers}
use Rattle.null_outputs.specs.inside.Completed.{added}
use Rattle.null_outputs.specs.inside.Surely.{Firm, Scope, has, scopes, scope_at, sure_of, is_firm, firm_of}
use Rattle.null_outputs.specs.inside.Surely.{firms_from, firms}
use Rattle.null_outputs.specs.inside.Surely.{sure_by}
use Rattle.null_outputs.specs.inside.Wants.{mark_if, mark_writes, mark_node, spread, spread_at, is_open_store}
use Rattle.null_outputs.specs.inside.Wants.{open_stores}
use Rattle.null_outputs.specs.inside.Wants.{node_closed, each_wanted, nodes_closed, writes_closed}
use Rattle.null_outputs.specs.inside.Wants.{is_closed, wants_of, found_wants, want_by, complete}
use Rattle.null_outputs.specs.inside.Straight.{IsFed, IsStraight}
use Rattle.null_outputs.proofs.Covers.{within}
use Rattle.null_outputs.proofs.Recognised.{recognises_always}

-- the nodes below y are firm
abbrev FirmBelow : Firm → ℕ → Type 0
FirmBelow firm y = (j : ℕ) → j < y → firm j ≡ true

-- nothing is marked
abbrev NoneMarked : List Bool → Type 0
NoneMarked ws = (j : ℕ) → get_or ws j false ≡ false

-- what is taken is there
not_open : (t u : Bool) → (t ≡ true → u ≡ true) → (t && not u) ≡ false
not_open true u f = ap (λ (x : Bool). not x) (f refl)
not_open false u f = refl

both_firm : (a c : Bool) → a ≡ false → c ≡ false → (not a && not c) ≡ true
both_firm a c e f = rw (e, f) refl

-- one more that is true, where something holds of its place
one_more : (P : ℕ → Type 0) (xs : List Bool) (t : Bool) → (P (length xs) → t ≡ true)
    → ((j : ℕ) → j < length xs → P j → get_or xs j false ≡ true) → (j : ℕ) → j < suc (length xs) → P j
    → get_or (xs ++ (t ∷ [])) j false ≡ true
one_more P [] t e all zero l p = e p
one_more P [] t e all (suc j) l p = absurd (omega (arith, l))
one_more P (x ∷ xs) t e all zero l p = all zero (omega arith) p
one_more P (x ∷ xs) t e all (suc j) l p =
    one_more (λ (i : ℕ). P (suc i)) xs t e (λ i li. all (suc i) (omega (arith, li))) j (omega (arith, l)) p

length_more : (xs : List Bool) (t : Bool) → length (xs ++ (t ∷ [])) ≡ suc (length xs)
length_more [] t = refl
length_more (x ∷ xs) t = ap suc (length_more xs t)

region_empty : {A X : Type 0} (part : ℕ → ℕ → A → List X) (size : ℕ → A → ℕ) (p j : ℕ) (xs : List A)
    → ((i : ℕ) (x : A) → slice_get xs i ≡ Some x → (q k : ℕ) → part q k x ≡ [])
    → region part size p j xs ≡ []
region_empty part size p j [] f = refl
region_empty part size p j (x ∷ xs) f =
    ap₂ (λ (a b : List _). a ++ b) (f zero x refl p j)
    (region_empty part size (p + size j x) (suc j) xs (λ i y e q k. f (suc i) y e q k))

-- what is put only where something is so, is not
none_if : (t : Bool) (xs : List FlowNode) → t ≡ false → cond t xs [] ≡ []
none_if t xs e = ap (λ (u : Bool). cond {A = List FlowNode} u xs []) e

none_but : (t : Bool) (xs : List FlowNode) → t ≡ true → cond t [] xs ≡ []
none_but t xs e = ap (λ (u : Bool). cond {A = List FlowNode} u [] xs) e

no_end : {A : Type 0} (xs : List A) → xs ++ [] ≡ xs
no_end [] = refl
no_end (x ∷ xs) = ap (λ (l : _). x ∷ l) (no_end xs)

module _ (b : FlowBlock) (st : IsStraight b) where
  -- a list that has a source is always there
  fed_has : (firm : Firm) (y : ℕ) (ss : List FlowSource) → FirmBelow firm y → y ≤ st.front → IsFed y ss
      → has (scopes b.nodes firm ss) None ≡ true
  fed_has firm y [] a l f = absurd f
  fed_has firm y (Read r ∷ ss) a l f = refl
  fed_has firm y (Node j ∷ ss) a l f =
      let w = st.within in
      let x = within b.nodes j (omega (arith, f, l, w)) in
      let e : scope_at (firm j) (slice_get b.nodes j) ≡ None ∷ [] =
      ap₂ (λ (t : Bool) (o : Option FlowNode). scope_at t o) (a j f) x.1
      ∙ ap (λ (g : Scope). g ∷ []) (st.guards j x.0 (omega (arith, f, l)) x.1) in
      subst (λ (o : List Scope). has (o ++ scopes b.nodes firm ss) None ≡ true) (sym e) refl

  fed_sure : (firm : Firm) (y : ℕ) (ss : List FlowSource) → FirmBelow firm y → y ≤ st.front → IsFed y ss
      → sure_of b.nodes firm None ss ≡ true
  fed_sure firm y ss a l f = recognises_always b.nodes firm None ss (fed_has firm y ss a l f)

  left_there : (firm : Firm) (y : ℕ) (n : FlowNode) → y < st.front → slice_get b.nodes y ≡ Some n
      → FirmBelow firm y → left_open (sure_of b.nodes firm) n ≡ false
  left_there firm y n l e a =
      not_open (takes_left (role_of n.op)) (sure_of b.nodes firm n.guard n.left)
      (λ t. ap (λ (g : Option Guard). sure_of b.nodes firm g n.left) (st.guards y n l e)
      ∙ fed_sure firm y n.left a (omega (arith, l)) (st.left y n l e t))

  right_there : (firm : Firm) (y : ℕ) (n : FlowNode) → y < st.front → slice_get b.nodes y ≡ Some n
      → FirmBelow firm y → right_open (sure_of b.nodes firm) n ≡ false
  right_there firm y n l e a =
      not_open (takes_right (role_of n.op)) (sure_of b.nodes firm n.guard n.right)
      (λ t. ap (λ (g : Option Guard). sure_of b.nodes firm g n.right) (st.guards y n l e)
      ∙ fed_sure firm y n.right a (omega (arith, l)) (st.right y n l e t))

  node_firm : (firm : Firm) (y : ℕ) (n : FlowNode) → y < st.front → slice_get b.nodes y ≡ Some n
      → FirmBelow firm y → is_firm b.nodes firm n ≡ true
  node_firm firm y n l e a = both_firm (left_open (sure_of b.nodes firm) n)
      (right_open (sure_of b.nodes firm) n) (left_there firm y n l e a) (right_there firm y n l e a)

  -- the first nodes are found firm
  abbrev FirmTo : Firm → ℕ → Type 0
  FirmTo firm k = (j : ℕ) → j < k → j < st.front → firm j ≡ true

  all_firm : (found : List Bool) (rest : List FlowNode) (z : ℕ) → z ≡ length found + length rest
      → FirmTo (firm_of found) (length found)
      → ((i : ℕ) (n : FlowNode) (y : ℕ) → y ≡ length found + i → slice_get rest i ≡ Some n
      → slice_get b.nodes y ≡ Some n)
      → FirmTo (firm_of (firms_from b.nodes found rest)) z
  all_firm found [] z ez a at = λ j l. a j (omega (arith, ez, l))
  all_firm found (n ∷ rest) z ez a at =
      let t = is_firm b.nodes (firm_of found) n in
      let e : length found < st.front → t ≡ true =
      λ l. node_firm (firm_of found) (length found) n l (at zero n (length found) (omega arith) refl)
      (λ j k. a j k (omega (arith, k, l))) in
      let m = length_more found t in
      all_firm (found ++ (t ∷ [])) rest z (omega (arith, ez, m))
      (λ j l. one_more (λ (i : ℕ). i < st.front) found t e a j (omega (arith, l, m)))
      (λ i x y ey d. at (suc i) x y (omega (arith, ey, m)) d)

  self : {A : Type 0} (xs : List A) (i : ℕ) (x : A) (z : ℕ) → z ≡ 0 + i → slice_get xs i ≡ Some x
      → slice_get xs z ≡ Some x
  self xs i x z e s = let d : i ≡ z = omega (arith, e) in subst (λ (q : ℕ). slice_get xs q ≡ Some x) d s

  all_found : FirmBelow (firm_of (firms b.nodes)) st.front
  all_found j l =
      let w = st.within in
      all_firm [] b.nodes (length b.nodes) (omega arith) (λ i k. absurd (omega (arith, k)))
      (λ i n y e d. self b.nodes i n y e d) j (omega (arith, l, w)) l

  list_there : (ss : List FlowSource) → IsFed st.front ss → sure_by b None ss ≡ true
  list_there ss f = fed_sure (firm_of (firms b.nodes)) st.front ss all_found (omega arith) f

  write_fed : (j : ℕ) (w : FlowWrite) → slice_get b.writes j ≡ Some w → sure_by b None w.sources ≡ true
  write_fed j w e = list_there w.sources (st.writes j w e)

  number_fed : (k : ℕ) → number_open (sure_by b) b k ≡ false
  number_fed k = not_open (in_mask b.mask k) (sure_by b None (stores_of 0 b.nodes k))
      (λ e. list_there (stores_of 0 b.nodes k) (st.numbers k e))

-- Where each output surely gets a token, no cover is wanted and nothing is added.
module _ (b : FlowBlock)
    (write_there : (j : ℕ) (w : FlowWrite) → slice_get b.writes j ≡ Some w → sure_by b None w.sources ≡ true)
    (number_there : (k : ℕ) → number_open (sure_by b) b k ≡ false) where
  -- WHAT IS WANTED

  store_there : (x : Form) (n : FlowNode) → is_open_store (sure_by b) b x n ≡ false
  store_there form.Store n = number_there n.number
  store_there form.General n = refl
  store_there form.Immediate n = refl
  store_there form.Load n = refl
  store_there form.Branch n = refl
  store_there form.Constant n = refl

  none_open : (ns : List FlowNode) → NoneMarked (open_stores (sure_by b) b ns)
  none_open [] j = refl
  none_open (n ∷ ns) zero = store_there (form_of n.op) n
  none_open (n ∷ ns) (suc j) = none_open ns j

  writes_mark_none : (ws : List Bool) (xs : List FlowWrite)
      → ((i : ℕ) (w : FlowWrite) → slice_get xs i ≡ Some w → sure_by b None w.sources ≡ true)
      → mark_writes (sure_by b) ws xs ≡ ws
  writes_mark_none ws [] f = refl
  writes_mark_none ws (w ∷ xs) f =
      ap (λ (t : Bool). mark_writes (sure_by b) (mark_if (not t) ws w.sources) xs) (f zero w refl)
      ∙ writes_mark_none ws xs (λ i x e. f (suc i) x e)

  spreads_none : (ws : List Bool) → NoneMarked ws → (j : ℕ) (ns : List FlowNode) → spread (sure_by b) ws j ns ≡ ws
  spreads_none ws none j [] = refl
  spreads_none ws none j (n ∷ ns) =
      ap (λ (xs : List Bool). spread_at (sure_by b) j n xs) (spreads_none ws none (suc j) ns)
      ∙ ap (λ (t : Bool). cond t (mark_node (sure_by b) ws n) ws) (none j)

  wants_none : wants_of (sure_by b) b ≡ open_stores (sure_by b) b b.nodes
  wants_none =
      ap (λ (ws : List Bool). spread (sure_by b) ws 0 b.nodes)
      (writes_mark_none (open_stores (sure_by b) b b.nodes) b.writes write_there)
      ∙ spreads_none (open_stores (sure_by b) b b.nodes) (none_open b.nodes) 0 b.nodes

  none_found : (y : ℕ) → found_wants b y ≡ false
  none_found y = ap (λ (ws : List Bool). get_or ws y false) wants_none ∙ none_open b.nodes y

  test_passes : (w o k : Bool) → w ≡ false → o ≡ false → ((not w || k) && (not o || w)) ≡ true
  test_passes w o k e f = rw (e, f) refl

  nodes_pass : (j : ℕ) (ns : List FlowNode) → nodes_closed (sure_by b) (found_wants b) b j ns ≡ true
  nodes_pass j [] = refl
  nodes_pass j (n ∷ ns) =
      ap₂ (λ (s t : Bool). s && t)
      (test_passes (found_wants b j) (is_open_store (sure_by b) b (form_of n.op) n)
      (node_closed (sure_by b) (found_wants b) n) (none_found j) (store_there (form_of n.op) n))
      (nodes_pass (suc j) ns)

  writes_pass : (xs : List FlowWrite) → ((i : ℕ) (w : FlowWrite) → slice_get xs i ≡ Some w
      → sure_by b None w.sources ≡ true) → writes_closed (sure_by b) (found_wants b) xs ≡ true
  writes_pass [] f = refl
  writes_pass (w ∷ xs) f =
      ap₂ (λ (s t : Bool). (s || each_wanted (found_wants b) w.sources) && t) (f zero w refl)
      (writes_pass xs (λ i x e. f (suc i) x e))

  passes : is_closed (sure_by b) (found_wants b) b ≡ true
  passes = ap₂ (λ (s t : Bool). s && t) (nodes_pass 0 b.nodes) (writes_pass b.writes write_there)

  none_wanted : (y : ℕ) → want_by b y ≡ false
  none_wanted y = ap (λ (t : Bool). cond t (found_wants b y) true) passes ∙ none_found y

  -- NOTHING IS ADDED

  none_used : (j : ℕ) (ns : List FlowNode) (s : Bool) (y : ℕ) → is_used (want_by b) j ns s y ≡ false
  none_used j [] s y = refl
  none_used j (n ∷ ns) s y =
      ap₂ (λ (t u : Bool). (t && guard_is s y n.guard) || u) (none_wanted j) (none_used (suc j) ns s y)

  abbrev c : Cover
  c = cover (sure_by b) (want_by b) b

  guards_empty : (s : Bool) (p : ℕ) → region (guard_part (want_by b) b.nodes c s)
      (guard_part_size (want_by b) b.nodes (sure_by b) s) p 0 b.nodes ≡ []
  guards_empty s p =
      region_empty (guard_part (want_by b) b.nodes c s)
      (guard_part_size (want_by b) b.nodes (sure_by b) s) p 0 b.nodes
      (λ i n e q k. none_if (is_used (want_by b) 0 b.nodes s k) (guard_group q s k (c (Node k)))
      (none_used 0 b.nodes s k))

  lefts_empty : (p : ℕ) → region (left_part (sure_by b) (want_by b) c)
      (left_size (sure_by b) (want_by b)) p 0 b.nodes ≡ []
  lefts_empty p =
      region_empty (left_part (sure_by b) (want_by b) c) (left_size (sure_by b) (want_by b)) p 0 b.nodes
      (λ i n e q k.
      none_if (left_needed (sure_by b) (want_by b) k n)
      (copy_under n.guard (list_top c (suc q) n.left) ∷ list_nodes c (suc q) n.left)
      (ap (λ (t : Bool). t && left_open (sure_by b) n) (none_wanted k)))

  rights_empty : (p : ℕ) → region (right_part (sure_by b) (want_by b) c)
      (right_size (sure_by b) (want_by b)) p 0 b.nodes ≡ []
  rights_empty p =
      region_empty (right_part (sure_by b) (want_by b) c) (right_size (sure_by b) (want_by b)) p 0 b.nodes
      (λ i n e q k.
      none_if (right_needed (sure_by b) (want_by b) k n)
      (both_under n.guard n.left (list_top c (suc q) n.right) ∷ list_nodes c (suc q) n.right)
      (ap (λ (t : Bool). t && right_open (sure_by b) n) (none_wanted k)))

  writes_empty : (p : ℕ) → region (write_part (sure_by b) (want_by b) b)
      (write_size (sure_by b) (want_by b) b) p 0 b.writes ≡ []
  writes_empty p =
      region_empty (write_part (sure_by b) (want_by b) b) (write_size (sure_by b) (want_by b) b) p 0 b.writes
      (λ i w e q k. none_but (sure_by b None w.sources) (list_nodes c q w.sources) (write_there i w e))

  numbers_empty : (m p k : ℕ) → numbers_part (sure_by b) (want_by b) b p k m ≡ []
  numbers_empty zero p k = refl
  numbers_empty (suc m) p k =
      ap₂ (λ (xs ys : List FlowNode). xs ++ ys)
      (none_if (number_open (sure_by b) b k)
      (null_store_of k (list_top c (suc p) (stores_of 0 b.nodes k)) ∷ list_nodes c (suc p)
      (stores_of 0 b.nodes k)) (number_there k))
      (numbers_empty m (p + number_size (sure_by b) (want_by b) b k) (suc k))

  all_empty : all_numbers (sure_by b) (want_by b) b ≡ []
  unfolding all_numbers
  all_empty = numbers_empty 32 (numbers_at (sure_by b) (want_by b) b) 0

  none_added : added (sure_by b) (want_by b) b ≡ []
  none_added =
      ap₂ (λ (xs ys : List FlowNode). xs ++ ys) (guards_empty true _)
      (ap₂ (λ (xs ys : List FlowNode). xs ++ ys) (guards_empty false _)
      (ap₂ (λ (xs ys : List FlowNode). xs ++ ys) (lefts_empty _)
      (ap₂ (λ (xs ys : List FlowNode). xs ++ ys) (rights_empty _)
      (ap₂ (λ (xs ys : List FlowNode). xs ++ ys) (writes_empty _) all_empty))))

  filled_same : (p j : ℕ) (xs : List FlowWrite)
      → ((i : ℕ) (w : FlowWrite) → slice_get xs i ≡ Some w → sure_by b None w.sources ≡ true)
      → filled_all (sure_by b) (want_by b) b p j xs ≡ xs
  filled_same p j [] f = refl
  filled_same p j (w ∷ xs) f =
      ap₂ (λ (ss : List FlowSource) (ys : List FlowWrite). record { register = w.register; sources = ss } ∷ ys)
      (ap (λ (t : Bool). w.sources ++ cond t [] (list_top c p w.sources)) (f zero w refl) ∙ no_end w.sources)
      (filled_same (p + write_size (sure_by b) (want_by b) b j w) (suc j) xs (λ i x e. f (suc i) x e))

  -- a block whose outputs surely get a token each stays as it is
  pub supplied_stays : complete b ≡ b
  supplied_stays =
      ap₂ (λ (ns : List FlowNode) (ws : List FlowWrite).
      record { nodes = ns; reads = b.reads; writes = ws; mask = b.mask })
      (ap (λ (xs : List FlowNode). b.nodes ++ xs) none_added ∙ no_end b.nodes)
      (filled_same (writes_at (sure_by b) (want_by b) b) 0 b.writes write_there)

-- a block whose outputs hang on unguarded nodes stays as it is
pub stays : (b : FlowBlock) → IsStraight b → complete b ≡ b
stays b st = supplied_stays b (write_fed b st) (number_fed b st)
