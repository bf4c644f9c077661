-- A converted block fits: its fields, its sources, and an order.
use Rattle.std.proofs.Common.{◌≡◌, ◌≢◌, ℕ, zero, suc, ◌+◌, ◌^◌, ◌<◌, ◌≤◌, List, [], ◌∷◌, length}
use Rattle.std.proofs.Common.{length-append, refl, sym, ap, subst, ◌∙◌, arith, cond, nat_eq, Bool, true}
use Rattle.std.proofs.Common.{false, ◌⊎◌, inl, inr}
use Rattle.std.specs.Prelude.{Option, Some, None}
use Rattle.std.proofs.lemmas.Bool.Decides.{nat_tests}
use Rattle.std.proofs.lemmas.Bool.{cases_lt}
use Rattle.trips_isa.specs.declared.form.Form.{Form}
use Rattle.trips_isa.specs.declared.form.Form.TheVariants as form
use Rattle.trips_isa.specs.Forms.{form_of}
use Rattle.ir_forms.specs.declared.flow.FlowSource.{FlowSource}
use Rattle.ir_forms.specs.declared.flow.FlowSource.TheVariants.{Read, Node}
use Rattle.ir_forms.specs.declared.flow.FlowNode.{FlowNode}
use Rattle.predication.specs.inside.Environments.{Scope, Env, member, no_bits, at_start}
use Rattle.predication.specs.inside.Converted.{begun, ended, all_nodes, all_written, predicated, writes_below}
use Rattle.hyper_narrow.specs.inside.NarrowedCode.{Narrowed}
use Rattle.predication.specs.inside.Converted.{has_store, mask_below}
use Rattle.ir_forms.specs.inside.HyperCode.{Block}
use Rattle.std.proofs.Common.{◌||◌}
use Rattle.std.specs.Prelude.{All, slice_get}
use Rattle.std.specs.List.{Contains}
use Rattle.std.proofs.lemmas.List.Elements.{All-nil, All-cons}
use Rattle.std.proofs.lemmas.Option.{slice_get_within}
use Rattle.ir_forms.specs.declared.flow.FlowWrite.{FlowWrite}
use Rattle.ir_forms.specs.declared.flow.FlowBlock.{FlowBlock}
use Rattle.ir_forms.specs.inside.FlowFits.{FitsNode, FitsWrite, FitsFlowSource, FitsGuard, RisesFrom, RisesFromGuard}
use Rattle.predication.specs.inside.Converted.{reads_in, nodes_read, writes_read, reads_below}
use Rattle.ir_forms.specs.inside.HyperFits.{FitsHyper}
use Rattle.predication.specs.inside.Laws.{HasRoom, ConvertsFitting}
use Rattle.predication.proofs.Numbers.{Rises, IsNext, next_after, next_le}
use Rattle.predication.proofs.Converted.{block_rises, converts_paths}
use Rattle.ir_forms.specs.inside.FlowRegular.{is_silent}
use Rattle.predication.proofs.Static.{EachGood, GoodGuard, Well, Static, Heard, GoodEnv, static_append}
use Rattle.predication.proofs.Static.{heard_front, heard_back, no_bits_good}
use Rattle.predication.proofs.StaticItems.{items_static}
use Rattle.predication.proofs.StaticTails.{tail_static}
use Rattle.predication.proofs.StaticTails.{tail_number}

-- what holds of each item of a list holds of all
pub all_from : {A : Type 0} (P : A → Type 0) (xs : List A) → ((k : ℕ) (x : A) → slice_get xs k ≡ Some x → P x)
    → All P xs
all_from P [] f = All-nil P
all_from P (x ∷ xs) f = All-cons P x xs (f zero x refl) (all_from P xs (λ k y e. f (suc k) y e))

-- nodes that give tokens to others
abbrev pub Talks : List FlowNode → ℕ → Type 0
Talks ns i = (n : FlowNode) → slice_get ns i ≡ Some n → is_silent (form_of n.op) ≡ false

heard_from : (T : ℕ → Type 0) (ns : List FlowNode) (j : ℕ)
    → ((i : ℕ) (n : FlowNode) → slice_get ns i ≡ Some n → is_silent (form_of n.op) ≡ false → T (j + i)) → Heard T j ns
heard_from T [] j f = tt
heard_from T (n ∷ ns) j f =
    let z : j + 0 ≡ j = omega arith in (
      (λ e. subst T z (f 0 n refl e)),
      heard_from T ns (suc j)
          (λ i m e s. let y : j + suc i ≡ suc j + i = omega arith in subst T y (f (suc i) m e s)),
    )

same_node : (n m : FlowNode) (x : Option FlowNode) → x ≡ Some n → x ≡ Some m → n ≡ m
same_node n m x p q = cc

heard_all : (ns : List FlowNode) → Heard (Talks ns) 0 ns
heard_all ns = heard_from (Talks ns) ns 0 (λ i n e s.
    let z : i ≡ 0 + i = omega arith in
    subst (Talks ns) z (λ m e2. ap (λ (q : FlowNode). is_silent (form_of q.op)) (same_node m n (slice_get ns i) e2 e)
    ∙ s))

-- each of some nodes that are well is so at its number
pub static_at : (T : ℕ → Type 0) (ns : List FlowNode) (j i : ℕ) (n : FlowNode) → Static T j ns → slice_get ns i
    ≡ Some n → Well T (j + i) n
static_at T [] j i n s e = absurd (cc)
static_at T (m ∷ ns) j zero n s e =
    let z : j ≡ j + 0 = omega arith in
    let q : m ≡ n = cc in
    subst (λ (p : FlowNode). Well T (j + 0) p) q (subst (λ (k : ℕ). Well T k m) z s.0)
static_at T (m ∷ ns) j (suc i) n s e = let z : suc j + i ≡ j + suc i =
    omega arith in subst (λ (k : ℕ). Well T k n) z (static_at T ns (suc j) i n s.1 e)

-- THE WHOLE BLOCK

pub record Made (b : Block) : Type 0 where
  pub nodes : Static (Talks (all_nodes b)) 0 (all_nodes b)
  pub env : GoodEnv (Talks (all_nodes b)) (length (all_nodes b)) (ended b).env

start_good : (T : ℕ → Type 0) (j : ℕ) → GoodEnv T j at_start
start_good T j q = (tt, (tt, tt))

-- a hyper block that fits and has room is made into nodes that are well
pub made : (b : Block) → FitsHyper b → HasRoom b → Made b
made b t room =
    let all = all_nodes b in
    let T = Talks all in
    let xs = (begun b).nodes in
    let ys = (ended b).nodes in
    let hd = heard_all all in
    let x = items_static T b.items None 0 0 at_start no_bits t.items tt (start_good T 0) (no_bits_good T 0)
    (heard_front T 0 xs ys hd) room.numbers in
    let z : 0 + length xs ≡ length xs = omega arith in
    let hb = subst (λ (k : ℕ). Heard T k ys) z (heard_back T 0 xs ys hd) in
    let le : (ended b).number ≤ 8 = omega (
      arith,
      room.exits,
      tail_number T b.tail None (length xs) 0 (begun b).env (begun b).bits,
    ) in
    let y = tail_static T b.tail None (length xs) 0 (begun b).env (begun b).bits t.tail tt
    (x.env (length xs) (omega arith)) (x.bits (length xs) (omega arith)) hb le in
    record {
      nodes = static_append T 0 xs ys x.nodes (subst (λ (k : ℕ). Static T k ys) (sym z) y.nodes);
      env = y.env (length all) (omega (arith, length-append xs ys));
    }

-- READS

or_left : (a b : Bool) → a ≡ true → (a || b) ≡ true
or_left a b e = rw e refl

or_right : (a b : Bool) → b ≡ true → (a || b) ≡ true
or_right true b e = refl
or_right false b e = e

read_here : (r : ℕ) (ss : List FlowSource) → reads_in (Read r ∷ ss) r ≡ true
read_here r ss = or_left (nat_eq r r) (reads_in ss r) (grind (arith, nat_tests))

read_there : (s : FlowSource) (ss : List FlowSource) (r : ℕ) → reads_in ss r ≡ true → reads_in (s ∷ ss) r ≡ true
read_there (Read q) ss r e = or_right (nat_eq q r) (reads_in ss r) e
read_there (Node j) ss r e = e

left_read : (ns : List FlowNode) (i : ℕ) (n : FlowNode) (r : ℕ) → slice_get ns i ≡ Some n → reads_in n.left r ≡ true
    → nodes_read ns r ≡ true
left_read [] i n r e x = absurd (cc)
left_read (m ∷ ns) zero n r e x = let q : m ≡ n = cc in or_left (reads_in m.left r)
    (reads_in m.right r || nodes_read ns r) (ap (λ (p : FlowNode). reads_in p.left r) q ∙ x)
left_read (m ∷ ns) (suc i) n r e x = or_right (reads_in m.left r) _
    (or_right (reads_in m.right r) (nodes_read ns r) (left_read ns i n r e x))

right_read : (ns : List FlowNode) (i : ℕ) (n : FlowNode) (r : ℕ) → slice_get ns i ≡ Some n → reads_in n.right r
    ≡ true → nodes_read ns r ≡ true
right_read [] i n r e x = absurd (cc)
right_read (m ∷ ns) zero n r e x =
    let q : m ≡ n = cc in
    or_right (reads_in m.left r) _ (or_left (reads_in m.right r) (nodes_read ns r)
    (ap (λ (p : FlowNode). reads_in p.right r) q ∙ x))
right_read (m ∷ ns) (suc i) n r e x = or_right (reads_in m.left r) _
    (or_right (reads_in m.right r) (nodes_read ns r) (right_read ns i n r e x))

write_read : (ws : List FlowWrite) (i : ℕ) (w : FlowWrite) (r : ℕ) → slice_get ws i ≡ Some w → reads_in w.sources r
    ≡ true → writes_read ws r ≡ true
write_read [] i w r e x = absurd (cc)
write_read (v ∷ ws) zero w r e x = let q : v ≡ w =
    cc in or_left (reads_in v.sources r) (writes_read ws r) (ap (λ (p : FlowWrite). reads_in p.sources r) q ∙ x)
write_read (v ∷ ws) (suc i) w r e x = or_right (reads_in v.sources r) (writes_read ws r) (write_read ws i w r e x)

contains_more : (c : Bool) (x y : ℕ) (xs : List ℕ) → Contains xs y → Contains (cond c (x ∷ xs) xs) y
contains_more true x y xs k = (suc k.0, omega (arith, k.1), k.2)
contains_more false x y xs k = k

pub contains_read : (ns : List FlowNode) (ws : List FlowWrite) (n r : ℕ) → r < n
    → (nodes_read ns r || writes_read ws r) ≡ true → Contains (reads_below ns ws n) r
contains_read ns ws zero r l e = absurd (omega arith)
contains_read ns ws (suc n) r l e = go (nat_eq r n) refl (λ m. contains_read ns ws n r m e)
  where
    here : (c : Bool) → c ≡ true → Contains (cond c (n ∷ reads_below ns ws n) (reads_below ns ws n)) n
    here true z = (0, omega arith, refl)
    here false z = absurd (cc)

    go : (d : Bool) → nat_eq r n ≡ d → (r < n → Contains (reads_below ns ws n) r)
        → Contains (reads_below ns ws (suc n)) r
    go true d ih =
        let s : r ≡ n = grind (arith, nat_tests) in
        let z : (nodes_read ns n || writes_read ws n) ≡ true =
        subst (λ (q : ℕ). (nodes_read ns q || writes_read ws q) ≡ true) s e in
        subst (λ (q : ℕ). Contains (reads_below ns ws (suc n)) q) (sym s)
        (here (nodes_read ns n || writes_read ws n) z)
    go false d ih =
        let ne : r ≢ n = grind (arith, nat_tests) in
        contains_more (nodes_read ns n || writes_read ws n) n r (reads_below ns ws n) (ih (omega arith))

-- SOURCES

sources_fit : (b : FlowBlock) (T : ℕ → Type 0) (k : ℕ) (ss : List FlowSource) → k ≤ length b.nodes → EachGood T k ss
    → ((r : ℕ) → r < 128 → reads_in ss r ≡ true → Contains b.reads r) → All (FitsFlowSource b) ss
sources_fit b T k [] l g f = All-nil (FitsFlowSource b)
sources_fit b T k (Read r ∷ ss) l g f =
    All-cons (FitsFlowSource b) (Read r) ss (g.0, f r g.0 (read_here r ss))
    (sources_fit b T k ss l g.1 (λ q m e. f q m (read_there (Read r) ss q e)))
sources_fit b T k (Node j ∷ ss) l g f =
    All-cons (FitsFlowSource b) (Node j) ss (omega (arith, g.0.0, l))
    (sources_fit b T k ss l g.1 (λ q m e. f q m (read_there (Node j) ss q e)))

guard_fits : (b : FlowBlock) (T : ℕ → Type 0) (k : ℕ) (g : Scope) → k ≤ length b.nodes → GoodGuard T k g
    → FitsGuard b g
guard_fits b T k None l x = tt
guard_fits b T k (Some g) l x = omega (arith, x.0, l)

node_fits : (d : Narrowed) (i : ℕ) (n : FlowNode) → slice_get (all_nodes d.block) i ≡ Some n
    → Well (Talks (all_nodes d.block)) i n → FitsNode (predicated d) n
node_fits d i n e w =
    let ns = all_nodes d.block in
    let ws = writes_below (ended d.block).env (all_written d) 128 in
    let l : i ≤ length ns = let q = slice_get_within ns i n e in omega (arith, q) in
    record {
      form = w.form;
      guard = guard_fits (predicated d) (Talks ns) i n.guard l w.guard;
      left = sources_fit (predicated d) (Talks ns) i n.left l w.left
          (λ r m x. contains_read ns ws 128 r m (or_left (nodes_read ns r) (writes_read ws r)
          (left_read ns i n r e x)));
      right = sources_fit (predicated d) (Talks ns) i n.right l w.right
          (λ r m x. contains_read ns ws 128 r m (or_left (nodes_read ns r) (writes_read ws r)
          (right_read ns i n r e x)));
    }

-- WRITES

-- each write is of a register below n, and takes what stands for it
pub write_is : (env : Env) (rs : List ℕ) (n i : ℕ) (w : FlowWrite) → slice_get (writes_below env rs n) i ≡ Some w
    → (w.register < n) × (w.sources ≡ (env w.register).given)
write_is env rs zero i w e = absurd (cc)
write_is env rs (suc n) i w e = go (member n rs) i e (λ k x. write_is env rs n k w x)
  where
    less : (w.register < n) × (w.sources ≡ (env w.register).given)
        → (w.register < suc n) × (w.sources ≡ (env w.register).given)
    less x = (omega (arith, x.0), x.1)

    go : (c : Bool) (i : ℕ) → slice_get (cond c (record
        { register = n; sources = (env n).given } ∷ writes_below env rs n) (writes_below env rs n)) i ≡ Some w
        → ((k : ℕ) → slice_get (writes_below env rs n) k ≡ Some w
        → (w.register < n) × (w.sources ≡ (env w.register).given))
        → (w.register < suc n) × (w.sources ≡ (env w.register).given)
    go true zero e ih =
        let v : FlowWrite = record { register = n; sources = (env n).given } in
        let q : v ≡ w = cc in
        let P : FlowWrite → Type 0 = λ p. (p.register < suc n) × (p.sources ≡ (env p.register).given) in
        subst P q (omega arith, refl)
    go true (suc i) e ih = less (ih i e)
    go false i e ih = less (ih i e)

write_fits : (d : Narrowed) → Made d.block → (i : ℕ) (w : FlowWrite) → slice_get (predicated d).writes i ≡ Some w
    → FitsWrite (predicated d) w
write_fits d mk i w e =
    let ns = all_nodes d.block in
    let ws = writes_below (ended d.block).env (all_written d) 128 in
    let x = write_is (ended d.block).env (all_written d) 128 i w e in
    let g : EachGood (Talks ns) (length ns) w.sources =
    subst (λ (ss : List FlowSource). EachGood (Talks ns) (length ns) ss) (sym x.1) (mk.env w.register).0 in
    record {
      register = x.0;
      sources = sources_fit (predicated d) (Talks ns) (length ns) w.sources (omega arith) g
          (λ r m y. contains_read ns ws 128 r m (or_right (nodes_read ns r) (writes_read ws r)
          (write_read ws i w r e y)));
    }

-- THE MASK

-- a mask of n numbers is below 2^n
pub mask_lt : (ns : List FlowNode) (n : ℕ) → mask_below ns n < 2 ^ n
mask_lt ns zero = omega arith
mask_lt ns (suc n) = go (has_store ns n) (mask_lt ns n)
  where
    go : (c : Bool) → mask_below ns n < 2 ^ n → mask_below ns n + cond c (2 ^ n) 0 < 2 ^ suc n
    go true l = let p : 2 ^ suc n ≡ 2 ^ n + 2 ^ n = omega arith in omega (arith, l, p)
    go false l = let p : 2 ^ suc n ≡ 2 ^ n + 2 ^ n = omega arith in omega (arith, l, p)

-- ORDER

each_rises : (T : ℕ → Type 0) (k : ℕ) (ss : List FlowSource) → EachGood T k ss → All (RisesFrom (λ j. j) k) ss
each_rises T k [] g = All-nil (RisesFrom (λ j. j) k)
each_rises T k (Read r ∷ ss) g = All-cons (RisesFrom (λ j. j) k) (Read r) ss tt (each_rises T k ss g.1)
each_rises T k (Node j ∷ ss) g = All-cons (RisesFrom (λ j. j) k) (Node j) ss g.0.0 (each_rises T k ss g.1)

guard_rises : (T : ℕ → Type 0) (k : ℕ) (g : Scope) → GoodGuard T k g → RisesFromGuard (λ j. j) k g
guard_rises T k None x = tt
guard_rises T k (Some g) x = x.0

-- a load or a store at the head has the number, and passes it
abbrev pub is_numbered : Form → Bool
is_numbered form.Load = true
is_numbered form.Store = true
is_numbered _ = false

numbered_head : (F : Form) (n : FlowNode) (m : ℕ) → is_numbered F ≡ true → IsNext F n m
    → (n.number ≡ m) × (next_after F m ≡ suc m)
numbered_head form.Load n m e x = (x, refl)
numbered_head form.Store n m e x = (x, refl)
numbered_head form.General n m e x = absurd (cc)
numbered_head form.Immediate n m e x = absurd (cc)
numbered_head form.Branch n m e x = absurd (cc)
numbered_head form.Constant n m e x = absurd (cc)

number_from : (m m2 : ℕ) (ns : List FlowNode) (i : ℕ) (n : FlowNode) → Rises m ns m2 → slice_get ns i ≡ Some n
    → is_numbered (form_of n.op) ≡ true → m ≤ n.number
number_from m m2 [] i n r e z = absurd (cc)
number_from m m2 (k ∷ ns) zero n r e z =
    let q : k ≡ n = cc in
    let z2 : is_numbered (form_of k.op) ≡ true = ap (λ (p : FlowNode). is_numbered (form_of p.op)) q ∙ z in
    let h = numbered_head (form_of k.op) k m z2 r.0 in
    let e2 : k.number ≡ n.number = ap (λ (p : FlowNode). p.number) q in
    omega (arith, h.0, e2)
number_from m m2 (k ∷ ns) (suc i) n r e z = omega (
  arith,
  number_from (next_after (form_of k.op) m) m2 ns i n r.1 e z,
  next_le (form_of k.op) m,
)

-- of two, the one of the lower place has the lower number
pub numbers_order : (m m2 : ℕ) (ns : List FlowNode) (i j : ℕ) (a b : FlowNode) → Rises m ns m2 → slice_get ns i
    ≡ Some a → slice_get ns j ≡ Some b
    → is_numbered (form_of a.op) ≡ true → is_numbered (form_of b.op) ≡ true → i < j → a.number < b.number
numbers_order m m2 [] i j a b r x y p q l = absurd (cc)
numbers_order m m2 (k ∷ ns) i zero a b r x y p q l = absurd (omega arith)
numbers_order m m2 (k ∷ ns) zero (suc j) a b r x y p q l =
    let s : k ≡ a = cc in
    let p2 : is_numbered (form_of k.op) ≡ true = ap (λ (w : FlowNode). is_numbered (form_of w.op)) s ∙ p in
    let h = numbered_head (form_of k.op) k m p2 r.0 in
    let e2 : k.number ≡ a.number = ap (λ (w : FlowNode). w.number) s in
    let f = number_from (next_after (form_of k.op) m) m2 ns j b r.1 y q in
    omega (arith, h.0, h.1, e2, f)
numbers_order m m2 (k ∷ ns) (suc i) (suc j) a b r x y p q l =
    numbers_order (next_after (form_of k.op) m) m2 ns i j a b r.1 x y p q (omega arith)

-- a store has a number
pub store_numbered : (F : Form) → F ≡ form.Store → is_numbered F ≡ true
store_numbered F e = ap is_numbered e

-- a load has a number
pub load_numbered : (F : Form) → F ≡ form.Load → is_numbered F ≡ true
load_numbered F e = ap is_numbered e

-- of two numbers one is less, or they are equal
pub before_or : (i j : ℕ) → (i < j) ⊎ ((i ≡ j) ⊎ (j < i))
before_or i j = go (cases_lt i j) (cases_lt j i)
  where
    go : (i < j) ⊎ (j ≤ i) → (j < i) ⊎ (i ≤ j) → (i < j) ⊎ ((i ≡ j) ⊎ (j < i))
    go (inl l) y = inl l
    go (inr l) (inl m) = inr (inr m)
    go (inr l) (inr m) = let e : i ≡ j = omega arith in inr (inl e)

stores_before : (b : Block) → FitsHyper b → (i j : ℕ) (m n : FlowNode) → slice_get (all_nodes b) i ≡ Some m
    → slice_get (all_nodes b) j ≡ Some n
    → form_of m.op ≡ form.Store → form_of n.op ≡ form.Load → m.number < n.number → i < j
stores_before b t i j m n x y s l less = go (before_or i j)
  where
    go : (i < j) ⊎ ((i ≡ j) ⊎ (j < i)) → i < j
    go (inl p) = p
    go (inr (inl p)) =
        let q : m ≡ n = same_node m n (slice_get (all_nodes b) j) (ap (slice_get (all_nodes b)) (sym p) ∙ x) y in
        let e : m.number ≡ n.number = ap (λ (w : FlowNode). w.number) q in
        absurd (omega (arith, e, less))
    go (inr (inr p)) =
        let z = numbers_order 0 (begun b).number (all_nodes b) j i n m (block_rises b t) y x
        (load_numbered (form_of n.op) l) (store_numbered (form_of m.op) s) p in
        absurd (omega (arith, z, less))

-- the converted block fits
pub converts_fitting : ConvertsFitting
converts_fitting d t room =
    let b = d.block in
    let mk = made b t room in
    let ns = all_nodes b in
    let at : (i : ℕ) (n : FlowNode) → slice_get ns i ≡ Some n → Well (Talks ns) i n =
    λ i n e. let z : 0 + i ≡ i = omega arith in subst (λ (k : ℕ). Well (Talks ns) k n) z
    (static_at (Talks ns) ns 0 i n mk.nodes e) in
    record {
      nodes = all_from (FitsNode (predicated d)) ns (λ i n e. node_fits d i n e (at i n e));
      writes = all_from (FitsWrite (predicated d)) (predicated d).writes (λ i w e. write_fits d mk i w e);
      mask = mask_lt ns 32;
      order = (
        (λ j. j),
        record {
          sources = λ j n e.
              let w = at j n e in
              record {
                left = each_rises (Talks ns) j n.left w.left;
                right = each_rises
                    (Talks ns) j n.right w.right;
                guard = guard_rises (Talks ns) j n.guard w.guard;
              };
          stores = λ i j m n x y s l less. stores_before b t i j m n x y s l less;
        },
      );
      tidy = λ regs f h o. (converts_paths d t regs f h o).tidy;
      one = λ regs f h o. (converts_paths d t regs f h o).one;
    }
