-- In a block without a cycle one table agrees with itself in an entry state, and it is the one that
-- is pulled.
use Rattle.std.proofs.Common.{◌≡◌, ℕ, zero, suc, ◌+◌, ◌<◌, Bool, true, false, cond, List, [], ◌∷◌}
use Rattle.std.proofs.Common.{Option, Some, None, slice_get, slice_index, refl, sym, ap, ◌∙◌, subst, arith}
use Rattle.std.proofs.Math.Path.{fun_ext}
use Rattle.std.proofs.lemmas.Bool.Decides.{nat_tests}
use Rattle.trips_isa.specs.declared.node.Node.{Node}
use Rattle.trips_isa.specs.declared.form.Form.{Form}
use Rattle.trips_isa.specs.declared.form.Form.TheVariants.{General, Immediate, Load, Store, Branch}
use Rattle.trips_isa.specs.declared.form.Form.TheVariants.{Constant}
use Rattle.trips_isa.specs.declared.block.Inst.{Inst}
use Rattle.trips_isa.specs.declared.block.Stored.{Stored}
use Rattle.trips_isa.specs.declared.block.Block.{Block}
use Rattle.trips_isa.specs.Alu.{loaded_as}
use Rattle.trips_isa.specs.Forms.{form_of, size_of}
use Rattle.trips_isa.specs.Rule.{Answer}
use Rattle.trips_isa.specs.Places.{targets, names, load_bound, inst_node, nodes_of}
use Rattle.trips_isa.specs.Tables.{node_gives, Edge, Ranked, IsRanked, stores_below, deepest}
use Rattle.trips_isa.specs.Stores.{stored_of, byte_seen, bytes_seen, load_of, address_of}
use Rattle.trips_isa.specs.Stores.{is_good_address}
use Rattle.trips_isa.specs.Blocks.{form_computes, slot_computes, is_read, slot_at, inst_at}
use Rattle.trips_isa.specs.Blocks.{computes_if_read, computes, at_place, stored_in, stored_if_read}
use Rattle.trips_isa.specs.Blocks.{stored_by, store_of, slot_answered, answered_if_read, responses_in}
use Rattle.trips_isa.specs.Blocks.{given, token_of}
use Rattle.trips_isa.specs.inside.Blocks.{Solves}
use Rattle.trips_isa.specs.Limits.{most_nodes}
use Rattle.block_cases.proofs.Steady.{or_right, to_left, to_right, to_predicate, deepest_is}
use Rattle.block_cases.proofs.Nodes.{taken_same, slot_got}
use Rattle.block_cases.proofs.Unique.{node_same}

pub byte_seen_same : (s s' : ℕ → Option Stored) (mem : ℕ → ℕ) (n a : ℕ)
    → ((k : ℕ) → k < n → s k ≡ s' k) → byte_seen s mem n a ≡ byte_seen s' mem n a
byte_seen_same s s' mem zero a f = refl
byte_seen_same s s' mem (suc n) a f = rw (
  f n (omega arith),
  byte_seen_same s s' mem n a (λ k l. f k (omega arith)),
) refl

-- bytes seen behind stores hang on the stores of lower numbers alone
pub bytes_seen_same : (s s' : ℕ → Option Stored) (mem : ℕ → ℕ) (n a k : ℕ)
    → ((m : ℕ) → m < n → s m ≡ s' m) → bytes_seen s mem n a k ≡ bytes_seen s' mem n a k
bytes_seen_same s s' mem n a zero f = refl
bytes_seen_same s s' mem n a (suc k) f = rw
    (bytes_seen_same s s' mem n a k f, byte_seen_same s s' mem n (a + k) f) refl

-- a load hangs on what it is answered, address by address
pub load_same : (i : Inst) (answer answer' : ℕ → ℕ) (left : ℕ) → ((a : ℕ) → answer a ≡ answer' a)
    → load_of i answer left ≡ load_of i answer' left
load_same i answer answer' left h = ap (λ v. cond
    (is_good_address (address_of i left) (size_of i.op)) (loaded_as i.op v) 0) (h (address_of i left))

-- a table at the nodes that feed another
abbrev pub Below : (b : Block) (f g : ℕ → Answer) (x : ℕ) → Type 0
Below b f g x = (y : ℕ) → Edge (nodes_of b) y x → f y ≡ g y

stored_same : (b : Block) (f g : ℕ → Answer) (y : ℕ) (m : Node) → slice_get (nodes_of b) y ≡ Some m
    → f y ≡ g y → Below b f g y → stored_by b f y ≡ stored_by b g y
stored_same b f g y m i e h = go (is_read b y) refl
  where
    go : (v : Bool) → is_read b y ≡ v → stored_if_read v b f y ≡ stored_if_read v b g y
    go true r = refl
    go false r = ap (stored_in b f (slot_at b y) (inst_at b y)) e ∙ inner (inst_at b y) (g y)
      where
        is : m.slot ≡ slot_at b y
        is = ap (λ (n : Node). n.slot) (slot_got b y m r i) ∙ slot (inst_at b y)
          where
            slot : (o : Option Inst) → (inst_node (slot_at b y) o).slot ≡ slot_at b y
            slot None = refl
            slot (Some k) = refl

        left : at_place b f (slot_at b y) ≡ at_place b g (slot_at b y)
        left = taken_same (nodes_of b) (slot_at b y) f g
            (λ z n j t. h z (to_left (nodes_of b) y z n m j i
            (subst (λ q. names (targets n) q ≡ true) (sym is) t)))

        right : at_place b f (128 + slot_at b y) ≡ at_place b g (128 + slot_at b y)
        right = taken_same (nodes_of b) (128 + slot_at b y) f g
            (λ z n j t. h z (to_right (nodes_of b) y z n m j i
            (subst (λ q. names (targets n) (128 + q) ≡ true) (sym is) t)))

        inner : (o : Option Inst) (t : Answer)
            → stored_in b f (slot_at b y) o t ≡ stored_in b g (slot_at b y) o t
        inner None t = refl
        inner (Some k) None = refl
        inner (Some k) (Some t) = ap (λ l. stored_of k l (at_place b f (128 + slot_at b y))) left
            ∙ ap (λ r. stored_of k (at_place b g (slot_at b y)) r) right

named_below : (ts : List ℕ) (m k : ℕ) → m < k → names ts (416 + m) ≡ true
    → stores_below ts (416 + k) ≡ true
named_below [] m k l e = absurd (cc)
named_below (t ∷ ts) m k l e = grind (arith, nat_tests, named_below ts m k l)

to_load : (b : Block) (x y : ℕ) (m n : Node) → slice_get (nodes_of b) y ≡ Some m
    → slice_get (nodes_of b) x ≡ Some n → stores_below (targets m) n.below ≡ true
    → Edge (nodes_of b) y x
to_load b x y m n i j e = record {
  source = m;
  target = n;
  is_source = i;
  is_target = j;
  fed = or_right (names (targets m) n.slot) _
      (or_right (names (targets m) (128 + n.slot)) _
      (or_right (names (targets m) (256 + n.slot)) _ e));
}

-- what node x gives hangs on the nodes of lower rank alone
pub given_below : (b : Block) (regs mem : List ℕ) (rank : ℕ → ℕ) → Ranked (nodes_of b) rank
    → (f g : ℕ → Answer) (x : ℕ) → ((y : ℕ) → rank y < rank x → f y ≡ g y)
    → given b regs mem f x ≡ given b regs mem g x
unfolding given
given_below b regs mem rank o f g x h = go (slice_get (nodes_of b) x) refl
  where
    edge : Below b f g x
    edge y e = h y (o.rises y x e)

    store : (n : Node) (m : ℕ) → slice_get (nodes_of b) x ≡ Some n
        → ((k : Node) → names (targets k) (416 + m) ≡ true → stores_below (targets k) n.below ≡ true)
        → store_of b f m ≡ store_of b g m
    store n m j low = taken_same (nodes_of b) (416 + m) (stored_by b f) (stored_by b g) (λ y k i t.
        let e : Edge (nodes_of b) y x = to_load b x y k n i j (low k t) in
        let up : rank y < rank x = o.rises y x e in
        stored_same b f g y k i (h y up) (λ z d. let lower : rank z < rank y = o.rises z y d in h z (omega arith)))

    computed : (n : Node) → slice_get (nodes_of b) x ≡ Some n → (l r : ℕ)
        → computes b (responses_in b regs mem f) x l r ≡ computes b (responses_in b regs mem g) x l r
    computed n j l r = by (is_read b x) refl
      where
        by : (v : Bool) → is_read b x ≡ v
            → computes_if_read v b (λ a. answered_if_read v b regs mem f x a) x l r
            ≡ computes_if_read v b (λ a. answered_if_read v b regs mem g x a) x l r
        by true e = refl
        by false e = slot (inst_at b x) (slot_got b x n e j)
          where
            slot : (s : Option Inst) → n ≡ inst_node (slot_at b x) s
                → slot_computes s (λ a. slot_answered (store_of b f) mem s a) l r
                ≡ slot_computes s (λ a. slot_answered (store_of b g) mem s a) l r
            slot None k = refl
            slot (Some i) k = form (form_of i.op) (ap (λ (m : Node). m.below) k)
              where
                form : (t : Form) → n.below ≡ load_bound t i.number
                    → form_computes t i (λ a. bytes_seen (store_of b f) (slice_index mem) i.number a (size_of i.op))
                    l r ≡ form_computes t i
                    (λ a. bytes_seen (store_of b g) (slice_index mem) i.number a (size_of i.op)) l r
                form General u = refl
                form Immediate u = refl
                form Constant u = refl
                form Store u = refl
                form Branch u = refl
                form Load u = load_same i _ _ l
                    (λ a. bytes_seen_same (store_of b f) (store_of b g) (slice_index mem) i.number a (size_of i.op)
                    (λ m lt. store n m j (λ k t. subst (λ q. stores_below (targets k) q ≡ true)
                    (sym u) (named_below (targets k) m i.number lt t))))

    go : (s : Option Node) → slice_get (nodes_of b) x ≡ s
        → node_gives s (computes b (responses_in b regs mem f) x) (at_place b f)
        ≡ node_gives s (computes b (responses_in b regs mem g) x) (at_place b g)
    go None j = refl
    go (Some n) j =
        ap (λ (a : ℕ → ℕ → ℕ). node_gives (Some n) a (at_place b f))
        (fun_ext (λ l. fun_ext (λ r. computed n j l r)))
        ∙ node_same n (computes b (responses_in b regs mem g) x) (at_place b f) (at_place b g)
        (taken_same (nodes_of b) n.slot f g
        (λ y m i e. edge y (to_left (nodes_of b) x y m n i j e)))
        (taken_same (nodes_of b) (128 + n.slot) f g
        (λ y m i e. edge y (to_right (nodes_of b) x y m n i j e)))
        (taken_same (nodes_of b) (256 + n.slot) f g
        (λ y m i e. edge y (to_predicate (nodes_of b) x y m n i j e)))

-- a table that agrees with itself gives what is pulled
only_at : (b : Block) (regs mem : List ℕ) (rank : ℕ → ℕ) → Ranked (nodes_of b) rank
    → (h : ℕ → Answer) → ((x : ℕ) → h x ≡ given b regs mem h x) → (k x : ℕ) → rank x < k
    → h x ≡ token_of b regs mem k x
only_at b regs mem rank o h s zero x l = absurd (omega arith)
only_at b regs mem rank o h s (suc k) x l =
    s x ∙ given_below b regs mem rank o h (token_of b regs mem k) x
    (λ y up. only_at b regs mem rank o h s k y (omega arith))

-- a table that agrees with its rule at each node is the one of tokens at the greatest depth
pub only_table : (b : Block) (regs mem : List ℕ) → IsRanked (nodes_of b) → (h : ℕ → Answer)
    → ((x : ℕ) → h x ≡ given b regs mem h x) → (x : ℕ) → h x ≡ token_of b regs mem deepest x
only_table b regs mem r h s x = only_at b regs mem r.0 r.1 h s deepest x (let o : Ranked (nodes_of b) r.0 = r.1 in
    let low : r.0 x < most_nodes = o.below x in let e : deepest ≡ most_nodes = deepest_is in omega arith)

-- enough rounds from any table forget it
abbrev pub rounds_from : Block → List ℕ → List ℕ → (ℕ → Answer) → ℕ → ℕ → Answer
rounds_from b regs mem g zero x = g x
rounds_from b regs mem g (suc k) x = given b regs mem (rounds_from b regs mem g k) x

-- above a node's rank its token hangs neither on the depth nor on what the rounds began with
pub rounds_forget : (b : Block) (regs mem : List ℕ) (rank : ℕ → ℕ) → Ranked (nodes_of b) rank
    → (g : ℕ → Answer) (k m x : ℕ) → rank x < k → rank x < m
    → rounds_from b regs mem g k x ≡ token_of b regs mem m x
rounds_forget b regs mem rank o g zero m x h i = absurd (omega arith)
rounds_forget b regs mem rank o g (suc k) zero x h i = absurd (omega arith)
rounds_forget b regs mem rank o g (suc k) (suc m) x h i =
    given_below b regs mem rank o (rounds_from b regs mem g k) (token_of b regs mem m) x
    (λ y up. rounds_forget b regs mem rank o g k m y (omega arith) (omega arith))

deeper_same : (b : Block) (regs mem : List ℕ) (rank : ℕ → ℕ) → Ranked (nodes_of b) rank
    → (k m x : ℕ) → rank x < k → rank x < m → token_of b regs mem k x ≡ token_of b regs mem m x
deeper_same b regs mem rank o zero m x h i = absurd (omega arith)
deeper_same b regs mem rank o (suc k) zero x h i = absurd (omega arith)
deeper_same b regs mem rank o (suc k) (suc m) x h i =
    given_below b regs mem rank o (token_of b regs mem k) (token_of b regs mem m) x
    (λ y up. deeper_same b regs mem rank o k m y (omega arith) (omega arith))

-- depth `deepest` reaches the table
reached : (b : Block) (regs mem : List ℕ) (rank : ℕ → ℕ) → Ranked (nodes_of b) rank → (d x : ℕ)
    → rank x < d → token_of b regs mem d x ≡ given b regs mem (token_of b regs mem d) x
reached b regs mem rank o zero x h = absurd (omega arith)
reached b regs mem rank o (suc k) x h =
    given_below b regs mem rank o (token_of b regs mem k) (token_of b regs mem (suc k)) x
    (λ y up. deeper_same b regs mem rank o k (suc k) y (omega arith) (omega arith))

-- the tokens at the greatest depth agree with their rule
pub token_settled : (b : Block) (regs mem : List ℕ) → IsRanked (nodes_of b) → (x : ℕ)
    → token_of b regs mem deepest x ≡ given b regs mem (token_of b regs mem deepest) x
token_settled b regs mem r x = reached b regs mem r.0 r.1 deepest x (let o : Ranked (nodes_of b) r.0 = r.1 in
    let low : r.0 x < most_nodes = o.below x in let e : deepest ≡ most_nodes = deepest_is in omega arith)

-- the same of solutions
pub only_solution : (b : Block) (regs mem : List ℕ) → IsRanked (nodes_of b) → (g : ℕ → Answer)
    → Solves b (responses_in b regs mem g) g → (x : ℕ) → g x ≡ token_of b regs mem deepest x
unfolding given
only_solution b regs mem r g s = only_table b regs mem r g s

-- the tokens at the greatest depth solve the block by the responses that they are given
pub token_solves : (b : Block) (regs mem : List ℕ) → IsRanked (nodes_of b)
    → Solves b (responses_in b regs mem (token_of b regs mem deepest)) (token_of b regs mem deepest)
unfolding given
token_solves b regs mem r x = token_settled b regs mem r x
