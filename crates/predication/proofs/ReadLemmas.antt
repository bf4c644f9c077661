-- The registers that are found in one walk over the sources are those that some source reads.
use Rattle.std.proofs.Common.{◌≡◌, ℕ, zero, suc, ◌+◌, ◌-◌, ◌^◌, ◌<◌, ◌≤◌, Bool, true, false, cond, nat_eq, ◌||◌}
use Rattle.std.proofs.Common.{List, [], ◌∷◌, ◌++◌, length, get_or, take, drop, refl, sym, ap, subst, ◌∙◌, arith, OnOk}
use Rattle.std.specs.Prelude.{Result, Ok, Err}
use Rattle.std.proofs.lemmas.Bool.Decides.{nat_tests}
use Rattle.trips_isa.specs.Forms.{form_of}
use Rattle.ir_forms.specs.declared.flow.FlowSource.{FlowSource}
use Rattle.ir_forms.specs.declared.flow.FlowSource.TheVariants.{Read, Node}
use Rattle.ir_forms.specs.declared.flow.FlowNode.{FlowNode}
use Rattle.ir_forms.specs.declared.flow.FlowWrite.{FlowWrite}
use Rattle.predication.specs.inside.Environments.{member}
use Rattle.predication.specs.inside.Converted.{reads_in, nodes_read, writes_read, reads_below, stores_as}
use Rattle.predication.specs.inside.Converted.{has_store, mask_below}
use Rattle.predication.specs.inside.Made.{Notes, members_below, mask_members}
use Rattle.predication.proofs.TakenLegs.{member_append}

-- BOOLS

or_assoc : (a b c : Bool) → (a || b) || c ≡ a || (b || c)
or_assoc true b c = refl
or_assoc false b c = refl

or_end : (a : Bool) → a || false ≡ a
or_end true = refl
or_end false = refl

or_same : (a b c : Bool) → (b ≡ true → a ≡ true) → a || c ≡ a || (b || c)
or_same true b c f = refl
or_same false true c f = ap (λ (x : Bool). x || c) (f refl)
or_same false false c f = refl

or_last : (a b c : Bool) → cond a true (cond b true false) || c ≡ a || (b || c)
or_last true b c = refl
or_last false true c = refl
or_last false false c = refl

eq_swap : (q r : ℕ) → nat_eq r q ≡ nat_eq q r
eq_swap q r = go (nat_eq r q) refl (nat_eq q r) refl
  where
    go : (a : Bool) → nat_eq r q ≡ a → (b : Bool) → nat_eq q r ≡ b → a ≡ b
    go true e true f = refl
    go true e false f = absurd (grind (arith, nat_tests))
    go false e true f = absurd (grind (arith, nat_tests))
    go false e false f = refl

-- ONE REGISTER

-- that is found already
pub noted_before : (q : ℕ) (old : List ℕ) → member q old ≡ true → Notes old old (λ r. nat_eq q r)
noted_before q old m = λ r b. or_same (member r old) (nat_eq q r) b (λ e. here r e)
  where
    here : (r : ℕ) → nat_eq q r ≡ true → member r old ≡ true
    here r e =
        let same : q ≡ r = grind (arith, nat_tests) in
        subst (λ (i : ℕ). member i old ≡ true) same m

-- that is put behind the others
pub noted_last : (q : ℕ) (old : List ℕ) → Notes old (old ++ q ∷ []) (λ r. nat_eq q r)
noted_last q old = λ r b.
    ap (λ (x : Bool). x || b) (member_append r old (q ∷ []))
    ∙ ap (λ (x : Bool). cond (member r old) true (cond x true false) || b) (eq_swap q r)
    ∙ or_last (member r old) (nat_eq q r) b

-- that is found, as a source
pub noted_read : (q : ℕ) (old new : List ℕ) → Notes old new (λ r. nat_eq q r)
    → Notes old new (λ r. reads_in (Read q ∷ []) r)
noted_read q old new f = λ r b.
    f r b ∙ ap (λ (x : Bool). member r old || (x || b)) (sym (or_end (nat_eq q r)))

-- ONE AFTER ANOTHER

in_turn : (a b : ℕ → Bool) (old mid new : List ℕ) → Notes old mid a → Notes mid new b
    → Notes old new (λ r. a r || b r)
in_turn a b old mid new f g = λ r c.
    g r c ∙ f r (b r || c) ∙ ap (λ (x : Bool). member r old || x) (sym (or_assoc (a r) (b r) c))

reads_cons : (s : FlowSource) (ss : List FlowSource) (r : ℕ) → (reads_in (s ∷ []) r || reads_in ss r)
    ≡ reads_in (s ∷ ss) r
reads_cons (Read q) ss r = ap (λ (x : Bool). x || reads_in ss r) (or_end (nat_eq q r))
reads_cons (Node j) ss r = refl

pub noted_sources : (s : FlowSource) (ss : List FlowSource) (old mid new : List ℕ)
    → Notes old mid (λ r. reads_in (s ∷ []) r) → Notes mid new (λ r. reads_in ss r)
    → Notes old new (λ r. reads_in (s ∷ ss) r)
noted_sources s ss old mid new f g = λ r b.
    in_turn (λ r. reads_in (s ∷ []) r) (λ r. reads_in ss r) old mid new f g r b
    ∙ ap (λ (x : Bool). member r old || (x || b)) (reads_cons s ss r)

pub noted_nodes : (n : FlowNode) (ns : List FlowNode) (old one two new : List ℕ)
    → Notes old one (λ r. reads_in n.left r) → Notes one two (λ r. reads_in n.right r)
    → Notes two new (λ r. nodes_read ns r) → Notes old new (λ r. nodes_read (n ∷ ns) r)
noted_nodes n ns old one two new f g h =
    in_turn (λ r. reads_in n.left r) (λ r. reads_in n.right r || nodes_read ns r) old one new f
    (in_turn (λ r. reads_in n.right r) (λ r. nodes_read ns r) one two new g h)

pub noted_writes : (w : FlowWrite) (ws : List FlowWrite) (old mid new : List ℕ)
    → Notes old mid (λ r. reads_in w.sources r) → Notes mid new (λ r. writes_read ws r)
    → Notes old new (λ r. writes_read (w ∷ ws) r)
noted_writes w ws old mid new f g = in_turn (λ r. reads_in w.sources r) (λ r. writes_read ws r) old mid new f g

pub noted_stores : (n : FlowNode) (ns : List FlowNode) (old mid new : List ℕ)
    → Notes old mid (λ k. stores_as (form_of n.op) n k) → Notes mid new (λ k. has_store ns k)
    → Notes old new (λ k. has_store (n ∷ ns) k)
noted_stores n ns old mid new f g =
    in_turn (λ k. stores_as (form_of n.op) n k) (λ k. has_store ns k) old mid new f g

-- THE FIRST AND THE REST

-- What follows from a clause of success holds where it does.
pub on_ok : {A E : Type 0} → (r : Result A E) (P Q : Type 0) → (P → Q) → OnOk r P → OnOk r Q
on_ok (Ok x) P Q f h = f h
on_ok (Err e) P Q f h = h

-- what a slice is behind its first
abbrev pub behind_first : {A : Type 0} → List A → List A
behind_first xs = take (length xs - 1) (drop 1 xs)

take_all : {A : Type 0} (xs : List A) → take (length xs) xs ≡ xs
take_all [] = refl
take_all (x ∷ xs) = ap (λ l. x ∷ l) (take_all xs)

behind_is : {A : Type 0} (x : A) (xs : List A) → behind_first (x ∷ xs) ≡ xs
behind_is x xs =
    let e : length (x ∷ xs) - 1 ≡ length xs = omega arith in
    ap (λ n. take n xs) e ∙ take_all xs

-- the registers that some sources read are those of the first and of the others
pub first_source : (ss : List FlowSource) (d : FlowSource) (old mid new : List ℕ) → 1 ≤ length ss
    → Notes old mid (λ r. reads_in (get_or ss 0 d ∷ []) r) → Notes mid new (λ r. reads_in (behind_first ss) r)
    → Notes old new (λ r. reads_in ss r)
first_source [] d old mid new le f g = absurd (omega (arith, le))
first_source (s ∷ ss) d old mid new le f g =
    noted_sources s ss old mid new f
    (subst (λ (x : List FlowSource). Notes mid new (λ r. reads_in x r)) (behind_is s ss) g)

-- the registers that some nodes read are those of the first, left and right, and of the others
pub first_node : (ns : List FlowNode) (n : FlowNode) (ls rs : List FlowSource) (old one two new : List ℕ)
    → 1 ≤ length ns → n ≡ get_or ns 0 n → ls ≡ n.left → rs ≡ n.right
    → Notes old one (λ r. reads_in ls r) → Notes one two (λ r. reads_in rs r)
    → Notes two new (λ r. nodes_read (behind_first ns) r) → Notes old new (λ r. nodes_read ns r)
first_node [] n ls rs old one two new le e el er f g h = absurd (omega (arith, le))
first_node (m ∷ ns) n ls rs old one two new le e el er f g h =
    subst (λ (x : FlowNode). Notes old new (λ r. nodes_read (x ∷ ns) r)) e
    (noted_nodes n ns old one two new (subst (λ (x : List FlowSource). Notes old one (λ r. reads_in x r)) el f)
    (subst (λ (x : List FlowSource). Notes one two (λ r. reads_in x r)) er g)
    (subst (λ (x : List FlowNode). Notes two new (λ r. nodes_read x r)) (behind_is m ns) h))

-- the registers that some writes read are those of the first and of the others
pub first_write : (ws : List FlowWrite) (w : FlowWrite) (ss : List FlowSource) (old mid new : List ℕ)
    → 1 ≤ length ws → w ≡ get_or ws 0 w → ss ≡ w.sources → Notes old mid (λ r. reads_in ss r)
    → Notes mid new (λ r. writes_read (behind_first ws) r) → Notes old new (λ r. writes_read ws r)
first_write [] w ss old mid new le e es f g = absurd (omega (arith, le))
first_write (v ∷ ws) w ss old mid new le e es f g =
    subst (λ (x : FlowWrite). Notes old new (λ r. writes_read (x ∷ ws) r)) e
    (noted_writes w ws old mid new (subst (λ (x : List FlowSource). Notes old mid (λ r. reads_in x r)) es f)
    (subst (λ (x : List FlowWrite). Notes mid new (λ r. writes_read x r)) (behind_is v ws) g))

-- the numbers that some nodes store under are that of the first and those of the others
pub first_store : (ns : List FlowNode) (n : FlowNode) (old mid new : List ℕ) → 1 ≤ length ns → n ≡ get_or ns 0 n
    → Notes old mid (λ k. stores_as (form_of n.op) n k) → Notes mid new (λ k. has_store (behind_first ns) k)
    → Notes old new (λ k. has_store ns k)
first_store [] n old mid new le e f g = absurd (omega (arith, le))
first_store (m ∷ ns) n old mid new le e f g =
    subst (λ (x : FlowNode). Notes old new (λ k. has_store (x ∷ ns) k)) e (noted_stores n ns old mid new f
    (subst (λ (x : List FlowNode). Notes mid new (λ k. has_store x k)) (behind_is m ns) g))

-- ALL OF THEM

found_all : (ns : List FlowNode) (ws : List FlowWrite) (none mid found : List ℕ) → none ≡ []
    → Notes none mid (λ r. nodes_read ns r) → Notes mid found (λ r. writes_read ws r)
    → (r : ℕ) → member r found ≡ (nodes_read ns r || writes_read ws r)
found_all ns ws none mid found e f g r =
    sym (or_end (member r found)) ∙ in_turn (λ r. nodes_read ns r) (λ r. writes_read ws r) none mid found f g r false
    ∙ ap (λ (x : List ℕ). member r x || ((nodes_read ns r || writes_read ws r) || false)) e
    ∙ or_end (nodes_read ns r || writes_read ws r)

below_same : (ns : List FlowNode) (ws : List FlowWrite) (found : List ℕ)
    → ((r : ℕ) → member r found ≡ (nodes_read ns r || writes_read ws r)) → (n : ℕ)
    → members_below found n ≡ reads_below ns ws n
below_same ns ws found h zero = refl
below_same ns ws found h (suc n) =
    ap (λ (b : Bool). cond b (n ∷ members_below found n) (members_below found n)) (h n)
    ∙ ap (λ (rs : List ℕ). cond (nodes_read ns n || writes_read ws n) (n ∷ rs) rs) (below_same ns ws found h n)

-- the registers that are found in one walk are those that are read
pub found_reads : (ns : List FlowNode) (ws : List FlowWrite) (none mid found : List ℕ) → none ≡ []
    → Notes none mid (λ r. nodes_read ns r) → Notes mid found (λ r. writes_read ws r) → (n : ℕ)
    → members_below found n ≡ reads_below ns ws n
found_reads ns ws none mid found e f g n = below_same ns ws found (λ r. found_all ns ws none mid found e f g r) n

-- THE MASK

stores_all : (ns : List FlowNode) (none found : List ℕ) → none ≡ [] → Notes none found (λ k. has_store ns k)
    → (k : ℕ) → member k found ≡ has_store ns k
stores_all ns none found e f k =
    sym (or_end (member k found)) ∙ f k false
    ∙ ap (λ (x : List ℕ). member k x || (has_store ns k || false)) e ∙ or_end (has_store ns k)

mask_same : (ns : List FlowNode) (found : List ℕ) → ((k : ℕ) → member k found ≡ has_store ns k) → (n : ℕ)
    → mask_members found n ≡ mask_below ns n
mask_same ns found h zero = refl
mask_same ns found h (suc n) =
    ap (λ (b : Bool). mask_members found n + cond b (2 ^ n) 0) (h n)
    ∙ ap (λ (m : ℕ). m + cond (has_store ns n) (2 ^ n) 0) (mask_same ns found h n)

-- the numbers that are found in one walk make the mask
pub found_mask : (ns : List FlowNode) (none found : List ℕ) → none ≡ [] → Notes none found (λ k. has_store ns k)
    → (n : ℕ) → mask_members found n ≡ mask_below ns n
found_mask ns none found e f n = mask_same ns found (λ k. stores_all ns none found e f k) n

-- a mask of numbers that are found below n is below 2^n
pub members_lt : (found : List ℕ) (n : ℕ) → mask_members found n < 2 ^ n
members_lt found zero = omega arith
members_lt found (suc n) = go (member n found) (members_lt found n)
  where
    go : (c : Bool) → mask_members found n < 2 ^ n → mask_members found n + cond c (2 ^ n) 0 < 2 ^ suc n
    go true l = let p : 2 ^ suc n ≡ 2 ^ n + 2 ^ n = omega arith in omega (arith, l, p)
    go false l = let p : 2 ^ suc n ≡ 2 ^ n + 2 ^ n = omega arith in omega (arith, l, p)
