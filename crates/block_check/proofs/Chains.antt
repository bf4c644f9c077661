-- Chains through movs, for the code.
use Rattle.std.proofs.Common.{◌≡◌, ℕ, zero, suc, ◌+◌, ◌<◌, ◌≤◌, Bool, true, false, ◌||◌, ◌&&◌, ◌⊎◌}
use Rattle.std.proofs.Common.{inl, inr, List, [], ◌∷◌, length, take, Option, Some, None, slice_get}
use Rattle.std.proofs.Common.{refl, sym, ap, ap₂, ◌∙◌, arith, nat_lt, ◌==◌}
use Rattle.trips_isa.specs.declared.node.Node.{Node}
use Rattle.trips_isa.specs.Limits.{most_nodes}
use Rattle.block_cases.specs.Nodes.{targets, names, Edge, Ranked, IsRanked}
use Rattle.block_cases.specs.Choosers.{is_copy, names_predicate, asks, through, leads_from, leads}
use Rattle.block_cases.specs.Cases.{bit}
use Rattle.block_cases.specs.Cases.{deepest}
use Rattle.block_check.specs.inside.Pass.{AllInPlace, Spare}
use Rattle.block_check.specs.inside.Leads.{at_slot, leads_at, FalseFrom, led_from, NoneNamesPredicate}
use Rattle.block_cases.proofs.Steady.{deepest_is, to_left}
use Rattle.block_check.proofs.Rounds.{slot_fits}

pub or_shift : (a b c : Bool) → (a || (b || c)) ≡ ((a || b) || c)
or_shift true b c = refl
or_shift false b c = refl

or_nothing : (a : Bool) → a ≡ (false || a)
or_nothing a = refl

pub or_end : (a : Bool) → (a || false) ≡ a
or_end true = refl
or_end false = refl

pub at_slot_more : (ns : List Node) (x : ℕ) (n : Node) (s : ℕ) (f : ℕ → Bool) →
    slice_get ns x ≡ Some n → at_slot (take (x + 1) ns) s f ≡ (at_slot (take x ns) s f
    || (is_copy n.role && ((n.slot == s) && f x)))
at_slot_more ns x n s f e = let one : x + 1 ≡ suc x = omega arith in
    ap (λ k. at_slot (take k ns) s f) one ∙ go ns x f e
  where
    go : (ns : List Node) (x : ℕ) (f : ℕ → Bool) → slice_get ns x ≡ Some n →
        at_slot (take (suc x) ns) s f ≡ (at_slot (take x ns) s f || (is_copy n.role
        && ((n.slot == s) && f x)))
    go [] x f e = absurd (cc)
    go (m ∷ ms) zero f e =
        let same : m ≡ n = cc in
        or_end (is_copy m.role && ((m.slot == s) && f 0)) ∙ ap (λ (k : Node). is_copy k.role
        && ((k.slot == s) && f 0)) same
    go (m ∷ ms) (suc x) f e = ap (λ b. (is_copy m.role && ((m.slot == s) && f 0))
        || b) (go ms x (λ y. f (suc y)) e) ∙ or_shift (is_copy m.role && ((m.slot == s)
        && f 0)) (at_slot (take x ms) s (λ y. f (suc y))) (is_copy n.role && ((n.slot == s)
        && f (suc x)))

-- a mov at one of two slots
asks_two : (c p q v w : Bool) (f : ℕ → Bool) → ((p ≡ true) → v ≡ true) → ((v ≡ true) → p ≡ true) →
    asks (c && (v || (w || false))) f ≡ ((c && (v && f 0)) || (c && (w && f 0)))
asks_two false p q v w f h i = refl
asks_two true p q true true f h i = go (f 0)
  where
    go : (b : Bool) → b ≡ (b || b)
    go true = refl
    go false = refl
asks_two true p q true false f h i = sym (or_end (f 0))
asks_two true p q false true f h i = refl
asks_two true p q false false f h i = refl

or_four : (a b c d : Bool) → ((a || b) || (c || d)) ≡ ((a || c) || (b || d))
or_four true b c d = refl
or_four false true true d = refl
or_four false true false d = refl
or_four false false true d = refl
or_four false false false d = refl

swap_eq : (a b : ℕ) → (a == b) ≡ (b == a)
swap_eq a b = grind arith

pub through_slots : (ns : List Node) (a b : ℕ) (f : ℕ → Bool) →
    through ns (a ∷ b ∷ []) f ≡ (at_slot ns a f || at_slot ns b f)
through_slots [] a b f = refl
through_slots (m ∷ ms) a b f =
    ap₂ (λ p q. p || q)
    (ap₂ (λ p q. asks (is_copy m.role && (p || (q
    || false))) f) (swap_eq a m.slot) (swap_eq b m.slot)
    ∙ asks_two (is_copy m.role) (m.slot == a) false (m.slot == a) (m.slot == b) f (λ e. e)
    (λ e. e))
    (through_slots ms a b (λ y. f (suc y)))
    ∙ or_four (is_copy m.role && ((m.slot == a) && f 0)) (is_copy m.role && ((m.slot == b)
    && f 0)) (at_slot ms a (λ y. f (suc y))) (at_slot ms b (λ y. f (suc y)))

high_slot : (ns : List Node) (q : ℕ) (f : ℕ → Bool) → ((x : ℕ) (n : Node) →
    slice_get ns x ≡ Some n → n.slot < 512) → 512 ≤ q → at_slot ns q f ≡ false
high_slot [] q f h le = refl
high_slot (m ∷ ms) q f h le = ap₂ (λ p r. p || r) here (high_slot ms q (λ y. f (suc y)) (λ x n e. h
    (suc x) n e) le)
  where
    differs : (m.slot == q) ≡ false
    differs = let lt : m.slot < 512 = h 0 m refl in let ne : m.slot < q = omega arith in grind arith

    here : (is_copy m.role && ((m.slot == q) && f 0)) ≡ false
    here = ap (λ p. is_copy m.role && (p && f 0)) differs ∙ go (is_copy m.role)
      where
        go : (c : Bool) → (c && false) ≡ false
        go true = refl
        go false = refl

-- past its end a list has no bit set
pub bit_past : (l : List Bool) (x : ℕ) → length l ≤ x → bit l x ≡ false
bit_past [] x h = refl
bit_past (v ∷ vs) zero h = absurd (omega arith)
bit_past (v ∷ vs) (suc x) h = bit_past vs x (omega arith)

all_slots : (ns : List Node) (left : List Bool) (f : ℕ → Bool) → AllInPlace ns → length left ≡ 512 →
    ((s : ℕ) → s < 512 → bit left s ≡ at_slot ns s f) → (q : ℕ) → bit left q ≡ at_slot ns q f
all_slots ns left f all size h q = go (nat_lt q 512) refl
  where
    go : (b : Bool) → nat_lt q 512 ≡ b → bit left q ≡ at_slot ns q f
    go true e = h q (grind arith)
    go false e =
        let le : 512 ≤ q = grind arith in
        bit_past left q (omega arith) ∙ sym (high_slot ns q f (λ x n i. slot_fits ns x all n i) le)

led : (ns : List Node) (left lead : List Bool) → AllInPlace ns → length left ≡ 512 → ((s : ℕ) →
    s < 512 → bit left s ≡ at_slot ns s (bit lead)) → (o : Option Node) →
    leads_at o (bit left) ≡ leads_from ns o (bit lead)
led ns left lead all size h None = refl
led ns left lead all size h (Some n) =
    ap₂ (λ p q. names_predicate (targets n) || (p || q)) (all_slots ns left (bit lead) all size h
    n.first) (all_slots ns left (bit lead) all size h n.second)
    ∙ ap (λ p. names_predicate (targets n) || p) (sym (through_slots ns n.first n.second (bit
    lead)))

-- what no bit says stands in no slot
slot_none : (ns : List Node) (s : ℕ) (f : ℕ → Bool) → ((x : ℕ) → f x ≡ false) →
    at_slot ns s f ≡ false
slot_none [] s f h = refl
slot_none (m ∷ ms) s f h = ap₂ (λ p r. p || r) (ap (λ v. is_copy m.role && ((m.slot == s)
    && v)) (h 0) ∙ both (is_copy m.role) (m.slot == s)) (slot_none ms s (λ y. f (suc y)) (λ x. h
    (suc x)))
  where
    both : (a b : Bool) → (a && (b && false)) ≡ false
    both true true = refl
    both true false = refl
    both false b = refl

-- what leads to a slot is the same without nodes that lead nowhere
pub slot_spare : (ns : List Node) (used s : ℕ) (f : ℕ → Bool) → ((x : ℕ) → used ≤ x → f x ≡ false) →
    at_slot (take used ns) s f ≡ at_slot ns s f
slot_spare ns zero s f h = sym (slot_none ns s f (λ x. h x (omega arith)))
slot_spare [] (suc used) s f h = refl
slot_spare (m ∷ ms) (suc used) s f h = ap (λ v. (is_copy m.role && ((m.slot == s) && f 0))
    || v) (slot_spare ms used s (λ y. f (suc y)) (λ x le. h (suc x) (omega arith)))

-- an empty slot leads nowhere
nowhere_led : (ns : List Node) (used x : ℕ) (f : ℕ → Bool) → AllInPlace ns → Spare ns used →
    used ≤ x → leads_from ns (slice_get ns x) f ≡ false
nowhere_led ns used x f all s le = go (slice_get ns x) refl
  where
    high : at_slot ns 700 f ≡ false
    high = high_slot ns 700 f (λ y n i. slot_fits ns y all n i) (omega arith)

    go : (o : Option Node) → slice_get ns x ≡ o → leads_from ns o f ≡ false
    go None e = refl
    go (Some n) e =
        let spare = s x n le e in
        ap₂ (λ a b. names_predicate (a ∷ b ∷ []) || through ns (a ∷ b ∷ []) f) spare.first
        spare.second
        ∙ through_slots ns 700 700 f
        ∙ ap₂ (λ a b. a || b) high high

-- one step along the chains, made for the used nodes only, is one step for all nodes
pub led_spare : (ns : List Node) (used : ℕ) (left lead lead' : List Bool) → AllInPlace ns →
    Spare ns used → length left ≡ 512 → ((s : ℕ) → s < 512 → bit left s ≡ at_slot ns s (bit lead)) →
    ((x : ℕ) → x < used → bit lead' x ≡ leads_at (slice_get ns x) (bit left)) →
    FalseFrom used lead' → (x : ℕ) → bit lead' x ≡ leads_from ns (slice_get ns x) (bit lead)
led_spare ns used left lead lead' all spare size h g rest x = go (nat_lt x used) refl
  where
    go : (b : Bool) → nat_lt x used ≡ b → bit lead' x ≡ leads_from ns (slice_get ns x) (bit lead)
    go true e = let lt : x < used = grind arith in g x lt
        ∙ led ns left lead all size h (slice_get ns x)
    go false e = let le : used ≤ x = grind arith in rest x le
        ∙ sym (nowhere_led ns used x (bit lead) all spare le)

-- whether a node leads on follows from the nodes of higher rank
through_same : (ms : List Node) (ts : List ℕ) (f g : ℕ → Bool) → ((y : ℕ) (m : Node) →
    slice_get ms y ≡ Some m → names ts m.slot ≡ true → f y ≡ g y) →
    through ms ts f ≡ through ms ts g
through_same [] ts f g h = refl
through_same (m ∷ ms) ts f g h =
    ap₂ (λ p q. p || q) (head (is_copy m.role) (names ts m.slot) refl) (through_same ms ts (λ y. f
    (suc y)) (λ y. g (suc y)) (λ y n i e. h (suc y) n i e))
  where
    head : (c b : Bool) → names ts m.slot ≡ b → asks (c && b) f ≡ asks (c && b) g
    head true true e = h 0 m refl e
    head true false e = refl
    head false b e = refl

leads_same : (ns : List Node) (x : ℕ) (f g : ℕ → Bool) → ((y : ℕ) → Edge ns x y → f y ≡ g y) →
    leads_from ns (slice_get ns x) f ≡ leads_from ns (slice_get ns x) g
leads_same ns x f g h = go (slice_get ns x) refl
  where
    go : (o : Option Node) → slice_get ns x ≡ o → leads_from ns o f ≡ leads_from ns o g
    go None e = refl
    go (Some n) e = ap (λ v. names_predicate (targets n)
        || v) (through_same ns (targets n) f g (λ y m i named. h y (to_left ns y x n m e i named)))

-- what holds still under a step is what all chains say
only_led : (ns : List Node) (rank : ℕ → ℕ) → Ranked ns rank → (f : ℕ → Bool) → ((x : ℕ) →
    f x ≡ leads_from ns (slice_get ns x) f) → (k x : ℕ) → most_nodes ≤ rank x + k → f x ≡ leads ns k x
only_led ns rank o f s zero x h = absurd (let b : rank x < most_nodes = o.below x in omega arith)
only_led ns rank o f s (suc k) x h =
    s x ∙ leads_same ns x f (leads ns k) (λ y e. let up : rank x < rank y = o.rises x y e in
    only_led ns rank o f s k y (omega arith))

-- and so is what many steps give, from any guess
many_led : (ns : List Node) (rank : ℕ → ℕ) → Ranked ns rank → (f : ℕ → Bool) (k m x : ℕ) →
    most_nodes ≤ rank x + k → most_nodes ≤ rank x + m → led_from ns f k x ≡ leads ns m x
many_led ns rank o f zero m x h i = absurd (let b : rank x < most_nodes = o.below x in omega arith)
many_led ns rank o f (suc k) zero x h i = absurd (let b : rank x < most_nodes = o.below x in omega arith)
many_led ns rank o f (suc k) (suc m) x h i =
    leads_same ns x (led_from ns f k) (leads ns m) (λ y e. let up : rank x < rank y = o.rises x y e in
    many_led ns rank o f k m y (omega arith) (omega arith))

-- steps along the chains that have come to rest, or are as many as nodes may be, tell which nodes lead to a
-- predicate
pub all_led : (ns : List Node) → IsRanked ns → (k : ℕ) (f g : ℕ → Bool) → k ≤ most_nodes → ((x : ℕ) →
    g x ≡ led_from ns f k x) → ((x : ℕ) → g x ≡ leads_from ns (slice_get ns x) g) ⊎ (most_nodes ≤ k) →
    (x : ℕ) → g x ≡ leads ns deepest x
all_led ns r k f g le e (inl s) x = only_led ns r.0 r.1 g s deepest x (let d : deepest ≡ most_nodes =
    deepest_is in omega arith)
all_led ns r k f g le e (inr all) x = e x ∙ many_led ns r.0 r.1 f k deepest x (omega arith) (let d
    : deepest ≡ most_nodes = deepest_is in omega arith)

-- a slot is marked by the first x + 1 nodes where it is by the first x, or where node x is a copy there that
-- leads on
pub mark_more : (ns : List Node) (x : ℕ) (n : Node) (s : ℕ) (f : ℕ → Bool) (old new : Bool) →
    slice_get ns x ≡ Some n → old ≡ at_slot (take x ns) s f →
    new ≡ (old || (is_copy n.role && ((n.slot == s) && f x))) → new ≡ at_slot (take (x + 1) ns) s f
mark_more ns x n s f old new e a b = b ∙ ap (λ v. v || (is_copy n.role && ((n.slot == s) && f x))) a
    ∙ sym (at_slot_more ns x n s f e)

-- an empty slot at the end names no predicate
pub spare_names_none : (ns : List Node) (used x : ℕ) (n : Node) → Spare ns used → used ≤ x →
    slice_get ns x ≡ Some n → names_predicate (targets n) ≡ false
spare_names_none ns used x n s le e = let spare = s x n le e in
    ap₂ (λ a b. names_predicate (a ∷ b ∷ [])) spare.first spare.second

-- where no predicate is named nothing leads on
none_through : (ms : List Node) (ts : List ℕ) (f : ℕ → Bool) → ((x : ℕ) → f x ≡ false) →
    through ms ts f ≡ false
none_through [] ts f h = refl
none_through (m ∷ ms) ts f h = ap₂ (λ a b. a || b) (head (is_copy m.role
    && names ts m.slot)) (none_through ms ts (λ y. f (suc y)) (λ x. h (suc x)))
  where
    head : (b : Bool) → asks b f ≡ false
    head true = h 0
    head false = refl

none_lead : (ns : List Node) → NoneNamesPredicate ns → (k x : ℕ) → leads ns k x ≡ false
none_lead ns h zero x = refl
none_lead ns h (suc k) x = go (slice_get ns x) refl (λ y. none_lead ns h k y)
  where
    go : (o : Option Node) → slice_get ns x ≡ o → ((y : ℕ) → leads ns k y ≡ false) →
        leads_from ns o (leads ns k) ≡ false
    go None e r = refl
    go (Some n) e r = ap₂ (λ a b. a || b) (h x n e) (none_through ns (targets n) (leads ns k) r)

-- where no node names a predicate, none leads to one
pub no_leads : (ns : List Node) → NoneNamesPredicate ns → (x : ℕ) → false ≡ leads ns deepest x
no_leads ns h x = sym (none_lead ns h deepest x)
