-- Whatever the bits, a case fires the same nodes.
use Rattle.std.proofs.Common.{◌≡◌, ℕ, zero, suc, ◌+◌, ◌<◌, ◌≤◌, Bool, true, false, ◌==◌, ◌&&◌, ◌||◌}
use Rattle.std.proofs.Common.{◌⊎◌, inl, inr, nat_lt, nat_le, List, [], ◌∷◌, length, Option, Some}
use Rattle.std.proofs.Common.{None, slice_get, refl, sym, ap, ap₂, ◌∙◌, subst, arith}
use Rattle.trips_isa.specs.declared.form.Role.{Role}
use Rattle.trips_isa.specs.declared.form.Role.TheVariants.{Empty, Reading, Free, Nothing, Copy, One}
use Rattle.trips_isa.specs.declared.form.Role.TheVariants.{Both}
use Rattle.trips_isa.specs.declared.block.Sense.{Sense}
use Rattle.trips_isa.specs.declared.block.Sense.TheVariants.{Always, OnTrue, OnFalse}
use Rattle.block_cases.specs.declared.token.CaseToken.{CaseToken}
use Rattle.block_cases.specs.declared.token.CaseToken.TheVariants.{Absent, Null, Bit}
use Rattle.trips_isa.specs.declared.node.Node.{Node}
use Rattle.trips_isa.specs.Limits.{most_nodes}
use Rattle.block_cases.specs.Nodes.{targets, names, Edge, Ranked}
use Rattle.block_cases.specs.CaseRule.{no, matches, gives, fire, if_matched, taken, or_else, first}
use Rattle.block_cases.specs.CaseRule.{pulled, fires}
use Rattle.block_cases.specs.Choosers.{names_predicate, is_copy, asks, through}
use Rattle.block_cases.specs.Cases.{deepest}
use Rattle.block_cases.specs.CaseRule.{one_word, both_words}
use Rattle.block_cases.specs.Choosers.{leads_from, leads, is_chooser}
use Rattle.block_cases.specs.Cases.{bit, token}
use Rattle.block_cases.proofs.Steady.{or_left, or_right, to_left, to_right, to_predicate, Solves}
use Rattle.block_cases.proofs.Steady.{settled, deepest_is}

-- the same but for bits that lead nowhere
abbrev pub Alike : Bool → CaseToken → CaseToken → Type 0
Alike b Absent Absent = Unit {0}
Alike b Null Null = Unit {0}
Alike b (Bit u) (Bit v) = b ≡ true → u ≡ v
Alike b _ _ = ⊥

weaken : (b d : Bool) (t u : CaseToken) → (d ≡ true → b ≡ true) → Alike b t u → Alike d t u
weaken b d Absent Absent i a = tt
weaken b d Null Null i a = tt
weaken b d (Bit x) (Bit y) i a = λ e. a (i e)
weaken b d Absent Null i a = a
weaken b d Absent (Bit y) i a = a
weaken b d Null Absent i a = a
weaken b d Null (Bit y) i a = a
weaken b d (Bit x) Absent i a = a
weaken b d (Bit x) Null i a = a

or_else_alike : (b : Bool) (t t' u u' : CaseToken) → Alike b t t' → Alike b u u'
    → Alike b (or_else t u) (or_else t' u')
or_else_alike b Absent Absent u u' a c = c
or_else_alike b Null Null u u' a c = tt
or_else_alike b (Bit x) (Bit y) u u' a c = a
or_else_alike b Absent Null u u' a c = absurd a
or_else_alike b Absent (Bit y) u u' a c = absurd a
or_else_alike b Null Absent u u' a c = absurd a
or_else_alike b Null (Bit y) u u' a c = absurd a
or_else_alike b (Bit x) Absent u u' a c = absurd a
or_else_alike b (Bit x) Null u u' a c = absurd a

pub first_alike : (b : Bool) (ns : List Node) (q : ℕ) (f g : ℕ → CaseToken)
    → ((y : ℕ) (m : Node) → slice_get ns y ≡ Some m → names (targets m) q ≡ true
    → Alike b (f y) (g y)) → Alike b (first ns q f) (first ns q g)
first_alike b [] q f g h = tt
first_alike b (n ∷ ns) q f g h = or_else_alike b (taken (names (targets n) q) f)
    (taken (names (targets n) q) g) _ _ (head (names (targets n) q) refl)
    (first_alike b ns q (λ y. f (suc y)) (λ y. g (suc y)) (λ y m i e. h (suc y) m i e))
  where
    head : (d : Bool) → names (targets n) q ≡ d → Alike b (taken d f) (taken d g)
    head true e = h 0 n refl e
    head false e = tt

matches_alike : (s : Sense) (p p' : CaseToken) → Alike true p p' → matches s p ≡ matches s p'
matches_alike Always p p' a = refl
matches_alike OnTrue Absent Absent a = refl
matches_alike OnTrue Null Null a = refl
matches_alike OnTrue (Bit x) (Bit y) a = a refl
matches_alike OnTrue Absent Null a = absurd a
matches_alike OnTrue Absent (Bit y) a = absurd a
matches_alike OnTrue Null Absent a = absurd a
matches_alike OnTrue Null (Bit y) a = absurd a
matches_alike OnTrue (Bit x) Absent a = absurd a
matches_alike OnTrue (Bit x) Null a = absurd a
matches_alike OnFalse Absent Absent a = refl
matches_alike OnFalse Null Null a = refl
matches_alike OnFalse (Bit x) (Bit y) a = ap no (a refl)
matches_alike OnFalse Absent Null a = absurd a
matches_alike OnFalse Absent (Bit y) a = absurd a
matches_alike OnFalse Null Absent a = absurd a
matches_alike OnFalse Null (Bit y) a = absurd a
matches_alike OnFalse (Bit x) Absent a = absurd a
matches_alike OnFalse (Bit x) Null a = absurd a

word_alike : (b d : Bool) (u v : Bool) (l l' : CaseToken) → (b ≡ true → u ≡ v) → Alike d l l'
    → Alike b (one_word u l) (one_word v l')
word_alike b d u v Absent Absent i a = tt
word_alike b d u v Null Null i a = tt
word_alike b d u v (Bit x) (Bit y) i a = i
word_alike b d u v Absent Null i a = absurd a
word_alike b d u v Absent (Bit y) i a = absurd a
word_alike b d u v Null Absent i a = absurd a
word_alike b d u v Null (Bit y) i a = absurd a
word_alike b d u v (Bit x) Absent i a = absurd a
word_alike b d u v (Bit x) Null i a = absurd a

words_alike : (b d e : Bool) (u v : Bool) (l l' r r' : CaseToken) → (b ≡ true → u ≡ v)
    → Alike d l l' → Alike e r r' → Alike b (both_words u l r) (both_words v l' r')
words_alike b d e u v Absent Absent r r' i a c = tt
words_alike b d e u v Null Null r r' i a c = beside r r' c
  where
    beside : (r r' : CaseToken) → Alike e r r'
        → Alike b (both_words u Null r) (both_words v Null r')
    beside Absent Absent c = tt
    beside Null Null c = tt
    beside (Bit x) (Bit y) c = tt
    beside Absent Null c = absurd c
    beside Absent (Bit y) c = absurd c
    beside Null Absent c = absurd c
    beside Null (Bit y) c = absurd c
    beside (Bit x) Absent c = absurd c
    beside (Bit x) Null c = absurd c
words_alike b d e u v (Bit x) (Bit y) r r' i a c = word_alike b e u v r r' i c
words_alike b d e u v Absent Null r r' i a c = absurd a
words_alike b d e u v Absent (Bit y) r r' i a c = absurd a
words_alike b d e u v Null Absent r r' i a c = absurd a
words_alike b d e u v Null (Bit y) r r' i a c = absurd a
words_alike b d e u v (Bit x) Absent r r' i a c = absurd a
words_alike b d e u v (Bit x) Null r r' i a c = absurd a

gives_alike : (o : Role) (b d e : Bool) (u v : Bool) (l l' r r' : CaseToken)
    → (is_copy o ≡ false → b ≡ true → u ≡ v) → (is_copy o ≡ true → b ≡ true → d ≡ true) → Alike d l l'
    → Alike e r r' → Alike b (gives o u l r) (gives o v l' r')
gives_alike Empty b d e u v l l' r r' i j a c = tt
gives_alike Reading b d e u v l l' r r' i j a c = i refl
gives_alike Free b d e u v l l' r r' i j a c = i refl
gives_alike Nothing b d e u v l l' r r' i j a c = tt
gives_alike Copy b d e u v l l' r r' i j a c = weaken d b l l' (j refl) a
gives_alike One b d e u v l l' r r' i j a c = word_alike b d u v l l' (i refl) a
gives_alike Both b d e u v l l' r r' i j a c = words_alike b d e u v l l' r r' (i refl) a c

fire_alike : (n : Node) (b d e : Bool) (u v : Bool) (l l' r r' p p' : CaseToken)
    → (is_copy n.role ≡ false → b ≡ true → u ≡ v) → (is_copy n.role ≡ true → b ≡ true → d ≡ true)
    → Alike d l l' → Alike e r r' → matches n.sense p ≡ matches n.sense p'
    → Alike b (fire n u l r p) (fire n v l' r' p')
fire_alike n b d e u v l l' r r' p p' i j a c m =
    subst (λ z. Alike b (fire n u l r p) (if_matched z (gives n.role v l' r'))) m
    (go (matches n.sense p))
  where
    go : (z : Bool) → Alike b (if_matched z (gives n.role u l r))
        (if_matched z (gives n.role v l' r'))
    go true = gives_alike n.role b d e u v l l' r r' i j a c
    go false = tt

-- chains --------------------------------------------------------------------------------------

-- both parts of a conjunction that is true are true
pub and_true : (a b : Bool) → (a && b) ≡ true → (a ≡ true) × (b ≡ true)
and_true true b e = (refl, e)
and_true false b e = absurd (cc)

-- a conjunction of two that are true is true
pub both_true : (a b : Bool) → a ≡ true → b ≡ true → (a && b) ≡ true
both_true true b e f = f
both_true false b e f = absurd (cc)

-- of a disjunction that is true one part is true
pub or_true : (a b : Bool) → (a || b) ≡ true → (a ≡ true) ⊎ (b ≡ true)
or_true true b e = inl refl
or_true false b e = inr e

asks_true : (b : Bool) (f : ℕ → Bool) → asks b f ≡ true → (b ≡ true) × (f 0 ≡ true)
asks_true true f e = (refl, e)
asks_true false f e = absurd (cc)

asks_both : (b : Bool) (f : ℕ → Bool) → b ≡ true → f 0 ≡ true → asks b f ≡ true
asks_both true f e h = h
asks_both false f e h = absurd (cc)

pub record Passes (ns : List Node) (ts : List ℕ) (f : ℕ → Bool) : Type 0 where
  pub at : ℕ
  pub node : Node
  pub is_node : slice_get ns at ≡ Some node
  pub copies : is_copy node.role ≡ true
  pub named : names ts node.slot ≡ true
  pub leads_on : f at ≡ true

-- where some targets lead through, a copy that they name leads on
pub passes : (ns : List Node) (ts : List ℕ) (f : ℕ → Bool) → through ns ts f ≡ true → Passes ns ts f
passes [] ts f e = absurd (cc)
passes (m ∷ ms) ts f e = go (or_true _ _ e) (passes ms ts (λ y. f (suc y)))
  where
    go : (asks (is_copy m.role && names ts m.slot) f ≡ true) ⊎
        (through ms ts (λ y. f (suc y)) ≡ true)
        → (through ms ts (λ y. f (suc y)) ≡ true → Passes ms ts (λ y. f (suc y)))
        → Passes (m ∷ ms) ts f
    go (inl h) r =
        let w = asks_true _ f h in
        let k = and_true _ _ w.0 in
        record { at = 0; node = m; is_node = refl; copies = k.0; named = k.1; leads_on = w.1 }
    go (inr h) r = let p = r h in record {
      at = suc p.at;
      node = p.node;
      is_node = p.is_node;
      copies = p.copies;
      named = p.named;
      leads_on = p.leads_on;
    }

pub pass_on : (ns : List Node) (ts : List ℕ) (f : ℕ → Bool) (y : ℕ) (m : Node)
    → slice_get ns y ≡ Some m → is_copy m.role ≡ true → names ts m.slot ≡ true → f y ≡ true
    → through ns ts f ≡ true
pass_on [] ts f y m i c n h = absurd (cc)
pass_on (p ∷ ps) ts f zero m i c n h =
    let same : p ≡ m = cc in
    or_left _ _ (asks_both _ f (subst (λ z. (is_copy z.role && names ts z.slot) ≡ true) (sym same)
    (both_true _ _ c n)) h)
pass_on (p ∷ ps) ts f (suc y) m i c n h =
    or_right (asks (is_copy p.role && names ts p.slot) f) _
    (pass_on ps ts (λ z. f (suc z)) y m i c n h)

-- a chain is no longer than the ranks above it
shrink : (ns : List Node) (rank : ℕ → ℕ) → Ranked ns rank → (k m x : ℕ) → leads ns k x ≡ true
    → most_nodes ≤ rank x + m → leads ns m x ≡ true
shrink ns rank o zero m x e h = absurd (cc)
shrink ns rank o (suc k) zero x e h = absurd (let b : rank x < most_nodes = o.below x in omega arith)
shrink ns rank o (suc k) (suc m) x e h = go (slice_get ns x) refl e (λ y. shrink ns rank o k m y)
  where
    go : (s : Option Node) → slice_get ns x ≡ s → leads_from ns s (leads ns k) ≡ true
        → ((y : ℕ) → leads ns k y ≡ true → most_nodes ≤ rank y + m → leads ns m y ≡ true)
        → leads_from ns s (leads ns m) ≡ true
    go None i e r = absurd (cc)
    go (Some n) i e r = by (or_true _ _ e)
      where
        by : (names_predicate (targets n) ≡ true) ⊎ (through ns (targets n) (leads ns k) ≡ true)
            → leads_from ns (Some n) (leads ns m) ≡ true
        by (inl p) = or_left _ _ p
        by (inr t) =
            let p = passes ns (targets n) (leads ns k) t in
            let up : rank x < rank p.at = o.rises x p.at (to_left ns p.at x n p.node i p.is_node p.named) in
            or_right (names_predicate (targets n)) _
            (pass_on ns (targets n) (leads ns m) p.at p.node p.is_node p.copies p.named
            (r p.at p.leads_on (omega arith)))

-- a node that names the operand of a mov that leads on leads on
leads_to_copy : (ns : List Node) (rank : ℕ → ℕ) → Ranked ns rank → (x y : ℕ) (m n : Node)
    → slice_get ns y ≡ Some m → slice_get ns x ≡ Some n → names (targets m) n.slot ≡ true
    → is_copy n.role ≡ true → leads ns deepest x ≡ true → leads ns deepest y ≡ true
leads_to_copy ns rank o x y m n i j e c h =
    shrink ns rank o (suc deepest) deepest y
    (subst (λ s. leads_from ns s (leads ns deepest) ≡ true) (sym i)
    (or_right (names_predicate (targets m)) _
    (pass_on ns (targets m) (leads ns deepest) x n j c e h)))
    (let d : deepest ≡ most_nodes = deepest_is in omega arith)

leads_at_one : (ns : List Node) (k : ℕ) (y : ℕ) (m : Node) → slice_get ns y ≡ Some m
    → names_predicate (targets m) ≡ true → 0 < k → leads ns k y ≡ true
leads_at_one ns zero y m i e h = absurd (omega arith)
leads_at_one ns (suc k) y m i e h = subst (λ s. leads_from ns s (leads ns k) ≡ true) (sym i)
    (or_left _ _ e)

in_range : (s t : ℕ) → s < 128 → (t == 256 + s) ≡ true → (nat_le 256 t && nat_lt t 384) ≡ true
in_range s t h e =
    let is : t ≡ 256 + s = grind arith in
    let a : 256 ≤ t = omega arith in
    let b : t < 384 = omega arith in
    let a' : nat_le 256 t ≡ true = grind arith in
    let b' : nat_lt t 384 ≡ true = grind arith in
    both_true _ _ a' b'

predicate_named : (ts : List ℕ) (s : ℕ) → s < 128 → names ts (256 + s) ≡ true
    → names_predicate ts ≡ true
predicate_named [] s h e = absurd (cc)
predicate_named (t ∷ ts) s h e = go (or_true _ _ e) (predicate_named ts s h)
  where
    go : ((t == 256 + s) ≡ true) ⊎ (names ts (256 + s) ≡ true)
        → (names ts (256 + s) ≡ true → names_predicate ts ≡ true) → names_predicate (t ∷ ts) ≡ true
    go (inl i) r = or_left _ _ (in_range s t h i)
    go (inr i) r = or_right (nat_le 256 t && nat_lt t 384) _ (r i)

-- each node stands in one of the 128 slots, or has no predicate
abbrev pub Placed : List Node → Type 0
Placed ns = (x : ℕ) (n : Node) → slice_get ns x ≡ Some n → (n.slot < 128) ⊎ (n.sense ≡ Always)

-- the case of a table ------------------------------------------------------------------------

-- the bit that a token stands for; one that is absent or null has the bit 0
abbrev pub own : CaseToken → Bool
own Absent = false
own Null = false
own (Bit v) = v

-- whether node x leads to a predicate and its token is the bit 1
abbrev pub chosen : List Node → (ℕ → CaseToken) → ℕ → Bool
chosen ns h x = is_chooser ns x (slice_get ns x) && own (h x)

-- the first n values of a function, in order
abbrev pub tabulate : ℕ → (ℕ → Bool) → List Bool
tabulate zero f = []
tabulate (suc n) f = f 0 ∷ tabulate n (λ x. f (suc x))

-- the case of a table of tokens: for each node, its chosen bit
abbrev pub case_of : List Node → (ℕ → CaseToken) → List Bool
case_of ns h = tabulate (length ns) (chosen ns h)

-- n values are tabulated as a list of length n
pub tabulate_size : (n : ℕ) (f : ℕ → Bool) → length (tabulate n f) ≡ n
tabulate_size zero f = refl
tabulate_size (suc n) f = ap suc (tabulate_size n (λ x. f (suc x)))

-- past the last node there is none
pub get_none : (ns : List Node) (x : ℕ) → length ns ≤ x → slice_get ns x ≡ None
get_none [] x h = refl
get_none (n ∷ ns) zero h = absurd (omega arith)
get_none (n ∷ ns) (suc x) h = get_none ns x (omega arith)

bit_tabulate : (n : ℕ) (f : ℕ → Bool) → ((x : ℕ) → n ≤ x → f x ≡ false) → (x : ℕ)
    → bit (tabulate n f) x ≡ f x
bit_tabulate zero f h x = sym (h x (omega arith))
bit_tabulate (suc n) f h zero = refl
bit_tabulate (suc n) f h (suc x) = bit_tabulate n (λ y. f (suc y))
    (λ y l. h (suc y) (omega arith)) x

pub bit_case : (ns : List Node) (h : ℕ → CaseToken) (x : ℕ) → bit (case_of ns h) x ≡ chosen ns h x
bit_case ns h x = bit_tabulate (length ns) (chosen ns h)
    (λ y l. ap (λ s. is_chooser ns y s && own (h y)) (get_none ns y l)) x

-- one node, where those of lower rank are alike
alike_at : (ns : List Node) (rank : ℕ → ℕ) → Ranked ns rank → Placed ns → (h : ℕ → CaseToken)
    → Solves ns (λ x. own (h x)) h → (x : ℕ)
    → ((y : ℕ) → Edge ns y x → Alike (leads ns deepest y) (h y) (token ns (case_of ns h) y))
    → Alike (leads ns deepest x) (h x) (token ns (case_of ns h) x)
alike_at ns rank o w h s x below = subst (λ t. Alike (leads ns deepest x) t (f x)) (sym (s x))
    (subst (λ t. Alike (leads ns deepest x)
    (pulled (slice_get ns x) (own (h x)) (λ q. first ns q h)) t) (sym (settled ns rank o c x))
    (go (slice_get ns x) refl))
  where
    c : ℕ → Bool
    c = bit (case_of ns h)

    f : ℕ → CaseToken
    f = fires ns c deepest

    go : (i : Option Node) → slice_get ns x ≡ i
        → Alike (leads ns deepest x) (pulled i (own (h x)) (λ q. first ns q h))
        (pulled i (c x) (λ q. first ns q f))
    go None i = tt
    go (Some n) i =
        fire_alike n (leads ns deepest x) (is_copy n.role && leads ns deepest x) false (own (h x))
        (c x) _ _ _ _ _ _
        (λ z l. sym (bit_case ns h x ∙ ap (λ s. is_chooser ns x s && own (h x)) i ∙ chooses z l))
        (λ z l. both_true _ _ z l)
        (first_alike _ ns n.slot h f (λ y m j e. weaken (leads ns deepest y) _ (h y) (f y)
        (λ b. let t = and_true _ _ b in leads_to_copy ns rank o x y m n j i e t.0 t.1)
        (below y (to_left ns x y m n j i e))))
        (first_alike _ ns (128 + n.slot) h f
        (λ y m j e. weaken (leads ns deepest y) _ (h y) (f y) (λ b. absurd (cc))
        (below y (to_right ns x y m n j i e))))
        (by (w x n i))
      where
        chooses : is_copy n.role ≡ false → leads ns deepest x ≡ true
            → (is_chooser ns x (Some n) && own (h x)) ≡ own (h x)
        chooses z l = ap₂ (λ p q. (no p && q) && own (h x)) z l

        by : (n.slot < 128) ⊎ (n.sense ≡ Always)
            → matches n.sense (first ns (256 + n.slot) h)
            ≡ matches n.sense (first ns (256 + n.slot) f)
        by (inl lt) = matches_alike n.sense _ _
            (first_alike true ns (256 + n.slot) h f
            (λ y m j e. weaken (leads ns deepest y) true (h y) (f y)
            (λ b. leads_at_one ns deepest y m j (predicate_named (targets m) n.slot lt e)
            (let d : deepest ≡ most_nodes = deepest_is in omega arith))
            (below y (to_predicate ns x y m n j i e))))
        by (inr al) = ap (λ z. matches z (first ns (256 + n.slot) h)) al
            ∙ sym (ap (λ z. matches z (first ns (256 + n.slot) f)) al)

-- the token of a node in a table that solves the block is the one in the table's case, but for bits that lead
-- nowhere
pub alike : (ns : List Node) (rank : ℕ → ℕ) → Ranked ns rank → Placed ns → (h : ℕ → CaseToken)
    → Solves ns (λ x. own (h x)) h → (k x : ℕ) → rank x < k
    → Alike (leads ns deepest x) (h x) (token ns (case_of ns h) x)
alike ns rank o w h s zero x lt = absurd (omega arith)
alike ns rank o w h s (suc k) x lt = alike_at ns rank o w h s x (λ y e. let up : rank y < rank x = o.rises y x e in
    alike ns rank o w h s k y (omega arith))
