-- Empty slots at the end take no part: what holds of the nodes before them holds of all.
use Rattle.std.proofs.Common.{◌≡◌, ℕ, zero, suc, ◌+◌, ◌-◌, ◌<◌, ◌≤◌, Bool, true, false, ◌||◌, ◌&&◌}
use Rattle.std.proofs.Common.{nat_lt, List, [], ◌∷◌, ◌++◌, length, take, Option, Some, None}
use Rattle.std.proofs.Common.{slice_get, refl, sym, ap, ap₂, ◌∙◌, subst, arith, true≢false}
use Rattle.std.proofs.Common.{length-append}
use Rattle.std.proofs.lemmas.List.{length-take-le}
use Rattle.block_cases.specs.declared.token.CaseToken.{CaseToken}
use Rattle.block_cases.specs.declared.token.CaseToken.TheVariants.{Absent}
use Rattle.trips_isa.specs.declared.form.Role.TheVariants.{Empty}
use Rattle.trips_isa.specs.declared.node.Node.{Node}
use Rattle.block_cases.specs.Nodes.{targets, names, one_if}
use Rattle.block_cases.specs.CaseRule.{no}
use Rattle.block_cases.specs.Choosers.{is_copy, names_predicate, asks, through, leads_from}
use Rattle.block_cases.specs.Cases.{deepest}
use Rattle.block_cases.specs.Choosers.{leads, is_chooser}
use Rattle.block_cases.specs.Cases.{present, bit, token, has_bit, is_case, IsCase}
use Rattle.block_cases.specs.CaseRule.{taken, or_else, first, pulled, fires}
use Rattle.block_cases.specs.Cases.{ones_pass, count, cases}
use Rattle.block_cases.specs.Cases.{tokens, InSomeCase}
use Rattle.block_check.specs.inside.Walk.{zeros}
use Rattle.block_check.specs.inside.Pass.{Spare}
use Rattle.block_check.proofs.Lists.{not_true, count_none}
use Rattle.block_check.proofs.Sparing.{first_none, pulled_spare, tokens_spare}
use Rattle.block_check.proofs.Walk.{ones_at, ones_from, bit_zeros, zeros_size}

is_below : (x u : ℕ) → nat_lt x u ≡ true → x < u
is_below x u e = grind arith

is_past : (x u : ℕ) → nat_lt x u ≡ false → u ≤ x
is_past x u e = grind arith

and_none : (a : Bool) → (a && false) ≡ false
and_none true = refl
and_none false = refl

-- nodes
pub get_low : (ns : List Node) (u x : ℕ) → x < u → slice_get (take u ns) x ≡ slice_get ns x
get_low ns zero x h = absurd (omega arith)
get_low [] (suc u) x h = refl
get_low (n ∷ ns) (suc u) zero h = refl
get_low (n ∷ ns) (suc u) (suc x) h = get_low ns u x (omega arith)

-- behind the first u nodes there is no node among them
pub get_high : (ns : List Node) (u x : ℕ) → u ≤ x → slice_get (take u ns) x ≡ None
get_high ns zero x h = refl
get_high [] (suc u) x h = refl
get_high (n ∷ ns) (suc u) zero h = absurd (omega arith)
get_high (n ∷ ns) (suc u) (suc x) h = get_high ns u x (omega arith)

-- what each node gives
first_cut : (ns : List Node) (u q : ℕ) (f : ℕ → CaseToken) → ((x : ℕ) → u ≤ x → f x ≡ Absent) →
    first (take u ns) q f ≡ first ns q f
first_cut ns zero q f h = sym (first_none ns q f (λ y. h y (omega arith)))
first_cut [] (suc u) q f h = refl
first_cut (n ∷ ns) (suc u) q f h = ap (or_else (taken (names (targets n) q) f)) (first_cut ns u q
    (λ y. f (suc y)) (λ x le. h (suc x) (omega arith)))

fires_high : (ns : List Node) (u : ℕ) (b : ℕ → Bool) (k x : ℕ) → u ≤ x →
    fires (take u ns) b k x ≡ Absent
fires_high ns u b zero x le = refl
fires_high ns u b (suc k) x le = ap (λ o. pulled o (b x) (λ q. first (take u ns) q (fires (take u
    ns) b k))) (get_high ns u x le)

fires_step : (ns : List Node) (u : ℕ) → Spare ns u → (b : ℕ → Bool) (k : ℕ) → ((y : ℕ) →
    fires (take u ns) b k y ≡ fires ns b k y) → (x : ℕ) →
    fires (take u ns) b (suc k) x ≡ fires ns b (suc k) x
fires_step ns u s b k h x = go (nat_lt x u) refl
  where
    gives : fires (take u ns) b k ≡ fires ns b k
    gives = λ i y. h y i

    pulls : (q : ℕ) → first (take u ns) q (fires (take u ns) b k) ≡ first ns q (fires ns b k)
    pulls q = first_cut ns u q (fires (take u ns) b k) (λ y le. fires_high ns u b k y le)
        ∙ ap (λ (f : ℕ → CaseToken). first ns q f) gives

    go : (v : Bool) → nat_lt x u ≡ v → fires (take u ns) b (suc k) x ≡ fires ns b (suc k) x
    go true e = ap (λ (o : Option Node). pulled o (b x) (λ q. first (take u ns) q (fires (take u
        ns) b k))) (get_low ns u x (is_below x u e))
        ∙ (λ i. pulled (slice_get ns x) (b x) (λ q. pulls q i))
    go false e = fires_high ns u b (suc k) x (is_past x u e)
        ∙ sym (pulled_spare ns u x (b x) (λ q. first ns q (fires ns b k)) s (is_past x u e))

fires_cut : (ns : List Node) (u : ℕ) → Spare ns u → (b : ℕ → Bool) (k x : ℕ) →
    fires (take u ns) b k x ≡ fires ns b k x
fires_cut ns u s b zero x = refl
fires_cut ns u s b (suc k) x = fires_step ns u s b k (fires_cut ns u s b k) x

-- which nodes are choosers
asks_same : (b : Bool) (f g : ℕ → Bool) → f 0 ≡ g 0 → asks b f ≡ asks b g
asks_same true f g e = e
asks_same false f g e = refl

through_none : (ns : List Node) (ts : List ℕ) (g : ℕ → Bool) → ((x : ℕ) (n : Node) →
    slice_get ns x ≡ Some n → n.role ≡ Empty) → through ns ts g ≡ false
through_none [] ts g h = refl
through_none (n ∷ ns) ts g h = ap₂ (λ a b. a || b) (ap (λ r. asks (is_copy r
    && names ts n.slot) g) (h 0 n refl)) (through_none ns ts (λ y. g (suc y)) (λ x m e. h (suc x) m
    e))

through_cut : (ns : List Node) (u : ℕ) (ts : List ℕ) (f g : ℕ → Bool) → Spare ns u → ((x : ℕ) →
    x < u → f x ≡ g x) → through (take u ns) ts f ≡ through ns ts g
through_cut ns zero ts f g s h = sym (through_none ns ts g (λ x n e. (s x n (omega arith) e).role))
through_cut [] (suc u) ts f g s h = refl
through_cut (n ∷ ns) (suc u) ts f g s h = ap₂ (λ a b. a || b) (asks_same (is_copy n.role
    && names ts n.slot) f g (h 0 (omega arith))) (through_cut ns u ts (λ y. f (suc y)) (λ y. g (suc
    y)) (λ x m le e. s (suc x) m (omega arith) e) (λ x lt. h (suc x) (omega arith)))

leads_step : (ns : List Node) (u : ℕ) → Spare ns u → (k : ℕ) → ((x : ℕ) → x < u →
    leads (take u ns) k x ≡ leads ns k x) → (o : Option Node) →
    leads_from (take u ns) o (leads (take u ns) k) ≡ leads_from ns o (leads ns k)
leads_step ns u s k h None = refl
leads_step ns u s k h (Some n) = ap (λ b. names_predicate (targets n)
    || b) (through_cut ns u (targets n) (leads (take u ns) k) (leads ns k) s h)

leads_cut : (ns : List Node) (u : ℕ) → Spare ns u → (k x : ℕ) → x < u →
    leads (take u ns) k x ≡ leads ns k x
leads_cut ns u s zero x lt = refl
leads_cut ns u s (suc k) x lt = ap (λ (o : Option Node). leads_from (take u ns) o (leads (take u
    ns) k)) (get_low ns u x lt) ∙ leads_step ns u s k (leads_cut ns u s k) (slice_get ns x)

chooser_cut : (ns : List Node) (u : ℕ) → Spare ns u → (x : ℕ) → x < u →
    is_chooser (take u ns) x (slice_get (take u ns) x) ≡ is_chooser ns x (slice_get ns x)
chooser_cut ns u s x lt = ap (λ (o : Option Node). is_chooser (take u ns) x o) (get_low ns u x lt)
    ∙ go (slice_get ns x)
  where
    go : (o : Option Node) → is_chooser (take u ns) x o ≡ is_chooser ns x o
    go None = refl
    go (Some n) = ap (λ b. no (is_copy n.role) && b) (leads_cut ns u s deepest x lt)

-- cases
spare_gives : (ns : List Node) (u : ℕ) → Spare ns u → (c : List Bool) (x : ℕ) → u ≤ x →
    token ns c x ≡ Absent
spare_gives ns u s c x le = sym (fires_cut ns u s (bit c) deepest x) ∙ fires_high ns u (bit c)
    deepest x le

spare_bit : (ns : List Node) (u : ℕ) → Spare ns u → (c : List Bool) (x : ℕ) → u ≤ x →
    has_bit ns c x ≡ false
spare_bit ns u s c x le = ap (λ t. is_chooser ns x (slice_get ns x)
    && present t) (spare_gives ns u s c x le) ∙ and_none (is_chooser ns x (slice_get ns x))

bit_cut : (ns : List Node) (u : ℕ) → Spare ns u → (c : List Bool) (x : ℕ) →
    has_bit (take u ns) c x ≡ has_bit ns c x
bit_cut ns u s c x = go (nat_lt x u) refl
  where
    go : (v : Bool) → nat_lt x u ≡ v → has_bit (take u ns) c x ≡ has_bit ns c x
    go true e = ap₂ (λ a b. a && b) (chooser_cut ns u s x (is_below x u e)) (ap present (fires_cut
        ns u s (bit c) deepest x))
    go false e = ap (λ (o : Option Node). is_chooser (take u ns) x o
        && present (token (take u ns) c x)) (get_high ns u x (is_past x u e))
        ∙ sym (spare_bit ns u s c x (is_past x u e))

case_cut : (ns : List Node) (u : ℕ) → Spare ns u → (c : List Bool) →
    is_case (take u ns) c ≡ is_case ns c
case_cut ns u s c =
    let same : has_bit (take u ns) c ≡ has_bit ns c = (λ i x. bit_cut ns u s c x i) in
    ap (λ (f : ℕ → Bool). ones_pass c f) same

high_bits : (ns : List Node) (u : ℕ) → Spare ns u → (c : List Bool) → is_case ns c ≡ true →
    (x : ℕ) → u ≤ x → bit c x ≡ false
high_bits ns u s c h x le = not_true _ (λ e. true≢false (sym (ones_at c (has_bit ns c) h x e)
    ∙ spare_bit ns u s c x le))

-- the bits of a case, cut off and made longer
bits_cut : (c : List Bool) (u : ℕ) → ((x : ℕ) → u ≤ x → bit c x ≡ false) → (x : ℕ) →
    bit (take u c) x ≡ bit c x
bits_cut c zero h x = sym (h x (omega arith))
bits_cut [] (suc u) h x = refl
bits_cut (v ∷ vs) (suc u) h zero = refl
bits_cut (v ∷ vs) (suc u) h (suc x) = bits_cut vs u (λ y le. h (suc y) (omega arith)) x

bits_longer : (c : List Bool) (m x : ℕ) → bit (c ++ zeros m) x ≡ bit c x
bits_longer [] m x = bit_zeros m x
bits_longer (v ∷ vs) m zero = refl
bits_longer (v ∷ vs) m (suc x) = bits_longer vs m x

case_same : (ns : List Node) (c d : List Bool) → ((x : ℕ) → bit c x ≡ bit d x) →
    is_case ns c ≡ true → is_case ns d ≡ true
case_same ns c d h e = ones_from d (has_bit ns d) (λ x i. sym (same x) ∙ ones_at c (has_bit ns c) e
    x (h x ∙ i))
  where
    bits : bit c ≡ bit d
    bits = λ i y. h y i

    same : (x : ℕ) → has_bit ns c x ≡ has_bit ns d x
    same x = ap (λ (b : ℕ → Bool). is_chooser ns x (slice_get ns x)
        && present (fires ns b deepest x)) bits

cut_case : (ns : List Node) (u : ℕ) (c : List Bool) → Spare ns u → u ≤ length ns → IsCase ns c →
    IsCase (take u ns) (take u c)
cut_case ns u c s le k = record {
  size = length-take-le u c (let z : length c ≡ length ns = k.size in omega arith)
      ∙ sym (length-take-le u ns le);
  bits = case_cut ns u s (take u c) ∙ case_same ns c (take u c) (λ x. sym (bits_cut c u (high_bits
      ns u s c k.bits) x)) k.bits;
}

full_case : (ns : List Node) (u : ℕ) (c : List Bool) → Spare ns u → u ≤ length ns →
    IsCase (take u ns) c → IsCase ns (c ++ zeros (length ns - u))
full_case ns u c s le k = record {
  size = (
      let a = length-append c (zeros (length ns - u)) in
      let z = zeros_size (length ns - u) in
      let t = length-take-le u ns le in
      let e : length c ≡ length (take u ns) = k.size in
      omega (arith, a, z, t, e)
      );
  bits = case_same ns c (c ++ zeros (length ns - u)) (λ x. sym (bits_longer c (length ns - u) x))
      (sym (case_cut ns u s c) ∙ k.bits);
}

tokens_cut : (ns : List Node) (u : ℕ) (c d : List Bool) (q : ℕ) → Spare ns u → ((x : ℕ) →
    bit c x ≡ bit d x) →
    tokens (take u ns) (token (take u ns) c) q ≡ tokens ns (token ns d) q
tokens_cut ns u c d q s h =
    tokens_spare ns u (token (take u ns) c) q (λ x le. fires_high ns u (bit c) deepest x le)
    ∙ ap (λ (f : ℕ → CaseToken). tokens ns f q) gives
  where
    bits : bit c ≡ bit d
    bits = λ i y. h y i

    at : (x : ℕ) → token (take u ns) c x ≡ token ns d x
    at x = fires_cut ns u s (bit c) deepest x
        ∙ ap (λ (b : ℕ → Bool). fires ns b deepest x) bits

    gives : token (take u ns) c ≡ token ns d
    gives = λ i x. at x i

-- what is so in some case
abbrev pub Sometimes : (ℕ → Type 0) → List Node → ℕ → Type 0
Sometimes P ns q = InSomeCase ns (λ c. P (tokens ns (token ns c) q))

-- what is so in some case of all nodes is so in some case of those before the empty slots
pub some_cut : (P : ℕ → Type 0) (ns : List Node) (u q : ℕ) → Spare ns u → u ≤ length ns →
    Sometimes P ns q → Sometimes P (take u ns) q
some_cut P ns u q s le g = (
  take u g.0,
  cut_case ns u g.0 s le g.1,
  subst P (sym (tokens_cut ns u (take u g.0) g.0 q s (bits_cut g.0 u (high_bits ns u s g.0
      g.1.bits)))) g.2,
)

-- what is so in some case of the nodes before the empty slots is so in some case of all
pub some_full : (P : ℕ → Type 0) (ns : List Node) (u q : ℕ) → Spare ns u → u ≤ length ns →
    Sometimes P (take u ns) q → Sometimes P ns q
some_full P ns u q s le g = (
  g.0 ++ zeros (length ns - u),
  full_case ns u g.0 s le g.1,
  subst P (tokens_cut ns u g.0 (g.0 ++ zeros (length ns - u)) q s (λ x. sym (bits_longer g.0
      (length ns - u) x))) g.2,
)

-- how many cases there are
count_zeros : (m : ℕ) (p : List Bool → Bool) → ((l : List Bool) (x : ℕ) → bit l x ≡ true →
    p l ≡ false) → count m p ≡ one_if (p (zeros m))
count_zeros zero p h = refl
count_zeros (suc m) p h =
    let a = count_zeros m (λ l. p (false ∷ l)) (λ l x b. h (false ∷ l) (suc x) b) in
    let z = count_none m (λ l. p (true ∷ l)) (λ l e. h (true ∷ l) 0 refl) in
    omega (arith, a, z)

count_cut : (u m n : ℕ) (p q : List Bool → Bool) → n ≡ u + m → ((l : List Bool) (x : ℕ) → u ≤ x →
    bit l x ≡ true → p l ≡ false) → ((l : List Bool) → q l ≡ p (l ++ zeros m)) →
    count n p ≡ count u q
count_cut zero m n p q s h e =
    let same : n ≡ m = omega arith in
    ap (λ k. count k p) same ∙ count_zeros m p (λ l x b. h l x (omega arith) b)
    ∙ ap one_if (sym (e []))
count_cut (suc u) m zero p q s h e = absurd (omega arith)
count_cut (suc u) m (suc n) p q s h e = ap₂ (λ a b. a + b) (count_cut u m n (λ l. p (false ∷ l)) (λ
    l. q (false ∷ l)) (omega arith) (λ l x le b. h (false ∷ l) (suc x) (omega arith) b) (λ l. e
    (false ∷ l))) (count_cut u m n (λ l. p (true ∷ l)) (λ l. q (true ∷ l)) (omega arith) (λ l x le
    b. h (true ∷ l) (suc x) (omega arith) b) (λ l. e (true ∷ l)))

bool_same : (a b : Bool) → (a ≡ true → b ≡ true) → (b ≡ true → a ≡ true) → a ≡ b
bool_same true b h g = sym (h refl)
bool_same false true h g = g refl
bool_same false false h g = refl

-- the nodes before the empty slots have as many cases as all nodes
pub cases_cut : (ns : List Node) (u : ℕ) → Spare ns u → u ≤ length ns →
    cases ns ≡ cases (take u ns)
cases_cut ns u s le =
    count_cut u (length ns - u) (length ns) (is_case ns) (is_case (take u ns)) (omega arith)
    (λ l x far b. not_true _ (λ e. true≢false (sym b ∙ high_bits ns u s l e x far)))
    (λ l. case_cut ns u s l ∙ bool_same _ _ (λ e. case_same ns l (l ++ zeros (length ns - u)) (λ x.
    sym (bits_longer l (length ns - u) x)) e) (λ e. case_same ns (l ++ zeros (length ns - u)) l
    (λ x. bits_longer l (length ns - u) x) e))
    ∙ ap (λ n. count n (is_case (take u ns))) (sym (length-take-le u ns le))
