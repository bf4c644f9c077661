-- What is taken at a place is what one node gives there, where no two nodes give different things.
use Rattle.std.proofs.Common.{◌≡◌, ℕ, zero, suc, Bool, true, false, List, [], ◌∷◌}
use Rattle.std.proofs.Common.{Option, Some, None, slice_get, refl, sym, ap, ◌∙◌}
use Rattle.trips_isa.specs.declared.node.Node.{Node}
use Rattle.trips_isa.specs.Places.{targets, names}
use Rattle.trips_isa.specs.Tables.{taken, or_else, first}

-- node x names place q, and gives v
pub record Given {A : Type 0} (ns : List Node) (q : ℕ) (f : ℕ → Option A) (x : ℕ) (v : A)
    : Type 0 where
  pub node : Node
  pub is : slice_get ns x ≡ Some node
  pub named : names (targets node) q ≡ true
  pub value : f x ≡ Some v

-- what nodes give at a place is never two different things
abbrev pub Once : {A : Type 0} → List Node → ℕ → (ℕ → Option A) → Type 0
Once {A} ns q f = (x y : ℕ) (u v : A) → Given ns q f x u → Given ns q f y v → u ≡ v

later : {A : Type 0} → (n : Node) (ns : List Node) (q : ℕ) (f : ℕ → Option A) (v : A)
    → (x : ℕ) × Given ns q (λ y. f (suc y)) x v → (x : ℕ) × Given (n ∷ ns) q f x v
later n ns q f v (x, g) = (
  suc x,
  record { node = g.node; is = g.is; named = g.named; value = g.value },
)

found_at : {A : Type 0} → (n : Node) (ns : List Node) (q : ℕ) (f : ℕ → Option A) (v : A) (b : Bool)
    (o : Option A) → names (targets n) q ≡ b → f 0 ≡ o
    → (first ns q (λ y. f (suc y)) ≡ Some v → (x : ℕ) × Given ns q (λ y. f (suc y)) x v)
    → or_else (taken b (λ y. o)) (first ns q (λ y. f (suc y))) ≡ Some v
    → (x : ℕ) × Given (n ∷ ns) q f x v
found_at n ns q f v true None t i h k = later n ns q f v (h k)
found_at n ns q f v true (Some u) t i h k =
    (0, record { node = n; is = refl; named = t; value = i ∙ k })
found_at n ns q f v false o t i h k = later n ns q f v (h k)

taken_head : {A : Type 0} → (b : Bool) (f : ℕ → Option A) → taken b f ≡ taken b (λ y. f 0)
taken_head true f = refl
taken_head false f = refl

pub found : {A : Type 0} → (ns : List Node) (q : ℕ) (f : ℕ → Option A) (v : A)
    → first ns q f ≡ Some v → (x : ℕ) × Given ns q f x v
found [] q f v e = absurd (cc)
found (n ∷ ns) q f v e = found_at n ns q f v (names (targets n) q) (f 0) refl refl
    (found ns q (λ y. f (suc y)) v)
    (sym (ap (λ t. or_else t (first ns q (λ y. f (suc y)))) (taken_head (names (targets n) q) f))
    ∙ e)

head_taken : {A : Type 0} → (b : Bool) (f : ℕ → Option A) (rest : Option A) (v : A) → b ≡ true
    → f 0 ≡ Some v → or_else (taken b f) rest ≡ None → ⊥
head_taken true f rest v b o k = by (f 0) o k
  where
    by : (t : Option _) → t ≡ Some v → or_else t rest ≡ None → ⊥
    by None o k = absurd (cc)
    by (Some u) o k = absurd (cc)
head_taken false f rest v b o k = absurd (cc)

rest_none : {A : Type 0} → (o rest : Option A) → or_else o rest ≡ None → rest ≡ None
rest_none None rest k = k
rest_none (Some u) rest k = absurd (cc)

-- where a node gives something, something is taken
pub some_taken : {A : Type 0} → (ns : List Node) (q : ℕ) (f : ℕ → Option A) (x : ℕ) (v : A)
    → Given ns q f x v → first ns q f ≡ None → ⊥
some_taken [] q f x v g e = let i = g.is in absurd (cc)
some_taken (n ∷ ns) q f zero v g e =
    let same : n ≡ g.node = (let i = g.is in cc) in
    let t : names (targets n) q ≡ true = ap (λ m. names (targets m) q) same ∙ g.named in
    head_taken (names (targets n) q) f (first ns q (λ y. f (suc y))) v t g.value e
some_taken (n ∷ ns) q f (suc x) v g e = some_taken ns q (λ y. f (suc y)) x v
    (record { node = g.node; is = g.is; named = g.named; value = g.value })
    (rest_none (taken (names (targets n) q) f) (first ns q (λ y. f (suc y))) e)

pub took : {A : Type 0} → (ns : List Node) (q : ℕ) (f : ℕ → Option A) → Once ns q f
    → (x : ℕ) (v : A)
    → Given ns q f x v → first ns q f ≡ Some v
took ns q f once x v g = by (first ns q f) refl
  where
    by : (o : Option _) → first ns q f ≡ o → first ns q f ≡ Some v
    by None e = absurd (some_taken ns q f x v g e)
    by (Some u) e = let h = found ns q f u e in e ∙ ap Some (once h.0 x u v h.1 g)

-- the same is taken where the same is given, in whatever order the nodes stand
pub taken_alike : {A : Type 0} → (ns ms : List Node) (q r : ℕ) (f g : ℕ → Option A) → Once ns q f
    → ((x : ℕ) (v : A) → Given ns q f x v → (y : ℕ) × Given ms r g y v)
    → ((y : ℕ) (v : A) → Given ms r g y v → (x : ℕ) × Given ns q f x v)
    → first ns q f ≡ first ms r g
taken_alike ns ms q r f g once to from = by (first ms r g) refl
  where
    by : (o : Option _) → first ms r g ≡ o → first ns q f ≡ first ms r g
    by (Some v) e =
        let h = found ms r g v e in
        let k = from h.0 v h.1 in
        took ns q f once k.0 v k.1 ∙ sym e
    by None e = none (first ns q f) refl
      where
        none : (o : Option _) → first ns q f ≡ o → first ns q f ≡ first ms r g
        none None k = k ∙ sym e
        none (Some v) k =
            let h = found ns q f v k in
            let s = to h.0 v h.1 in
            absurd (some_taken ms r g s.0 v s.1 e)
