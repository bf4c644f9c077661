-- Objects in byte memory: in order, each with its elements' words, and open.
use Rattle.std.proofs.Common.{◌≡◌, ◌≢◌, ℕ, zero, suc, ◌+◌, ◌-◌, ◌*◌, ◌/◌, ◌%◌, ◌^◌, ◌<◌, ◌≤◌, ◌⊎◌}
use Rattle.std.proofs.Common.{inl, inr, Bool, true, false, cond, List, [], ◌∷◌, ◌++◌, map, length}
use Rattle.std.proofs.Common.{take, replicate, Option, Some, None, refl, sym, ap, ap₂, ◌∙◌, subst}
use Rattle.std.proofs.Common.{arith}
use Rattle.std.specs.Prelude.{◌&&◌, nat_eq, nat_lt, nat_le, slice_get, slice_set}
use Rattle.std.proofs.lemmas.Bool.Decides.{nat_tests}
use Rattle.c_tree.specs.declared.Kind.{Kind}
use Rattle.c_tree.specs.declared.Kind.TheVariants.{Char, UChar, Short, UShort, Int, UInt, Long, ULong}
use Rattle.c_tree.specs.declared.Kind.TheVariants as kind
use Rattle.c_constant.specs.Kinds.{bytes}
use Rattle.trips_isa.specs.Stores.{is_good_address, data_size}
use Rattle.ir_forms.specs.inside.Cells.{Mark, Closed, Open, Held, Cell, Memory, number_put, all_open}
use Rattle.ir_forms.specs.inside.Cells.{marked, load}
use Rattle.ir_forms.specs.inside.FlatRuns.{checked}
use Rattle.c_constant.specs.Kinds.{IsWord}
use Rattle.flat_lower.specs.inside.Operations.{load_op, save_op}
use Rattle.flat_lower.proofs.Bytes.{SameOn, load_same, put_there, put_open, load_saved, load_apart}
use Rattle.flat_lower.proofs.Bytes.{marked_out, opened, open_same}

-- an array, or a global scalar as an array of one element
pub record Object : Type 0 where
  pub at : ℕ
  pub kind : Kind
  pub length : ℕ
  -- the second size, where it has two
  pub row : Option ℕ

-- the elements in a row of an object, if it has rows
abbrev pub object_row : Object → Option ℕ
object_row o = o.row

-- the address of an object's element
abbrev pub element_at : Object → ℕ → ℕ
element_at o i = o.at + bytes o.kind * i

-- the address behind an object
abbrev pub end_of : Object → ℕ
end_of o = o.at + bytes o.kind * o.length

-- objects from lo to hi, one behind the other, each at a whole word
abbrev pub Laid : ℕ → ℕ → List Object → Type 0
Laid lo hi [] = lo ≤ hi
Laid lo hi (o ∷ os) = (lo ≤ o.at) × (o.at % 8 ≡ 0) × Laid (end_of o) hi os

pub laid_within : (lo hi : ℕ) (os : List Object) → Laid lo hi os → lo ≤ hi
laid_within lo hi [] h = h
laid_within lo hi (o ∷ os) h = let a = h.0 in let b = laid_within (end_of o) hi os h.2 in omega arith

-- objects that are laid from an address on are so from a lower one on
pub laid_lower : (lo low hi : ℕ) (os : List Object) → low ≤ lo → Laid lo hi os → Laid low hi os
laid_lower lo low hi [] le h = omega arith
laid_lower lo low hi (o ∷ os) le h = let a = h.0 in (omega arith, h.1, h.2)

-- objects laid behind others are laid with them
pub laid_append : (lo mid hi : ℕ) (os ps : List Object) → Laid lo mid os → Laid mid hi ps
    → Laid lo hi (os ++ ps)
laid_append lo mid hi [] ps h k = laid_lower mid lo hi ps h k
laid_append lo mid hi (o ∷ os) ps h k = (h.0, h.1, laid_append (end_of o) mid hi os ps h.2 k)

-- where an object stands
pub record Stands (lo hi : ℕ) (o : Object) : Type 0 where
  pub above : lo ≤ o.at
  pub below : end_of o ≤ hi
  pub aligned : o.at % 8 ≡ 0

-- each of the objects that are laid stands within their bounds
pub laid_at : (lo hi : ℕ) (os : List Object) (k : ℕ) (o : Object) → Laid lo hi os
    → slice_get os k ≡ Some o → Stands lo hi o
laid_at lo hi [] k o h e = absurd (cc e)
laid_at lo hi (p ∷ os) zero o h e =
    let same : p ≡ o = cc in
    subst (λ o. Stands lo hi o) same (record {
      above = h.0;
      below = laid_within (end_of p) hi os h.2;
      aligned = h.1;
    })
laid_at lo hi (p ∷ os) (suc k) o h e =
    let a = h.0 in
    let s = laid_at (end_of p) hi os k o h.2 e in
    let b = s.above in
    record { above = omega arith; below = s.below; aligned = s.aligned }

-- ELEMENTS

-- sizes by their type: 1, 2, 4 or 8
abbrev pub SizeIs : ℕ → Type 0
SizeIs s = (s ≡ 1) ⊎ ((s ≡ 2) ⊎ ((s ≡ 4) ⊎ (s ≡ 8)))

-- each kind has a size that machine accesses have
pub size_is : (k : Kind) → SizeIs (bytes k)
size_is Char = inl refl
size_is UChar = inl refl
size_is Short = inr (inl refl)
size_is UShort = inr (inl refl)
size_is Int = inr (inr (inl refl))
size_is UInt = inr (inr (inl refl))
size_is Long = inr (inr (inr refl))
size_is ULong = inr (inr (inr refl))
size_is kind.Bool = inl refl

-- what follows of elements holds where it holds for each size
pub by_size : (P : ℕ → Type 0) (s : ℕ) → SizeIs s → P 1 → P 2 → P 4 → P 8 → P s
by_size P s (inl e) a b c d = subst P (sym e) a
by_size P s (inr (inl e)) a b c d = subst P (sym e) b
by_size P s (inr (inr (inl e))) a b c d = subst P (sym e) c
by_size P s (inr (inr (inr e))) a b c d = subst P (sym e) d

-- an element lies inside its object
pub element_in : (k : Kind) (at n i : ℕ) → i < n
    → at + bytes k * i + bytes k ≤ at + bytes k * n
element_in k at n i lt = by_size (λ s. at + s * i + s ≤ at + s * n) (bytes k) (size_is k)
    (omega arith) (omega arith) (omega arith) (omega arith)

-- and apart from the others
pub elements_apart : (k : Kind) (at i j : ℕ) → i ≢ j
    → (at + bytes k * i + bytes k ≤ at + bytes k * j) ⊎
    (at + bytes k * j + bytes k ≤ at + bytes k * i)
elements_apart k at i j h = go (nat_lt i j) refl
  where
    go : (t : Bool) → nat_lt i j ≡ t → (at + bytes k * i + bytes k ≤ at + bytes k * j) ⊎
        (at + bytes k * j + bytes k ≤ at + bytes k * i)
    go true e = let lt : i < j = grind (arith, nat_tests) in inl (element_in k at j i lt)
    go false e =
        let le : j ≤ i = grind (arith, nat_tests) in let lt : j < i = omega arith in inr (element_in k at i j lt)

good_tests : (a s : ℕ) → 0 < s → a % s ≡ 0 → a + s ≤ data_size → is_good_address a s ≡ true
good_tests a s p e h =
    let x : nat_lt 0 s ≡ true = grind (arith, nat_tests) in
    let y : nat_eq (a % s) 0 ≡ true = grind (arith, nat_tests) in
    let z : nat_le (a + s) data_size ≡ true = grind (arith, nat_tests) in
    ap₂ (λ u v. u && (nat_eq (a % s) 0 && v)) x z ∙ ap (λ u. u && true) y

-- the address of an element within data memory is a good one for its size
pub good_element : (k : Kind) (at i : ℕ) → at % 8 ≡ 0 → at + bytes k * i + bytes k ≤ data_size
    → is_good_address (at + bytes k * i) (bytes k) ≡ true
good_element k at i e h =
    good_tests (at + bytes k * i) (bytes k)
    (by_size (λ s. 0 < s) (bytes k) (size_is k) (omega arith) (omega arith) (omega arith)
    (omega arith))
    (by_size (λ s. (at + s * i) % s ≡ 0) (bytes k) (size_is k) (omega arith) (omega arith)
    (omega arith) (omega arith))
    h

-- OBJECTS IN MEMORY

-- element i has a word
pub record Holds (o : Object) (m : Memory) (i w : ℕ) : Type 0 where
  pub fits : IsWord o.kind w
  pub loaded : load checked (load_op o.kind) m (element_at o i) ≡ Some w

-- an array's set elements are in memory, and all are open
pub record Stored (o : Object) (row : List (Option ℕ)) (m : Memory) : Type 0 where
  pub long : length row ≡ o.length
  pub holds : (i w : ℕ) → slice_get row i ≡ Some (Some w) → Holds o m i w
  pub opens : (i : ℕ) → i < o.length → all_open m (element_at o i) (bytes o.kind) ≡ true

-- each object's row is stored
abbrev pub AllStored : List Object → List (List (Option ℕ)) → Memory → Type 0
AllStored [] [] m = Unit {0}
AllStored [] (r ∷ rs) m = ⊥
AllStored (o ∷ os) [] m = ⊥
AllStored (o ∷ os) (r ∷ rs) m = Stored o r m × AllStored os rs m

-- What an index finds in a row stands below the row's length.
pub within_row : {A : Type 0} (row : List A) (i : ℕ) (a : A) → slice_get row i ≡ Some a
    → i < length row
within_row [] i a h = absurd (cc h)
within_row (x ∷ row) zero a h = omega arith
within_row (x ∷ row) (suc i) a h = let k = within_row row i a h in omega arith

-- memories that agree on an object's bytes
pub stored_same : (o : Object) (row : List (Option ℕ)) (m n : Memory)
    → ((b : ℕ) → o.at ≤ b → b < end_of o → n b ≡ m b) → Stored o row m → Stored o row n
stored_same o row m n h s = record {
  long = s.long;
  holds = λ i w e.
      let v = s.holds i w e in
      let lt : i < o.length = omega (arith, within_row row i (Some w) e, s.long) in
      record {
        fits = v.fits;
        loaded = load_same o.kind n m (element_at o i) (same i lt)
            ∙ v.loaded;
      };
  opens = λ i lt. open_same n m (element_at o i) (bytes o.kind) (same i lt) ∙ s.opens i lt;
}
  where
    same : (i : ℕ) → i < o.length → SameOn n m (element_at o i) (bytes o.kind)
    same i lt j jt = let k = element_in o.kind o.at o.length i lt in
        h (element_at o i + j) (omega arith) (omega arith)

-- a memory that is the same on the objects' bytes stores the same rows
pub all_same : (lo hi : ℕ) (os : List Object) (rows : List (List (Option ℕ))) (m n : Memory)
    → Laid lo hi os → ((b : ℕ) → lo ≤ b → b < hi → n b ≡ m b) → AllStored os rows m
    → AllStored os rows n
all_same lo hi [] [] m n l h s = tt
all_same lo hi [] (r ∷ rs) m n l h s = s
all_same lo hi (o ∷ os) [] m n l h s = s
all_same lo hi (o ∷ os) (r ∷ rs) m n l h s =
    let le = laid_within (end_of o) hi os l.2 in
    let a = l.0 in (
      stored_same o r m n (λ b x y. h b (omega arith) (omega arith)) s.0,
      all_same (end_of o) hi os rs m n l.2 (λ b x y. h b (omega arith) y) s.1,
    )

-- rows stored for some objects and for others are stored for all of them
pub all_append : (os ps : List Object) (rows more : List (List (Option ℕ))) (m : Memory)
    → AllStored os rows m → AllStored ps more m → AllStored (os ++ ps) (rows ++ more) m
all_append [] ps [] more m a b = b
all_append [] ps (r ∷ rs) more m a b = absurd a
all_append (o ∷ os) ps [] more m a b = absurd a
all_append (o ∷ os) ps (r ∷ rs) more m a b = (a.0, all_append os ps rs more m a.1 b)

-- the first objects of those
pub all_first : (os ps : List Object) (rows : List (List (Option ℕ))) (m : Memory)
    → AllStored (os ++ ps) rows m → AllStored os (take (length os) rows) m
all_first [] ps rows m a = tt
all_first (o ∷ os) ps [] m a = absurd a
all_first (o ∷ os) ps (r ∷ rs) m a = (a.0, all_first os ps rs m a.1)

-- there are as many rows as objects
pub all_length : (os : List Object) (rows : List (List (Option ℕ))) (m : Memory)
    → AllStored os rows m → length rows ≡ length os
all_length [] [] m a = refl
all_length [] (r ∷ rs) m a = absurd a
all_length (o ∷ os) [] m a = absurd a
all_length (o ∷ os) (r ∷ rs) m a = ap suc (all_length os rs m a.1)

-- each object's row is stored
pub all_at : (os : List Object) (rows : List (List (Option ℕ))) (m : Memory) (k : ℕ) (o : Object)
    (row : List (Option ℕ)) → AllStored os rows m → slice_get os k ≡ Some o
    → slice_get rows k ≡ Some row → Stored o row m
all_at [] rows m k o row a e f = absurd (cc e)
all_at (p ∷ os) [] m k o row a e f = absurd a
all_at (p ∷ os) (r ∷ rs) m zero o row a e f =
    let x : p ≡ o = cc in
    let y : r ≡ row = cc in
    subst (λ o. Stored o row m) x (subst (λ row. Stored p row m) y a.0)
all_at (p ∷ os) (r ∷ rs) m (suc k) o row a e f = all_at os rs m k o row a.1 e f

-- A SAVE

-- what was set at a place of a row stands there
pub set_here : {A : Type 0} (row : List A) (i : ℕ) (a b : A) → slice_get row i ≡ Some a
    → slice_get (slice_set row i b) i ≡ Some b
set_here [] i a b h = absurd (cc h)
set_here (x ∷ row) zero a b h = refl
set_here (x ∷ row) (suc i) a b h = set_here row i a b h

-- what was set at a place of a row leaves the others
pub set_there : {A : Type 0} (row : List A) (i j : ℕ) (b : A) → j ≢ i
    → slice_get (slice_set row i b) j ≡ slice_get row j
set_there [] i j b h = refl
set_there (x ∷ row) zero zero b h = absurd (h refl)
set_there (x ∷ row) zero (suc j) b h = refl
set_there (x ∷ row) (suc i) zero b h = refl
set_there (x ∷ row) (suc i) (suc j) b h = set_there row i j b (λ e. h (ap suc e))

-- a row that was changed is as long as before
pub set_length : {A : Type 0} (row : List A) (i : ℕ) (b : A)
    → length (slice_set row i b) ≡ length row
set_length [] i b = refl
set_length (x ∷ row) zero b = refl
set_length (x ∷ row) (suc i) b = ap suc (set_length row i b)

-- memory with a word put into an object's element
abbrev pub put_element : Object → Memory → ℕ → ℕ → Memory
put_element o m i v = number_put m (element_at o i) (bytes o.kind) v

-- the object that is saved to
pub stored_put : (o : Object) (row : List (Option ℕ)) (m : Memory) (i v : ℕ) (c : Option ℕ)
    → slice_get row i ≡ Some c → o.at % 8 ≡ 0 → end_of o ≤ data_size → IsWord o.kind v
    → Stored o row m → Stored o (slice_set row i (Some v)) (put_element o m i v)
stored_put o row m i v c e al le f s = record {
  long = set_length row i (Some v) ∙ s.long;
  holds = λ j w h. go j w h (nat_eq j i) refl;
  opens = λ j lt. put_open (bytes o.kind) m (element_at o i) v (element_at o j) (bytes o.kind)
      (s.opens j lt);
}
  where
    inside : i < o.length
    inside = omega (arith, within_row row i c e, s.long)

    good : is_good_address (element_at o i) (bytes o.kind) ≡ true
    good = good_element o.kind o.at i al (omega (arith, element_in o.kind o.at o.length i inside))

    go : (j w : ℕ) → slice_get (slice_set row i (Some v)) j ≡ Some (Some w) → (t : Bool)
        → nat_eq j i ≡ t → Holds o (put_element o m i v) j w
    go j w h true g =
        let same : j ≡ i = grind (arith, nat_tests) in
        let x : slice_get (slice_set row i (Some v)) i ≡ Some (Some w) = ap (slice_get (slice_set row i (Some v)))
        (sym same) ∙ h in
        let y : v ≡ w = cc (set_here row i c (Some v) e) in
        subst (λ j. Holds o (put_element o m i v) j w) (sym same)
        (subst (λ w. Holds o (put_element o m i v) i w) y
        (record { fits = f; loaded = load_saved o.kind m (element_at o i) v good f }))
    go j w h false g =
        let other : j ≢ i = grind (arith, nat_tests) in
        let a = s.holds j w (sym (set_there row i j (Some v) other) ∙ h) in
        record {
          fits = a.fits;
          loaded = load_apart o.kind m (element_at o i) (bytes o.kind) v
              (element_at o j) (elements_apart o.kind o.at j i other) ∙ a.loaded;
        }

-- all objects
pub all_put : (lo hi : ℕ) (os : List Object) (rows : List (List (Option ℕ))) (m : Memory)
    (k i v : ℕ) (o : Object) (row : List (Option ℕ)) (c : Option ℕ) → Laid lo hi os → hi ≤ data_size
    → slice_get os k ≡ Some o → slice_get rows k ≡ Some row → slice_get row i ≡ Some c
    → IsWord o.kind v → AllStored os rows m
    → AllStored os (slice_set rows k (slice_set row i (Some v))) (put_element o m i v)
all_put lo hi [] rows m k i v o row c l le e f g w s = absurd (cc e)
all_put lo hi (p ∷ os) [] m k i v o row c l le e f g w s = absurd s
all_put lo hi (p ∷ os) (r ∷ rs) m zero i v o row c l le e f g w s =
    let x : p ≡ o = cc in
    let y : r ≡ row = cc in
    let so : Stored o row m = subst (λ o. Stored o row m) x (subst (λ row. Stored p row m) y s.0) in
    let al : o.at % 8 ≡ 0 = ap (λ (p : Object). p.at % 8) (sym x) ∙ l.1 in
    let within = laid_within (end_of p) hi os l.2 in
    let ends : end_of p ≡ end_of o = ap end_of x in
    let in_row : i < o.length = omega (arith, within_row row i c g, so.long) in
    let last = element_in o.kind o.at o.length i in_row in (
      subst (λ p. Stored p (slice_set row i (Some v)) (put_element o m i v)) (sym x)
          (stored_put o row m i v c g al (omega arith) w so),
      all_same (end_of p) hi os rs m (put_element o m i v) l.2
          (λ b lt h. put_there (bytes o.kind) m (element_at o i) v b (inr (omega arith))) s.1,
    )
all_put lo hi (p ∷ os) (r ∷ rs) m (suc k) i v o row c l le e f g w s =
    let st = laid_at (end_of p) hi os k o l.2 e in
    let above = st.above in (
      stored_same p r m (put_element o m i v)
          (λ b lt h. put_there (bytes o.kind) m (element_at o i) v b (inl (omega arith))) s.0,
      all_put (end_of p) hi os rs m k i v o row c l.2 le e f g w s.1,
    )
