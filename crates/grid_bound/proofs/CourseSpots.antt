-- The places that a block asks for, what an instruction takes that gives a token, and which reads there are.
use Rattle.std.proofs.Common.{◌≡◌, ◌≢◌, ℕ, zero, suc, ◌+◌, ◌<◌, ◌⊎◌, inl, inr, Bool, true, false}
use Rattle.std.proofs.Common.{List, [], ◌∷◌, ◌++◌, length, Some, None, is_some, slice_get}
use Rattle.std.proofs.Common.{refl, sym, ap, ◌∙◌, subst, arith}
use Rattle.std.specs.Prelude.{All}
use Rattle.std.proofs.lemmas.List.Elements.{All-head, All-tail}
use Rattle.std.proofs.lemmas.Bool.Decides.{nat_tests}
use Rattle.trips_isa.specs.declared.block.Token.TheVariants.{Null, Word}
use Rattle.trips_isa.specs.declared.block.ReadSlot.{ReadSlot}
use Rattle.trips_isa.specs.declared.block.Sense.{Sense}
use Rattle.trips_isa.specs.declared.block.Sense.TheVariants.{Always, OnTrue, OnFalse}
use Rattle.trips_isa.specs.declared.node.Node.{Node}
use Rattle.trips_isa.specs.declared.form.Role.{Role}
use Rattle.trips_isa.specs.declared.form.Role.TheVariants.{Empty, Reading, Free, Nothing, Copy, One, Both}
use Rattle.trips_isa.specs.declared.form.Form.{Form}
use Rattle.trips_isa.specs.declared.form.Form.TheVariants.{General, Immediate, Load, Store, Branch, Constant}
use Rattle.trips_isa.specs.Forms.{takes_left, takes_right, is_load}
use Rattle.trips_isa.specs.Operands.{is_guarded}
use Rattle.trips_isa.specs.Fits.{FitsRead}
use Rattle.trips_isa.specs.Rule.{Answer, matched, gives, if_matched}
use Rattle.trips_isa.specs.Places.{targets, names, load_bound, in_mask}
use Rattle.trips_isa.specs.Tables.{first, or_else, taken, stores_below}
use Rattle.grid_bound.specs.inside.Course.{Member}
use Rattle.grid_bound.specs.inside.Blocks.{if_so, numbers_in}
use Rattle.grid_bound.specs.inside.Blocks.{writes_of}

-- spots -------------------------------------------------------------------------------------------

-- a member of a list with one item more, if a test says so, is this item or a member of the list
pub member_if : (b : Bool) (p q : ℕ) (qs : List ℕ) → Member q (if_so b p qs) → ((b ≡ true) × (p ≡ q)) ⊎ Member q qs
member_if true p q qs (inl e) = inl (refl, e)
member_if true p q qs (inr m) = inr m
member_if false p q qs m = inr m

-- a member of two lists together is one of the first or of the second
pub member_both : (q : ℕ) (ps qs : List ℕ) → Member q (ps ++ qs) → Member q ps ⊎ Member q qs
member_both q [] qs m = inr m
member_both q (p ∷ ps) qs (inl e) = inl (inl e)
member_both q (p ∷ ps) qs (inr m) = go (member_both q ps qs m)
  where
    go : Member q ps ⊎ Member q qs → Member q (p ∷ ps) ⊎ Member q qs
    go (inl h) = inl (inr h)
    go (inr h) = inr h

-- the spot of a number of a mask
abbrev pub NumberOf : ℕ → ℕ → ℕ → Type 0
NumberOf mask n q = (m : ℕ) × (m < n) × (in_mask mask m ≡ true) × (416 + m ≡ q)

-- a member of the numbers of a mask is the spot of one of its numbers
pub a_number : (mask n q : ℕ) → Member q (numbers_in mask n) → NumberOf mask n q
a_number mask zero q m = absurd m
a_number mask (suc n) q m = go (a_number mask n q) (member_if (in_mask mask n) (416 + n) q (numbers_in mask n) m)
  where
    go : (Member q (numbers_in mask n) → NumberOf mask n q)
        → ((in_mask mask n ≡ true) × (416 + n ≡ q)) ⊎ Member q (numbers_in mask n) → NumberOf mask (suc n) q
    go ih (inl h) = (n, omega arith, h.0, h.1)
    go ih (inr h) = let d : NumberOf mask n q = ih h in let l : d.0 < n = d.1 in (d.0, omega (arith, l), d.2, d.3)

-- a member of the writes of a block is the spot of one of them
pub a_write : (n q : ℕ) → Member q (writes_of n) → (w : ℕ) × (w < n) × (384 + w ≡ q)
a_write zero q m = absurd m
a_write (suc n) q (inl e) = (n, omega arith, e)
a_write (suc n) q (inr m) = let d : (w : ℕ) × (w < n) × (384 + w ≡ q) = a_write n q m in
    let l : d.0 < n = d.1 in (d.0, omega (arith, l), d.2)

-- what an instruction takes -------------------------------------------------------------------------

-- what a role gives needs the operands that it takes
pub gives_left : (e : Role) (c : ℕ → ℕ → ℕ) (l r : Answer) → is_some (gives e c l r) ≡ true → takes_left e ≡ true
    → is_some l ≡ true
gives_left Copy c l r h t = h
gives_left One c None r h t = absurd (cc)
gives_left One c (Some k) r h t = refl
gives_left Both c None r h t = absurd (cc)
gives_left Both c (Some k) r h t = refl
gives_left Empty c l r h t = absurd (cc)
gives_left Reading c l r h t = absurd (cc)
gives_left Free c l r h t = absurd (cc)
gives_left Nothing c l r h t = absurd (cc)

-- an instruction that takes a right operand gives a token only where this has come
pub gives_right : (e : Role) (c : ℕ → ℕ → ℕ) (l r : Answer) → is_some (gives e c l r) ≡ true → takes_right e ≡ true
    → is_some r ≡ true
gives_right Both c None r h t = absurd (cc)
gives_right Both c (Some Null) None h t = absurd (cc)
gives_right Both c (Some (Word x)) None h t = absurd (cc)
gives_right Both c (Some k) (Some j) h t = refl
gives_right Copy c l r h t = absurd (cc)
gives_right One c l r h t = absurd (cc)
gives_right Empty c l r h t = absurd (cc)
gives_right Reading c l r h t = absurd (cc)
gives_right Free c l r h t = absurd (cc)
gives_right Nothing c l r h t = absurd (cc)

-- a predicate that matches has come, where the instruction has one
pub matched_some : (s : Sense) (p : Answer) → matched s p ≡ true → is_guarded s ≡ true → is_some p ≡ true
matched_some Always p h t = absurd (cc)
matched_some OnTrue None h t = absurd (cc)
matched_some OnTrue (Some k) h t = refl
matched_some OnFalse None h t = absurd (cc)
matched_some OnFalse (Some k) h t = refl

-- what is given under a test is given, and the test is true
pub if_parts : (b : Bool) (t : Answer) → is_some (if_matched b t) ≡ true → (b ≡ true) × (is_some t ≡ true)
if_parts true t h = (refl, h)
if_parts false t h = absurd (cc)

-- what stands at a place is given by a node that names it
abbrev pub GivenAt : List Node → ℕ → (ℕ → Answer) → Type 0
GivenAt ns q f = (y : ℕ) × (m : Node) × (slice_get ns y ≡ Some m) × (names (targets m) q ≡ true)
    × (is_some (f y) ≡ true)

-- a token that is first at a place is given there by a node
pub first_from : (ns : List Node) (q : ℕ) (f : ℕ → Answer) → is_some (first ns q f) ≡ true → GivenAt ns q f
first_from [] q f e = absurd (cc)
first_from (n ∷ ns) q f e = go (names (targets n) q) refl (f 0) refl (first_from ns q (λ y. f (suc y))) e
  where
    next : GivenAt ns q (λ y. f (suc y)) → GivenAt (n ∷ ns) q f
    next (y, m, i, k, j) = (suc y, m, i, k, j)

    go : (b : Bool) → names (targets n) q ≡ b → (t : Answer) → f 0 ≡ t
        → (is_some (first ns q (λ y. f (suc y))) ≡ true → GivenAt ns q (λ y. f (suc y)))
        → is_some (or_else (taken b f) (first ns q (λ y. f (suc y)))) ≡ true → GivenAt (n ∷ ns) q f
    go true k (Some t) j ih e = (0, n, refl, k, ap is_some j)
    go true k None j ih e = next (ih (sym (ap (λ u. is_some (or_else u (first ns q (λ y. f (suc y))))) j) ∙ e))
    go false k t j ih e = next (ih e)

-- what passes the test for some is not none
pub some_there : (t : Answer) → is_some t ≡ true → t ≢ None
some_there t e z = let k : is_some t ≡ false = ap is_some z in cc

-- what is not nothing is something
pub there_some : (t : Answer) → t ≢ None → is_some t ≡ true
there_some None n = absurd (n refl)
there_some (Some k) n = refl

-- the number of a read is below the count of reads
pub read_below : (rs : List ReadSlot) (y : ℕ) (slot : ReadSlot) → slice_get rs y ≡ Some slot → y < length rs
read_below [] y slot e = absurd (cc)
read_below (r ∷ rs) zero slot e = omega arith
read_below (r ∷ rs) (suc y) slot e = let l = read_below rs y slot e in omega (arith, l)

-- of reads that all fit each one does
pub each_read : (rs : List ReadSlot) → All FitsRead rs → (k : ℕ) (slot : ReadSlot) → slice_get rs k ≡ Some slot
    → FitsRead slot
each_read [] all k slot i = absurd (cc)
each_read (x ∷ rs) all zero slot i = let same : x ≡ slot = cc in subst FitsRead same (All-head FitsRead x rs all)
each_read (x ∷ rs) all (suc k) slot i = each_read rs (All-tail FitsRead x rs all) k slot i

-- a node that names a number names one below each greater number
pub below_number : (ts : List ℕ) (m k : ℕ) → m < k → names ts (416 + m) ≡ true → stores_below ts (416 + k) ≡ true
below_number [] m k l e = absurd (cc)
below_number (t ∷ ts) m k l e = grind (arith, nat_tests, below_number ts m k l)

-- a load waits for the stores of the numbers below its own
pub bound_of_load : (t : Form) (n : ℕ) → is_load t ≡ true → load_bound t n ≡ 416 + n
bound_of_load Load n e = refl
bound_of_load General n e = absurd (cc)
bound_of_load Immediate n e = absurd (cc)
bound_of_load Constant n e = absurd (cc)
bound_of_load Store n e = absurd (cc)
bound_of_load Branch n e = absurd (cc)
