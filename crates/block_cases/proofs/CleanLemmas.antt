-- Where nothing that a block does faults, no node has a mark, whatever the order of its nodes.
use Rattle.std.proofs.Common.{◌≡◌, ℕ, zero, suc, ◌+◌, ◌<◌, ◌≤◌, Bool, true, false, not, ◌&&◌, cond, ◌==◌}
use Rattle.std.proofs.Common.{nat_lt, nat_eq, List, [], ◌∷◌, ◌++◌, length, Option, Some, None}
use Rattle.std.proofs.Common.{slice_get, refl, sym, ap, ◌∙◌, subst, arith}
use Rattle.std.proofs.lemmas.Bool.Decides.{nat_tests}
use Rattle.trips_isa.specs.declared.form.Form.{Form}
use Rattle.trips_isa.specs.declared.form.Form.TheVariants.{General, Immediate, Load, Store, Branch}
use Rattle.trips_isa.specs.declared.form.Form.TheVariants.{Constant}
use Rattle.trips_isa.specs.declared.node.Node.{Node}
use Rattle.trips_isa.specs.declared.block.Inst.{Inst}
use Rattle.trips_isa.specs.declared.block.Block.{Block}
use Rattle.trips_isa.specs.Forms.{form_of, size_of, takes_left, takes_right}
use Rattle.trips_isa.specs.Stores.{address_of, is_good_address}
use Rattle.trips_isa.proofs.OperandFacts.{good_is}
use Rattle.trips_isa.specs.Rule.{Answer}
use Rattle.trips_isa.specs.Places.{targets, names, nodes_of}
use Rattle.trips_isa.specs.Tables.{taken, or_else, first, deepest}
use Rattle.trips_isa.specs.Blocks.{at_place, is_read, inst_at}
use Rattle.trips_isa.specs.Faults.{divides, fault_at, fault_in}
use Rattle.trips_isa.specs.Faults.{fault_if_read, node_fault}
use Rattle.trips_isa.specs.declared.operands.Operands.{Operands}
use Rattle.trips_isa.specs.declared.operands.Operands.TheVariants.{Missing, Nulls, Words}
use Rattle.trips_isa.specs.Operands.{operands, is_guarded}
use Rattle.trips_isa.specs.Marks.{least, mark_by, beside, or_unmarked, mark_at, node_mark, mark_given}
use Rattle.trips_isa.specs.Marks.{mark_of, owed, least_at, cause}
use Rattle.trips_isa.specs.inside.Acts.{Act, Divided, Accessed, is_fault, is_clean, IsClean, acts_in}
use Rattle.trips_isa.specs.inside.Acts.{acts_if_read, acts_by, fired_acts, node_acts, acts_to, block_acts}

and_left : (a b : Bool) → (a && b) ≡ true → a ≡ true
and_left true b e = refl
and_left false true e = absurd (cc)
and_left false false e = absurd (cc)

and_right : (a b : Bool) → (a && b) ≡ true → b ≡ true
and_right a true e = refl
and_right true false e = absurd (cc)
and_right false false e = absurd (cc)

and_both : (a b : Bool) → a ≡ true → b ≡ true → (a && b) ≡ true
and_both true b e f = f
and_both false b e f = absurd (cc)

clean_front : (xs ys : List Act) → is_clean (xs ++ ys) ≡ true → is_clean xs ≡ true
clean_front [] ys e = refl
clean_front (a ∷ xs) ys e =
    and_both (not (is_fault a)) (is_clean xs)
    (and_left (not (is_fault a)) (is_clean (xs ++ ys)) e)
    (clean_front xs ys (and_right (not (is_fault a)) (is_clean (xs ++ ys)) e))

clean_back : (xs ys : List Act) → is_clean (xs ++ ys) ≡ true → is_clean ys ≡ true
clean_back [] ys e = e
clean_back (a ∷ xs) ys e = clean_back xs ys
    (and_right (not (is_fault a)) (is_clean (xs ++ ys)) e)

-- what each node does is clean
each_clean : (b : Block) (g : ℕ → Answer) (n k : ℕ) → k < n → is_clean (acts_to b g n) ≡ true
    → is_clean (node_acts b g k) ≡ true
each_clean b g zero k l e = absurd (omega arith)
each_clean b g (suc n) k l e =
    go (nat_eq k n) refl
    (λ less. each_clean b g n k less (clean_front (acts_to b g n) (node_acts b g n) e))
  where
    go : (v : Bool) → nat_eq k n ≡ v → (k < n → is_clean (node_acts b g k) ≡ true)
        → is_clean (node_acts b g k) ≡ true
    go true t earlier =
        let same : n ≡ k = grind (arith, nat_tests) in
        subst (λ j. is_clean (node_acts b g j) ≡ true) same
        (clean_back (acts_to b g n) (node_acts b g n) e)
    go false t earlier = earlier (grind (arith, nat_tests))

clean_both : (xs ys : List Act) → is_clean xs ≡ true → is_clean ys ≡ true
    → is_clean (xs ++ ys) ≡ true
clean_both [] ys e f = f
clean_both (a ∷ xs) ys e f =
    and_both (not (is_fault a)) (is_clean (xs ++ ys)) (and_left (not (is_fault a)) (is_clean xs) e)
    (clean_both xs ys (and_right (not (is_fault a)) (is_clean xs) e) f)

-- what the nodes do is clean where each is, and the other way
clean_to : (b : Block) (g : ℕ → Answer) (n : ℕ) → IsClean b g → is_clean (acts_to b g n) ≡ true
clean_to b g zero h = refl
clean_to b g (suc n) h = clean_both (acts_to b g n) (node_acts b g n) (clean_to b g n h) (h n)

-- a block in which nothing faults by the rule passes the test
pub clean_whole : (b : Block) (g : ℕ → Answer) → IsClean b g → is_clean (block_acts b g) ≡ true
clean_whole b g h = clean_to b g (length (nodes_of b)) h

beyond : {A : Type 0} → (ns : List A) (x : ℕ) → length ns ≤ x → slice_get ns x ≡ None
beyond [] x l = refl
beyond (n ∷ ns) zero l = absurd (omega (arith, l))
beyond (n ∷ ns) (suc x) l = beyond ns x (omega (arith, l))

-- where nothing in the list of a block's acts faults, nothing that a node does faults
pub clean_parts : (b : Block) (g : ℕ → Answer) → is_clean (block_acts b g) ≡ true → IsClean b g
clean_parts b g clean x = go (nat_lt x (length (nodes_of b))) refl
  where
    go : (v : Bool) → nat_lt x (length (nodes_of b)) ≡ v → is_clean (node_acts b g x) ≡ true
    go true t = each_clean b g (length (nodes_of b)) x (grind (arith, nat_tests)) clean
    go false t = ap (λ (o : Option Node). is_clean (fired_acts o
        (acts_if_read (is_read b x) (inst_at b x)) (at_place b g) (g x)))
        (beyond (nodes_of b) x (grind (arith, nat_tests)))

-- an instruction whose acts are clean has no fault ---------------------------------------------

no_division : (v w : Bool) → (not w && true) ≡ true → cond {A = ℕ} (v && w) 1 0 ≡ 0
no_division v true e = absurd (cc)
no_division true false e = refl
no_division false false e = refl

no_divide : (w : Bool) → cond {A = ℕ} (false && w) 1 0 ≡ 0
no_divide true = refl
no_divide false = refl

clean_divides : (v : Bool) (r : ℕ) → is_clean (cond v (Divided r ∷ []) []) ≡ true
    → cond {A = ℕ} (v && nat_eq r 0) 1 0 ≡ 0
clean_divides true r e = no_division true (nat_eq r 0) e
clean_divides false r e = no_divide (nat_eq r 0)

twice_not : (v : Bool) → (not (not v) && true) ≡ true → v ≡ true
twice_not true e = refl
twice_not false e = absurd (cc)

is_zero : (n : ℕ) → (n == 0) ≡ true → n ≡ 0
is_zero n e = grind (arith, nat_tests)

clean_access : (a k : ℕ) → is_clean (Accessed a k ∷ []) ≡ true → fault_at a k ≡ 0
clean_access a k e = is_zero (fault_at a k)
    (and_right (nat_lt 0 k) (fault_at a k == 0)
    (sym (good_is a k) ∙ twice_not (is_good_address a k) e))

clean_form : (t : Form) (i : Inst) (l r : ℕ) → is_clean (acts_in t i l r) ≡ true
    → fault_in t i l r ≡ 0
clean_form General i l r e = clean_divides (divides i.op) r e
clean_form Immediate i l r e = refl
clean_form Constant i l r e = refl
clean_form Branch i l r e = refl
clean_form Load i l r e = clean_access (address_of i l) (size_of i.op) e
clean_form Store i l r e = clean_access (address_of i l) (size_of i.op) e

pub clean_own : (v : Bool) (i : Option Inst) (l r : ℕ) → is_clean (acts_if_read v i l r) ≡ true
    → fault_if_read v i l r ≡ 0
clean_own true i l r e = refl
clean_own false None l r e = refl
clean_own false (Some i) l r e = clean_form (form_of i.op) i l r e

-- marks ------------------------------------------------------------------------------------------

either_zero : (v : Bool) (m : ℕ) → m ≡ 0 → cond v m 0 ≡ 0
either_zero true m e = e
either_zero false m e = refl

none_by : (own : ℕ → ℕ → ℕ) (acts : ℕ → ℕ → List Act) (o : Operands)
    → ((l r : ℕ) → is_clean (acts l r) ≡ true → own l r ≡ 0) → is_clean (acts_by acts o) ≡ true
    → mark_by own o 0 0 0 ≡ 0
none_by own acts Missing h e = refl
none_by own acts (Nulls a b) h e = ap (λ n. least n (cond b 0 0)) (either_zero a 0 refl)
    ∙ either_zero b 0 refl
none_by own acts (Words l r) h e = h l r e

no_mark : (own : ℕ → ℕ → ℕ) (acts : ℕ → ℕ → List Act) (o : Operands) (ml mr mp : ℕ) → ml ≡ 0
    → mr ≡ 0 → mp ≡ 0 → ((l r : ℕ) → is_clean (acts l r) ≡ true → own l r ≡ 0)
    → is_clean (acts_by acts o) ≡ true → mark_by own o ml mr mp ≡ 0
no_mark own acts o ml mr mp x y z h e = ap (λ l. mark_by own o l mr mp) x
    ∙ ap (λ r. mark_by own o 0 r mp) y ∙ ap (λ p. mark_by own o 0 0 p) z
    ∙ none_by own acts o h e

-- unmarked producers leave a place unmarked
pub place_unmarked : (ns : List Node) (g : ℕ → Answer) (m : ℕ → ℕ) (q : ℕ)
    → ((y : ℕ) → m y ≡ 0) → mark_at ns g m q ≡ 0
place_unmarked [] g m q h = refl
place_unmarked (n ∷ ns) g m q h =
    go (names (targets n) q)
    (place_unmarked ns (λ y. g (suc y)) (λ y. m (suc y)) q (λ y. h (suc y)))
  where
    here : (t : Answer) (r : Option ℕ) → or_unmarked r ≡ 0
        → or_unmarked (or_else (beside t (m 0)) r) ≡ 0
    here None r rest = rest
    here (Some t) r rest = h 0

    go : (v : Bool) → or_unmarked (first ns q (λ y. beside (g (suc y)) (m (suc y)))) ≡ 0
        → or_unmarked (or_else (taken v (λ y. beside (g y) (m y)))
        (first ns q (λ y. beside (g (suc y)) (m (suc y))))) ≡ 0
    go true rest = here (g 0) (first ns q (λ y. beside (g (suc y)) (m (suc y)))) rest
    go false rest = rest

within : {A : Type 0} → (ns : List A) (x : ℕ) (n : A) → slice_get ns x ≡ Some n → x < length ns
within [] x n e = absurd (cc)
within (m ∷ ms) zero n e = omega arith
within (m ∷ ms) (suc x) n e = let k = within ms x n e in omega arith

step_unmarked : (b : Block) (g : ℕ → Answer) → is_clean (block_acts b g) ≡ true → (m : ℕ → ℕ)
    → ((y : ℕ) → m y ≡ 0) → (x : ℕ) → mark_given b g m x ≡ 0
unfolding mark_given
step_unmarked b g clean m none x = go (slice_get (nodes_of b) x) refl (g x) refl
  where
    places : (q : ℕ) → mark_at (nodes_of b) g m q ≡ 0
    places q = place_unmarked (nodes_of b) g m q none

    go : (s : Option Node) → slice_get (nodes_of b) x ≡ s → (t : Answer) → g x ≡ t
        → node_mark s (node_fault b x) (at_place b g) (mark_at (nodes_of b) g m) t ≡ 0
    go None j t u = refl
    go (Some n) j None u = refl
    go (Some n) j (Some t) u =
        no_mark (node_fault b x) (acts_if_read (is_read b x) (inst_at b x))
        (operands n.role (at_place b g n.slot) (at_place b g (128 + n.slot))) _ _ _
        (either_zero (takes_left n.role) _ (places n.slot))
        (either_zero (takes_right n.role) _ (places (128 + n.slot)))
        (either_zero (is_guarded n.sense) _ (places (256 + n.slot)))
        (clean_own (is_read b x) (inst_at b x)) done
      where
        all : is_clean (node_acts b g x) ≡ true
        all = each_clean b g (length (nodes_of b)) x (within (nodes_of b) x n j) clean

        done : is_clean (fired_acts (Some n) (acts_if_read (is_read b x) (inst_at b x))
            (at_place b g) (Some t)) ≡ true
        done = ap (λ (o : Option Node). is_clean (fired_acts o
            (acts_if_read (is_read b x) (inst_at b x)) (at_place b g) (Some t))) (sym j)
            ∙ ap (λ (a : Answer). is_clean (fired_acts (slice_get (nodes_of b) x)
            (acts_if_read (is_read b x) (inst_at b x)) (at_place b g) a)) (sym u)
            ∙ all

-- at every depth, by induction on it and without ranks
pub clean_unmarked : (b : Block) (g : ℕ → Answer) → is_clean (block_acts b g) ≡ true → (k x : ℕ)
    → mark_of b g k x ≡ 0
clean_unmarked b g clean zero x = refl
clean_unmarked b g clean (suc k) x = step_unmarked b g clean (mark_of b g k)
    (clean_unmarked b g clean k) x

-- the least mark where no place has one is none
pub least_none : (f : ℕ → ℕ) → ((q : ℕ) → f q ≡ 0) → (qs : List ℕ) → least_at f qs ≡ 0
least_none f h [] = refl
least_none f h (q ∷ qs) = ap (λ n. least n (least_at f qs)) (h q) ∙ least_none f h qs

-- a block that passes the test has no cause of a trap
pub clean_no_cause : (b : Block) (g : ℕ → Answer) → is_clean (block_acts b g) ≡ true
    → cause b g ≡ 0
clean_no_cause b g clean = least_none _
    (λ q. place_unmarked (nodes_of b) g (mark_of b g deepest) q (clean_unmarked b g clean deepest))
    (owed b)
