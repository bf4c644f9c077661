-- The lists of a program that fits have variables of their own functions alone, and the program whose
-- calls keep these fits.
use Rattle.std.proofs.Common.{◌≡◌, ℕ, zero, suc, ◌+◌, ◌<◌, ◌≤◌, Bool, true, false, cond, ◌&&◌, ◌||◌}
use Rattle.std.proofs.Common.{List, [], ◌∷◌, ◌++◌, map, length, Option, Some, None, refl, sym, ap, ◌∙◌}
use Rattle.std.proofs.Common.{subst, nat_eq, nat_lt, slice_get, arith, eqb-true}
use Rattle.std.specs.Prelude.{nat_le}
use Rattle.std.proofs.lemmas.Bool.Decides.{nat_tests}
use Rattle.ir_forms.specs.declared.flat.Arg.{Arg}
use Rattle.ir_forms.specs.declared.flat.Arg.TheVariants.{Const, Var}
use Rattle.ir_forms.specs.inside.FlatCode.{Step, Let, Frame, Load, Save, Call, Put, Get, If, Loop, Break}
use Rattle.ir_forms.specs.inside.FlatCode.{Continue, Return, Halt, Code, Nop, ◌▹◌, Function, Program}
use Rattle.ir_forms.specs.inside.FlatViews.{stays}
use Rattle.ir_forms.specs.inside.FlatFits.{is_lasting, is_variable, FitsVar, FitsArg, FitsLastings, FitsReturn}
use Rattle.ir_forms.specs.inside.FlatFits.{FitsCall, FitsStep, FitsCode, FitsFunction, FitsProgram}
use Rattle.ir_forms.specs.inside.FlatFits.{steps_in, steps_of, steps_of_all}
use Rattle.reg_assign.specs.inside.Live.{VarSet, empty, one, both, minus, reads, reads_any, reads_if, result}
use Rattle.reg_assign.specs.inside.Live.{uses_in, uses, head, live, kept_in, kept, kept_over, kept_over_all}
use Rattle.reg_assign.specs.inside.Live.{members_below, members, live_lists}
use Rattle.reg_assign.specs.inside.Keeps.{calls_in, calls, keeping_in, keeping, keeping_all, with_body}
use Rattle.reg_assign.specs.inside.Keeps.{is_among, kept_by, assigned_program, KeepsOwnIn, KeepsOwn, FitsKept}
use Rattle.reg_assign.proofs.Inclusion.{Within, or_cases, of_left, of_right, both_in, minus_in, empty_in}
use Rattle.reg_assign.proofs.Inclusion.{live_within, length_append, one_each}

-- WHAT IS READ IS THE FUNCTION'S OWN

and_parts : (a b : Bool) → a && b ≡ true → (a ≡ true) × (b ≡ true)
and_parts true true e = (refl, refl)
and_parts true false e = absurd (cc e)
and_parts false true e = absurd (cc e)
and_parts false false e = absurd (cc e)

-- a variable that stays over a call is no scratch variable
variable_lasts : (n k : ℕ) → stays k ≡ true → is_variable n k ≡ true → is_lasting n k ≡ true
variable_lasts n k s e =
    or_cases (is_lasting n k) (nat_le 80 k && nat_lt k 88) e (λ h. h)
    (λ h. let z = (and_parts (nat_le 80 k) (nat_lt k 88) h).0 in
    let a : k < 80 = grind (arith, nat_tests, s) in
    let b : 80 ≤ k = grind (arith, nat_tests, z) in absurd (omega (arith, a, b)))

module _ (n : ℕ) where
  abbrev pub own : VarSet
  own = is_lasting n

  one_own : (k : ℕ) → FitsVar n k → Within (one k) own
  one_own k t v e =
      let p = and_parts (stays k) (nat_eq v k) e in
      ap (is_lasting n) (eqb-true v k p.1) ∙ variable_lasts n k p.0 t

  reads_own : (x : Arg) → FitsArg n x → Within (reads x) own
  reads_own (Const w) t = empty_in own
  reads_own (Var k) t = one_own k t

  lasting_one : (k : ℕ) → is_lasting n k ≡ true → Within (one k) own
  lasting_one k t v e =
      let p = and_parts (stays k) (nat_eq v k) e in
      ap (is_lasting n) (eqb-true v k p.1) ∙ t

  lastings_own : (xs : List Arg) → FitsLastings n xs → Within (reads_any xs) own
  lastings_own [] t = empty_in own
  lastings_own (Const w ∷ xs) t = both_in empty (reads_any xs) own (empty_in own) (lastings_own xs t.1)
  lastings_own (Var k ∷ xs) t =
      both_in (one k) (reads_any xs) own (lasting_one k t.0) (lastings_own xs t.1)

  returned_own : (x : Option Arg) → FitsReturn n x → Within (reads_if x) own
  returned_own None t = empty_in own
  returned_own (Some x) t = reads_own x t

  module _ (fs : List Function) (bytes : ℕ) where
    mutual
      uses_in_own : (i : Bool) (s : Step) → FitsStep fs n bytes i s → Within (uses_in s) own
      uses_in_own i (Let to op x y) t =
          both_in (reads x) (reads y) own (reads_own x t.2) (reads_own y t.3)
      uses_in_own i (Frame to at) t = empty_in own
      uses_in_own i (Load to op x) t = reads_own x t.2
      uses_in_own i (Save op x y) t =
          both_in (reads x) (reads y) own (reads_own x t.1) (reads_own y t.2)
      uses_in_own i (Call f xs to old) t = lastings_own xs t.1
      uses_in_own i (Put x) t = reads_own x t
      uses_in_own i (Get to) t = empty_in own
      uses_in_own i (If x c d) t =
          both_in (reads x) (both (uses c) (uses d)) own (reads_own x t.0)
          (both_in (uses c) (uses d) own (uses_own i c t.1) (uses_own i d t.2))
      uses_in_own i (Loop c d) t =
          both_in (uses c) (uses d) own (uses_own true c t.0) (uses_own false d t.1)
      uses_in_own i Break t = empty_in own
      uses_in_own i Continue t = empty_in own
      uses_in_own i (Return x) t = returned_own x t
      uses_in_own i (Halt x) t = reads_own x t

      pub uses_own : (i : Bool) (c : Code) → FitsCode fs n bytes i c → Within (uses c) own
      uses_own i Nop t = empty_in own
      uses_own i (s ▹ c) t =
          both_in (uses_in s) (uses c) own (uses_in_own i s t.0) (uses_own i c t.1)

-- WHAT IS KEPT

abbrev AllIn : VarSet → List VarSet → Type 0
AllIn W [] = Unit {0}
AllIn W (a ∷ more) = Within a W × AllIn W more

in_append : (W : VarSet) (xs ys : List VarSet) → AllIn W xs → AllIn W ys → AllIn W (xs ++ ys)
in_append W [] ys h g = g
in_append W (a ∷ xs) ys h g = (h.0, in_append W xs ys h.1 g)

-- what is kept lies in a set that all that is read lies in
module _ (W : VarSet) where
  mutual
    kept_in_in : (s : Step) (n b k : VarSet) → Within n W → Within b W → Within k W
        → Within (uses_in s) W → AllIn W (kept_in s n b k)
    kept_in_in (Let to op x y) n b k hn hb hk u = tt
    kept_in_in (Frame to at) n b k hn hb hk u = tt
    kept_in_in (Load to op x) n b k hn hb hk u = tt
    kept_in_in (Save op x y) n b k hn hb hk u = tt
    kept_in_in (Call f xs to old) n b k hn hb hk u = (minus_in n (result to) W hn, tt)
    kept_in_in (Put x) n b k hn hb hk u = tt
    kept_in_in (Get to) n b k hn hb hk u = tt
    kept_in_in (If x c d) n b k hn hb hk u =
        let cd = of_right (reads x) (both (uses c) (uses d)) W u in
        in_append W (kept c n b k) (kept d n b k)
        (kept_all_in c n b k hn hb hk (of_left (uses c) (uses d) W cd))
        (kept_all_in d n b k hn hb hk (of_right (uses c) (uses d) W cd))
    kept_in_in (Loop c d) n b k hn hb hk u =
        let t = head c d n in
        let ht = both_in n (both (uses c) (uses d)) W hn u in
        in_append W (kept c t n t) (kept d t empty empty)
        (kept_all_in c t n t ht hn ht (of_left (uses c) (uses d) W u))
        (kept_all_in d t empty empty ht (empty_in W) (empty_in W) (of_right (uses c) (uses d) W u))
    kept_in_in Break n b k hn hb hk u = tt
    kept_in_in Continue n b k hn hb hk u = tt
    kept_in_in (Return x) n b k hn hb hk u = tt
    kept_in_in (Halt x) n b k hn hb hk u = tt

    pub kept_all_in : (c : Code) (n b k : VarSet) → Within n W → Within b W → Within k W
        → Within (uses c) W → AllIn W (kept c n b k)
    kept_all_in Nop n b k hn hb hk u = tt
    kept_all_in (s ▹ c) n b k hn hb hk u =
        let us = of_left (uses_in s) (uses c) W u in
        let uc = of_right (uses_in s) (uses c) W u in
        in_append W (kept_in s (live c n b k) b k) (kept c n b k)
        (kept_in_in s (live c n b k) b k (live_within c n b k W hn hb hk uc) hb hk us)
        (kept_all_in c n b k hn hb hk uc)

-- LISTS

among_either : {Q : Type 0} (xs ys : List ℕ) (v : ℕ) → is_among (xs ++ ys) v ≡ true
    → (is_among xs v ≡ true → Q) → (is_among ys v ≡ true → Q) → Q
among_either [] ys v e f g = g e
among_either {Q = Q} (x ∷ xs) ys v e f g =
    or_cases {P = Q} (nat_eq v x) (is_among (xs ++ ys) v) e
    (λ h. f (first (nat_eq v x) (is_among xs v) h))
    (λ h. among_either xs ys v h (λ q. f (second (nat_eq v x) (is_among xs v) q)) g)
  where
    first : (a b : Bool) → a ≡ true → a || b ≡ true
    first true b h = refl
    first false b h = absurd (cc h)

    second : (a b : Bool) → b ≡ true → a || b ≡ true
    second true b h = refl
    second false b h = h

-- a list of a set has the set's members alone
members_in : (n : ℕ) (a : VarSet) (v : ℕ) → is_among (members_below n a) v ≡ true → a v ≡ true
members_in zero a v e = absurd (cc e)
members_in (suc n) a v e =
    among_either (members_below n a) (cond (a n) (n ∷ []) []) v e (members_in n a v)
    (go (a n) refl)
  where
    go : (b : Bool) → a n ≡ b → is_among (cond b (n ∷ []) []) v ≡ true → a v ≡ true
    go true h q = or_cases (nat_eq v n) false q (λ s. ap a (eqb-true v n s) ∙ h) (λ s. absurd (cc s))
    go false h q = absurd (cc q)

-- of two rows of lists the first ones, and those behind
front_in : (W : VarSet) (xs ys : List VarSet) → AllIn W xs → (j : ℕ) → j < length xs → (v : ℕ)
    → kept_by (map members (xs ++ ys)) j v ≡ true → W v ≡ true
unfolding members
front_in W [] ys h j lt v e = absurd (omega (arith, lt))
front_in W (a ∷ xs) ys h zero lt v e = h.0 v (members_in 80 a v e)
front_in W (a ∷ xs) ys h (suc j) lt v e = front_in W xs ys h.1 j (omega arith) v e

behind : (xs ys : List VarSet) (j v : ℕ)
    → kept_by (map members (xs ++ ys)) (length xs + j) v ≡ kept_by (map members ys) j v
behind [] ys j v = let e : 0 + j ≡ j = omega arith in ap (λ j. kept_by (map members ys) j v) e
behind (a ∷ xs) ys j v =
    let e : suc (length xs) + j ≡ suc (length xs + j) = omega arith in
    ap (λ j. kept_by (members a ∷ map members (xs ++ ys)) j v) e ∙ behind xs ys j v

-- CODE

-- what the first m calls from number k on keep lies in a set
abbrev KeepsIn : (ℕ → VarSet) → ℕ → ℕ → VarSet → Type 0
KeepsIn keep k m W = (j : ℕ) → j < m → Within (keep (k + j)) W

keeps_front : (keep : ℕ → VarSet) (k m l : ℕ) (W : VarSet) → KeepsIn keep k (m + l) W
    → KeepsIn keep k m W
keeps_front keep k m l W h j lt = h j (omega arith)

keeps_back : (keep : ℕ → VarSet) (k m l : ℕ) (W : VarSet) → KeepsIn keep k (m + l) W
    → KeepsIn keep (k + m) l W
keeps_back keep k m l W h j lt =
    let e : k + (m + j) ≡ k + m + j = omega arith in
    subst (λ q. Within (keep q) W) e (h (m + j) (omega arith))

module _ (n : ℕ) (keep : ℕ → VarSet) where
  mutual
    keeps_own_in : (k : ℕ) (s : Step) → KeepsIn keep k (calls_in s) (is_lasting n)
        → KeepsOwnIn n (keeping_in keep k s)
    keeps_own_in k (Call f xs to kept) h =
        let e : k + 0 ≡ k = omega arith in
        subst (λ q. Within (keep q) (is_lasting n)) e (h 0 (omega arith))
    keeps_own_in k (If x a b) h = (
      keeps_own k a (keeps_front keep k (calls a) (calls b) (is_lasting n) h),
      keeps_own (k + calls a) b (keeps_back keep k (calls a) (calls b) (is_lasting n) h),
    )
    keeps_own_in k (Loop a b) h = (
      keeps_own k a (keeps_front keep k (calls a) (calls b) (is_lasting n) h),
      keeps_own (k + calls a) b (keeps_back keep k (calls a) (calls b) (is_lasting n) h),
    )
    keeps_own_in k (Let to op x y) h = tt
    keeps_own_in k (Frame to at) h = tt
    keeps_own_in k (Load to op x) h = tt
    keeps_own_in k (Save op x y) h = tt
    keeps_own_in k (Put x) h = tt
    keeps_own_in k (Get to) h = tt
    keeps_own_in k Break h = tt
    keeps_own_in k Continue h = tt
    keeps_own_in k (Return x) h = tt
    keeps_own_in k (Halt x) h = tt

    pub keeps_own : (k : ℕ) (c : Code) → KeepsIn keep k (calls c) (is_lasting n)
        → KeepsOwn n (keeping keep k c)
    keeps_own k Nop h = tt
    keeps_own k (s ▹ c) h = (
      keeps_own_in k s (keeps_front keep k (calls_in s) (calls c) (is_lasting n) h),
      keeps_own (k + calls_in s) c
          (keeps_back keep k (calls_in s) (calls c) (is_lasting n) h),
    )

-- FUNCTIONS

same_some : {A : Type 0} (x y : A) → Some x ≡ Some y → x ≡ y
same_some x y h = cc h

-- each of some functions fits, in a program of others
abbrev EachFits : List Function → List Function → Type 0
EachFits gs fs = (f : ℕ) (g : Function) → slice_get fs f ≡ Some g → FitsFunction gs g

functions_own : (gs fs : List Function) (keep : ℕ → VarSet) (k : ℕ) → EachFits gs fs
    → ((j v : ℕ) → keep (k + j) v ≡ kept_by (map members (kept_over_all fs)) j v)
    → (f : ℕ) (g : Function) → slice_get (keeping_all keep k fs) f ≡ Some g
    → KeepsOwn g.scalars g.body
functions_own gs [] keep k fits h f g e = absurd (cc e)
functions_own gs (a ∷ fs) keep k fits h zero g e =
    let t = fits 0 a refl in
    let W = is_lasting a.scalars in
    let none = empty_in W in
    let sets = kept_all_in W a.body empty empty empty none none none
    (uses_own a.scalars gs a.arrays false a.body t.body) in
    let many = one_each a.body empty empty empty in
    subst (λ (g : Function). KeepsOwn g.scalars g.body)
    (same_some (with_body a (keeping keep k a.body)) g e)
    (keeps_own a.scalars keep k a.body
    (λ j lt v q. front_in W (kept_over a) (kept_over_all fs) sets j (omega (arith, many, lt)) v
    (sym (h j v) ∙ q)))
functions_own gs (a ∷ fs) keep k fits h (suc f) g e =
    functions_own gs fs keep (k + calls a.body) (λ f g q. fits (suc f) g q)
    (λ j v.
    let many = one_each a.body empty empty empty in
    let q : k + calls a.body + j ≡ k + (length (kept_over a) + j) = omega (arith, many) in
    ap (λ i. keep i v) q ∙ h (length (kept_over a) + j) v
    ∙ behind (kept_over a) (kept_over_all fs) j v) f g e

-- THE PROGRAM FITS

-- a function whose calls keep others, among the functions
pub record Found (keep : ℕ → VarSet) (fs : List Function) (k f : ℕ) (g : Function) : Type 0 where
  pub number : ℕ
  pub found : slice_get (keeping_all keep k fs) f ≡ Some (with_body g (keeping keep number g.body))

found_at : (keep : ℕ → VarSet) (fs : List Function) (k f : ℕ) (g : Function)
    → slice_get fs f ≡ Some g → Found keep fs k f g
found_at keep [] k f g e = absurd (cc e)
found_at keep (a ∷ fs) k zero g e = record {
  number = k;
  found = ap (λ (g : Function). Some (with_body g (keeping keep k g.body))) (same_some a g e);
}
found_at keep (a ∷ fs) k (suc f) g e =
    let r = found_at keep fs (k + calls a.body) f g e in
    record { number = r.number; found = r.found }

pub record Comes (keep : ℕ → VarSet) (fs : List Function) (f : ℕ) (g : Function) : Type 0 where
  pub function : Function
  pub number : ℕ
  pub found : slice_get fs f ≡ Some function
  pub is : with_body function (keeping keep number function.body) ≡ g

comes_from : (keep : ℕ → VarSet) (fs : List Function) (k f : ℕ) (g : Function)
    → slice_get (keeping_all keep k fs) f ≡ Some g → Comes keep fs f g
comes_from keep [] k f g e = absurd (cc e)
comes_from keep (a ∷ fs) k zero g e = record {
  function = a;
  number = k;
  found = refl;
  is = same_some (with_body a (keeping keep k a.body)) g e;
}
comes_from keep (a ∷ fs) k (suc f) g e =
    let r = comes_from keep fs (k + calls a.body) f g e in
    record { function = r.function; number = r.number; found = r.found; is = r.is }

module _ (fs : List Function) (keep : ℕ → VarSet) (start : ℕ) where
  abbrev pub others : List Function
  others = keeping_all keep start fs

  call_fits : (f : ℕ) (xs : List Arg) → FitsCall fs f xs → FitsCall others f xs
  call_fits f xs t =
      let r = found_at keep fs start f t.function t.found in
      record {
        function = with_body t.function (keeping keep r.number t.function.body);
        found = r.found;
        arity = t.arity;
      }

  module _ (n bytes : ℕ) where
    mutual
      step_fits : (k : ℕ) (i : Bool) (s : Step) → FitsStep fs n bytes i s
          → FitsStep others n bytes i (keeping_in keep k s)
      step_fits k i (Let to op x y) t = t
      step_fits k i (Frame to at) t = t
      step_fits k i (Load to op x) t = t
      step_fits k i (Save op x y) t = t
      step_fits k i (Call f xs to kept) t = (call_fits f xs t.0, t.1, t.2)
      step_fits k i (Put x) t = t
      step_fits k i (Get to) t = t
      step_fits k i (If x a b) t = (t.0, code_fits k i a t.1, code_fits (k + calls a) i b t.2)
      step_fits k i (Loop a b) t = (code_fits k true a t.0, code_fits (k + calls a) false b t.1)
      step_fits k i Break t = t
      step_fits k i Continue t = t
      step_fits k i (Return x) t = t
      step_fits k i (Halt x) t = t

      pub code_fits : (k : ℕ) (i : Bool) (c : Code) → FitsCode fs n bytes i c
          → FitsCode others n bytes i (keeping keep k c)
      code_fits k i Nop t = t
      code_fits k i (s ▹ c) t = (step_fits k i s t.0, code_fits (k + calls_in s) i c t.1)

-- keeping changes no count
mutual
  same_steps_in : (keep : ℕ → VarSet) (k : ℕ) (s : Step) → steps_in (keeping_in keep k s) ≡ steps_in s
  same_steps_in keep k (Let to op x y) = refl
  same_steps_in keep k (Frame to at) = refl
  same_steps_in keep k (Load to op x) = refl
  same_steps_in keep k (Save op x y) = refl
  same_steps_in keep k (Call f xs to kept) = refl
  same_steps_in keep k (Put x) = refl
  same_steps_in keep k (Get to) = refl
  same_steps_in keep k (If x a b) =
      let p = same_steps keep k a in let q = same_steps keep (k + calls a) b in omega (arith, p, q)
  same_steps_in keep k (Loop a b) =
      let p = same_steps keep k a in let q = same_steps keep (k + calls a) b in omega (arith, p, q)
  same_steps_in keep k Break = refl
  same_steps_in keep k Continue = refl
  same_steps_in keep k (Return x) = refl
  same_steps_in keep k (Halt x) = refl

  same_steps : (keep : ℕ → VarSet) (k : ℕ) (c : Code) → steps_of (keeping keep k c) ≡ steps_of c
  same_steps keep k Nop = refl
  same_steps keep k (s ▹ c) =
      let p = same_steps_in keep k s in let q = same_steps keep (k + calls_in s) c in omega (arith, p, q)

same_steps_all : (keep : ℕ → VarSet) (k : ℕ) (fs : List Function)
    → steps_of_all (keeping_all keep k fs) ≡ steps_of_all fs
same_steps_all keep k [] = refl
same_steps_all keep k (f ∷ fs) =
    let p = same_steps keep k f.body in
    let q = same_steps_all keep (k + calls f.body) fs in omega (arith, p, q)

kept_fits : (P : Program) (lists : List (List ℕ)) → FitsProgram P
    → FitsProgram (assigned_program P lists)
kept_fits P lists t = record {
  each = λ f g e.
      let r = comes_from (kept_by lists) P.functions 0 f g e in
      let h = t.each f r.function r.found in
      subst (FitsFunction (keeping_all (kept_by lists) 0 P.functions)) r.is (record {
        scalars = h.scalars;
        params = h.params;
        few = h.few;
        words = h.words;
        body = code_fits P.functions (kept_by lists) 0 r.function.scalars r.function.arrays
            r.number false r.function.body h.body;
      });
  main = call_fits P.functions (kept_by lists) 0 P.main [] t.main;
  few = let e = same_steps_all (kept_by lists) 0 P.functions in
      let h = t.few in omega (arith, e, h);
  bytes = t.bytes;
  room = t.room;
}

-- what must be kept over the calls of a program that fits is the functions' own
pub lists_are_own : (P : Program) → FitsProgram P → FitsKept P (live_lists P)
lists_are_own P t = record {
  fits = kept_fits P (live_lists P) t;
  own = functions_own P.functions P.functions (kept_by (live_lists P)) 0 t.each
      (λ j v. let e : 0 + j ≡ j = omega arith in
      ap (λ i. kept_by (live_lists P) i v) e);
}
