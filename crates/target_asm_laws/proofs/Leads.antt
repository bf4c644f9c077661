-- What a reading leads to: good lines to another place, or to a fault.
use Rattle.std.proofs.Common.{◌≡◌, ℕ, ◌+◌, List, [], ◌∷◌, ◌++◌, length, refl, sym, ap, subst, ◌∙◌}
use Rattle.std.proofs.Common.{arith, Option, Some, None, Bool, true, false}
use Rattle.std.specs.Prelude.{ℤ, Result, Ok, Err, if◌then◌else◌}
use Rattle.std.proofs.lemmas.List.{length-append}
use Rattle.target_asm_spec.specs.declared.fault.AsmFault.{AsmFault}
use Rattle.target_asm_spec.specs.declared.fault.AsmFault.TheVariants as fault
use Rattle.target_asm_spec.specs.declared.spelled.Goal.{Goal}
use Rattle.target_asm_spec.specs.declared.spelled.Goal.TheVariants.{Label, Offset}
use Rattle.target_asm_spec.specs.inside.Blocks.{◌>>>◌, or_fault, wants}
use Rattle.target_asm_spec.specs.LinePlaces.{Line, line_words, Place, after, MayStand, InFields}
use Rattle.target_asm_spec.specs.LinePlaces.{AreGood, place_after, lines_words, goal_of_line}
use Rattle.target_asm_spec.specs.FirstAsmFault.{NoLine, BadNumber}

-- what is asked of where the lines of a text go
abbrev pub Aim : Type 1
Aim = ℕ → Option Goal → Type 0

-- each of some lines, from a place on, goes where G allows it
abbrev pub AllAim : Aim → Place → List Line → Type 0
AllAim G p [] = Unit {0}
AllAim G p (l ∷ ls) = G p.here (goal_of_line l) × AllAim G (after p l) ls

-- good lines from a place to another
pub record Led (G : Aim) (p q : Place) (text rest : List ℕ) (n : ℕ) : Type 0 where
  pub lines : List Line
  pub good : AreGood p lines
  pub aims : AllAim G p lines
  pub is : text ≡ lines_words lines rest
  pub to : place_after p lines ≡ q
  pub count : length lines ≡ n

-- why a fault is met at a place
pub data Cause (B : ℕ → Goal → Type 0) (q : Place) (m : ℕ) (rest : List ℕ) : AsmFault → Type 0 where
  syntax : NoLine q rest → Cause B q m rest (fault.Syntax m)
  range : BadNumber q rest → Cause B q m rest (fault.Range m)
  label : (l : Line) (more : List ℕ) (k : ℤ) → MayStand q l → InFields q l
      → rest ≡ line_words l more → goal_of_line l ≡ Some (Label k) → B q.here (Label k)
      → Cause B q m rest (fault.Label m)
  offset : (l : Line) (more : List ℕ) (n : ℤ) → MayStand q l → InFields q l
      → rest ≡ line_words l more → goal_of_line l ≡ Some (Offset n) → B q.here (Offset n)
      → Cause B q m rest (fault.Range m)

-- a reading that ends in a fault: good lines to a place, and there the fault's cause
pub record Failed (G : Aim) (B : ℕ → Goal → Type 0) (p : Place) (at : ℕ) (text : List ℕ)
    (e : AsmFault) : Type 0 where
  pub lines : List Line
  pub rest : List ℕ
  pub good : AreGood p lines
  pub aims : AllAim G p lines
  pub is : text ≡ lines_words lines rest
  pub cause : Cause B (place_after p lines) (at + length lines) rest e

-- a reading that comes to a place: good lines that lead there, and what then holds
pub record Came {A : Type 0} (G : Aim) (p : Place) (at : ℕ) (text : List ℕ)
    (Q : A → Place → ℕ → List ℕ → Type 0) (x : A) : Type 0 where
  pub q : Place
  pub n : ℕ
  pub rest : List ℕ
  pub led : Led G p q text rest n
  pub holds : Q x q (at + n) rest

-- a reading from a place leads to what Q says, or to a fault
abbrev pub Goes : {A : Type 0} → Aim → (ℕ → Goal → Type 0) → Place → ℕ → List ℕ
    → (A → Place → ℕ → List ℕ → Type 0) → Result A AsmFault → Type 0
Goes G B p at text Q (Ok x) = Came G p at text Q x
Goes G B p at text Q (Err e) = Failed G B p at text e

-- ---- lines after lines

-- good lines, and behind them good lines, are good lines
pub good_append : (p : Place) (ls ms : List Line) → AreGood p ls → AreGood (place_after p ls) ms
    → AreGood p (ls ++ ms)
good_append p [] ms a b = b
good_append p (l ∷ ls) ms a b = (a.0, a.1, good_append (after p l) ls ms a.2 b)

pub aims_append : (G : Aim) (p : Place) (ls ms : List Line) → AllAim G p ls
    → AllAim G (place_after p ls) ms → AllAim G p (ls ++ ms)
aims_append G p [] ms a b = b
aims_append G p (l ∷ ls) ms a b = (a.0, aims_append G (after p l) ls ms a.1 b)

-- the place behind two lists of lines is the place behind the second, from behind the first
pub place_append : (p : Place) (ls ms : List Line)
    → place_after p (ls ++ ms) ≡ place_after (place_after p ls) ms
place_append p [] ms = refl
place_append p (l ∷ ls) ms = place_append (after p l) ls ms

-- the words of lines one after the other
pub words_append : (ls ms : List Line) (t : List ℕ)
    → lines_words (ls ++ ms) t ≡ lines_words ls (lines_words ms t)
words_append [] ms t = refl
words_append (l ∷ ls) ms t = ap (line_words l) (words_append ls ms t)

pub led_append : (G : Aim) (p q r : Place) (t u v : List ℕ) (n m : ℕ) → Led G p q t u n
    → Led G q r u v m → Led G p r t v (n + m)
led_append G p q r t u v n m a b =
    let good = subst (λ (x : Place). AreGood x b.lines) (sym a.to) b.good in
    let aims = subst (λ (x : Place). AllAim G x b.lines) (sym a.to) b.aims in
    record {
      lines = a.lines ++ b.lines;
      good = good_append p a.lines b.lines a.good good;
      aims = aims_append G p a.lines b.lines a.aims aims;
      is = a.is ∙ ap (lines_words a.lines) b.is ∙ sym (words_append a.lines b.lines v);
      to = place_append p a.lines b.lines ∙ ap (λ (x : Place). place_after x b.lines) a.to ∙ b.to;
      count = omega (arith, length-append a.lines b.lines, a.count, b.count);
    }

failed_append : (G : Aim) (B : ℕ → Goal → Type 0) (p q : Place) (at n : ℕ) (t u : List ℕ)
    (e : AsmFault) → Led G p q t u n → Failed G B q (at + n) u e → Failed G B p at t e
failed_append G B p q at n t u e a b =
    let good = subst (λ (x : Place). AreGood x b.lines) (sym a.to) b.good in
    let aims = subst (λ (x : Place). AllAim G x b.lines) (sym a.to) b.aims in
    let place : place_after q b.lines ≡ place_after p (a.lines ++ b.lines) =
    ap (λ (x : Place). place_after x b.lines) (sym a.to) ∙ sym (place_append p a.lines b.lines) in
    let count : at + n + length b.lines ≡ at + length (a.lines ++ b.lines) =
    omega (arith, length-append a.lines b.lines, a.count) in
    record {
      lines = a.lines ++ b.lines;
      rest = b.rest;
      good = good_append p a.lines b.lines a.good good;
      aims = aims_append G p a.lines b.lines a.aims aims;
      is = a.is ∙ ap (lines_words a.lines) b.is ∙ sym (words_append a.lines b.lines b.rest);
      cause = subst (λ (m : ℕ). Cause B (place_after p (a.lines ++ b.lines)) m b.rest e) count
          (subst (λ (x : Place). Cause B x (at + n + length b.lines) b.rest e) place b.cause);
    }

pub goes_on : {A : Type 0} (G : Aim) (B : ℕ → Goal → Type 0) (p q : Place) (at n : ℕ)
    (t u : List ℕ) (Q : A → Place → ℕ → List ℕ → Type 0) (r : Result A AsmFault)
    → Led G p q t u n → Goes G B q (at + n) u Q r → Goes G B p at t Q r
goes_on G B p q at n t u Q (Err e) a b = failed_append G B p q at n t u e a b
goes_on G B p q at n t u Q (Ok x) a b =
    let count : at + n + b.n ≡ at + (n + b.n) = omega arith in
    record {
      q = b.q;
      n = n + b.n;
      rest = b.rest;
      led = led_append G p q b.q t u b.rest n b.n a b.led;
      holds = subst (λ (m : ℕ). Q x b.q m b.rest) count b.holds;
    }

-- ---- steps of a reading

-- where a first step leads somewhere and the next one leads on from there, both steps lead on or to a fault
pub goes : {A C : Type 0} (G : Aim) (B : ℕ → Goal → Type 0) (p : Place) (at : ℕ) (t : List ℕ)
    (Q : A → Place → ℕ → List ℕ → Type 0) (S : C → Place → ℕ → List ℕ → Type 0)
    (r : Result A AsmFault) (f : A → Result C AsmFault) → Goes G B p at t Q r
    → ((x : A) (q : Place) (m : ℕ) (u : List ℕ) → Q x q m u → Goes G B q m u S (f x))
    → Goes G B p at t S (r >>> f)
goes G B p at t Q S (Err e) f a k = a
goes G B p at t Q S (Ok x) f a k =
    goes_on G B p a.q at a.n t a.rest S (f x) a.led (k x a.q (at + a.n) a.rest a.holds)

-- a step that gives nothing fails, and else leads on
pub step_some : {A C : Type 0} (G : Aim) (B : ℕ → Goal → Type 0) (p : Place) (at : ℕ) (t : List ℕ)
    (S : C → Place → ℕ → List ℕ → Type 0) (o : Option A) (e : AsmFault)
    (f : A → Result C AsmFault) → (o ≡ None → Failed G B p at t e)
    → ((x : A) → o ≡ Some x → Goes G B p at t S (f x))
    → Goes G B p at t S (or_fault e o >>> f)
step_some G B p at t S None e f a k = a refl
step_some G B p at t S (Some x) e f a k = k x refl

-- a step that wants something fails where it is not so, and else leads on
pub step_wants : {C : Type 0} (G : Aim) (B : ℕ → Goal → Type 0) (p : Place) (at : ℕ) (t : List ℕ)
    (S : C → Place → ℕ → List ℕ → Type 0) (b : Bool) (e : AsmFault)
    (f : Unit {0} → Result C AsmFault) → (b ≡ false → Failed G B p at t e)
    → (b ≡ true → Goes G B p at t S (f tt))
    → Goes G B p at t S (wants b e >>> f)
step_wants G B p at t S false e f a k = a refl
step_wants G B p at t S true e f a k = k refl

-- a step of two ways leads on where each way does
pub step_if : {C : Type 0} (G : Aim) (B : ℕ → Goal → Type 0) (p : Place) (at : ℕ) (t : List ℕ)
    (S : C → Place → ℕ → List ℕ → Type 0) (b : Bool) (x y : Result C AsmFault)
    → (b ≡ true → Goes G B p at t S x) → (b ≡ false → Goes G B p at t S y)
    → Goes G B p at t S (if b then x else y)
step_if G B p at t S true x y a k = a refl
step_if G B p at t S false x y a k = k refl

-- the same place, by other names
pub moved : {A : Type 0} (G : Aim) (B : ℕ → Goal → Type 0) (p q : Place) (at m : ℕ) (t u : List ℕ)
    (S : A → Place → ℕ → List ℕ → Type 0) (r : Result A AsmFault) → p ≡ q → at ≡ m → t ≡ u
    → Goes G B p at t S r → Goes G B q m u S r
moved G B p q at m t u S r a b c h =
    subst (λ (x : List ℕ). Goes G B q m x S r) c
    (subst (λ (x : ℕ). Goes G B q x t S r) b (subst (λ (x : Place). Goes G B x at t S r) a h))

-- nothing is left to read
pub at_once : {A : Type 0} (G : Aim) (B : ℕ → Goal → Type 0) (p : Place) (at : ℕ) (t : List ℕ)
    (Q : A → Place → ℕ → List ℕ → Type 0) (x : A) → Q x p at t → Goes G B p at t Q (Ok x)
at_once G B p at t Q x h =
    let count : at ≡ at + 0 = omega arith in
    record {
      q = p;
      n = 0;
      rest = t;
      led = record { lines = []; good = tt; aims = tt; is = refl; to = refl; count = refl };
      holds = subst (λ (m : ℕ). Q x p m t) count h;
    }

-- one line is read
pub by_line : {A : Type 0} (G : Aim) (B : ℕ → Goal → Type 0) (p : Place) (at : ℕ) (t : List ℕ)
    (Q : A → Place → ℕ → List ℕ → Type 0) (x : A) (l : Line) (rest : List ℕ) → MayStand p l
    → InFields p l → G p.here (goal_of_line l) → t ≡ line_words l rest
    → Q x (after p l) (at + 1) rest → Goes G B p at t Q (Ok x)
by_line G B p at t Q x l rest a b g e h = record {
  q = after p l;
  n = 1;
  rest = rest;
  led = record {
    lines = l ∷ [];
    good = (a, b, tt);
    aims = (g, tt);
    is = e;
    to = refl;
    count = refl;
  };
  holds = h;
}

-- a fault at this place
pub fails : (G : Aim) (B : ℕ → Goal → Type 0) (p : Place) (at : ℕ) (t : List ℕ) (e : AsmFault)
    → Cause B p at t e → Failed G B p at t e
fails G B p at t e c =
    let count : at ≡ at + 0 = omega arith in
    record {
      lines = [];
      rest = t;
      good = tt;
      aims = tt;
      is = refl;
      cause = subst (λ (m : ℕ). Cause B p m t e) count c;
    }
