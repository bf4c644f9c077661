-- The turns of replacements, one after another.
use Rattle.std.proofs.Common.{◌≡◌, ◌<◌, ℕ, zero, suc, ◌-◌, List, [], ◌∷◌, ◌++◌, refl, ap, sym}
use Rattle.std.proofs.Common.{◌∙◌, arith}
use Rattle.std.specs.Prelude.{Some, Result, Ok, Err}
use Rattle.c_tree.specs.declared.Form.{Form}
use Rattle.c_pre.specs.declared.fault.PreFault.{PreFault}
use Rattle.c_pre.specs.declared.macros.Macro.{Macro}
use Rattle.c_pre.specs.declared.output.Output.{Output}
use Rattle.c_pre.specs.Macros.{Name, Turn, name_of, each, turns_of, turns}
use Rattle.c_pre.specs.Outputs.{◌>>=◌, taken, all_taken}
use Rattle.c_pre.specs.inside.EachTaken.{each_taken}

-- going on twice, where the second way is known
on_both : (m : Result Output PreFault) (f g h : Output → Result Output PreFault) → ((o : Output) → f o ≡ (g o >>= h))
    → (m >>= f) ≡ ((m >>= g) >>= h)
on_both (Ok o) f g h e = e o
on_both (Err x) f g h e = refl

-- turns behind turns are taken behind them
pub both : (most at : ℕ) (xs ys : List Turn) (o : Output)
    → all_taken most at (xs ++ ys) o ≡ (all_taken most at xs o >>= all_taken most at ys)
both most at [] ys o = refl
both most at (t ∷ ts) ys o =
    on_both (taken most at t o) (all_taken most at (ts ++ ys)) (all_taken most at ts) (all_taken most at ys)
    (both most at ts ys)

by_taken : (m : Result Output PreFault) (f g : Output → Result Output PreFault) → ((o : Output) → f o ≡ g o)
    → (m >>= f) ≡ (m >>= g)
by_taken (Ok o) f g e = e o
by_taken (Err x) f g e = refl

-- the turns of forms are those of one after another
pub each_is : (most at n : ℕ) (ms : List Macro) (hs : List Name) (fs : List Form) (o : Output)
    → all_taken most at (each (turns n ms hs) fs) o ≡ each_taken most at n ms hs fs o
each_is most at n ms hs [] o = refl
each_is most at n ms hs (f ∷ fs) o =
    both most at (turns n ms hs f) (each (turns n ms hs) fs) o
    ∙ by_taken (all_taken most at (turns n ms hs f) o) (all_taken most at (each (turns n ms hs) fs))
    (each_taken most at n ms hs fs) (each_is most at n ms hs fs)

on_one : (most at : ℕ) (m : Result Output PreFault) → (m >>= all_taken most at []) ≡ m
on_one most at (Ok o) = refl
on_one most at (Err x) = refl

-- one turn alone
pub one : (most at : ℕ) (t : Turn) (o : Output) → all_taken most at (t ∷ []) o ≡ taken most at t o
one most at t o = on_one most at (taken most at t o)

-- where no level is left, a form stays
pub at_zero : (n : ℕ) (ms : List Macro) (hs : List Name) (f : Form) → n ≡ 0 → turns n ms hs f ≡ Some f ∷ []
at_zero zero ms hs f e = refl
at_zero (suc n) ms hs f e = absurd (omega arith)

-- one level is left less in the bodies
pub at_more : (n : ℕ) (ms : List Macro) (hs : List Name) (f : Form) → 0 < n
    → turns n ms hs f ≡ turns_of (λ hs f. turns (n - 1) ms hs f) ms hs f (name_of f)
at_more zero ms hs f e = absurd (omega arith)
at_more (suc n) ms hs f e =
    let less : n ≡ suc n - 1 = omega arith in
    ap (λ (k : ℕ). turns_of (λ hs f. turns k ms hs f) ms hs f (name_of f)) less
