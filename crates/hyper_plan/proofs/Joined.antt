-- Answers of functions, one after the other.
use Rattle.std.proofs.Common.{◌≡◌, ℕ, zero, suc, ◌+◌, ◌<◌, ◌≤◌, Bool, List, [], ◌∷◌, ◌++◌, length, map, take, get_or}
use Rattle.std.proofs.Common.{refl, sym, ap, subst, ◌∙◌, arith}
use Rattle.std.proofs.lemmas.List.{take_all}
use Rattle.ir_forms.specs.declared.flat.FlatFunc.{FlatFunc}
use Rattle.ir_forms.specs.inside.FlatViews.{function_of}
use Rattle.hyper_plan.specs.inside.Answers.{AreAnswers, AreAnswersOf, none, more}

-- no function
pub no_answers : (rooms : List ℕ) (fs : List FlatFunc) (cs : List Bool) → cs ≡ []
    → AreAnswers rooms (map function_of (take 0 fs)) cs
no_answers rooms fs cs e = subst (AreAnswers rooms []) (sym e) none

-- one function more
taken : (fs : List FlatFunc) (k : ℕ) (g : FlatFunc) → k < length fs → g ≡ get_or fs k g
    → map function_of (take (suc k) fs) ≡ map function_of (take k fs) ++ (function_of g ∷ [])
taken [] k g l e = absurd (omega (arith, l))
taken (f ∷ fs) zero g l e = ap (λ (x : FlatFunc). function_of x ∷ []) (sym e)
taken (f ∷ fs) (suc k) g l e = ap (λ xs. function_of f ∷ xs) (taken fs k g (omega (arith, l)) e)

counted : (fs : List FlatFunc) (k : ℕ) → k < length fs → length (map function_of (take k fs)) ≡ k
counted fs zero l = refl
counted [] (suc k) l = absurd (omega (arith, l))
counted (f ∷ fs) (suc k) l = ap suc (counted fs k (omega (arith, l)))

-- the answers of one function more are those so far and its own
pub more_answers : (rooms : List ℕ) (fs : List FlatFunc) (k : ℕ) (g : FlatFunc) (room : ℕ) (cs own new : List Bool)
    → k < length fs → g ≡ get_or fs k g → room ≡ get_or rooms k 0
    → AreAnswers rooms (map function_of (take k fs)) cs → AreAnswersOf room (function_of g) own → new ≡ cs ++ own
    → AreAnswers rooms (map function_of (take (k + 1) fs)) new
more_answers rooms fs k g room cs own new l e r a b n =
    let z : suc k ≡ k + 1 = omega arith in
    subst (λ (j : ℕ). AreAnswers rooms (map function_of (take j fs)) new) z
    (subst (λ xs. AreAnswers rooms xs new) (sym (taken fs k g l e))
    (subst (AreAnswers rooms (map function_of (take k fs) ++ (function_of g ∷ []))) (sym n)
    (more (map function_of (take k fs)) (function_of g) cs own a
    (subst (λ (j : ℕ). AreAnswersOf (get_or rooms j 0) (function_of g) own) (sym (counted fs k l))
    (subst (λ (q : ℕ). AreAnswersOf q (function_of g) own) r b)))))

-- all functions
pub all_answers : (rooms : List ℕ) (fs gs : List FlatFunc) (k : ℕ) (cs : List Bool) → length fs ≤ k → fs ≡ gs
    → AreAnswers rooms (map function_of (take k fs)) cs → AreAnswers rooms (map function_of gs) cs
all_answers rooms fs gs k cs l e a =
    subst (λ xs. AreAnswers rooms (map function_of xs) cs) (take_all k fs l ∙ e) a
