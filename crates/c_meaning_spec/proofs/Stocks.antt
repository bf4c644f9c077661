-- The laws of an evaluation, from those of its parts.
use Rattle.std.proofs.Common.{◌≡◌, ℕ, ℤ, ◌+◌, ◌-◌, ◌^◌, ◌<◌, ◌≤◌, ◌⊎◌, inl, inr, List, []}
use Rattle.std.proofs.Common.{refl, sym, ap, subst, ◌∙◌, arith}
use Rattle.c_tree.specs.declared.Kind.TheVariants.{Int, Long}
use Rattle.c_tree.specs.declared.Callee.TheVariants.{Func}
use Rattle.c_tree.specs.declared.TypedProgram.{TypedProgram}
use Rattle.c_meaning_spec.specs.declared.signal.Signal.{Signal}
use Rattle.c_meaning_spec.specs.declared.signal.Signal.TheVariants.{Nothing, Value, Breaks}
use Rattle.c_meaning_spec.specs.declared.signal.Signal.TheVariants.{Continues, Returns}
use Rattle.c_meaning_spec.specs.declared.signal.Ending.TheVariants.{More, Undefined, Deep}
use Rattle.c_meaning_spec.specs.declared.signal.Halt.TheVariants.{NoStep, TooDeep, Faults, Exits}
use Rattle.c_constant.specs.Kinds.{IsWord, converted, number}
use Rattle.c_constant.proofs.Conversions.{converted_is}
use Rattle.c_meaning_spec.specs.State.{State, Result, Go, Over}
use Rattle.c_meaning_spec.specs.inside.Output.{IsPrefix, output_of}
use Rattle.c_meaning_spec.specs.Call.{called}
use Rattle.c_meaning_spec.specs.Eval.{Outcome, Stopped, Done, meaning, ended, start, outcome, eval}
use Rattle.c_meaning_spec.specs.Laws.{IsMore}
use Rattle.c_meaning_spec.specs.inside.Laws.{output_in, StaysWithMoreSteps, StepsAreLeast, OutputGoesOn}
use Rattle.c_meaning_spec.specs.inside.Laws.{MeansByParts, ExitsAsMainReturns}
use Rattle.c_meaning_spec.proofs.Puts.{stock_of, same-prefix}
use Rattle.c_meaning_spec.proofs.ExpressionsPut.{p-called}
use Rattle.c_meaning_spec.proofs.StatementsPut.{p-meaning}
use Rattle.c_meaning_spec.proofs.Grows.{Grew, Within}
use Rattle.c_meaning_spec.proofs.ExpressionsGrow.{g-called}
use Rattle.c_meaning_spec.proofs.Equations.{weaker, meaning-more, meaning-is}

-- the call of main, with n steps
abbrev run : TypedProgram → List ℕ → ℕ → Result
run P input n = called (meaning P) P (Func P.main) [] (start P input n)

grown : (P : TypedProgram) (input : List ℕ) (n d : ℕ)
    → Grew d n (run P input n) (run P input (n + d))
grown P input n d =
    g-called d n (meaning P) (meaning P)
    (λ t u lt. weaker d u.stock n _ _ (omega arith) (meaning-more P d t u))
    (p-meaning P) P (Func P.main) [] (start P input n) (omega arith)

spent : (P : TypedProgram) (input : List ℕ) (n : ℕ) → stock_of (run P input n) ≤ n
spent P input n = (p-called (meaning P) (p-meaning P) P (Func P.main) [] (start P input n)).spends

more_or_not : (o : Outcome) → IsMore o ⊎ (¬ IsMore o)
more_or_not (Stopped More out) = inl tt
more_or_not (Stopped Undefined out) = inr (λ h. h)
more_or_not (Stopped Deep out) = inr (λ h. h)
more_or_not (Done out result steps) = inr (λ h. h)

-- MORE STEPS

steps_same : (n d m : ℕ) → (n + d) - (m + d) ≡ n - m
steps_same n d m = omega arith

stays : (n d : ℕ) (r r' : Result) → Grew d n r r' → ¬ IsMore (outcome n r)
    → outcome (n + d) r' ≡ outcome n r
stays n d (Go v s) r' g h = ap (outcome (n + d)) g.grows.0
    ∙ ap (λ (k : ℕ). ended v s.output k) (steps_same n d s.stock)
stays n d (Over NoStep s) r' g h = absurd (h tt)
stays n d (Over (Faults c) s) r' g h = ap (outcome (n + d)) g.grows
stays n d (Over TooDeep s) r' g h = ap (outcome (n + d)) g.grows
stays n d (Over (Exits w) s) r' g h = ap (outcome (n + d)) g.grows
    ∙ ap (λ (k : ℕ). Done s.output (number Long w) k) (steps_same n d s.stock)

-- a result other than More stays with more steps
pub stays-with-more-steps : StaysWithMoreSteps
unfolding eval
stays-with-more-steps P input n d h = stays n d (run P input n) (run P input (n + d))
    (grown P input n d) h

-- OUTPUT

-- the output stays, whatever main gives
output-ended : (v : Signal) (out : List ℕ) (steps : ℕ) → output_in (ended v out steps) ≡ out
output-ended (Value w) out steps = refl
output-ended Nothing out steps = refl
output-ended Breaks out steps = refl
output-ended Continues out steps = refl
output-ended (Returns w) out steps = refl

output-outcome : (n : ℕ) (r : Result) → output_in (outcome n r) ≡ output_of r
output-outcome n (Go v s) = output-ended v s.output (n - s.stock)
output-outcome n (Over NoStep s) = refl
output-outcome n (Over TooDeep s) = refl
output-outcome n (Over (Faults c) s) = refl
output-outcome n (Over (Exits w) s) = refl

-- the end of main is no want of steps
no-more-ended : (v : Signal) (out : List ℕ) (steps : ℕ) → ¬ IsMore (ended v out steps)
no-more-ended (Value w) out steps h = h
no-more-ended Nothing out steps h = h
no-more-ended Breaks out steps h = h
no-more-ended Continues out steps h = h
no-more-ended (Returns w) out steps h = h

-- the steps of a program that is done
ended-steps : (v : Signal) (out o : List ℕ) (steps k : ℕ) (result : ℤ)
    → ended v out steps ≡ Done o result k → steps ≡ k
ended-steps (Value w) out o steps k result e = cc
ended-steps Nothing out o steps k result e = absurd (cc)
ended-steps Breaks out o steps k result e = absurd (cc)
ended-steps Continues out o steps k result e = absurd (cc)
ended-steps (Returns w) out o steps k result e = absurd (cc)

done-steps : (out o : List ℕ) (x y : ℤ) (steps k : ℕ) → Done out x steps ≡ Done o y k → steps ≡ k
done-steps out o x y steps k e = cc

goes_on : (n d : ℕ) (r r' : Result) → Grew d n r r' → IsPrefix (output_of r) (output_of r')
goes_on n d (Go v s) r' g = subst (λ (r : Result). IsPrefix s.output (output_of r)) (sym g.grows.0)
    (same-prefix s.output)
goes_on n d (Over NoStep s) r' g = g.grows.1
goes_on n d (Over (Faults c) s) r' g = subst (λ (r : Result). IsPrefix s.output (output_of r))
    (sym g.grows) (same-prefix s.output)
goes_on n d (Over TooDeep s) r' g = subst (λ (r : Result). IsPrefix s.output (output_of r))
    (sym g.grows) (same-prefix s.output)
goes_on n d (Over (Exits w) s) r' g = subst (λ (r : Result). IsPrefix s.output (output_of r))
    (sym g.grows) (same-prefix s.output)

prefix-outcome : (n m : ℕ) (r r' : Result) → IsPrefix (output_of r) (output_of r')
    → IsPrefix (output_in (outcome n r)) (output_in (outcome m r'))
prefix-outcome n m r r' h =
    subst (λ (o : List ℕ). IsPrefix o (output_in (outcome m r'))) (sym (output-outcome n r))
    (subst (λ (o : List ℕ). IsPrefix (output_of r) o) (sym (output-outcome m r')) h)

-- the output so far goes on with more steps
pub output-goes-on : OutputGoesOn
unfolding eval
output-goes-on P input n d =
    prefix-outcome n (n + d) (run P input n) (run P input (n + d))
    (goes_on n d (run P input n) (run P input (n + d)) (grown P input n d))

-- THE LEAST STOCK

-- a run with m steps is not short of steps, where with d more it does not leave less than d
enough : (m d : ℕ) (r r' : Result) → Grew d m r r' → ¬ Within d r' → ¬ IsMore (outcome m r)
enough m d (Go v s) r' g past h = no-more-ended v s.output (m - s.stock) h
enough m d (Over NoStep s) r' g past h = past g.grows.2
enough m d (Over (Faults c) s) r' g past h = h
enough m d (Over TooDeep s) r' g past h = h
enough m d (Over (Exits w) s) r' g past h = h

steps-most : (n : ℕ) (r : Result) (out : List ℕ) (result : ℤ) (steps : ℕ)
    → outcome n r ≡ Done out result steps → steps ≤ n
steps-most n (Go v s) out result steps e =
    let k : n - s.stock ≡ steps = ended-steps v s.output out (n - s.stock) steps result e in
    omega arith
steps-most n (Over NoStep s) out result steps e = absurd (cc)
steps-most n (Over TooDeep s) out result steps e = absurd (cc)
steps-most n (Over (Faults c) s) out result steps e = absurd (cc)
steps-most n (Over (Exits w) s) out result steps e =
    let k : n - s.stock ≡ steps = done-steps s.output out (number Long w) result (n - s.stock) steps e in
    omega arith

abbrev Least : TypedProgram → List ℕ → ℕ → List ℕ → ℤ → ℕ → Type 0
Least P input n out result steps =
    (steps ≤ n) × (eval P input steps ≡ Done out result steps)
    × ((k : ℕ) → k < steps → IsMore (eval P input k))

most_of : (P : TypedProgram) (input : List ℕ) (k : ℕ) (out : List ℕ) (result : ℤ) (steps : ℕ)
    → eval P input k ≡ Done out result steps → steps ≤ k
unfolding eval
most_of P input k out result steps e = steps-most k (run P input k) out result steps e

fewer_is_more : (P : TypedProgram) (input : List ℕ) (n k steps : ℕ) (out : List ℕ) (result : ℤ)
    → eval P input n ≡ Done out result steps → steps ≤ n → k < steps
    → IsMore (eval P input k) ⊎ (¬ IsMore (eval P input k)) → IsMore (eval P input k)
fewer_is_more P input n k steps out result e l lt (inl h) = h
fewer_is_more P input n k steps out result e l lt (inr h) =
    let split : k + (n - k) ≡ n = omega arith in
    let same : eval P input n ≡ eval P input k =
    ap (eval P input) (sym split) ∙ stays-with-more-steps P input k (n - k) h in
    let most : steps ≤ k = most_of P input k out result steps (sym same ∙ e) in
    absurd (omega arith)

not_less : (k : ℕ) → ¬ (k < k)
not_less k h = absurd (omega arith)

-- a run with n steps that leaves k of them
exact_at : (P : TypedProgram) (input : List ℕ) (n : ℕ) (out : List ℕ) (result : ℤ) (steps k : ℕ)
    (r : Result) → run P input n ≡ r → ¬ Within k r → n - k ≡ steps → k ≤ n
    → eval P input n ≡ Done out result steps → Least P input n out result steps
unfolding eval
exact_at P input n out result steps k r is past m l whole =
    let split : steps + k ≡ n = omega arith in
    let there : run P input (steps + k) ≡ r = ap (run P input) split ∙ is in
    let not : ¬ IsMore (eval P input steps) =
    enough steps k (run P input steps) (run P input (steps + k)) (grown P input steps k)
    (λ w. past (subst (λ (q : Result). Within k q) there w)) in
    let same : eval P input (steps + k) ≡ eval P input steps =
    stays-with-more-steps P input steps k not in
    let most : steps ≤ n = omega arith in (
      most,
      sym same ∙ (ap (eval P input) split ∙ whole),
      λ j lt. fewer_is_more P input n j steps out result whole most lt
          (more_or_not (eval P input j)),
    )

exact : (P : TypedProgram) (input : List ℕ) (n : ℕ) (out : List ℕ) (result : ℤ) (steps : ℕ)
    (r : Result) → run P input n ≡ r → outcome n r ≡ Done out result steps → stock_of r ≤ n
    → eval P input n ≡ Done out result steps → Least P input n out result steps
exact P input n out result steps (Over NoStep s) is e l whole = absurd (cc)
exact P input n out result steps (Over TooDeep s) is e l whole = absurd (cc)
exact P input n out result steps (Over (Faults c) s) is e l whole = absurd (cc)
exact P input n out result steps (Over (Exits w) s) is e l whole =
    exact_at P input n out result steps s.stock (Over (Exits w) s) is (not_less s.stock)
    (done-steps s.output out (number Long w) result (n - s.stock) steps e) l whole
exact P input n out result steps (Go v s) is e l whole =
    exact_at P input n out result steps s.stock (Go v s) is (not_less s.stock)
    (ended-steps v s.output out (n - s.stock) steps result e) l whole

-- the steps of Done are the least that give it
pub steps-are-least : StepsAreLeast
unfolding eval
steps-are-least P input n out result steps e =
    exact P input n out result steps (run P input n) refl e (spent P input n) e

-- what a task means is what it does with the meaning of its parts
pub means-by-parts : MeansByParts
means-by-parts P t s = meaning-is P t s

-- THE END BY AN INT

-- a long's word is converted to long as it is
long_is : (w : ℕ) → w < 2 ^ 64 → converted Long w ≡ w
unfolding converted
long_is w l = omega arith

-- an int is the same number as a long
same-end : (out : List ℕ) (a b steps : ℕ) → a ≡ b → Done out (number Long a) steps ≡ Done out (number Int b) steps
same-end out a b steps e = ap (λ (v : ℕ). Done out (number Int v) steps) e

-- a run that ends with an int comes to what main's return of it does
pub exits-as-main-returns : ExitsAsMainReturns
exits-as-main-returns n w s h = same-end s.output (converted Long w) (converted Int w) (n - s.stock)
    (long_is w h.below ∙ sym (converted_is Int w h))
