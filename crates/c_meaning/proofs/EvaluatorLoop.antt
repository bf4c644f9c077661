-- A turn of the evaluator's loop keeps what is ahead.
use Rattle.std.proofs.Common.{◌≡◌, ℕ, suc, true, false, List, []}
use Rattle.std.proofs.Common.{◌∷◌, ◌++◌, map, reverse, length, nat_eq, refl, sym, ap, ◌∙◌, arith}
use Rattle.std.proofs.lemmas.Bool.Decides.{nat_tests}
use Rattle.std.proofs.lemmas.List.{length-reverse, length-map, map-append, reverse-append, reverse-reverse}
use Rattle.std.proofs.lemmas.Grind.{reverse_onto}
use Rattle.c_tree.specs.declared.TypedProgram.{TypedProgram}
use Rattle.c_meaning_spec.specs.State.{State, Result}
use Rattle.c_meaning.specs.inside.Follow.{Waits}
use Rattle.c_meaning.specs.inside.Ahead.{Next, ToDo, Given, Ended, ahead_next, is_over, is_empty}
use Rattle.c_meaning.specs.inside.Ahead.{back_on, unwind_on, IsReached}
use Rattle.c_meaning.specs.inside.View.{waits, frames}
use Rattle.c_meaning.specs.declared.frame.Waiting.{Waiting}
use Rattle.c_meaning.proofs.Lists.{stack_push}
use Rattle.c_meaning.proofs.Unwinds.{unwound-on}

pub frames-length : (xs : List Waiting) → length (frames xs) ≡ length xs
unfolding frames
frames-length xs = simp (length-reverse, length-map)

frames-top : (old rest : List Waiting) (x : Waiting) → old ≡ rest ++ x ∷ []
    → frames old ≡ waits x ∷ frames rest
unfolding frames
frames-top old rest x e = ap (λ (xs : List Waiting). reverse (map waits xs)) e ∙ stack_push rest x

unwound-top : (P : TypedProgram) (x : Waits) (xs : List Waits) (r : Result)
    → unwind_on P (x ∷ xs) r ≡ unwind_on P xs (back_on P x r)
unfolding unwind_on
unwound-top P x xs r = refl

-- the topmost that waits is taken off, and makes of what comes to it what it does
pub top_taken : (P : TypedProgram) (x : Waiting) (r : Result) (old rest : List Waiting) → old ≡ rest ++ x ∷ []
    → unwind_on P (frames rest) (back_on P (waits x) r) ≡ unwind_on P (frames old) r
top_taken P x r old rest e =
    sym (ap (λ (xs : List Waits). unwind_on P xs r) (frames-top old rest x e)
    ∙ unwound-top P (waits x) (frames rest) r)

-- the same of one that is known
pub taken_as : (P : TypedProgram) (x w : Waiting) (r : Result) (old rest : List Waiting) → old ≡ rest ++ x ∷ []
    → x ≡ w → unwind_on P (frames rest) (back_on P (waits w) r) ≡ unwind_on P (frames old) r
taken_as P x w r old rest e is =
    ap (λ (y : Waiting). unwind_on P (frames rest) (back_on P (waits y) r)) (sym is) ∙ top_taken P x r old rest e

suc-not-zero : (n : ℕ) → false ≡ nat_eq (suc n) 0
suc-not-zero n = grind (arith, nat_tests)

is_empty-len : {A : Type 0} (xs : List A) → is_empty xs ≡ nat_eq (length xs) 0
is_empty-len [] = refl
is_empty-len (x ∷ xs) = suc-not-zero (length xs)

-- whether something waits, by how much does
pub empty_frames : (xs : List Waiting) → is_empty (frames xs) ≡ nat_eq (length xs) 0
empty_frames xs = is_empty-len (frames xs) ∙ ap (λ (k : ℕ). nat_eq k 0) (frames-length xs)

-- where nothing waits, all is over
pub none_waits : (xs : List Waiting) → length xs ≡ 0 → is_empty (frames xs) ≡ false → ⊥
none_waits xs l h =
    let a : true ≡ false = sym (empty_frames xs ∙ ap (λ (k : ℕ). nat_eq k 0) l) ∙ h in
    absurd (cc)

-- what is over has been reached
pub reached : (P : TypedProgram) (n : Next) (xs : List Waits) (s : State) (r : Result)
    → is_over n xs ≡ true → ahead_next P n xs s ≡ r → IsReached n s r
unfolding unwind_on
reached P (ToDo t) xs s r o h = absurd (cc)
reached P (Given v) [] s r o h = sym h
reached P (Given v) (x ∷ xs) s r o h = absurd (cc)
reached P (Ended why) [] s r o h = sym h
reached P (Ended why) (x ∷ xs) s r o h = absurd (cc)

no-frames : (xs : List Waiting) → xs ≡ [] → frames xs ≡ []
unfolding frames
no-frames xs e = ap (λ (xs : List Waiting). reverse (map waits xs)) e

unwound-none : (P : TypedProgram) (r : Result) → unwind_on P [] r ≡ r
unfolding unwind_on
unwound-none P r = refl

-- before nothing that waits a part is what it means
pub no_more : (P : TypedProgram) (r : Result) (xs : List Waiting) → xs ≡ [] → unwind_on P (frames xs) r ≡ r
no_more P r xs e =
    ap (λ (xs : List Waits). unwind_on P xs r) (no-frames xs e) ∙ unwound-none P r

turn-map : (xs : List Waiting) → map waits (reverse xs) ≡ reverse (map waits xs)
turn-map [] = refl
turn-map (x ∷ xs) =
    ap (λ (ys : List Waiting). map waits ys) (reverse_onto xs x [])
    ∙ (map-append waits (reverse xs) (x ∷ [])
    ∙ (ap (λ (ys : List Waits). ys ++ waits x ∷ []) (turn-map xs)
    ∙ sym (reverse_onto (map waits xs) (waits x) [])))

over-turned : (pending old : List Waiting)
    → reverse (map waits (old ++ reverse pending)) ≡ map waits pending ++ reverse (map waits old)
over-turned pending old =
    ap (λ (xs : List Waits). reverse xs) (map-append waits old (reverse pending))
    ∙ (reverse-append (map waits old) (map waits (reverse pending))
    ∙ ap (λ (xs : List Waits). xs ++ reverse (map waits old))
    (ap (λ (xs : List Waits). reverse xs) (turn-map pending) ∙ reverse-reverse (map waits pending)))

-- what waits and was turned over, behind what waits there
pub turned_over : (pending turned old new : List Waiting) → turned ≡ reverse pending → new ≡ old ++ turned
    → frames new ≡ map waits pending ++ frames old
unfolding frames
turned_over pending turned old new t n =
    ap (λ (xs : List Waiting). reverse (map waits xs)) n
    ∙ (ap (λ (xs : List Waiting). reverse (map waits (old ++ xs))) t ∙ over-turned pending old)

-- a part before what waits on two lists
pub both_wait : (P : TypedProgram) (f : State → Result) (s s' : State) (xs ys now : List Waits)
    → now ≡ xs ++ ys → s' ≡ s → unwind_on P now (f s') ≡ unwind_on P ys (unwind_on P xs (f s))
both_wait P f s s' xs ys now e d =
    ap (λ (u : State). unwind_on P now (f u)) d
    ∙ (ap (λ (zs : List Waits). unwind_on P zs (f s)) e ∙ unwound-on P xs ys (f s))
