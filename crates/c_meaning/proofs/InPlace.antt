-- Scalars of which the first stand in place.
use Rattle.std.proofs.Common.{◌≡◌, ℕ, zero, suc, ◌+◌, ◌-◌, ◌<◌, ◌≤◌, List, [], ◌∷◌, ◌++◌, Bool, true, false, cond}
use Rattle.std.proofs.Common.{map, Option, Some, None, length, take, set, get_or, refl, ap, sym, ◌∙◌, arith, rules}
use Rattle.std.specs.Prelude.{slice_get, IsSome, IsTrue}
use Rattle.std.proofs.lemmas.Grind.{common_steps}
use Rattle.c_meaning_spec.specs.State.{State, Over, held}
use Rattle.c_meaning_spec.specs.declared.Fault.TheVariants.{IllFormed}
use Rattle.c_meaning_spec.specs.declared.Halt.TheVariants.{Faults, Exits}
use Rattle.c_meaning_spec.specs.Call.{exit_with, get_char, put_char, read_from}
use Rattle.c_meaning.specs.inside.Given.{alone, values, words}

-- places are as many as their words
pub length-values : (bs : List Bool) (ws : List ℕ) → length bs ≡ length ws → length (values bs ws) ≡ length ws
length-values [] [] h = refl
length-values [] (w ∷ ws) h = absurd (omega arith)
length-values (b ∷ bs) [] h = absurd (omega arith)
length-values (b ∷ bs) (w ∷ ws) h = ap suc (length-values bs ws (omega arith))

-- what a place has
pub value_at : (bs : List Bool) (ws : List ℕ) (i : ℕ) (d : Bool) (e : ℕ) → i < length bs → length bs ≡ length ws
    → slice_get (values bs ws) i ≡ Some (cond (get_or bs i d) (Some (get_or ws i e)) None)
value_at [] ws i d e l h = absurd (omega arith)
value_at (b ∷ bs) [] i d e l h = absurd (omega arith)
value_at (b ∷ bs) (w ∷ ws) zero d e l h = refl
value_at (b ∷ bs) (w ∷ ws) (suc i) d e l h = value_at bs ws i d e (omega arith) (omega arith)

-- a place is set
pub values_set : (bs : List Bool) (ws : List ℕ) (i w : ℕ)
    → values (set bs i true) (set ws i w) ≡ set (values bs ws) i (Some w)
values_set [] ws i w = refl
values_set (b ∷ bs) [] zero w = refl
values_set (b ∷ bs) [] (suc i) w = refl
values_set (b ∷ bs) (v ∷ ws) zero w = refl
values_set (b ∷ bs) (v ∷ ws) (suc i) w =
    ap (λ (xs : List (Option ℕ)). (cond b (Some v) None) ∷ xs) (values_set bs ws i w)

-- a place is unset
pub values_unset : (bs : List Bool) (ws : List ℕ) (i : ℕ)
    → values (set bs i false) ws ≡ set (values bs ws) i None
values_unset [] ws i = refl
values_unset (b ∷ bs) [] zero = refl
values_unset (b ∷ bs) [] (suc i) = refl
values_unset (b ∷ bs) (v ∷ ws) zero = refl
values_unset (b ∷ bs) (v ∷ ws) (suc i) =
    ap (λ (xs : List (Option ℕ)). (cond b (Some v) None) ∷ xs) (values_unset bs ws i)

-- one in place is written
pub set_in : {X : Type 0} → (few more : List X) (n i : ℕ) (v : X) → i < n → n ≤ length few
    → take n (set few i v) ++ more ≡ set (take n few ++ more) i v
set_in few more zero i v h l = absurd (omega arith)
set_in [] more (suc n) i v h l = absurd (omega arith)
set_in {X = X} (x ∷ few) more (suc n) zero v h l = refl
set_in {X = X} (x ∷ few) more (suc n) (suc i) v h l =
    ap (λ (xs : List X). x ∷ xs) (set_in few more n i v (omega arith) (omega arith))

-- one behind those in place is written
pub set_later : {X : Type 0} → (few more : List X) (n i : ℕ) (v : X) → n ≤ i → n ≤ length few
    → take n few ++ set more (i - n) v ≡ set (take n few ++ more) i v
set_later few more zero i v h l =
    let e : i - 0 ≡ i = omega arith in
    ap (λ (k : ℕ). set more k v) e
set_later [] more (suc n) i v h l = absurd (omega arith)
set_later {X = X} (x ∷ few) more (suc n) zero v h l = absurd (omega arith)
set_later {X = X} (x ∷ few) more (suc n) (suc i) v h l =
    let e : suc i - suc n ≡ i - n = omega arith in
    rw e (ap (λ (xs : List X). x ∷ xs) (set_later few more n i v (omega arith) (omega arith)))

-- how many there are
pub count_in : {X : Type 0} → (few more : List X) (n : ℕ) → n ≤ length few
    → length (take n few ++ more) ≡ n + length more
count_in few more zero l =
    let e : length more ≡ 0 + length more = omega arith in
    e
count_in [] more (suc n) l = absurd (omega arith)
count_in (x ∷ few) more (suc n) l =
    let e : suc n + length more ≡ suc (n + length more) = omega arith in
    ap suc (count_in few more n (omega arith)) ∙ sym e

-- one that is there
pub is_there : {X : Type 0} → (xs : List X) (i : ℕ) → i < length xs → IsSome (slice_get xs i)
is_there [] i h = absurd (omega arith)
is_there (x ∷ xs) zero h = search rules
is_there (x ∷ xs) (suc i) h = is_there xs i (omega arith)

-- one that is not
pub is_past : {X : Type 0} → (xs : List X) (i : ℕ) → length xs ≤ i → IsSome (slice_get xs i) → IsTrue false
is_past [] i h k = grind (arith, common_steps)
is_past (x ∷ xs) zero h k = absurd (omega arith)
is_past (x ∷ xs) (suc i) h k = is_past xs i (omega arith) k

-- no case
pub no_case : {X : Type 0} → (xs : List X) (i : ℕ) → IsTrue false → IsSome (slice_get xs i)
no_case xs i h = absurd (cc h)

-- the only one
pub alone_is : (cs : List (Option ℕ)) → length cs ≡ 1 → alone cs ≡ held (slice_get cs 0)
alone_is [] h = refl
alone_is (c ∷ []) h = refl
alone_is (c ∷ d ∷ cs) h = absurd (omega arith)

-- none or more
pub not_alone : (cs : List (Option ℕ)) → (length cs ≡ 1 → ⊥) → alone cs ≡ None
not_alone [] h = refl
not_alone (c ∷ []) h = absurd (h refl)
not_alone (c ∷ d ∷ cs) h = refl

-- `putchar` of one argument
pub put_alone : (ws : List ℕ) (cs : List (Option ℕ)) (w : ℕ) (s : State) → cs ≡ map Some ws → alone cs ≡ Some w
    → put_char (w ∷ []) s ≡ put_char ws s
put_alone [] cs w s e h = absurd (cc (ap alone e))
put_alone (v ∷ []) cs w s e h =
    let k : Some v ≡ Some w = sym (ap alone e) ∙ h in
    let f : v ≡ w = cc in
    ap (λ (x : ℕ). put_char (x ∷ []) s) (sym f)
put_alone (v ∷ u ∷ ws) cs w s e h = absurd (cc (ap alone e))

-- `putchar` of none, or of more
pub put_other : (ws : List ℕ) (cs : List (Option ℕ)) (s : State) → cs ≡ map Some ws → alone cs ≡ None
    → Over (Faults IllFormed) s ≡ put_char ws s
put_other [] cs s e h = refl
put_other (v ∷ []) cs s e h = absurd (cc (ap alone e))
put_other (v ∷ u ∷ ws) cs s e h = refl

-- `exit` of one argument
pub exit_alone : (ws : List ℕ) (cs : List (Option ℕ)) (w : ℕ) (s : State) → cs ≡ map Some ws → alone cs ≡ Some w
    → Over (Exits w) s ≡ exit_with ws s
exit_alone [] cs w s e h = absurd (cc (ap alone e))
exit_alone (v ∷ []) cs w s e h =
    let k : Some v ≡ Some w = sym (ap alone e) ∙ h in
    let f : v ≡ w = cc in
    ap (λ (x : ℕ). Over (Exits x) s) (sym f)
exit_alone (v ∷ u ∷ ws) cs w s e h = absurd (cc (ap alone e))

-- `exit` of none, or of more
pub exit_other : (ws : List ℕ) (cs : List (Option ℕ)) (s : State) → cs ≡ map Some ws → alone cs ≡ None
    → Over (Faults IllFormed) s ≡ exit_with ws s
exit_other [] cs s e h = refl
exit_other (v ∷ []) cs s e h = absurd (cc (ap alone e))
exit_other (v ∷ u ∷ ws) cs s e h = refl

-- `getchar` of no argument
pub get_none : (ws : List ℕ) (cs : List (Option ℕ)) (s : State) → cs ≡ map Some ws → length cs ≡ 0
    → read_from s.input s ≡ get_char ws s
get_none [] cs s e h = refl
get_none (v ∷ ws) cs s e h = absurd (omega (arith, ap length e))

-- `getchar` of an argument
pub get_other : (ws : List ℕ) (cs : List (Option ℕ)) (s : State) → cs ≡ map Some ws → (length cs ≡ 0 → ⊥)
    → Over (Faults IllFormed) s ≡ get_char ws s
get_other [] cs s e h = absurd (h (ap length e))
get_other (v ∷ ws) cs s e h = refl

-- scalars of words that are set
pub words_map : (ws : List ℕ) → words (map Some ws) ≡ ws
words_map [] = refl
words_map (w ∷ ws) = ap (λ (xs : List ℕ). w ∷ xs) (words_map ws)
