-- The nearest name that a text declares before a place, and where it declares a function.
use Rattle.std.specs.Prelude.{ℕ, Bool, true, false, ◌||◌, ◌&&◌, if◌then◌else◌, nat_eq, nat_le, nat_lt, List, [], ◌∷◌}
use Rattle.std.specs.Prelude.{length, codes}
use Rattle.std.specs.Str.{bytes_eq}
use Rattle.c_tree.specs.declared.token.Form.{Form}
use Rattle.c_tree.specs.declared.token.Form.TheVariants as form
use Rattle.trips_messages.specs.declared.class.Class.{Class}
use Rattle.trips_messages.specs.declared.class.Class.TheVariants as class
use Rattle.trips_messages.specs.declared.names.Phase.{Phase}
use Rattle.trips_messages.specs.declared.names.Phase.TheVariants as phase
use Rattle.trips_messages.specs.declared.names.Stand.{Stand}
use Rattle.trips_messages.specs.declared.nearest.Reach.{Reach}
use Rattle.trips_messages.specs.declared.nearest.Reach.TheVariants as reach
use Rattle.trips_messages.specs.declared.nearest.Standing.{Standing}
use Rattle.trips_messages.specs.declared.nearest.Standing.TheVariants.{Nowhere, Before, Behind}
use Rattle.trips_messages.specs.Classes.{Tokens, class_of}
use Rattle.trips_messages.specs.Names.{in_phase, declares, stand_after}

-- do two words with these first bytes differ in that two bytes are swapped?
abbrev pub is_swapped : ℕ → ℕ → List ℕ → List ℕ → Bool
is_swapped x y (a ∷ xs) (b ∷ ys) = (nat_eq x b && nat_eq a y) && bytes_eq xs ys
is_swapped x y _ _ = false

-- is one word the other after one keystroke, a byte more, less, another or swapped with the next?
abbrev pub is_one_away : List ℕ → List ℕ → Bool
is_one_away [] ys = nat_eq (length ys) 1
is_one_away (x ∷ xs) [] = nat_eq (length xs) 0
is_one_away (x ∷ xs) (y ∷ ys) =
    if nat_eq x y then is_one_away xs ys
    else (bytes_eq xs ys || bytes_eq (x ∷ xs) ys) || (bytes_eq xs (y ∷ ys) || is_swapped x y xs ys)

-- is one word the other, or so after one keystroke?
abbrev pub is_within_one : List ℕ → List ℕ → Bool
is_within_one xs ys = bytes_eq xs ys || is_one_away xs ys

-- is one word the other after two keystrokes or less?
abbrev pub is_within_two : List ℕ → List ℕ → Bool
is_within_two [] ys = nat_le (length ys) 2
is_within_two (x ∷ xs) [] = nat_le (length xs) 1
is_within_two (x ∷ xs) (y ∷ ys) =
    if nat_eq x y then is_within_two xs ys
    else is_within_one xs ys || (is_within_one (x ∷ xs) ys || is_within_one xs (y ∷ ys))

-- is the name so near?
abbrev pub is_near : Reach → List ℕ → List ℕ → Bool
is_near reach.One w n = is_one_away w n
is_near reach.Two w n = is_within_two w n

-- the name where it is near, else the best so far
abbrev pub nearer : Reach → List ℕ → List ℕ → List ℕ → List ℕ
nearer r w n best = if is_near r w n then n else best

-- the best behind a name
abbrev pub best_after_name : Reach → List ℕ → Phase → List ℕ → List ℕ → List ℕ
best_after_name r w p n best = if declares p then nearer r w n best else best

-- the best behind the include, which declares three names
abbrev pub best_after_include : Reach → List ℕ → List ℕ → List ℕ
best_after_include r w best =
    nearer r w (codes "EOF") (nearer r w (codes "putchar") (nearer r w (codes "getchar") best))

-- the best behind a token
abbrev pub best_after : Reach → List ℕ → Phase → Form → List ℕ → List ℕ
best_after r w p form.Include best = best_after_include r w best
best_after r w p (form.Name n) best = best_after_name r w p n best
best_after r w p _ best = best

-- the last name so near that is declared before an offset, behind a place and the best before it
abbrev pub nearest_from : Reach → List ℕ → ℕ → Stand → List ℕ → Tokens → List ℕ
nearest_from r w o a best [] = best
nearest_from r w o a best (t ∷ ts) =
    if nat_le o t.offset then best
    else nearest_from r w o (stand_after (class_of t.form) a) (best_after r w a.phase t.form best) ts

-- the same of all tokens
abbrev pub nearest_by : Reach → List ℕ → ℕ → Tokens → List ℕ
nearest_by r w o ts = nearest_from r w o (in_phase phase.Elsewhere 0) [] ts

-- the first name, or the other where there is none and the word is long
abbrev pub or_farther : List ℕ → List ℕ → ℕ → Tokens → List ℕ
or_farther [] w o ts = if nat_le 6 (length w) then nearest_by reach.Two w o ts else []
or_farther n w o ts = n

-- the nearest name that is declared before an offset, within two keystrokes of a word of 3 to 64 bytes, or none
abbrev pub nearest : List ℕ → ℕ → Tokens → List ℕ
nearest w o ts =
    if nat_lt (length w) 3 || nat_lt 64 (length w) then []
    else or_farther (nearest_by reach.One w o ts) w o ts

-- is the token this name?
abbrev pub is_word : List ℕ → Form → Bool
is_word w (form.Name n) = bytes_eq n w
is_word w _ = false

-- is the token a bracket that opens a list of parameters?
abbrev pub is_opening : Class → Bool
is_opening class.OpenRound = true
is_opening _ = false

-- is the token the last of a type?
abbrev pub is_type : Class → Bool
is_type class.Type = true
is_type _ = false

-- do the tokens go on as the declaration of this function, behind its type?
abbrev pub names_function : List ℕ → Tokens → Bool
names_function w (t ∷ u ∷ ts) = is_word w t.form && is_opening (class_of u.form)
names_function w _ = false

-- a place by another
abbrev pub side : ℕ → ℕ → Standing
side o l = if nat_lt l o then Before else Behind

-- where the text first declares a function of this name, by an offset
abbrev pub where_declared : List ℕ → ℕ → Tokens → Standing
where_declared w o [] = Nowhere
where_declared w o (t ∷ ts) =
    if is_type (class_of t.form) && names_function w ts then side o t.offset
    else where_declared w o ts
