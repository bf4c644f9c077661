-- One turn of the loop that resolves the labels of all blocks.
use Rattle.std.proofs.Common.{◌≡◌, ℕ, zero, suc, ◌+◌, ◌<◌, List, [], ◌∷◌, ◌++◌, length, take, drop, get_or}
use Rattle.std.proofs.Common.{Option, map}
use Rattle.std.proofs.Common.{refl, sym, ap, ap₂, ◌∙◌, arith}
use Rattle.std.specs.Prelude.{slice_set, ◌≤◌}
use Rattle.std.specs.List.{sum_by, All}
use Rattle.std.proofs.Math.Path.{fun_ext}
use Rattle.std.proofs.lemmas.List.Sums.{sum_by-cons}
use Rattle.std.proofs.lemmas.List.Elements.{All-cons}
use Rattle.trips_isa.specs.Images.{chunks}
use Rattle.c_compile_layout.specs.inside.Layouts.{begins, linked}
use Rattle.trips_isa.specs.declared.block.Block.{Block}
use Rattle.trips_isa.specs.declared.block.Inst.{Inst}
use Rattle.c_compile_layout.specs.inside.Linking.{resolved_block, by_both, linked_from}

-- the blocks before number k are resolved
abbrev so_far : (ℕ → ℕ) → ℕ → ℕ → List Block → List Block
so_far ch j k xs = linked_from ch j (take k xs) ++ drop k xs

turn : (ch : ℕ → ℕ) (j k : ℕ) (xs : List Block) (d new : Block) → k < length xs
    → new ≡ resolved_block (by_both ch (j + k)) (get_or (so_far ch j k xs) k d)
    → slice_set (so_far ch j k xs) k new ≡ so_far ch j (suc k) xs
turn ch j k [] d new l e = absurd (omega arith)
turn ch j zero (x ∷ xs) d new l e =
    let z : j + 0 ≡ j = omega arith in
    ap (λ (y : Block). y ∷ xs) (e ∙ ap (λ n. resolved_block (by_both ch n) x) z)
turn ch j (suc k) (x ∷ xs) d new l e =
    let z : j + suc k ≡ suc j + k = omega arith in
    ap (λ (ys : List Block). resolved_block (by_both ch j) x ∷ ys)
    (turn ch (suc j) k xs d new (omega arith)
    (e ∙ ap (λ n. resolved_block (by_both ch n) (get_or (so_far ch (suc j) k xs) k d)) z))

-- a turn of the loop resolves the next block
pub turned : (ch : ℕ → ℕ) (k m : ℕ) (xs cur : List Block) (old new : Block) → k < length xs
    → m ≡ suc k → cur ≡ linked_from ch 0 (take k xs) ++ drop k xs
    → new ≡ resolved_block (by_both ch k) (get_or cur k old)
    → slice_set cur k new ≡ linked_from ch 0 (take m xs) ++ drop m xs
turned ch k m xs cur old new l up so e =
    let z : k ≡ 0 + k = omega arith in
    ap (λ (y : List Block). slice_set y k new) so
    ∙ turn ch 0 k xs old new l
    (e ∙ ap₂ (λ (n : ℕ) (b : Block). resolved_block (by_both ch n) b) z
    (ap (λ (y : List Block). get_or y k old) so))
    ∙ ap (λ n. so_far ch 0 n xs) (sym up)

-- the slots before number i are resolved
slots_so_far : (f : Option Inst → Option Inst) (xs : List (Option Inst)) (i : ℕ) (d new : Option Inst) → i < length xs
    → new ≡ f (get_or (map f (take i xs) ++ drop i xs) i d)
    → slice_set (map f (take i xs) ++ drop i xs) i new ≡ map f (take (suc i) xs) ++ drop (suc i) xs
slots_so_far f [] i d new l e = absurd (omega arith)
slots_so_far f (x ∷ xs) zero d new l e = ap (λ (y : Option Inst). y ∷ xs) e
slots_so_far f (x ∷ xs) (suc i) d new l e =
    ap (λ (ys : List (Option Inst)). f x ∷ ys) (slots_so_far f xs i d new (omega arith) e)

-- a turn of the loop resolves the next slot
pub slot_turned : (f : Option Inst → Option Inst) (xs cur : List (Option Inst)) (i m : ℕ) (d new : Option Inst)
    → i < length xs → m ≡ suc i → cur ≡ map f (take i xs) ++ drop i xs → new ≡ f (get_or cur i d)
    → slice_set cur i new ≡ map f (take m xs) ++ drop m xs
slot_turned f xs cur i m d new l up so e =
    ap (λ (y : List (Option Inst)). slice_set y i new) so
    ∙ slots_so_far f xs i d new l (e ∙ ap (λ (y : List (Option Inst)). f (get_or y i d)) so)
    ∙ ap (λ n. map f (take n xs) ++ drop n xs) (sym up)

-- the table of where blocks begin, with the end of all behind it, is where each begins
begin_at : (here l : ℕ) (us : List Block)
    → get_or (begins here us) l (here + sum_by chunks us) ≡ here + sum_by chunks (take l us)
begin_at here zero [] = refl
begin_at here (suc l) [] = refl
begin_at here zero (u ∷ us) = let z : sum_by chunks (take 0 (u ∷ us)) ≡ 0 = refl in omega (arith, z)
begin_at here (suc l) (u ∷ us) =
    let a : sum_by chunks (u ∷ us) ≡ chunks u + sum_by chunks us = sum_by-cons chunks u us in
    let b : sum_by chunks (take (suc l) (u ∷ us)) ≡ chunks u + sum_by chunks (take l us) =
    sum_by-cons chunks u (take l us) in
    let e : here + sum_by chunks (u ∷ us) ≡ here + chunks u + sum_by chunks us = omega (arith, a) in
    let f : here + chunks u + sum_by chunks (take l us) ≡ here + sum_by chunks (take (suc l) (u ∷ us)) =
    omega (arith, b) in
    ap (λ n. get_or (begins (here + chunks u) us) l n) e ∙ begin_at (here + chunks u) l us ∙ f

-- blocks resolved by the table of their beginnings are linked
pub linked_by : (table : List ℕ) (end : ℕ) (us vs : List Block) → table ≡ begins 0 us → end ≡ sum_by chunks us
    → vs ≡ linked_from (λ l. get_or table l end) 0 us → vs ≡ linked us
linked_by table end us vs t e is =
    is ∙ ap (λ (ch : ℕ → ℕ). linked_from ch 0 us) (fun_ext (λ l.
    let z : 0 + sum_by chunks us ≡ sum_by chunks us = omega arith in
    let y : 0 + sum_by chunks (take l us) ≡ sum_by chunks (take l us) = omega arith in
    ap₂ (λ (a : List ℕ) (b : ℕ). get_or a l b) t (e ∙ sym z) ∙ begin_at 0 l us ∙ y))

-- no block begins behind the chunks of all
pub begins_low : (here top : ℕ) (us : List Block) → here + sum_by chunks us ≤ top
    → All (λ c. c ≤ top) (begins here us)
begins_low here top [] l = λ i d k. absurd (omega arith)
begins_low here top (u ∷ us) l =
    let a : sum_by chunks (u ∷ us) ≡ chunks u + sum_by chunks us = sum_by-cons chunks u us in
    All-cons (λ c. c ≤ top) here (begins (here + chunks u) us) (omega (arith, l))
    (begins_low (here + chunks u) top us (omega (arith, a, l)))
