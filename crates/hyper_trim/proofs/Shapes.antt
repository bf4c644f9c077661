-- What trimming keeps of blocks: their ifs, tests and exits, and their fields.
use Rattle.std.proofs.Common.{◌≡◌, ℕ, ◌+◌, ◌≤◌, Bool, true, false, cond, not, ◌&&◌, ◌||◌, List}
use Rattle.std.proofs.Common.{[], ◌∷◌, map, Some, slice_get, refl, sym, ap, ap₂, ◌∙◌, subst, arith}
use Rattle.std.proofs.lemmas.List.{length-map}
use Rattle.trips_isa.specs.Faults.{divides}
use Rattle.ir_forms.specs.inside.HyperCode.{Items, Done, Set, Load, Save, If, Block}
use Rattle.ir_forms.specs.inside.HyperFits.{FitsItems, IsFollowed, items_in, ifs_in, is_filled, filled_ifs}
use Rattle.ir_forms.specs.inside.HyperFits.{filled_in}
use Rattle.hyper_trim.specs.inside.Sets.{matters}
use Rattle.hyper_trim.specs.inside.Trim.{ended, is_dropped, set_kept, trim}
use Rattle.hyper_narrow.specs.inside.NarrowedCode.{bare}
use Rattle.hyper_trim.specs.inside.Alive.{live_tail, trim_block, narrow_block}
use Rattle.hyper_trim.specs.inside.Laws.{Shaped, ClosedTablesNarrow}
use Rattle.hyper_narrow.proofs.BareBlocks.{bare_at}
use Rattle.hyper_trim.proofs.Runs.{runs_alike}
use Rattle.hyper_trim.proofs.Programs.{all_filled, maps_followed, maps_fit}

-- LEGS

-- a leg's item is dropped only before one that does something
left_filled : (x y z : Bool) → not x && (not y && (not true || z)) ≡ true → z ≡ true
left_filled true y z e = absurd (let bad : false ≡ true = e in cc)
left_filled false true z e = absurd (let bad : false ≡ true = e in cc)
left_filled false false z e = e

leg_filled : (i : Items) (n : ℕ) → is_filled (trim true i (ended n)).items ≡ is_filled i
leg_filled Done n = refl
leg_filled (Set to op a b rest) n = go (is_dropped true op to (trim true rest (ended n))) refl
  where
    go : (c : Bool) → is_dropped true op to (trim true rest (ended n)) ≡ c
        → is_filled (cond c (trim true rest (ended n)) (set_kept to op a b (trim true rest (ended n)))).items ≡ true
    go true is =
        left_filled (divides op) (matters (trim true rest (ended n)).live to)
        (is_filled (trim true rest (ended n)).items) is
    go false is = refl
leg_filled (Load to op a rest) n = refl
leg_filled (Save op a v rest) n = refl
leg_filled (If x one other rest) n = leg_filled rest n

filled_same : (leg : Bool) (i : Items) (n : ℕ) → filled_ifs (trim leg i (ended n)).items ≡ filled_ifs i
filled_same leg Done n = refl
filled_same leg (Set to op a b rest) n =
    go (filled_same leg rest n) (is_dropped leg op to (trim leg rest (ended n)))
  where
    go : filled_ifs (trim leg rest (ended n)).items ≡ filled_ifs rest → (c : Bool)
        → filled_ifs (cond c (trim leg rest (ended n)) (set_kept to op a b (trim leg rest (ended n)))).items
        ≡ filled_ifs rest
    go e true = e
    go e false = e
filled_same leg (Load to op a rest) n = filled_same leg rest n
filled_same leg (Save op a v rest) n = filled_same leg rest n
filled_same leg (If x one other rest) n =
    let k = (trim leg rest (ended n)).live in
    ap₂ (λ (u v : ℕ). u + v)
    (ap₂ (λ (c d : Bool). cond (c || d) 1 0) (leg_filled one k) (leg_filled other k))
    (ap₂ (λ (u v : ℕ). u + v)
    (ap₂ (λ (u v : ℕ). u + v) (filled_same true one k) (filled_same true other k)) (filled_same leg rest n))

ifs_same : (leg : Bool) (i : Items) (n : ℕ) → ifs_in (trim leg i (ended n)).items ≡ ifs_in i
ifs_same leg Done n = refl
ifs_same leg (Set to op a b rest) n = go (ifs_same leg rest n) (is_dropped leg op to (trim leg rest (ended n)))
  where
    go : ifs_in (trim leg rest (ended n)).items ≡ ifs_in rest → (c : Bool)
        → ifs_in (cond c (trim leg rest (ended n)) (set_kept to op a b (trim leg rest (ended n)))).items ≡ ifs_in rest
    go e true = e
    go e false = e
ifs_same leg (Load to op a rest) n = ifs_same leg rest n
ifs_same leg (Save op a v rest) n = ifs_same leg rest n
ifs_same leg (If x one other rest) n =
    let k = (trim leg rest (ended n)).live in
    ap₂ (λ (u v : ℕ). 1 + (u + v)) (ap₂ (λ (u v : ℕ). u + v) (ifs_same true one k) (ifs_same true other k))
    (ifs_same leg rest n)

-- ITEMS

fewer : (leg : Bool) (i : Items) (n : ℕ) → items_in (trim leg i (ended n)).items ≤ items_in i
fewer leg Done n = omega arith
fewer leg (Set to op a b rest) n = go (fewer leg rest n) (is_dropped leg op to (trim leg rest (ended n)))
  where
    go : items_in (trim leg rest (ended n)).items ≤ items_in rest → (c : Bool)
        → items_in (cond c (trim leg rest (ended n)) (set_kept to op a b (trim leg rest (ended n)))).items
        ≤ 1 + items_in rest
    go e true = omega (arith, e)
    go e false = omega (arith, e)
fewer leg (Load to op a rest) n = let e = fewer leg rest n in omega (arith, e)
fewer leg (Save op a v rest) n = let e = fewer leg rest n in omega (arith, e)
fewer leg (If x one other rest) n =
    let k = (trim leg rest (ended n)).live in
    let e = fewer leg rest n in
    let p = fewer true one k in
    let q = fewer true other k in
    omega (arith, e, p, q)

fits : (leg : Bool) (i : Items) (n : ℕ) → FitsItems i → FitsItems (trim leg i (ended n)).items
fits leg Done n h = tt
fits leg (Set to op a b rest) n h = go (fits leg rest n h.4) (is_dropped leg op to (trim leg rest (ended n)))
  where
    go : FitsItems (trim leg rest (ended n)).items → (c : Bool)
        → FitsItems (cond c (trim leg rest (ended n)) (set_kept to op a b (trim leg rest (ended n)))).items
    go e true = e
    go e false = (h.0, h.1, h.2, h.3, e)
fits leg (Load to op a rest) n h = (h.0, h.1, h.2, fits leg rest n h.3)
fits leg (Save op a v rest) n h = (h.0, h.1, h.2, fits leg rest n h.3)
fits leg (If x one other rest) n h =
    let k = (trim leg rest (ended n)).live in
    (h.0, fits true one k h.1, fits true other k h.2, fits leg rest n h.3)

-- PROGRAMS

block_shaped : (T : List ℕ) (ret : ℕ) (b : Block) → Shaped b (trim_block T ret b)
block_shaped T ret b = record {
  fits = λ g. record { items = fits false b.items (live_tail T ret b.tail) g.items; tail = g.tail };
  leads = λ k n h. h;
  fewer = fewer false b.items (live_tail T ret b.tail);
  ifs = ifs_same false b.items (live_tail T ret b.tail);
  tests = refl;
  exits = refl;
  filled = filled_same false b.items (live_tail T ret b.tail);
}

-- without what outlasts them the blocks that are left are the trimmed ones
bare_left : (T : List ℕ) (ret : ℕ) (P : List Block)
    → bare (map (narrow_block T ret) P) ≡ map (trim_block T ret) P
bare_left T ret [] = refl
bare_left T ret (b ∷ P) = ap (λ (Q : List Block). trim_block T ret b ∷ Q) (bare_left T ret P)

-- what a closed table leaves of a program, with what outlasts each block, does the same
pub closed_narrows : ClosedTablesNarrow
closed_narrows T ret P closed =
    let Q = map (narrow_block T ret) P in
    let e = bare_left T ret P in
    record {
      runs = λ check at bytes input n. runs_alike T ret check at P closed bytes input n;
      count = length-map P (narrow_block T ret);
      followed = λ f. subst IsFollowed (sym e) (maps_followed (trim_block T ret) (block_shaped T ret) P f);
      fit = λ f k c there.
          maps_fit (trim_block T ret) (block_shaped T ret) P f k c.block
          (subst (λ (R : List Block). slice_get R k ≡ Some c.block) e (bare_at Q k c there));
      filled = ap filled_in e ∙ all_filled (trim_block T ret) (block_shaped T ret) P;
    }
