-- Blocks that save or restore a group of variables cost little.
use Rattle.std.proofs.Common.{◌≡◌, ℕ, ◌*◌, ◌≤◌, Bool, true, false, List, [], ◌∷◌, ◌++◌}
use Rattle.std.proofs.Common.{map, length, refl, sym, ap, subst, ◌∙◌, arith, ◌⊎◌}
use Rattle.std.proofs.Common.{inl, inr, cond, nat_eq}
use Rattle.std.proofs.lemmas.List.{length-map}
use Rattle.ir_forms.specs.declared.hyper.Exit.TheVariants as exit
use Rattle.ir_forms.specs.inside.Frames.{register_of}
use Rattle.ir_forms.specs.inside.HyperCode.{Tail, Leave, Block}
use Rattle.ir_forms.specs.inside.HyperFits.{FitsItems, ifs_in, items_in, exits_in}
use Rattle.ir_forms.specs.inside.HyperRuns.{jump}
use Rattle.hyper_build.specs.inside.Passing.{below_end, saving, restoring}
use Rattle.hyper_build.specs.inside.Smallness.{TestsJump}
use Rattle.predication.specs.inside.Environments.{member}
use Rattle.predication.specs.inside.Ifs.{touched}
use Rattle.predication.specs.inside.Tails.{tail_with, block_with, tail_touched}
use Rattle.c_compile_blocks.specs.inside.Costs.{items_cost, tail_cost}
use Rattle.c_compile_blocks.proofs.Items.{NamesIn}
use Rattle.c_compile_blocks.proofs.TailNodes.{NamesEnd}
use Rattle.c_compile_blocks.proofs.Members.{member_split, member_head, member_tail}
use Rattle.c_compile_blocks.proofs.Cheap.{IsCheap, apps_short, below_short}

-- the registers of variables
abbrev kept : List ℕ → List ℕ
kept vs = map register_of vs

abbrev EachKept : (ℕ → Type 0) → List ℕ → Type 0
EachKept P [] = Unit {0}
EachKept P (v ∷ vs) = P (register_of v) × EachKept P vs

each_kept : (P : ℕ → Type 0) (vs : List ℕ) → ((q : ℕ) → member q (kept vs) ≡ true → P q) → EachKept P vs
each_kept P [] f = tt
each_kept P (v ∷ vs) f = (
  f (register_of v) (member_head (register_of v) (kept vs)),
  each_kept P vs (λ q m. f q (member_tail q (register_of v) (kept vs) m)),
)

module _ (frame to : ℕ) where
  abbrev saves : List ℕ → Block
  saves vs = saving frame vs (jump to)

  abbrev restores : List ℕ → Block
  restores vs = restoring frame vs (jump to)

  saves_tail : (vs : List ℕ) → (saves vs).tail ≡ Leave (exit.Jump to)
  saves_tail [] = refl
  saves_tail (v ∷ vs) = saves_tail vs

  restores_tail : (vs : List ℕ) → (restores vs).tail ≡ Leave (exit.Jump to)
  restores_tail [] = refl
  restores_tail (v ∷ vs) = restores_tail vs

  saves_plain : (vs : List ℕ) → ifs_in (saves vs).items ≡ 0
  saves_plain [] = refl
  saves_plain (v ∷ vs) = saves_plain vs

  restores_plain : (vs : List ℕ) → ifs_in (restores vs).items ≡ 0
  restores_plain [] = refl
  restores_plain (v ∷ vs) = restores_plain vs

  saves_size : (vs : List ℕ) → items_in (saves vs).items ≡ 2 * length vs
  saves_size [] = refl
  saves_size (v ∷ vs) = let h = saves_size vs in omega (arith, h)

  restores_size : (vs : List ℕ) → items_in (restores vs).items ≡ 2 * length vs
  restores_size [] = refl
  restores_size (v ∷ vs) = let h = restores_size vs in omega (arith, h)

  saves_cost : (vs : List ℕ) → items_cost (saves vs).items ≤ 7 * length vs
  saves_cost [] = omega arith
  saves_cost (v ∷ vs) =
      let h = saves_cost vs in
      let a = apps_short (below_end frame v) (below_short frame v) in
      omega (arith, h, a)

  restores_cost : (vs : List ℕ) → items_cost (restores vs).items ≤ 6 * length vs
  restores_cost [] = omega arith
  restores_cost (v ∷ vs) =
      let h = restores_cost vs in
      let a = apps_short (below_end frame v) (below_short frame v) in
      omega (arith, h, a)

  saves_named : (P : ℕ → Type 0) (vs : List ℕ) → P 0 → P 1 → EachKept P vs → NamesIn P (saves vs).items
  saves_named P [] a b k = tt
  saves_named P (v ∷ vs) a b k = (b, tt, (a, k.0, saves_named P vs a b k.1))

  restores_named : (P : ℕ → Type 0) (vs : List ℕ) → P 0 → P 1 → NamesIn P (restores vs).items
  restores_named P [] a b = tt
  restores_named P (v ∷ vs) a b = (b, tt, (a, restores_named P vs a b))

  saves_touched : (vs : List ℕ) (r : ℕ) → member r (touched (saves vs).items) ≡ true
      → member r (0 ∷ []) ≡ true
  saves_touched [] r m = absurd (cc)
  saves_touched (v ∷ vs) r m = go (nat_eq r 0) refl m (λ x. saves_touched vs r x)
    where
      go : (b : Bool) → nat_eq r 0 ≡ b → cond b true (member r (touched (saves vs).items)) ≡ true
          → (member r (touched (saves vs).items) ≡ true → member r (0 ∷ []) ≡ true) → cond b true false ≡ true
      go true e x f = refl
      go false e x f = let y = f x in sym (ap (λ (b : Bool). cond b true false) e) ∙ y

  widen : (v : ℕ) (vs : List ℕ) (q : ℕ) → member q (0 ∷ kept vs) ≡ true
      → member q (0 ∷ kept (v ∷ vs)) ≡ true
  widen v vs q m = by (nat_eq q 0) m
    where
      by : (b : Bool) → cond b true (member q (kept vs)) ≡ true → cond b true (member q (kept (v ∷ vs))) ≡ true
      by true x = refl
      by false x = member_tail q (register_of v) (kept vs) x

  restores_touched : (qs vs : List ℕ) (r : ℕ) → ((q : ℕ) → member q (0 ∷ kept vs) ≡ true → member q qs ≡ true)
      → member r (touched (restores vs).items) ≡ true → member r qs ≡ true
  restores_touched qs [] r f m = absurd (cc)
  restores_touched qs (v ∷ vs) r f m =
      go (nat_eq r 0) refl (nat_eq r (register_of v)) refl m
      (λ z. restores_touched qs vs r (λ q k. f q (widen v vs q k)) z)
    where
      go : (b : Bool) → nat_eq r 0 ≡ b → (c : Bool) → nat_eq r (register_of v) ≡ c
          → cond b true (cond c true (member r (touched (restores vs).items))) ≡ true
          → (member r (touched (restores vs).items) ≡ true → member r qs ≡ true) → member r qs ≡ true
      go true x c y z h = f r (ap (λ (b : Bool). cond b true (member r (kept (v ∷ vs)))) x)
      go false x true y z h = f r (member_tail r 0 (kept (v ∷ vs)) (ap (λ (b : Bool). cond b true (member r
          (kept vs))) y))
      go false x false y z h = h z

-- an end that only jumps
jump_end : (f : ℕ → ℕ) (to : ℕ) (t : Tail) → t ≡ Leave (exit.Jump to) → tail_with f t ≡ Leave (exit.Jump to)
jump_end f to t e = ap (tail_with f) e

no_more : (r : ℕ) (a : List ℕ) (t : Tail) (to : ℕ) → t ≡ Leave (exit.Jump to)
    → member r (a ++ tail_touched t) ≡ true → member r a ≡ true
no_more r a t to e m =
    go (member_split r a (tail_touched t) m)
  where
    go : (member r a ≡ true) ⊎ (member r (tail_touched t) ≡ true) → member r a ≡ true
    go (inl x) = x
    go (inr x) = absurd (let y = ap (λ (u : Tail). member r (tail_touched u)) (sym e) ∙ x in cc)

-- a block that saves a group of at most 16 variables costs little
pub saves_cheap : (f : ℕ → ℕ) (frame to : ℕ) (vs : List ℕ) → length vs ≤ 16
    → FitsItems (saving frame vs (jump to)).items → IsCheap (block_with f (saving frame vs (jump to)))
saves_cheap f frame to vs few fits =
    let b = saving frame vs (jump to) in
    let t = tail_with f b.tail in
    let e : t ≡ Leave (exit.Jump to) = jump_end f to b.tail (saves_tail frame to vs) in
    let qs : List ℕ = 0 ∷ 1 ∷ kept vs in
    let size = length-map vs register_of in
    let c = saves_cost frame to vs in
    let d : tail_cost t ≡ 1 = ap tail_cost e in
    let n = saves_size frame to vs in
    let x : exits_in t ≡ 1 = ap exits_in e in
    record {
      read = qs;
      plain = record {
        items = fits;
        plain = saves_plain frame to vs;
        jumps = subst TestsJump (sym e) tt;
        named = saves_named frame to (λ q. member q qs ≡ true) vs refl refl
            (each_kept (λ q. member q qs ≡ true) vs
            (λ q m. member_tail q 0 (1 ∷ kept vs) (member_tail q 1 (kept vs) m)));
        ends = subst (NamesEnd (λ q. member q qs ≡ true)) (sym e) tt;
      };
      reads = omega (arith, size, few);
      written = 0 ∷ [];
      covers = λ r m. saves_touched frame to vs r (no_more r (touched b.items) t to e m);
      writes = omega arith;
      cost = omega (arith, c, d, few);
      items = omega (arith, n, few);
      exits = omega (arith, x);
    }

-- a block that restores a group of at most 16 variables costs little
pub restores_cheap : (f : ℕ → ℕ) (frame to : ℕ) (vs : List ℕ) → length vs ≤ 16
    → FitsItems (restoring frame vs (jump to)).items → IsCheap (block_with f (restoring frame vs (jump to)))
restores_cheap f frame to vs few fits =
    let b = restoring frame vs (jump to) in
    let t = tail_with f b.tail in
    let e : t ≡ Leave (exit.Jump to) = jump_end f to b.tail (restores_tail frame to vs) in
    let qs : List ℕ = 0 ∷ 1 ∷ [] in
    let size = length-map vs register_of in
    let c = restores_cost frame to vs in
    let d : tail_cost t ≡ 1 = ap tail_cost e in
    let n = restores_size frame to vs in
    let x : exits_in t ≡ 1 = ap exits_in e in
    record {
      read = qs;
      plain = record {
        items = fits;
        plain = restores_plain frame to vs;
        jumps = subst TestsJump (sym e) tt;
        named = restores_named frame to (λ q. member q qs ≡ true) vs refl refl;
        ends = subst (NamesEnd (λ q. member q qs ≡ true)) (sym e) tt;
      };
      reads = omega arith;
      written = 0 ∷ kept vs;
      covers = λ r m.
          restores_touched frame to (0 ∷ kept vs) vs r (λ q k. k) (no_more r (touched b.items) t to e m);
      writes = omega (arith, size, few);
      cost = omega (arith, c, d, size, few);
      items = omega (arith, n, few);
      exits = omega (arith, x);
    }
