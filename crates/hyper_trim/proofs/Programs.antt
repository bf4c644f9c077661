-- Programs whose blocks are changed one by one.
use Rattle.std.proofs.Common.{◌≡◌, ℕ, zero, suc, ◌+◌, Bool, cond, List, [], ◌∷◌}
use Rattle.std.proofs.Common.{map, length, Some, None, refl, sym, ap, ap₂, ◌∙◌, subst, arith}
use mathlib.Core.Path.{fun_ext}
use Rattle.std.specs.Prelude.{slice_get}
use Rattle.ir_forms.specs.declared.hyper.Exit.{Exit}
use Rattle.ir_forms.specs.inside.HyperCode.{Block}
use Rattle.ir_forms.specs.inside.HyperFits.{FitsHyper, AllLeadOn, IsFollowed, filled_in}
use Rattle.ir_forms.specs.inside.HyperRuns.{Machine, Layout, Standing, after_items, exit_of, is_system}
use Rattle.ir_forms.specs.inside.HyperRuns.{system, block_at}
use Rattle.ir_forms.specs.inside.HyperRuns.{next_label, leaving, if_clean, leave, run, start, hyper_run, jump}
use Rattle.hyper_narrow.specs.inside.NarrowedCode.{Narrowed}
use Rattle.hyper_trim.specs.inside.Narrows.{AllFit, Narrows}
use Rattle.hyper_trim.specs.inside.Laws.{Shaped, Trims, SameBlock}

some : (x y : Block) → Some x ≡ Some y → y ≡ x
some x y e = cc

module _ (f : Block → Block) where
  -- the block that a changed one comes from
  record From (P : List Block) (k : ℕ) (c : Block) : Type 0 where
    pub block : Block
    -- a program of as many blocks has one of the same number
    pub there : slice_get P k ≡ Some block
    pub is : c ≡ f block

  comes : (P : List Block) (k : ℕ) (c : Block) → slice_get (map f P) k ≡ Some c → From P k c
  comes [] k c e = absurd (let bad : None ≡ Some c = e in cc)
  comes (b ∷ P) zero c e = record { block = b; there = refl; is = some (f b) c e }
  comes (b ∷ P) (suc k) c e =
      let g = comes P k c e in record { block = g.block; there = g.there; is = g.is }

  got : (P : List Block) (k : ℕ) (b c : Block) → slice_get P k ≡ Some b → slice_get (map f P) k ≡ Some c → c ≡ f b
  got P k b c e h = let g = comes P k c h in g.is ∙ ap f (some b g.block (sym e ∙ g.there))

  as_many : (P : List Block) → length (map f P) ≡ length P
  as_many [] = refl
  as_many (b ∷ P) = ap suc (as_many P)

  module _ (shaped : (b : Block) → Shaped b (f b)) where
    -- a changed program has as many filled ifs
    pub all_filled : (P : List Block) → filled_in (map f P) ≡ filled_in P
    all_filled [] = refl
    all_filled (b ∷ P) = ap₂ (λ (u v : ℕ). u + v) (shaped b).filled (all_filled P)

    -- each leads to blocks of it
    pub maps_followed : (P : List Block) → IsFollowed P → IsFollowed (map f P)
    maps_followed P h k c e =
        let g = comes P k c e in
        subst (λ (x : Block). AllLeadOn k (length (map f P)) x.tail) (sym g.is)
        (subst (λ (n : ℕ). AllLeadOn k n (f g.block).tail) (sym (as_many P))
        ((shaped g.block).leads k (length P) (h k g.block g.there)))

    -- each fits
    pub maps_fit : (P : List Block) → AllFit P → AllFit (map f P)
    maps_fit P h k c e =
        let g = comes P k c e in
        subst FitsHyper (sym g.is) ((shaped g.block).fits (h k g.block g.there))

    -- a program is trimmed whose blocks are changed to shaped ones, where the runs are the same
    pub maps_trim : (P : List Block)
        → ((check : Bool) (at : Layout) (bytes input : List ℕ) (n : ℕ)
        → hyper_run check at (map f P) bytes input n ≡ hyper_run check at P bytes input n) → Trims P (map f P)
    maps_trim P same = record {
      runs = same;
      count = as_many P;
      each = λ k b c e h. subst (Shaped b) (sym (got P k b c e h)) (shaped b);
      followed = maps_followed P;
      filled = all_filled P;
    }

  -- BLOCKS THAT DO THE SAME

  leave_same : (at : Layout) (P Q : List Block) (g h : Block → Machine → Standing)
      → ((l : ℕ) (m : Machine) → g (block_at Q l) m ≡ h (block_at P l) m) → (e : Exit) (m : Machine)
      → leave at Q g e m ≡ leave at P h e m
  leave_same at P Q g h same e m =
      ap (λ (k : Machine → Standing). cond (is_system e) (system (m.registers 0) m k) (k (leaving at e m)))
      (fun_ext (same (next_label at e m)))

  module _ (jumps : f (jump 0) ≡ jump 0) (same : (b : Block) → SameBlock b (f b)) where
    label_same : (P : List Block) (l : ℕ) → block_at (map f P) l ≡ f (block_at P l)
    label_same [] l = sym jumps
    label_same (b ∷ P) zero = refl
    label_same (b ∷ P) (suc l) = label_same P l

    module _ (check : Bool) (at : Layout) (P : List Block) where
      run_same : (k : ℕ) (b : Block) (m : Machine) → run check at (map f P) k (f b) m ≡ run check at P k b m
      run_same zero b m = refl
      run_same (suc k) b m =
          let Q = map f P in
          let g = run check at Q k in
          let n = after_items b.items m in
          ap₂ (if_clean check) ((same b).acts m)
          (ap (λ (x : Machine). leave at Q g (exit_of (f b).tail x.registers) x) ((same b).after m)
          ∙ ap (λ (e : Exit). leave at Q g e n) ((same b).exit m)
          ∙ leave_same at P Q g (run check at P k)
          (λ l x. ap (λ (c : Block). g c x) (label_same P l) ∙ run_same k (block_at P l) x)
          (exit_of b.tail n.registers) n)

      runs_same : (bytes input : List ℕ) (n : ℕ)
          → hyper_run check at (map f P) bytes input n ≡ hyper_run check at P bytes input n
      unfolding hyper_run
      runs_same bytes input n =
          ap (λ (c : Block). run check at (map f P) n c (start bytes input)) (label_same P 0)
          ∙ run_same n (block_at P 0) (start bytes input)

    -- so where each block does the same
    pub same_trims : ((b : Block) → Shaped b (f b)) → (P : List Block) → Trims P (map f P)
    same_trims shaped P = maps_trim shaped P (λ check at bytes input n. runs_same check at P bytes input n)

-- ONE AFTER THE OTHER

shaped_then : (a b c : Block) → Shaped a b → Shaped b c → Shaped a c
shaped_then a b c g h = record {
  fits = λ x. h.fits (g.fits x);
  leads = λ k n x. h.leads k n (g.leads k n x);
  fewer = let p = g.fewer in let q = h.fewer in omega (arith, p, q);
  ifs = h.ifs ∙ g.ifs;
  tests = h.tests ∙ g.tests;
  exits = h.exits ∙ g.exits;
  filled = h.filled ∙ g.filled;
}

-- a block of a number
pub record There (Q : List Block) (k : ℕ) : Type 0 where
  pub block : Block
  pub is : slice_get Q k ≡ Some block

-- a program of as many blocks has one of the same number
pub there : (P Q : List Block) (k : ℕ) (b : Block) → length Q ≡ length P → slice_get P k ≡ Some b → There Q k
there [] Q k b e h = absurd (let bad : None ≡ Some b = h in cc)
there (x ∷ P) [] k b e h = absurd (let bad : 0 ≡ suc (length P) = e in omega (arith, bad))
there (x ∷ P) (y ∷ Q) zero b e h = record { block = y; is = refl }
there (x ∷ P) (y ∷ Q) (suc k) b e h =
    let g = there P Q k b (let d : suc (length Q) ≡ suc (length P) = e in omega (arith, d)) h in
    record { block = g.block; is = g.is }

-- what is left of what is left is what is left
pub trims_then : (P Q R : List Block) → Trims P Q → Trims Q R → Trims P R
trims_then P Q R g h = record {
  runs = λ check at bytes input n. h.runs check at bytes input n ∙ g.runs check at bytes input n;
  count = h.count ∙ g.count;
  each = λ k b d e x.
      let q = there P Q k b g.count e in
      shaped_then b q.block d (g.each k b q.block e q.is) (h.each k q.block d q.is x);
  followed = λ x. h.followed (g.followed x);
  filled = h.filled ∙ g.filled;
}

-- what is left, narrowed, of what is left is what is left
pub narrows_behind : (P Q : List Block) (R : List Narrowed) → Trims P Q → Narrows Q R → Narrows P R
narrows_behind P Q R g h = record {
  runs = λ check at bytes input n. h.runs check at bytes input n ∙ g.runs check at bytes input n;
  count = h.count ∙ g.count;
  followed = λ x. h.followed (g.followed x);
  fit = λ x.
      h.fit (λ k c e.
      let b = there Q P k c (sym g.count) e in
      (g.each k b.block c b.is e).fits (x k b.block b.is));
  filled = h.filled ∙ g.filled;
}
