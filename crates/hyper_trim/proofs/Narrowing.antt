-- A program whose registers all outlast its blocks is what is left of itself.
use Rattle.std.proofs.Common.{◌≡◌, ℕ, zero, suc, List, [], ◌∷◌, map, Some, slice_get, refl, sym, ap, subst}
use Rattle.std.proofs.lemmas.List.{length-map}
use Rattle.ir_forms.specs.inside.HyperCode.{Block}
use Rattle.ir_forms.specs.inside.HyperFits.{IsFollowed, filled_in}
use Rattle.hyper_narrow.specs.inside.NarrowedCode.{Narrowed, whole}
use Rattle.hyper_narrow.proofs.BareBlocks.{bare_at, bare_whole}
use Rattle.hyper_narrow.proofs.WholeRuns.{whole_runs}
use Rattle.hyper_trim.specs.inside.Narrows.{AllFit, AllNarrowedFit, Narrows}

-- each of its blocks fits
whole_fit : (P : List Block) → AllFit P → AllNarrowedFit (map whole P)
whole_fit P f k c e =
    f k c.block
    (subst (λ (Q : List Block). slice_get Q k ≡ Some c.block) (bare_whole P) (bare_at (map whole P) k c e))

-- every register outlasts each block of what is left
pub whole_narrows : (P : List Block) → Narrows P (map whole P)
whole_narrows P = record {
  runs = λ check at bytes input n. whole_runs check at P bytes input n;
  count = length-map P whole;
  followed = λ f. subst IsFollowed (sym (bare_whole P)) f;
  fit = whole_fit P;
  filled = ap filled_in (bare_whole P);
}

-- a block of a program whose registers all outlast its blocks
pub record IsWhole (P : List Block) (k : ℕ) (c : Narrowed) : Type 0 where
  pub there : slice_get P k ≡ Some c.block
  pub is : c ≡ whole c.block

pub whole_is : (P : List Block) (k : ℕ) (c : Narrowed) → slice_get (map whole P) k ≡ Some c → IsWhole P k c
whole_is [] k c e = absurd (cc)
whole_is (b ∷ P) zero c e =
    let same : whole b ≡ c = cc in subst (IsWhole (b ∷ P) zero) same (record { there = refl; is = refl })
whole_is (b ∷ P) (suc k) c e = let w = whole_is P k c e in record { there = w.there; is = w.is }
