-- What calls keep changes no if.
use Rattle.std.proofs.Common.{◌≡◌, ℕ, ◌+◌, Bool, List, [], ◌∷◌, refl, ap₂, arith}
use Rattle.std.specs.Prelude.{cond, ◌&&◌}
use Rattle.ir_forms.specs.inside.FlatCode.{Step, Let, Frame, Load, Save, Call, Put, Get, If, Loop, Break}
use Rattle.ir_forms.specs.inside.FlatCode.{Continue, Return, Halt, Code, Nop, ◌▹◌, Function}
use Rattle.ir_forms.specs.inside.FlatFits.{is_small_leg, is_empty, small_if, small_ifs_in, small_ifs}
use Rattle.ir_forms.specs.inside.FlatFits.{small_ifs_of_all}
use Rattle.reg_assign.specs.inside.Live.{VarSet}
use Rattle.reg_assign.specs.inside.Keeps.{calls, calls_in, keeping_in, keeping, keeping_all, kept_by}
use Rattle.c_compile_laws.specs.inside.PlainLaws.{AssignsSmallIfs}

module _ (keep : ℕ → VarSet) where
  small_same : (k : ℕ) (a : Code) → is_small_leg (keeping keep k a) ≡ is_small_leg a
  small_same k Nop = refl
  small_same k (Let to op x y ▹ Nop) = refl
  small_same k (Let to op x y ▹ (s ▹ rest)) = refl
  small_same k (Frame to at ▹ rest) = refl
  small_same k (Load to op x ▹ rest) = refl
  small_same k (Save op x y ▹ rest) = refl
  small_same k (Call f xs to kept ▹ rest) = refl
  small_same k (Put x ▹ rest) = refl
  small_same k (Get to ▹ rest) = refl
  small_same k (If x a b ▹ rest) = refl
  small_same k (Loop a b ▹ rest) = refl
  small_same k (Break ▹ rest) = refl
  small_same k (Continue ▹ rest) = refl
  small_same k (Return x ▹ rest) = refl
  small_same k (Halt x ▹ rest) = refl

  empty_same : (k : ℕ) (a : Code) → is_empty (keeping keep k a) ≡ is_empty a
  empty_same k Nop = refl
  empty_same k (s ▹ rest) = refl

  -- a small if stays one
  if_same : (k j : ℕ) (a b : Code) → small_if (keeping keep k a) (keeping keep j b) ≡ small_if a b
  if_same k j a b =
      ap₂ (λ (small empty : Bool). cond small (cond empty 0 1) 0)
      (ap₂ (λ (x y : Bool). x && y) (small_same k a) (small_same j b))
      (ap₂ (λ (x y : Bool). x && y) (empty_same k a) (empty_same j b))

  mutual
    step_same : (k : ℕ) (s : Step) → small_ifs_in (keeping_in keep k s) ≡ small_ifs_in s
    step_same k (If x a b) =
        let h = if_same k (k + calls a) a b in
        let p = code_same k a in
        let q = code_same (k + calls a) b in
        omega (arith, h, p, q)
    step_same k (Loop a b) =
        let p = code_same k a in
        let q = code_same (k + calls a) b in
        omega (arith, p, q)
    step_same k (Let to op x y) = refl
    step_same k (Frame to at) = refl
    step_same k (Load to op x) = refl
    step_same k (Save op x y) = refl
    step_same k (Call f xs to kept) = refl
    step_same k (Put x) = refl
    step_same k (Get to) = refl
    step_same k Break = refl
    step_same k Continue = refl
    step_same k (Return x) = refl
    step_same k (Halt x) = refl

    code_same : (k : ℕ) (a : Code) → small_ifs (keeping keep k a) ≡ small_ifs a
    code_same k Nop = refl
    code_same k (s ▹ rest) =
        let p = step_same k s in
        let q = code_same (k + calls_in s) rest in
        omega (arith, p, q)

  all_same : (k : ℕ) (fs : List Function)
      → small_ifs_of_all (keeping_all keep k fs) ≡ small_ifs_of_all fs
  all_same k [] = refl
  all_same k (f ∷ fs) =
      let p = code_same k f.body in
      let q = all_same (k + calls f.body) fs in
      omega (arith, p, q)

-- what calls keep changes no small if
pub assigns_small : AssignsSmallIfs
assigns_small P lists = all_same (kept_by lists) 0 P.functions
