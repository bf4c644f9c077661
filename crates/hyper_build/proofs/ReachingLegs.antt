-- Emission puts out the blocks of annotated code: legs of ifs.
use Rattle.std.proofs.Common.{◌≡◌, ◌⊎◌, inl, inr, ℕ, ◌+◌, List, [], ◌∷◌, ◌++◌, Option, Some, None}
use Rattle.std.proofs.Common.{refl, sym, ap, ap₂, ◌∙◌, subst, arith}
use Rattle.ir_forms.specs.inside.FlatCode.{Let, Frame, Load, Save, Call, Put, Get, If, Loop, Break, Continue}
use Rattle.ir_forms.specs.inside.FlatCode.{Return, Halt, Code, Nop, ◌▹◌}
use Rattle.ir_forms.specs.inside.HyperCode.{Block}
use Rattle.hyper_build.specs.declared.emitting.Note.{Note}
use Rattle.hyper_build.specs.inside.Tree.{annotated}
use Rattle.hyper_build.specs.inside.Legs.{exit_leg, label_or, leg_blocks, leg_size}
use Rattle.hyper_build.specs.inside.Sizes.{size}
use Rattle.hyper_build.specs.inside.Entries.{entry}
use Rattle.hyper_build.specs.inside.Build.{blocks}
use Rattle.hyper_build.specs.inside.Ground.{Ground, plan, place}
use Rattle.hyper_build.specs.inside.Backward.{Emission}
use Rattle.hyper_build.specs.inside.BackwardCode.{exit_of, leg_out, emit}
use Rattle.hyper_build.specs.inside.Notes.{notes_of}
use Rattle.hyper_build.specs.inside.Reached.{Reached}
use Rattle.hyper_build.proofs.Reaching.{one_less}

-- a leg with blocks of its own
pub record NoExit (g : Ground) (b a join i k : ℕ) (c : Code) : Type 0 where
  pub code : exit_of join b a c ≡ None
  pub tree : exit_leg (place g b a) join (annotated (plan g) i k c) ≡ None
  pub sized : (n : ℕ) → leg_size (annotated (plan g) i k c) n ≡ 1 + n

-- a leg that leads somewhere at once
pub record HasExit (g : Ground) (b a join i k : ℕ) (c : Code) : Type 0 where
  pub to : ℕ
  pub code : exit_of join b a c ≡ Some to
  pub tree : exit_leg (place g b a) join (annotated (plan g) i k c) ≡ Some to
  pub sized : (n : ℕ) → leg_size (annotated (plan g) i k c) n ≡ 0
  pub empty : size (annotated (plan g) i k c) ≡ 0
  pub bare : (l : ℕ) (r : Block) → blocks (place g b a) (annotated (plan g) i k c) l r ≡ []
  pub silent : (l : ℕ) → notes_of (plan g) l i k c ≡ []

-- a leg has an exit of its own or none
pub kind : (g : Ground) (b a join i k : ℕ) (c : Code)
    → NoExit g b a join i k c ⊎ HasExit g b a join i k c
kind g b a join i k Nop =
    inr (record {
      to = join;
      code = refl;
      tree = refl;
      sized = λ n. refl;
      empty = refl;
      bare = λ l r. refl;
      silent = λ l. refl;
    })
kind g b a join i k (Let to op x y ▹ Nop) =
    inl (record { code = refl; tree = refl; sized = λ n. refl })
kind g b a join i k (Frame to at ▹ Nop) =
    inl (record { code = refl; tree = refl; sized = λ n. refl })
kind g b a join i k (Load to op x ▹ Nop) =
    inl (record { code = refl; tree = refl; sized = λ n. refl })
kind g b a join i k (Save op x y ▹ Nop) =
    inl (record { code = refl; tree = refl; sized = λ n. refl })
kind g b a join i k (Call f xs to kept ▹ Nop) =
    inl (record { code = refl; tree = refl; sized = λ n. refl })
kind g b a join i k (Put x ▹ Nop) =
    inl (record { code = refl; tree = refl; sized = λ n. refl })
kind g b a join i k (Get to ▹ Nop) =
    inl (record { code = refl; tree = refl; sized = λ n. refl })
kind g b a join i k (If x p q ▹ Nop) =
    inl (record { code = refl; tree = refl; sized = λ n. refl })
kind g b a join i k (Loop p q ▹ Nop) =
    inl (record { code = refl; tree = refl; sized = λ n. refl })
kind g b a join i k (Break ▹ Nop) =
    inr (record {
      to = b;
      code = refl;
      tree = refl;
      sized = λ n. refl;
      empty = refl;
      bare = λ l r. refl;
      silent = λ l. refl;
    })
kind g b a join i k (Continue ▹ Nop) =
    inr (record {
      to = a;
      code = refl;
      tree = refl;
      sized = λ n. refl;
      empty = refl;
      bare = λ l r. refl;
      silent = λ l. refl;
    })
kind g b a join i k (Return x ▹ Nop) =
    inl (record { code = refl; tree = refl; sized = λ n. refl })
kind g b a join i k (Halt x ▹ Nop) =
    inl (record { code = refl; tree = refl; sized = λ n. refl })
kind g b a join i k (Let to op x y ▹ s ▹ more) =
    inl (record { code = refl; tree = refl; sized = λ n. refl })
kind g b a join i k (Frame to at ▹ s ▹ more) =
    inl (record { code = refl; tree = refl; sized = λ n. refl })
kind g b a join i k (Load to op x ▹ s ▹ more) =
    inl (record { code = refl; tree = refl; sized = λ n. refl })
kind g b a join i k (Save op x y ▹ s ▹ more) =
    inl (record { code = refl; tree = refl; sized = λ n. refl })
kind g b a join i k (Call f xs to kept ▹ s ▹ more) =
    inl (record { code = refl; tree = refl; sized = λ n. refl })
kind g b a join i k (Put x ▹ s ▹ more) =
    inl (record { code = refl; tree = refl; sized = λ n. refl })
kind g b a join i k (Get to ▹ s ▹ more) =
    inl (record { code = refl; tree = refl; sized = λ n. refl })
kind g b a join i k (If x p q ▹ s ▹ more) =
    inl (record { code = refl; tree = refl; sized = λ n. refl })
kind g b a join i k (Loop p q ▹ s ▹ more) =
    inl (record { code = refl; tree = refl; sized = λ n. refl })
kind g b a join i k (Break ▹ s ▹ more) =
    inl (record { code = refl; tree = refl; sized = λ n. refl })
kind g b a join i k (Continue ▹ s ▹ more) =
    inl (record { code = refl; tree = refl; sized = λ n. refl })
kind g b a join i k (Return x ▹ s ▹ more) =
    inl (record { code = refl; tree = refl; sized = λ n. refl })
kind g b a join i k (Halt x ▹ s ▹ more) =
    inl (record { code = refl; tree = refl; sized = λ n. refl })

-- what a leg puts out, and where it leads
pub record LegAt (o : List Block) (t : Emission) (e x : Option ℕ) (l i k : ℕ) (N : List Note)
    (first : Block) (others : List Block) : Type 0
  where
    pub reached : Reached o (leg_out e t) l i k N (leg_blocks x first others) (leg_out e t).rest
    pub leads : label_or (leg_out e t).label e ≡ label_or l x

abbrev IsLed : Ground → ℕ → ℕ → ℕ → ℕ → ℕ → Code → Emission → ℕ → List Note → Type 0
IsLed g b a join i k c s l N =
    s.label ≡ l + leg_size (annotated (plan g) i k c) (size (annotated (plan g) i k c))
    → s.notes ≡ N ++ notes_of (plan g) (l + 1) i k c
    → ((m : ℕ) → s.label ≡ m + size (annotated (plan g) i k c)
    → s.notes ≡ N ++ notes_of (plan g) m i k c
    → Reached s.out (emit g b a c s) m i k N
    (blocks (place g b a) (annotated (plan g) i k c) m s.rest)
    (entry (place g b a) (annotated (plan g) i k c) m s.rest))
    → LegAt s.out (emit g b a c s) (exit_of join b a c)
    (exit_leg (place g b a) join (annotated (plan g) i k c)) l i k N
    (entry (place g b a) (annotated (plan g) i k c) (l + 1) s.rest)
    (blocks (place g b a) (annotated (plan g) i k c) (l + 1) s.rest)

led_by : (g : Ground) (b a join i k : ℕ) (c : Code) (s : Emission) (l : ℕ) (N : List Note)
    → NoExit g b a join i k c ⊎ HasExit g b a join i k c → IsLed g b a join i k c s l N
led_by g b a join i k c s l N (inl n) e en f =
    let tree = annotated (plan g) i k c in
    let t = emit g b a c s in
    let first = entry (place g b a) tree (l + 1) s.rest in
    let others = blocks (place g b a) tree (l + 1) s.rest in
    let h = n.sized (size tree) in
    let r = f (l + 1) (omega (arith, e, h)) en in
    let q : LegAt s.out t None None l i k N first others = record {
      reached = record {
        label = one_less t.label l r.label;
        place = r.place;
        calls = r.calls;
        notes = r.notes;
        out = ap₂ (λ x y. x ∷ y) r.rest r.out;
        rest = refl;
      };
      leads = one_less t.label l r.label;
    } in
    subst (λ y. LegAt s.out t (exit_of join b a c) y l i k N first others) (sym n.tree)
    (subst (λ y. LegAt s.out t y None l i k N first others) (sym n.code) q)
led_by g b a join i k c s l N (inr n) e en f =
    let tree = annotated (plan g) i k c in
    let t = emit g b a c s in
    let first = entry (place g b a) tree (l + 1) s.rest in
    let others = blocks (place g b a) tree (l + 1) s.rest in
    let h = n.sized (size tree) in
    let z = n.empty in
    let m = en ∙ ap (λ y. N ++ y) (n.silent (l + 1) ∙ sym (n.silent l)) in
    let r = f l (omega (arith, e, h, z)) m in
    let q : LegAt s.out t (Some n.to) (Some n.to) l i k N first others = record {
      reached = record {
        label = r.label;
        place = r.place;
        calls = r.calls;
        notes = r.notes;
        out = r.out ∙ ap (λ y. y ++ s.out) (n.bare l s.rest);
        rest = refl;
      };
      leads = refl;
    } in
    subst (λ y. LegAt s.out t (exit_of join b a c) y l i k N first others) (sym n.tree)
    (subst (λ y. LegAt s.out t y (Some n.to) l i k N first others) (sym n.code) q)

-- emission of a leg reaches its annotated blocks
pub leg_reached : (g : Ground) (b a join i k : ℕ) (c : Code) (s : Emission) (l : ℕ) (N : List Note)
    → IsLed g b a join i k c s l N
leg_reached g b a join i k c s l N = led_by g b a join i k c s l N (kind g b a join i k c)
