-- No item of annotated code sets the register in which a loop's test is kept, or one above it.
use Rattle.std.proofs.Common.{◌≡◌, ℕ, suc, ◌+◌, ◌<◌, ◌≤◌, Bool, true, false, cond, not, ◌||◌, List, [], ◌∷◌}
use Rattle.std.proofs.Common.{map, length, Option, Some, None, arith, slice_get}
use Rattle.ir_forms.specs.declared.flat.Arg.{Arg}
use Rattle.ir_forms.specs.declared.hyper.Exit.TheVariants as exit
use Rattle.ir_forms.specs.inside.Frames.{register_of}
use Rattle.ir_forms.specs.inside.FlatFits.{FitsVar}
use Rattle.ir_forms.specs.inside.HyperCode.{Items, Done, Leave, Block}
use Rattle.ir_forms.specs.inside.HyperRuns.{jump}
use Rattle.hyper_build.specs.inside.Tree.{Stmt, LetAt, FrameAt, LoadAt, SaveAt, CallAt, PutAt, GetAt, IfAt}
use Rattle.hyper_build.specs.inside.Tree.{LoopAt, BreakAt, ContinueAt, ReturnAt, HaltAt, Tree, End, ◌▸◌, Routine}
use Rattle.hyper_build.specs.inside.Parts.{cut, cut_size, chain, chain_size, Move, moved}
use Rattle.hyper_build.specs.inside.Passing.{saving, argument_moves, argument_cuts}
use Rattle.hyper_build.specs.inside.Straight.{Place, straight, items_in, items_of, is_item}
use Rattle.hyper_build.specs.inside.Sizes.{arguments_size, size_in}
use Rattle.hyper_build.specs.inside.Entries.{call_block, end_label, give, body_end, choose, entry_in, entry}
use Rattle.hyper_build.specs.inside.Merging.{SetsLow}
use Rattle.hyper_build.specs.inside.World.{World}
use Rattle.hyper_build.specs.inside.Fits.{FitsStmt, FitsTree}
use Rattle.hyper_build.proofs.Registers.{register_low}
use Rattle.hyper_build.proofs.Simple.{variable_small}

-- PARTS

cut_low : (c : Bool) (l : ℕ) (k : Block) → SetsLow k.items → SetsLow (cut c l k).items
cut_low true l k low = tt
cut_low false l k low = low

abbrev MovesLow : List Move → Type 0
MovesLow [] = Unit {0}
MovesLow (x ∷ xs) = (x.to < 92) × MovesLow xs

moved_low : (cuts : ℕ → Bool) (i : ℕ) (xs : List Move) (l : ℕ) (k : Block) → MovesLow xs
    → SetsLow k.items → SetsLow (moved cuts i xs l k).items
moved_low cuts i [] l k m low = low
moved_low cuts i (x ∷ xs) l k m low =
    let l1 = l + cut_size (cuts i) in
    (m.0, cut_low (cuts i) l (moved cuts (suc i) xs l1 k) (moved_low cuts (suc i) xs l1 k m.1 low))

arguments_low : (i : ℕ) (xs : List Arg) → i + length xs ≤ 8 → MovesLow (argument_moves i xs)
arguments_low i [] few = tt
arguments_low i (x ∷ xs) few = (omega (arith, few), arguments_low (suc i) xs (omega (arith, few)))

saving_low : (frame : ℕ) (vs : List ℕ) (k : Block) → SetsLow k.items → SetsLow (saving frame vs k).items
saving_low frame [] k low = low
saving_low frame (v ∷ vs) k low = (omega arith, saving_low frame vs k low)

chain_low : (c : Bool) (frame : ℕ) (gs : List (List ℕ)) (l : ℕ) (k : Block) → SetsLow k.items
    → SetsLow (chain c (map (saving frame) gs) l k).items
chain_low c frame [] l k low = low
chain_low c frame (vs ∷ gs) l k low =
    let next = chain c (map (saving frame) gs) (l + cut_size c) k in
    saving_low frame vs (cut c l next) (cut_low c l next (chain_low c frame gs (l + cut_size c) k low))

give_low : (v : Option Arg) (k : Block) → SetsLow k.items → SetsLow (give v k).items
give_low None k low = low
give_low (Some x) k low = (omega arith, low)

choose_low : (b : Bool) (x y : Block) → SetsLow x.items → SetsLow y.items → SetsLow (choose b x y).items
choose_low true x y a b = a
choose_low false x y a b = b

-- CODE

module _ (W : World) (g : Routine) (scalars : g.scalars ≤ 64)
    (known : (f : ℕ) (r : Routine) → slice_get W.routines f ≡ Some r → r.params ≤ 8) where
  variable_low : (v : ℕ) → FitsVar g.scalars v → register_of v < 92
  variable_low v t = register_low v (variable_small g.scalars v scalars t)

  mutual
    items_in_low : (inside : Bool) (p : Place) (s : Stmt) (k : Items) → FitsStmt W g inside s → SetsLow k
        → SetsLow (items_in p s k)
    items_in_low inside p (LetAt c to op a b) k t low = (variable_low to t.1, low)
    items_in_low inside p (FrameAt c to at) k t low = (variable_low to t.0, low)
    items_in_low inside p (LoadAt c to op a) k t low = (variable_low to t.1, low)
    items_in_low inside p (SaveAt c op a v) k t low = low
    items_in_low inside p (IfAt c joined a one other) k t low =
        (items_low inside p one Done t.2 tt, items_low inside p other Done t.3 tt, low)
    items_in_low inside p (CallAt c small f args to groups) k t low = low
    items_in_low inside p (PutAt v) k t low = low
    items_in_low inside p (GetAt c to) k t low = low
    items_in_low inside p (LoopAt c body post) k t low = low
    items_in_low inside p (BreakAt c) k t low = low
    items_in_low inside p (ContinueAt c) k t low = low
    items_in_low inside p (ReturnAt c v) k t low = low
    items_in_low inside p (HaltAt c v) k t low = low

    items_low : (inside : Bool) (p : Place) (c : Tree) (k : Items) → FitsTree W g inside c → SetsLow k
        → SetsLow (items_of p c k)
    items_low inside p End k t low = low
    items_low inside p (s ▸ rest) k t low =
        items_in_low inside p s (items_of p rest k) t.0 (items_low inside p rest k t.1 low)

  entry_in_low : (inside : Bool) (p : Place) (s : Stmt) (l : ℕ) (k : Block) → SetsLow p.gave.items
      → FitsStmt W g inside s → SetsLow k.items → SetsLow (entry_in p s l k).items
  entry_in_low inside p (LetAt c to op a b) l k gave t low = (variable_low to t.1, cut_low c l k low)
  entry_in_low inside p (FrameAt c to at) l k gave t low = (variable_low to t.0, cut_low c l k low)
  entry_in_low inside p (LoadAt c to op a) l k gave t low = (variable_low to t.1, cut_low c l k low)
  entry_in_low inside p (SaveAt c op a v) l k gave t low = cut_low c l k low
  entry_in_low inside p (CallAt c small f args to groups) l k gave t low =
      let arity = t.arity in
      let params = known f t.routine t.found in
      let call = call_block (p.entries f) (l + chain_size small groups + arguments_size small args) in
      chain_low small p.frame groups l _
      (moved_low (argument_cuts small) 0 (argument_moves 0 args) (l + chain_size small groups) call
      (arguments_low 0 args (omega (arith, arity, params))) tt)
  entry_in_low inside p (PutAt v) l k gave t low = (omega arith, (omega arith, tt))
  entry_in_low inside p (GetAt c to) l k gave t low = (omega arith, tt)
  entry_in_low inside p (IfAt c joined a one other) l k gave t low =
      choose_low (is_item joined one other) _ _
      (items_low inside p one Done t.2 tt, items_low inside p other Done t.3 tt, cut_low c l k low) tt
  entry_in_low inside p (LoopAt c body post) l k gave t low = tt
  entry_in_low inside p (BreakAt c) l k gave t low = tt
  entry_in_low inside p (ContinueAt c) l k gave t low = tt
  entry_in_low inside p (ReturnAt c v) l k gave t low = give_low v p.gave gave
  entry_in_low inside p (HaltAt c v) l k gave t low = give_low (Some v) (jump end_label) tt

  pub entry_low : (inside : Bool) (p : Place) (c : Tree) (l : ℕ) (k : Block) → SetsLow p.gave.items
      → FitsTree W g inside c → SetsLow k.items → SetsLow (entry p c l k).items
  entry_low inside p End l k gave t low = low
  entry_low inside p (s ▸ rest) l k gave t low =
      entry_in_low inside p s l (entry p rest (l + size_in s) k) gave t.0
      (entry_low inside p rest (l + size_in s) k gave t.1 low)

  -- a leg of a test, and what follows it or its block
  pub leg_low : (inside : Bool) (p : Place) (c : Bool) (leg : Tree) (l m : ℕ) (k : Block) → SetsLow p.gave.items
      → FitsTree W g inside leg → SetsLow k.items → SetsLow (entry p leg l (cut c m k)).items
  leg_low inside p c leg l m k gave t low = entry_low inside p leg l (cut c m k) gave t (cut_low c m k low)

  -- what a loop's body goes on with
  pub end_low : (p : Place) (c : Bool) (post : Tree) (next head : ℕ) → FitsTree W g false post
      → SetsLow (body_end p c post next head).items
  end_low p c post next head t = go (c || not (straight post))
    where
      go : (b : Bool) → SetsLow (cond b (jump next)
          (record { items = items_of p post Done; tail = Leave (exit.Jump head) })).items
      go true = tt
      go false = items_low false p post Done t tt
