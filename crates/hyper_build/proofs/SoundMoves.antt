-- Cuts, moves, save groups and items of straight code leave blocks sound.
use Rattle.std.proofs.Common.{ℕ, suc, ◌+◌, ◌^◌, ◌<◌, ◌≤◌, Bool, true, false, []}
use Rattle.std.proofs.Common.{List, ◌∷◌, ◌++◌, map, length, Option, Some, None, refl}
use Rattle.std.proofs.Common.{arith, inl, inr}
use Rattle.std.proofs.lemmas.Bool.{cases_lt}
use Rattle.ir_forms.specs.declared.flat.Arg.{Arg}
use Rattle.ir_forms.specs.declared.flat.Arg.TheVariants as arg
use Rattle.ir_forms.specs.declared.hyper.Exit.{Exit}
use Rattle.ir_forms.specs.declared.hyper.Exit.TheVariants as exit
use Rattle.ir_forms.specs.inside.Frames.{register_of, frame_limit}
use Rattle.ir_forms.specs.inside.FlatFits.{FitsArg, FitsLastings, FitsResult}
use Rattle.ir_forms.specs.inside.HyperCode.{Items, Done, Tail, Leave, Test, Block}
use Rattle.ir_forms.specs.inside.HyperFits.{FitsSource, FitsItems}
use Rattle.ir_forms.specs.inside.HyperRuns.{jump}
use Rattle.hyper_build.specs.inside.Tree.{Stmt, LetAt, FrameAt, LoadAt, SaveAt, CallAt, PutAt, GetAt, IfAt}
use Rattle.hyper_build.specs.inside.Tree.{LoopAt, BreakAt, ContinueAt, ReturnAt, HaltAt, Tree, End, ◌▸◌, Routine}
use Rattle.hyper_build.specs.inside.Parts.{source, capped, cut, cut_blocks, cut_size, chain, chain_blocks, chain_size}
use Rattle.hyper_build.specs.inside.Parts.{Move, moved, moved_blocks, moved_size}
use Rattle.hyper_build.specs.inside.Passing.{saving, restoring, argument_moves}
use Rattle.hyper_build.specs.inside.Passing.{result_then}
use Rattle.hyper_build.specs.inside.Straight.{Place, items_in, items_of}
use Rattle.hyper_build.specs.inside.World.{World}
use Rattle.hyper_build.specs.inside.Fits.{FitsStmt, FitsTree}
use Rattle.hyper_build.proofs.Registers.{lasting_below, register_lasting, register_scratch}
use Rattle.hyper_build.proofs.Simple.{variable_small}

-- SOUND BLOCKS

-- an exit leads to blocks of the program
abbrev pub SoundExit : ℕ → Exit → Type 0
SoundExit N (exit.Jump l) = l < N
SoundExit N (exit.Call l back) = (l < N) × (back < N)
SoundExit N exit.Return = Unit {0}
SoundExit N (exit.System l) = l < N

-- a tail has sources that fit, and leads to blocks of the program
abbrev pub SoundTail : ℕ → Tail → Type 0
SoundTail N (Leave e) = SoundExit N e
SoundTail N (Test t one other) = FitsSource t × SoundTail N one × SoundTail N other

-- items that fit, and exits that lead to one of N blocks
pub record Sound (N : ℕ) (b : Block) : Type 0 where
  pub items : FitsItems b.items
  pub tail : SoundTail N b.tail

-- each of some blocks is sound
abbrev pub AllSound : ℕ → List Block → Type 0
AllSound N [] = Unit {0}
AllSound N (b ∷ bs) = Sound N b × AllSound N bs

-- sound blocks behind sound ones are sound
pub sound_append : (N : ℕ) (xs ys : List Block) → AllSound N xs → AllSound N ys → AllSound N (xs ++ ys)
sound_append N [] ys a b = b
sound_append N (x ∷ xs) ys a b = (a.0, sound_append N xs ys a.1 b)

-- the register of a variable is one of the machine
pub register_small : (v : ℕ) → v < 88 → register_of v < 128
register_small v lt = elim (cases_lt v 80) [
  | inl a ↦ (let e = register_lasting v a in omega (arith, e))
  | inr a ↦ (let e = register_scratch v a in omega (arith, e))
]

-- a capped number is a word
pub capped_word : (n : ℕ) → capped n < 2 ^ 64
unfolding frame_limit
capped_word n = omega arith

-- the source that an argument becomes fits
pub source_fits : (n : ℕ) (a : Arg) → n ≤ 64 → FitsArg n a → FitsSource (source a)
source_fits n (arg.Const w) le t = t
source_fits n (arg.Var v) le t = register_small v (variable_small n v le t)

-- a jump to one of N blocks is sound
pub jump_sound : (N l : ℕ) → l < N → Sound N (jump l)
jump_sound N l lt = record { items = tt; tail = lt }

-- what is left of a block behind a cut is sound
pub cut_sound : (N : ℕ) (c : Bool) (l : ℕ) (k : Block) → l + cut_size c ≤ N → Sound N k → Sound N (cut c l k)
cut_sound N true l k le s = jump_sound N l (omega (arith, le))
cut_sound N false l k le s = s

-- the blocks that a cut makes are sound
pub cuts_sound : (N : ℕ) (c : Bool) (k : Block) → Sound N k → AllSound N (cut_blocks c k)
cuts_sound N true k s = (s, tt)
cuts_sound N false k s = tt

-- MOVES

-- each of some moves has a register and a source that fit
abbrev pub MovesFit : List Move → Type 0
MovesFit [] = Unit {0}
MovesFit (x ∷ xs) = (x.to < 128) × FitsSource x.from × MovesFit xs

-- moves that fit before a sound block leave it sound
pub moved_sound : (N : ℕ) (cuts : ℕ → Bool) (i : ℕ) (xs : List Move) (l : ℕ) (k : Block) → MovesFit xs
    → l + moved_size cuts i xs ≤ N → Sound N k → Sound N (moved cuts i xs l k)
moved_sound N cuts i [] l k m le s = s
moved_sound N cuts i (x ∷ xs) l k m le s =
    let l1 = l + cut_size (cuts i) in
    let next = moved cuts (suc i) xs l1 k in
    let h = moved_sound N cuts (suc i) xs l1 k m.2 (omega (arith, le)) s in
    let c = cut_sound N (cuts i) l next (omega (arith, le)) h in
    record { items = (m.0, refl, m.1, omega arith, c.items); tail = c.tail }

-- moves that fit make sound blocks
pub moves_sound : (N : ℕ) (cuts : ℕ → Bool) (i : ℕ) (xs : List Move) (l : ℕ) (k : Block) → MovesFit xs
    → l + moved_size cuts i xs ≤ N → Sound N k → AllSound N (moved_blocks cuts i xs l k)
moves_sound N cuts i [] l k m le s = tt
moves_sound N cuts i (x ∷ xs) l k m le s =
    let l1 = l + cut_size (cuts i) in
    let next = moved cuts (suc i) xs l1 k in
    let h = moved_sound N cuts (suc i) xs l1 k m.2 (omega (arith, le)) s in
    sound_append N (cut_blocks (cuts i) next) (moved_blocks cuts (suc i) xs l1 k)
    (cuts_sound N (cuts i) next h) (moves_sound N cuts (suc i) xs l1 k m.2 (omega (arith, le)) s)

-- the moves of at most eight arguments fit
pub arguments_fit : (n i : ℕ) (xs : List Arg) → n ≤ 64 → i + length xs ≤ 8 → FitsLastings n xs
    → MovesFit (argument_moves i xs)
arguments_fit n i [] le few t = tt
arguments_fit n i (arg.Const w ∷ xs) le few t =
    (omega (arith, few), t.0, arguments_fit n (suc i) xs le (omega (arith, few)) t.1)
arguments_fit n i (arg.Var v ∷ xs) le few t = (
  omega (arith, few),
  register_small v (let h = lasting_below n v le t.0 in omega (arith, h)),
  arguments_fit n (suc i) xs le (omega (arith, few)) t.1,
)

-- SAVE GROUPS

-- each variable of a group is one of the first 64
abbrev pub AllSmall : List ℕ → Type 0
AllSmall [] = Unit {0}
AllSmall (v ∷ vs) = (v < 80) × AllSmall vs

-- the same of each group
abbrev pub GroupsSmall : List (List ℕ) → Type 0
GroupsSmall [] = Unit {0}
GroupsSmall (g ∷ gs) = AllSmall g × GroupsSmall gs

-- a group's saves before a sound block leave it sound
pub saving_sound : (N frame : ℕ) (vs : List ℕ) (k : Block) → AllSmall vs → Sound N k
    → Sound N (saving frame vs k)
saving_sound N frame [] k a s = s
saving_sound N frame (v ∷ vs) k a s =
    let h = saving_sound N frame vs k a.1 s in
    let lt = a.0 in
    record {
      items = (
        omega arith,
        refl,
        omega arith,
        capped_word _,
        (refl, omega arith, register_small v (omega (arith, lt)), h.items),
      );
      tail = h.tail;
    }

-- a group's restores before a sound block leave it sound
pub restoring_sound : (N frame : ℕ) (vs : List ℕ) (k : Block) → AllSmall vs → Sound N k
    → Sound N (restoring frame vs k)
restoring_sound N frame [] k a s = s
restoring_sound N frame (v ∷ vs) k a s =
    let h = restoring_sound N frame vs k a.1 s in
    let lt = a.0 in
    record {
      items = (
        omega arith,
        refl,
        omega arith,
        capped_word _,
        (register_small v (omega (arith, lt)), refl, omega arith, h.items),
      );
      tail = h.tail;
    }

-- groups, in blocks of their own or in one
module _ (N : ℕ) (c : Bool) (f : List ℕ → Block → Block)
    (one : (vs : List ℕ) (k : Block) → AllSmall vs → Sound N k → Sound N (f vs k)) where
  -- the first block of a chain of groups is sound, where one group before a sound block is
  pub chain_sound : (gs : List (List ℕ)) (l : ℕ) (k : Block) → GroupsSmall gs → l + chain_size c gs ≤ N
      → Sound N k → Sound N (chain c (map f gs) l k)
  chain_sound [] l k a le s = s
  chain_sound (g ∷ gs) l k a le s =
      let l1 = l + cut_size c in
      let next = chain c (map f gs) l1 k in
      one g (cut c l next) a.0
      (cut_sound N c l next (omega (arith, le)) (chain_sound gs l1 k a.1 (omega (arith, le)) s))

  -- and so are the others
  pub chains_sound : (gs : List (List ℕ)) (l : ℕ) (k : Block) → GroupsSmall gs → l + chain_size c gs ≤ N
      → Sound N k → AllSound N (chain_blocks c (map f gs) l k)
  chains_sound [] l k a le s = tt
  chains_sound (g ∷ gs) l k a le s =
      let l1 = l + cut_size c in
      let next = chain c (map f gs) l1 k in
      sound_append N (cut_blocks c next) (chain_blocks c (map f gs) l1 k)
      (cuts_sound N c next (chain_sound gs l1 k a.1 (omega (arith, le)) s))
      (chains_sound gs l1 k a.1 (omega (arith, le)) s)

-- the move of a result before a sound block leaves it sound
pub result_sound : (N n : ℕ) (to : Option ℕ) (k : Block) → n ≤ 64 → FitsResult n to → Sound N k
    → Sound N (result_then to k)
result_sound N n None k le t s = s
result_sound N n (Some v) k le t s =
    let h = lasting_below n v le t in
    record {
      items = (register_small v (omega (arith, h)), refl, omega arith, omega arith, s.items);
      tail = s.tail;
    }

-- STRAIGHT CODE

module _ (W : World) (g : Routine) (scalars : g.scalars ≤ 64) where
  mutual
    -- the items of a straight statement fit before items that fit
    pub items_in_fit : (inside : Bool) (p : Place) (s : Stmt) (k : Items) → FitsStmt W g inside s
        → FitsItems k → FitsItems (items_in p s k)
    items_in_fit inside p (LetAt c to op a b) k t h = (
      register_small to (variable_small g.scalars to scalars t.1),
      t.0,
      source_fits g.scalars a scalars t.2,
      source_fits g.scalars b scalars t.3,
      h,
    )
    items_in_fit inside p (FrameAt c to at) k t h = (
      register_small to (variable_small g.scalars to scalars t.0),
      refl,
      omega arith,
      capped_word _,
      h,
    )
    items_in_fit inside p (LoadAt c to op a) k t h = (
      register_small to (variable_small g.scalars to scalars t.1),
      t.0,
      source_fits g.scalars a scalars t.2,
      h,
    )
    items_in_fit inside p (SaveAt c op a v) k t h =
        (t.0, source_fits g.scalars a scalars t.1, source_fits g.scalars v scalars t.2, h)
    items_in_fit inside p (IfAt c joined a one other) k t h = (
      source_fits g.scalars a scalars t.0,
      items_fit inside p one Done t.2 tt,
      items_fit inside p other Done t.3 tt,
      h,
    )
    items_in_fit inside p (CallAt c small f args to groups) k t h = h
    items_in_fit inside p (PutAt v) k t h = h
    items_in_fit inside p (GetAt c to) k t h = h
    items_in_fit inside p (LoopAt c body post) k t h = h
    items_in_fit inside p (BreakAt c) k t h = h
    items_in_fit inside p (ContinueAt c) k t h = h
    items_in_fit inside p (ReturnAt c v) k t h = h
    items_in_fit inside p (HaltAt c v) k t h = h

    -- the items of straight code fit before items that fit
    pub items_fit : (inside : Bool) (p : Place) (c : Tree) (k : Items) → FitsTree W g inside c
        → FitsItems k → FitsItems (items_of p c k)
    items_fit inside p End k t h = h
    items_fit inside p (s ▸ rest) k t h =
        items_in_fit inside p s (items_of p rest k) t.0 (items_fit inside p rest k t.1 h)
