-- A block that goes on as one of two rests does what the chosen one does.
use Rattle.std.proofs.Common.{◌≡◌, ℕ, zero, suc, ◌+◌, ◌≤◌, List, [], ◌∷◌, ◌++◌, refl, ap, ◌∙◌, arith}
use Rattle.trips_isa.specs.inside.Acts.{Act}
use Rattle.ir_forms.specs.declared.hyper.Source.{Source}
use Rattle.ir_forms.specs.inside.Frames.{register_of}
use Rattle.ir_forms.specs.inside.FlatSteps.{State, Res, chosen}
use Rattle.ir_forms.specs.inside.HyperCode.{Items, Done, Set, Load, Save, If, Block}
use Rattle.ir_forms.specs.inside.HyperRuns.{Machine, with_register, with_memory, value_of, pick}
use Rattle.ir_forms.specs.inside.HyperRuns.{after_items, acts, loaded, saved, run}
use Rattle.trips_isa.specs.Alu.{alu_of}
use Rattle.hyper_build.specs.inside.Tree.{Routine}
use Rattle.hyper_build.specs.inside.World.{World, Goes, Rel, frame}
use Rattle.hyper_build.specs.inside.Follow.{Way, Follows}
use Rattle.hyper_build.specs.inside.Merging.{merged, SetsLow}
use Rattle.hyper_build.proofs.Goes.{goes_same}
use Rattle.hyper_build.proofs.Following.{follows_then, follows_more}
use Rattle.hyper_build.proofs.Registers.{same_at, other_at, register_low}
use Rattle.hyper_build.proofs.Relates.{stack_register, kept_same}

-- A REGISTER THAT NO ITEM SETS

-- what two machines have in a register, the chosen one has
either_keeps : (r v : ℕ) (a b : Machine) (x : ℕ) → a.registers r ≡ x → b.registers r ≡ x
    → (pick v a b).registers r ≡ x
either_keeps r zero a b x p q = q
either_keeps r (suc v) a b x p q = p

pub low_keeps : (r : ℕ) (its : Items) (m : Machine) → 92 ≤ r → SetsLow its
    → (after_items its m).registers r ≡ m.registers r
low_keeps r Done m le low = refl
low_keeps r (Set to op a b rest) m le low =
    let lt = low.0 in
    low_keeps r rest (with_register m to (alu_of op (value_of m.registers a) (value_of m.registers b))) le low.1
    ∙ other_at r to _ (m.registers r) (λ q. omega (arith, le, lt))
low_keeps r (Load to op a rest) m le low =
    let lt = low.0 in
    low_keeps r rest (with_register m to (loaded op m.memory (value_of m.registers a))) le low.1
    ∙ other_at r to _ (m.registers r) (λ q. omega (arith, le, lt))
low_keeps r (Save op a v rest) m le low =
    low_keeps r rest (with_memory m (saved op m.memory (value_of m.registers a) (value_of m.registers v))) le low
low_keeps r (If t one other rest) m le low =
    low_keeps r rest (pick (value_of m.registers t) (after_items one m) (after_items other m)) le low.2
    ∙ either_keeps r (value_of m.registers t) (after_items one m) (after_items other m) (m.registers r)
    (low_keeps r one m le low.0) (low_keeps r other m le low.1)

-- THE BLOCK

append_none : (xs : List Act) → xs ++ [] ≡ xs
append_none [] = refl
append_none (x ∷ xs) = ap (λ ys. x ∷ ys) (append_none xs)

-- the machine that has the test in register r
abbrev pub tested : Machine → ℕ → Source → Machine
tested m r t = with_register m r (value_of m.registers t)

module _ (W : World) (r : ℕ) (t : Source) (one other : Block) (m : Machine) where
  merges_one : (v : ℕ) → 92 ≤ r → value_of m.registers t ≡ suc v → SetsLow one.items
      → Goes W (merged r t one other) m 0 one (tested m r t)
  merges_one v le e low = goes_same W (merged r t one other) one m (tested m r t) go
    where
      held : (tested m r t).registers r ≡ suc v
      held = same_at r r _ (m.registers r) refl ∙ e

      kept : (after_items one.items (tested m r t)).registers r ≡ suc v
      kept = low_keeps r one.items (tested m r t) le low ∙ held

      go : (n : ℕ) → run W.check W.at W.program n (merged r t one other) m
          ≡ run W.check W.at W.program n one (tested m r t)
      go zero = refl
      go (suc n) = rw (held, kept, append_none (acts one.items (tested m r t))) refl

  merges_other : 92 ≤ r → value_of m.registers t ≡ zero → SetsLow other.items
      → Goes W (merged r t one other) m 0 other (tested m r t)
  merges_other le e low = goes_same W (merged r t one other) other m (tested m r t) go
    where
      held : (tested m r t).registers r ≡ zero
      held = same_at r r _ (m.registers r) refl ∙ e

      kept : (after_items other.items (tested m r t)).registers r ≡ zero
      kept = low_keeps r other.items (tested m r t) le low ∙ held

      go : (n : ℕ) → run W.check W.at W.program n (merged r t one other) m
          ≡ run W.check W.at W.program n other (tested m r t)
      go zero = refl
      go (suc n) = rw (held, kept, append_none (acts other.items (tested m r t))) refl

-- THE RELATION

pub rel_tested : (W : World) (start : ℕ) (g : Routine) (s : State) (m : Machine) (r x : ℕ) → 92 ≤ r
    → Rel W start g s m → Rel W start g s (with_register m r x)
rel_tested W start g s m r x le rel = record {
  vars = λ v y lt e. (
    other_at (register_of v) r x (m.registers (register_of v)) (λ q. omega (arith, register_low v lt))
        ∙ (rel.vars v y lt e).0,
    (rel.vars v y lt e).1,
  );
  stack = stack_register W (start + frame g) s m r x (λ q. omega arith) rel.stack;
  slots = rel.slots;
}

-- where both rests follow, so does the block
pub merged_follows : (W : World) (start : ℕ) (g : Routine) (r : ℕ) (t : Source) (one other : Block) (s : State)
    (m : Machine) (n x v : ℕ) (ways : Way → Block) (a b : Res) → 92 ≤ r → SetsLow one.items
    → SetsLow other.items → value_of m.registers t ≡ v → Rel W start g s m
    → ((m1 : Machine) → Rel W start g s m1 → Follows W (W.base + start + 8) (Rel W start g) one s m1 n x ways a)
    → ((m1 : Machine) → Rel W start g s m1 → Follows W (W.base + start + 8) (Rel W start g) other s m1 n x ways b)
    → Follows W (W.base + start + 8) (Rel W start g) (merged r t one other) s m n x ways (chosen v a b)
merged_follows W start g r t one other s m n x v ways a b le low_one low_other e rel f h = go v e
  where
    rel1 : Rel W start g s (tested m r t)
    rel1 = rel_tested W start g s m r (value_of m.registers t) le rel

    go : (v : ℕ) → value_of m.registers t ≡ v
        → Follows W (W.base + start + 8) (Rel W start g) (merged r t one other) s m n x ways (chosen v a b)
    go zero e =
        follows_more W (W.base + start + 8) (Rel W start g) (merged r t one other) s m n n (0 + x) x ways b
        (omega arith)
        (follows_then W (W.base + start + 8) (Rel W start g) (merged r t one other) other s s m (tested m r t) n n 0
        0 x ways b (merges_other W r t one other m le e low_other)
        (kept_same (W.base + start + 8) s s m (tested m r t) refl refl) (omega arith) (omega arith)
        (h (tested m r t) rel1))
    go (suc v) e =
        follows_more W (W.base + start + 8) (Rel W start g) (merged r t one other) s m n n (0 + x) x ways a
        (omega arith)
        (follows_then W (W.base + start + 8) (Rel W start g) (merged r t one other) one s s m (tested m r t) n n 0
        0 x ways a (merges_one W r t one other m v le e low_one)
        (kept_same (W.base + start + 8) s s m (tested m r t) refl refl) (omega arith) (omega arith)
        (f (tested m r t) rel1))
