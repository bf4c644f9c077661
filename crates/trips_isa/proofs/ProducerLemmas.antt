-- What stands at a place is what its first producer gives.
use Rattle.std.proofs.Common.{◌≡◌, ℕ, zero, suc, ◌+◌, Bool, true, false, List, [], ◌∷◌, ◌++◌, map}
use Rattle.std.proofs.Common.{length, Option, Some, None, refl, sym, ap, ◌∙◌, arith}
use Rattle.std.proofs.Math.Path.{fun_ext}
use Rattle.trips_isa.specs.declared.block.Spot.{Spot}
use Rattle.trips_isa.specs.declared.block.Spot.TheVariants as spot
use Rattle.trips_isa.specs.declared.block.Inst.{Inst}
use Rattle.trips_isa.specs.declared.block.ReadSlot.{ReadSlot}
use Rattle.trips_isa.specs.declared.block.Block.{Block}
use Rattle.trips_isa.specs.declared.node.Node.{Node}
use Rattle.trips_isa.specs.Places.{read_node, inst_node, inst_nodes, nodes_of, targets, names}
use Rattle.trips_isa.specs.Places.{place_of}
use Rattle.trips_isa.specs.inside.Places.{if_named, reads_naming, slots_naming, naming, producers}
use Rattle.trips_isa.specs.inside.Places.{IsPlace}
use Rattle.trips_isa.specs.Tables.{taken, or_else, first}
use Rattle.trips_isa.specs.inside.Blocks.{given_by, first_given}

slots_first : {A : Type 0} (j : ℕ) (is : List (Option Inst)) (q : ℕ) (f : ℕ → Option A)
    (h : Spot → Option A) → ((k l : ℕ) → l ≡ j + k → h (spot.Inst l) ≡ f k)
    → first (inst_nodes j is) q f ≡ first_given h (slots_naming j is q)
slots_first j [] q f h e = refl
slots_first {A} j (i ∷ is) q f h e = go (names (targets (inst_node j i)) q)
    (slots_first (suc j) is q (λ y. f (suc y)) h (λ k l p. e (suc k) l (omega (arith, p))))
  where
    go : (v : Bool) → first (inst_nodes (suc j) is) q (λ y. f (suc y))
        ≡ first_given h (slots_naming (suc j) is q)
        → or_else (taken v f) (first (inst_nodes (suc j) is) q (λ y. f (suc y)))
        ≡ first_given h (if_named v (spot.Inst j) (slots_naming (suc j) is q))
    go true rest = ap (λ u. or_else u (first (inst_nodes (suc j) is) q (λ y. f (suc y))))
        (sym (e 0 j (omega arith))) ∙ ap (or_else (h (spot.Inst j))) rest
    go false rest = rest

reads_first : {A : Type 0} (i : ℕ) (rs : List ReadSlot) (ns : List Node) (q : ℕ) (f g : ℕ → Option A)
    (h : Spot → Option A) (ss : List Spot) → ((k l : ℕ) → l ≡ i + k → h (spot.Read l) ≡ f k)
    → ((y m : ℕ) → m ≡ length rs + y → f m ≡ g y) → first ns q g ≡ first_given h ss
    → first (map read_node rs ++ ns) q f ≡ first_given h (reads_naming i rs q ++ ss)
reads_first i [] ns q f g h ss e past rest =
    ap (first ns q) (fun_ext (λ y. past y y (omega arith))) ∙ rest
reads_first {A} i (r ∷ rs) ns q f g h ss e past rest = go (names (targets (read_node r)) q)
    (reads_first (suc i) rs ns q (λ y. f (suc y)) g h ss
    (λ k l p. e (suc k) l (omega (arith, p)))
    (λ y m p. past y (suc m) (omega (arith, p))) rest)
  where
    go : (v : Bool) → first (map read_node rs ++ ns) q (λ y. f (suc y))
        ≡ first_given h (reads_naming (suc i) rs q ++ ss)
        → or_else (taken v f) (first (map read_node rs ++ ns) q (λ y. f (suc y)))
        ≡ first_given h (if_named v (spot.Read i) (reads_naming (suc i) rs q) ++ ss)
    go true more = ap (λ u. or_else u (first (map read_node rs ++ ns) q (λ y. f (suc y))))
        (sym (e 0 i (omega arith))) ∙ ap (or_else (h (spot.Read i))) more
    go false more = more

-- at any number
pub naming_first : {A : Type 0} (b : Block) (q : ℕ) (f : ℕ → Option A)
    → first (nodes_of b) q f ≡ first_given (given_by b f) (naming b q)
naming_first b q f = reads_first 0 b.reads.items (inst_nodes 0 b.insts.items) q f
    (λ y. f (length b.reads.items + y)) (given_by b f) (slots_naming 0 b.insts.items q)
    (λ k l p. ap f (omega (arith, p))) (λ y m p. ap f p)
    (slots_first 0 b.insts.items q (λ y. f (length b.reads.items + y)) (given_by b f)
    (λ k l p. ap (λ z. f (length b.reads.items + z)) (omega (arith, p))))

-- at the place of a spot
pub first_producer : {A : Type 0} (b : Block) (s : Spot) (f : ℕ → Option A) → IsPlace s
    → first (nodes_of b) (place_of s) f ≡ first_given (given_by b f) (producers b s)
first_producer b (spot.Read r) f p = absurd p
first_producer b (spot.Inst s) f p = absurd p
first_producer b (spot.Left s) f p = naming_first b s f
first_producer b (spot.Right s) f p = naming_first b (place_of (spot.Right s)) f
first_producer b (spot.Pred s) f p = naming_first b (place_of (spot.Pred s)) f
first_producer b (spot.Write w) f p = naming_first b (place_of (spot.Write w)) f
first_producer b (spot.Store n) f p = naming_first b (place_of (spot.Store n)) f
