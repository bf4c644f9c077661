-- The fault that is found is the lowest, and a block without one has none.
use Rattle.std.proofs.Common.{◌≡◌, ℕ, ◌<◌, ◌≤◌, Bool, true, false}
use Rattle.std.proofs.Common.{nat_lt, length, refl, sym, ap, ◌∙◌, subst, arith}
use Rattle.std.proofs.Common.{true≢false}
use Rattle.trips_isa.specs.declared.block.Spot.{Spot}
use Rattle.trips_isa.specs.declared.block.Spot.TheVariants.{Read, Inst, Left, Right, Pred, Write}
use Rattle.trips_isa.specs.declared.block.Spot.TheVariants.{Store}
use Rattle.trips_isa.specs.declared.block.Block.{Block}
use Rattle.block_cases.specs.Nodes.{HasCycle}
use Rattle.block_cases.specs.Cases.{cases, GetsTwo, GetsNone}
use Rattle.trips_isa.specs.Blocks.{computes, responses_in, token_of}
use Rattle.trips_isa.specs.Tables.{deepest}
use Rattle.block_cases.proofs.Settled.{token_solves}
use Rattle.block_cases.proofs.OneToken.{good_machine}
use Rattle.block_cases.proofs.Placed.{nodes_placed}
use Rattle.block_check.specs.inside.IsChecked.{IsChecked, KeepsOneToken}
use Rattle.trips_isa.specs.Fits.{FitsBlock}
use Rattle.block_cases.specs.Blocks.{place_of, nodes_of, wanted_of}
use Rattle.block_check.specs.declared.fault.CheckFault.{CheckFault}
use Rattle.block_check.specs.declared.fault.CheckFault.TheVariants as say
use Rattle.block_check.specs.declared.fault.NodeFault.{NodeFault}
use Rattle.block_check.specs.declared.fault.NodeFault.TheVariants as net
use Rattle.block_cases.specs.Orders.{bad_read, bad_inst, bad_number, bad_write, NoneBelow}
use Rattle.block_cases.specs.inside.Orders.{IsLeast}
use Rattle.block_cases.specs.Orders.{IsInOrder}
use Rattle.block_check.specs.inside.Judged.{IsFault, FirstTwo, FirstGap, LacksExit, HasTwoExits}
use Rattle.block_check.specs.Faults.{HasBadTarget, HasBadNumber, HasFault}
use Rattle.block_check.specs.Faults.{spot_order, fault_order, IsLowestFault, IsGood}
use Rattle.block_cases.specs.Good.{GoodBlock}
use Rattle.block_check.specs.inside.Checked.{BadTargetAt, BadNumberAt, IsCheckFault, IsCaseFault, spot_of}
use Rattle.block_check.specs.inside.Checked.{fault_of}
use Rattle.block_check.proofs.Spots.{not_before, spot_low, place_order, at_spot, takes_below}
use Rattle.block_check.proofs.Spots.{true_lt, owed_wanted, owed_takes, wanted_owed}

-- the first two kinds ----------------------------------------------------------------------------

no_target : (b : Block) → IsInOrder b → (s : Spot) → HasBadTarget b s → ⊥
no_target b o (Read i) h = true≢false (sym h.1 ∙ o.reads i h.0)
no_target b o (Inst j) h = true≢false (sym h.1 ∙ o.insts j h.0)
no_target b o (Left s) h = h
no_target b o (Right s) h = h
no_target b o (Pred s) h = h
no_target b o (Write s) h = h
no_target b o (Store s) h = h

no_number : (b : Block) → IsInOrder b → (s : Spot) → HasBadNumber b s → ⊥
no_number b o (Inst j) h = true≢false (sym h.1 ∙ o.numbers j h.0)
no_number b o (Write w) h = true≢false (sym h.1 ∙ o.writes w h.0)
no_number b o (Read s) h = h
no_number b o (Left s) h = h
no_number b o (Right s) h = h
no_number b o (Pred s) h = h
no_number b o (Store s) h = h

-- the answers ------------------------------------------------------------------------------------

-- a number that is not below another is at least as great
pub at_most : (p q : ℕ) → (p < q → ⊥) → q ≤ p
at_most p q h = go (nat_lt p q) refl
  where
    go : (v : Bool) → nat_lt p q ≡ v → q ≤ p
    go true i = absurd (h (true_lt p q i))
    go false i = grind arith

-- every fault but the first two kinds is higher than those
high : (b : Block) → IsInOrder b → (n : ℕ) → n ≤ 6144 → (g : CheckFault) → HasFault b g →
    n ≤ fault_order g
high b o n l (say.BadTarget s) h = absurd (no_target b o s h)
high b o n l (say.BadNumber s) h = absurd (no_number b o s h)
high b o n l say.Cycle h = l
high b o n l say.TooManyCases h = omega arith
high b o n l (say.TwoTokens s) h = omega arith
high b o n l (say.NoToken s) h = omega arith
high b o n l say.NoExit h = omega arith
high b o n l say.TwoExits h = omega arith

lowest_cases : (b : Block) → IsInOrder b → (HasCycle (nodes_of b) → ⊥) → (g : CheckFault) →
    HasFault b g → 8192 ≤ fault_order g
lowest_cases b o a (say.BadTarget s) h = absurd (no_target b o s h)
lowest_cases b o a (say.BadNumber s) h = absurd (no_number b o s h)
lowest_cases b o a say.Cycle h = absurd (a h)
lowest_cases b o a say.TooManyCases h = omega arith
lowest_cases b o a (say.TwoTokens s) h = omega arith
lowest_cases b o a (say.NoToken s) h = omega arith
lowest_cases b o a say.NoExit h = omega arith
lowest_cases b o a say.TwoExits h = omega arith

lowest_two : (b : Block) (q : ℕ) → IsInOrder b → FirstTwo (nodes_of b) q → (g : CheckFault) →
    HasFault b g → fault_order (say.TwoTokens (spot_of q)) ≤ fault_order g
lowest_two b q o f (say.BadTarget s) h = absurd (no_target b o s h)
lowest_two b q o f (say.BadNumber s) h = absurd (no_number b o s h)
lowest_two b q o f say.Cycle h = absurd (f.acyclic h)
lowest_two b q o f say.TooManyCases h = absurd (let few : cases (nodes_of b) ≤ 256 = f.few in
    omega arith)
lowest_two b q o f (say.TwoTokens s) h =
    let at = at_spot q f.below in
    let le : q ≤ place_of s = at_most (place_of s) q (λ lt. f.least (place_of s) lt h.1) in
    let up : spot_order (spot_of q) ≤ spot_order s = place_order (spot_of q) s at.takes h.0 (subst
    (λ z. z ≤ place_of s) (sym at.place) le) in
    omega arith
lowest_two b q o f (say.NoToken s) h = let low : spot_order (spot_of q) < 2048 = spot_low (spot_of
    q) (at_spot q f.below).takes in omega arith
lowest_two b q o f say.NoExit h = let low : spot_order (spot_of q) < 2048 = spot_low (spot_of q)
    (at_spot q f.below).takes in omega arith
lowest_two b q o f say.TwoExits h = let low : spot_order (spot_of q) < 2048 = spot_low (spot_of q)
    (at_spot q f.below).takes in omega arith

lowest_gap : (b : Block) (q : ℕ) → length b.writes.items ≤ 32 → IsInOrder b →
    FirstGap (nodes_of b) (wanted_of b) q → (g : CheckFault) → HasFault b g →
    fault_order (say.NoToken (spot_of q)) ≤ fault_order g
lowest_gap b q few o f (say.BadTarget s) h = absurd (no_target b o s h)
lowest_gap b q few o f (say.BadNumber s) h = absurd (no_number b o s h)
lowest_gap b q few o f say.Cycle h = absurd (f.acyclic h)
lowest_gap b q few o f say.TooManyCases h = absurd (let few : cases (nodes_of b) ≤ 256 = f.few in
    omega arith)
lowest_gap b q few o f (say.TwoTokens s) h = absurd (f.no_two (place_of s) (takes_below s h.0) h.1)
lowest_gap b q few o f (say.NoToken s) h =
    let at = at_spot q f.below in
    let le : q ≤ place_of s = at_most (place_of s) q (λ lt. f.least (place_of s) lt (owed_wanted b
    s h.0) h.1) in
    let up : spot_order (spot_of q) ≤ spot_order s = place_order (spot_of q) s at.takes (owed_takes
    b few s h.0) (subst (λ z. z ≤ place_of s) (sym at.place) le) in
    omega arith
lowest_gap b q few o f say.NoExit h = let low : spot_order (spot_of q) < 2048 = spot_low (spot_of
    q) (at_spot q f.below).takes in omega arith
lowest_gap b q few o f say.TwoExits h = let low : spot_order (spot_of q) < 2048 = spot_low (spot_of
    q) (at_spot q f.below).takes in omega arith

lowest_exit : (b : Block) → length b.writes.items ≤ 32 → IsInOrder b →
    LacksExit (nodes_of b) (wanted_of b) → (g : CheckFault) → HasFault b g → 14336 ≤ fault_order g
lowest_exit b few o f (say.BadTarget s) h = absurd (no_target b o s h)
lowest_exit b few o f (say.BadNumber s) h = absurd (no_number b o s h)
lowest_exit b few o f say.Cycle h = absurd (f.acyclic h)
lowest_exit b few o f say.TooManyCases h = absurd (let few : cases (nodes_of b) ≤ 256 = f.few in
    omega arith)
lowest_exit b few o f (say.TwoTokens s) h = absurd (f.no_two (place_of s) (takes_below s h.0) h.1)
lowest_exit b few o f (say.NoToken s) h = absurd (f.no_gap (place_of s) (takes_below s (owed_takes
    b few s h.0)) (owed_wanted b s h.0) h.1)
lowest_exit b few o f say.NoExit h = omega arith
lowest_exit b few o f say.TwoExits h = omega arith

lowest_exits : (b : Block) → length b.writes.items ≤ 32 → IsInOrder b →
    HasTwoExits (nodes_of b) (wanted_of b) → (g : CheckFault) → HasFault b g → 16384 ≤ fault_order g
lowest_exits b few o f (say.BadTarget s) h = absurd (no_target b o s h)
lowest_exits b few o f (say.BadNumber s) h = absurd (no_number b o s h)
lowest_exits b few o f say.Cycle h = absurd (f.acyclic h)
lowest_exits b few o f say.TooManyCases h = absurd (let few : cases (nodes_of b) ≤ 256 = f.few in
    omega arith)
lowest_exits b few o f (say.TwoTokens s) h = absurd (f.no_two (place_of s) (takes_below s h.0) h.1)
lowest_exits b few o f (say.NoToken s) h = absurd (f.no_gap (place_of s) (takes_below s (owed_takes
    b few s h.0)) (owed_wanted b s h.0) h.1)
lowest_exits b few o f say.NoExit h = absurd (f.exit h)
lowest_exits b few o f say.TwoExits h = omega arith

case_fault : (b : Block) → length b.writes.items ≤ 32 → IsInOrder b → (f : NodeFault) →
    IsFault (nodes_of b) (wanted_of b) f → IsLowestFault b (fault_of f)
case_fault b few o net.Cycle f = record { holds = f; lowest = high b o 6144 (omega arith) }
case_fault b few o net.TooManyCases f = record { holds = f.1; lowest = lowest_cases b o f.0 }
case_fault b few o (net.TwoTokens q) f = record {
  holds = (let at = at_spot q f.below in (
    at.takes,
    subst (GetsTwo (nodes_of b)) (sym at.place)
        f.two,
  ));
  lowest = lowest_two b q o f;
}
case_fault b few o (net.NoToken q) f = record {
  holds = (let at = at_spot q f.below in (
    wanted_owed b few (spot_of q) at.takes (ap (wanted_of b)
        at.place ∙ f.is_wanted),
    subst (GetsNone (nodes_of b)) (sym at.place) f.none,
  ));
  lowest = lowest_gap b q few o f;
}
case_fault b few o net.NoExit f = record { holds = f.none; lowest = lowest_exit b few o f }
case_fault b few o net.TwoExits f = record { holds = f.two; lowest = lowest_exits b few o f }

lowest_read : (b : Block) (i : ℕ) → IsLeast (bad_read b) (length b.reads.items) i →
    length b.reads.items ≤ 32 → (g : CheckFault) → HasFault b g →
    fault_order (say.BadTarget (Read i)) ≤ fault_order g
lowest_read b i l few (say.BadTarget s) h = go s h
  where
    small : i < 32
    small = let lt : i < length b.reads.items = l.below in omega arith

    go : (s : Spot) → HasBadTarget b s → fault_order (say.BadTarget (Read i)) ≤ fault_order
        (say.BadTarget s)
    go (Read k) h = let le : i ≤ k = not_before (bad_read b) i k l.least h.1 in omega arith
    go (Inst k) h = let lt : i < 32 = small in omega arith
    go (Left k) h = absurd h
    go (Right k) h = absurd h
    go (Pred k) h = absurd h
    go (Write k) h = absurd h
    go (Store k) h = absurd h
lowest_read b i l few (say.BadNumber s) h = let lt : i < length b.reads.items = l.below in
    omega arith
lowest_read b i l few say.Cycle h = let lt : i < length b.reads.items = l.below in omega arith
lowest_read b i l few say.TooManyCases h = let lt : i < length b.reads.items = l.below in
    omega arith
lowest_read b i l few (say.TwoTokens s) h = let lt : i < length b.reads.items = l.below in
    omega arith
lowest_read b i l few (say.NoToken s) h = let lt : i < length b.reads.items = l.below in omega arith
lowest_read b i l few say.NoExit h = let lt : i < length b.reads.items = l.below in omega arith
lowest_read b i l few say.TwoExits h = let lt : i < length b.reads.items = l.below in omega arith

lowest_inst : (b : Block) (j : ℕ) → BadTargetAt b (Inst j) → (g : CheckFault) → HasFault b g →
    fault_order (say.BadTarget (Inst j)) ≤ fault_order g
lowest_inst b j l (say.BadTarget s) h = go s h
  where
    go : (s : Spot) → HasBadTarget b s → fault_order (say.BadTarget (Inst j)) ≤ fault_order
        (say.BadTarget s)
    go (Read k) h = absurd (true≢false (sym h.1 ∙ l.reads k h.0))
    go (Inst k) h = let le : j ≤ k = not_before (bad_inst b) j k l.inst.least h.1 in omega arith
    go (Left k) h = absurd h
    go (Right k) h = absurd h
    go (Pred k) h = absurd h
    go (Write k) h = absurd h
    go (Store k) h = absurd h
lowest_inst b j l (say.BadNumber s) h = let lt : j < 128 = l.inst.below in omega arith
lowest_inst b j l say.Cycle h = let lt : j < 128 = l.inst.below in omega arith
lowest_inst b j l say.TooManyCases h = let lt : j < 128 = l.inst.below in omega arith
lowest_inst b j l (say.TwoTokens s) h = let lt : j < 128 = l.inst.below in omega arith
lowest_inst b j l (say.NoToken s) h = let lt : j < 128 = l.inst.below in omega arith
lowest_inst b j l say.NoExit h = let lt : j < 128 = l.inst.below in omega arith
lowest_inst b j l say.TwoExits h = let lt : j < 128 = l.inst.below in omega arith

none_named : (b : Block) → NoneBelow (bad_read b) (length b.reads.items) →
    NoneBelow (bad_inst b) 128 → (s : Spot) → HasBadTarget b s → ⊥
none_named b r i (Read k) h = true≢false (sym h.1 ∙ r k h.0)
none_named b r i (Inst k) h = true≢false (sym h.1 ∙ i k h.0)
none_named b r i (Left k) h = h
none_named b r i (Right k) h = h
none_named b r i (Pred k) h = h
none_named b r i (Write k) h = h
none_named b r i (Store k) h = h

lowest_number : (b : Block) (j : ℕ) → BadNumberAt b (Inst j) → (g : CheckFault) → HasFault b g →
    fault_order (say.BadNumber (Inst j)) ≤ fault_order g
lowest_number b j l (say.BadTarget s) h = absurd (none_named b l.reads l.insts s h)
lowest_number b j l (say.BadNumber s) h = go s h
  where
    go : (s : Spot) → HasBadNumber b s → fault_order (say.BadNumber (Inst j)) ≤ fault_order
        (say.BadNumber s)
    go (Inst k) h = let le : j ≤ k = not_before (bad_number b) j k l.number.least h.1 in omega arith
    go (Write k) h = let lt : j < 128 = l.number.below in omega arith
    go (Read k) h = absurd h
    go (Left k) h = absurd h
    go (Right k) h = absurd h
    go (Pred k) h = absurd h
    go (Store k) h = absurd h
lowest_number b j l say.Cycle h = let lt : j < 128 = l.number.below in omega arith
lowest_number b j l say.TooManyCases h = let lt : j < 128 = l.number.below in omega arith
lowest_number b j l (say.TwoTokens s) h = let lt : j < 128 = l.number.below in omega arith
lowest_number b j l (say.NoToken s) h = let lt : j < 128 = l.number.below in omega arith
lowest_number b j l say.NoExit h = let lt : j < 128 = l.number.below in omega arith
lowest_number b j l say.TwoExits h = let lt : j < 128 = l.number.below in omega arith

lowest_write : (b : Block) (w : ℕ) → length b.writes.items ≤ 32 → BadNumberAt b (Write w) →
    (g : CheckFault) → HasFault b g → fault_order (say.BadNumber (Write w)) ≤ fault_order g
lowest_write b w few l (say.BadTarget s) h = absurd (none_named b l.reads l.insts s h)
lowest_write b w few l (say.BadNumber s) h = go s h
  where
    go : (s : Spot) → HasBadNumber b s → fault_order (say.BadNumber (Write w)) ≤ fault_order
        (say.BadNumber s)
    go (Inst k) h = absurd (true≢false (sym h.1 ∙ l.numbers k h.0))
    go (Write k) h = let le : w ≤ k = not_before (bad_write b) w k l.write.least h.1 in omega arith
    go (Read k) h = absurd h
    go (Left k) h = absurd h
    go (Right k) h = absurd h
    go (Pred k) h = absurd h
    go (Store k) h = absurd h
lowest_write b w few l say.Cycle h = let lt : w < length b.writes.items = l.write.below in
    omega arith
lowest_write b w few l say.TooManyCases h = let lt : w < length b.writes.items = l.write.below in
    omega arith
lowest_write b w few l (say.TwoTokens s) h = let lt : w < length b.writes.items = l.write.below in
    omega arith
lowest_write b w few l (say.NoToken s) h = let lt : w < length b.writes.items = l.write.below in
    omega arith
lowest_write b w few l say.NoExit h = let lt : w < length b.writes.items = l.write.below in
    omega arith
lowest_write b w few l say.TwoExits h = let lt : w < length b.writes.items = l.write.below in
    omega arith

lowest_target : (b : Block) → FitsBlock b → (s : Spot) → BadTargetAt b s →
    IsLowestFault b (say.BadTarget s)
lowest_target b f (Read i) l = record {
  holds = (l.below, l.holds);
  lowest = lowest_read b i l
      f.reads;
}
lowest_target b f (Inst j) l = record {
  holds = (l.inst.below, l.inst.holds);
  lowest = lowest_inst
      b j l;
}
lowest_target b f (Left s) l = absurd l
lowest_target b f (Right s) l = absurd l
lowest_target b f (Pred s) l = absurd l
lowest_target b f (Write s) l = absurd l
lowest_target b f (Store s) l = absurd l

lowest_numbers : (b : Block) → FitsBlock b → (s : Spot) → BadNumberAt b s →
    IsLowestFault b (say.BadNumber s)
lowest_numbers b f (Inst j) l = record {
  holds = (l.number.below, l.number.holds);
  lowest =
      lowest_number b j l;
}
lowest_numbers b f (Write w) l = record {
  holds = (l.write.below, l.write.holds);
  lowest =
      lowest_write b w f.writes l;
}
lowest_numbers b f (Read s) l = absurd l
lowest_numbers b f (Left s) l = absurd l
lowest_numbers b f (Right s) l = absurd l
lowest_numbers b f (Pred s) l = absurd l
lowest_numbers b f (Store s) l = absurd l

of_case : (b : Block) → FitsBlock b → (f : CheckFault) → IsCaseFault b f → IsLowestFault b f
of_case b fits f c = subst (IsLowestFault b) (sym c.said) (case_fault b fits.writes c.in_order
    c.fault c.is_fault)

-- what the checker answers is the lowest fault
pub found_lowest : (b : Block) → FitsBlock b → (f : CheckFault) → IsCheckFault b f →
    IsLowestFault b f
found_lowest b fits (say.BadTarget s) c = lowest_target b fits s c
found_lowest b fits (say.BadNumber s) c = lowest_numbers b fits s c
found_lowest b fits say.Cycle c = of_case b fits say.Cycle c
found_lowest b fits say.TooManyCases c = of_case b fits say.TooManyCases c
found_lowest b fits (say.TwoTokens s) c = of_case b fits (say.TwoTokens s) c
found_lowest b fits (say.NoToken s) c = of_case b fits (say.NoToken s) c
found_lowest b fits say.NoExit c = of_case b fits say.NoExit c
found_lowest b fits say.TwoExits c = of_case b fits say.TwoExits c

-- and a block that it takes has none
pub found_good : (b : Block) → FitsBlock b → GoodBlock b → IsGood b
found_good b fits g (say.BadTarget s) h = no_target b g.in_order s h
found_good b fits g (say.BadNumber s) h = no_number b g.in_order s h
found_good b fits g say.Cycle h = g.good.acyclic h
found_good b fits g say.TooManyCases h = let few : cases (nodes_of b) ≤ 256 = g.good.few in
    omega arith
found_good b fits g (say.TwoTokens s) h = g.good.no_two (place_of s) (takes_below s h.0) h.1
found_good b fits g (say.NoToken s) h = g.good.no_gap (place_of s) (takes_below s (owed_takes b
    fits.writes s h.0)) (owed_wanted b s h.0) h.1
found_good b fits g say.NoExit h = g.good.exit h
found_good b fits g say.TwoExits h = g.good.one_exit h

-- a good block that fits is checked
pub found_checked : (b : Block) → FitsBlock b → GoodBlock b → IsChecked b
found_checked b fits g = record {
  fits = fits;
  good = found_good b fits g;
  cases = g;
  one_token = one;
  from_entry = λ regs mem. one (responses_in b regs mem (token_of b regs mem deepest)) (token_of b
      regs mem deepest) (token_solves b regs mem g.ranked);
}
  where
    one : KeepsOneToken b
    one responses t s = good_machine (nodes_of b) (wanted_of b) g.ranked (nodes_placed b fits) g.good
        (computes b responses) t s
