-- Every small block fits the machine.
use Rattle.std.proofs.Common.{◌≡◌, ℕ, zero, suc, ◌+◌, ◌*◌, ◌≤◌, true, false, List, ◌++◌, length, refl, sym, ap}
use Rattle.std.proofs.Common.{subst, ◌∙◌, arith, length-append, inl}
use Rattle.std.specs.Prelude.{None}
use Rattle.trips_isa.specs.declared.block.Block.{Block as MachineBlock}
use Rattle.trips_isa.specs.declared.op.Op.TheVariants as op
use Rattle.trips_isa.specs.Places.{nodes_of}
use Rattle.block_cases.specs.Cases.{cases}
use Rattle.ir_forms.specs.declared.hyper.Source.{Source}
use Rattle.ir_forms.specs.declared.hyper.Exit.{Exit}
use Rattle.ir_forms.specs.declared.flow.FlowNode.{FlowNode}
use Rattle.ir_forms.specs.declared.flow.FlowBlock.{FlowBlock}
use Rattle.ir_forms.specs.inside.HyperCode.{Items, Done, Set, Load, Save, If, Tail, Leave, Test, Block}
use Rattle.hyper_narrow.specs.declared.narrowed.Lasting.{Lasting}
use Rattle.hyper_narrow.specs.inside.NarrowedCode.{Narrowed}
use Rattle.ir_forms.specs.inside.HyperFits.{FitsHyper, FitsItems, IsSmall, items_in, ifs_in}
use Rattle.hyper_build.specs.inside.SmallIfs.{IsShortLeg, if_block}
use Rattle.predication.specs.inside.Environments.{no_bits, at_start, member}
use Rattle.predication.specs.inside.Ifs.{touched}
use Rattle.predication.specs.inside.Tails.{labelled, addressed, address_end, exit_with, block_with, exit_touched}
use Rattle.predication.specs.inside.Converted.{begun, ended, all_nodes, predicated}
use Rattle.predication.specs.inside.Labels.{by_address}
use Rattle.predication.specs.inside.Laws as predication
use Rattle.predication.proofs.Addressed.{takes_addressed}
use Rattle.predication.proofs.Resolved.{resolves_labels}
use Rattle.null_outputs.specs.inside.Wants.{complete}
use Rattle.null_outputs.specs.inside.Immediates.{KeepsZeros}
use Rattle.null_outputs.proofs.Unread.{keeps_immediates}
use Rattle.fan_out.specs.inside.Targeted as fan_out
use Rattle.c_compile_layout.specs.inside.Linking.{resolved_block}
use Rattle.c_compile_layout.proofs.Targets.{targeted_resolved}
use Rattle.c_compile_layout.proofs.Linked.{nodes_same}
use Rattle.c_compile_blocks.specs.inside.Limits.{FitsMachine, SmallBlocksFit, SmallIfsFit}
use Rattle.c_compile_blocks.proofs.Members.{member_front, member_back}
use Rattle.c_compile_blocks.proofs.SmallBlocks.{registers, items_registers, exit_registers, one_register}
use Rattle.c_compile_blocks.proofs.SmallBlocks.{few_registers, end_few, names_of, names_in, exit_named}
use Rattle.c_compile_blocks.proofs.Supplies.{AreAt, at_front, at_back, at_all}
use Rattle.c_compile_blocks.proofs.OneGuard.{unguarded, IsHeld, held_append}
use Rattle.c_compile_blocks.proofs.Entries.{IsChoice, IsSingle, IsKnown, choice_later, known_scant}
use Rattle.c_compile_blocks.proofs.Entries.{known_later, known_single}
use Rattle.c_compile_blocks.proofs.Runs.{no_bits_are, bits_later, IsRun, run}
use Rattle.c_compile_blocks.proofs.HeldIfs.{touched_few, HoldsIf, holds_if}
use Rattle.c_compile_blocks.proofs.Exits.{exit_few, exit_scant, IsLeft, left_held, IsTested, test_end}
use Rattle.c_compile_blocks.proofs.GuardedBlocks.{IsGuarded, room, numbered, within, few_cases}
use Rattle.c_compile_blocks.proofs.ShortLayout.{anywhere, short}
use Rattle.c_compile_blocks.proofs.PlainFit.{plain_fits}

-- WHAT A BLOCK READS

-- the registers that items and an exit or two read, and a test
abbrev block_registers : Items → List ℕ → List ℕ
block_registers is behind = items_registers is ++ behind

-- those of a test between two exits
abbrev test_registers : Source → Exit → Exit → List ℕ
test_registers t one other = registers t ++ (exit_registers one ++ exit_registers other)

leaf_few : (x : Exit) → length (exit_registers x) ≤ 1
leaf_few x = end_few (Leave x)

test_few : (t : Source) (one other : Exit) → length (test_registers t one other) ≤ 3
test_few t one other =
    let a = one_register t in
    let b = leaf_few one in
    let d = leaf_few other in
    let u = length-append (registers t) (exit_registers one ++ exit_registers other) in
    let v = length-append (exit_registers one) (exit_registers other) in
    omega (arith, a, b, d, u, v)

block_few : (is : Items) (behind : List ℕ) → items_in is ≤ 3 → ifs_in is ≤ 1 → length behind ≤ 3
    → length (block_registers is behind) ≤ 32
block_few is behind i f l =
    let a = few_registers is in
    let u = length-append (items_registers is) behind in
    omega (arith, a, u, i, f, l)

-- as the block found them
start_single : (all : List FlowNode) (j : ℕ) (q : ℕ) → IsSingle all j None (at_start q)
start_single all j q = inl refl

zero_on : (n : ℕ) → 0 + n ≡ n
zero_on n = omega arith

-- ONE IF, AND AN EXIT

module _ (is : Items) (out : Exit) (fits : FitsItems is) (one : ifs_in is ≡ 1) (few : items_in is ≤ 3) where
  abbrev ib : Block
  ib = record { items = is; tail = Leave out }

  abbrev iall : List FlowNode
  iall = all_nodes ib

  abbrev iqs : List ℕ
  iqs = block_registers is (exit_registers out)

  abbrev iP : ℕ → Type 0
  iP q = member q iqs ≡ true

  if_parts : HoldsIf iP iall 0 0 is (begun ib)
  if_parts =
      holds_if iP iall is 0 0 at_start no_bits fits one
      (names_in iP is (λ q m. member_front q (items_registers is) (exit_registers out) m)) (start_single iall 0)
      (no_bits_are (IsChoice iall 0 None)) (at_front iall 0 (begun ib).nodes (ended ib).nodes (at_all iall))

  -- where the exit is
  abbrev il : ℕ
  il = length (begun ib).nodes

  if_known : (q : ℕ) → IsKnown iall if_parts.chooser true il None ((begun ib).env q)
  if_known q =
      let h = if_parts in
      known_later iall h.chooser true (0 + il) il None ((begun ib).env q) (omega arith) (h.known q)

  exit_at : AreAt iall il (ended ib).nodes
  exit_at =
      subst (λ (k : ℕ). AreAt iall k (ended ib).nodes) (zero_on il)
      (at_back iall 0 (begun ib).nodes (ended ib).nodes (at_all iall))

  if_exit : IsLeft iP iall if_parts.chooser None il out (ended ib)
  if_exit =
      left_held iP iall if_parts.chooser out true None il 0 (begun ib).env (unguarded if_parts.chooser)
      (exit_named iP out (λ q m. member_back q (items_registers is) (exit_registers out) m)) if_known exit_at

  pub if_guarded : IsGuarded iP ib
  if_guarded =
      let h = if_parts in
      let e = if_exit in
      let size = length-append (begun ib).nodes (ended ib).nodes in
      let n = h.number in
      let t = touched_few is in
      let u = exit_few out in
      let l = length-append (touched is) (exit_touched out) in
      record {
        chooser = h.chooser;
        choice = choice_later iall (0 + il) (length iall) None h.chooser (omega (arith, size)) h.choice;
        most = 10 + 21 * items_in is + 10;
        held = held_append iP iall h.chooser 0 (begun ib).nodes (ended ib).nodes (10 + 21 * items_in is) 10 h.held
            (subst (λ (k : ℕ). IsHeld iP iall h.chooser k (ended ib).nodes 10) (sym (zero_on il)) e.held);
        scant = λ q.
            exit_scant out None il 0 (begun ib).env
            (λ r. known_scant iall h.chooser true il None ((begun ib).env r) (if_known r)) q;
        number = omega (arith, n, few);
        exits = omega arith;
        cheap = omega (arith, few, t, u, l);
      }

-- NO IF, AND A TEST BETWEEN TWO EXITS

module _ (is : Items) (t : Source) (one other : Exit) (fits : FitsItems is) (none : ifs_in is ≡ 0)
    (few : items_in is ≤ 3) where
  abbrev tb : Block
  tb = record { items = is; tail = Test t (Leave one) (Leave other) }

  abbrev tall : List FlowNode
  tall = all_nodes tb

  abbrev behind : List ℕ
  behind = test_registers t one other

  abbrev tqs : List ℕ
  tqs = block_registers is behind

  abbrev tP : ℕ → Type 0
  tP q = member q tqs ≡ true

  -- a register behind those of the items
  in_tail : (q : ℕ) → member q behind ≡ true → tP q
  in_tail q m = member_back q (items_registers is) behind m

  in_exits : (q : ℕ) → member q (exit_registers one ++ exit_registers other) ≡ true → tP q
  in_exits q m = in_tail q (member_back q (registers t) (exit_registers one ++ exit_registers other) m)

  -- the items, whatever node gives the guards
  items_run : (c : ℕ) → IsRun tP tall c false None 0 0 at_start is (begun tb)
  items_run c =
      run tP tall c is false None 0 0 at_start no_bits (unguarded c) fits none
      (names_in tP is (λ q m. member_front q (items_registers is) behind m)) (λ q. inl (start_single tall 0 q))
      (no_bits_are (IsChoice tall 0 None)) (at_front tall 0 (begun tb).nodes (ended tb).nodes (at_all tall))

  -- where the end begins
  abbrev tl : ℕ
  tl = length (begun tb).nodes

  end_at : AreAt tall tl (ended tb).nodes
  end_at =
      subst (λ (k : ℕ). AreAt tall k (ended tb).nodes) (zero_on tl)
      (at_back tall 0 (begun tb).nodes (ended tb).nodes (at_all tall))

  tail_is : IsTested tP tall tl (ended tb)
  tail_is =
      let h = items_run 0 in
      test_end tP tall t one other tl 0 (begun tb).env (begun tb).bits
      (names_of tP t (λ q m. in_tail q
      (member_front q (registers t) (exit_registers one ++ exit_registers other) m)))
      (exit_named tP one (λ q m. in_exits q (member_front q (exit_registers one) (exit_registers other) m)))
      (exit_named tP other (λ q m. in_exits q (member_back q (exit_registers one) (exit_registers other) m)))
      (λ q. known_single tall 0 tl None ((begun tb).env q)
      (known_later tall 0 false (0 + tl) tl None ((begun tb).env q) (omega arith) (h.known q)))
      (bits_later tall (0 + tl) tl None (begun tb).bits (omega arith) h.bits) end_at

  pub test_guarded : IsGuarded tP tb
  test_guarded =
      let e = tail_is in
      let h = items_run e.chooser in
      let size = length-append (begun tb).nodes (ended tb).nodes in
      let n = h.number in
      let k = touched_few is in
      let u = exit_few one in
      let v = exit_few other in
      let l = length-append (touched is) (exit_touched one ++ exit_touched other) in
      let m = length-append (exit_touched one) (exit_touched other) in
      record {
        chooser = e.chooser;
        choice = choice_later tall (tl + length (ended tb).nodes) (length tall) None e.chooser (omega (arith, size))
            e.choice;
        most = 15 * items_in is + 42;
        held = held_append tP tall e.chooser 0 (begun tb).nodes (ended tb).nodes (15 * items_in is) 42 h.held
            (subst (λ (i : ℕ). IsHeld tP tall e.chooser i (ended tb).nodes 42) (sym (zero_on tl)) e.held);
        scant = λ q.
            known_scant tall e.chooser true (tl + length (ended tb).nodes) None ((ended tb).env q) (e.known q);
        number = omega (arith, n, few);
        exits = omega arith;
        cheap = omega (arith, few, k, u, v, l, m);
      }

-- ALL LIMITS

-- the zeros of what completing adds are no labels
zeros : KeepsZeros (by_address (λ l. 0))
zeros op.Null a = refl
zeros op.Mov a = refl
zeros op.And a = refl
zeros op.Sb a = refl
zeros _ a = absurd a

-- whatever its labels stand for, the block is one of these
module _ (b : Narrowed) (fits : FitsHyper b.block) (qs : (ℕ → ℕ) → List ℕ) (few : (f : ℕ → ℕ) → length (qs f) ≤ 32)
    (h : (f : ℕ → ℕ) → IsGuarded (λ q. member q (qs f) ≡ true) (block_with f b.block))
    (numbers : predication.HasRoom b.block) where
  cases_few : (u : MachineBlock) → fan_out.IsTargeted (complete (predicated (labelled b))) u
      → cases (nodes_of u) ≤ 256
  cases_few u is =
      let f = predicated (labelled b) in
      let a = addressed anywhere b in
      let taken = takes_addressed anywhere b.block short fits numbers in
      let same = ap complete (resolves_labels anywhere b short fits) in
      let v = resolved_block (by_address (λ l. 0)) u in
      let targeted : fan_out.IsTargeted (complete (predicated a)) v =
      subst (λ (g : FlowBlock). fan_out.IsTargeted g v)
      (sym (keeps_immediates (by_address (λ l. 0)) zeros f) ∙ same)
      (targeted_resolved (by_address (λ l. 0)) refl (complete f) u is) in
      let two = few_cases (addressed anywhere b) (qs (λ l. 0)) (few (λ l. 0)) (h (λ l. 0)) taken.fits v targeted in
      let nodes = ap cases (nodes_same (by_address (λ l. 0)) u) in
      omega (arith, two, nodes)

  pub guarded_fits : FitsMachine b
  guarded_fits = record {
    parts = within (labelled b) (qs (λ l. address_end + l)) (few (λ l. address_end + l)) (h (λ l. address_end + l));
    numbers = numbers;
    room = room (labelled b) (qs (λ l. address_end + l)) (few (λ l. address_end + l)) (h (λ l. address_end + l));
    cases = cases_few;
  }

-- items and a tail as a block, with what outlasts it
abbrev narrow : Lasting → Items → Tail → Narrowed
narrow o is t = record { block = record { items = is; tail = t }; lasting = o }

if_fits : (o : Lasting) (is : Items) (out : Exit) → FitsHyper (record { items = is; tail = Leave out })
    → ifs_in is ≡ 1 → items_in is ≤ 3 → FitsMachine (narrow o is (Leave out))
if_fits o is out fits one few =
    guarded_fits (narrow o is (Leave out)) fits
    (λ f. block_registers is (exit_registers (exit_with f out)))
    (λ f. let l = leaf_few (exit_with f out) in
    block_few is (exit_registers (exit_with f out)) few (omega (arith, one)) (omega (arith, l)))
    (λ f. if_guarded is (exit_with f out) fits.items one few)
    (numbered (narrow o is (Leave out)) (block_registers is (exit_registers out))
    (let l = leaf_few out in block_few is (exit_registers out) few (omega (arith, one)) (omega (arith, l)))
    (if_guarded is out fits.items one few))

test_fits : (o : Lasting) (is : Items) (t : Source) (one other : Exit)
    → FitsHyper (record { items = is; tail = Test t (Leave one) (Leave other) }) → ifs_in is ≡ 0
    → items_in is ≤ 3 → FitsMachine (narrow o is (Test t (Leave one) (Leave other)))
test_fits o is t one other fits none few =
    guarded_fits (narrow o is (Test t (Leave one) (Leave other))) fits
    (λ f. block_registers is (test_registers t (exit_with f one) (exit_with f other)))
    (λ f. block_few is (test_registers t (exit_with f one) (exit_with f other)) few (omega (arith, none))
    (test_few t (exit_with f one) (exit_with f other)))
    (λ f. test_guarded is t (exit_with f one) (exit_with f other) fits.items none few)
    (numbered (narrow o is (Test t (Leave one) (Leave other)))
    (block_registers is (test_registers t one other))
    (block_few is (test_registers t one other) few (omega (arith, none)) (test_few t one other))
    (test_guarded is t one other fits.items none few))

-- EVERY SMALL BLOCK

parts_fit : (o : Lasting) (is : Items) (t : Tail) → FitsHyper (record { items = is; tail = t })
    → IsSmall (record { items = is; tail = t }) → FitsMachine (narrow o is t)
parts_fit o is (Leave out) fits small = go (ifs_in is) refl
  where
    go : (k : ℕ) → ifs_in is ≡ k → FitsMachine (narrow o is (Leave out))
    go zero e =
        plain_fits (narrow o is (Leave out)) fits (inl (record { small = small; plain = e; jumps = tt }))
    go (suc zero) e = if_fits o is out fits e small.items
    go (suc (suc k)) e = absurd (let s = small.tests in omega (arith, s, e))
parts_fit o is (Test t (Leave one) (Leave other)) fits small =
    let s = small.tests in test_fits o is t one other fits (omega (arith, s)) small.items
parts_fit o is (Test t (Test u x y) z) fits small = absurd (let s = small.tests in omega (arith, s))
parts_fit o is (Test t (Leave one) (Test u x y)) fits small = absurd (let s = small.tests in omega (arith, s))

-- each small block fits the machine
pub small_fits : SmallBlocksFit
small_fits b small fits = parts_fit b.lasting b.block.items b.block.tail fits small

-- ONE SMALL IF

leg_plain : (is : Items) → IsShortLeg is → ifs_in is ≡ 0
leg_plain Done s = refl
leg_plain (Set r o x y Done) s = refl
leg_plain (Set r o x y (Set to p d e rest)) s = absurd s
leg_plain (Set r o x y (Load to p d rest)) s = absurd s
leg_plain (Set r o x y (Save p d e rest)) s = absurd s
leg_plain (Set r o x y (If t one other rest)) s = absurd s
leg_plain (Load to o a rest) s = absurd s
leg_plain (Save o a v rest) s = absurd s
leg_plain (If t one other rest) s = absurd s

leg_short : (is : Items) → IsShortLeg is → items_in is ≤ 1
leg_short Done s = omega arith
leg_short (Set r o x y Done) s = omega arith
leg_short (Set r o x y (Set to p d e rest)) s = absurd s
leg_short (Set r o x y (Load to p d rest)) s = absurd s
leg_short (Set r o x y (Save p d e rest)) s = absurd s
leg_short (Set r o x y (If t one other rest)) s = absurd s
leg_short (Load to o a rest) s = absurd s
leg_short (Save o a v rest) s = absurd s
leg_short (If t one other rest) s = absurd s

if_small : (t : Source) (one other : Items) (out : Exit) → IsShortLeg one → IsShortLeg other
    → IsSmall (if_block t one other out)
if_small t one other out x y =
    let a = leg_short one x in
    let b = leg_short other y in
    let d = leg_plain one x in
    let e = leg_plain other y in
    record { items = omega (arith, a, b); tests = omega (arith, d, e); exits = omega arith }

-- each block of one small if alone fits the machine
pub small_ifs : SmallIfsFit
small_ifs b fits h =
    subst (λ (x : Block). FitsMachine (record { block = x; lasting = b.lasting })) (sym h.is)
    (small_fits (record { block = if_block h.test h.one h.other h.out; lasting = b.lasting })
    (if_small h.test h.one h.other h.out h.first h.second) (subst FitsHyper h.is fits))
