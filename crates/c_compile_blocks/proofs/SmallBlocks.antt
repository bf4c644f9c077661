-- Small blocks without if-items cost little.
use Rattle.std.proofs.Common.{◌≡◌, ℕ, ◌+◌, ◌*◌, ◌≤◌, true, List, [], ◌∷◌, ◌++◌}
use Rattle.std.proofs.Common.{length, arith, length-append}
use Rattle.ir_forms.specs.declared.hyper.Source.{Source}
use Rattle.ir_forms.specs.declared.hyper.Source.TheVariants.{Const, Reg}
use Rattle.ir_forms.specs.declared.hyper.Exit.{Exit}
use Rattle.ir_forms.specs.declared.hyper.Exit.TheVariants as exit
use Rattle.ir_forms.specs.inside.HyperCode.{Items, Done, Set, Load, Save, If, Tail, Leave, Test, Block}
use Rattle.ir_forms.specs.inside.HyperFits.{FitsItems, ifs_in, items_in}
use Rattle.hyper_build.specs.inside.Smallness.{TestsJump, IsSimple}
use Rattle.predication.specs.inside.Environments.{member}
use Rattle.predication.specs.inside.Ifs.{touched}
use Rattle.predication.specs.inside.Tails.{tail_with, block_with, tail_touched}
use Rattle.c_compile_blocks.specs.inside.Costs.{items_cost, tail_cost}
use Rattle.c_compile_blocks.proofs.Pieces.{Names}
use Rattle.c_compile_blocks.proofs.Items.{NamesIn}
use Rattle.c_compile_blocks.proofs.TailNodes.{NamesExit, NamesEnd}
use Rattle.c_compile_blocks.proofs.Members.{member_front, member_back, member_head}
use Rattle.c_compile_blocks.proofs.Cheap.{IsCheap, source_most, jumps_with, exits_with}

-- the registers of a source
abbrev pub registers : Source → List ℕ
registers (Const w) = []
registers (Reg r) = r ∷ []

-- the registers that the operands of items read
abbrev pub items_registers : Items → List ℕ
items_registers Done = []
items_registers (Set r op a b rest) = registers a ++ (registers b ++ items_registers rest)
items_registers (Load r op a rest) = registers a ++ items_registers rest
items_registers (Save op a v rest) = registers a ++ (registers v ++ items_registers rest)
items_registers (If t one other rest) =
    registers t ++ (items_registers one ++ (items_registers other ++ items_registers rest))

-- the registers that an exit reads
abbrev pub exit_registers : Exit → List ℕ
exit_registers (exit.Jump l) = []
exit_registers (exit.Call l back) = []
exit_registers exit.Return = 2 ∷ []
exit_registers (exit.System l) = []

abbrev pub end_registers : Tail → List ℕ
end_registers (Leave e) = exit_registers e
end_registers (Test t one other) = registers t

-- a source has at most one register
pub one_register : (a : Source) → length (registers a) ≤ 1
one_register (Const w) = omega arith
one_register (Reg r) = omega arith

-- items read at most two registers each, and an if one more
pub few_registers : (is : Items) → length (items_registers is) ≤ 2 * items_in is + ifs_in is
few_registers Done = omega arith
few_registers (Set r op a b rest) =
    let x = one_register a in
    let y = one_register b in
    let h = few_registers rest in
    let u = length-append (registers a) (registers b ++ items_registers rest) in
    let v = length-append (registers b) (items_registers rest) in
    omega (arith, x, y, h, u, v)
few_registers (Load r op a rest) =
    let x = one_register a in
    let h = few_registers rest in
    let u = length-append (registers a) (items_registers rest) in
    omega (arith, x, h, u)
few_registers (Save op a c rest) =
    let x = one_register a in
    let y = one_register c in
    let h = few_registers rest in
    let u = length-append (registers a) (registers c ++ items_registers rest) in
    let v = length-append (registers c) (items_registers rest) in
    omega (arith, x, y, h, u, v)
few_registers (If t one other rest) =
    let x = one_register t in
    let h = few_registers one in
    let i = few_registers other in
    let j = few_registers rest in
    let u = length-append (registers t) (items_registers one ++ (items_registers other ++ items_registers rest)) in
    let v = length-append (items_registers one) (items_registers other ++ items_registers rest) in
    let w = length-append (items_registers other) (items_registers rest) in
    omega (arith, x, h, i, j, u, v, w)

-- a tail reads at most one register
pub end_few : (t : Tail) → length (end_registers t) ≤ 1
end_few (Leave (exit.Jump l)) = omega arith
end_few (Leave (exit.Call l back)) = omega arith
end_few (Leave exit.Return) = omega arith
end_few (Leave (exit.System l)) = omega arith
end_few (Test t one other) = one_register t

module _ (P : ℕ → Type 0) where
  -- a source may be read where its registers may
  pub names_of : (a : Source) → ((q : ℕ) → member q (registers a) ≡ true → P q) → Names P a
  names_of (Const w) f = tt
  names_of (Reg r) f = f r (member_head r [])

  -- the operands of items may be read where the items' registers may
  pub names_in : (is : Items) → ((q : ℕ) → member q (items_registers is) ≡ true → P q) → NamesIn P is
  names_in Done f = tt
  names_in (Set r op a b rest) f = (
    names_of a (λ q m. f q (member_front q (registers a) (registers b ++ items_registers rest) m)),
    names_of b (λ q m. f q (member_back q (registers a) (registers b ++ items_registers rest)
        (member_front q (registers b) (items_registers rest) m))),
    names_in rest (λ q m. f q (member_back q (registers a) (registers b ++ items_registers rest)
        (member_back q (registers b) (items_registers rest) m))),
  )
  names_in (Load r op a rest) f = (
    names_of a (λ q m. f q (member_front q (registers a) (items_registers rest) m)),
    names_in rest (λ q m. f q (member_back q (registers a) (items_registers rest) m)),
  )
  names_in (Save op a c rest) f = (
    names_of a (λ q m. f q (member_front q (registers a) (registers c ++ items_registers rest) m)),
    names_of c (λ q m. f q (member_back q (registers a) (registers c ++ items_registers rest)
        (member_front q (registers c) (items_registers rest) m))),
    names_in rest (λ q m. f q (member_back q (registers a) (registers c ++ items_registers rest)
        (member_back q (registers c) (items_registers rest) m))),
  )
  names_in (If t one other rest) f =
      let legs = items_registers one ++ (items_registers other ++ items_registers rest) in
      let g : (q : ℕ) → member q legs ≡ true → P q = λ q m. f q (member_back q (registers t) legs m) in
      let h : (q : ℕ) → member q (items_registers other ++ items_registers rest) ≡ true → P q =
      λ q m. g q (member_back q (items_registers one) (items_registers other ++ items_registers rest) m) in (
        names_of t (λ q m. f q (member_front q (registers t) legs m)),
        names_in one (λ q m. g q
            (member_front q (items_registers one) (items_registers other ++ items_registers rest) m)),
        names_in other (λ q m. h q (member_front q (items_registers other) (items_registers rest) m)),
        names_in rest (λ q m. h q (member_back q (items_registers other) (items_registers rest) m)),
      )

  -- an exit may be read where its registers may
  pub exit_named : (e : Exit) → ((q : ℕ) → member q (exit_registers e) ≡ true → P q) → NamesExit P e
  exit_named (exit.Jump l) f = tt
  exit_named (exit.Call l back) f = tt
  exit_named exit.Return f = f 2 (member_head 2 [])
  exit_named (exit.System l) f = tt

  end_named : (t : Tail) → ((q : ℕ) → member q (end_registers t) ≡ true → P q) → NamesEnd P t
  end_named (Leave e) f = exit_named e f
  end_named (Test t one other) f = names_of t f

cost_most : (is : Items) → items_cost is ≤ 9 * items_in is
cost_most Done = omega arith
cost_most (Set r op a b rest) =
    let x = source_most a in let y = source_most b in let h = cost_most rest in omega (arith, x, y, h)
cost_most (Load r op a rest) = let x = source_most a in let h = cost_most rest in omega (arith, x, h)
cost_most (Save op a v rest) =
    let x = source_most a in let y = source_most v in let h = cost_most rest in omega (arith, x, y, h)
cost_most (If t one other rest) = omega arith

end_most : (t : Tail) → tail_cost t ≤ 9
end_most (Leave (exit.Jump l)) = omega arith
end_most (Leave (exit.Call l back)) = omega arith
end_most (Leave exit.Return) = omega arith
end_most (Leave (exit.System l)) = omega arith
end_most (Test t one other) = let x = source_most t in omega (arith, x)

touched_most : (is : Items) → ifs_in is ≡ 0 → length (touched is) ≤ items_in is
touched_most Done z = omega arith
touched_most (Set r op a b rest) z = let h = touched_most rest z in omega (arith, h)
touched_most (Load r op a rest) z = let h = touched_most rest z in omega (arith, h)
touched_most (Save op a v rest) z = let h = touched_most rest z in omega (arith, h)
touched_most (If t one other rest) z = absurd (omega (arith, z))

end_touched : (t : Tail) → TestsJump t → length (tail_touched t) ≤ 1
end_touched (Leave (exit.Jump l)) u = omega arith
end_touched (Leave (exit.Call l back)) u = omega arith
end_touched (Leave exit.Return) u = omega arith
end_touched (Leave (exit.System l)) u = omega arith
end_touched (Test t (Leave (exit.Jump a)) (Leave (exit.Jump b))) u = omega arith
end_touched (Test t (Leave (exit.Call l back)) other) u = absurd (u.0)
end_touched (Test t (Leave exit.Return) other) u = absurd (u.0)
end_touched (Test t (Leave (exit.System l)) other) u = absurd (u.0)
end_touched (Test t (Test s x y) other) u = absurd (u.0)
end_touched (Test t (Leave (exit.Jump a)) (Leave (exit.Call l back))) u = absurd (u.1)
end_touched (Test t (Leave (exit.Jump a)) (Leave exit.Return)) u = absurd (u.1)
end_touched (Test t (Leave (exit.Jump a)) (Leave (exit.System l))) u = absurd (u.1)
end_touched (Test t (Leave (exit.Jump a)) (Test s x y)) u = absurd (u.1)

-- a simple block costs little
pub simple_cheap : (f : ℕ → ℕ) (b : Block) → FitsItems b.items → IsSimple b → IsCheap (block_with f b)
simple_cheap f b fits s =
    let t = tail_with f b.tail in
    let small = s.small in
    let i = small.items in
    let x = small.exits in
    let qs = items_registers b.items ++ end_registers t in
    let u = length-append (items_registers b.items) (end_registers t) in
    let v = few_registers b.items in
    let w = end_few t in
    let rs = touched b.items ++ tail_touched t in
    let y = length-append (touched b.items) (tail_touched t) in
    let z = touched_most b.items s.plain in
    let e = end_touched t (jumps_with f b.tail s.jumps) in
    let c = cost_most b.items in
    let d = end_most t in
    let n = exits_with f b.tail in
    record {
      read = qs;
      plain = record {
        items = fits;
        plain = s.plain;
        jumps = jumps_with f b.tail s.jumps;
        named = names_in (λ q. member q qs ≡ true) b.items
            (λ q m. member_front q (items_registers b.items) (end_registers t) m);
        ends = end_named (λ q. member q qs ≡ true) t
            (λ q m. member_back q (items_registers b.items) (end_registers t) m);
      };
      reads = (let p = s.plain in omega (arith, u, v, w, i, p));
      written = rs;
      covers = λ r m. m;
      writes = omega (arith, y, z, e, i);
      cost = omega (arith, y, z, e, i, c, d);
      items = omega (arith, i);
      exits = omega (arith, x, n);
    }
