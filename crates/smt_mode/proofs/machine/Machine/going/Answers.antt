use Rattle.std.proofs.Common.{◌≡◌, ◌+◌, sym, ◌∙◌, arith, drop, ap}
use Rattle.smt_spec.specs.Cycles.{goes_on}
use Rattle.smt_spec.specs.Turns.{all_four}
use Rattle.smt_mode.specs.Machines.{four_of}
use Rattle.smt_mode.proofs.Chosen.{next_of_four, take_size, take_within, those_end, those_more}
use Rattle.smt_mode.proofs.machine.Machine.going.Goals as goal

pub take_if-requires : goal.take_if-requires
take_if-requires g c =
    let size = c.loop-program.invariant.size in
    let l = c.loop-program-test in
    omega (arith, size, l)

pub loop-program-preserved : goal.loop-program-preserved
loop-program-preserved g c =
    let m = c.args.self.now in
    let p = c.loop-program.program in
    let v = c.loop-program.invariant in
    let old = c.loop-program.programs.items in
    let new = c.take_if.new.programs.items in
    let b = c.goes.result in
    record {
      value = those_more (goes_on m.budget) (four_of m) b p old new (drop (p + 1) all_four) (drop p all_four)
          c.goes.ensures c.take_if.ensures (next_of_four p (omega arith)) ∙ v.value;
      size = let a = take_size b p old new c.take_if.ensures in let z = v.size in omega (arith, a, z);
      within = take_within b p old new c.take_if.ensures (omega arith) v.within;
    }

pub returns-clause-value : goal.returns-clause-value
returns-clause-value g c =
    let m = c.args.self.now in
    let all : c.loop-program.program ≡ 4 = omega arith in
    sym (those_end (goes_on m.budget) (four_of m) c.loop-program.programs.items
    (drop c.loop-program.program all_four) (ap (λ n. drop n all_four) all)) ∙ c.loop-program.invariant.value
