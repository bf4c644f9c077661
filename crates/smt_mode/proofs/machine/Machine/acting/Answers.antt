use Rattle.std.proofs.Common.{◌+◌, ◌<◌, sym, ◌∙◌, arith, drop, get_or}
use Rattle.std.proofs.lemmas.List.{at_drop_all}
use Rattle.std.proofs.lemmas.List.Elements.{All-get_or}
use Rattle.smt_spec.specs.Cycles.{has_gone}
use Rattle.smt_mode.specs.Machines.{four_of}
use Rattle.smt_mode.proofs.Chosen.{next_of, take_size, take_within, those_end, those_more}
use Rattle.smt_mode.proofs.machine.Machine.acting.Goals as goal

pub take_if-requires : goal.take_if-requires
take_if-requires g c =
    let size = c.loop-i.invariant.size in
    let few = c.requires.few in
    omega (arith, size, few)

pub loop-i-preserved : goal.loop-i-preserved
loop-i-preserved g c =
    let m = c.args.self.now in
    let ps = c.args.going.now in
    let i = c.loop-i.i in
    let v = c.loop-i.invariant in
    let old = c.loop-i.programs.items in
    let new = c.take_if.new.programs.items in
    let b = c.acts.result in
    let p = get_or ps i 0 in
    record {
      value = those_more (λ w. has_gone w.over) (four_of m) b p old new (drop (i + 1) ps) (drop i ps) c.acts.ensures
          c.take_if.ensures (next_of ps i (omega arith)) ∙ v.value;
      size = let a = take_size b p old new c.take_if.ensures in let z = v.size in omega (arith, a, z);
      within = take_within b p old new c.take_if.ensures
          (All-get_or (λ q. q < 4) ps i 0 (omega arith) c.requires.within) v.within;
    }

pub returns-clause-value : goal.returns-clause-value
returns-clause-value g c =
    let m = c.args.self.now in
    let ps = c.args.going.now in
    sym (those_end (λ w. has_gone w.over) (four_of m) c.loop-i.programs.items (drop c.loop-i.i ps)
    (at_drop_all (λ qs. qs) ps c.loop-i.i (omega arith))) ∙ c.loop-i.invariant.value
