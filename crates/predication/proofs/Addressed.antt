-- A block in which addresses stand for labels does what the block does in their layout.
use Rattle.std.proofs.Common.{◌≡◌, ℕ, zero, suc, refl, ap, subst, ◌∙◌, arith}
use Rattle.trips_isa.specs.declared.block.Token.{Token}
use Rattle.trips_isa.specs.declared.block.Inst.{Inst}
use Rattle.ir_forms.specs.declared.hyper.Exit.{Exit}
use Rattle.ir_forms.specs.declared.hyper.Exit.TheVariants as exit
use Rattle.ir_forms.specs.inside.HyperCode.{Tail, Leave, Test}
use Rattle.ir_forms.specs.inside.HyperRuns.{Machine, Layout, labels_alone, value_of, pick, after_items, exit_of}
use Rattle.ir_forms.specs.inside.HyperRuns.{leaving}
use Rattle.ir_forms.specs.inside.HyperFits.{FitsExit, FitsTail, exits_in}
use Rattle.ir_forms.specs.inside.Agreement.{IsExit}
use Rattle.hyper_narrow.specs.inside.NarrowedRuns.{keeping}
use Rattle.predication.specs.inside.Tails.{exit_with, tail_with, addressed}
use Rattle.predication.specs.inside.Laws.{HasShortAddresses, ConvertsMeaning, TakesAddressed}
use Rattle.predication.proofs.Converted.{plain_meaning}

-- the one exit or the other, with its address
pick_with : (f : ℕ → ℕ) (w : ℕ) (a b : Exit)
    → pick w (exit_with f a) (exit_with f b) ≡ exit_with f (pick w a b)
pick_with f zero a b = refl
pick_with f (suc w) a b = refl

exit_is : (f : ℕ → ℕ) (t : Tail) (regs : ℕ → ℕ) → exit_of (tail_with f t) regs ≡ exit_with f (exit_of t regs)
exit_is f (Leave e) regs = refl
exit_is f (Test t one other) regs =
    ap (λ (a : Exit). pick (value_of regs t) a (exit_of (tail_with f other) regs)) (exit_is f one regs)
    ∙ ap (λ (b : Exit). pick (value_of regs t) (exit_with f (exit_of one regs)) b) (exit_is f other regs)
    ∙ pick_with f (value_of regs t) (exit_of one regs) (exit_of other regs)

-- leaving by an address is leaving by its label
leaves_so : (at : Layout) (e : Exit) (m : Machine)
    → leaving labels_alone (exit_with at.address e) m ≡ leaving at e m
leaves_so at (exit.Jump l) m = refl
leaves_so at (exit.Call l back) m = refl
leaves_so at exit.Return m = refl
leaves_so at (exit.System l) m = refl

same_exit : (f : ℕ → ℕ) (e : Exit) (m : Machine) (b : Inst × Token) → IsExit (exit_with f e) m b → IsExit e m b
same_exit f (exit.Jump l) m b x = x
same_exit f (exit.Call l back) m b x = x
same_exit f exit.Return m b x = x
same_exit f (exit.System l) m b x = x

-- WHAT IS TAKEN

exit_fits : (at : Layout) (e : Exit) → HasShortAddresses at → FitsExit e → FitsExit (exit_with at.address e)
exit_fits at (exit.Jump l) low x = x
exit_fits at (exit.Call l back) low x = (x.0, low back)
exit_fits at exit.Return low x = x
exit_fits at (exit.System l) low x = x

tail_fits : (at : Layout) (t : Tail) → HasShortAddresses at → FitsTail t → FitsTail (tail_with at.address t)
tail_fits at (Leave e) low x = exit_fits at e low x
tail_fits at (Test t one other) low x = (x.0, tail_fits at one low x.1, tail_fits at other low x.2)

exits_stay : (f : ℕ → ℕ) (t : Tail) → exits_in (tail_with f t) ≡ exits_in t
exits_stay f (Leave e) = refl
exits_stay f (Test t one other) = let a = exits_stay f one in let b = exits_stay f other in omega (arith, a, b)

-- a block that holds its labels is taken with addresses in their place, in every layout whose addresses are
-- short
pub takes_addressed : TakesAddressed
takes_addressed at b low fits room = record {
  fits = record { items = fits.items; tail = tail_fits at b.tail low fits.tail };
  room = record { numbers = room.numbers; exits = omega (arith, room.exits, exits_stay at.address b.tail) };
}

-- WHAT IT MEANS

-- the converted block leaves the registers, the memory and the exit of the narrowed block, and does its acts
pub converts_meaning : ConvertsMeaning
converts_meaning at d low fits room m h ws o =
    let b = d.block in
    let t = takes_addressed at b low fits room in
    let c = plain_meaning (addressed at d) t.fits t.room labels_alone (λ l. refl) m h ws o in
    let am = after_items b.items m in
    let e = exit_is at.address b.tail am.registers in
    let same : leaving labels_alone (exit_of (tail_with at.address b.tail) am.registers) am
    ≡ leaving at (exit_of b.tail am.registers) am =
    ap (λ (x : Exit). leaving labels_alone x am) e ∙ leaves_so at (exit_of b.tail am.registers) am in
    record {
      registers = λ r. c.registers r ∙ ap (λ (x : Machine). (keeping d.lasting m x).registers r) same;
      memory = c.memory ∙ ap (λ (x : Machine). x.memory) same;
      exit = record {
        branch = c.exit.branch;
        only = c.exit.only;
        is = same_exit at.address (exit_of b.tail am.registers) am c.exit.branch
            (subst (λ (x : Exit). IsExit x am c.exit.branch) e c.exit.is);
      };
      acts = c.acts;
    }
