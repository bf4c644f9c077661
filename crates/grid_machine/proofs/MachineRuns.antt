-- The machine's run after its last step, and where a number of steps is that of the budget.
use Rattle.std.proofs.Common.{◌≡◌, ◌≢◌, ℕ, zero, suc, ◌+◌, ◌-◌, ◌<◌, ◌≤◌, List, refl, sym, ap, ◌∙◌, arith}
use Rattle.trips_isa.specs.declared.block.Block.{Block}
use Rattle.trips_isa.specs.declared.run.Stepped.{Stepped}
use Rattle.trips_isa.specs.declared.run.Stepped.TheVariants.{Went, Ended, StackFull, Trap}
use Rattle.trips_isa.specs.Machine.{State, goes_on, runs}
use Rattle.commit_flush_spec.specs.Laws.{Reached}
use Rattle.grid_machine.proofs.TrapRooms.{HasRoom}

one_more : (blocks : List Block) (s : State) (n : ℕ)
    → runs blocks s (suc n) ≡ goes_on blocks (runs blocks s n).0 (runs blocks s n).1
unfolding runs
one_more blocks s n = refl

stops : (blocks : List Block) (t : State) (o : Stepped) → o ≢ Went → goes_on blocks t o ≡ (t, o)
stops blocks t Went ne = absurd (ne refl)
stops blocks t Ended ne = refl
stops blocks t StackFull ne = refl
stops blocks t (Trap c) ne = refl

-- a run that has ended stays as it is
stays : (blocks : List Block) (s t : State) (o : Stepped) → o ≢ Went → (n d : ℕ) → (t, o) ≡ runs blocks s n
    → (t, o) ≡ runs blocks s (n + d)
stays blocks s t o ne n zero e = let same : n ≡ n + 0 = omega arith in e ∙ ap (runs blocks s) same
stays blocks s t o ne n (suc d) e =
    let same : suc (n + d) ≡ n + suc d = omega arith in
    sym (stops blocks t o ne)
    ∙ ap (λ (p : State × Stepped). goes_on blocks p.0 p.1) (stays blocks s t o ne n d e)
    ∙ sym (one_more blocks s (n + d)) ∙ ap (runs blocks s) same

-- after as many steps as are left, or after the one that ended the run
stays_to : (blocks : List Block) (s t : State) (o : Stepped) → o ≢ Went → (n left : ℕ) → n ≤ left
    → (t, o) ≡ runs blocks s n → (t, o) ≡ runs blocks s left
stays_to blocks s t o ne n left le e =
    let same : n + (left - n) ≡ left = omega (arith, le) in
    stays blocks s t o ne n (left - n) e ∙ ap (runs blocks s) same

-- what was reached within the steps that are left is where the machine comes to: all of them were made,
-- or the run ended
pub came_to : (blocks : List Block) (s t : State) (o : Stepped) (n left : ℕ) → n ≤ left → (o ≡ Went → left ≤ n)
    → HasRoom o n left → Reached blocks s n t o → (t, o) ≡ runs blocks s left
came_to blocks s t Went n left le full room r =
    let most = full refl in
    let same : n ≡ left = omega (arith, le, most) in
    r ∙ ap (runs blocks s) same
came_to blocks s t Ended n left le full room r = stays_to blocks s t Ended (λ z. cc) n left le r
came_to blocks s t StackFull n left le full room r = stays_to blocks s t StackFull (λ z. cc) n left le r
came_to blocks s t (Trap c) n left le full room r =
    stays_to blocks s t (Trap c) (λ z. cc) (suc n) left (omega (arith, room)) r.1
